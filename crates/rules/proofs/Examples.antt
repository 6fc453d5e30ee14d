-- Texts in, the exact bytes out: document 01's demonstration, and the same edits by both desks, which are no clash and have origin 3.
-- Assumes nothing.
use mathlib.Core.Path.{◌≡◌, refl}
use mathlib.Core.List.{List, [], ◌∷◌, map}
use Prim.Native.Nat.{ℕ}
use Prim.Native.String.{String, ◌++◌}
use Rattle.rules.specs.Quoted.{bytes}
use Rattle.rules.specs.Facts.{facts_of}
use Rattle.rules.specs.Merge.{merge, content_clashes, parent_clashes, neighbour_clashes, broken_lists, lost_edits, merged_tree}
use Rattle.rules.specs.Merge.{kept_positions, kept_contents, position_edits, content_edits, walk, follower, content_in}
use Rattle.rules.specs.Written.{digits}
use Rattle.rules.specs.Calls.{merge_texts, merge_tables, shown}

pub record Example : Type 0 where
  pub old : String
  pub first : String
  pub second : String
  pub output : String

abbrev demonstration : Example
demonstration =
    record {
      old = airport ++ (hold ++ "3\t1\tnote\ttext=old\n");
      first = airport ++ (hold ++ "3\t1\tnote\ttext=new\n");
      second = airport ++ (hold ++ ("4\t1\thold\tfix=BELIN\tturn=R\n" ++ "3\t1\tnote\ttext=old\n"));
      output =
          "0\t0\t0\t90\t39\n"
          ++ (airport ++ (hold ++ ("4\t1\thold\tfix=BELIN\tturn=R\n" ++ ("3\t1\tnote\ttext=new\n"
          ++ ("1\t0\t15\n" ++ ("2\t0\t21\n" ++ ("4\t2\t21\n" ++ ("3\t1\t13\n" ++ "total\t4\t70\n"))))))));
    }
  where
    airport : String
    airport = "1\t0\tairport\tid=XQAA\n"

    hold : String
    hold = "2\t1\thold\tfix=TARNO\tturn=L\n"

abbrev same_edits : Example
same_edits =
    record {
      old = "1\t0\tairport\n2\t1\thold\tturn=L\n";
      first = "1\t0\tairport\n2\t1\thold\tturn=R\n3\t1\tnote\n";
      second = "1\t0\tairport\n2\t1\thold\tturn=R\n3\t1\tnote\n";
      output = "0\t0\t0\t37\t30\n1\t0\tairport\n2\t1\thold\tturn=R\n3\t1\tnote\n1\t0\t7\n2\t3\t11\n3\t3\t4\ntotal\t3\t22\n";
    }

abbrev pub examples : List Example
examples = demonstration ∷ same_edits ∷ []

-- what the demonstration's program prints, with its buffers of 32,768 and 8,192 bytes
abbrev pub printed : Example → List ℕ
printed e = shown (merge_texts (bytes e.old) (bytes e.first ∷ bytes e.second ∷ []) 32768 8192)

pub exact : map printed examples ≡ map (λ (e : Example). bytes e.output) examples
unfolding merge_texts merge_tables merge content_clashes parent_clashes neighbour_clashes broken_lists lost_edits merged_tree
    kept_positions kept_contents position_edits content_edits walk follower content_in facts_of digits
exact = refl
