-- The parts of a line whose bytes are allowed and that has two tabs. s is what is left of the text, l the line without its LF, `parts`
-- what was found of its parts. Assumes nothing.
use mathlib.Core.Path.{◌≡◌, refl, sym, ap, subst}
use mathlib.Core.Bool.{Bool, true, false, cond, not}
use mathlib.Core.List.{List, ◌∷◌, ◌++◌}
use Prim.Native.Nat.{ℕ, ◌+◌, ◌-◌, ◌≤◌}
use native.Mathlib.Omega.{arith}
use lib.Dec.{ltb}
use lib.ListN.{length, drop, length-append}
use borrow.Author.Tests.{ltb-false}
use Rattle.std.specs.Prelude.{Ok, Err}
use Rattle.rules.specs.Lists.{every}
use Rattle.rules.specs.Line.{number_part, parent_part, content_part}
use Rattle.rules.specs.Text.{TAB, LF, allowed, count, before, after, fields, filled}
use Rattle.rules.specs.declared.kinds.Fault.TheVariants.{ByteNotAllowed, FewTabs}
use Rattle.readback.proofs.Splitting.{rejoin, count-after, before-left}
use Rattle.text.specs.Reads.{number_in}
use Rattle.line.specs.Parts.{good_parts, parts_of}
use Rattle.line.specs.declared.Parts.{Parts}

-- what they say
pub record Cut (s : List ℕ) (parts : Parts) : Type 0 where
  pub bytes : every allowed (before LF s) ≡ true
  pub tabs : ltb (count TAB (before LF s)) 2 ≡ false
  pub number : parts.number ≡ number_in (number_part (before LF s))
  pub parent : parts.parent ≡ number_in (parent_part (before LF s))
  pub low : parts.start ≤ parts.end
  pub high : parts.end ≤ length s
  pub long : parts.end ≡ length (before LF s)
  pub content : parts.end - parts.start ≡ length (content_part (before LF s))
  pub filled : parts.filled ≡ every filled (fields (content_part (before LF s)))

-- ---- the line

-- a line with two tabs is its parts, joined by them
module _ (l : List ℕ) (h : 2 ≤ count TAB l) where
  behind_number : l ≡ number_part l ++ (TAB ∷ after TAB l)
  behind_number = rejoin TAB l (omega (arith, h))

  behind_parent : after TAB l ≡ parent_part l ++ (TAB ∷ content_part l)
  behind_parent = rejoin TAB (after TAB l) (omega (arith, h, count-after TAB l))

  line-long : length l ≡ length (number_part l) + 1 + length (parent_part l) + 1 + length (content_part l)
  line-long =
      omega (
        arith,
        ap length behind_number,
        ap length behind_parent,
        length-append (number_part l) (TAB ∷ after TAB l),
        length-append (parent_part l) (TAB ∷ content_part l),
      )

-- ---- the text that starts with it

good-cut : (s : List ℕ) → every allowed (before LF s) ≡ true → ltb (count TAB (before LF s)) 2 ≡ false → Cut s (good_parts (before LF s))
good-cut s e f =
    let wide = line-long (before LF s) (ltb-false (count TAB (before LF s)) 2 f) in
    record {
      bytes = e;
      tabs = f;
      number = refl;
      parent = refl;
      low = omega (arith, wide);
      high = omega (arith, ap length (before-left LF s), length-append (before LF s) (drop (length (before LF s)) s));
      long = refl;
      content = omega (arith, wide);
      filled = refl;
    }

pub cut_is : (s : List ℕ) (parts : Parts) → Ok parts ≡ parts_of (before LF s) → Cut s parts
cut_is s parts e = go (every allowed (before LF s)) (ltb (count TAB (before LF s)) 2) refl refl e
  where
    go : (a b : Bool) → every allowed (before LF s) ≡ a → ltb (count TAB (before LF s)) 2 ≡ b
        → Ok parts ≡ cond (not a) (Err ByteNotAllowed) (cond b (Err FewTabs) (Ok (good_parts (before LF s)))) → Cut s parts
    go true false p q f = let same : parts ≡ good_parts (before LF s) = cc in subst (Cut s) (sym same) (good-cut s p q)
    go true true p q f = cc
    go false b p q f = cc
