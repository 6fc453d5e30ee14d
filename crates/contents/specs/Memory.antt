-- What the tables in memory tell of contents, and where the kept content of a record lies. text is a table's text; texts, lines and
-- facts are those of all tables. n is a record, l a line, k a table. Assumes nothing.
use Rattle.std.specs.Prelude.{cond, List, [], ℕ, ◌+◌, ◌*◌, leb, length, get_or, take, drop}
use Rattle.rules.specs.Line.{Content}
use Rattle.facts.specs.Memory.{PLACE, LENGTH, SPAN, TEXTS, start_of, line_at, field_on}
use Rattle.facts.specs.Asked.{has_in}
use Rattle.edits.specs.Memory.{field_in}
use Rattle.contents.specs.Contents.{Told, content_source, content_origin}

-- so many bytes from a place on; none, if they do not all lie in the text
abbrev pub cut : List ℕ → ℕ → ℕ → Content
cut text start long = cond (leb (start + long) (length text)) (take long (drop start text)) []

-- what the record on a line of table k holds
abbrev pub content_on : List (List ℕ) → List (List ℕ) → ℕ → ℕ → Content
content_on texts facts k l =
    cut (get_or texts k []) (field_on (get_or facts k []) l PLACE) (field_on (get_or facts k []) l LENGTH)

abbrev pub tell : List (List ℕ) → List (List ℕ) → List (List ℕ) → ℕ → Told
tell texts lines facts k =
    record {
      has = has_in (get_or lines k []);
      content = λ n. content_on texts facts k (line_at (get_or lines k []) n);
    }

module _ (texts lines facts : List (List ℕ)) where
  abbrev pub source_of : ℕ → ℕ
  source_of n = content_source (tell texts lines facts) n

  -- the kept content's place, as the merged table tells it: origin, text and start
  abbrev pub kept_place : ℕ → ℕ
  kept_place n =
      (content_origin (tell texts lines facts) n * TEXTS + source_of n) * SPAN
      + start_of (field_in lines facts (source_of n) n PLACE)

  abbrev pub kept_length : ℕ → ℕ
  kept_length n = field_in lines facts (source_of n) n LENGTH
