-- A line of numbers parted by tabs: its fields are the digits of the numbers, no LF stands in it, and the digits read back as the numbers.
-- The same for numbers behind a word. n and k are numbers, ns are those behind the first, s is a field, `rest` is what stands behind the
-- line. Assumes nothing.
use mathlib.Core.Path.{◌≡◌, refl, sym, ap, ap₂, ◌∙◌}
use mathlib.Core.List.Memᴰ
use mathlib.Core.List.Memᴰ.{head as here}
use mathlib.Core.List.Memᴰ.{tail as there}
use mathlib.Core.List.{List, [], ◌∷◌, ◌++◌, map, append_assoc, append-nil}
use Prim.Native.Nat.{ℕ, ◌<◌}
use lib.Dec.{T}
use Rattle.rules.specs.Lists.{◌∈◌, every, flat}
use Rattle.rules.specs.Text.{TAB, LF, allowed, digit, fields, value}
use Rattle.rules.specs.Written.{digits}
use Rattle.readback.proofs.Splitting.{every_in, every_append}
use Rattle.readback.proofs.Decimals.{digits-every, digits_value}
use Rattle.readback.proofs.Contents.{tabbed, fields_at, fields_parted}
use Rattle.readback.proofs.ReadBack.{digits-allowed}

pub numbers_back : (ns : List ℕ) → ((k : ℕ) → k ∈ ns → k < 1000000) → map value (map digits ns) ≡ ns
numbers_back [] h = refl
numbers_back (n ∷ ns) h =
    ap₂ (λ (x : ℕ) (xs : List ℕ). x ∷ xs) (digits_value n (h n (here refl))) (numbers_back ns (λ k m. h k (there m)))

others-allowed : (ns : List ℕ) → T (every allowed (flat tabbed (map digits ns)))
others-allowed [] = tt
others-allowed (n ∷ ns) = every_append allowed (digits n) (flat tabbed (map digits ns)) (digits-allowed n) (others-allowed ns)

no_tab : (ns : List ℕ) (s : List ℕ) → s ∈ map digits ns → TAB ∈ s → ⊥
no_tab ns s m i =
    let w = Memᴰ.of_map digits ns m in
    let d : T (every digit s) = rw (sym w.2) (digits-every w.0) in
    every_in digit s d i

-- ---- numbers alone

module _ (n : ℕ) (ns : List ℕ) where
  abbrev pub number_line : List ℕ
  number_line = digits n ++ flat tabbed (map digits ns)

  line-allowed : T (every allowed number_line)
  line-allowed = every_append allowed (digits n) (flat tabbed (map digits ns)) (digits-allowed n) (others-allowed ns)

  pub line-fields : fields number_line ≡ map digits (n ∷ ns)
  line-fields = fields_parted (digits n) (map digits ns) (no_tab (n ∷ ns))

  pub one_line : LF ∈ number_line → ⊥
  one_line m = every_in allowed number_line line-allowed m

-- what stands behind the numbers stands behind the last of them
abbrev pub followed : List ℕ → ℕ → List ℕ → List ℕ
followed rest n [] = digits n ++ rest
followed rest n (k ∷ ns) = digits n ++ (TAB ∷ followed rest k ns)

pub line-followed : (rest : List ℕ) (n : ℕ) (ns : List ℕ) → followed rest n ns ≡ number_line n ns ++ rest
line-followed rest n [] = ap (λ (s : List ℕ). s ++ rest) (sym (append-nil (digits n)))
line-followed rest n (k ∷ ns) =
    ap (λ (s : List ℕ). digits n ++ (TAB ∷ s)) (line-followed rest k ns) ∙ sym (append_assoc (digits n) (TAB ∷ number_line k ns) rest)

-- ---- numbers behind a word

module _ (word : List ℕ) (n : ℕ) (ns : List ℕ) where
  abbrev pub word_line : List ℕ
  word_line = word ++ (TAB ∷ number_line n ns)

  pub word_fields : (TAB ∈ word → ⊥) → fields word_line ≡ word ∷ map digits (n ∷ ns)
  word_fields f = fields_at word (number_line n ns) f ∙ ap (λ (r : List (List ℕ)). word ∷ r) (line-fields n ns)

  pub word_one_line : T (every allowed word) → LF ∈ word_line → ⊥
  word_one_line t m = every_in allowed word_line (every_append allowed word (TAB ∷ number_line n ns) t (line-allowed n ns)) m
