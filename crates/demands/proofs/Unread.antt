-- The texts of a merge have readable tables, or it ends with the first refused one, whose code is one of 1 to 10. a and b are the room of
-- the two buffers. Assumes nothing.
use mathlib.Core.Path.{◌≡◌, refl, ap₂}
use mathlib.Core.Logic.{◌⊎◌, inl, inr}
use mathlib.Core.List.{List, [], ◌∷◌, map}
use Prim.Native.Nat.{ℕ, suc, ◌+◌, ◌≤◌}
use native.Mathlib.Omega.{arith}
use lib.ListN.{length}
use Rattle.rules.specs.Line.{Row}
use Rattle.rules.specs.Table.{Verdict, readable, unreadable, verdict}
use Rattle.rules.specs.Calls.{Outcome, not_read, once_read, once_all_read, merge_tables, merge_texts}
use Rattle.rules.specs.Demands.{Tables}
use Rattle.readback.proofs.UnreadableText.{refused_range}

-- a table was refused, the last being number `most`, and the merge ended with it
pub record Unread (most : ℕ) (end : Outcome) : Type 0 where
  pub table : ℕ
  pub text : List ℕ
  pub code : ℕ
  pub line : ℕ
  pub one : table ≤ most
  pub refused : verdict text ≡ unreadable code line
  pub low : 1 ≤ code
  pub high : code ≤ 10
  pub told : end ≡ not_read table code line

unread : (most k : ℕ) (text : List ℕ) (code line : ℕ) (end : Outcome) → k ≤ most → verdict text ≡ unreadable code line
    → end ≡ not_read k code line → Unread most end
unread most k text code line end h q e =
    let r = refused_range text code line q in
    record { table = k; text = text; code = code; line = line; one = h; refused = q; low = r.0; high = r.1; told = e }

-- the texts of the branches, the first of them being number k
all-or-not : (most k : ℕ) (texts : List (List ℕ)) → k + length texts ≤ suc most → (next : List (List Row) → Outcome)
    → ((ts : List (List Row)) × (map verdict texts ≡ map readable ts)) ⊎ Unread most (once_all_read k texts next)
all-or-not most k [] h next = inl ([], refl)
all-or-not most k (text ∷ texts) h next =
    go (verdict text) refl (λ t. all-or-not most (suc k) texts (omega arith) (λ ts. next (t ∷ ts)))
  where
    rest : List Row → Outcome
    rest t = once_all_read (suc k) texts (λ ts. next (t ∷ ts))

    more : (t : List Row) → verdict text ≡ readable t
        → ((ts : List (List Row)) × (map verdict texts ≡ map readable ts)) ⊎ Unread most (rest t)
        → ((ts : List (List Row)) × (map verdict (text ∷ texts) ≡ map readable ts)) ⊎ Unread most (rest t)
    more t q (inl w) = inl (t ∷ w.0, ap₂ (λ (v : Verdict) (vs : List Verdict). v ∷ vs) q w.1)
    more t q (inr u) = inr u

    go : (v : Verdict) → verdict text ≡ v
        → ((t : List Row) → ((ts : List (List Row)) × (map verdict texts ≡ map readable ts)) ⊎ Unread most (rest t))
        → ((ts : List (List Row)) × (map verdict (text ∷ texts) ≡ map readable ts)) ⊎ Unread most (once_read k v rest)
    go (readable t) q ih = more t q (ih t)
    go (unreadable code line) q ih = inr (unread most k text code line (not_read k code line) (omega arith) q refl)

-- old is number 1, the branches come after it
pub read_or-not : (old : List ℕ) (branches : List (List ℕ)) (a b : ℕ)
    → ((o : List Row) × (bs : List (List Row)) × Tables old branches o bs) ⊎ Unread (suc (length branches)) (merge_texts old branches a b)
unfolding merge_texts
read_or-not old branches a b = go (verdict old) refl
  where
    most : ℕ
    most = suc (length branches)

    rest : List Row → Outcome
    rest o = once_all_read 2 branches (λ bs. merge_tables o bs a b)

    more : (o : List Row) → verdict old ≡ readable o
        → ((bs : List (List Row)) × (map verdict branches ≡ map readable bs)) ⊎ Unread most (rest o)
        → ((o : List Row) × (bs : List (List Row)) × Tables old branches o bs) ⊎ Unread most (rest o)
    more o q (inl w) = inl (o, w.0, record { old_read = q; branches_read = w.1 })
    more o q (inr u) = inr u

    go : (v : Verdict) → verdict old ≡ v
        → ((o : List Row) × (bs : List (List Row)) × Tables old branches o bs) ⊎ Unread most (once_read 1 v rest)
    go (readable o) q = more o q (all-or-not most 2 branches (omega arith) (λ bs. merge_tables o bs a b))
    go (unreadable code line) q = inr (unread most 1 old code line (not_read 1 code line) (omega arith) q refl)
