-- The codes that a call of merge tells: 0, 1 to 10, 21 to 26, 31 and 32, and no other. With 1 to 10 the table told is the first of old,
-- first and second that is no table, and code and place are those of its text, in document 01's words; with every other code the table told
-- is 0. k and j are the numbers of a table. Assumes nothing.
use mathlib.Core.Path.{◌≡◌, refl, sym, ap, ◌∙◌, subst}
use mathlib.Core.Logic.{◌⊎◌, inl, inr, ◌↔◌}
use mathlib.Core.List.{List, [], ◌∷◌, map}
use Prim.Native.Nat.{ℕ, ◌≤◌}
use native.Mathlib.Omega.{arith}
use lib.ListN.{length}
use Rattle.rules.specs.Line.{Row}
use Rattle.rules.specs.Tree.{Tree}
use Rattle.rules.specs.Facts.{facts_of}
use Rattle.rules.specs.Ledger.{entries_of}
use Rattle.rules.specs.Calls.{Outcome, merge_outcome, answer_of, told}
use Rattle.rules.specs.Promises.{Merges}
use Rattle.rules.specs.Demands.{Answers, Tables}
use Rattle.rules.specs.ReadableText.{IsTable}
use Rattle.rules.specs.UnreadableText.{Refused}
use Rattle.rules.specs.declared.answers.Merged.{Merged}
use Rattle.readback.proofs.UnreadableText.{unreadable_exactly, refused_range}
use Rattle.demands.proofs.Room.{Ends, large, table_long, ledger_long, fits, Clashed, ends, answer_ends}
use Rattle.demands.proofs.OnTheCall.{tables_are, unread_old, unread_first, unread_second}
use Rattle.demands.proofs.OnCheck.{every_text, never_both}

-- ---- the first of the three texts that is no table

-- "Merge reads old, first, second, and stops at the first refused table": at number k, with this code on this line
pub data StopsAt (old first second : List ℕ) (code line : ℕ) : ℕ → Type 0 where
  at_old : Refused old code line → StopsAt old first second code line 1
  at_first : (o : List Row) → IsTable old o → Refused first code line → StopsAt old first second code line 2
  at_second : (o f : List Row) → IsTable old o → IsTable first f → Refused second code line → StopsAt old first second code line 3

-- all three are tables
pub record AllTables (old first second : List ℕ) : Type 0 where
  pub o : List Row
  pub f : List Row
  pub s : List Row
  pub old_is : IsTable old o
  pub first_is : IsTable first f
  pub second_is : IsTable second s

module _ (old first second : List ℕ) where
  -- any three texts are tables, or one is the first that is not
  pub tables-or_stop : AllTables old first second ⊎ ((code : ℕ) × (line : ℕ) × (k : ℕ) × StopsAt old first second code line k)
  tables-or_stop = go (every_text old) (every_text first) (every_text second)
    where
      go : ((t : List Row) × IsTable old t) ⊎ ((code : ℕ) × (line : ℕ) × Refused old code line)
          → ((t : List Row) × IsTable first t) ⊎ ((code : ℕ) × (line : ℕ) × Refused first code line)
          → ((t : List Row) × IsTable second t) ⊎ ((code : ℕ) × (line : ℕ) × Refused second code line)
          → AllTables old first second ⊎ ((code : ℕ) × (line : ℕ) × (k : ℕ) × StopsAt old first second code line k)
      go (inr u) b c = inr (u.0, u.1, 1, at_old u.2)
      go (inl p) (inr u) c = inr (u.0, u.1, 2, at_first p.0 p.1 u.2)
      go (inl p) (inl q) (inr u) = inr (u.0, u.1, 3, at_second p.0 q.0 p.1 q.1 u.2)
      go (inl p) (inl q) (inl r) =
          inl (record { o = p.0; f = q.0; s = r.0; old_is = p.1; first_is = q.1; second_is = r.1 })

  stop_range : {code line k : ℕ} → StopsAt old first second code line k → (1 ≤ code) × (code ≤ 10)
  stop_range {code = code} {line = line} (at_old u) = refused_range old code line ((unreadable_exactly old code line).1 u)
  stop_range {code = code} {line = line} (at_first o p u) = refused_range first code line ((unreadable_exactly first code line).1 u)
  stop_range {code = code} {line = line} (at_second o f p q u) = refused_range second code line ((unreadable_exactly second code line).1 u)

  -- and it is one of the three alone
  pub one_stop : (code₁ line₁ k code₂ line₂ j : ℕ) → StopsAt old first second code₁ line₁ k → StopsAt old first second code₂ line₂ j → k ≡ j
  one_stop code₁ line₁ k code₂ line₂ j (at_old u) (at_old v) = refl
  one_stop code₁ line₁ k code₂ line₂ j (at_old u) (at_first o p v) = absurd (never_both old o code₁ line₁ p u)
  one_stop code₁ line₁ k code₂ line₂ j (at_old u) (at_second o f p q v) = absurd (never_both old o code₁ line₁ p u)
  one_stop code₁ line₁ k code₂ line₂ j (at_first o p u) (at_old v) = absurd (never_both old o code₂ line₂ p v)
  one_stop code₁ line₁ k code₂ line₂ j (at_first o p u) (at_first x y v) = refl
  one_stop code₁ line₁ k code₂ line₂ j (at_first o p u) (at_second x f y q v) = absurd (never_both first f code₁ line₁ q u)
  one_stop code₁ line₁ k code₂ line₂ j (at_second o f p q u) (at_old v) = absurd (never_both old o code₂ line₂ p v)
  one_stop code₁ line₁ k code₂ line₂ j (at_second o f p q u) (at_first x y v) = absurd (never_both first f code₂ line₂ q v)
  one_stop code₁ line₁ k code₂ line₂ j (at_second o f p q u) (at_second x g y z v) = refl

-- ---- document 01's codes

pub data CodeTold (code : ℕ) : Type 0 where
  accepted : code ≡ 0 → CodeTold code
  -- "an unreadable table"
  unreadable_table : 1 ≤ code → code ≤ 10 → CodeTold code
  clash : 21 ≤ code → code ≤ 25 → CodeTold code
  merged_too_large : code ≡ 26 → CodeTold code
  table_too_short : code ≡ 31 → CodeTold code
  ledger_too_short : code ≡ 32 → CodeTold code

-- a code that is told of three tables
record OfTables (answer : Merged) : Type 0 where
  code : CodeTold answer.code
  other : 1 ≤ answer.code → answer.code ≤ 10 → ⊥
  table : answer.table ≡ 0

-- ---- on the call

module _ (old first second table ledger : List ℕ) (answer : Merged) (table' ledger' : List ℕ)
    (call : Merges old first second table ledger answer table' ledger') where
  abbrev branches : List (List ℕ)
  branches = first ∷ second ∷ []

  abbrev end : Outcome
  end = merge_outcome old first second table ledger

  -- ---- three tables

  of_tables : (x : Outcome) → end ≡ x → OfTables (answer_of x) → OfTables answer
  of_tables x e r = subst OfTables (sym (call.answered ∙ ap answer_of e)) r

  module _ (o : List Row) (bs : List (List Row)) (read : Tables old branches o bs) where
    tree-told : (f : Tree) → Ends f (entries_of o bs f) (length table) (length ledger) end → OfTables answer
    tree-told f (large h e) = of_tables _ e (record { code = merged_too_large refl; other = λ p q. omega arith; table = refl })
    tree-told f (table_long p q r e) = of_tables _ e (record { code = table_too_short refl; other = λ p q. omega arith; table = refl })
    tree-told f (ledger_long p q r s e) = of_tables _ e (record { code = ledger_too_short refl; other = λ p q. omega arith; table = refl })
    tree-told f (fits p q r s e) = of_tables _ e (record { code = accepted refl; other = λ p q. omega arith; table = refl })

    tables-told : OfTables answer
    tables-told = go (ends old branches o bs read (length table) (length ledger))
      where
        go : Clashed o bs end ⊎ ((f : Tree) × Answers (facts_of o) (map facts_of bs) f) → OfTables answer
        go (inl c) =
            of_tables _ c.told (record { code = clash c.low c.high; other = λ p q. omega (arith, c.low); table = refl })
        go (inr w) = tree-told w.0 (answer_ends old branches o bs read (length table) (length ledger) w.0 w.1)

  all_told : AllTables old first second → OfTables answer
  all_told w =
      tables-told w.o (w.f ∷ w.s ∷ []) (tables_are old first second w.o w.f w.s w.old_is w.first_is w.second_is)

  -- of three tables no table is told
  pub table_zero : (o f s : List Row) → IsTable old o → IsTable first f → IsTable second s → answer.table ≡ 0
  table_zero o f s p q r = (all_told (record { o = o; f = f; s = s; old_is = p; first_is = q; second_is = r })).table

  -- ---- a text that is no table

  -- the merge stops at the first text that is no table: its code, its number, its line, and no lengths
  pub stop_told : (code line k : ℕ) → StopsAt old first second code line k → answer ≡ told code k line 0 0
  stop_told code line k (at_old u) = unread_old old first second table ledger answer table' ledger' call code line u
  stop_told code line k (at_first o p u) = unread_first old first second table ledger answer table' ledger' call o code line p u
  stop_told code line k (at_second o f p q u) =
      unread_second old first second table ledger answer table' ledger' call o f code line p q u

  -- and codes 1 to 10 are told of nothing else
  pub unread_told : 1 ≤ answer.code → answer.code ≤ 10
      → StopsAt old first second answer.code answer.place answer.table
      × (answer ≡ told answer.code answer.table answer.place 0 0)
  unread_told low high = go (tables-or_stop old first second)
    where
      go : AllTables old first second ⊎ ((code : ℕ) × (line : ℕ) × (k : ℕ) × StopsAt old first second code line k)
          → StopsAt old first second answer.code answer.place answer.table
          × (answer ≡ told answer.code answer.table answer.place 0 0)
      go (inl w) = absurd ((all_told w).other low high)
      go (inr u) =
          let is : answer ≡ told u.0 u.2 u.1 0 0 = stop_told u.0 u.1 u.2 u.3 in (
            subst (λ (m : Merged). StopsAt old first second m.code m.place m.table) (sym is) u.3,
            is ∙ λ i. told (sym is i).code (sym is i).table (sym is i).place 0 0,
          )

  -- so the merge is refused so exactly if it stops there
  pub unread_exactly : (code line k : ℕ) → 1 ≤ code → code ≤ 10
      → (answer ≡ told code k line 0 0) ↔ StopsAt old first second code line k
  unread_exactly code line k low high = (to, stop_told code line k)
    where
      to : answer ≡ told code k line 0 0 → StopsAt old first second code line k
      to e =
          let c : answer.code ≡ code = ap (λ (m : Merged). m.code) e in
          subst (λ (m : Merged). StopsAt old first second m.code m.place m.table) e
          (unread_told (omega (arith, c)) (omega (arith, c))).0

  -- ---- whatever the texts

  pub codes-told : CodeTold answer.code
  codes-told = go (tables-or_stop old first second)
    where
      go : AllTables old first second ⊎ ((code : ℕ) × (line : ℕ) × (k : ℕ) × StopsAt old first second code line k) → CodeTold answer.code
      go (inl w) = (all_told w).code
      go (inr u) =
          let c : answer.code ≡ u.0 = ap (λ (m : Merged). m.code) (stop_told u.0 u.1 u.2 u.3) in
          let r = stop_range old first second u.3 in
          unreadable_table (omega (arith, c, r.0)) (omega (arith, c, r.1))

  -- a table is told with codes 1 to 10 alone
  pub table_else : (1 ≤ answer.code → answer.code ≤ 10 → ⊥) → answer.table ≡ 0
  table_else other = go (tables-or_stop old first second)
    where
      go : AllTables old first second ⊎ ((code : ℕ) × (line : ℕ) × (k : ℕ) × StopsAt old first second code line k) → answer.table ≡ 0
      go (inl w) = (all_told w).table
      go (inr u) =
          let c : answer.code ≡ u.0 = ap (λ (m : Merged). m.code) (stop_told u.0 u.1 u.2 u.3) in
          let r = stop_range old first second u.3 in
          absurd (other (omega (arith, c, r.0)) (omega (arith, c, r.1)))
