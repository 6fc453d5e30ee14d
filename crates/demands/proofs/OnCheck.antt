-- The call of check: `check` and its export (brooksaddle and brooksaddle_c) ask nothing, and ensure `Checks` of the text handed in and the
-- four numbers answered; what follows holds of every such call. Accepted: the text is a table in document 01's words, and its records are
-- counted and its tree measured. Refused: the code and the line that these words give, no count and no depth. t are a table's rows. Assumes
-- nothing.
use mathlib.Core.Path.{◌≡◌, refl, sym, ap, ◌∙◌, subst}
use mathlib.Core.Logic.{◌⊎◌, inl, inr, ◌↔◌}
use mathlib.Core.List.{List, []}
use Prim.Native.Nat.{ℕ, ◌≤◌}
use native.Mathlib.Omega.{arith}
use lib.ListN.{length}
use Rattle.rules.specs.Line.{Row}
use Rattle.rules.specs.Table.{Verdict, readable, unreadable, verdict}
use Rattle.rules.specs.Tree.{tree_of}
use Rattle.rules.specs.Calls.{checked, check_answer}
use Rattle.rules.specs.Promises.{Checks}
use Rattle.rules.specs.ReadableText.{IsTable}
use Rattle.rules.specs.UnreadableText.{Refused}
use Rattle.rules.specs.declared.answers.Checked.{Checked}
use Rattle.trees.proofs.Deepest.{height, deepest}
use Rattle.readback.proofs.Following.{good_readable}
use Rattle.readback.proofs.Accepting.{good, refused_code}
use Rattle.readback.proofs.ReadableText.{readable_exactly as exactly}
use Rattle.readback.proofs.UnreadableText.{unreadable_exactly as words, refused_range}

-- a text is read, with these rows, exactly if it is a table with these rows in document 01's words
pub readable_exactly : (text : List ℕ) (t : List Row) → (verdict text ≡ readable t) ↔ IsTable text t
readable_exactly = exactly

-- and it is refused, with this code on this line, exactly if document 01's words give it that code there
pub unreadable_exactly : (text : List ℕ) (code line : ℕ) → (verdict text ≡ unreadable code line) ↔ Refused text code line
unreadable_exactly = words

-- every byte string is one or the other, and none is both
pub every_text : (text : List ℕ) → ((t : List Row) × IsTable text t) ⊎ ((code : ℕ) × (line : ℕ) × Refused text code line)
every_text text = go (verdict text) refl
  where
    go : (v : Verdict) → verdict text ≡ v → ((t : List Row) × IsTable text t) ⊎ ((code : ℕ) × (line : ℕ) × Refused text code line)
    go (readable t) e = inl (t, (exactly text t).0 e)
    go (unreadable code line) e = inr (code, line, (words text code line).0 e)

pub never_both : (text : List ℕ) (t : List Row) (code line : ℕ) → IsTable text t → Refused text code line → ⊥
never_both text t code line p q =
    let e : readable t ≡ unreadable code line = sym ((exactly text t).1 p) ∙ (words text code line).1 q in
    let z : ◌≡◌ {A = ℕ} 0 1 = cc in
    omega arith

-- "code, line, count of records, greatest depth"
abbrev pub four : ℕ → ℕ → ℕ → ℕ → Checked
four code line count depth = record { code = code; line = line; count = count; depth = depth }

module _ (text : List ℕ) (answer : Checked) (call : Checks text answer) where
  -- ---- accepted

  read : (t : List Row) → verdict text ≡ readable t → answer ≡ four 0 0 (length t) (height (tree_of t))
  read t e =
      call.answered ∙ ap checked e ∙ ap (four 0 0 (length t)) (deepest t (good_readable t (good text t e)))

  -- "Accepted: line 0." The count is that of the rows, the depth that of the tree: how many records stand one under another
  pub check_table : (t : List Row) → IsTable text t → answer ≡ four 0 0 (length t) (height (tree_of t))
  check_table t w = read t ((exactly text t).1 w)

  -- the text is a table, or is refused with a code that is not 0
  accepted-table : (v : Verdict) → verdict text ≡ v → answer.code ≡ 0 → (t : List Row) × IsTable text t
  accepted-table (readable t) e z = (t, (exactly text t).0 e)
  accepted-table (unreadable code line) e z =
      absurd (refused_code text code line e (sym (ap (λ (a : Checked). a.code) (call.answered ∙ ap checked e)) ∙ z))

  -- code 0 exactly if the text is a table
  pub check_accepted : (answer.code ≡ 0) ↔ ((t : List Row) × IsTable text t)
  check_accepted = (accepted-table (verdict text) refl, λ w. ap (λ (a : Checked). a.code) (check_table w.0 w.1))

  -- "0 for an empty table"
  pub check_empty : text ≡ [] → answer ≡ four 0 0 0 0
  check_empty e = call.answered ∙ ap check_answer e

  -- ---- refused: "On refusal count and depth are 0."

  unread : (code line : ℕ) → verdict text ≡ unreadable code line → answer ≡ four code line 0 0
  unread code line e = call.answered ∙ ap checked e

  -- codes 1 and 2 for the whole text, then the lowest code of the first faulty line, with its place
  pub check_refused : (code line : ℕ) → Refused text code line → answer ≡ four code line 0 0
  check_refused code line w = unread code line ((unreadable_exactly text code line).1 w)

  -- and no other code or line is told
  pub check_told : (answer.code ≡ 0 → ⊥)
      → Refused text answer.code answer.line × (answer ≡ four answer.code answer.line 0 0)
  check_told f = go (verdict text) refl
    where
      go : (v : Verdict) → verdict text ≡ v
          → Refused text answer.code answer.line × (answer ≡ four answer.code answer.line 0 0)
      go (readable t) e = absurd (f (ap (λ (a : Checked). a.code) (read t e)))
      go (unreadable code line) e =
          let told : answer ≡ four code line 0 0 = unread code line e in (
            subst (λ (a : Checked). Refused text a.code a.line) (sym told) ((words text code line).0 e),
            told ∙ λ i. four (sym told i).code (sym told i).line 0 0,
          )

  -- so the code is 0 or one of 1 to 10
  pub check_codes : (answer.code ≡ 0) ⊎ ((1 ≤ answer.code) × (answer.code ≤ 10))
  check_codes = go (verdict text) refl
    where
      go : (v : Verdict) → verdict text ≡ v → (answer.code ≡ 0) ⊎ ((1 ≤ answer.code) × (answer.code ≤ 10))
      go (readable t) e = inl (ap (λ (a : Checked). a.code) (read t e))
      go (unreadable code line) e =
          let c : answer.code ≡ code = ap (λ (a : Checked). a.code) (unread code line e) in
          let r = refused_range text code line e in
          inr (omega (arith, c, r.0), omega (arith, c, r.1))
