-- The call of tidy: `tidy` and its export (brooksaddle and brooksaddle_c) ask nothing, and ensure `Tidies` of the text handed in, the three
-- numbers answered and the lent buffer; what follows holds of every such call. The written form is as long as the text, so a buffer as long
-- as the text is always enough; what is written reads back as the same tree. t are a table's rows; a name with a prime is the buffer after
-- the call. That a second call changes nothing is in TidyTwice, that a refused one leaves the buffer in Demand1. Assumes nothing.
use mathlib.Core.Path.{◌≡◌, refl, sym, ap, ◌∙◌, subst}
use mathlib.Core.Logic.{◌⊎◌, inl, inr, ◌↔◌}
use mathlib.Core.Bool.{Bool, true, false, cond}
use mathlib.Core.List.{List}
use Prim.Native.Nat.{ℕ, ◌<◌, ◌≤◌}
use native.Mathlib.Omega.{arith}
use lib.Dec.{ltb}
use lib.ListN.{length, take, drop}
use lib.Seq.{take-append_seam}
use borrow.Author.Tests.{ltb-true, ltb-false, lt-ltb, le-ltb}
use Rattle.rules.specs.Marks.{TOP}
use Rattle.rules.specs.Line.{Row}
use Rattle.rules.specs.Table.{Verdict, readable, unreadable, verdict}
use Rattle.rules.specs.Tree.{rows, tree_of}
use Rattle.rules.specs.Written.{tidied, over}
use Rattle.rules.specs.Calls.{tidy_told, tidy_of, tidy_into}
use Rattle.rules.specs.Promises.{Tidies}
use Rattle.rules.specs.ReadableText.{IsTable}
use Rattle.rules.specs.UnreadableText.{Refused}
use Rattle.rules.specs.declared.answers.Tidied.{Tidied}
use Rattle.readback.proofs.ReadableText.{readable_exactly}
use Rattle.readback.proofs.UnreadableText.{unreadable_exactly, refused_range}
use Rattle.readback.proofs.TreesBack.{same-tree}
use Rattle.readback.proofs.Tidying.{tidied-length, tidied_within, tidied_again}
use Rattle.demands.proofs.OnCheck.{every_text}

module _ (text buffer : List ℕ) (answer : Tidied) (buffer' : List ℕ) (call : Tidies text buffer answer buffer') where
  code_is : (code line long : ℕ) → answer ≡ tidy_told code line long → answer.code ≡ code
  code_is code line long e = ap (λ (a : Tidied). a.code) e

  -- ---- a table

  module _ (t : List Row) (e : verdict text ≡ readable t) where
    told : answer ≡ tidy_of (readable t) (length buffer)
    told = call.answered ∙ ap (λ (v : Verdict). tidy_of v (length buffer)) e

    fits : length text ≤ length buffer → answer ≡ tidy_told 0 0 (length text)
    fits h =
        told
        ∙ ap (λ (b : Bool). cond b (tidy_told 31 0 (length (tidied t))) (tidy_told 0 0 (length (tidied t))))
        (le-ltb (length buffer) (length (tidied t)) (omega (arith, tidied-length text t e)))
        ∙ ap (tidy_told 0 0) (tidied-length text t e)

    short : length buffer < length text → answer ≡ tidy_told 31 0 (length text)
    short h =
        told
        ∙ ap (λ (b : Bool). cond b (tidy_told 31 0 (length (tidied t))) (tidy_told 0 0 (length (tidied t))))
        (lt-ltb (length buffer) (length (tidied t)) (omega (arith, tidied-length text t e)))
        ∙ ap (tidy_told 31 0) (tidied-length text t e)

    holds : length text ≤ length buffer → buffer' ≡ over (tidied t) buffer
    holds h =
        call.buffered
        ∙ ap (λ (v : Verdict). tidy_into v buffer) e
        ∙ ap (λ (b : Bool). cond b buffer (over (tidied t) buffer))
        (le-ltb (length buffer) (length (tidied t)) (omega (arith, tidied-length text t e)))

    bytes : length text ≤ length buffer → take answer.length buffer' ≡ tidied t
    bytes h =
        ap (λ (a : Tidied). take a.length buffer') (fits h)
        ∙ ap (λ (k : ℕ). take k buffer') (sym (tidied-length text t e))
        ∙ ap (take (length (tidied t))) (holds h)
        ∙ take-append_seam (tidied t) (drop (length (tidied t)) buffer)

  -- the text is a table and the buffer as long, or one of the two is not so
  room_for : (v : Verdict) → verdict text ≡ v → (b : Bool) → ltb (length buffer) (length text) ≡ b → (code : ℕ) → answer.code ≡ code
      → (code ≡ 0 → (t : List Row) × (verdict text ≡ readable t) × (length text ≤ length buffer))
      × (code ≡ 31 → (t : List Row) × (verdict text ≡ readable t) × (length buffer < length text))
  room_for (readable t) e true q code c =
      let h = ltb-true (length buffer) (length text) q in
      (λ z. absurd (omega (arith, code_is 31 0 (length text) (short t e h))), λ z. (t, e, h))
  room_for (readable t) e false q code c =
      let h = ltb-false (length buffer) (length text) q in
      (λ z. (t, e, h), λ z. absurd (omega (arith, code_is 0 0 (length text) (fits t e h))))
  room_for (unreadable fault line) e b q code c =
      let k : answer.code ≡ fault =
      code_is fault line 0 (call.answered ∙ ap (λ (v : Verdict). tidy_of v (length buffer)) e) in
      let r = refused_range text fault line e in
      (λ z. absurd (omega (arith, r.0)), λ z. absurd (omega (arith, r.1)))

  cases : (answer.code ≡ 0 → (t : List Row) × (verdict text ≡ readable t) × (length text ≤ length buffer))
      × (answer.code ≡ 31 → (t : List Row) × (verdict text ≡ readable t) × (length buffer < length text))
  cases = room_for (verdict text) refl (ltb (length buffer) (length text)) refl answer.code refl

  -- ---- accepted exactly if the text is a table and the buffer is as long as the text

  pub tidy_accepted : (answer.code ≡ 0) ↔ ((t : List Row) × IsTable text t × (length text ≤ length buffer))
  tidy_accepted = (
    λ z. let w = cases.0 z in (w.0, (readable_exactly text w.0).0 w.1, w.2),
    λ w. code_is 0 0 (length text) (fits w.0 ((readable_exactly text w.0).1 w.1) w.2),
  )

  -- "31": the buffer is shorter than the text; "on 31 its length is the one needed"
  pub tidy_31 : (answer.code ≡ 31) ↔ ((t : List Row) × IsTable text t × (length buffer < length text))
  tidy_31 = (
    λ z. let w = cases.1 z in (w.0, (readable_exactly text w.0).0 w.1, w.2),
    λ w. code_is 31 0 (length text) (short w.0 ((readable_exactly text w.0).1 w.1) w.2),
  )

  -- the three numbers, for a table: the length is the text's, whether it is written or needed
  pub tidy_told_lem : (t : List Row) → IsTable text t → length text ≤ length buffer → answer ≡ tidy_told 0 0 (length text)
  tidy_told_lem t w = fits t ((readable_exactly text t).1 w)

  pub tidy_31_told : (t : List Row) → IsTable text t → length buffer < length text → answer ≡ tidy_told 31 0 (length text)
  tidy_31_told t w = short t ((readable_exactly text t).1 w)

  -- of a table 0 or 31 is told
  table-codes : (t : List Row) → IsTable text t → (answer.code ≡ 0) ⊎ (answer.code ≡ 31)
  table-codes t w = go (ltb (length buffer) (length text)) refl
    where
      go : (b : Bool) → ltb (length buffer) (length text) ≡ b → (answer.code ≡ 0) ⊎ (answer.code ≡ 31)
      go true q = inr (code_is 31 0 (length text) (tidy_31_told t w (ltb-true (length buffer) (length text) q)))
      go false q = inl (code_is 0 0 (length text) (tidy_told_lem t w (ltb-false (length buffer) (length text) q)))

  -- a text that is no table: its code and line, and no length
  pub tidy_refused_told : (code line : ℕ) → Refused text code line → answer ≡ tidy_told code line 0
  tidy_refused_told code line w =
      call.answered ∙ ap (λ (v : Verdict). tidy_of v (length buffer)) ((unreadable_exactly text code line).1 w)

  -- and no other code or line is told: 0 and 31 are told of a table, every other code of a text that is none
  pub tidy_unread_told : (answer.code ≡ 0 → ⊥) → (answer.code ≡ 31 → ⊥)
      → Refused text answer.code answer.line × (answer ≡ tidy_told answer.code answer.line 0)
  tidy_unread_told f g = go (every_text text)
    where
      go : ((t : List Row) × IsTable text t) ⊎ ((code : ℕ) × (line : ℕ) × Refused text code line)
          → Refused text answer.code answer.line × (answer ≡ tidy_told answer.code answer.line 0)
      go (inl w) = elim (table-codes w.0 w.1) [ inl z ↦ absurd (f z) | inr z ↦ absurd (g z) ]
      go (inr u) =
          let is : answer ≡ tidy_told u.0 u.1 0 = tidy_refused_told u.0 u.1 u.2 in (
            subst (λ (a : Tidied). Refused text a.code a.line) (sym is) u.2,
            is ∙ λ i. tidy_told (sym is i).code (sym is i).line 0,
          )

  -- so the code is 0, one of 1 to 10, or 31
  pub tidy_codes : (answer.code ≡ 0) ⊎ (((1 ≤ answer.code) × (answer.code ≤ 10)) ⊎ (answer.code ≡ 31))
  tidy_codes = go (every_text text)
    where
      go : ((t : List Row) × IsTable text t) ⊎ ((code : ℕ) × (line : ℕ) × Refused text code line)
          → (answer.code ≡ 0) ⊎ (((1 ≤ answer.code) × (answer.code ≤ 10)) ⊎ (answer.code ≡ 31))
      go (inl w) = elim (table-codes w.0 w.1) [ inl z ↦ inl z | inr z ↦ inr (inr z) ]
      go (inr u) =
          let c = code_is u.0 u.1 0 (tidy_refused_told u.0 u.1 u.2) in
          let r = refused_range text u.0 u.1 ((unreadable_exactly text u.0 u.1).1 u.2) in
          inr (inl (omega (arith, c, r.0), omega (arith, c, r.1)))

  -- a buffer as long as the text is always enough, whatever the text
  pub tidy_never_31 : length text ≤ length buffer → answer.code ≡ 31 → ⊥
  tidy_never_31 h z = omega (arith, (cases.1 z).2)

  -- ---- what an accepted call wrote is read as a table with the same tree

  pub tidy_same-tree : answer.code ≡ 0 → (t : List Row) → verdict text ≡ readable t
      → (u : List Row) × (verdict (take answer.length buffer') ≡ readable u) × (tree_of u ≡ tree_of t)
  tidy_same-tree z t e = (
    rows TOP (tree_of t),
    ap verdict (bytes t e (cases.0 z).2) ∙ tidied_again text t e,
    same-tree (tree_of t) (tidied_within text t e),
  )
