-- Tidy called on what it wrote: it answers code 0 and the same length, and writes the same bytes. Stated of any two calls that keep the
-- promise `Tidies`. `text` and `buffer` are what was handed in to the first call, `again` is the buffer lent to the second; a name with
-- a prime is a buffer after its call. Assumes nothing.
use mathlib.Core.Path.{◌≡◌, refl, sym, ap, ◌∙◌}
use mathlib.Core.Bool.{Bool, true, false, cond}
use mathlib.Core.List.{List, ◌++◌}
use Prim.Native.Nat.{ℕ, ◌≤◌}
use native.Mathlib.Omega.{arith}
use lib.Dec.{ltb}
use lib.ListN.{length, take, drop, take-append-drop}
use lib.Seq.{take-append_seam}
use Rattle.rules.specs.Codes.{accepted, table_too_short}
use Rattle.rules.specs.Line.{Row}
use Rattle.rules.specs.Table.{Verdict, readable, unreadable, verdict}
use Rattle.rules.specs.Written.{tidied, over}
use Rattle.rules.specs.Calls.{tidy_told, tidy_of, tidy_into, tidy_answer, tidy_buffer}
use Rattle.rules.specs.Promises.{Tidies}
use Rattle.rules.specs.declared.answers.Tidied.{Tidied}
use Rattle.readback.proofs.Accepting.{refused_code}
use Rattle.readback.proofs.Tidying.{twice_answer, twice_buffer}

module _ (text buffer : List ℕ) (answer : Tidied) (buffer' : List ℕ) (call : Tidies text buffer answer buffer')
    (fine : answer.code ≡ accepted) where
  -- the bytes that the first call wrote
  abbrev pub wrote : List ℕ
  wrote = take answer.length buffer'

  -- the table that was read, and its written form in the buffer
  record Table : Type 0 where
    t : List Row
    is : verdict text ≡ readable t
    long : answer.length ≡ length (tidied t)
    bytes : take answer.length buffer' ≡ tidied t

  table : Table
  table = go (verdict text) refl
    where
      told : (v : Verdict) → verdict text ≡ v → answer ≡ tidy_of v (length buffer)
      told v q = call.answered ∙ ap (λ (u : Verdict). tidy_of u (length buffer)) q

      held : (v : Verdict) → verdict text ≡ v → buffer' ≡ tidy_into v buffer
      held v q = call.buffered ∙ ap (λ (u : Verdict). tidy_into u buffer) q

      room : (t : List Row) → verdict text ≡ readable t → (b : Bool) → ltb (length buffer) (length (tidied t)) ≡ b
          → answer ≡ cond b (tidy_told table_too_short 0 (length (tidied t))) (tidy_told accepted 0 (length (tidied t)))
          → buffer' ≡ cond b buffer (over (tidied t) buffer) → Table
      room t q true e a w = absurd (omega (arith, sym (ap (λ (z : Tidied). z.code) a) ∙ fine))
      room t q false e a w =
          let k : answer.length ≡ length (tidied t) = ap (λ (z : Tidied). z.length) a in
          record {
            t = t;
            is = q;
            long = k;
            bytes = rw (k, w) (take-append_seam (tidied t) (drop (length (tidied t)) buffer));
          }

      go : (v : Verdict) → verdict text ≡ v → Table
      go (readable t) q = room t q (ltb (length buffer) (length (tidied t))) refl (told (readable t) q) (held (readable t) q)
      go (unreadable c l) q =
          absurd (refused_code text c l q (sym (ap (λ (z : Tidied). z.code) (told (unreadable c l) q)) ∙ fine))

  module _ (again : List ℕ) (answer₂ : Tidied) (again' : List ℕ) (second : Tidies wrote again answer₂ again')
      (room : answer.length ≤ length again) where
    enough : length (tidied table.t) ≤ length again
    enough = omega (arith, table.long)

    -- code 0, and the same length
    pub twice_told : answer₂ ≡ tidy_told accepted 0 answer.length
    twice_told =
        second.answered ∙ ap (λ (s : List ℕ). tidy_answer s (length again)) table.bytes
        ∙ twice_answer text table.t table.is again enough ∙ ap (tidy_told accepted 0) (sym table.long)

    -- the same bytes from byte 0 on, and behind them what lay there
    pub twice_wrote : again' ≡ over wrote again
    twice_wrote =
        second.buffered ∙ ap (λ (s : List ℕ). tidy_buffer s again) table.bytes
        ∙ twice_buffer text table.t table.is again enough ∙ ap (λ (s : List ℕ). over s again) (sym table.bytes)

    -- so a buffer that holds them already is not changed at all
    pub twice_unchanged : take answer.length again ≡ wrote → again' ≡ again
    twice_unchanged held =
        twice_wrote
        ∙ ap (λ (k : ℕ). wrote ++ drop k again) (ap length table.bytes ∙ sym table.long)
        ∙ ap (λ (s : List ℕ). s ++ drop answer.length again) (sym held)
        ∙ take-append-drop answer.length again
