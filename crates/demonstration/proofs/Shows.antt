-- What `show` puts into its buffer is what is printed. m is the answer of the merge, t and l are its buffers, o is the buffer of what is
-- printed, with a number for each state of it; p, q and r are places. Assumes nothing.
use mathlib.Core.Path.{◌≡◌, refl, sym, ap, ◌∙◌, subst}
use mathlib.Core.List.{List, [], ◌∷◌, ◌++◌}
use Prim.Native.Nat.{ℕ, zero, suc, ◌+◌, ◌<◌, ◌≤◌}
use native.Mathlib.Omega.{arith}
use lib.ListN.{length, take, drop, length-append}
use lib.Seq.{append_snoc, take-append_seam, length-take-le}
use borrow.Author.Rules.{rules}
use Rattle.rules.specs.Codes.{accepted}
use Rattle.rules.specs.Text.{TAB}
use Rattle.rules.specs.Written.{digits, over}
use Rattle.rules.specs.Ledger.{Entry, ledger}
use Rattle.rules.specs.Calls.{Outcome, not_read, clash, too_large, no_room, done, answer_of, table_after, ledger_after, merge_texts}
use Rattle.rules.specs.Calls.{five_numbers, shown}
use Rattle.rules.specs.Promises.{Merges}
use Rattle.rules.specs.declared.answers.Merged.{Merged}
use Rattle.demands.proofs.Coded.{texts_coded, zero_done}
use Rattle.demands.proofs.Lengths.{Limited, all_limited}
use Rattle.bytes_out.specs.Put.{Put, number_field}
use Rattle.bytes_out.proofs.Puts.{put_then, put-over}
use Rattle.ledger.specs.Entries.{line_end}
use Rattle.demonstration.specs.Printed.{table_room, ledger_room, printed_room, numbers_length, printed, Shows}
use Rattle.demonstration.proofs.Lengths.{numbers_few, numbers-long}

-- ---- the line

numbers-joined : (a b c : ℕ) (s : List ℕ) → number_field a ++ (number_field b ++ (number_field c ++ s))
    ≡ digits a ++ (TAB ∷ (digits b ++ (TAB ∷ (digits c ++ (TAB ∷ s)))))
numbers-joined a b c s =
    append_snoc (digits a) TAB (number_field b ++ (number_field c ++ s))
    ∙ ap (λ (x : List ℕ). digits a ++ (TAB ∷ x))
    (append_snoc (digits b) TAB (number_field c ++ s) ∙ ap (λ (x : List ℕ). digits b ++ (TAB ∷ x)) (append_snoc (digits c) TAB s))

pub numbers-put : (m : Merged) {o o₁ o₂ o₃ o₄ : List ℕ} {p q r s : ℕ} → Put o o₁ 0 p (number_field m.code)
    → Put o₁ o₂ p q (number_field m.table) → Put o₂ o₃ q r (number_field m.place)
    → Put o₃ o₄ r s (line_end m.table_length m.ledger_length) → Put o o₄ 0 s (five_numbers m)
numbers-put m {o} {o₁} {o₂} {o₃} {o₄} {p} {q} {r} {s} u v w x =
    subst (Put o o₄ 0 s) (numbers-joined m.code m.table m.place (line_end m.table_length m.ledger_length))
    (put_then u (put_then v (put_then w x)))

-- ---- a buffer that was filled from byte 0 on

length-take-at_most : (n : ℕ) (xs : List ℕ) → length (take n xs) ≤ n
length-take-at_most zero xs = omega arith
length-take-at_most (suc n) [] = omega arith
length-take-at_most (suc n) (x ∷ xs) = omega (arith, length-take-at_most n xs)

written : (bytes buffer after : List ℕ) (n : ℕ) → n ≡ length bytes → after ≡ over bytes buffer → take n after ≡ bytes
written bytes buffer after n e f = (λ i. take (e i) (f i)) ∙ take-append_seam bytes (drop (length bytes) buffer)

within : (bytes buffer after : List ℕ) (n : ℕ) → n ≡ length bytes → after ≡ over bytes buffer → n ≤ length after
within bytes buffer after n e f = omega (arith, e, ap length f, length-append bytes (drop (length bytes) buffer))

put_shows : (old first second s o o' : List ℕ) (r : ℕ) → Put o o' 0 r s → s ≡ printed old first second → length s ≤ length o
    → Shows old first second r o'
put_shows old first second s o o' r p is room =
    record { within = low; counts = sym (length-take-le r o' low); bytes = written s o o' r long (put-over p room) ∙ is }
  where
    long : r ≡ length s
    long = omega (arith, p.place)

    low : r ≤ length o'
    low = within s o o' r long (put-over p room)

-- ---- a merge with the demonstration's buffers

module _ (old first second t l : List ℕ) (m : Merged) (t' l' : List ℕ) (call : Merges old first second t l m t' l')
    (table-long : length t ≡ table_room) (ledger-long : length l ≡ ledger_room) where
  abbrev end : Outcome
  end = merge_texts old (first ∷ second ∷ []) table_room ledger_room

  is : merge_texts old (first ∷ second ∷ []) (length t) (length l) ≡ end
  is = λ i. merge_texts old (first ∷ second ∷ []) (table-long i) (ledger-long i)

  answered : m ≡ answer_of end
  answered = call.answered ∙ ap answer_of is

  limited : Limited m
  limited = all_limited old first second table_room ledger_room m answered

  pub table_small : m.table_length < 4294967296
  table_small = omega (arith, limited.table)

  pub ledger_small : m.ledger_length < 4294967296
  ledger_small = omega (arith, limited.ledger)

  pub numbers-room : (n : ℕ) → printed_room ≤ n → numbers_length m ≤ n
  numbers-room n h = omega (arith, h, numbers_few m)

  -- on refusal

  refused_of : (e : Outcome) → ((answer_of e).code ≡ accepted → ⊥) → shown e ≡ five_numbers (answer_of e)
  refused_of (not_read table code line) h = refl
  refused_of (clash code place) h = refl
  refused_of too_large h = refl
  refused_of (no_room code table_length ledger_length) h = refl
  refused_of (done table es) h = absurd (h refl)

  pub refused_shown : {o o' : List ℕ} {r : ℕ} → (m.code ≡ accepted → ⊥) → printed_room ≤ length o → Put o o' 0 r (five_numbers m)
      → Shows old first second r o'
  refused_shown {o} {o'} {r} h room p =
      put_shows old first second (five_numbers m) o o' r p
      (ap five_numbers answered ∙ sym (refused_of end (λ z. h (ap (λ (x : Merged). x.code) answered ∙ z))))
      (omega (arith, room, numbers-long m, numbers_few m))

  -- on acceptance

  module _ (z : m.code ≡ accepted) where
    ended : (table : List ℕ) × (es : List Entry) × (end ≡ done table es)
    ended =
        zero_done end (texts_coded old (first ∷ second ∷ []) table_room ledger_room) (sym (ap (λ (x : Merged). x.code) answered) ∙ z)

    table_is : (m.table_length ≡ length ended.0) × (t' ≡ over ended.0 t)
    table_is = (
      ap (λ (x : Merged). x.table_length) (answered ∙ ap answer_of ended.2),
      call.tabled ∙ ap (λ (x : Outcome). table_after x t) (is ∙ ended.2),
    )

    ledger_is : (m.ledger_length ≡ length (ledger ended.1)) × (l' ≡ over (ledger ended.1) l)
    ledger_is = (
      ap (λ (x : Merged). x.ledger_length) (answered ∙ ap answer_of ended.2),
      call.ledgered ∙ ap (λ (x : Outcome). ledger_after x l) (is ∙ ended.2),
    )

    table_low : m.table_length ≤ table_room
    table_low = limited.table

    ledger_low : m.ledger_length ≤ ledger_room
    ledger_low = omega (arith, limited.ledger)

    -- what was written lies in its buffer
    pub table_fits : m.table_length ≤ length t'
    table_fits = within ended.0 t t' m.table_length table_is.0 table_is.1

    pub ledger_fits : m.ledger_length ≤ length l'
    ledger_fits = within (ledger ended.1) l l' m.ledger_length ledger_is.0 ledger_is.1

    pub table-cut : m.table_length ≡ length (take m.table_length t')
    table-cut = sym (length-take-le m.table_length t' table_fits)

    pub ledger-cut : m.ledger_length ≡ length (take m.ledger_length l')
    ledger-cut = sym (length-take-le m.ledger_length l' ledger_fits)

    bytes : five_numbers m ++ (take m.table_length t' ++ take m.ledger_length l') ≡ printed old first second
    bytes =
        (λ i. five_numbers (answered i) ++ (written ended.0 t t' m.table_length table_is.0 table_is.1 i
        ++ written (ledger ended.1) l l' m.ledger_length ledger_is.0 ledger_is.1 i))
        ∙ (λ i. five_numbers (answer_of (ended.2 i)) ++ (ended.0 ++ ledger ended.1))
        ∙ ap shown (sym ended.2)

    pub done_room : (n : ℕ) → printed_room ≤ n
        → numbers_length m + (length (take m.table_length t') + length (take m.ledger_length l')) ≤ n
    done_room n h =
        omega (
          arith,
          h,
          numbers_few m,
          length-take-at_most m.table_length t',
          length-take-at_most m.ledger_length l',
          table_low,
          ledger_low,
        )

    pub done_shown : {o o' : List ℕ} {r : ℕ} → printed_room ≤ length o
        → Put o o' 0 r (five_numbers m ++ (take m.table_length t' ++ take m.ledger_length l')) → Shows old first second r o'
    done_shown {o} {o'} {r} h p =
        put_shows old first second (five_numbers m ++ (take m.table_length t' ++ take m.ledger_length l')) o o' r p bytes
        (omega (
          arith,
          done_room (length o) h,
          length-append (five_numbers m) (take m.table_length t' ++ take m.ledger_length l'),
          length-append (take m.table_length t') (take m.ledger_length l'),
          numbers-long m,
        ))

pub ruleset shows = (numbers-put, put_then, rules)

pub ruleset showings = (
  table_small,
  ledger_small,
  numbers-room,
  refused_shown,
  table_fits,
  ledger_fits,
  table-cut,
  ledger-cut,
  done_room,
  done_shown,
  rules,
)
