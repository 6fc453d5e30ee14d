-- One turn of writing a list and one of writing a record: what each call asks of the next, and what all of it has written. texts are
-- those that hold the contents, ls and fs the two arrays; r is a parent, n a record or END, f a tree; `at` is the place of the next
-- byte, `left` the count of records still unwritten. Assumes nothing.
use mathlib.Core.Path.{◌≡◌, refl, sym, ap, ◌∙◌, subst}
use mathlib.Core.Bool.{Bool, true, false, not}
use mathlib.Core.List.{List, [], ◌∷◌, ◌++◌, append_assoc}
use Prim.Native.Nat.{ℕ, suc, ◌+◌, ◌-◌, ◌<◌, ◌≤◌}
use native.Mathlib.Omega.{arith}
use lib.Dec.{eqb}
use lib.ListN.{length, length-append}
use borrow.Author.Rules.{rules}
use borrow.Author.Tests.{eqb-true, eqb-false, not-true, not-false}
use Rattle.rules.specs.Marks.{END}
use Rattle.rules.specs.Line.{Content, Row}
use Rattle.rules.specs.Tree.{Tree, empty, node, rows}
use Rattle.rules.specs.Written.{line, written}
use Rattle.facts.specs.Memory.{FOLLOWER, FIRST, field}
use Rattle.bytes_out.specs.Put.{Put}
use Rattle.bytes_out.proofs.Puts.{put_none, put_then}
use Rattle.write.specs.Stored.{content_at}
use Rattle.write.specs.Writing.{Laid, row_at, record_bytes, ListReady, RecordReady, Done, ListWritten, RecordWritten}

written-append : (s t : List Row) → written (s ++ t) ≡ written s ++ written t
written-append [] t = refl
written-append (x ∷ s) t =
    ap (λ (u : List ℕ). line x ++ u) (written-append s t) ∙ sym (append_assoc (line x) (written s) (written t))

-- a list is its first record, with all below it, and the others
written_node : (r n : ℕ) (c : Content) (below after : Tree)
    → written (rows r (node n c below after))
    ≡ (line (record { number = n; parent = r; content = c }) ++ written (rows n below)) ++ written (rows r after)
written_node r n c below after =
    let x : Row = record { number = n; parent = r; content = c } in
    ap (λ (u : List ℕ). line x ++ u) (written-append (rows n below) (rows r after))
    ∙ sym (append_assoc (line x) (written (rows n below)) (written (rows r after)))

module _ (texts : List (List ℕ)) (ls fs : List ℕ) (r n : ℕ) where
  -- the bytes of a list that begins with n
  list_bytes : (m : ℕ) (c : Content) (below after : Tree) → m ≡ n → c ≡ content_at texts ls fs n
      → written (rows r (node m c below after)) ≡ record_bytes texts ls fs r n below ++ written (rows r after)
  list_bytes m c below after e d = written_node r m c below after ∙ rw (e, d)

  bytes-length : (m : ℕ) (c : Content) (below after : Tree) → m ≡ n → c ≡ content_at texts ls fs n
      → length (written (rows r (node m c below after))) ≡ length (record_bytes texts ls fs r n below) + length (written (rows r after))
  bytes-length m c below after e d =
      ap length (list_bytes m c below after e d) ∙ length-append (record_bytes texts ls fs r n below) (written (rows r after))

  -- and how many records it has
  list_count : (m : ℕ) (c : Content) (below after : Tree) → m ≡ n
      → length (rows r (node m c below after)) ≡ suc (length (rows n below) + length (rows r after))
  list_count m c below after e = ap suc (length-append (rows m below) (rows r after)) ∙ rw e

  record_length : (below : Tree)
      → length (record_bytes texts ls fs r n below) ≡ length (line (row_at texts ls fs r n)) + length (written (rows n below))
  record_length below = length-append (line (row_at texts ls fs r n)) (written (rows n below))

  -- ---- what a call asks of the next

  module _ (at left : ℕ) where
    -- a list that does not end here: its first record can be written
    pub list_first : (room : ℕ) → ListReady texts ls fs r n at left room → (n ≡ END → ⊥) → RecordReady texts ls fs r n at left room
    list_first room w z = go w.tree w.laid w.few w.fits
      where
        go : (f : Tree) → Laid texts ls fs n f → length (rows r f) ≤ left → at + length (written (rows r f)) ≤ room
            → RecordReady texts ls fs r n at left room
        go empty e h g = absurd (z e)
        go (node m c below after) e h g = record {
          below = below;
          content = e.2;
          laid = e.4;
          few = omega (arith, list_count m c below after e.1);
          fits = omega (arith, bytes-length m c below after e.1 e.3);
        }

    -- room for the record's line
    pub record_line : (room : ℕ) → RecordReady texts ls fs r n at left room → at + length (line (row_at texts ls fs r n)) ≤ room
    record_line room w = omega (arith, w.fits, record_length w.below)

    pub record_left : (room : ℕ) → RecordReady texts ls fs r n at left room → 0 < left
    record_left room w = omega (arith, w.few)

    -- after the first record, the others
    pub list_rest : {out mid : List ℕ} {at' left' : ℕ} (next : ℕ) → ListReady texts ls fs r n at left (length out) → (n ≡ END → ⊥)
        → RecordWritten texts ls fs r n out mid at left at' left' → next ≡ field ls fs n FOLLOWER
        → ListReady texts ls fs r next at' left' (length mid)
    list_rest {out} {mid} {at'} {left'} next w z d q = go w.tree w.laid w.few w.fits
      where
        go : (f : Tree) → Laid texts ls fs n f → length (rows r f) ≤ left → at + length (written (rows r f)) ≤ length out
            → ListReady texts ls fs r next at' left' (length mid)
        go empty e h g = absurd (z e)
        go (node m c below after) e h g =
            let x = d.all below e.4 in
            record {
              tree = after;
              laid = subst (λ (k : ℕ). Laid texts ls fs k after) (sym q) e.5;
              few = omega (arith, x.rest, list_count m c below after e.1);
              fits = omega (arith, bytes-length m c below after e.1 e.3, x.put.place, x.put.long);
            }

  -- after the record's line, its list
  pub record_rest : (at left : ℕ) {out mid : List ℕ} {at' : ℕ} (first : ℕ) → RecordReady texts ls fs r n at left (length out)
      → Put out mid at at' (line (row_at texts ls fs r n)) → first ≡ field ls fs n FIRST
      → ListReady texts ls fs n first at' (left - 1) (length mid)
  record_rest at left first w p q = record {
    tree = w.below;
    laid = subst (λ (k : ℕ). Laid texts ls fs k w.below) (sym q) w.laid;
    few = omega (arith, w.few);
    fits = omega (arith, w.fits, record_length w.below, p.place, p.long);
  }

  -- ---- what is written

  pub list_none : {out : List ℕ} {at left : ℕ} → n ≡ END → ListWritten texts ls fs r n out out at left at left
  list_none {out} {at} {left} e = record { all = go }
    where
      go : (f : Tree) → Laid texts ls fs n f → Done out out at left at left (written (rows r f)) (length (rows r f))
      go empty d = record { put = put_none out at; rest = omega arith }
      go (node m c below after) d = absurd (d.0 e)

  pub list_more : {out mid out' : List ℕ} {at left atm leftm at' left' : ℕ} (next : ℕ) → (n ≡ END → ⊥)
      → RecordWritten texts ls fs r n out mid at left atm leftm → next ≡ field ls fs n FOLLOWER
      → ListWritten texts ls fs r next mid out' atm leftm at' left' → ListWritten texts ls fs r n out out' at left at' left'
  list_more {out} {mid} {out'} {at} {left} {atm} {leftm} {at'} {left'} next z w q v = record { all = go }
    where
      go : (f : Tree) → Laid texts ls fs n f → Done out out' at left at' left' (written (rows r f)) (length (rows r f))
      go empty d = absurd (z d)
      go (node m c below after) d =
          let x = w.all below d.4 in
          let y = v.all after (subst (λ (k : ℕ). Laid texts ls fs k after) (sym q) d.5) in
          record {
            put = subst (Put out out' at at') (sym (list_bytes m c below after d.1 d.3)) (put_then x.put y.put);
            rest = omega (arith, x.rest, y.rest, list_count m c below after d.1);
          }

  pub record_more : {out mid out' : List ℕ} {at left atm at' left' : ℕ} (first : ℕ) → 0 < left
      → Put out mid at atm (line (row_at texts ls fs r n)) → first ≡ field ls fs n FIRST
      → ListWritten texts ls fs n first mid out' atm (left - 1) at' left' → RecordWritten texts ls fs r n out out' at left at' left'
  record_more {out} {mid} {out'} {at} {left} {atm} {at'} {left'} first h p q v = record { all = go }
    where
      go : (below : Tree) → Laid texts ls fs (field ls fs n FIRST) below
          → Done out out' at left at' left' (record_bytes texts ls fs r n below) (suc (length (rows n below)))
      go below d =
          let y = v.all below (subst (λ (k : ℕ). Laid texts ls fs k below) (sym q) d) in
          record { put = put_then p y.put; rest = omega (arith, y.rest) }

-- a record without a child
pub record_leaf : (texts : List (List ℕ)) (ls fs : List ℕ) (r n : ℕ) {out mid : List ℕ} {at left atm : ℕ} (first : ℕ) (y : Bool)
    → 0 < left → Put out mid at atm (line (row_at texts ls fs r n)) → first ≡ field ls fs n FIRST → y ≡ true → y ≡ eqb first END
    → RecordWritten texts ls fs r n out mid at left atm (left - 1)
record_leaf texts ls fs r n first y h p q t e =
    record_more texts ls fs r n first h p q (list_none texts ls fs n first (eqb-true first END (sym e ∙ t)))

-- ---- a list, as the loop goes through it

module _ (texts : List (List ℕ)) (ls fs : List ℕ) (r n : ℕ) (out : List ℕ) (at left : ℕ) where
  -- the list from `next` on is still to be written: whatever writes it from here on writes the whole from the start on
  pub record Reached (next : ℕ) (out₁ : List ℕ) (at₁ left₁ : ℕ) : Type 0 where
    pub ready : ListReady texts ls fs r next at₁ left₁ (length out₁)
    pub few : left₁ ≤ left
    pub long : length out₁ ≡ length out
    pub whole : (out' : List ℕ) (at' left' : ℕ) → ListWritten texts ls fs r next out₁ out' at₁ left₁ at' left'
        → ListWritten texts ls fs r n out out' at left at' left'

  pub reached_start : ListReady texts ls fs r n at left (length out) → Reached n out at left
  reached_start w = record { ready = w; few = omega arith; long = refl; whole = λ out' at' left' v. v }

  -- y is whether `next` is END
  module _ (next : ℕ) {out₁ : List ℕ} {at₁ left₁ : ℕ} (w : Reached next out₁ at₁ left₁) (y : Bool) (e : y ≡ eqb next END) where
    no_end : not y ≡ true → next ≡ END → ⊥
    no_end t = eqb-false next END (sym e ∙ not-true y t)

    pub reached_record : not y ≡ true → RecordReady texts ls fs r next at₁ left₁ (length out₁)
    reached_record t = list_first texts ls fs r next at₁ left₁ (length out₁) w.ready (no_end t)

    -- the count of records still unwritten falls
    pub reached_falls : {out₂ : List ℕ} {at₂ left₂ : ℕ} → not y ≡ true
        → RecordWritten texts ls fs r next out₁ out₂ at₁ left₁ at₂ left₂ → left₂ < left₁
    reached_falls t d = let v = reached_record t in omega (arith, (d.all v.below v.laid).rest)

    pub reached_on : {out₂ : List ℕ} {at₂ left₂ : ℕ} (onward : ℕ) → not y ≡ true
        → RecordWritten texts ls fs r next out₁ out₂ at₁ left₁ at₂ left₂ → onward ≡ field ls fs next FOLLOWER
        → Reached onward out₂ at₂ left₂
    reached_on {out₂} {at₂} {left₂} onward t d q =
        let v = reached_record t in
        let x = d.all v.below v.laid in
        record {
          ready = list_rest texts ls fs r next at₁ left₁ onward w.ready (no_end t) d q;
          few = omega (arith, w.few, x.rest);
          long = x.put.long ∙ w.long;
          whole = λ out' at' left' v. w.whole out' at' left' (list_more texts ls fs r next onward (no_end t) d q v);
        }

    pub reached_end : not y ≡ false → ListWritten texts ls fs r n out out₁ at left at₁ left₁
    reached_end t = w.whole out₁ at₁ left₁ (list_none texts ls fs r next (eqb-true next END (sym e ∙ not-false y t)))

pub ruleset lists = (reached_start, reached_record, reached_falls, reached_on, reached_end, rules)

pub ruleset records = (record_line, record_left, record_rest, record_more, record_leaf, rules)
