-- The three demands on the call of merge: here a visitor begins. `merge` and its export (brooksaddle and brooksaddle_c) ask nothing, and
-- ensure `Merges` of the texts handed in, the five numbers answered and the two lent buffers; what follows holds of every such call. `old`,
-- `first` and `second` are the texts, `table` and `ledger` the buffers before the call; a name with a prime is a buffer after it. What
-- each code means is said here in words of texts, facts, edits and lengths (rules/specs/UnreadableText, Conditions, Room), not by the
-- definitions that compute the merge. Assumes nothing.
use mathlib.Core.Path.{◌≡◌, refl, sym, ap, ◌∙◌}
use mathlib.Core.Logic.{◌⊎◌, inl, inr, ◌↔◌}
use mathlib.Core.List.{List, [], ◌∷◌, map}
use Prim.Native.Nat.{ℕ, ◌<◌, ◌≤◌}
use native.Mathlib.Omega.{arith}
use lib.ListN.{length, take, drop}
use lib.Seq.{take-append_seam}
use Rattle.rules.specs.Codes.{accepted}
use Rattle.rules.specs.Marks.{TOP}
use Rattle.rules.specs.Line.{Row}
use Rattle.rules.specs.Table.{Verdict, readable, unreadable, verdict}
use Rattle.rules.specs.Tree.{Tree, rows, tree_of}
use Rattle.rules.specs.Facts.{Facts, facts_of}
use Rattle.rules.specs.Written.{written_tree, over}
use Rattle.rules.specs.Ledger.{Entry, entries_of, ledger as ledger_of}
use Rattle.rules.specs.Calls.{Outcome, done, merge_outcome, answer_of, told, table_after, ledger_after}
use Rattle.rules.specs.Promises.{Merges}
use Rattle.rules.specs.Demands.{Within, Tables, Answered, traded_outcome}
use Rattle.rules.specs.Conditions.{BrokenList, ContentClash, LostEdit, Names, NeighbourClash, Nowhere, ParentClash, RecordOf, Refusal}
use Rattle.rules.specs.Conditions.{TopOrRecordOf}
use Rattle.rules.specs.ReadableText.{IsTable}
use Rattle.rules.specs.UnreadableText.{Refused}
use Rattle.rules.specs.Room.{TooLarge, Sized, TableTooLong, LedgerTooLong}
use Rattle.rules.specs.declared.answers.Merged.{Merged}
use Rattle.rules.proofs.Settled.{merge_settled}
use Rattle.readback.proofs.ReadableText.{readable_exactly}
use Rattle.readback.proofs.UnreadableText.{unreadable_exactly}
use Rattle.demands.proofs.Reading.{old_unread, branch_unread, done_read}
use Rattle.demands.proofs.Coded.{texts_coded, zero_done}
use Rattle.demands.proofs.Swapping.{traded_answer, traded-table}
use Rattle.demands.proofs.Demand1.{merge_refused}
use Rattle.demands.proofs.Demand2.{merged_back}
use Rattle.demands.proofs.Demand3.{answer_writable, done_answered, answered_done, one_tree, swapped}
use Rattle.demands.proofs.Clashes.{broken_named, content_named, lost_named, neighbour_named, one_read, parent_named, place_named}
use Rattle.demands.proofs.Clashes.{record_named, refusal_exactly}
use Rattle.demands.proofs.LackOfRoom.{large_exactly, large_told, table_exactly, table-told, ledger_exactly, ledger-told}
use Rattle.demands.proofs.Lengths.{Limited, all_limited, were_read, table_fits, ledger_fits}

-- what an accepted call has written: this tree, with these entries in the ledger
pub record Wrote (table ledger : List ℕ) (answer : Merged) (table' ledger' : List ℕ) (f : Tree) (es : List Entry) : Type 0 where
  pub answer_is : answer ≡ told accepted 0 0 (length (written_tree f)) (length (ledger_of es))
  pub table_is : table' ≡ over (written_tree f) table
  pub ledger_is : ledger' ≡ over (ledger_of es) ledger
  -- "A table written and read back is the same tree."
  pub read_back : verdict (take answer.table_length table') ≡ readable (rows TOP f)
  pub same-tree : tree_of (rows TOP f) ≡ f

-- ---- demand 1: "Every byte string is answered." There is an outcome that keeps the promise, and no other one does

pub demand1_answered : (old first second table ledger : List ℕ)
    → (answer : Merged) × (table' : List ℕ) × (ledger' : List ℕ) × Merges old first second table ledger answer table' ledger'
demand1_answered old first second table ledger =
    let end = merge_outcome old first second table ledger in
    (answer_of end, table_after end table, ledger_after end ledger, record { answered = refl; tabled = refl; ledgered = refl })

pub demand1_one : (old first second table ledger : List ℕ) (a b : Merged) (table₁ table₂ ledger₁ ledger₂ : List ℕ)
    → Merges old first second table ledger a table₁ ledger₁ → Merges old first second table ledger b table₂ ledger₂
    → (a ≡ b) × (table₁ ≡ table₂) × (ledger₁ ≡ ledger₂)
demand1_one = merge_settled

module _ (old first second table ledger : List ℕ) (answer : Merged) (table' ledger' : List ℕ)
    (call : Merges old first second table ledger answer table' ledger') where
  abbrev end : Outcome
  end = merge_outcome old first second table ledger

  abbrev branches : List (List ℕ)
  branches = first ∷ second ∷ []

  code_is : answer.code ≡ (answer_of end).code
  code_is = ap (λ (m : Merged). m.code) call.answered

  ended : answer.code ≡ accepted → (bytes : List ℕ) × (es : List Entry) × (end ≡ done bytes es)
  ended z = zero_done end (texts_coded old branches (length table) (length ledger)) (sym code_is ∙ z)

  -- ---- demand 1: "A refused call leaves both lent buffers untouched."

  pub demand1 : (answer.code ≡ accepted → ⊥) → (table' ≡ table) × (ledger' ≡ ledger)
  demand1 = merge_refused old first second table ledger answer table' ledger' call

  -- "An unreadable table is refused with table, line and fault": the first of old, first and second

  pub demand1_old : (code line : ℕ) → verdict old ≡ unreadable code line → answer ≡ told code 1 line 0 0
  demand1_old code line u = call.answered ∙ ap answer_of (old_unread old branches (length table) (length ledger) code line u)

  pub demand1_first : (o : List Row) (code line : ℕ) → verdict old ≡ readable o → verdict first ≡ unreadable code line
      → answer ≡ told code 2 line 0 0
  demand1_first o code line p u =
      call.answered ∙ ap answer_of (branch_unread old o p [] [] refl first code line u (second ∷ []) (length table) (length ledger))

  pub demand1_second : (o f : List Row) (code line : ℕ) → verdict old ≡ readable o → verdict first ≡ readable f
      → verdict second ≡ unreadable code line → answer ≡ told code 3 line 0 0
  demand1_second o f code line p q u =
      call.answered
      ∙ ap answer_of (branch_unread old o p (first ∷ []) (f ∷ []) (ap (λ (v : Verdict). v ∷ []) q) second code line u []
      (length table) (length ledger))

  -- codes above 10 are told of readable tables

  pub demand1_read : 10 < answer.code → (o : List Row) × (bs : List (List Row)) × Tables old branches o bs
  demand1_read = were_read old first second (length table) (length ledger) answer call.answered

  -- "A clash names its kind and one record, or the top": codes 21 to 25 are told exactly if the condition that specs/Conditions has for the
  -- code holds and none before it does, with the least place where it holds. O and B are the tables' facts.

  module _ (o : List Row) (bs : List (List Row)) (read : Tables old branches o bs) where
    abbrev O : Facts
    O = facts_of o

    abbrev B : List Facts
    B = map facts_of bs

    -- 21: two edits give this record different contents
    pub demand1_21 : Names answer 21 (ContentClash O B) (Unit {0})
    demand1_21 = content_named old branches o bs read (length table) (length ledger) answer call.answered

    -- 22: two edits give this record different parents
    pub demand1_22 : Names answer 22 (ParentClash O B) (Nowhere (ContentClash O B))
    demand1_22 = parent_named old branches o bs read (length table) (length ledger) answer call.answered

    -- 23: two edits disagree on follower or forerunner under this parent
    pub demand1_23 : Names answer 23 (NeighbourClash O B) (Nowhere (ContentClash O B) × Nowhere (ParentClash O B))
    demand1_23 = neighbour_named old branches o bs read (length table) (length ledger) answer call.answered

    -- 24: this parent is reached, and its list stops before END
    pub demand1_24 : Names answer 24 (BrokenList O B)
        (Nowhere (ContentClash O B) × Nowhere (ParentClash O B) × Nowhere (NeighbourClash O B))
    demand1_24 = broken_named old branches o bs read (length table) (length ledger) answer call.answered

    -- 25: an edit of this record's content, or of a position under this parent, is not among the facts of the merged tree
    pub demand1_25 : Names answer 25 (LostEdit O B)
        (Nowhere (ContentClash O B) × Nowhere (ParentClash O B) × Nowhere (NeighbourClash O B) × Nowhere (BrokenList O B))
    demand1_25 = lost_named old branches o bs read (length table) (length ledger) answer call.answered

    -- all five at once: the answer is this code with this place and nothing else, exactly if the merge is refused so
    pub demand1_clash : (code place : ℕ) → 21 ≤ code → code ≤ 25 → (answer ≡ told code 0 place 0 0) ↔ Refusal O B code place
    demand1_clash = refusal_exactly old branches o bs read (length table) (length ledger) answer call.answered

    -- 21 and 22 name a record of a desk's table
    pub demand1_record : 21 ≤ answer.code → answer.code ≤ 22 → RecordOf bs answer.place
    demand1_record = record_named old branches o bs read (length table) (length ledger) answer call.answered

    -- and 23 to 25 such a record, or the top
    pub demand1_place : 21 ≤ answer.code → answer.code ≤ 25 → TopOrRecordOf bs answer.place
    demand1_place =
        let t = one_read first (second ∷ []) bs read.branches_read in
        place_named old branches o bs read (length table) (length ledger) answer call.answered t.0 t.1

  -- ---- demand 2: what is written is document 01's, and reads back as the same tree

  wrote : (f : Tree) (es : List Entry) → Within f → end ≡ done (written_tree f) es → Wrote table ledger answer table' ledger' f es
  wrote f es within d =
      record {
        answer_is = is;
        table_is = tabled;
        ledger_is = call.ledgered ∙ ap (λ (x : Outcome). ledger_after x ledger) d;
        read_back = ap verdict bytes ∙ (merged_back f within).0;
        same-tree = (merged_back f within).1;
      }
    where
      is : answer ≡ told accepted 0 0 (length (written_tree f)) (length (ledger_of es))
      is = call.answered ∙ ap answer_of d

      tabled : table' ≡ over (written_tree f) table
      tabled = call.tabled ∙ ap (λ (x : Outcome). table_after x table) d

      bytes : take answer.table_length table' ≡ written_tree f
      bytes =
          ap (λ (m : Merged). take m.table_length table') is
          ∙ ap (take (length (written_tree f))) tabled
          ∙ take-append_seam (written_tree f) (drop (length (written_tree f)) table)

  -- a tree that answers the merge of these tables, within the limits and the room of the two buffers
  abbrev Fits : List Row → List (List Row) → Tree → Type 0
  Fits o bs f = Answered o bs (length table) (length ledger) f

  -- an accepted call had three readable tables, and wrote a tree that answers their merge
  pub demand2 : answer.code ≡ accepted → (o : List Row) × (bs : List (List Row)) × (f : Tree)
      × Tables old branches o bs × Fits o bs f × Wrote table ledger answer table' ledger' f (entries_of o bs f)
  demand2 z =
      let d = ended z in
      let r = done_read old branches (length table) (length ledger) d.0 d.1 d.2 in
      let w = done_answered old branches r.0 r.1 r.2 (length table) (length ledger) d.0 d.1 d.2 in
      (r.0, r.1, w.0, r.2, w.1, rewritten r.0 r.1 w.0 w.1.within d.0 d.1 d.2 w.2 w.3)
    where
      rewritten : (o : List Row) (bs : List (List Row)) (f : Tree) → Within f → (bytes : List ℕ) (es : List Entry) → end ≡ done bytes es
          → bytes ≡ written_tree f → es ≡ entries_of o bs f → Wrote table ledger answer table' ledger' f (entries_of o bs f)
      rewritten o bs f within bytes es d p q = wrote f (entries_of o bs f) within (d ∙ λ i. done (p i) (q i))

  -- ---- demand 3: "Accepted exactly if a tree exists"; "Only one such tree exists, and it is what is written."

  module _ (o : List Row) (bs : List (List Row)) (read : Tables old branches o bs) where
    fits_done : (f : Tree) → Fits o bs f → end ≡ done (written_tree f) (entries_of o bs f)
    fits_done = answered_done old branches o bs read (length table) (length ledger)

    pub demand3 : (answer.code ≡ accepted) ↔ ((f : Tree) × Fits o bs f)
    demand3 = (to, λ w. code_is ∙ ap (λ (x : Outcome). (answer_of x).code) (fits_done w.0 w.1))
      where
        to : answer.code ≡ accepted → (f : Tree) × Fits o bs f
        to z =
            let d = ended z in
            let w = done_answered old branches o bs read (length table) (length ledger) d.0 d.1 d.2 in
            (w.0, w.1)

    pub demand3_one : (f g : Tree) → Fits o bs f → Fits o bs g → f ≡ g
    demand3_one f g v w = one_tree old branches o bs read f g v.answers w.answers

    pub demand3_written : (f : Tree) → Fits o bs f → Wrote table ledger answer table' ledger' f (entries_of o bs f)
    demand3_written f w = wrote f (entries_of o bs f) w.within (fits_done f w)

-- ---- demand 3: "Swapping the desks gives the same table or the same refusal; in the ledger only the desk marks trade places."

module _ (old first second table ledger : List ℕ) (answer answer' : Merged) (table₁ ledger₁ table₂ ledger₂ : List ℕ)
    (call : Merges old first second table ledger answer table₁ ledger₁)
    (turned : Merges old second first table ledger answer' table₂ ledger₂)
    (o f s : List Row) (read : Tables old (first ∷ second ∷ []) o (f ∷ s ∷ [])) where
  abbrev outcome : Outcome
  outcome = merge_outcome old first second table ledger

  swap : merge_outcome old second first table ledger ≡ traded_outcome outcome
  swap = swapped old first second o f s read (length table) (length ledger)

  pub demand3_swapped : (answer' ≡ answer) × (table₂ ≡ table₁) × (ledger₂ ≡ ledger_after (traded_outcome outcome) ledger)
  demand3_swapped = (
    turned.answered ∙ ap answer_of swap ∙ traded_answer outcome ∙ sym call.answered,
    turned.tabled ∙ ap (λ (x : Outcome). table_after x table) swap ∙ traded-table outcome table ∙ sym call.tabled,
    turned.ledgered ∙ ap (λ (x : Outcome). ledger_after x ledger) swap,
  )

-- ---- the tables of three texts, in document 01's words

pub tables_are : (old first second : List ℕ) (o f s : List Row) → IsTable old o → IsTable first f → IsTable second s
    → Tables old (first ∷ second ∷ []) o (f ∷ s ∷ [])
tables_are old first second o f s p q r =
    record {
      old_read = (readable_exactly old o).1 p;
      branches_read = λ i. (readable_exactly first f).1 q i ∷ (readable_exactly second s).1 r i ∷ [];
    }

-- ---- demand 1: "Lack of room is told by kind, for a short buffer with the lengths needed"; and once more the unreadable table, in
-- document 01's words

module _ (old first second table ledger : List ℕ) (answer : Merged) (table' ledger' : List ℕ)
    (call : Merges old first second table ledger answer table' ledger') where
  module _ (o : List Row) (bs : List (List Row)) (read : Tables old (first ∷ second ∷ []) o bs) where
    -- "merged table over 512 records or 32,768 bytes"
    pub demand1_26 : (answer.code ≡ 26) ↔ ((f : Tree) × TooLarge o bs f)
    demand1_26 = large_exactly old (first ∷ second ∷ []) o bs read (length table) (length ledger) answer call.answered

    pub demand1_26_told : (f : Tree) → TooLarge o bs f → answer ≡ told 26 0 0 0 0
    demand1_26_told = large_told old (first ∷ second ∷ []) o bs read (length table) (length ledger) answer call.answered

    -- "table buffer too short"
    pub demand1_31 : (answer.code ≡ 31) ↔ ((f : Tree) × TableTooLong o bs (length table) f)
    demand1_31 = table_exactly old (first ∷ second ∷ []) o bs read (length table) (length ledger) answer call.answered

    pub demand1_31_told : (f : Tree) → TableTooLong o bs (length table) f
        → answer ≡ told 31 0 0 (length (written_tree f)) (length (ledger_of (entries_of o bs f)))
    demand1_31_told = table-told old (first ∷ second ∷ []) o bs read (length table) (length ledger) answer call.answered

    -- "ledger buffer too short"
    pub demand1_32 : (answer.code ≡ 32) ↔ ((f : Tree) × LedgerTooLong o bs (length table) (length ledger) f)
    demand1_32 = ledger_exactly old (first ∷ second ∷ []) o bs read (length table) (length ledger) answer call.answered

    pub demand1_32_told : (f : Tree) → LedgerTooLong o bs (length table) (length ledger) f
        → answer ≡ told 32 0 0 (length (written_tree f)) (length (ledger_of (entries_of o bs f)))
    demand1_32_told = ledger-told old (first ∷ second ∷ []) o bs read (length table) (length ledger) answer call.answered

  -- "An unreadable table is refused with table, line and fault", each in document 01's words: the first of old, first and second

  pub unread_old : (code line : ℕ) → Refused old code line → answer ≡ told code 1 line 0 0
  unread_old code line u =
      demand1_old old first second table ledger answer table' ledger' call code line ((unreadable_exactly old code line).1 u)

  pub unread_first : (o : List Row) (code line : ℕ) → IsTable old o → Refused first code line → answer ≡ told code 2 line 0 0
  unread_first o code line p u =
      demand1_first old first second table ledger answer table' ledger' call o code line ((readable_exactly old o).1 p)
      ((unreadable_exactly first code line).1 u)

  pub unread_second : (o f : List Row) (code line : ℕ) → IsTable old o → IsTable first f → Refused second code line
      → answer ≡ told code 3 line 0 0
  unread_second o f code line p q u =
      demand1_second old first second table ledger answer table' ledger' call o f code line ((readable_exactly old o).1 p)
      ((readable_exactly first f).1 q) ((unreadable_exactly second code line).1 u)

  -- whatever the texts: the lengths told, and the room that is always enough. Document 01's buffers hold 32,768 and 8,192 bytes.

  pub lengths_limited : Limited answer
  lengths_limited = all_limited old first second (length table) (length ledger) answer call.answered

  pub never_31 : 32768 ≤ length table → answer.code ≡ 31 → ⊥
  never_31 = table_fits old first second (length table) (length ledger) answer call.answered

  pub never_32 : 8192 ≤ length ledger → answer.code ≡ 32 → ⊥
  never_32 h = ledger_fits old first second (length table) (length ledger) answer call.answered (omega arith)

  -- another call on the same texts, with the lengths that 31 or 32 told, is accepted and writes so many bytes
  module _ (short : (answer.code ≡ 31) ⊎ (answer.code ≡ 32)) (table₂ ledger₂ : List ℕ) (answer₂ : Merged) (table₂' ledger₂' : List ℕ)
      (call₂ : Merges old first second table₂ ledger₂ answer₂ table₂' ledger₂')
      (table-room : answer.table_length ≤ length table₂) (ledger-room : answer.ledger_length ≤ length ledger₂) where
    abbrev Written : Type 0
    Written = (f : Tree) × (es : List Entry) × Wrote table₂ ledger₂ answer₂ table₂' ledger₂' f es
        × (answer₂ ≡ told 0 0 0 answer.table_length answer.ledger_length)

    sized_written : (code : ℕ) (o : List Row) (bs : List (List Row)) → Tables old (first ∷ second ∷ []) o bs → (f : Tree) → Sized o bs f
        → answer ≡ told code 0 0 (length (written_tree f)) (length (ledger_of (entries_of o bs f))) → Written
    sized_written code o bs read f sized e =
        let p : answer.table_length ≡ length (written_tree f) = ap (λ (m : Merged). m.table_length) e in
        let q : answer.ledger_length ≡ length (ledger_of (entries_of o bs f)) = ap (λ (m : Merged). m.ledger_length) e in
        let contents = answer_writable old (first ∷ second ∷ []) o bs read f sized.answers in
        let within : Within f = record {
          tree = sized.answers.tree;
          contents = contents;
          few = sized.few;
          short = sized.short;
        } in
        let fits : Answered o bs (length table₂) (length ledger₂) f = record {
          answers = sized.answers;
          within = within;
          table-room = omega (arith, p);
          ledger-room = omega (arith, q);
        } in
        let w = demand3_written old first second table₂ ledger₂ answer₂ table₂' ledger₂' call₂ o bs read f fits in
        (f, entries_of o bs f, w, w.answer_is ∙ λ i. told 0 0 0 (sym p i) (sym q i))

    pub room_enough : (f : Tree) × (es : List Entry) × Wrote table₂ ledger₂ answer₂ table₂' ledger₂' f es
        × (answer₂ ≡ told 0 0 0 answer.table_length answer.ledger_length)
    room_enough = go short
      where
        go : (answer.code ≡ 31) ⊎ (answer.code ≡ 32) → Written
        go (inl z) =
            let r = demand1_read old first second table ledger answer table' ledger' call (omega arith) in
            let w = (demand1_31 r.0 r.1 r.2).0 z in
            sized_written 31 r.0 r.1 r.2 w.0 w.1.sized (demand1_31_told r.0 r.1 r.2 w.0 w.1)
        go (inr z) =
            let r = demand1_read old first second table ledger answer table' ledger' call (omega arith) in
            let w = (demand1_32 r.0 r.1 r.2).0 z in
            sized_written 32 r.0 r.1 r.2 w.0 w.1.sized (demand1_32_told r.0 r.1 r.2 w.0 w.1)
