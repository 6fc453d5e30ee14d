-- The proof of `merge`: the texts are read, then refused or merged. Assumes nothing.
use Rattle.std.proofs.Common.{◌≡◌, ◌∙◌, sym, List, ◌∷◌, [], ℕ, refl, subst}
use Rattle.facts.specs.Inputs.{lines_of, facts_of, counts_of}
use Rattle.table.specs.All.{refused_by, ReadsAll}
use Rattle.table.proofs.Steps.{fault_coded}
use Rattle.merge.specs.Merging.{MergesTables}
use Rattle.std.specs.Prelude.{Ok, Err}
use Rattle.brooksaddle.proofs.Merging.{merge_unread, merge_ready, merge_read}
use Rattle.brooksaddle.proofs.merge.Goals as goal

pub merge_tables-requires : goal.merge_tables-requires
merge_tables-requires c = rw c.in-Ok.ensures.texts (merge_ready _ _ _ _ _ _ _ c.in-Ok.ensures.read refl)

pub returns-in-Ok : goal.returns-in-Ok
returns-in-Ok c =
    let i = c.read_all.new.inputs in
    let texts : List (List ℕ) = c.args.old.now ∷ c.args.first.now ∷ c.args.second.now ∷ [] in
    let own : c.unread.result.text.now ∷ c.unread-2.result.text.now ∷ c.unread-3.result.text.now ∷ [] ≡ texts =
    λ j. (c.unread.ensures.text j).now ∷ (c.unread-2.ensures.text j).now ∷ (c.unread-3.ensures.text j).now ∷ [] in
    merge_read _ _ _ _ _ _ _
    (subst (λ (ts : List (List ℕ)). ReadsAll ts (lines_of i) (facts_of i) (counts_of i) (refused_by (Ok tt))) own c.in-Ok.ensures.read)
    refl _ _ _ _ _
    (subst (λ (ts : List (List ℕ)). MergesTables ts (lines_of i) (facts_of i) (counts_of i) c.args.table.now c.args.ledger.now
    c.merge_tables.result c.merge_tables.new.table c.merge_tables.new.ledger) (c.in-Ok.ensures.texts ∙ own) c.merge_tables.ensures)

pub returns-in-Err : goal.returns-in-Err
returns-in-Err c =
    let i = c.read_all.new.inputs in
    let texts : List (List ℕ) = c.args.old.now ∷ c.args.first.now ∷ c.args.second.now ∷ [] in
    let own : c.unread.result.text.now ∷ c.unread-2.result.text.now ∷ c.unread-3.result.text.now ∷ [] ≡ texts =
    λ j. (c.unread.ensures.text j).now ∷ (c.unread-2.ensures.text j).now ∷ (c.unread-3.ensures.text j).now ∷ [] in
    merge_unread _ _ _ _ _ _ _
    (subst (λ (ts : List (List ℕ)). ReadsAll ts (lines_of i) (facts_of i) (counts_of i) (refused_by (Err c.in-Err.z))) own
    c.in-Err.ensures.read)
    _ _ _ _ _ _ c.from.ensures refl refl (λ e. fault_coded c.in-Err.z.why.fault (sym c.from.ensures ∙ e)) c.refused.ensures
