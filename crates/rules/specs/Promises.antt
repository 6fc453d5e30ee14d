-- What each public call promises: an equation for every number that it answers and every byte lent to it, for all inputs. A name with
-- a prime is a buffer after the call. Assumes nothing.
use Rattle.std.specs.Prelude.{◌≡◌, List, ℕ, ◌+◌, length, take, drop}
use Rattle.std.specs.Borrow.{Bor}
use Rattle.rules.specs.Calls.{check_answer, tidy_answer, tidy_buffer, content_answer, merge_outcome, answer_of, table_after, ledger_after}
use Rattle.rules.specs.declared.answers.Checked.{Checked}
use Rattle.rules.specs.declared.answers.Tidied.{Tidied}
use Rattle.rules.specs.declared.answers.Part.{Part}
use Rattle.rules.specs.declared.answers.Merged.{Merged}

pub record Checks (text : List ℕ) (answer : Checked) : Type 0 where
  pub answered : answer ≡ check_answer text

pub record Tidies (text buffer : List ℕ) (answer : Tidied) (buffer' : List ℕ) : Type 0 where
  pub answered : answer ≡ tidy_answer text (length buffer)
  pub buffered : buffer' ≡ tidy_buffer text buffer

-- the very part of the text: in its own block of memory, so many bytes on, with the bytes that lie there
pub record IsPart (text handed : Bor (List ℕ)) (part : Part) : Type 0 where
  pub block : handed.ref_ptr.0 ≡ text.ref_ptr.0
  pub place : handed.ref_ptr.1 ≡ text.ref_ptr.1 + part.start
  pub bytes : handed.now ≡ take part.length (drop part.start text.now)

pub record HandsBack (text : Bor (List ℕ)) (n : ℕ) (handed : Bor (List ℕ)) : Type 0 where
  pub part : IsPart text handed (content_answer text.now n)

pub record Merges (old first second table ledger : List ℕ) (answer : Merged) (table' ledger' : List ℕ) : Type 0 where
  pub answered : answer ≡ answer_of (merge_outcome old first second table ledger)
  pub tabled : table' ≡ table_after (merge_outcome old first second table ledger) table
  pub ledgered : ledger' ≡ ledger_after (merge_outcome old first second table ledger) ledger
