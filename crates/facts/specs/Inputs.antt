-- What lies in memory for the tables of a merge, as lists that go by the tables' numbers. Assumes nothing.
use Rattle.std.specs.Prelude.{List, map, ℕ}
use Rattle.facts.specs.Table.{lines_in, facts_in}
use Rattle.facts.specs.declared.inputs.Input.{Input}
use Rattle.facts.specs.declared.inputs.Inputs.{Inputs}

abbrev pub texts_of : Inputs → List (List ℕ)
texts_of inputs = map (λ (x : Input). x.text.now) inputs.tables

abbrev pub lines_of : Inputs → List (List ℕ)
lines_of inputs = map (λ (x : Input). lines_in x.table) inputs.tables

abbrev pub facts_of : Inputs → List (List ℕ)
facts_of inputs = map (λ (x : Input). facts_in x.table) inputs.tables

-- how many records each has
abbrev pub counts_of : Inputs → List ℕ
counts_of inputs = map (λ (x : Input). x.count) inputs.tables
