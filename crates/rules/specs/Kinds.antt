-- The codes of document 01's table, for each kind of refusal. Assumes nothing.
use Rattle.std.specs.Prelude.{ℕ}
use Rattle.rules.specs.Codes.{text_too_long, unended, too_many_lines, byte_not_allowed, few_tabs, bad_number, bad_parent, bad_content}
use Rattle.rules.specs.Codes.{number_twice, parent_missing, content_clash, parent_clash, neighbour_clash, broken_list, lost_edit}
use Rattle.rules.specs.Codes.{merged_too_large, table_too_short, ledger_too_short}
use Rattle.rules.specs.declared.kinds.Fault.{Fault}
use Rattle.rules.specs.declared.kinds.Fault.TheVariants.{TextTooLong, Unended, TooManyLines, ByteNotAllowed, FewTabs}
use Rattle.rules.specs.declared.kinds.Fault.TheVariants.{BadNumber, BadParent, BadContent, NumberTwice, ParentMissing}
use Rattle.rules.specs.declared.kinds.Clash.{Clash}
use Rattle.rules.specs.declared.kinds.Clash.TheVariants.{Content, Parent, Neighbour, BrokenList, LostEdit}
use Rattle.rules.specs.declared.kinds.Shortage.{Shortage}
use Rattle.rules.specs.declared.kinds.Shortage.TheVariants.{Limits, Table, Ledger}

abbrev pub fault_code : Fault → ℕ
fault_code TextTooLong = text_too_long
fault_code Unended = unended
fault_code TooManyLines = too_many_lines
fault_code ByteNotAllowed = byte_not_allowed
fault_code FewTabs = few_tabs
fault_code BadNumber = bad_number
fault_code BadParent = bad_parent
fault_code BadContent = bad_content
fault_code NumberTwice = number_twice
fault_code ParentMissing = parent_missing

abbrev pub clash_code : Clash → ℕ
clash_code Content = content_clash
clash_code Parent = parent_clash
clash_code Neighbour = neighbour_clash
clash_code BrokenList = broken_list
clash_code LostEdit = lost_edit

abbrev pub shortage_code : Shortage → ℕ
shortage_code Limits = merged_too_large
shortage_code Table = table_too_short
shortage_code Ledger = ledger_too_short
