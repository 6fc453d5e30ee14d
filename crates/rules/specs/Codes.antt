-- The codes of document 01's table, each named once, in its order. Assumes nothing.
use Rattle.std.specs.Prelude.{List, [], ◌∷◌, ℕ}

abbrev pub accepted : ℕ
accepted = 0

-- ---- an unreadable table

-- text over 32,768 bytes
abbrev pub text_too_long : ℕ
text_too_long = 1

-- text not empty, last byte not LF
abbrev pub unended : ℕ
unended = 2

-- the line is the 513th
abbrev pub too_many_lines : ℕ
too_many_lines = 3

-- a byte before its LF is neither 9 nor 32 to 126
abbrev pub byte_not_allowed : ℕ
byte_not_allowed = 4

-- fewer than two tabs
abbrev pub few_tabs : ℕ
few_tabs = 5

-- number malformed or outside 1 to 65,535
abbrev pub bad_number : ℕ
bad_number = 6

-- parent malformed or above 65,535
abbrev pub bad_parent : ℕ
bad_parent = 7

-- content empty, over 120 bytes or with an empty field
abbrev pub bad_content : ℕ
bad_content = 8

-- number stands on an earlier line
abbrev pub number_twice : ℕ
number_twice = 9

-- parent neither 0 nor on an earlier line
abbrev pub parent_missing : ℕ
parent_missing = 10

-- ---- a clash

abbrev pub content_clash : ℕ
content_clash = 21

abbrev pub parent_clash : ℕ
parent_clash = 22

abbrev pub neighbour_clash : ℕ
neighbour_clash = 23

abbrev pub broken_list : ℕ
broken_list = 24

abbrev pub lost_edit : ℕ
lost_edit = 25

-- ---- lack of room

-- merged table over 512 records or 32,768 bytes
abbrev pub merged_too_large : ℕ
merged_too_large = 26

-- table buffer too short
abbrev pub table_too_short : ℕ
table_too_short = 31

-- ledger buffer too short
abbrev pub ledger_too_short : ℕ
ledger_too_short = 32

-- ---- all of them, in the table's order
abbrev pub codes : List ℕ
codes =
    accepted ∷ text_too_long ∷ unended ∷ too_many_lines ∷ byte_not_allowed ∷ few_tabs ∷ bad_number ∷ bad_parent ∷ bad_content ∷ number_twice
    ∷ parent_missing ∷ content_clash ∷ parent_clash ∷ neighbour_clash ∷ broken_list ∷ lost_edit ∷ merged_too_large ∷ table_too_short
    ∷ ledger_too_short ∷ []
