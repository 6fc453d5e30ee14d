-- How one table lies in memory: a line for each number, and eight fields for each line. Line 0 is the top's. What is read there, and
-- what one line more does. ls is the array of lines, fs the array of facts, l a line, n a record, r a parent, p the one before, k a
-- field. Assumes nothing.
use Rattle.std.specs.Prelude.{cond, List, ℕ, ◌+◌, ◌*◌, ◌-◌, ◌/◌, ◌%◌, eqb, ltb, get_or, set, replicate}
use Rattle.rules.specs.Marks.{START, END}

-- ---- the shape

-- numbers that a line is kept for
abbrev pub NUMBERS : ℕ
NUMBERS = 65536

-- lines that there is room for, the top's and a merged table's included
abbrev pub ROOM : ℕ
ROOM = 1025

-- fields of a line
abbrev pub WIDTH : ℕ
WIDTH = 8

abbrev pub NUMBER : ℕ
NUMBER = 0

abbrev pub PARENT : ℕ
PARENT = 1

abbrev pub FORERUNNER : ℕ
FORERUNNER = 2

abbrev pub FOLLOWER : ℕ
FOLLOWER = 3

abbrev pub FIRST : ℕ
FIRST = 4

abbrev pub LAST : ℕ
LAST = 5

-- where the content lies, and how long it is
abbrev pub PLACE : ℕ
PLACE = 6

abbrev pub LENGTH : ℕ
LENGTH = 7

-- tables that lie side by side: old, first and second
abbrev pub TABLES : ℕ
TABLES = 3

-- all of them but old
abbrev pub BRANCHES : ℕ
BRANCHES = TABLES - 1

-- ---- a place: the origin of the content, the text that holds it, and where it starts there. A table just read has one text, and no
-- origin.

-- places of a text that are told apart
abbrev pub SPAN : ℕ
SPAN = 65536

-- texts that are told apart
abbrev pub TEXTS : ℕ
TEXTS = 16

abbrev pub start_of : ℕ → ℕ
start_of place = place % SPAN

abbrev pub text_of : ℕ → ℕ
text_of place = place / SPAN % TEXTS

abbrev pub origin_of : ℕ → ℕ
origin_of place = place / SPAN / TEXTS

-- ---- what is read

-- a number's line; 0 for the top and for an absent number
abbrev pub line_at : List ℕ → ℕ → ℕ
line_at ls n = cond (ltb (get_or ls n 0) ROOM) (get_or ls n 0) 0

-- a field of a line
abbrev pub field_on : List ℕ → ℕ → ℕ → ℕ
field_on fs l k = get_or fs (l * WIDTH + k) 0

-- a field of a record's line
abbrev pub field : List ℕ → List ℕ → ℕ → ℕ → ℕ
field ls fs n k = field_on fs (line_at ls n) k

-- START's follower is a field of the parent, a record's its own
abbrev pub who : ℕ → ℕ → ℕ
who r p = cond (eqb p START) r p

abbrev pub way : ℕ → ℕ
way p = cond (eqb p START) FIRST FOLLOWER

-- ---- one line more

-- the fields of a new line: nothing follows it, and it has no child
abbrev pub laid : List ℕ → ℕ → ℕ → ℕ → ℕ → ℕ → ℕ → List ℕ
laid fs l n r p start long =
    set (set (set (set (set (set (set (set fs
    (l * WIDTH + NUMBER) n) (l * WIDTH + PARENT) r) (l * WIDTH + FORERUNNER) p) (l * WIDTH + FOLLOWER) END)
    (l * WIDTH + FIRST) END) (l * WIDTH + LAST) START) (l * WIDTH + PLACE) start) (l * WIDTH + LENGTH) long

abbrev pub put_field : List ℕ → List ℕ → ℕ → ℕ → ℕ → List ℕ
put_field ls fs n k v = set fs (line_at ls n * WIDTH + k) v

-- record n on line l
abbrev pub add_line : List ℕ → ℕ → ℕ → List ℕ
add_line ls l n = set ls n l

-- record n on line l: the last child of r now, after p; its content at a place of its text. ls has n's line already.
abbrev pub add_facts : List ℕ → List ℕ → ℕ → ℕ → ℕ → ℕ → ℕ → ℕ → List ℕ
add_facts ls fs l n r p start long = put_field ls (put_field ls (laid fs l n r p start long) (who r p) (way p) n) r LAST n

-- ---- no line yet

abbrev pub no_lines : List ℕ
no_lines = replicate NUMBERS 0

-- the top has no child
abbrev pub opened : List ℕ → List ℕ
opened fs = set (set fs FIRST END) LAST START

abbrev pub no_facts : List ℕ
no_facts = replicate (ROOM * WIDTH) 0
