-- The bytes of a quoted text. Assumes nothing.
use Rattle.std.specs.Prelude.{List, [] as none, ◌∷◌ as ◌and◌, ℕ}
use Prim.Native.Char.{code}
use Prim.Native.String.{String, [], ◌∷◌}

abbrev pub bytes : String → List ℕ
bytes [] = none
bytes (c ∷ s) = code c and bytes s
