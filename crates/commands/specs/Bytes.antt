-- Text as bytes: the bytes that part lines and fields, digits, and fixed strings.
use Rattle.std.specs.Prelude.{ℕ, List, [], ◌∷◌}
use Prim.Native.Char.{code}
use Prim.Native.String.{String}

-- "A line ends at byte 10"
abbrev pub line_end : ℕ
line_end = 10

-- between two fields
abbrev pub space : ℕ
space = 32

-- the digits' bytes, 0 to 9
abbrev pub digit_zero : ℕ
digit_zero = 48

abbrev pub digit_nine : ℕ
digit_nine = 57

-- the bytes of an ASCII text
abbrev pub bytes : String → List ℕ
bytes String.[] = []
bytes (String.◌∷◌ c s) = code c ∷ bytes s
