-- Numbers in a script, least significant byte first, with 0 for a byte past the end: each at an offset of an operation, whose
-- script begins at its opcode.
use Rattle.std.specs.Prelude.{ℕ, ◌+◌, ◌*◌, List, get_or}

abbrev pub byte : List ℕ → ℕ → ℕ
byte script offset = get_or script offset 0

abbrev pub half : List ℕ → ℕ → ℕ
half script offset = byte script offset + 256 * byte script (offset + 1)

abbrev pub word : List ℕ → ℕ → ℕ
word script offset = half script offset + 65536 * half script (offset + 2)

abbrev pub long : List ℕ → ℕ → ℕ
long script offset = word script offset + 4294967296 * word script (offset + 4)
