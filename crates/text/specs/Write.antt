-- Text written into a lent buffer from a place on.
use Rattle.std.specs.Prelude.{ℕ, ◌+◌, ◌*◌, Bool, cond, List, ◌++◌, leb, length, take, drop, Option, Some, None}
use Rattle.limits.specs.Bounds.{max_digits}

-- the buffer with the text from `at` on: what stands before it and after it is as it was
unfoldable pub placed : List ℕ → ℕ → List ℕ → List ℕ
placed old at text = take at old ++ (text ++ drop (at + length text) old)

-- bytes of a space and a numeral, at most
abbrev pub max_field : ℕ
max_field = 1 + max_digits

-- bytes of an output line, at most: four numerals of 20 digits, three spaces and byte 10
abbrev pub max_text : ℕ
max_text = 4 * max_field

-- has the buffer room for any output line from `at` on?
abbrev pub has_room : List ℕ → ℕ → Bool
has_room old at = leb (at + max_text) (length old)

-- the buffer and the place after a line is written; with no room for it nothing is
unfoldable pub buffer_after : List ℕ → ℕ → List ℕ → List ℕ
buffer_after old at text = cond (has_room old at) (placed old at text) old

unfoldable pub place_after : List ℕ → ℕ → List ℕ → Option ℕ
place_after old at text = cond (has_room old at) (Some (at + length text)) None
