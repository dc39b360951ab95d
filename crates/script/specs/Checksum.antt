-- The checksum that stands for values too many to print.
use Rattle.std.specs.Prelude.{ℕ, ◌+◌, ◌*◌, ◌%◌}

-- the largest prime below 2^32
abbrev pub modulus : ℕ
modulus = 4294967291

abbrev pub multiplier : ℕ
multiplier = 1000003

-- the checksum after one value more; a checksum is below the modulus
abbrev pub absorb : ℕ → ℕ → ℕ
absorb sum value = (sum % modulus * multiplier + value % modulus) % modulus
