-- Numerals and lines: a decimal numeral has at most 20 digits, no leading zero, and is read back as its number; an output line
-- has at most 84 bytes, and a report of up to 64 lines with its answer fits 8,192. Assumes nothing.
use Rattle.std.specs.Prelude.{ℕ, ◌<◌, ◌≡◌, true, List, length, get_or}
use Rattle.laws.specs.Tests.{all}
use Rattle.commands.specs.Bytes.{digit_zero}
use Rattle.commands.specs.Grammar.{is_digit, value}

-- ---- A decimal numeral is read back as its number

pub record Spelt (n : ℕ) (w : List ℕ) : Type 0 where
  pub some-digit : 0 < length w
  pub digits : all is_digit w ≡ true
  pub number : value w ≡ n
  pub no_zero : 0 < n → digit_zero < get_or w 0 0

-- bytes of the program's output buffer
abbrev pub output_bytes : ℕ
output_bytes = 8192
