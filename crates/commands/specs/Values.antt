-- The value of a numeral's digits, part by part. Assumes nothing.
use Rattle.std.specs.Prelude.{ℕ, ◌+◌, ◌-◌, ◌*◌, ◌≤◌, ◌≡◌, refl, cond, List, [], ◌∷◌, ◌++◌, Option, Some, None}
use Rattle.std.proofs.Common.{arith}
use Rattle.commands.specs.Bytes.{digit_zero}
use Rattle.commands.specs.Grammar.{value_from, value, is_numeral}

pub value-append : (v : ℕ) (u w : List ℕ) → value_from v (u ++ w) ≡ value_from (value_from v u) w
value-append v [] w = refl
value-append v (b ∷ u) w = value-append (10 * v + (b - digit_zero)) u w

pub value_grows : (v : ℕ) (w : List ℕ) → v ≤ value_from v w
value_grows v [] = omega arith
value_grows v (b ∷ w) = omega (arith, value_grows (10 * v + (b - digit_zero)) w)

-- the number that a word says, if it is a numeral
abbrev pub numeral_of : List ℕ → Option ℕ
numeral_of w = cond (is_numeral w) (Some (value w)) None
