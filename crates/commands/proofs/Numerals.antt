-- A numeral read digit by digit. Assumes nothing.
use Rattle.std.specs.Prelude.{ℕ, suc, ◌+◌, ◌-◌, ◌*◌, ◌^◌, ◌<◌, ◌≤◌, ◌≡◌, refl, Bool, true, false, cond, ◌&&◌, List, ◌∷◌, ltb, length, get_or, drop, Option, Some, None}
use Rattle.std.proofs.Common.{arith, lt-ltb, le-ltb, le-leb, drop-cons, drop_of_length-le}
use Rattle.limits.specs.Bounds.{max_digits}
use Rattle.laws.specs.Tests.{all}
use Rattle.commands.specs.Bytes.{digit_zero}
use Rattle.commands.specs.Grammar.{is_digit, value_from}
use Rattle.commands.specs.Values.{value_grows, numeral_of}

and-false : (t : Bool) → t && false ≡ false
and-false true = refl
and-false false = refl

-- the number v with the digits of w after it, if they are digits and it fits
abbrev pub read_from : ℕ → List ℕ → Option ℕ
read_from v w = cond (all is_digit w && ltb (value_from v w) (2 ^ 64)) (Some (value_from v w)) None

pub whole : (w : List ℕ) → 0 < length w → length w ≤ max_digits → numeral_of w ≡ read_from 0 w
whole w h k = rw (lt-ltb 0 (length w) h, le-leb (length w) max_digits k)

-- a digit too many for 64 bits
pub none-over : (w : List ℕ) (v i : ℕ) → i < length w → 2 ^ 64 ≤ 10 * v + (get_or w i 0 - digit_zero) → None ≡ read_from v (drop i w)
none-over w v i h k =
    let b = get_or w i 0 in
    let l = drop (suc i) w in
    let over : 2 ^ 64 ≤ value_from v (b ∷ l) = omega (arith, value_grows (10 * v + (b - digit_zero)) l) in
    rw (drop-cons w i 0 h) (simp (le-ltb (value_from v (b ∷ l)) (2 ^ 64) over, and-false))

-- the word's end
pub some-end : (w : List ℕ) (v i : ℕ) → length w ≤ i → v < 2 ^ 64 → Some v ≡ read_from v (drop i w)
some-end w v i h k = rw (drop_of_length-le w h, lt-ltb v (2 ^ 64) k)
