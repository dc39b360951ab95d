-- Two tests that pass together are one. Assumes nothing.
use Rattle.std.specs.Prelude.{◌≡◌, refl, Bool, true, false}
use Rattle.std.proofs.Common.{sym}

pub same_test : (a c : Bool) → (a ≡ true → c ≡ true) → (c ≡ true → a ≡ true) → a ≡ c
same_test true c f g = sym (f refl)
same_test false true f g = g refl
same_test false false f g = refl

pub test-false : (a : Bool) → (a ≡ true → ⊥) → a ≡ false
test-false true f = absurd (f refl)
test-false false f = refl
