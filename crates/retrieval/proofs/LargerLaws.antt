-- The larger of two totals by arithmetic alone. Document 02, #104: "work it out by arithmetic, without if, match, while, && or ||,
-- and show that it gives the larger for any two totals a film can have". Assumes nothing.
use Rattle.std.specs.Prelude.{◌≡◌, refl, ℕ, ◌+◌, ◌-◌, ◌*◌, ◌/◌, ◌%◌, ◌^◌, ◌≤◌, ◌<◌, max}
use Rattle.std.proofs.Common.{◌∙◌, mul-zero, mul-one, arith}
use Rattle.std.proofs.Math.Decide.{dec_le}
use Rattle.retrieval.specs.Stored.{max_held}

-- what a is more than b, and 0 where it is not: d is their difference above 2 ^ 63, so that d / 2 ^ 63 is 1 exactly if b is at most a
pub more : (a b d : ℕ) → a < 2 ^ 63 → b < 2 ^ 63 → d ≡ a + 2 ^ 63 - b → (d % 2 ^ 63) * (d / 2 ^ 63) ≡ a - b
more a b d h l e = pick (dec_le b a)
  where
    pick : Dec (b ≤ a) → (d % 2 ^ 63) * (d / 2 ^ 63) ≡ a - b
    pick (yes k) =
        let q : d / 2 ^ 63 ≡ 1 = omega arith in
        let r : d % 2 ^ 63 ≡ a - b = omega arith in
        rw q (mul-one (d % 2 ^ 63) ∙ r)
    pick (no k) =
        let q : d / 2 ^ 63 ≡ 0 = omega arith in
        let z : a - b ≡ 0 = omega arith in
        rw (q, z) (mul-zero (d % 2 ^ 63))

-- the larger of any two totals that a film can have
pub larger-total : (a b : ℕ) → a ≤ max_held → b ≤ max_held
    → let d = a + 2 ^ 63 - b in b + (d % 2 ^ 63) * (d / 2 ^ 63) ≡ max a b
larger-total a b h k = omega (arith, more a b (a + 2 ^ 63 - b) (omega arith) (omega arith) refl)
