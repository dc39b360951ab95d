-- What follows from the disk loss's rule, for any function that obeys it, and the paper's named values. Assumes nothing.
use Rattle.std.specs.Prelude.{ℕ, zero, suc, ◌*◌, ◌≤◌, ◌<◌, ◌≡◌, refl}
use Rattle.std.proofs.Common.{arith, mul-le-mul}
use Rattle.std.proofs.Math.Decide.{dec_le}
use Rattle.std.proofs.Math.ListN.{get_or-eq_default}
use Rattle.limits.specs.Bounds.{max_bookings}
use Rattle.loss.specs.Loss.{table, loss_at, square_of_one, LossRule}
use Rattle.loss.proofs.LossLaws.{table-rule, table-length}
use Rattle.loss.specs.Rising.{Named, Rising, max_loss}

-- a root is at most a number whose square is larger than the other's
root-most : (x y m n : ℕ) → x * x ≤ m → m ≤ n → n < suc y * suc y → x ≤ y
root-most x y m n low h high = go (dec_le x y)
  where
    go : Dec (x ≤ y) → x ≤ y
    go (yes e) = e
    go (no e) =
        let above : suc y ≤ x = omega arith in
        let square : suc y * suc y ≤ x * x = mul-le-mul above above in
        absurd (omega arith)

-- from the rule: the loss of no film is 0, and up to 256 films the loss never falls
pub rule-rising : (loss : ℕ → ℕ) → ((k : ℕ) → k ≤ max_bookings → LossRule loss k) → Rising loss
rule-rising loss r =
    record {
      none = none (loss 0) (r 0 (omega arith)).low;
      rises =
          λ j k u v.
          root-most (loss j) (loss k) (j * square_of_one) (k * square_of_one) (r j (omega arith)).low (omega arith) (r k v).high;
    }
  where
    none : (x : ℕ) → x * x ≤ 0 * square_of_one → x ≡ 0
    none zero e = refl
    none (suc x) e = absurd (omega arith)

-- from the rule: no loss is above 1,600,000
pub rule-bound : (loss : ℕ → ℕ) (k : ℕ) → k ≤ max_bookings → LossRule loss k → loss k ≤ max_loss
rule-bound loss k h r =
    root-most (loss k) max_loss (k * square_of_one) (max_bookings * square_of_one) r.low (omega arith) (omega arith)

pub loss-rising : Rising loss_at
loss-rising = rule-rising loss_at table-rule

-- past the table it is 0
pub loss-bound : (k : ℕ) → loss_at k ≤ max_loss
loss-bound k = go (dec_le k max_bookings)
  where
    go : Dec (k ≤ max_bookings) → loss_at k ≤ max_loss
    go (yes h) = rule-bound loss_at k h (table-rule k h)
    go (no h) = rw (get_or-eq_default table 0 {n = k} (omega (arith, table-length))) (omega arith)

pub loss-named : Named loss_at
unfolding table
loss-named = record { of0 = refl; of1 = refl; of2 = refl; of3 = refl; of256 = refl }
