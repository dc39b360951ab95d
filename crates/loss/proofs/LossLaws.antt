-- The disk loss (document 01, 'The disk loss').
use Rattle.std.specs.Prelude.{ℕ, suc, ◌≤◌, ◌<◌, ◌≡◌, refl, true, length}
use Rattle.std.proofs.Common.{arith}
use Rattle.limits.specs.Bounds.{max_bookings}
use Rattle.laws.specs.Table.{entries, entry}
use Rattle.loss.specs.Loss.{LossRule, loss_at, obeys, table}
use Rattle.loss.proofs.Obeyed.{obeyed}

-- the test over the whole table, computed
pub table-obeys : entries obeys 0 table ≡ true
unfolding table
table-obeys = refl

pub table-length : length table ≡ suc max_bookings
unfolding table
table-length = refl

-- the table is the paper's rule at each k from 0 to 256
pub table-rule : (k : ℕ) → k ≤ max_bookings → LossRule loss_at k
table-rule k h =
    let inside : k < length table = omega (arith, table-length) in
    obeyed k (entry obeys table table-obeys k inside)
