-- The rule of the disk loss from its test.
use Rattle.std.specs.Prelude.{ℕ, ◌≡◌, true}
use Rattle.std.proofs.Common.{leb-true, ltb-true}
use Rattle.laws.specs.Tests.{left, right}
use Rattle.loss.specs.Loss.{LossRule, loss_at, obeys}

-- an entry that passes the test keeps the rule
pub obeyed : (k : ℕ) → obeys k (loss_at k) ≡ true → LossRule loss_at k
obeyed k passed =
    record {
      low = leb-true _ _ (left _ _ passed);
      high = ltb-true _ _ (right _ passed);
    }
