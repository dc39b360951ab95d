-- What follows from the disk loss's rule, for any function that obeys it, and the paper's named values. Assumes nothing.
use Rattle.std.specs.Prelude.{ℕ, ◌≤◌, ◌≡◌}
use Rattle.limits.specs.Bounds.{max_bookings}

-- no loss with no film open, and one film more never loses less
pub record Rising (loss : ℕ → ℕ) : Type 0 where
  pub none : loss 0 ≡ 0
  pub rises : (j k : ℕ) → j ≤ k → k ≤ max_bookings → loss j ≤ loss k

-- the loss of as many films as a day can have open
abbrev pub max_loss : ℕ
max_loss = 1600000

-- "loss(0) = 0, loss(1) = 100,000, loss(2) = 141,421, loss(3) = 173,205, loss(256) = 1,600,000"
pub record Named (loss : ℕ → ℕ) : Type 0 where
  pub of0 : loss 0 ≡ 0
  pub of1 : loss 1 ≡ 100000
  pub of2 : loss 2 ≡ 141421
  pub of3 : loss 3 ≡ 173205
  pub of256 : loss 256 ≡ 1600000
