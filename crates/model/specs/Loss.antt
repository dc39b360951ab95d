-- The disk loss is an argument of the day's definitions. What the claims use of it is `Rising`: no loss with no film open,
-- and one film more never loses less. The papers' table is `loss_at`, and it rises.
pub use Rattle.loss.specs.Loss.{loss_at}
pub use Rattle.loss.specs.Rising.{Rising}
pub use Rattle.loss.proofs.Rising.{loss-rising}
