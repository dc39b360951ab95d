-- The model's tests of a list, by std's words.
use Rattle.std.proofs.Common.{◌≡◌, ◌||◌, refl, ap, Bool, List, [], ◌∷◌, ℕ, eqb}
use Rattle.std.specs.List.{list_any}
use Rattle.model.specs.Questions.{has_name}
use Rattle.model.specs.declared.Booking.{Booking}

pub has_name-any : (name : ℕ) (bs : List Booking) → list_any (λ (b : Booking). eqb b.name name) bs ≡ has_name name bs
has_name-any name [] = refl
has_name-any name (b ∷ bs) = ap (λ (v : Bool). eqb b.name name || v) (has_name-any name bs)
