-- The rows that a lent list loads: blank ones, with the list's first records stored in them. Assumes nothing.
use Rattle.std.proofs.Common.{◌≡◌, ℕ, ◌-◌, min, List, ◌++◌, length, take, replicate, ◌∙◌, ap, ap₂, arith}
use Rattle.std.proofs.lemmas.List.{drop-replicate, length-replicate, take_min}
use Rattle.limits.specs.Bounds.{max_bookings}
use Rattle.model.specs.declared.Booking.{Booking}
use Rattle.model.specs.Calls.{no_booking}
use Rattle.interface.specs.Records.{loaded, stored, fitting}

-- z is the record whose every field is 0
pub stored-blank : (list : List Booking) (z : Booking)
    → z.name ≡ 0 × (z.film ≡ 0 × (z.start ≡ 0 × (z.prefetch ≡ 0 × (z.reserve ≡ 0 × z.cabs ≡ 0))))
    → stored (length list) list (replicate max_bookings z) ≡ loaded list
stored-blank list z e =
    let n = fitting (length list) (length (replicate max_bookings z)) in
    let k : n ≡ min max_bookings (length list) = omega (arith, length-replicate max_bookings z) in
    let blanks : max_bookings - n ≡ max_bookings - length list = omega arith in
    let blank : z ≡ no_booking =
    λ i. record { name = e.0 i; film = e.1.0 i; start = e.1.1.0 i; prefetch = e.1.1.1.0 i; reserve = e.1.1.1.1.0 i; cabs = e.1.1.1.1.1 i } in
    ap₂ (λ (a b : List Booking). a ++ b) (ap (λ (i : ℕ). take i list) k ∙ take_min max_bookings list)
    (drop-replicate n max_bookings z ∙ ap₂ (λ (i : ℕ) (b : Booking). replicate i b) blanks blank)
