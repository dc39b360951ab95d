-- Loading and storing: what is taken of a lent list, and what comes back into it. Assumes nothing.
use Rattle.std.specs.Prelude.{◌≡◌, refl, ℕ, zero, suc, ◌-◌, ◌≤◌, ◌<◌, length, take, drop, set, replicate}
use Rattle.std.proofs.Common.{sym, ◌∙◌, ap, not-suc-le-zero, le_of_suc-le-suc, arith, length-append, length-take, take-append-drop, length-take-le, take-take}
use mathlib.Core.List.{List, [], ◌∷◌, ◌++◌, tail-eq_of_cons-eq, cons-ne-nil}
use Rattle.std.proofs.lemmas.List.{length-replicate, set_split, take-append-le}
use Rattle.std.proofs.Math.Seq.{append_snoc}
use Rattle.limits.specs.Bounds.{max_bookings}
use Rattle.model.specs.Calls.{no_booking}
use Rattle.model.specs.declared.Booking.{Booking}
use Rattle.interface.specs.Records.{loaded, fitting, stored}

-- there are 256 rows
pub length-loaded : (list : List Booking) → length (loaded list) ≡ max_bookings
length-loaded list =
    length-append (take max_bookings list) (replicate (max_bookings - length list) no_booking)
    ∙ omega (arith, length-take max_bookings list, length-replicate (max_bookings - length list) no_booking)

-- the first records of the list are those of its rows
pub take-loaded : (c : ℕ) (list : List Booking) → c ≤ max_bookings → c ≤ length list → take c (loaded list) ≡ take c list
take-loaded c list h k =
    take-append-le c (take max_bookings list) (replicate (max_bookings - length list) no_booking) (omega (arith, length-take max_bookings list))
    ∙ take-take c max_bookings list h

-- a front p before the rest of a, whose first n are those of l, comes back as p before the rest of l
front-back : {A : Type 0} (p a l : List A) (n : ℕ) → take n a ≡ take n l → length p ≤ n → n ≤ length l
    → take n (p ++ drop (length p) a) ++ drop n l ≡ p ++ drop (length p) l
front-back {A} [] a l n e h k = ap (λ (r : List A). r ++ drop n l) e ∙ take-append-drop n l
front-back (x ∷ p) a l zero e h k = absurd (not-suc-le-zero h)
front-back (x ∷ p) a [] (suc n) e h k = absurd (not-suc-le-zero k)
front-back (x ∷ p) [] (y ∷ l) (suc n) e h k = absurd (cons-ne-nil y (take n l) (sym e))
front-back {A} (x ∷ p) (z ∷ a) (y ∷ l) (suc n) e h k =
    ap (λ (r : List A). x ∷ r) (front-back p a l n (tail-eq_of_cons-eq e) (le_of_suc-le-suc h) (le_of_suc-le-suc k))

-- rows with a new front come back as the list with that front
pub stored-front : (p list : List Booking) → length p ≤ max_bookings → length p ≤ length list
    → stored max_bookings (p ++ drop (length p) (loaded list)) list ≡ p ++ drop (length p) list
stored-front p list h k =
    let n : ℕ = fitting max_bookings (length list) in
    front-back p (loaded list) list n (take-loaded n list (omega arith) (omega arith)) (omega arith) (omega arith)

-- rows as they were loaded leave the list as it was
pub stored_same : (list : List Booking) → stored max_bookings (loaded list) list ≡ list
stored_same list = stored-front [] list (omega arith) (omega arith)

-- one row written anew, below 256 and within the list
pub stored-set : (c : ℕ) (b : Booking) (list : List Booking) → c < max_bookings → c < length list → stored max_bookings (set (loaded list) c b) list ≡ set list c b
stored-set c b list h k =
    let p : List Booking = take c list ++ (b ∷ []) in
    let lp : length p ≡ suc c = length-append (take c list) (b ∷ []) ∙ omega (arith, length-take-le c list (omega arith)) in
    let rows : set (loaded list) c b ≡ p ++ drop (length p) (loaded list) =
    set_front c b (loaded list) list (omega (arith, length-loaded list)) (take-loaded c list (omega arith) (omega arith)) ∙ ap (λ (n : ℕ). p ++ drop n (loaded list)) (sym lp) in
    let whole : set list c b ≡ p ++ drop (length p) list = set_front c b list list k refl ∙ ap (λ (n : ℕ). p ++ drop n list) (sym lp) in
    ap (λ (r : List Booking). stored max_bookings r list) rows ∙ stored-front p list (omega arith) (omega arith) ∙ sym whole
  where
    set_front : (c : ℕ) (b : Booking) (l m : List Booking) → c < length l → take c l ≡ take c m → set l c b ≡ (take c m ++ (b ∷ [])) ++ drop (suc c) l
    set_front c b l m u e = set_split l c b u ∙ ap (λ (r : List Booking). r ++ b ∷ drop (suc c) l) e ∙ sym (append_snoc (take c m) b (drop (suc c) l))
