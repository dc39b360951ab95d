-- The soundness of a list as the code asks it: each record's own questions but 12, then 12, then limits and cabs. Assumes nothing.
use Rattle.std.specs.Prelude.{Bool, ◌&&◌, eqb}
use Rattle.std.proofs.Math.Bool.{not}
use Rattle.std.proofs.Math.Dec.{leb}
use Rattle.limits.specs.Bounds.{max_prefetch, max_reserve}
use Rattle.films.specs.Layout.{in_file}
use Rattle.model.specs.Day.{Setting, ends}
use Rattle.model.specs.declared.Booking.{Booking}

module _ (S : Setting) where
  -- a record passes 8, 9, 10 and 20, and s+p+n ≤ T
  unfoldable pub basic : Booking → Bool
  basic b =
      in_file S.films b.film
      && (leb b.prefetch max_prefetch && (leb b.reserve max_reserve && (not (eqb b.cabs 0) && leb (ends S b) S.rounds)))
