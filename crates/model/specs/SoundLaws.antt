-- A sound list stays sound: with an accepted booking at its end, and without a dropped one. Assumes nothing but, for the
-- drop, that the loss rises.
use Rattle.std.specs.Prelude.{◌≡◌, false, not, ℕ, ◌≤◌, ◌<◌, eqb}
use Rattle.std.proofs.Math.Bool.{true}
use mathlib.Core.List.{List}
use Rattle.laws.specs.Tests.{all}
use Rattle.limits.specs.Bounds.{max_prefetch, max_reserve, max_bookings}
use Rattle.films.specs.Layout.{in_file}
use Rattle.model.specs.Day.{Setting, record_of, ends, exists}
use Rattle.model.specs.Questions.{has_name}
use Rattle.model.specs.Soundness.{names_differ, passes, limits_kept}
use Rattle.model.specs.declared.Booking.{Booking}
use Rattle.model.specs.declared.Request.{Request}

module _ (S : Setting) where
  -- ---- a record's questions

  pub record Passed (b : Booking) : Type 0 where
    pub film : in_file S.films b.film ≡ true
    pub prefetch : b.prefetch ≤ max_prefetch
    pub reserve : b.reserve ≤ max_reserve
    pub cabs : not (eqb b.cabs 0) ≡ true
    pub exist : exists S b ≡ true

  -- ---- what a sound list has

  pub record Sound (bs : List Booking) : Type 0 where
    pub names : names_differ bs ≡ true
    pub passed : all (passes S) bs ≡ true
    pub kept : limits_kept S bs ≡ true

  -- ---- an accepted booking

  -- what the questions up to 17 leave
  pub record Asked (bs : List Booking) (count places now : ℕ) (q : Request) : Type 0 where
    pub new : has_name q.name bs ≡ false
    pub fair : Passed (record_of q q.first)
    pub today : now ≤ q.first
    pub window : q.first ≤ q.last
    pub ending : ends S (record_of q q.last) ≤ S.rounds
    pub few : count < max_bookings
    pub place : count < places
