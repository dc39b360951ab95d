-- The cabs of the films showing, by streams. Assumes nothing.
use Rattle.std.specs.Prelude.{◌≡◌, refl, List, [], ◌∷◌, ℕ, ◌+◌, ◌-◌, ◌≤◌, ◌<◌, length, get_or}
use Rattle.std.specs.List.{fold}
use Rattle.std.proofs.Common.{ap, ◌∙◌, add-one, arith}
use Rattle.std.specs.Int.Bits.{bit_or}
use Rattle.model.specs.Day.{Setting, cabs_at}
use Rattle.model.specs.Calls.{cabs_joined}
use Rattle.model.specs.declared.Booking.{Booking}
use borrow.Author.Tests.{lt-leb}
use Rattle.load.specs.Stream.{shows_in}
use Rattle.load.specs.declared.stream.Stream.{Stream}
use Rattle.rounds.specs.Kept.{cabs_in}
use Rattle.questions.specs.Tied.{Tied, tied-shows}
use Rattle.std.proofs.Math.Seq.{slice, slice-cons, slice_empty}

pub cabs-early : (t : ℕ) (x : Stream) → t < x.start → 0 ≡ cabs_in t x
unfolding shows_in
cabs-early t x h = rw (lt-leb (x.start + x.prefetch) t (omega arith))

pub cabs-tied : (S : Setting) (f : List ℕ) (t : ℕ) (b : Booking) (x : Stream) → Tied S f b x → cabs_in t x ≡ cabs_at S t b
cabs-tied S f t b x w = rw (tied-shows S f b x w t, w.cabs)

-- joined from the front, with the streams of the bookings
pub joined-streams : (S : Setting) (f : List ℕ) (t : ℕ) (stream : Booking → Stream) → ((b : Booking) → Tied S f b (stream b))
    → (taken : ℕ) (bs : List Booking) → fold (λ taken b. bit_or taken (cabs_in t (stream b))) taken bs ≡ cabs_joined S t taken bs
joined-streams S f t stream tied taken [] = refl
joined-streams S f t stream tied taken (b ∷ bs) =
    let e = cabs-tied S f t b (stream b) (tied b) in
    joined-streams S f t stream tied (bit_or taken (cabs_in t (stream b))) bs
    ∙ ap (λ (c : ℕ). cabs_joined S t (bit_or taken c) bs) e

pub joined-next : (S : Setting) (t taken : ℕ) (rows : List Booking) (i n : ℕ) (d : Booking) → i < n → n ≤ length rows
    → cabs_joined S t taken (slice i n rows) ≡ cabs_joined S t (bit_or taken (cabs_at S t (get_or rows i d))) (slice (i + 1) n rows)
joined-next S t taken rows i n d h k = simp (slice-cons i n rows d h k, add-one)

pub joined_end : (S : Setting) (t taken : ℕ) (rows : List Booking) (i n : ℕ) → i ≡ n → cabs_joined S t taken (slice i n rows) ≡ taken
joined_end S t taken rows i n e = rw (e, slice_empty)
