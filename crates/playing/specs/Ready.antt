-- A desk whose bookings stand: what the questions up to 16 leave of it, and of each booking with its stream. Assumes nothing.
use Rattle.std.specs.Prelude.{◌≡◌, refl, true, List, ℕ, ◌≤◌, ◌<◌, length, get_or, take}
use Rattle.std.proofs.Common.{sym, ap, ◌∙◌, arith, leb-true}
use Rattle.limits.specs.Bounds.{max_bookings, max_day}
use Rattle.laws.specs.Tests.{all-at}
use Rattle.films.specs.Questions.{verdict}
use Rattle.films.specs.Catalogue.{listed, catalogue_of}
use Rattle.films.proofs.CatalogueLaws.{catalogue-listed}
use Rattle.films.specs.declared.file.Entry.{Entry}
use Rattle.model.specs.Day.{exists, ends}
use Rattle.model.specs.Soundness.{passes}
use Rattle.model.specs.Calls.{no_booking}
use Rattle.model.specs.SoundLaws.{Sound, Passed}
use Rattle.model.proofs.SoundLaws.{passes-held}
use Rattle.model.specs.declared.Booking.{Booking}
use Rattle.model.specs.declared.Desk.{Desk}
use Rattle.load.specs.Basic.{Playable}
use Rattle.load.specs.Streams.{stream_of}
use Rattle.load.specs.declared.stream.Stream.{Stream}
use Rattle.questions.specs.Given.{setting_at}
use Rattle.questions.specs.Tied.{Tied, tied-ends}
use Rattle.questions.specs.Ties.{stream-tied}

-- the desk's bookings are sound by the file f
pub record Ready (f : List ℕ) (desk : Desk) : Type 0 where
  pub few : desk.day.count ≤ max_bookings
  pub short : desk.day.rounds ≤ max_day
  pub today : desk.day.now ≤ desk.day.rounds
  pub sound : Sound (setting_at f desk.day) (take desk.day.count desk.rows)

module _ (f : List ℕ) (desk : Desk) (accepted : verdict f ≡ 0) where
  -- the stream of a booking is tied to it
  pub row-tied : (b : Booking) → Tied (setting_at f desk.day) f b (stream_of (catalogue_of f) b)
  row-tied b = stream-tied (setting_at f desk.day) f refl accepted b

  -- the stream that is made by the entries of the film file
  pub row-made : (b : Booking) (films entries : List Entry) (x : Stream) → films ≡ listed f → entries ≡ films → x ≡ stream_of entries b
      → x ≡ stream_of (catalogue_of f) b
  row-made b films entries x e k m = m ∙ ap (λ (l : List Entry). stream_of l b) (k ∙ e ∙ sym (catalogue-listed f accepted))

  module _ (ready : Ready f desk) (i : ℕ) (h : i < length (take desk.day.count desk.rows)) where
    abbrev b : Booking
    b = get_or (take desk.day.count desk.rows) i no_booking

    row-passed : Passed (setting_at f desk.day) b × (ends (setting_at f desk.day) b ≤ desk.day.rounds)
    row-passed =
        passes-held (setting_at f desk.day) b (all-at (passes (setting_at f desk.day)) (take desk.day.count desk.rows) no_booking ready.sound.passed i h)

    pub row-exists : exists (setting_at f desk.day) b ≡ true
    row-exists = row-passed.0.exist

    pub row-playable : Playable f (stream_of (catalogue_of f) b)
    row-playable =
        let x = stream_of (catalogue_of f) b in
        let t = row-tied b in
        let p = row-passed.0 in
        let e = tied-ends (setting_at f desk.day) f b x t in
        let prefetch = t.prefetch in
        let reserve = t.reserve in
        record {
          bounded =
              record {
                some = leb-true 1 x.rounds (sym t.inside ∙ p.film);
                prefetch = omega (arith, p.prefetch);
                reserve = omega (arith, p.reserve);
                ends = omega (arith, row-passed.1, ready.short);
              };
          stored = t.stored;
        }
