-- Soundness of a list of bookings, by the streams that the code makes of them. Assumes nothing.
use Rattle.std.specs.Prelude.{◌≡◌, refl, true, ◌&&◌, List, map, ℕ, ◌≤◌}
use Rattle.std.proofs.Common.{sym, ap, ◌∙◌}
use Rattle.limits.specs.Bounds.{max_day}
use Rattle.laws.specs.Tests.{left, right, all}
use Rattle.loss.specs.Loss.{loss_at}
use Rattle.films.specs.Questions.{verdict}
use Rattle.films.specs.Catalogue.{listed, catalogue_of}
use Rattle.films.proofs.CatalogueLaws.{catalogue-listed}
use Rattle.films.specs.declared.file.Entry.{Entry}
use Rattle.model.specs.Soundness.{names_differ, sound_list}
use Rattle.model.specs.declared.Booking.{Booking}
use Rattle.model.specs.declared.Day.{Day}
use Rattle.load.specs.Streams.{stream_of}
use Rattle.load.specs.Basic.{basic_of, Playable, EachOf, Within}
use Rattle.load.specs.BasicLaws.{each-playable, each_within}
use Rattle.load.specs.declared.stream.Stream.{Stream}
use Rattle.questions.specs.Given.{setting_at}
use Rattle.questions.specs.Tied.{AllTied}
use Rattle.questions.specs.Ties.{streams-tied}
use Rattle.rounds.specs.Kept.{streams_kept}
use Rattle.questions.specs.Sound.{sound-streams}

-- the streams that are made by the entries of an accepted file
pub streams-made : (f : List ℕ) (bs : List Booking) (films made-by : List Entry) (xs : List Stream) → verdict f ≡ 0 → films ≡ listed f
    → made-by ≡ films → xs ≡ map (stream_of made-by) bs → xs ≡ map (stream_of (catalogue_of f)) bs
streams-made f bs films made-by xs a e k m = m ∙ ap (λ l. map (stream_of l) bs) (k ∙ e ∙ sym (catalogue-listed f a))

module _ (f : List ℕ) (day : Day) (bs : List Booking) (xs : List Stream) (accepted : verdict f ≡ 0)
    (made : xs ≡ map (stream_of (catalogue_of f)) bs) where
  pub all-tied-streams : AllTied (setting_at f day) f bs xs
  all-tied-streams = rw made (streams-tied (setting_at f day) f refl accepted bs)

  pub list-sound : sound_list (setting_at f day) bs
      ≡ names_differ bs
      && (all (basic_of day.rounds) xs && streams_kept f loss_at day.rounds day.disk day.memory xs)
  list-sound = sound-streams (setting_at f day) f refl bs xs all-tied-streams

  pub streams-playable : day.rounds ≤ max_day → all (basic_of day.rounds) xs ≡ true → EachOf (Playable f) xs
  streams-playable h e = rw made (each-playable day.rounds f bs h accepted (rw made at e))

  pub streams-within : all (basic_of day.rounds) xs ≡ true → EachOf (Within day.rounds) xs
  streams-within e = each_within day.rounds xs e

  -- of a sound list each stream is playable
  pub sound-playable : day.rounds ≤ max_day → sound_list (setting_at f day) bs ≡ true → EachOf (Playable f) xs
  sound-playable h e =
      streams-playable h
      (left (all (basic_of day.rounds) xs) (streams_kept f loss_at day.rounds day.disk day.memory xs)
      (right (names_differ bs) (sym list-sound ∙ e)))

  -- and ends within the day
  pub sound-within : sound_list (setting_at f day) bs ≡ true → EachOf (Within day.rounds) xs
  sound-within e =
      streams-within
      (left (all (basic_of day.rounds) xs) (streams_kept f loss_at day.rounds day.disk day.memory xs)
      (right (names_differ bs) (sym list-sound ∙ e)))
