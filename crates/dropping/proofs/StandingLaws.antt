-- The sheet of a sound list, by the streams of its bookings. Assumes nothing.
use Rattle.std.specs.Prelude.{◌≡◌, List, map, ℕ, length, take}
use Rattle.std.proofs.Common.{ap, arith}
use Rattle.std.proofs.lemmas.List.{length-map, length-take}
use Rattle.films.specs.Questions.{verdict}
use Rattle.films.specs.Catalogue.{catalogue_of}
use Rattle.model.specs.declared.Desk.{Desk}
use Rattle.model.specs.declared.Sheet.{Sheet}
use Rattle.load.specs.Streams.{stream_of}
use Rattle.load.specs.declared.stream.Stream.{Stream}
use Rattle.rounds.specs.Sheet as rounds
use Rattle.rounds.specs.Sheet.{Summable}
use Rattle.rounds.specs.DaySheetLaws.{day-sheet}
use Rattle.questions.specs.Given.{setting_at}
use Rattle.questions.specs.ListSound.{all-tied-streams, sound-playable}
use Rattle.questions.specs.SheetOf.{SheetOf, day-sheet-of}
use Rattle.dropping.specs.Standing.{Stands}

module _ (f : List ℕ) (desk : Desk) (sheet : Sheet) (g : Stands f desk sheet) (accepted : verdict f ≡ 0)
    (xs : List Stream) (made : xs ≡ map (stream_of (catalogue_of f)) (take desk.day.count desk.rows)) where
  -- each stream is playable, as question 16 has it
  pub stands-summable : Summable f xs 0 desk.day.rounds sheet.opens.now sheet.reserves.now sheet.helds.now
  stands-summable =
      let rows = take desk.day.count desk.rows in
      record {
        few = omega (arith, ap length made, length-map rows (stream_of (catalogue_of f)), length-take desk.day.count desk.rows, g.few);
        playable = sound-playable f desk.day rows xs accepted made g.rounds g.sound;
        order = omega arith;
        day = g.rounds;
        places = g.places;
      }

  -- what the streams hold, the bookings do
  pub summed-worked : (o r h : List ℕ) → rounds.SheetOf f xs 0 desk.day.rounds sheet.opens.now sheet.reserves.now sheet.helds.now o r h
      → SheetOf (setting_at f desk.day) (take desk.day.count desk.rows) sheet.opens.now sheet.reserves.now sheet.helds.now o r h
  summed-worked o r h w =
      let rows = take desk.day.count desk.rows in
      day-sheet-of (setting_at f desk.day) f rows xs (all-tied-streams f desk.day rows xs accepted made) sheet.opens.now sheet.reserves.now
      sheet.helds.now o r h (day-sheet f xs desk.day.rounds sheet.opens.now sheet.reserves.now sheet.helds.now o r h w)
