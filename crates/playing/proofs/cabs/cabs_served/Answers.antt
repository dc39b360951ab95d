-- `playing::cabs::cabs_served` meets its contract: what the streams keep busy, the bookings do. Assumes nothing.
use Rattle.std.proofs.Common.{rules, ◌≡◌, ◌∙◌, sym, ap, ℕ, take}
use Rattle.std.specs.List.{fold}
use Rattle.std.specs.Int.Bits.{bit_or}
use Rattle.std.specs.Int.Count.{ones}
use Rattle.load.specs.Streams.{stream_of}
use Rattle.films.specs.Catalogue.{catalogue_of}
use Rattle.films.proofs.CatalogueLaws.{catalogue-listed}
use Rattle.model.specs.declared.Booking.{Booking}
use Rattle.rounds.specs.Kept.{cabs_in}
use Rattle.questions.specs.Given.{setting_at}
use Rattle.playing.specs.CabLaws.{joined-streams}
use Rattle.playing.specs.Ready.{row-tied}
use Rattle.playing.proofs.cabs.cabs_served.Goals as goal

pub returns : goal.returns
returns c =
    let file = c.args.film_file.now in
    let desk = c.args.desk.now in
    let rows = take desk.day.count desk.rows in
    let joined : c.fold-joined.result ≡ fold (λ (taken : ℕ) (b : Booking). bit_or taken (cabs_in desk.day.now (stream_of file.films.items b))) 0 rows = search rules in
    let films = file.catalogue ∙ sym (catalogue-listed file.bytes.now file.accepted) in
    ap ones (rw films at joined ∙ joined-streams (setting_at file.bytes.now desk.day) file.bytes.now desk.day.now (stream_of (catalogue_of file.bytes.now)) (row-tied file.bytes.now desk file.accepted) 0 rows)
