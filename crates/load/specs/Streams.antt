-- The streams of bookings, from the catalogue of the film file.
use Rattle.std.specs.Prelude.{List, Option, unwrap_or}
use Rattle.films.specs.Lookup.{lookup_in}
use Rattle.films.specs.declared.file.Entry.{Entry}
use Rattle.films.specs.declared.lookup.Place.{Place}
use Rattle.model.specs.declared.Booking.{Booking}
use Rattle.load.specs.declared.stream.Stream.{Stream}

-- where no film stands
abbrev pub no_place : Place
no_place = record { at = 0; rounds = 0 }

-- a booking with its film's place; a film that is not in the file has none and no rounds
abbrev pub placed : Booking → Option Place → Stream
placed b place =
    let film = unwrap_or place no_place in
    record { at = film.at; rounds = film.rounds; start = b.start; prefetch = b.prefetch; reserve = b.reserve; cabs = b.cabs }

-- looked up in the catalogue
unfoldable pub stream_of : List Entry → Booking → Stream
stream_of films b = placed b (lookup_in films b.film)
