-- `search::first_start` meets its contract: the profile worked out into zeros is the profile by definition. Assumes nothing.
use Rattle.std.proofs.Common.{◌≤◌, ◌+◌, ◌∙◌, ℕ, List, ap, arith}
use Rattle.limits.specs.Bounds.{max_prefetch, max_rounds}
use Rattle.model.specs.Fit.{first_of}
use Rattle.load.specs.Stream.{length_of}
use Rattle.load.specs.declared.stream.Stream.{Stream}
use Rattle.retrieval.specs.Stored.{InRange}
use Rattle.search.specs.Fit.{query_of, fits_at, answer_of}
use Rattle.search.proofs.ProfileLaws.{adds-zeros, worked, profile-rows}
use Rattle.search.proofs.first_start.Goals as goal

-- the stream is not longer than the array
short : (file : List ℕ) (y : Stream) → InRange file y.at y.rounds y.prefetch y.reserve → length_of y ≤ max_prefetch + max_rounds
short file y r = omega (arith, r.prefetch, r.stored.few)

pub add_held-requires : goal.add_held-requires
add_held-requires c =
    let a = c.args in
    rw c.rounds-length.ensures (adds-zeros a.file.now a.y (max_prefetch + max_rounds) c.requires.in_range (short a.file.now a.y c.requires.in_range))

pub invariant_of-query : goal.invariant_of-query
invariant_of-query c =
    let a = c.args in
    let w = c.requires.window in
    let film = c.requires.in_range in
    let room = short a.file.now a.y film in
    let whole = worked a.file.now a.y (max_prefetch + max_rounds) film room c.rounds-length.result c.add_held.new.part c.rounds-length.ensures c.add_held.ensures.added in
    record {
      walks =
          record {
            window = record { day = w.day; disk = w.disk; memory = w.memory; standing = w.standing };
            profile = rw whole (profile-rows a.file.now a.y (max_prefetch + max_rounds) film room);
            reserve = film.reserve;
          };
    }

pub returns : goal.returns
returns c =
    let a = c.args in
    let film = c.requires.in_range in
    let whole = worked a.file.now a.y (max_prefetch + max_rounds) film (short a.file.now a.y film) c.rounds-length.result c.add_held.new.part c.rounds-length.ensures c.add_held.ensures.added in
    c.first_fit.ensures
    ∙ ap (λ (p : List ℕ). answer_of (first_of (fits_at (query_of a.y p a.xs.now a.opens.now a.reserves.now a.helds.now a.day.disk a.day.memory)) a.first a.last)) whole
