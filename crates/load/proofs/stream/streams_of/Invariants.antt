use Rattle.std.proofs.Common.{◌≡◌, take, map}
use Rattle.load.specs.Streams.{stream_of}
use Rattle.load.proofs.stream.streams_of.Given as goal

abbrev pub invariant-loop-b : goal.invariant-loop-b
invariant-loop-b l = l.xs.items ≡ map (stream_of l.films) (take l.b-index l.rows)
