-- What a booking holds in a round, with the carry of its rounds from that one on.
use Rattle.std.specs.Prelude.{◌≡◌, List, ℕ}
use Rattle.load.specs.Stream.{holds_in, carry_from}
use Rattle.load.specs.declared.stream.Stream.{Stream}
use Rattle.rounds.specs.declared.carry.Held.{Held}

pub record Turned (f : List ℕ) (x : Stream) (t : ℕ) (r : Held) : Type 0 where
  pub held : r.held ≡ holds_in f t x
  pub carried : r.carry ≡ carry_from f t x
