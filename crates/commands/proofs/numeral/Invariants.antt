-- `commands::numeral` meets its contract. The invariant: the value and the digits left make the word's number. Assumes nothing.
use Rattle.std.proofs.Common.{◌≡◌, ◌<◌, ◌^◌, drop}
use Rattle.commands.specs.Values.{numeral_of}
use Rattle.commands.proofs.Numerals.{read_from}
use Rattle.commands.proofs.numeral.Given as goal

abbrev pub invariant-loop-byte : goal.invariant-loop-byte
invariant-loop-byte l = (l.value < 2 ^ 64) × (numeral_of l.word ≡ read_from l.value (drop l.byte-index l.word))
