-- `console::answer::write_reply` meets its contract. The invariant: the answer and the lines so far are at the front. Assumes nothing.
use Rattle.std.proofs.Common.{◌≡◌, length, take}
use Rattle.console.specs.Contract.{reply_text, in_front}
use Rattle.console.proofs.answer.write_reply.Given as goal

abbrev pub invariant-loop-line : goal.invariant-loop-line
invariant-loop-line l =
    (l.out ≡ in_front (reply_text l.fn.name l.fn.round l.fn.answer (take l.line-index l.lines)) l.fn.out)
    × (l.at ≡ length (reply_text l.fn.name l.fn.round l.fn.answer (take l.line-index l.lines)))
    × (length l.out ≡ length l.fn.out)
