-- `console::answer::write_first` meets its contract: there is room for any line. Assumes nothing.
use Rattle.std.proofs.Common.{rules, arith, ◌∙◌}
use Rattle.text.specs.Text.{answer_text}
use Rattle.console.proofs.Writing.{place-room, placed-at, buffer-room, placed-front}
use Rattle.console.proofs.answer.write_first.Goals as goal

pub unwrap-requires : goal.unwrap-requires
unwrap-requires c =
    let a = c.args in
    let some = c.write_answer.ensures.value ∙ place-room a.out.now 0 (answer_text a.name a.round a.answer) (omega arith) in
    search rules

pub returns : goal.returns
returns c =
    let a = c.args in
    let text = answer_text a.name a.round a.answer in
    record {
      buffer = c.write_answer.ensures.out_after ∙ buffer-room a.out.now 0 text (omega arith) ∙ placed-front a.out.now text;
      count = omega (arith, placed-at a.out.now 0 text (omega arith) c.write_answer.result c.unwrap.result c.write_answer.ensures.value c.unwrap.ensures);
    }
