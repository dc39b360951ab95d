use Rattle.std.proofs.Common.{rules}
use Rattle.model.specs.Code.{state_in}
use Rattle.questions.specs.Given.{setting_at}
use Rattle.replay.proofs.Pictured.{pictured-between}
use Rattle.replay.proofs.LoopLaws.{given-back, going_next, going-full, going_end}
use Rattle.replay.proofs.run.Goals as goal

pub step-requires-clause-between : goal.step-requires-clause-between
step-requires-clause-between c =
    let l = c.loop-i in
    pictured-between (setting_at c.args.file.now.bytes.now l.desk.day) (state_in l.desk l.sheet) l.invariant.going.pictured

pub returns-then-not-step-clause-replays : goal.returns-then-not-step-clause-replays
returns-then-not-step-clause-replays c =
    let x = c.args in
    let l = c.loop-i in
    let s = rw c.entry_at.ensures at c.step.ensures.steps in
    let last = c.step.new in
    given-back _ _ _ _ _ _ _
    (going-full x.file.now.bytes.now x.desk.now x.sheet.now x.journal.now x.words.now _ l.log l.desk l.sheet l.i l.invariant.going
    c.loop-i-test.true last.desk last.sheet last.log (s.kept c.if-not-step.true)) (search rules)

pub loop-i-preserved : goal.loop-i-preserved
loop-i-preserved c =
    let x = c.args in
    let l = c.loop-i in
    let s = rw c.entry_at.ensures at c.step.ensures.steps in
    let last = c.step.new in
    record {
      going =
          going_next x.file.now.bytes.now x.desk.now x.sheet.now x.journal.now x.words.now _ l.log l.desk l.sheet l.i l.invariant.going
          c.loop-i-test.true last.desk last.sheet last.log (s.took c.if-not-step.false);
      places = search rules;
      same_sheet = search rules;
      same_log = search rules;
    }

pub returns-clause-replays : goal.returns-clause-replays
returns-clause-replays c =
    let x = c.args in
    let l = c.loop-i in
    given-back _ _ _ _ _ _ _
    (going_end x.file.now.bytes.now x.desk.now x.sheet.now x.journal.now x.words.now _ l.log l.desk l.sheet l.i l.invariant.going c.loop-i-test.false) (search rules)
