use Rattle.std.proofs.Common.{arith, rules}
use Rattle.replay.proofs.Writing.{lines-stand, lines_next}
use Rattle.replay.proofs.log.Log.append_lines.Goals as goal

pub append-requires : goal.append-requires
append-requires c =
    let a = c.args in
    let l = c.loop-line in
    let stand = lines-stand a.self.now.words.now a.self.now.at a.lines.now c.requires l.line-index l.self.words.now l.self.at l.invariant.wrote (omega arith) in
    omega arith

pub loop-line-preserved : goal.loop-line-preserved
loop-line-preserved c =
    let a = c.args in
    let l = c.loop-line in
    let w = c.append.ensures in
    record {
      wrote =
          lines_next a.self.now.words.now a.self.now.at a.lines.now c.requires l.line-index l.self.words.now l.self.at l.invariant.wrote _ _ _ (omega arith) w.wrote;
      same-list = search rules;
    }
