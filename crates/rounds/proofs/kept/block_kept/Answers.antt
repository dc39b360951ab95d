use Rattle.std.proofs.Common.{ℕ, ◌+◌, ◌-◌, ◌≡◌, sym, ap, ◌∙◌, Bool, arith}
use Rattle.rounds.specs.Sums.{sums_in}
use Rattle.rounds.specs.Kept.{sums_kept, loss_in}
use Rattle.rounds.specs.KeptLaws.{rounds-no, rounds-yes}
use Rattle.rounds.proofs.kept.block_kept.Goals as goal

pub returns-then-not-kept : goal.returns-then-not-kept
returns-then-not-kept c =
    let a = c.args in
    let l = c.loop-k in
    λ f ys v.
    let p : ℕ → Bool = λ t. sums_kept (loss_in a.losses.now) a.day.disk a.day.memory (sums_in f t ys) in
    let here = ap (sums_kept (loss_in a.losses.now) a.day.disk a.day.memory) (sym (c.round_sums.ensures.0 f ys v)) ∙ sym c.kept.ensures ∙ c.if-not-kept.true in
    sym (l.invariant f ys v ∙ rounds-no p (a.b.from + l.k) (a.b.rounds - l.k) (omega arith) here)

pub loop-k-preserved : goal.loop-k-preserved
loop-k-preserved c =
    let a = c.args in
    let l = c.loop-k in
    let e : a.b.from + (l.k + 1) ≡ a.b.from + l.k + 1 = omega arith in
    let d : a.b.rounds - (l.k + 1) ≡ a.b.rounds - l.k - 1 = omega arith in
    λ f ys v.
    let p : ℕ → Bool = λ t. sums_kept (loss_in a.losses.now) a.day.disk a.day.memory (sums_in f t ys) in
    let here = ap (sums_kept (loss_in a.losses.now) a.day.disk a.day.memory) (sym (c.round_sums.ensures.0 f ys v)) ∙ sym c.kept.ensures ∙ c.if-not-kept.false in
    rw (e, d) (l.invariant f ys v ∙ rounds-yes p (a.b.from + l.k) (a.b.rounds - l.k) (omega arith) here)

pub returns : goal.returns
returns c =
    let a = c.args in
    let l = c.loop-k in
    let e : a.b.rounds - l.k ≡ 0 = omega arith in
    λ f ys v. sym (rw e at (l.invariant f ys v))
