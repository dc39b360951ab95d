-- A round in which the booking is not open carries what the next does.
use Rattle.std.proofs.Common.{◌-◌, get_or, ap, sym, ◌∙◌, arith, ℕ, List}
use Rattle.load.specs.StreamLaws.{open-place}
use Rattle.rounds.specs.CarryLaws.{holds-most, carry-shut, holds-open, carry-open}
use Rattle.rounds.proofs.carry.Playing.held_in.Goals as goal

pub returns-then-not-open_in : goal.returns-then-not-open_in
returns-then-not-open_in c =
    let a = c.args in
    let f = a.self.now.file.now in
    let x = a.self.now.stream in
    let shut = sym c.open_in.ensures ∙ c.if-not-open_in.true in
    record { held = rw shut; carried = c.requires ∙ carry-shut f x a.t shut }

pub overflow_sub-t : goal.overflow_sub-t
overflow_sub-t c =
    let a = c.args in
    let f = a.self.now.file.now in
    let x = a.self.now.stream in
    omega (arith, open-place a.t x (sym c.open_in.ensures ∙ c.if-not-open_in.false))

pub send_at-requires : goal.send_at-requires
send_at-requires c =
    let a = c.args in
    let f = a.self.now.file.now in
    let x = a.self.now.stream in
    omega (arith, c.schedule.ensures.rounds, open-place a.t x (sym c.open_in.ensures ∙ c.if-not-open_in.false))

pub overflow_add-held : goal.overflow_add-held
overflow_add-held c =
    let a = c.args in
    let f = a.self.now.file.now in
    let x = a.self.now.stream in
    let o = sym c.open_in.ensures ∙ c.if-not-open_in.false in
    let sent = c.send_at.ensures.sent ∙ ap (λ (l : List ℕ). get_or l (a.t - x.start) 0) c.schedule.ensures.sends in
    omega (arith, sent, c.requires, holds-open f x a.t o, holds-most f a.t x a.self.now.playable)

pub carry_before-requires : goal.carry_before-requires
carry_before-requires c =
    let a = c.args in
    let f = a.self.now.file.now in
    let x = a.self.now.stream in
    let o = sym c.open_in.ensures ∙ c.if-not-open_in.false in
    let sent = c.send_at.ensures.sent ∙ ap (λ (l : List ℕ). get_or l (a.t - x.start) 0) c.schedule.ensures.sends in (
      omega (arith, sent, c.requires, holds-open f x a.t o, holds-most f a.t x a.self.now.playable),
      omega (arith, a.self.now.playable.bounded.reserve),
    )

pub returns : goal.returns
returns c =
    let a = c.args in
    let f = a.self.now.file.now in
    let x = a.self.now.stream in
    let o = sym c.open_in.ensures ∙ c.if-not-open_in.false in
    let h = holds-open f x a.t o in
    let sent = c.send_at.ensures.sent ∙ ap (λ (l : List ℕ). get_or l (a.t - x.start) 0) c.schedule.ensures.sends in
    record {
      held = omega (arith, sent, c.requires, h);
      carried = omega (arith, sent, c.requires, h, c.carry_before.ensures, carry-open f x a.t o);
    }
