-- A played round: a report that is lent takes its lines, and these go into its first places. Assumes nothing.
use Rattle.std.specs.Prelude.{◌≡◌, refl, List, [], ◌∷◌, ℕ, zero, suc, ◌≤◌, ◌++◌, length, take, drop, leb, ltb}
use Rattle.std.proofs.Common.{sym, ◌∙◌, ap, ap₂, arith}
use Rattle.std.proofs.Math.Seq.{take-length}
use borrow.Author.Tests.{leb-true}
use Rattle.laws.specs.Questions.{Question, refusal, refusal-held}
use Rattle.limits.specs.Bounds.{max_bookings}
use Rattle.limits.specs.Refusals.{no_room, day_rounds, day_limits, unsound, day_over}
use Rattle.model.specs.Day.{Setting, State, opened}
use Rattle.model.specs.Questions.{play_own}
use Rattle.model.specs.Report.{lines_of, written}
use Rattle.model.proofs.SoundLaws.{file-held}
use Rattle.model.proofs.PlayLaws.{lines-count}
use Rattle.model.specs.Calls.{standing, limits_in_range, day_in_range, sound, play_questions, play_with, play_call}
use Rattle.model.specs.declared.Line.{Line}
use Rattle.playing.specs.Contract.{lines_in}
use Rattle.interface.specs.Records.{fitting, stored}

module _ (S : Setting) (d : State) where
  -- the last question of a round that is played
  taken : (room : ℕ) → refusal (play_questions S d room) ≡ 0 → length (lines_of S d.now (standing d)) ≤ room
  unfolding play_questions play_own
  taken room e =
      let bs = standing d in
      let q11 : List Question = (leb (opened S d.now bs) room, no_room) ∷ [] in
      let q23 : List Question = (ltb d.now S.rounds, day_over) ∷ q11 in
      let q16 : List Question = (sound S d, unsound) ∷ q23 in
      let q15 : List Question = (limits_in_range S, day_limits) ∷ q16 in
      let f = file-held S ((day_in_range S d, day_rounds) ∷ q15) e in
      let a14 = refusal-held (day_in_range S d) day_rounds q15 (omega arith) f in
      let a15 = refusal-held (limits_in_range S) day_limits q16 (omega arith) a14.1 in
      let a16 = refusal-held (sound S d) unsound q23 (omega arith) a15.1 in
      let a23 = refusal-held (ltb d.now S.rounds) day_over q11 (omega arith) a16.1 in
      let a11 = refusal-held (leb (opened S d.now bs) room) no_room [] (omega arith) a23.1 in
      omega (arith, lines-count S d.now bs, leb-true (opened S d.now bs) room a11.0)

  -- the lines that an answer says fit the report
  pub lines-fit : (report : List Line) → lines_in (play_call S d report).answer ≤ length report
  unfolding play_call
  lines-fit report = go (refusal (play_questions S d (length report))) (taken (length report))
    where
      go : (n : ℕ) → (n ≡ 0 → length (lines_of S d.now (standing d)) ≤ length report) → lines_in (play_with S d report n).answer ≤ length report
      go (suc k) w = omega arith
      go zero w = w refl

-- lines that a report takes, at most 256, in its first places
pub written-stored : (lines report : List Line) → length lines ≤ max_bookings → length lines ≤ length report → written lines report ≡ stored (length lines) lines report
written-stored lines report few fit =
    let n : length lines ≡ fitting (length lines) (length report) = omega arith in
    ap₂ (λ (a b : List Line). a ++ b) (sym (take-length lines) ∙ ap (λ (k : ℕ). take k lines) n) (ap (λ (k : ℕ). drop k report) n)
