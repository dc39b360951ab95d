-- How many lines an outcome tells, and that the text of a command fits the output buffer. Assumes nothing.
use Rattle.std.specs.Prelude.{◌≡◌, take, drop, leb, ltb, Option, Some, None}
use Rattle.std.proofs.Math.Path.{refl, sym, ap}
use Rattle.std.proofs.Common.{◌∙◌, take_at}
use mathlib.Core.List.{List, [], ◌∷◌}
use Prim.Native.Nat.{ℕ, zero, suc, ◌≤◌}
use native.Mathlib.Omega.{arith}
use Rattle.std.proofs.Math.ListN.{length}
use borrow.Author.Tests.{leb-true}
use Rattle.limits.specs.Bounds.{hall_places}
use Rattle.limits.specs.Refusals.{no_room, day_rounds, day_limits, unsound, day_over}
use Rattle.laws.specs.Questions.{Question, refusal, refusal-held}
use Rattle.model.specs.Day.{Setting, State, opened}
use Rattle.model.specs.Fit.{Found, nowhere, at}
use Rattle.model.specs.Report.{lines_of, written}
use Rattle.model.specs.Questions.{play_own}
use Rattle.model.specs.Calls.{Outcome, standing, day_in_range, limits_in_range, sound, open_questions, open_with, open_call, book_questions, start_of, book_with, book_call, drop_questions, drop_with, drop_call, play_questions, play_with, play_call}
use Rattle.model.proofs.SoundLaws.{file-held}
use Rattle.model.proofs.PlayLaws.{lines-count}
use Rattle.model.specs.declared.Request.{Request}
use Rattle.model.specs.declared.Line.{Line}
use Rattle.questions.specs.Given.{setting_at}
use Rattle.opening.specs.Contract.{asked}
use Rattle.playing.specs.Contract.{lines_in, lines_for}
use Rattle.commands.specs.declared.Command.{Command}
use Rattle.commands.specs.declared.Command.TheVariants.{Open, Book, Drop, Play}
use Rattle.console.specs.Session.{SessionState, lent_by, blank_report, outcome_of, lines_told}

-- ---- Calls that write no report

module _ (S : Setting) (d : State) where
  pub open-silent : lines_in (open_call S d).answer ≡ 0
  unfolding open_call
  open-silent = go (refusal (open_questions S d))
    where
      go : (n : ℕ) → lines_in (open_with S d n).answer ≡ 0
      go zero = refl
      go (suc k) = refl

  pub book-silent : (q : Request) → lines_in (book_call S d q).answer ≡ 0
  unfolding book_call
  book-silent q = go (refusal (book_questions S d q)) (start_of S d q)
    where
      go : (n : ℕ) (o : Found) → lines_in (book_with S d q n o).answer ≡ 0
      go zero (at s) = refl
      go zero nowhere = refl
      go (suc k) o = refl

  pub drop-silent : (name : ℕ) → lines_in (drop_call S d name).answer ≡ 0
  unfolding drop_call
  drop-silent name = go (refusal (drop_questions S d name))
    where
      go : (n : ℕ) → lines_in (drop_with S d name n).answer ≡ 0
      go zero = refl
      go (suc k) = refl

pub silent : (o : Outcome) → lines_in o.answer ≡ 0 → lines_told o ≡ []
silent o e = ap (λ (n : ℕ). take n o.report) e

-- ---- A played round

module _ (S : Setting) (d : State) (report : List Line) where
  abbrev lines : List Line
  lines = lines_of S d.now (standing d)

  front : take (length lines) (written lines report) ≡ lines
  front = take_at lines (drop (length lines) report) (length lines) refl

  -- the lines told are those of the round
  pub play-told : lines_for S d.now (standing d) (play_call S d report).answer ≡ lines_told (play_call S d report)
  unfolding play_call
  play-told = go (refusal (play_questions S d (length report)))
    where
      go : (n : ℕ) → lines_for S d.now (standing d) (play_with S d report n).answer ≡ lines_told (play_with S d report n)
      go zero = sym front
      go (suc k) = refl

  -- as many as the answer says
  play-count : length (lines_told (play_call S d report)) ≡ lines_in (play_call S d report).answer
  unfolding play_call
  play-count = go (refusal (play_questions S d (length report)))
    where
      go : (n : ℕ) → length (lines_told (play_with S d report n)) ≡ lines_in (play_with S d report n).answer
      go zero = ap length front
      go (suc k) = refl

  -- question 11
  play-room : refusal (play_questions S d (length report)) ≡ 0 → length lines ≤ length report
  unfolding play_questions play_own
  play-room e =
      let films = opened S d.now (standing d) in
      let q11 : List Question = (leb films (length report), no_room) ∷ [] in
      let q23 : List Question = (ltb d.now S.rounds, day_over) ∷ q11 in
      let q16 : List Question = (sound S d, unsound) ∷ q23 in
      let q15 : List Question = (limits_in_range S, day_limits) ∷ q16 in
      let q14 : List Question = (day_in_range S d, day_rounds) ∷ q15 in
      let a14 = refusal-held (day_in_range S d) day_rounds q15 (omega arith) (file-held S q14 e) in
      let a15 = refusal-held (limits_in_range S) day_limits q16 (omega arith) a14.1 in
      let a16 = refusal-held (sound S d) unsound q23 (omega arith) a15.1 in
      let a23 = refusal-held (ltb d.now S.rounds) day_over q11 (omega arith) a16.1 in
      let a11 = refusal-held (leb films (length report)) no_room [] (omega arith) a23.1 in
      omega (arith, leb-true films (length report) a11.0, lines-count S d.now (standing d))

  -- no more than the report takes
  play-few : lines_in (play_call S d report).answer ≤ length report
  unfolding play_call
  play-few = go (refusal (play_questions S d (length report))) (λ e. play-room e)
    where
      go : (n : ℕ) → (n ≡ 0 → length lines ≤ length report) → lines_in (play_with S d report n).answer ≤ length report
      go zero h = h refl
      go (suc k) h = omega arith

-- ---- Any command

-- an outcome tells as many lines as its answer says, and no more than the program's report takes
pub record Told (o : Outcome) : Type 0 where
  pub count : length (lines_told o) ≡ lines_in o.answer
  pub few : lines_in o.answer ≤ hall_places

silent-told : (o : Outcome) → lines_in o.answer ≡ 0 → Told o
silent-told o e = record { count = ap length (silent o e) ∙ sym e; few = omega arith }

pub told : (file : List ℕ) (s : SessionState) (c : Option Command) → Told (outcome_of file s c)
unfolding outcome_of
told file s (Some (Open rounds disk memory)) =
    let S = setting_at file (asked rounds disk memory) in
    silent-told (open_call S (lent_by s)) (open-silent S (lent_by s))
told file s (Some (Book q)) = let S = setting_at file s.day in silent-told (book_call S (lent_by s) q) (book-silent S (lent_by s) q)
told file s (Some (Drop name)) =
    let S = setting_at file s.day in silent-told (drop_call S (lent_by s) name) (drop-silent S (lent_by s) name)
told file s (Some Play) =
    let S = setting_at file s.day in
    record { count = play-count S (lent_by s) blank_report; few = play-few S (lent_by s) blank_report }
told file s None = record { count = refl; few = omega arith }
