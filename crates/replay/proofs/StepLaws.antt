-- One entry: what a call leaves and logs is what `Steps` says. Assumes nothing.
use Rattle.std.specs.Prelude.{◌≡◌, true, false, Option, Some, ℕ, zero, suc, ◌+◌, ◌-◌, ◌*◌, ◌≤◌, ◌<◌, take, drop, eqb}
use Rattle.std.proofs.Math.Path.{refl, ap}
use Rattle.std.proofs.Common.{sym, ap₂, ◌∙◌, true≢false, arith, length-append, ne_eqb}
use mathlib.Core.List.{List}
use Rattle.std.proofs.Math.ListN.{length, replicate}
use Rattle.std.proofs.lemmas.List.{length-replicate}
use Rattle.std.proofs.Math.Seq.{take-append_seam}
use Rattle.laws.specs.Questions.{refusal}
use Rattle.model.specs.Day.{Setting, State}
use Rattle.model.specs.Fit.{Found, nowhere, at}
use Rattle.model.specs.Calls.{Outcome, refused, book_questions, start_of, book_with, book_call, drop_questions, drop_with, drop_call, play_questions, play_with, play_call}
use Rattle.model.specs.Code.{state_in, day_of}
use Rattle.model.proofs.PlacesLaws.{same-state}
use Rattle.model.specs.declared.Request.{Request}
use Rattle.model.specs.declared.Day.{Day}
use Rattle.model.specs.declared.Desk.{Desk}
use Rattle.model.specs.declared.Sheet.{Sheet}
use Rattle.model.specs.declared.Line.{Line}
use Rattle.model.specs.declared.Answer.{Answer}
use Rattle.model.specs.declared.Answer.TheVariants.{Refused, Opened, Booked, Dropped, Played}
use Rattle.questions.specs.Given.{setting_at}
use Rattle.booking.specs.Contract.{Leaves}
use Rattle.dropping.specs.Contract.{Drops}
use Rattle.playing.specs.Contract.{Plays}
use Rattle.playing.specs.Lines.{no_line}
use Rattle.playing.specs.Contract.{lines_in}
use Rattle.replay.specs.Log.{answer_words, lines_words, logged_words, Wrote}
use Rattle.replay.proofs.Writing.{wrote_then, lines-length}
use Rattle.replay.specs.DeskRun.{blank_report, outcome_words, carried, Took, Kept, Steps}
use Rattle.replay.specs.declared.journal.Entry.{Entry}
use Rattle.replay.specs.declared.journal.Entry.TheVariants as E
use Rattle.replay.specs.declared.log.Log.{Log}

-- an answer has three words
pub answer-length : (a : Answer) → length (answer_words a) ≡ 3
answer-length (Refused k) = refl
answer-length Opened = refl
answer-length (Booked s) = refl
answer-length Dropped = refl
answer-length (Played n k) = refl

logged-length : (a : Answer) (ls : List Line) → length (logged_words a ls) ≡ 3 + 4 * length ls
logged-length a ls = omega (arith, length-append (answer_words a) (lines_words ls), answer-length a, lines-length ls)

-- the state that a call leaves, by its parts
state-left : (S : Setting) (out : Outcome) (a : Answer) (desk : Desk) (sheet : Sheet) → Leaves S out a desk sheet → desk.places ≡ out.state.places
    → state_in desk sheet ≡ out.state
state-left S out a desk sheet b places =
    same-state (ap (λ (x : Day). x.now) b.day) (ap (λ (x : Day). x.count) b.day) places b.rows b.opens b.reserves b.helds

-- ---- by whether the entry was done

module _ (S : Setting) (d : State) (e : Option Entry) (old : Log) (desk' : Desk) (sheet' : Sheet) (log' : Log) where
  pub steps-done : Took S d e old desk' sheet' log' → Steps S d e old true desk' sheet' log'
  steps-done k = record { took = λ u. k; kept = λ u. absurd (true≢false u) }

  pub steps-full : Kept S d e old desk' sheet' log' → Steps S d e old false desk' sheet' log'
  steps-full k = record { took = λ u. absurd (true≢false (sym u)); kept = λ u. k }

  -- a call with no report: three words
  pub called-steps : (a : Answer) → old.at + 3 ≤ length old.words.now → outcome_words (carried S d e) ≡ answer_words (carried S d e).answer
      → a ≡ (carried S d e).answer → desk'.day ≡ day_of S (carried S d e).state → state_in desk' sheet' ≡ (carried S d e).state
      → Wrote old.words.now old.at (answer_words a) log'.words.now log'.at
      → Steps S d e old true desk' sheet' log'
  called-steps a room ws is day state w =
      let n = answer-length (carried S d e).answer in
      steps-done (record { fit = rw ws (omega arith); wrote = rw (ws, ← is) w; day = day; state = state })

-- with fewer than three places left no entry is done
pub no_room : (S : Setting) (desk : Desk) (sheet : Sheet) (e : Option Entry) (old : Log) → length old.words.now - old.at < 3
    → day_of S (state_in desk sheet) ≡ desk.day → Steps S (state_in desk sheet) e old false desk sheet old
no_room S desk sheet e old h day =
    let out = carried S (state_in desk sheet) e in
    let n = logged-length out.answer (take (lines_in out.answer) out.report) in
    steps-full S (state_in desk sheet) e old desk sheet old (record { full = omega arith; log = refl; at = refl; day = sym day; state = refl })

-- ---- booking and drop write no report, and the list keeps its places

module _ (S : Setting) (d : State) where
  book-words : (q : Request) (n : ℕ) (f : Found) → outcome_words (book_with S d q n f) ≡ answer_words (book_with S d q n f).answer
  book-words q zero (at s) = refl
  book-words q zero nowhere = refl
  book-words q (suc k) f = refl

  book-places : (q : Request) (n : ℕ) (f : Found) → (book_with S d q n f).state.places ≡ d.places
  book-places q zero (at s) = refl
  book-places q zero nowhere = refl
  book-places q (suc k) f = refl

  drop-words : (name n : ℕ) → outcome_words (drop_with S d name n) ≡ answer_words (drop_with S d name n).answer
  drop-words name zero = refl
  drop-words name (suc k) = refl

  drop-places : (name n : ℕ) → (drop_with S d name n).state.places ≡ d.places
  drop-places name zero = refl
  drop-places name (suc k) = refl

  module _ (old : Log) (desk' : Desk) (sheet' : Sheet) (log' : Log) (a : Answer) (room : old.at + 3 ≤ length old.words.now)
      (w : Wrote old.words.now old.at (answer_words a) log'.words.now log'.at) where
    pub booked-steps : (q : Request) → Leaves S (book_call S d q) a desk' sheet' → desk'.places ≡ d.places
        → Steps S d (Some (E.Book q)) old true desk' sheet' log'
    unfolding book_call
    booked-steps q b places =
        let n = refusal (book_questions S d q) in
        called-steps S d (Some (E.Book q)) old desk' sheet' log' a room (book-words q n (start_of S d q)) b.answer b.day
        (state-left S (book_call S d q) a desk' sheet' b (places ∙ sym (book-places q n (start_of S d q)))) w

    pub dropped-steps : (name : ℕ) → Drops S d name a desk' sheet' → Steps S d (Some (E.Drop name)) old true desk' sheet' log'
    unfolding drop_call
    dropped-steps name b =
        let n = refusal (drop_questions S d name) in
        let left : Leaves S (drop_call S d name) a desk' sheet' =
        record { answer = b.answer; day = b.day; rows = b.rows; opens = b.opens; reserves = b.reserves; helds = b.helds } in
        called-steps S d (Some (E.Drop name)) old desk' sheet' log' a room (drop-words name n) b.answer b.day
        (state-left S (drop_call S d name) a desk' sheet' left (b.places ∙ sym (drop-places name n))) w

-- ---- an entry that is refused before its call

module _ (S : Setting) (d : State) (k : ℕ) (refuses : S.verdict ≡ suc k) where
  some : eqb S.verdict 0 ≡ false
  some = ne_eqb S.verdict 0 (λ z. omega arith)

  book-file : (q : Request) → refusal (book_questions S d q) ≡ suc k
  unfolding book_questions
  book-file q = rw some refuses

  drop-file : (name : ℕ) → refusal (drop_questions S d name) ≡ suc k
  unfolding drop_questions
  drop-file name = rw some refuses

  play-file : (room : ℕ) → refusal (play_questions S d room) ≡ suc k
  unfolding play_questions
  play-file room = rw some refuses

  file-carried : (e : Entry) → carried S d (Some e) ≡ refused S d (blank_report (Some e)) (suc k)
  unfolding book_call drop_call play_call
  file-carried (E.Book q) = ap (λ (n : ℕ). book_with S d q n (start_of S d q)) (book-file q)
  file-carried (E.Drop name) = ap (drop_with S d name) (drop-file name)
  file-carried (E.Play room) = ap (play_with S d (replicate room no_line)) (play-file (length (replicate room no_line)))

module _ (S : Setting) (desk : Desk) (sheet : Sheet) (day : day_of S (state_in desk sheet) ≡ desk.day) (old log' : Log)
    (room : old.at + 3 ≤ length old.words.now) where
  pub refused-steps : (e : Option Entry) (n : ℕ) (report : List Line) → carried S (state_in desk sheet) e ≡ refused S (state_in desk sheet) report n
      → Wrote old.words.now old.at (answer_words (Refused n)) log'.words.now log'.at
      → Steps S (state_in desk sheet) e old true desk sheet log'
  refused-steps e n report is w =
      let same : (carried S (state_in desk sheet) e).state ≡ state_in desk sheet = ap (λ (o : Outcome). o.state) is in
      called-steps S (state_in desk sheet) e old desk sheet log' (Refused n) room
      (ap outcome_words is ∙ sym (ap (λ (o : Outcome). answer_words o.answer) is))
      (sym (ap (λ (o : Outcome). o.answer) is)) (sym day ∙ ap (day_of S) (sym same)) (sym same) w

  -- with the number of the film file
  pub file-steps : (e : Entry) (n : ℕ) → S.verdict ≡ n → (n ≡ 0 → ⊥) → Wrote old.words.now old.at (answer_words (Refused n)) log'.words.now log'.at
      → Steps S (state_in desk sheet) (Some e) old true desk sheet log'
  file-steps e zero is nonzero w = absurd (nonzero refl)
  file-steps e (suc k) is nonzero w = refused-steps (Some e) (suc k) (blank_report (Some e)) (file-carried S (state_in desk sheet) k is e) w

-- ---- a played round

module _ (f : List ℕ) (desk : Desk) (room : ℕ) (a : Answer) (lines : List Line) (after : Desk) (plays : Plays f desk room a lines after) (sheet : Sheet) where
  abbrev S : Setting
  S = setting_at f desk.day

  abbrev lent : State
  lent = state_in desk sheet

  abbrev blank : List Line
  blank = replicate room no_line

  same-answer : (play_call S lent blank).answer ≡ a
  same-answer = plays.answer sheet.opens.now sheet.reserves.now sheet.helds.now blank (length-replicate room no_line)

  play-words : outcome_words (carried S lent (Some (E.Play room))) ≡ logged_words a lines
  play-words =
      ap₂ logged_words same-answer
      (ap₂ take (ap lines_in same-answer ∙ sym plays.count) (plays.report sheet.opens.now sheet.reserves.now sheet.helds.now blank (length-replicate room no_line))
      ∙ take-append_seam lines (drop (length lines) blank))

  play-length : length (outcome_words (carried S lent (Some (E.Play room)))) ≡ 3 + 4 * length lines
  play-length = ap length play-words ∙ logged-length a lines

  module _ (old log' : Log) where
    -- its words do not fit, and the day is put back
    pub play-full : (desk' : Desk) → length old.words.now - old.at < 3 + 4 * length lines → desk'.day ≡ desk.day → desk'.rows ≡ after.rows
        → desk'.places ≡ after.places → log'.words.now ≡ old.words.now → log'.at ≡ old.at
        → Steps S lent (Some (E.Play room)) old false desk' sheet log'
    play-full desk' less day rows places words place =
        steps-full S lent (Some (E.Play room)) old desk' sheet log'
        (record {
          full = omega (arith, play-length);
          log = words;
          at = place;
          day = day;
          state = same-state (ap (λ (u : Day). u.now) day) (ap (λ (u : Day). u.count) day) (places ∙ plays.places) (rows ∙ plays.rows) refl refl refl;
        })

    -- they do
    pub play-done : old.at + 3 + 4 * length lines ≤ length old.words.now → (mid : Log)
        → Wrote old.words.now old.at (answer_words a) mid.words.now mid.at
        → Wrote mid.words.now mid.at (lines_words lines) log'.words.now log'.at
        → Steps S lent (Some (E.Play room)) old true after sheet log'
    play-done fits mid v w =
        let e = length-replicate room no_line in
        let three = answer-length a in
        steps-done S lent (Some (E.Play room)) old after sheet log'
        (record {
          fit = omega (arith, play-length);
          wrote =
              rw play-words
              (wrote_then old.words.now old.at (answer_words a) mid.words.now mid.at (lines_words lines) log'.words.now log'.at (omega arith) v w);
          day = sym (plays.day sheet.opens.now sheet.reserves.now sheet.helds.now blank e);
          state =
              same-state refl refl plays.places plays.rows refl refl refl
              ∙ sym (plays.state sheet.opens.now sheet.reserves.now sheet.helds.now blank e);
        })
