-- A command is carried out as its call says. Assumes nothing.
use Rattle.std.specs.Prelude.{◌≡◌, List, [], ℕ, zero, suc, take, Some, None}
use Rattle.std.proofs.Math.Path.{refl, sym, ap}
use Rattle.std.proofs.Common.{◌∙◌}
use Rattle.std.proofs.Math.ListN.{length, length-replicate}
use Rattle.limits.specs.Bounds.{hall_places}
use Rattle.limits.specs.Refusals.{command_form}
use Rattle.laws.specs.Questions.{refusal}
use Rattle.model.specs.Day.{Setting, State}
use Rattle.model.specs.Calls.{Outcome, open_questions, open_with, open_call, book_call, drop_call, play_call}
use Rattle.model.specs.declared.Request.{Request}
use Rattle.model.specs.declared.Line.{Line}
use Rattle.model.specs.declared.Answer.{Answer}
use Rattle.model.specs.declared.Answer.TheVariants.{Refused}
use Rattle.model.specs.declared.Desk.{Desk}
use Rattle.model.specs.declared.Sheet.{Sheet}
use Rattle.questions.specs.Given.{setting_at}
use Rattle.opening.specs.Contract.{asked, Opens}
use Rattle.booking.specs.Contract.{Leaves}
use Rattle.dropping.specs.Contract.{Drops}
use Rattle.playing.specs.Lines.{no_line, padded}
use Rattle.playing.specs.Contract.{lines_in, told_lines, lines_for, Plays}
use Rattle.commands.specs.declared.Command.TheVariants.{Open, Book, Drop, Play}
use Rattle.console.specs.Session.{SessionState, lent_by, blank_report, outcome_of, lines_told, day_after}
use Rattle.console.specs.Contract.{with_sheet, Carries}
use Rattle.playing.specs.declared.Played.{Played}
use Rattle.console.proofs.Laws.{silent, open-silent, book-silent, drop-silent, play-told}

-- "the records' places are untouched"
records-kept : (S : Setting) (d : State) → (open_call S d).state.records ≡ d.records
unfolding open_call
records-kept S d = go (refusal (open_questions S d))
  where
    go : (n : ℕ) → (open_with S d n).state.records ≡ d.records
    go zero = refl
    go (suc k) = refl

-- an answer with no report
abbrev pub alone : Answer → Played
alone a = record { answer = a; lines = padded [] }

-- of an answer that says none
no_lines : (o : Outcome) (a : Answer) → a ≡ o.answer → lines_in o.answer ≡ 0 → told_lines a (padded []) ≡ lines_told o
no_lines o a e none = ap (λ (n : ℕ). take n (padded [])) (ap lines_in e ∙ none) ∙ sym (silent o none)

module _ (file : List ℕ) (desk : Desk) (sheet : Sheet) where
  abbrev before : SessionState
  before = with_sheet desk sheet

  abbrev lent : State
  lent = lent_by before

  abbrev S : Setting
  S = setting_at file desk.day

  pub open-carries : (rounds disk memory : ℕ) (a : Answer) (after : Desk) (sheet' : Sheet) → after.rows ≡ desk.rows
      → Opens (setting_at file (asked rounds disk memory)) lent desk.day a after.day sheet'
      → Carries file before (Some (Open rounds disk memory)) (alone a) after sheet'
  unfolding outcome_of day_after
  open-carries rounds disk memory a after sheet' same w =
      let A = setting_at file (asked rounds disk memory) in
      let kept = same ∙ sym (records-kept A lent) in
      record {
        state = λ i.
            record {
              day = w.day i;
              rows = kept i;
              opens = w.opens i;
              reserves = w.reserves i;
              helds = w.helds i;
            };
        answer = w.answer;
        lines = no_lines (open_call A lent) a w.answer (open-silent A lent);
        array = ap padded (sym (silent (open_call A lent) (open-silent A lent)));
      }

  pub book-carries : (q : Request) (a : Answer) (after : Desk) (sheet' : Sheet) → Leaves S (book_call S lent q) a after sheet'
      → Carries file before (Some (Book q)) (alone a) after sheet'
  unfolding outcome_of day_after
  book-carries q a after sheet' w =
      record {
        state = λ i.
            record {
              day = w.day i;
              rows = w.rows i;
              opens = w.opens i;
              reserves = w.reserves i;
              helds = w.helds i;
            };
        answer = w.answer;
        lines = no_lines (book_call S lent q) a w.answer (book-silent S lent q);
        array = ap padded (sym (silent (book_call S lent q) (book-silent S lent q)));
      }

  pub drop-carries : (name : ℕ) (a : Answer) (after : Desk) (sheet' : Sheet) → Drops S lent name a after sheet'
      → Carries file before (Some (Drop name)) (alone a) after sheet'
  unfolding outcome_of day_after
  drop-carries name a after sheet' w =
      record {
        state = λ i.
            record {
              day = w.day i;
              rows = w.rows i;
              opens = w.opens i;
              reserves = w.reserves i;
              helds = w.helds i;
            };
        answer = w.answer;
        lines = no_lines (drop_call S lent name) a w.answer (drop-silent S lent name);
        array = ap padded (sym (silent (drop_call S lent name) (drop-silent S lent name)));
      }

  pub none-carries : (after : Desk) → after.day ≡ desk.day → after.rows ≡ desk.rows
      → Carries file before None (alone (Refused command_form)) after sheet
  unfolding outcome_of day_after
  none-carries after d r =
      record {
        state = λ i. record { day = d i; rows = r i; opens = sheet.opens.now; reserves = sheet.reserves.now; helds = sheet.helds.now };
        answer = refl;
        lines = refl;
        array = refl;
      }

  pub play-carries : (r : Played) (after : Desk)
      → Plays file (record { day = desk.day; rows = desk.rows; places = hall_places }) hall_places r.answer (told_lines r.answer r.lines) after
      → r.lines ≡ padded (told_lines r.answer r.lines)
      → Carries file before (Some Play) r after sheet
  unfolding outcome_of day_after
  play-carries r after w behind =
      let o = play_call S lent blank_report in
      let room : length blank_report ≡ hall_places = length-replicate {A = Line} hall_places no_line in
      let opens = sheet.opens.now in
      let reserves = sheet.reserves.now in
      let helds = sheet.helds.now in
      let answer = w.answer opens reserves helds blank_report room in
      let day = w.day opens reserves helds blank_report room in
      let state = w.state opens reserves helds blank_report room in
      let told = ap (lines_for S desk.day.now (take desk.day.count desk.rows)) (sym answer) ∙ play-told S lent blank_report in
      record {
        state = λ i.
            record {
              day = sym day i;
              rows = (w.rows ∙ ap (λ (d : State). d.records) (sym state)) i;
              opens = (sym state i).opens;
              reserves = (sym state i).reserves;
              helds = (sym state i).helds;
            };
        answer = sym answer;
        lines = w.lines ∙ told;
        array = behind ∙ ap padded (w.lines ∙ told);
      }
