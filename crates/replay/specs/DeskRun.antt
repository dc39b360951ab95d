-- A journal's entries by the model's calls, each on the state as the last one left it: what the code computes. It is the plain
-- day's by the model's `step` (RunLaws.antt).
use Rattle.std.specs.Prelude.{◌≡◌, Bool, true, false, cond, Option, Some, None, List, [], ◌∷◌, ◌++◌, ℕ, ◌+◌, ◌-◌, ◌≤◌, ◌<◌, length, take, replicate, leb}
use Rattle.limits.specs.Refusals.{command_form}
use Rattle.model.specs.Day.{Setting, State}
use Rattle.model.specs.Calls.{Outcome, refused, book_call, drop_call, play_call}
use Rattle.model.specs.Code.{state_in, day_of}
use Rattle.model.specs.declared.Desk.{Desk}
use Rattle.model.specs.declared.Sheet.{Sheet}
use Rattle.model.specs.declared.Line.{Line}
use Rattle.playing.specs.Lines.{no_line}
use Rattle.playing.specs.Contract.{lines_in}
use Rattle.replay.specs.Log.{logged_words, Wrote}
use Rattle.replay.specs.Contract.{Result}
use Rattle.replay.specs.declared.journal.Entry.{Entry}
use Rattle.replay.specs.declared.journal.Entry.TheVariants.{Book, Drop, Play}
use Rattle.replay.specs.declared.log.Log.{Log}

-- the report that an entry's call is lent: PLAY's has blank lines
abbrev pub blank_report : Option Entry → List Line
blank_report (Some (Book q)) = []
blank_report (Some (Drop name)) = []
blank_report (Some (Play room)) = replicate room no_line
blank_report None = []

-- the words of an outcome
abbrev pub outcome_words : Outcome → List ℕ
outcome_words o = logged_words o.answer (take (lines_in o.answer) o.report)

-- how many entries were done, their words, and the state after them
pub record DeskRun : Type 0 where
  pub entries : ℕ
  pub words : List ℕ
  pub state : State

-- a run after k entries with these words
abbrev pub after_run : ℕ → List ℕ → DeskRun → DeskRun
after_run k ws r = record { entries = k + r.entries; words = ws ++ r.words; state = r.state }

-- no entry done
abbrev pub no_run : State → DeskRun
no_run d = record { entries = 0; words = []; state = d }

module _ (S : Setting) where
  -- an entry's call
  abbrev pub carried : State → Option Entry → Outcome
  carried d (Some (Book q)) = book_call S d q
  carried d (Some (Drop name)) = drop_call S d name
  carried d (Some (Play room)) = play_call S d (replicate room no_line)
  carried d None = refused S d [] command_form

  abbrev pub desk_run : State → ℕ → List (Option Entry) → DeskRun
  desk_run d room [] = no_run d
  desk_run d room (e ∷ es) =
      let o = carried d e in
      let ws = outcome_words o in
      cond (leb (length ws) room) (after_run 1 ws (desk_run o.state (room - length ws) es)) (no_run d)

  abbrev pub run_result : DeskRun → Result
  run_result w = record { refusal = 0; entries = w.entries; words = w.words; day = day_of S w.state; state = w.state }

  -- one entry, with a log before it
  module _ (d : State) (e : Option Entry) (old : Log) (desk' : Desk) (sheet' : Sheet) (log' : Log) where
    -- its words fit: the call is done and logged
    pub record Took : Type 0 where
      pub fit : length (outcome_words (carried d e)) ≤ length old.words.now - old.at
      pub wrote : Wrote old.words.now old.at (outcome_words (carried d e)) log'.words.now log'.at
      pub day : desk'.day ≡ day_of S (carried d e).state
      pub state : state_in desk' sheet' ≡ (carried d e).state

    -- they do not: nothing changes
    pub record Kept : Type 0 where
      pub full : length old.words.now - old.at < length (outcome_words (carried d e))
      pub log : log'.words.now ≡ old.words.now
      pub at : log'.at ≡ old.at
      pub day : desk'.day ≡ day_of S d
      pub state : state_in desk' sheet' ≡ d

  pub record Steps (d : State) (e : Option Entry) (old : Log) (done : Bool) (desk' : Desk) (sheet' : Sheet) (log' : Log) : Type 0 where
    pub took : done ≡ true → Took d e old desk' sheet' log'
    pub kept : done ≡ false → Kept d e old desk' sheet' log'

  -- a played round, with any sheet, since it is lent none
  abbrev pub StepsPlay : Desk → ℕ → Log → Bool → Desk → Log → Type 0
  StepsPlay desk room old done desk' log' =
      (sheet : Sheet) → Steps (state_in desk sheet) (Some (Play room)) old done desk' sheet log'
