-- What the plain day of document 01 makes of a journal, with a log of so many places.
use Rattle.std.specs.Prelude.{cond, Option, Some, None, List, [], ◌∷◌, ◌++◌, ℕ, suc, ◌-◌, length, leb}
use Rattle.limits.specs.Refusals.{command_form}
use Rattle.model.specs.Day.{Setting}
use Rattle.model.specs.Fit.{Fits}
use Rattle.model.specs.PlainDay.{PlainDay, PlainOutcome, Arguments, booking, dropping, playing, plain_refused, plain_call}
use Rattle.model.specs.declared.Booking.{Booking}
use Rattle.replay.specs.Log.{logged_words}
use Rattle.replay.specs.declared.journal.Entry.{Entry}
use Rattle.replay.specs.declared.journal.Entry.TheVariants.{Book, Drop, Play}

-- the calls among the entries, as the plain day is fed them
abbrev pub calls_of : List (Option Entry) → List Arguments
calls_of [] = []
calls_of (Some (Book q) ∷ es) = booking q ∷ calls_of es
calls_of (Some (Drop name) ∷ es) = dropping name ∷ calls_of es
calls_of (Some (Play room) ∷ es) = playing room ∷ calls_of es
calls_of (None ∷ es) = calls_of es

module _ (S : Setting) (places : ℕ) (fits : (bs : List Booking) → Dec (Fits S bs)) where
  -- an entry that is no call gets 24 and changes nothing
  abbrev pub plain_entry : PlainDay → Option Entry → PlainOutcome
  plain_entry s (Some (Book q)) = plain_call S places fits s (booking q)
  plain_entry s (Some (Drop name)) = plain_call S places fits s (dropping name)
  plain_entry s (Some (Play room)) = plain_call S places fits s (playing room)
  plain_entry s None = plain_refused S places fits s command_form

  -- the words of an entry
  abbrev pub entry_log : PlainDay → Option Entry → List ℕ
  entry_log s e = logged_words (plain_entry s e).answer (plain_entry s e).lines

  -- the words of a list of entries
  abbrev pub plain_log : PlainDay → List (Option Entry) → List ℕ
  plain_log s [] = []
  plain_log s (e ∷ es) = entry_log s e ++ plain_log (plain_entry s e).after es

  -- how many entries are done with room for so many words: those before the first whose words do not fit in what is left
  abbrev pub entries_done : PlainDay → ℕ → List (Option Entry) → ℕ
  entries_done s room [] = 0
  entries_done s room (e ∷ es) =
      cond (leb (length (entry_log s e)) room) (suc (entries_done (plain_entry s e).after (room - length (entry_log s e)) es)) 0
