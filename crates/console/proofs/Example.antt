-- The session of document 01, 'The program', computed: from the bytes of the film file and of the input to those of the output.
use Rattle.std.specs.Prelude.{◌≡◌, refl, map}
use Rattle.std.specs.Int.Count.{ones, ones_in}
use Rattle.films.specs.Questions.{head_questions, exceeds, rounds_in_range, size_questions, file_questions, verdict}
use Rattle.films.specs.Decode.{films_of}
use Rattle.loss.specs.Loss.{table}
use Rattle.model.specs.Day.{open_at, shows_at, exists}
use Rattle.model.specs.Questions.{record_questions, window_open, book_own, drop_own, play_own}
use Rattle.model.specs.Soundness.{passes, round_kept, limits_kept, sound_list, fit_test}
use Rattle.model.specs.Calls as C
use Rattle.model.specs.Calls.{day_in_range, limits_in_range, sheet_long, sound, open_questions, open_call, book_questions, start_of, book_call, drop_questions, drop_call, play_questions, play_call}
use Rattle.commands.specs.Grammar.{open_of, book_of, drop_of, play_of, by_verb, command_of}
use Rattle.lines.specs.Lines.{lines}
use Rattle.text.specs.Text.{spell, answer_fields}
use Rattle.console.specs.Session.{at_start, outcome_of, day_after, session_text}
use Rattle.console.specs.Example.{film_file, input, output}

pub example : session_text film_file at_start (map command_of (lines input)) ≡ output
unfolding head_questions exceeds rounds_in_range size_questions file_questions verdict films_of table open_at shows_at exists record_questions window_open book_own drop_own play_own passes round_kept limits_kept sound_list fit_test C.rounds_in_range day_in_range limits_in_range sheet_long sound open_questions open_call book_questions start_of book_call drop_questions drop_call play_questions play_call ones ones_in open_of book_of drop_of play_of by_verb command_of spell answer_fields outcome_of day_after
example = refl
