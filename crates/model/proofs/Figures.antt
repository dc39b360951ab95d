-- The session of document 01, 'The program', by computation over the definitions. The loss is the papers' table. (The starred lines are
-- crate `starred_lines`'s table.)
use Rattle.std.specs.Prelude.{refl}
use Rattle.std.specs.Int.Count.{ones, ones_in}
use Rattle.loss.specs.Loss.{table}
use Rattle.model.specs.Day.{open_at, shows_at, exists}
use Rattle.model.specs.Questions.{record_questions, window_open, book_own, drop_own, play_own}
use Rattle.model.specs.Soundness.{passes, round_kept, limits_kept, sound_list, fit_test}
use Rattle.model.specs.Calls.{rounds_in_range, day_in_range, limits_in_range, sheet_long, sound, open_questions, open_call, book_questions, start_of, book_call, drop_questions, drop_call, play_questions, play_call}
use Rattle.model.specs.Figures.{Figures}

pub figures : Figures
unfolding table open_at shows_at exists record_questions window_open book_own drop_own play_own passes round_kept limits_kept sound_list fit_test rounds_in_range day_in_range limits_in_range sheet_long sound open_questions open_call book_questions start_of book_call drop_questions drop_call play_questions play_call ones ones_in
figures =
    record {
      opens = refl;
      answered = refl;
      reported = refl;
    }
