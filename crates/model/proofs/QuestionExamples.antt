-- The last number that a question lets pass and the first that it does not, on small days of film 1, by computation over the
-- definitions.
use Rattle.std.specs.Prelude.{refl}
use Rattle.std.specs.Int.Count.{ones, ones_in}
use Rattle.loss.specs.Loss.{table}
use Rattle.model.specs.Day.{open_at, shows_at, exists}
use Rattle.model.specs.Questions.{record_questions, window_open, book_own, drop_own, play_own}
use Rattle.model.specs.Soundness.{passes, round_kept, limits_kept, sound_list, fit_test}
use Rattle.model.specs.Calls.{rounds_in_range, day_in_range, limits_in_range, sheet_long, sound, open_questions, open_call, book_questions, start_of, book_call, drop_questions, drop_call, play_questions, play_call}
use Rattle.model.specs.QuestionExamples.{QuestionExamples}

pub question-examples : QuestionExamples
unfolding table open_at shows_at exists record_questions window_open book_own drop_own play_own passes round_kept limits_kept sound_list fit_test rounds_in_range day_in_range limits_in_range sheet_long sound open_questions open_call book_questions start_of book_call drop_questions drop_call play_questions play_call ones ones_in
question-examples =
    record {
      prefetch-256 = refl;
      prefetch-257 = refl;
      reserve-most = refl;
      reserve-more = refl;
      cab-none = refl;
      cab-last = refl;
      no-schedule = refl;
      last_fits = refl;
      last-late = refl;
      first-now = refl;
      first_past = refl;
      first-after-last = refl;
      one_place = refl;
      one-line-short = refl;
      lines-enough = refl;
      last-round = refl;
      day-over = refl;
    }
