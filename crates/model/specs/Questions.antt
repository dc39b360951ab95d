-- The questions at the counter that a call puts of its own, in the paper's order: booking's from 18 on, drop's 19, play's
-- from 23 on. Calls.antt puts those before them. Document 01, 'Questions at the counter'.
use Rattle.std.specs.Prelude.{Bool, false, not, ◌&&◌, ◌||◌, List, [], ◌∷◌, ◌++◌, ℕ, leb, ltb, eqb}
use Rattle.laws.specs.Questions.{Question}
use Rattle.limits.specs.Bounds.{max_prefetch, max_reserve, max_bookings}
use Rattle.limits.specs.Refusals.{no_film, prefetch_bound, reserve_bound, no_room, no_schedule, list_full, name_taken, no_name, no_cab, window_bound, day_over}
use Rattle.films.specs.Layout.{in_file}
use Rattle.model.specs.Day.{Setting, record_of, ends, exists, opened}
use Rattle.model.specs.declared.Booking.{Booking}
use Rattle.model.specs.declared.Request.{Request}

-- "Is the name in the list?"
abbrev pub has_name : ℕ → List Booking → Bool
has_name n [] = false
has_name n (b ∷ bs) = eqb b.name n || has_name n bs

module _ (S : Setting) where
  -- "Every call but opening is lent the film file and puts its questions first": by the file's verdict
  abbrev pub file_question : Question
  file_question = (eqb S.verdict 0, S.verdict)

  -- 8, 9, 10, 20 and 12, of a record
  unfoldable pub record_questions : Booking → List Question
  record_questions b =
      (in_file S.films b.film, no_film)
      ∷ (leb b.prefetch max_prefetch, prefetch_bound)
      ∷ (leb b.reserve max_reserve, reserve_bound)
      ∷ (not (eqb b.cabs 0), no_cab)
      ∷ (exists S b, no_schedule)
      ∷ []

  -- "now ≤ first ≤ last and last+p+n ≤ T"
  unfoldable pub window_open : ℕ → Request → Bool
  window_open now q = leb now q.first && (leb q.first q.last && leb (ends S (record_of q q.last)) S.rounds)

  -- "Is the name new? 18. Then 8, 9, 10. Is some cab named? 20. Then 12. Is now ≤ first ≤ last and last+p+n ≤ T? 21. Is
  -- there a place below both 256 and the list's length? 17.", of the standing bookings, their number, the list's length and
  -- the round
  unfoldable pub book_own : List Booking → ℕ → ℕ → ℕ → Request → List Question
  book_own bs count places now q =
      (not (has_name q.name bs), name_taken)
      ∷ record_questions (record_of q q.first)
      ++ (window_open now q, window_bound)
      ∷ (ltb count max_bookings && ltb count places, list_full)
      ∷ []

  -- "Is the name in the list? 19."
  unfoldable pub drop_own : List Booking → ℕ → List Question
  drop_own bs name = (has_name name bs, no_name) ∷ []

  -- "Is `now` below T? 23. Does the report take every open film? 11.", with room for so many lines
  unfoldable pub play_own : List Booking → ℕ → ℕ → List Question
  play_own bs now room = (ltb now S.rounds, day_over) ∷ (leb (opened S now bs) room, no_room) ∷ []
