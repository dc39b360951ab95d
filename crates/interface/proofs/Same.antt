-- A call over a lent list of records is the call over its first 256 rows, with these put back: for every setting, everything lent and
-- every list. Assumes nothing.
use Rattle.std.specs.Prelude.{◌≡◌, refl, Bool, true, false, cond, ◌&&◌, drop, leb}
use Rattle.std.proofs.Common.{sym, ◌∙◌, arith, length-append, length-take-le}
use Rattle.std.proofs.Math.Path.{ap, subst}
use mathlib.Core.List.{List, [], ◌∷◌, ◌++◌}
use Prim.Native.Nat.{ℕ, zero, suc, ◌≤◌, ◌<◌}
use Rattle.std.proofs.Math.Decide.{dec_le}
use Rattle.std.proofs.Math.ListN.{length}
use Rattle.std.proofs.Math.Seq.{append_snoc}
use Rattle.std.specs.Int.Count.{ones}
use borrow.Author.Tests.{leb-true, le-leb, lt-leb}
use Rattle.laws.specs.Tests.{left, right}
use Rattle.laws.specs.Questions.{Question, refusal, refusal-held}
use Rattle.limits.specs.Bounds.{max_bookings}
use Rattle.limits.specs.Refusals.{no_room, day_rounds, day_limits, unsound, no_name}
use Rattle.model.specs.Day.{Setting, State, record_of, opened, reserved, held}
use Rattle.model.specs.Fit.{Found, nowhere, at, first_of}
use Rattle.model.specs.Questions.{file_question, has_name, book_own, drop_own, play_own}
use Rattle.model.specs.Soundness.{sound_list, fit_test}
use Rattle.model.proofs.SoundLaws.{file-held, length_without, asked}
use Rattle.model.specs.Report.{lines_of, written}
use Rattle.model.specs.Calls.{refused, limits_in_range, no_booking, without, worked_out, standing, day_in_range, sheet_long, sound, start_of, book_questions, book_with, book_call, drop_questions, drop_with, drop_call, play_questions, cabs_joined, play_with, play_call}
use Rattle.model.specs.declared.Booking.{Booking}
use Rattle.model.specs.declared.Line.{Line}
use Rattle.model.specs.declared.Request.{Request}
use Rattle.model.specs.declared.Answer.TheVariants.{Played}
use Rattle.interface.specs.Records.{loaded, stored}
use Rattle.interface.proofs.RecordLaws.{take-loaded, stored-front, stored_same, stored-set}
use Rattle.interface.specs.Same.{Same, over}

-- ---- questions

-- a front of questions gives the same number before rests that give the same
asked-same : (front qs rs : List Question) → refusal qs ≡ refusal rs → refusal (front ++ qs) ≡ refusal (front ++ rs)
asked-same [] qs rs e = e
asked-same (q ∷ front) qs rs e = ap (λ (n : ℕ). cond q.0 n q.1) (asked-same front qs rs e)

-- questions that are all answered, but for others behind the first
others-held : (q : Question) (qs rs : List Question) → refusal (q ∷ qs) ≡ 0 → refusal rs ≡ 0 → refusal (q ∷ rs) ≡ 0
others-held q qs rs = go q.0
  where
    go : (b : Bool) → cond b (refusal qs) q.1 ≡ 0 → refusal rs ≡ 0 → cond b (refusal rs) q.1 ≡ 0
    go true e z = z
    go false e z = e

module _ (S : Setting) (d : State) (list : List Booking) where
  abbrev rows : State
  rows = over d list (loaded list)

  abbrev whole : State
  whole = over d list list

  -- the count is at most 256 and within the list
  abbrev Within : Type 0
  Within = (d.count ≤ max_bookings) × (d.count ≤ length list)

  same-standing : Within → standing rows ≡ standing whole
  same-standing h = take-loaded d.count list h.0 h.1

  -- the list is sound exactly if the rows are, and where they are not nothing more is asked of the bookings
  same-sound : (own : List Booking → List Question) → refusal ((sound S rows, unsound) ∷ own (standing rows)) ≡ refusal ((sound S whole, unsound) ∷ own (standing whole))
  unfolding sound
  same-sound own = go (dec_le d.count max_bookings) (dec_le d.count (length list))
    where
      go : Dec (d.count ≤ max_bookings) → Dec (d.count ≤ length list) → refusal ((sound S rows, unsound) ∷ own (standing rows)) ≡ refusal ((sound S whole, unsound) ∷ own (standing whole))
      go (no h) k = simp (lt-leb d.count max_bookings (omega arith))
      go (yes h) (no k) = simp (le-leb d.count max_bookings h, lt-leb d.count (length list) (omega arith))
      go (yes h) (yes k) =
          ap (λ (bs : List Booking). refusal ((leb d.count max_bookings && (leb d.count (length list) && sound_list S bs), unsound) ∷ own bs)) (same-standing (h, k))

  -- a list that is sound has its count within
  sound-within : sound S whole ≡ true → Within
  unfolding sound
  sound-within e =
      (leb-true d.count max_bookings (left (leb d.count max_bookings) _ e), leb-true d.count (length list) (left (leb d.count (length list)) _ (right (leb d.count max_bookings) e)))

  -- a refused call leaves the list as it was
  same-refused : (report : List Line) (k : ℕ) → Same list (refused S rows report k) (refused S whole report k)
  same-refused report k = record { answer = refl; report = refl; now = refl; count = refl; records = stored_same list; opens = refl; reserves = refl; helds = refl }

  -- ---- booking

  same-book-number : (q : Request) → refusal (book_questions S rows q) ≡ refusal (book_questions S whole q)
  unfolding book_questions day_in_range sheet_long
  same-book-number q =
      asked-same (file_question S ∷ (day_in_range S whole, day_rounds) ∷ (limits_in_range S, day_limits) ∷ (sheet_long S whole, no_room) ∷ [])
      ((sound S rows, unsound) ∷ book_own S (standing rows) d.count (length list) d.now q) ((sound S whole, unsound) ∷ book_own S (standing whole) d.count (length list) d.now q)
      (same-sound (λ bs. book_own S bs d.count (length list) d.now q))

  -- an accepted booking finds the count below 256 and a place in the list
  booked-within : (q : Request) → refusal (book_questions S whole q) ≡ 0 → (d.count < max_bookings) × (d.count < length list)
  unfolding book_questions
  booked-within q e =
      let own = book_own S (standing whole) d.count (length list) d.now q in
      let q16 : List Question = (sound S whole, unsound) ∷ own in
      let q11 : List Question = (sheet_long S whole, no_room) ∷ q16 in
      let q15 : List Question = (limits_in_range S, day_limits) ∷ q11 in
      let f = file-held S ((day_in_range S whole, day_rounds) ∷ q15) e in
      let a14 = refusal-held (day_in_range S whole) day_rounds q15 (omega arith) f in
      let a15 = refusal-held (limits_in_range S) day_limits q11 (omega arith) a14.1 in
      let a11 = refusal-held (sheet_long S whole) no_room q16 (omega arith) a15.1 in
      let a16 = refusal-held (sound S whole) unsound own (omega arith) a11.1 in
      let a = asked S (standing whole) d.count (length list) d.now q (others-held (file_question S) ((day_in_range S whole, day_rounds) ∷ q15) own e a16.1) in
      (a.few, a.place)

  pub same-book : (q : Request) → Same list (book_call S rows q) (book_call S whole q)
  unfolding book_call start_of
  same-book q =
      subst (λ (n : ℕ). Same list (book_with S rows q n (start_of S rows q)) (book_call S whole q)) (sym (same-book-number q))
      (go (refusal (book_questions S whole q)) (start_of S rows q) (start_of S whole q) (booked-within q) (λ h. ap (λ (bs : List Booking). first_of (λ s. fit_test S (bs ++ (record_of q s ∷ []))) q.first q.last) (same-standing h)))
    where
      sheet : (f : ℕ → List Booking → ℕ) (old : List ℕ) → Within → (add : List Booking) → worked_out S.rounds (λ t. f t (standing rows ++ add)) old ≡ worked_out S.rounds (λ t. f t (standing whole ++ add)) old
      sheet f old h add = ap (λ (bs : List Booking). worked_out S.rounds (λ t. f t (bs ++ add)) old) (same-standing h)

      stood : (f : ℕ → List Booking → ℕ) (old : List ℕ) → Within → worked_out S.rounds (λ t. f t (standing rows)) old ≡ worked_out S.rounds (λ t. f t (standing whole)) old
      stood f old h = ap (λ (bs : List Booking). worked_out S.rounds (λ t. f t bs) old) (same-standing h)

      accepted : (o : Found) → (d.count < max_bookings) × (d.count < length list) → Same list (book_with S rows q 0 o) (book_with S whole q 0 o)
      accepted (at s) w = record { answer = refl; report = refl; now = refl; count = refl; records = stored-set d.count (record_of q s) list w.0 w.1; opens = sheet (opened S) d.opens (omega arith, omega arith) (record_of q s ∷ []); reserves = sheet (reserved S) d.reserves (omega arith, omega arith) (record_of q s ∷ []); helds = sheet (held S) d.helds (omega arith, omega arith) (record_of q s ∷ []) }
      accepted nowhere w = record { answer = refl; report = refl; now = refl; count = refl; records = stored_same list; opens = stood (opened S) d.opens (omega arith, omega arith); reserves = stood (reserved S) d.reserves (omega arith, omega arith); helds = stood (held S) d.helds (omega arith, omega arith) }

      go : (n : ℕ) (o' o : Found) → (n ≡ 0 → (d.count < max_bookings) × (d.count < length list)) → (Within → o' ≡ o) → Same list (book_with S rows q n o') (book_with S whole q n o)
      go (suc k) o' o w e = same-refused [] (suc k)
      go zero o' o w e =
          let h = w refl in
          subst (λ (f : Found). Same list (book_with S rows q 0 f) (book_with S whole q 0 o)) (sym (e (omega arith, omega arith))) (accepted o h)

  -- ---- drop

  same-drop-number : (name : ℕ) → refusal (drop_questions S rows name) ≡ refusal (drop_questions S whole name)
  unfolding drop_questions day_in_range sheet_long
  same-drop-number name =
      asked-same (file_question S ∷ (day_in_range S whole, day_rounds) ∷ (limits_in_range S, day_limits) ∷ (sheet_long S whole, no_room) ∷ [])
      ((sound S rows, unsound) ∷ drop_own S (standing rows) name) ((sound S whole, unsound) ∷ drop_own S (standing whole) name) (same-sound (λ bs. drop_own S bs name))

  -- an accepted drop finds a sound list and the name in it
  dropped-within : (name : ℕ) → refusal (drop_questions S whole name) ≡ 0 → Within × (has_name name (standing whole) ≡ true)
  unfolding drop_questions drop_own
  dropped-within name e =
      let own : List Question = drop_own S (standing whole) name in
      let q16 : List Question = (sound S whole, unsound) ∷ own in
      let q11 : List Question = (sheet_long S whole, no_room) ∷ q16 in
      let q15 : List Question = (limits_in_range S, day_limits) ∷ q11 in
      let f = file-held S ((day_in_range S whole, day_rounds) ∷ q15) e in
      let a14 = refusal-held (day_in_range S whole) day_rounds q15 (omega arith) f in
      let a15 = refusal-held (limits_in_range S) day_limits q11 (omega arith) a14.1 in
      let a11 = refusal-held (sheet_long S whole) no_room q16 (omega arith) a15.1 in
      let a16 = refusal-held (sound S whole) unsound own (omega arith) a11.1 in
      (sound-within a16.0, (refusal-held (has_name name (standing whole)) no_name [] (omega arith) a16.1).0)

  pub same_drop : (name : ℕ) → Same list (drop_call S rows name) (drop_call S whole name)
  unfolding drop_call
  same_drop name =
      subst (λ (n : ℕ). Same list (drop_with S rows name n) (drop_call S whole name)) (sym (same-drop-number name)) (go (refusal (drop_questions S whole name)) (dropped-within name))
    where
      sheet : (f : ℕ → List Booking → ℕ) (old : List ℕ) → Within → worked_out S.rounds (λ t. f t (without name (standing rows))) old ≡ worked_out S.rounds (λ t. f t (without name (standing whole))) old
      sheet f old h = ap (λ (bs : List Booking). worked_out S.rounds (λ t. f t (without name bs)) old) (same-standing h)

      gone : Within → has_name name (standing whole) ≡ true
          → stored max_bookings (without name (standing rows) ++ (no_booking ∷ drop d.count (loaded list))) list ≡ without name (standing whole) ++ (no_booking ∷ drop d.count list)
      gone h e =
          let rest : List Booking = without name (standing whole) in
          let p : List Booking = rest ++ (no_booking ∷ []) in
          let lp : length p ≡ d.count =
          length-append rest (no_booking ∷ []) ∙ omega (arith, length_without name (standing whole) e, length-take-le d.count list h.1) in
          ap (λ (bs : List Booking). stored max_bookings (without name bs ++ (no_booking ∷ drop d.count (loaded list))) list) (same-standing h)
          ∙ ap (λ (r : List Booking). stored max_bookings r list) (sym (append_snoc rest no_booking (drop d.count (loaded list))) ∙ ap (λ (n : ℕ). p ++ drop n (loaded list)) (sym lp))
          ∙ stored-front p list (omega (arith, h.0)) (omega (arith, h.1))
          ∙ ap (λ (n : ℕ). p ++ drop n list) lp ∙ append_snoc rest no_booking (drop d.count list)

      go : (n : ℕ) → (n ≡ 0 → Within × (has_name name (standing whole) ≡ true)) → Same list (drop_with S rows name n) (drop_with S whole name n)
      go (suc k) w = same-refused [] (suc k)
      go zero w =
          let h = w refl in
          record { answer = refl; report = refl; now = refl; count = refl; records = gone h.0 h.1; opens = sheet (opened S) d.opens h.0; reserves = sheet (reserved S) d.reserves h.0; helds = sheet (held S) d.helds h.0 }

  -- ---- play

  same-play-number : (room : ℕ) → refusal (play_questions S rows room) ≡ refusal (play_questions S whole room)
  unfolding play_questions day_in_range
  same-play-number room =
      asked-same (file_question S ∷ (day_in_range S whole, day_rounds) ∷ (limits_in_range S, day_limits) ∷ [])
      ((sound S rows, unsound) ∷ play_own S (standing rows) d.now room) ((sound S whole, unsound) ∷ play_own S (standing whole) d.now room) (same-sound (λ bs. play_own S bs d.now room))

  played-within : (room : ℕ) → refusal (play_questions S whole room) ≡ 0 → Within
  unfolding play_questions
  played-within room e =
      let own : List Question = play_own S (standing whole) d.now room in
      let q16 : List Question = (sound S whole, unsound) ∷ own in
      let q15 : List Question = (limits_in_range S, day_limits) ∷ q16 in
      let f = file-held S ((day_in_range S whole, day_rounds) ∷ q15) e in
      let a14 = refusal-held (day_in_range S whole) day_rounds q15 (omega arith) f in
      let a15 = refusal-held (limits_in_range S) day_limits q16 (omega arith) a14.1 in
      sound-within (refusal-held (sound S whole) unsound own (omega arith) a15.1).0

  pub same-play : (report : List Line) → Same list (play_call S rows report) (play_call S whole report)
  unfolding play_call
  same-play report =
      subst (λ (n : ℕ). Same list (play_with S rows report n) (play_call S whole report)) (sym (same-play-number (length report))) (go (refusal (play_questions S whole (length report))) (played-within (length report)))
    where
      go : (n : ℕ) → (n ≡ 0 → Within) → Same list (play_with S rows report n) (play_with S whole report n)
      go (suc k) w = same-refused report (suc k)
      go zero w =
          let e = same-standing (w refl) in
          record {
            answer = ap (λ (bs : List Booking). Played (length (lines_of S d.now bs)) (ones (cabs_joined S d.now 0 bs))) e;
            report = ap (λ (bs : List Booking). written (lines_of S d.now bs) report) e;
            now = refl;
            count = refl;
            records = stored_same list;
            opens = refl;
            reserves = refl;
            helds = refl;
          }
