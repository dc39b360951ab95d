-- A request whose questions but 22 have passed, placed: what the code's steps ask and give is what the model's call says.
-- Assumes nothing.
use Rattle.std.specs.Prelude.{◌≡◌, List, [], ◌∷◌, ◌++◌, map, ℕ, zero, suc, ◌+◌, ◌-◌, ◌^◌, ◌≤◌, ◌<◌, Some, None, Result, Ok, Err, IsErr, length, set, take}
use Rattle.std.specs.Result.{IsErrAnd}
use Rattle.std.proofs.Math.Path.{refl}
use Rattle.std.proofs.Common.{sym, ap, ◌∙◌, add-one, arith, length-take, eq-eqb, leb-true}
use Rattle.std.proofs.lemmas.List.{length-map}
use Rattle.limits.specs.Bounds.{max_bookings, max_day, max_prefetch, max_reserve}
use Rattle.limits.specs.Refusals.{no_start, number_of}
use Rattle.limits.specs.declared.refusals.Refusal.{Refusal}
use Rattle.limits.proofs.Numbers.{number-not_zero}
use Rattle.laws.specs.Questions.{Question, refusal, both-held}
use Rattle.laws.specs.Words.{Bytes}
use Rattle.films.specs.Questions.{verdict}
use Rattle.films.specs.Catalogue.{catalogue_of}
use Rattle.films.proofs.CatalogueLaws.{catalogue-listed}
use Rattle.films.specs.declared.file.Entry.{Entry}
use Rattle.films.specs.declared.file.FilmFile.{FilmFile}
use Rattle.retrieval.specs.Stored.{InRange}
use Rattle.model.specs.Day.{Setting, State, record_of, exists}
use Rattle.model.specs.Fit as Fit
use Rattle.model.specs.Fit.{first_of}
use Rattle.model.specs.Questions.{book_own}
use Rattle.model.specs.Calls.{day_in_range, rounds_in_range, limits_in_range, sheet_long, sound, book_questions, start_of, book_with, book_call}
use Rattle.model.specs.Code.{state_in}
use Rattle.model.specs.SoundLaws.{Asked}
use Rattle.model.proofs.SoundLaws.{says-sound, asked, passed-at}
use Rattle.model.specs.FirstFit.{Finds}
use Rattle.model.proofs.FirstFit.{search-finds}
use Rattle.model.specs.declared.Booking.{Booking}
use Rattle.model.specs.declared.Request.{Request}
use Rattle.model.specs.declared.Answer.TheVariants.{Refused, Booked}
use Rattle.model.specs.declared.Desk.{Desk}
use Rattle.model.specs.declared.Sheet.{Sheet}
use Rattle.load.specs.Stream.{length_of, end_of, profile_of}
use Rattle.load.specs.Streams.{stream_of}
use Rattle.load.specs.Basic.{Playable, EachOf}
use Rattle.load.specs.declared.stream.Stream.{Stream}
use Rattle.rounds.specs.Sheet as rounds
use Rattle.rounds.specs.Sheet.{Places, DaySheet, Summable}
use Rattle.rounds.specs.DaySheetLaws.{length-worked, day-sheet, day-again}
use Rattle.search.specs.Fit.{query_in, start_at, fits_at, answer_of, Window}
use Rattle.questions.specs.Given.{setting_at}
use Rattle.questions.specs.Numbers.{rounds_hold, day_holds, limits_hold, sheet_holds, sound_holds, standing_asks, asks_in}
use Rattle.questions.specs.Standing.{Standing, standing-held, standing-numbered, standing-first, standing-after}
use Rattle.questions.specs.Tied.{Tied, AllTied, tied-rounds}
use Rattle.questions.specs.Ties.{stream-tied}
use Rattle.questions.specs.ListSound.{streams-made, all-tied-streams, sound-playable}
use Rattle.questions.specs.SheetOf.{SheetOf, day-sheet-of}
use Rattle.questions.specs.Start.{first-query}
use Rattle.booking.specs.Contract.{Leaves}
use Rattle.booking.specs.Append.{Appends}
use Rattle.booking.specs.Place.{film-small, sheet-window}

-- what a `?` returns is the refusal that it came upon
pub residual : {A : Type 0} {r : Result A Refusal} {e : Refusal} → IsErr r × IsErrAnd r (λ x. x ≡ e) → r ≡ Err e
residual {r = Ok x} h = absurd h.1
residual {r = Err x} h = ap Err h.1

-- one more of each
all-tied-snoc : (S : Setting) (f : List ℕ) (bs : List Booking) (xs : List Stream) → AllTied S f bs xs → (b : Booking) (x : Stream) → Tied S f b x
    → AllTied S f (bs ++ (b ∷ [])) (xs ++ (x ∷ []))
all-tied-snoc S f [] [] t b x u = (u, tt)
all-tied-snoc S f [] (z ∷ xs) t b x u = absurd t
all-tied-snoc S f (c ∷ bs) [] t b x u = absurd t
all-tied-snoc S f (c ∷ bs) (z ∷ xs) t b x u = (t.0, all-tied-snoc S f bs xs t.1 b x u)

module _ (f : List ℕ) (desk : Desk) (sheet : Sheet) (q : Request) where
  abbrev S : Setting
  S = setting_at f desk.day

  abbrev d : State
  d = state_in desk sheet

  abbrev bs : List Booking
  bs = take desk.day.count desk.rows

  -- what every call asks, and booking's own questions
  abbrev standing : List Question
  standing = asks_in f desk sheet

  abbrev own : List Question
  own = book_own S bs desk.day.count desk.places desk.day.now q

  -- the questions but 22 are these
  asks-parted : book_questions S d q ≡ standing ++ own
  unfolding book_questions day_in_range rounds_in_range limits_in_range sheet_long sound standing_asks day_holds rounds_hold limits_hold sheet_holds sound_holds
  asks-parted = refl

  -- a number before 22: nothing changes
  pub leaves-refused : (n : ℕ) → n ≡ refusal (book_questions S d q) → (n ≡ 0 → ⊥) → Leaves S (book_call S d q) (Refused n) desk sheet
  unfolding book_call
  leaves-refused n e some = rw (← e) (go n some)
    where
      go : (m : ℕ) → (m ≡ 0 → ⊥) → Leaves S (book_with S d q m (start_of S d q)) (Refused m) desk sheet
      go zero j = absurd (j refl)
      go (suc m) j = record { answer = refl; day = refl; rows = refl; opens = refl; reserves = refl; helds = refl }

  pub standing-refused : (e : Refusal) → number_of e ≡ refusal standing → Leaves S (book_call S d q) (Refused (number_of e)) desk sheet
  standing-refused e n =
      leaves-refused (number_of e)
      (sym
      (ap refusal asks-parted
      ∙ standing-first f desk (length sheet.opens.now) (length sheet.reserves.now) (length sheet.helds.now) own (number_of e) n (number-not_zero e)))
      (number-not_zero e)

  -- once the others have passed, its own questions decide
  own-decides : refusal standing ≡ 0 → refusal (book_questions S d q) ≡ refusal own
  own-decides n =
      ap refusal asks-parted ∙ standing-after f desk (length sheet.opens.now) (length sheet.reserves.now) (length sheet.helds.now) own n

  pub own-refused : (e : Refusal) → refusal standing ≡ 0 → number_of e ≡ refusal own → Leaves S (book_call S d q) (Refused (number_of e)) desk sheet
  own-refused e n k = leaves-refused (number_of e) (k ∙ sym (own-decides n)) (number-not_zero e)

  pub own-passed : refusal standing ≡ 0 → 0 ≡ refusal own → refusal (book_questions S d q) ≡ 0
  own-passed n k = own-decides n ∙ sym k

  module _ (passed : refusal (book_questions S d q) ≡ 0) where
    standing-passed : refusal standing ≡ 0
    standing-passed =
        (both-held standing own (standing-numbered f desk (length sheet.opens.now) (length sheet.reserves.now) (length sheet.helds.now))
        (sym (ap refusal asks-parted) ∙ passed)).0

    pub stands : Standing f desk (length sheet.opens.now) (length sheet.reserves.now) (length sheet.helds.now)
    stands = standing-held f desk (length sheet.opens.now) (length sheet.reserves.now) (length sheet.helds.now) standing-passed

    pub asks : Asked S bs desk.day.count desk.places desk.day.now q
    asks =
        asked S bs desk.day.count desk.places desk.day.now q
        (rw (eq-eqb (verdict f) 0 stands.accepted) (sym (own-decides standing-passed) ∙ passed))

  -- ---- a request whose questions but 22 have passed

  -- xs are the streams of the standing bookings, and y is the request's, whose start is of no account
  pub record Passed (xs : List Stream) (y : Stream) : Type 0 where
    pub passed : refusal (book_questions S d q) ≡ 0
    pub standing : xs ≡ map (stream_of (catalogue_of f)) bs
    pub request : y ≡ stream_of (catalogue_of f) (record_of q 0)
    pub room : desk.day.count < max_bookings

  module _ {xs : List Stream} {y : Stream} (g : Passed xs y) where
    abbrev T : ℕ
    T = desk.day.rounds

    abbrev there : Standing f desk (length sheet.opens.now) (length sheet.reserves.now) (length sheet.helds.now)
    there = stands g.passed

    abbrev own-held : Asked S bs desk.day.count desk.places desk.day.now q
    own-held = asks g.passed

    tied-request : Tied S f (record_of q 0) y
    tied-request = rw g.request (stream-tied S f refl there.accepted (record_of q 0))

    -- ---- the sheet of the standing bookings

    count-made : length xs ≤ desk.day.count
    count-made =
        omega (
          arith,
          ap length g.standing,
          length-map bs (stream_of (catalogue_of f)),
          length-take desk.day.count desk.rows,
        )

    tied : AllTied S f bs xs
    tied = all-tied-streams f desk.day bs xs there.accepted g.standing

    good : EachOf (Playable f) xs
    good = sound-playable f desk.day bs xs there.accepted g.standing there.rounds (says-sound S bs there.sound)

    sheet-places : Places T sheet.opens.now sheet.reserves.now sheet.helds.now
    sheet-places = record { opens-places = there.opens; reserves-places = there.reserves; helds-places = there.helds }

    pub summable : Summable f xs 0 T sheet.opens.now sheet.reserves.now sheet.helds.now
    summable =
        record { few = omega (arith, count-made, there.few); playable = good; order = omega arith; day = there.rounds; places = sheet-places }

    -- ---- the search over it

    request-fair : Playable f (start_at q.last y)
    request-fair =
        let t = tied-request in
        let p = own-held.fair in
        let n = tied-rounds S f (record_of q 0) y t in
        record {
          bounded =
              record {
                some = leb-true 1 y.rounds (sym t.inside ∙ p.film);
                prefetch = omega (arith, p.prefetch, t.prefetch);
                reserve = omega (arith, p.reserve, t.reserve);
                ends = omega (arith, own-held.ending, n, t.prefetch, there.rounds);
              };
          stored = t.stored;
        }

    pub in-range : InRange f y.at y.rounds y.prefetch y.reserve
    in-range =
        record { stored = request-fair.stored; prefetch = request-fair.bounded.prefetch; reserve = request-fair.bounded.reserve }

    last_within : q.last + length_of y ≤ T
    last_within = omega (arith, own-held.ending, tied-rounds S f (record_of q 0) y tied-request, tied-request.prefetch)

    ties : (s : ℕ) → Tied S f (record_of q s) (start_at s y)
    ties s =
        let t = tied-request in
        record { start = refl; prefetch = t.prefetch; reserve = t.reserve; cabs = t.cabs; inside = t.inside; are = t.are; stored = t.stored }

    -- over the summed sheet `mid`
    module _ (mid : Sheet)
        (laid : rounds.SheetOf f xs 0 desk.day.rounds sheet.opens.now sheet.reserves.now sheet.helds.now mid.opens.now mid.reserves.now mid.helds.now) where
      summed : DaySheet f xs T sheet.opens.now sheet.reserves.now sheet.helds.now mid.opens.now mid.reserves.now mid.helds.now
      summed = day-sheet _ _ _ _ _ _ _ _ _ laid

      pub window : Window (query_in f xs y desk.day mid) q.last
      window =
          sheet-window f xs T sheet.opens.now sheet.reserves.now sheet.helds.now mid.opens.now mid.reserves.now mid.helds.now summed
          (omega (arith, count-made, g.room)) good sheet-places there.rounds y (profile_of f y) desk.day.disk desk.day.memory q.last last_within

      sheet-of : SheetOf S bs sheet.opens.now sheet.reserves.now sheet.helds.now mid.opens.now mid.reserves.now mid.helds.now
      sheet-of =
          day-sheet-of S f bs xs tied sheet.opens.now sheet.reserves.now sheet.helds.now
          mid.opens.now mid.reserves.now mid.helds.now summed

      -- what the search found, in the model's words
      abbrev found : Fit.Found
      found = first_of (fits_at (query_in f xs y desk.day mid)) q.first q.last

      -- the search finds what the model finds
      found-same : start_of S d q ≡ found
      unfolding start_of exists
      found-same =
          first-query S f bs xs tied q y ties refl sheet.opens.now sheet.reserves.now sheet.helds.now there.sound
          (λ s. (passed-at S q q.first s own-held.fair).exist) own-held.ending
          ∙ rw (sheet-of.films, sheet-of.reserve-sums, sheet-of.held-sums)

      answer-none : (m : Fit.Found) → None ≡ answer_of m → m ≡ Fit.nowhere
      answer-none Fit.nowhere e = refl
      answer-none (Fit.at s) e = cc

      answer-some : (s : ℕ) (m : Fit.Found) → Some s ≡ answer_of m → m ≡ Fit.at s
      answer-some s Fit.nowhere e = cc
      answer-some s (Fit.at x) e = cc

      call_same : (m : Fit.Found) → start_of S d q ≡ m
          → book_call S d q ≡ book_with S d q 0 m
      unfolding book_call
      call_same m e = rw (g.passed, e)

      -- no start fits: 22, and the sheet of the standing bookings
      pub leaves_none : None ≡ answer_of found → Leaves S (book_call S d q) (Refused no_start) desk mid
      leaves_none e =
          rw (call_same Fit.nowhere (found-same ∙ answer-none found e))
          (record { answer = refl; day = refl; rows = refl; opens = sheet-of.films; reserves = sheet-of.reserve-sums; helds = sheet-of.held-sums })

      -- a start of the window
      module _ (s : ℕ) (upto : s ≤ q.last) where
        within : end_of (start_at s y) ≤ T
        within = omega (arith, last_within)

        pub appends : Appends f xs (start_at s y) mid.opens.now mid.reserves.now mid.helds.now
        appends =
            record {
              few = omega (arith, count-made, g.room);
              playable = good;
              stream =
                  record {
                    bounded =
                        record {
                          some = request-fair.bounded.some;
                          prefetch = request-fair.bounded.prefetch;
                          reserve = request-fair.bounded.reserve;
                          ends = omega (arith, within, there.rounds);
                        };
                    stored = request-fair.stored;
                  };
              places =
                  record {
                    opens-places = omega (arith, within, length-worked T _ sheet.opens.now mid.opens.now summed.films there.opens, there.opens);
                    reserves-places = omega (arith, within, length-worked T _ sheet.reserves.now mid.reserves.now summed.reserved there.reserves, there.reserves);
                    helds-places = omega (arith, within, length-worked T _ sheet.helds.now mid.helds.now summed.held there.helds, there.helds);
                  };
            }

      module _ (s : ℕ) (at-s : Some s ≡ answer_of found) where
        pub in_window : (q.first ≤ s) × (s ≤ q.last)
        in_window = go found (answer-some s found at-s) (search-finds (fits_at (query_in f xs y desk.day mid)) q.first (suc q.last - q.first))
          where
            go : (m : Fit.Found) → m ≡ Fit.at s → Finds (fits_at (query_in f xs y desk.day mid)) q.first (suc q.last - q.first) m
                → (q.first ≤ s) × (s ≤ q.last)
            go Fit.nowhere u v = let z : ◌≡◌ {A = ℕ} 0 1 = cc in absurd (omega arith)
            go (Fit.at x) u v = let z : x ≡ s = cc in (omega (arith, v.from), omega (arith, v.upto))

        -- the record of the request at the start fits its fields
        pub record-fits : Bytes f → (q.film < 2 ^ 16) × (q.prefetch ≤ max_prefetch) × (q.reserve ≤ max_reserve) × (s ≤ max_day)
        record-fits bytes = (
          film-small f bytes there.accepted q.film own-held.fair.film,
          own-held.fair.prefetch,
          own-held.fair.reserve,
          omega (arith, within s in_window.1, there.rounds),
        )

        -- the booking is appended, and the rounds that it changes are summed again
        pub leaves_at : (after : Sheet)
            → rounds.SheetOf f (xs ++ (start_at s y ∷ [])) s (end_of (start_at s y)) mid.opens.now mid.reserves.now mid.helds.now
            after.opens.now after.reserves.now after.helds.now
            → Leaves S (book_call S d q) (Booked s)
            (record {
              day = record { rounds = T; disk = desk.day.disk; memory = desk.day.memory; now = desk.day.now; count = desk.day.count + 1 };
              rows = set desk.rows desk.day.count (record_of q s);
              places = desk.places;
            })
            after
        leaves_at after again =
            let again-summed =
            day-again f xs T sheet.opens.now sheet.reserves.now sheet.helds.now mid.opens.now mid.reserves.now mid.helds.now (start_at s y) (within s in_window.1)
            after.opens.now after.reserves.now after.helds.now summed again in
            let all =
            day-sheet-of S f (bs ++ (record_of q s ∷ [])) (xs ++ (start_at s y ∷ []))
            (all-tied-snoc S f bs xs tied (record_of q s) (start_at s y) (ties s))
            sheet.opens.now sheet.reserves.now sheet.helds.now after.opens.now after.reserves.now after.helds.now again-summed in
            rw (call_same (Fit.at s) (found-same ∙ answer-some s found at-s))
            (record {
              answer = refl;
              day = ap (λ (n : ℕ). record { rounds = T; disk = desk.day.disk; memory = desk.day.memory; now = desk.day.now; count = n }) (add-one desk.day.count);
              rows = refl;
              opens = all.films;
              reserves = all.reserve-sums;
              helds = all.held-sums;
            })

        -- each list is as long as it was
        pub same-lengths : (after : Sheet)
            → rounds.SheetOf f (xs ++ (start_at s y ∷ [])) s (end_of (start_at s y)) mid.opens.now mid.reserves.now mid.helds.now
            after.opens.now after.reserves.now after.helds.now
            → (length after.opens.now ≡ length sheet.opens.now)
            × ((length after.reserves.now ≡ length sheet.reserves.now) × (length after.helds.now ≡ length sheet.helds.now))
        same-lengths after again =
            let all =
            day-again f xs T sheet.opens.now sheet.reserves.now sheet.helds.now mid.opens.now mid.reserves.now mid.helds.now (start_at s y) (within s in_window.1)
            after.opens.now after.reserves.now after.helds.now summed again in (
              length-worked T _ sheet.opens.now after.opens.now all.films there.opens,
              (
                length-worked T _ sheet.reserves.now after.reserves.now all.reserved there.reserves,
                length-worked T _ sheet.helds.now after.helds.now all.held there.helds,
              ),
            )

-- .. as the code makes them, by the entries of an accepted file
pub passed-by : (file : FilmFile) (desk : Desk) (sheet : Sheet) (q : Request) (films films' : List Entry) (xs : List Stream) (y : Stream)
    → refusal (book_questions (setting_at file.bytes.now desk.day) (state_in desk sheet) q) ≡ 0
    → films ≡ file.films.items → xs ≡ map (stream_of films) (take desk.day.count desk.rows)
    → films' ≡ file.films.items → y ≡ stream_of films' (record_of q 0)
    → Passed file.bytes.now desk sheet q xs y
passed-by file desk sheet q films films' xs y passed e m e' r =
    record {
      passed = passed;
      standing = streams-made file.bytes.now _ file.films.items films xs file.accepted file.catalogue e m;
      request = r ∙ ap (λ l. stream_of l (record_of q 0)) (e' ∙ file.catalogue ∙ sym (catalogue-listed file.bytes.now file.accepted));
      room = (asks file.bytes.now desk sheet q passed).few;
    }
