-- A replay over a lent list of records is the replay over its first 256 rows, with these put back: no more places are ever taken than
-- 256, nor than the list has. Assumes nothing.
use Rattle.std.specs.Prelude as std
use Rattle.std.specs.Prelude.{◌≡◌, refl, Bool, true, false, cond, Option, List, [], ◌∷◌, ◌++◌, ℕ, zero, suc, ◌-◌, ◌≤◌, length, take, drop, replicate, eqb}
use Rattle.std.specs.Result.{IfErr}
use Rattle.std.proofs.Common.{sym, ◌∙◌, ap, ap₂, subst, append_assoc, arith, length-append}
use Rattle.std.proofs.lemmas.List.{length-replicate}
use Rattle.laws.specs.Questions.{refusal}
use Rattle.limits.specs.Bounds.{max_bookings}
use Rattle.model.specs.Day.{Setting, State, record_of}
use Rattle.model.specs.Fit.{Fits, Found, nowhere, at}
use Rattle.model.specs.SoundLaws.{Asked}
use Rattle.model.proofs.SoundLaws.{asked}
use Rattle.model.specs.Calls.{no_booking, sheet_long, open_questions}
use Rattle.model.specs.PlainDay.{PlainDay, at_first, Arguments, booking, dropping, playing, others, plain_number, plain_start, plain_book, plain_drop, plain_play, plain_call, plain_after, ever_taken}
use Rattle.model.specs.Expected.{other_places}
use Rattle.model.specs.declared.Booking.{Booking}
use Rattle.model.specs.declared.Day.{Day}
use Rattle.model.specs.declared.Desk.{Desk}
use Rattle.model.specs.declared.Sheet.{Sheet}
use Rattle.opening.specs.Contract as opening
use Rattle.questions.specs.Given.{setting_at}
use Rattle.replay.specs.Journal.{entries}
use Rattle.replay.specs.PlainRun.{calls_of, entries_done}
use Rattle.replay.specs.Contract as replay
use Rattle.replay.specs.Contract.{Result, no_day, lent_to, result_of, result_by, refusal_in, entries_in, words_in, day_in}
use Rattle.replay.specs.declared.Replayed as run
use Rattle.replay.specs.declared.journal.Entry.{Entry}
use Rattle.interface.specs.Records.{loaded, desk_of, stored}
use Rattle.interface.proofs.RecordLaws.{stored-front, stored_same}
use Rattle.interface.specs.ReplayCall.{told, ReplaysOver}
use Rattle.interface.specs.declared.replay_call.Replayed.{Replayed}

-- ---- how many places are taken

module _ (S : Setting) (places : ℕ) (fits : (bs : List Booking) → Dec (Fits S bs)) where
  -- no more bookings stand than 256, nor than the list has places
  pub record Few (n : ℕ) : Type 0 where
    pub most : n ≤ max_bookings
    pub within : n ≤ places

  others-most : (name : ℕ) (bs : List Booking) → length (others name bs) ≤ length bs
  others-most name [] = omega arith
  others-most name (b ∷ bs) = go (eqb b.name name) (others-most name bs)
    where
      go : (v : Bool) → length (others name bs) ≤ length bs → length (cond v (others name bs) (b ∷ others name bs)) ≤ suc (length bs)
      go true h = omega arith
      go false h = omega arith

  after-few : (s : PlainDay) (c : Arguments) → Few (length s.standing) → Few (length (plain_call S places fits s c).after.standing)
  after-few s (booking q) f = go (plain_number S places fits s (booking q)) (plain_start S places fits s q) (λ e. asked S s.standing (length s.standing) places s.round q e)
    where
      go : (n : ℕ) (o : Found) → (n ≡ 0 → Asked S s.standing (length s.standing) places s.round q) → Few (length (plain_book S places fits s q n o).after.standing)
      go zero (at x) w =
          let a = w refl in
          let l = length-append s.standing (record_of q x ∷ []) in
          record { most = omega (arith, a.few, l); within = omega (arith, a.place, l) }
      go zero nowhere w = f
      go (suc k) o w = f
  after-few s (dropping name) f = go (plain_number S places fits s (dropping name))
    where
      go : (n : ℕ) → Few (length (plain_drop S places fits s name n).after.standing)
      go zero =
          let h = others-most name s.standing in
          record { most = omega (arith, f.most); within = omega (arith, f.within) }
      go (suc k) = f
  after-few s (playing room) f = go (plain_number S places fits s (playing room))
    where
      go : (n : ℕ) → Few (length (plain_play S places fits s n).after.standing)
      go zero = f
      go (suc k) = f

  -- so many places are ever taken, and those that stand at the end are among them
  pub taken-few : (s : PlainDay) (cs : List Arguments) → Few (length s.standing) → Few (ever_taken S places fits s cs)
  taken-few s [] f = f
  taken-few s (c ∷ cs) f =
      let g = taken-few (plain_call S places fits s c).after cs (after-few s c f) in
      record { most = omega (arith, f.most, g.most); within = omega (arith, f.within, g.within) }

  pub after-taken : (s : PlainDay) (cs : List Arguments) → length (plain_after S places fits s cs).standing ≤ ever_taken S places fits s cs
  after-taken s [] = omega arith
  after-taken s (c ∷ cs) = omega (arith, after-taken (plain_call S places fits s c).after cs)

-- ---- the records at the end

-- those that stand, zeros in the other places that were taken, and what was lent behind these
stored-places : (bs list : List Booking) (taken : ℕ) → length bs ≤ taken → taken ≤ max_bookings → taken ≤ length list
    → stored max_bookings (bs ++ other_places (length bs) taken (loaded list)) list ≡ bs ++ other_places (length bs) taken list
stored-places bs list taken u v w =
    let zeros : List Booking = replicate (taken - length bs) no_booking in
    let p : List Booking = bs ++ zeros in
    let lp : length p ≡ taken = length-append bs zeros ∙ omega (arith, length-replicate (taken - length bs) no_booking) in
    let split : (l : List Booking) → bs ++ other_places (length bs) taken l ≡ p ++ drop (length p) l =
    λ l. sym (append_assoc bs zeros (drop taken l)) ∙ ap (λ (n : ℕ). p ++ drop n l) (sym lp) in
    ap (λ (r : List Booking). stored max_bookings r list) (split (loaded list))
    ∙ stored-front p list (omega arith) (omega arith)
    ∙ sym (split list)

-- ---- the replay

-- what a replay over the rows is to give is what one over the list is to give, once the rows are put back
record Same (list : List Booking) (x y : Result) : Type 0 where
  refusal' : x.refusal ≡ y.refusal
  entries' : x.entries ≡ y.entries
  words' : x.words ≡ y.words
  day' : x.day ≡ y.day
  records' : stored max_bookings x.state.records list ≡ y.state.records
  opens' : x.state.opens ≡ y.state.opens
  reserves' : x.state.reserves ≡ y.state.reserves
  helds' : x.state.helds ≡ y.state.helds

module _ (S : Setting) (list : List Booking) (o r h : List ℕ) (fits : (bs : List Booking) → Dec (Fits S bs)) (journal : List ℕ) (room : ℕ) where
  abbrev over : List Booking → State
  over records = lent_to records (length list) o r h

  same_by : (n : ℕ) → Same list (result_by S (over (loaded list)) fits n journal room) (result_by S (over list) fits n journal room)
  same_by (suc k) = record { refusal' = refl; entries' = refl; words' = refl; day' = refl; records' = stored_same list; opens' = refl; reserves' = refl; helds' = refl }
  same_by zero =
      let es : List (Option Entry) = take (entries_done S (length list) fits at_first room (entries journal)) (entries journal) in
      let cs = calls_of es in
      let few = taken-few S (length list) fits at_first cs (record { most = omega arith; within = omega arith }) in
      record {
        refusal' = refl;
        entries' = refl;
        words' = refl;
        day' = refl;
        records' = stored-places (plain_after S (length list) fits at_first cs).standing list (ever_taken S (length list) fits at_first cs) (after-taken S (length list) fits at_first cs) few.most few.within;
        opens' = refl;
        reserves' = refl;
        helds' = refl;
      }

  same-result : Same list (result_of S (over (loaded list)) fits journal room) (result_of S (over list) fits journal room)
  unfolding open_questions sheet_long
  same-result = same_by (refusal (open_questions S (over list)))

-- a desk with no day has none after a refused opening, which leaves it as it was
module _ (before : Day) (zeros : before.rounds ≡ 0 × (before.disk ≡ 0 × (before.memory ≡ 0 × (before.now ≡ 0 × before.count ≡ 0)))) where
  pub day-told : (out : std.Result run.Replayed ℕ) (list : List Booking) (desk desk' : Desk) → desk ≡ desk_of before list
      → IfErr out (λ number. desk' ≡ desk) → desk'.day ≡ day_in out desk'
  day-told (std.Ok done) list desk desk' made same = refl
  day-told (std.Err number) list desk desk' made same =
      let blank : before ≡ no_day =
      λ i. record { rounds = zeros.0 i; disk = zeros.1.0 i; memory = zeros.1.1.0 i; now = zeros.1.1.1.0 i; count = zeros.1.1.1.1 i } in
      ap (λ (d : Desk). d.day) (same ∙ made) ∙ blank

module _ (file : List ℕ) (rounds disk memory : ℕ) (list : List Booking) (journal log : List ℕ) (sheet : Sheet) where
  abbrev S : Setting
  S = setting_at file (opening.asked rounds disk memory)

  abbrev lent : List Booking → State
  lent records = lent_to records (length list) sheet.opens.now sheet.reserves.now sheet.helds.now

  -- with the answer told, the rows stored and the sheet given back
  pub replay-over : (before : Day) (desk : Desk) → desk ≡ desk_of before list → (out : std.Result run.Replayed ℕ) (desk' : Desk) (sheet' : Sheet) (z : Replayed)
      (list' : List Booking) (log' o' r' h' : List ℕ)
      → ((fits : (bs : List Booking) → Dec (Fits S bs))
      → replay.Replays (result_of S (lent_to desk.rows desk.places sheet.opens.now sheet.reserves.now sheet.helds.now) fits journal (length log)) log out desk' sheet' log')
      → z ≡ told (refusal_in out) (entries_in out) (words_in out) desk'.day → list' ≡ stored (length desk'.rows) desk'.rows list → length desk'.rows ≡ max_bookings
      → o' ≡ sheet'.opens.now → r' ≡ sheet'.reserves.now → h' ≡ sheet'.helds.now
      → ReplaysOver file rounds disk memory list journal log sheet.opens.now sheet.reserves.now sheet.helds.now z list' log' o' r' h'
  replay-over before desk made out desk' sheet' z list' log' o' r' h' given ez el en eo er eh fits =
      let w = result_of S (lent list) fits journal (length log) in
      let g = subst (λ (d : Desk). replay.Replays (result_of S (lent_to d.rows d.places sheet.opens.now sheet.reserves.now sheet.helds.now) fits journal (length log)) log out desk' sheet' log') made (given fits) in
      let s = same-result S list sheet.opens.now sheet.reserves.now sheet.helds.now fits journal (length log) in
      record {
        answer =
            ez
            ∙ ap (λ (k : ℕ). told k (entries_in out) (words_in out) desk'.day) (g.refusal ∙ s.refusal')
            ∙ ap (λ (n : ℕ). told w.refusal n (words_in out) desk'.day) (g.entries ∙ s.entries')
            ∙ ap (λ (n : ℕ). told w.refusal w.entries n desk'.day) (g.words ∙ ap length s.words')
            ∙ ap (λ (d : Day). told w.refusal w.entries (length w.words) d) (g.day ∙ s.day');
        records = el ∙ ap₂ (λ (n : ℕ) (l : List Booking). stored n l list) en g.rows ∙ s.records';
        logged = g.log ∙ ap (λ (ws : List ℕ). ws ++ drop (length ws) log) s.words';
        opens = eo ∙ g.opens ∙ s.opens';
        reserves = er ∙ g.reserves ∙ s.reserves';
        helds = eh ∙ g.helds ∙ s.helds';
      }
