-- A call over a lent list is: load its rows, the call by value, store the rows and tell the answer in numbers. Assumes nothing.
use Rattle.std.specs.Prelude.{◌≡◌, refl, List, [], ◌∷◌, ℕ, ◌≤◌, length}
use Rattle.std.proofs.Common.{sym, ◌∙◌, ap, ap₂, subst, arith}
use Rattle.limits.specs.Bounds.{max_bookings}
use Rattle.model.specs.Day.{Setting, State}
use Rattle.model.specs.Fit.{FitsAt}
use Rattle.model.specs.FirstFit.{AnswersFirst}
use Rattle.model.proofs.FirstFit.{book-first}
use Rattle.model.specs.Answers.{number_of, values_of}
use Rattle.model.specs.Calls.{Outcome, standing, book_call, drop_call, play_call}
use Rattle.model.specs.Code.{state_of, state_in, day_of}
use Rattle.model.specs.declared.Answer.{Answer}
use Rattle.model.specs.declared.Answer.TheVariants as A
use Rattle.model.specs.declared.Booking.{Booking}
use Rattle.model.specs.declared.Line.{Line}
use Rattle.model.specs.declared.Day.{Day}
use Rattle.model.specs.declared.Desk.{Desk}
use Rattle.model.specs.declared.Sheet.{Sheet}
use Rattle.model.specs.declared.Request.{Request}
use Rattle.questions.specs.Given.{setting_at}
use Rattle.booking.specs.Contract as booking
use Rattle.dropping.specs.Contract.{Drops}
use Rattle.playing.specs.Contract.{lines_in, Plays}
use Rattle.interface.specs.Records.{desk_of, stored}
use Rattle.interface.specs.Same.{Same}
use Rattle.interface.proofs.Same.{same-book, same_drop, same-play}
use Rattle.interface.specs.Calls.{Gives, Leaves}
use Rattle.interface.proofs.Calls.{same-day}
use Rattle.interface.specs.Reply.{reply_of}
use Rattle.interface.proofs.ReplyLaws.{reply-number}
use Rattle.interface.proofs.Rounds.{lines-fit, written-stored}
use Rattle.interface.specs.DeskCalls.{RepliesFirst, Books, BooksOver, DropsOver, PlaysOver}
use Rattle.interface.specs.declared.reply.Reply.{Reply}

-- ---- the first start, in numbers

reply-start : (a : Answer) (day : Day) (s : ℕ) → values_of a ≡ s ∷ [] → (reply_of a day).start ≡ s
reply-start (A.Refused k) day s e = let z : ◌≡◌ {A = ℕ} 0 1 = cc in absurd (omega arith)
reply-start A.Opened day s e = let z : ◌≡◌ {A = ℕ} 0 1 = cc in absurd (omega arith)
reply-start (A.Booked t) day s e = cc
reply-start A.Dropped day s e = let z : ◌≡◌ {A = ℕ} 0 1 = cc in absurd (omega arith)
reply-start (A.Played n c) day s e = let z : ◌≡◌ {A = ℕ} 0 1 = cc in absurd (omega arith)

replies-first : (P : ℕ → Type 0) (first last : ℕ) (a : Answer) (day : Day) → AnswersFirst P first last a → RepliesFirst P first last (reply_of a day)
replies-first P first last a day v =
    let n : (reply_of a day).refusal ≡ number_of a = reply-number a day in
    record {
      either = rw n v.either;
      booked = λ e. let w = v.booked (sym n ∙ e) in rw (reply-start a day w.0 w.1) w.2;
      refused = rw n v.refused;
    }

books : (S : Setting) (d : State) (q : Request) (z : Reply) (list' : List Booking) (o' r' h' : List ℕ)
    → Leaves S (book_call S d q) z list' o' r' h' → Books S d q z list' o' r' h'
books S d q z list' o' r' h' l =
    record {
      leaves = l;
      first = λ e.
          subst (λ (t : Reply). RepliesFirst (FitsAt S (standing d) q) q.first q.last t) (sym l.reply)
          (replies-first (FitsAt S (standing d) q) q.first q.last (book_call S d q).answer (day_of S (book_call S d q).state) (book-first S d q e));
    }

-- ---- the three calls

module _ (file : List ℕ) (day : Day) (list : List Booking) (desk : Desk) (made : desk ≡ desk_of day list) where
  abbrev S : Setting
  S = setting_at file day

  -- a booking or a drop, with the answer told, the rows stored and the sheet given back
  module _ (sheet : Sheet) (a : Answer) (desk' : Desk) (sheet' : Sheet) (z : Reply) (list' : List Booking) (o' r' h' : List ℕ)
      (ez : z ≡ reply_of a desk'.day) (el : list' ≡ stored (length desk'.rows) desk'.rows list) (en : length desk'.rows ≡ max_bookings)
      (eo : o' ≡ sheet'.opens.now) (er : r' ≡ sheet'.reserves.now) (eh : h' ≡ sheet'.helds.now) where
    told : (x y : Outcome) → Same list x y → Gives S x a desk'.day desk'.rows sheet'.opens.now sheet'.reserves.now sheet'.helds.now → Leaves S y z list' o' r' h'
    told x y s g =
        record {
          reply = ez ∙ ap₂ reply_of (g.answer ∙ s.answer) (g.after ∙ same-day S list x y s);
          records = el ∙ ap₂ (λ (n : ℕ) (l : List Booking). stored n l list) en g.records ∙ s.records;
          opens = eo ∙ g.opens ∙ s.opens;
          reserves = er ∙ g.reserves ∙ s.reserves;
          helds = eh ∙ g.helds ∙ s.helds;
        }

    abbrev lent : State
    lent = state_of day list (length list) sheet.opens.now sheet.reserves.now sheet.helds.now

    pub book-over : (q : Request) → booking.Leaves (setting_at file desk.day) (book_call (setting_at file desk.day) (state_in desk sheet) q) a desk' sheet'
        → BooksOver file day list q sheet.opens.now sheet.reserves.now sheet.helds.now z list' o' r' h'
    book-over q given =
        let g = subst (λ (d : Desk). booking.Leaves (setting_at file d.day) (book_call (setting_at file d.day) (state_in d sheet) q) a desk' sheet') made given in
        books S lent q z list' o' r' h'
        (told (book_call S (state_in (desk_of day list) sheet) q) (book_call S lent q) (same-book S lent list q)
        (record { answer = g.answer; after = g.day; records = g.rows; opens = g.opens; reserves = g.reserves; helds = g.helds }))

    pub drop-over : (name : ℕ) → Drops (setting_at file desk.day) (state_in desk sheet) name a desk' sheet'
        → DropsOver file day list name sheet.opens.now sheet.reserves.now sheet.helds.now z list' o' r' h'
    drop-over name given =
        let g = subst (λ (d : Desk). Drops (setting_at file d.day) (state_in d sheet) name a desk' sheet') made given in
        told (drop_call S (state_in (desk_of day list) sheet) name) (drop_call S lent name) (same_drop S lent list name)
        (record { answer = g.answer; after = g.day; records = g.rows; opens = g.opens; reserves = g.reserves; helds = g.helds })

  pub play-over : (report : List Line) (a : Answer) (lines : List Line) (after : Desk) (report' : List Line) (z : Reply)
      → Plays file desk (length report) a lines after → length lines ≤ max_bookings → z ≡ reply_of a after.day → report' ≡ stored (length lines) lines report
      → PlaysOver file day list report z report'
  play-over report a lines after report' z given few ez el o r h =
      let rows : State = state_of day (desk_of day list).rows (length list) o r h in
      let whole : State = state_of day list (length list) o r h in
      let g = subst (λ (d : Desk). Plays file d (length report) a lines after) made given in
      let same = same-play S whole list report in
      let fit : length lines ≤ length report = omega (arith, g.count, ap lines_in (g.answer o r h report refl), lines-fit S rows report) in
      record {
        reply = ez ∙ ap₂ reply_of (sym (g.answer o r h report refl) ∙ same.answer)
            (sym (g.day o r h report refl) ∙ same-day S list (play_call S rows report) (play_call S whole report) same);
        lines = el ∙ sym (g.report o r h report refl ∙ written-stored lines report few fit) ∙ same.report;
      }
