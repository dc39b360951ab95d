-- "A refusal returns its number only and changes nothing lent, except that 22 leaves the sheet of the bookings as they stand." (demand
-- 1): what the contracts of the desk's calls say of a refusal, over everything that they are lent. Assumes nothing.
use Rattle.std.specs.Prelude.{◌≡◌, refl, List, [], ℕ, zero, suc, ◌<◌, length}
use Rattle.std.proofs.Common.{sym, ◌∙◌, ap, ⊎_elim, arith}
use Rattle.laws.specs.Questions.{refusal}
use Rattle.limits.specs.Refusals.{no_start}
use Rattle.model.specs.Day.{Setting, State}
use Rattle.model.specs.Answers.{number_of}
use Rattle.model.specs.Calls.{Outcome, book_questions, book_call, drop_call, play_call}
use Rattle.model.specs.Code.{state_of, day_of}
use Rattle.model.proofs.Unchanged.{book-refused, book-nowhere, drop-refused, play-refused}
use Rattle.model.specs.declared.Booking.{Booking}
use Rattle.model.specs.declared.Day.{Day}
use Rattle.model.specs.declared.Line.{Line}
use Rattle.model.specs.declared.Request.{Request}
use Rattle.questions.specs.Given.{setting_at}
use Rattle.interface.specs.Calls.{Leaves}
use Rattle.interface.proofs.Calls.{day-by}
use Rattle.interface.specs.Reply.{reply_of}
use Rattle.interface.proofs.ReplyLaws.{reply-number, reply-day}
use Rattle.interface.specs.DeskCalls.{BooksOver, DropsOver, PlaysOver}
use Rattle.interface.specs.declared.reply.Reply.{Reply}
use Rattle.interface.specs.Unaltered.{SheetStays, Stays}

replied-number : (out : Outcome) (day : Day) (z : Reply) → z ≡ reply_of out.answer day → z.refusal ≡ number_of out.answer
replied-number out day z e = ap (λ (t : Reply). t.refusal) e ∙ reply-number out.answer day

replied-day : (out : Outcome) (day : Day) (z : Reply) → z ≡ reply_of out.answer day → z.day ≡ day
replied-day out day z e = ap (λ (t : Reply). t.day) e ∙ reply-day out.answer day

module _ (file : List ℕ) (day : Day) (list : List Booking) (o r h : List ℕ) where
  abbrev S : Setting
  S = setting_at file day

  abbrev d : State
  d = state_of day list (length list) o r h

  module _ (z : Reply) (list' : List Booking) (o' r' h' : List ℕ) where
    -- what a call leaves that leaves the state
    left-same : (out : Outcome) → Leaves S out z list' o' r' h' → out.state ≡ d → Stays day list z list' × SheetStays o r h o' r' h'
    left-same out l e = (
      record { same-day = replied-day out (day_of S out.state) z l.reply ∙ ap (day_of S) e; records = l.records ∙ ap (λ (t : State). t.records) e },
      record {
        opens = l.opens ∙ ap (λ (t : State). t.opens) e;
        reserves = l.reserves ∙ ap (λ (t : State). t.reserves) e;
        helds = l.helds ∙ ap (λ (t : State). t.helds) e;
      },
    )

    -- a booking is refused before 22, and everything stays; or by 22
    data BookRefused (q : Request) : Type 0 where
      before : Stays day list z list' → SheetStays o r h o' r' h' → BookRefused q
      by22 : Stays day list z list' → z.refusal ≡ no_start → BookRefused q

    book-cases : (q : Request) → BooksOver file day list q o r h z list' o' r' h' → 0 < z.refusal → BookRefused q
    book-cases q w u = go (refusal (book_questions S d q)) refl
      where
        go : (n : ℕ) → refusal (book_questions S d q) ≡ n → BookRefused q
        go (suc k) e =
            let s = left-same (book_call S d q) w.leaves (book-refused S d q (omega arith)).state in
            before s.0 s.1
        go zero e =
            let l = w.leaves in
            let n : z.refusal ≡ no_start = ⊎_elim (λ (t : z.refusal ≡ 0). absurd (omega arith)) (λ t. t) (w.first e).either in
            let m : number_of (book_call S d q).answer ≡ no_start = sym (replied-number (book_call S d q) (day_of S (book_call S d q).state) z l.reply) ∙ n in
            let s = book-nowhere S d q e m in
            by22
            (record {
              same-day =
                  replied-day (book_call S d q) (day_of S (book_call S d q).state) z l.reply
                  ∙ day-by S (book_call S d q).state d s.now s.count;
              records = l.records ∙ s.records;
            })
            n

    -- "A refusal .. changes nothing lent"
    pub book-refusal : (q : Request) → BooksOver file day list q o r h z list' o' r' h' → 0 < z.refusal → Stays day list z list'
    book-refusal q w u = go (book-cases q w u)
      where
        go : BookRefused q → Stays day list z list'
        go (before s t) = s
        go (by22 s t) = s

    -- "except that 22 leaves the sheet of the bookings as they stand"
    pub book-refusal-sheet : (q : Request) → BooksOver file day list q o r h z list' o' r' h' → 0 < z.refusal → (z.refusal ≡ no_start → ⊥) → SheetStays o r h o' r' h'
    book-refusal-sheet q w u n = go (book-cases q w u)
      where
        go : BookRefused q → SheetStays o r h o' r' h'
        go (before s t) = t
        go (by22 s t) = absurd (n t)

    pub drop-refusal : (name : ℕ) → DropsOver file day list name o r h z list' o' r' h' → 0 < z.refusal → Stays day list z list' × SheetStays o r h o' r' h'
    drop-refusal name w u =
        let out = drop_call S d name in
        left-same out w (drop-refused S d name (omega (arith, replied-number out (day_of S out.state) z w.reply))).state

-- the list of records is lent to play for reading only
pub play-refusal : (file : List ℕ) (day : Day) (list : List Booking) (report : List Line) (z : Reply) (report' : List Line) → PlaysOver file day list report z report'
    → 0 < z.refusal → (z.day ≡ day) × (report' ≡ report)
play-refusal file day list report z report' w u =
    let S = setting_at file day in
    let d = state_of day list (length list) [] [] [] in
    let out = play_call S d report in
    let l = w [] [] [] in
    let s = play-refused S d report (omega (arith, replied-number out (day_of S out.state) z l.reply)) in
    (replied-day out (day_of S out.state) z l.reply ∙ ap (day_of S) s.state, l.lines ∙ s.report)
