-- The lines of a report, booking by booking. Assumes nothing.
use Rattle.std.specs.Prelude.{◌≡◌, refl, Bool, true, false, cond, List, [], ◌∷◌, ◌++◌, ℕ, ◌+◌, ◌-◌, ◌<◌, length, get_or, take, drop, replicate, suc, set}
use Rattle.std.proofs.Common.{sym, ap, ◌∙◌, append-nil, add-one, take-suc, take_at, append_assoc, arith, length-append}
use Rattle.limits.specs.Bounds.{max_bookings}
use Rattle.model.specs.Day.{Setting, open_at, exists}
use Rattle.model.specs.Report.{line_of, lines_of}
use Rattle.model.proofs.PlayLaws.{line_same}
use Rattle.model.specs.declared.Booking.{Booking}
use Rattle.model.specs.declared.Line.{Line}
use Rattle.load.specs.Stream.{open_in}
use Rattle.load.specs.declared.stream.Stream.{Stream}
use Rattle.questions.specs.Tied.{Tied, tied-open, tied-sends}
use Rattle.playing.specs.Lines.{no_line, padded, line_at}
use Rattle.std.proofs.lemmas.List.{set_at, drop-replicate}

-- where a schedule exists and the booking is open, the line by its stream is the line by the schedule rule
pub line-tied : (S : Setting) (f : List ℕ) (t : ℕ) (b : Booking) (x : Stream) → Tied S f b x → exists S b ≡ true → open_in t x ≡ true
    → line_at f t b x ≡ line_of S t b
line-tied S f t b x w e o =
    rw (sym (tied-sends S f b x w), w.start, w.reserve) (line_same S t b e (tied-open S f b x w t ∙ o))

-- the lines stored over blank ones; z is the line whose every field is 0
pub padded-stored : (lines : List Line) (z : Line) → z.name ≡ 0 × (z.read ≡ 0 × (z.send ≡ 0 × z.held ≡ 0))
    → lines ++ drop (length lines) (replicate max_bookings z) ≡ padded lines
padded-stored lines z e =
    let blank : z ≡ no_line = λ i. record { name = e.0 i; read = e.1.0 i; send = e.1.1.0 i; held = e.1.1.1 i } in
    ap (λ (b : List Line). lines ++ b)
    (drop-replicate (length lines) max_bookings z ∙ ap (λ (y : Line). replicate (max_bookings - length lines) y) blank)

-- the lines are the array's first
pub take-padded : (lines : List Line) → take (length lines) (padded lines) ≡ lines
take-padded lines = take_at lines (replicate (max_bookings - length lines) no_line) (length lines) refl

-- one line more, in the first place that has none
pub padded-next : (lines : List Line) (l : Line) → length lines < max_bookings → set (padded lines) (length lines) l ≡ padded (lines ++ (l ∷ []))
padded-next lines l h =
    let z : max_bookings - length lines ≡ suc (max_bookings - suc (length lines)) = omega arith in
    let n : length (lines ++ (l ∷ [])) ≡ suc (length lines) = omega (arith, length-append lines (l ∷ [])) in
    ap (λ (m : ℕ). set (lines ++ replicate m no_line) (length lines) l) z
    ∙ set_at lines no_line (replicate (max_bookings - suc (length lines)) no_line) l (length lines) refl
    ∙ sym (
    ap (λ (m : ℕ). (lines ++ (l ∷ [])) ++ replicate (max_bookings - m) no_line) n
    ∙ append_assoc lines (l ∷ []) (replicate (max_bookings - suc (length lines)) no_line)
    )

module _ (S : Setting) (t : ℕ) where
  lines_snoc : (bs : List Booking) (b : Booking) → lines_of S t (bs ++ (b ∷ [])) ≡ lines_of S t bs ++ cond (open_at S t b) (line_of S t b ∷ []) []
  lines_snoc [] b = refl
  lines_snoc (c ∷ bs) b = go (open_at S t c) (lines_snoc bs b)
    where
      go : (o : Bool) → lines_of S t (bs ++ (b ∷ [])) ≡ lines_of S t bs ++ cond (open_at S t b) (line_of S t b ∷ []) []
          → cond o (line_of S t c ∷ lines_of S t (bs ++ (b ∷ []))) (lines_of S t (bs ++ (b ∷ [])))
          ≡ cond o (line_of S t c ∷ lines_of S t bs) (lines_of S t bs) ++ cond (open_at S t b) (line_of S t b ∷ []) []
      go true i = ap (λ (r : List Line). line_of S t c ∷ r) i
      go false i = i

  module _ (rows : List Booking) (i : ℕ) (d : Booking) (h : i < length rows) where
    next : lines_of S t (take (i + 1) rows) ≡ lines_of S t (take i rows) ++ cond (open_at S t (get_or rows i d)) (line_of S t (get_or rows i d) ∷ []) []
    next =
        ap (λ (m : ℕ). lines_of S t (take m rows)) (add-one i)
        ∙ ap (lines_of S t) (take-suc rows i d h)
        ∙ lines_snoc (take i rows) (get_or rows i d)

    -- a booking that is open has the next line
    pub lines-open : open_at S t (get_or rows i d) ≡ true → lines_of S t (take (i + 1) rows) ≡ lines_of S t (take i rows) ++ (line_of S t (get_or rows i d) ∷ [])
    lines-open e = next ∙ rw e

    -- another has none
    pub lines-shut : open_at S t (get_or rows i d) ≡ false → lines_of S t (take (i + 1) rows) ≡ lines_of S t (take i rows)
    lines-shut e = next ∙ rw e (append-nil (lines_of S t (take i rows)))

    -- an array has the lines of the first i bookings, k of them: a turn of the loop with a booking that is open
    pub report-open : (lines : List Line) (k : ℕ) (line : Line) → open_at S t (get_or rows i d) ≡ true → line ≡ line_of S t (get_or rows i d)
        → k < max_bookings → k ≡ length (lines_of S t (take i rows)) → lines ≡ padded (lines_of S t (take i rows))
        → (k + 1 ≡ length (lines_of S t (take (i + 1) rows))) × (set lines k line ≡ padded (lines_of S t (take (i + 1) rows)))
    report-open lines k line e g m n l =
        let ls = lines_of S t (take i rows) in
        let x = line_of S t (get_or rows i d) in
        let u = lines-open e in
        let below : length ls < max_bookings = omega arith in (
          omega (arith, ap length u, length-append ls (x ∷ [])),
          ap (λ (q : List Line). set q k line) l
              ∙ ap (λ (j : ℕ). set (padded ls) j line) n
              ∙ ap (λ (y : Line). set (padded ls) (length ls) y) g
              ∙ padded-next ls x below
              ∙ ap padded (sym u),
        )

    -- and with one that is not
    pub report-shut : (lines : List Line) (k : ℕ) → open_at S t (get_or rows i d) ≡ false
        → k ≡ length (lines_of S t (take i rows)) → lines ≡ padded (lines_of S t (take i rows))
        → (k ≡ length (lines_of S t (take (i + 1) rows))) × (lines ≡ padded (lines_of S t (take (i + 1) rows)))
    report-shut lines k e n l = let u = sym (lines-shut e) in (n ∙ ap length u, l ∙ ap padded u)
