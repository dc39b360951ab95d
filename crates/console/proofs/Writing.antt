-- A line written after others where there is room. Assumes nothing.
use Rattle.std.specs.Prelude.{◌≡◌, refl, List, [], ◌∷◌, ◌++◌, ℕ, ◌+◌, ◌≤◌, ◌<◌, length, take, drop, get_or, Option, Some, ◌*◌}
use Rattle.std.proofs.Common.{sym, ap, ◌∙◌, append-nil, append_assoc, arith, length-append, length-take, le-leb}
use Rattle.std.proofs.lemmas.List.{take_more}
use Rattle.std.proofs.Math.Seq.{take_at, drop_at, drop-drop}
use Rattle.model.specs.declared.Line.{Line}
use Rattle.model.specs.declared.Answer.{Answer}
use Rattle.playing.specs.Lines.{no_line}
use Rattle.text.specs.Text.{answer_text, line_text, report_text}
use Rattle.limits.specs.Bounds.{hall_places}
use Rattle.text.specs.Digits.{output_bytes}
use Rattle.text.proofs.Digits.{report-fits, report-length}
use Rattle.text.specs.Write.{placed, max_text, buffer_after, place_after}
use Rattle.console.specs.Contract.{in_front, reply_text}
use Rattle.std.proofs.Math.ListN.{length}

module _ (d : List ℕ) (i : ℕ) (t : List ℕ) (room : i + max_text ≤ length d) where
  pub place-room : place_after d i t ≡ Some (i + length t)
  unfolding place_after
  place-room = rw (le-leb (i + max_text) (length d) room)

  pub placed-at : (r : Option ℕ) (next : ℕ) → r ≡ place_after d i t → r ≡ Some next → next ≡ i + length t
  placed-at r next v w = cc (v ∙ place-room)

  pub buffer-room : buffer_after d i t ≡ placed d i t
  unfolding buffer_after
  buffer-room = rw (le-leb (i + max_text) (length d) room)

-- a text at the front
pub placed-front : (d t : List ℕ) → placed d 0 t ≡ in_front t d
unfolding placed
placed-front d t = let e : 0 + length t ≡ length t = omega arith in rw e

-- and another after it
pub placed-next : (d t u : List ℕ) → placed (in_front t d) (length t) u ≡ in_front (t ++ u) d
unfolding placed
placed-next d t u =
    let r = drop (length t) d in
    let front : take (length t) (t ++ r) ≡ t = take_at t r (length t) refl in
    let back : drop (length t + length u) (t ++ r) ≡ drop (length t + length u) d =
    sym (drop-drop (length u) (length t) (t ++ r)) ∙ ap (drop (length u)) (drop_at t r (length t) refl) ∙ drop-drop (length u) (length t) d in
    rw (front, back, length-append t u) (sym (append_assoc t u _))

-- ---- A report

report-snoc : (ls : List Line) (l : Line) → report_text (ls ++ (l ∷ [])) ≡ report_text ls ++ line_text l
report-snoc [] l = append-nil (line_text l)
report-snoc (m ∷ ls) l =
    ap (λ (t : List ℕ). line_text m ++ t) (report-snoc ls l) ∙ sym (append_assoc (line_text m) (report_text ls) (line_text l))

-- the next line of a reply, written after those before it
module _ (d : List ℕ) (name round : ℕ) (a : Answer) (ls : List Line) (i : ℕ) (few : length ls ≤ hall_places) (long : output_bytes ≤ length d) where
  abbrev so_far : List ℕ
  so_far = reply_text name round a (take i ls)

  pub reply-room : (at : ℕ) (out : List ℕ) → at ≡ length so_far → length out ≡ length d → at + max_text ≤ length out
  reply-room at out e h = omega (arith, report-fits name round a (take i ls) (omega (arith, length-take i ls)))

  abbrev line : Line
  line = get_or ls i no_line

  reply-more : i < length ls → so_far ++ line_text line ≡ reply_text name round a (take (i + 1) ls)
  reply-more h =
      sym
      (rw (take_more ls i no_line h, report-snoc (take i ls) line)
      (sym (append_assoc (answer_text name round a) (report_text (take i ls)) (line_text line))))

  pub reply-next : i < length ls → (out : List ℕ) (at : ℕ) → out ≡ in_front so_far d → at ≡ length so_far
      → length out ≡ length d → (new : List ℕ) (r : Option ℕ) (next : ℕ) → new ≡ buffer_after out at (line_text line)
      → r ≡ place_after out at (line_text line) → r ≡ Some next
      → (new ≡ in_front (reply_text name round a (take (i + 1) ls)) d) × (next ≡ length (reply_text name round a (take (i + 1) ls)))
  reply-next h out at o p q new r next b v w =
      let room = reply-room at out p q in
      let more = reply-more h in
      let place : next ≡ at + length (line_text line) = placed-at out at (line_text line) room r next v w in (
        b ∙ buffer-room out at (line_text line) room ∙ rw (o, p, placed-next d so_far (line_text line), more),
        omega (arith, place, p, ap length more, length-append so_far (line_text line)),
      )

-- the first k lines take at most k times the longest line
pub report-end : (ls : List Line) (k : ℕ) → length (report_text (take k ls)) ≤ max_text * k
report-end ls k = omega (arith, report-length (take k ls), length-take k ls)
