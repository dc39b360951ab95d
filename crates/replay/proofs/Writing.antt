-- Words written to a log one after the other. Assumes nothing.
use Rattle.std.specs.Prelude.{◌≡◌, refl, List, [], ◌∷◌, ◌++◌, ℕ, ◌+◌, ◌*◌, ◌≤◌, ◌<◌, length, get_or, take, drop}
use Rattle.std.proofs.Common.{sym, ap, ◌∙◌, append_assoc, append-nil, arith, add-one, length-append, length-take, length-drop, take-append-drop, take_at, drop_at, drop-drop, take-suc, length-take-le}
use Rattle.model.specs.declared.Line.{Line}
use Rattle.replay.specs.Log.{line_words, lines_words, Wrote}

-- nothing
pub wrote_none : (old : List ℕ) (at : ℕ) → Wrote old at [] old at
wrote_none old at =
    let e : at + 0 ≡ at = omega arith in
    record { log = rw (e, append-nil) (sym (take-append-drop at old)); place = omega arith }

-- words that were written: the log is as long as before, its front ends with them, and its rest is as before
module _ (old : List ℕ) (at : ℕ) (ws new : List ℕ) (next : ℕ) (h : at + length ws ≤ length old) (w : Wrote old at ws new next) where
  pub wrote-length : length new ≡ length old
  wrote-length =
      omega (arith, ap length w.log, length-append (take at old ++ ws) (drop (at + length ws) old), length-append (take at old) ws, length-take at old, length-drop (at + length ws) old)

  size : length (take at old ++ ws) ≡ next
  size = omega (arith, length-append (take at old) ws, length-take at old, w.place)

  pub wrote-front : take next new ≡ take at old ++ ws
  wrote-front = ap (take next) w.log ∙ take_at (take at old ++ ws) (drop (at + length ws) old) next size

  pub wrote-back : drop next new ≡ drop next old
  wrote-back =
      ap (drop next) w.log ∙ drop_at (take at old ++ ws) (drop (at + length ws) old) next size
      ∙ ap (λ (n : ℕ). drop n old) (sym w.place)

-- words and the next ones
pub wrote_then : (old : List ℕ) (at : ℕ) (ws mid : List ℕ) (next : ℕ) (us new : List ℕ) (last : ℕ) → at + length ws ≤ length old
    → Wrote old at ws mid next → Wrote mid next us new last → Wrote old at (ws ++ us) new last
wrote_then old at ws mid next us new last h v w =
    let front = wrote-front old at ws mid next h v in
    let both : next + length us ≡ at + length (ws ++ us) = omega (arith, v.place, length-append ws us) in
    let back : drop (next + length us) mid ≡ drop (at + length (ws ++ us)) old =
    sym (drop-drop (length us) next mid) ∙ ap (drop (length us)) (wrote-back old at ws mid next h v) ∙ drop-drop (length us) next old
    ∙ ap (λ (n : ℕ). drop n old) both in
    record {
      log = w.log ∙ rw (front, back) (simp append_assoc);
      place = omega (arith, v.place, w.place, length-append ws us);
    }

-- ---- the lines of a report

-- in their order
lines-append : (ls ms : List Line) → lines_words (ls ++ ms) ≡ lines_words ls ++ lines_words ms
lines-append [] ms = refl
lines-append (x ∷ ls) ms = ap (λ (ws : List ℕ). line_words x ++ ws) (lines-append ls ms)

pub lines-length : (ls : List Line) → length (lines_words ls) ≡ 4 * length ls
lines-length [] = refl
lines-length (x ∷ ls) = omega (arith, lines-length ls)

-- one line more
pub lines_more : (ls : List Line) (i : ℕ) (d : Line) → i < length ls
    → lines_words (take (i + 1) ls) ≡ lines_words (take i ls) ++ line_words (get_or ls i d)
lines_more ls i d h =
    ap (λ (n : ℕ). lines_words (take n ls)) (add-one i) ∙ ap lines_words (take-suc ls i d h) ∙ lines-append (take i ls) (get_or ls i d ∷ [])

-- the words of the first i of enough lines
pub lines-size : (ls : List Line) (i : ℕ) → i ≤ length ls → length (lines_words (take i ls)) ≡ 4 * i
lines-size ls i h = lines-length (take i ls) ∙ ap (λ (n : ℕ). 4 * n) (length-take-le i ls h)

-- a loop that has written i of the lines: where it stands, and what one line more makes of it
module _ (old : List ℕ) (from : ℕ) (ls : List Line) (room : from + 4 * length ls ≤ length old) (i : ℕ) (new : List ℕ) (at : ℕ)
    (w : Wrote old from (lines_words (take i ls)) new at) where
  pub lines-stand : i ≤ length ls → (length new ≡ length old) × (at ≡ from + 4 * i)
  lines-stand h =
      let n = lines-size ls i h in (
        wrote-length old from (lines_words (take i ls)) new at (omega arith) w,
        omega (arith, w.place),
      )

  pub lines_next : (d : Line) (last : List ℕ) (next : ℕ) → i < length ls → Wrote new at (line_words (get_or ls i d)) last next
      → Wrote old from (lines_words (take (i + 1) ls)) last next
  lines_next d last next h v =
      let n = lines-size ls i (omega arith) in
      rw (lines_more ls i d h) (wrote_then old from (lines_words (take i ls)) new at (line_words (get_or ls i d)) last next (omega arith) w v)
