-- The splitter gives out the lines of the input, each whole or as over-long: `splits`. So the commands of a session are those of
-- its lines: `session-commands`. The idea: the splitter holds what is kept of the bytes u since the last end of a line. Assumes nothing.
use Rattle.std.specs.Prelude.{ℕ, suc, ◌+◌, ◌<◌, ◌≤◌, ◌≡◌, refl, Bool, true, false, cond, not, List, [], ◌∷◌, ◌++◌, map, leb, ltb, eqb, length, take, Option, Some, None}
use Rattle.std.proofs.Common.{sym, ap, ◌∙◌, append-nil, append_assoc, add-one, arith, length-append, length-set, take_all, take-suc-set, lt-ltb, le-ltb, ne_eqb, ltb-true, ltb-false, leb-true, leb-false}
use Rattle.std.proofs.lemmas.List.{length-replicate, take-append-le}
use Rattle.std.proofs.lemmas.Bool.{not-true}
use Rattle.limits.specs.Bounds.{max_line}
use Rattle.laws.specs.Tests.{all, left, right, join, all_append}
use Rattle.commands.specs.Bytes.{line_end}
use Rattle.commands.specs.Grammar.{command_of}
use Rattle.lines.specs.Lines.{lines, kept, command_held, started, continued, appended, fed, held_of, given}
use Rattle.lines.specs.declared.Splitter.{Splitter}
use Rattle.lines.specs.Splits.{Held, Stands, inside}

inside-first : (b : ℕ) (u : List ℕ) → all inside (b ∷ u) ≡ true → eqb b line_end ≡ false
inside-first b u h = not-true _ (left (inside b) (all inside u) h)

-- a line that byte 10 ends
line-end : (u l : List ℕ) (b : ℕ) → all inside u ≡ true → eqb b line_end ≡ true → lines (u ++ b ∷ l) ≡ u ∷ lines l
line-end [] l b h e = rw e
line-end (a ∷ u) l b h e = rw (inside-first a u h, line-end u l b (right (inside a) h) e)

-- a line that the end of input ends
line-last : (a : ℕ) (u : List ℕ) → all inside (a ∷ u) ≡ true → lines (a ∷ u) ≡ (a ∷ u) ∷ []
line-last a [] h = rw (inside-first a [] h)
line-last a (b ∷ u) h = rw (inside-first a (b ∷ u) h, line-last b u (right (inside a) h))

held_kept : (s : Splitter) (u : List ℕ) → Held s u → held_of s ≡ kept u
held_kept s u h = go (leb (length u) max_line) refl
  where
    go : (t : Bool) → leb (length u) max_line ≡ t → held_of s ≡ kept u
    go true e =
        let few : length u ≤ max_line = leb-true _ _ e in
        simp (e, h.over, le-ltb max_line (length u) few, h.front, take_all max_line u few)
    go false e = simp (e, h.over, lt-ltb max_line (length u) (leb-false (length u) max_line e))

held_more : (s : Splitter) (u : List ℕ) (b : ℕ) → Held s u → Held (appended s b) (u ++ b ∷ [])
unfolding appended
held_more s u b h = go (ltb s.length max_line) refl
  where
    longer-by-one : length (u ++ b ∷ []) ≡ length u + 1
    longer-by-one = length-append u (b ∷ [])

    go : (t : Bool) → ltb s.length max_line ≡ t → Held (appended s b) (u ++ b ∷ [])
    go true e =
        let short : s.length < max_line = ltb-true _ _ e in
        let few : length u < max_line = omega (arith, h.size) in
        let whole : take max_line u ≡ u = take_all max_line u (omega arith) in
        let more : take max_line (u ++ b ∷ []) ≡ u ++ b ∷ [] = take_all max_line (u ++ b ∷ []) (omega (arith, longer-by-one)) in
        rw e
        (record {
          room = length-set s.bytes s.length b ∙ h.room;
          size = omega (arith, h.size, longer-by-one);
          front = rw (add-one, take-suc-set s.bytes s.length b (omega (arith, h.room)), h.front, whole, more);
          over = h.over ∙ le-ltb max_line (length u) (omega arith) ∙ sym (le-ltb max_line (length (u ++ b ∷ [])) (omega (arith, longer-by-one)));
        })
    go false e =
        let full : max_line ≤ s.length = ltb-false _ _ e in
        let many : max_line ≤ length u = omega (arith, h.size) in
        rw e
        (record {
          room = h.room;
          size = omega (arith, h.size, longer-by-one);
          front = h.front ∙ sym (take-append-le max_line u (b ∷ []) many);
          over = sym (lt-ltb max_line (length (u ++ b ∷ [])) (omega (arith, longer-by-one)));
        })

going : (s : Splitter) → s.ended ≡ false → continued s ≡ s
unfolding continued
going s e = rw e

never-ended : (s : Splitter) → (continued s).ended ≡ false
unfolding continued
never-ended s = go s.ended refl
  where
    go : (t : Bool) → s.ended ≡ t → (continued s).ended ≡ false
    go true e = rw e
    go false e = rw e

append-ended : (s : Splitter) (b : ℕ) → (appended s b).ended ≡ s.ended
unfolding appended
append-ended s b = go (ltb s.length max_line) refl
  where
    go : (t : Bool) → ltb s.length max_line ≡ t → (appended s b).ended ≡ s.ended
    go true e = rw e
    go false e = rw e

-- after byte 10
ended-stands : (s : Splitter) (u : List ℕ) (b : ℕ) → Stands s u → eqb b line_end ≡ true → Stands (fed s b) []
unfolding fed continued
ended-stands s u b h e =
    rw e
    (record {
      held = record { room = h.held.room; size = omega arith; front = refl; over = refl };
      plain = refl;
      ended = refl;
    })

-- after any other byte
more-stands : (s : Splitter) (u : List ℕ) (b : ℕ) → Stands s u → eqb b line_end ≡ false → Stands (fed s b) (u ++ b ∷ [])
unfolding fed
more-stands s u b h e =
    let t = appended (continued s) b in
    let open' : t.ended ≡ false = append-ended (continued s) b ∙ never-ended s in
    let some_byte : eqb (length (u ++ b ∷ [])) 0 ≡ false = ne_eqb (length (u ++ b ∷ [])) 0 (omega (arith, length-append u (b ∷ []))) in
    rw e
    (record {
      held = rw (going t open') (held_more (continued s) u b h.held);
      plain = all_append inside u (b ∷ []) h.plain (join (ap not e) refl);
      ended = open' ∙ sym some_byte;
    })

last_line : (s : Splitter) (u : List ℕ) → Stands s u → given s [] ≡ map kept (lines u)
last_line s [] h = rw h.ended
last_line s (a ∷ u) h =
    let open' : s.ended ≡ false = h.ended ∙ ne_eqb (suc (length u)) 0 (omega arith) in
    rw (open', line-last a u h.plain) (ap (λ (k : Option (List ℕ)). k ∷ []) (ap held_of (sym (going s open')) ∙ held_kept (continued s) (a ∷ u) h.held))

fed-end : (s : Splitter) (b : ℕ) → eqb b line_end ≡ true → ((fed s b).ended ≡ true) × (held_of (fed s b) ≡ held_of (continued s))
unfolding fed
fed-end s b e = (rw e, rw e)

fed-more : (s : Splitter) (b : ℕ) → eqb b line_end ≡ false → (fed s b).ended ≡ false
unfolding fed
fed-more s b e = rw e (append-ended (continued s) b ∙ never-ended s)

given_by : (s : Splitter) (b : ℕ) (l : List ℕ) (t : Bool) → (fed s b).ended ≡ t
    → given s (b ∷ l) ≡ cond t (held_of (fed s b) ∷ given (fed s b) l) (given (fed s b) l)
given_by s b l t e = ap (λ (x : Bool). cond x (held_of (fed s b) ∷ given (fed s b) l) (given (fed s b) l)) e

splits-from : (l : List ℕ) (s : Splitter) (u : List ℕ) → Stands s u → given s l ≡ map kept (lines (u ++ l))
splits-from [] s u h = rw append-nil (last_line s u h)
splits-from (b ∷ l) s u h =
    go (eqb b line_end) refl (λ k. splits-from l (fed s b) [] k) (λ k. splits-from l (fed s b) (u ++ b ∷ []) k)
  where
    go : (t : Bool) → eqb b line_end ≡ t → (Stands (fed s b) [] → given (fed s b) l ≡ map kept (lines l))
        → (Stands (fed s b) (u ++ b ∷ []) → given (fed s b) l ≡ map kept (lines ((u ++ b ∷ []) ++ l)))
        → given s (b ∷ l) ≡ map kept (lines (u ++ b ∷ l))
    go true e ih jh =
        let first : held_of (fed s b) ≡ kept u = (fed-end s b e).1 ∙ held_kept (continued s) u h.held in
        given_by s b l true (fed-end s b e).0
        ∙ ap (λ (k : Option (List ℕ)). k ∷ given (fed s b) l) first
        ∙ ap (λ (r : List (Option (List ℕ))). kept u ∷ r) (ih (ended-stands s u b h e))
        ∙ ap (map kept) (sym (line-end u l b h.plain e))
    go false e ih jh =
        given_by s b l false (fed-more s b e)
        ∙ jh (more-stands s u b h e)
        ∙ ap (λ (x : List ℕ). map kept (lines x)) (append_assoc u (b ∷ []) l)

started-stands : Stands started []
unfolding continued
started-stands =
    record {
      held = record { room = length-replicate {A = ℕ} max_line 0; size = omega arith; front = refl; over = refl };
      plain = refl;
      ended = refl;
    }

-- the lines that the splitter gives out are the lines of the input
pub splits : (input : List ℕ) → given started input ≡ map kept (lines input)
splits input = splits-from input started [] started-stands

-- an over-long line is no command, and so nothing is lost by keeping only that it is over-long
over-long : (w : List ℕ) → leb (length w) max_line ≡ false → command_of w ≡ None
unfolding command_of
over-long w e = rw e

kept-command : (w : List ℕ) → command_held (kept w) ≡ command_of w
kept-command w = go (leb (length w) max_line) refl
  where
    by : (t : Bool) → leb (length w) max_line ≡ t → command_held (kept w) ≡ command_held (cond t (Some w) None)
    by t e = ap (λ (x : Bool). command_held (cond x (Some w) None)) e

    go : (t : Bool) → leb (length w) max_line ≡ t → command_held (kept w) ≡ command_of w
    go true e = by true e
    go false e = by false e ∙ sym (over-long w e)

-- the commands of a session are those of the lines of its input
pub session-commands : (input : List ℕ) → map command_held (given started input) ≡ map command_of (lines input)
session-commands input = ap (map command_held) (splits input) ∙ each (lines input)
  where
    each : (ls : List (List ℕ)) → map command_held (map kept ls) ≡ map command_of ls
    each [] = refl
    each (w ∷ ls) = rw (kept-command w, each ls)
