-- Laws of lists by round to whose first places another list is laid. Assumes nothing.
use Rattle.std.specs.Prelude.{◌≡◌, refl, List, [], ◌∷◌, ◌++◌, ℕ, zero, suc, ◌+◌, ◌-◌, ◌≤◌, ◌<◌, ◌^◌, length, get_or, set, take, drop, replicate, ◌*◌}
use Rattle.std.proofs.Common.{sym, ap, ◌∙◌, not-suc-le-zero, le_of_suc-le-suc, arith, get_or-take, get_or-drop, take_all}
use Rattle.std.proofs.Math.Seq.{slice, length-slice}
use Rattle.laws.specs.Sums.{largest}
use Rattle.films.specs.Sizes.{Stored}
use Rattle.retrieval.specs.Carry.{carry, profile}
use Rattle.retrieval.proofs.CarryLaws.{get_or-largest}
use Rattle.retrieval.specs.Stored.{sends_at, max_held}
use Rattle.retrieval.proofs.Stored.{length-sends_at, length-profile, profile-small, turn-held, turn-carry, drop_all}
use Rattle.retrieval.specs.Sheet.{onto, plus, Room, held_in, Adds}
use Rattle.retrieval.specs.SheetLaws.{onto_from}
use Rattle.limits.specs.Bounds.{max_bookings}

-- ---- by place

pub plus-at : (s hs : List ℕ) (t : ℕ) → t < length s → get_or (plus s hs) t 0 ≡ get_or s t 0 + get_or hs t 0
plus-at [] hs t h = absurd (not-suc-le-zero h)
plus-at (x ∷ s) [] t h = omega arith
plus-at (x ∷ s) (y ∷ hs) zero h = refl
plus-at (x ∷ s) (y ∷ hs) (suc t) h = plus-at s hs t (le_of_suc-le-suc h)

pub length-onto : (f : ℕ → ℕ → ℕ) (s hs : List ℕ) → length (onto f s hs) ≡ length s
length-onto f [] hs = refl
length-onto f (x ∷ s) [] = refl
length-onto f (x ∷ s) (y ∷ hs) = ap suc (length-onto f s hs)

pub length-plus : (s hs : List ℕ) → length (plus s hs) ≡ length s
length-plus s hs = length-onto (λ x h. x + h) s hs

-- ---- a window of a film's profile

-- round a + i of the film is place i of the window
pub slice_at : (l : List ℕ) (a e i : ℕ) → a + i < e → get_or (slice a e l) i 0 ≡ get_or l (a + i) 0
slice_at l a e i h = get_or-drop a (take e l) i 0 ∙ get_or-take e l (a + i) 0 h

-- the whole profile
pub held_in-whole : (s : List ℕ) (at n p b : ℕ) → held_in s at n p b 0 (p + n) ≡ profile b (sends_at s at n p)
held_in-whole s at n p b =
    let xs = sends_at s at n p in
    take_all (p + n) (profile b xs) (omega (arith, length-profile b xs, length-sends_at s at n p))

-- a turn of a loop from round k to k - 1: what is held there stands at its place of the window
pub window-held : (b a e k c x : ℕ) (xs : List ℕ) → a < k → k ≤ e → e ≤ length xs → c ≡ carry b (drop k xs)
    → x ≡ get_or xs (k - 1) 0 → x + c ≡ get_or (slice a e (profile b xs)) ((k - a) - 1) 0
window-held b a e k c x xs h l m ec ex =
    let d : a + ((k - a) - 1) ≡ k - 1 = omega arith in
    turn-held b k c x xs (omega arith) (omega arith) ec ex
    ∙ sym (slice_at (profile b xs) a e ((k - a) - 1) (omega arith) ∙ ap (λ (i : ℕ). get_or (profile b xs) i 0) d)

-- ---- room for the sums

pub largest-plus : (s hs : List ℕ) → largest (plus s hs) ≤ largest s + largest hs
largest-plus [] hs = omega arith
largest-plus (x ∷ s) [] = omega arith
largest-plus (x ∷ s) (y ∷ hs) = omega (arith, largest-plus s hs)

largest-take : (e : ℕ) (l : List ℕ) → largest (take e l) ≤ largest l
largest-take zero l = omega arith
largest-take (suc e) [] = omega arith
largest-take (suc e) (x ∷ l) = omega (arith, largest-take e l)

pub largest-part : (a : ℕ) (l : List ℕ) → largest (drop a l) ≤ largest l
largest-part zero l = omega arith
largest-part (suc a) [] = omega arith
largest-part (suc a) (x ∷ l) = omega (arith, largest-part a l)

pub held_in-small : (s : List ℕ) (at n p b a e : ℕ) → Stored s at n → largest (held_in s at n p b a e) ≤ max_held
held_in-small s at n p b a e w =
    let l = profile b (sends_at s at n p) in
    omega (arith, largest-part a (take e l), largest-take e l, profile-small s at n p b w)

pub room-largest : (s hs : List ℕ) → largest s + largest hs < 2 ^ 63 → Room s hs
room-largest s hs h t = omega (arith, get_or-largest s t, get_or-largest hs t)

pub largest-zeros : (m : ℕ) → largest (replicate m 0) ≡ 0
largest-zeros zero = refl
largest-zeros (suc m) = omega (arith, largest-zeros m)

-- a whole film is to be added where a list has p + n places and room
pub adds-whole : (part s : List ℕ) (at n p b : ℕ) → p + n ≤ length part → Room part (held_in s at n p b 0 (p + n))
    → Adds part (sends_at s at n p) b 0 (p + n) 0
adds-whole part s at n p b l m =
    record {
      order = omega arith;
      rounds = omega (arith, length-sends_at s at n p);
      places = omega arith;
      carried = sym (drop_all (sends_at s at n p) (p + n) b (omega (arith, length-sends_at s at n p)));
      room = m;
    }

pub onto-nil : (f : ℕ → ℕ → ℕ) (s : List ℕ) → onto f s [] ≡ s
onto-nil f [] = refl
onto-nil f (x ∷ s) = refl

-- nothing is laid yet
pub onto_from-none : (k : ℕ) (f : ℕ → ℕ → ℕ) (s hs : List ℕ) → length hs ≤ k → onto_from k f s hs ≡ s
onto_from-none zero f s [] h = onto-nil f s
onto_from-none zero f s (y ∷ hs) h = absurd (not-suc-le-zero h)
onto_from-none (suc k) f [] hs h = refl
onto_from-none (suc k) f (x ∷ s) [] h = refl
onto_from-none (suc k) f (x ∷ s) (y ∷ hs) h = ap (λ (r : List ℕ). x ∷ r) (onto_from-none k f s hs (le_of_suc-le-suc h))

at-seam : (k : ℕ) (f : ℕ → ℕ → ℕ) (s hs : List ℕ) → get_or (onto_from (suc k) f s hs) k 0 ≡ get_or s k 0
at-seam k f [] hs = refl
at-seam k f (x ∷ s) [] = refl
at-seam zero f (x ∷ s) (h ∷ hs) = refl
at-seam (suc k) f (x ∷ s) (h ∷ hs) = at-seam k f s hs

set-seam : (k : ℕ) (f : ℕ → ℕ → ℕ) (s hs : List ℕ) → k < length hs
    → set (onto_from (suc k) f s hs) k (f (get_or s k 0) (get_or hs k 0)) ≡ onto_from k f s hs
set-seam k f s [] h = absurd (not-suc-le-zero h)
set-seam zero f [] (y ∷ hs) h = refl
set-seam (suc k) f [] (y ∷ hs) h = refl
set-seam zero f (x ∷ s) (y ∷ hs) h = refl
set-seam (suc k) f (x ∷ s) (y ∷ hs) h = ap (λ (r : List ℕ). x ∷ r) (set-seam k f s hs (le_of_suc-le-suc h))

-- a turn goes from k to k - 1: what it finds at its place, and what it leaves there
pub turn-read : (k : ℕ) (f : ℕ → ℕ → ℕ) (s hs part : List ℕ) → 0 < k → part ≡ onto_from k f s hs
    → get_or part (k - 1) 0 ≡ get_or s (k - 1) 0
turn-read zero f s hs part h e = absurd (not-suc-le-zero h)
turn-read (suc k) f s hs part h e = let d : suc k - 1 ≡ k = omega arith in rw (e, d) (at-seam k f s hs)

pub turn-write : (k v : ℕ) (f : ℕ → ℕ → ℕ) (s hs part : List ℕ) → 0 < k → k ≤ length hs → part ≡ onto_from k f s hs
    → v ≡ f (get_or s (k - 1) 0) (get_or hs (k - 1) 0) → set part (k - 1) v ≡ onto_from (k - 1) f s hs
turn-write zero v f s hs part h l e q = absurd (not-suc-le-zero h)
turn-write (suc k) v f s hs part h l e q =
    let d : suc k - 1 ≡ k = omega arith in
    let q' : v ≡ f (get_or s k 0) (get_or hs k 0) = rw d at q in
    rw (e, d, q') (set-seam k f s hs l)

-- ---- a loop that adds a film's profile from round e backward to round a

-- from round k on it is added, and left is the carry of the rounds from k on
pub record Added (part₀ xs : List ℕ) (b a e : ℕ) (part : List ℕ) (left k : ℕ) : Type 0 where
  pub from : a ≤ k
  pub carried : left ≡ carry b (drop k xs)
  pub added : part ≡ onto_from (k - a) (λ x h. x + h) part₀ (slice a e (profile b xs))

length-window : {part xs : List ℕ} {b a e c : ℕ} → Adds part xs b a e c → length (slice a e (profile b xs)) ≡ e - a
length-window {xs = xs} {b = b} {a = a} {e = e} s = length-slice a e (profile b xs) (omega (arith, s.rounds, length-profile b xs))

pub added-none : {part xs : List ℕ} {b a e c : ℕ} → Adds part xs b a e c → Added part xs b a e part c e
added-none {part = part} {xs = xs} {b = b} {a = a} {e = e} s =
    record {
      from = s.order;
      carried = s.carried;
      added = sym (onto_from-none (e - a) (λ x h. x + h) part (slice a e (profile b xs)) (omega (arith, length-window s)));
    }

-- a turn from k to k - 1, where x is sent: the sum has room,
pub turn-room : {part₀ xs : List ℕ} {b a e c : ℕ} {part : List ℕ} {left k : ℕ} (x : ℕ) → Adds part₀ xs b a e c → Added part₀ xs b a e part left k
    → a < k → k ≤ e → x ≡ get_or xs (k - 1) 0 → get_or part ((k - 1) - a) 0 + (x + left) < 2 ^ 63
turn-room {part₀ = part₀} {xs = xs} {b = b} {a = a} {e = e} {part = part} {left = left} {k = k} x s l h m ex =
    let held = window-held b a e k left x xs h m s.rounds l.carried ex in
    let found = turn-read (k - a) (λ x h. x + h) part₀ (slice a e (profile b xs)) part (omega arith) l.added in
    let place : (k - 1) - a ≡ (k - a) - 1 = omega arith in
    rw place (omega (arith, s.room ((k - a) - 1)))

-- and the round is added
pub turn-added : {part₀ xs : List ℕ} {b a e c : ℕ} {part : List ℕ} {left k : ℕ} (x : ℕ) → Adds part₀ xs b a e c → Added part₀ xs b a e part left k
    → a < k → k ≤ e → x ≡ get_or xs (k - 1) 0
    → Added part₀ xs b a e (set part ((k - 1) - a) (get_or part ((k - 1) - a) 0 + (x + left))) ((x + left) - b) (k - 1)
turn-added {part₀ = part₀} {xs = xs} {b = b} {a = a} {e = e} {part = part} {left = left} {k = k} x s l h m ex =
    let hs = slice a e (profile b xs) in
    let held = window-held b a e k left x xs h m s.rounds l.carried ex in
    let found = turn-read (k - a) (λ x h. x + h) part₀ hs part (omega arith) l.added in
    let place : (k - 1) - a ≡ (k - a) - 1 = omega arith in
    record {
      from = omega arith;
      carried = turn-carry b k left x xs (omega arith) (omega (arith, s.rounds)) l.carried ex;
      added =
          rw place
          (turn-write (k - a) (get_or part ((k - a) - 1) 0 + (x + left)) (λ x h. x + h) part₀ hs part
          (omega arith) (omega (arith, length-window s)) l.added (omega arith));
    }

-- ---- a loop that writes a list

-- laid in place of what stood there: a list, and then what stood past its end
pub onto-write : (s rs : List ℕ) → length rs ≤ length s → onto (λ x r. r) s rs ≡ rs ++ drop (length rs) s
onto-write s [] h = onto-nil (λ x r. r) s
onto-write [] (r ∷ rs) h = absurd (not-suc-le-zero h)
onto-write (x ∷ s) (r ∷ rs) h = ap (λ (l : List ℕ). r ∷ l) (onto-write s rs (le_of_suc-le-suc h))

-- the whole of it, where the list has m places
pub written : (m : ℕ) (rs s out : List ℕ) → length rs ≡ m → m ≤ length s → out ≡ onto (λ x r. r) s rs → out ≡ rs ++ drop m s
written m rs s out l h e =
    e ∙ onto-write s rs (omega arith) ∙ ap (λ (k : ℕ). rs ++ drop k s) l

pub get_d_past : (l : List ℕ) (t : ℕ) → length l ≤ t → get_or l t 0 ≡ 0
get_d_past [] t h = refl
get_d_past (x ∷ l) zero h = absurd (not-suc-le-zero h)
get_d_past (x ∷ l) (suc t) h = get_d_past l t (le_of_suc-le-suc h)

pub slice-whole : (l : List ℕ) (e : ℕ) → length l ≤ e → slice 0 e l ≡ l
slice-whole l e h = take_all e l h

pub length-held_in : (s : List ℕ) (at n p b a e : ℕ) → e ≤ p + n → length (held_in s at n p b a e) ≡ e - a
length-held_in s at n p b a e h =
    let xs = sends_at s at n p in
    length-slice a e (profile b xs) (omega (arith, length-profile b xs, length-sends_at s at n p))

-- what the film holds in round a + i, and nothing past the window
pub held_in-at : (s : List ℕ) (at n p b a e i : ℕ) → a + i < e
    → get_or (held_in s at n p b a e) i 0 ≡ get_or (profile b (sends_at s at n p)) (a + i) 0
held_in-at s at n p b a e i h = slice_at (profile b (sends_at s at n p)) a e i h

pub held_in-out : (s : List ℕ) (at n p b a e i : ℕ) → e ≤ p + n → e ≤ a + i → get_or (held_in s at n p b a e) i 0 ≡ 0
held_in-out s at n p b a e i h k = get_d_past (held_in s at n p b a e) i (omega (arith, length-held_in s at n p b a e h))

-- where k films were added, fewer than max_bookings, there is room for one more
pub room-more : (k : ℕ) (part s : List ℕ) (at n p b a e : ℕ) → k < max_bookings → largest part ≤ max_held * k → Stored s at n
    → Room part (held_in s at n p b a e)
room-more k part s at n p b a e h l w =
    room-largest part (held_in s at n p b a e) (omega (arith, held_in-small s at n p b a e w))

-- and k + 1 were added then
pub largest-more : (k : ℕ) (part s : List ℕ) (at n p b a e : ℕ) → largest part ≤ max_held * k → Stored s at n
    → largest (plus part (held_in s at n p b a e)) ≤ max_held * (k + 1)
largest-more k part s at n p b a e l w =
    omega (arith, largest-plus part (held_in s at n p b a e), held_in-small s at n p b a e w)
