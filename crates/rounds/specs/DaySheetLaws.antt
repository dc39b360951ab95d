-- The sheet of a whole day, and that after one booking more only its own rounds are summed again. Assumes nothing.
use Rattle.std.specs.Prelude.{◌≡◌, refl, Bool, false, cond, List, [], ◌∷◌, ◌++◌, ℕ, suc, ◌+◌, ◌-◌, ◌*◌, ◌≤◌, ◌<◌, length, get_or, take, drop}
use Rattle.std.proofs.Common.{sym, ap, ap₂, ◌∙◌, append_assoc, mul-suc, arith, length-append, length-drop, take_at, drop_at, get_or-take}
use Rattle.model.specs.Calls.{per_round, worked_out}
use Rattle.model.proofs.PlacesLaws.{length-per_round}
use Rattle.model.proofs.CodeLaws.{per_round-at}
use Rattle.load.specs.Stream.{no_stream, end_of, open_in, holds_in, total, open_count, reserved_in, held_in}
use Rattle.load.specs.StreamLaws.{open-early, open-late}
use Rattle.load.specs.declared.stream.Stream.{Stream}
use Rattle.rounds.specs.Sheet.{worked, SheetOf, DaySheet}
use Rattle.rounds.specs.SheetLaws.{per_round-then, per_round-in, sheet-model}

-- ---- a list whose first T places are worked out

module _ (T : ℕ) (g : ℕ → ℕ) (l l' : List ℕ) (e : l' ≡ worked_out T g l) where
  pub worked-at : (t : ℕ) → t < T → get_or l' t 0 ≡ g t
  worked-at t h =
      let z : 0 + t ≡ t = omega arith in
      sym (get_or-take T l' t 0 h)
      ∙ ap (λ (q : List ℕ). get_or q t 0) (ap (take T) e ∙ take_at (per_round g 0 T) (drop T l) T (length-per_round g 0 T))
      ∙ per_round-at g 0 T t h
      ∙ ap g z

  pub length-worked : T ≤ length l → length l' ≡ length l
  length-worked h = omega (arith, ap length e, length-append (per_round g 0 T) (drop T l), length-per_round g 0 T, length-drop T l)

-- its rounds from a to e - 1 are summed anew: w is g in all others
module _ (a e T : ℕ) (g w : ℕ → ℕ) (l : List ℕ) (order : a ≤ e) (within : e ≤ T) (before : (t : ℕ) → t < a → g t ≡ w t) (after : (t : ℕ) → e ≤ t → g t ≡ w t) where
  -- at a round the rounds part
  parted : (v : ℕ → ℕ) (m : ℕ) → m ≤ T → worked_out T v l ≡ per_round v 0 m ++ (per_round v m (T - m) ++ drop T l)
  parted v m h =
      let z : 0 + m ≡ m = omega arith in
      let s : m + (T - m) ≡ T = omega arith in
      ap (λ (q : List ℕ). q ++ drop T l) (sym (ap (λ (k : ℕ). per_round v 0 m ++ per_round v k (T - m)) (sym z) ∙ per_round-then v 0 m (T - m) ∙ ap (per_round v 0) s))
      ∙ append_assoc (per_round v 0 m) (per_round v m (T - m)) (drop T l)

  pub worked-again : (l₁ l₂ : List ℕ) → l₁ ≡ worked_out T g l → l₂ ≡ worked a e w l₁ → l₂ ≡ worked_out T w l
  worked-again l₁ l₂ u v =
      let front : take a l₁ ≡ per_round w 0 a =
      ap (take a) (u ∙ parted g a (omega arith))
      ∙ take_at (per_round g 0 a) (per_round g a (T - a) ++ drop T l) a (length-per_round g 0 a)
      ∙ per_round-in g w 0 a (λ t h k. before t (omega arith)) in
      let back : drop e l₁ ≡ per_round w e (T - e) ++ drop T l =
      ap (drop e) (u ∙ parted g e within)
      ∙ drop_at (per_round g 0 e) (per_round g e (T - e) ++ drop T l) e (length-per_round g 0 e)
      ∙ ap (λ (q : List ℕ). q ++ drop T l) (per_round-in g w e (T - e) (λ t h k. after t h)) in
      let z : 0 + a ≡ a = omega arith in
      let s : a + (e - a) ≡ e = omega arith in
      let middle : per_round w 0 a ++ per_round w a (e - a) ≡ per_round w 0 e =
      ap (λ (k : ℕ). per_round w 0 a ++ per_round w k (e - a)) (sym z) ∙ per_round-then w 0 a (e - a) ∙ ap (per_round w 0) s in
      v
      ∙ ap₂ (λ (p q : List ℕ). (p ++ per_round w a (e - a)) ++ q) front back
      ∙ ap (λ (p : List ℕ). p ++ (per_round w e (T - e) ++ drop T l)) middle
      ∙ sym (parted w e within)

-- ---- sums over the bookings

pub total-append : (g : Stream → ℕ) (xs ys : List Stream) → total g (xs ++ ys) ≡ total g xs + total g ys
total-append g [] ys = omega arith
total-append g (x ∷ xs) ys = omega (arith, total-append g xs ys)

pub total-most : (g : Stream → ℕ) (m : ℕ) (xs : List Stream) → ((i : ℕ) → i < length xs → g (get_or xs i no_stream) ≤ m) → total g xs ≤ m * length xs
total-most g m [] f = omega arith
total-most g m (x ∷ xs) f = omega (arith, f 0 (omega arith), total-most g m xs (λ i h. f (suc i) (omega arith)), mul-suc m (length xs))

-- ---- the three lists

module _ (f : List ℕ) (xs : List Stream) (T : ℕ) (o₀ r₀ h₀ o r h : List ℕ) where
  -- all rounds of the day are summed
  pub day-sheet : SheetOf f xs 0 T o₀ r₀ h₀ o r h → DaySheet f xs T o₀ r₀ h₀ o r h
  day-sheet w =
      let m = sheet-model f xs T (λ t. open_count t xs) (λ t. reserved_in t xs) (λ t. held_in f t xs) (λ t. refl) (λ t. refl) (λ t. refl) o₀ r₀ h₀ o r h w in
      record { films = m.0; reserved = m.1; held = m.2 }

  -- then one booking more, whose own rounds are summed again
  module _ (x : Stream) (within : end_of x ≤ T) (o' r' h' : List ℕ) (g : DaySheet f xs T o₀ r₀ h₀ o r h)
      (again : SheetOf f (xs ++ (x ∷ [])) x.start (end_of x) o r h o' r' h') where
    -- in a round in which it is not open it counts for nothing
    closed : (v : Stream → ℕ) → v x ≡ 0 → total v xs ≡ total v (xs ++ (x ∷ []))
    closed v z = omega (arith, total-append v xs (x ∷ []))

    not-open : (t : ℕ) → open_in t x ≡ false → (v : ℕ) → cond (open_in t x) v 0 ≡ 0
    not-open t e v = ap (λ (k : Bool). cond k v 0) e

    pub day-again : DaySheet f (xs ++ (x ∷ [])) T o₀ r₀ h₀ o' r' h'
    day-again =
        record {
          films = list (λ t y. cond (open_in t y) 1 0) (λ t e. not-open t e 1) o₀ o o' g.films again.films;
          reserved = list (λ t y. cond (open_in t y) y.reserve 0) (λ t e. not-open t e x.reserve) r₀ r r' g.reserved again.reserved;
          held = list (λ t y. holds_in f t y) (λ t e. not-open t e _) h₀ h h' g.held again.held;
        }
      where
        list : (v : ℕ → Stream → ℕ) → ((t : ℕ) → open_in t x ≡ false → v t x ≡ 0) → (l l₁ l₂ : List ℕ) → l₁ ≡ worked_out T (λ t. total (v t) xs) l
            → l₂ ≡ worked x.start (end_of x) (λ t. total (v t) (xs ++ (x ∷ []))) l₁ → l₂ ≡ worked_out T (λ t. total (v t) (xs ++ (x ∷ []))) l
        list v none l l₁ l₂ =
            worked-again x.start (end_of x) T (λ t. total (v t) xs) (λ t. total (v t) (xs ++ (x ∷ []))) l (omega arith) within
            (λ t k. closed (v t) (none t (open-early t x k)))
            (λ t k. closed (v t) (none t (open-late t x k)))
            l₁ l₂
