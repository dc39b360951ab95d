-- The sheet, round by round and block by block. `first-summed` is #107's sentence. Assumes nothing.
use Rattle.std.specs.Prelude.{◌≡◌, refl, List, ◌∷◌, ◌++◌, ℕ, zero, suc, ◌+◌, ◌-◌, ◌≤◌, ◌<◌, length, set, take, drop}
use Rattle.std.proofs.Common.{sym, ap, ap₂, ◌∙◌, append_assoc, add-one, arith, length-append, length-drop, take_at, drop_at, drop-drop, length-take-le, append-nil, take-append-drop}
use Rattle.std.proofs.lemmas.List.{set_split}
use Rattle.std.proofs.Math.Seq.{append_snoc, drop-append-add}
use Rattle.model.specs.Calls.{per_round, worked_out}
use Rattle.model.proofs.PlacesLaws.{length-per_round}
use Rattle.load.specs.Stream.{open_count, reserved_in, held_in}
use Rattle.load.specs.declared.stream.Stream.{Stream}
use Rattle.rounds.specs.Sums.{none, sums_in}
use Rattle.rounds.specs.SumLaws.{sums-films, sums-reserves, sums-held}
use Rattle.rounds.specs.Sheet.{worked, Places, SheetOf, Summed, FirstSummed}
use Rattle.rounds.specs.declared.sums.Sums.{Sums}

-- ---- one list

pub per_round-then : (g : ℕ → ℕ) (a m n : ℕ) → per_round g a m ++ per_round g (a + m) n ≡ per_round g a (m + n)
per_round-then g a zero n =
    let e : a + 0 ≡ a = omega arith in
    let d : 0 + n ≡ n = omega arith in
    rw (e, d)
per_round-then g a (suc m) n =
    let e : a + suc m ≡ suc a + m = omega arith in
    let d : suc m + n ≡ suc (m + n) = omega arith in
    rw (e, d, per_round-then g (suc a) m n)

-- by what is summed in these rounds alone
pub per_round-in : (g h : ℕ → ℕ) (s n : ℕ) → ((t : ℕ) → s ≤ t → t < s + n → g t ≡ h t) → per_round g s n ≡ per_round h s n
per_round-in g h s zero f = refl
per_round-in g h s (suc n) f =
    ap₂ (λ (x : ℕ) (xs : List ℕ). x ∷ xs) (f s (omega arith) (omega arith)) (per_round-in g h (suc s) n (λ t u v. f t (omega arith) (omega arith)))

worked_same : (a b : ℕ) (g h : ℕ → ℕ) (l : List ℕ) → a ≤ b → ((t : ℕ) → a ≤ t → t < b → g t ≡ h t) → worked a b g l ≡ worked a b h l
worked_same a b g h l p f =
    ap (λ (xs : List ℕ). take a l ++ xs ++ drop b l) (per_round-in g h a (b - a) (λ t u v. f t u (omega arith)))

module _ (a b : ℕ) (g : ℕ → ℕ) (l : List ℕ) (order : a ≤ b) (room : b ≤ length l) where
  front : length (take a l ++ per_round g a (b - a)) ≡ b
  front =
      omega (arith, length-append (take a l) (per_round g a (b - a)), length-take-le a l (omega arith), length-per_round g a (b - a))

  worked-length : length (worked a b g l) ≡ length l
  worked-length = omega (arith, length-append (take a l ++ per_round g a (b - a)) (drop b l), front, length-drop b l)

  -- rounds and then the rounds after them
  worked_then : (c : ℕ) → b ≤ c → worked b c g (worked a b g l) ≡ worked a c g l
  worked_then c h =
      let p = take a l ++ per_round g a (b - a) in
      let later : c ≡ length p + (c - b) = omega (arith, front) in
      let end : b + (c - b) ≡ c = omega arith in
      let middle : b ≡ a + (b - a) = omega arith in
      let whole : b - a + (c - b) ≡ c - a = omega arith in
      let back : drop c (p ++ drop b l) ≡ drop c l =
      ap (λ (n : ℕ). drop n (p ++ drop b l)) later ∙ drop-append-add p (drop b l) (c - b) ∙ drop-drop (c - b) b l ∙ ap (λ (n : ℕ). drop n l) end in
      let rounds : p ++ per_round g b (c - b) ≡ take a l ++ per_round g a (c - a) =
      append_assoc (take a l) (per_round g a (b - a)) (per_round g b (c - b))
      ∙ ap (λ (r : List ℕ). take a l ++ r)
      (ap (λ (n : ℕ). per_round g a (b - a) ++ per_round g n (c - b)) middle ∙ per_round-then g a (b - a) (c - b) ∙ ap (per_round g a) whole) in
      rw (take_at p (drop b l) b front, back, rounds)

-- one round more
worked-next : (a t : ℕ) (g : ℕ → ℕ) (l : List ℕ) (v : ℕ) (m : List ℕ) → a ≤ t → t < length l → m ≡ worked a t g l → v ≡ g t
    → set m t v ≡ worked a (t + 1) g l
worked-next a t g l v m p h e q =
    let w = worked a t g l in
    let one : t + 1 - t ≡ 1 = omega arith in
    let long : t < length w = omega (arith, worked-length a t g l p (omega arith)) in
    let last : set w t (g t) ≡ worked t (t + 1) g w =
    rw (one, add-one) (set_split w t (g t) long ∙ sym (append_snoc (take t w) (g t) (drop (suc t) w))) in
    rw (e, q) (last ∙ worked_then a t g l p (omega arith) (t + 1) (omega arith))

-- ---- the three lists

module _ (s : ℕ → Sums) (from : ℕ) (o₀ r₀ h₀ : List ℕ) where
  module _ (t : ℕ) (o r h : List ℕ) (w : Summed s from t o₀ r₀ h₀ o r h) (order : from ≤ t) where
    -- one round more
    pub summed-next : (T : ℕ) (v : Sums) → Places T o₀ r₀ h₀ → t < T → v ≡ s t
        → Summed s from (t + 1) o₀ r₀ h₀ (set o t v.films) (set r t v.reserves) (set h t v.held)
    summed-next T v p k e =
        record {
          films = next (λ x. x.films) o₀ o (omega (arith, p.opens-places)) w.films;
          reserved = next (λ x. x.reserves) r₀ r (omega (arith, p.reserves-places)) w.reserved;
          held = next (λ x. x.held) h₀ h (omega (arith, p.helds-places)) w.held;
        }
      where
        next : (g : Sums → ℕ) (l₀ l : List ℕ) → t < length l₀ → l ≡ worked from t (λ k. g (s k)) l₀ → set l t (g v) ≡ worked from (t + 1) (λ k. g (s k)) l₀
        next g l₀ l room d = worked-next from t (λ k. g (s k)) l₀ (g v) l order room d (ap g e)

    -- a block more, of sums that are the same in its rounds
    pub summed-then : (T e : ℕ) (z : ℕ → Sums) (o' r' h' : List ℕ) → Places T o₀ r₀ h₀ → t ≤ e → e ≤ T → ((k : ℕ) → t ≤ k → k < e → z k ≡ s k)
        → Summed z t e o r h o' r' h' → Summed s from e o₀ r₀ h₀ o' r' h'
    summed-then T e z o' r' h' p k m same b =
        record {
          films = more (λ x. x.films) o₀ o o' (omega (arith, p.opens-places)) w.films b.films;
          reserved = more (λ x. x.reserves) r₀ r r' (omega (arith, p.reserves-places)) w.reserved b.reserved;
          held = more (λ x. x.held) h₀ h h' (omega (arith, p.helds-places)) w.held b.held;
        }
      where
        more : (g : Sums → ℕ) (l₀ l l' : List ℕ) → e ≤ length l₀ → l ≡ worked from t (λ k. g (s k)) l₀ → l' ≡ worked t e (λ k. g (z k)) l
            → l' ≡ worked from e (λ k. g (s k)) l₀
        more g l₀ l l' room d q =
            q ∙ worked_same t e (λ k. g (z k)) (λ k. g (s k)) l k (λ j u v. ap g (same j u v))
            ∙ ap (worked t e (λ k. g (s k))) d
            ∙ worked_then from t (λ k. g (s k)) l₀ order (omega arith) e k

  -- the lists keep their places
  pub summed-places : (t T : ℕ) (o r h : List ℕ) → from ≤ t → t ≤ T → Places T o₀ r₀ h₀ → Summed s from t o₀ r₀ h₀ o r h → Places T o r h
  summed-places t T o r h order within p w =
      record {
        opens-places = omega (arith, p.opens-places, long o₀ o (λ k. (s k).films) p.opens-places w.films);
        reserves-places = omega (arith, p.reserves-places, long r₀ r (λ k. (s k).reserves) p.reserves-places w.reserved);
        helds-places = omega (arith, p.helds-places, long h₀ h (λ k. (s k).held) p.helds-places w.held);
      }
    where
      long : (l₀ l : List ℕ) (g : ℕ → ℕ) → T ≤ length l₀ → l ≡ worked from t g l₀ → length l ≡ length l₀
      long l₀ l g room e = ap length e ∙ worked-length from t g l₀ order (omega arith)

-- the sums of each round are those of the bookings
pub summed-sheet : (f : List ℕ) (xs : List Stream) (from to : ℕ) (o₀ r₀ h₀ o r h : List ℕ) → from ≤ to
    → Summed (λ t. sums_in f t xs) from to o₀ r₀ h₀ o r h → SheetOf f xs from to o₀ r₀ h₀ o r h
summed-sheet f xs from to o₀ r₀ h₀ o r h k w =
    record {
      films = w.films ∙ worked_same from to _ (λ t. open_count t xs) o₀ k (λ t u v. sums-films f t none xs ∙ omega arith);
      reserved = w.reserved ∙ worked_same from to _ (λ t. reserved_in t xs) r₀ k (λ t u v. sums-reserves f t none xs ∙ omega arith);
      held = w.held ∙ worked_same from to _ (λ t. held_in f t xs) h₀ k (λ t u v. sums-held f t none xs ∙ omega arith);
    }

-- ---- what the sheet says

-- rounds and then the rounds after them
pub sheet-then : (f : List ℕ) (xs : List Stream) (a b c : ℕ) (o₀ r₀ h₀ o r h o' r' h' : List ℕ) → Places b o₀ r₀ h₀ → a ≤ b → b ≤ c
    → SheetOf f xs a b o₀ r₀ h₀ o r h → SheetOf f xs b c o r h o' r' h' → SheetOf f xs a c o₀ r₀ h₀ o' r' h'
sheet-then f xs a b c o₀ r₀ h₀ o r h o' r' h' p u v w z =
    record {
      films = more (λ t. open_count t xs) o₀ o o' p.opens-places w.films z.films;
      reserved = more (λ t. reserved_in t xs) r₀ r r' p.reserves-places w.reserved z.reserved;
      held = more (λ t. held_in f t xs) h₀ h h' p.helds-places w.held z.held;
    }
  where
    more : (g : ℕ → ℕ) (l₀ l l' : List ℕ) → b ≤ length l₀ → l ≡ worked a b g l₀ → l' ≡ worked b c g l → l' ≡ worked a c g l₀
    more g l₀ l l' k d e = e ∙ ap (worked b c g) d ∙ worked_then a b g l₀ u k c v

-- from the first round on it is the model's list
worked-out : (T : ℕ) (g : ℕ → ℕ) (l : List ℕ) → worked 0 T g l ≡ worked_out T g l
worked-out T g l = let e : T - 0 ≡ T = omega arith in rw e

-- #107: "for every k up to T, once k rounds are summed, the first k places of each list hold their final sums and the others what they
-- held before"
pub first-summed : (f : List ℕ) (xs : List Stream) (k : ℕ) (o₀ r₀ h₀ o r h : List ℕ) → SheetOf f xs 0 k o₀ r₀ h₀ o r h
    → FirstSummed f xs k o₀ r₀ h₀ o r h
first-summed f xs k o₀ r₀ h₀ o r h w =
    record {
      films = first (λ t. open_count t xs) o₀ o w.films;
      reserved = first (λ t. reserved_in t xs) r₀ r w.reserved;
      held = first (λ t. held_in f t xs) h₀ h w.held;
    }
  where
    first : (g : ℕ → ℕ) (l₀ l : List ℕ) → l ≡ worked 0 k g l₀ → (take k l ≡ per_round g 0 k) × (drop k l ≡ drop k l₀)
    first g l₀ l e =
        rw (e, worked-out k g l₀)
        (take_at (per_round g 0 k) (drop k l₀) k (length-per_round g 0 k), drop_at (per_round g 0 k) (drop k l₀) k (length-per_round g 0 k))

-- the whole day: the model's sheet, given sums that are the model's
pub sheet-model : (f : List ℕ) (xs : List Stream) (T : ℕ) (opened reserved held : ℕ → ℕ) → ((t : ℕ) → open_count t xs ≡ opened t)
    → ((t : ℕ) → reserved_in t xs ≡ reserved t) → ((t : ℕ) → held_in f t xs ≡ held t) → (o₀ r₀ h₀ o r h : List ℕ) → SheetOf f xs 0 T o₀ r₀ h₀ o r h
    → (o ≡ worked_out T opened o₀) × (r ≡ worked_out T reserved r₀) × (h ≡ worked_out T held h₀)
sheet-model f xs T opened reserved held x y z o₀ r₀ h₀ o r h w =
    (whole (λ t. open_count t xs) opened x o₀ o w.films, whole (λ t. reserved_in t xs) reserved y r₀ r w.reserved, whole (λ t. held_in f t xs) held z h₀ h w.held)
  where
    whole : (g k : ℕ → ℕ) → ((t : ℕ) → g t ≡ k t) → (l l' : List ℕ) → l' ≡ worked 0 T g l → l' ≡ worked_out T k l
    whole g k same l l' e = e ∙ worked_same 0 T g k l (omega arith) (λ t u v. same t) ∙ worked-out T k l

-- no round
worked-none : (a : ℕ) (g : ℕ → ℕ) (l : List ℕ) → l ≡ worked a a g l
worked-none a g l = let e : a - a ≡ 0 = omega arith in rw (e, append-nil) (sym (take-append-drop a l))

module _ (s : ℕ → Sums) (from : ℕ) (o₀ r₀ h₀ : List ℕ) where
  pub summed-none : Summed s from from o₀ r₀ h₀ o₀ r₀ h₀
  summed-none =
      record {
        films = worked-none from (λ t. (s t).films) o₀;
        reserved = worked-none from (λ t. (s t).reserves) r₀;
        held = worked-none from (λ t. (s t).held) h₀;
      }
