-- Numbers as bytes, least significant first. Assumes nothing.
use Rattle.std.specs.Prelude.{ℕ, zero, suc, ◌+◌, ◌*◌, ◌/◌, ◌%◌, ◌^◌, ◌<◌, ◌≡◌, refl, List, [], ◌∷◌, length, get_or}
use Rattle.std.proofs.Common.{ap, arith}
use Rattle.std.proofs.Math.Nat.{pow-succ'}

-- every element is a byte
abbrev pub Bytes : List ℕ → Type 0
Bytes l = (k : ℕ) → get_or l k 0 < 256

-- the number that a list of bytes stands for
abbrev pub number : List ℕ → ℕ
number [] = 0
number (a ∷ l) = a + 256 * number l

-- the w bytes of a number
abbrev pub bytes : ℕ → ℕ → List ℕ
bytes zero x = []
bytes (suc w) x = x % 256 ∷ bytes w (x / 256)

pub length-bytes : (w x : ℕ) → length (bytes w x) ≡ w
length-bytes zero x = refl
length-bytes (suc w) x = ap suc (length-bytes w (x / 256))

pub bytes_small : (w x : ℕ) → Bytes (bytes w x)
bytes_small zero x k = omega arith
bytes_small (suc w) x zero = omega arith
bytes_small (suc w) x (suc k) = bytes_small w (x / 256) k

pub number-bytes : (w x : ℕ) → x < 256 ^ w → number (bytes w x) ≡ x
number-bytes zero x h = omega arith
number-bytes (suc w) x h = omega (arith, number-bytes w (x / 256) (omega (arith, pow-succ' 256 w)))

pub bytes-number : (l : List ℕ) → Bytes l → bytes (length l) (number l) ≡ l
bytes-number [] h = refl
bytes-number (a ∷ l) h =
    let e : (a + 256 * number l) % 256 ≡ a = omega (arith, h 0) in
    let d : (a + 256 * number l) / 256 ≡ number l = omega (arith, h 0) in
    rw (e, d, bytes-number l (λ k. h (suc k)))

pub number_bound : (l : List ℕ) → Bytes l → number l < 256 ^ length l
number_bound [] h = omega arith
number_bound (a ∷ l) h = omega (arith, h 0, number_bound l (λ k. h (suc k)), pow-succ' 256 (length l))
