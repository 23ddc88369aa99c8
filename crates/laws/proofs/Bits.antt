-- A number and its bits.
-- Assumes nothing.
use mathlib.Core.Path.{◌≡◌, ◌∙◌, sym, refl, ap, subst}
use mathlib.Core.Bool.{true, false}
use Prim.Native.Nat.{ℕ, zero, suc, ◌+◌, ◌*◌, ◌/◌, ◌%◌, ◌^◌, ◌<◌, ◌≤◌}
use native.Mathlib.Omega.{arith}
use native.Mathlib.Numerals.{one-add}
use native.Mathlib.Decide.{ℕ_discrete, dec_le}
use native.Mathlib.Nat.{div-lt_iff_lt-mul, one-mul, pow-suc, zero-div}
use borrow.Author.Tests.{le-leb, lt-leb}
use lib.Dec.{leb}
use lib.Pow.{pow_pos, shr-shr}
use lib.Bits.{bit_xor, differ, xor_step, xor_shr}
use Rattle.laws.specs.Total.{bit, from_bits}

-- nothing is left of a number shifted right by its width
pub shr_zero_below : (x w : ℕ) → x / 2 ^ w ≡ 0 → x < 2 ^ w
shr_zero_below x w e = subst (λ (m : ℕ). x < m) (one-mul (2 ^ w)) ((div-lt_iff_lt-mul (pow_pos w)).0 (omega (arith, e)))

-- and nothing is left of any number below 2 to the width
pub below_shr_zero : (x w : ℕ) → x < 2 ^ w → x / 2 ^ w ≡ 0
below_shr_zero x w h =
    let l : x / 2 ^ w < 1 = (div-lt_iff_lt-mul (pow_pos w)).1 (subst (λ (m : ℕ). x < m) (sym (one-mul (2 ^ w))) h) in
    omega arith

-- the same as a test
pub shr_zero_test : (x w : ℕ) → x / 2 ^ w ≡ 0 → leb (2 ^ w) x ≡ false
shr_zero_test x w e = lt-leb (2 ^ w) x (shr_zero_below x w e)

-- where something is left the number has more bits
pub shr_left_test : (x w : ℕ) → (x / 2 ^ w ≡ 0 → ⊥) → leb (2 ^ w) x ≡ true
shr_left_test x w n = le-leb (2 ^ w) x (go (dec_le (2 ^ w) x))
  where
    go : Dec (2 ^ w ≤ x) → 2 ^ w ≤ x
    go (yes h) = h
    go (no h) = absurd (n (below_shr_zero x w (omega arith)))

-- a bit is 0 or 1
pub bit_small : (x i : ℕ) → bit x i < 2
bit_small x i = omega arith

-- a number put together from bits has no more of them
pub from_bits_lt : (f : ℕ → ℕ) (w : ℕ) → ((i : ℕ) → i < w → f i < 2) → from_bits f w < 2 ^ w
unfolding from_bits
from_bits_lt f zero h = omega arith
from_bits_lt f (suc w) h =
    let a = from_bits_lt f w (λ i p. h i (omega arith)) in
    let b = h w (omega arith) in
    go (f w) b a
  where
    go : (x : ℕ) → x < 2 → from_bits f w < 2 ^ w → from_bits f w + x * 2 ^ w < 2 ^ suc w
    go zero b a = omega (arith, pow-suc 2 w)
    go (suc zero) b a = omega (arith, pow-suc 2 w)
    go (suc (suc x)) b a = absurd (omega arith)

-- a number is known by its bits
pub from_bits_cong : (f g : ℕ → ℕ) (w : ℕ) → ((i : ℕ) → i < w → f i ≡ g i) → from_bits f w ≡ from_bits g w
unfolding from_bits
from_bits_cong f g zero h = refl
from_bits_cong f g (suc w) h =
    ap (λ (x : ℕ). x + f w * 2 ^ w) (from_bits_cong f g w (λ i p. h i (omega arith)))
    ∙ ap (λ (x : ℕ). from_bits g w + x * 2 ^ w) (h w (omega arith))

-- a new lowest bit
pub from_bits_low : (f : ℕ → ℕ) (w : ℕ) → from_bits f (suc w) ≡ f 0 + 2 * from_bits (λ i. f (suc i)) w
unfolding from_bits
from_bits_low f zero = omega arith
from_bits_low f (suc w) =
    let a = from_bits_low f w in
    omega (arith, a, ap (λ (x : ℕ). f (suc w) * x) (pow-suc 2 w))

-- a higher bit of x is a bit of half of x
pub bit_suc : (x i : ℕ) → bit x (suc i) ≡ bit (x / 2) i
bit_suc x i = ap (λ (n : ℕ). n % 2) (ap (λ (n : ℕ). x / 2 ^ n) (sym (one-add i)) ∙ sym (shr-shr x 1 i))

-- the bits of a number put together from bits are those bits
pub bit_from_bits : (f : ℕ → ℕ) (w i : ℕ) → ((k : ℕ) → k < w → f k < 2) → i < w → bit (from_bits f w) i ≡ f i
bit_from_bits f zero i h l = absurd (omega arith)
bit_from_bits f (suc w) zero h l =
    let a = from_bits_low f w in
    let b = h 0 (omega arith) in
    rw a (omega arith)
bit_from_bits f (suc w) (suc i) h l =
    bit_suc (from_bits f (suc w)) i ∙ ap (λ (n : ℕ). bit n i) half
    ∙ bit_from_bits (λ k. f (suc k)) w i (λ k p. h (suc k) (omega arith)) (omega arith)
  where
    half : from_bits f (suc w) / 2 ≡ from_bits (λ k. f (suc k)) w
    half =
        let a = from_bits_low f w in
        let b = h 0 (omega arith) in
        rw a (omega arith)

-- no bits make 0
none : (f : ℕ → ℕ) → from_bits f 0 ≡ 0
unfolding from_bits
none f = refl

-- a number is put together from its own bits
pub from_bits_bit : (w x : ℕ) → x < 2 ^ w → from_bits (bit x) w ≡ x
from_bits_bit zero x h = none (bit x) ∙ omega arith
from_bits_bit (suc w) x h =
    let a = from_bits_low (bit x) w in
    let b = from_bits_cong (λ i. bit x (suc i)) (bit (x / 2)) w (λ i p. bit_suc x i) in
    let d = from_bits_bit w (x / 2) (omega (arith, pow-suc 2 w)) in
    omega (arith, a, b, d)

-- so two numbers of w bits that have the same bits are one number
pub same_bits : (w x y : ℕ) → x < 2 ^ w → y < 2 ^ w → ((i : ℕ) → i < w → bit x i ≡ bit y i) → x ≡ y
same_bits w x y a b h = sym (from_bits_bit w x a) ∙ from_bits_cong (bit x) (bit y) w h ∙ from_bits_bit w y b

-- two numbers put together from bits that differ at bit k alone
pub from_bits_change : (f g : ℕ → ℕ) (k w : ℕ) → k < w → ((i : ℕ) → i < w → (i ≡ k → ⊥) → f i ≡ g i)
    → from_bits g w + f k * 2 ^ k ≡ from_bits f w + g k * 2 ^ k
unfolding from_bits
from_bits_change f g k zero l h = absurd (omega arith)
from_bits_change f g k (suc w) l h = go (ℕ_discrete k w) (λ m. from_bits_change f g k w m (λ i p q. h i (omega arith) q))
  where
    go : Dec (k ≡ w) → (k < w → from_bits g w + f k * 2 ^ k ≡ from_bits f w + g k * 2 ^ k)
        → from_bits g w + g w * 2 ^ w + f k * 2 ^ k ≡ from_bits f w + f w * 2 ^ w + g k * 2 ^ k
    go (yes e) rest =
        let same = from_bits_cong f g w (λ i p. h i (omega arith) (λ q. omega arith)) in
        let s : f k * 2 ^ k ≡ f w * 2 ^ w = ap (λ (i : ℕ). f i * 2 ^ i) e in
        let t : g k * 2 ^ k ≡ g w * 2 ^ w = ap (λ (i : ℕ). g i * 2 ^ i) e in
        omega (arith, same, s, t)
    go (no e) rest =
        let m = rest (omega arith) in
        let s : f w * 2 ^ w ≡ g w * 2 ^ w = ap (λ (x : ℕ). x * 2 ^ w) (h w (omega arith) (λ q. e (sym q))) in
        omega (arith, m, s)

-- exclusive or, bit by bit: 1 where exactly one of the two is
pub bit_xor_lem : (x y i : ℕ) → bit (bit_xor x y) i ≡ (bit x i + bit y i) % 2
bit_xor_lem x y i = rw (xor_shr x y i) (lowest_bit (x / 2 ^ i) (y / 2 ^ i))
  where
    differs : (a b : ℕ) → a < 2 → b < 2 → differ a b ≡ (a + b) % 2
    differs zero zero p q = refl
    differs zero (suc zero) p q = refl
    differs (suc zero) zero p q = refl
    differs (suc zero) (suc zero) p q = refl
    differs zero (suc (suc b)) p q = absurd (omega arith)
    differs (suc zero) (suc (suc b)) p q = absurd (omega arith)
    differs (suc (suc a)) b p q = absurd (omega arith)

    lowest_bit : (a b : ℕ) → bit_xor a b % 2 ≡ (a % 2 + b % 2) % 2
    lowest_bit a b =
        let d = differs (a % 2) (b % 2) (omega arith) (omega arith) in
        rw (xor_step a b) (rw d (omega arith))

-- no bit of 0 is set, and one of a power of 2
pub bit_zero : (i : ℕ) → bit 0 i ≡ 0
bit_zero i = rw (zero-div (2 ^ i))

-- bit k of 2 to the k is 1
pub bit_pow : (k : ℕ) → bit (2 ^ k) k ≡ 1
bit_pow zero = refl
bit_pow (suc k) = bit_suc (2 ^ suc k) k ∙ ap (λ (n : ℕ). bit n k) half ∙ bit_pow k
  where
    half : 2 ^ suc k / 2 ≡ 2 ^ k
    half = omega (arith, pow-suc 2 k)

-- and every other bit of it is 0
pub bit_pow_other : (k i : ℕ) → (i ≡ k → ⊥) → bit (2 ^ k) i ≡ 0
bit_pow_other zero zero e = absurd (e refl)
bit_pow_other zero (suc i) e = bit_suc 1 i ∙ bit_zero i
bit_pow_other (suc k) zero e = omega (arith, pow-suc 2 k)
bit_pow_other (suc k) (suc i) e =
    bit_suc (2 ^ suc k) i ∙ ap (λ (n : ℕ). bit n i) half ∙ bit_pow_other k i (λ w. e (ap suc w))
  where
    half : 2 ^ suc k / 2 ≡ 2 ^ k
    half = omega (arith, pow-suc 2 k)
