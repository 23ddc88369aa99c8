-- Whole numbers on sixteen bits: the remainder on 65,536, and that the sum of two numbers' bits is the wrapped sum of
-- the numbers.
-- Assumes nothing.
use Rattle.std.proofs.Common.{◌≡◌, ℕ, suc, ◌+◌, ◌-◌, ◌%◌, ◌<◌, ◌≤◌, ℤ, pos, negsuc, ◌+ℤ◌, ◌-ℤ◌, ◌*ℤ◌, neg_ℤ, sym, refl, ap, ◌∙◌, arith, w16, SFits, to_z, of_z, le-ltb, lt-ltb}
use native.Mathlib.Decide.{dec_le}
use lib.IntN.{sub_ℕ, +ℤ_idr, +ℤ_assoc, -ℤ-+ℤ_cancel, +ℤ_one, -ℤ_one}
use lib.IntN.{suc_ℤ-*ℤ, pred_ℤ-*ℤ, ℤ_ind}
use lib.Signed.{mag}
use mir.Facts.{to_z_pos, to_z-neg}
use Rattle.draws.specs.Draw.{wrapped}

-- a − b, for two naturals
pub sub_under : (a b : ℕ) → a < b → sub_ℕ a b ≡ negsuc (b - suc a)
sub_under a b h = rw (lt-ltb a b h) refl

-- a smaller natural number taken from a larger one
pub sub_over : (a b : ℕ) → b ≤ a → sub_ℕ a b ≡ pos (a - b)
sub_over a b h = rw (le-ltb a b h) refl

-- what is left of a number on 65,536
abbrev pub remainder : ℤ → ℕ
remainder (pos n) = n % 65536
remainder (negsuc n) = 65535 - n % 65536

-- a number of which 65,536 are taken away or to which they are added leaves as much
remainder_up : (z : ℤ) → remainder (z +ℤ pos 65536) ≡ remainder z
remainder_up (pos n) = omega arith
remainder_up (negsuc n) = go (dec_le (suc n) 65536)
  where
    go : Dec (suc n ≤ 65536) → remainder (sub_ℕ 65536 (suc n)) ≡ 65535 - n % 65536
    go (yes h) = ap remainder (sub_over 65536 (suc n) h) ∙ omega arith
    go (no h) = ap remainder (sub_under 65536 (suc n) (omega arith)) ∙ omega arith

-- 65,536 less leaves the same remainder
remainder_down : (z : ℤ) → remainder (z -ℤ pos 65536) ≡ remainder z
remainder_down z = sym (remainder_up (z -ℤ pos 65536)) ∙ ap remainder (-ℤ-+ℤ_cancel z (pos 65536))

-- and so does one from which any multiple is taken
abbrev Same : ℤ → ℤ → Type 0
Same z k = remainder (z +ℤ k *ℤ pos 65536) ≡ remainder z

-- if k times 65,536 changes nothing, neither does one time more
one_more : (z k : ℤ) → Same z k → Same z (k +ℤ pos 1)
one_more z k e =
    ap (λ (x : ℤ). remainder (z +ℤ x)) (ap (λ (x : ℤ). x *ℤ pos 65536) (+ℤ_one k) ∙ suc_ℤ-*ℤ k (pos 65536))
    ∙ ap remainder (sym (+ℤ_assoc z (k *ℤ pos 65536) (pos 65536)))
    ∙ remainder_up (z +ℤ k *ℤ pos 65536)
    ∙ e

-- nor one time less
one_less : (z k : ℤ) → Same z k → Same z (k +ℤ negsuc 0)
one_less z k e =
    ap (λ (x : ℤ). remainder (z +ℤ x)) (ap (λ (x : ℤ). x *ℤ pos 65536) (-ℤ_one k) ∙ pred_ℤ-*ℤ k (pos 65536))
    ∙ ap remainder (sym (+ℤ_assoc z (k *ℤ pos 65536) (negsuc 65535)))
    ∙ remainder_down (z +ℤ k *ℤ pos 65536)
    ∙ e

-- so no multiple of 65,536 changes the remainder
pub remainder_multiple : (z m : ℤ) → Same z m
remainder_multiple z m =
    ℤ_ind (Same z) (ap remainder (+ℤ_idr z)) (λ n e. one_more z (pos n) e) (λ n e. one_less z (neg_ℤ (pos n)) e) m

-- a number within the range stays, one above it loses 65,536, one below it gains as many
stays : (n : ℕ) → n < 32768 → wrapped (pos n) ≡ pos n
unfolding wrapped
stays n h = rw (le-ltb 32767 n (omega arith)) refl

-- a negative number of sixteen bits stays
stays_negative : (n : ℕ) → n < 32768 → wrapped (negsuc n) ≡ negsuc n
unfolding wrapped
stays_negative n h = rw (le-ltb 32767 n (omega arith)) refl

-- a number past the range loses 65,536
loses : (n : ℕ) → 32768 ≤ n → n < 65536 → wrapped (pos n) ≡ negsuc (65535 - n)
unfolding wrapped
loses n h l =
    rw (lt-ltb 32767 n (omega arith)) (sub_under n 65536 l ∙ ap negsuc (omega arith))

-- a number below the range gains 65,536
gains : (n : ℕ) → 32768 ≤ n → n < 65536 → wrapped (negsuc n) ≡ pos (65535 - n)
unfolding wrapped
gains n h l =
    rw (lt-ltb 32767 n (omega arith)) (sub_over 65536 (suc n) (omega arith) ∙ ap pos (omega arith))

-- sixteen bits below half of their range, and from there on
read_low : (n r : ℕ) → r ≡ n → n < 32768 → to_z w16 r ≡ pos n
read_low n r e h = ap (to_z w16) e ∙ to_z_pos w16 h

-- bits in the upper half stand for a negative number
read_high : (k r : ℕ) → r ≡ 65535 - k → k < 32768 → to_z w16 r ≡ negsuc k
read_high k r e h = let q : r ≡ 65536 - suc k = omega arith in ap (to_z w16) q ∙ to_z-neg w16 k h

-- below 65,536 the remainder, read as signed, is the number wrapped
pub remainder_read : (z : ℤ) → mag z < 65536 → to_z w16 (remainder z) ≡ wrapped z
remainder_read (pos n) h = go (dec_le 32768 n)
  where
    go : Dec (32768 ≤ n) → to_z w16 (n % 65536) ≡ wrapped (pos n)
    go (yes l) = read_high (65535 - n) (n % 65536) (omega arith) (omega arith) ∙ sym (loses n l h)
    go (no l) = read_low n (n % 65536) (omega arith) (omega arith) ∙ sym (stays n (omega arith))
remainder_read (negsuc n) h = go (dec_le 32768 n)
  where
    go : Dec (32768 ≤ n) → to_z w16 (65535 - n % 65536) ≡ wrapped (negsuc n)
    go (yes l) = read_low (65535 - n) (65535 - n % 65536) (omega arith) (omega arith) ∙ sym (gains n l h)
    go (no l) = read_high n (65535 - n % 65536) (omega arith) (omega arith) ∙ sym (stays_negative n (omega arith))

-- the remainder of a number within the range is its bits
pub remainder_bits : (z : ℤ) → SFits w16 z → remainder z ≡ of_z w16 z
remainder_bits (pos n) f = omega (arith, f.sfits)
remainder_bits (negsuc n) f = omega (arith, f.sfits)

-- the sum of two numbers' bits leaves what the sum of the numbers does
mixed : (m n : ℕ) → m < 32768 → n < 32768 → (m + (65536 - suc n)) % 65536 ≡ remainder (sub_ℕ m (suc n))
mixed m n f g = go (dec_le (suc n) m)
  where
    go : Dec (suc n ≤ m) → (m + (65536 - suc n)) % 65536 ≡ remainder (sub_ℕ m (suc n))
    go (yes h) =
        let e : (m + (65536 - suc n)) % 65536 ≡ (m - suc n) % 65536 = omega arith in
        e ∙ ap remainder (sym (sub_over m (suc n) h))
    go (no h) =
        let e : (m + (65536 - suc n)) % 65536 ≡ 65535 - (suc n - suc m) % 65536 = omega arith in
        e ∙ ap remainder (sym (sub_under m (suc n) (omega arith)))

-- the sum of two numbers' bits has the remainder of their sum
remainder_sum : (a b : ℤ) → SFits w16 a → SFits w16 b → (of_z w16 a + of_z w16 b) % 65536 ≡ remainder (a +ℤ b)
remainder_sum (pos m) (pos n) f g = refl
remainder_sum (pos m) (negsuc n) f g = mixed m n f.sfits g.sfits
remainder_sum (negsuc m) (pos n) f g =
    let e : (65536 - suc m + n) % 65536 ≡ (n + (65536 - suc m)) % 65536 = omega arith in
    e ∙ mixed n m g.sfits f.sfits
remainder_sum (negsuc m) (negsuc n) f g = omega (arith, f.sfits, g.sfits)

-- the sum of two numbers within the range is below 65,536
under : (m n : ℕ) → m < 32768 → n < 32768 → mag (sub_ℕ m (suc n)) < 65536
under m n f g = go (dec_le (suc n) m)
  where
    go : Dec (suc n ≤ m) → mag (sub_ℕ m (suc n)) < 65536
    go (yes h) = rw (sub_over m (suc n) h) (omega arith)
    go (no h) = rw (sub_under m (suc n) (omega arith)) (omega arith)

-- the sum of two numbers of sixteen bits is below 65,536 either way
pub sum_below : (a b : ℤ) → SFits w16 a → SFits w16 b → mag (a +ℤ b) < 65536
sum_below (pos m) (pos n) f g = omega (arith, f.sfits, g.sfits)
sum_below (pos m) (negsuc n) f g = under m n f.sfits g.sfits
sum_below (negsuc m) (pos n) f g = under n m g.sfits f.sfits
sum_below (negsuc m) (negsuc n) f g = omega (arith, f.sfits, g.sfits)

-- what is drawn: the sum of the bits, read as signed, is the wrapped sum
pub bits_sum : (a b : ℤ) → SFits w16 a → SFits w16 b → to_z w16 ((of_z w16 a + of_z w16 b) % 65536) ≡ wrapped (a +ℤ b)
bits_sum a b f g = ap (to_z w16) (remainder_sum a b f g) ∙ remainder_read (a +ℤ b) (sum_below a b f g)
