-- A number in decimal: one digit more at a time, its length, its bytes, and that it is read back.
-- Assumes nothing.
use mathlib.Core.Path.{◌≡◌, ◌∙◌, sym, refl, ap, subst}
use mathlib.Core.List.{List, [], ◌∷◌, ◌++◌}
use Prim.Native.Nat.{ℕ, zero, suc, ◌+◌, ◌-◌, ◌*◌, ◌/◌, ◌%◌, ◌^◌, ◌<◌, ◌≤◌, max}
use native.Mathlib.Omega.{arith}
use native.Mathlib.Nat.{pow-suc}
use native.Mathlib.Decide.{dec_lt}
use lib.ListN.{length, take, get_or, length-append, get_or-append}
use lib.Seq.{get_or_at, take-take, take_at, take_all, get_or-take}
use Rattle.text.specs.Decimal.{decimal, digits_in, digit}

-- 0 has no digits of its own
none : (k : ℕ) → digits_in k 0 ≡ []
unfolding digits_in
none zero = refl
none (suc k) = refl

-- steps beyond a number's own size change nothing
enough : (j k n : ℕ) → n ≤ j → n ≤ k → digits_in j n ≡ digits_in k n
unfolding digits_in
enough zero k zero a b = sym (none k)
enough zero k (suc n) a b = absurd (omega arith)
enough (suc j) zero zero a b = refl
enough (suc j) zero (suc n) a b = absurd (omega arith)
enough (suc j) (suc k) zero a b = refl
enough (suc j) (suc k) (suc n) a b =
    ap (λ (l : List ℕ). l ++ (digit (suc n % 10) ∷ [])) (enough j k (suc n / 10) (omega arith) (omega arith))

-- a number that is not 0 is its digits
own : (k n : ℕ) → 0 < n → n ≤ k → digits_in k n ≡ decimal n
unfolding decimal digits_in
own k zero h l = absurd (omega arith)
own zero (suc n) h l = absurd (omega arith)
own (suc k) (suc n) h l = ap (λ (s : List ℕ). s ++ (digit (suc n % 10) ∷ []))
    (enough k (suc n) (suc n / 10) (omega arith) (omega arith))

-- a number below 10 is its digit
pub decimal_one : (n : ℕ) → n < 10 → decimal n ≡ digit n ∷ []
unfolding decimal digits_in
decimal_one n h =
    let tenth : n / 10 ≡ 0 = omega arith in
    let same : n % 10 ≡ n = omega arith in
    ap (λ (m : ℕ). digits_in n m ++ (digit (n % 10) ∷ [])) tenth
    ∙ ap (λ (s : List ℕ). s ++ (digit (n % 10) ∷ [])) (none n)
    ∙ ap (λ (d : ℕ). digit d ∷ []) same

-- a number ends in its last digit
ends : (n : ℕ) → decimal n ≡ digits_in n (n / 10) ++ (digit (n % 10) ∷ [])
unfolding decimal
ends n = refl

-- any other is its tenth in decimal and then its last digit
pub decimal_more : (n : ℕ) → 10 ≤ n → decimal n ≡ decimal (n / 10) ++ (digit (n % 10) ∷ [])
decimal_more n h = ends n ∙ ap (λ (s : List ℕ). s ++ (digit (n % 10) ∷ [])) (own n (n / 10) (omega arith) (omega arith))

-- what holds of each number below 10, and of a number if of its tenth, holds of all
pub by_digits : (P : ℕ → Type 0) → ((n : ℕ) → n < 10 → P n) → ((n : ℕ) → 10 ≤ n → P (n / 10) → P n) → (n : ℕ) → P n
by_digits P one more n = go (suc n) n (omega arith)
  where
    pick : (n : ℕ) → Dec (n < 10) → (10 ≤ n → P (n / 10)) → P n
    pick n (yes h) rest = one n h
    pick n (no h) rest = more n (omega arith) (rest (omega arith))

    go : (k n : ℕ) → n < k → P n
    go zero n h = absurd (omega arith)
    go (suc k) n h = pick n (dec_lt n 10) (λ m. go k (n / 10) (omega arith))

-- one digit more makes the text one longer
pub decimal_longer : (n : ℕ) → 10 ≤ n → length (decimal n) ≡ length (decimal (n / 10)) + 1
decimal_longer n h = ap length (decimal_more n h) ∙ length-append (decimal (n / 10)) (digit (n % 10) ∷ [])

-- a power of ten is not 0
ten_some : (d : ℕ) → 1 ≤ 10 ^ d
ten_some zero = omega arith
ten_some (suc d) = omega (arith, pow-suc 10 d, ten_some d)

-- a number has a digit
pub decimal_some : (n : ℕ) → 1 ≤ length (decimal n)
decimal_some = by_digits (λ n. 1 ≤ length (decimal n)) (λ n h. omega (arith, ap length (decimal_one n h)))
    (λ n h p. omega (arith, decimal_longer n h))

-- and at most d, where it is below the power of ten
pub decimal_most : (n d : ℕ) → 1 ≤ d → n < 10 ^ d → length (decimal n) ≤ d
decimal_most = by_digits (λ n. (d : ℕ) → 1 ≤ d → n < 10 ^ d → length (decimal n) ≤ d) one more
  where
    one : (n : ℕ) → n < 10 → (d : ℕ) → 1 ≤ d → n < 10 ^ d → length (decimal n) ≤ d
    one n h d a b = omega (arith, ap length (decimal_one n h))

    more : (n : ℕ) → 10 ≤ n → ((d : ℕ) → 1 ≤ d → n / 10 < 10 ^ d → length (decimal (n / 10)) ≤ d)
        → (d : ℕ) → 1 ≤ d → n < 10 ^ d → length (decimal n) ≤ d
    more n h rest zero a b = absurd (omega arith)
    more n h rest (suc zero) a b = absurd (omega arith)
    more n h rest (suc (suc d)) a b =
        let e : 10 ^ suc (suc d) ≡ 10 ^ suc d * 10 = pow-suc 10 (suc d) in
        let l : length (decimal (n / 10)) ≤ suc d = rest (suc d) (omega arith) (omega arith) in
        omega (arith, decimal_longer n h)

-- and more than d, where it is not below that power
pub decimal_least : (n d : ℕ) → 10 ^ d ≤ n → d < length (decimal n)
decimal_least = by_digits (λ n. (d : ℕ) → 10 ^ d ≤ n → d < length (decimal n)) one more
  where
    one : (n : ℕ) → n < 10 → (d : ℕ) → 10 ^ d ≤ n → d < length (decimal n)
    one n h zero a = omega (arith, decimal_some n)
    one n h (suc d) a = absurd (omega (arith, pow-suc 10 d, ten_some d))

    more : (n : ℕ) → 10 ≤ n → ((d : ℕ) → 10 ^ d ≤ n / 10 → d < length (decimal (n / 10)))
        → (d : ℕ) → 10 ^ d ≤ n → d < length (decimal n)
    more n h rest zero a = omega (arith, decimal_some n)
    more n h rest (suc d) a =
        let e : 10 ^ suc d ≡ 10 ^ d * 10 = pow-suc 10 d in
        let l : d < length (decimal (n / 10)) = rest d (omega arith) in
        omega (arith, decimal_longer n h)

-- so the logarithm of a number, of 1 in the place of 0, tells how many digits it has
pub decimal_long : (n k : ℕ) {m : ℕ} → m ≡ max n 1 → 10 ^ k ≤ m → m < 10 * 10 ^ k → k + 1 ≡ length (decimal n)
decimal_long zero zero e a b = sym (ap length (decimal_one 0 (omega arith)))
decimal_long zero (suc k) e a b = absurd (omega (arith, pow-suc 10 k, ten_some k))
decimal_long (suc n) k e a b =
    let p : 10 ^ suc k ≡ 10 ^ k * 10 = pow-suc 10 k in
    let l : k < length (decimal (suc n)) = decimal_least (suc n) k (omega arith) in
    let u : length (decimal (suc n)) ≤ suc k = decimal_most (suc n) (suc k) (omega arith) (omega arith) in
    omega arith

-- each of its bytes is that of a digit, 48 to 57
abbrev pub IsDigit : ℕ → Type 0
IsDigit b = (48 ≤ b) × (b ≤ 57)

-- every byte of a number in decimal is a digit
pub decimal_digits : (n i : ℕ) → i < length (decimal n) → IsDigit (get_or (decimal n) i 0)
decimal_digits = by_digits (λ n. (i : ℕ) → i < length (decimal n) → IsDigit (get_or (decimal n) i 0)) one more
  where
    one : (n : ℕ) → n < 10 → (i : ℕ) → i < length (decimal n) → IsDigit (get_or (decimal n) i 0)
    one n h zero l = rw (decimal_one n h) (omega arith, omega arith)
    one n h (suc i) l = absurd (omega (arith, ap length (decimal_one n h)))

    more : (n : ℕ) → 10 ≤ n → ((i : ℕ) → i < length (decimal (n / 10)) → IsDigit (get_or (decimal (n / 10)) i 0))
        → (i : ℕ) → i < length (decimal n) → IsDigit (get_or (decimal n) i 0)
    more n h rest i l = go (dec_lt i (length (decimal (n / 10))))
      where
        go : Dec (i < length (decimal (n / 10))) → IsDigit (get_or (decimal n) i 0)
        go (yes m) =
            let e : get_or (decimal n) i 0 ≡ get_or (decimal (n / 10)) i 0
            = ap (λ (s : List ℕ). get_or s i 0) (decimal_more n h)
            ∙ get_or-append (decimal (n / 10)) (digit (n % 10) ∷ []) 0 i m in
            subst IsDigit (sym e) (rest i m)
        go (no m) =
            let e : get_or (decimal n) i 0 ≡ digit (n % 10)
            = ap (λ (s : List ℕ). get_or s i 0) (decimal_more n h)
            ∙ get_or_at (decimal (n / 10)) (digit (n % 10)) [] 0 i (omega (arith, decimal_longer n h)) in
            subst IsDigit (sym e) (omega arith, omega arith)

-- and only 0 begins with a zero
pub decimal_first : (n : ℕ) → 1 ≤ n → 49 ≤ get_or (decimal n) 0 0
decimal_first = by_digits (λ n. 1 ≤ n → 49 ≤ get_or (decimal n) 0 0) one more
  where
    one : (n : ℕ) → n < 10 → 1 ≤ n → 49 ≤ get_or (decimal n) 0 0
    one n h l = rw (decimal_one n h) (omega arith)

    more : (n : ℕ) → 10 ≤ n → (1 ≤ n / 10 → 49 ≤ get_or (decimal (n / 10)) 0 0) → 1 ≤ n → 49 ≤ get_or (decimal n) 0 0
    more n h rest l =
        let e : get_or (decimal n) 0 0 ≡ get_or (decimal (n / 10)) 0 0
        = ap (λ (s : List ℕ). get_or s 0 0) (decimal_more n h)
        ∙ get_or-append (decimal (n / 10)) (digit (n % 10) ∷ []) 0 0 (decimal_some (n / 10)) in
        omega (arith, rest (omega arith))

-- the number that a text of digits says, after a
pub value_from : ℕ → List ℕ → ℕ
value_from a [] = a
value_from a (b ∷ t) = value_from (a * 10 + (b - 48)) t

-- a last digit more
value_last : (a : ℕ) (t : List ℕ) (b : ℕ) → value_from a (t ++ (b ∷ [])) ≡ value_from a t * 10 + (b - 48)
unfolding value_from
value_last a [] b = refl
value_last a (x ∷ t) b = value_last (a * 10 + (x - 48)) t b

-- a number in decimal says the number
pub decimal_value : (n : ℕ) → value_from 0 (decimal n) ≡ n
unfolding value_from
decimal_value = by_digits (λ n. value_from 0 (decimal n) ≡ n) one more
  where
    one : (n : ℕ) → n < 10 → value_from 0 (decimal n) ≡ n
    one n h = ap (value_from 0) (decimal_one n h) ∙ omega arith

    more : (n : ℕ) → 10 ≤ n → value_from 0 (decimal (n / 10)) ≡ n / 10 → value_from 0 (decimal n) ≡ n
    more n h rest = ap (value_from 0) (decimal_more n h) ∙ value_last 0 (decimal (n / 10)) (digit (n % 10))
        ∙ omega (arith, rest)

-- so two numbers with the same text are the same number
pub decimal_injective : (m n : ℕ) → decimal m ≡ decimal n → m ≡ n
decimal_injective m n e = sym (decimal_value m) ∙ ap (value_from 0) e ∙ decimal_value n

-- the last k digits of n, zeros among them
pub last_digits : ℕ → ℕ → List ℕ
last_digits zero n = []
last_digits (suc k) n = last_digits k (n / 10) ++ (digit (n % 10) ∷ [])

-- a number's digits are as many of its last digits
decimal_last : (n : ℕ) → decimal n ≡ last_digits (length (decimal n)) n
unfolding last_digits
decimal_last = by_digits (λ n. decimal n ≡ last_digits (length (decimal n)) n) one more
  where
    one : (n : ℕ) → n < 10 → decimal n ≡ last_digits (length (decimal n)) n
    one n h =
        let e : n ≡ n % 10 = omega arith in
        decimal_one n h ∙ ap (λ (d : ℕ). digit d ∷ []) e
        ∙ ap (λ (s : List ℕ). last_digits (length s) n) (sym (decimal_one n h))

    more : (n : ℕ) → 10 ≤ n → decimal (n / 10) ≡ last_digits (length (decimal (n / 10))) (n / 10) → decimal n
        ≡ last_digits (length (decimal n)) n
    more n h rest =
        let e : suc (length (decimal (n / 10))) ≡ length (decimal n) = omega (arith, decimal_longer n h) in
        decimal_more n h ∙ ap (λ (s : List ℕ). s ++ (digit (n % 10) ∷ [])) rest ∙ ap (λ (k : ℕ). last_digits k n) e

-- they are k
length_last : (k n : ℕ) → length (last_digits k n) ≡ k
unfolding last_digits
length_last zero n = refl
length_last (suc k) n =
    length-append (last_digits k (n / 10)) (digit (n % 10) ∷ []) ∙ omega (arith, length_last k (n / 10))

-- of the digits of n, the first i are the last i of what is left of n
pub record Left (n i rest : ℕ) : Type 0 where
  pub upto : i ≤ length (decimal n)
  pub first : take i (decimal n) ≡ last_digits i rest

-- at first all of them
pub left_all : (n : ℕ) → Left n (length (decimal n)) n
left_all n = record {
  upto = omega arith;
  first = take_all (length (decimal n)) (decimal n) (omega arith)
      ∙ decimal_last n;
}

module _ {n i rest : ℕ} (j : ℕ) (e : i ≡ suc j) (p : Left n i rest) where
  -- their digits, the last by itself
  both : take (suc j) (decimal n) ≡ last_digits j (rest / 10) ++ (digit (rest % 10) ∷ [])
  unfolding last_digits
  both = subst (λ (m : ℕ). take m (decimal n) ≡ last_digits m rest) e p.first

  -- the last of them is the last digit of what is left
  pub left_digit : get_or (decimal n) j 0 ≡ digit (rest % 10)
  left_digit =
      sym (get_or-take (suc j) (decimal n) j 0 (omega arith)) ∙ ap (λ (s : List ℕ). get_or s j 0) both
      ∙ get_or_at (last_digits j (rest / 10)) (digit (rest % 10)) [] 0 j (length_last j (rest / 10))

  -- and the others are the digits of its tenth
  pub left_less : Left n j (rest / 10)
  left_less =
      record {
        upto = omega (arith, p.upto);
        first = sym (take-take j (suc j) (decimal n) (omega arith)) ∙ ap (take j) both
            ∙ take_at (last_digits j (rest / 10)) (digit (rest % 10) ∷ []) j (length_last j (rest / 10));
      }
