-- What `lowest` answers: the lowest number at which the test holds, or 0 and then it holds at none.
-- Assumes nothing.
use mathlib.Core.Path.{◌≡◌, ◌∙◌, sym, refl, ap, subst}
use mathlib.Core.Bool.{Bool, true, false, cond}
use Prim.Native.Nat.{ℕ, zero, suc, ◌+◌, ◌<◌, ◌≤◌}
use native.Mathlib.Omega.{arith}
use native.Mathlib.Decide.{ℕ_discrete}
use native.Mathlib.Nat.{add-zero}
use Rattle.laws.specs.Lowest.{lowest_from, lowest}

module _ (t : ℕ → Bool) where
  -- the test fails below j and holds at j
  from_at : (k i d : ℕ) → d < k → ((m : ℕ) → i ≤ m → m < i + d → t m ≡ false) → t (i + d) ≡ true
      → lowest_from t i k ≡ i + d
  unfolding lowest_from
  from_at zero i d h none here = absurd (omega arith)
  from_at (suc k) i zero h none here =
      let e : t i ≡ true = subst (λ (m : ℕ). t m ≡ true) (add-zero i) here in
      rw e (sym (add-zero i))
  from_at (suc k) i (suc d) h none here =
      let e : t i ≡ false = none i (omega arith) (omega arith) in
      rw e
      (from_at k (suc i) d (omega arith) (λ m a b. none m (omega arith) (omega arith))
      (subst (λ (m : ℕ). t m ≡ true) (omega arith) here)
      ∙ omega arith)

  -- the test fails at all of the k numbers from i on
  from_none : (k i : ℕ) → ((m : ℕ) → i ≤ m → m < i + k → t m ≡ false) → lowest_from t i k ≡ 0
  unfolding lowest_from
  from_none zero i none = refl
  from_none (suc k) i none =
      let e : t i ≡ false = none i (omega arith) (omega arith) in
      rw e (from_none k (suc i) (λ m a b. none m (omega arith) (omega arith)))

  -- j is the lowest of 1 to n at which the test holds
  pub lowest_at : (n j : ℕ) → 1 ≤ j → j ≤ n → ((m : ℕ) → 1 ≤ m → m < j → t m ≡ false) → t j ≡ true → lowest t n ≡ j
  lowest_at n zero a b none here = absurd (omega arith)
  lowest_at n (suc d) a b none here =
      from_at n 1 d (omega arith) (λ m p q. none m p (omega arith)) (subst (λ (m : ℕ). t m ≡ true) (omega arith) here)
      ∙ omega arith

  -- it holds at none
  pub lowest_none : (n : ℕ) → ((m : ℕ) → 1 ≤ m → m ≤ n → t m ≡ false) → lowest t n ≡ 0
  lowest_none n none = from_none n 1 (λ m a b. none m a (omega arith))

  -- what the test at i makes of the answer
  from_step : (k i : ℕ) (b : Bool) → t i ≡ b → lowest_from t i (suc k) ≡ cond b i (lowest_from t (suc i) k)
  unfolding lowest_from
  from_step k i b q = ap (λ (x : Bool). cond x i (lowest_from t (suc i) k)) q

  -- what an answer of 0, and any other, says of the k numbers from i on
  abbrev Nowhere : ℕ → ℕ → Type 0
  Nowhere k i = lowest_from t i k ≡ 0 → (m : ℕ) → i ≤ m → m < i + k → t m ≡ false

  -- j is the first of them at which it holds
  abbrev First : ℕ → ℕ → ℕ → Type 0
  First k i j = (i ≤ j) × (j < i + k) × (t j ≡ true) × ((m : ℕ) → i ≤ m → m < j → t m ≡ false)

  -- an answer of 0 says that it fails at all of them
  from_zero : (k i : ℕ) → 1 ≤ i → Nowhere k i
  from_zero zero i p e m a b = absurd (omega arith)
  from_zero (suc k) i p e m a b = here (from_zero k (suc i) (omega arith)) (t i) refl (ℕ_discrete m i)
    where
      here : Nowhere k (suc i) → (b : Bool) → t i ≡ b → Dec (m ≡ i) → t m ≡ false
      here rest true q w = absurd (let z : i ≡ 0 = sym (from_step k i true q) ∙ e in omega arith)
      here rest false q (yes w) = ap t w ∙ q
      here rest false q (no w) = rest (sym (from_step k i false q) ∙ e) m (omega arith) (omega arith)

  -- any other answer is the first at which it holds
  from_found : (k i j : ℕ) → lowest_from t i k ≡ j → 1 ≤ j → First k i j
  from_found zero i j e q =
      absurd (let z : 0 ≡ j = sym (from_none zero i (λ m a b. absurd (omega arith))) ∙ e in omega arith)
  from_found (suc k) i j e q = here (λ w. from_found k (suc i) j w q) (t i) refl
    where
      below : t i ≡ false → First k (suc i) j → (m : ℕ) → i ≤ m → m < j → Dec (m ≡ i) → t m ≡ false
      below w r m a b (yes v) = ap t v ∙ w
      below w r m a b (no v) = r.3 m (omega arith) b

      later : t i ≡ false → First k (suc i) j → First (suc k) i j
      later w r = (omega (arith, r.0), omega (arith, r.1), r.2, λ m a b. below w r m a b (ℕ_discrete m i))

      here : (lowest_from t (suc i) k ≡ j → First k (suc i) j) → (b : Bool) → t i ≡ b → First (suc k) i j
      here rest true w =
          let z : i ≡ j = sym (from_step k i true w) ∙ e in
          (omega arith, omega arith, ap t (sym z) ∙ w, λ m a b. absurd (omega arith))
      here rest false w = later w (rest (sym (from_step k i false w) ∙ e))

  -- an answer of 0 says that it holds at none
  pub lowest_zero : (n : ℕ) → lowest t n ≡ 0 → (m : ℕ) → 1 ≤ m → m ≤ n → t m ≡ false
  lowest_zero n e m a b = from_zero n 1 (omega arith) e m a (omega arith)

  -- any other answer is a number of 1 to n at which it holds, and it holds at none below
  pub lowest_found : (n j : ℕ) → lowest t n ≡ j → 1 ≤ j
      → (j ≤ n) × (t j ≡ true) × ((m : ℕ) → 1 ≤ m → m < j → t m ≡ false)
  lowest_found n j e q =
      let r = from_found n 1 j e q in
      (omega (arith, r.1), r.2, r.3)

  -- a loop that looks for the lowest: the test has failed at 1 to i
  pub record NoneUpTo (i : ℕ) : Type 0 where
    pub none : (m : ℕ) → 1 ≤ m → m ≤ i → t m ≡ false

  -- at no number yet
  pub none_yet : NoneUpTo 0
  none_yet = record { none = λ m a b. absurd (omega arith) }

  -- it fails at one number more
  pub none_more : {i : ℕ} → NoneUpTo i → t (i + 1) ≡ false → NoneUpTo (i + 1)
  none_more {i} p e = record { none = λ m a b. at m a b (ℕ_discrete m (i + 1)) }
    where
      at : (m : ℕ) → 1 ≤ m → m ≤ i + 1 → Dec (m ≡ i + 1) → t m ≡ false
      at m a b (yes w) = ap t w ∙ e
      at m a b (no w) = p.none m a (omega arith)

  -- it holds at the next one: that is the lowest
  pub none_found : (n : ℕ) {i : ℕ} → NoneUpTo i → i < n → t (i + 1) ≡ true → i + 1 ≡ lowest t n
  none_found n {i} p h e = sym (lowest_at n (i + 1) (omega arith) (omega arith) (λ m a b. p.none m a (omega arith)) e)

  -- it has failed at all of them
  pub none_at_all : (n : ℕ) {i : ℕ} → NoneUpTo i → n ≤ i → 0 ≡ lowest t n
  none_at_all n {i} p h = sym (lowest_none n (λ m a b. p.none m a (omega arith)))

-- two tests that agree at 1 to n have the same lowest number
module _ (t u : ℕ → Bool) where
  -- so from i on
  from_same : (k i : ℕ) → ((m : ℕ) → i ≤ m → m < i + k → t m ≡ u m) → lowest_from t i k ≡ lowest_from u i k
  unfolding lowest_from
  from_same zero i same = refl
  from_same (suc k) i same =
      let here : t i ≡ u i = same i (omega arith) (omega arith) in
      rw (here, from_same k (suc i) (λ m a b. same m (omega arith) (omega arith)))

  -- and of 1 to n
  pub lowest_same : (n : ℕ) → ((m : ℕ) → 1 ≤ m → m ≤ n → t m ≡ u m) → lowest t n ≡ lowest u n
  lowest_same n same = from_same n 1 (λ m a b. same m a (omega arith))
