-- Lists given by their places, and the loop that fills one from the front.
-- Assumes nothing.
use mathlib.Core.Path.{◌≡◌, ◌∙◌, sym, refl, ap, ap₂, subst}
use mathlib.Core.List.{List, ◌∷◌}
use Prim.Native.Nat.{ℕ, zero, suc, ◌+◌, ◌<◌, ◌≤◌}
use native.Mathlib.Omega.{arith}
use native.Mathlib.Nat.{add-zero, zero-add}
use lib.ListN.{length, get_or}
use lib.Seq.{ext_get_or}
use Rattle.laws.specs.Tabulate.{tabulate_from, tabulate}

module _ {A : Type 0} (f : ℕ → A) where
  -- n places from i on are n
  length_from : (i n : ℕ) → length (tabulate_from i f n) ≡ n
  unfolding tabulate_from
  length_from i zero = refl
  length_from i (suc n) = ap suc (length_from (suc i) n)

  -- so many places has the list
  pub length_tabulate : (n : ℕ) → length (tabulate f n) ≡ n
  length_tabulate n = length_from 0 n

  -- place k from i on holds f (i + k)
  getD_from : (d : A) (n i k : ℕ) → k < n → get_or (tabulate_from i f n) k d ≡ f (i + k)
  unfolding tabulate_from
  getD_from d zero i k h = absurd (omega arith)
  getD_from d (suc n) i zero h = ap f (sym (add-zero i))
  getD_from d (suc n) i (suc k) h = getD_from d n (suc i) k (omega arith) ∙ ap f (omega arith)

  -- what stands at a place of it
  pub get_d_tabulate : (d : A) (n k : ℕ) → k < n → get_or (tabulate f n) k d ≡ f k
  get_d_tabulate d n k h = getD_from d n 0 k h ∙ ap f (zero-add k)

  -- a list of that length that holds the same at each place is it
  pub tabulate_is : (d : A) (l : List A) (n : ℕ) → length l ≡ n → ((k : ℕ) → k < n → f k ≡ get_or l k d)
      → tabulate f n ≡ l
  tabulate_is d l n e same =
      ext_get_or d (tabulate f n) l (length_tabulate n ∙ sym e)
      (λ k h. let b : k < n = subst (λ (m : ℕ). k < m) (length_tabulate n) h in
      get_d_tabulate d n k b ∙ same k b)

-- a list is given by its entries
pub own_entries : {A : Type 0} (d : A) (l : List A) (n : ℕ) → length l ≡ n → tabulate (λ k. get_or l k d) n ≡ l
own_entries d l n e = tabulate_is (λ k. get_or l k d) d l n e (λ k h. refl)

-- the same from i on
from_cong : {A : Type 0} (f g : ℕ → A) (n i : ℕ) → ((k : ℕ) → i ≤ k → k < i + n → f k ≡ g k)
    → tabulate_from i f n ≡ tabulate_from i g n
unfolding tabulate_from
from_cong f g zero i h = refl
from_cong f g (suc n) i h =
    ap₂ ◌∷◌ (h i (omega arith) (omega arith)) (from_cong f g n (suc i) (λ k a b. h k (omega arith) (omega arith)))

-- two lists that hold the same at each place are one
pub tabulate_cong : {A : Type 0} (f g : ℕ → A) (n : ℕ) → ((k : ℕ) → k < n → f k ≡ g k) → tabulate f n ≡ tabulate g n
tabulate_cong f g n h = from_cong f g n 0 (λ k a b. h k (omega arith))
