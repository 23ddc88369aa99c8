-- A loop that fills a list from the front, one place a turn: the invariant `Filled`, how it starts, goes on and ends.
-- Assumes nothing.
use mathlib.Core.Path.{◌≡◌, ◌∙◌, sym, refl, ap, subst}
use mathlib.Core.List.{List}
use Prim.Native.Nat.{ℕ, ◌+◌, ◌<◌, ◌≤◌}
use native.Mathlib.Omega.{arith}
use native.Mathlib.Decide.{ℕ_discrete}
use lib.ListN.{length, get_or, set, length-set}
use lib.Seq.{get_or-set_same, get_or-set_other}
use Rattle.laws.specs.Tabulate.{tabulate}
use Rattle.laws.proofs.Tabulate.{tabulate_is}

-- of the n places of l, the first i hold f
pub record Filled {A : Type 0} (d : A) (f : ℕ → A) (n i : ℕ) (l : List A) : Type 0 where
  pub long : length l ≡ n
  pub upto : i ≤ n
  pub here : (k : ℕ) → k < i → get_or l k d ≡ f k

module _ {A : Type 0} (d : A) (f : ℕ → A) (n : ℕ) where
  -- before the first turn no place holds f
  pub filled_none : (l : List A) → length l ≡ n → Filled d f n 0 l
  filled_none l e = record { long = e; upto = omega arith; here = λ k h. absurd (omega arith) }

  -- storing f i at place i fills one more
  pub filled_more : (i : ℕ) (l : List A) (v : A) → Filled d f n i l → i < n → v ≡ f i → Filled d f n (i + 1) (set l i v)
  filled_more i l v p h e = record { long = length-set l i v ∙ p.long; upto = omega arith; here = here' }
    where
      here'' : (k : ℕ) → k < i + 1 → Dec (k ≡ i) → get_or (set l i v) k d ≡ f k
      here'' k q (yes w) =
          subst (λ (m : ℕ). get_or (set l i v) m d ≡ f m) (sym w) (get_or-set_same l i v d (omega (arith, p.long)) ∙ e)
      here'' k q (no w) = get_or-set_other l i k v d w ∙ p.here k (omega arith)

      here' : (k : ℕ) → k < i + 1 → get_or (set l i v) k d ≡ f k
      here' k q = here'' k q (ℕ_discrete k i)

  -- fewer of them do, too
  pub filled_fewer : {i : ℕ} (j : ℕ) {l : List A} → Filled d f n i l → j ≤ i → Filled d f n j l
  filled_fewer j p h = record { long = p.long; upto = omega (arith, p.upto); here = λ k q. p.here k (omega arith) }

  -- a list filled to its end is the whole list of f
  pub filled_all : (l : List A) → Filled d f n n l → l ≡ tabulate f n
  filled_all l p = sym (tabulate_is f d l n p.long (λ k h. sym (p.here k h)))

  -- the same where the loop was left
  pub filled_done : {i : ℕ} (l : List A) → n ≤ i → Filled d f n i l → l ≡ tabulate f n
  filled_done {i} l h p =
      filled_all l (record { long = p.long; upto = omega arith; here = λ k q. p.here k (omega arith) })

-- a loop that changes each element where it stands: the first k are changed, the others as they were
pub record Changed {A : Type 0} (d : A) (g : ℕ → A → A) (o : List A) (k : ℕ) (l : List A) : Type 0 where
  pub done : Filled d (λ (m : ℕ). g m (get_or o m d)) (length o) k l
  pub left : (m : ℕ) → k ≤ m → get_or l m d ≡ get_or o m d

module _ {A : Type 0} (d : A) (g : ℕ → A → A) (o : List A) where
  -- before the first turn none is
  pub changed_none : Changed d g o 0 o
  changed_none = record { done = filled_none _ _ _ o refl; left = λ m h. refl }

  -- storing at place k what becomes of the element there changes one more
  pub changed_more : {k : ℕ} {l : List A} (v : A) → Changed d g o k l → k < length o → v ≡ g k (get_or l k d)
      → Changed d g o (k + 1) (set l k v)
  changed_more {k} {l} v p h e =
      record {
        done = filled_more _ _ _ k l v p.done h (e ∙ ap (g k) (p.left k (omega arith)));
        left = λ m q. get_or-set_other l k m v d (λ w. omega arith) ∙ p.left m (omega arith);
      }

  -- after the last turn all are
  pub changed_all : {k : ℕ} {l : List A} → Changed d g o k l → length o ≤ k
      → l ≡ tabulate (λ m. g m (get_or o m d)) (length o)
  changed_all {k} {l} p h = filled_done _ _ _ l h p.done
