-- A number whose bits are scattered over the places 1 to n: the sum of the places that belong to it is the number with
-- those bits.
-- Assumes nothing.
use mathlib.Core.Path.{◌≡◌, ◌∙◌, sym, refl, ap}
use mathlib.Core.Bool.{Bool, true, false, cond}
use Prim.Native.Nat.{ℕ, zero, suc, ◌*◌, ◌^◌, ◌<◌, ◌≤◌}
use native.Mathlib.Omega.{arith}
use native.Mathlib.Decide.{ℕ_discrete, dec_lt}
use borrow.Author.Tests.{eq-eqb, ne_eqb, lt-ltb, le-ltb}
use lib.Dec.{eqb, ltb}
use Rattle.laws.specs.Table.{both}
use Rattle.laws.specs.Total.{total, from_bits}
use Rattle.laws.proofs.Total.{total_cong, total_most, total_change}

-- places 1 to n, each belonging to the number `owner` says, as its bit `rank`; of number f bit i stands at `place i`,
-- and only there
pub record Scattered (n : ℕ) (owner rank : ℕ → ℕ) (f w : ℕ) (place : ℕ → ℕ) : Type 0 where
  pub first : (i : ℕ) → i < w → 1 ≤ place i
  pub last : (i : ℕ) → i < w → place i ≤ n
  pub owned : (i : ℕ) → i < w → owner (place i) ≡ f
  pub ranked : (i : ℕ) → i < w → rank (place i) ≡ i
  pub below : (q : ℕ) → 1 ≤ q → q ≤ n → owner q ≡ f → rank q < w
  pub only : (q : ℕ) → 1 ≤ q → q ≤ n → owner q ≡ f → place (rank q) ≡ q

module _ {n : ℕ} {owner rank : ℕ → ℕ} {f w : ℕ} {place : ℕ → ℕ} (s : Scattered n owner rank f w place) (b : ℕ → ℕ) where
  -- the part of the bits below v
  part : ℕ → ℕ → ℕ
  part v q = cond (both (eqb (owner q) f) (ltb (rank q) v)) (b q * 2 ^ rank q) 0

  -- a place of the number counts once its bit is among the first v
  part_in : (v q : ℕ) → owner q ≡ f → rank q < v → part v q ≡ b q * 2 ^ rank q
  unfolding part
  part_in v q e h = rw (eq-eqb (owner q) f e, lt-ltb (rank q) v h)

  -- a place of a later bit counts 0
  part_above : (v q : ℕ) → v ≤ rank q → part v q ≡ 0
  unfolding part
  part_above v q h = rw (le-ltb (rank q) v h) (go (eqb (owner q) f))
    where
      go : (t : Bool) → cond (both t false) (b q * 2 ^ rank q) 0 ≡ 0
      go true = refl
      go false = refl

  -- a place of another number counts 0
  part_other : (v q : ℕ) → (owner q ≡ f → ⊥) → part v q ≡ 0
  unfolding part
  part_other v q e = rw (ne_eqb (owner q) f e)

  -- away from the place of bit v, bit v changes nothing
  same : (v q : ℕ) → v < w → 1 ≤ q → q ≤ n → (q ≡ place v → ⊥) → part v q ≡ part (suc v) q
  same v q h a l e = mine (ℕ_discrete (owner q) f)
    where
      under : owner q ≡ f → Dec (rank q < v) → part v q ≡ part (suc v) q
      under o (yes r) = part_in v q o r ∙ sym (part_in (suc v) q o (omega arith))
      under o (no r) = part_above v q (omega arith) ∙ sym (part_above (suc v) q over)
        where
          apart : rank q ≡ v → ⊥
          apart x = e (sym (s.only q a l o) ∙ ap place x)

          over : suc v ≤ rank q
          over = omega (arith, apart)

      mine : Dec (owner q ≡ f) → part v q ≡ part (suc v) q
      mine (yes o) = under o (dec_lt (rank q) v)
      mine (no o) = part_other v q o ∙ sym (part_other (suc v) q o)

  -- the sum of the places of the first v bits is the number of those bits
  up_to : (v : ℕ) → v ≤ w → total (part v) n ≡ from_bits (λ i. b (place i)) v
  unfolding from_bits
  up_to zero h =
      let z = total_most (part 0) 0 n (λ q a l. let e = part_above 0 q (omega arith) in omega (arith, e)) in
      omega (arith, z)
  up_to (suc v) h =
      let rest = up_to v (omega arith) in
      let change = total_change (part v) (part (suc v)) (place v) n (s.first v h) (s.last v h)
      (λ q a l e. same v q h a l e) in
      let none = part_above v (place v) (let e = s.ranked v h in omega (arith, e)) in
      let gain : part (suc v) (place v) ≡ b (place v) * 2 ^ v
      = part_in (suc v) (place v) (s.owned v h) (let e = s.ranked v h in omega (arith, e))
      ∙ ap (λ (k : ℕ). b (place v) * 2 ^ k) (s.ranked v h) in
      omega (arith, rest, change, none, gain)

  -- all of its places
  pub collected : total (λ q. cond (eqb (owner q) f) (b q * 2 ^ rank q) 0) n ≡ from_bits (λ i. b (place i)) w
  collected =
      total_cong (λ q. cond (eqb (owner q) f) (b q * 2 ^ rank q) 0) (part w) n
      (λ q a l. whole q a l (ℕ_discrete (owner q) f)) ∙ up_to w (omega arith)
    where
      whole : (q : ℕ) → 1 ≤ q → q ≤ n → Dec (owner q ≡ f) → cond (eqb (owner q) f) (b q * 2 ^ rank q) 0 ≡ part w q
      whole q a l (yes o) = rw (eq-eqb (owner q) f o) (sym (part_in w q o (s.below q a l o)))
      whole q a l (no o) = rw (ne_eqb (owner q) f o) (sym (part_other w q o))
