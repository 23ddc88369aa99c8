-- The returns of `outcome_of` and of `excite`, and what is so where nothing is refused.
-- Assumes nothing.
use mathlib.Core.Path.{◌≡◌, ◌∙◌, refl, sym, subst}
use mathlib.Core.Bool.{true}
use mathlib.Core.List.{List}
use Prim.Native.Nat.{ℕ, ◌/◌, ◌%◌, ◌<◌, ◌≤◌}
use native.Mathlib.Omega.{arith}
use borrow.Author.Tests.{eq-eqb, ne_eqb, le-leb, lt-leb, lt-ltb, eqb-true, ltb-true}
use lib.Dec.{T, eqb, leb, leb→le}
use lib.IntN.{ℤ}
use lib.ListN.{length}
use Rattle.std.specs.Prelude.{Some, None, Ok, Err}
use Rattle.laws.specs.Table.{both}
use Rattle.laws.proofs.Table.{both_left, both_right}
use Rattle.laws.proofs.Unless.{goes_on}
use Rattle.delays.specs.Codes.{listed, rank_found}
use Rattle.delays.specs.Table.{rank_with}
use Rattle.delays.proofs.Pairs.{found, not_found}
use Rattle.delays.proofs.Table.{twelfths_low, twelfths_high, twelfths_rank}
use Rattle.excitation.specs.Excitation.{excitation_of}
use Rattle.excitation.specs.Outcome.{Outcome, indices_fit, outcome_of, register_moved, excited_of}
use Rattle.excitation.specs.Outcome.{excitation_left}
use Rattle.excitation.specs.declared.Register.{Register}
use Rattle.excitation.specs.declared.Refusal.{Refusal}
use Rattle.excitation.specs.declared.Refusal.TheVariants.{WrongLength, TooLarge, NotListed, NotWhole}
use Rattle.excitation.proofs.Mixes.{mixed_sixty}

module _ (long delay pg ci cg : ℕ) where
  -- the buffer
  pub wrong_length : (long ≡ 60 → ⊥) → Err WrongLength ≡ outcome_of long delay pg ci cg
  unfolding outcome_of
  wrong_length w = rw (ne_eqb long 60 w) refl

  module _ (e : long ≡ 60) where
    -- an index
    pub pg_large : 31 < pg → Err TooLarge ≡ outcome_of long delay pg ci cg
    unfolding outcome_of
    pg_large h = rw (eq-eqb long 60 e, lt-leb pg 31 h) refl

    pub ci_large : pg ≤ 31 → 511 < ci → Err TooLarge ≡ outcome_of long delay pg ci cg
    unfolding outcome_of
    ci_large p h = rw (eq-eqb long 60 e, le-leb pg 31 p, lt-leb ci 511 h) refl

    pub cg_large : pg ≤ 31 → ci ≤ 511 → 31 < cg → Err TooLarge ≡ outcome_of long delay pg ci cg
    unfolding outcome_of
    cg_large p i h = rw (eq-eqb long 60 e, le-leb pg 31 p, le-leb ci 511 i, lt-leb cg 31 h) refl

    module _ (p : pg ≤ 31) (i : ci ≤ 511) (q : cg ≤ 31) where
      -- the delay
      pub not_listed : None ≡ rank_found (rank_with delay) → Err NotListed ≡ outcome_of long delay pg ci cg
      unfolding outcome_of
      not_listed r =
          rw (
            eq-eqb long 60 e,
            le-leb pg 31 p,
            le-leb ci 511 i,
            le-leb cg 31 q,
            not_found (rank_with delay) r,
          ) refl

      pub not_whole : {rank : ℕ} → Some rank ≡ rank_found (rank_with delay) → (delay % 12 ≡ 0 → ⊥)
          → Err NotWhole ≡ outcome_of long delay pg ci cg
      unfolding outcome_of
      not_whole r w =
          rw (
            eq-eqb long 60 e,
            le-leb pg 31 p,
            le-leb ci 511 i,
            le-leb cg 31 q,
            lt-ltb (rank_with delay) 256 (found _ _ r).1,
            ne_eqb (delay % 12) 0 w,
          ) refl

      -- nothing is refused
      pub all_fits : {rank : ℕ} → Some rank ≡ rank_found (rank_with delay) → delay % 12 ≡ 0
          → Ok tt ≡ outcome_of long delay pg ci cg
      unfolding outcome_of
      all_fits r w =
          rw (
            eq-eqb long 60 e,
            le-leb pg 31 p,
            le-leb ci 511 i,
            le-leb cg 31 q,
            lt-ltb (rank_with delay) 256 (found _ _ r).1,
            eq-eqb (delay % 12) 0 w,
          ) refl

-- a refusal is not the answer that the excitation is written
refused : (e : Refusal) → ◌≡◌ {A = Outcome} (Err e) (Ok tt) → ⊥
refused e w = let z : ◌≡◌ {A = ℕ} 0 1 = cc in omega arith

-- what is so where nothing is refused: the delay is a whole number of samples between 20 and 147
pub record Fitting (long delay pg ci cg : ℕ) : Type 0 where
  pub sixty : long ≡ 60
  pub pg_fits : pg ≤ 31
  pub ci_fits : ci ≤ 511
  pub cg_fits : cg ≤ 31
  pub in_list : listed delay ≡ true
  pub whole : delay % 12 ≡ 0
  pub from_twenty : 20 ≤ delay / 12
  pub upto_last : delay / 12 ≤ 147

pub fitting : (delay pg ci cg : ℕ) {long : ℕ} → outcome_of long delay pg ci cg ≡ Ok tt → Fitting long delay pg ci cg
unfolding outcome_of
fitting delay pg ci cg {long} e =
    let one = goes_on (eqb long 60) (Err WrongLength) _ (refused WrongLength) e in
    let two = goes_on (indices_fit pg ci cg) (Err TooLarge) _ (refused TooLarge) one.1 in
    let three = goes_on (listed delay) (Err NotListed) _ (refused NotListed) two.1 in
    let four = goes_on (eqb (delay % 12) 0) (Err NotWhole) _ (refused NotWhole) three.1 in
    let fits : T (indices_fit pg ci cg) = subst T (sym two.0) tt in
    let others = both_right (leb pg 31) (both (leb ci 511) (leb cg 31)) fits in
    let rank : rank_with delay < 256 = ltb-true (rank_with delay) 256 three.0 in
    let is = twelfths_rank delay rank in
    record {
      sixty = eqb-true long 60 one.0;
      pg_fits = leb→le pg 31 (both_left (leb pg 31) (both (leb ci 511) (leb cg 31)) fits);
      ci_fits = leb→le ci 511 (both_left (leb ci 511) (leb cg 31) others);
      cg_fits = leb→le cg 31 (both_right (leb ci 511) (leb cg 31) others);
      in_list = three.0;
      whole = eqb-true (delay % 12) 0 four.0;
      from_twenty = omega (arith, is, twelfths_low (rank_with delay) rank);
      upto_last = omega (arith, is, twelfths_high (rank_with delay) rank);
    }

-- the returns of `excite`
module _ (register : Register) (delay pg ci cg : ℕ) (l : List ℤ) where
  -- an outcome, a register, and what is left in the buffer
  pub record Answers (o : Outcome) (r : Register) (left : List ℤ) : Type 0 where
    pub value : o ≡ (excited_of register delay pg ci cg (length l)).outcome
    pub register_after : r ≡ (excited_of register delay pg ci cg (length l)).register
    pub out_after : left ≡ excitation_left register delay pg ci cg l

  -- the excitation is written
  pub answered : Ok tt ≡ outcome_of (length l) delay pg ci cg
      → {r : Register} {left : List ℤ} → r ≡ register_moved register delay pg ci cg
      → left ≡ excitation_of register.elements delay pg ci cg
      → Answers (Ok tt) r left
  unfolding excited_of excitation_left
  answered told p q =
      let e = sym told in record { value = told; register_after = rw e p; out_after = rw e q }

  -- a refusal leaves register and buffer
  pub stays : {e : Refusal} → Err e ≡ outcome_of (length l) delay pg ci cg → Answers (Err e) register l
  unfolding excited_of excitation_left
  stays told =
      let e = sym told in record { value = told; register_after = rw e refl; out_after = rw e refl }

-- as many elements are written as there were
pub written_sixty : (register : Register) (delay pg ci cg : ℕ) {long : ℕ} → outcome_of long delay pg ci cg ≡ Ok tt
    → length (excitation_of register.elements delay pg ci cg) ≡ long
unfolding excitation_of
written_sixty register delay pg ci cg e = mixed_sixty _ _ _ _ ∙ sym (fitting delay pg ci cg e).sixty
