-- When the excitation of a subframe is refused, and what is told.
-- Assumes nothing.
use mathlib.Core.Path.{◌≡◌, sym, refl, subst}
use mathlib.Core.Bool.{Bool, true, false}
use mathlib.Core.List.{List}
use Prim.Native.Nat.{ℕ, ◌%◌, ◌≤◌}
use native.Mathlib.Omega.{arith}
use native.Mathlib.Decide.{ℕ_discrete, dec_le}
use borrow.Author.Tests.{eq-eqb, ne_eqb, le-leb, lt-leb}
use Rattle.delays.specs.Codes.{listed}
use Rattle.excitation.specs.Outcome.{Outcome, indices_fit, outcome_of, refusal_of, tells_of}
use Rattle.excitation.specs.declared.Refusal.TheVariants.{WrongLength, TooLarge, NotListed, NotWhole}
use Rattle.std.specs.Prelude.{Ok, Err}
use Rattle.promises.specs.Refused.{Listed}
use Rattle.promises.specs.Excitation.{IndicesFit, ExcitationGives, ExcitationRefuses, ExcitationTable}
use Rattle.promises.specs.Excitation.{excitation_length, excitation_index, excitation_unlisted}
use Rattle.promises.specs.Excitation.{excitation_between, excitation_written, ExcitationNumbers}
use Rattle.promises.proofs.Refused.{listed_yes, listed_test, listed_no, unlisted_test}
use Rattle.promises.proofs.RefusalNumbers.{told, at_row}

module _ (pg ci cg : ℕ) where
  -- the test of the indices, both ways
  fit_test : IndicesFit pg ci cg → indices_fit pg ci cg ≡ true
  fit_test (p, i, q) = simp (le-leb pg 31 p, le-leb ci 511 i, le-leb cg 31 q)

  unfit_test : (IndicesFit pg ci cg → ⊥) → indices_fit pg ci cg ≡ false
  unfit_test w = one (dec_le pg 31)
    where
      three : pg ≤ 31 → ci ≤ 511 → Dec (cg ≤ 31) → indices_fit pg ci cg ≡ false
      three p i (yes q) = absurd (w (p, i, q))
      three p i (no q) = simp (le-leb pg 31 p, le-leb ci 511 i, lt-leb cg 31 (omega arith))

      two : pg ≤ 31 → Dec (ci ≤ 511) → indices_fit pg ci cg ≡ false
      two p (yes i) = three p i (dec_le cg 31)
      two p (no i) = simp (le-leb pg 31 p, lt-leb ci 511 (omega arith))

      one : Dec (pg ≤ 31) → indices_fit pg ci cg ≡ false
      one (yes p) = two p (dec_le ci 511)
      one (no p) = simp (lt-leb pg 31 (omega arith))

  -- they fit or not
  fit_dec : Dec (IndicesFit pg ci cg)
  fit_dec = one (dec_le pg 31)
    where
      three : pg ≤ 31 → ci ≤ 511 → Dec (cg ≤ 31) → Dec (IndicesFit pg ci cg)
      three p i (yes q) = yes (p, i, q)
      three p i (no q) = no (λ f. q f.2)

      two : pg ≤ 31 → Dec (ci ≤ 511) → Dec (IndicesFit pg ci cg)
      two p (yes i) = three p i (dec_le cg 31)
      two p (no i) = no (λ f. i f.1)

      one : Dec (pg ≤ 31) → Dec (IndicesFit pg ci cg)
      one (yes p) = two p (dec_le ci 511)
      one (no p) = no (λ f. p f.0)

module _ (n delay pg ci cg : ℕ) where
  -- no outcome is given whose condition is not met
  excitation_only : (o : Outcome) → ExcitationGives n delay pg ci cg o → outcome_of n delay pg ci cg ≡ o
  unfolding outcome_of
  excitation_only (Err WrongLength) w = rw (ne_eqb n 60 w)
  excitation_only (Err TooLarge) (e, w) = rw (eq-eqb n 60 e, unfit_test pg ci cg w)
  excitation_only (Err NotListed) (e, f, w) = rw (eq-eqb n 60 e, fit_test pg ci cg f, unlisted_test delay w)
  excitation_only (Err NotWhole) (e, f, l, w) =
      rw (eq-eqb n 60 e, fit_test pg ci cg f, listed_test delay l, ne_eqb (delay % 12) 0 w)
  excitation_only (Ok u) (e, f, l, w) =
      rw (eq-eqb n 60 e, fit_test pg ci cg f, listed_test delay l, eq-eqb (delay % 12) 0 w)

  -- and the one that is given has its condition met
  excitation_gives : ExcitationGives n delay pg ci cg (outcome_of n delay pg ci cg)
  excitation_gives = one (ℕ_discrete n 60)
    where
      by : (o : Outcome) → ExcitationGives n delay pg ci cg o
          → ExcitationGives n delay pg ci cg (outcome_of n delay pg ci cg)
      by o g = subst (ExcitationGives n delay pg ci cg) (sym (excitation_only o g)) g

      four : n ≡ 60 → IndicesFit pg ci cg → Listed delay → Dec (delay % 12 ≡ 0)
          → ExcitationGives n delay pg ci cg (outcome_of n delay pg ci cg)
      four e f l (yes w) = by (Ok tt) (e, f, l, w)
      four e f l (no w) = by (Err NotWhole) (e, f, l, w)

      three : n ≡ 60 → IndicesFit pg ci cg → (t : Bool) → listed delay ≡ t
          → ExcitationGives n delay pg ci cg (outcome_of n delay pg ci cg)
      three e f true w = four e f (listed_yes delay w) (ℕ_discrete (delay % 12) 0)
      three e f false w = by (Err NotListed) (e, f, listed_no delay w)

      two : n ≡ 60 → Dec (IndicesFit pg ci cg) → ExcitationGives n delay pg ci cg (outcome_of n delay pg ci cg)
      two e (yes f) = three e f (listed delay) refl
      two e (no w) = by (Err TooLarge) (e, w)

      one : Dec (n ≡ 60) → ExcitationGives n delay pg ci cg (outcome_of n delay pg ci cg)
      one (yes e) = two e (fit_dec pg ci cg)
      one (no w) = by (Err WrongLength) w

pub excitation_refuses : ExcitationRefuses
unfolding ExcitationRefuses
excitation_refuses n delay pg ci cg o = (
  λ e. subst (ExcitationGives n delay pg ci cg) e (excitation_gives n delay pg ci cg),
  excitation_only n delay pg ci cg o,
)

module _ (n delay pg ci cg : ℕ) where
  excitation_row : (o : Outcome) → ExcitationGives n delay pg ci cg o
      → ExcitationTable n delay pg ci cg (refusal_of o) (tells_of o)
  excitation_row (Err WrongLength) g = excitation_length g
  excitation_row (Err TooLarge) g = excitation_index g
  excitation_row (Err NotListed) g = excitation_unlisted g
  excitation_row (Err NotWhole) g = excitation_between g
  excitation_row (Ok u) g = excitation_written g

  excitation_at : {k : ℕ} {t : List ℕ} → ExcitationTable n delay pg ci cg k t
      → (refusal_of (outcome_of n delay pg ci cg) ≡ k) × (tells_of (outcome_of n delay pg ci cg) ≡ t)
  excitation_at (excitation_length g) = told refusal_of tells_of (excitation_only n delay pg ci cg (Err WrongLength) g)
  excitation_at (excitation_index g) = told refusal_of tells_of (excitation_only n delay pg ci cg (Err TooLarge) g)
  excitation_at (excitation_unlisted g) = told refusal_of tells_of (excitation_only n delay pg ci cg (Err NotListed) g)
  excitation_at (excitation_between g) = told refusal_of tells_of (excitation_only n delay pg ci cg (Err NotWhole) g)
  excitation_at (excitation_written g) = told refusal_of tells_of (excitation_only n delay pg ci cg (Ok tt) g)

pub excitation_numbers : ExcitationNumbers
unfolding ExcitationNumbers
excitation_numbers n delay pg ci cg k t = (
  at_row (ExcitationTable n delay pg ci cg)
      (excitation_row n delay pg ci cg (outcome_of n delay pg ci cg) (excitation_gives n delay pg ci cg)),
  excitation_at n delay pg ci cg,
)
