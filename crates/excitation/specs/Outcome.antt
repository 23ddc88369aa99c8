-- What making an excitation answers, and what it leaves (document 02, K6).
use Rattle.std.specs.Prelude.{Bool, List, [], ◌∷◌, ℕ, ◌%◌, leb, eqb, ℤ, length, Result, Ok, Err}
use Rattle.laws.specs.Table.{both}
use Rattle.laws.specs.Unless.{unless}
use Rattle.delays.specs.Codes.{listed}
use Rattle.excitation.specs.Register.{holding, moved_by}
use Rattle.excitation.specs.Excitation.{excitation_of}
use Rattle.excitation.specs.declared.Register.{Register}
use Rattle.excitation.specs.declared.Refusal.{Refusal}
use Rattle.excitation.specs.declared.Refusal.TheVariants.{WrongLength, TooLarge, NotListed, NotWhole}

-- what making an excitation comes to: it is written, or refused
abbrev pub Outcome : Type 0
Outcome = Result (Unit {0}) Refusal

-- the outcome, and the register after it
pub record Excited : Type 0 where
  pub outcome : Outcome
  pub register : Register

-- PG, CI and CG fit their five, nine and five bits
abbrev pub indices_fit : ℕ → ℕ → ℕ → Bool
indices_fit pg ci cg = both (leb pg 31) (both (leb ci 511) (leb cg 31))

-- what it comes to with a buffer of so many elements: the buffer, then an index, then the delay
unfoldable pub outcome_of : ℕ → ℕ → ℕ → ℕ → ℕ → Outcome
outcome_of long delay pg ci cg =
    unless (eqb long 60) (Err WrongLength)
    (unless (indices_fit pg ci cg) (Err TooLarge)
    (unless (listed delay) (Err NotListed)
    (unless (eqb (delay % 12) 0) (Err NotWhole) (Ok tt))))

-- a refusal's number
abbrev pub number_of : Refusal → ℕ
number_of WrongLength = 1
number_of TooLarge = 2
number_of NotListed = 4
number_of NotWhole = 15

-- the same of an outcome, 0 where there is none
abbrev pub refusal_of : Outcome → ℕ
refusal_of (Ok u) = 0
refusal_of (Err e) = number_of e

-- what the refusal tells: 2, 4 and 15 tell 0 here
abbrev pub tells_of : Outcome → List ℕ
tells_of (Ok u) = []
tells_of (Err WrongLength) = []
tells_of (Err TooLarge) = 0 ∷ []
tells_of (Err NotListed) = 0 ∷ []
tells_of (Err NotWhole) = 0 ∷ []

-- what there is after an outcome: the new where the excitation was written, else what was before
abbrev pub after_outcome : {A : Type 0} → Outcome → A → A → A
after_outcome (Ok u) new old = new
after_outcome (Err e) new old = old

-- the register moved by the excitation
unfoldable pub register_moved : Register → ℕ → ℕ → ℕ → ℕ → Register
register_moved register delay pg ci cg =
    holding (moved_by register.elements (excitation_of register.elements delay pg ci cg))

-- the outcome, and the register after it
unfoldable pub excited_of : Register → ℕ → ℕ → ℕ → ℕ → ℕ → Excited
excited_of register delay pg ci cg long =
    record {
      outcome = outcome_of long delay pg ci cg;
      register = after_outcome (outcome_of long delay pg ci cg) (register_moved register delay pg ci cg) register;
    }

-- what a buffer that held l holds after it
unfoldable pub excitation_left : Register → ℕ → ℕ → ℕ → ℕ → List ℤ → List ℤ
excitation_left register delay pg ci cg l =
    after_outcome (outcome_of (length l) delay pg ci cg) (excitation_of register.elements delay pg ci cg) l
