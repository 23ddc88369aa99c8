-- When the excitation of a subframe is refused, and what is told (document 02, K6: "Refusals: 1 for the buffer, 2 for
-- an index, then 15 for a delay that is listed but not whole and 4 for one not listed; 2, 15 and 4 tell 0 here, and the
-- register stays").
use Rattle.std.specs.Prelude.{◌≡◌, List, [], ◌∷◌, ◌↔◌, ℕ, ◌%◌, ◌≤◌, Ok, Err}
use Rattle.excitation.specs.Outcome.{Outcome, outcome_of, refusal_of, tells_of}
use Rattle.excitation.specs.declared.Refusal.TheVariants.{WrongLength, TooLarge, NotListed, NotWhole}
use Rattle.promises.specs.Refused.{Listed}

-- the three indices fit their fields
abbrev pub IndicesFit : ℕ → ℕ → ℕ → Type 0
IndicesFit pg ci cg = (pg ≤ 31) × (ci ≤ 511) × (cg ≤ 31)

-- for a buffer of n elements, a delay in twelfths and the indices PG, CI and CG, the condition of each outcome
abbrev pub ExcitationGives : ℕ → ℕ → ℕ → ℕ → ℕ → Outcome → Type 0
ExcitationGives n delay pg ci cg (Err WrongLength) = n ≡ 60 → ⊥
ExcitationGives n delay pg ci cg (Err TooLarge) = (n ≡ 60) × (IndicesFit pg ci cg → ⊥)
ExcitationGives n delay pg ci cg (Err NotListed) = (n ≡ 60) × IndicesFit pg ci cg × (Listed delay → ⊥)
ExcitationGives n delay pg ci cg (Err NotWhole) = (n ≡ 60) × IndicesFit pg ci cg × Listed delay × (delay % 12 ≡ 0 → ⊥)
ExcitationGives n delay pg ci cg (Ok u) = (n ≡ 60) × IndicesFit pg ci cg × Listed delay × (delay % 12 ≡ 0)

-- each is given exactly when its condition is met
unfoldable pub ExcitationRefuses : Type 0
ExcitationRefuses =
    (n delay pg ci cg : ℕ) (o : Outcome) → (outcome_of n delay pg ci cg ≡ o) ↔ ExcitationGives n delay pg ci cg o

-- the number and what it tells, row by row
pub data ExcitationTable (n delay pg ci cg : ℕ) : ℕ → List ℕ → Type 0 where
  excitation_length : ExcitationGives n delay pg ci cg (Err WrongLength) → ExcitationTable n delay pg ci cg 1 []
  excitation_index : ExcitationGives n delay pg ci cg (Err TooLarge) → ExcitationTable n delay pg ci cg 2 (0 ∷ [])
  excitation_unlisted : ExcitationGives n delay pg ci cg (Err NotListed) → ExcitationTable n delay pg ci cg 4 (0 ∷ [])
  excitation_between : ExcitationGives n delay pg ci cg (Err NotWhole) → ExcitationTable n delay pg ci cg 15 (0 ∷ [])
  excitation_written : ExcitationGives n delay pg ci cg (Ok tt) → ExcitationTable n delay pg ci cg 0 []

unfoldable pub ExcitationNumbers : Type 0
ExcitationNumbers =
    (n delay pg ci cg k : ℕ) (t : List ℕ)
    → ((refusal_of (outcome_of n delay pg ci cg) ≡ k) × (tells_of (outcome_of n delay pg ci cg) ≡ t)) ↔ ExcitationTable n
    delay pg ci cg k t
