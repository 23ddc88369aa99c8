-- What holds of the excitation of every subframe (document 02, K6). When it is refused is said in `promises`.
use Rattle.std.specs.Prelude.{◌≡◌, List, ◌++◌, ℕ, ◌+◌, ◌/◌, ◌%◌, ◌<◌, ◌≤◌, ℤ, pos, negsuc, neg_ℤ, ◌+ℤ◌, ◌*ℤ◌, nat_abs, length, get_or, Ok}
use Rattle.gains.specs.Tables.{cg_table, pg_table}
use Rattle.codebook.specs.Code.{code_of}
use Rattle.mixing.specs.Mixing.{sum_of, held_of}
use Rattle.mixing.specs.Promised.{Nearest}
use Rattle.excitation.specs.Register.{silent_register, element_at}
use Rattle.excitation.specs.Outcome.{outcome_of, excited_of, excitation_left}
use Rattle.excitation.specs.declared.Register.{Register}

-- a call that is not refused
abbrev pub Accepted : ℕ → ℕ → ℕ → ℕ → List ℤ → Type 0
Accepted delay pg ci cg l = outcome_of (length l) delay pg ci cg ≡ Ok tt

-- "-d + (t mod d)": the position that element t of the adaptive code is read at, for a delay in twelfths
abbrev pub position : ℕ → ℕ → ℤ
position delay t = neg_ℤ (pos (delay / 12)) +ℤ pos (t % (delay / 12))

-- "the exact sum of CG times the ternary element and a thousandth of PG times the adaptive element", in thousandths
abbrev pub sum_at : Register → ℕ → ℕ → ℕ → ℕ → ℕ → ℤ
sum_at register delay pg ci cg t =
    sum_of (get_or cg_table cg (pos 0)) (get_or (code_of ci) t (pos 0)) (get_or pg_table pg (pos 0))
    (element_at register.elements (position delay t))

-- each element is the whole number nearest to its sum, held
unfoldable pub ElementsAre : Type 0
ElementsAre =
    (register : Register) (delay pg ci cg t : ℕ) (l : List ℤ) (whole : ℤ) → Accepted delay pg ci cg l → t < 60
    → Nearest (sum_at register delay pg ci cg t) whole
    → get_or (excitation_left register delay pg ci cg l) t (pos 0) ≡ held_of whole

-- the position is one of the register's, from -147 to -1
unfoldable pub WithinRegister : Type 0
WithinRegister =
    (delay pg ci cg t : ℕ) (l : List ℤ) → Accepted delay pg ci cg l
    → (k : ℕ) × (k < 147) × (position delay t ≡ negsuc k)

-- every element is within plus or minus 1,000,000
unfoldable pub ElementsWithin : Type 0
ElementsWithin =
    (register : Register) (delay pg ci cg t : ℕ) (l : List ℤ) → Accepted delay pg ci cg l → t < 60
    → nat_abs (get_or (excitation_left register delay pg ci cg l) t (pos 0)) ≤ 1000000

-- "The register moves by sixty": the register after is the last 147 of old and new
unfoldable pub RegisterMoves : Type 0
RegisterMoves =
    (register : Register) (delay pg ci cg : ℕ) (l : List ℤ) → length register.elements ≡ 147
    → Accepted delay pg ci cg l
    → let after = (excited_of register delay pg ci cg (length l)).register.elements in
    (length after ≡ 147)
    × ((i : ℕ) → i < 147
    → get_or after i (pos 0) ≡ get_or (register.elements ++ excitation_left register delay pg ci cg l) (i + 60) (pos 0))

-- sixty elements are written or none; a refusal leaves the register too
unfoldable pub SixtyOrNone : Type 0
SixtyOrNone =
    (register : Register) (delay pg ci cg : ℕ) (l : List ℤ)
    → (Accepted delay pg ci cg l → length (excitation_left register delay pg ci cg l) ≡ 60)
    × ((Accepted delay pg ci cg l → ⊥)
    → (excitation_left register delay pg ci cg l ≡ l)
    × ((excited_of register delay pg ci cg (length l)).register ≡ register))

-- what is answered and written goes by the register, the delay and the indices alone, whatever a buffer of sixty held
unfoldable pub ByIndicesAlone : Type 0
ByIndicesAlone =
    (register : Register) (delay pg ci cg : ℕ) (l m : List ℤ) → length l ≡ 60 → length m ≡ 60
    → (excited_of register delay pg ci cg (length l) ≡ excited_of register delay pg ci cg (length m))
    × (Accepted delay pg ci cg l
    → excitation_left register delay pg ci cg l ≡ excitation_left register delay pg ci cg m)

-- with a register of zeros, as it is at first, the excitation is CG times the ternary code, held
unfoldable pub SilentIsCode : Type 0
SilentIsCode =
    (delay pg ci cg t : ℕ) (l : List ℤ) → Accepted delay pg ci cg l → t < 60
    → get_or (excitation_left silent_register delay pg ci cg l) t (pos 0)
    ≡ held_of (get_or cg_table cg (pos 0) *ℤ get_or (code_of ci) t (pos 0))
