-- The adaptive code (3.5.1), and the mixing of the two codes by their gains (3.4, 3.6; document 02, K6).
use Rattle.std.specs.Prelude.{List, ℕ, ◌/◌, ◌%◌, ℤ, pos, neg_ℤ, ◌+ℤ◌, get_or}
use Rattle.laws.specs.Tabulate.{tabulate}
use Rattle.gains.specs.Tables.{cg_table, pg_table}
use Rattle.codebook.specs.Code.{code_of}
use Rattle.mixing.specs.Mixing.{element_of}
use Rattle.excitation.specs.Register.{element_at}

-- the adaptive code for whole delay d (3.5.1): element t is register element -d + (t mod d)
unfoldable pub adaptive_of : List ℤ → ℕ → List ℤ
adaptive_of register d = tabulate (λ t. element_at register (neg_ℤ (pos d) +ℤ pos (t % d))) 60

-- two codes mixed by their gains: each element from the element of either at its place
unfoldable pub mixed_of : ℤ → List ℤ → ℤ → List ℤ → List ℤ
mixed_of cg code pg adaptive = tabulate (λ t. element_of cg (get_or code t (pos 0)) pg (get_or adaptive t (pos 0))) 60

-- the same by the indices of the gains and of the ternary code
unfoldable pub mixed_by : ℕ → ℕ → ℕ → List ℤ → List ℤ
mixed_by pg ci cg adaptive = mixed_of (get_or cg_table cg (pos 0)) (code_of ci) (get_or pg_table pg (pos 0)) adaptive

-- the excitation for a delay in twelfths and the indices PG, CI and CG
unfoldable pub excitation_of : List ℤ → ℕ → ℕ → ℕ → ℕ → List ℤ
excitation_of register delay pg ci cg = mixed_by pg ci cg (adaptive_of register (delay / 12))
