-- The loop of `nearest::nearest`.
-- Assumes nothing.
use Rattle.std.proofs.Common.{◌≡◌, ℕ, ◌<◌, ◌≤◌, List, ℤ, length, arith}
use Rattle.gains.specs.Nearest.{apart_at, nearest_of}
use Rattle.gains.proofs.Laws.{nearest_only}

-- the first i of n places are passed: best is one of the n and so far away, none passed is nearer, and each below best is
-- farther
pub record Passed (far : ℕ → ℕ) (n i best near : ℕ) : Type 0 where
  pub within : best < n
  pub away : near ≡ far best
  pub least : (k : ℕ) → k < i → near ≤ far k
  pub lowest : (k : ℕ) → k < best → near < far k

-- every place is passed
pub all_passed : (x : ℤ) (table : List ℤ) {i best near : ℕ} → length table ≤ i
    → Passed (apart_at table x) (length table) i best near → best ≡ nearest_of table x
all_passed x table {i} {best} {near} h p =
    nearest_only x table best
    (record {
      within = p.within;
      least = λ k a. let e = p.away in let l = p.least k (omega arith) in omega arith;
      lowest = λ k a. let e = p.away in let l = p.lowest k a in omega arith;
    })
