-- Two lists joined: what stands in the second.
-- Assumes nothing.
use mathlib.Core.Path.{◌≡◌, subst}
use mathlib.Core.List.{List, ◌++◌}
use Prim.Native.Nat.{ℕ, ◌+◌, ◌-◌, ◌≤◌}
use native.Mathlib.Omega.{arith}
use lib.ListN.{length, get_or}
use lib.Seq.{get_or-append-add}

-- from the first list's length on stands the second
pub getD_second : {A : Type 0} (s t : List A) (k : ℕ) (d : A) → length s ≤ k
    → get_or (s ++ t) k d ≡ get_or t (k - length s) d
getD_second s t k d h =
    let e : length s + (k - length s) ≡ k = omega arith in
    subst (λ (m : ℕ). get_or (s ++ t) m d ≡ get_or t (k - length s) d) e (get_or-append-add s t (k - length s) d)
