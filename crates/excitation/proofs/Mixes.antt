-- The turns of `mix`: each element of the adaptive code is replaced by the one that it is mixed to.
-- Assumes nothing.
use mathlib.Core.Path.{◌≡◌, ◌∙◌, refl, ap, ap₂}
use mathlib.Core.List.{List}
use Prim.Native.Nat.{ℕ, ◌+◌, ◌<◌, ◌≤◌}
use native.Mathlib.Omega.{arith}
use borrow.Author.Tests.{eq-eqb, le-leb}
use lib.IntN.{ℤ, pos}
use lib.ListN.{length, get_or, set}
use mir.Syntax.{w8, w32}
use mir.Val.{SFits}
use mir.Facts.{to_z-of_z}
use Rattle.laws.specs.Tabulate.{tabulate}
use Rattle.laws.proofs.Held.{held}
use Rattle.laws.proofs.Tabulate.{length_tabulate}
use Rattle.laws.proofs.Filled.{Changed, changed_none, changed_more, changed_all}
use Rattle.gains.specs.Tables.{cg_table, pg_table}
use Rattle.codebook.specs.Code.{code_of, code_left}
use Rattle.mixing.specs.Mixing.{element_of}
use Rattle.excitation.specs.Excitation.{mixed_of, mixed_by}

-- what an element at place t is mixed to
abbrev pub mixed_at : ℤ → List ℤ → ℤ → ℕ → ℤ → ℤ
mixed_at cg code pg t x = element_of cg (get_or code t (pos 0)) pg x

-- the first t elements are mixed
pub record Mixed (cg : ℤ) (code : List ℤ) (pg : ℤ) (o : List ℤ) (t : ℕ) (l : List ℤ) : Type 0 where
  pub changed : Changed (pos 0) (mixed_at cg code pg) o t l
  pub long : length o ≡ 60

-- before the first turn none is
pub mixed_none : (cg : ℤ) (code : List ℤ) (pg : ℤ) (o : List ℤ) → length o ≡ 60 → Mixed cg code pg o 0 o
mixed_none cg code pg o e = record { changed = changed_none _ _ o; long = e }

module _ {cg : ℤ} {code : List ℤ} {pg : ℤ} {o : List ℤ} {t : ℕ} {l : List ℤ} (p : Mixed cg code pg o t l) where
  -- the elements stay sixty
  pub mixed_long : length l ≡ 60
  mixed_long = p.changed.done.long ∙ p.long

  -- a turn mixes one more
  pub mixed_more : t < 60 → SFits w8 (get_or code t (pos 0)) → SFits w32 (get_or l t (pos 0)) → {r : ℤ} → SFits w32 r
      → r ≡ element_of cg (held w8 (get_or code t (pos 0))) pg (held w32 (get_or l t (pos 0)))
      → Mixed cg code pg o (t + 1) (set l t (held w32 r))
  mixed_more h f g k e =
      record {
        changed =
            changed_more _ _ o _ p.changed (omega (arith, p.long))
            (to_z-of_z k ∙ e ∙ ap₂ (λ (x y : ℤ). element_of cg x pg y) (to_z-of_z f) (to_z-of_z g));
        long = p.long;
      }

  -- after the last turn all are
  pub mixed_all : 60 ≤ t → l ≡ mixed_of cg code pg o
  unfolding mixed_of
  mixed_all h =
      changed_all _ _ o p.changed (omega (arith, p.long))
      ∙ ap (tabulate (λ (m : ℕ). mixed_at cg code pg m (get_or o m (pos 0)))) p.long

-- a code with an index that fits is written into sixty elements
pub code_written : (ci : ℕ) (l : List ℤ) {left : List ℤ} → ci ≤ 511 → length l ≡ 60 → left ≡ code_left ci l
    → left ≡ code_of ci
unfolding code_left
code_written ci l h e p = p ∙ rw (eq-eqb (length l) 60 e, le-leb ci 511 h) refl

-- mixed by the gains that were looked up and the code that was written
pub by_indices : (pg ci cg : ℕ) {stochastic past : ℤ} {code : List ℤ} → SFits w32 stochastic
    → stochastic ≡ get_or cg_table cg (pos 0) → SFits w32 past → past ≡ get_or pg_table pg (pos 0) → code ≡ code_of ci
    → (adaptive : List ℤ) → mixed_of (held w32 stochastic) code (held w32 past) adaptive ≡ mixed_by pg ci cg adaptive
unfolding mixed_by
by_indices pg ci cg {code = code} f d g e w adaptive =
    ap₂ (λ (x y : ℤ). mixed_of x code y adaptive) (to_z-of_z f ∙ d) (to_z-of_z g ∙ e)
    ∙ ap (λ (c : List ℤ). mixed_of (get_or cg_table cg (pos 0)) c (get_or pg_table pg (pos 0)) adaptive) w

-- sixty elements are mixed
pub mixed_sixty : (pg ci cg : ℕ) (adaptive : List ℤ) → length (mixed_by pg ci cg adaptive) ≡ 60
unfolding mixed_by mixed_of
mixed_sixty pg ci cg adaptive = length_tabulate _ 60
