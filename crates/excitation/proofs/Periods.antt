-- The turns of `adaptive`: the last d elements of the register, and from then on those of d places before.
-- Assumes nothing.
use mathlib.Core.Path.{◌≡◌, ◌∙◌, sym, ap}
use mathlib.Core.List.{List}
use Prim.Native.Nat.{ℕ, zero, suc, ◌+◌, ◌-◌, ◌%◌, ◌<◌, ◌≤◌}
use native.Mathlib.Omega.{arith}
use native.Mathlib.Nat.{mod-eq_of_lt, mod-eq-sub-mod}
use borrow.Author.Tests.{lt-ltb}
use lib.IntN.{ℤ, pos, negsuc, neg_ℤ, ◌+ℤ◌}
use lib.ListN.{length, get_or, set}
use Rattle.laws.proofs.Tabulate.{length_tabulate}
use Rattle.laws.proofs.Filled.{Filled, filled_none, filled_more, filled_done}
use Rattle.excitation.specs.Register.{element_at}
use Rattle.excitation.specs.Excitation.{adaptive_of}

-- element t of the adaptive code
abbrev pub code_at : List ℤ → ℕ → ℕ → ℤ
code_at register d t = element_at register (neg_ℤ (pos d) +ℤ pos (t % d))

-- a position before the newest
pub position_is : (d m : ℕ) → m < d → neg_ℤ (pos d) +ℤ pos m ≡ negsuc (d - suc m)
position_is zero m h = absurd (omega arith)
position_is (suc d) m h = rw (lt-ltb m (suc d) h)

-- the first t elements are there
pub record Coded (register : List ℤ) (d t : ℕ) (out : List ℤ) : Type 0 where
  pub filled : Filled (pos 0) (code_at register d) 60 t out

-- before the first turn none is
pub coded_none : (register : List ℤ) (d : ℕ) {out : List ℤ} → length out ≡ 60 → Coded register d 0 out
coded_none register d {out} e = record { filled = filled_none _ _ _ out e }

module _ {register : List ℤ} {d t : ℕ} {out : List ℤ} (v : ℤ) (p : Coded register d t out) (h : t < 60) where
  -- of the first d elements each stands in the register
  pub coded_first : d ≤ 147 → t < d → v ≡ get_or register (147 - d + t) (pos 0) → Coded register d (t + 1) (set out t v)
  coded_first l s e =
      let place : 147 - d + t ≡ 146 - (d - suc t) = omega arith in
      record {
        filled =
            filled_more _ _ _ t out v p.filled h
            (e ∙ ap (λ (k : ℕ). get_or register k (pos 0)) place ∙ sym (ap (element_at register) (position_is d t s))
            ∙ ap (λ (k : ℕ). element_at register (neg_ℤ (pos d) +ℤ pos k)) (sym (mod-eq_of_lt s)));
      }

  -- and each later one d places before
  pub coded_later : 1 ≤ d → d ≤ t → v ≡ get_or out (t - d) (pos 0) → Coded register d (t + 1) (set out t v)
  coded_later l s e =
      record {
        filled =
            filled_more _ _ _ t out v p.filled h
            (e ∙ p.filled.here (t - d) (omega arith)
            ∙ ap (λ (k : ℕ). element_at register (neg_ℤ (pos d) +ℤ pos k)) (sym (mod-eq-sub-mod s)));
      }

-- after the last turn all are
pub coded_all : {register : List ℤ} {d t : ℕ} {out : List ℤ} → Coded register d t out → 60 ≤ t
    → out ≡ adaptive_of register d
unfolding adaptive_of
coded_all {out = out} p h = filled_done _ _ _ out h p.filled

-- sixty elements are read
pub adaptive_sixty : (register : List ℤ) (d : ℕ) → length (adaptive_of register d) ≡ 60
unfolding adaptive_of
adaptive_sixty register d = length_tabulate _ 60
