-- What is promised of the excitation of every subframe.
-- Assumes nothing.
use mathlib.Core.Path.{◌≡◌, ◌∙◌, sym, refl, ap, subst}
use mathlib.Core.List.{List, ◌++◌}
use Prim.Native.Nat.{ℕ, suc, ◌+◌, ◌-◌, ◌/◌, ◌%◌, ◌<◌, ◌≤◌}
use native.Mathlib.Omega.{arith}
use native.Mathlib.Nat.{mod-lt}
use lib.IntN.{ℤ, pos, negsuc, nat_abs}
use lib.ListN.{length, get_or}
use Rattle.laws.proofs.Tabulate.{get_d_tabulate}
use Rattle.std.specs.Prelude.{Ok, Err}
use Rattle.gains.specs.Tables.{cg_table, pg_table}
use Rattle.codebook.specs.Code.{code_of}
use Rattle.mixing.specs.Mixing.{element_of}
use Rattle.mixing.specs.Promised.{ElementIs, CodeAlone}
use Rattle.mixing.proofs.Laws.{element_is, element_within, code_alone}
use Rattle.excitation.specs.Register.{silent_register, element_at}
use Rattle.excitation.specs.Excitation.{adaptive_of, mixed_of, mixed_by, excitation_of}
use Rattle.excitation.specs.Outcome.{Outcome, outcome_of, register_moved, excited_of, excitation_left}
use Rattle.excitation.specs.Promised.{Accepted, position, ElementsAre, WithinRegister, ElementsWithin}
use Rattle.excitation.specs.Promised.{RegisterMoves, SixtyOrNone, ByIndicesAlone, SilentIsCode}
use Rattle.excitation.specs.declared.Register.{Register}
use Rattle.excitation.proofs.Periods.{code_at, position_is}
use Rattle.excitation.proofs.Shifts.{length_moved, moved_element}
use Rattle.excitation.proofs.Outcomes.{fitting, answered, stays, written_sixty}

-- element t of an excitation, by the adaptive element at its position
pub excited_element : (register : List ℤ) (delay pg ci cg t : ℕ) → t < 60
    → get_or (excitation_of register delay pg ci cg) t (pos 0)
    ≡ element_of (get_or cg_table cg (pos 0)) (get_or (code_of ci) t (pos 0)) (get_or pg_table pg (pos 0))
    (element_at register (position delay t))
unfolding excitation_of mixed_by mixed_of adaptive_of
excited_element register delay pg ci cg t h =
    get_d_tabulate _ (pos 0) 60 t h
    ∙ ap (element_of (get_or cg_table cg (pos 0)) (get_or (code_of ci) t (pos 0)) (get_or pg_table pg (pos 0)))
    (get_d_tabulate (code_at register (delay / 12)) (pos 0) 60 t h)

module _ (register : Register) (delay pg ci cg : ℕ) (l : List ℤ) (a : Accepted delay pg ci cg l) where
  -- what is written
  left_is : excitation_left register delay pg ci cg l ≡ excitation_of register.elements delay pg ci cg
  left_is = sym (answered register delay pg ci cg l (sym a) refl refl).out_after

  -- and the register after
  after_is : (excited_of register delay pg ci cg (length l)).register ≡ register_moved register delay pg ci cg
  after_is = sym (answered register delay pg ci cg l (sym a) refl refl).register_after

  left_element : (t : ℕ) → t < 60
      → get_or (excitation_left register delay pg ci cg l) t (pos 0)
      ≡ element_of (get_or cg_table cg (pos 0)) (get_or (code_of ci) t (pos 0)) (get_or pg_table pg (pos 0))
      (element_at register.elements (position delay t))
  left_element t h =
      ap (λ (m : List ℤ). get_or m t (pos 0)) left_is ∙ excited_element register.elements delay pg ci cg t h

pub elements_are : ElementsAre
unfolding ElementsAre ElementIs
elements_are register delay pg ci cg t l whole a h p =
    left_element register delay pg ci cg l a t h ∙ element_is _ _ _ _ whole p

pub elements_within : ElementsWithin
unfolding ElementsWithin
elements_within register delay pg ci cg t l a h =
    subst (λ (z : ℤ). nat_abs z ≤ 1000000) (sym (left_element register delay pg ci cg l a t h)) (element_within _ _ _ _)

pub within_register : WithinRegister
unfolding WithinRegister
within_register delay pg ci cg t l a =
    let f = fitting delay pg ci cg a in
    let d = delay / 12 in
    let m : t % d < d = mod-lt t (omega (arith, f.from_twenty)) in
    (d - suc (t % d), omega (arith, m, f.upto_last), position_is d (t % d) m)

pub register_moves : RegisterMoves
unfolding RegisterMoves register_moved
register_moves register delay pg ci cg l e a =
    let new = excitation_of register.elements delay pg ci cg in
    let after = after_is register delay pg ci cg l a in
    let long : length new ≡ 60 = written_sixty register delay pg ci cg a ∙ (fitting delay pg ci cg a).sixty in (
      ap (λ (x : Register). length x.elements) after ∙ length_moved register.elements new e long,
      λ i h. ap (λ (x : Register). get_or x.elements i (pos 0)) after ∙ moved_element register.elements new i
          ∙ ap (λ (m : List ℤ). get_or (register.elements ++ m) (i + 60) (pos 0))
          (sym (left_is register delay pg ci cg l a)),
    )

pub sixty_or_none : SixtyOrNone
unfolding SixtyOrNone
sixty_or_none register delay pg ci cg l = (sixty, none)
  where
    sixty : Accepted delay pg ci cg l → length (excitation_left register delay pg ci cg l) ≡ 60
    sixty a =
        ap length (left_is register delay pg ci cg l a) ∙ written_sixty register delay pg ci cg a
        ∙ (fitting delay pg ci cg a).sixty

    stayed : (o : Outcome) → outcome_of (length l) delay pg ci cg ≡ o → (Accepted delay pg ci cg l → ⊥)
        → (excitation_left register delay pg ci cg l ≡ l)
        × ((excited_of register delay pg ci cg (length l)).register ≡ register)
    stayed (Ok u) e n = absurd (n e)
    stayed (Err r) e n = let s = stays register delay pg ci cg l (sym e) in (sym s.out_after, sym s.register_after)

    none : (Accepted delay pg ci cg l → ⊥)
        → (excitation_left register delay pg ci cg l ≡ l)
        × ((excited_of register delay pg ci cg (length l)).register ≡ register)
    none n = stayed (outcome_of (length l) delay pg ci cg) refl n

pub by_indices_alone : ByIndicesAlone
unfolding ByIndicesAlone
by_indices_alone register delay pg ci cg l m e f =
    let same : length l ≡ length m = e ∙ sym f in (
      ap (excited_of register delay pg ci cg) same,
      λ a. left_is register delay pg ci cg l a
          ∙ sym (left_is register delay pg ci cg m (ap (λ (n : ℕ). outcome_of n delay pg ci cg) (sym same) ∙ a)),
    )

-- every element of the silent register is 0
silent_element : (z : ℤ) → element_at silent_register.elements z ≡ pos 0
unfolding silent_register
silent_element (pos n) = refl
silent_element (negsuc k) = get_d_tabulate (λ (m : ℕ). pos 0) (pos 0) 147 (146 - k) (omega arith)

pub silent_is_code : SilentIsCode
unfolding SilentIsCode CodeAlone
silent_is_code delay pg ci cg t l a h =
    left_element silent_register delay pg ci cg l a t h
    ∙ ap (element_of (get_or cg_table cg (pos 0)) (get_or (code_of ci) t (pos 0)) (get_or pg_table pg (pos 0)))
    (silent_element (position delay t))
    ∙ code_alone (get_or cg_table cg (pos 0)) (get_or (code_of ci) t (pos 0)) (get_or pg_table pg (pos 0))

-- the buffer keeps its length, whatever the outcome
pub left_length : (register : Register) (delay pg ci cg : ℕ) (l : List ℤ)
    → length (excitation_left register delay pg ci cg l) ≡ length l
left_length register delay pg ci cg l = go (outcome_of (length l) delay pg ci cg) refl
  where
    go : (o : Outcome) → outcome_of (length l) delay pg ci cg ≡ o
        → length (excitation_left register delay pg ci cg l) ≡ length l
    go (Ok u) e = ap length (left_is register delay pg ci cg l e) ∙ written_sixty register delay pg ci cg e
    go (Err r) e = ap length (sym (stays register delay pg ci cg l (sym e)).out_after)
