use mathlib.Core.Path.{◌≡◌, ◌∙◌, sym, ap, refl}
use mathlib.Core.List.{List}
use Prim.Native.Nat.{ℕ}
use native.Mathlib.Omega.{arith}
use Rattle.std.specs.Prelude.{Err}
use Rattle.blocks.specs.declared.Cause.{Cause}
use Rattle.blocks.specs.declared.Cause.TheVariants.{TooLong, HeaderCut, PastEnd, WrongSize, UnknownKind}
use Rattle.blocks.specs.declared.Cause.TheVariants.{OutOfTurn, EndMissing, WrongCount, Extra}
use Rattle.kept.specs.Keeping.{left_by}
use Rattle.kept.proofs.Keeps.{past_end_at}
use Rattle.kept.proofs.left_by.Goals as goal

-- any other refusal leaves none
none_left : (s : List ℕ) (cause : Cause) → ((at : ℕ) → cause ≡ PastEnd at → ⊥) → 0 ≡ left_by s cause
none_left s TooLong n = refl
none_left s (HeaderCut p) n = refl
none_left s (PastEnd p) n = absurd (n p refl)
none_left s (WrongSize p size) n = refl
none_left s (UnknownKind p) n = refl
none_left s (OutOfTurn p) n = refl
none_left s (EndMissing p) n = refl
none_left s (WrongCount p) n = refl
none_left s (Extra p) n = refl

pub left_in-requires : goal.left_in-requires
left_in-requires c =
    let p = past_end_at _ _ c.requires.s_len_bound (c.requires.s_value ∙ ap Err c.in-PastEnd.is) in
    record { at_in_bounds = omega (arith, p.0, p.1); s_len_bound = c.requires.s_len_bound }

pub returns-in-PastEnd : goal.returns-in-PastEnd
returns-in-PastEnd c = c.left_in.ensures ∙ ap (left_by _) (sym c.in-PastEnd.is)

pub returns-in_default : goal.returns-in_default
returns-in_default c = none_left _ _ c.in_default.not-PastEnd
