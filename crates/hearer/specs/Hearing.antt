-- What hearing a record answers in C, and what it leaves in the numbers that it is lent.
use Rattle.std.specs.Prelude.{is_some, unwrap_or, not, cond, List, [], ◌∷◌, ℕ, eqb, ℤ, pos, length, get_or, Option, None, Some}
use Rattle.laws.specs.Unless.{unless}
use Rattle.verdicts.specs.Verdicts.{refused}
use Rattle.pairs.specs.Pairs.{record_in}
use Rattle.values.specs.Outcome.{refusal_of}
use Rattle.values.specs.Values.{values_of}
use Rattle.values.specs.declared.State.{State}
use Rattle.values.specs.declared.Values.{Values}

-- a state in numbers: three of sync, whether a frame was heard, whether there was a last SY, and that SY, where 0 is no
-- and all else yes; and the ten LSPs
abbrev pub if_there : {A : Type 0} → ℕ → A → Option A
if_there there x = cond (eqb there 0) None (Some x)

abbrev pub state_in : List ℕ → List ℕ → State
state_in sync hz =
    record { hz = if_there (get_or sync 0 0) hz; last = if_there (get_or sync 1 0) (get_or sync 2 0) }

abbrev pub sync_by : ℕ → Option ℕ → List ℕ
sync_by begun None = begun ∷ 0 ∷ 0 ∷ []
sync_by begun (Some sy) = begun ∷ 1 ∷ sy ∷ []

abbrev pub sync_of : State → List ℕ
sync_of s = sync_by (cond (is_some s.hz) 1 0) s.last

-- of a state in which no frame was heard the ten LSPs stay as they are
abbrev pub hz_of : State → List ℕ → List ℕ
hz_of s hz = unwrap_or s.hz hz

-- what the record in some bytes says after such a state
unfoldable pub values_in : List ℕ → List ℕ → List ℕ → Values
values_in bytes sync hz = values_of (record_in bytes) (state_in sync hz)

-- the number of the refusal: 1 where the bytes are no record; 0 is none
unfoldable pub refusal_in : List ℕ → List ℕ → List ℕ → ℕ
refusal_in bytes sync hz = unless (eqb (length bytes) 56) 1 (refusal_of (values_in bytes sync hz).outcome)

-- the order mark, or minus the refusal
abbrev pub hear_result : ℕ → Values → ℤ
hear_result refusal values = unless (eqb refusal 0) (refused refusal) (pos values.mark)

-- the values after: the new ones, or after any refusal those that were there
abbrev pub if_heard : {A : Type 0} → ℕ → A → A → A
if_heard refusal new old = unless (eqb refusal 0) old new

-- the state after: after 1 and 2 the one that was there
abbrev pub if_kept : {A : Type 0} → ℕ → A → A → A
if_kept refusal new old = unless (not (eqb refusal 1)) old (unless (not (eqb refusal 2)) old new)
