-- What is counted of the frames of a recording (document 01, "Recordings"; document 02, K4 and K5). Both counts include
-- frames refused with 6.
use Rattle.std.specs.Prelude.{cond, List, [], ℕ, ◌+◌, ◌-◌, eqb, length, get_or, Option, None, Some}
use Rattle.laws.specs.Total.{total}
use Rattle.frame.specs.Answers.{reading_of}
use Rattle.frame.specs.declared.Correction.{Correction}
use Rattle.frame.specs.declared.Correction.TheVariants.{Clean, Parity, Data}
use Rattle.frame.specs.declared.Reading.{Reading}
use Rattle.values.specs.declared.State.{State}
use Rattle.passes.specs.declared.Counts.{Counts}

-- a repaired frame is one in which a data bit was inverted: "'Repaired' counts only `d` from now on" (document 02, K5,
-- in place of 01's correction number that isn't 0)
abbrev pub repair_of : Correction → ℕ
repair_of Clean = 0
repair_of (Parity n) = 0
repair_of (Data f i) = 1

abbrev pub repair_by : Reading → ℕ
repair_by r = repair_of r.correction

-- "A break is [..] a frame whose SY equals that of the frame before it, or a first frame whose SY is 1" (document 02,
-- K4, in place of 01's rule by the frame's number): the SY at which the next frame is one
abbrev pub breaks_at : Option ℕ → ℕ
breaks_at None = 1
breaks_at (Some sy) = sy

abbrev pub break_of : ℕ → ℕ → ℕ
break_of sy at = cond (eqb sy at) 1 0

-- a frame after the last SY
abbrev pub break_by : Option ℕ → Reading → ℕ
break_by last r = break_of r.indices.sy (breaks_at last)

-- counts with a frame counted too
abbrev pub counting_of : Counts → Correction → ℕ → ℕ → Counts
counting_of c correction sy at =
    record { repaired = c.repaired + repair_of correction; breaks = c.breaks + break_of sy at }

abbrev pub counting : Counts → Option ℕ → Reading → Counts
counting c last r = counting_of c r.correction r.indices.sy (breaks_at last)

-- frame n of a list of frames
abbrev pub frame_at : List (List ℕ) → ℕ → List ℕ
frame_at frames n = get_or frames (n - 1) []

-- the last SY before frame n, counted from 1: that of the frame before it, refused with 6 or not; before the first,
-- what the state says
abbrev pub last_before : State → List (List ℕ) → ℕ → Option ℕ
last_before before frames n = cond (eqb n 1) before.last (Some (reading_of (frame_at frames (n - 1))).indices.sy)

-- what frame n adds to the breaks
abbrev pub break_at : State → List (List ℕ) → ℕ → ℕ
break_at before frames n = break_by (last_before before frames n) (reading_of (frame_at frames n))

-- the counts of the first k frames after a state, and of all
unfoldable pub counts_to : State → List (List ℕ) → ℕ → Counts
counts_to before frames k =
    record {
      repaired = total (λ n. repair_by (reading_of (frame_at frames n))) k;
      breaks = total (break_at before frames) k;
    }

abbrev pub counts_of : State → List (List ℕ) → Counts
counts_of before frames = counts_to before frames (length frames)
