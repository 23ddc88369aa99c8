-- What the steps of `planned` answer, from what a walk has passed.
use Rattle.std.specs.Prelude.{Bool, cond, ℕ, zero, suc, ◌+◌, ◌-◌, ◌*◌, leb, ltb, Result, Ok, Err}
use Rattle.kept.specs.declared.Unsalvaged.{Unsalvaged}
use Rattle.laws.specs.Unless.{unless}
use Rattle.blocks.specs.Walk.{longest}
use Rattle.blocks.specs.declared.Walk.{Walk}
use Rattle.kept.specs.declared.Keep.{Keep}
use Rattle.kept.specs.declared.Unsalvaged.TheVariants.{NoHead, NoFrame}

-- where a block of n frames at a place ends; no block stands where there are none
abbrev pub reach_of : ℕ → ℕ → ℕ
reach_of at zero = at
reach_of at (suc n) = at + 6 + 18 * suc n

-- as many of some frames as fit, where their blocks end there
abbrev pub fewer_of : ℕ → ℕ → ℕ
fewer_of reach frames = cond (leb (reach + 10) longest) frames (frames - 1)

-- past a walk, with so many frames left of the block at which it ends
abbrev pub frames_by : Walk → ℕ → ℕ
frames_by w left = fewer_of (reach_of w.at left) (w.frames + left)

abbrev pub keep_by : Walk → ℕ → Bool → Keep
keep_by w left sound =
    record {
      heading = w.heading;
      frames = frames_by w left;
      rest = frames_by w left - w.frames;
      at = w.at;
      sound = sound;
    }

abbrev pub plan_by : Walk → ℕ → Bool → Result Keep Unsalvaged
plan_by w left sound =
    unless w.headed (Err NoHead)
    (unless (ltb 0 (w.frames + left)) (Err NoFrame) (Ok (keep_by w left sound)))
