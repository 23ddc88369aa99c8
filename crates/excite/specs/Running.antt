-- The register that runs on through a recording (document 02, K6): from subframe to subframe, from frame to frame and
-- from voice block to voice block.
use Rattle.std.specs.Prelude.{cond, List, ℕ, zero, suc, ◌+◌, ◌*◌, eqb, get_or}
use Rattle.values.specs.Outcome.{refusal_of}
use Rattle.values.specs.Values.{fresh_state}
use Rattle.passes.specs.Pass.{frame_heard}
use Rattle.passes.specs.declared.Hearing.{Hearing}
use Rattle.excitation.specs.Register.{silent_register}
use Rattle.excitation.specs.Outcome.{excited_of}
use Rattle.excitation.specs.declared.Register.{Register}

-- after the first n subframes of a frame, by their delays and the four indices of each
unfoldable pub subframes_after : List ℕ → List ℕ → Register → ℕ → Register
subframes_after delays indices register zero = register
subframes_after delays indices register (suc n) =
    (excited_of (subframes_after delays indices register n) (get_or delays n 0) (get_or indices (4 * n + 1) 0)
    (get_or indices (4 * n + 2) 0) (get_or indices (4 * n + 3) 0) 60).register

-- after a frame: after its four subframes, or as it was where the frame is refused
unfoldable pub frame_after : Hearing → Register → Register
frame_after h register =
    cond (eqb (refusal_of h.values.outcome) 0)
    (subframes_after h.values.delays h.reading.indices.subframes register 4) register

-- after the first k frames of a recording, from a fresh state and a silent register on
unfoldable pub register_after : List (List ℕ) → ℕ → Register
register_after frames zero = silent_register
register_after frames (suc k) = frame_after (frame_heard fresh_state frames (suc k)) (register_after frames k)
