-- Bytes made as the format says are sound, and sound bytes are made so: from the laws of blocks.
-- Assumes nothing.
use mathlib.Core.Path.{◌≡◌, ◌∙◌, sym, ap, ap₂, subst}
use mathlib.Core.List.{List}
use Prim.Native.Nat.{ℕ}
use Rattle.std.specs.Prelude.{Ok}
use Rattle.values.specs.Values.{fresh_state}
use Rattle.blocks.specs.Frames.{payloads_of, frames_in, frames_of}
use Rattle.blocks.specs.Made.{MadeFrom}
use Rattle.blocks.specs.declared.Heading.{Heading}
use Rattle.blocks.specs.declared.Walk.{Walk}
use Rattle.blocks.specs.declared.Walked.{Walked}
use Rattle.blocks.proofs.Made.{made_is_walked, walked_is_made}
use Rattle.passes.specs.Counted.{counts_of}
use Rattle.recording.specs.Judged.{summary_of}
use Rattle.recording.specs.declared.Summary.{Summary}
use Rattle.promises.specs.Made.{MadeIsSound, SoundIsMade, NoTwo}
use Rattle.promises.proofs.Rule.{judged_sound, walked_judged}

pub made_is_sound : MadeIsSound
unfolding frames_of
made_is_sound s heading ps m =
    let e = made_is_walked s heading ps m in (
      walked_judged s (Ok tt) (ap (λ (w : Walked). w.ending) e.0)
          ∙ ap₂ (λ (w : Walk) (fs : List (List ℕ)). Ok (summary_of w (counts_of fresh_state fs)))
          (ap (λ (w : Walked). w.walk) e.0)
          (ap frames_in e.1),
      e.1,
    )

pub sound_is_made : SoundIsMade
sound_is_made s x small e =
    let j = judged_sound s x e in
    subst (λ (h : Heading). MadeFrom s h (payloads_of s)) (sym (ap (λ (y : Summary). y.heading) j.1))
    (walked_is_made s small j.0)

pub no_two : NoTwo
no_two s h k ps qs a b =
    let c = made_is_walked s h ps a in
    let d = made_is_walked s k qs b in
    (ap (λ (w : Walked). w.walk.heading) (sym c.0 ∙ d.0), sym c.1 ∙ d.1)
