-- The loop over the frames: their lines one after the other, and then the last line with what was counted.
-- Assumes nothing.
use mathlib.Core.Path.{◌≡◌, ◌∙◌, sym, refl, ap, ap₂}
use mathlib.Core.List.{List, [], ◌++◌}
use Prim.Native.Nat.{ℕ, suc, ◌≤◌}
use native.Mathlib.Omega.{arith}
use lib.ListN.{length, get_or}
use Rattle.values.specs.Outcome as values
use Rattle.values.specs.declared.State.{State}
use Rattle.blocks.specs.Frames.{frames_of}
use Rattle.passes.specs.Pass.{frame_heard, start_of, next_of}
use Rattle.passes.specs.declared.Counts.{Counts}
use Rattle.passes.specs.declared.Hearing.{Hearing}
use Rattle.passes.specs.declared.Pass.{Pass}
use Rattle.passes.specs.declared.Step.{Step}
use Rattle.passes.proofs.Passes.{Passing}
use Rattle.passes.proofs.Through.{none_passed, on_its_way, step_hears, step_further, step_ended, all_counted}
use Rattle.text.proofs.Laid.{Put, put_as, put_nothing, put_then}
use Rattle.lines.specs.Lines.{line_of}
use Rattle.lines.specs.declared.Line.TheVariants as Line
use Rattle.lines.specs.declared.Said.{Said}
use Rattle.listing.specs.Listing.{said_of, frame_of, last_of, lines_to, body_of}

-- the pass is on its way, and the lines of the frames that it passed are laid
pub record Listing (before : State) (s o : List ℕ) (start : ℕ) (o' : List ℕ) (end : ℕ) (p : Pass) : Type 0 where
  pub passing : Passing before s p
  pub put : Put o start (lines_to before (frames_of s) p.frames) end o'

-- what is said of frame n by the refusal that was asked for
abbrev said_by : ℕ → Hearing → ℕ → Said
said_by n h refusal =
    record {
      number = n;
      correction = h.reading.correction;
      refusal = refusal;
      mark = h.reading.mark;
      sy = h.reading.indices.sy;
      first = get_or h.values.delays 0 0;
      second = get_or h.values.delays 1 0;
      third = get_or h.values.delays 2 0;
      fourth = get_or h.values.delays 3 0;
    }

-- the return of `said`
pub said_of_lem : (n : ℕ) (h : Hearing) {refusal : ℕ} → refusal ≡ values.refusal_of h.values.outcome
    → said_by n h refusal ≡ said_of n h
said_of_lem n h p = λ i. said_by n h (p i)

-- no line
lines_none : (before : State) (frames : List (List ℕ)) → [] ≡ lines_to before frames 0
unfolding lines_to
lines_none before frames = refl

-- the lines of one frame more
lines_more : (before : State) (frames : List (List ℕ)) (k : ℕ)
    → lines_to before frames k ++ frame_of (suc k) (frame_heard before frames (suc k))
    ≡ lines_to before frames (suc k)
unfolding lines_to
lines_more before frames k = refl

-- before the first frame nothing of the body is laid
pub listing_start : (before : State) (s o : List ℕ) (start : ℕ) {p : Pass} → p ≡ start_of before s → start ≤ length o
    → Listing before s o start o start p
listing_start before s o start {p} is h =
    let z = ap (λ (x : Pass). x.frames) is ∙ none_passed before s in
    record {
      passing = on_its_way before s is;
      put =
          put_as o start [] (lines_to before (frames_of s) p.frames)
          (lines_none before (frames_of s) ∙ ap (lines_to before (frames_of s)) (sym z))
          (put_nothing o start (omega arith));
    }

module _ {before : State} {s o : List ℕ} {start : ℕ} {o' : List ℕ} {end : ℕ} {p : Pass}
    (l : Listing before s o start o' end p)
    {t : Step} (is : t ≡ next_of s p) {o'' : List ℕ} {end' : ℕ} where
  -- a frame was passed, and its line follows
  pub listing_on : (t.pass.frames ≡ p.frames → ⊥) → {x : Said} → x ≡ said_of t.pass.frames t.hearing
      → Put o' end (line_of (Line.Frame x)) end' o''
      → Listing before s o start o'' end' t.pass
  listing_on w {x} said q =
      let f = step_further l.passing is w in
      record {
        passing = f.passing;
        put =
            put_as o start (lines_to before (frames_of s) p.frames ++ line_of (Line.Frame x))
            (lines_to before (frames_of s) t.pass.frames)
            (ap (λ (y : Said). lines_to before (frames_of s) p.frames ++ line_of (Line.Frame y)) said
            ∙ ap₂ (λ (n : ℕ) (h : Hearing). lines_to before (frames_of s) p.frames ++ frame_of n h) f.one
            (step_hears l.passing is)
            ∙ lines_more before (frames_of s) p.frames ∙ ap (lines_to before (frames_of s)) (sym f.one))
            (put_then o start _ _ l.put q);
      }

  -- no frame is left: the last line follows
  pub listing_done : t.pass.frames ≡ p.frames → Put o' end (last_of p.counts) end' o''
      → Put o start (body_of before (frames_of s)) end' o''
  unfolding body_of
  listing_done w q =
      put_as o start (lines_to before (frames_of s) p.frames ++ last_of p.counts) (body_of before (frames_of s))
      (ap₂ (λ (n : ℕ) (c : Counts). lines_to before (frames_of s) n ++ last_of c) (step_ended l.passing is w)
      (all_counted l.passing is w))
      (put_then o start _ _ l.put q)
