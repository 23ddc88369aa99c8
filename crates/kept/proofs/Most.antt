-- How many frames fit: all, or all but one, since only the fresh end can be too much.
-- Assumes nothing.
use mathlib.Core.Path.{◌≡◌, ◌∙◌, sym, refl, ap, subst}
use mathlib.Core.Bool.{false}
use mathlib.Core.List.{List, [], ◌++◌}
use Prim.Native.Nat.{ℕ, zero, suc, ◌+◌, ◌*◌, ◌<◌, ◌≤◌}
use native.Mathlib.Omega.{arith}
use native.Mathlib.Decide.{ℕ_discrete, dec_le}
use borrow.Author.Tests.{le-leb, lt-leb, leb-true, leb-false}
use lib.Dec.{leb}
use lib.ListN.{length, length-append}
use Rattle.laws.proofs.Chosen.{chosen}
use Rattle.blocks.specs.Walk.{longest, after_head}
use Rattle.blocks.specs.Frames.{frames_in}
use Rattle.blocks.specs.Made.{head_block, voice_blocks, end_block, made}
use Rattle.blocks.specs.declared.Heading.{Heading}
use Rattle.blocks.proofs.Passed.{frames_in_none, frames_in_more, blocks_none, blocks_more}
use Rattle.kept.specs.Keeping.{first_frames, most_of}
use Rattle.kept.specs.Steps.{fewer_of}
use Rattle.kept.proofs.First.{Sized, none, more, first_none, first_all, first_less}

-- a head, voice blocks and an end are so long
pub made_long : (heading : Heading) (ps : List (List ℕ))
    → length (made heading ps) ≡ after_head 0 + length (voice_blocks ps) + 10
unfolding made
made_long heading ps =
    let a = length-append (head_block heading) (voice_blocks ps ++ end_block (length (frames_in ps))) in
    let b = length-append (voice_blocks ps) (end_block (length (frames_in ps))) in
    omega (arith, a, b)

-- blocks of whole frames take at least a byte a frame
pub blocks_least : (ps : List (List ℕ)) → Sized ps → length (frames_in ps) ≤ length (voice_blocks ps)
blocks_least _ none = omega (arith, frames_in_none)
blocks_least _ (more p ps a b z) =
    let r = blocks_least ps z in omega (arith, r, blocks_more p ps, frames_in_more p ps)

-- and at most 24
pub blocks_most : (ps : List (List ℕ)) → Sized ps → length (voice_blocks ps) ≤ 24 * length (frames_in ps)
blocks_most _ none = omega (arith, blocks_none)
blocks_most _ (more p ps a b z) =
    let r = blocks_most ps z in omega (arith, r, blocks_more p ps, frames_in_more p ps)

module _ (heading : Heading) (ps : List (List ℕ)) where
  -- at most so many as were asked for
  pub most_upto : (n : ℕ) → most_of heading ps n ≤ n
  unfolding most_of
  most_upto zero = omega arith
  most_upto (suc n) =
      chosen (λ (k : ℕ). k ≤ suc n) (leb (length (made heading (first_frames ps (suc n)))) longest) (λ t. omega arith)
      (λ t. let r = most_upto n in omega (arith, r))

  -- with those it fits
  pub most_fits : (n : ℕ) → length (made heading (first_frames ps (most_of heading ps n))) ≤ longest
  unfolding most_of
  most_fits zero =
      let e = ap (λ (x : List (List ℕ)). length (made heading x)) (first_none ps) in
      omega (arith, e, made_long heading [], blocks_none)
  most_fits (suc n) =
      chosen (λ (k : ℕ). length (made heading (first_frames ps k)) ≤ longest)
      (leb (length (made heading (first_frames ps (suc n)))) longest) (λ t. leb-true _ _ t) (λ t. most_fits n)

  -- with more of them the result would be too long
  pub most_more : (n k : ℕ) → most_of heading ps n < k → k ≤ n → longest < length (made heading (first_frames ps k))
  unfolding most_of
  most_more zero = λ k a b. absurd (omega arith)
  most_more (suc n) =
      chosen
      (λ (m : ℕ). (k : ℕ) → m < k → k ≤ suc n → longest < length (made heading (first_frames ps k)))
      (leb (length (made heading (first_frames ps (suc n)))) longest) (λ t k a b. absurd (omega arith))
      (λ t k a b. pick t k (λ c. most_more n k a c) b (ℕ_discrete k (suc n)))
    where
      pick : leb (length (made heading (first_frames ps (suc n)))) longest ≡ false → (k : ℕ)
          → (k ≤ n → longest < length (made heading (first_frames ps k)))
          → k ≤ suc n → Dec (k ≡ suc n) → longest < length (made heading (first_frames ps k))
      pick t k rest b (yes e) =
          subst (λ (j : ℕ). longest < length (made heading (first_frames ps j))) (sym e) (leb-false _ _ t)
      pick t k rest b (no e) = rest (omega (arith, e))

  module _ (sized : Sized ps) (room : after_head 0 + length (voice_blocks ps) ≤ longest) where
    -- the length of all
    whole_long : (n : ℕ) → length (frames_in ps) ≡ n
        → length (made heading (first_frames ps n)) ≡ after_head 0 + length (voice_blocks ps) + 10
    whole_long n e =
        ap (λ (x : List (List ℕ)). length (made heading x)) (first_all ps n sized (omega (arith, e)))
        ∙ made_long heading ps

    -- one less has room
    less_fits : (n : ℕ) → length (frames_in ps) ≡ suc n → most_of heading ps n ≡ n
    unfolding most_of
    less_fits zero e = refl
    less_fits (suc n) e =
        let l = first_less ps (suc n) sized (omega (arith, e)) in
        let m = made_long heading (first_frames ps (suc n)) in
        rw (le-leb (length (made heading (first_frames ps (suc n)))) longest (omega (arith, l, m, room)))

    -- so all fit, or all but one
    pub most_is : most_of heading ps (length (frames_in ps))
        ≡ fewer_of (after_head 0 + length (voice_blocks ps)) (length (frames_in ps))
    unfolding most_of
    most_is = go (length (frames_in ps)) refl (dec_le (after_head 0 + length (voice_blocks ps) + 10) longest)
      where
        go : (n : ℕ) → length (frames_in ps) ≡ n → Dec (after_head 0 + length (voice_blocks ps) + 10 ≤ longest)
            → most_of heading ps n ≡ fewer_of (after_head 0 + length (voice_blocks ps)) n
        go zero e (yes l) = rw (le-leb (after_head 0 + length (voice_blocks ps) + 10) longest l)
        go zero e (no l) = rw (lt-leb (after_head 0 + length (voice_blocks ps) + 10) longest (omega arith))
        go (suc n) e (yes l) =
            let w = whole_long (suc n) e in
            rw (
              le-leb (length (made heading (first_frames ps (suc n)))) longest (omega (arith, w)),
              le-leb (after_head 0 + length (voice_blocks ps) + 10) longest l,
            )
        go (suc n) e (no l) =
            let w = whole_long (suc n) e in
            rw (
              lt-leb (length (made heading (first_frames ps (suc n)))) longest (omega (arith, w)),
              lt-leb (after_head 0 + length (voice_blocks ps) + 10) longest (omega arith),
            ) (less_fits n e ∙ omega arith)

    -- where there is a frame one is kept
    pub most_some : 0 < length (frames_in ps) → 0 < most_of heading ps (length (frames_in ps))
    most_some l =
        let b = blocks_most ps sized in
        subst (λ (k : ℕ). 0 < k) (sym most_is)
        (chosen (λ (k : ℕ). 0 < k) (leb (after_head 0 + length (voice_blocks ps) + 10) longest) (λ t. l)
        (λ t.
        let m : longest < after_head 0 + length (voice_blocks ps) + 10 = leb-false _ _ t in omega (arith, m, b)))
