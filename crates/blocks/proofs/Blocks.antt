-- The returns of `block_at`, and what a block at a place says of the bytes there.
-- Assumes nothing.
use mathlib.Core.Path.{◌≡◌, ◌∙◌, sym, refl, ap}
use mathlib.Core.Bool.{Bool, true, false}
use mathlib.Core.List.{List, [], ◌∷◌}
use Prim.Native.Nat.{ℕ, ◌+◌, ◌%◌, ◌<◌, ◌≤◌}
use native.Mathlib.Omega.{arith}
use borrow.Author.Tests.{le-leb, lt-leb, lt-ltb, le-ltb, eq-eqb, ne_eqb, leb-true, eqb-true, ltb-true}
use lib.Dec.{eqb, leb, ltb}
use lib.ListN.{length, get_or}
use Rattle.std.specs.Int.{w16, w32, from_le_bytes}
use Rattle.std.specs.Prelude.{Result, Ok, Err}
use Rattle.laws.specs.Bytes.{pair_at, word_at}
use Rattle.laws.specs.Table.{both}
use Rattle.laws.specs.Unless.{unless}
use Rattle.laws.proofs.Chosen.{chosen}
use Rattle.blocks.specs.Blocks.{size_at, kind_at, right_size, heading_at, of_kind, block_at}
use Rattle.blocks.specs.declared.Cause.{Cause}
use Rattle.blocks.specs.declared.Cause.TheVariants.{HeaderCut, PastEnd, WrongSize, UnknownKind, EndMissing}
use Rattle.blocks.specs.declared.Heading.{Heading}
use Rattle.blocks.specs.declared.Block.{Block}
use Rattle.blocks.specs.declared.Block.TheVariants.{Head, Voice, End}

-- two bytes read one by one are the number in them
pub pair_of : (s : List ℕ) (at : ℕ) → from_le_bytes w16 (get_or s at 0 ∷ get_or s (at + 1) 0 ∷ []) ≡ pair_at s at
unfolding pair_at
pair_of s at = omega arith

-- and four
pub word_of : (s : List ℕ) (at : ℕ)
    → from_le_bytes w32 (get_or s at 0 ∷ get_or s (at + 1) 0 ∷ get_or s (at + 2) 0 ∷ get_or s (at + 3) 0 ∷ [])
    ≡ word_at s at
unfolding word_at
word_of s at = omega arith

-- the size that is right for each kind
module _ (kind size : ℕ) where
  -- a head's is 8
  pub right_head : kind ≡ 1 → eqb size 8 ≡ right_size kind size
  unfolding right_size
  right_head k = rw k

  -- a voice block's is positive and a multiple of 18
  pub right_voice : kind ≡ 2 → both (ltb 0 size) (eqb (size % 18) 0) ≡ right_size kind size
  unfolding right_size
  right_voice k = rw k

  -- so none of an empty voice block
  pub right_empty : kind ≡ 2 → size ≡ 0 → false ≡ right_size kind size
  right_empty k z = ap (λ (b : Bool). both b (eqb (size % 18) 0)) (sym (le-ltb 0 size (omega arith))) ∙ right_voice k

  -- and of one that is not, where it is a multiple of 18
  pub right_some : kind ≡ 2 → (size ≡ 0 → ⊥) → eqb (size % 18) 0 ≡ right_size kind size
  right_some k z =
      ap (λ (b : Bool). both b (eqb (size % 18) 0)) (sym (lt-ltb 0 size (omega (arith, z)))) ∙ right_voice k

  -- an end's is 4
  pub right_end : kind ≡ 3 → eqb size 4 ≡ right_size kind size
  unfolding right_size
  right_end k = rw k

  -- another kind has no wrong size
  pub right_other : (kind ≡ 1 → ⊥) → (kind ≡ 2 → ⊥) → (kind ≡ 3 → ⊥) → true ≡ right_size kind size
  unfolding right_size
  right_other n o m = rw (ne_eqb kind 1 n, ne_eqb kind 2 o, ne_eqb kind 3 m)

  -- so of a size that is right: a head's is 8, the end's 4, a voice block's a positive multiple of 18
  pub head_size : right_size kind size ≡ true → kind ≡ 1 → size ≡ 8
  head_size r k = eqb-true size 8 (right_head k ∙ r)

  -- an end's is 4
  pub end_size : right_size kind size ≡ true → kind ≡ 3 → size ≡ 4
  end_size r k = eqb-true size 4 (right_end k ∙ r)

  -- a voice block's is positive and a multiple of 18
  pub voice_size : right_size kind size ≡ true → kind ≡ 2 → (0 < size) × (size % 18 ≡ 0)
  voice_size r k = go (ltb 0 size) (eqb (size % 18) 0) refl refl (right_voice k ∙ r)
    where
      go : (a b : Bool) → ltb 0 size ≡ a → eqb (size % 18) 0 ≡ b → both a b ≡ true → (0 < size) × (size % 18 ≡ 0)
      go true true p q t = (ltb-true 0 size p, eqb-true (size % 18) 0 q)
      go true false p q t = absurd (let z : ◌≡◌ {A = ℕ} 0 1 = cc in omega arith)
      go false b p q t = absurd (let z : ◌≡◌ {A = ℕ} 0 1 = cc in omega arith)

-- where no whole block stands: nothing is left, the header is cut, or the payload runs past the end
module _ (s : List ℕ) (at : ℕ) where
  -- no byte at the place
  pub nothing_left : length s ≤ at → Err (EndMissing (length s)) ≡ block_at s at
  unfolding block_at
  nothing_left h = rw (le-ltb at (length s) h)

  -- fewer bytes than a header
  pub header_cut : at < length s → length s < at + 6 → Err (HeaderCut at) ≡ block_at s at
  unfolding block_at
  header_cut h c = rw (lt-ltb at (length s) h, lt-leb (at + 6) (length s) c)

  -- a payload that runs past the end
  pub past_end : at + 6 ≤ length s → length s < at + 6 + size_at s at → Err (PastEnd at) ≡ block_at s at
  unfolding block_at
  past_end h l =
      rw (
        lt-ltb at (length s) (omega arith),
        le-leb (at + 6) (length s) h,
        lt-leb (at + 6 + word_at s at) (length s)
            l,
      )

-- where it is whole: a size that is wrong for its kind, or what stands there by its kind
module _ (s : List ℕ) (at size kind : ℕ) (sized : size ≡ word_at s at) (kinded : kind ≡ pair_at s (at + 4))
    (fits : at + 6 + size ≤ length s) where
  whole : block_at s at ≡ unless (right_size kind size) (Err (WrongSize at size)) (of_kind s at kind)
  unfolding block_at
  whole =
      rw (
        lt-ltb at (length s) (omega arith),
        le-leb (at + 6) (length s) (omega arith),
        le-leb (at + 6 + word_at s at) (length s) (omega (arith, sized)),
        sized,
        kinded,
      )

  -- a size that is wrong for the kind
  pub wrong_size : right_size kind size ≡ false → Err (WrongSize at size) ≡ block_at s at
  wrong_size r = rw (whole, r)

  module _ (right : right_size kind size ≡ true) where
    by_kind : block_at s at ≡ of_kind s at kind
    by_kind = whole ∙ ap (λ (b : Bool). unless b (Err (WrongSize at size)) (of_kind s at kind)) right

    -- a head
    pub head : kind ≡ 1 → (h : Heading) → h ≡ heading_at s at → Ok (Head h) ≡ block_at s at
    head k h e = rw (by_kind, eq-eqb kind 1 k, e)

    -- a voice block
    pub voice : (kind ≡ 1 → ⊥) → kind ≡ 2 → Ok (Voice size) ≡ block_at s at
    voice n k = rw (by_kind, ne_eqb kind 1 n, eq-eqb kind 2 k, sized)

    -- an end
    pub end : (kind ≡ 1 → ⊥) → (kind ≡ 2 → ⊥) → kind ≡ 3 → (told : ℕ) → told ≡ word_at s (at + 6)
        → Ok (End told) ≡ block_at s at
    end n o k told e = rw (by_kind, ne_eqb kind 1 n, ne_eqb kind 2 o, eq-eqb kind 3 k, e)

    -- a kind that is none of the three
    pub unknown_kind : (kind ≡ 1 → ⊥) → (kind ≡ 2 → ⊥) → (kind ≡ 3 → ⊥) → Err (UnknownKind at) ≡ block_at s at
    unknown_kind n o m = rw (by_kind, ne_eqb kind 1 n, ne_eqb kind 2 o, ne_eqb kind 3 m)

-- what a block tells of the bytes that it stands in
pub record Bounds (s : List ℕ) (at size kind : ℕ) : Type 0 where
  pub fits : at + 6 + size ≤ length s
  pub sized : size_at s at ≡ size
  pub kinded : kind_at s at ≡ kind

-- a block that is not broken, taken apart: which kind it is, how long, and what it holds
abbrev Held : List ℕ → ℕ → Result Block Cause → Type 0
Held s at (Ok (Head heading)) = Bounds s at 8 1 × (heading ≡ heading_at s at)
Held s at (Ok (Voice size)) = Bounds s at size 2 × (0 < size) × (size % 18 ≡ 0)
Held s at (Ok (End told)) = Bounds s at 4 3 × (told ≡ word_at s (at + 6))
Held s at (Err cause) = Unit

-- so it is of whatever stands at a place
held : (s : List ℕ) (at : ℕ) → Held s at (block_at s at)
unfolding block_at
held s at =
    chosen (Held s at) (ltb at (length s)) (λ a.
    chosen (Held s at) (leb (at + 6) (length s)) (λ b.
    chosen (Held s at) (leb (at + 6 + size_at s at) (length s)) (λ c.
    chosen (Held s at) (right_size (kind_at s at) (size_at s at)) (λ r.
    by_kind (leb-true (at + 6 + size_at s at) (length s) c) r)
    (λ r. tt)) (λ c. tt)) (λ b. tt)) (λ a. tt)
  where
    bounds : (size kind : ℕ) → at + 6 + size_at s at ≤ length s → size_at s at ≡ size → kind_at s at ≡ kind
        → Bounds s at size kind
    bounds size kind f e k = record { fits = rw e at f; sized = e; kinded = k }

    by_kind : at + 6 + size_at s at ≤ length s → right_size (kind_at s at) (size_at s at) ≡ true
        → Held s at (of_kind s at (kind_at s at))
    by_kind f r =
        chosen (Held s at) (eqb (kind_at s at) 1) (λ a.
        let k : kind_at s at ≡ 1 = eqb-true (kind_at s at) 1 a in
        (bounds 8 1 f (head_size (kind_at s at) (size_at s at) r k) k, refl))
        (λ a.
        chosen (Held s at) (eqb (kind_at s at) 2) (λ b.
        let k : kind_at s at ≡ 2 = eqb-true (kind_at s at) 2 b in
        let v = voice_size (kind_at s at) (size_at s at) r k in
        (bounds (size_at s at) 2 f refl k, v.0, v.1))
        (λ b.
        chosen (Held s at) (eqb (kind_at s at) 3) (λ c.
        let k : kind_at s at ≡ 3 = eqb-true (kind_at s at) 3 c in
        (bounds 4 3 f (end_size (kind_at s at) (size_at s at) r k) k, refl))
        (λ c. tt)))

module _ (s : List ℕ) (at : ℕ) where
  -- a head that is there
  pub head_held : (heading : Heading) → block_at s at ≡ Ok (Head heading) → Bounds s at 8 1 × (heading ≡ heading_at s at)
  head_held heading e = rw e at (held s at)

  -- a voice block that is there
  pub voice_held : (size : ℕ) → block_at s at ≡ Ok (Voice size) → Bounds s at size 2 × (0 < size) × (size % 18 ≡ 0)
  voice_held size e = rw e at (held s at)

  -- an end that is there
  pub end_held : (n : ℕ) → block_at s at ≡ Ok (End n) → Bounds s at 4 3 × (n ≡ word_at s (at + 6))
  end_held n e = rw e at (held s at)
