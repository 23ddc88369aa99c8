-- Bytes made as the format says are walked through to a sound end, and what is walked through so is made so.
-- Assumes nothing.
use mathlib.Core.Path.{◌≡◌, ◌∙◌, sym, refl, ap, ap₂, subst}
use mathlib.Core.Bool.{true}
use mathlib.Core.List.{List, [], ◌∷◌, ◌++◌, append_assoc}
use Prim.Native.Nat.{ℕ, zero, suc, ◌+◌, ◌-◌, ◌*◌, ◌/◌, ◌%◌, ◌<◌, ◌≤◌}
use native.Mathlib.Omega.{arith}
use native.Mathlib.Nat.{zero-add, add-zero}
use native.Mathlib.Decide.{ℕ_discrete}
use borrow.Author.Tests.{eq-eqb}
use lib.ListN.{length, get_or, take, drop, length-append, length-drop, take-append-drop, drop_of_length-le}
use lib.Seq.{get_or-append-add, drop-append-add, take-append_seam, drop-cons, drop-drop, take-add, length-take-le}
use Rattle.std.specs.Prelude.{Ok}
use Rattle.std.specs.declared.ops.ControlFlow.TheVariants.{Break}
use Rattle.laws.specs.Bytes.{pair_at, word_at}
use Rattle.blocks.specs.Blocks.{heading_at, block_at, part}
use Rattle.blocks.specs.Walk.{after_head, past_head_of, past_voice_of, stopped, at_start, walk_from, walked_of}
use Rattle.blocks.specs.Frames.{voice_size, voices_from, payloads_of, frames_in}
use Rattle.blocks.specs.Made.{pair_bytes, word_bytes, block, head_block, voice_blocks, end_block, made}
use Rattle.blocks.specs.Made.{MadeFrom, walk_over}
use Rattle.blocks.specs.Made.{Bytes, MadeIsWalked, WalkedIsMade}
use Rattle.blocks.specs.declared.Block.TheVariants.{Head, Voice, End}
use Rattle.blocks.specs.declared.Heading.{Heading}
use Rattle.blocks.specs.declared.Walked.{Walked}
use Rattle.blocks.specs.declared.Walk.{Walk}
use Rattle.blocks.proofs.Blocks as blocks
use Rattle.blocks.proofs.Blocks.{Bounds}
use Rattle.blocks.proofs.Voices.{voice_sized, voice_bounds, voice_itself, end_no_voice, voices_none}
use Rattle.blocks.proofs.Voices.{voices_more}
use Rattle.blocks.proofs.Voices.{payloads_sound}
use Rattle.blocks.proofs.Walks.{first_head, voice_passed, end_right, step_met, walk_on, walk_done}
use Rattle.blocks.proofs.Walks.{walked_from, sound_short}
use Rattle.blocks.proofs.Passed.{frames_in_none, frames_in_more, blocks_more, Whole, sound_whole}

-- ---- numbers and their bytes

-- the number that was written is read
word_back : (n : ℕ) → n % 256 + 256 * (n / 256 % 256 + 256 * (n / 256 / 256 % 256 + 256 * (n / 256 / 256 / 256))) ≡ n
word_back n = omega arith

-- what stands behind a part is read there
module _ (pre r : List ℕ) where
  -- a byte so many further on
  at_behind : (at i j : ℕ) → at ≡ length pre + j → get_or (pre ++ r) (at + i) 0 ≡ get_or r (j + i) 0
  at_behind at i j e =
      let n : at + i ≡ length pre + (j + i) = omega arith in
      ap (λ (k : ℕ). get_or (pre ++ r) k 0) n ∙ get_or-append-add pre r (j + i) 0

  -- a byte
  here_behind : (at j : ℕ) → at ≡ length pre + j → get_or (pre ++ r) at 0 ≡ get_or r j 0
  here_behind at j e = ap (λ (k : ℕ). get_or (pre ++ r) k 0) e ∙ get_or-append-add pre r j 0

  -- a number in four bytes
  word_behind : (at j : ℕ) → at ≡ length pre + j → word_at (pre ++ r) at ≡ word_at r j
  unfolding word_at
  word_behind at j e = rw (here_behind at j e, at_behind at 1 j e, at_behind at 2 j e, at_behind at 3 j e)

  -- and in two
  pair_behind : (at j : ℕ) → at ≡ length pre + j → pair_at (pre ++ r) at ≡ pair_at r j
  unfolding pair_at
  pair_behind at j e = rw (here_behind at j e, at_behind at 1 j e)

-- a block is read as what it was made from
module _ (pre p r : List ℕ) (kind at : ℕ) (e : at ≡ length pre) where
  bytes : List ℕ
  bytes = pre ++ (block kind p ++ r)

  -- it stands behind the part before it
  from_start : at ≡ length pre + 0
  from_start = e ∙ sym (add-zero (length pre))

  -- its size is the payload's length
  size_made : word_at bytes at ≡ length p
  unfolding bytes word_at
  size_made = word_behind pre (block kind p ++ r) at 0 from_start ∙ word_back (length p)

  -- its kind is the kind
  kind_made : pair_at bytes (at + 4) ≡ kind
  unfolding bytes pair_at
  kind_made =
      let n : at + 4 ≡ length pre + 4 = omega arith in
      pair_behind pre (block kind p ++ r) (at + 4) 4 n ∙ omega arith

  -- it is whole
  fits_made : at + 6 + length p ≤ length bytes
  unfolding bytes
  fits_made = let n = length-append pre (block kind p ++ r) in let m = length-append p r in omega (arith, n, m)

  -- its payload is the payload
  part_made : part bytes (at + 6) (length p) ≡ p
  unfolding bytes
  part_made =
      let n : at + 6 ≡ length pre + 6 = omega arith in
      ap (λ (k : ℕ). take (length p) (drop k (pre ++ (block kind p ++ r)))) n
      ∙ ap (take (length p)) (drop-append-add pre (block kind p ++ r) 6) ∙ take-append_seam p r

-- a block made of each kind is that block
head_made : (h : Heading) (r : List ℕ) → block_at (head_block h ++ r) 0 ≡ Ok (Head h)
unfolding word_at pair_at
head_made h r =
    sym
    (blocks.head (head_block h ++ r) 0 8 1 refl refl (omega arith) (sym (blocks.right_head 1 8 refl)) refl h
    (λ i. record { unit = sym (word_back h.unit) i; number = sym (word_back h.number) i }))

module _ (pre p r : List ℕ) (at : ℕ) (e : at ≡ length pre) where
  -- a voice block of whole frames is one
  voice_made : 0 < length p → length p % 18 ≡ 0 → block_at (bytes pre p r 2 at e) at ≡ Ok (Voice (length p))
  voice_made z m =
      let f = fits_made pre p r 2 at e in
      sym
      (blocks.voice (bytes pre p r 2 at e) at (length p) 2 (sym (size_made pre p r 2 at e))
      (sym (kind_made pre p r 2 at e)) f
      (sym (blocks.right_some 2 (length p) refl (λ y. omega arith)) ∙ eq-eqb (length p % 18) 0 m) (λ y. omega arith)
      refl)

-- the number in an end block is read there
end_number_made : (pre : List ℕ) (n at : ℕ) (e : at ≡ length pre)
    → word_at (bytes pre (word_bytes n) [] 3 at e) (at + 6) ≡ n
unfolding bytes word_at
end_number_made pre n at e =
    let m : at + 6 ≡ length pre + 6 = omega arith in
    word_behind pre (block 3 (word_bytes n) ++ []) (at + 6) 6 m ∙ word_back n

-- an end block is one that tells its number
end_made : (pre : List ℕ) (n at : ℕ) (e : at ≡ length pre) → block_at (bytes pre (word_bytes n) [] 3 at e) at ≡ Ok (End n)
end_made pre n at e =
    let f = fits_made pre (word_bytes n) [] 3 at e in
    sym
    (blocks.end (bytes pre (word_bytes n) [] 3 at e) at 4 3 (sym (size_made pre (word_bytes n) [] 3 at e))
    (sym (kind_made pre (word_bytes n) [] 3 at e)) f (sym (blocks.right_end 3 4 refl)) (λ y. omega arith)
    (λ y. omega arith) refl n
    (sym (end_number_made pre n at e)))

-- ---- made, so walked through

-- a walk moved on past voice blocks
abbrev moved_over : Walk → ℕ → List (List ℕ) → Walk
moved_over w at ps =
    record {
      at = at + length (voice_blocks ps);
      headed = true;
      heading = w.heading;
      voices = w.voices;
      frames = w.frames + length (frames_in ps);
    }

-- the voice blocks behind a part are walked and taken as the payloads that they were made from
record Over (s : List ℕ) (ps : List (List ℕ)) (at : ℕ) : Type 0 where
  taken : voices_from s at ≡ ps
  walked : (w : Walk) → w.at ≡ at → w.headed ≡ true → walk_from s w ≡ walk_from s (moved_over w at ps)

-- where no voice block stands, none is walked over
over_none : (s : List ℕ) (at : ℕ) → 0 ≡ voice_size s at → Over s [] at
unfolding voice_blocks frames_in
over_none s at z =
    record {
      taken = voices_none s at 0 z refl;
      walked = λ w e t. ap (walk_from s)
          (λ i. record {
            at = (e ∙ sym (add-zero at)) i;
            headed = t i;
            heading = w.heading;
            voices = w.voices;
            frames = sym (add-zero w.frames) i;
          });
    }

-- one block more before those that are walked over
over_more : (s p : List ℕ) (ps : List (List ℕ)) (at : ℕ) → block_at s at ≡ Ok (Voice (length p)) → 0 < length p
    → part s (at + 6) (length p) ≡ p → Over s ps (at + 6 + length p) → Over s (p ∷ ps) at
over_more s p ps at b z h o =
    record {
      taken =
          voices_more s at (length p) (voice_itself s at (length p) b) (λ y. omega arith) ∙ ap₂ ◌∷◌ h o.taken;
      walked = walked';
    }
  where
    walked' : (w : Walk) → w.at ≡ at → w.headed ≡ true → walk_from s w ≡ walk_from s (moved_over w at (p ∷ ps))
    walked' w e t =
        let c : block_at s w.at ≡ Ok (Voice (length p)) = ap (block_at s) e ∙ b in
        let size = blocks_more p ps in
        let n : at + 6 + length p + length (voice_blocks ps)
        ≡ at + length (voice_blocks (p ∷ ps)) = omega (arith, size) in
        let f = frames_in_more p ps in
        let m : w.frames + length p / 18 + length (frames_in ps)
        ≡ w.frames + length (frames_in (p ∷ ps)) = omega (arith, f) in
        walk_on s w (past_voice_of w (length p)) (sym (voice_passed w (length p) t ∙ step_met s w (Ok (Voice (length p))) c))
        ∙ o.walked (past_voice_of w (length p)) (ap (λ (k : ℕ). k + 6 + length p) e) t
        ∙ ap (walk_from s) (λ i. record {
          at = n i;
          headed = true;
          heading = w.heading;
          voices = w.voices;
          frames = m
              i;
        })

-- behind any part
over : (ps : List (List ℕ)) (pre tail : List ℕ) → ((k : ℕ) → k < length ps → 0 < length (get_or ps k []))
    → ((k : ℕ) → k < length ps → length (get_or ps k []) % 18 ≡ 0) → (s : List ℕ) → s ≡ pre ++ (voice_blocks ps ++ tail)
    → 0 ≡ voice_size s (length pre + length (voice_blocks ps)) → Over s ps (length pre)
unfolding voice_blocks bytes
over [] pre tail a b s e z = over_none s (length pre) (z ∙ ap (voice_size s) (add-zero (length pre)))
over (p ∷ ps) pre tail a b s e z =
    over_more s p ps (length pre) there (a 0 (omega arith)) here
    (subst (Over s ps) n
    (over ps (pre ++ block 2 p) tail (λ k l. a (suc k) (omega arith)) (λ k l. b (suc k) (omega arith)) s (e ∙ regroup)
    (z ∙ ap (voice_size s) m)))
  where
    regroup : pre ++ ((block 2 p ++ voice_blocks ps) ++ tail) ≡ (pre ++ block 2 p) ++ (voice_blocks ps ++ tail)
    regroup =
        ap (λ (x : List ℕ). pre ++ x) (append_assoc (block 2 p) (voice_blocks ps) tail)
        ∙ sym (append_assoc pre (block 2 p) (voice_blocks ps ++ tail))

    is : s ≡ bytes pre p (voice_blocks ps ++ tail) 2 (length pre) refl
    is = e ∙ ap (λ (x : List ℕ). pre ++ x) (append_assoc (block 2 p) (voice_blocks ps) tail)

    there : block_at s (length pre) ≡ Ok (Voice (length p))
    there =
        ap (λ (x : List ℕ). block_at x (length pre)) is
        ∙ voice_made pre p (voice_blocks ps ++ tail) (length pre) refl (a 0 (omega arith)) (b 0 (omega arith))

    here : part s (length pre + 6) (length p) ≡ p
    here =
        ap (λ (x : List ℕ). part x (length pre + 6) (length p)) is
        ∙ part_made pre p (voice_blocks ps ++ tail) 2 (length pre) refl

    n : length (pre ++ block 2 p) ≡ length pre + 6 + length p
    n = let k = length-append pre (block 2 p) in omega (arith, k)

    m : length pre + length (block 2 p ++ voice_blocks ps) ≡ length (pre ++ block 2 p) + length (voice_blocks ps)
    m =
        let k = length-append pre (block 2 p) in
        let j = length-append (block 2 p) (voice_blocks ps) in
        omega (arith, k, j)

-- there is a frame
some_frames : (ps : List (List ℕ)) → 0 < length ps → ((k : ℕ) → k < length ps → 0 < length (get_or ps k []))
    → ((k : ℕ) → k < length ps → length (get_or ps k []) % 18 ≡ 0) → length (frames_in ps) ≡ 0 → ⊥
some_frames [] l a b z = omega arith
some_frames (p ∷ ps) l a b z =
    let f = frames_in_more p ps in
    let c : 0 < length p = a 0 (omega arith) in
    let d : length p % 18 ≡ 0 = b 0 (omega arith) in
    omega (arith, f)

module _ (s : List ℕ) (heading : Heading) (ps : List (List ℕ)) (m : MadeFrom s heading ps) where
  -- the bytes in three pieces, and the end block behind the first two
  is_made : s ≡ head_block heading ++ (voice_blocks ps ++ end_block (length (frames_in ps)))
  unfolding made
  is_made = m.is

  -- where the end block stands
  stop : ℕ
  stop = (walk_over heading ps).at

  -- behind the head and the voice blocks
  stop_is : stop ≡ length (head_block heading ++ voice_blocks ps)
  unfolding stop
  stop_is = let n = length-append (head_block heading) (voice_blocks ps) in omega (arith, n)

  -- the end block is the last
  is_ended : s ≡ bytes (head_block heading ++ voice_blocks ps) (word_bytes (length (frames_in ps))) [] 3 stop stop_is
  unfolding bytes
  is_ended = is_made ∙ sym (append_assoc (head_block heading) (voice_blocks ps) (end_block (length (frames_in ps))))

  -- and is read there
  end_there : block_at s stop ≡ Ok (End (length (frames_in ps)))
  end_there =
      ap (λ (x : List ℕ). block_at x stop) is_ended ∙ end_made (head_block heading ++ voice_blocks ps)
      (length (frames_in ps)) stop stop_is

  -- nothing comes after it
  long_made : length s ≡ stop + 6 + 4
  unfolding bytes
  long_made =
      let a = ap length is_ended in
      let b = length-append (head_block heading ++ voice_blocks ps) (end_block (length (frames_in ps)) ++ []) in
      let c = stop_is in
      omega (arith, a, b, c)

  -- the head is read at the first byte
  head_there : block_at s 0 ≡ Ok (Head heading)
  head_there =
      ap (λ (x : List ℕ). block_at x 0) is_made ∙ head_made heading (voice_blocks ps ++ end_block (length (frames_in ps)))

  -- the voice blocks are walked over
  walked_over : Over s ps (after_head 0)
  unfolding stop
  walked_over =
      over ps (head_block heading) (end_block (length (frames_in ps))) m.positive m.whole s is_made
      (end_no_voice s stop (length (frames_in ps)) end_there)

  -- so the whole is walked through
  made_walked : walked_of s ≡ stopped (walk_over heading ps) (Ok tt)
  unfolding stop
  made_walked =
      walked_from s m.short
      ∙ walk_on s at_start (past_head_of at_start heading) (sym
      (first_head at_start heading refl ∙ step_met s at_start (Ok (Head heading)) head_there))
      ∙ walked_over.walked (past_head_of at_start heading) refl refl
      ∙ ap (λ (k : ℕ). walk_from s (record {
        at = stop;
        headed = true;
        heading = heading;
        voices = after_head 0;
        frames
            = k;
      }))
      (zero-add (length (frames_in ps)))
      ∙ walk_done s (walk_over heading ps) (Ok tt)
      (sym
      (ap Break
      (end_right (length s) (walk_over heading ps).at (length (frames_in ps)) (length (frames_in ps))
      (some_frames ps m.some m.positive m.whole) refl long_made)
      ∙ step_met s (walk_over heading ps) (Ok (End (length (frames_in ps)))) end_there))

  -- and its payloads are those that it was made from
  made_payloads : payloads_of s ≡ ps
  made_payloads =
      payloads_sound s (ap (λ (w : Walked). w.ending) made_walked)
      ∙ ap (λ (w : Walked). voices_from s w.walk.voices) made_walked ∙ walked_over.taken

pub made_is_walked : MadeIsWalked
made_is_walked s heading ps m = (made_walked s heading ps m, made_payloads s heading ps m)

-- ---- walked through, so made

-- four bytes are those of the number that they are read as
word_digits : (a b c d : ℕ) → a < 256 → b < 256 → c < 256 → d < 256
    → word_bytes (a + 256 * (b + 256 * (c + 256 * d))) ≡ a ∷ b ∷ c ∷ d ∷ []
word_digits a b c d p q r t =
    let n : ℕ = a + 256 * (b + 256 * (c + 256 * d)) in
    let e : (a + 256 * (b + 256 * (c + 256 * d))) % 256 ≡ a = omega arith in
    let f : (a + 256 * (b + 256 * (c + 256 * d))) / 256 ≡ b + 256 * (c + 256 * d) = omega arith in
    let g : (b + 256 * (c + 256 * d)) % 256 ≡ b = omega arith in
    let h : (b + 256 * (c + 256 * d)) / 256 ≡ c + 256 * d = omega arith in
    let i : (c + 256 * d) % 256 ≡ c = omega arith in
    let j : (c + 256 * d) / 256 ≡ d = omega arith in
    rw (e, f, g, h, i, j)

-- and two
pair_digits : (a b : ℕ) → a < 256 → pair_bytes (a + 256 * b) ≡ a ∷ b ∷ []
pair_digits a b p =
    let e : (a + 256 * b) % 256 ≡ a = omega arith in
    let f : (a + 256 * b) / 256 ≡ b = omega arith in
    rw (e, f)

module _ (s : List ℕ) (small : Bytes s) where
  -- the bytes of the number in four bytes are the four
  word_bytes_lem : (at : ℕ) → word_bytes (word_at s at) ≡ get_or s at 0 ∷ get_or s (at + 1) 0 ∷ get_or s (at + 2) 0 ∷ get_or s
      (at + 3) 0 ∷ []
  unfolding word_at
  word_bytes_lem at = word_digits _ _ _ _ (small at) (small (at + 1)) (small (at + 2)) (small (at + 3))

  -- and in two, the two
  pair_bytes_lem : (at : ℕ) → pair_bytes (pair_at s at) ≡ get_or s at 0 ∷ get_or s (at + 1) 0 ∷ []
  unfolding pair_at
  pair_bytes_lem at = pair_digits _ _ (small at)

  -- what stands from a place on is the byte there and the rest
  next_byte : (at next : ℕ) → next ≡ at + 1 → at < length s → drop at s ≡ get_or s at 0 ∷ drop next s
  next_byte at next e l =
      let n : suc at ≡ next = omega arith in
      drop-cons s at 0 l ∙ ap (λ (k : ℕ). get_or s at 0 ∷ drop k s) n

  -- four bytes and the rest
  four_bytes : (at : ℕ) → at + 4 ≤ length s → drop at s ≡ word_bytes (word_at s at) ++ drop (at + 4) s
  four_bytes at l =
      next_byte at (at + 1) refl (omega arith)
      ∙ ap (λ (x : List ℕ). get_or s at 0 ∷ x) (next_byte (at + 1) (at + 2) (omega arith) (omega arith)
      ∙ ap (λ (x : List ℕ). get_or s (at + 1) 0 ∷ x) (next_byte (at + 2) (at + 3) (omega arith) (omega arith)
      ∙ ap (λ (x : List ℕ). get_or s (at + 2) 0 ∷ x) (next_byte (at + 3) (at + 4) (omega arith) (omega arith))))
      ∙ ap (λ (x : List ℕ). x ++ drop (at + 4) s) (sym (word_bytes_lem at))

  -- two bytes and the rest
  two_bytes : (at : ℕ) → at + 2 ≤ length s → drop at s ≡ pair_bytes (pair_at s at) ++ drop (at + 2) s
  two_bytes at l =
      next_byte at (at + 1) refl (omega arith)
      ∙ ap (λ (x : List ℕ). get_or s at 0 ∷ x) (next_byte (at + 1) (at + 2) (omega arith) (omega arith))
      ∙ ap (λ (x : List ℕ). x ++ drop (at + 2) s) (sym (pair_bytes_lem at))

  -- what stands from a block on is the block as it is made, and the rest
  block_remade : (at size kind : ℕ) → Bounds s at size kind
      → drop at s ≡ block kind (part s (at + 6) size) ++ drop (at + 6 + size) s
  block_remade at size kind b =
      four_bytes at (omega (arith, b.fits))
      ∙ ap₂ (λ (n : ℕ) (x : List ℕ). word_bytes n ++ x) (b.sized ∙ sym long)
      (two_bytes (at + 4) (omega (arith, b.fits))
      ∙ ap₂ (λ (n : ℕ) (x : List ℕ). pair_bytes n ++ x) b.kinded payload)
    where
      long : length (part s (at + 6) size) ≡ size
      long = length-take-le size (drop (at + 6) s) (simp length-drop (omega (arith, b.fits)))

      payload : drop (at + 4 + 2) s ≡ part s (at + 6) size ++ drop (at + 6 + size) s
      payload =
          let n : at + 4 + 2 ≡ at + 6 = omega arith in
          ap (λ (k : ℕ). drop k s) n ∙ sym (take-append-drop size (drop (at + 6) s))
          ∙ ap (λ (x : List ℕ). part s (at + 6) size ++ x) (drop-drop size (at + 6) s)

  -- so with all voice blocks from a place on
  voices_remade : (n at : ℕ) → length s - at < n → drop at s
      ≡ voice_blocks (voices_from s at) ++ drop (at + length (voice_blocks (voices_from s at))) s
  unfolding voice_blocks
  voices_remade zero at l = absurd (omega arith)
  voices_remade (suc n) at l = go (voice_size s at) refl (ℕ_discrete (voice_size s at) 0)
      (λ next m. voices_remade n next m)
    where
      go : (size : ℕ) → size ≡ voice_size s at → Dec (size ≡ 0)
          → ((next : ℕ) → length s - next < n → drop next s
          ≡ voice_blocks (voices_from s next) ++ drop (next + length (voice_blocks (voices_from s next))) s)
          → drop at s ≡ voice_blocks (voices_from s at) ++ drop (at + length (voice_blocks (voices_from s at))) s
      go size e (yes z) further =
          ap (λ (k : ℕ). drop k s) (sym (add-zero at))
          ∙ ap (λ (x : List (List ℕ)). voice_blocks x ++ drop (at + length (voice_blocks x)) s)
          (sym (voices_none s at size e z))
      go size e (no z) further =
          let b = voice_bounds s at size e z in
          let k : length (part s (at + 6) size) ≡ size = length-take-le size (drop (at + 6) s)
          (simp length-drop (omega (arith, b.fits))) in
          let v = blocks_more (part s (at + 6) size) (voices_from s (at + 6 + size)) in
          let j : at + 6 + size + length (voice_blocks (voices_from s (at + 6 + size)))
          ≡ at + length (voice_blocks (part s (at + 6) size ∷ voices_from s (at + 6 + size)))
          = omega (arith, k, v) in
          block_remade at size 2 b
          ∙ ap (λ (x : List ℕ). block 2 (part s (at + 6) size) ++ x)
          (further (at + 6 + size) (omega (arith, b.fits)))
          ∙ sym (append_assoc (block 2 (part s (at + 6) size)) (voice_blocks (voices_from s (at + 6 + size)))
          (drop (at + 6 + size + length (voice_blocks (voices_from s (at + 6 + size)))) s))
          ∙ ap (λ (m : ℕ). (block 2 (part s (at + 6) size) ++ voice_blocks (voices_from s (at + 6 + size))) ++ drop m s)
          j
          ∙ ap (λ (x : List (List ℕ)). voice_blocks x ++ drop (at + length (voice_blocks x)) s)
          (sym (voices_more s at size e z))

  -- a part of four bytes, and of twice four
  word_part : (at : ℕ) → at + 4 ≤ length s → part s at 4 ≡ word_bytes (word_at s at)
  word_part at l = ap (take 4) (four_bytes at l)

  words_part : (at : ℕ) → at + 8 ≤ length s → part s at 8 ≡ word_bytes (word_at s at) ++ word_bytes (word_at s (at + 4))
  words_part at l =
      take-add 4 4 (drop at s) ∙ ap₂ ◌++◌ (word_part at (omega arith))
      (ap (take 4) (drop-drop 4 at s) ∙ word_part (at + 4) (omega arith))

  -- the whole, of its three pieces
  sound_remade : (walked_of s).ending ≡ Ok tt → s ≡ made (walked_of s).walk.heading (payloads_of s)
  unfolding made
  sound_remade e =
      block_remade 0 8 1 top.0
      ∙ ap₂ (λ (x y : List ℕ). block 1 x ++ y) head
      (voices_remade (suc (length s)) (after_head 0) (omega arith)
      ∙ ap₂ (λ (x : List (List ℕ)) (y : List ℕ). voice_blocks x ++ y) (sym o.voices) tail)
    where
      o : Whole s
      o = sound_whole s e

      top : Bounds s 0 8 1 × ((walked_of s).walk.heading ≡ heading_at s 0)
      top = blocks.head_held s 0 (walked_of s).walk.heading o.behind.head

      head : part s 6 8 ≡ word_bytes (walked_of s).walk.heading.unit ++ word_bytes (walked_of s).walk.heading.number
      head =
          words_part 6 (omega (arith, top.0.fits))
          ∙ ap (λ (h : Heading). word_bytes h.unit ++ word_bytes h.number) (sym top.1)

      foot : Bounds s (walked_of s).walk.at 4 3 × ((walked_of s).walk.frames ≡ word_at s ((walked_of s).walk.at + 6))
      foot = blocks.end_held s (walked_of s).walk.at (walked_of s).walk.frames o.ended.block

      over_end : drop ((walked_of s).walk.at + 6 + 4) s ≡ []
      over_end =
          let l : length s ≤ (walked_of s).walk.at + 6 + 4 = omega (arith, o.ended.last) in drop_of_length-le s l

      -- where the end block stands
      stop : after_head 0 + length (voice_blocks (voices_from s (after_head 0))) ≡ (walked_of s).walk.at
      stop = ap (λ (x : List (List ℕ)). after_head 0 + length (voice_blocks x)) (sym o.voices) ∙ sym o.behind.at

      tail : drop (after_head 0 + length (voice_blocks (voices_from s (after_head 0)))) s
          ≡ end_block (length (frames_in (payloads_of s)))
      tail =
          ap (λ (k : ℕ). drop k s) stop
          ∙ block_remade (walked_of s).walk.at 4 3 foot.0
          ∙ ap₂ (λ (x y : List ℕ). block 3 x ++ y)
          (word_part ((walked_of s).walk.at + 6) (omega (arith, foot.0.fits))
          ∙ ap word_bytes (sym foot.1 ∙ o.behind.frames)) over_end

-- the payloads found are whole frames
pub payload_sized : (s : List ℕ) (k at : ℕ) → k < length (voices_from s at)
    → (0 < length (get_or (voices_from s at) k [])) × (length (get_or (voices_from s at) k []) % 18 ≡ 0)
payload_sized s zero at l = go (voice_size s at) refl (ℕ_discrete (voice_size s at) 0)
  where
    go : (size : ℕ) → size ≡ voice_size s at → Dec (size ≡ 0)
        → (0 < length (get_or (voices_from s at) 0 [])) × (length (get_or (voices_from s at) 0 []) % 18 ≡ 0)
    go size e (yes z) = absurd (let n = ap length (voices_none s at size e z) in omega (arith, n))
    go size e (no z) =
        let t = voice_sized s at size e z in
        let n : length (get_or (voices_from s at) 0 []) ≡ size
        = ap (λ (x : List (List ℕ)). length (get_or x 0 [])) (voices_more s at size e z)
        ∙ length-take-le size (drop (at + 6) s) (simp length-drop (omega (arith, t.fits))) in
        (omega (arith, n, t.least), ap (λ (x : ℕ). x % 18) n ∙ t.whole)
payload_sized s (suc k) at l = go (voice_size s at) refl (ℕ_discrete (voice_size s at) 0)
    (λ next m. payload_sized s k next m)
  where
    go : (size : ℕ) → size ≡ voice_size s at → Dec (size ≡ 0)
        → ((next : ℕ) → k < length (voices_from s next)
        → (0 < length (get_or (voices_from s next) k [])) × (length (get_or (voices_from s next) k []) % 18 ≡ 0))
        → (0 < length (get_or (voices_from s at) (suc k) [])) × (length (get_or (voices_from s at) (suc k) []) % 18 ≡ 0)
    go size e (yes z) further = absurd (let n = ap length (voices_none s at size e z) in omega (arith, n))
    go size e (no z) further =
        let n = ap length (voices_more s at size e z) in
        subst (λ (x : List (List ℕ)). (0 < length (get_or x (suc k) [])) × (length (get_or x (suc k) []) % 18 ≡ 0))
        (sym (voices_more s at size e z)) (further (at + 6 + size) (omega (arith, n)))

pub walked_is_made : WalkedIsMade
walked_is_made s small e =
    let o = sound_whole s e in
    record {
      is = sound_remade s small e;
      short = sound_short s e;
      some =
          some (payloads_of s) refl (λ z. let n = o.ended.some in let f = o.behind.frames in omega
          (arith, n, f, z));
      positive = λ k l. (sized k l).0;
      whole = λ k l. (sized k l).1;
    }
  where
    some : (ps : List (List ℕ)) → payloads_of s ≡ ps → (length (frames_in (payloads_of s)) ≡ 0 → ⊥)
        → 0 < length (payloads_of s)
    some [] q n = absurd (n (ap (λ (x : List (List ℕ)). length (frames_in x)) q ∙ frames_in_none))
    some (p ∷ ps) q n = let l = ap length q in omega (arith, l)

    sized : (k : ℕ) → k < length (payloads_of s) → (0 < length (get_or (payloads_of s) k [])) ×
        (length (get_or (payloads_of s) k []) % 18 ≡ 0)
    sized k l =
        let v = (sound_whole s e).voices in
        subst (λ (x : List (List ℕ)). (0 < length (get_or x k [])) × (length (get_or x k []) % 18 ≡ 0)) (sym v)
        (payload_sized s k (after_head 0) (subst (λ (x : List (List ℕ)). k < length x) v l))
