-- The first frames of some payloads: how many, which, and how long their blocks are.
-- Assumes nothing.
use mathlib.Core.Path.{◌≡◌, ◌∙◌, sym, refl, ap, ap₂}
use mathlib.Core.List.{List, [], ◌∷◌, ◌++◌, append-nil}
use Prim.Native.Nat.{ℕ, zero, suc, ◌+◌, ◌-◌, ◌*◌, ◌/◌, ◌%◌, ◌<◌, ◌≤◌}
use native.Mathlib.Omega.{arith}
use native.Mathlib.Decide.{dec_le}
use lib.ListN.{length, get_or, take, drop, length-take, length-drop}
use lib.Seq.{take_all, take-append-le, take-append-add, take-take, take-add, drop_at, length-take-le}
use Rattle.blocks.specs.Frames.{cut, eighteens, frames_in}
use Rattle.blocks.specs.Made.{voice_blocks}
use Rattle.blocks.proofs.Passed.{length_cut, frames_in_none, frames_in_more, blocks_none, blocks_more}
use Rattle.kept.specs.Keeping.{first_frames}

-- payloads of whole frames, none of them empty
pub data Sized : List (List ℕ) → Type 0 where
  none : Sized []
  more : (p : List ℕ) (ps : List (List ℕ)) → 18 ≤ length p → length p % 18 ≡ 0 → Sized ps → Sized (p ∷ ps)

-- so they are where each is
pub sized_all : (ps : List (List ℕ))
    → ((k : ℕ) → k < length ps → (0 < length (get_or ps k [])) × (length (get_or ps k []) % 18 ≡ 0)) → Sized ps
sized_all [] f = none
sized_all (p ∷ ps) f =
    let h = f 0 (omega arith) in
    let l : length p % 18 ≡ 0 = h.1 in
    more p ps (omega (arith, h.0, l)) l (sized_all ps (λ k m. f (suc k) (omega arith)))

-- and each is where they are
pub sized_at : (ps : List (List ℕ)) → Sized ps → (k : ℕ) → k < length ps
    → (0 < length (get_or ps k [])) × (length (get_or ps k []) % 18 ≡ 0)
sized_at _ none k l = absurd (omega arith)
sized_at _ (more p ps a b z) zero l = (omega arith, b)
sized_at _ (more p ps a b z) (suc k) l = sized_at ps z k (omega arith)

-- with one more behind them
pub sized_join : (ps qs : List (List ℕ)) → Sized ps → Sized qs → Sized (ps ++ qs)
sized_join _ qs none y = y
sized_join _ qs (more p ps a b z) y = more p (ps ++ qs) a b (sized_join ps qs z y)

-- of no frames nothing
pub first_none : (ps : List (List ℕ)) → first_frames ps 0 ≡ []
unfolding first_frames
first_none [] = refl
first_none (p ∷ ps) = refl

-- of some, those of the first payload, and of the others the rest
pub first_more : (p : List ℕ) (ps : List (List ℕ)) (n : ℕ) → 0 < n
    → first_frames (p ∷ ps) n ≡ take (18 * n) p ∷ first_frames ps (n - length p / 18)
unfolding first_frames
first_more p ps zero l = absurd (omega arith)
first_more p ps (suc n) l = refl

-- of as many as there are, all
pub first_all : (ps : List (List ℕ)) (n : ℕ) → Sized ps → length (frames_in ps) ≤ n → first_frames ps n ≡ ps
unfolding first_frames
first_all _ n none l = refl
first_all _ n (more p ps a b z) l =
    let f = frames_in_more p ps in
    first_more p ps n (omega (arith, f)) ∙ ap₂ (λ (x : List ℕ) (xs : List (List ℕ)). x ∷ xs)
    (take_all (18 * n) p (omega (arith, f)))
    (first_all ps (n - length p / 18) z (omega (arith, f)))

-- none of them is empty, and each has whole frames
pub first_sized : (ps : List (List ℕ)) (n : ℕ) → Sized ps → Sized (first_frames ps n)
unfolding first_frames
first_sized _ n none = none
first_sized _ zero (more p ps a b z) = none
first_sized _ (suc n) (more p ps a b z) =
    let l = length-take (18 * suc n) p in
    more (take (18 * suc n) p) (first_frames ps (suc n - length p / 18)) (omega (arith, l)) (omega (arith, l))
    (first_sized ps (suc n - length p / 18) z)

-- a payload's first frames are those of its first bytes
first_cut : (j k : ℕ) (p : List ℕ) → j ≤ k → 18 * k ≤ length p → cut j (take (18 * j) p) ≡ take j (cut k p)
unfolding cut
first_cut zero k p l m = refl
first_cut (suc j) zero p l m = absurd (omega arith)
first_cut (suc j) (suc k) p l m =
    let e : 18 * suc j ≡ 18 + 18 * j = omega arith in
    let long : length (take 18 p) ≡ 18 = length-take-le 18 p (omega arith) in
    let rest : drop 18 (take (18 * suc j) p) ≡ take (18 * j) (drop 18 p)
    = ap (λ (x : ℕ). drop 18 (take x p)) e ∙ ap (drop 18) (take-add 18 (18 * j) p)
    ∙ drop_at (take 18 p) (take (18 * j) (drop 18 p)) 18 long in
    ap₂ (λ (x : List ℕ) (xs : List (List ℕ)). x ∷ xs) (take-take 18 (18 * suc j) p (omega arith))
    (ap (cut j) rest ∙ first_cut j k (drop 18 p) (omega arith) (simp length-drop (omega arith)))

-- the frames of the first n are the first n of all
pub first_frames_lem : (ps : List (List ℕ)) (n : ℕ) → Sized ps → frames_in (first_frames ps n) ≡ take n (frames_in ps)
unfolding first_frames frames_in
first_frames_lem _ zero none = refl
first_frames_lem _ (suc n) none = refl
first_frames_lem _ zero (more p ps a b z) = refl
first_frames_lem _ (suc n) (more p ps a b z) =
    go (dec_le (length p / 18) (suc n)) (first_frames_lem ps (suc n - length p / 18) z)
  where
    go : Dec (length p / 18 ≤ suc n)
        → frames_in (first_frames ps (suc n - length p / 18)) ≡ take (suc n - length p / 18) (frames_in ps)
        → eighteens (take (18 * suc n) p) ++ frames_in (first_frames ps (suc n - length p / 18))
        ≡ take (suc n) (eighteens p ++ frames_in ps)
    go (yes l) rest =
        let c = length_cut (length p / 18) p in
        let e : length (eighteens p) + (suc n - length p / 18) ≡ suc n = omega (arith, c) in
        ap₂ (λ (x : List ℕ) (y : List (List ℕ)). eighteens x ++ y) (take_all (18 * suc n) p (omega arith))
        rest
        ∙ sym (take-append-add (eighteens p) (frames_in ps) (suc n - length p / 18))
        ∙ ap (λ (k : ℕ). take k (eighteens p ++ frames_in ps)) e
    go (no l) rest =
        let c = length_cut (length p / 18) p in
        let t : length (take (18 * suc n) p) / 18 ≡ suc n
        = ap (λ (x : ℕ). x / 18) (length-take-le (18 * suc n) p (omega arith)) ∙ omega arith in
        let o : suc n - length p / 18 ≡ 0 = omega arith in
        ap₂ (λ (x : ℕ) (y : List (List ℕ)). cut x (take (18 * suc n) p) ++ frames_in y) t
        (ap (first_frames ps) o ∙ first_none ps)
        ∙ append-nil (cut (suc n) (take (18 * suc n) p))
        ∙ first_cut (suc n) (length p / 18) p (omega arith) (omega arith)
        ∙ sym (take-append-le (suc n) (eighteens p) (frames_in ps) (omega (arith, c)))

-- so there are n of them, if there are as many
pub first_count : (ps : List (List ℕ)) (n : ℕ) → Sized ps → n ≤ length (frames_in ps)
    → length (frames_in (first_frames ps n)) ≡ n
first_count ps n z l = ap length (first_frames_lem ps n z) ∙ length-take-le n (frames_in ps) l

-- those of payloads and others behind them
pub first_join : (ps qs : List (List ℕ)) (n : ℕ) → Sized ps
    → first_frames (ps ++ qs) n ≡ first_frames ps n ++ first_frames qs (n - length (frames_in ps))
unfolding first_frames
first_join _ qs n none =
    let e : n ≡ n - length (frames_in []) = omega (arith, frames_in_none) in ap (first_frames qs) e
first_join _ qs zero (more p ps a b z) =
    let e : 0 ≡ 0 - length (frames_in (p ∷ ps)) = omega arith in sym (first_none qs) ∙ ap (first_frames qs) e
first_join _ qs (suc n) (more p ps a b z) =
    let f = frames_in_more p ps in
    let e : suc n - length p / 18 - length (frames_in ps) ≡ suc n - length (frames_in (p ∷ ps)) = omega (arith, f) in
    ap (λ (x : List (List ℕ)). take (18 * suc n) p ∷ x)
    (first_join ps qs (suc n - length p / 18) z
    ∙ ap (λ (k : ℕ). first_frames ps (suc n - length p / 18) ++ first_frames qs k) e)

-- with fewer than all the blocks are shorter, by a frame at least
pub first_less : (ps : List (List ℕ)) (n : ℕ) → Sized ps → n < length (frames_in ps)
    → length (voice_blocks (first_frames ps n)) + 18 ≤ length (voice_blocks ps)
unfolding first_frames
first_less _ n none l = absurd (omega (arith, frames_in_none))
first_less _ zero (more p ps a b z) l =
    let e = blocks_more p ps in let o = blocks_none in omega (arith, e, o)
first_less _ (suc n) (more p ps a b z) l =
    go (dec_le (length p / 18) (suc n)) (λ m. first_less ps (suc n - length p / 18) z m)
  where
    long : length (voice_blocks (take (18 * suc n) p ∷ first_frames ps (suc n - length p / 18)))
        ≡ 6 + length (take (18 * suc n) p) + length (voice_blocks (first_frames ps (suc n - length p / 18)))
    long = blocks_more (take (18 * suc n) p) (first_frames ps (suc n - length p / 18))

    go : Dec (length p / 18 ≤ suc n)
        → (suc n - length p / 18 < length (frames_in ps)
        → length (voice_blocks (first_frames ps (suc n - length p / 18))) + 18 ≤ length (voice_blocks ps))
        → length (voice_blocks (take (18 * suc n) p ∷ first_frames ps (suc n - length p / 18))) + 18
        ≤ length (voice_blocks (p ∷ ps))
    go (yes m) rest =
        let f = frames_in_more p ps in
        let r = rest (omega (arith, f)) in
        let t = length-take (18 * suc n) p in
        omega (arith, r, t, long, blocks_more p ps)
    go (no m) rest =
        let o : suc n - length p / 18 ≡ 0 = omega arith in
        let e = ap (λ (k : ℕ). length (voice_blocks (first_frames ps k))) o in
        let q = ap (λ (x : List (List ℕ)). length (voice_blocks x)) (first_none ps) in
        let t = length-take (18 * suc n) p in
        omega (arith, t, long, blocks_more p ps, e, q, blocks_none)
