-- What a buffer holds after a text was laid into it, place by place, and the laws that follow: nothing laid, one byte,
-- one text after another.
-- Assumes nothing.
use mathlib.Core.Path.{◌≡◌, ◌∙◌, sym, refl, ap, ap₂}
use mathlib.Core.List.{List, [], ◌∷◌, ◌++◌}
use Prim.Native.Nat.{ℕ, suc, ◌+◌, ◌-◌, ◌<◌, ◌≤◌, min}
use native.Mathlib.Omega.{arith}
use native.Mathlib.Decide.{ℕ_discrete, dec_lt}
use lib.ListN.{length, take, drop, get_or, set, length-append, length-take, length-drop, length-set, get_or-append}
use lib.Seq.{get_or-take, get_or-drop, get_or-set_same, get_or-set_other, ext_get_or}
use Rattle.laws.proofs.Joined.{getD_second}
use Rattle.text.specs.Laid.{laid, after}

-- the buffer's length stays
pub length_laid : (o : List ℕ) (at : ℕ) (t : List ℕ) → length (laid o at t) ≡ length o
unfolding laid
length_laid o at t = simp (length-append, length-take, length-drop) (omega arith)

-- before the position stands what stood there
pub laid_before : (o : List ℕ) (at : ℕ) (t : List ℕ) (k : ℕ) → k < at → k < length o → get_or (laid o at t) k 0
    ≡ get_or o k 0
unfolding laid
laid_before o at t k h l =
    let first : k < length (take at o) = simp length-take (omega arith) in
    let front : k < length (take at o ++ take (length o - at) t) = simp length-append (omega arith) in
    get_or-append (take at o ++ take (length o - at) t) (drop (at + length t) o) 0 k front
    ∙ get_or-append (take at o) (take (length o - at) t) 0 k first
    ∙ get_or-take at o k 0 h

-- from the position on stands the text
pub laid_within : (o : List ℕ) (at : ℕ) (t : List ℕ) (k : ℕ) → at ≤ k → k < at + length t → k < length o
    → get_or (laid o at t) k 0 ≡ get_or t (k - at) 0
unfolding laid
laid_within o at t k h m l =
    let first : length (take at o) ≡ at = simp length-take (omega arith) in
    let front : k < length (take at o ++ take (length o - at) t) = simp (length-append, length-take) (omega arith) in
    get_or-append (take at o ++ take (length o - at) t) (drop (at + length t) o) 0 k front
    ∙ getD_second (take at o) (take (length o - at) t) k 0 (omega arith)
    ∙ ap (λ (i : ℕ). get_or (take (length o - at) t) (k - i) 0) first
    ∙ get_or-take (length o - at) t (k - at) 0 (omega arith)

-- after the text stands what stood there
pub laid_beyond : (o : List ℕ) (at : ℕ) (t : List ℕ) (k : ℕ) → at + length t ≤ k → k < length o
    → get_or (laid o at t) k 0 ≡ get_or o k 0
unfolding laid
laid_beyond o at t k h l =
    let front : length (take at o ++ take (length o - at) t)
    ≡ at + length t = simp (length-append, length-take) (omega arith) in
    let whole : at + length t + (k - (at + length t)) ≡ k = omega arith in
    getD_second (take at o ++ take (length o - at) t) (drop (at + length t) o) k 0 (omega arith)
    ∙ ap (λ (i : ℕ). get_or (drop (at + length t) o) (k - i) 0) front
    ∙ get_or-drop (at + length t) o (k - (at + length t)) 0
    ∙ ap (λ (i : ℕ). get_or o i 0) whole

-- a buffer that is as long, and holds what should be laid at each place, is the one
pub laid_ext : (o : List ℕ) (at : ℕ) (t l : List ℕ) → length l ≡ length o
    → ((k : ℕ) → k < at → k < length o → get_or l k 0 ≡ get_or o k 0)
    → ((k : ℕ) → at ≤ k → k < at + length t → k < length o → get_or l k 0 ≡ get_or t (k - at) 0)
    → ((k : ℕ) → at + length t ≤ k → k < length o → get_or l k 0 ≡ get_or o k 0)
    → l ≡ laid o at t
laid_ext o at t l e before within beyond =
    ext_get_or 0 l (laid o at t) (e ∙ sym (length_laid o at t))
    (λ k h. here k (omega arith) (dec_lt k at) (dec_lt k (at + length t)))
  where
    here : (k : ℕ) → k < length o → Dec (k < at) → Dec (k < at + length t) → get_or l k 0 ≡ get_or (laid o at t) k 0
    here k h (yes a) b = before k a h ∙ sym (laid_before o at t k a h)
    here k h (no a) (yes b) = within k (omega arith) b h ∙ sym (laid_within o at t k (omega arith) b h)
    here k h (no a) (no b) = beyond k (omega arith) h ∙ sym (laid_beyond o at t k (omega arith) h)

-- nothing laid
pub laid_none : (o : List ℕ) (at : ℕ) → laid o at [] ≡ o
laid_none o at = sym (laid_ext o at [] o refl (λ k a h. refl) (λ k a b h. absurd (omega arith)) (λ k a h. refl))

-- nothing is laid past the end
pub laid_past : (o : List ℕ) (at : ℕ) (t : List ℕ) → length o ≤ at → laid o at t ≡ o
laid_past o at t p =
    sym (laid_ext o at t o refl (λ k a h. refl) (λ k a b h. absurd (omega arith)) (λ k a h. absurd (omega arith)))

-- a text's first byte, stored before what follows it
pub laid_cons : (o : List ℕ) (at b : ℕ) (t : List ℕ) → at < length o → set (laid o (at + 1) t) at b ≡ laid o at (b ∷ t)
laid_cons o at b t p =
    laid_ext o at (b ∷ t) (set (laid o (at + 1) t) at b)
    (length-set (laid o (at + 1) t) at b ∙ length_laid o (at + 1) t)
    (λ k a h. other k (omega arith) ∙ laid_before o (at + 1) t k (omega arith) h)
    (λ k a c h. within k a c h (ℕ_discrete k at))
    (λ k a h. other k (omega arith) ∙ laid_beyond o (at + 1) t k (omega arith) h)
  where
    other : (k : ℕ) → (k ≡ at → ⊥) → get_or (set (laid o (at + 1) t) at b) k 0 ≡ get_or (laid o (at + 1) t) k 0
    other k n = get_or-set_other (laid o (at + 1) t) at k b 0 n

    within : (k : ℕ) → at ≤ k → k < at + suc (length t) → k < length o → Dec (k ≡ at)
        → get_or (set (laid o (at + 1) t) at b) k 0 ≡ get_or (b ∷ t) (k - at) 0
    within k a c h (yes e) =
        let z : k - at ≡ 0 = omega arith in
        let l : length (laid o (at + 1) t) ≡ length o = length_laid o (at + 1) t in
        ap (λ (i : ℕ). get_or (set (laid o (at + 1) t) at b) i 0) e
        ∙ get_or-set_same (laid o (at + 1) t) at b 0 (omega arith)
        ∙ ap (λ (i : ℕ). get_or (b ∷ t) i 0) (sym z)
    within k a c h (no e) =
        let z : k - at ≡ suc (k - (at + 1)) = omega (arith, e) in
        other k e ∙ laid_within o (at + 1) t k (omega (arith, e)) (omega arith) h
        ∙ ap (λ (i : ℕ). get_or (b ∷ t) i 0) (sym z)

-- one byte
pub laid_one : (o : List ℕ) (at b : ℕ) → at < length o → set o at b ≡ laid o at (b ∷ [])
laid_one o at b h = ap (λ (l : List ℕ). set l at b) (sym (laid_none o (at + 1))) ∙ laid_cons o at b [] h

-- as much of a text as there is room for is laid as the text is
pub laid_room : (o : List ℕ) (at : ℕ) (t : List ℕ) (n : ℕ) → min (length t) (length o - at) ≤ n → laid o at (take n t)
    ≡ laid o at t
laid_room o at t n h =
    laid_ext o at t (laid o at (take n t)) (length_laid o at (take n t))
    (λ k a l. laid_before o at (take n t) k a l)
    (λ k a b l. laid_within o at (take n t) k a (simp length-take (omega arith)) l
    ∙ get_or-take n t (k - at) 0 (omega arith))
    (λ k a l. laid_beyond o at (take n t) k (simp length-take (omega arith)) l)

-- laying t and then u at the position after t is laying t ++ u, whether they fit or not
pub laid_then : (o : List ℕ) (at : ℕ) (t u : List ℕ) → laid (laid o at t) (after o at t) u ≡ laid o at (t ++ u)
laid_then o at t u =
    laid_ext o at (t ++ u) (laid (laid o at t) (after o at t) u)
    (length_laid (laid o at t) (after o at t) u ∙ length_laid o at t)
    (λ k a h. laid_before (laid o at t) (after o at t) u k (omega arith) (inside k h) ∙ laid_before o at t k a h)
    (λ k a b h. within k a b h (dec_lt k (at + length t)))
    (λ k a h. beyond k (simp length-append at a) h)
  where
    inside : (k : ℕ) → k < length o → k < length (laid o at t)
    inside k h = omega (arith, length_laid o at t)

    within : (k : ℕ) → at ≤ k → k < at + length (t ++ u) → k < length o → Dec (k < at + length t)
        → get_or (laid (laid o at t) (after o at t) u) k 0 ≡ get_or (t ++ u) (k - at) 0
    within k a b h (yes c) =
        laid_before (laid o at t) (after o at t) u k (omega arith) (inside k h) ∙ laid_within o at t k a c h
        ∙ sym (get_or-append t u 0 (k - at) (omega arith))
    within k a b h (no c) =
        let long : length (t ++ u) ≡ length t + length u = length-append t u in
        let place : k - after o at t ≡ k - at - length t = omega arith in
        laid_within (laid o at t) (after o at t) u k (omega arith) (omega arith) (inside k h)
        ∙ ap (λ (i : ℕ). get_or u i 0) place ∙ sym (getD_second t u (k - at) 0 (omega arith))

    beyond : (k : ℕ) → at + (length t + length u) ≤ k → k < length o → get_or (laid (laid o at t) (after o at t) u) k 0
        ≡ get_or o k 0
    beyond k a h =
        laid_beyond (laid o at t) (after o at t) u k (omega arith) (inside k h) ∙ laid_beyond o at t k (omega arith) h

-- and the position after both is the position after t ++ u
pub after_then : (o : List ℕ) (at : ℕ) (t u : List ℕ) → after (laid o at t) (after o at t) u ≡ after o at (t ++ u)
after_then o at t u =
    let e : length (laid o at t) ≡ length o = length_laid o at t in
    simp length-append (omega arith)

-- ---- what puts ensure

-- a text is laid at a position: the position after it, and the buffer then
abbrev pub Put : List ℕ → ℕ → List ℕ → ℕ → List ℕ → Type 0
Put o at t at' o' = (at' ≡ after o at t) × (o' ≡ laid o at t)

-- the same text, said otherwise
pub put_as : (o : List ℕ) (at : ℕ) (t u : List ℕ) {at' : ℕ} {o' : List ℕ} → t ≡ u → Put o at t at' o'
    → Put o at u at' o'
put_as o at t u e p = (p.0 ∙ ap (after o at) e, p.1 ∙ ap (laid o at) e)

-- nothing, at a position held at the buffer's end
pub put_nothing : (o : List ℕ) (at : ℕ) {at' : ℕ} → at' ≡ min at (length o) → Put o at [] at' o
put_nothing o at e = (omega arith, sym (laid_none o at))

-- the buffer is as long as it was
pub put_length : (o : List ℕ) (at : ℕ) (t : List ℕ) {at' : ℕ} {o' : List ℕ} → Put o at t at' o' → length o' ≡ length o
put_length o at t p = ap length p.1 ∙ length_laid o at t

-- the position after a put is in the buffer or at its end
pub put_within : (o : List ℕ) (at : ℕ) (t : List ℕ) {at' : ℕ} {o' : List ℕ} → Put o at t at' o' → at' ≤ length o'
put_within o at t p = omega (arith, p.0, put_length o at t p)

-- two puts, one after the other, are one put of both texts
pub put_then : (o : List ℕ) (at : ℕ) (t u : List ℕ) {o₁ o₂ : List ℕ} {at₁ at₂ : ℕ} → Put o at t at₁ o₁
    → Put o₁ at₁ u at₂ o₂ → Put o at (t ++ u) at₂ o₂
put_then o at t u p q = (
  q.0 ∙ ap₂ (λ (l : List ℕ) (k : ℕ). after l k u) p.1 p.0 ∙ after_then o at t u,
  q.1 ∙ ap₂ (λ (l : List ℕ) (k : ℕ). laid l k u) p.1 p.0 ∙ laid_then o at t u,
)
