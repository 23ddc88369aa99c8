-- Lists of entries: what is held in two lists one after the other, what they add up to, and which entries of a list are
-- the first of their key.
-- Assumes nothing.
use mathlib.Core.Path.{◌≡◌, ◌∙◌, sym, refl, ap, ap₂}
use mathlib.Core.Bool.{Bool, true, false, cond}
use mathlib.Core.List.{List, [], ◌∷◌, ◌++◌, append-nil, Memᴰ}
use Prim.Native.Nat.{ℕ, zero, suc, ◌+◌, ◌<◌}
use native.Mathlib.Omega.{arith}
use borrow.Author.Tests.{eq-eqb, eqb-true}
use lib.Dec.{eqb}
use lib.ListN.{length, get_or}
use Rattle.laws.specs.Table.{both}
use Rattle.laws.proofs.Chosen.{either}
use Rattle.tally.specs.Tally.{has_key, holding_in, total_in}
use Rattle.tally.specs.History.{without, distinct}
use Rattle.tally.specs.declared.Entry.{Entry}
use Rattle.std.specs.Prelude.{Option, Some, None}

-- a key is an entry's where both of its numbers are
pub key_of : (unit number : ℕ) (e : Entry) → has_key unit number e ≡ true → (e.unit ≡ unit) × (e.number ≡ number)
key_of unit number e h = go (eqb e.number number) refl (eqb e.unit unit) refl h
  where
    go : (n : Bool) → eqb e.number number ≡ n → (u : Bool) → eqb e.unit unit ≡ u → both n u ≡ true
        → (e.unit ≡ unit) × (e.number ≡ number)
    go true p true q r = (eqb-true _ _ q, eqb-true _ _ p)
    go true p false q r = let z : ◌≡◌ {A = ℕ} 0 1 = cc in absurd (omega arith)
    go false p u q r = let z : ◌≡◌ {A = ℕ} 0 1 = cc in absurd (omega arith)

-- and where they are, it is
pub key_is : (unit number : ℕ) (e : Entry) → e.unit ≡ unit → e.number ≡ number → has_key unit number e ≡ true
key_is unit number e p q = ap₂ both (eq-eqb _ _ q) (eq-eqb _ _ p)

-- an entry has its own key
pub own_key : (e : Entry) → has_key e.unit e.number e ≡ true
own_key e = key_is _ _ e refl refl

-- two entries have one key either way round
pub key_turned : (x y : Entry) → has_key x.unit x.number y ≡ has_key y.unit y.number x
key_turned x y =
    either (has_key x.unit x.number y)
    (λ t. let k = key_of _ _ y t in t ∙ sym (key_is _ _ x (sym k.0) (sym k.1)))
    (λ f. f ∙ either (has_key y.unit y.number x)
    (λ t. let k = key_of _ _ x t in sym f ∙ key_is _ _ y (sym k.0) (sym k.1) ∙ sym t)
    (λ g. sym g))

-- ---- what is held

-- what is held in one list, and else in another
abbrev pub or_else : Option ℕ → Option ℕ → Option ℕ
or_else (Some c) h = Some c
or_else None h = h

pub or_nothing : (h : Option ℕ) → or_else h None ≡ h
or_nothing (Some c) = refl
or_nothing None = refl

pub holding_append : (es fs : List Entry) (unit number : ℕ)
    → holding_in (es ++ fs) unit number ≡ or_else (holding_in es unit number) (holding_in fs unit number)
unfolding holding_in
holding_append [] fs unit number = refl
holding_append (e ∷ es) fs unit number =
    either (has_key unit number e) (λ t. rw t) (λ f. rw f (holding_append es fs unit number))

-- what one entry holds under a key
pub alone : (e : Entry) (unit number : ℕ) (t : Bool) → has_key unit number e ≡ t
    → holding_in (e ∷ []) unit number ≡ cond t (Some e.count) None
unfolding holding_in
alone e unit number t h = rw h

-- behind others, an entry of another key changes nothing
pub holding_other : (es : List Entry) (e : Entry) (unit number : ℕ) → has_key unit number e ≡ false
    → holding_in (es ++ (e ∷ [])) unit number ≡ holding_in es unit number
holding_other es e unit number h =
    holding_append es (e ∷ []) unit number
    ∙ ap (or_else (holding_in es unit number)) (alone e unit number false h)
    ∙ or_nothing (holding_in es unit number)

-- and one of a key that was not held holds it
pub holding_new : (es : List Entry) (e : Entry) → holding_in es e.unit e.number ≡ None
    → holding_in (es ++ (e ∷ [])) e.unit e.number ≡ Some e.count
holding_new es e h =
    holding_append es (e ∷ []) e.unit e.number
    ∙ ap₂ or_else h (alone e e.unit e.number true (own_key e))

-- what was held before stays held
pub holding_stays : (es fs : List Entry) (unit number : ℕ) {c : ℕ} → holding_in es unit number ≡ Some c
    → holding_in (es ++ fs) unit number ≡ Some c
holding_stays es fs unit number h =
    holding_append es fs unit number ∙ ap (λ (x : Option ℕ). or_else x (holding_in fs unit number)) h

-- the entries of one key hold the same
pub holding_same : (es : List Entry) (x y : Entry) → has_key x.unit x.number y ≡ true
    → holding_in es x.unit x.number ≡ holding_in es y.unit y.number
holding_same es x y h = let k = key_of _ _ y h in ap₂ (holding_in es) (sym k.0) (sym k.1)

-- an entry is known by its three numbers
pub entry_is : (e : Entry) {unit number count : ℕ} → e.unit ≡ unit → e.number ≡ number → e.count ≡ count
    → e ≡ record { unit = unit; number = number; count = count }
entry_is e p q r = λ i. record { unit = p i; number = q i; count = r i }

-- where a key is held, an entry has it, with that count
pub held_among : (es : List Entry) (unit number c : ℕ) → holding_in es unit number ≡ Some c
    → Memᴰ record { unit = unit; number = number; count = c } es
unfolding holding_in
held_among [] unit number c h = let z : ◌≡◌ {A = ℕ} 0 1 = cc in absurd (omega arith)
held_among (e ∷ es) unit number c h =
    either (has_key unit number e)
    (λ t.
    let k = key_of unit number e t in
    let g : Some e.count ≡ Some c = sym (rw t) ∙ h in
    let m : e.count ≡ c = cc in
    Memᴰ.head (sym (entry_is e k.0 k.1 m)))
    (λ f. Memᴰ.tail (held_among es unit number c (sym (rw f) ∙ h)))

-- where it is not, none has it
pub none_at : (d : Entry) (es : List Entry) (unit number : ℕ) → holding_in es unit number ≡ None
    → (i : ℕ) → i < length es
    → has_key unit number (get_or es i d) ≡ false
unfolding holding_in
none_at d [] unit number h i l = absurd (omega arith)
none_at d (e ∷ es) unit number h i l =
    either (has_key unit number e)
    (λ t. let g : Some e.count ≡ None = sym (rw t) ∙ h in let z : ◌≡◌ {A = ℕ} 0 1 = cc in absurd (omega arith))
    (λ f. first_or_later f i l (λ k m. none_at d es unit number (sym (rw f) ∙ h) k m))
  where
    first_or_later : has_key unit number e ≡ false → (i : ℕ) → i < length (e ∷ es)
        → ((k : ℕ) → k < length es → has_key unit number (get_or es k d) ≡ false)
        → has_key unit number (get_or (e ∷ es) i d) ≡ false
    first_or_later f zero l later = f
    first_or_later f (suc i) l later = later i (omega arith)

-- ---- totals

pub total_append : (es fs : List Entry) (unit : ℕ) → total_in (es ++ fs) unit ≡ total_in es unit + total_in fs unit
unfolding total_in
total_append [] fs unit = omega arith
total_append (e ∷ es) fs unit = let h = total_append es fs unit in omega (arith, h)

-- ---- the first entries of each key

-- an entry before others, if its key is new
abbrev pub if_new : Option ℕ → Entry → List Entry → List Entry
if_new (Some c) x xs = xs
if_new None x xs = x ∷ xs

-- those whose key is not held in a list
unfoldable pub beyond : List Entry → List Entry → List Entry
beyond p [] = []
beyond p (x ∷ xs) = if_new (holding_in p x.unit x.number) x (beyond p xs)

-- a step of each, by what a test says
without_step : (e x : Entry) (xs : List Entry) {t : Bool} → has_key e.unit e.number x ≡ t
    → without e (x ∷ xs) ≡ cond t (without e xs) (x ∷ without e xs)
unfolding without
without_step e x xs h = ap (λ (b : Bool). cond b (without e xs) (x ∷ without e xs)) h

beyond_step : (p : List Entry) (x : Entry) (xs : List Entry) {h : Option ℕ} → holding_in p x.unit x.number ≡ h
    → beyond p (x ∷ xs) ≡ if_new h x (beyond p xs)
unfolding beyond
beyond_step p x xs e = ap (λ (h : Option ℕ). if_new h x (beyond p xs)) e

holding_step : (e : Entry) (es : List Entry) (unit number : ℕ) {t : Bool} → has_key unit number e ≡ t
    → holding_in (e ∷ es) unit number ≡ cond t (Some e.count) (holding_in es unit number)
unfolding holding_in
holding_step e es unit number h = ap (λ (b : Bool). cond b (Some e.count) (holding_in es unit number)) h

without_append : (e : Entry) (xs ys : List Entry) → without e (xs ++ ys) ≡ without e xs ++ without e ys
unfolding without
without_append e [] ys = refl
without_append e (x ∷ xs) ys =
    either (has_key e.unit e.number x) (λ t. rw (t, without_append e xs ys)) (λ f. rw (f, without_append e xs ys))

-- no key is held in no entries
beyond_none : (xs : List Entry) → beyond [] xs ≡ xs
unfolding beyond holding_in
beyond_none [] = refl
beyond_none (x ∷ xs) = ap (λ (l : List Entry). x ∷ l) (beyond_none xs)

-- leaving out the key of one entry more
module _ (a : Entry) (p : List Entry) (x : Entry) (xs : List Entry)
    (rest : without a (beyond p xs) ≡ beyond (a ∷ p) xs) where
  same_key : has_key a.unit a.number x ≡ true → (h : Option ℕ) → holding_in p x.unit x.number ≡ h
      → without a (beyond p (x ∷ xs)) ≡ beyond (a ∷ p) xs
  same_key t (Some c) q = ap (without a) (beyond_step p x xs q) ∙ rest
  same_key t None q = ap (without a) (beyond_step p x xs q) ∙ without_step a x (beyond p xs) t ∙ rest

  other_key : has_key a.unit a.number x ≡ false → (h : Option ℕ) → holding_in p x.unit x.number ≡ h
      → without a (beyond p (x ∷ xs)) ≡ if_new h x (beyond (a ∷ p) xs)
  other_key f (Some c) q = ap (without a) (beyond_step p x xs q) ∙ rest
  other_key f None q =
      ap (without a) (beyond_step p x xs q) ∙ without_step a x (beyond p xs) f ∙ ap (λ (l : List Entry). x ∷ l) rest

beyond_more : (a : Entry) (p xs : List Entry) → without a (beyond p xs) ≡ beyond (a ∷ p) xs
unfolding without beyond
beyond_more a p [] = refl
beyond_more a p (x ∷ xs) =
    either (has_key a.unit a.number x)
    (λ t.
    same_key a p x xs (beyond_more a p xs) t (holding_in p x.unit x.number) refl
    ∙ sym (beyond_step (a ∷ p) x xs (holding_step a p x.unit x.number (key_turned x a ∙ t))))
    (λ f.
    other_key a p x xs (beyond_more a p xs) f (holding_in p x.unit x.number) refl
    ∙ sym (beyond_step (a ∷ p) x xs (holding_step a p x.unit x.number (key_turned x a ∙ f))))

-- the first entries of two lists, one after the other: those of the first, and of the second those of a new key
pub distinct_append : (p q : List Entry) → distinct (p ++ q) ≡ distinct p ++ beyond p (distinct q)
unfolding distinct
distinct_append [] q = sym (beyond_none (distinct q))
distinct_append (a ∷ p) q =
    ap (λ (l : List Entry). a ∷ l)
    (ap (without a) (distinct_append p q)
    ∙ without_append a (distinct p) (beyond p (distinct q))
    ∙ ap (λ (l : List Entry). without a (distinct p) ++ l) (beyond_more a p (distinct q)))

-- what is held in the first entries of a list is what is held in it
without_holds : (e : Entry) (es : List Entry) (unit number : ℕ) → has_key unit number e ≡ false
    → holding_in (without e es) unit number ≡ holding_in es unit number
unfolding without
without_holds e [] unit number h = refl
without_holds e (x ∷ xs) unit number h =
    either (has_key e.unit e.number x)
    (λ t.
    let k = key_of _ _ x t in
    let g : has_key unit number x ≡ false = ap₂ (λ (u n : ℕ). both (eqb n number) (eqb u unit)) k.0 k.1 ∙ h in
    ap (λ (l : List Entry). holding_in l unit number) (without_step e x xs t)
    ∙ without_holds e xs unit number h
    ∙ sym (holding_step x xs unit number g))
    (λ f.
    ap (λ (l : List Entry). holding_in l unit number) (without_step e x xs f)
    ∙ holding_step x (without e xs) unit number refl
    ∙ ap (cond (has_key unit number x) (Some x.count)) (without_holds e xs unit number h)
    ∙ sym (holding_step x xs unit number refl))

pub distinct_holds : (es : List Entry) (unit number : ℕ)
    → holding_in (distinct es) unit number ≡ holding_in es unit number
unfolding distinct
distinct_holds [] unit number = refl
distinct_holds (e ∷ es) unit number =
    either (has_key unit number e)
    (λ t. holding_step e (without e (distinct es)) unit number t ∙ sym (holding_step e es unit number t))
    (λ f.
    holding_step e (without e (distinct es)) unit number f
    ∙ without_holds e (distinct es) unit number f
    ∙ distinct_holds es unit number
    ∙ sym (holding_step e es unit number f))

-- one entry more, of a key that was held or of a new one
pub distinct_held : (p : List Entry) (e : Entry) {c : ℕ} → holding_in p e.unit e.number ≡ Some c
    → distinct (p ++ (e ∷ [])) ≡ distinct p
unfolding distinct without beyond
distinct_held p e h =
    distinct_append p (e ∷ [])
    ∙ ap (λ (l : List Entry). distinct p ++ l) (beyond_step p e [] h)
    ∙ append-nil (distinct p)

pub distinct_new : (p q : List Entry) (e : Entry) → holding_in p e.unit e.number ≡ None
    → distinct (p ++ (e ∷ q)) ≡ distinct p ++ (e ∷ beyond p (without e (distinct q)))
unfolding distinct
distinct_new p q e h =
    distinct_append p (e ∷ q)
    ∙ ap (λ (l : List Entry). distinct p ++ l) (beyond_step p e (without e (distinct q)) h)
