-- Entries entered one after the other: which are accepted, what is then held, and that their order changes no answer.
-- Assumes nothing.
use mathlib.Core.Path.{◌≡◌, ◌∙◌, sym, refl, ap, ap₂, subst}
use mathlib.Core.Bool.{Bool, true, false, cond}
use mathlib.Core.List.Memᴰ
use mathlib.Core.List.{List, [], ◌∷◌, ◌++◌, append-nil, append_assoc}
use mathlib.Core.Logic.{⊎_elim}
use Prim.Native.Nat.{ℕ, ◌<◌}
use native.Mathlib.Omega.{arith}
use native.Mathlib.Decide.{ℕ_discrete}
use borrow.Author.Tests.{eq-eqb, ne_eqb}
use lib.Dec.{eqb}
use lib.ListN.{length, get_or, length-append, get_or-append}
use lib.Seq.{get_or-append_seam}
use Rattle.laws.proofs.Chosen.{either}
use Rattle.tally.specs.Tally.{most, has_key, holding_in, tally_of, entries_then, number_of}
use Rattle.tally.specs.History.{without, distinct, Among, Agreeing, Fitting, Reordered, none, next, swapped}
use Rattle.tally.specs.History.{further}
use Rattle.tally.specs.declared.Entry.{Entry}
use Rattle.tally.proofs.Keys.{key_of, key_turned, entry_is, holding_new, holding_stays, holding_same, held_among}
use Rattle.tally.proofs.Keys.{none_at, beyond, distinct_holds, distinct_held, distinct_new}
use Rattle.tally.proofs.Ways.{held_by, Way, held, other, full, new, ways, entries_are, Taken, again, fresh, taken}
use Rattle.tally.proofs.Ways.{taken_answers, then_again, then_fresh, Same, same_refl, same_trans, same_then}
use Rattle.tally.proofs.Ways.{exchanged}
use Rattle.std.specs.Prelude.{Option, Some, None, Result, Ok, Err}
use Rattle.tally.specs.declared.Tallied.{Tallied}
use Rattle.tally.specs.declared.Tallied.TheVariants.{Entered, AlreadyHeld}
use Rattle.tally.specs.declared.Refusal.{Refusal}
use Rattle.tally.specs.declared.Refusal.TheVariants.{OtherCount, Full}

-- the entries after some are entered, and those of them that are accepted
unfoldable pub after : List Entry → List Entry → List Entry
after es [] = es
after es (e ∷ l) = after (entries_then es e) l

abbrev pub if_taken : Result Tallied Refusal → Entry → List Entry
if_taken t e = cond (eqb (number_of t) 0) (e ∷ []) []

unfoldable pub accepts : List Entry → List Entry → List Entry
accepts es [] = []
accepts es (e ∷ l) = if_taken (tally_of es e) e ++ accepts (entries_then es e) l

-- so of two lists, one after the other
pub after_append : (es k l : List Entry) → after es (k ++ l) ≡ after (after es k) l
unfolding after
after_append es [] l = refl
after_append es (e ∷ k) l = after_append (entries_then es e) k l

pub accepts_append : (es k l : List Entry) → accepts es (k ++ l) ≡ accepts es k ++ accepts (after es k) l
unfolding after accepts
accepts_append es [] l = refl
accepts_append es (e ∷ k) l =
    ap (λ (x : List Entry). if_taken (tally_of es e) e ++ x) (accepts_append (entries_then es e) k l)
    ∙ sym (append_assoc (if_taken (tally_of es e) e) (accepts (entries_then es e) k)
    (accepts (after (entries_then es e) k) l))

-- a step of each, by what is answered and what the entries then are
module _ (es : List Entry) (e : Entry) (l : List Entry) {t : Result Tallied Refusal} {fs : List Entry} (answer : tally_of es e ≡ t)
    (later : entries_then es e ≡ fs) where
  after_step : after es (e ∷ l) ≡ after fs l
  unfolding after
  after_step = ap (λ (x : List Entry). after x l) later

  accepts_step : accepts es (e ∷ l) ≡ if_taken t e ++ accepts fs l
  unfolding accepts
  accepts_step = ap₂ (λ (u : Result Tallied Refusal) (x : List Entry). if_taken u e ++ accepts x l) answer later

-- one entry more in a list, before others
one_more : (p l : List Entry) (e : Entry) → (p ++ (e ∷ [])) ++ l ≡ p ++ (e ∷ l)
one_more p l e = append_assoc p (e ∷ []) l

-- ---- the entries are the first of each key among the accepted

-- behind an accepted entry of a new key, or of one that is held
held_first : (p : List Entry) (e : Entry) {es : List Entry} {c : ℕ} → es ≡ distinct p → held_by es e ≡ Some c
    → es ≡ distinct (p ++ (e ∷ []))
held_first p e f h =
    f ∙ sym (distinct_held p e (sym (distinct_holds p e.unit e.number)
    ∙ sym (ap (λ (x : List Entry). held_by x e) f) ∙ h))

new_first : (p : List Entry) (e : Entry) {es : List Entry} → es ≡ distinct p → held_by es e ≡ None
    → es ++ (e ∷ []) ≡ distinct (p ++ (e ∷ []))
unfolding distinct without beyond
new_first p e f h =
    ap (λ (x : List Entry). x ++ (e ∷ [])) f
    ∙ sym (distinct_new p [] e (sym (distinct_holds p e.unit e.number)
    ∙ sym (ap (λ (x : List Entry). held_by x e) f) ∙ h))

-- what a step comes to, given what the rest does
module _ (e : Entry) (l p es : List Entry) (f : es ≡ distinct p)
    (rest : (q fs : List Entry) → fs ≡ distinct q → after fs l ≡ distinct (q ++ accepts fs l)) where
  taken_first : {t : Result Tallied Refusal} {fs : List Entry} → tally_of es e ≡ t → number_of t ≡ 0 → entries_then es e ≡ fs
      → fs ≡ distinct (p ++ (e ∷ [])) → after es (e ∷ l) ≡ distinct (p ++ accepts es (e ∷ l))
  taken_first {t} {fs} answer z later g =
      after_step es e l answer later
      ∙ rest (p ++ (e ∷ [])) fs g
      ∙ ap distinct
      (one_more p (accepts fs l) e
      ∙ ap (λ (x : List Entry). p ++ x)
      (sym (accepts_step es e l answer later ∙ ap (λ (b : Bool). cond b (e ∷ []) [] ++ accepts fs l)
      (eq-eqb (number_of t) 0 z))))

  left_first : {t : Result Tallied Refusal} → tally_of es e ≡ t → (number_of t ≡ 0 → ⊥) → entries_then es e ≡ es
      → after es (e ∷ l) ≡ distinct (p ++ accepts es (e ∷ l))
  left_first {t} answer z later =
      after_step es e l answer later
      ∙ rest p es f
      ∙ ap (λ (x : List Entry). distinct (p ++ x))
      (sym (accepts_step es e l answer later ∙ ap (λ (b : Bool). cond b (e ∷ []) [] ++ accepts es l)
      (ne_eqb (number_of t) 0 z)))

  way_first : (t : Result Tallied Refusal) → tally_of es e ≡ t → Way es e t → after es (e ∷ l) ≡ distinct (p ++ accepts es (e ∷ l))
  way_first (Ok AlreadyHeld) q (held h) = taken_first q refl (entries_are es e q) (held_first p e f h)
  way_first (Err OtherCount) q (other c h n) = left_first q (λ z. omega arith) (entries_are es e q)
  way_first (Err Full) q (full h m) = left_first q (λ z. omega arith) (entries_are es e q)
  way_first (Ok Entered) q (new h m) = taken_first q refl (entries_are es e q) (new_first p e f h)

pub firsts : (l p es : List Entry) → es ≡ distinct p → after es l ≡ distinct (p ++ accepts es l)
unfolding after accepts
firsts [] p es f = f ∙ ap distinct (sym (append-nil p))
firsts (e ∷ l) p es f = way_first e l p es f (firsts l) (tally_of es e) refl (ways es e)

-- ---- what is accepted is held

-- what is held stays held
then_stays : (es : List Entry) (e : Entry) (unit number : ℕ) {c : ℕ} → holding_in es unit number ≡ Some c
    → holding_in (entries_then es e) unit number ≡ Some c
then_stays es e unit number {c} h = by (tally_of es e) refl
  where
    by : (t : Result Tallied Refusal) → tally_of es e ≡ t → holding_in (entries_then es e) unit number ≡ Some c
    by (Ok Entered) q =
        ap (λ (x : List Entry). holding_in x unit number) (entries_are es e q) ∙ holding_stays es (e ∷ []) unit number h
    by (Ok AlreadyHeld) q = ap (λ (x : List Entry). holding_in x unit number) (entries_are es e q) ∙ h
    by (Err refusal) q = ap (λ (x : List Entry). holding_in x unit number) (entries_are es e q) ∙ h

after_stays : (l es : List Entry) (unit number : ℕ) {c : ℕ} → holding_in es unit number ≡ Some c
    → holding_in (after es l) unit number ≡ Some c
unfolding after
after_stays [] es unit number h = h
after_stays (e ∷ l) es unit number h = after_stays l (entries_then es e) unit number (then_stays es e unit number h)

-- an accepted entry is held, with its count
pub taken_held : (es : List Entry) (e : Entry) → Taken es e → held_by (entries_then es e) e ≡ Some e.count
taken_held es e (again h) = ap (λ (x : List Entry). held_by x e) (then_again es e h) ∙ h
taken_held es e (fresh h l) = ap (λ (x : List Entry). held_by x e) (then_fresh es e h l) ∙ holding_new es e h

-- one of the entries that are accepted of a single one is that one, and it is accepted
one_taken : (es : List Entry) (e x : Entry) (t : Result Tallied Refusal) → tally_of es e ≡ t → Among x (if_taken t e)
    → (x ≡ e) × (number_of (tally_of es e) ≡ 0)
one_taken es e x (Ok tallied) q m = (Memᴰ.eq_of_singleton m, ap number_of q)
one_taken es e x (Err OtherCount) q m = absurd (Memᴰ.not-nil m)
one_taken es e x (Err Full) q m = absurd (Memᴰ.not-nil m)

pub accepted_held : (l es : List Entry) (x : Entry) → Among x (accepts es l) → held_by (after es l) x ≡ Some x.count
unfolding after accepts
accepted_held [] es x m = absurd (Memᴰ.not-nil m)
accepted_held (e ∷ l) es x m =
    ⊎_elim
    (λ w.
    let k = one_taken es e x (tally_of es e) refl w in
    after_stays l (entries_then es e) x.unit x.number
    (subst (λ (y : Entry). held_by (entries_then es e) y ≡ Some y.count) (sym k.0)
    (taken_held es e (taken es e k.1))))
    (λ w. accepted_held l (entries_then es e) x w) (Memᴰ.append_cases (if_taken (tally_of es e) e) m)

-- ---- no key twice

pub record NoTwice (d : Entry) (es : List Entry) : Type 0 where
  pub apart : (i j : ℕ) → i < j → j < length es → has_key (get_or es i d).unit (get_or es i d).number (get_or es j d) ≡ false

module _ (d : Entry) (es : List Entry) (e : Entry) (p : NoTwice d es) (h : held_by es e ≡ None) where
  behind_apart : (i j : ℕ) → i < j → j < length (es ++ (e ∷ [])) → Dec (j ≡ length es)
      → has_key (get_or (es ++ (e ∷ [])) i d).unit (get_or (es ++ (e ∷ [])) i d).number (get_or (es ++ (e ∷ [])) j d) ≡ false
  behind_apart i j l m (yes q) =
      let a : i < length es = omega arith in
      let f : get_or (es ++ (e ∷ [])) i d ≡ get_or es i d = get_or-append es (e ∷ []) d i a in
      let g : get_or (es ++ (e ∷ [])) j d ≡ e = ap (λ (k : ℕ). get_or (es ++ (e ∷ [])) k d) q ∙ get_or-append_seam es e [] d
      in
      ap₂ (λ (x y : Entry). has_key x.unit x.number y) f g
      ∙ key_turned (get_or es i d) e
      ∙ none_at d es e.unit e.number h i a
  behind_apart i j l m (no q) =
      let b : j < length es = omega (arith, length-append es (e ∷ [])) in
      let f : get_or (es ++ (e ∷ [])) i d ≡ get_or es i d = get_or-append es (e ∷ []) d i (omega arith) in
      let g : get_or (es ++ (e ∷ [])) j d ≡ get_or es j d = get_or-append es (e ∷ []) d j b in
      ap₂ (λ (x y : Entry). has_key x.unit x.number y) f g ∙ p.apart i j l b

  behind_twice : NoTwice d (es ++ (e ∷ []))
  behind_twice = record { apart = λ i j l m. behind_apart i j l m (ℕ_discrete j (length es)) }

then_twice : (d : Entry) (es : List Entry) (e : Entry) → NoTwice d es → NoTwice d (entries_then es e)
then_twice d es e p = by (tally_of es e) refl (ways es e)
  where
    by : (t : Result Tallied Refusal) → tally_of es e ≡ t → Way es e t → NoTwice d (entries_then es e)
    by (Ok AlreadyHeld) q (held h) = subst (NoTwice d) (sym (entries_are es e q)) p
    by (Err OtherCount) q (other c h n) = subst (NoTwice d) (sym (entries_are es e q)) p
    by (Err Full) q (full h m) = subst (NoTwice d) (sym (entries_are es e q)) p
    by (Ok Entered) q (new h m) = subst (NoTwice d) (sym (entries_are es e q)) (behind_twice d es e p h)

pub after_twice : (d : Entry) (l es : List Entry) → NoTwice d es → NoTwice d (after es l)
unfolding after
after_twice d [] es p = p
after_twice d (e ∷ l) es p = after_twice d l (entries_then es e) (then_twice d es e p)

-- ---- any order

-- each is accepted
unfoldable pub AllTaken : List Entry → List Entry → Type 0
AllTaken es [] = Unit
AllTaken es (e ∷ l) = Taken es e × AllTaken (entries_then es e) l

pub all_accepts : (l es : List Entry) → AllTaken es l → accepts es l ≡ l
unfolding AllTaken accepts
all_accepts [] es a = refl
all_accepts (e ∷ l) es a =
    ap (λ (b : Bool). cond b (e ∷ []) [] ++ accepts (entries_then es e) l) (eq-eqb _ 0 (taken_answers es e a.0))
    ∙ ap (λ (x : List Entry). e ∷ x) (all_accepts l (entries_then es e) a.1)

-- in lists that answer alike the same is accepted
same_taken : (es fs : List Entry) (e : Entry) → Same es fs → Taken es e → Taken fs e
same_taken es fs e s (again h) = again (sym (s.holds e.unit e.number) ∙ h)
same_taken es fs e s (fresh h l) = fresh (sym (s.holds e.unit e.number) ∙ h)
    (subst (λ (n : ℕ). n < most) s.long l)

same_run : (l es fs : List Entry) → Same es fs → AllTaken es l → AllTaken fs l × Same (after es l) (after fs l)
unfolding AllTaken after
same_run [] es fs s a = (tt, s)
same_run (e ∷ l) es fs s a =
    let r = same_run l (entries_then es e) (entries_then fs e) (same_then es fs e s) a.1 in
    ((same_taken es fs e s a.0, r.0), r.1)

-- two neighbours of one key, both accepted, are one entry
one_entry : (es : List Entry) (x y : Entry) → has_key x.unit x.number y ≡ true → Taken es x
    → Taken (entries_then es x) y → x ≡ y
one_entry es x y k p q = by q
  where
    is_held : held_by (entries_then es x) y ≡ Some x.count
    is_held = sym (holding_same (entries_then es x) x y k) ∙ taken_held es x p

    by : Taken (entries_then es x) y → x ≡ y
    by (again h) =
        let e : Some x.count ≡ Some y.count = sym is_held ∙ h in
        let c : x.count ≡ y.count = cc in
        let u = key_of _ _ y k in
        entry_is x (sym u.0) (sym u.1) c
    by (fresh h l) =
        let e : Some x.count ≡ None = sym is_held ∙ h in
        let z : ◌≡◌ {A = ℕ} 0 1 = cc in absurd (omega arith)

-- what entering in another order comes to
abbrev pub AsWell : List Entry → List Entry → List Entry → Type 0
AsWell es l m = AllTaken es m × Same (after es l) (after es m)

swap_entries : (x y : Entry) (l es : List Entry) → AllTaken es (x ∷ (y ∷ l)) → AsWell es (x ∷ (y ∷ l)) (y ∷ (x ∷ l))
unfolding AllTaken after
swap_entries x y l es a =
    either (has_key x.unit x.number y)
    (λ t.
    let e = one_entry es x y t a.0 a.1.0 in
    subst (λ (k : List Entry). AsWell es (x ∷ (y ∷ l)) k) (ap₂ (λ (v w : Entry). v ∷ (w ∷ l)) e (sym e))
    (a, same_refl (after es (x ∷ (y ∷ l)))))
    (λ d.
    let w = exchanged es x y d a.0 a.1.0 in
    let r = same_run l (entries_then (entries_then es x) y) (entries_then (entries_then es y) x) w.same a.1.1 in
    ((w.first, (w.second, r.0)), r.1))

pub reordered : {l m : List Entry} → Reordered l m → (es : List Entry) → AllTaken es l → AsWell es l m
unfolding AllTaken after
reordered none es a = (a, same_refl es)
reordered (next x r) es a = let w = reordered r (entries_then es x) a.1 in ((a.0, w.0), w.1)
reordered (swapped x y l) es a = swap_entries x y l es a
reordered (further r s) es a =
    let v = reordered r es a in
    let w = reordered s es v.0 in
    (w.0, same_trans v.1 w.1)

-- where no two entries of one key differ and the distinct ones fit, each is accepted
module _ (e : Entry) (l p es : List Entry) (f : es ≡ distinct p) (agree : Agreeing (p ++ (e ∷ l)))
    (fit : Fitting (p ++ (e ∷ l))) where
  -- what is held of p is held of its first entries
  held_in : {h : Option ℕ} → held_by es e ≡ h → held_by p e ≡ h
  held_in q = sym (distinct_holds p e.unit e.number) ∙ sym (ap (λ (x : List Entry). held_by x e) f) ∙ q

  agreed : (c : ℕ) → held_by es e ≡ Some c → held_by es e ≡ Some e.count
  agreed c q =
      q
      ∙ ap Some
      (agree _ e (Memᴰ.append_left (e ∷ l) (held_among p e.unit e.number c (held_in q)))
      (Memᴰ.append_right p (Memᴰ.head refl)) refl refl)

  fitted : held_by es e ≡ None → length es < most
  fitted q =
      let g = ap length (distinct_new p l e (held_in q)) in
      let k = length-append (distinct p) (e ∷ beyond p (without e (distinct l))) in
      let n = ap length f in
      omega (arith, fit, g, k, n)

pub all_taken : (l p es : List Entry) → es ≡ distinct p → Agreeing (p ++ l) → Fitting (p ++ l) → AllTaken es l
unfolding AllTaken
all_taken [] p es f agree fit = tt
all_taken (e ∷ l) p es f agree fit = by (held_by es e) refl (all_taken l (p ++ (e ∷ [])))
  where
    by : (h : Option ℕ) → held_by es e ≡ h
        → ((fs : List Entry) → fs ≡ distinct (p ++ (e ∷ [])) → Agreeing ((p ++ (e ∷ [])) ++ l)
        → Fitting ((p ++ (e ∷ [])) ++ l) → AllTaken fs l)
        → Taken es e × AllTaken (entries_then es e) l
    by (Some c) q rest =
        let h = agreed e l p es f agree fit c q in (
          again h,
          rest (entries_then es e) (then_again es e h ∙ held_first p e f h) (subst Agreeing (sym (one_more p l e)) agree)
              (subst Fitting (sym (one_more p l e)) fit),
        )
    by None q rest =
        let m = fitted e l p es f agree fit q in (
          fresh q m,
          rest (entries_then es e) (then_fresh es e q m ∙ new_first p e f q)
              (subst Agreeing (sym (one_more p l e)) agree)
              (subst Fitting (sym (one_more p l e)) fit),
        )
