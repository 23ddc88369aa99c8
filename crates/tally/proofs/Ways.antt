-- The four ways of entering an entry, each with what is so then; and what stays the same in two lists of entries that
-- answer alike.
-- Assumes nothing.
use mathlib.Core.Path.{◌≡◌, ◌∙◌, sym, refl, ap, ap₂, subst}
use mathlib.Core.Bool.{Bool, true, false, cond}
use mathlib.Core.List.{List, [], ◌∷◌, ◌++◌}
use Prim.Native.Nat.{ℕ, ◌+◌, ◌<◌, ◌≤◌}
use native.Mathlib.Omega.{arith}
use native.Mathlib.Decide.{dec_le, ℕ_discrete}
use borrow.Author.Tests.{eq-eqb, ne_eqb, lt-ltb, le-ltb}
use lib.Dec.{eqb, ltb}
use lib.ListN.{length, length-append}
use Rattle.laws.proofs.Chosen.{either}
use Rattle.tally.specs.Tally.{most, has_key, holding_in, total_in, tally_by, tally_of, entries_by, entries_then}
use Rattle.tally.specs.Tally.{number_of}
use Rattle.tally.specs.declared.Entry.{Entry}
use Rattle.tally.proofs.Keys.{key_of, key_turned, or_else, holding_append, holding_other, alone, total_append}
use Rattle.std.specs.Prelude.{Option, Some, None, Result, Ok, Err}
use Rattle.tally.specs.declared.Tallied.{Tallied}
use Rattle.tally.specs.declared.Tallied.TheVariants.{Entered, AlreadyHeld}
use Rattle.tally.specs.declared.Refusal.{Refusal}
use Rattle.tally.specs.declared.Refusal.TheVariants.{OtherCount, Full}

-- what is held under an entry's key
abbrev pub held_by : List Entry → Entry → Option ℕ
held_by es e = holding_in es e.unit e.number

-- when each is answered
pub data Way (es : List Entry) (e : Entry) : Result Tallied Refusal → Type 0 where
  held : held_by es e ≡ Some e.count → Way es e (Ok AlreadyHeld)
  other : (c : ℕ) → held_by es e ≡ Some c → (c ≡ e.count → ⊥) → Way es e (Err OtherCount)
  full : held_by es e ≡ None → most ≤ length es → Way es e (Err Full)
  new : held_by es e ≡ None → length es < most → Way es e (Ok Entered)

-- what entering answers, by what is held and by the test that is left
tally_count : (es : List Entry) (e : Entry) (c : ℕ) (t : Bool) → held_by es e ≡ Some c → eqb c e.count ≡ t
    → tally_of es e ≡ cond t (Ok AlreadyHeld) (Err OtherCount)
unfolding tally_of
tally_count es e c t h k =
    ap (λ (x : Option ℕ). tally_by x (length es) e.count) h ∙ ap (λ (x : Bool). cond x (Ok AlreadyHeld) (Err OtherCount)) k

tally_nothing : (es : List Entry) (e : Entry) (t : Bool) → held_by es e ≡ None → ltb (length es) most ≡ t
    → tally_of es e ≡ cond t (Ok Entered) (Err Full)
unfolding tally_of
tally_nothing es e t h k =
    ap (λ (x : Option ℕ). tally_by x (length es) e.count) h ∙ ap (λ (x : Bool). cond x (Ok Entered) (Err Full)) k

-- what comes to one of the ways is answered so
pub answered : (es : List Entry) (e : Entry) (t : Result Tallied Refusal) → Way es e t → tally_of es e ≡ t
answered es e (Ok AlreadyHeld) (held h) = tally_count es e e.count true h (eq-eqb e.count e.count refl)
answered es e (Err OtherCount) (other c h n) = tally_count es e c false h (ne_eqb _ _ n)
answered es e (Err Full) (full h l) = tally_nothing es e false h (le-ltb _ _ l)
answered es e (Ok Entered) (new h l) = tally_nothing es e true h (lt-ltb _ _ l)

-- and every answer is one of them
pub ways : (es : List Entry) (e : Entry) → Way es e (tally_of es e)
ways es e = by (held_by es e) refl
  where
    count : (c : ℕ) → held_by es e ≡ Some c → Dec (c ≡ e.count) → Way es e (tally_of es e)
    count c h (yes q) =
        let w : Way es e (Ok AlreadyHeld) = held (h ∙ ap Some q) in
        subst (Way es e) (sym (answered es e (Ok AlreadyHeld) w)) w
    count c h (no q) =
        let w : Way es e (Err OtherCount) = other c h q in subst (Way es e) (sym (answered es e (Err OtherCount) w)) w

    nothing : held_by es e ≡ None → Dec (most ≤ length es) → Way es e (tally_of es e)
    nothing h (yes q) = let w : Way es e (Err Full) = full h q in subst (Way es e) (sym (answered es e (Err Full) w)) w
    nothing h (no q) =
        let w : Way es e (Ok Entered) = new h (omega arith) in subst (Way es e) (sym (answered es e (Ok Entered) w)) w

    by : (h : Option ℕ) → held_by es e ≡ h → Way es e (tally_of es e)
    by (Some c) h = count c h (ℕ_discrete c e.count)
    by None h = nothing h (dec_le most (length es))

-- the entries then
pub entries_are : (es : List Entry) (e : Entry) {t : Result Tallied Refusal} → tally_of es e ≡ t → entries_then es e ≡ entries_by t es e
unfolding entries_then
entries_are es e h = ap (λ (t : Result Tallied Refusal). entries_by t es e) h

-- ---- accepted

-- an entry is accepted where it is already held, or new and there is room
pub data Taken (es : List Entry) (e : Entry) : Type 0 where
  again : held_by es e ≡ Some e.count → Taken es e
  fresh : held_by es e ≡ None → length es < most → Taken es e

pub taken : (es : List Entry) (e : Entry) → number_of (tally_of es e) ≡ 0 → Taken es e
taken es e h = by (tally_of es e) (ways es e) h
  where
    by : (t : Result Tallied Refusal) → Way es e t → number_of t ≡ 0 → Taken es e
    by (Ok AlreadyHeld) (held p) h = again p
    by (Err OtherCount) (other c p n) h = absurd (omega arith)
    by (Err Full) (full p l) h = absurd (omega arith)
    by (Ok Entered) (new p l) h = fresh p l

pub taken_answers : (es : List Entry) (e : Entry) → Taken es e → number_of (tally_of es e) ≡ 0
taken_answers es e (again h) = ap number_of (answered es e (Ok AlreadyHeld) (held h))
taken_answers es e (fresh h l) = ap number_of (answered es e (Ok Entered) (new h l))

pub then_again : (es : List Entry) (e : Entry) → held_by es e ≡ Some e.count → entries_then es e ≡ es
then_again es e h = entries_are es e (answered es e (Ok AlreadyHeld) (held h))

pub then_fresh : (es : List Entry) (e : Entry) → held_by es e ≡ None → length es < most
    → entries_then es e ≡ es ++ (e ∷ [])
then_fresh es e h l = entries_are es e (answered es e (Ok Entered) (new h l))

-- ---- lists that answer alike

pub record Same (es fs : List Entry) : Type 0 where
  pub totals : (unit : ℕ) → total_in es unit ≡ total_in fs unit
  pub holds : (unit number : ℕ) → holding_in es unit number ≡ holding_in fs unit number
  pub long : length es ≡ length fs

pub same_refl : (es : List Entry) → Same es es
same_refl es = record { totals = λ u. refl; holds = λ u n. refl; long = refl }

pub same_equal : {es fs : List Entry} → es ≡ fs → Same es fs
same_equal {es} {fs} h =
    record {
      totals = λ u. ap (λ (l : List Entry). total_in l u) h;
      holds = λ u n. ap (λ (l : List Entry). holding_in l u n) h;
      long = ap length h;
    }

pub same_trans : {es fs gs : List Entry} → Same es fs → Same fs gs → Same es gs
same_trans p q =
    record {
      totals = λ u. p.totals u ∙ q.totals u;
      holds = λ u n. p.holds u n ∙ q.holds u n;
      long = p.long ∙ q.long;
    }

pub same_sym : {es fs : List Entry} → Same es fs → Same fs es
same_sym p =
    record { totals = λ u. sym (p.totals u); holds = λ u n. sym (p.holds u n); long = sym p.long }

-- with the same entry behind each
same_behind : (es fs : List Entry) (e : Entry) → Same es fs → Same (es ++ (e ∷ [])) (fs ++ (e ∷ []))
same_behind es fs e p =
    record {
      totals = λ u.
          total_append es (e ∷ []) u
          ∙ ap (λ (n : ℕ). n + total_in (e ∷ []) u) (p.totals u)
          ∙ sym (total_append fs (e ∷ []) u);
      holds = λ u n.
          holding_append es (e ∷ []) u n
          ∙ ap (λ (h : Option ℕ). or_else h (holding_in (e ∷ []) u n)) (p.holds u n)
          ∙ sym (holding_append fs (e ∷ []) u n);
      long = length-append es (e ∷ []) ∙ ap (λ (n : ℕ). n + 1) p.long ∙ sym (length-append fs (e ∷ []));
    }

-- entering answers the same in both, and they answer alike after it
pub same_tally : (es fs : List Entry) (e : Entry) → Same es fs → tally_of es e ≡ tally_of fs e
unfolding tally_of
same_tally es fs e p =
    ap₂ (λ (h : Option ℕ) (n : ℕ). tally_by h n e.count) (p.holds e.unit e.number) p.long

by_same : (t : Result Tallied Refusal) (es fs : List Entry) (e : Entry) → Same es fs → Same (entries_by t es e) (entries_by t fs e)
by_same (Ok Entered) es fs e p = same_behind es fs e p
by_same (Ok AlreadyHeld) es fs e p = p
by_same (Err refusal) es fs e p = p

pub same_then : (es fs : List Entry) (e : Entry) → Same es fs → Same (entries_then es e) (entries_then fs e)
same_then es fs e p =
    same_trans (same_equal (entries_are es e (same_tally es fs e p)))
    (same_trans (by_same (tally_of fs e) es fs e p) (same_equal (sym (entries_are fs e refl))))

-- ---- two entries in either order

-- an entry of another key, entered before, changes nothing of what is held
pub held_after : (es : List Entry) (x y : Entry) → has_key x.unit x.number y ≡ false
    → held_by (entries_then es y) x ≡ held_by es x
held_after es x y d = by (tally_of es y) refl
  where
    by : (t : Result Tallied Refusal) → tally_of es y ≡ t → held_by (entries_then es y) x ≡ held_by es x
    by (Ok Entered) h =
        ap (λ (l : List Entry). held_by l x) (entries_are es y h) ∙ holding_other es y x.unit x.number d
    by (Ok AlreadyHeld) h = ap (λ (l : List Entry). held_by l x) (entries_are es y h)
    by (Err refusal) h = ap (λ (l : List Entry). held_by l x) (entries_are es y h)

-- two entries of different keys, behind a list in either order, answer alike
swapped_behind : (es : List Entry) (x y : Entry) → has_key x.unit x.number y ≡ false
    → Same ((es ++ (x ∷ [])) ++ (y ∷ [])) ((es ++ (y ∷ [])) ++ (x ∷ []))
swapped_behind es x y d =
    record {
      totals = λ u.
          let a = total_append (es ++ (x ∷ [])) (y ∷ []) u in
          let b = total_append es (x ∷ []) u in
          let c = total_append (es ++ (y ∷ [])) (x ∷ []) u in
          let f = total_append es (y ∷ []) u in
          omega (arith, a, b, c, f);
      holds = λ u n.
          two u n x y ∙ ap (or_else (holding_in es u n)) (either (has_key u n x) (first u n) (second u n))
          ∙ sym (two u n y x);
      long =
          let a = length-append (es ++ (x ∷ [])) (y ∷ []) in
          let b = length-append es (x ∷ []) in
          let c = length-append (es ++ (y ∷ [])) (x ∷ []) in
          let f = length-append es (y ∷ []) in
          omega (arith, a, b, c, f);
    }
  where
    assoc : (h i j : Option ℕ) → or_else (or_else h i) j ≡ or_else h (or_else i j)
    assoc (Some c) i j = refl
    assoc None i j = refl

    two : (u n : ℕ) (v w : Entry) → holding_in ((es ++ (v ∷ [])) ++ (w ∷ [])) u n
        ≡ or_else (holding_in es u n) (or_else (holding_in (v ∷ []) u n) (holding_in (w ∷ []) u n))
    two u n v w =
        holding_append (es ++ (v ∷ [])) (w ∷ []) u n
        ∙ ap (λ (h : Option ℕ). or_else h (holding_in (w ∷ []) u n)) (holding_append es (v ∷ []) u n)
        ∙ assoc (holding_in es u n) (holding_in (v ∷ []) u n) (holding_in (w ∷ []) u n)

    first : (u n : ℕ) → has_key u n x ≡ true
        → or_else (holding_in (x ∷ []) u n) (holding_in (y ∷ []) u n)
        ≡ or_else (holding_in (y ∷ []) u n) (holding_in (x ∷ []) u n)
    first u n t =
        let k = key_of u n x t in
        let f : has_key u n y ≡ false = ap₂ (λ (a b : ℕ). has_key a b y) (sym k.0) (sym k.1) ∙ d in
        ap₂ or_else (alone x u n true t) (alone y u n false f)
        ∙ sym (ap₂ or_else (alone y u n false f) (alone x u n true t))

    second : (u n : ℕ) → has_key u n x ≡ false
        → or_else (holding_in (x ∷ []) u n) (holding_in (y ∷ []) u n)
        ≡ or_else (holding_in (y ∷ []) u n) (holding_in (x ∷ []) u n)
    second u n f =
        either (has_key u n y)
        (λ t. ap₂ or_else (alone x u n false f) (alone y u n true t)
        ∙ sym (ap₂ or_else (alone y u n true t) (alone x u n false f)))
        (λ g. ap₂ or_else (alone x u n false f) (alone y u n false g)
        ∙ sym (ap₂ or_else (alone y u n false g) (alone x u n false f)))

-- what two accepted entries of different keys come to in the other order
pub record Exchanged (es : List Entry) (x y : Entry) : Type 0 where
  pub first : Taken es y
  pub second : Taken (entries_then es y) x
  pub same : Same (entries_then (entries_then es x) y) (entries_then (entries_then es y) x)

pub exchanged : (es : List Entry) (x y : Entry) → has_key x.unit x.number y ≡ false → Taken es x
    → Taken (entries_then es x) y → Exchanged es x y
exchanged es x y d p q = by p q
  where
    e : has_key y.unit y.number x ≡ false
    e = key_turned y x ∙ d

    -- what each holds after the other is what it held before
    mine : held_by (entries_then es y) x ≡ held_by es x
    mine = held_after es x y d

    yours : held_by (entries_then es x) y ≡ held_by es y
    yours = held_after es y x e

    by : Taken es x → Taken (entries_then es x) y → Exchanged es x y
    by (again a) (again b) =
        let r = then_again es x a in
        let c : held_by es y ≡ Some y.count = sym yours ∙ b in
        let s = then_again es y c in
        record {
          first = again c;
          second = again (mine ∙ a);
          same =
              same_equal
              (then_again (entries_then es x) y b ∙ r ∙ sym s ∙ sym (then_again (entries_then es y) x (mine ∙ a)));
        }
    by (again a) (fresh b l) =
        let r = then_again es x a in
        let c : held_by es y ≡ None = sym yours ∙ b in
        let m : length es < most = subst (λ (k : List Entry). length k < most) r l in
        record {
          first = fresh c m;
          second = again (mine ∙ a);
          same =
              same_equal
              (ap (λ (k : List Entry). entries_then k y) r ∙ sym (then_again (entries_then es y) x (mine ∙ a)));
        }
    by (fresh a l) (again b) =
        let c : held_by es y ≡ Some y.count = sym yours ∙ b in
        let s = then_again es y c in
        record {
          first = again c;
          second = fresh (mine ∙ a) (subst (λ (k : List Entry). length k < most) (sym s) l);
          same = same_equal (then_again (entries_then es x) y b ∙ ap (λ (k : List Entry). entries_then k x) (sym s));
        }
    by (fresh a l) (fresh b m) =
        let r = then_fresh es x a l in
        let c : held_by es y ≡ None = sym yours ∙ b in
        let s = then_fresh es y c l in
        let f = ap length r ∙ length-append es (x ∷ []) in
        let g = ap length s ∙ length-append es (y ∷ []) in
        let n : length (entries_then es y) < most = omega (arith, f, g) in
        record {
          first = fresh c l;
          second = fresh (mine ∙ a) n;
          same =
              same_trans
              (same_equal (then_fresh (entries_then es x) y b m ∙ ap (λ (k : List Entry). k ++ (y ∷ [])) r))
              (same_trans (swapped_behind es x y d)
              (same_equal
              (sym (then_fresh (entries_then es y) x (mine ∙ a) n ∙ ap (λ (k : List Entry). k ++ (x ∷ [])) s))));
        }
