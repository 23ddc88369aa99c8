-- The loop of `put_form`: what the bytes of a form stand for, one after the other.
-- Assumes nothing.
use mathlib.Core.Path.{◌≡◌, ◌∙◌, sym, refl, ap}
use mathlib.Core.List.{List, [], ◌∷◌, ◌++◌, append_assoc, append-nil}
use Prim.Native.Nat.{ℕ, ◌+◌, ◌<◌, ◌≤◌, min}
use native.Mathlib.Omega.{arith}
use native.Mathlib.Decide.{dec_le}
use native.Mathlib.Numerals.{add-one}
use borrow.Author.Tests.{lt-ltb, le-ltb}
use lib.ListN.{length, get_or, take}
use lib.Seq.{take-suc, take_all}
use Rattle.text.specs.Decimal.{decimal}
use Rattle.text.proofs.Laid.{Put, put_as, put_nothing, put_then}
use Rattle.lines.specs.Forms.{shown_by, filled_in}

module _ (numbers : List ℕ) where
  -- a form after a form
  filled_join : (f g : List ℕ) → filled_in numbers (f ++ g) ≡ filled_in numbers f ++ filled_in numbers g
  unfolding filled_in
  filled_join [] g = refl
  filled_join (c ∷ f) g =
      ap (λ (l : List ℕ). shown_by numbers c ++ l) (filled_join f g)
      ∙ sym (append_assoc (shown_by numbers c) (filled_in numbers f) (filled_in numbers g))

  -- of no form nothing is laid
  filled_none : [] ≡ filled_in numbers []
  unfolding filled_in
  filled_none = refl

  -- of a form of one byte what it stands for
  filled_one : (c : ℕ) → shown_by numbers c ≡ filled_in numbers (c ∷ [])
  unfolding filled_in
  filled_one c = sym (append-nil (shown_by numbers c))

  -- the two ways of a turn of `put_form`: a number, or a byte as it is
  module _ (o : List ℕ) (at c : ℕ) {at' end : ℕ} {o' out : List ℕ} (stays : out ≡ o') (ends : end ≡ at') where
    -- a byte below 8 stands for its number
    pub shown_number : c < 8 → Put o at (decimal (get_or numbers c 0)) at' o' → Put o at (shown_by numbers c) end out
    shown_number h p =
        put_as o at (decimal (get_or numbers c 0)) (shown_by numbers c) (rw (lt-ltb c 8 h)) (ends ∙ p.0, stays ∙ p.1)

    -- any other stands for itself
    pub shown_byte : 8 ≤ c → Put o at (c ∷ []) at' o' → Put o at (shown_by numbers c) end out
    shown_byte h p = put_as o at (c ∷ []) (shown_by numbers c) (rw (le-ltb c 8 h)) (ends ∙ p.0, stays ∙ p.1)

-- what the first k bytes of a form stand for is laid
pub record Laying (o : List ℕ) (at : ℕ) (numbers form o' : List ℕ) (end k : ℕ) : Type 0 where
  pub put : Put o at (filled_in numbers (take k form)) end o'

-- before the first byte nothing is laid
pub laying_start : (o : List ℕ) (at : ℕ) (numbers form : List ℕ) {end : ℕ} → end ≡ min at (length o)
    → Laying o at numbers form o end 0
laying_start o at numbers form e =
    record { put = put_as o at [] (filled_in numbers []) (filled_none numbers) (put_nothing o at e) }

module _ {o : List ℕ} {at : ℕ} {numbers form o' : List ℕ} {end k : ℕ} (l : Laying o at numbers form o' end k) where
  -- a turn lays what one byte more stands for
  pub laying_on : k < length form → {o'' : List ℕ} {end' : ℕ}
      → Put o' end (shown_by numbers (get_or form k 0)) end' o'' → Laying o at numbers form o'' end' (k + 1)
  laying_on w p =
      record {
        put =
            put_as o at (filled_in numbers (take k form) ++ shown_by numbers (get_or form k 0))
            (filled_in numbers (take (k + 1) form))
            (ap (λ (t : List ℕ). filled_in numbers (take k form) ++ t) (filled_one numbers (get_or form k 0))
            ∙ sym (filled_join numbers (take k form) (get_or form k 0 ∷ []))
            ∙ ap (filled_in numbers) (sym (take-suc form k 0 w) ∙ ap (λ (n : ℕ). take n form) (sym (add-one k))))
            (put_then o at _ _ l.put p);
      }

  -- after the last all is laid
  pub laying_done : length form ≤ k → Put o at (filled_in numbers form) end o'
  laying_done h = put_as o at (filled_in numbers (take k form)) (filled_in numbers form) (ap (filled_in numbers) (take_all k form h)) l.put

-- of a form that asks for no more bytes than it has, and of one that asks for more
pub all_asked : (form : List ℕ) (asked : ℕ) {size : ℕ} → size ≡ min asked (length form) → take size form ≡ take asked form
all_asked form asked {size} m = go (dec_le asked (length form))
  where
    go : Dec (asked ≤ length form) → take size form ≡ take asked form
    go (yes w) = let e : size ≡ asked = omega (arith, m) in ap (λ (n : ℕ). take n form) e
    go (no w) = take_all size form (omega (arith, m)) ∙ sym (take_all asked form (omega arith))
