-- The loops of the functions here and of `decimals`: how each starts, a turn of it, and how it ends.
-- Assumes nothing.
use mathlib.Core.Path.{◌≡◌, ◌∙◌, sym, ap, subst}
use mathlib.Core.List.{List, [], ◌∷◌}
use Prim.Native.Nat.{ℕ, suc, ◌+◌, ◌-◌, ◌/◌, ◌%◌, ◌<◌, ◌≤◌, min}
use native.Mathlib.Omega.{arith}
use native.Mathlib.Decide.{dec_le}
use native.Mathlib.Numerals.{add-one}
use lib.ListN.{length, take, drop, get_or, set, drop_of_length-le}
use lib.Seq.{take-suc, drop-cons, length-take-le}
use Rattle.text.specs.Decimal.{decimal, digit}
use Rattle.text.specs.Laid.{laid, after}
use Rattle.text.proofs.Laid.{length_laid, laid_none, laid_past, laid_one, laid_cons, laid_room, laid_then}
use Rattle.text.proofs.Decimal.{Left, left_all}
use Rattle.text.proofs.Decimal.{left_digit, left_less}

-- at a position past the end nothing is laid
pub past : (o : List ℕ) (at : ℕ) (t : List ℕ) → length o ≤ at → (length o ≡ after o at t) × (o ≡ laid o at t)
past o at t h = (omega arith, sym (laid_past o at t h))

-- one byte, where there is room
pub byte : (o : List ℕ) (at b : ℕ) → at < length o → (at + 1 ≡ after o at (b ∷ [])) × (set o at b ≡ laid o at (b ∷ []))
byte o at b h = (omega arith, laid_one o at b h)

-- of a word w as many bytes as there is room for, and of those the first i laid
pub record Words (o : List ℕ) (at : ℕ) (w : List ℕ) (size i : ℕ) (l : List ℕ) : Type 0 where
  pub starts : at < length o
  pub most : size ≡ min (length w) (length o - at)
  pub upto : i ≤ size
  pub here : l ≡ laid o at (take i w)

-- at the start none
pub word_none : (o : List ℕ) (at : ℕ) (w : List ℕ) (size : ℕ) → at < length o → size ≡ min (length w) (length o - at)
    → Words o at w size 0 o
word_none o at w size h e = record { starts = h; most = e; upto = omega arith; here = sym (laid_none o at) }

module _ {o : List ℕ} {at : ℕ} {w : List ℕ} {size i : ℕ} {l : List ℕ} (p : Words o at w size i l) where
  -- the buffer is as long as it was
  pub word_length : length l ≡ length o
  word_length = ap length p.here ∙ length_laid o at (take i w)

  -- a turn lays one byte
  pub word_more : i < size → Words o at w size (i + 1) (set l (at + i) (get_or w i 0))
  word_more h =
      let long : length (take i w) ≡ i = length-take-le i w (omega (arith, p.most)) in
      let place : at + i ≡ after o at (take i w) = omega (arith, p.most, p.starts) in
      let room : at + i < length (laid o at (take i w)) =
      omega (arith, p.most, p.starts, length_laid o at (take i w)) in
      record {
        starts = p.starts;
        most = p.most;
        upto = omega arith;
        here = ap (λ (s : List ℕ). set s (at + i) (get_or w i 0)) p.here
            ∙ laid_one (laid o at (take i w)) (at + i) (get_or w i 0) room
            ∙ ap (λ (k : ℕ). laid (laid o at (take i w)) k (get_or w i 0 ∷ [])) place
            ∙ laid_then o at (take i w) (get_or w i 0 ∷ [])
            ∙ ap (laid o at) (sym (take-suc w i 0 (omega (arith, p.most))))
            ∙ ap (λ (k : ℕ). laid o at (take k w)) (sym (add-one i));
      }

  -- at the end the word is laid, as much of it as there is room for
  pub word_all : size ≤ i → (at + size ≡ after o at w) × (l ≡ laid o at w)
  word_all h = (omega (arith, p.most, p.starts), p.here ∙ laid_room o at w i (omega (arith, p.most)))

-- the digits of n that have no room are passed over from the last, down to the first i
pub record Passed (o : List ℕ) (at n kept i rest : ℕ) : Type 0 where
  pub starts : at < length o
  pub size : kept ≡ min (length (decimal n)) (length o - at)
  pub downto : kept ≤ i
  pub left : Left n i rest

-- the digits of n that have room are laid from the last, down to the first i
pub record Numbers (o : List ℕ) (at n kept i rest : ℕ) (l : List ℕ) : Type 0 where
  pub starts : at < length o
  pub size : kept ≡ min (length (decimal n)) (length o - at)
  pub downto : i ≤ kept
  pub left : Left n i rest
  pub here : l ≡ laid o (at + i) (drop i (decimal n))

-- at the start none are passed over
pub passed_none : (o : List ℕ) (at n kept i : ℕ) → at < length o → i ≡ length (decimal n) → kept
    ≡ min i (length o - at) → Passed o at n kept i n
passed_none o at n kept i h e k =
    record {
      starts = h;
      size = omega arith;
      downto = omega arith;
      left = subst (λ (m : ℕ). Left n m n) (sym e) (left_all n);
    }

-- a turn passes over one
pub passed_more : {o : List ℕ} {at n kept i rest : ℕ} (j : ℕ) → i ≡ suc j → Passed o at n kept i rest → kept < i
    → Passed o at n kept j (rest / 10)
passed_more j e p h = record {
  starts = p.starts;
  size = p.size;
  downto = omega arith;
  left =
      left_less j e p.left;
}

-- where those with no room are passed over, none is laid yet
pub number_none : {o : List ℕ} {at n kept i rest : ℕ} → Passed o at n kept i rest → i ≤ kept
    → Numbers o at n kept kept rest o
number_none {o} {at} {n} {kept} {i} {rest} p h =
    record {
      starts = p.starts;
      size = p.size;
      downto = omega arith;
      left = subst (λ (k : ℕ). Left n k rest) (omega (arith, p.downto)) p.left;
      here = sym (none (dec_le (length o) (at + kept)));
    }
  where
    none : Dec (length o ≤ at + kept) → laid o (at + kept) (drop kept (decimal n)) ≡ o
    none (yes a) = laid_past o (at + kept) (drop kept (decimal n)) a
    none (no a) =
        let all : length (decimal n) ≤ kept = omega (arith, p.size) in
        ap (laid o (at + kept)) (drop_of_length-le (decimal n) all) ∙ laid_none o (at + kept)

module _ {o : List ℕ} {at n kept i rest : ℕ} {l : List ℕ} (p : Numbers o at n kept i rest l) where
  -- a turn lays the last digit of what is left
  pub number_more : (j : ℕ) → i ≡ suc j → Numbers o at n kept j (rest / 10) (set l (at + j) (digit (rest % 10)))
  number_more j e =
      let place : at + i ≡ at + j + 1 = omega arith in
      record {
        starts = p.starts;
        size = p.size;
        downto = omega (arith, p.downto);
        left = left_less j e p.left;
        here = ap (λ (s : List ℕ). set s (at + j) (digit (rest % 10))) p.here
            ∙ ap (λ (k : ℕ). set (laid o k (drop i (decimal n))) (at + j) (digit (rest % 10))) place
            ∙ laid_cons o (at + j) (digit (rest % 10)) (drop i (decimal n))
            (omega (arith, p.downto, p.size, p.starts))
            ∙ ap (λ (b : ℕ). laid o (at + j) (b ∷ drop i (decimal n))) (sym (left_digit j e p.left))
            ∙ ap (λ (k : ℕ). laid o (at + j) (get_or (decimal n) j 0 ∷ drop k (decimal n))) e
            ∙ ap (laid o (at + j)) (sym (drop-cons (decimal n) j 0 (omega (arith, p.left.upto))));
      }

  -- at the end the number is laid, as much of it as there is room for
  pub number_all : i ≡ 0 → (at + kept ≡ after o at (decimal n)) × (l ≡ laid o at (decimal n))
  number_all e =
      let place : at + i ≡ at = omega arith in (
        omega (arith, p.size, p.starts),
        p.here ∙ ap (λ (k : ℕ). laid o k (drop i (decimal n))) place
            ∙ ap (λ (k : ℕ). laid o at (drop k (decimal n))) e,
      )
