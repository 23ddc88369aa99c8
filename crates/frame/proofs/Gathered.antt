-- The loop of `reader::gather`: after p places each field holds what those places give it.
-- Assumes nothing.
use mathlib.Core.Path.{◌≡◌, ◌∙◌, sym, refl, ap, subst}
use mathlib.Core.Bool.{Bool, true, false, cond}
use mathlib.Core.List.{List}
use Prim.Native.Nat.{ℕ, zero, suc, ◌+◌, ◌-◌, ◌*◌, ◌/◌, ◌%◌, ◌^◌, ◌<◌, ◌≤◌}
use native.Mathlib.Omega.{arith}
use native.Mathlib.Decide.{ℕ_discrete}
use native.Mathlib.Nat.{mod-eq_of_lt}
use native.Mathlib.Numerals.{sub-one}
use borrow.Author.Tests.{eq-eqb, ne_eqb}
use lib.Dec.{eqb}
use lib.ListN.{length, get_or, set, length-set, replicate, get_or-replicate}
use lib.Pow.{pow_mono}
use lib.Seq.{get_or-set_same, get_or-set_other}
use Rattle.laws.specs.Total.{total}
use Rattle.laws.specs.Tabulate.{tabulate}
use Rattle.laws.proofs.Total.{total_more, total_most}
use Rattle.laws.proofs.Filled.{filled_all}
use Rattle.laws.proofs.Tabulate.{length_tabulate, get_d_tabulate}
use Rattle.frame.specs.Places.{field_at, bit_in}
use Rattle.frame.specs.Frame.{byte_of, shift_of, bit_at, share, index_in}
use Rattle.frame.specs.Steps.{entries, indices_up_to}
use Rattle.frame.proofs.Places.{next, field_below, bit_below, entry_field, entry_bit}

-- the bit at the place after 8 k + q of them, as the code takes it: in byte k, q bits below the top
bit_in_lem : (s : List ℕ) (k q : ℕ) → q < 8 → get_or s k 0 / 2 ^ (7 - q) % 2 ≡ bit_at s (8 * k + q + 1)
unfolding bit_at
bit_in_lem s k q h =
    ap (λ (n : ℕ). get_or s n 0 / 2 ^ (7 - q) % 2) byte
    ∙ ap (λ (n : ℕ). get_or s (byte_of (8 * k + q + 1)) 0 / 2 ^ n % 2) shift
  where
    byte : k ≡ byte_of (8 * k + q + 1)
    byte = omega arith

    shift : 7 - q ≡ shift_of (8 * k + q + 1)
    shift = omega arith

-- a bit of a frame is a bit
pub bit_at_small : (s : List ℕ) (p : ℕ) → bit_at s p < 2
unfolding bit_at
bit_at_small s p = omega arith

module _ (b : ℕ → ℕ) (bits : (p : ℕ) → b p < 2) where
  -- a bit with its weight is small
  weighed : (x k : ℕ) → x < 2 → k < 9 → x * 2 ^ k ≤ 256
  weighed zero k h l = omega arith
  weighed (suc zero) k h l = let l' : k ≤ 8 = omega arith in
      let m : 2 ^ k ≤ 2 ^ 8 = pow_mono l' in omega (arith, m)
  weighed (suc (suc x)) k h l = absurd (omega arith)

  -- a bit of a place is one of nine
  bit_small : (p : ℕ) → 1 ≤ p → p ≤ 144 → bit_in p < 9
  bit_small zero l h = absurd (omega arith)
  bit_small (suc k) l h = rw (sub-one (suc k)) (bit_below k (omega arith))

  -- what a place gives to a field is small
  share_small : (f p : ℕ) → 1 ≤ p → p ≤ 144 → share b f p ≤ 256
  share_small f p l h = go (eqb (field_at p) f)
    where
      go : (t : Bool) → cond t (b p * 2 ^ bit_in p) 0 ≤ 256
      go true = weighed (b p) (bit_in p) (bits p) (bit_small p l h)
      go false = omega arith

  -- after p places
  pub record Gathered (p : ℕ) (v : List ℕ) : Type 0 where
    pub long : length v ≡ 29
    pub upto : p ≤ 144
    pub here : (f : ℕ) → f < 29 → get_or v f 0 ≡ total (share b f) p

  -- no place passed: all are 0
  pub gathered_none : Gathered 0 (replicate 29 0)
  unfolding total
  gathered_none = record { long = refl; upto = omega arith; here = λ f h. get_or-replicate 29 f 0 0 h }

  module _ {p : ℕ} {v : List ℕ} (g : Gathered p v) (h : p < 144) where
    abbrev pub weight : ℕ
    weight = b (p + 1) * 2 ^ bit_in (p + 1)

    -- the weight is small
    pub weight_small : weight ≤ 256
    weight_small = weighed (b (p + 1)) (bit_in (p + 1)) (bits (p + 1)) (bit_small (p + 1) (omega arith) (omega arith))

    -- the field of the next place is one of the 29
    pub field_small : field_at (p + 1) < 29
    field_small = rw (next p) (field_below p h)

    -- what a field holds leaves room for one more
    pub room : (f : ℕ) → f < 29 → get_or v f 0 + weight < 65536
    room f l =
        let t : total (share b f) p ≤ 256 * p = total_most (share b f) 256 p
        (λ k q r. share_small f k q (omega (arith, g.upto))) in
        let w = weight_small in
        let e = g.here f l in
        omega (arith, t, w, e)

    -- one place more: its bit goes to its field
    pub gathered_more : Gathered (p + 1) (set v (field_at (p + 1)) (get_or v (field_at (p + 1)) 0 + weight))
    gathered_more =
        record {
          long = length-set v _ _ ∙ g.long;
          upto = omega arith;
          here = λ f l. go f l (ℕ_discrete f (field_at (p + 1)));
        }
      where
        go : (f : ℕ) → f < 29 → Dec (f ≡ field_at (p + 1))
            → get_or (set v (field_at (p + 1)) (get_or v (field_at (p + 1)) 0 + weight)) f 0 ≡ total (share b f) (p + 1)
        go f l (yes e) =
            ap (λ (n : ℕ). get_or (set v (field_at (p + 1)) (get_or v (field_at (p + 1)) 0 + weight)) n 0) e
            ∙ get_or-set_same v (field_at (p + 1)) _ 0 (rw g.long field_small)
            ∙ ap (λ (n : ℕ). get_or v n 0 + weight) (sym e)
            ∙ ap (λ (n : ℕ). n + weight) (g.here f l)
            ∙ ap (λ (n : ℕ). total (share b f) p + n) (sym (rw (eq-eqb (field_at (p + 1)) f (sym e))))
            ∙ sym (total_more (share b f) p)
        go f l (no e) =
            get_or-set_other v (field_at (p + 1)) f _ 0 e
            ∙ g.here f l
            ∙ sym (total_more (share b f) p ∙ rw (ne_eqb (field_at (p + 1)) f (λ w. e (sym w))) (omega arith))

  -- the same as one equation
  pub gathered_is : {p : ℕ} {v : List ℕ} → Gathered p v → v ≡ indices_up_to b p
  unfolding indices_up_to
  gathered_is {p} {v} g =
      filled_all 0 (λ f. total (share b f) p) 29 v (record { long = g.long; upto = omega arith; here = g.here })

  -- and back
  pub gathered_from : {p : ℕ} {v : List ℕ} → p ≤ 144 → v ≡ indices_up_to b p → Gathered p v
  unfolding indices_up_to
  gathered_from {p} {v} h e =
      rw e
      (record {
        long = length_tabulate (λ f. total (share b f) p) 29;
        upto = h;
        here = λ f l. get_d_tabulate (λ f. total (share b f) p) 0 29 f l;
      })

-- they are 29 of them
pub indices_long : (b : ℕ → ℕ) (p : ℕ) → length (indices_up_to b p) ≡ 29
unfolding indices_up_to
indices_long b p = length_tabulate (λ f. total (share b f) p) 29

-- after no place, and after all of them
pub indices_none : (b : ℕ → ℕ) (bits : (p : ℕ) → b p < 2) → replicate 29 0 ≡ indices_up_to b (8 * 0)
indices_none b bits = gathered_is b bits (gathered_none b bits)

-- after eighteen bytes they are the indices in the frame
pub indices_all : (b : ℕ → ℕ) (n : ℕ) {v : List ℕ} → 18 ≤ n → n ≤ 18 → v ≡ indices_up_to b (8 * n)
    → v ≡ tabulate (index_in b) 29
unfolding indices_up_to index_in
indices_all b n a l e = let all : 8 * n ≡ 144 = omega arith in e ∙ ap (indices_up_to b) all

-- a turn as the code takes it, at bit q of byte k from the top: the field of the entry there, and the bit shifted to
-- its weight, of the code's list t of entries
module _ (s t : List ℕ) (same : t ≡ entries) {k q : ℕ} {v : List ℕ}
    (g : Gathered (bit_at s) (bit_at_small s) (8 * k + q) v) (l : k < 18) (h : q < 8) where
  abbrev field : ℕ
  field = get_or t (8 * k + q) 0 / 16

  abbrev shifted : ℕ
  shifted = get_or s k 0 / 2 ^ (7 - q) % 2 * 2 ^ (get_or t (8 * k + q) 0 % 16) % 65536

  -- it is one of the 144 places
  within : 8 * k + q < 144
  within = omega arith

  -- that field is the field of the place
  field_is : field ≡ field_at (8 * k + q + 1)
  field_is = ap (λ (l : List ℕ). get_or l (8 * k + q) 0 / 16) same ∙ entry_field (8 * k + q) within

  -- that bit is the bit of the place with its weight
  shifted_is : shifted ≡ weight (bit_at s) (bit_at_small s) g within
  shifted_is =
      ap (λ (l : List ℕ). get_or s k 0 / 2 ^ (7 - q) % 2 * 2 ^ (get_or l (8 * k + q) 0 % 16) % 65536) same
      ∙ ap (λ (i : ℕ). get_or s k 0 / 2 ^ (7 - q) % 2 * 2 ^ i % 65536) (entry_bit (8 * k + q) within)
      ∙ ap (λ (x : ℕ). x * 2 ^ bit_in (8 * k + q + 1) % 65536) (bit_in_lem s k q h)
      ∙ mod-eq_of_lt (let w = weight_small (bit_at s) (bit_at_small s) g within in omega (arith, w))

  -- the field is one of the 29, and has room for it
  pub turn_field : field < 29
  turn_field = rw field_is (field_small (bit_at s) (bit_at_small s) g within)

  -- a turn's sum has room in sixteen bits
  pub turn_room : get_or v field 0 + shifted < 65536
  turn_room = rw shifted_is (room (bit_at s) (bit_at_small s) g within field turn_field)

  -- with it added, one place more has been passed
  pub turn : Gathered (bit_at s) (bit_at_small s) (8 * k + (q + 1)) (set v field (get_or v field 0 + shifted))
  turn =
      subst (λ (n : ℕ). Gathered (bit_at s) (bit_at_small s) n (set v field (get_or v field 0 + shifted))) after
      (rw (field_is, shifted_is) (gathered_more (bit_at s) (bit_at_small s) g within))
    where
      after : 8 * k + q + 1 ≡ 8 * k + (q + 1)
      after = omega arith

-- from a byte's first place to the next byte's
module _ {b : ℕ → ℕ} {bits : (p : ℕ) → b p < 2} (k : ℕ) {v : List ℕ} where
  -- no bit of a byte passed: the bytes before it are
  pub byte_begun : Gathered b bits (8 * k) v → Gathered b bits (8 * k + 0) v
  byte_begun g = subst (λ (n : ℕ). Gathered b bits n v) same g
    where
      same : 8 * k ≡ 8 * k + 0
      same = omega arith

  -- eight bits of a byte passed: the byte is
  pub byte_done : (q : ℕ) → 8 ≤ q → q ≤ 8 → Gathered b bits (8 * k + q) v → Gathered b bits (8 * (k + 1)) v
  byte_done q l h g = subst (λ (n : ℕ). Gathered b bits n v) same g
    where
      same : 8 * k + q ≡ 8 * (k + 1)
      same = omega arith
