-- The loops of `packer::byte_at` and `packer::frame_of`: eight bits shifted in one after the other, and eighteen bytes.
-- Assumes nothing.
use mathlib.Core.Path.{◌≡◌, ◌∙◌, sym, refl, ap, subst}
use mathlib.Core.List.{List}
use Prim.Native.Nat.{ℕ, suc, ◌+◌, ◌-◌, ◌*◌, ◌/◌, ◌%◌, ◌^◌, ◌<◌, ◌≤◌}
use native.Mathlib.Omega.{arith}
use native.Mathlib.Numerals.{add-one}
use lib.ListN.{get_or}
use lib.Pow.{pow_mono}
use Rattle.laws.specs.Total.{from_bits}
use Rattle.laws.proofs.Bits.{from_bits_lt, from_bits_low, from_bits_cong}
use Rattle.frame.specs.Frame.{byte_of, shift_of, place_at, sent}
use Rattle.frame.specs.Steps.{entries}
use Rattle.frame.proofs.Order.{place_back}
use Rattle.frame.proofs.Places.{entry_field, entry_bit, field_below, next}

module _ (b : ℕ → ℕ) (bits : (p : ℕ) → b p < 2) (from : ℕ) where
  -- the q bits after place from, the last of them lowest
  pub record Shifted (q x : ℕ) : Type 0 where
    pub upto : q ≤ 8
    pub here : x ≡ from_bits (λ i. b (from + q - i)) q

  -- none shifted in: 0
  pub shifted_none : Shifted 0 0
  unfolding from_bits
  shifted_none = record { upto = omega arith; here = refl }

  module _ {q x : ℕ} (s : Shifted q x) where
    -- q bits make a number below 2 ^ q
    pub shifted_small : x < 2 ^ q
    shifted_small = rw s.here (from_bits_lt (λ i. b (from + q - i)) q (λ i h. bits (from + q - i)))

    -- at most eight bits make a byte
    pub shifted_byte : x < 256
    shifted_byte = let p : 2 ^ q ≤ 2 ^ 8 = pow_mono s.upto in let h = shifted_small in omega (arith, p, h)

    -- and fewer leave room for one more
    pub shifted_room : q < 8 → x < 128
    shifted_room l =
        let l' : q ≤ 7 = omega arith in
        let p : 2 ^ q ≤ 2 ^ 7 = pow_mono l' in
        let h = shifted_small in
        omega (arith, p, h)

    -- one bit more
    pub shifted_more : q < 8 → Shifted (q + 1) (x * 2 + b (from + q + 1))
    shifted_more l = record { upto = omega arith; here = sym grown }
      where
        rest : from_bits (λ i. b (from + (q + 1) - suc i)) q ≡ x
        rest =
            from_bits_cong (λ i. b (from + (q + 1) - suc i)) (λ i. b (from + q - i)) q (λ i h. ap b (omega arith))
            ∙ sym s.here

        first : b (from + (q + 1) - 0) ≡ b (from + q + 1)
        first = ap b (omega arith)

        grown : from_bits (λ i. b (from + (q + 1) - i)) (q + 1) ≡ x * 2 + b (from + q + 1)
        grown =
            ap (from_bits (λ i. b (from + (q + 1) - i))) (add-one q) ∙ from_bits_low (λ i. b (from + (q + 1) - i)) q
            ∙ omega (arith, rest, first)

    -- eight bits
    pub shifted_all : 8 ≤ q → x ≡ from_bits (λ i. b (from + 8 - i)) 8
    shifted_all h =
        let e : q ≡ 8 = omega (arith, s.upto) in
        subst (λ (n : ℕ). x ≡ from_bits (λ i. b (from + n - i)) n) e s.here

-- bit i of byte k stands at place 8 k + 8 - i: eight places a byte, the first of them at the top, as the code goes
-- through them
pub stands_at : (k i : ℕ) → k < 18 → i < 8 → place_at k i ≡ 8 * k + 8 - i
stands_at k i h l =
    ap (λ (x : ℕ). place_at x i) (sym byte) ∙ ap (place_at (byte_of p)) (sym shift)
    ∙ place_back p (omega arith) (omega arith)
  where
    p : ℕ
    p = 8 * k + 8 - i

    byte : byte_of p ≡ k
    byte = omega arith

    shift : shift_of p ≡ i
    shift = omega arith

-- so the bits shifted in after 8 k places are byte k
module _ (b : ℕ → ℕ) (bits : (p : ℕ) → b p < 2) (k : ℕ) (h : k < 18) where
  -- after eight turns the number is the byte
  pub byte_shifted : {q x : ℕ} → Shifted b bits (8 * k) q x → 8 ≤ q → x ≡ from_bits (λ i. b (place_at k i)) 8
  byte_shifted s l =
      shifted_all b bits (8 * k) s l
      ∙ from_bits_cong (λ i. b (8 * k + 8 - i)) (λ i. b (place_at k i)) 8 (λ i m. ap b (sym (stands_at k i h m)))

-- the next bit to send, as the code takes it, of its list t of entries
module _ (v t : List ℕ) (same : t ≡ entries) (p : ℕ) (h : p < 144) where
  -- it is the bit sent at that place
  sent_next : get_or v (get_or t p 0 / 16) 0 / 2 ^ (get_or t p 0 % 16) % 2 ≡ sent (λ f. get_or v f 0) (p + 1)
  unfolding sent
  sent_next = rw (same, entry_field p h, entry_bit p h)

  -- and its field is one of the 29
  pub sent_field : get_or t p 0 / 16 < 29
  sent_field = rw (same, entry_field p h) (rw (next p) (field_below p h))

-- a bit that is sent is a bit
pub sent_small : (v : ℕ → ℕ) (p : ℕ) → sent v p < 2
unfolding sent
sent_small v p = omega arith

-- one bit more shifted in, as the code takes it
pub shifted_turn : (v t : List ℕ) → t ≡ entries → {from q x : ℕ} → from + q < 144
    → Shifted (sent (λ f. get_or v f 0)) (sent_small (λ f. get_or v f 0)) from q x → q < 8
    → Shifted (sent (λ f. get_or v f 0)) (sent_small (λ f. get_or v f 0)) from (q + 1)
    (x * 2 + get_or v (get_or t (from + q) 0 / 16) 0 / 2 ^ (get_or t (from + q) 0 % 16) % 2)
shifted_turn v t same {from} {q} {x} h s l =
    rw (sent_next v t same (from + q) h) (shifted_more (sent (λ f. get_or v f 0)) (sent_small (λ f. get_or v f 0)) from s l)
