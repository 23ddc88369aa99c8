-- The loop of `parity::number_of`: the exclusive or of the numbers of the guarded bits passed that are 1. And the
-- entries of the guarded bits.
-- Assumes nothing.
use mathlib.Core.Path.{◌≡◌, ◌∙◌, sym, refl, ap, subst}
use mathlib.Core.List.{List}
use Prim.Native.Nat.{ℕ, zero, suc, ◌+◌, ◌-◌, ◌*◌, ◌/◌, ◌%◌, ◌<◌, ◌≤◌}
use native.Mathlib.Omega.{arith}
use lib.Dec.{ltb, ltb→lt}
use lib.Bits.{bit_xor, xor_lt}
use lib.ListN.{get_or}
use native.Mathlib.Nat.{mul-one, mul-zero}
use Rattle.laws.specs.Total.{total, bit, from_bits}
use Rattle.laws.proofs.Table.{at}
use Rattle.laws.proofs.Total.{total_more}
use Rattle.laws.proofs.Bits.{from_bits_lt, bit_from_bits, same_bits, bit_xor_lem, bit_zero}
use Rattle.frame.specs.Parity.{number_of}
use Rattle.frame.specs.Steps.{guarded_entries, bit_of_entry}
use Rattle.frame.proofs.Places.{next}

-- each guarded bit is in one of the 29
pub guarded_field : (n : ℕ) → n < 15 → get_or guarded_entries n 0 / 16 < 29
unfolding guarded_entries
guarded_field n h = ltb→lt (get_or guarded_entries n 0 / 16) 29 (at 0 (λ (k e : ℕ). ltb (e / 16) 29) guarded_entries tt n h)

-- the guarded bits of a list of indices, by correction number
abbrev pub guarded_bits : List ℕ → ℕ → ℕ
guarded_bits v n = bit_of_entry v (get_or guarded_entries (n - 1) 0)

-- a bit of a number, taken once or not at all
taken_bit : (n x i : ℕ) → x < 2 → bit (n * x) i ≡ bit n i * x
taken_bit n zero i h = ap (λ (k : ℕ). bit k i) (mul-zero n) ∙ bit_zero i ∙ sym (mul-zero (bit n i))
taken_bit n (suc zero) i h = ap (λ (k : ℕ). bit k i) (mul-one n) ∙ sym (mul-one (bit n i))
taken_bit n (suc (suc x)) i h = absurd (omega arith)

-- a number below 16 taken so is below 16
taken_small : (n x : ℕ) → n < 16 → x < 2 → n * x < 16
taken_small n zero l h = omega arith
taken_small n (suc zero) l h = omega arith
taken_small n (suc (suc x)) l h = absurd (omega arith)

module _ (v : List ℕ) where
  -- the parity of those of the first n guarded bits whose number has bit i
  abbrev parity : ℕ → ℕ → ℕ
  parity n i = total (λ m. bit m i * guarded_bits v m) n % 2

  -- the exclusive or of the numbers of those of the first n guarded bits that are 1: bit i is that parity
  pub record Summed (n number : ℕ) : Type 0 where
    pub upto : n ≤ 15
    pub here : number ≡ from_bits (parity n) 4

  -- none passed: 0
  pub summed_none : Summed 0 0
  unfolding total from_bits
  summed_none = record { upto = omega arith; here = refl }

  module _ {n number : ℕ} (s : Summed n number) where
    -- it is below 16
    pub summed_small : number < 16
    summed_small = rw s.here (from_bits_lt (parity n) 4 (λ i h. omega arith))

    -- one guarded bit more
    pub summed_more : n < 15 → (x : ℕ) → x < 2 → x ≡ guarded_bits v (n + 1)
        → Summed (n + 1) (bit_xor number ((n + 1) * x))
    summed_more h x small e =
        record {
          upto = omega arith;
          here =
              same_bits 4 (bit_xor number ((n + 1) * x)) (from_bits (parity (n + 1)) 4)
              (xor_lt 4 number ((n + 1) * x) summed_small (taken_small (n + 1) x (omega arith) small))
              (from_bits_lt (parity (n + 1)) 4 (λ i l. omega arith))
              (λ i l. bit_xor_lem number ((n + 1) * x) i ∙ grown i l
              ∙ sym (bit_from_bits (parity (n + 1)) 4 i (λ k m. omega arith) l));
        }
      where
        before : (i : ℕ) → i < 4 → bit number i ≡ parity n i
        before i l = ap (λ (k : ℕ). bit k i) s.here ∙ bit_from_bits (parity n) 4 i (λ k m. omega arith) l

        grown : (i : ℕ) → i < 4 → (bit number i + bit ((n + 1) * x) i) % 2 ≡ parity (n + 1) i
        grown i l =
            let old = before i l in
            let one : bit ((n + 1) * x) i ≡ bit (n + 1) i * guarded_bits v (n + 1)
            = taken_bit (n + 1) x i small ∙ ap (λ (k : ℕ). bit (n + 1) i * k) e in
            let sum = total_more (λ m. bit m i * guarded_bits v m) n in
            rw (old, one, sum) (omega arith)

    -- all fifteen passed: it is the correction number
    pub summed_all : 15 ≤ n → number ≡ number_of (guarded_bits v)
    summed_all h =
        let e : n ≡ 15 = omega (arith, s.upto) in
        subst (λ (k : ℕ). number ≡ from_bits (parity k) 4) e s.here

-- the code's view of the guarded bits, by its list t of entries
module _ (t : List ℕ) (same : t ≡ guarded_entries) (n : ℕ) where
  -- the next one is bit n + 1
  pub next_guarded : (v : List ℕ) → bit_of_entry v (get_or t n 0) ≡ guarded_bits v (n + 1)
  next_guarded v =
      ap (λ (l : List ℕ). bit_of_entry v (get_or l n 0)) same
      ∙ ap (λ (k : ℕ). bit_of_entry v (get_or guarded_entries k 0)) (sym (next n))

  -- and is in one of the 29
  pub next_field : n < 15 → get_or t n 0 / 16 < 29
  next_field h = rw same (guarded_field n h)
