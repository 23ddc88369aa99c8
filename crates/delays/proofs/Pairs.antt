-- A pair of subframes, 1 and 2 or 3 and 4: what each test of `coder::coded_pair` tells of the definitions, and how the
-- answers for two pairs make those for four subframes.
-- Assumes nothing.
use mathlib.Core.Path.{◌≡◌, ◌∙◌, sym, refl, ap}
use mathlib.Core.Bool.{Bool, true, false}
use mathlib.Core.List.{List, [], ◌∷◌}
use Prim.Native.Nat.{ℕ, ◌+◌, ◌-◌, ◌<◌, ◌≤◌}
use native.Mathlib.Omega.{arith}
use lib.Dec.{leb, ltb}
use lib.ListN.{get_or}
use borrow.Author.Tests.{lt-ltb, ltb-true, le-leb, lt-leb}
use Rattle.std.specs.Prelude.{Option, Some, None, ok_or, Result, Ok, Err}
use Rattle.laws.specs.Tabulate.{tabulate}
use Rattle.laws.proofs.Tabulate.{get_d_tabulate}
use Rattle.delays.specs.Table.{bytes, twelfths_of, printed_byte, rank_of, rank_with}
use Rattle.laws.specs.Unless.{unless}
use Rattle.delays.specs.Codes.{base_of, after_of, four_meant, listed, rank_found, in_window, pair_of, coded_of}
use Rattle.delays.specs.Steps.{delays_meant, coded_pair, both_inside}
use Rattle.delays.specs.declared.CodeRefusal.TheVariants.{TooLarge}
use Rattle.delays.specs.declared.DelayRefusal.{DelayRefusal}
use Rattle.delays.specs.declared.DelayRefusal.TheVariants.{NotListed, OutsideWindow}

-- a six-bit code leads to one of the 256 ranks
pub next_below : {low : ℕ} (rank b : ℕ) → b ≤ 63 → low ≡ base_of rank → low + b < 256
next_below rank b h e = omega arith

-- the rank that a code of subframe 1 or 3 means, from the table lent
module _ {ranks : List ℕ} (t : ranks ≡ tabulate rank_of 256) (a : ℕ) (h : a ≤ 255) where
  -- the table lent has the rank of each byte
  rank_read : get_or ranks a 0 ≡ rank_of a
  rank_read = rw t (get_d_tabulate rank_of 0 256 a (omega arith))

  -- its delay, worked out of what was read
  pub first_meant : {delay : ℕ} → delay ≡ twelfths_of (get_or ranks a 0) → delay ≡ twelfths_of (rank_of a)
  first_meant e = e ∙ ap twelfths_of rank_read

  -- the delay of a code after it, worked out of the rank that the base leads to
  pub next_meant : {low delay : ℕ} (b : ℕ) → low ≡ base_of (get_or ranks a 0) → delay ≡ twelfths_of (low + b)
      → delay ≡ twelfths_of (after_of (rank_of a) b)
  next_meant b e d = d ∙ ap (λ (n : ℕ). twelfths_of (n + b)) (e ∙ ap base_of rank_read)

-- four codes: each that is too large is told by its subframe, past those that are not
module _ (a b c d : ℕ) where
  -- the code of subframe 1 has more than eight bits
  pub first_large : 255 < a → Err (TooLarge 1) ≡ four_meant a b c d
  first_large h = rw (lt-leb a 255 h)

  module _ (first : a ≤ 255) where
    pub second_large : 63 < b → Err (TooLarge 2) ≡ four_meant a b c d
    second_large h = rw (le-leb a 255 first, lt-leb b 63 h)

    module _ (second : b ≤ 63) where
      pub third_large : 255 < c → Err (TooLarge 3) ≡ four_meant a b c d
      third_large h = rw (le-leb a 255 first, le-leb b 63 second, lt-leb c 255 h)

      module _ (third : c ≤ 255) where
        pub fourth_large : 63 < d → Err (TooLarge 4) ≡ four_meant a b c d
        fourth_large h = rw (le-leb a 255 first, le-leb b 63 second, le-leb c 255 third, lt-leb d 63 h)

        -- and where none is, the delays are meant
        pub none_large : d ≤ 63 → Ok (delays_meant a b c d) ≡ four_meant a b c d
        none_large h = rw (le-leb a 255 first, le-leb b 63 second, le-leb c 255 third, le-leb d 63 h)

-- what the search for a rank tells: one that is found is below 256, and where none is there is no such rank
pub found : (n rank : ℕ) → Some rank ≡ rank_found n → (rank ≡ n) × (n < 256)
found n rank e = go (ltb n 256) refl
  where
    go : (t : Bool) → ltb n 256 ≡ t → (rank ≡ n) × (n < 256)
    go true u = let w : ◌≡◌ {A = Option ℕ} (Some rank) (Some n) = rw u at e in (cc, ltb-true n 256 u)
    go false u = let w : ◌≡◌ {A = Option ℕ} (Some rank) None = rw u at e in absurd (let z : ◌≡◌ {A = ℕ} 0 1 = cc in omega arith)

pub not_found : (n : ℕ) → None ≡ rank_found n → ltb n 256 ≡ false
not_found n e = go (ltb n 256) refl
  where
    go : (t : Bool) → ltb n 256 ≡ t → ltb n 256 ≡ false
    go true u = let w : ◌≡◌ {A = Option ℕ} None (Some n) = rw u at e in absurd (let z : ◌≡◌ {A = ℕ} 0 1 = cc in omega arith)
    go false u = u

-- and then the refusal is the one that was to be told
pub refusal : {o : Option ℕ} (e : DelayRefusal) {x : DelayRefusal} → o ≡ None → Err x ≡ ok_or o e → x ≡ e
refusal e {x} n i = let w : ◌≡◌ {A = Result ℕ DelayRefusal} (Err x) (Err e) = rw n at i in cc

-- delays of a and b twelfths in subframes n and n + 1
module _ (n a b : ℕ) where
  -- a first delay that is not listed is refused
  pub first_unlisted : None ≡ rank_found (rank_with a) → Err (NotListed n) ≡ coded_pair n a b
  unfolding coded_pair
  first_unlisted e = rw (not_found _ e)

  module _ {r : ℕ} (first : Some r ≡ rank_found (rank_with a)) where
    pub second_unlisted : None ≡ rank_found (rank_with b) → Err (NotListed (n + 1)) ≡ coded_pair n a b
    unfolding coded_pair
    second_unlisted e = let f = found _ _ first in rw (lt-ltb (rank_with a) 256 f.1, not_found _ e)

    module _ {s : ℕ} (second : Some s ≡ rank_found (rank_with b)) {low : ℕ} (lowest : low ≡ base_of r) where
      -- where both are listed, the window decides
      decided : (w : Bool) → in_window r s ≡ w → unless w (Err (OutsideWindow (n + 1))) (Ok (r, s - low)) ≡ coded_pair n a b
      unfolding coded_pair
      decided w e =
          let f = found _ _ first in
          let g = found _ _ second in
          let i : in_window (rank_with a) (rank_with b) ≡ w = (rw (f.0, g.0) at e) in
          rw (lt-ltb (rank_with a) 256 f.1, lt-ltb (rank_with b) 256 g.1, i, lowest, f.0, g.0)

      pub below_window : s < low → Err (OutsideWindow (n + 1)) ≡ coded_pair n a b
      below_window h = decided false (let l : leb (base_of r) s ≡ false = lt-leb (base_of r) s (omega arith) in rw l)

      pub above_window : low ≤ s → 63 < s - low → Err (OutsideWindow (n + 1)) ≡ coded_pair n a b
      above_window g h =
          decided false
          (let l : leb (base_of r) s ≡ true = le-leb (base_of r) s (omega arith) in
          let m : leb s (base_of r + 63) ≡ false = lt-leb s (base_of r + 63) (omega arith) in
          rw (l, m))

      pub inside_window : low ≤ s → s - low ≤ 63 → Ok (r, s - low) ≡ coded_pair n a b
      inside_window g h =
          decided true
          (let l : leb (base_of r) s ≡ true = le-leb (base_of r) s (omega arith) in
          let m : leb s (base_of r + 63) ≡ true = le-leb s (base_of r + 63) (omega arith) in
          rw (l, m))

-- a pair's answer, with what comes after it
abbrev pub carried : Result (ℕ × ℕ) DelayRefusal → (ℕ → ℕ → Result (List ℕ) DelayRefusal) → Result (List ℕ) DelayRefusal
carried (Err e) rest = Err e
carried (Ok p) rest = rest p.0 p.1

-- so the tests of a pair are those of two subframes
carried_tests : (n r s : ℕ) (rest : ℕ → ℕ → Result (List ℕ) DelayRefusal) (p q w : Bool)
    → carried (unless p (Err (NotListed n)) (unless q (Err (NotListed (n + 1))) (unless w (Err (OutsideWindow (n + 1)))
    (Ok (r, s))))) rest
    ≡ unless p (Err (NotListed n)) (unless q (Err (NotListed (n + 1))) (unless w (Err (OutsideWindow (n + 1))) (rest r s)))
carried_tests n r s rest false q w = refl
carried_tests n r s rest true false w = refl
carried_tests n r s rest true true false = refl
carried_tests n r s rest true true true = refl

-- a pair's answer, carried on, is what the definition says of its subframes
pair_carried : (n a b : ℕ) (rest : ℕ → ℕ → Result (List ℕ) DelayRefusal)
    → carried (coded_pair n a b) rest ≡ pair_of n a b (rest (rank_with a) (rank_with b - base_of (rank_with a)))
unfolding coded_pair
pair_carried n a b rest =
    carried_tests n (rank_with a) (rank_with b - base_of (rank_with a)) rest (listed a) (listed b)
    (in_window (rank_with a) (rank_with b))

-- the codes from the table of bytes
module _ {table : List ℕ} (t : table ≡ bytes) where
  -- two bytes read from it make the four codes
  pub four_codes : (r s u v : ℕ) → get_or table r 0 ∷ s ∷ get_or table u 0 ∷ v ∷ [] ≡ both_inside r s u v
  unfolding printed_byte
  four_codes r s u v = rw t

-- what the first pair's answer makes of four delays, and what the second's does past it
module _ (t : List ℕ) where
  -- what comes after the first pair: the second, and then the codes
  abbrev pub later : ℕ → ℕ → Result (List ℕ) DelayRefusal
  later r s = carried (coded_pair 3 (get_or t 2 0) (get_or t 3 0)) (λ u v. Ok (both_inside r s u v))

  -- both pairs, one carried after the other, are the four delays
  whole : carried (coded_pair 1 (get_or t 0 0) (get_or t 1 0)) later ≡ coded_of t
  unfolding coded_of
  whole =
      pair_carried 1 (get_or t 0 0) (get_or t 1 0) later
      ∙ ap (pair_of 1 (get_or t 0 0) (get_or t 1 0))
      (pair_carried 3 (get_or t 2 0) (get_or t 3 0)
      (λ u v. Ok (both_inside (rank_with (get_or t 0 0)) (rank_with (get_or t 1 0) - base_of (rank_with (get_or t 0 0))) u v)))

  -- so where the first pair's answer is known, that carried is the whole answer
  pub by_first : {p : Result (ℕ × ℕ) DelayRefusal} → coded_pair 1 (get_or t 0 0) (get_or t 1 0) ≡ p → carried p later ≡ coded_of t
  by_first e = ap (λ (x : Result (ℕ × ℕ) DelayRefusal). carried x later) (sym e) ∙ whole

  -- and past a first pair inside its window, the second pair's
  pub by_second : {r s : ℕ} {q : Result (ℕ × ℕ) DelayRefusal} → coded_pair 1 (get_or t 0 0) (get_or t 1 0) ≡ Ok (r, s)
      → coded_pair 3 (get_or t 2 0) (get_or t 3 0) ≡ q
      → carried q (λ u v. Ok (both_inside r s u v)) ≡ coded_of t
  by_second {r} {s} e f = ap (λ (x : Result (ℕ × ℕ) DelayRefusal). carried x (λ u v. Ok (both_inside r s u v))) (sym f) ∙ by_first e
