-- The window after a rank, and the two ways between codes and delays.
-- Assumes nothing.
use mathlib.Core.Path.{◌≡◌, ◌∙◌, sym, ap, subst}
use mathlib.Core.Bool.{true}
use mathlib.Core.List.{List, [], ◌∷◌}
use Prim.Native.Nat.{ℕ, ◌+◌, ◌-◌, ◌*◌, ◌<◌, ◌≤◌}
use native.Mathlib.Omega.{arith}
use native.Mathlib.Decide.{dec_le}
use lib.Dec.{T, leb, leb→le}
use borrow.Author.Tests.{lt-ltb, le-leb, ltb-true, leb-true}
use Rattle.std.specs.Prelude.{Result, Ok, Err}
use Rattle.laws.proofs.Table.{both_left, both_right}
use Rattle.laws.proofs.Unless.{goes_on}
use Rattle.delays.specs.Table.{delays, twelfths_of, printed_byte, rank_of, rank_with}
use Rattle.delays.specs.Codes.{base_of, after_of, four_meant, meant_by, listed, in_window, pair_of, coded_of}
use Rattle.delays.specs.declared.CodeRefusal.{CodeRefusal}
use Rattle.delays.specs.declared.CodeRefusal.TheVariants.{TooLarge}
use Rattle.delays.specs.declared.DelayRefusal.{DelayRefusal}
use Rattle.delays.specs.declared.DelayRefusal.TheVariants.{NotListed, OutsideWindow}
use Rattle.delays.proofs.Table.{twelfths_low, twelfths_high, twelfths_rise, rank_twelfths, twelfths_rank}
use Rattle.delays.proofs.Table.{rank_byte, byte_below, rank_below, byte_rank}

-- a six-bit code leads to one of the 256 ranks
pub after_below : (rank step : ℕ) → step < 64 → after_of rank step < 256
after_below rank step h = omega arith

-- a rank is one of the first r if its delay is no longer than that of rank r
rank_upto : (rank last : ℕ) → rank < 256 → twelfths_of rank ≤ twelfths_of last → rank ≤ last
rank_upto rank last h l = here (dec_le rank last)
  where
    here : Dec (rank ≤ last) → rank ≤ last
    here (yes s) = s
    here (no n) = absurd (omega (arith, twelfths_rise last rank (omega arith) h))

-- the same in twelfths, as 3.5.5 has it: after 20.00 to 29.25 the codes run from 20.00 to 38.33, after 115 to 147 from
-- 84 to 147
pub window_start : (rank : ℕ) → rank < 256 → twelfths_of rank ≤ 351
    → (twelfths_of (after_of rank 0) ≡ 240) × (twelfths_of (after_of rank 63) ≡ 460)
unfolding delays twelfths_of
window_start rank h l =
    let s : rank ≤ 31 = rank_upto rank 31 h l in
    let e : after_of rank 0 ≡ 0 = omega arith in
    let f : after_of rank 63 ≡ 63 = omega arith in
    (ap twelfths_of e, ap twelfths_of f)

-- after 115 samples and more the 64 codes run from 84 to 147 samples
pub window_end : (rank : ℕ) → rank < 256 → 12 * 115 ≤ twelfths_of rank
    → (twelfths_of (after_of rank 0) ≡ 12 * 84) × (twelfths_of (after_of rank 63) ≡ 12 * 147)
unfolding delays twelfths_of
window_end rank h l =
    let s : 223 ≤ rank = rank_upto 223 rank (omega arith) l in
    let e : after_of rank 0 ≡ 192 = omega arith in
    let f : after_of rank 63 ≡ 255 = omega arith in
    (ap twelfths_of e, ap twelfths_of f)

-- the rank after another is in its window, as far above the base as the code says
pub after_in : (rank step : ℕ) → step < 64 → in_window rank (after_of rank step) ≡ true
after_in rank step h =
    simp (
      le-leb (base_of rank) (after_of rank step) (omega arith),
      le-leb (after_of rank step) (base_of rank + 63) (omega arith),
    )

-- its distance to the base is the code
after_back : (rank step : ℕ) → after_of rank step - base_of rank ≡ step
after_back rank step = omega arith

-- ---- from codes to delays

-- four codes that fit their eight and six bits
pub record Fit (a b c d : ℕ) : Type 0 where
  pub first : a < 256
  pub second : b < 64
  pub third : c < 256
  pub fourth : d < 64

-- an index too large is no answer of delays
not_delays : {ds : List ℕ} (n : ℕ) → ◌≡◌ {A = Result (List ℕ) CodeRefusal} (Err (TooLarge n)) (Ok ds) → ⊥
not_delays n e = let z : ◌≡◌ {A = ℕ} 0 1 = cc in omega arith

module _ (a b c d : ℕ) where
  -- the delays in twelfths of such codes
  abbrev pub first_meant : ℕ
  first_meant = twelfths_of (rank_of a)

  -- the delay of subframe 2, after that of 1
  abbrev pub second_meant : ℕ
  second_meant = twelfths_of (after_of (rank_of a) b)

  -- the delay of subframe 3
  abbrev pub third_meant : ℕ
  third_meant = twelfths_of (rank_of c)

  -- the delay of subframe 4, after that of 3
  abbrev pub fourth_meant : ℕ
  fourth_meant = twelfths_of (after_of (rank_of c) d)

  -- codes that fit have them for their delays
  pub fit_meant : Fit a b c d → four_meant a b c d ≡ Ok (first_meant ∷ second_meant ∷ third_meant ∷ fourth_meant ∷ [])
  fit_meant f =
      rw (
        le-leb a 255 (omega (arith, f.first)),
        le-leb b 63 (omega (arith, f.second)),
        le-leb c 255 (omega (arith, f.third)),
        le-leb d 63 (omega (arith, f.fourth)),
      )

  -- and codes that have delays fit
  pub meant_fit : {ds : List ℕ} → four_meant a b c d ≡ Ok ds
      → Fit a b c d × (ds ≡ first_meant ∷ second_meant ∷ third_meant ∷ fourth_meant ∷ [])
  meant_fit e =
      let one = goes_on (leb a 255) (Err (TooLarge 1)) _ (not_delays 1) e in
      let two = goes_on (leb b 63) (Err (TooLarge 2)) _ (not_delays 2) one.1 in
      let three = goes_on (leb c 255) (Err (TooLarge 3)) _ (not_delays 3) two.1 in
      let four = goes_on (leb d 63) (Err (TooLarge 4)) _ (not_delays 4) three.1 in
      let fit : Fit a b c d =
      record {
        first = omega (arith, leb-true a 255 one.0);
        second = omega (arith, leb-true b 63 two.0);
        third = omega (arith, leb-true c 255 three.0);
        fourth = omega (arith, leb-true d 63 four.0);
      } in
      let is : ◌≡◌ {A = Result (List ℕ) CodeRefusal} (Ok (first_meant ∷ second_meant ∷ third_meant ∷ fourth_meant ∷ [])) (Ok _) =
      four.1 in
      (fit, cc)

  -- the delays of codes that fit have those codes
  pub fit_back : Fit a b c d → coded_of (first_meant ∷ second_meant ∷ third_meant ∷ fourth_meant ∷ []) ≡ Ok (a ∷ b ∷ c ∷ d ∷ [])
  unfolding coded_of
  fit_back f =
      let first : rank_of a < 256 = rank_below a f.first in
      let second : after_of (rank_of a) b < 256 = after_below (rank_of a) b f.second in
      let third : rank_of c < 256 = rank_below c f.third in
      let fourth : after_of (rank_of c) d < 256 = after_below (rank_of c) d f.fourth in
      simp (
        rank_twelfths (rank_of a) first,
        rank_twelfths (after_of (rank_of a) b) second,
        rank_twelfths (rank_of c) third,
        rank_twelfths (after_of (rank_of c) d) fourth,
        lt-ltb (rank_of a) 256 first,
        lt-ltb (after_of (rank_of a) b) 256 second,
        lt-ltb (rank_of c) 256 third,
        lt-ltb (after_of (rank_of c) d) 256 fourth,
        after_in (rank_of a) b f.second,
        after_in (rank_of c) d f.fourth,
        after_back (rank_of a) b,
        after_back (rank_of c) d,
        byte_rank a f.first,
        byte_rank c f.third,
      )

-- codes to delays to codes: the codes come back
pub codes_back : (a b c d : ℕ) {ds : List ℕ} → meant_by (a ∷ b ∷ c ∷ d ∷ []) ≡ Ok ds → coded_of ds ≡ Ok (a ∷ b ∷ c ∷ d ∷ [])
unfolding meant_by
codes_back a b c d e =
    let m = meant_fit a b c d e in
    ap coded_of m.1 ∙ fit_back a b c d m.0

-- what is meant lies between 20 and 147 samples
abbrev pub Within : ℕ → Type 0
Within delay = (240 ≤ delay) × (delay ≤ 1764)

-- the delay of each rank does
rank_within : (rank : ℕ) → rank < 256 → Within (twelfths_of rank)
rank_within rank h = (twelfths_low rank h, twelfths_high rank h)

-- so all four delays of codes that fit do
pub meant_within : (a b c d w x y z : ℕ) → four_meant a b c d ≡ Ok (w ∷ x ∷ y ∷ z ∷ [])
    → Within w × Within x × Within y × Within z
meant_within a b c d w x y z e =
    let m = meant_fit a b c d e in
    let f = m.0 in
    let s : w ∷ x ∷ y ∷ z ∷ [] ≡ first_meant a b c d ∷ second_meant a b c d ∷ third_meant a b c d ∷ fourth_meant a b c d ∷ [] =
    m.1 in (
      subst Within (cc) (rank_within (rank_of a) (rank_below a f.first)),
      subst Within (cc) (rank_within (after_of (rank_of a) b) (after_below (rank_of a) b f.second)),
      subst Within (cc) (rank_within (rank_of c) (rank_below c f.third)),
      subst Within (cc) (rank_within (after_of (rank_of c) d) (after_below (rank_of c) d f.fourth)),
    )

-- ---- from delays to codes

-- a rank in the window comes back from its distance to the base
pub window_step : (before rank : ℕ) → in_window before rank ≡ true
    → (rank - base_of before < 64) × (after_of before (rank - base_of before) ≡ rank)
window_step before rank w =
    let t : T (in_window before rank) = subst T (sym w) tt in
    let low = leb (base_of before) rank in
    let high = leb rank (base_of before + 63) in
    let l : base_of before ≤ rank = leb→le (base_of before) rank (both_left low high t) in
    let h : rank ≤ base_of before + 63 = leb→le rank (base_of before + 63) (both_right low high t) in
    (omega arith, omega arith)

-- two delays of which the second is in the window of the first, and their codes
record Pair (w x a b : ℕ) : Type 0 where
  byte : a < 256
  step : b < 64
  first : twelfths_of (rank_of a) ≡ w
  next : twelfths_of (after_of (rank_of a) b) ≡ x

-- the codes of two listed delays mean those delays
pair_back : (w x a b : ℕ) → listed w ≡ true → listed x ≡ true → in_window (rank_with w) (rank_with x) ≡ true
    → printed_byte (rank_with w) ≡ a → rank_with x - base_of (rank_with w) ≡ b → Pair w x a b
pair_back w x a b lw lx i ea eb =
    let hw : rank_with w < 256 = ltb-true (rank_with w) 256 lw in
    let hx : rank_with x < 256 = ltb-true (rank_with x) 256 lx in
    let l : a < 256 = omega (arith, byte_below (rank_with w) hw) in
    let f : rank_of a ≡ rank_with w = ap rank_of (sym ea) ∙ rank_byte (rank_with w) hw in
    let s = window_step (rank_with w) (rank_with x) i in
    let n : after_of (rank_of a) b ≡ rank_with x =
    ap (λ (r : ℕ). after_of r b) f ∙ ap (after_of (rank_with w)) (sym eb) ∙ s.1 in
    record {
      byte = l;
      step = omega (arith, s.0);
      first = ap twelfths_of f ∙ twelfths_rank w hw;
      next = ap twelfths_of n ∙ twelfths_rank x hx;
    }

-- a refusal is no answer of codes
not_codes : {is : List ℕ} (r : DelayRefusal) → ◌≡◌ {A = Result (List ℕ) DelayRefusal} (Err r) (Ok is) → ⊥
not_codes r e = let z : ◌≡◌ {A = ℕ} 0 1 = cc in omega arith

-- what two subframes that are not refused tell of their delays
pair_on : {is : List ℕ} (n p q : ℕ) (rest : Result (List ℕ) DelayRefusal) → pair_of n p q rest ≡ Ok is
    → (listed p ≡ true) × (listed q ≡ true) × (in_window (rank_with p) (rank_with q) ≡ true) × (rest ≡ Ok is)
pair_on n p q rest e =
    let one = goes_on (listed p) (Err (NotListed n)) _ (not_codes (NotListed n)) e in
    let two = goes_on (listed q) (Err (NotListed (n + 1))) _ (not_codes (NotListed (n + 1))) one.1 in
    let three = goes_on (in_window (rank_with p) (rank_with q)) (Err (OutsideWindow (n + 1))) rest
    (not_codes (OutsideWindow (n + 1))) two.1 in
    (one.0, two.0, three.0, three.1)

-- delays to codes to delays: delays that are accepted come back
module _ (w x y z a b c d : ℕ) where
  -- the codes that are answered mean the delays that were given
  pub delays_back : coded_of (w ∷ x ∷ y ∷ z ∷ []) ≡ Ok (a ∷ b ∷ c ∷ d ∷ [])
      → meant_by (a ∷ b ∷ c ∷ d ∷ []) ≡ Ok (w ∷ x ∷ y ∷ z ∷ [])
  unfolding coded_of meant_by
  delays_back e =
      let on = pair_on 1 w x _ e in
      let off = pair_on 3 y z _ on.3 in
      let step = rank_with x - base_of (rank_with w) in
      let next = rank_with z - base_of (rank_with y) in
      let last : ◌≡◌ {A = Result (List ℕ) DelayRefusal}
      (Ok (printed_byte (rank_with w) ∷ step ∷ printed_byte (rank_with y) ∷ next ∷ [])) (Ok (a ∷ b ∷ c ∷ d ∷ [])) =
      off.3 in
      let p = pair_back w x a b on.0 on.1 on.2 (cc) (cc) in
      let q = pair_back y z c d off.0 off.1 off.2 (cc) (cc) in
      fit_meant a b c d (record { first = p.byte; second = p.step; third = q.byte; fourth = q.step })
      ∙ simp (p.first, p.next, q.first, q.next)
