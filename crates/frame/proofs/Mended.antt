-- Correction on the list of indices is correction on the bits of the frame.
-- Assumes nothing.
use mathlib.Core.Path.{◌≡◌, ◌∙◌, sym, refl, ap, subst}
use mathlib.Core.Bool.{Bool, true, false, cond}
use mathlib.Core.List.{List}
use Prim.Native.Nat.{ℕ, zero, suc, ◌+◌, ◌-◌, ◌*◌, ◌/◌, ◌%◌, ◌^◌, ◌<◌, ◌≤◌}
use native.Mathlib.Omega.{arith}
use native.Mathlib.Decide.{ℕ_discrete}
use borrow.Author.Tests.{eq-eqb, ne_eqb, lt-ltb}
use lib.Bits.{bit_xor, xor_lt}
use lib.Dec.{T, eqb, eqb→eq, ltb, ltb→lt}
use lib.ListN.{get_or, set}
use lib.Pow.{pow-lt}
use lib.Seq.{get_or-set_same, get_or-set_other}
use Rattle.laws.specs.Table.{every, both, all_below}
use Rattle.laws.specs.Total.{bit}
use Rattle.laws.specs.Tabulate.{tabulate}
use Rattle.laws.proofs.Table.{at, below, each_of_four}
use Rattle.laws.proofs.Total.{total_cong}
use Rattle.laws.proofs.Tabulate.{length_tabulate, get_d_tabulate, tabulate_cong}
use Rattle.laws.proofs.Bits.{from_bits_lt, from_bits_cong, same_bits, bit_xor_lem, bit_pow, bit_pow_other}
use Rattle.frame.specs.Places.{Name, field_of, bit_of, field_at, bit_in, bits_in, place_of}
use Rattle.frame.specs.Places.Name.{HP}
use Rattle.frame.specs.Parity.{guarded, guarded_name, guarded_place, check, number_of, number, inverted, mended}
use Rattle.frame.specs.Correction.{hit_of, correction_of}
use Rattle.frame.specs.Frame.{share, index_in, record_of}
use Rattle.frame.specs.Steps.{guarded_entries, mended_fields, record_by}
use Rattle.frame.specs.declared.Correction.TheVariants.{Clean}
use Rattle.frame.proofs.Fields.{index_small, index_bit, place_first, place_last, field_of_place, bit_of_place}
use Rattle.frame.proofs.Number.{guarded_bits}

-- the field and the bit of correction number n
abbrev pub guarded_field : ℕ → ℕ
guarded_field n = field_of (guarded_name n)

-- its bit in that field
abbrev pub guarded_bit : ℕ → ℕ
guarded_bit n = bit_of (guarded_name n)

-- each guarded bit is a bit of a field, and its entry is made of the two
sound : ℕ → Name → Bool
sound k x =
    both (ltb (field_of x) 29)
    (both (ltb (bit_of x) (bits_in (field_of x)))
    (both (eqb (get_or guarded_entries k 0 / 16) (field_of x)) (eqb (get_or guarded_entries k 0 % 16) (bit_of x))))

-- it passes at all fifteen
all_sound : T (every sound 0 guarded)
unfolding sound guarded_entries
all_sound = tt

-- the place of a guarded bit is that of its field and bit
place_is : (n : ℕ) → 1 ≤ n → guarded_place n ≡ place_of (guarded_field n) (guarded_bit n)
unfolding guarded_place
place_is zero a = absurd (omega arith)
place_is (suc n) a = refl

module _ (n : ℕ) (a : 1 ≤ n) (h : n ≤ 15) where
  -- for the number n
  sound_here : (guarded_field n < 29) × (guarded_bit n < bits_in (guarded_field n))
      × (get_or guarded_entries (n - 1) 0 / 16 ≡ guarded_field n) × (get_or guarded_entries (n - 1) 0 % 16 ≡ guarded_bit n)
  unfolding sound
  sound_here =
      let f = guarded_field n in
      let i = guarded_bit n in
      let e = get_or guarded_entries (n - 1) 0 in
      let t = each_of_four (ltb f 29) (ltb i (bits_in f)) (eqb (e / 16) f) (eqb (e % 16) i)
      (at (HP 0) sound guarded all_sound (n - 1) (omega arith)) in
      (ltb→lt f 29 t.0, ltb→lt i (bits_in f) t.1, eqb→eq (e / 16) f t.2, eqb→eq (e % 16) i t.3)

  -- the field of a guarded bit is one of the record's, or 0
  pub guarded_field_small : guarded_field n < 29
  guarded_field_small = sound_here.0

  -- its bit is one of that field's
  pub guarded_bit_small : guarded_bit n < bits_in (guarded_field n)
  guarded_bit_small = sound_here.1

  -- its entry has the field above
  pub entry_field : get_or guarded_entries (n - 1) 0 / 16 ≡ guarded_field n
  entry_field = sound_here.2

  -- and the bit below
  pub entry_bit : get_or guarded_entries (n - 1) 0 % 16 ≡ guarded_bit n
  entry_bit = sound_here.3

  -- no field has so many as sixteen bits
  pub guarded_bit_short : guarded_bit n < 16
  guarded_bit_short = let e = entry_bit in omega (arith, e)

  -- the bit that its entry names, in a list of indices
  pub guarded_entry : (u : List ℕ) → guarded_bits u n ≡ bit (get_or u (guarded_field n) 0) (guarded_bit n)
  guarded_entry u = rw (entry_field, entry_bit)

  -- its place, in the table
  pub guarded_place_lem : guarded_place n ≡ place_of (guarded_field n) (guarded_bit n)
  guarded_place_lem = place_is n a

  -- its place is 1 or more
  pub guarded_first : 1 ≤ guarded_place n
  guarded_first = rw guarded_place_lem (place_first (guarded_field n) (guarded_bit n) guarded_field_small guarded_bit_small)

  -- and at most 144
  pub guarded_last : guarded_place n ≤ 144
  guarded_last = rw guarded_place_lem (place_last (guarded_field n) (guarded_bit n) guarded_field_small guarded_bit_small)

  -- the field that stands at its place is its own
  pub field_of_guarded : field_at (guarded_place n) ≡ guarded_field n
  field_of_guarded =
      rw guarded_place_lem (field_of_place (guarded_field n) (guarded_bit n) guarded_field_small guarded_bit_small)

  -- and so is the bit there
  pub bit_of_guarded : bit_in (guarded_place n) ≡ guarded_bit n
  bit_of_guarded = rw guarded_place_lem (bit_of_place (guarded_field n) (guarded_bit n) guarded_field_small guarded_bit_small)

-- the entries differ, by a test over all pairs
differ : ℕ → ℕ → Bool
differ i j = cond (eqb (get_or guarded_entries i 0) (get_or guarded_entries j 0)) (eqb i j) true

-- it passes at all pairs
all_differ : T (all_below 15 (λ i. all_below 15 (differ i)))
unfolding differ guarded_entries
all_differ = tt

-- where the entries are the same the numbers are
told : (i j : ℕ) → get_or guarded_entries i 0 ≡ get_or guarded_entries j 0 → T (differ i j) → T (eqb i j)
unfolding differ
told i j e t =
    subst (λ (b : Bool). T (cond b (eqb i j) true)) (eq-eqb (get_or guarded_entries i 0) (get_or guarded_entries j 0) e) t

-- so different numbers have different places
pub guarded_apart : (n m : ℕ) → 1 ≤ n → n ≤ 15 → 1 ≤ m → m ≤ 15 → guarded_place n ≡ guarded_place m → n ≡ m
guarded_apart n m a b c d e = let z = eqb→eq (n - 1) (m - 1) apart in omega (arith, z)
  where
    entries_same : get_or guarded_entries (n - 1) 0 ≡ get_or guarded_entries (m - 1) 0
    entries_same =
        let f : get_or guarded_entries (n - 1) 0 / 16 ≡ get_or guarded_entries (m - 1) 0 / 16
        = entry_field n a b ∙ sym (field_of_guarded n a b) ∙ ap field_at e ∙ field_of_guarded m c d
        ∙ sym (entry_field m c d) in
        let g : get_or guarded_entries (n - 1) 0 % 16 ≡ get_or guarded_entries (m - 1) 0 % 16
        = entry_bit n a b ∙ sym (bit_of_guarded n a b) ∙ ap bit_in e ∙ bit_of_guarded m c d ∙ sym (entry_bit m c d) in
        omega (arith, f, g)

    tested : T (differ (n - 1) (m - 1))
    tested =
        below (differ (n - 1)) 15 (below (λ i. all_below 15 (differ i)) 15 all_differ (n - 1) (omega arith)) (m - 1)
        (omega arith)

    apart : T (eqb (n - 1) (m - 1))
    apart = told (n - 1) (m - 1) entries_same tested

-- correction changes one place at most
pub mended_same : (b : ℕ → ℕ) (p : ℕ) → (p ≡ guarded_place (number b) → ⊥) → mended b p ≡ b p
unfolding mended
mended_same b p e = rw (ne_eqb p (guarded_place (number b)) e)

-- the bit of the number is inverted
pub mended_there : (b : ℕ → ℕ) (p : ℕ) → p ≡ guarded_place (number b) → mended b p ≡ inverted (b p)
unfolding mended
mended_there b p e = rw (eq-eqb p (guarded_place (number b)) e)

module _ (b : ℕ → ℕ) (bits : (p : ℕ) → b p < 2) where
  -- the correction number is below 16
  pub number_small : number b < 16
  unfolding number
  number_small = from_bits_lt (check (λ n. b (guarded_place n))) 4 (λ i h. omega arith)

  -- correction leaves bits
  pub mended_bits : (p : ℕ) → mended b p < 2
  unfolding mended
  mended_bits p = go (eqb p (guarded_place (number b)))
    where
      go : (t : Bool) → cond t (inverted (b p)) (b p) < 2
      go true = omega arith
      go false = bits p

  -- the indices in the frame, by field
  abbrev v : List ℕ
  v = tabulate (index_in b) 29

  -- each stands at its field
  at_field : (f : ℕ) → f < 29 → get_or v f 0 ≡ index_in b f
  at_field f h = get_d_tabulate (index_in b) 0 29 f h

  -- the guarded bits of the list of indices are those of the frame
  guarded_bits_lem : (n : ℕ) → 1 ≤ n → n ≤ 15 → guarded_bits v n ≡ b (guarded_place n)
  guarded_bits_lem n a h =
      guarded_entry n a h v
      ∙ ap (λ (x : ℕ). bit x (guarded_bit n)) (at_field (guarded_field n) (guarded_field_small n a h))
      ∙ index_bit b (guarded_field n) (guarded_field_small n a h) bits (guarded_bit n) (guarded_bit_small n a h)
      ∙ ap b (sym (guarded_place_lem n a h))

  -- so the number found in the list is that of the frame
  pub number_of_fields : number_of (guarded_bits v) ≡ number b
  unfolding number
  number_of_fields =
      from_bits_cong (check (guarded_bits v)) (check (λ n. b (guarded_place n))) 4
      (λ i h. ap (λ (k : ℕ). k % 2)
      (total_cong (λ n. bit n i * guarded_bits v n) (λ n. bit n i * b (guarded_place n)) 15
      (λ n a l. ap (λ (x : ℕ). bit n i * x) (guarded_bits_lem n a l))))

  -- a field away from the mended place keeps its index
  away : (f : ℕ) → ((q : ℕ) → 1 ≤ q → q ≤ 144 → field_at q ≡ f → q ≡ guarded_place (number b) → ⊥)
      → index_in b f ≡ index_in (mended b) f
  unfolding index_in
  away f e = total_cong (share b f) (share (mended b) f) 144 (λ q a l. go q a l (ℕ_discrete (field_at q) f))
    where
      go : (q : ℕ) → 1 ≤ q → q ≤ 144 → Dec (field_at q ≡ f) → share b f q ≡ share (mended b) f q
      go q a l (yes o) =
          ap (λ (x : ℕ). cond (eqb (field_at q) f) (x * 2 ^ bit_in q) 0) (sym (mended_same b q (e q a l o)))
      go q a l (no o) = rw (ne_eqb (field_at q) f o)

  -- with number 0 no place is mended
  none_at_zero : number b ≡ 0 → (q : ℕ) → 1 ≤ q → q ≡ guarded_place (number b) → ⊥
  unfolding guarded_place
  none_at_zero e q a w = let z : guarded_place (number b) ≡ 0 = ap guarded_place e in omega (arith, z)

  module _ (a : 1 ≤ number b) where
    h : number b ≤ 15
    h = let s = number_small in omega (arith, s)

    abbrev F : ℕ
    F = guarded_field (number b)

    abbrev K : ℕ
    K = guarded_bit (number b)

    -- the bits of the field that holds the mended bit
    mended_bit : (i : ℕ) → i < bits_in F → bit (bit_xor (index_in b F) (2 ^ K)) i ≡ bit (index_in (mended b) F) i
    mended_bit i l =
        bit_xor_lem (index_in b F) (2 ^ K) i
        ∙ ap (λ (x : ℕ). (x + bit (2 ^ K) i) % 2) (index_bit b F (guarded_field_small (number b) a h) bits i l)
        ∙ go (ℕ_discrete i K)
        ∙ sym (index_bit (mended b) F (guarded_field_small (number b) a h) mended_bits i l)
      where
        go : Dec (i ≡ K) → (b (place_of F i) + bit (2 ^ K) i) % 2 ≡ mended b (place_of F i)
        go (yes e) =
            rw (e, bit_pow K) (sym (mended_there b (place_of F K) (sym (guarded_place_lem (number b) a h))))
        go (no e) =
            let z = bit_pow_other K i e in
            let s = bits (place_of F i) in
            let same : b (place_of F i) ≡ mended b (place_of F i) = sym (mended_same b (place_of F i) apart) in
            omega (arith, z, s, same)
          where
            apart : place_of F i ≡ guarded_place (number b) → ⊥
            apart w =
                e (sym (bit_of_place F i (guarded_field_small (number b) a h) l)
                ∙ ap bit_in (w ∙ guarded_place_lem (number b) a h)
                ∙ bit_of_place F K (guarded_field_small (number b) a h) (guarded_bit_small (number b) a h))

    -- so the index there with that bit inverted is the index of the mended bits
    mended_value : bit_xor (index_in b F) (2 ^ K) ≡ index_in (mended b) F
    mended_value =
        same_bits (bits_in F) (bit_xor (index_in b F) (2 ^ K)) (index_in (mended b) F)
        (xor_lt (bits_in F) (index_in b F) (2 ^ K) (index_small b F (guarded_field_small (number b) a h) bits)
        (pow-lt (guarded_bit_small (number b) a h)))
        (index_small (mended b) F (guarded_field_small (number b) a h) mended_bits)
        mended_bit

    -- in the list with that index put in, every field holds the index of the mended bits
    at_mended : (f : ℕ) → f < 29 → Dec (f ≡ F) → get_or (set v F (bit_xor (get_or v F 0) (2 ^ K))) f 0 ≡ index_in (mended b) f
    at_mended f l (yes e) =
        rw e
        (get_or-set_same v F (bit_xor (get_or v F 0) (2 ^ K)) 0
        (rw (length_tabulate (index_in b) 29) (guarded_field_small (number b) a h))
        ∙ ap (λ (x : ℕ). bit_xor x (2 ^ K)) (at_field F (guarded_field_small (number b) a h))
        ∙ mended_value)
    at_mended f l (no e) =
        get_or-set_other v F f (bit_xor (get_or v F 0) (2 ^ K)) 0 e ∙ at_field f l
        ∙ away f (λ q p r o w. e (sym o ∙ ap field_at w ∙ field_of_guarded (number b) a h))

  -- the list of indices after correction
  abbrev w : List ℕ
  w = mended_fields v (correction_of (number b))

  -- in every field of the record it holds the index of the mended bits; the parity bits, which no correction of the list
  -- changes, are not among them
  pub mended_fields_lem : (f : ℕ) → 1 ≤ f → f < 29 → get_or w f 0 ≡ index_in (mended b) f
  unfolding correction_of
  mended_fields_lem f a l = go (ℕ_discrete (number b) 0)
    where
      kept : ((q : ℕ) → 1 ≤ q → q ≤ 144 → field_at q ≡ f → q ≡ guarded_place (number b) → ⊥)
          → get_or v f 0 ≡ index_in (mended b) f
      kept e = at_field f l ∙ away f e

      hit : (one : 1 ≤ number b) → Dec (F one ≡ 0)
          → get_or (mended_fields v (hit_of (number b) (guarded_name (number b)))) f 0 ≡ index_in (mended b) f
      hit one (yes e) =
          rw (eq-eqb (F one) 0 e)
          (kept (λ q p r o x. let z = sym o ∙ ap field_at x ∙ field_of_guarded (number b) one (h one) ∙ e in
          omega (arith, z)))
      hit one (no e) =
          rw (
            ne_eqb (F one) 0 e,
            lt-ltb (F one) 29 (guarded_field_small (number b) one (h one)),
            lt-ltb (K one) 16 (guarded_bit_short (number b) one (h one)),
          )
          (at_mended one f l (ℕ_discrete f (F one)))

      go : Dec (number b ≡ 0)
          → get_or (mended_fields v (cond (eqb (number b) 0) Clean
          (cond (ltb (number b) 16) (hit_of (number b) (guarded_name (number b))) Clean))) f 0
          ≡ index_in (mended b) f
      go (yes e) = rw (eq-eqb (number b) 0 e) (kept (λ q p r o x. none_at_zero e q p x))
      go (no e) =
          rw (ne_eqb (number b) 0 e, lt-ltb (number b) 16 number_small)
          (hit (omega (arith, e)) (ℕ_discrete (F (omega (arith, e))) 0))

  -- so the record read is that of the mended bits
  pub record_read : record_by w ≡ record_of (mended b)
  record_read =
      λ i. record {
        lsp = parameters i;
        subframes = indices i;
        sp = mended_fields_lem 27 (omega arith) (omega arith) i;
        sy = mended_fields_lem 28 (omega arith) (omega arith) i;
      }
    where
      parameters : tabulate (λ k. get_or w (k + 1) 0) 10 ≡ tabulate (λ k. index_in (mended b) (k + 1)) 10
      parameters =
          tabulate_cong (λ k. get_or w (k + 1) 0) (λ k. index_in (mended b) (k + 1)) 10
          (λ k l. mended_fields_lem (k + 1) (omega arith) (omega arith))

      indices : tabulate (λ k. get_or w (k + 11) 0) 16 ≡ tabulate (λ k. index_in (mended b) (k + 11)) 16
      indices =
          tabulate_cong (λ k. get_or w (k + 11) 0) (λ k. index_in (mended b) (k + 11)) 16
          (λ k l. mended_fields_lem (k + 11) (omega arith) (omega arith))
