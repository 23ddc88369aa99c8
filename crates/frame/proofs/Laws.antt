-- Laws about the bits of a frame, for whoever reasons about reading and writing: packing, what reading depends on,
-- the parity of a written frame, and flips.
-- Assumes nothing.
use mathlib.Core.Path.{◌≡◌, ◌∙◌, sym, refl, ap}
use mathlib.Core.Bool.{cond}
use mathlib.Core.List.{List}
use Prim.Native.Nat.{ℕ, zero, suc, ◌+◌, ◌*◌, ◌%◌, ◌^◌, ◌<◌, ◌≤◌}
use native.Mathlib.Omega.{arith}
use native.Mathlib.Decide.{ℕ_discrete}
use native.Mathlib.Numerals.{sub-one}
use borrow.Author.Tests.{eq-eqb, ne_eqb}
use lib.Dec.{eqb}
use lib.ListN.{length, get_or}
use Rattle.laws.specs.Total.{total, bit, from_bits}
use Rattle.laws.specs.Tabulate.{tabulate}
use Rattle.laws.proofs.Total.{total_cong, total_parity, total_one, total_two}
use Rattle.laws.proofs.Tabulate.{length_tabulate, get_d_tabulate, tabulate_is, tabulate_cong}
use Rattle.laws.proofs.Bits.{from_bits_lt, from_bits_cong, from_bits_bit, bit_from_bits, bit_zero, same_bits}
use Rattle.record.specs.Fields.{index_of, width_of}
use Rattle.record.specs.declared.Record.{Record}
use Rattle.record.proofs.Laws.{index_given}
use Rattle.frame.specs.Places.{field_at, bit_in, bits_in, place_of}
use Rattle.frame.specs.Parity.{guarded_place, check, number, inverted, mended}
use Rattle.frame.specs.Frame.{byte_of, shift_of, place_at, bit_at, packed, share, index_in, record_of, sent, with_parity}
use Rattle.frame.specs.Frame.{parity_of}
use Rattle.frame.proofs.Order.{byte_small, shift_small, place_back, there_first, there_last, byte_there}
use Rattle.frame.proofs.Order.{shift_there}
use Rattle.frame.proofs.Fields.{index_collected, index_bit, field_small, bit_small, place_of_here}
use Rattle.frame.proofs.Fields.{field_of_place, bit_of_place}
use Rattle.frame.proofs.Mended.{guarded_field, guarded_bit, guarded_first, guarded_last, field_of_guarded}
use Rattle.frame.proofs.Mended.{bit_of_guarded, guarded_apart, mended_same, mended_there}

-- byte k of the bytes packed from the bits b
abbrev pub packed_byte : (ℕ → ℕ) → ℕ → ℕ
packed_byte b k = from_bits (λ i. b (place_at k i)) 8

-- the bits of packed bytes are those that were packed
module _ (b : ℕ → ℕ) (bits : (p : ℕ) → b p < 2) where
  -- at each place
  pub bit_packed : (p : ℕ) → 1 ≤ p → p ≤ 144 → bit_at (packed b) p ≡ b p
  unfolding bit_at packed
  bit_packed p a h =
      ap (λ (x : ℕ). bit x (shift_of p)) (get_d_tabulate (packed_byte b) 0 18 (byte_of p) (byte_small p a h))
      ∙ bit_from_bits (λ i. b (place_at (byte_of p) i)) 8 (shift_of p) (λ k l. bits (place_at (byte_of p) k))
      (shift_small p a h)
      ∙ ap b (place_back p a h)

  -- and they are bytes
  pub packed_byte_lem : (k : ℕ) → k < 18 → get_or (packed b) k 0 < 256
  unfolding packed
  packed_byte_lem k h =
      rw (get_d_tabulate (packed_byte b) 0 18 k h) (from_bits_lt (λ i. b (place_at k i)) 8 (λ i l. bits (place_at k i)))

-- packed bits are eighteen bytes
pub length_packed : (b : ℕ → ℕ) → length (packed b) ≡ 18
unfolding packed
length_packed b = length_tabulate (packed_byte b) 18

-- bit i of byte k is the bit at the place that stands there
pub bit_of_byte : (s : List ℕ) (k i : ℕ) → k < 18 → i < 8 → bit_at s (place_at k i) ≡ bit (get_or s k 0) i
unfolding bit_at
bit_of_byte s k i h l = rw (byte_there k i h l, shift_there k i h l)

-- eighteen bytes are packed from their bits
pub packed_bits : (s : List ℕ) → length s ≡ 18 → ((k : ℕ) → k < 18 → get_or s k 0 < 256) → packed (bit_at s) ≡ s
unfolding packed
packed_bits s long bytes = tabulate_is (packed_byte (bit_at s)) 0 s 18 long byte
  where
    byte : (k : ℕ) → k < 18 → packed_byte (bit_at s) k ≡ get_or s k 0
    byte k h =
        from_bits_cong (λ i. bit_at s (place_at k i)) (bit (get_or s k 0)) 8 (λ i l. bit_of_byte s k i h l)
        ∙ from_bits_bit 8 (get_or s k 0) (bytes k h)

-- bits that agree are packed into the same bytes
pub packed_cong_bits : (b c : ℕ → ℕ) → ((p : ℕ) → 1 ≤ p → p ≤ 144 → b p ≡ c p) → packed b ≡ packed c
unfolding packed
packed_cong_bits b c same =
    tabulate_cong (packed_byte b) (packed_byte c) 18
    (λ k h. from_bits_cong (λ i. b (place_at k i)) (λ i. c (place_at k i)) 8
    (λ i l. same (place_at k i) (there_first k i h l) (there_last k i h l)))

-- reading looks at the places 1 to 144 alone
module _ (b c : ℕ → ℕ) (same : (p : ℕ) → 1 ≤ p → p ≤ 144 → b p ≡ c p) where
  -- the correction number does
  pub number_cong : number b ≡ number c
  unfolding number
  number_cong =
      from_bits_cong (check (λ n. b (guarded_place n))) (check (λ n. c (guarded_place n))) 4
      (λ i l. ap (λ (k : ℕ). k % 2)
      (total_cong (λ n. bit n i * b (guarded_place n)) (λ n. bit n i * c (guarded_place n)) 15
      (λ n a h. ap (λ (x : ℕ). bit n i * x) (same (guarded_place n) (guarded_first n a h) (guarded_last n a h)))))

  -- so does each index
  pub index_cong : (f : ℕ) → index_in b f ≡ index_in c f
  unfolding index_in
  index_cong f =
      total_cong (share b f) (share c f) 144
      (λ p a h. ap (λ (x : ℕ). cond (eqb (field_at p) f) (x * 2 ^ bit_in p) 0) (same p a h))

  -- and the record
  pub record_cong : record_of b ≡ record_of c
  record_cong = λ i. record { lsp = parameters i; subframes = indices i; sp = index_cong 27 i; sy = index_cong 28 i }
    where
      parameters : tabulate (λ k. index_in b (k + 1)) 10 ≡ tabulate (λ k. index_in c (k + 1)) 10
      parameters = tabulate_cong (λ k. index_in b (k + 1)) (λ k. index_in c (k + 1)) 10 (λ k h. index_cong (k + 1))

      indices : tabulate (λ k. index_in b (k + 11)) 16 ≡ tabulate (λ k. index_in c (k + 11)) 16
      indices = tabulate_cong (λ k. index_in b (k + 11)) (λ k. index_in c (k + 11)) 16 (λ k h. index_cong (k + 11))

  -- and what correction makes of each bit
  pub mended_cong : (p : ℕ) → 1 ≤ p → p ≤ 144 → mended b p ≡ mended c p
  unfolding mended
  mended_cong p a h =
      ap (λ (x : ℕ). cond (eqb p (guarded_place (number b))) (inverted x) x) (same p a h)
      ∙ ap (λ (n : ℕ). cond (eqb p (guarded_place n)) (inverted (c p)) (c p)) number_cong

-- an index that fits its field is read as it was sent
pub index_sent : (v : ℕ → ℕ) (f : ℕ) → f < 29 → v f < 2 ^ bits_in f → index_in (sent v) f ≡ v f
unfolding sent
index_sent v f h fits =
    index_collected (sent v) f h
    ∙ from_bits_cong (λ i. sent v (place_of f i)) (bit (v f)) (bits_in f)
    (λ i l. rw (field_of_place f i h l, bit_of_place f i h l))
    ∙ from_bits_bit (bits_in f) (v f) fits

-- no place has number 0
pub nowhere : guarded_place 0 ≡ 0
unfolding guarded_place
nowhere = refl

-- a clean frame is left as it is
pub clean_same : (b : ℕ → ℕ) → number b ≡ 0 → (p : ℕ) → 1 ≤ p → mended b p ≡ b p
clean_same b e p a = go (ℕ_discrete p (guarded_place (number b)))
  where
    go : Dec (p ≡ guarded_place (number b)) → mended b p ≡ b p
    go (yes w) = absurd (let z = ap guarded_place e ∙ nowhere in omega (arith, z))
    go (no w) = mended_same b p w

-- the guarded bits of a frame, by correction number
abbrev pub guarded_of : (ℕ → ℕ) → ℕ → ℕ
guarded_of b n = b (guarded_place n)

-- each bit of the correction number is the check of that parity bit
pub bit_number : (b : ℕ → ℕ) (i : ℕ) → i < 4 → bit (number b) i ≡ check (guarded_of b) i
unfolding number
bit_number b i h = bit_from_bits (check (guarded_of b)) 4 i (λ k l. omega arith) h

-- it is below 16
pub number_below : (b : ℕ → ℕ) → number b < 16
unfolding number
number_below b = from_bits_lt (check (guarded_of b)) 4 (λ i l. omega arith)

-- a number of four bits is known by the checks
pub number_is : (b : ℕ → ℕ) (n : ℕ) → n < 16 → ((i : ℕ) → i < 4 → check (guarded_of b) i ≡ bit n i) → number b ≡ n
unfolding number
number_is b n h e = from_bits_cong (check (guarded_of b)) (bit n) 4 e ∙ from_bits_bit 4 n h

-- number 0: every check is 0
pub clean_check : (b : ℕ → ℕ) → number b ≡ 0 → (i : ℕ) → i < 4 → check (guarded_of b) i ≡ 0
clean_check b e i h = sym (bit_number b i h) ∙ ap (λ (n : ℕ). bit n i) e ∙ bit_zero i

-- two sets of bits laid over each other: 1 where exactly one has 1
module _ (b c d : ℕ → ℕ) (over : (p : ℕ) → 1 ≤ p → p ≤ 144 → d p ≡ (b p + c p) % 2) where
  -- a bit of the sum, taken once or not at all, has the parity of the two summands taken so
  one_parity : (x y z w : ℕ) → w < 2 → z ≡ (x + y) % 2 → (w * z) % 2 ≡ (w * x + w * y) % 2
  one_parity x y z zero h e = omega arith
  one_parity x y z (suc zero) h e = omega (arith, e)
  one_parity x y z (suc (suc w)) h e = absurd (omega arith)

  -- the check of the two together is the sum of their checks
  pub check_over : (i : ℕ) → check (guarded_of d) i ≡ (check (guarded_of b) i + check (guarded_of c) i) % 2
  check_over i =
      let e = total_parity (λ n. bit n i * b (guarded_place n)) (λ n. bit n i * c (guarded_place n))
      (λ n. bit n i * d (guarded_place n)) 15
      (λ n a h. one_parity (b (guarded_place n)) (c (guarded_place n)) (d (guarded_place n)) (bit n i) (omega arith)
      (over (guarded_place n) (guarded_first n a h) (guarded_last n a h))) in
      omega (arith, e)

  -- over a clean frame the number is that of the other alone
  pub number_over : number b ≡ 0 → number d ≡ number c
  number_over e =
      number_is d (number c) (number_below c)
      (λ i h. let o = check_over i in
      let z = clean_check b e i h in
      let s = bit_number c i h in
      omega (arith, o, z, s))

  -- and so is what correction makes of each bit
  pub mended_over : number b ≡ 0 → (p : ℕ) → 1 ≤ p → p ≤ 144 → mended d p ≡ (b p + mended c p) % 2
  mended_over e p a h = go (ℕ_discrete p (guarded_place (number c)))
    where
      place : guarded_place (number d) ≡ guarded_place (number c)
      place = ap guarded_place (number_over e)

      go : Dec (p ≡ guarded_place (number c)) → mended d p ≡ (b p + mended c p) % 2
      go (yes w) =
          let o = over p a h in
          let x : mended d p ≡ (d p + 1) % 2 = mended_there d p (w ∙ sym place) in
          let y : mended c p ≡ (c p + 1) % 2 = mended_there c p w in
          omega (arith, o, x, y)
      go (no w) =
          let o = over p a h in
          let x = mended_same d p (λ v. w (v ∙ place)) in
          let y = mended_same c p w in
          omega (arith, o, x, y)

-- the checks of a record sent with parity bits h
module _ (r : Record) (h : ℕ) where
  abbrev unmarked : ℕ → ℕ
  unmarked = sent (with_parity r 0)

  -- the parity bits alone
  abbrev parity_alone : ℕ → ℕ
  parity_alone p = cond (eqb (field_at p) 0) (bit h (bit_in p)) 0

  -- what is sent is the record without parity, and the parity bits laid over it
  laid_over : (p : ℕ) → 1 ≤ p → p ≤ 144 → sent (with_parity r h) p ≡ (unmarked p + parity_alone p) % 2
  unfolding sent
  laid_over p a l = go (ℕ_discrete (field_at p) 0)
    where
      go : Dec (field_at p ≡ 0) → sent (with_parity r h) p ≡ (unmarked p + parity_alone p) % 2
      go (yes e) = rw (eq-eqb (field_at p) 0 e) (let z = bit_zero (bit_in p) in omega (arith, z))
      go (no e) = rw (ne_eqb (field_at p) 0 e) (omega arith)

  -- of the guarded bits, those of the parity
  at_guarded : (n : ℕ) → 1 ≤ n → n ≤ 15
      → parity_alone (guarded_place n) ≡ cond (eqb (guarded_field n) 0) (bit h (guarded_bit n)) 0
  at_guarded n a l = rw (field_of_guarded n a l, bit_of_guarded n a l)

  -- each parity bit is in its own check and in no other
  four : (i : ℕ) → i < 4
      → total (λ n. bit n i * cond (eqb (guarded_field n) 0) (bit h (guarded_bit n)) 0) 15 % 2 ≡ bit h i
  unfolding total
  four zero l = omega arith
  four (suc zero) l = omega arith
  four (suc (suc zero)) l = omega arith
  four (suc (suc (suc zero))) l = omega arith
  four (suc (suc (suc (suc i)))) l = absurd (omega arith)

  -- so the checks of the parity bits alone are the parity bits
  check_alone : (i : ℕ) → i < 4 → check (guarded_of parity_alone) i ≡ bit h i
  check_alone i l =
      ap (λ (k : ℕ). k % 2)
      (total_cong (λ n. bit n i * parity_alone (guarded_place n))
      (λ n. bit n i * cond (eqb (guarded_field n) 0) (bit h (guarded_bit n)) 0) 15
      (λ n a m. ap (λ (x : ℕ). bit n i * x) (at_guarded n a m)))
      ∙ four i l

  -- a check compares the parity that the record has with the parity sent
  pub check_sent : (i : ℕ) → i < 4 → check (guarded_of (sent (with_parity r h))) i ≡ (bit (parity_of r) i + bit h i) % 2
  unfolding parity_of
  check_sent i l =
      let o = check_over unmarked parity_alone (sent (with_parity r h)) laid_over i in
      let x = check_alone i l in
      let y = bit_number unmarked i l in
      omega (arith, o, x, y)

-- the parity of a record is below 16
pub parity_below : (r : Record) → parity_of r < 16
unfolding parity_of
parity_below r = number_below (sent (with_parity r 0))

-- a written frame is clean
pub written_clean : (r : Record) → number (sent (with_parity r (parity_of r))) ≡ 0
written_clean r =
    number_is (sent (with_parity r (parity_of r))) 0 (omega arith)
    (λ i l. let o = check_sent r (parity_of r) i l in
    let z = bit_zero i in
    omega (arith, o, z))

-- what is read in the bits b: the index in each field of the record
pub index_of_record : (b : ℕ → ℕ) (f : ℕ) → 1 ≤ f → f ≤ 28 → index_of (record_of b) f ≡ index_in b f
index_of_record b f a l = index_given (index_in b) f a l

-- a field's width is the record's
pub bits_width : (f : ℕ) → 1 ≤ f → bits_in f ≡ width_of f
bits_width zero a = absurd (omega arith)
bits_width (suc k) a = rw (sub-one (suc k))

-- any bits are what is sent for the record in them and the parity in them
pub as_sent : (b : ℕ → ℕ) → ((p : ℕ) → b p < 2) → (p : ℕ) → 1 ≤ p → p ≤ 144
    → b p ≡ sent (with_parity (record_of b) (index_in b 0)) p
unfolding sent
as_sent b bits p a l =
    sym (ap (λ (x : ℕ). bit x (bit_in p)) (index (ℕ_discrete (field_at p) 0))
    ∙ index_bit b (field_at p) (field_small p a l) bits (bit_in p) (bit_small p a l)
    ∙ ap b (place_of_here p a l))
  where
    index : Dec (field_at p ≡ 0) → with_parity (record_of b) (index_in b 0) (field_at p) ≡ index_in b (field_at p)
    index (yes e) = rw (eq-eqb (field_at p) 0 e) (ap (index_in b) (sym e))
    index (no e) =
        rw (ne_eqb (field_at p) 0 e)
        (index_of_record b (field_at p) (omega (arith, e)) (let h = field_small p a l in omega (arith, h)))

-- the parity in the bits, from the record in them and the number
pub parity_told : (b : ℕ → ℕ) → ((p : ℕ) → b p < 2) → (i : ℕ) → i < 4
    → check (guarded_of b) i ≡ (bit (parity_of (record_of b)) i + bit (index_in b 0) i) % 2
parity_told b bits i l =
    ap (λ (k : ℕ). k % 2)
    (total_cong (λ n. bit n i * b (guarded_place n))
    (λ n. bit n i * sent (with_parity (record_of b) (index_in b 0)) (guarded_place n)) 15
    (λ n a m. ap (λ (x : ℕ). bit n i * x) (as_sent b bits (guarded_place n) (guarded_first n a m) (guarded_last n a m))))
    ∙ check_sent (record_of b) (index_in b 0) i l

-- flips in the guarded places: none but one
module _ (e : ℕ → ℕ) (bits : (p : ℕ) → e p < 2) (m : ℕ) (a : 1 ≤ m) (l : m ≤ 15)
    (rest : (n : ℕ) → 1 ≤ n → n ≤ 15 → (n ≡ m → ⊥) → e (guarded_place n) ≡ 0) where
  -- each check is the bit of its number, where it is flipped
  check_one : (i : ℕ) → i < 4 → check (guarded_of e) i ≡ bit m i * e (guarded_place m) % 2
  check_one i h =
      ap (λ (k : ℕ). k % 2)
      (total_one (λ n. bit n i * e (guarded_place n)) m 15 a l (λ n p q w. let z = rest n p q w in rw z (omega arith)))

  -- flipped: the number is its own
  pub number_one : e (guarded_place m) ≡ 1 → number e ≡ m
  number_one w = number_is e m (omega arith) (λ i h. let c = check_one i h in c ∙ rw w (omega arith))

  -- not flipped: the number is 0
  pub number_none : e (guarded_place m) ≡ 0 → number e ≡ 0
  number_none w =
      number_is e 0 (omega arith) (λ i h. let c = check_one i h in let z = bit_zero i in c ∙ rw (w, z) (omega arith))

  -- correction takes it away
  pub mended_one : (n : ℕ) → 1 ≤ n → n ≤ 15 → mended e (guarded_place n) ≡ 0
  mended_one n p q = go (ℕ_discrete n m) (e (guarded_place m)) refl (bits (guarded_place m))
    where
      go : Dec (n ≡ m) → (x : ℕ) → e (guarded_place m) ≡ x → x < 2 → mended e (guarded_place n) ≡ 0
      go (yes v) zero w u =
          clean_same e (number_none w) (guarded_place n) (guarded_first n p q) ∙ ap (λ (k : ℕ). e (guarded_place k)) v
          ∙ w
      go (yes v) (suc zero) w u =
          mended_there e (guarded_place n) (ap guarded_place (v ∙ sym (number_one w)))
          ∙ ap inverted (ap (λ (k : ℕ). e (guarded_place k)) v ∙ w)
      go (no v) zero w u = clean_same e (number_none w) (guarded_place n) (guarded_first n p q) ∙ rest n p q v
      go (no v) (suc zero) w u =
          mended_same e (guarded_place n) (λ s. v (guarded_apart n m p q a l (s ∙ ap guarded_place (number_one w))))
          ∙ rest n p q v
      go d (suc (suc x)) w u = absurd (omega arith)

-- and none but two
module _ (e : ℕ → ℕ) (m n : ℕ) (a : 1 ≤ m) (l : m ≤ 15) (b : 1 ≤ n) (k : n ≤ 15) (apart : m ≡ n → ⊥)
    (here : e (guarded_place m) ≡ 1) (there : e (guarded_place n) ≡ 1)
    (rest : (q : ℕ) → 1 ≤ q → q ≤ 15 → (q ≡ m → ⊥) → (q ≡ n → ⊥) → e (guarded_place q) ≡ 0) where
  -- each check is the sum of the bits of the two numbers
  check_two : (i : ℕ) → check (guarded_of e) i ≡ (bit m i + bit n i) % 2
  check_two i =
      ap (λ (x : ℕ). x % 2)
      (total_two (λ q. bit q i * e (guarded_place q)) m n 15 a l b k apart
      (λ q r s t w. let z = rest q r s t w in rw z (omega arith)))
      ∙ rw (here, there) (omega arith)

  -- two are always reported
  pub number_two : number e ≡ 0 → ⊥
  number_two z =
      apart
      (same_bits 4 m n (omega arith) (omega arith)
      (λ i h. let c = check_two i in
      let w = clean_check e z i h in
      omega (arith, c, w)))

  -- by the number of a third place: were it one of the two, the other would be 0
  not_either : (x y : ℕ) → 1 ≤ y → y ≤ 15 → ((i : ℕ) → (bit x i + bit y i) % 2 ≡ (bit m i + bit n i) % 2)
      → number e ≡ x → ⊥
  not_either x y f t both z = omega (arith, none, f)
    where
      none : y ≡ 0
      none =
          same_bits 4 y 0 (omega arith) (omega arith)
          (λ i h. let c = check_two i in
          let w = bit_number e i h in
          let v : bit (number e) i ≡ bit x i = ap (λ (q : ℕ). bit q i) z in
          let o = bit_zero i in
          let p = both i in
          omega (arith, c, w, v, o, p))

  -- so the number is neither of the two
  pub number_third : (number e ≡ m → ⊥) × (number e ≡ n → ⊥)
  number_third = (not_either m n b k (λ i. refl), not_either n m a l (λ i. omega arith))
