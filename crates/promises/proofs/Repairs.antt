-- What a correction does, shown: the reading is the mended bits, place by place.
-- Assumes nothing.
use mathlib.Core.Path.{◌≡◌, ◌∙◌, sym, refl, ap, ap₂, subst}
use mathlib.Core.Bool.{Bool, true, false, cond}
use mathlib.Core.List.{List, [], ◌∷◌}
use Prim.Native.Nat.{ℕ, zero, suc, ◌+◌, ◌%◌, ◌<◌, ◌≤◌}
use native.Mathlib.Omega.{arith}
use native.Mathlib.Decide.{ℕ_discrete}
use lib.Dec.{eqb}
use Rattle.lsp.specs.Table.{hz_table, hertz_of}
use Rattle.lsp.specs.Order.{mark_of}
use Rattle.laws.specs.Lowest.{lowest_from}
use Rattle.laws.specs.Tabulate.{tabulate_from}
use Rattle.laws.specs.Total.{total, bit, from_bits}
use Rattle.record.specs.Fields.{index_of, width_of}
use Rattle.frame.specs.Places.{places, seek, field_at, bit_in, bits_in, place_of, field_of}
use Rattle.frame.specs.Parity.{guarded_name, guarded_place, number, mended}
use Rattle.frame.specs.Correction.{correction_of, data_number, number_of_case}
use Rattle.frame.specs.Frame.{place_at, bit_at, packed, index_in}
use Rattle.frame.specs.Answers.{reading_of, correction_number, record_mark}
use Rattle.frame.specs.declared.Correction.{Correction}
use Rattle.frame.proofs.Fields.{place_first, field_of_place, bit_of_place}
use Rattle.frame.proofs.Gathered.{bit_at_small}
use Rattle.frame.proofs.Mended.{guarded_field_small, guarded_bit_small, guarded_place_lem, field_of_guarded, mended_same}
use Rattle.frame.proofs.Mended.{mended_there}
use Rattle.frame.proofs.Corrections.{OfData, of_data, of_parity, clean_at_zero}
use Rattle.frame.proofs.Readings.{reading_range, reading_case}
use Rattle.frame.proofs.Laws.{bits_width, packed_byte_lem, length_packed, number_none, nowhere}
use Rattle.promises.specs.Frames.{Eighteen, flipped, NoneGuarded}
use Rattle.promises.specs.Worked.{only, is_in}
use Rattle.promises.specs.Repairs.{FifteenPlaces, read_bit, AsItCame, CleanChangesNothing, ParityHitChangesNothing}
use Rattle.promises.specs.Repairs.{DataHitInvertsOne, Numbered, CaseOfEach, OneNumberEach, TwoNeverMended}
use Rattle.promises.specs.Repairs.{UnguardedUnseen, ThreeUnseen}
use Rattle.promises.specs.Repairs.Numbered.{none, HP-0, HP-1, PD1-5, HP-2, PD1-6, PD1-7, PG1-4, HP-3, PG2-4}
use Rattle.promises.specs.Repairs.Numbered.{PD3-5, PD3-6, PD3-7, PG3-4, PG4-4, SP-0}
use Rattle.promises.proofs.Frames.{read_number, read_bit_lem, flips_bit, flips_number, two_third}

-- a bit at another place than the number's is read as it came
module _ (s : List ℕ) (full : Eighteen s) (f i : ℕ) (a : 1 ≤ f) (l : f ≤ 28) (w : i < width_of f) where
  -- the bit is one of the field's
  wide : i < bits_in f
  wide = rw (bits_width f a) w

  -- any place but that of the number
  as_it_came : (place_of f i ≡ guarded_place (correction_number (reading_of s)) → ⊥) → AsItCame s f i
  as_it_came apart =
      read_bit_lem s full.long f i a l w
      ∙ mended_same (bit_at s) (place_of f i) (λ e. apart (e ∙ ap guarded_place (sym (read_number s full.long))))

  -- the place of a field's bit belongs to the field
  of_field : field_at (place_of f i) ≡ f
  of_field = field_of_place f i (omega arith) wide

  -- no field has a place of number 0
  off_zero : (n : ℕ) → n ≡ 0 → place_of f i ≡ guarded_place n → ⊥
  off_zero n o e =
      let p = place_first f i (omega arith) wide in
      let z : place_of f i ≡ 0 = e ∙ ap guarded_place o ∙ nowhere in
      omega (arith, p, z)

  -- nor the place of a parity bit
  off_parity : (n : ℕ) → 1 ≤ n → n ≤ 15 → field_of (guarded_name n) ≡ 0 → place_of f i ≡ guarded_place n → ⊥
  off_parity n b c o e =
      let z : f ≡ 0 = sym of_field ∙ ap field_at e ∙ field_of_guarded n b c ∙ o in
      omega (arith, z, a)

-- the number of a reading, and the case that it means
module _ (s : List ℕ) where
  abbrev told : ℕ
  told = correction_number (reading_of s)

  below_sixteen : told < 16
  below_sixteen = (reading_range s).numbered

  means : {c : Correction} → (reading_of s).correction ≡ c → correction_of told ≡ c
  means e = sym (reading_case s) ∙ e

pub clean_changes_nothing : CleanChangesNothing
unfolding CleanChangesNothing
clean_changes_nothing s full e f i a l w =
    as_it_came s full f i a l w (off_zero s full f i a l w (told s) (ap number_of_case e))

pub parity_hit_changes_nothing : ParityHitChangesNothing
unfolding ParityHitChangesNothing
parity_hit_changes_nothing s full n e f i a l w = as_it_came s full f i a l w (off (ℕ_discrete (told s) 0))
  where
    off : Dec (told s ≡ 0) → place_of f i ≡ guarded_place (told s) → ⊥
    off (yes z) = off_zero s full f i a l w (told s) z
    off (no z) =
        let h = below_sixteen s in
        off_parity s full f i a l w (told s) (omega (arith, z)) (omega (arith, h))
        (of_parity (told s) n h (means s e) z)

pub data_hit_inverts_one : DataHitInvertsOne
unfolding DataHitInvertsOne
data_hit_inverts_one s full f i e = record {
  field_first = hit.held;
  field_last = last;
  bit_within = within;
  there =
      read_bit_lem s full.long f i hit.held last within
      ∙ mended_there (bit_at s) (place_of f i) (place ∙ ap guarded_place (read_number s full.long));
  elsewhere =
      λ g j a l w other. as_it_came s full g j a l w (λ o. other (same g j a l w (o ∙ sym place)));
}
  where
    hit : OfData (told s) f i
    hit = of_data (told s) f i (below_sixteen s) (means s e)

    upto : told s ≤ 15
    upto = let h = below_sixteen s in omega (arith, h)

    last : f ≤ 28
    last = let h = guarded_field_small (told s) hit.from upto in let o = hit.named in omega (arith, h, o)

    inside : i < bits_in f
    inside = rw (hit.named, hit.there) (guarded_bit_small (told s) hit.from upto)

    within : i < width_of f
    within = subst (λ (x : ℕ). i < x) (bits_width f hit.held) inside

    -- the bit that is named stands at the place of the number
    place : place_of f i ≡ guarded_place (told s)
    place = ap₂ place_of hit.named hit.there ∙ sym (guarded_place_lem (told s) hit.from upto)

    -- a place is one field's, and one bit's
    same : (g j : ℕ) → 1 ≤ g → g ≤ 28 → j < width_of g → place_of g j ≡ place_of f i → (g ≡ f) × (j ≡ i)
    same g j a l w o =
        let u : j < bits_in g = wide s full g j a l w in (
          sym (field_of_place g j (omega arith) u) ∙ ap field_at o ∙ field_of_place f i (omega (arith, last)) inside,
          sym (bit_of_place g j (omega arith) u) ∙ ap bit_in o ∙ bit_of_place f i (omega (arith, last)) inside,
        )

-- each of the sixteen numbers has its case
numbered : (n : ℕ) → n < 16 → Numbered n (correction_of n)
unfolding correction_of
numbered zero h = none
numbered (suc zero) h = HP-0
numbered (suc (suc zero)) h = HP-1
numbered (suc (suc (suc zero))) h = PD1-5
numbered (suc (suc (suc (suc zero)))) h = HP-2
numbered (suc (suc (suc (suc (suc zero))))) h = PD1-6
numbered (suc (suc (suc (suc (suc (suc zero)))))) h = PD1-7
numbered (suc (suc (suc (suc (suc (suc (suc zero))))))) h = PG1-4
numbered (suc (suc (suc (suc (suc (suc (suc (suc zero)))))))) h = HP-3
numbered (suc (suc (suc (suc (suc (suc (suc (suc (suc zero))))))))) h = PG2-4
numbered (suc (suc (suc (suc (suc (suc (suc (suc (suc (suc zero)))))))))) h = PD3-5
numbered (suc (suc (suc (suc (suc (suc (suc (suc (suc (suc (suc zero))))))))))) h = PD3-6
numbered (suc (suc (suc (suc (suc (suc (suc (suc (suc (suc (suc (suc zero)))))))))))) h = PD3-7
numbered (suc (suc (suc (suc (suc (suc (suc (suc (suc (suc (suc (suc (suc zero))))))))))))) h = PG3-4
numbered (suc (suc (suc (suc (suc (suc (suc (suc (suc (suc (suc (suc (suc (suc zero)))))))))))))) h = PG4-4
numbered (suc (suc (suc (suc (suc (suc (suc (suc (suc (suc (suc (suc (suc (suc (suc zero))))))))))))))) h = SP-0
numbered (suc (suc (suc (suc (suc (suc (suc (suc (suc (suc (suc (suc (suc (suc (suc (suc n)))))))))))))))) h =
    absurd (omega arith)

pub case_of_each : CaseOfEach
unfolding CaseOfEach
case_of_each s = subst (Numbered (told s)) (sym (reading_case s)) (numbered (told s) (below_sixteen s))

-- the number of a case, and the case of a number
each_told : (n : ℕ) (c : Correction) → Numbered n c → (n ≡ number_of_case c) × (c ≡ correction_of n)
unfolding correction_of data_number lowest_from
each_told n c none = (refl, refl)
each_told n c HP-0 = (refl, refl)
each_told n c HP-1 = (refl, refl)
each_told n c PD1-5 = (refl, refl)
each_told n c HP-2 = (refl, refl)
each_told n c PD1-6 = (refl, refl)
each_told n c PD1-7 = (refl, refl)
each_told n c PG1-4 = (refl, refl)
each_told n c HP-3 = (refl, refl)
each_told n c PG2-4 = (refl, refl)
each_told n c PD3-5 = (refl, refl)
each_told n c PD3-6 = (refl, refl)
each_told n c PD3-7 = (refl, refl)
each_told n c PG3-4 = (refl, refl)
each_told n c PG4-4 = (refl, refl)
each_told n c SP-0 = (refl, refl)

pub one_number_each : OneNumberEach
unfolding OneNumberEach
one_number_each = (
  λ m n c p q. (each_told m c p).0 ∙ sym (each_told n c q).0,
  λ n c d p q. (each_told n c p).1 ∙ sym (each_told n d q).1,
)

pub two_never_mended : TwoNeverMended
unfolding TwoNeverMended
two_never_mended r w e made full m n both =
    (λ z. (two_third e m n both).0 (same ∙ z), λ z. (two_third e m n both).1 (same ∙ z))
  where
    same : number (bit_at e) ≡ correction_number (reading_of (flipped w e))
    same = sym (read_number e full.long) ∙ sym (flips_number r w made e full)

-- flips that spare the guarded places have number 0
module _ (e : List ℕ) (full : Eighteen e) (spared : NoneGuarded e) where
  none_flipped : correction_number (reading_of e) ≡ 0
  none_flipped =
      read_number e full.long
      ∙ number_none (bit_at e) (bit_at_small e) 1 (omega arith) (omega arith)
      (λ n a l w. spared n (record { from = a; upto = l }))
      (spared 1 (record { from = omega arith; upto = omega arith }))

pub unguarded_unseen : UnguardedUnseen
unfolding UnguardedUnseen CleanChangesNothing
unguarded_unseen r w e made full spared = (
  flips_number r w made e full ∙ none_flipped e full spared,
  λ f i a l h. flips_bit r w made e full f i a l h
      ∙ ap (λ (x : ℕ). (bit (index_of r f) i + x) % 2)
      (clean_changes_nothing e full (reading_case e ∙ ap correction_of (none_flipped e full spared)
      ∙ sym (clean_at_zero 0 refl)) f i a l h),
)

-- three flips whose numbers cancel
three : List ℕ
three = only (21 ∷ 51 ∷ 11 ∷ [])

-- their number is 0
three_number : correction_number (reading_of three) ≡ 0
unfolding three lowest_from tabulate_from total from_bits places seek guarded_place number mended place_at bit_at packed
    index_in reading_of record_mark hz_table hertz_of mark_of correction_of
three_number = refl

-- and PD(1)-5 is read as 1
three_bit : read_bit three 11 5 ≡ 1
unfolding three lowest_from tabulate_from total from_bits places seek guarded_place number mended place_at bit_at packed
    index_in reading_of record_mark hz_table hertz_of mark_of
three_bit = refl

-- a place is in a list or not
is_bit : (p : ℕ) (l : List ℕ) → is_in p l < 2
is_bit p [] = omega arith
is_bit p (q ∷ qs) = go (eqb p q) (is_bit p qs)
  where
    go : (t : Bool) → is_in p qs < 2 → cond t 1 (is_in p qs) < 2
    go true rest = omega arith
    go false rest = rest

-- they are eighteen bytes
three_eighteen : Eighteen three
unfolding three
three_eighteen = record { long = length_packed set; bytes = packed_byte_lem set (λ p. is_bit p (21 ∷ 51 ∷ 11 ∷ [])) }
  where
    set : ℕ → ℕ
    set p = is_in p (21 ∷ 51 ∷ 11 ∷ [])

pub three_unseen : ThreeUnseen
unfolding ThreeUnseen three
three_unseen r w made = (
  flips_number r w made three three_eighteen ∙ three_number,
  flips_bit r w made three three_eighteen 11 5 (omega arith) (omega arith) (omega arith)
      ∙ ap (λ (x : ℕ). (bit (index_of r 11) 5 + x) % 2) three_bit,
)

pub fifteen_places : FifteenPlaces
unfolding FifteenPlaces tabulate_from guarded_place seek places
fifteen_places = refl
