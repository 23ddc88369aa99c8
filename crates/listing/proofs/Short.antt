-- Every listing is short enough. The bounds are loose where the room is large: 3,640 lines of at most 35 bytes, and a
-- thousand for each of the other lines. Assumes nothing.
use mathlib.Core.Path.{◌≡◌, refl}
use mathlib.Core.List.{List, [], ◌∷◌}
use Prim.Native.Nat.{ℕ, zero, suc, ◌+◌, ◌*◌, ◌^◌, ◌<◌, ◌≤◌}
use native.Mathlib.Omega.{arith}
use lib.Dec.{eqb}
use lib.ListN.{length, get_or, take, length-append}
use Rattle.std.specs.Prelude.{Ok, Err}
use Rattle.laws.proofs.Chosen.{chosen}
use Rattle.frame.specs.Correction.{number_of_case}
use Rattle.frame.specs.Answers.{reading_of}
use Rattle.frame.specs.declared.Correction.{Correction}
use Rattle.frame.specs.declared.Correction.TheVariants.{Clean, Parity, Data}
use Rattle.frame.proofs.Readings.{reading_range, reading_sync}
use Rattle.values.specs.Values.{fresh_state, values_of}
use Rattle.values.specs.Outcome as values
use Rattle.values.specs.declared.State.{State}
use Rattle.values.specs.declared.Outcome.{Outcome}
use Rattle.values.proofs.Laws.{delays_most}
use Rattle.blocks.specs.Walk.{walked_of}
use Rattle.blocks.specs.Frames.{frames_of}
use Rattle.blocks.specs.Refusals.{refusal_of, told_of}
use Rattle.blocks.specs.declared.Cause.{Cause}
use Rattle.blocks.specs.declared.Cause.TheVariants.{TooLong, HeaderCut, PastEnd, WrongSize, UnknownKind}
use Rattle.blocks.specs.declared.Cause.TheVariants.{OutOfTurn, EndMissing, WrongCount, Extra}
use Rattle.blocks.specs.declared.Told.{Told}
use Rattle.blocks.specs.declared.Told.TheVariants.{Nothing, Place, PlaceAndSize}
use Rattle.blocks.specs.Walk.{Ending}
use Rattle.blocks.specs.declared.Walk.{Walk}
use Rattle.blocks.proofs.Walks.{sound_short}
use Rattle.passes.specs.Counted.{counts_of}
use Rattle.passes.specs.Pass.{hearing_of, state_through}
use Rattle.passes.specs.declared.Counts.{Counts}
use Rattle.passes.proofs.Counting.{repaired_few, breaks_few}
use Rattle.passes.proofs.Hearings.{heard_there}
use Rattle.passes.proofs.Passes.{frames_most}
use Rattle.text.specs.Ascii.{ascii}
use Rattle.text.specs.Decimal.{decimal}
use Rattle.text.proofs.Decimal.{decimal_most}
use Rattle.lines.specs.Lines.{pair_line, head_line, fields, letter_of, corrected, rest_of, frame_line, last_line}
use Rattle.lines.specs.Lines.{numbers_shown, refusal_line, refused_line}
use Rattle.listing.specs.Listing.{said_of, head_of, frame_of, last_of, lines_to, body_of, sound_text, text_by}
use Rattle.listing.specs.Listing.{listing_of, room}
use Rattle.listing.specs.Promised.{ListingFits}
use Rattle.listing.proofs.Told.{Tens, Brief, walked_small, walked_brief}

-- ---- lines of words and numbers

-- a line of two words and their numbers, none of them over a hundred bytes or twenty digits
pair_short : (first : List ℕ) (m : ℕ) (second : List ℕ) (n : ℕ) → length first ≤ 100 → length second ≤ 100
    → m < 10 ^ 20 → n < 10 ^ 20
    → length (pair_line first m second n) ≤ 300
unfolding pair_line
pair_short first m second n a b c d =
    let l = decimal_most m 20 (omega arith) c in
    let k = decimal_most n 20 (omega arith) d in
    simp length-append (omega arith)

-- the last line has at most a thousand bytes, with counts of at most twenty digits
last_short : (c : Counts) → c.repaired < 10 ^ 20 → c.breaks < 10 ^ 20 → length (last_of c) ≤ 1000
unfolding last_line
last_short c a b = let l = pair_short (ascii "repaired ") c.repaired (ascii " breaks ") c.breaks (omega arith)
    (omega arith) a b in omega arith

-- and so has the first
head_short : (w : Walk) → w.heading.unit < 10 ^ 20 → w.heading.number < 10 ^ 20 → w.frames < 10 ^ 20
    → length (head_of w) ≤ 1000
unfolding head_line
head_short w a b c =
    let u = decimal_most w.heading.unit 20 (omega arith) a in
    let l = pair_short (ascii " recording ") w.heading.number (ascii " frames ") w.frames (omega arith)
    (omega arith) b c in
    simp length-append (omega arith)

-- ---- fields

-- a number below 10 to the d takes at most a space and d bytes
field_short : (n d : ℕ) (ns : List ℕ) → 1 ≤ d → n < 10 ^ d → length (fields (n ∷ ns)) ≤ d + 1 + length (fields ns)
unfolding fields
field_short n d ns a h = let l : length (decimal n) ≤ d = decimal_most n d a h in simp length-append (omega arith)

-- no numbers take no bytes
fields_none : length (fields []) ≡ 0
unfolding fields
fields_none = refl

-- numbers of ten digits take at most eleven bytes each
fields_short : (ns : List ℕ) → Tens ns → length (fields ns) ≤ 11 * length ns
unfolding Tens
fields_short [] t = let z = fields_none in omega arith
fields_short (n ∷ ns) t =
    let f = field_short n 10 ns (omega arith) t.0 in
    let r = fields_short ns t.1 in
    omega arith

-- ---- the line of a refusal

-- a refusal's number has two digits at most
refusal_small : (cause : Cause) → refusal_of cause < 10 ^ 2
refusal_small TooLong = omega arith
refusal_small (HeaderCut p) = omega arith
refusal_small (PastEnd p) = omega arith
refusal_small (WrongSize p size) = omega arith
refusal_small (UnknownKind p) = omega arith
refusal_small (OutOfTurn p) = omega arith
refusal_small (EndMissing p) = omega arith
refusal_small (WrongCount p) = omega arith
refusal_small (Extra p) = omega arith

-- it shows two numbers at most beside its own
shown_few : (t : Told) → length (numbers_shown t) ≤ 2
shown_few Nothing = omega arith
shown_few (Place p) = omega arith
shown_few (PlaceAndSize p size) = omega arith

-- so with a place and a size of ten digits each the line has at most a thousand bytes
refused_short : (cause : Cause) → Tens (numbers_shown (told_of cause)) → length (refused_line cause) ≤ 1000
unfolding refused_line refusal_line
refused_short cause t =
    let n = decimal_most (refusal_of cause) 2 (omega arith) (refusal_small cause) in
    let f = fields_short (numbers_shown (told_of cause)) t in
    let k = shown_few (told_of cause) in
    simp length-append (omega arith)

-- ---- the line of a frame

-- the refusal of a frame has one digit
outcome_small : (o : Outcome) → values.refusal_of o < 10 ^ 1
outcome_small Outcome.Heard = omega arith
outcome_small (Outcome.TooLarge f) = omega arith
outcome_small Outcome.Expansion = omega arith
outcome_small Outcome.Nothing = omega arith

-- a letter is one byte
letter_one : (c : Correction) → length (letter_of c) ≡ 1
letter_one Clean = refl
letter_one (Parity n) = refl
letter_one (Data f i) = refl

-- a correction takes at most a space and two digits, and a space and its letter
corrected_short : (c : Correction) → number_of_case c < 16 → length (corrected c) ≤ 5
unfolding corrected
corrected_short c h =
    let b = field_short (number_of_case c) 2 [] (omega arith) (omega arith) in
    let z = fields_none in
    let l = letter_one c in
    simp length-append (omega arith)

module _ (before : State) (f : List ℕ) where
  -- a delay takes at most a space and four digits
  delay_short : (k : ℕ) → k < 4 → (ns : List ℕ)
      → length (fields (get_or (values_of (reading_of f).indices before).delays k 0 ∷ ns)) ≤ 5 + length (fields ns)
  delay_short k h ns =
      let m = delays_most (reading_of f).indices before k h in
      let l = field_short (get_or (values_of (reading_of f).indices before).delays k 0) 4 ns (omega arith)
      (omega arith) in
      omega arith

  numbers_short : let d = (values_of (reading_of f).indices before).delays in
      length (fields ((reading_of f).mark ∷ (reading_of f).indices.sy ∷ get_or d 0 0 ∷ get_or d 1 0 ∷ get_or d 2 0 ∷ get_or d 3 0
      ∷ [])) ≤ 24
  numbers_short =
      let r = reading_of f in
      let d = (values_of r.indices before).delays in
      let fourth = delay_short 3 (omega arith) [] in
      let third = delay_short 2 (omega arith) (get_or d 3 0 ∷ []) in
      let second = delay_short 1 (omega arith) (get_or d 2 0 ∷ get_or d 3 0 ∷ []) in
      let four = get_or d 0 0 ∷ get_or d 1 0 ∷ get_or d 2 0 ∷ get_or d 3 0 ∷ [] in
      let first = delay_short 0 (omega arith) (get_or d 1 0 ∷ get_or d 2 0 ∷ get_or d 3 0 ∷ []) in
      let y = field_short r.indices.sy 1 four (omega arith) (let s = reading_sync f in omega arith) in
      let m = field_short r.mark 1 (r.indices.sy ∷ four) (omega arith)
      (let s = (reading_range f).marked in omega arith) in
      let z = fields_none in
      omega arith

  rest_short : (n : ℕ) → length (rest_of (said_of n (hearing_of before f))) ≤ 24
  unfolding rest_of hearing_of
  rest_short n =
      let o = (values_of (reading_of f).indices before).outcome in
      chosen (λ (t : List ℕ). length t ≤ 24) (eqb (values.refusal_of o) 0) (λ e. numbers_short)
      (λ e. let l = decimal_most (values.refusal_of o) 1 (omega arith) (outcome_small o)
      in simp length-append (omega arith))

  line_short : (n : ℕ) → n < 10 ^ 4 → length (frame_of n (hearing_of before f)) ≤ 35
  unfolding frame_line hearing_of
  line_short n h =
      let a : length (decimal n) ≤ 4 = decimal_most n 4 (omega arith) h in
      let b = corrected_short (reading_of f).correction (reading_range f).numbered in
      let l = rest_short n in
      simp length-append (omega arith)

-- the lines of the first k frames take at most 35 bytes a frame
lines_short : (before : State) (frames : List (List ℕ)) (k : ℕ) → k ≤ length frames → k ≤ 3640
    → length (lines_to before frames k) ≤ 35 * k
unfolding lines_to
lines_short before frames zero h m = omega arith
lines_short before frames (suc k) h m =
    let l = lines_short before frames k (omega arith) (omega arith) in
    let n = line_short (state_through before (take k frames)) (get_or frames k []) (suc k) (omega arith) in
    simp length-append (rw (heard_there before frames k h) (omega arith))

-- ---- the whole

-- all lines after the first together take at most 128,400 bytes
body_short : (before : State) (frames : List (List ℕ)) → length frames ≤ 3640 → length (body_of before frames) ≤ 128400
unfolding body_of
body_short before frames h =
    let l = lines_short before frames (length frames) (omega arith) h in
    let m = last_short (counts_of before frames) (let r = repaired_few before frames (length frames) in omega arith)
    (let b = breaks_few before frames (length frames) in omega arith) in
    simp length-append (omega arith)

pub listing_fits : ListingFits
unfolding ListingFits listing_of sound_text Brief
listing_fits s bytes = go (walked_of s).ending refl (walked_brief s bytes)
  where
    go : (e : Ending) → (walked_of s).ending ≡ e → Brief e
        → length (text_by e (sound_text (walked_of s).walk (frames_of s))) ≤ room
    go (Ok _) e p =
        let k = walked_small s bytes in
        let w = sound_short s e in
        let b = body_short fresh_state (frames_of s) (frames_most s) in
        let l = head_short (walked_of s).walk (omega arith) (omega arith) (omega arith) in
        simp length-append (omega arith)
    go (Err cause) e p = let l = refused_short cause p in omega arith
