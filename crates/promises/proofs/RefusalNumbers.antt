-- The table of refusal numbers, shown: each case of an answer has its row, and each row its case.
-- Assumes nothing.
use mathlib.Core.Path.{◌≡◌, ◌∙◌, sym, refl, ap, subst}
use Rattle.std.specs.Prelude.{None, Some, Ok, Err}
use mathlib.Core.List.{List, [], ◌∷◌}
use Prim.Native.Nat.{ℕ, ◌<◌, ◌≤◌}
use native.Mathlib.Omega.{arith}
use native.Mathlib.Decide.{ℕ_discrete, dec_le}
use borrow.Author.Tests.{eq-eqb, ne_eqb}
use lib.IntN.{ℤ, pos, neg_ℤ}
use lib.ListN.{length}
use Rattle.std.specs.Prelude.{Ok, Err, Result}
use Rattle.recording.specs.declared.Summary.{Summary}
use Rattle.record.specs.declared.Record.{Record}
use Rattle.gains.specs.Gains.{gain_of}
use Rattle.gains.specs.Gains as gain
use Rattle.gains.proofs.Laws.{gain_value, gain_too_large}
use Rattle.delays.specs.Codes.{meant_by, coded_of}
use Rattle.delays.specs.Codes as delay
use Rattle.delays.specs.declared.CodeRefusal.{CodeRefusal}
use Rattle.delays.specs.declared.CodeRefusal.TheVariants as Meant
use Rattle.delays.specs.declared.DelayRefusal.{DelayRefusal}
use Rattle.delays.specs.declared.DelayRefusal.TheVariants.{NotListed, OutsideWindow}
use Rattle.std.specs.Prelude.{Result, Ok, Err}
use Rattle.lsp.specs.Table.{hertz_of}
use Rattle.lsp.specs.Table as hertz
use Rattle.lsp.specs.declared.Refusal as lsp-refusal
use Rattle.lsp.specs.declared.Refusal.TheVariants as Lsp
use Rattle.codebook.specs.Code as code
use Rattle.codebook.specs.declared.Refusal as code_refusal
use Rattle.codebook.specs.declared.Refusal.TheVariants as Code
use Rattle.frame.specs.Answers.{reading_of, read_of, Written, written_of}
use Rattle.frame.specs.Answers as frame
use Rattle.frame.specs.declared.Refusal.TheVariants as Refusal
use Rattle.frame.proofs.Answered.{some_read, none_read}
use Rattle.values.specs.Values.{values_of}
use Rattle.values.specs.Outcome as hearing
use Rattle.values.specs.declared.Outcome.{Outcome}
use Rattle.values.specs.declared.Outcome.TheVariants.{Heard, TooLarge, Expansion, Nothing}
use Rattle.values.specs.declared.State.{State}
use Rattle.blocks.specs.Walk.{walked_of}
use Rattle.blocks.specs.Refusals.{refusal_of, tells_of, ending_refusal, ending_tells, walked_refusal, walked_tells}
use Rattle.blocks.specs.declared.Cause.{Cause}
use Rattle.blocks.specs.declared.Cause.TheVariants.{TooLong, HeaderCut, PastEnd, WrongSize, UnknownKind, OutOfTurn}
use Rattle.blocks.specs.declared.Cause.TheVariants.{EndMissing, WrongCount, Extra}
use Rattle.blocks.specs.Walk.{Ending}
use Rattle.recording.specs.Judged.{judged_of, judged_refusal, judged_tells}
use Rattle.pairs.specs.Pairs.{record_in}
use Rattle.verdicts.specs.Verdicts.{refused}
use Rattle.gateway.specs.Results.{result_of, read_result, write_result}
use Rattle.promises.specs.Refused.{WriterGives, WriterRefuses, HearingGives, HearingRefuses, HertzGives}
use Rattle.promises.specs.Refused.{HertzRefuses, MeaningGives, MeaningRefuses, CodingGives, DelaysRefuse}
use Rattle.promises.specs.Refused.{CodeGives, CodeRefuses}
use Rattle.promises.specs.Rule.{Given}
use Rattle.promises.specs.RefusalNumbers.{ReaderTable, read_length, read_frame, ReaderNumbers, ReadResults}
use Rattle.promises.specs.RefusalNumbers.{c_read_length, c_read_frame, ReadResultNumbers, WriteResults}
use Rattle.promises.specs.RefusalNumbers.{c_write_length, c_write_index, c_write_fall, c_write_expansion}
use Rattle.promises.specs.RefusalNumbers.{c_write_frame, WriteResultNumbers, WriterTable, write_length}
use Rattle.promises.specs.RefusalNumbers.{write_index, write_fall, write_expansion, write_frame, WriterNumbers}
use Rattle.promises.specs.RefusalNumbers.{HearingTable, hear_index, hear_expansion, hear_values, HearingNumbers}
use Rattle.promises.specs.RefusalNumbers.{DelayTable, delay_unlisted, delay_outside, delay_codes, DelayNumbers}
use Rattle.promises.specs.RefusalNumbers.{CodeTable, code_length, code_index, code_elements, CodeNumbers}
use Rattle.promises.specs.RefusalNumbers.{GainTable, gain_index, gain_entry, GainNumbers, RecordingTable}
use Rattle.promises.specs.RefusalNumbers.{too_long, header_cut, past_end, wrong_size, unknown_kind, out_of_turn}
use Rattle.promises.specs.RefusalNumbers.{end_missing, wrong_count, extra, sound, RecordingNumbers}
use Rattle.promises.specs.RefusalNumbers.{HertzTable, hertz_index, hertz_values, HertzNumbers, MeaningTable}
use Rattle.promises.specs.RefusalNumbers.{meaning_index, meaning_delays, MeaningNumbers}
use Rattle.promises.proofs.Refused.{writer_refuses, hearing_refuses, hertz_refuses, meaning_refuses}
use Rattle.promises.proofs.Refused.{delays_refuse, code_refuses}
use Rattle.promises.proofs.Boundary.{read_result_is, result_is}
use Rattle.promises.proofs.Rule.{refused_exactly, sound_exactly, walked_judged}

-- a row at a number and what is told, from the row at those of the answer
pub at_row : (row : ℕ → List ℕ → Type 0) {m k : ℕ} {u t : List ℕ} → row m u → (m ≡ k) × (u ≡ t) → row k t
at_row row {m} {k} {u} {t} p (e, f) = subst (row k) f (subst (λ (x : ℕ). row x u) e p)

-- the number and what is told, from the answer
pub told : {A : Type 0} (number : A → ℕ) (tells : A → List ℕ) {x a : A} → x ≡ a → (number x ≡ number a)
    × (tells x ≡ tells a)
told number tells e = (ap number e, ap tells e)

-- the reader: refused where the bytes are not eighteen, and nowhere else
module _ (s : List ℕ) where
  -- eighteen bytes are read
  verdict_is : length s ≡ 18 → read_of s ≡ Some (reading_of s)
  verdict_is e = sym (some_read s e refl)

  -- others are not
  verdict_not : (length s ≡ 18 → ⊥) → read_of s ≡ None
  verdict_not w = sym (none_read s w)

  -- each row's condition gives its number
  reader_at : {k : ℕ} {t : List ℕ} → ReaderTable s k t
      → (frame.read_refusal (read_of s) ≡ k) × (frame.read_tells (read_of s) ≡ t)
  reader_at (read_length w) = told frame.read_refusal frame.read_tells (verdict_not w)
  reader_at (read_frame e) = told frame.read_refusal frame.read_tells (verdict_is e)

  -- each number has a row
  reader_row : Dec (length s ≡ 18)
      → ReaderTable s (frame.read_refusal (read_of s)) (frame.read_tells (read_of s))
  reader_row (yes e) = rw (verdict_is e) (read_frame e)
  reader_row (no w) = rw (verdict_not w) (read_length w)

pub reader_numbers : ReaderNumbers
unfolding ReaderNumbers
reader_numbers s k t = (at_row (ReaderTable s) (reader_row s (ℕ_discrete (length s) 18)), reader_at s)

module _ (r : Record) (n : ℕ) where
  writer_row : (a : Written) → WriterGives r n a → WriterTable r n (frame.refusal_of a) (frame.tells_of a)
  writer_row (Err Refusal.WrongLength) w = write_length w
  writer_row (Err (Refusal.TooLarge f)) (e, l) = write_index f e l
  writer_row (Err (Refusal.Falling m)) (e, fit, l) = write_fall m e fit l
  writer_row (Err Refusal.Expansion) (e, fit, o, s) = write_expansion e fit o s
  writer_row (Ok frame) (e, fit, o, s) = write_frame e fit o s

  writer_is : (a : Written) → WriterGives r n a → written_of r n ≡ a
  unfolding WriterRefuses
  writer_is a g = (writer_refuses r n a).1 g

  writer_at : {k : ℕ} {t : List ℕ} → WriterTable r n k t → (frame.refusal_of (written_of r n) ≡ k)
      × (frame.tells_of (written_of r n) ≡ t)
  writer_at (write_length w) = told frame.refusal_of frame.tells_of (writer_is (Err Refusal.WrongLength) w)
  writer_at (write_index f e l) = told frame.refusal_of frame.tells_of (writer_is (Err (Refusal.TooLarge f)) (e, l))
  writer_at (write_fall m e fit l) = told frame.refusal_of frame.tells_of (writer_is (Err (Refusal.Falling m)) (e, fit, l))
  writer_at (write_expansion e fit o s) = told frame.refusal_of frame.tells_of
      (writer_is (Err Refusal.Expansion) (e, fit, o, s))
  writer_at (write_frame e fit o s) = told frame.refusal_of frame.tells_of (writer_is (Ok tt) (e, fit, o, s))

pub writer_numbers : WriterNumbers
unfolding WriterNumbers WriterRefuses
writer_numbers r n k t = (
  at_row (WriterTable r n) (writer_row r n (written_of r n) ((writer_refuses r n (written_of r n)).0 refl)),
  writer_at r n,
)

module _ (r : Record) (before : State) where
  abbrev outcome_told : Outcome
  outcome_told = (values_of r before).outcome

  hearing_row : (o : Outcome) → HearingGives r o → HearingTable r (hearing.refusal_of o) (hearing.tells_of o)
  hearing_row (TooLarge f) l = hear_index f l
  hearing_row Expansion (fit, s) = hear_expansion fit s
  hearing_row Heard (fit, s) = hear_values fit s
  hearing_row Nothing g = absurd g

  hearing_is : (o : Outcome) → HearingGives r o → outcome_told ≡ o
  unfolding HearingRefuses
  hearing_is o g = (hearing_refuses r before o).1 g

  hearing_at : {k : ℕ} {t : List ℕ} → HearingTable r k t → (hearing.refusal_of outcome_told ≡ k)
      × (hearing.tells_of outcome_told ≡ t)
  hearing_at (hear_index f l) = told hearing.refusal_of hearing.tells_of (hearing_is (TooLarge f) l)
  hearing_at (hear_expansion fit s) = told hearing.refusal_of hearing.tells_of (hearing_is Expansion (fit, s))
  hearing_at (hear_values fit s) = told hearing.refusal_of hearing.tells_of (hearing_is Heard (fit, s))

pub hearing_numbers : HearingNumbers
unfolding HearingNumbers HearingRefuses
hearing_numbers r before k t = (
  at_row (HearingTable r) (hearing_row r before (values_of r before).outcome
      ((hearing_refuses r before (values_of r before).outcome).0 refl)),
  hearing_at r before,
)

module _ (indices : List ℕ) where
  abbrev verdict_told : Result (List ℕ) lsp-refusal.Refusal
  verdict_told = hertz_of indices

  hertz_row : (v : Result (List ℕ) lsp-refusal.Refusal) → HertzGives indices v
      → HertzTable indices (hertz.refusal_of v) (hertz.tells_of v)
  hertz_row (Err (Lsp.TooLarge j)) l = hertz_index j l
  hertz_row (Ok hz) w = hertz_values w.0

  hertz_is : (v : Result (List ℕ) lsp-refusal.Refusal) → HertzGives indices v → verdict_told ≡ v
  unfolding HertzRefuses
  hertz_is v g = (hertz_refuses indices v).1 g

  hertz_at : {k : ℕ} {t : List ℕ} → HertzTable indices k t
      → (hertz.refusal_of verdict_told ≡ k) × (hertz.tells_of verdict_told ≡ t)
  hertz_at (hertz_index j l) = told hertz.refusal_of hertz.tells_of (hertz_is (Err (Lsp.TooLarge j)) l)
  hertz_at (hertz_values w) = told hertz.refusal_of hertz.tells_of (hertz_is (Ok _) (w, refl))

pub hertz_numbers : HertzNumbers
unfolding HertzNumbers HertzRefuses
hertz_numbers indices k t = (
  at_row (HertzTable indices) (hertz_row indices (verdict_told indices)
      ((hertz_refuses indices (verdict_told indices)).0 refl)),
  hertz_at indices,
)

module _ (a b c d : ℕ) where
  abbrev meant : Result (List ℕ) CodeRefusal
  meant = meant_by (a ∷ b ∷ c ∷ d ∷ [])

  meaning_row : (m : Result (List ℕ) CodeRefusal) → MeaningGives a b c d m → MeaningTable a b c d (delay.meant_refusal m) (delay.meant_tells m)
  meaning_row (Err (Meant.TooLarge n)) l = meaning_index n l
  meaning_row (Ok (w ∷ x ∷ y ∷ z ∷ [])) m = meaning_delays w x y z m
  meaning_row (Ok _) m = absurd m

  meaning_is : (m : Result (List ℕ) CodeRefusal) → MeaningGives a b c d m → meant ≡ m
  unfolding MeaningRefuses
  meaning_is m g = (meaning_refuses a b c d m).1 g

  meaning_at : {k : ℕ} {t : List ℕ} → MeaningTable a b c d k t → (delay.meant_refusal meant ≡ k)
      × (delay.meant_tells meant ≡ t)
  meaning_at (meaning_index n l) = told delay.meant_refusal delay.meant_tells (meaning_is (Err (Meant.TooLarge n)) l)
  meaning_at (meaning_delays w x y z m) = told delay.meant_refusal delay.meant_tells (meaning_is (Ok (w ∷ x ∷ y ∷ z ∷ [])) m)

pub meaning_numbers : MeaningNumbers
unfolding MeaningNumbers MeaningRefuses
meaning_numbers a b c d k t = (
  at_row (MeaningTable a b c d) (meaning_row a b c d (meant a b c d) ((meaning_refuses a b c d (meant a b c d)).0 refl)),
  meaning_at a b c d,
)

module _ (a b c d : ℕ) where
  abbrev coded : Result (List ℕ) DelayRefusal
  coded = coded_of (a ∷ b ∷ c ∷ d ∷ [])

  delay_row : (x : Result (List ℕ) DelayRefusal) → CodingGives a b c d x → DelayTable a b c d (delay.refusal_of x) (delay.tells_of x)
  delay_row (Err (NotListed n)) g = delay_unlisted n g
  delay_row (Err (OutsideWindow n)) g = delay_outside n g
  delay_row (Ok (i ∷ j ∷ k ∷ l ∷ [])) g = delay_codes i j k l g
  delay_row (Ok _) g = absurd g

  delay_is : (x : Result (List ℕ) DelayRefusal) → CodingGives a b c d x → coded ≡ x
  unfolding DelaysRefuse
  delay_is x g = (delays_refuse a b c d x).1 g

  delay_at : {k : ℕ} {t : List ℕ} → DelayTable a b c d k t → (delay.refusal_of coded ≡ k) × (delay.tells_of coded ≡ t)
  delay_at (delay_unlisted n g) = told delay.refusal_of delay.tells_of (delay_is (Err (NotListed n)) g)
  delay_at (delay_outside n g) = told delay.refusal_of delay.tells_of (delay_is (Err (OutsideWindow n)) g)
  delay_at (delay_codes i j k l g) = told delay.refusal_of delay.tells_of (delay_is (Ok (i ∷ j ∷ k ∷ l ∷ [])) g)

pub delay_numbers : DelayNumbers
unfolding DelayNumbers DelaysRefuse
delay_numbers a b c d k t = (
  at_row (DelayTable a b c d) (delay_row a b c d (coded a b c d) ((delays_refuse a b c d (coded a b c d)).0 refl)),
  delay_at a b c d,
)

module _ (index n : ℕ) where
  code_row : (a : Result (Unit {0}) code_refusal.Refusal) → CodeGives index n a → CodeTable index n (code.refusal_of a) (code.tells_of a)
  code_row (Err Code.WrongLength) w = code_length w
  code_row (Err Code.TooLarge) (e, h) = code_index e h
  code_row (Ok u) (e, h) = code_elements e h

  code_is : (a : Result (Unit {0}) code_refusal.Refusal) → CodeGives index n a → code.written_of index n ≡ a
  unfolding CodeRefuses
  code_is a g = (code_refuses index n a).1 g

  code_at : {k : ℕ} {t : List ℕ} → CodeTable index n k t → (code.refusal_of (code.written_of index n) ≡ k)
      × (code.tells_of (code.written_of index n) ≡ t)
  code_at (code_length w) = told code.refusal_of code.tells_of (code_is (Err Code.WrongLength) w)
  code_at (code_index e h) = told code.refusal_of code.tells_of (code_is (Err Code.TooLarge) (e, h))
  code_at (code_elements e h) = told code.refusal_of code.tells_of (code_is (Ok tt) (e, h))

pub code_numbers : CodeNumbers
unfolding CodeNumbers CodeRefuses
code_numbers index n k t = (
  at_row (CodeTable index n) (code_row index n (code.written_of index n)
      ((code_refuses index n (code.written_of index n)).0 refl)),
  code_at index n,
)

module _ (table : List ℤ) (index : ℕ) where
  gain_at_lem : {k : ℕ} {t : List ℕ} → GainTable index k t → (gain.refusal_of (gain_of table index) ≡ k)
      × (gain.tells_of (gain_of table index) ≡ t)
  gain_at_lem (gain_index h) = told gain.refusal_of gain.tells_of (gain_too_large table index h)
  gain_at_lem (gain_entry h) = told gain.refusal_of gain.tells_of (gain_value table index h)

  gain_row : GainTable index (gain.refusal_of (gain_of table index)) (gain.tells_of (gain_of table index))
  gain_row = go (dec_le index 31)
    where
      go : Dec (index ≤ 31) → GainTable index (gain.refusal_of (gain_of table index)) (gain.tells_of (gain_of table index))
      go (yes h) = rw (gain_value table index h) (gain_entry h)
      go (no h) = let over : 31 < index = omega (arith, h) in rw (gain_too_large table index over) (gain_index over)

pub gain_numbers : GainNumbers
unfolding GainNumbers
gain_numbers table index k t = (at_row (GainTable index) (gain_row table index), gain_at_lem table index)

module _ (s : List ℕ) where
  cause_row : (c : Cause) → Given s c → RecordingTable s (refusal_of c) (tells_of c)
  cause_row TooLong g = too_long g
  cause_row (HeaderCut p) g = header_cut p g
  cause_row (PastEnd p) g = past_end p g
  cause_row (WrongSize p size) g = wrong_size p size g
  cause_row (UnknownKind p) g = unknown_kind p g
  cause_row (OutOfTurn p) g = out_of_turn p g
  cause_row (EndMissing p) g = end_missing p g
  cause_row (WrongCount p) g = wrong_count p g
  cause_row (Extra p) g = extra p g

  recording_row : RecordingTable s (judged_refusal (judged_of s)) (judged_tells (judged_of s))
  recording_row = go (judged_of s) refl
    where
      go : (j : Result Summary Cause) → judged_of s ≡ j → RecordingTable s (judged_refusal (judged_of s)) (judged_tells (judged_of s))
      go (Ok x) e = rw e (sound ((sound_exactly s).0 (x, e)))
      go (Err c) e = rw e (cause_row c ((refused_exactly s c).0 e))

  refused_at : (c : Cause) → Given s c → (judged_refusal (judged_of s) ≡ refusal_of c)
      × (judged_tells (judged_of s) ≡ tells_of c)
  refused_at c g = told judged_refusal judged_tells ((refused_exactly s c).1 g)

  recording_at : {k : ℕ} {t : List ℕ} → RecordingTable s k t → (judged_refusal (judged_of s) ≡ k)
      × (judged_tells (judged_of s) ≡ t)
  recording_at (too_long g) = refused_at TooLong g
  recording_at (header_cut p g) = refused_at (HeaderCut p) g
  recording_at (past_end p g) = refused_at (PastEnd p) g
  recording_at (wrong_size p size g) = refused_at (WrongSize p size) g
  recording_at (unknown_kind p g) = refused_at (UnknownKind p) g
  recording_at (out_of_turn p g) = refused_at (OutOfTurn p) g
  recording_at (end_missing p g) = refused_at (EndMissing p) g
  recording_at (wrong_count p g) = refused_at (WrongCount p) g
  recording_at (extra p g) = refused_at (Extra p) g
  recording_at (sound a) = told judged_refusal judged_tells ((sound_exactly s).1 a).1

  -- judging refuses as walking through does
  same_refusal : (judged_refusal (judged_of s) ≡ walked_refusal (walked_of s))
      × (judged_tells (judged_of s) ≡ walked_tells (walked_of s))
  same_refusal = go (walked_of s).ending refl
    where
      go : (x : Ending) → (walked_of s).ending ≡ x
          → (judged_refusal (judged_of s) ≡ walked_refusal (walked_of s))
          × (judged_tells (judged_of s) ≡ walked_tells (walked_of s))
      go (Ok _) e = (
        ap judged_refusal (walked_judged s (Ok tt) e) ∙ sym (ap ending_refusal e),
        ap judged_tells (walked_judged s (Ok tt) e) ∙ sym (ap ending_tells e),
      )
      go (Err c) e = (
        ap judged_refusal (walked_judged s (Err c) e) ∙ sym (ap ending_refusal e),
        ap judged_tells (walked_judged s (Err c) e) ∙ sym (ap ending_tells e),
      )

pub recording_numbers : RecordingNumbers
unfolding RecordingNumbers
recording_numbers s k t = (
  (at_row (RecordingTable s) (recording_row s), recording_at s),
  (
    at_row (RecordingTable s) (at_row (RecordingTable s) (recording_row s) (same_refusal s)),
    λ w. (sym (same_refusal s).0 ∙ (recording_at s w).0, sym (same_refusal s).1 ∙ (recording_at s w).1),
  ),
)

-- the reader at the C boundary, by the two lengths
module _ (s o : List ℕ) where
  -- both right: the mark, the number and what the kind adds
  c_read_is : length s ≡ 18 → length o ≡ 56
      → read_result s (length o) ≡ pos (result_of (reading_of s))
  c_read_is e l = read_result_is s o (verdict_is s e) l

  -- one wrong: -1
  c_read_not : ((length s ≡ 18) × (length o ≡ 56) → ⊥) → read_result s (length o) ≡ neg_ℤ (pos 1)
  unfolding read_result
  c_read_not w = go (ℕ_discrete (length o) 56) (ℕ_discrete (length s) 18)
    where
      go : Dec (length o ≡ 56) → Dec (length s ≡ 18) → read_result s (length o) ≡ neg_ℤ (pos 1)
      go (yes l) (yes e) = absurd (w (e, l))
      go (yes l) (no v) = rw (eq-eqb (length o) 56 l, verdict_not s v)
      go (no v) e = rw (ne_eqb (length o) 56 v)

  -- each row's condition gives its result
  c_read_at : {z : ℤ} → ReadResults s o z → read_result s (length o) ≡ z
  c_read_at (c_read_length w) = c_read_not w
  c_read_at (c_read_frame e l) = c_read_is e l

  -- each result has a row
  c_read_row : Dec (length s ≡ 18) → Dec (length o ≡ 56) → ReadResults s o (read_result s (length o))
  c_read_row (yes e) (yes l) = rw (c_read_is e l) (c_read_frame e l)
  c_read_row (yes e) (no v) =
      let w : (length s ≡ 18) × (length o ≡ 56) → ⊥ = λ p. v p.1 in rw (c_read_not w) (c_read_length w)
  c_read_row (no v) l =
      let w : (length s ≡ 18) × (length o ≡ 56) → ⊥ = λ p. v p.0 in rw (c_read_not w) (c_read_length w)

pub read_result_numbers : ReadResultNumbers
unfolding ReadResultNumbers
read_result_numbers s o z = (
  λ e. subst (ReadResults s o) e (c_read_row s o (ℕ_discrete (length s) 18) (ℕ_discrete (length o) 56)),
  c_read_at s o,
)

-- the writer at the C boundary: the record's length, then as the writer answers
module _ (s o : List ℕ) where
  -- what the writer answers of the record in the bytes
  abbrev asked : Written
  asked = written_of (record_in s) (length o)

  -- the result of an answer that is given
  c_write_is : (a : Written) → length s ≡ 56 → WriterGives (record_in s) (length o) a
      → write_result s (length o) ≡ refused (frame.refusal_of a)
  c_write_is a l g =
      result_is s o l ∙ ap (λ (x : Written). refused (frame.refusal_of x)) (writer_is (record_in s) (length o) a g)

  -- the record's length wrong: -1
  c_write_not : (length s ≡ 56 → ⊥) → write_result s (length o) ≡ neg_ℤ (pos 1)
  unfolding write_result
  c_write_not w = rw (ne_eqb (length s) 56 w)

  -- one of the lengths wrong: -1
  c_write_short : ((length s ≡ 56) × (length o ≡ 18) → ⊥) → Dec (length s ≡ 56)
      → write_result s (length o) ≡ neg_ℤ (pos 1)
  c_write_short w (yes l) = c_write_is (Err Refusal.WrongLength) l (λ e. w (l, e))
  c_write_short w (no v) = c_write_not v

  -- each row's condition gives its result
  c_write_at : {z : ℤ} → WriteResults s o z → write_result s (length o) ≡ z
  c_write_at (c_write_length w) = c_write_short w (ℕ_discrete (length s) 56)
  c_write_at (c_write_index f l e g) = c_write_is (Err (Refusal.TooLarge f)) l (e, g)
  c_write_at (c_write_fall m l e fit g) = c_write_is (Err (Refusal.Falling m)) l (e, fit, g)
  c_write_at (c_write_expansion l e fit order sp) = c_write_is (Err Refusal.Expansion) l (e, fit, order, sp)
  c_write_at (c_write_frame l e fit order sp) = c_write_is (Ok tt) l (e, fit, order, sp)

  -- each answer has a row
  c_given : (a : Written) → length s ≡ 56 → WriterGives (record_in s) (length o) a
      → WriteResults s o (refused (frame.refusal_of a))
  c_given (Err Refusal.WrongLength) l w = c_write_length (λ p. w p.1)
  c_given (Err (Refusal.TooLarge f)) l (e, g) = c_write_index f l e g
  c_given (Err (Refusal.Falling m)) l (e, fit, g) = c_write_fall m l e fit g
  c_given (Err Refusal.Expansion) l (e, fit, order, sp) = c_write_expansion l e fit order sp
  c_given (Ok frame) l (e, fit, order, sp) = c_write_frame l e fit order sp

  -- each result has a row
  c_write_row : Dec (length s ≡ 56) → WriteResults s o (write_result s (length o))
  unfolding WriterRefuses
  c_write_row (yes l) = rw (result_is s o l) (c_given asked l ((writer_refuses (record_in s) (length o) asked).0 refl))
  c_write_row (no v) = rw (c_write_not v) (c_write_length (λ p. v p.0))

pub write_result_numbers : WriteResultNumbers
unfolding WriteResultNumbers
write_result_numbers s o z =
    (λ e. subst (WriteResults s o) e (c_write_row s o (ℕ_discrete (length s) 56)), c_write_at s o)
