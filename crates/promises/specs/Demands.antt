-- The three demands, in the words of the person this is built for, and under each the statements that meet it; then
-- what is promised of the salvage tool, of the tally book, of sync breaks and of the excitation. A reviewer starts
-- here: each name below is a statement of the file beside it, and proofs/Demands.antt holds a proof of every one.
use Rattle.listing.specs.Promised.{ListingFits, ListingStands, FaultsListed, LetterListed, RefusedListingStays}
use Rattle.salvage.specs.Promised.{SalvageRefuses, SalvageStands, SalvagedAccepted, KeptUpToRefusal, SoundUnchanged}
use Rattle.salvage.specs.Promised.{SalvagedAgain, FewestGo, NoEmptyBlock, KeptStands}
use Rattle.changes.specs.Promised.{ChangesTold, ChangesFit}
use Rattle.tally.specs.Promised.{TallyRefuses, RecordingFirst, TallyStands, TotalFits, ClearedEmpty, NoKeyTwice}
use Rattle.tally.specs.Promised.{TotalOfFirsts, HeldIfAccepted, EitherOrder, AnyOrder, SameAgain}
use Rattle.mixing.specs.Promised.{RoundedOnce, HeldAtTheEnds, ElementIs, CodeAlone, NothingOverflows}
use Rattle.excitation.specs.Promised.{ElementsAre, WithinRegister, ElementsWithin, RegisterMoves, SixtyOrNone}
use Rattle.excitation.specs.Promised.{ByIndicesAlone, SilentIsCode}
use Rattle.promises.specs.Frames.{ReadsBack, SameBits, DamageAlone, OneMended, TwoReported, EveryFrameRead}
use Rattle.promises.specs.Frames.{OneFrame, SixteenFrames}
use Rattle.promises.specs.Functions.{FramesAnswered, WriteThenRead, ReadThenWrite, RepairByDamage, OneFlip, TwoFlips, NoTwoFrames}
use Rattle.promises.specs.Refused.{ReaderRefuses, WriterRefuses, RefusedFrameStays, RefusedReadStays}
use Rattle.promises.specs.Refused.{RefusedWriteStays, HearingRefuses, RefusedStateStays, ExpansionKeepsSync}
use Rattle.promises.specs.Refused.{NothingStays, HertzRefuses, MeaningRefuses, DelaysRefuse, CodeRefuses}
use Rattle.promises.specs.Refused.{RefusedCodeStays}
use Rattle.promises.specs.Repairs.{CleanChangesNothing, ParityHitChangesNothing, DataHitInvertsOne}
use Rattle.promises.specs.Repairs.{CaseOfEach, OneNumberEach, TwoNeverMended, UnguardedUnseen, ThreeUnseen}
use Rattle.promises.specs.Repairs.{FifteenPlaces}
use Rattle.promises.specs.Boundary.{PairsHoldRecord, ReadTells, WriteTells, BoundaryReadsBack}
use Rattle.promises.specs.Archive.{ListTells, RefusedListStays, RecordingTold, RefusedSalvageStays}
use Rattle.promises.specs.Archive.{RefusedEnteringStays, RefusedHearingStays}
use Rattle.promises.specs.Values.{NearestEntry, GainsComeBack, CgMirrored, GainsHeard, DelaysRise, EachByteOnce}
use Rattle.promises.specs.Values.{DelaysComeBack, FixedWindows, DelaysHeard, LspsHeard, MarkHeard, MarkIsLowest}
use Rattle.promises.specs.Values.{Averaged, FirstAveraged, FreshNotBegun, FreshHasNoSync, StateHolds, Ternary}
use Rattle.promises.specs.Values.{CodesOverlap, DrawsWrap, DrawsAtPositions}
use Rattle.promises.specs.RefusalNumbers.{ReaderNumbers, WriterNumbers, HearingNumbers, DelayNumbers, CodeNumbers}
use Rattle.promises.specs.RefusalNumbers.{GainNumbers, RecordingNumbers, ReadResultNumbers, WriteResultNumbers}
use Rattle.promises.specs.RefusalNumbers.{HertzNumbers, MeaningNumbers}
use Rattle.promises.specs.Rule.{NumbersInTurn, BlockFaultsTold, RefusedExactly, RefusedKeeps, SoundExactly}
use Rattle.promises.specs.Made.{MadeIsSound, SoundIsMade, NoTwo}
use Rattle.promises.specs.Parts.{VoiceBlocksStand, NoSuchBlock, FramesAreAll, FramesAreLong, FramesFit, EndCounts}
use Rattle.promises.specs.Parts.{RepairsCounted, BreaksCounted, RefusedHasNone, EmptyRefused}
use Rattle.promises.specs.Breaks.{BreakExactly, SyncRunsOn, LeftOut, OneLost, FirstLost, LastLost, TwoLost}
use Rattle.promises.specs.Breaks.{ManyLost}
use Rattle.promises.specs.Running.{StateRunsOn, CorrectionPassedOn, NothingBeyond, PassHears, PassCounts}
use Rattle.promises.specs.Running.{SoFarAlone}
use Rattle.promises.specs.Worked.{AllTwelve}
use Rattle.promises.specs.Tally.{SalvagedSameKey}
use Rattle.promises.specs.Excitation.{ExcitationRefuses, ExcitationNumbers}

-- "Every frame, record or recording, however damaged, gets an answer and the call ends. A frame that isn't eighteen
-- bytes, an index too large for its field, a record to write whose line spectral parameters fall, a delay that can't be
-- sent, a set expansion bit in a record to write or to hear, or a broken recording is refused by its number, no caller
-- has to look first, and a refusal writes nothing into any buffer lent to us."
--
-- That each call ends, and what it answers and leaves on every input, is the contract of each function, none of which
-- has a `requires`.
-- Here it is said when each refusal is given, and that it writes nothing.
pub record DemandOne : Type 0 where
  -- frames, records, delays, codes
  pub every_frame_read : EveryFrameRead
  pub frames_answered : FramesAnswered
  pub reader_refuses : ReaderRefuses
  pub writer_refuses : WriterRefuses
  pub hearing_refuses : HearingRefuses
  pub hertz_refuses : HertzRefuses
  pub meaning_refuses : MeaningRefuses
  pub delays_refuse : DelaysRefuse
  pub code_refuses : CodeRefuses
  -- each by its number, with what it tells
  pub reader_numbers : ReaderNumbers
  pub writer_numbers : WriterNumbers
  pub hearing_numbers : HearingNumbers
  pub hertz_numbers : HertzNumbers
  pub meaning_numbers : MeaningNumbers
  pub delay_numbers : DelayNumbers
  pub code_numbers : CodeNumbers
  pub gain_numbers : GainNumbers
  pub recording_numbers : RecordingNumbers
  pub read_result_numbers : ReadResultNumbers
  pub write_result_numbers : WriteResultNumbers
  -- nothing is written, and the state stays, but for the SY of a record refused with 6
  pub refused_frame_stays : RefusedFrameStays
  pub refused_state_stays : RefusedStateStays
  pub expansion_keeps_sync : ExpansionKeepsSync
  pub nothing_stays : NothingStays
  pub refused_code_stays : RefusedCodeStays
  pub refused_read_stays : RefusedReadStays
  pub refused_write_stays : RefusedWriteStays
  -- recordings
  pub refused_exactly : RefusedExactly
  pub refused_keeps : RefusedKeeps
  pub sound_exactly : SoundExactly
  pub numbers_in_turn : NumbersInTurn
  pub block_faults_told : BlockFaultsTold
  pub faults_listed : FaultsListed
  pub refused_has_none : RefusedHasNone
  pub empty_refused : EmptyRefused
  pub refused_listing_stays : RefusedListingStays
  -- salvaging (document 02, K2)
  pub salvage_refuses : SalvageRefuses
  pub salvage_stands : SalvageStands
  -- the tally book (document 02, K3)
  pub tally_refuses : TallyRefuses
  pub recording_first : RecordingFirst
  pub tally_stands : TallyStands
  -- the excitation (document 02, K6)
  pub excitation_refuses : ExcitationRefuses
  pub excitation_numbers : ExcitationNumbers
  pub sixty_or_none : SixtyOrNone
  -- the same in C: what is answered and told, and that nothing is written
  pub list_tells : ListTells
  pub refused_list_stays : RefusedListStays
  pub recording_told_lem : RecordingTold
  pub refused_salvage_stays : RefusedSalvageStays
  pub refused_entering_stays : RefusedEnteringStays
  pub refused_hearing_stays : RefusedHearingStays

-- "Reading and writing are those of Federal Standard 1016: the 144 places, the parity, the gains, delays, averaged
-- parameters and 512 ternary codes. A record the writer accepts reads back equal. A frame that is read writes back to
-- the same bits exactly when its parity was clean, its expansion bit 0 and its parameters in order."
pub record DemandTwo : Type 0 where
  -- frames
  pub reads_back : ReadsBack
  pub write_then_read : WriteThenRead
  pub same_bits : SameBits
  pub read_then_write : ReadThenWrite
  pub one_frame : OneFrame
  pub no_two_frames : NoTwoFrames
  pub sixteen_frames : SixteenFrames
  pub fifteen_places : FifteenPlaces
  -- gains, delays, averaged parameters, ternary codes
  pub nearest_entry : NearestEntry
  pub gains_come_back : GainsComeBack
  pub cg_mirrored : CgMirrored
  pub gains_heard : GainsHeard
  pub delays_rise : DelaysRise
  pub each_byte_once : EachByteOnce
  pub delays_come_back : DelaysComeBack
  pub fixed_windows : FixedWindows
  pub delays_heard : DelaysHeard
  pub lsps_heard : LspsHeard
  pub mark_heard : MarkHeard
  pub mark_is_lowest : MarkIsLowest
  pub averaged : Averaged
  pub first_averaged : FirstAveraged
  pub fresh_not_begun : FreshNotBegun
  pub fresh_has_no_sync : FreshHasNoSync
  pub state_holds : StateHolds
  pub ternary : Ternary
  pub codes_overlap : CodesOverlap
  pub draws_wrap : DrawsWrap
  pub draws_at_positions : DrawsAtPositions
  -- the C boundary
  pub pairs_hold_record : PairsHoldRecord
  pub read_tells : ReadTells
  pub write_tells : WriteTells
  pub boundary_reads_back : BoundaryReadsBack
  -- the worked numbers
  pub all_twelve : AllTwelve
  -- recordings
  pub made_is_sound : MadeIsSound
  pub sound_is_made : SoundIsMade
  pub no_two : NoTwo
  pub voice_blocks_stand : VoiceBlocksStand
  pub no_such_block : NoSuchBlock
  pub frames_are_all : FramesAreAll
  pub frames_are_long : FramesAreLong
  pub frames_fit : FramesFit
  pub end_counts : EndCounts
  pub repairs_counted : RepairsCounted
  pub breaks_counted : BreaksCounted
  pub state_runs_on : StateRunsOn
  pub correction_passed_on : CorrectionPassedOn
  pub nothing_beyond : NothingBeyond
  pub pass_hears : PassHears
  pub pass_counts : PassCounts
  pub so_far_alone : SoFarAlone
  -- the listing
  pub listing_fits : ListingFits
  pub listing_stands : ListingStands
  pub letter_listed : LetterListed

-- "Take a frame our writer made and flip any set of its bits. The indices then read are the written ones, with exactly
-- those bits reversed that come out as 1 when the flips alone are read as a frame; the correction number reported is
-- the one for the flips alone. If no more than one of the fifteen guarded places was flipped, none of the eleven
-- guarded data bits differs. Two are always reported."
pub record DemandThree : Type 0 where
  -- the flips alone
  pub damage_alone : DamageAlone
  pub repair_by_damage : RepairByDamage
  pub one_mended : OneMended
  pub one_flip : OneFlip
  pub two_reported : TwoReported
  pub two_flips : TwoFlips
  -- what a correction does to what is read (document 02, K5: "clean, a parity bit hit with its number, a data bit
  -- inverted with its field and bit"), and what none shows
  pub case_of_each : CaseOfEach
  pub one_number_each : OneNumberEach
  pub clean_changes_nothing : CleanChangesNothing
  pub parity_hit_changes_nothing : ParityHitChangesNothing
  pub data_hit_inverts_one : DataHitInvertsOne
  pub two_never_mended : TwoNeverMended
  pub unguarded_unseen : UnguardedUnseen
  pub three_unseen : ThreeUnseen

-- Document 02, K2: "it keeps the head, every voice block before the first refusal and, where that refusal is a voice
-- block running past the end, the whole frames that block still has; last frames go, as few as will do, if the result
-- would pass 65,536 bytes, and no empty block is left. It writes these and a fresh end into a lent buffer of 65,536
-- bytes, whose bytes past that end block stay, and lists each change: bytes dropped from where, frames kept, end
-- written. A sound recording comes out unchanged with an empty list. What it writes is always accepted."
--
-- When it is refused, and that the bytes past the end block stay, stands under demand 1.
pub record SalvageTool : Type 0 where
  -- what is kept
  pub kept_up_to_refusal : KeptUpToRefusal
  pub fewest_go : FewestGo
  pub no_empty_block : NoEmptyBlock
  pub kept_stands : KeptStands
  -- what is written
  pub salvaged_accepted : SalvagedAccepted
  pub salvaged_again : SalvagedAgain
  pub sound_unchanged : SoundUnchanged
  -- what is told
  pub changes_told : ChangesTold
  pub changes_fit : ChangesFit

-- Document 02, K3: "it takes unit, recording number and spoken count, 32 bits each, holds up to 4,096 entries, and
-- counts each unit and number once. The same entry again answers 'already held'. The total for a unit is the sum, over
-- the distinct entries in the history of accepted calls, of the count that came first. Two accepted entries with
-- different keys give the same totals and the same answers to 'is it held' in either order."
--
-- When it is refused, and that a refusal leaves the book as it was, stands under demand 1.
pub record TallyBook : Type 0 where
  -- what it holds
  pub cleared_empty : ClearedEmpty
  pub no_key_twice : NoKeyTwice
  pub total_fits : TotalFits
  pub total_of_firsts : TotalOfFirsts
  pub held_if_accepted : HeldIfAccepted
  -- once, though it is sent again
  pub same_again : SameAgain
  pub salvaged_same_key : SalvagedSameKey
  -- in any order
  pub either_order : EitherOrder
  pub any_order : AnyOrder

-- Document 02, K4: "A break is [..] a frame whose SY equals that of the frame before it, or a first frame whose SY is
-- 1. The running state keeps the last SY, and a fresh state says there was none. [..] A frame refused with 6 also
-- updates the last SY, and that only".
--
-- What becomes of the state stands under demand 1 for a refusal and under demand 2 for a record that is heard, and
-- there too that the listing's last number is the count of breaks.
pub record SyncBreaks : Type 0 where
  pub break_exactly : BreakExactly
  pub sync_runs_on : SyncRunsOn
  -- "One lost frame is one break"
  pub left_out : LeftOut
  pub one_lost : OneLost
  pub first_lost : FirstLost
  pub last_lost : LastLost
  pub two_lost : TwoLost
  pub many_lost : ManyLost

-- Document 02, K6: "The register holds 147 whole numbers, zero at first. For whole delay d, element t of the adaptive
-- code is register element -d + (t mod d). Each excitation element is the exact sum of CG times the ternary element and
-- a thousandth of PG times the adaptive element, the sum rounded once to nearest with halves away from zero, then held
-- within plus or minus 1,000,000 [..]. The register moves by sixty each subframe. Sixty elements are lent to be
-- written."
--
-- When it is refused, and that a refusal writes nothing and leaves the register, stands under demand 1.
pub record ListeningBox : Type 0 where
  -- one element
  pub rounded_once : RoundedOnce
  pub held_at_the_ends : HeldAtTheEnds
  pub element_is : ElementIs
  pub code_alone : CodeAlone
  pub nothing_overflows : NothingOverflows
  -- the sixty of a subframe
  pub elements_are : ElementsAre
  pub within_register : WithinRegister
  pub elements_within : ElementsWithin
  pub silent_is_code : SilentIsCode
  pub by_indices_alone : ByIndicesAlone
  -- the register after
  pub register_moves : RegisterMoves
