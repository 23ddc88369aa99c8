-- Every statement under the three demands, of the salvage tool, of the tally book, of sync breaks and of the excitation
-- has its proof.
-- Assumes nothing.
use Rattle.listing.proofs.Laws as listing
use Rattle.listing.proofs.Short as short
use Rattle.salvage.proofs.Laws as salvage
use Rattle.changes.proofs.Laws as changes
use Rattle.tally.proofs.Laws as tally
use Rattle.mixing.proofs.Laws as mixing
use Rattle.excitation.proofs.Laws as excitation
use Rattle.promises.specs.Demands.{DemandOne, DemandTwo, DemandThree, SalvageTool, TallyBook, SyncBreaks}
use Rattle.promises.specs.Demands.{ListeningBox}
use Rattle.promises.proofs.Frames as frames
use Rattle.promises.proofs.Functions as functions
use Rattle.promises.proofs.Worked as worked
use Rattle.promises.proofs.Refused as refused
use Rattle.promises.proofs.RefusalNumbers as numbers
use Rattle.promises.proofs.Repairs as repairs
use Rattle.promises.proofs.Values as values
use Rattle.promises.proofs.Boundary as boundary
use Rattle.promises.proofs.Archive as archive
use Rattle.promises.proofs.Rule as rule
use Rattle.promises.proofs.Made as made
use Rattle.promises.proofs.Parts as parts
use Rattle.promises.proofs.Running as running
use Rattle.promises.proofs.Breaks as breaks
use Rattle.promises.proofs.Tally as salvaged
use Rattle.promises.proofs.Excitation as exciting

pub demand_one : DemandOne
demand_one =
    record {
      every_frame_read = frames.every_frame_read;
      frames_answered = functions.frames_answered;
      reader_refuses = refused.reader_refuses;
      writer_refuses = refused.writer_refuses;
      hearing_refuses = refused.hearing_refuses;
      hertz_refuses = refused.hertz_refuses;
      meaning_refuses = refused.meaning_refuses;
      delays_refuse = refused.delays_refuse;
      code_refuses = refused.code_refuses;
      reader_numbers = numbers.reader_numbers;
      writer_numbers = numbers.writer_numbers;
      hearing_numbers = numbers.hearing_numbers;
      hertz_numbers = numbers.hertz_numbers;
      meaning_numbers = numbers.meaning_numbers;
      delay_numbers = numbers.delay_numbers;
      code_numbers = numbers.code_numbers;
      gain_numbers = numbers.gain_numbers;
      recording_numbers = numbers.recording_numbers;
      read_result_numbers = numbers.read_result_numbers;
      write_result_numbers = numbers.write_result_numbers;
      refused_frame_stays = refused.refused_frame_stays;
      refused_state_stays = refused.refused_state_stays;
      expansion_keeps_sync = refused.expansion_keeps_sync;
      nothing_stays = refused.nothing_stays;
      refused_code_stays = refused.refused_code_stays;
      refused_read_stays = refused.refused_read_stays;
      refused_write_stays = refused.refused_write_stays;
      refused_exactly = rule.refused_exactly;
      refused_keeps = rule.refused_keeps;
      sound_exactly = rule.sound_exactly;
      numbers_in_turn = rule.numbers_in_turn;
      block_faults_told = rule.block_faults_told;
      faults_listed = listing.faults_listed;
      refused_has_none = parts.refused_has_none;
      empty_refused = parts.empty_refused;
      refused_listing_stays = listing.refused_listing_stays;
      salvage_refuses = salvage.salvage_refuses;
      salvage_stands = salvage.salvage_stands;
      tally_refuses = tally.tally_refuses;
      recording_first = tally.recording_first;
      tally_stands = tally.tally_stands;
      excitation_refuses = exciting.excitation_refuses;
      excitation_numbers = exciting.excitation_numbers;
      sixty_or_none = excitation.sixty_or_none;
      list_tells = archive.list_tells;
      refused_list_stays = archive.refused_list_stays;
      recording_told_lem = archive.recording_told_lem;
      refused_salvage_stays = archive.refused_salvage_stays;
      refused_entering_stays = archive.refused_entering_stays;
      refused_hearing_stays = archive.refused_hearing_stays;
    }

pub demand_two : DemandTwo
demand_two =
    record {
      reads_back = frames.reads_back;
      write_then_read = functions.write_then_read;
      same_bits = frames.same_bits_back;
      read_then_write = functions.read_then_write;
      one_frame = frames.one_frame;
      no_two_frames = functions.no_two_frames;
      sixteen_frames = frames.sixteen_frames;
      fifteen_places = repairs.fifteen_places;
      nearest_entry = values.nearest_entry;
      gains_come_back = values.gains_come_back;
      cg_mirrored = values.cg_is_mirrored;
      gains_heard = values.gains_heard;
      delays_rise = values.delays_rise;
      each_byte_once = values.each_byte_once;
      delays_come_back = values.delays_come_back;
      fixed_windows = values.fixed_windows;
      delays_heard = values.delays_heard;
      lsps_heard = values.lsps_heard;
      mark_heard = values.mark_heard;
      mark_is_lowest = values.mark_is_lowest;
      averaged = values.averaged;
      first_averaged = values.first_averaged;
      fresh_not_begun = values.fresh_not_begun;
      fresh_has_no_sync = values.fresh_has_no_sync;
      state_holds = values.state_holds;
      ternary = values.ternary;
      codes_overlap = values.codes_overlap;
      draws_wrap = values.draws_wrap;
      draws_at_positions = values.draws_at_positions;
      pairs_hold_record = boundary.pairs_hold_record;
      read_tells = boundary.read_tells;
      write_tells = boundary.write_tells;
      boundary_reads_back = boundary.boundary_reads_back;
      all_twelve = worked.all_twelve;
      made_is_sound = made.made_is_sound;
      sound_is_made = made.sound_is_made;
      no_two = made.no_two;
      voice_blocks_stand = parts.voice_blocks_stand;
      no_such_block = parts.no_such_block;
      frames_are_all = parts.frames_are_all;
      frames_are_long = parts.frames_are_long;
      frames_fit = parts.frames_fit;
      end_counts = parts.end_counts;
      repairs_counted = parts.repairs_counted;
      breaks_counted = parts.breaks_counted;
      state_runs_on = running.state_runs_on;
      correction_passed_on = running.correction_passed_on;
      nothing_beyond = running.nothing_beyond;
      pass_hears = running.pass_hears;
      pass_counts = running.pass_counts;
      so_far_alone = running.so_far_alone;
      listing_fits = short.listing_fits;
      listing_stands = listing.listing_stands;
      letter_listed = listing.letter_listed;
    }

pub demand_three : DemandThree
demand_three =
    record {
      damage_alone = frames.damage_alone;
      repair_by_damage = functions.repair_by_damage;
      one_mended = frames.one_mended;
      one_flip = functions.one_flip;
      two_reported = frames.two_reported;
      two_flips = functions.two_flips;
      case_of_each = repairs.case_of_each;
      one_number_each = repairs.one_number_each;
      clean_changes_nothing = repairs.clean_changes_nothing;
      parity_hit_changes_nothing = repairs.parity_hit_changes_nothing;
      data_hit_inverts_one = repairs.data_hit_inverts_one;
      two_never_mended = repairs.two_never_mended;
      unguarded_unseen = repairs.unguarded_unseen;
      three_unseen = repairs.three_unseen;
    }

pub salvage_tool : SalvageTool
salvage_tool =
    record {
      kept_up_to_refusal = salvage.kept_up_to_refusal;
      fewest_go = salvage.fewest_go;
      no_empty_block = salvage.no_empty_block;
      kept_stands = salvage.kept_stands;
      salvaged_accepted = salvage.salvaged_accepted;
      salvaged_again = salvage.salvaged_again;
      sound_unchanged = salvage.sound_unchanged;
      changes_told = changes.changes_told;
      changes_fit = changes.changes_fit;
    }

pub tally_book : TallyBook
tally_book =
    record {
      cleared_empty = tally.cleared_empty;
      no_key_twice = tally.no_key_twice;
      total_fits = tally.total_fits;
      total_of_firsts = tally.total_of_firsts;
      held_if_accepted = tally.held_if_accepted;
      same_again = tally.same_again;
      salvaged_same_key = salvaged.salvaged_same_key;
      either_order = tally.either_order;
      any_order = tally.any_order;
    }

pub sync_breaks : SyncBreaks
sync_breaks =
    record {
      break_exactly = breaks.break_exactly;
      sync_runs_on = breaks.sync_runs_on;
      left_out = breaks.left_out;
      one_lost = breaks.one_lost;
      first_lost = breaks.first_lost;
      last_lost = breaks.last_lost;
      two_lost = breaks.two_lost;
      many_lost = breaks.many_lost;
    }

pub listening_box : ListeningBox
listening_box =
    record {
      rounded_once = mixing.rounded_once;
      held_at_the_ends = mixing.held_at_the_ends;
      element_is = mixing.element_is;
      code_alone = mixing.code_alone;
      nothing_overflows = mixing.nothing_overflows;
      elements_are = excitation.elements_are;
      within_register = excitation.within_register;
      elements_within = excitation.elements_within;
      silent_is_code = excitation.silent_is_code;
      by_indices_alone = excitation.by_indices_alone;
      register_moves = excitation.register_moves;
    }
