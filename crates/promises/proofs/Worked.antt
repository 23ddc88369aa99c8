-- The twelve worked numbers, computed.
-- Assumes nothing.
use Rattle.laws.specs.Lowest.{lowest_from}
use Rattle.laws.specs.Tabulate.{tabulate_from}
use Rattle.laws.specs.Total.{total, from_bits}
use Rattle.laws.specs.Place.{place_in}
use Rattle.gains.specs.Tables.{cg_table, pg_table}
use Rattle.gains.specs.Nearest.{apart, nearest_of}
use Rattle.delays.specs.Table.{delays, bytes, twelfths_of, printed_byte, rank_of, rank_with}
use Rattle.delays.specs.Codes.{meant_by}
use Rattle.lsp.specs.Average.{averages_of}
use Rattle.values.specs.Values.{delays_of}
use Rattle.lsp.specs.Table.{hz_table, too_large_field, hertz_of}
use Rattle.lsp.specs.Order.{mark_of}
use Rattle.draws.specs.Draw.{fresh_generator, wrapped, draw_of}
use Rattle.frame.specs.Places.{places, seek}
use Rattle.frame.specs.Parity.{guarded_place, number, mended}
use Rattle.frame.specs.Correction.{correction_of, data_number}
use Rattle.frame.specs.Frame.{place_at, bit_at, packed, index_in}
use Rattle.frame.specs.Answers.{reading_of, record_mark}
use Rattle.promises.specs.Worked.{worked_numbers, AllTwelve}

pub all_twelve : AllTwelve
unfolding AllTwelve worked_numbers apart nearest_of twelfths_of printed_byte rank_of rank_with meant_by averages_of delays_of
    lowest_from tabulate_from total from_bits place_in cg_table pg_table delays bytes hz_table too_large_field hertz_of mark_of
    fresh_generator wrapped draw_of places seek guarded_place number mended correction_of data_number place_at bit_at packed
    index_in reading_of record_mark
all_twelve = tt
