-- "Cases P1 to P10 are proved as one table under one statement": each comes out as it says there (Rules, Cases),
-- computed on the definitions that the contracts of load and cut cite.
-- Assumes nothing.
use Rattle.std.specs.Prelude.{Some}
use mathlib.Core.Path.{◌≡◌, refl}
use mathlib.Core.Bool.{true, false}
use mathlib.Core.List.{[], map, Memᴰ}
use lib.IntN.{negsuc}
use lib.Ieee.{fin}
use Rattle.basics.specs.Answer.{refuse, when_done}
use Rattle.basics.specs.Range.{list_from, sum_from, all_from}
use Rattle.grid.specs.Size.{choices, shift_in, shift_of, bin_of, span_of}
use Rattle.basics.specs.Dimension.{choose}
use Rattle.grid.specs.Grid.{shift_at, grid_with, grid_of, grid_answer, on_grid, number_on, bins_of, place_of, bin_at}
use Rattle.grid.specs.Grid.{colour_place}
use Rattle.pixels.specs.Colour.{colour_at}
use Rattle.table.specs.Table.{table_len, is_sized, view_of, written}
use Rattle.table.specs.Sound.{limit, between, squared_span, plus_span, squares_span, in_bounds, span_at, bin_sound}
use Rattle.table.specs.Sound.{total, sound}
use Rattle.adder.specs.Batch.{share, adds, sum_over, weight_of, loaded, weighted_at, batch_of}
use Rattle.loader.specs.Load.{table_of, table_in, load_number_on, load_number_in, load_later_in}
use Rattle.boxes.specs.Box.{min_at, max_at, low_side, high_side}
use Rattle.bins.specs.Sum.{sum3, bin_sum, box_sum}
use Rattle.sums.specs.Box.{stats_of}
use Rattle.sums.specs.Moments.{below_sum, moments_of}
use Rattle.spread.specs.Spread.{quotient_of, spread_of, score_of}
use Rattle.boxes.specs.Box.{one_bin}
use Rattle.spread.specs.Cut.{position_answer, position_of, position_at, later_wins, better, best_run, best_in, best_cut}
use Rattle.heap.specs.Heap.{climb, put_in, sink, enter, take_out}
use Rattle.rounds.specs.Loop.{with_spread, start_room, start, room_after, boxes_after, round_room, round_boxes}
use Rattle.rounds.specs.Loop.{round}
use Rattle.rounds.specs.Loop.{rounds, heap_of, places_of, boxes_of}
use Rattle.boxes.specs.Box.{whole_of}
use Rattle.cutter.specs.Fronts.{join_all, filled}
use Rattle.cutter.specs.Palette.{mean_of, colour_of, count_of, remainder_of, bytes_of, its_colour, its_count, its_remainders}
use Rattle.cutter.specs.Palette.{palette_later, counts_later, remainders_later}
use Rattle.boxes.specs.Holds.{lies, holds, holds_at}
use Rattle.cutter.specs.Map.{index_from, map_of}
use Rattle.cutter.specs.Cut.{results_on, long_enough, cut_number_on, cut_number_in, refused_record, done_record, record_on}
use Rattle.cutter.specs.Cut.{work_fits, cut_record_in}
use Rattle.cutter.specs.Cut.{list_of, box_list, later_on, cut_later_in}
use Rattle.promises.specs.Cases.{Case, loads_of, table_after, position_in, lent_to, outcome, times, empties, plain}
use Rattle.promises.specs.Cases.{weighted, load_gives, at, nowhere, box, record_with, done, refused_with, black_white}
use Rattle.promises.specs.Cases.{black_white_table, black_white_moments, reds, reds_table, reds_moments, full_cell}
use Rattle.promises.specs.Cases.{size_one, cases}
use Rattle.promises.specs.Listing.{grid8, four_pixels, four_table}
use Rattle.promises.specs.Criterion.{sums_squared}
use Rattle.promises.specs.Half.{computed_spread, grid2, lone_bin, fine_table, far_table}
use Rattle.promises.proofs.Each.{each}

pub worked : map outcome cases ≡ map (λ c. c.expected) cases
unfolding loads_of table_after position_in lent_to outcome times empties plain weighted load_gives at nowhere box record_with
    done refused_with black_white black_white_table black_white_moments reds reds_table reds_moments full_cell size_one cases
    refuse when_done list_from sum_from all_from choices shift_in shift_of bin_of span_of choose shift_at grid_with grid_of
    grid_answer on_grid number_on bins_of place_of bin_at colour_place colour_at
    table_len is_sized view_of written between squared_span plus_span squares_span in_bounds span_at bin_sound total sound
    share adds sum_over weight_of loaded weighted_at batch_of load_number_on load_number_in load_later_in
    min_at max_at sum3 bin_sum box_sum stats_of low_side high_side below_sum moments_of
    quotient_of one_bin spread_of score_of position_answer position_of position_at later_wins better best_run best_in best_cut
    climb put_in sink enter take_out
    with_spread whole_of start_room start room_after boxes_after round_room round_boxes round rounds heap_of places_of
    boxes_of
    mean_of colour_of count_of remainder_of bytes_of its_colour its_count its_remainders join_all filled
    palette_later counts_later remainders_later lies holds_at holds
    index_from
    map_of
    work_fits long_enough cut_number_on cut_number_in refused_record done_record record_on cut_record_in list_of box_list later_on
    results_on cut_later_in
    lib.Ieee.of_int lib.Ieee.mul lib.Ieee.add lib.Ieee.sub lib.Ieee.div lib.Ieee.neg lib.Ieee.lt lib.Ieee.le
    lib.Ieee.round lib.Ieee.size lib.Ieee.span lib.Ieee.climb lib.Ieee.units lib.Ieee.odd lib.Ieee.sum lib.Ieee.eq
    lib.Count.count_trailing_zeros
worked = refl

pub each_worked : {c : Case} → Memᴰ c cases → outcome c ≡ c.expected
each_worked m = each outcome (λ c. c.expected) cases worked m

-- the example of the listing program: the table of its four pixels
pub four_added : table_of grid8 (batch_of four_pixels false []) ≡ four_table
unfolding four_pixels four_table table_in list_from bin_of choose shift_at bins_of place_of bin_at colour_place colour_at table_len
    written
    share adds sum_over loaded weighted_at batch_of
four_added = refl

-- the two tables that `not_83` and `not_an_eighth` are about: each is sound, with the spread, the weight, the squares
-- and the squared sums of its whole grid
pub grid2_accepted : grid_of 2 2 2 ≡ Some grid2
unfolding grid_of grid_with shift_of shift_in choices
grid2_accepted = refl

pub fine_worked : (sound limit grid2 fine_table ≡ true)
    × (computed_spread grid2 fine_table (whole_of grid2) ≡ fin true 6004799503160661 (negsuc 83))
    × (box_sum grid2 fine_table (whole_of grid2) 0 ≡ 3221225472)
unfolding fine_table lone_bin sum_from all_from bin_of span_of choose shift_at bins_of place_of bin_at
    between squared_span plus_span squares_span in_bounds span_at bin_sound total sound sum3 bin_sum box_sum stats_of whole_of quotient_of one_bin spread_of
    lib.Ieee.of_int lib.Ieee.mul lib.Ieee.add lib.Ieee.sub lib.Ieee.div
    lib.Ieee.round lib.Ieee.size lib.Ieee.span lib.Ieee.climb lib.Ieee.units lib.Ieee.odd lib.Count.count_trailing_zeros
fine_worked = (refl, refl, refl)

pub far_worked : (sound limit grid2 far_table ≡ true)
    × (computed_spread grid2 far_table (whole_of grid2) ≡ fin true 3 (negsuc 1))
    × (box_sum grid2 far_table (whole_of grid2) 0 ≡ 3635542860)
    × (box_sum grid2 far_table (whole_of grid2) 4 ≡ 694346204755331)
    × (sums_squared grid2 far_table (whole_of grid2) ≡ 2524325387066343710556102)
unfolding far_table lone_bin sum_from all_from bin_of span_of choose shift_at bins_of place_of bin_at
    between squared_span plus_span squares_span in_bounds span_at bin_sound total sound sum3 bin_sum box_sum stats_of whole_of quotient_of one_bin spread_of
    sums_squared
    lib.Ieee.of_int lib.Ieee.mul lib.Ieee.add lib.Ieee.sub lib.Ieee.div
    lib.Ieee.round lib.Ieee.size lib.Ieee.span lib.Ieee.climb lib.Ieee.units lib.Ieee.odd lib.Count.count_trailing_zeros
far_worked = (refl, refl, refl, refl, refl)

-- P1's table, which `p1_doubles` is about: it is sound, and its total is 4
pub p1_worked : (sound limit grid2 (view_of black_white_table) ≡ true) × (total grid2 (view_of black_white_table) ≡ 4)
unfolding black_white_table empties times sum_from all_from bin_of span_of choose shift_at bins_of bin_at view_of
    between squared_span plus_span squares_span in_bounds span_at bin_sound total sound
p1_worked = (refl, refl)
