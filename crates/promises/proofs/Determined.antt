-- For every public function of every crate: any two results, and any two later contents of what it was lent, that its
-- contract allows are equal. `Learnt` is what a contract tells its caller of the arguments a, the result r and the
-- parameters at exit e. What is lent in a layout is
-- seen by `lent_lists`: a wide table has no small list.
-- Assumes nothing.
use Rattle.std.specs.Prelude.{Option, Result, Ok, Err}
use mathlib.Core.Path.{◌≡◌, sym, ap, ◌∙◌}
use mathlib.Core.Bool.{true≢false}
use lib.Dec.{eqb}
use mathlib.Core.List.{List}
use Prim.Native.Nat.{ℕ, ◌≤◌}
use native.Mathlib.Bridge.{le_prop}
use mathlib.Core.HLevel.{is_prop→PathP}
use lib.IntN.{ℤ}
use Rattle.basics.proofs.Determined.{determined}
use Rattle.basics.proofs.Refusals.{number_tells, answer_tells, not_done}
use Rattle.basics.specs.declared.refusal.Refusal.{Refusal}
use Rattle.basics.proofs.refusal.Refusal.number as number
use Rattle.basics.proofs.refusal.answer as answer
use Rattle.grid.specs.declared.place.Grid.{Grid}
use Rattle.grid.specs.Grid.{steps_of}
use Rattle.table.specs.declared.cell.Cell.{Cell}
use Rattle.sums.specs.declared.box_sums.Stats.{Stats}
use Rattle.spread.specs.declared.both_sides.BestCut.{BestCut}
use Rattle.rounds.specs.declared.gather.Boxes.{Boxes}
use Rattle.cutter.specs.Record.{CutRecord}
use Rattle.table.specs.Layouts.{Wide, Narrow}
use Rattle.table.specs.Narrow.{NarrowTable, narrow_table}
use Rattle.cutter.specs.Cut.{Results, buffers, no_work, buffers_in, no_work_in, record_of, done_record, refused_record}
use Rattle.promises.specs.Seen.{written}
use Rattle.promises.specs.Layouts.{lists_in, lent_lists, DeterminesIn, DeterminesOf}
use Rattle.grid.proofs.dimension.shift_of as Shift-of
use Rattle.grid.proofs.place.grid_of as grid-of
use Rattle.grid.proofs.place.Grid.rgb as rgb
use Rattle.grid.proofs.dimension.bin_of as bin-of
use Rattle.grid.proofs.dimension.span_of as Span-of
use Rattle.grid.proofs.place.bins as bins
use Rattle.grid.proofs.place.place as place
use Rattle.pixels.proofs.colour.colour as colour
use Rattle.grid.proofs.steps.steps as steps
use Rattle.pixels.proofs.equal.equal_colours as equal-colours
use Rattle.table.proofs.wide.table_len as table-len
use Rattle.table.proofs.wide.cell_at as Cell-at
use Rattle.table.proofs.wide.put_at as put-at
use Rattle.table.proofs.layout.WideLayout.fits as wide-fits
use Rattle.table.proofs.layout.WideLayout.cell as wide-cell
use Rattle.table.proofs.layout.WideLayout.put as wide-put
use Rattle.table.proofs.layout.WideLayout.limit as wide-limit
use Rattle.table.proofs.layout.WideLayout.too_heavy as wide-too-heavy
use Rattle.table.proofs.layout.NarrowLayout.fits as narrow-fits
use Rattle.table.proofs.layout.NarrowLayout.cell as narrow-cell
use Rattle.table.proofs.layout.NarrowLayout.put as narrow-put
use Rattle.table.proofs.layout.NarrowLayout.limit as narrow-limit
use Rattle.table.proofs.layout.NarrowLayout.too_heavy as narrow-too-heavy
use Rattle.table.proofs.cell.plus as plus
use Rattle.table.proofs.cell.minus as minus
use Rattle.table.proofs.spans.row_spans as row-spans
use Rattle.table.proofs.spans.fill_spans as fill-spans
use Rattle.table.proofs.spans.Spans.of as spans-of
use Rattle.table.proofs.sound.keeps_bounds as keeps-bounds
use Rattle.table.proofs.sound.sound_total as sound-total
use Rattle.adder.proofs.shares.add_at as add_at
use Rattle.adder.proofs.steps.Steps.of as steps-of
use Rattle.adder.proofs.add.add_batch as add-batch
use Rattle.loader.proofs.load.load_scaled as load-scaled
use Rattle.loader.proofs.load.load as load
use Rattle.loader.proofs.merge.merge as merge
use Rattle.recorder.specs.declared.session.SessionAnswer.{SessionAnswer}
use Rattle.recorder.proofs.session.begin as begin
use Rattle.recorder.proofs.session.reload as reload
use Rattle.recorder.proofs.batch.batch as batch
use Rattle.recorder.proofs.replay.replay as replay
use Rattle.ppm.proofs.header.read_header as read-header
use Rattle.ppm.proofs.load.load_ppm as load-ppm
use Rattle.compare.specs.declared.call.Compared.{Compared}
use Rattle.compare.proofs.call.compare as compare
use Rattle.rescue.proofs.call.rescue as rescue
use Rattle.widen.proofs.call.widen as widen
use Rattle.bins.proofs.add_up.add_up as add-up
use Rattle.sums.proofs.moments.moments as moments
use Rattle.sums.proofs.box_sums.in_float as in_float_lem
use Rattle.sums.proofs.box_sums.stats_of as stats-of
use Rattle.sums.proofs.box_sums.sum_of_bins as sum-of-bins
use Rattle.sums.proofs.box_sums.box_sum as box-sum
use Rattle.spread.proofs.spread.spread as spread
use Rattle.spread.proofs.spread.score as score
use Rattle.spread.proofs.position.position_between as position-between
use Rattle.spread.proofs.position.better as better
use Rattle.boxes.proofs.sides.Bounds.first_bin as first-bin
use Rattle.boxes.proofs.sides.Bounds.end_bin as end-bin
use Rattle.boxes.proofs.sides.Bounds.is_one_bin as is-one-bin
use Rattle.boxes.proofs.sides.Bounds.whole as whole
use Rattle.boxes.proofs.bytes.packed as packed
use Rattle.boxes.proofs.bytes.unpacked as unpacked
use Rattle.boxes.proofs.sides.Bounds.low_side as low-side
use Rattle.boxes.proofs.sides.Bounds.high_side as high-side
use Rattle.spread.proofs.search.best_cut as best-cut
use Rattle.heap.specs.declared.heap.Heap.{Heap}
use Rattle.heap.specs.declared.heap.BoxSpread.{BoxSpread as AnyBox}
use lib.ListN.{length}
use Rattle.std.proofs.Math.Nat.{ℕ_set}
use Rattle.heap.proofs.heap.Heap.new as heap-new
use Rattle.heap.proofs.heap.Heap.len as heap-len
use Rattle.heap.proofs.heap.Heap.room as heap-room
use Rattle.heap.proofs.heap.Heap.top as heap-top
use Rattle.heap.proofs.heap.Heap.put_in as put_in
use Rattle.heap.proofs.heap.Heap.take_out as take_out
use Rattle.rounds.proofs.gather.cut_boxes as cut-boxes
use Rattle.cutter.proofs.call.no_boxes as no-boxes
use Rattle.cutter.proofs.palette.front as front
use Rattle.band.proofs.number.band_number as band-number
use Rattle.band.proofs.look_up.LookUp.of as look-up-of
use Rattle.band.proofs.look_up.LookUp.index_at as index_at
use Rattle.mapper.proofs.call.map as map
use Rattle.painter.proofs.call.paint as paint
use Rattle.inputs.proofs.looks.begins_with as begins-with
use Rattle.inputs.proofs.frames.to_front as to_front
use Rattle.inputs.proofs.frames.frame_number as frame-number
use Rattle.terminal.proofs.call.nearest as nearest
use Rattle.lines.specs.declared.batches.Loaded.{Loaded}
use Rattle.lines.proofs.batches.empty_table as empty_table_lem
use Rattle.lines.proofs.batches.load_batch as load-batch
use Rattle.lines.specs.declared.writer.Writer.{Writer}
use Rattle.lines.specs.Writing.{Writes}
use Rattle.lines.proofs.found.cut_into as cut-into
use Rattle.lines.proofs.found.cut_loaded as cut-loaded
use Rattle.lines.proofs.writer.Writer.word as word
use Rattle.lines.proofs.writer.Writer.named as named
use Rattle.lines.proofs.writer.Writer.head as head
use Rattle.lines.proofs.listing.total as total
use Rattle.lines.proofs.writer.Writer.box_line as box-line
use Rattle.lines.proofs.listing.refused as refused
use Rattle.lines.proofs.text.text as text
use Rattle.swatches.proofs.text.swatch_text as swatch-text
use Rattle.cutter.proofs.call.cut as cut
use Rattle.seluvava.specs.declared.cut.CutAnswer.{CutAnswer}
use Rattle.seluvava.specs.Cut.{Lent, lent, LentIn, lent_in}
use Rattle.seluvava.proofs.version.seluvava_version as exported-version
use Rattle.seluvava.proofs.sizes.seluvava_bins as exported-bins
use Rattle.seluvava.proofs.tables.seluvava_table_len as exported-table-len
use Rattle.seluvava.proofs.tables.seluvava_load as exported-load
use Rattle.seluvava.proofs.tables.seluvava_merge as exported-merge
use Rattle.seluvava.proofs.tables.seluvava_compare as exported-compare
use Rattle.seluvava.proofs.files.seluvava_ppm_header as exported-ppm-header
use Rattle.seluvava.proofs.files.seluvava_load_ppm as exported-load-ppm
use Rattle.seluvava.proofs.tables.seluvava_rescue as exported-rescue
use Rattle.seluvava.proofs.recordings.seluvava_begin as exported-begin
use Rattle.seluvava.proofs.recordings.seluvava_reload as exported-reload
use Rattle.seluvava.proofs.recordings.seluvava_batch as exported-batch
use Rattle.seluvava.proofs.recordings.seluvava_replay as exported-replay
use Rattle.seluvava.proofs.cut.seluvava_cut as exported-cut
use Rattle.seluvava.proofs.cut.seluvava_cut_slowly as exported-cut-slowly
use Rattle.seluvava.proofs.narrow.seluvava_narrow_load as exported-narrow-load
use Rattle.seluvava.proofs.narrow.seluvava_narrow_merge as exported-narrow-merge
use Rattle.seluvava.proofs.narrow.seluvava_narrow_cut as exported-narrow-cut
use Rattle.seluvava.proofs.narrow.seluvava_narrow_cut_slowly as exported-narrow-cut-slowly
use Rattle.seluvava.proofs.narrow.seluvava_widen as exported-widen
use Rattle.seluvava.proofs.frames.seluvava_map as exported-map
use Rattle.seluvava.proofs.frames.seluvava_paint as exported-paint
use Rattle.seluvava.proofs.terminals.seluvava_nearest as exported-nearest
use Rattle.basics.specs.Determines.{Determines}

both : {A B : Type 0} {a c : A} {b d : B} → a ≡ c → b ≡ d → ◌≡◌ {A = A × B} (a, b) (c, d)
both p q = λ i. (p i, q i)

-- ---- basics
pub number_determined : Determines 0 number.Kinds.ps number.Kinds.r number.Reads.Learnt (λ κs r e. r)
number_determined κs a r s x y p q = determined p q

pub answer_determined : Determines 0 answer.Kinds.ps answer.Kinds.r answer.Reads.Learnt (λ κs r e. r)
answer_determined κs a r s x y p q = determined p q

-- ---- pixels
pub colour_determined : Determines 1 colour.Kinds.ps colour.Kinds.r colour.Reads.Learnt (λ κs r e. r)
colour_determined κs a r s x y p q = determined p q

pub equal_colours_determined : Determines 1 equal-colours.Kinds.ps equal-colours.Kinds.r equal-colours.Reads.Learnt
    (λ κs r e. r)
equal_colours_determined κs a r s x y p q = determined p q

-- ---- grid
pub shift_of_determined : Determines 0 Shift-of.Kinds.ps Shift-of.Kinds.r Shift-of.Reads.Learnt (λ κs r e. r)
shift_of_determined κs a r s x y p q = determined p q

pub grid_of_determined : Determines 0 grid-of.Kinds.ps grid-of.Kinds.r grid-of.Reads.Learnt (λ κs r e. r)
grid_of_determined κs a r s x y p q = determined p q

pub rgb_determined : Determines 0 rgb.Kinds.ps rgb.Kinds.r rgb.Reads.Learnt (λ κs r e. r)
rgb_determined κs a r s x y p q = determined p q

pub bin_of_determined : Determines 0 bin-of.Kinds.ps bin-of.Kinds.r bin-of.Reads.Learnt (λ κs r e. r)
bin_of_determined κs a r s x y p q = determined p q

pub span_of_determined : Determines 0 Span-of.Kinds.ps Span-of.Kinds.r Span-of.Reads.Learnt (λ κs r e. r)
span_of_determined κs a r s x y p q = determined p q

pub bins_determined : Determines 0 bins.Kinds.ps bins.Kinds.r bins.Reads.Learnt (λ κs r e. r)
bins_determined κs a r s x y p q = determined p q

pub place_determined : Determines 0 place.Kinds.ps place.Kinds.r place.Reads.Learnt (λ κs r e. r)
place_determined κs a r s x y p q = determined p q

pub steps_determined : Determines 0 steps.Kinds.ps steps.Kinds.r steps.Reads.Learnt (λ κs r e. r)
steps_determined κs a r s x y p q = determined p q

-- ---- boxes
pub first_bin_determined : Determines 0 first-bin.Kinds.ps first-bin.Kinds.r first-bin.Reads.Learnt (λ κs r e. r)
first_bin_determined κs a r s x y p q = determined p q

pub end_bin_determined : Determines 0 end-bin.Kinds.ps end-bin.Kinds.r end-bin.Reads.Learnt (λ κs r e. r)
end_bin_determined κs a r s x y p q = determined p q

pub is_one_bin_determined : Determines 0 is-one-bin.Kinds.ps is-one-bin.Kinds.r is-one-bin.Reads.Learnt (λ κs r e. r)
is_one_bin_determined κs a r s x y p q = determined p q

pub low_side_determined : Determines 0 low-side.Kinds.ps low-side.Kinds.r low-side.Reads.Learnt (λ κs r e. r)
low_side_determined κs a r s x y p q = determined p q

pub high_side_determined : Determines 0 high-side.Kinds.ps high-side.Kinds.r high-side.Reads.Learnt (λ κs r e. r)
high_side_determined κs a r s x y p q = determined p q

pub whole_determined : Determines 0 whole.Kinds.ps whole.Kinds.r whole.Reads.Learnt (λ κs r e. r)
whole_determined κs a r s x y p q = determined p q

pub packed_determined : Determines 0 packed.Kinds.ps packed.Kinds.r packed.Reads.Learnt (λ κs r e. r)
packed_determined κs a r s x y p q = determined p q

pub unpacked_determined : Determines 0 unpacked.Kinds.ps unpacked.Kinds.r unpacked.Reads.Learnt (λ κs r e. r)
unpacked_determined κs a r s x y p q = determined p q

-- ---- table
pub table_len_determined : Determines 0 table-len.Kinds.ps table-len.Kinds.r table-len.Reads.Learnt (λ κs r e. r)
table_len_determined κs a r s x y p q = determined p q

pub cell_at_determined : Determines 1 Cell-at.Kinds.ps Cell-at.Kinds.r Cell-at.Reads.Learnt (λ κs r e. r)
cell_at_determined κs a r s x y p q = determined p q

pub put_at_determined : Determines 1 put-at.Kinds.ps put-at.Kinds.r put-at.Reads.Learnt (λ κs r e. e.0.now)
put_at_determined κs a r s x y p q = determined p q

pub wide_fits_determined : Determines 0 wide-fits.Kinds.ps wide-fits.Kinds.r wide-fits.Reads.Learnt (λ κs r e. r)
wide_fits_determined κs a r s x y p q = determined p q

pub wide_cell_determined : Determines 2 wide-cell.Kinds.ps wide-cell.Kinds.r wide-cell.Reads.Learnt (λ κs r e. r)
wide_cell_determined κs a r s x y p q = determined p q

pub wide_put_determined : Determines 2 wide-put.Kinds.ps wide-put.Kinds.r wide-put.Reads.Learnt
    (λ κs r e. lent_lists Wide e.0.now e.1.0.now)
wide_put_determined κs a r s x y p q = ap (lists_in Wide) (determined p q)

pub wide_limit_determined : Determines 0 wide-limit.Kinds.ps wide-limit.Kinds.r wide-limit.Reads.Learnt (λ κs r e. r)
wide_limit_determined κs a r s x y p q = determined p q

pub wide_too_heavy_determined : Determines 0 wide-too-heavy.Kinds.ps wide-too-heavy.Kinds.r wide-too-heavy.Reads.Learnt
    (λ κs r e. r)
wide_too_heavy_determined κs a r s x y p q = number_tells r s (determined p q)

pub narrow_fits_determined : Determines 0 narrow-fits.Kinds.ps narrow-fits.Kinds.r narrow-fits.Reads.Learnt (λ κs r e. r)
narrow_fits_determined κs a r s x y p q = determined p q

pub narrow_cell_determined : Determines 2 narrow-cell.Kinds.ps narrow-cell.Kinds.r narrow-cell.Reads.Learnt (λ κs r e. r)
narrow_cell_determined κs a r s x y p q = determined p q

pub narrow_put_determined : Determines 2 narrow-put.Kinds.ps narrow-put.Kinds.r narrow-put.Reads.Learnt (λ κs r e. narrow_table e.0.now e.1.0.now)
narrow_put_determined κs a r s x y p q = determined p q

pub narrow_limit_determined : Determines 0 narrow-limit.Kinds.ps narrow-limit.Kinds.r narrow-limit.Reads.Learnt (λ κs r e. r)
narrow_limit_determined κs a r s x y p q = determined p q

pub narrow_too_heavy_determined : Determines 0 narrow-too-heavy.Kinds.ps narrow-too-heavy.Kinds.r narrow-too-heavy.Reads.Learnt
    (λ κs r e. r)
narrow_too_heavy_determined κs a r s x y p q = number_tells r s (determined p q)

pub plus_determined : Determines 0 plus.Kinds.ps plus.Kinds.r plus.Reads.Learnt (λ κs r e. r)
plus_determined κs a r s x y p q = determined p q

pub minus_determined : Determines 0 minus.Kinds.ps minus.Kinds.r minus.Reads.Learnt (λ κs r e. r)
minus_determined κs a r s x y p q = determined p q

pub row_spans_determined : Determines 0 row-spans.Kinds.ps row-spans.Kinds.r row-spans.Reads.Learnt (λ κs r e. r)
row_spans_determined κs a r s x y p q = determined p q

pub fill_spans_determined : Determines 1 fill-spans.Kinds.ps fill-spans.Kinds.r fill-spans.Reads.Learnt (λ κs r e. e.0.now)
fill_spans_determined κs a r s x y p q = determined p q

pub spans_of_determined : Determines {A = Grid × List ℕ} 0 spans-of.Kinds.ps spans-of.Kinds.r spans-of.Reads.Learnt (λ κs r e. (r.g, r.third))
spans_of_determined κs a r s x y p q = both (determined p.0 q.0) (determined p.1 q.1)

pub keeps_bounds_determined : Determines 1 keeps-bounds.Kinds.ps keeps-bounds.Kinds.r keeps-bounds.Reads.Learnt (λ κs r e. r)
keeps_bounds_determined κs a r s x y p q = determined p q

pub sound_total_determined : DeterminesIn {A = Option ℕ} 3 sound-total.Kinds.ps sound-total.Kinds.r sound-total.Reads.Learnt
    (λ T laws l κs r e. r)
sound_total_determined T laws l d κs a r s x y p q = determined p q

-- ---- adder
pub add_at_determined : DeterminesIn 3 add_at.Kinds.ps add_at.Kinds.r add_at.Reads.Learnt
    (λ T laws l κs r e. lent_lists l e.0.now e.1.0.now)
add_at_determined T laws l d κs a r s x y p q = ap (lists_in l.layout) (determined p q)

pub steps_of_determined : Determines {A = Grid × List ℕ} 0 steps-of.Kinds.ps steps-of.Kinds.r steps-of.Reads.Learnt (λ κs r e. (r.g, r.numbers))
steps_of_determined κs a r s x y p q = both (determined p.0 q.0) (determined p.1 q.1)

pub add_batch_determined : DeterminesIn {A = Option ℕ × (List ℕ × List ℕ)} 6 add-batch.Kinds.ps add-batch.Kinds.r add-batch.Reads.Learnt
    (λ T laws l κs r e. (r, lent_lists l e.1.0.now e.1.1.0.now))
add_batch_determined T laws l d κs a r s x y p q = both (determined p.0 q.0) (ap (lists_in l.layout) (determined p.1 q.1))

-- ---- loader
pub load_scaled_determined : DeterminesIn {A = Result (Unit {0}) Refusal × (List ℕ × List ℕ)} 5 load-scaled.Kinds.ps load-scaled.Kinds.r load-scaled.Reads.Learnt
    (λ T laws l κs r e. (r, lent_lists l e.1.1.1.1.0.now e.1.1.1.1.1.0.now))
load_scaled_determined T laws l d κs a r s x y p q =
    both (answer_tells r s (determined p.0 q.0)) (ap (lists_in l.layout) (determined p.1 q.1))

pub load_determined : DeterminesIn {A = Result (Unit {0}) Refusal × (List ℕ × List ℕ)} 5 load.Kinds.ps load.Kinds.r load.Reads.Learnt
    (λ T laws l κs r e. (r, lent_lists l e.1.1.1.0.now e.1.1.1.1.0.now))
load_determined T laws l d κs a r s x y p q =
    both (answer_tells r s (determined p.0 q.0)) (ap (lists_in l.layout) (determined p.1 q.1))

pub merge_determined : DeterminesIn {A = Result (Unit {0}) Refusal × (List ℕ × List ℕ)} 5 merge.Kinds.ps merge.Kinds.r merge.Reads.Learnt
    (λ T laws l κs r e. (r, lent_lists l e.1.1.1.0.now e.1.1.1.1.0.now))
merge_determined T laws l d κs a r s x y p q =
    both (answer_tells r s (determined p.0 q.0)) (ap (lists_in l.layout) (determined p.1 q.1))

-- ---- recorder
pub begin_determined : Determines 0 begin.Kinds.ps begin.Kinds.r begin.Reads.Learnt (λ κs r e. r)
begin_determined κs a r s x y p q = determined p q

pub reload_determined : Determines 0 reload.Kinds.ps reload.Kinds.r reload.Reads.Learnt (λ κs r e. r)
reload_determined κs a r s x y p q = determined p q

pub batch_determined : Determines {A = Result (Unit {0}) Refusal × List ℕ} 3 batch.Kinds.ps batch.Kinds.r batch.Reads.Learnt
    (λ κs r e. (r, e.1.1.1.1.1.0.now))
batch_determined κs a r s x y p q = both (answer_tells r s (determined p.0 q.0)) (determined p.1 q.1)

pub replay_determined : Determines {A = SessionAnswer × (List ℕ × List ℕ)} 5 replay.Kinds.ps replay.Kinds.r
    replay.Reads.Learnt (λ κs r e. (r, (e.1.1.1.1.0.now, e.1.1.1.1.1.1.1.1.0.now)))
replay_determined κs a r s x y p q =
    both (determined p.0 q.0) (both (determined p.1.0 q.1.0) (determined p.1.1 q.1.1))

-- ---- ppm
pub read_header_determined : Determines 1 read-header.Kinds.ps read-header.Kinds.r read-header.Reads.Learnt (λ κs r e. r)
read_header_determined κs a r s x y p q = determined p q

pub load_ppm_determined : Determines {A = Result (Unit {0}) Refusal × List ℕ} 2 load-ppm.Kinds.ps load-ppm.Kinds.r load-ppm.Reads.Learnt
    (λ κs r e. (r, e.1.1.1.0.now))
load_ppm_determined κs a r s x y p q = both (answer_tells r s (determined p.0 q.0)) (determined p.1 q.1)

-- ---- compare
pub compare_determined : Determines {A = Compared × List ℤ} 3 compare.Kinds.ps compare.Kinds.r compare.Reads.Learnt
    (λ κs r e. (r, e.1.1.1.1.1.0.now))
compare_determined κs a r s x y p q = both (determined p.0 q.0) (determined p.1 q.1)

-- ---- rescue
pub rescue_determined : Determines {A = Result (Unit {0}) Refusal × (List ℕ × List ℕ)} 2 rescue.Kinds.ps rescue.Kinds.r rescue.Reads.Learnt
    (λ κs r e. (r, (e.1.1.1.0.now, e.1.1.1.1.0.now)))
rescue_determined κs a r s x y p q =
    both (answer_tells r s (determined p.0 q.0)) (both (determined p.1.0 q.1.0) (determined p.1.1 q.1.1))

-- ---- widen
pub widen_determined : Determines {A = Result (Unit {0}) Refusal × List ℕ} 3 widen.Kinds.ps widen.Kinds.r widen.Reads.Learnt
    (λ κs r e. (r, e.1.1.1.1.1.0.now))
widen_determined κs a r s x y p q = both (answer_tells r s (determined p.0 q.0)) (determined p.1 q.1)

-- ---- bins
pub add_up_determined : DeterminesIn {A = Cell} 3 add-up.Kinds.ps add-up.Kinds.r add-up.Reads.Learnt
    (λ T laws l κs r e. r)
add_up_determined T laws l d κs a r s x y p q = determined p q

-- ---- sums
pub moments_determined : DeterminesIn 5 moments.Kinds.ps moments.Kinds.r moments.Reads.Learnt
    (λ T laws l κs r e. lent_lists l e.1.1.1.0.now e.1.1.1.1.0.now)
moments_determined T laws l d κs a r s x y p q = ap (lists_in l.layout) (determined p q)

pub in_float_determined : Determines 0 in_float_lem.Kinds.ps in_float_lem.Kinds.r in_float_lem.Reads.Learnt (λ κs r e. r)
in_float_determined κs a r s x y p q = determined p q

pub stats_of_determined : Determines 0 stats-of.Kinds.ps stats-of.Kinds.r stats-of.Reads.Learnt (λ κs r e. r)
stats_of_determined κs a r s x y p q = determined p q

pub sum_of_bins_determined : DeterminesIn {A = Stats} 3 sum-of-bins.Kinds.ps sum-of-bins.Kinds.r sum-of-bins.Reads.Learnt
    (λ T laws l κs r e. r)
sum_of_bins_determined T laws l d κs a r s x y p q = determined p q

pub box_sum_determined : DeterminesIn {A = Stats} 5 box-sum.Kinds.ps box-sum.Kinds.r box-sum.Reads.Learnt
    (λ T laws l κs r e. r)
box_sum_determined T laws l d κs a r s x y p q = determined p q

-- ---- spread
pub spread_determined : Determines 0 spread.Kinds.ps spread.Kinds.r spread.Reads.Learnt (λ κs r e. r)
spread_determined κs a r s x y p q = determined p q

pub score_determined : Determines 0 score.Kinds.ps score.Kinds.r score.Reads.Learnt (λ κs r e. r)
score_determined κs a r s x y p q = determined p q

pub position_between_determined : Determines 0 position-between.Kinds.ps position-between.Kinds.r position-between.Reads.Learnt (λ κs r e. r)
position_between_determined κs a r s x y p q = determined p q

pub better_determined : Determines 0 better.Kinds.ps better.Kinds.r better.Reads.Learnt (λ κs r e. r)
better_determined κs a r s x y p q = determined p q

pub best_cut_determined : DeterminesIn {A = Option BestCut} 5 best-cut.Kinds.ps best-cut.Kinds.r best-cut.Reads.Learnt
    (λ T laws l κs r e. r)
best_cut_determined T laws l d κs a r s x y p q = determined p q

-- ---- heap
-- of boxes of any type: two heaps are one where they have the same room and as many places in use
same_heap : {B : Type 0} {x y : Heap B} → x.room ≡ y.room → x.len ≡ y.len → x ≡ y
same_heap {x = x} {y} p q = λ i. record {
  room = p i;
  len = q i;
  long = is_prop→PathP (λ j. length (p j) ≡ 256) (λ j. ℕ_set _ _) x.long y.long i;
  in_room = is_prop→PathP (λ j. q j ≤ 256) (λ j. le_prop) x.in_room y.in_room i;
}

pub heap_new_determined : DeterminesOf {A = λ T. Heap T.Denot} 1 heap-new.Kinds.ps heap-new.Kinds.r heap-new.Reads.Learnt
    (λ T laws copy κs r e. r)
heap_new_determined T laws copy clone d κs a r s x y p q = same_heap (determined p.0 q.0) (determined p.1 q.1)

pub heap_len_determined : DeterminesOf {A = λ T. ℕ} 2 heap-len.Kinds.ps heap-len.Kinds.r heap-len.Reads.Learnt
    (λ T laws copy κs r e. r)
heap_len_determined T laws copy clone d κs a r s x y p q = determined p q

pub heap_room_determined : DeterminesOf {A = λ T. List (AnyBox T.Denot)} 2 heap-room.Kinds.ps heap-room.Kinds.r heap-room.Reads.Learnt
    (λ T laws copy κs r e. r.now)
heap_room_determined T laws copy clone d κs a r s x y p q = determined p.0 q.0

pub heap_top_determined : DeterminesOf {A = λ T. AnyBox T.Denot} 2 heap-top.Kinds.ps heap-top.Kinds.r heap-top.Reads.Learnt
    (λ T laws copy κs r e. r)
heap_top_determined T laws copy clone d κs a r s x y p q = determined (p r) (q r)

pub put_in_determined : DeterminesOf {A = λ T. Heap T.Denot} 2 put_in.Kinds.ps put_in.Kinds.r put_in.Reads.Learnt
    (λ T laws copy κs r e. e.0.now)
put_in_determined T laws copy clone d κs a r s x y p q =
    same_heap (determined (p.0 a.1.0) (q.0 a.1.0)) (determined p.1 q.1)

pub take_out_determined : DeterminesOf {A = λ T. AnyBox T.Denot × Heap T.Denot} 2 take_out.Kinds.ps take_out.Kinds.r take_out.Reads.Learnt
    (λ T laws copy κs r e. (r, e.0.now))
take_out_determined T laws copy clone d κs a r s x y p q =
    both (determined (p.0 r) (q.0 r))
    (same_heap {x = x.0.now} {y = y.0.now} (determined (p.1.0 r) (q.1.0 r)) (determined p.1.1 q.1.1))

-- ---- rounds
pub cut_boxes_determined : DeterminesIn {A = Boxes} 5 cut-boxes.Kinds.ps cut-boxes.Kinds.r cut-boxes.Reads.Learnt
    (λ T laws l κs r e. r)
cut_boxes_determined T laws l d κs a r s x y p q = determined p q

-- ---- cutter
pub no_boxes_determined : Determines {A = Boxes} 0 no-boxes.Kinds.ps no-boxes.Kinds.r no-boxes.Reads.Learnt (λ κs r e. r)
no_boxes_determined κs a r s x y p q = determined p q

pub front_determined : Determines 1 front.Kinds.ps front.Kinds.r front.Reads.Learnt (λ κs r e. r.now)
front_determined κs a r s x y p q = determined p q

-- two results of a cut with one record are the same
record_tells : (r s : Result Boxes Refusal) → record_of r ≡ record_of s → r ≡ s
unfolding done_record refused_record
record_tells (Ok b) (Ok c) e =
    ap (λ (x : CutRecord). Ok (record { boxes = x.boxes; rounds = x.rounds; places = x.places })) e
record_tells (Ok b) (Err s) e = absurd (true≢false (ap (λ (x : CutRecord). eqb x.number 0) e ∙ not_done s))
record_tells (Err r) (Ok c) e = absurd (true≢false (sym (ap (λ (x : CutRecord). eqb x.number 0) e) ∙ not_done r))
record_tells (Err r) (Err s) e =
    ap (λ (x : Refusal). Err x) (number_tells r s (ap (λ (x : CutRecord). x.number) e))

pub cut_determined : DeterminesIn {A = Result Boxes Refusal × (List ℕ × List ℕ) × Results} 9 cut.Kinds.ps cut.Kinds.r
    cut.Reads.Learnt
    (λ T laws l κs r e. (
      r,
      lent_lists l e.1.1.1.1.1.1.1.0.now e.1.1.1.1.1.1.1.1.0.now,
      record {
        palette = e.1.1.1.1.1.1.1.1.1.0.now;
        counts = e.1.1.1.1.1.1.1.1.1.1.0.now;
        remainders = e.1.1.1.1.1.1.1.1.1.1.1.0.now;
        map = e.1.1.1.1.1.1.1.1.1.1.1.1.0.now;
      },
    ))
cut_determined T laws l d κs a r s x y p q =
    let later = determined p.1 q.1 in
    λ i. (record_tells r s (determined p.0 q.0) i, lists_in l.layout (later i).work, (later i).results)

-- ---- band
pub band_number_determined : Determines {A = Result (Unit {0}) Refusal} 1 band-number.Kinds.ps band-number.Kinds.r
    band-number.Reads.Learnt (λ κs r e. r)
band_number_determined κs a r s x y p q = answer_tells r s (determined p q)

pub look_up_of_determined : Determines {A = (Grid × List ℕ) × (List ℕ × List ℕ)} 1 look-up-of.Kinds.ps
    look-up-of.Kinds.r look-up-of.Reads.Learnt (λ κs r e. ((r.g, r.map.now), (r.t1, r.t2)))
look_up_of_determined κs a r s x y p q =
    let steps : (d : ℕ) → steps_of r.g d ≡ steps_of s.g d = λ d. ap (λ g. steps_of g d) (determined p.0 q.0) in
    both (both (determined p.0 q.0) (determined p.1 q.1))
    (both (r.ready.one ∙ steps 0 ∙ sym s.ready.one) (r.ready.two ∙ steps 1 ∙ sym s.ready.two))

pub index_at_determined : Determines 3 index_at.Kinds.ps index_at.Kinds.r index_at.Reads.Learnt (λ κs r e. r)
index_at_determined κs a r s x y p q = determined p q

-- ---- mapper
pub map_determined : Determines {A = Result (Unit {0}) Refusal × List ℕ} 3 map.Kinds.ps map.Kinds.r map.Reads.Learnt
    (λ κs r e. (r, e.1.1.1.1.1.1.0.now))
map_determined κs a r s x y p q = both (answer_tells r s (determined p.0 q.0)) (determined p.1 q.1)

-- ---- painter
pub paint_determined : Determines {A = Result (Unit {0}) Refusal × List ℕ} 3 paint.Kinds.ps paint.Kinds.r paint.Reads.Learnt
    (λ κs r e. (r, e.1.1.1.1.1.0.now))
paint_determined κs a r s x y p q = both (answer_tells r s (determined p.0 q.0)) (determined p.1 q.1)

-- ---- inputs
pub begins_with_determined : Determines 2 begins-with.Kinds.ps begins-with.Kinds.r begins-with.Reads.Learnt (λ κs r e. r)
begins_with_determined κs a r s x y p q = determined p q

pub to_front_determined : Determines {A = ℕ × List ℕ} 1 to_front.Kinds.ps to_front.Kinds.r to_front.Reads.Learnt
    (λ κs r e. (r, e.0.now))
to_front_determined κs a r s x y p q = both (determined p.0 q.0) (determined p.1 q.1)

pub frame_number_determined : Determines 0 frame-number.Kinds.ps frame-number.Kinds.r frame-number.Reads.Learnt
    (λ κs r e. r)
frame_number_determined κs a r s x y p q = determined p q

-- ---- terminal
pub nearest_determined : Determines {A = Result (Unit {0}) Refusal × List ℕ} 2 nearest.Kinds.ps nearest.Kinds.r nearest.Reads.Learnt
    (λ κs r e. (r, e.1.0.now))
nearest_determined κs a r s x y p q = both (answer_tells r s (determined p.0 q.0)) (determined p.1 q.1)

-- ---- lines
pub empty_table_determined : Determines 0 empty_table_lem.Kinds.ps empty_table_lem.Kinds.r empty_table_lem.Reads.Learnt
    (λ κs r e. r)
empty_table_determined κs a r s x y p q = determined p q

pub load_batch_determined : Determines {A = Loaded × List ℕ} 2 load-batch.Kinds.ps load-batch.Kinds.r
    load-batch.Reads.Learnt (λ κs r e. (r, e.0.now))
load_batch_determined κs a r s x y p q = both (determined p.0 q.0) (determined p.1 q.1)

same_written : {before one two : Writer} {text : List ℕ} {room : ℕ} → Writes before text room one
    → Writes before text room two → written one ≡ written two
same_written p q = both (determined p.put.ends q.put.ends) (determined p.put.later q.put.later)

pub cut_into_determined : Determines 1 cut-into.Kinds.ps cut-into.Kinds.r cut-into.Reads.Learnt (λ κs r e. r)
cut_into_determined κs a r s x y p q = determined p.0 q.0

pub cut_loaded_determined : Determines 1 cut-loaded.Kinds.ps cut-loaded.Kinds.r cut-loaded.Reads.Learnt (λ κs r e. r)
cut_loaded_determined κs a r s x y p q = determined p.0 q.0

pub word_determined : Determines {A = ℕ × List ℕ} 3 word.Kinds.ps word.Kinds.r word.Reads.Learnt
    (λ κs r e. written e.0.now)
word_determined κs a r s x y p q = same_written p q

pub named_determined : Determines {A = ℕ × List ℕ} 3 named.Kinds.ps named.Kinds.r named.Reads.Learnt
    (λ κs r e. written e.0.now)
named_determined κs a r s x y p q = same_written p q

pub head_determined : Determines {A = ℕ × List ℕ} 2 head.Kinds.ps head.Kinds.r head.Reads.Learnt
    (λ κs r e. written e.0.now)
head_determined κs a r s x y p q = same_written p q

pub total_determined : Determines 1 total.Kinds.ps total.Kinds.r total.Reads.Learnt (λ κs r e. r)
total_determined κs a r s x y p q = determined p q

pub box_line_determined : Determines {A = ℕ × List ℕ} 4 box-line.Kinds.ps box-line.Kinds.r box-line.Reads.Learnt
    (λ κs r e. written e.0.now)
box_line_determined κs a r s x y p q = same_written p q

pub refused_determined : Determines {A = ℕ × List ℕ} 1 refused.Kinds.ps refused.Kinds.r refused.Reads.Learnt
    (λ κs r e. (r, e.1.0.now))
refused_determined κs a r s x y p q = both (determined p.0 q.0) (determined p.1.0 q.1.0)

pub text_determined : Determines {A = ℕ × List ℕ} 2 text.Kinds.ps text.Kinds.r text.Reads.Learnt
    (λ κs r e. (r, e.1.1.0.now))
text_determined κs a r s x y p q = both (determined p.0 q.0) (determined p.1.0 q.1.0)

-- ---- swatches
pub swatch_text_determined : Determines {A = ℕ × List ℕ} 2 swatch-text.Kinds.ps swatch-text.Kinds.r
    swatch-text.Reads.Learnt (λ κs r e. (r, e.1.1.0.now))
swatch_text_determined κs a r s x y p q = both (determined p.0 q.0) (determined p.1.0 q.1.0)

-- ---- seluvava
pub exported_version_determined : Determines 0 exported-version.Kinds.ps exported-version.Kinds.r
    exported-version.Reads.Learnt (λ κs r e. r)
exported_version_determined κs a r s x y p q = determined p q

pub exported_bins_determined : Determines 0 exported-bins.Kinds.ps exported-bins.Kinds.r exported-bins.Reads.Learnt
    (λ κs r e. r)
exported_bins_determined κs a r s x y p q = determined p q

pub exported_table_len_determined : Determines 0 exported-table-len.Kinds.ps exported-table-len.Kinds.r
    exported-table-len.Reads.Learnt (λ κs r e. r)
exported_table_len_determined κs a r s x y p q = determined p q

pub exported_load_determined : Determines {A = ℕ × List ℕ} 3 exported-load.Kinds.ps exported-load.Kinds.r
    exported-load.Reads.Learnt (λ κs r e. (r, e.1.1.1.0.now))
exported_load_determined κs a r s x y p q = both (determined p.0 q.0) (determined p.1 q.1)

pub exported_merge_determined : Determines {A = ℕ × List ℕ} 2 exported-merge.Kinds.ps exported-merge.Kinds.r
    exported-merge.Reads.Learnt (λ κs r e. (r, e.1.1.1.0.now))
exported_merge_determined κs a r s x y p q = both (determined p.0 q.0) (determined p.1 q.1)

pub exported_compare_determined : Determines {A = Compared × List ℤ} 3 exported-compare.Kinds.ps
    exported-compare.Kinds.r exported-compare.Reads.Learnt (λ κs r e. (r, e.1.1.1.1.1.0.now))
exported_compare_determined κs a r s x y p q = both (determined p.0 q.0) (determined p.1 q.1)

pub exported_ppm_header_determined : Determines 1 exported-ppm-header.Kinds.ps exported-ppm-header.Kinds.r
    exported-ppm-header.Reads.Learnt (λ κs r e. r)
exported_ppm_header_determined κs a r s x y p q = determined p q

pub exported_load_ppm_determined : Determines {A = ℕ × List ℕ} 2 exported-load-ppm.Kinds.ps exported-load-ppm.Kinds.r
    exported-load-ppm.Reads.Learnt (λ κs r e. (r, e.1.1.1.0.now))
exported_load_ppm_determined κs a r s x y p q = both (determined p.0 q.0) (determined p.1 q.1)

pub exported_rescue_determined : Determines {A = ℕ × (List ℕ × List ℕ)} 2 exported-rescue.Kinds.ps
    exported-rescue.Kinds.r exported-rescue.Reads.Learnt (λ κs r e. (r, (e.1.1.1.0.now, e.1.1.1.1.0.now)))
exported_rescue_determined κs a r s x y p q =
    both (determined p.0 q.0) (both (determined p.1.0 q.1.0) (determined p.1.1 q.1.1))

pub exported_begin_determined : Determines 0 exported-begin.Kinds.ps exported-begin.Kinds.r
    exported-begin.Reads.Learnt (λ κs r e. r)
exported_begin_determined κs a r s x y p q = determined p q

pub exported_reload_determined : Determines 0 exported-reload.Kinds.ps exported-reload.Kinds.r
    exported-reload.Reads.Learnt (λ κs r e. r)
exported_reload_determined κs a r s x y p q = determined p q

pub exported_batch_determined : Determines {A = ℕ × List ℕ} 3 exported-batch.Kinds.ps exported-batch.Kinds.r
    exported-batch.Reads.Learnt (λ κs r e. (r, e.1.1.1.1.1.0.now))
exported_batch_determined κs a r s x y p q = both (determined p.0 q.0) (determined p.1 q.1)

pub exported_replay_determined : Determines {A = SessionAnswer × (List ℕ × List ℕ)} 5 exported-replay.Kinds.ps
    exported-replay.Kinds.r exported-replay.Reads.Learnt
    (λ κs r e. (r, (e.1.1.1.1.0.now, e.1.1.1.1.1.1.1.1.0.now)))
exported_replay_determined κs a r s x y p q =
    both (determined p.0 q.0) (both (determined p.1.0 q.1.0) (determined p.1.1 q.1.1))

pub exported_cut_determined : Determines {A = CutAnswer × Lent} 8 exported-cut.Kinds.ps exported-cut.Kinds.r
    exported-cut.Reads.Learnt
    (λ κs r e. (
      r,
      lent
          (buffers e.1.1.1.1.1.0.now e.1.1.1.1.1.1.0.now e.1.1.1.1.1.1.1.0.now
          e.1.1.1.1.1.1.1.1.0.now e.1.1.1.1.1.1.1.1.1.0.now)
          e.1.1.1.1.1.1.1.1.1.1.0.now e.1.1.1.1.1.1.1.1.1.1.1.0.now,
    ))
exported_cut_determined κs a r s x y p q = both (determined p.0 q.0) (determined p.1 q.1)

pub exported_cut_slowly_determined : Determines {A = CutAnswer × Lent} 7 exported-cut-slowly.Kinds.ps
    exported-cut-slowly.Kinds.r exported-cut-slowly.Reads.Learnt
    (λ κs r e. (
      r,
      lent
          (buffers no_work e.1.1.1.1.1.0.now e.1.1.1.1.1.1.0.now e.1.1.1.1.1.1.1.0.now
          e.1.1.1.1.1.1.1.1.0.now)
          e.1.1.1.1.1.1.1.1.1.0.now e.1.1.1.1.1.1.1.1.1.1.0.now,
    ))
exported_cut_slowly_determined κs a r s x y p q = both (determined p.0 q.0) (determined p.1 q.1)

pub exported_map_determined : Determines {A = ℕ × List ℕ} 3 exported-map.Kinds.ps exported-map.Kinds.r
    exported-map.Reads.Learnt (λ κs r e. (r, e.1.1.1.1.1.1.0.now))
exported_map_determined κs a r s x y p q = both (determined p.0 q.0) (determined p.1 q.1)

pub exported_paint_determined : Determines {A = ℕ × List ℕ} 3 exported-paint.Kinds.ps exported-paint.Kinds.r
    exported-paint.Reads.Learnt (λ κs r e. (r, e.1.1.1.1.1.0.now))
exported_paint_determined κs a r s x y p q = both (determined p.0 q.0) (determined p.1 q.1)

pub exported_nearest_determined : Determines {A = ℕ × List ℕ} 2 exported-nearest.Kinds.ps exported-nearest.Kinds.r
    exported-nearest.Reads.Learnt (λ κs r e. (r, e.1.0.now))
exported_nearest_determined κs a r s x y p q = both (determined p.0 q.0) (determined p.1 q.1)

pub exported_narrow_load_determined : Determines {A = ℕ × NarrowTable} 4 exported-narrow-load.Kinds.ps
    exported-narrow-load.Kinds.r exported-narrow-load.Reads.Learnt
    (λ κs r e. (r, narrow_table e.1.1.1.0.now e.1.1.1.1.0.now))
exported_narrow_load_determined κs a r s x y p q = both (determined p.0 q.0) (determined p.1 q.1)

pub exported_narrow_merge_determined : Determines {A = ℕ × NarrowTable} 4 exported-narrow-merge.Kinds.ps
    exported-narrow-merge.Kinds.r exported-narrow-merge.Reads.Learnt
    (λ κs r e. (r, narrow_table e.1.1.1.0.now e.1.1.1.1.0.now))
exported_narrow_merge_determined κs a r s x y p q = both (determined p.0 q.0) (determined p.1 q.1)

pub exported_narrow_cut_determined : Determines {A = CutAnswer × LentIn Narrow} 10 exported-narrow-cut.Kinds.ps
    exported-narrow-cut.Kinds.r exported-narrow-cut.Reads.Learnt
    (λ κs r e. (
      r,
      lent_in Narrow
          (buffers_in Narrow (narrow_table e.1.1.1.1.1.1.0.now e.1.1.1.1.1.1.1.0.now) e.1.1.1.1.1.1.1.1.0.now
          e.1.1.1.1.1.1.1.1.1.0.now e.1.1.1.1.1.1.1.1.1.1.0.now e.1.1.1.1.1.1.1.1.1.1.1.0.now)
          e.1.1.1.1.1.1.1.1.1.1.1.1.0.now e.1.1.1.1.1.1.1.1.1.1.1.1.1.0.now,
    ))
exported_narrow_cut_determined κs a r s x y p q = both (determined p.0 q.0) (determined p.1 q.1)

pub exported_narrow_cut_slowly_determined : Determines {A = CutAnswer × LentIn Narrow} 8
    exported-narrow-cut-slowly.Kinds.ps exported-narrow-cut-slowly.Kinds.r exported-narrow-cut-slowly.Reads.Learnt
    (λ κs r e. (
      r,
      lent_in Narrow
          (buffers_in Narrow (no_work_in Narrow) e.1.1.1.1.1.1.0.now e.1.1.1.1.1.1.1.0.now e.1.1.1.1.1.1.1.1.0.now e.1.1.1.1.1.1.1.1.1.0.now)
          e.1.1.1.1.1.1.1.1.1.1.0.now e.1.1.1.1.1.1.1.1.1.1.1.0.now,
    ))
exported_narrow_cut_slowly_determined κs a r s x y p q = both (determined p.0 q.0) (determined p.1 q.1)

pub exported_widen_determined : Determines {A = ℕ × List ℕ} 3 exported-widen.Kinds.ps exported-widen.Kinds.r
    exported-widen.Reads.Learnt (λ κs r e. (r, e.1.1.1.1.1.0.now))
exported_widen_determined κs a r s x y p q = both (determined p.0 q.0) (determined p.1 q.1)
