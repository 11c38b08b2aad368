-- The boxes of a cut (Rules, Demands): at any total, each bin of the grid lies in exactly one box of the record, no box
-- is empty, the counts add up to the total, and each is the sum of the weights in its box; of a loaded table, of the
-- loaded weights whose bin lies there.
-- Assumes nothing.
use Rattle.std.specs.Prelude.{Some}
use mathlib.Core.Path.{◌≡◌, sym, ap, subst, ◌∙◌}
use mathlib.Core.Bool.{Bool, cond}
use mathlib.Core.List.{List, [], ◌∷◌}
use Prim.Native.Nat.{ℕ, ◌+◌, ◌*◌, ◌≤◌, ◌<◌}
use native.Mathlib.Omega.{arith}
use lib.Dec.{lit<}
use lib.ListN.{length, get_or}
use Rattle.grid.specs.declared.place.Grid.{Grid}
use Rattle.basics.specs.Range.{sum_from}
use Rattle.grid.specs.Grid.{grid_of, Accepted, bins_of, colour_place}
use Rattle.basics.proofs.Range.{sum_same}
use Rattle.grid.proofs.Places.{Bytes, colour_place_lt}
use Rattle.table.specs.Layouts.{Wide}
use Rattle.table.specs.Table.{is_sized, view_of}
use Rattle.table.specs.Sound.{limit, total}
use Rattle.adder.specs.Batch.{Weighted, sum_over}
use Rattle.loader.specs.Load.{table_of}
use Rattle.loader.specs.Plan.{Plan, Filled, ends, leaves, BytesIn}
use Rattle.adder.proofs.Loading.{AllBytes, share_weight, over_none, over_more}
use Rattle.loader.proofs.Order.{table_holds, leaves_bytes}
use Rattle.loader.proofs.Plans.{filled_table}
use Rattle.boxes.specs.declared.sides.Bounds.{Bounds}
use Rattle.boxes.specs.Box.{Within}
use Rattle.loaded.proofs.Boxes.{colour_held, loaded_box}
use Rattle.bins.proofs.Same.{box_same}
use Rattle.rounds.specs.declared.gather.Boxes.{Boxes}
use Rattle.boxes.specs.Box.{no_box}
use Rattle.rounds.specs.Loop.{boxes_of}
use Rattle.rounds.proofs.Filled.{heap_most}
use Rattle.sums.specs.declared.source.Source.{Source}
use Rattle.cutter.specs.Record.{CutRecord}
use Rattle.cutter.specs.Palette.{count_of, palette_later, counts_later, front_of}
use Rattle.boxes.specs.Holds.{holds_at}
use Rattle.cutter.specs.Cut.{LengthsFit, results_on, Buffers, lengths_of, cut_number, done_record, cut_record, list_of}
use Rattle.cutter.specs.Cut.{box_list, later_on, cut_later}
use Rattle.cutter.specs.Cut.{CanCut}
use Rattle.cutter.proofs.Colours.{front_filled, palette_at, counts_at}
use Rattle.cutter.proofs.Listed.{list_length}
use Rattle.cutter.proofs.Maps.{map_below, box_of_index}
use Rattle.cutter.proofs.Tiling.{counts_total, sum_of_held}
use Rattle.cutter.proofs.RecordBoxes.{list_found, list_tiles, all_found}
use Rattle.cutter.proofs.Laws.{cut_says}
use Rattle.promises.specs.Tiling.{boxes_in, box_in, Tiling, LoadedCounts}

-- ---- a cut that nothing refuses
module _ {source : Source} {g : Grid} {k : ℕ} (t : List ℕ) (b : Buffers) (a : Accepted g)
    (c : CanCut limit g k (view_of t)) (l : LengthsFit source g k (is_sized t (bins_of g)) (lengths_of Wide g b)) where
  abbrev found : Boxes
  found = boxes_of g (view_of t) k

  abbrev boxes : List Bounds
  boxes = list_of found.boxes found.places

  in_list : {i : ℕ} → i < found.boxes → i < length boxes
  in_list h = omega (arith, list_length (all_found g (view_of t) k c.most a c.some).placed)

  counts_all : sum_from 0 found.boxes (λ i. get_or (counts_later g (view_of t) boxes b.results.counts) i 0)
      ≡ total g (view_of t)
  unfolding boxes_of box_list
  counts_all =
      sum_same 0 found.boxes _ _
      (λ i l h. counts_at g (view_of t) boxes b.results.counts i no_box (in_list (omega arith)))
      ∙ ap (λ (xs : List Bounds). sum_from 0 found.boxes (λ i. count_of g (view_of t) (get_or xs i no_box)))
      (list_found g (view_of t) k c.most)
      ∙ counts_total g (view_of t) k c.most

  fits : 3 * length boxes ≤ length b.results.palette
  unfolding boxes_of
  fits =
      omega (
        arith,
        list_length (all_found g (view_of t) k c.most a c.some).placed,
        heap_most g (view_of t) k
            c.least c.most,
        l.palette,
      )

  done_tiling : Tiling g t (done_record found) (later_on Wide source g (view_of t) k b)
  unfolding boxes_in box_in done_record later_on results_on box_list count_of
  done_tiling =
      let tiles = list_tiles g (view_of t) k c.most a in
      record {
        listed = list_length (all_found g (view_of t) k c.most a c.some).placed;
        tiles = tiles;
        within = (all_found g (view_of t) k c.most a c.some).placed.within;
        count = λ i h. counts_at g (view_of t) boxes b.results.counts i no_box (in_list h)
            ∙ sum_of_held ((all_found g (view_of t) k c.most a c.some).placed.within i h) (view_of t) 0;
        some = λ i h.
            omega (
              arith,
              counts_at g (view_of t) boxes b.results.counts i no_box (in_list h),
              (all_found g
                  (view_of t) k c.most a c.some).some i h,
            );
        all = counts_all;
        index = λ i p h l. box_of_index g boxes tiles i no_box p (in_list h) l;
        below = λ p l.
            omega (
              arith,
              map_below g boxes tiles p l,
              list_length
                  (all_found g (view_of t) k c.most a c.some).placed,
            );
        colour = λ i h. palette_at g (view_of t) boxes b.results.palette i no_box (in_list h);
        front =
            ap (front_of (palette_later g (view_of t) boxes b.results.palette))
            (sym (list_length (all_found g (view_of t) k c.most a c.some).placed))
            ∙ front_filled g (view_of t) boxes b.results.palette fits;
      }

-- ---- the boxes of a loaded table
-- two sums over colours that are alike at each
same_over : (cs : List Weighted) → AllBytes cs → (f h : Weighted → ℕ) → ((c : Weighted) → Bytes c.colour → f c ≡ h c)
    → sum_over cs f ≡ sum_over cs h
same_over [] b f h e = over_none f ∙ sym (over_none h)
same_over (c ∷ cs) b f h e = over_more c cs f ∙ (λ i. e c b.0 i + same_over cs b.1 f h e i)
    ∙ sym (over_more c cs h)

-- the weight of a box: that of the loaded colours whose bin lies in it
weight_loaded : {g : Grid} {x : Bounds} → Within g x → (cs : List Weighted) → AllBytes cs
    → sum_from 0 (bins_of g) (λ p. cond (holds_at g x p) (view_of (table_of g cs) p 0) 0)
    ≡ sum_over cs (λ c. cond (holds_at g x (colour_place g c.colour)) c.weight 0)
weight_loaded {g} {x} w cs b =
    sym (sum_of_held w (view_of (table_of g cs)) 0)
    ∙ box_same (table_holds g cs).at w 0 (lit< tt)
    ∙ loaded_box w 0 cs b
    ∙ same_over cs b _ _ (λ c y. λ i. cond (sym (colour_held w y) i) (share_weight c i) 0)

tiling_loaded : {g : Grid} → Accepted g → (cs : List Weighted) → AllBytes cs → {r : CutRecord} {later : Buffers}
    → Tiling g (table_of g cs) r later → LoadedCounts g cs r later
tiling_loaded {g} a cs b {r} {later} t =
    record {
      count = λ i h. t.count i h ∙ weight_loaded (t.within i h) cs b;
      mapped = λ i h.
          t.count i h
          ∙ weight_loaded (t.within i h) cs b
          ∙ same_over cs b _ _
          (λ c y. ap (λ (q : Bool). cond q c.weight 0)
          (t.index i (colour_place g c.colour) h (colour_place_lt a y)));
    }

-- ---- the promises
module _ (source : Source) (b1 b2 b3 k : ℕ) (t : List ℕ) (b : Buffers) {g : Grid}
    (e : grid_of b1 b2 b3 ≡ Some g) (n : cut_number source b1 b2 b3 k t b ≡ 0) where
  -- at any total, of every table that a cut is done with
  pub tiling : Tiling g t (cut_record source b1 b2 b3 k t b) (cut_later source b1 b2 b3 k t b)
  tiling =
      let d = cut_says Wide source b1 b2 b3 k t b e n in
      rw (d.hands, d.leaves) (done_tiling t b d.accepted d.can d.fit)

  -- and of every table that loads and merges gave
  pub loaded_counts : (p : Plan) → BytesIn p → ends b1 b2 b3 p ≡ Filled t
      → LoadedCounts g (leaves p) (cut_record source b1 b2 b3 k t b) (cut_later source b1 b2 b3 k t b)
  loaded_counts p y ran =
      let d = cut_says Wide source b1 b2 b3 k t b e n in
      let is = (filled_table b1 b2 b3 e p y ran).1 in
      tiling_loaded d.accepted (leaves p) (leaves_bytes p y)
      (subst (λ (s : List ℕ). Tiling g s (cut_record source b1 b2 b3 k t b) (cut_later source b1 b2 b3 k t b)) is tiling)
