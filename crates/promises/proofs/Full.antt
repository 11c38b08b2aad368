-- How many boxes (Rules, Demands): of "every table loaded from colours with a total of 1 to 4,294,967,295", as many as
-- the smaller of k and the occupied bins.
-- Assumes nothing.
use Rattle.std.specs.Prelude.{Some}
use mathlib.Core.Path.{◌≡◌, sym, ap, ◌∙◌}
use mathlib.Core.List.{List}
use Prim.Native.Nat.{ℕ, ◌≤◌, ◌<◌, min}
use lib.Dec.{lit<}
use Rattle.grid.specs.declared.place.Grid.{Grid}
use Rattle.grid.specs.Grid.{grid_of, bins_of}
use Rattle.grid.proofs.Places.{chose}
use Rattle.table.specs.Layouts.{Wide}
use Rattle.table.specs.Table.{view_of}
use Rattle.table.specs.Sound.{limit, total}
use Rattle.table.proofs.Tables.{sized_test}
use Rattle.adder.specs.Batch.{weight_of}
use Rattle.loader.specs.Load.{ColourAt}
use Rattle.loader.specs.Plan.{Plan, Filled, ends, leaves, BytesIn}
use Rattle.loader.proofs.Order.{table_holds, table_total, table_sound, leaves_bytes}
use Rattle.loader.proofs.Plans.{filled_table}
use Rattle.loaded.proofs.Boxes.{occupied_colour, colour_occupies}
use Rattle.spread.specs.Spread.{SpreadsAbove}
use Rattle.loaded.proofs.Spreads.{table_above}
use Rattle.rounds.specs.Loop.{boxes_of}
use Rattle.rounds.proofs.Full.{full, occupied_whole}
use Rattle.sums.specs.declared.source.Source.{Source}
use Rattle.cutter.specs.Cut.{Buffers, cut_number, done_record, cut_record}
use Rattle.cutter.proofs.Laws.{cut_says, cut_accepts}
use Rattle.promises.specs.Full.{occupied_bins, Lends}

module _ (source : Source) (b1 b2 b3 k : ℕ) (t : List ℕ) (b : Buffers) {g : Grid}
    (e : grid_of b1 b2 b3 ≡ Some g) where
  -- over the one property of the spreads: a box with two occupied bins has a computed spread above 0
  pub full_above : cut_number source b1 b2 b3 k t b ≡ 0 → SpreadsAbove g (view_of t)
      → (cut_record source b1 b2 b3 k t b).boxes ≡ min k (occupied_bins g t)
  unfolding done_record boxes_of occupied_bins
  full_above n spreads =
      let d = cut_says Wide source b1 b2 b3 k t b e n in
      rw d.hands
      (full (record { holds = d.can.is_sound }) d.accepted d.can.some spreads k d.can.least d.can.most
      ∙ ap (min k) (occupied_whole g (view_of t)))

  module _ (p : Plan) (y : BytesIn p) (ran : ends b1 b2 b3 p ≡ Filled t) where
    -- the total of what was loaded: the weights of all colours, and never past the limit
    pub plan_total : (total g (view_of t) ≡ weight_of (leaves p)) × (total g (view_of t) ≤ limit)
    plan_total =
        let fits = filled_table b1 b2 b3 e p y ran in
        let all = table_total g (chose b1 b2 b3 g e).accepted (leaves p) (leaves_bytes p y) in
        rw fits.1 (all, rw all fits.0)

    -- a cut of what was loaded is done, if anything was
    pub plan_cuts : Lends source g k b → 1 ≤ total g (view_of t) → cut_number source b1 b2 b3 k t b ≡ 0
    plan_cuts l some =
        let a = (chose b1 b2 b3 g e).accepted in
        let fits = filled_table b1 b2 b3 e p y ran in
        let bytes = leaves_bytes p y in
        cut_accepts Wide source b1 b2 b3 k t b e
        (rw fits.1
        (record {
          least = l.least;
          most = l.most;
          is_sound = table_sound g a (leaves p) bytes fits.0;
          some = rw (sym fits.1) some;
        }))
        (rw fits.1
        (record {
          sized = sized_test (table_holds g (leaves p)).lent;
          work = l.work;
          palette = l.palette;
          counts = l.counts;
          remainders = l.remainders;
          map = l.map;
        }))

    -- "as many boxes as the smaller of k and the occupied bins"
    pub full_loaded : Lends source g k b → 1 ≤ total g (view_of t)
        → (cut_record source b1 b2 b3 k t b).boxes ≡ min k (occupied_bins g t)
    full_loaded l some =
        let fits = filled_table b1 b2 b3 e p y ran in
        full_above (plan_cuts l some)
        (rw fits.1 (table_above (chose b1 b2 b3 g e).accepted (leaves p) (leaves_bytes p y) fits.0))

    -- a bin is occupied exactly where a colour of weight above 0 was loaded
    pub occupied_loaded : (q : ℕ) → q < bins_of g → (view_of t q 0 ≡ 0 → ⊥) → ColourAt g (leaves p) q
    occupied_loaded q h o =
        let fits = filled_table b1 b2 b3 e p y ran in
        occupied_colour g q (leaves p)
        (λ z. o (ap (λ (s : List ℕ). view_of s q 0) fits.1 ∙ (table_holds g (leaves p)).at q 0 h (lit< tt) ∙ z))

    pub loaded_occupies : (q : ℕ) → q < bins_of g → ColourAt g (leaves p) q → view_of t q 0 ≡ 0 → ⊥
    loaded_occupies q h c z =
        let fits = filled_table b1 b2 b3 e p y ran in
        colour_occupies g q (leaves p) c
        (sym (ap (λ (s : List ℕ). view_of s q 0) fits.1 ∙ (table_holds g (leaves p)).at q 0 h (lit< tt)) ∙ z)
