-- Any order (Rules, Demands): the same weighted colours, in any order, in any batches, into one table or several merged
-- in any order, give the same table, and so the same boxes, palette, counts and map, and every pixel the same index. In
-- either layout.
-- Assumes nothing.
use Rattle.std.specs.Prelude.{Some}
use mathlib.Core.Path.{◌≡◌, refl, sym, ◌∙◌}
use mathlib.Core.List.{Perm}
use Prim.Native.Nat.{ℕ, suc, ◌≤◌}
use lib.ListN.{get_or}
use Rattle.grid.specs.declared.place.Grid.{Grid}
use Rattle.grid.specs.Grid.{grid_of, colour_place}
use Rattle.table.specs.Layouts.{Layout}
use Rattle.table.specs.Layout.{TableIn}
use Rattle.table.specs.Sound.{limit_of}
use Rattle.adder.specs.Batch.{weight_of}
use Rattle.loader.specs.Load.{table_in}
use Rattle.loader.specs.Plan.{Plan, Filled, Stopped, ended_of_in, ends_in, leaves, first_malformed, BytesIn}
use Rattle.loader.proofs.Order.{table_perm_in, ends_is_in, any_order_in, malformed_refused_in}
use Rattle.loader.proofs.Plans.{filled_table}
use Rattle.sums.specs.declared.source.Source.{Source}
use Rattle.cutter.specs.Cut.{BuffersIn, cut_record_in, cut_later_in}
use Rattle.promises.specs.Order.{SameCut, CutAlike}

-- a cut sees nothing of a table but its numbers
pub same_cut : (l : Layout) (source : Source) (g : Grid) (b1 b2 b3 k : ℕ) (b : BuffersIn l) (t s : TableIn l) → t ≡ s
    → SameCut l source g b1 b2 b3 k b t s
same_cut l source g b1 b2 b3 k b t s e =
    record {
      boxes = λ i. cut_record_in l source b1 b2 b3 k (e i) b;
      palette = λ i. (cut_later_in l source b1 b2 b3 k (e i) b).results.palette;
      counts = λ i. (cut_later_in l source b1 b2 b3 k (e i) b).results.counts;
      remainders = λ i. (cut_later_in l source b1 b2 b3 k (e i) b).results.remainders;
      map = λ i. (cut_later_in l source b1 b2 b3 k (e i) b).results.map;
      work = λ i. (cut_later_in l source b1 b2 b3 k (e i) b).work;
      pixel = λ c i. get_or (cut_later_in l source b1 b2 b3 k (e i) b).results.map (colour_place g c) 0;
    }

module _ (l : Layout) (b1 b2 b3 : ℕ) {g : Grid} (e : grid_of b1 b2 b3 ≡ Some g) (p q : Plan) (y : BytesIn p)
    (z : BytesIn q) (π : Perm (leaves p) (leaves q)) where
  -- plans that ran to tables ran to the same table
  pub ran_same : {t s : TableIn l} → ends_in l b1 b2 b3 p ≡ Filled t → ends_in l b1 b2 b3 q ≡ Filled s → t ≡ s
  ran_same r u = (filled_table b1 b2 b3 e p y r).1 ∙ table_perm_in l g π ∙ sym (filled_table b1 b2 b3 e q z u).1

  pub ran_alike : {t s : TableIn l} → ends_in l b1 b2 b3 p ≡ Filled t → ends_in l b1 b2 b3 q ≡ Filled s
      → (source : Source) (k : ℕ) (b : BuffersIn l) → SameCut l source g b1 b2 b3 k b t s
  ran_alike {t} {s} r u source k b = same_cut l source g b1 b2 b3 k b t s (ran_same r u)

  -- and with no malformed batch and a total that fits, both do
  pub any_order_cuts : first_malformed p ≡ 0 → first_malformed q ≡ 0 → weight_of (leaves p) ≤ limit_of l
      → CutAlike l g b1 b2 b3 p q
  any_order_cuts m n h =
      let ran = any_order_in l b1 b2 b3 e p q y z m n π h in
      record {
        first = table_in l g (leaves p);
        second = table_in l g (leaves p);
        first_ran = ran.0;
        second_ran = ran.1 ∙ ran.0;
        same = refl;
        alike = ran_alike ran.0 (ran.1 ∙ ran.0);
      }

module _ (l : Layout) (b1 b2 b3 : ℕ) {g : Grid} (e : grid_of b1 b2 b3 ≡ Some g) (p : Plan) (y : BytesIn p)
    (h : weight_of (leaves p) ≤ limit_of l) where
  -- how a plan whose total fits ends: refused with the answer to its first malformed batch, or else with the table of
  -- its colours
  pub plan_ends : ends_in l b1 b2 b3 p ≡ ended_of_in l (first_malformed p) (table_in l g (leaves p))
  plan_ends = ends_is_in l b1 b2 b3 e p y h

  -- a plan with a malformed batch is refused with that batch's answer
  pub malformed_is_refused : {n : ℕ} → first_malformed p ≡ suc n → ends_in l b1 b2 b3 p ≡ Stopped (suc n)
  malformed_is_refused m = malformed_refused_in l b1 b2 b3 e p y h m
