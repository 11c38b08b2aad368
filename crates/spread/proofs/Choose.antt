-- Laws of positions and of the better of two.
-- Assumes nothing.
use Rattle.std.specs.Prelude.{Option, None}
use mathlib.Core.Path.{◌≡◌, sym, ap, ◌∙◌}
use mathlib.Core.Bool.{Bool, true, false, cond}
use Prim.Native.Nat.{ℕ, suc, ◌+◌, ◌-◌, ◌≤◌}
use native.Mathlib.Nat.{le_trans}
use native.Mathlib.Omega.{arith}
use lib.Dec.{lit<}
use Rattle.grid.specs.declared.place.Grid.{Grid}
use Rattle.grid.proofs.Size.{size_high}
use Rattle.grid.proofs.Places.{sized_at}
use Rattle.table.specs.Cell.{View}
use Rattle.table.specs.Sound.{limit}
use Rattle.table.proofs.Soundness.{Sound}
use Rattle.boxes.specs.declared.sides.Bounds.{Bounds}
use Rattle.sums.specs.declared.box_sums.Stats.{Stats}
use Rattle.boxes.specs.Box.{min_at, max_at, low_side, high_side, Within}
use Rattle.sums.specs.Box.{stats_of}
use Rattle.bins.proofs.Laws.{box_sums_high, box_weight_high}
use Rattle.spread.specs.declared.position.Position.{Position}
use Rattle.spread.specs.Spread.{Plain}
use Rattle.spread.specs.Cut.{position_of, position_at, later_wins, better, best_run, best_in}

-- the better of two, by which wins
module _ (a b : Option Position) where
  pub later_is_better : later_wins a b ≡ true → b ≡ better a b
  unfolding better
  later_is_better h = sym (ap (λ (t : Bool). cond t b a) h)

  pub earlier_is_better : later_wins a b ≡ false → a ≡ better a b
  unfolding better
  earlier_is_better h = sym (ap (λ (t : Bool). cond t b a) h)

-- ---- the statistics of a box of a sound table are plain
pub plain_stats : {g : Grid} {v : View} → Sound limit g v → {x : Bounds} → Within g x → {s : Stats} → s
    ≡ stats_of g v x → Plain s
unfolding stats_of
plain_stats {g} {v} h {x} w e =
    rw e
    (record {
      weight = box_weight_high h w;
      one = box_sums_high h w 0 (lit< tt);
      two = box_sums_high h w 1 (lit< tt);
      three = box_sums_high h w 2 (lit< tt);
    })

-- the last bin of a dimension
pub end_high : {g : Grid} {x : Bounds} → Within g x → (d : ℕ) → max_at x d ≤ 128
end_high w d = le_trans (w.fits d) (size_high (sized_at w.accepted d))

-- ---- one position after the other
module _ (g : Grid) (v : View) (x : Bounds) (d : ℕ) where
  pub position_is : (bin : ℕ) {low high : Stats} → low ≡ stats_of g v (low_side x d bin) → high
      ≡ stats_of g v (high_side x d bin) → {p : Option Position} → p ≡ position_of d bin low high → p ≡ position_at g v x d bin
  unfolding position_at
  position_is bin e f q = q ∙ (λ i. position_of d bin (e i) (f i))

  pub run_none : (first bin : ℕ) → bin ≤ first → None ≡ best_run g v x d first (bin - first)
  unfolding best_run
  run_none first bin h = ap (best_run g v x d first) (none first bin h)
    where
      none : (first bin : ℕ) → bin ≤ first → 0 ≡ bin - first
      none first bin h = omega arith

  -- once the end of the box is reached
  pub run_whole : {bin : ℕ} → bin ≡ max_at x d → {best : Option Position}
      → best ≡ best_run g v x d (min_at x d + 1) (bin - (min_at x d + 1)) → best ≡ best_in g v x d
  unfolding best_in
  run_whole e q = q ∙ ap (λ (n : ℕ). best_run g v x d (min_at x d + 1) (n - (min_at x d + 1))) e

  pub run_next : (first bin : ℕ) → first ≤ bin → {best p r : Option Position} → best ≡ best_run g v x d first (bin - first)
      → p ≡ position_at g v x d bin → r ≡ better best p → r ≡ best_run g v x d first ((bin + 1) - first)
  unfolding best_run
  run_next first bin h e f q =
      q
      ∙ (λ i. better (e i) (f i))
      ∙ ap (λ (n : ℕ). better (best_run g v x d first (bin - first)) (position_at g v x d n)) (there first bin h)
      ∙ ap (best_run g v x d first) (longer first bin h)
    where
      there : (first bin : ℕ) → first ≤ bin → bin ≡ first + (bin - first)
      there first bin h = omega arith

      longer : (first bin : ℕ) → first ≤ bin → suc (bin - first) ≡ (bin + 1) - first
      longer first bin h = omega arith
