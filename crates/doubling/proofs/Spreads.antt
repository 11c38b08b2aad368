-- Every spread of the loop grows to its product with 2 ^ t in f64.
-- Assumes nothing.
use Rattle.std.specs.Prelude.{Some}
use mathlib.Core.Path.{◌≡◌, sym, ◌∙◌, subst}
use mathlib.Core.Bool.{Bool, true, false, cond}
use Prim.Native.Nat.{ℕ, ◌*◌, ◌≤◌, ◌<◌}
use native.Mathlib.Nat.{pos_of_ne-zero}
use native.Mathlib.Omega.{arith}
use lib.Dec.{T}
use lib.Ieee.{Float, inf, fits, binary64, sub}
use lib.Ieee.Fits.{sub-fits, inf-fits}
use Rattle.grid.specs.declared.place.Grid.{Grid}
use Rattle.grid.specs.Grid.{Accepted}
use Rattle.table.specs.Cell.{View}
use Rattle.table.specs.Sound.{limit, total}
use Rattle.table.proofs.Soundness.{Sound}
use Rattle.boxes.specs.declared.sides.Bounds.{Bounds}
use Rattle.boxes.specs.Box.{low_side, high_side, one_bin}
use Rattle.sums.specs.declared.box_sums.Stats.{Stats}
use Rattle.sums.specs.Box.{stats_of}
use Rattle.spread.specs.Spread.{zero_of, quotient_of, spread_of}
use Rattle.spread.specs.declared.position.Position.{Position}
use Rattle.spread.specs.Cut.{best_cut}
use Rattle.heap.specs.Boxes.{BoxSpread}
use Rattle.rounds.specs.Loop.{with_spread, start, heap_of}
use Rattle.rounds.proofs.Filled.{Each, Kept, Fit, fit_kept, each_rounds, start_each, start_fit}
use Rattle.doubling.specs.Grow.{doubled, grow, times_power}
use Rattle.doubling.proofs.Grow.{zero_grow}
use Rattle.doubling.proofs.Cut.{spread_doubled}
use Rattle.doubling.proofs.Product.{mul_is_grow}

-- f64 holds every spread
spread_fits : (x : Bounds) (s : Stats) → T (fits binary64 (spread_of x s))
unfolding spread_of fits
spread_fits x s = go (one_bin x)
  where
    go : (b : Bool) → T (fits binary64 (cond b zero_of (sub binary64 s.squares (quotient_of s))))
    go true = tt
    go false = sub-fits binary64 s.squares (quotient_of s)

zero_fits : T (fits binary64 zero_of)
unfolding fits
zero_fits = tt

pub times_zero : (t : ℕ) → t ≤ 53 → times_power t zero_of ≡ zero_of
unfolding times_power
times_zero t few =
    mul_is_grow t few zero_of zero_fits (subst (λ (z : Float). T (fits binary64 z)) (sym (zero_grow t)) zero_fits)
    ∙ zero_grow t

pub times_infinity : (t : ℕ) → t ≤ 53 → times_power t (inf false) ≡ inf false
unfolding times_power grow
times_infinity t few = mul_is_grow t few (inf false) (inf-fits binary64 false) (inf-fits binary64 false)

-- a box of the grid with some weight, whose spread grows to the product
pub record Grows (g : Grid) (v : View) (t : ℕ) (x : BoxSpread) : Type 0 where
  pub fit : Fit g v x
  pub product : times_power t x.spread ≡ grow t x.spread

module _ {g : Grid} {v : View} (s : Sound limit g v) (t : ℕ) (few : t ≤ 31) where
  box_grows : (x : Bounds) → Fit g v (with_spread g v x) → Grows g v t (with_spread g v x)
  unfolding with_spread times_power
  box_grows x f =
      record {
        fit = f;
        product = mul_is_grow t (omega arith) (spread_of x (stats_of g v x)) (spread_fits x (stats_of g v x))
            (subst (λ (z : Float). T (fits binary64 z))
            (spread_doubled s t (omega arith) f.within (pos_of_ne-zero f.some))
            (spread_fits x (stats_of g (doubled t v) x)));
      }

  sides : (x : BoxSpread) → Grows g v t x → {p : Position} → best_cut g v x.bounds ≡ Some p
      → Grows g v t (with_spread g v (low_side x.bounds p.dimension p.bin))
      × Grows g v t (with_spread g v (high_side x.bounds p.dimension p.bin))
  sides x h {p} q =
      let both = (fit_kept g v).sides_too x h.fit q in
      (box_grows (low_side x.bounds p.dimension p.bin) both.0, box_grows (high_side x.bounds p.dimension p.bin) both.1)

  grows_kept : Kept g v (Grows g v t)
  grows_kept =
      record {
        zero_too = λ x p q. record {
          fit = (fit_kept g v).zero_too x p.fit q;
          product = times_zero t (omega arith) ∙ sym (zero_grow t);
        };
        sides_too = sides;
      }

  pub heap_grows : Accepted g → 0 < total g v → (k : ℕ) → k ≤ 256
      → Each (Grows g v t) (heap_of g v k).room (heap_of g v k).boxes
  unfolding heap_of start grow
  heap_grows a some k l =
      each_rounds grows_kept k (2 * k) l (start g)
      (start_each g (record {
        fit = start_fit a some;
        product = times_infinity t (omega arith);
      }))
