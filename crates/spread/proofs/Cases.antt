-- A position with its two sides, by its cases; both sides of the best one are boxes, which can be added up.
-- Assumes nothing.
use Rattle.std.specs.Prelude.{Option, None, Some}
use Rattle.std.proofs.lemmas.Option.{same_Some}
use mathlib.Core.Path.{◌≡◌, refl, sym, ap, subst, ◌∙◌}
use mathlib.Core.Bool.{true}
use Rattle.grid.specs.declared.place.Grid.{Grid}
use Rattle.table.specs.Cell.{View}
use Rattle.table.specs.Layouts.{Layout}
use Rattle.table.specs.Layout.{TableIn, view_in, TableOfIn}
use Rattle.table.specs.Sound.{limit, sound}
use Rattle.boxes.specs.declared.sides.Bounds.{Bounds}
use Rattle.boxes.specs.Box.{low_side, high_side, Within}
use Rattle.boxes.proofs.Within.{low_within, high_within}
use Rattle.bins.specs.Sum.{CanAdd}
use Rattle.sums.specs.declared.box_sums.Stats.{Stats}
use Rattle.sums.specs.Box.{stats_of}
use Rattle.spread.specs.declared.position.Position.{Position}
use Rattle.spread.specs.declared.both_sides.BestCut.{BestCut}
use Rattle.spread.specs.Cut.{better, best_in, best_cut, sides_at, cut_at}
use Rattle.spread.proofs.Best.{answered}

-- the position that an answer has
abbrev pub position_in : Option BestCut → Option Position
position_in (Some b) = Some b.position
position_in None = None

module _ (g : Grid) (v : View) (x : Bounds) where
  pub cut_position : (o : Option Position) → position_in (cut_at g v x o) ≡ o
  unfolding cut_at sides_at
  cut_position (Some p) = refl
  cut_position None = refl

  -- the best position is the best of those of the three dimensions
  pub best_of_three : best_cut g v x ≡ better (better (best_in g v x 0) (best_in g v x 1)) (best_in g v x 2)
  unfolding best_cut
  best_of_three = refl

  pub cut_some : (p : Position) → cut_at g v x (Some p) ≡ Some (sides_at g v x p)
  unfolding cut_at
  cut_some p = refl

  module _ {o : Option Position} where
    pub cut_none : o ≡ None → None ≡ cut_at g v x o
    unfolding cut_at
    cut_none q = sym (ap (cut_at g v x) q)

    module _ {p : Position} (q : o ≡ Some p) where
      module _ {b : BestCut} (e : cut_at g v x o ≡ Some b) where
        sides_are : sides_at g v x p ≡ b
        unfolding cut_at
        sides_are = same_Some _ _ (sym (ap (cut_at g v x) q) ∙ e)

        pub cut_low : b.low ≡ stats_of g v (low_side x p.dimension p.bin)
        unfolding sides_at
        cut_low = ap (λ (c : BestCut). c.low) (sym sides_are)

        pub cut_high : b.high ≡ stats_of g v (high_side x p.dimension p.bin)
        unfolding sides_at
        cut_high = ap (λ (c : BestCut). c.high) (sym sides_are)

      -- whoever has both sides has it all
      pub cut_is : {low high : Stats} → low ≡ stats_of g v (low_side x p.dimension p.bin)
          → high ≡ stats_of g v (high_side x p.dimension p.bin)
          → Some (record { position = p; low = low; high = high }) ≡ cut_at g v x o
      unfolding cut_at sides_at
      cut_is l h = (λ t. Some (record { position = p; low = l t; high = h t })) ∙ sym (ap (cut_at g v x) q)

-- both sides of an answered position are boxes of the grid
module _ {g : Grid} (v : View) {x : Bounds} (w : Within g x) {p : Position} (q : best_cut g v x ≡ Some p) where
  pub low_box : Within g (low_side x p.dimension p.bin)
  low_box = let a = (answered g v x q).1.inside in low_within w p.dimension p.bin a.0 a.1

  pub high_box : Within g (high_side x p.dimension p.bin)
  high_box = let a = (answered g v x q).1.inside in high_within w p.dimension p.bin a.1

-- and a box of the grid can be added up
pub side_adds : {l : Layout} {g : Grid} {t : TableIn l} → TableOfIn l g t → sound limit g (view_in l t) ≡ true
    → {x y : Bounds} → x ≡ y → Within g y → CanAdd l limit g t x
side_adds {g = g} t s e w = record { table = t; is_sound = s; within = subst (Within g) (sym e) w }
