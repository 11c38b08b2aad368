-- `spread::before::before` meets its contract: inclusion and exclusion over the corners that the walk names.
-- Assumes nothing.
use Rattle.std.proofs.Common.{◌≡◌, ℕ, ◌+◌, ◌-◌, ◌*◌, ◌≤◌, ◌<◌, refl, sym, ap, subst, ◌∙◌, le_refl, le_of_lt, arith}
use Rattle.grid.specs.declared.place.Grid.{Grid}
use Rattle.table.specs.Cell.{number_of}
use Rattle.table.specs.Sound.{limit}
use Rattle.table.specs.Layouts.{Layout}
use Rattle.table.specs.Layout.{TableIn, view_in, laid_view}
use Rattle.table.proofs.Cells.{zero_cell}
use Rattle.boxes.specs.declared.sides.Bounds.{Bounds}
use Rattle.boxes.specs.Box.{min_at, max_at, slab_to, Within}
use Rattle.sums.specs.declared.box_sums.Stats.{Stats}
use Rattle.sums.specs.declared.source.Source.TheVariants.{Moments}
use Rattle.sums.specs.Box.{stats_from, stats_of}
use Rattle.sums.specs.Moments.{CanSum}
use Rattle.spread.specs.declared.walk.Walk.{Walk}
use Rattle.spread.specs.Inner.{outer_of, inner_of, start_of, walk_of, combined_stats, CanCombine}
use Rattle.spread.proofs.Cross.{Reads, cross_sum, none_before, outer_zeros, inner_zeros, box_reads}
use Rattle.spread.proofs.Cross.{can_combine, combined_is}
use Rattle.spread.proofs.Sides.{Exact}
use Rattle.spread.proofs.before.before.Goals as goal

-- ---- what is read of some bins
module _ {l : Layout} {g : Grid} {t w : TableIn l} {x : Bounds} (d : ℕ) {bin : ℕ} {walk : Walk}
    (can : CanSum l limit Moments g t w × Within g x × (bin ≤ max_at x d)) (is : walk ≡ walk_of g x d)
    (some : 0 < bin) where
  -- the box's ends in the other two dimensions
  abbrev outer : ℕ
  outer = min_at x (outer_of d)

  abbrev inner : ℕ
  inner = min_at x (inner_of d)

  abbrev outer_end : ℕ
  outer_end = max_at x (outer_of d)

  abbrev inner_end : ℕ
  inner_end = max_at x (inner_of d)

  outer_is : walk.outer ≡ outer
  unfolding walk_of
  outer_is = ap (λ (k : Walk). k.outer) is

  inner_is : walk.inner ≡ inner
  unfolding walk_of
  inner_is = ap (λ (k : Walk). k.inner) is

  -- the bins up to an end in each
  abbrev ends : ℕ → ℕ → ℕ → ℕ
  ends i k = cross_sum g (view_in l t) d bin 0 i 0 k

  -- the four places that are read
  abbrev At : ℕ → (ℕ → ℕ) → Type 0
  At start f = Reads l w (start + walk.step * (bin - 1)) f

  outer_low : outer ≤ outer_end
  outer_low = le_of_lt (can.1.some (outer_of d))

  inner_low : inner ≤ inner_end
  inner_low = le_of_lt (can.1.some (inner_of d))

  outer_some : 0 < outer_end
  outer_some = omega (arith, can.1.some (outer_of d))

  inner_some : 0 < inner_end
  inner_some = omega (arith, can.1.some (inner_of d))

  place : (named : Walk → ℕ) (i k : ℕ) → named (walk_of g x d) ≡ start_of g d i k
      → i ≤ outer_end → k ≤ inner_end → 0 < i → 0 < k → At (named walk) (ends i k)
  unfolding walk_of
  place named i k e I K i0 k0 =
      subst (λ (y : Walk). Reads l w (named y + y.step * (bin - 1)) (ends i k)) (sym is)
      (rw e (box_reads can.0 can.1 d bin i k can.2 I K some i0 k0))

  corner : At walk.corner (ends outer_end inner_end)
  unfolding walk_of
  corner = place (λ y. y.corner) outer_end inner_end refl (le_refl outer_end) (le_refl inner_end) outer_some inner_some

  above : (walk.outer ≡ 0 → ⊥) → At walk.above (ends outer inner_end)
  unfolding walk_of
  above o =
      place (λ y. y.above) outer inner_end refl outer_low (le_refl inner_end) (omega (arith, o, outer_is)) inner_some

  left : (walk.inner ≡ 0 → ⊥) → At walk.left (ends outer_end inner)
  unfolding walk_of
  left i =
      place (λ y. y.left) outer_end inner refl (le_refl outer_end) inner_low outer_some (omega (arith, i, inner_is))

  diagonal : (walk.outer ≡ 0 → ⊥) → (walk.inner ≡ 0 → ⊥) → At walk.diagonal (ends outer inner)
  unfolding walk_of
  diagonal o i =
      place (λ y. y.diagonal) outer inner refl outer_low inner_low (omega (arith, o, outer_is))
      (omega (arith, i, inner_is))

  -- the four together
  record Parts (a b c e : Stats) : Type 0 where
    corner_is : Exact a (ends outer_end inner_end)
    left_is : Exact b (ends outer_end inner)
    above_is : Exact c (ends outer inner_end)
    diagonal_is : Exact e (ends outer inner)

  combine : {a b c e : Stats} → Parts a b c e → CanCombine a b c e
  combine p = can_combine (view_in l t) can.1 d bin p.corner_is p.left_is p.above_is p.diagonal_is

  slab : {a b c e r : Stats} → Parts a b c e → r ≡ combined_stats a b c e
      → r ≡ stats_of g (view_in l t) (slab_to x d bin)
  slab p = combined_is (view_in l t) can.1 d bin p.corner_is p.left_is p.above_is p.diagonal_is

  -- ---- zeros where the box starts at the edge
  module _ {c none : Stats} (read : c ≡ stats_from (view_in l w (walk.corner + walk.step * (bin - 1))))
      (e : none ≡ stats_from (number_of zero_cell)) where
    no_left : walk.inner ≡ 0 → (i : ℕ) → Exact none (ends i inner)
    no_left z = inner_zeros g (view_in l t) e d bin (sym inner_is ∙ z)

    no_above : walk.outer ≡ 0 → (k : ℕ) → Exact none (ends outer k)
    no_above z = outer_zeros g (view_in l t) e d bin (sym outer_is ∙ z)

    both_edges : walk.inner ≡ 0 → walk.outer ≡ 0 → Parts c none none none
    both_edges i o =
        record {
          corner_is = corner.exact read;
          left_is = no_left i outer_end;
          above_is = no_above o inner_end;
          diagonal_is = no_above o inner;
        }

    inner_edge : {a : Stats} → walk.inner ≡ 0 → (walk.outer ≡ 0 → ⊥)
        → a ≡ stats_from (view_in l w (walk.above + walk.step * (bin - 1))) → Parts c none a none
    inner_edge i o r =
        record {
          corner_is = corner.exact read;
          left_is = no_left i outer_end;
          above_is = (above o).exact r;
          diagonal_is = no_left i outer;
        }

    outer_edge : {y : Stats} → (walk.inner ≡ 0 → ⊥) → walk.outer ≡ 0
        → y ≡ stats_from (view_in l w (walk.left + walk.step * (bin - 1))) → Parts c y none none
    outer_edge i o r =
        record {
          corner_is = corner.exact read;
          left_is = (left i).exact r;
          above_is = no_above o inner_end;
          diagonal_is = no_above o inner;
        }

  no_edge : {c y a k : Stats} → (walk.inner ≡ 0 → ⊥) → (walk.outer ≡ 0 → ⊥)
      → c ≡ stats_from (view_in l w (walk.corner + walk.step * (bin - 1)))
      → y ≡ stats_from (view_in l w (walk.left + walk.step * (bin - 1)))
      → a ≡ stats_from (view_in l w (walk.above + walk.step * (bin - 1)))
      → k ≡ stats_from (view_in l w (walk.diagonal + walk.step * (bin - 1))) → Parts c y a k
  no_edge i o read r s q =
      record {
        corner_is = corner.exact read;
        left_is = (left i).exact r;
        above_is = (above o).exact s;
        diagonal_is = (diagonal o i).exact q;
      }

pub returns-then-bin-eq0 : goal.returns-then-bin-eq0
returns-then-bin-eq0 g c =
    let a = c.args in
    let v = laid_view g.L.Layout.layout a.small.now a.large.now in
    none_before a.g v a.x a.dimension c.stats_of-none.ensures
    ∙ ap (λ (n : ℕ). stats_of a.g v (slab_to a.x a.dimension n)) (sym c.if-bin-eq0.true)

-- ---- the corner
pub overflow_mul-far : goal.overflow_mul-far
overflow_mul-far g c =
    omega (arith, (corner c.args.dimension c.requires.can_sum c.requires.walk_value (omega arith)).low)

pub overflow_add-walk : goal.overflow_add-walk
overflow_add-walk g c =
    omega (arith, (corner c.args.dimension c.requires.can_sum c.requires.walk_value (omega arith)).low)

pub record-corner-requires : goal.record-corner-requires
record-corner-requires g c =
    (corner c.args.dimension c.requires.can_sum c.requires.walk_value (omega arith)).has

-- ---- a box that starts at 0 in the inner dimension
pub combined-requires : goal.combined-requires
combined-requires g c =
    combine c.args.dimension c.requires.can_sum c.requires.walk_value (omega arith)
    (both_edges c.args.dimension c.requires.can_sum c.requires.walk_value (omega arith)
    c.record-corner.ensures c.stats_of-none.ensures c.if-walk-eq0.true c.if-walk-eq0-2.true)

pub returns-then-walk-eq0-2 : goal.returns-then-walk-eq0-2
returns-then-walk-eq0-2 g c =
    slab c.args.dimension c.requires.can_sum c.requires.walk_value (omega arith)
    (both_edges c.args.dimension c.requires.can_sum c.requires.walk_value (omega arith)
    c.record-corner.ensures c.stats_of-none.ensures c.if-walk-eq0.true c.if-walk-eq0-2.true)
    c.combined.ensures

pub overflow_add-walk-then-walk-eq0 : goal.overflow_add-walk-then-walk-eq0
overflow_add-walk-then-walk-eq0 g c =
    omega (arith, (above c.args.dimension c.requires.can_sum c.requires.walk_value (omega arith) c.if-walk-eq0-2.false).low)

pub record-requires : goal.record-requires
record-requires g c =
    (above c.args.dimension c.requires.can_sum c.requires.walk_value (omega arith) c.if-walk-eq0-2.false).has

pub combined-requires-then-walk-eq0 : goal.combined-requires-then-walk-eq0
combined-requires-then-walk-eq0 g c =
    combine c.args.dimension c.requires.can_sum c.requires.walk_value (omega arith)
    (inner_edge c.args.dimension c.requires.can_sum c.requires.walk_value (omega arith)
    c.record-corner.ensures c.stats_of-none.ensures c.if-walk-eq0.true c.if-walk-eq0-2.false c.record.ensures)

pub returns-then-walk-eq0 : goal.returns-then-walk-eq0
returns-then-walk-eq0 g c =
    slab c.args.dimension c.requires.can_sum c.requires.walk_value (omega arith)
    (inner_edge c.args.dimension c.requires.can_sum c.requires.walk_value (omega arith)
    c.record-corner.ensures c.stats_of-none.ensures c.if-walk-eq0.true c.if-walk-eq0-2.false c.record.ensures)
    c.combined-then-walk-eq0.ensures

-- ---- any other box
pub overflow_add-walk-2 : goal.overflow_add-walk-2
overflow_add-walk-2 g c =
    omega (arith, (left c.args.dimension c.requires.can_sum c.requires.walk_value (omega arith) c.if-walk-eq0.false).low)

pub record-left-requires : goal.record-left-requires
record-left-requires g c =
    (left c.args.dimension c.requires.can_sum c.requires.walk_value (omega arith) c.if-walk-eq0.false).has

pub combined-requires-then-walk-eq0-3 : goal.combined-requires-then-walk-eq0-3
combined-requires-then-walk-eq0-3 g c =
    combine c.args.dimension c.requires.can_sum c.requires.walk_value (omega arith)
    (outer_edge c.args.dimension c.requires.can_sum c.requires.walk_value (omega arith)
    c.record-corner.ensures c.stats_of-none.ensures c.if-walk-eq0.false c.if-walk-eq0-3.true c.record-left.ensures)

pub returns-then-walk-eq0-3 : goal.returns-then-walk-eq0-3
returns-then-walk-eq0-3 g c =
    slab c.args.dimension c.requires.can_sum c.requires.walk_value (omega arith)
    (outer_edge c.args.dimension c.requires.can_sum c.requires.walk_value (omega arith)
    c.record-corner.ensures c.stats_of-none.ensures c.if-walk-eq0.false c.if-walk-eq0-3.true c.record-left.ensures)
    c.combined-then-walk-eq0-3.ensures

pub overflow_add-walk-3 : goal.overflow_add-walk-3
overflow_add-walk-3 g c =
    omega (arith, (above c.args.dimension c.requires.can_sum c.requires.walk_value (omega arith) c.if-walk-eq0-3.false).low)

pub record-above-requires : goal.record-above-requires
record-above-requires g c =
    (above c.args.dimension c.requires.can_sum c.requires.walk_value (omega arith) c.if-walk-eq0-3.false).has

pub overflow_add-walk-4 : goal.overflow_add-walk-4
overflow_add-walk-4 g c =
    omega (arith, (diagonal c.args.dimension c.requires.can_sum c.requires.walk_value (omega arith) c.if-walk-eq0-3.false c.if-walk-eq0.false).low)

pub record-diagonal-requires : goal.record-diagonal-requires
record-diagonal-requires g c =
    (diagonal c.args.dimension c.requires.can_sum c.requires.walk_value (omega arith) c.if-walk-eq0-3.false c.if-walk-eq0.false).has

pub combined-requires-2 : goal.combined-requires-2
combined-requires-2 g c =
    combine c.args.dimension c.requires.can_sum c.requires.walk_value (omega arith)
    (no_edge c.args.dimension c.requires.can_sum c.requires.walk_value (omega arith)
    c.if-walk-eq0.false c.if-walk-eq0-3.false c.record-corner.ensures c.record-left.ensures c.record-above.ensures
    c.record-diagonal.ensures)

pub returns : goal.returns
returns g c =
    slab c.args.dimension c.requires.can_sum c.requires.walk_value (omega arith)
    (no_edge c.args.dimension c.requires.can_sum c.requires.walk_value (omega arith)
    c.if-walk-eq0.false c.if-walk-eq0-3.false c.record-corner.ensures c.record-left.ensures c.record-above.ensures
    c.record-diagonal.ensures)
    c.combined-2.ensures
