-- "Weight 0 adds nothing. An empty batch changes nothing": a load is that of the batch without its colours of weight 0.
-- Assumes nothing.
use mathlib.Core.Path.{◌≡◌, refl, sym, ap, ◌∙◌}
use mathlib.Core.Bool.{Bool, true, false, not, ◌&&◌, cond}
use mathlib.Core.List.{List, [], ◌∷◌, ◌++◌}
use Prim.Native.Nat.{ℕ, zero, suc, ◌+◌, ◌-◌, ◌*◌, ◌/◌, ◌%◌, ◌≤◌, ◌<◌}
use native.Mathlib.Nat.{zero-add, zero-mul}
use native.Mathlib.Decide.{ℕ_discrete}
use native.Mathlib.Omega.{arith}
use borrow.Author.Tests.{eq-eqb, ne_eqb}
use lib.Dec.{eqb, ltb}
use lib.ListN.{length, get_or, length-append, get_or-append}
use lib.Seq.{get_or-append-add}
use Rattle.grid.specs.declared.place.Grid.{Grid}
use Rattle.basics.specs.Answer.{refuse, when_done}
use Rattle.basics.specs.Range.{sum_from, list_from}
use Rattle.grid.specs.Grid.{grid_of, on_grid, number_on, bins_of, colour_place}
use Rattle.pixels.specs.Colour.{colour_at}
use Rattle.basics.proofs.Range.{sum_same, sum_append, sum_shift}
use Rattle.table.specs.Layouts.{Layout}
use Rattle.table.specs.Layouts.{Wide}
use Rattle.table.specs.Table.{Table}
use Rattle.table.specs.Layout.{TableIn, is_sized_in, view_in, written_in}
use Rattle.table.specs.Sound.{limit_of, total, sound, unsound_number}
use Rattle.table.proofs.Layouts.{holds_list_in, holds_itself_in, holds_same_in}
use Rattle.adder.specs.Batch.{Weighted, share, adds, sum_over, weight_of, loaded, weighted_at, batch_of}
use Rattle.table.specs.Sound.{passed_number}
use Rattle.loader.specs.Load.{load_number_on, load_number_in, load_later_in, load_number, load_later}
use Rattle.adder.proofs.Loading.{over_list}
use Rattle.loader.proofs.Laws.{load_refused_in, load_says_in}

-- ---- a colour of weight 0 adds nothing
share_none : (c : Weighted) → c.weight ≡ 0 → (j : ℕ) → share c j ≡ 0
unfolding share
share_none c e zero = e
share_none c e (suc zero) = ap (λ (w : ℕ). w * c.colour.c1) e ∙ zero-mul c.colour.c1
share_none c e (suc (suc zero)) = ap (λ (w : ℕ). w * c.colour.c2) e ∙ zero-mul c.colour.c2
share_none c e (suc (suc (suc zero))) = ap (λ (w : ℕ). w * c.colour.c3) e ∙ zero-mul c.colour.c3
share_none c e (suc (suc (suc (suc j)))) =
    ap (λ (w : ℕ). w * (c.colour.c1 * c.colour.c1 + c.colour.c2 * c.colour.c2 + c.colour.c3 * c.colour.c3))
    e
    ∙ zero-mul (c.colour.c1 * c.colour.c1 + c.colour.c2 * c.colour.c2 + c.colour.c3 * c.colour.c3)

either_none : (b : Bool) (x : ℕ) → x ≡ 0 → cond b x 0 ≡ 0
either_none true x e = e
either_none false x e = refl

adds_none : (g : Grid) (p j : ℕ) (c : Weighted) → c.weight ≡ 0 → adds g c p j ≡ 0
unfolding adds
adds_none g p j c e = either_none (eqb (colour_place g c.colour) p) (share c j) (share_none c e j)

-- ---- two batches whose sums are the same, of whatever is 0 at weight 0, load alike
module _ (l : Layout) (b1 b2 b3 : ℕ) (t : TableIn l) (weighted : Bool) (colours weights colours' weights' : List ℕ)
    (threes : length colours % 3 ≡ length colours' % 3)
    (paired : eqb (length weights) (length colours / 3) ≡ eqb (length weights') (length colours' / 3))
    (sums : (f : Weighted → ℕ) → ((c : Weighted) → c.weight ≡ 0 → f c ≡ 0)
    → sum_over (batch_of colours weighted weights) f ≡ sum_over (batch_of colours' weighted weights') f) where
  number_alike : (g : Grid)
      → load_number_on (limit_of l) (passed_number l) g (is_sized_in l t (bins_of g)) (view_in l t) colours weighted weights
      ≡ load_number_on (limit_of l) (passed_number l) g (is_sized_in l t (bins_of g)) (view_in l t) colours' weighted weights'
  unfolding load_number_on weight_of
  number_alike g =
      λ i. refuse (not (eqb (threes i) 0)) 3
      (refuse (weighted && not (paired i)) 4
      (refuse (not (is_sized_in l t (bins_of g))) 5
      (refuse (not (sound (limit_of l) g (view_in l t))) unsound_number
      (refuse (ltb (limit_of l) (total g (view_in l t) + sums (λ c. c.weight) (λ c e. e) i)) (passed_number l) 0))))

  table_alike : (g : Grid)
      → written_in l (bins_of g) (loaded g (batch_of colours weighted weights) (view_in l t))
      ≡ written_in l (bins_of g) (loaded g (batch_of colours' weighted weights') (view_in l t))
  unfolding loaded
  table_alike g = λ i. written_in l (bins_of g) (λ p j. view_in l t p j + sums (λ c. adds g c p j) (adds_none g p j) i)

  loads_alike :
      (load_number_in l b1 b2 b3 t colours weighted weights ≡ load_number_in l b1 b2 b3 t colours' weighted weights')
      × (load_later_in l b1 b2 b3 t colours weighted weights ≡ load_later_in l b1 b2 b3 t colours' weighted weights')
  unfolding load_number_in load_later_in
  loads_alike = (
    λ i. number_on (grid_of b1 b2 b3) (λ g. number_alike g i),
    λ i. on_grid (grid_of b1 b2 b3) t (λ g. when_done (number_alike g i) (table_alike g i) t),
  )

-- ---- a batch with one colour of weight 0 more
-- what stands before a part that is put in, and what stands after it
before : (s t u : List ℕ) (i : ℕ) → i < length s → get_or (s ++ t) i 0 ≡ get_or (s ++ u) i 0
before s t u i h = get_or-append s t 0 i h ∙ sym (get_or-append s u 0 i h)

after : (s m t : List ℕ) (i : ℕ) → length s ≤ i → get_or (s ++ (m ++ t)) (length m + i) 0 ≡ get_or (s ++ t) i 0
after s m t i h =
    let k = i - length s in
    let there : length m + i ≡ length s + (length m + (i - length s)) = omega arith in
    let here : i ≡ length s + (i - length s) = omega arith in
    ap (λ (n : ℕ). get_or (s ++ (m ++ t)) n 0) there
    ∙ get_or-append-add s (m ++ t) (length m + k) 0
    ∙ get_or-append-add m t k 0
    ∙ sym (ap (λ (n : ℕ). get_or (s ++ t) n 0) here ∙ get_or-append-add s t k 0)

module _ (xs ys us ws : List ℕ) (c1 c2 c3 : ℕ) (pairs : length xs ≡ 3 * length us) where
  abbrev more : List ℕ
  more = xs ++ (c1 ∷ c2 ∷ c3 ∷ ys)

  abbrev fewer : List ℕ
  fewer = xs ++ ys

  early : (k : ℕ) → k < length us → weighted_at more true (us ++ (0 ∷ ws)) k ≡ weighted_at fewer true (us ++ ws) k
  unfolding weighted_at colour_at
  early k h =
      let colour : (d : ℕ) → d < 3 → get_or more (3 * k + d) 0 ≡ get_or fewer (3 * k + d) 0 =
      λ d l. before xs (c1 ∷ c2 ∷ c3 ∷ ys) ys (3 * k + d) (omega arith) in
      λ i. record {
        colour =
            record {
              c1 = before xs (c1 ∷ c2 ∷ c3 ∷ ys) ys (3 * k) (omega arith) i;
              c2 = colour 1 (omega arith) i;
              c3 =
                  colour 2 (omega arith) i;
            };
        weight = before us (0 ∷ ws) ws k h i;
      }

  late : (k : ℕ) → length us ≤ k → weighted_at more true (us ++ (0 ∷ ws)) (1 + k) ≡ weighted_at fewer true (us ++ ws) k
  unfolding weighted_at colour_at
  late k h =
      let colour : (d : ℕ) → get_or more (3 * (1 + k) + d) 0 ≡ get_or fewer (3 * k + d) 0 =
      λ d. ap (λ (n : ℕ). get_or more n 0) (there d) ∙ after xs (c1 ∷ c2 ∷ c3 ∷ []) ys (3 * k + d) (omega arith) in
      λ i. record {
        colour = record {
          c1 = (ap (λ (n : ℕ). get_or more n 0) first ∙ after xs (c1 ∷ c2 ∷ c3 ∷ []) ys (3 * k) (omega arith)) i;
          c2 = colour 1 i;
          c3 = colour 2 i;
        };
        weight = after us (0 ∷ []) ws k h i;
      }
    where
      there : (d : ℕ) → 3 * (1 + k) + d ≡ 3 + (3 * k + d)
      there d = omega arith

      first : 3 * (1 + k) ≡ 3 + 3 * k
      first = omega arith

  one_more : length more / 3 ≡ length us + suc (length ys / 3)
  one_more = omega (arith, length-append xs (c1 ∷ c2 ∷ c3 ∷ ys))

  none_more : length fewer / 3 ≡ length us + length ys / 3
  none_more = omega (arith, length-append xs ys)

  own_weight : (weighted_at more true (us ++ (0 ∷ ws)) (0 + length us)).weight ≡ 0
  unfolding weighted_at
  own_weight = ap (λ (n : ℕ). get_or (us ++ (0 ∷ ws)) n 0) place ∙ get_or-append-add us (0 ∷ ws) 0 0
    where
      place : 0 + length us ≡ length us + 0
      place = omega arith

  sums_alike : (f : Weighted → ℕ) → ((c : Weighted) → c.weight ≡ 0 → f c ≡ 0)
      → sum_over (batch_of more true (us ++ (0 ∷ ws))) f ≡ sum_over (batch_of fewer true (us ++ ws)) f
  unfolding batch_of sum_from
  sums_alike f none =
      let F : ℕ → ℕ = λ k. f (weighted_at more true (us ++ (0 ∷ ws)) k) in
      let G : ℕ → ℕ = λ k. f (weighted_at fewer true (us ++ ws) k) in
      let m = length us in
      let r = length ys / 3 in
      let rest : sum_from (suc (0 + m)) r F ≡ sum_from (0 + m) r G = ap (λ (n : ℕ). sum_from n r F) (next (0 + m))
      ∙ sum_shift 1 (0 + m) r F ∙ sum_same (0 + m) r (λ k. F (1 + k)) G (λ k h l. ap f (late k (omega arith))) in
      over_list 0 (length more / 3) (weighted_at more true (us ++ (0 ∷ ws))) f
      ∙ ap (λ (n : ℕ). sum_from 0 n F) one_more
      ∙ sum_append 0 m (suc r) F
      ∙ (λ i. sum_same 0 m F G (λ k h l. ap f (early k (omega arith))) i
      + (none (weighted_at more true (us ++ (0 ∷ ws)) (0 + m)) own_weight i + rest i))
      ∙ ap (λ (n : ℕ). sum_from 0 m G + n) (zero-add (sum_from (0 + m) r G))
      ∙ sym
      (over_list 0 (length fewer / 3) (weighted_at fewer true (us ++ ws)) f
      ∙ ap (λ (n : ℕ). sum_from 0 n G) none_more
      ∙ sum_append 0 m r G)
    where
      next : (n : ℕ) → suc n ≡ 1 + n
      next n = omega arith

  -- "Weight 0 adds nothing": the answer is the same, and so is the table
  pub weightless_in : (l : Layout) (b1 b2 b3 : ℕ) (t : TableIn l)
      → (load_number_in l b1 b2 b3 t more true (us ++ (0 ∷ ws)) ≡ load_number_in l b1 b2 b3 t fewer true (us ++ ws))
      × (load_later_in l b1 b2 b3 t more true (us ++ (0 ∷ ws)) ≡ load_later_in l b1 b2 b3 t fewer true (us ++ ws))
  weightless_in l b1 b2 b3 t =
      loads_alike l b1 b2 b3 t true more (us ++ (0 ∷ ws)) fewer (us ++ ws)
      (omega (arith, length-append xs (c1 ∷ c2 ∷ c3 ∷ ys), length-append xs ys))
      paired
      sums_alike
    where
      both : (n m k l : ℕ) → n ≡ suc m → k ≡ suc l → eqb n k ≡ eqb m l
      both n m k l e f =
          elim (ℕ_discrete m l) [
            | yes q ↦ eq-eqb n k (omega arith) ∙ sym (eq-eqb m l q)
            | no q ↦ ne_eqb n k (λ s. q (omega arith)) ∙ sym (ne_eqb m l q)
          ]

      paired : eqb (length (us ++ (0 ∷ ws))) (length more / 3) ≡ eqb (length (us ++ ws)) (length fewer / 3)
      paired = both (length (us ++ (0 ∷ ws))) (length (us ++ ws)) (length more / 3) (length fewer / 3)
          (omega (arith, length-append us (0 ∷ ws), length-append us ws)) (omega (arith, one_more, none_more))

  -- in the wide layout
  pub weightless : (b1 b2 b3 : ℕ) (t : Table)
      → (load_number b1 b2 b3 t more true (us ++ (0 ∷ ws)) ≡ load_number b1 b2 b3 t fewer true (us ++ ws))
      × (load_later b1 b2 b3 t more true (us ++ (0 ∷ ws)) ≡ load_later b1 b2 b3 t fewer true (us ++ ws))
  weightless = weightless_in Wide

-- ---- an empty batch
pub empty_weight : (weighted : Bool) (weights : List ℕ) → weight_of (batch_of [] weighted weights) ≡ 0
unfolding batch_of weight_of sum_over list_from
empty_weight weighted weights = refl

module _ (l : Layout) (b1 b2 b3 : ℕ) (t : TableIn l) (weighted : Bool) (weights : List ℕ) where
  -- "An empty batch changes nothing", refused or not
  pub empty_kept_in : load_later_in l b1 b2 b3 t [] weighted weights ≡ t
  unfolding loaded batch_of sum_over list_from
  empty_kept_in = go (load_number_in l b1 b2 b3 t [] weighted weights) refl
    where
      nothing : (x : ℕ) → x + 0 ≡ x
      nothing x = omega arith

      go : (n : ℕ) → load_number_in l b1 b2 b3 t [] weighted weights ≡ n
          → load_later_in l b1 b2 b3 t [] weighted weights ≡ t
      go zero e =
          let d = load_says_in l b1 b2 b3 t [] weighted weights e in
          holds_list_in l (holds_same_in d.holds (λ p j h k. nothing (view_in l t p j)))
          ∙ sym (holds_list_in l (holds_itself_in l (bins_of d.g) t d.lent))
      go (suc n) e = load_refused_in l b1 b2 b3 t [] weighted weights e

-- in the wide layout
pub empty_kept : (b1 b2 b3 : ℕ) (t : Table) (weighted : Bool) (weights : List ℕ)
    → load_later b1 b2 b3 t [] weighted weights ≡ t
empty_kept = empty_kept_in Wide
