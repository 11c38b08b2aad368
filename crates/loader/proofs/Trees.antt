-- Merging in either order, merging zeros, and trees of merges: how a tree ends tells nothing but which tables stand in
-- it. In either layout.
-- Assumes nothing.
use Rattle.std.specs.Prelude.{Some}
use mathlib.Core.Path.{◌≡◌, refl, sym, ap, subst, ◌∙◌}
use mathlib.Core.Bool.{Bool, true, false, not, ◌&&◌, cond}
use mathlib.Core.List.Perm
use mathlib.Core.List.{List, [], ◌∷◌, ◌++◌, Perm}
use Prim.Native.Nat.{ℕ, zero, suc, ◌+◌, ◌*◌, ◌≤◌, ◌<◌}
use native.Mathlib.Nat.{add_comm, add-zero, zero-add}
use native.Mathlib.Omega.{arith}
use borrow.Author.Tests.{leb-true, leb-false, le-leb, lt-leb}
use lib.Dec.{leb, ltb}
use Rattle.basics.specs.Answer.{refuse}
use Rattle.grid.specs.declared.place.Grid.{Grid}
use Rattle.grid.specs.Grid.{grid_of, number_on, bins_of}
use Rattle.grid.proofs.Places.{chose}
use Rattle.table.specs.Layouts.{Layout}
use Rattle.table.specs.Layouts.{Wide, Narrow}
use Rattle.table.specs.Cell.{zeros}
use Rattle.table.specs.Layout.{TableIn, is_sized_in, view_in, written_in, empty_in}
use Rattle.table.specs.Sound.{limit_of, total, sound, unsound_number}
use Rattle.table.proofs.Layouts.{HoldsIn, list_holds_in, holds_list_in, holds_same_in, holds_itself_in, empty_holds_in}
use Rattle.table.proofs.Soundness.{Agree, Sound, total_high, total_same, sound_same, zeros_sound, zeros_total}
use Rattle.adder.specs.Batch.{sum_over}
use Rattle.table.specs.Sound.{passed_number}
use Rattle.adder.proofs.Loading.{over_append, over_perm}
use Rattle.loader.specs.Merge.{merged, merge_number_on, merge_number_in, merge_later_in}
use Rattle.loader.specs.Plan.{EndedIn, Filled, Stopped, ended_of_in, then_merge_in}
use Rattle.loader.proofs.Merging.{merge_total, merge_sound}
use Rattle.loader.proofs.Calls.{merge_after, merge_done, merge_over}
use Rattle.loader.proofs.Laws.{merge_refused_in, merge_says_in, merge_accepts_in}
use Rattle.loader.proofs.Plans.{ended_filled}
use Rattle.loader.specs.Tree.{SoundTable, Tree, one, both, tree_ends, tables_in, AllSound, totals_of, sum_of}
use Rattle.loader.specs.Tree.{all_merged}

-- ---- any two tables, sound or not, of any lengths
and_comm : (a b : Bool) → (a && b) ≡ (b && a)
and_comm true true = refl
and_comm true false = refl
and_comm false true = refl
and_comm false false = refl

pub merge_turned : (l : Layout) (b1 b2 b3 : ℕ) (t s : TableIn l)
    → merge_number_in l b1 b2 b3 t s ≡ merge_number_in l b1 b2 b3 s t
unfolding merge_number_in merge_number_on
merge_turned l b1 b2 b3 t s =
    λ i. number_on (grid_of b1 b2 b3) (λ g.
    refuse (not (and_comm (is_sized_in l t (bins_of g)) (is_sized_in l s (bins_of g)) i)) 5
    (refuse (not (and_comm (sound (limit_of l) g (view_in l t)) (sound (limit_of l) g (view_in l s)) i)) unsound_number
    (refuse (ltb (limit_of l) (add_comm (total g (view_in l t)) (total g (view_in l s)) i)) (passed_number l) 0)))

-- ---- "an empty table changes nothing"
module _ (l : Layout) (b1 b2 b3 : ℕ) where
  abbrev none : TableIn l
  none = empty_in l (b1 * b2 * b3)

  none_holds : {g : Grid} → grid_of b1 b2 b3 ≡ Some g → HoldsIn l (bins_of g) (empty_in l (b1 * b2 * b3)) zeros
  unfolding bins_of
  none_holds {g} e =
      let c = chose b1 b2 b3 g e in
      let n : bins_of g ≡ b1 * b2 * b3 = λ i. c.one i * c.two i * c.three i in
      subst (λ (m : ℕ). HoldsIn l m none zeros) (sym n) (empty_holds_in l (b1 * b2 * b3))

  -- merged into a table of any lengths, sound or not, it leaves that as it was
  pub merge_zeros : (t : TableIn l) → merge_later_in l b1 b2 b3 t (empty_in l (b1 * b2 * b3)) ≡ t
  unfolding merged
  merge_zeros t = go (merge_number_in l b1 b2 b3 t none) refl
    where
      go : (n : ℕ) → merge_number_in l b1 b2 b3 t none ≡ n → merge_later_in l b1 b2 b3 t none ≡ t
      go (suc n) e = merge_refused_in l b1 b2 b3 t none e
      go zero e =
          let d = merge_says_in l b1 b2 b3 t none e in
          holds_list_in l d.holds
          ∙ sym (holds_list_in l (holds_same_in (holds_itself_in l (bins_of d.g) t d.lent.0)
          (λ p j h k. sym (add-zero (view_in l t p j))
          ∙ ap (λ (x : ℕ). view_in l t p j + x) (sym ((none_holds d.chosen).at p j h k)))))

  -- and a table merged into it, it becomes that table
  pub zeros_become : (t : TableIn l) → merge_number_in l b1 b2 b3 (empty_in l (b1 * b2 * b3)) t ≡ 0
      → merge_later_in l b1 b2 b3 (empty_in l (b1 * b2 * b3)) t ≡ t
  unfolding merged
  zeros_become t e =
      let d = merge_says_in l b1 b2 b3 none t e in
      holds_list_in l d.holds
      ∙ sym (holds_list_in l (holds_same_in (holds_itself_in l (bins_of d.g) t d.lent.1)
      (λ p j h k. sym (zero-add (view_in l t p j))
      ∙ ap (λ (x : ℕ). x + view_in l t p j) (sym ((none_holds d.chosen).at p j h k)))))

  -- which is done for every sound table
  pub zeros_taken : {g : Grid} → grid_of b1 b2 b3 ≡ Some g → (t : TableIn l) → SoundTable l g t
      → merge_number_in l b1 b2 b3 (empty_in l (b1 * b2 * b3)) t ≡ 0
  zeros_taken {g} e t s =
      let z = none_holds e in
      let total-none = total_same g (view_in l none) zeros z.at ∙ zeros_total g in
      merge_accepts_in l b1 b2 b3 none t e z.lent s.lent
      (sound_same g (view_in l none) zeros z.at (limit_of l) ∙ (zeros_sound (limit_of l) g).holds) s.is_sound
      (omega (arith, total-none, total_high (record { holds = s.is_sound })))

-- ---- a tree of merges
-- the answer beyond a layout's limit is a refusal
passed_stops : (l : Layout) (x : TableIn l) → ended_of_in l (passed_number l) x ≡ Stopped (passed_number l)
unfolding ended_of_in
passed_stops Wide x = refl
passed_stops Narrow x = refl

module _ (l : Layout) (b1 b2 b3 : ℕ) {g : Grid} (e : grid_of b1 b2 b3 ≡ Some g) where
  abbrev most : ℕ
  most = limit_of l

  -- what is known of tables one after the other: each is sound, and so are they together where their total fits
  record Together (ts : List (TableIn l)) : Type 0 where
    weighs : total g (sum_of l ts) ≡ totals_of l g ts
    is_sound : totals_of l g ts ≤ most → Sound most g (sum_of l ts)

  one_together : (t : TableIn l) → SoundTable l g t → Together (t ∷ [])
  unfolding totals_of sum_of sum_over
  one_together t s =
      let same : Agree (bins_of g) (λ p j. view_in l t p j + 0) (view_in l t) = λ p j h k. add-zero (view_in l t p j) in
      record {
        weighs = total_same g (λ p j. view_in l t p j + 0) (view_in l t) same ∙ sym (add-zero (total g (view_in l t)));
        is_sound = λ h. record {
          holds = sound_same g (λ p j. view_in l t p j + 0) (view_in l t) same most ∙ s.is_sound;
        };
      }

  more_together : (ts us : List (TableIn l)) → Together ts → Together us → Together (ts ++ us)
  unfolding totals_of sum_of merged
  more_together ts us a b =
      let same : Agree (bins_of g) (sum_of l (ts ++ us)) (merged (sum_of l ts) (sum_of l us)) =
      λ p j h k. over_append ts us (λ t. view_in l t p j) in
      let both-weigh = merge_total g (sum_of l ts) (sum_of l us) in
      let all_weigh = over_append ts us (λ t. total g (view_in l t)) in
      record {
        weighs = total_same g (sum_of l (ts ++ us)) (merged (sum_of l ts) (sum_of l us)) same ∙ both-weigh
            ∙ (λ i. a.weighs i + b.weighs i) ∙ sym all_weigh;
        is_sound = λ h. record {
          holds = sound_same g (sum_of l (ts ++ us)) (merged (sum_of l ts) (sum_of l us)) same most
              ∙ (merge_sound (a.is_sound (omega (arith, all_weigh))) (b.is_sound (omega (arith, all_weigh)))
              (omega (arith, all_weigh, a.weighs, b.weighs))).holds;
        };
      }

  all_together : (p : Tree l) → AllSound l g p → Together (tables_in l p)
  unfolding tables_in
  all_together (one t) s = one_together t s
  all_together (both p q) s =
      more_together (tables_in l p) (tables_in l q) (all_together p s.0) (all_together q s.1)

  -- how two lists of tables, each merged to one, merge
  abbrev written_sum : List (TableIn l) → TableIn l
  written_sum ts = written_in l (bins_of g) (sum_of l ts)

  ended : (n : ℕ) {m : ℕ} {x y : TableIn l} → m ≡ n → x ≡ y → ended_of_in l m x ≡ ended_of_in l n y
  ended n d c = λ i. ended_of_in l (d i) (c i)

  module _ (ts us : List (TableIn l)) (a : Together ts) (b : Together us) where
    abbrev x : TableIn l
    x = written_sum ts

    abbrev y : TableIn l
    y = written_sum us

    at : (vs : List (TableIn l)) → HoldsIn l (bins_of g) (written_sum vs) (sum_of l vs)
    at vs = list_holds_in l (bins_of g) (sum_of l vs)

    weighs_x : total g (view_in l x) ≡ totals_of l g ts
    weighs_x = total_same g (view_in l x) (sum_of l ts) (at ts).at ∙ a.weighs

    weighs_y : total g (view_in l y) ≡ totals_of l g us
    weighs_y = total_same g (view_in l y) (sum_of l us) (at us).at ∙ b.weighs

    all_weigh : totals_of l g (ts ++ us) ≡ totals_of l g ts + totals_of l g us
    unfolding totals_of
    all_weigh = over_append ts us (λ t. total g (view_in l t))

    sums_merge : merge_after l b1 b2 b3 x y g ≡ written_sum (ts ++ us)
    unfolding merged sum_of
    sums_merge =
        holds_list_in l (holds_same_in (list_holds_in l (bins_of g) (merged (view_in l x) (view_in l y)))
        (λ p j h k. (λ i. (at ts).at p j h k i + (at us).at p j h k i) ∙ sym (over_append ts us (λ t. view_in l t p j))))

    -- both fit by themselves
    module _ (h : totals_of l g ts ≤ most) (k : totals_of l g us ≤ most) where
      sound_x : sound most g (view_in l x) ≡ true
      sound_x = sound_same g (view_in l x) (sum_of l ts) (at ts).at most ∙ (a.is_sound h).holds

      sound_y : sound most g (view_in l y) ≡ true
      sound_y = sound_same g (view_in l y) (sum_of l us) (at us).at most ∙ (b.is_sound k).holds

      two_merge : then_merge_in l b1 b2 b3 (Filled x) (Filled y) ≡ all_merged l g (ts ++ us)
      unfolding then_merge_in all_merged ended_of_in
      two_merge = go (leb (totals_of l g (ts ++ us)) most) refl
        where
          go : (c : Bool) → leb (totals_of l g (ts ++ us)) most ≡ c
              → ended_of_in l (merge_number_in l b1 b2 b3 x y) (merge_later_in l b1 b2 b3 x y)
              ≡ cond c (Filled (written_sum (ts ++ us))) (Stopped (passed_number l))
          go true q =
              let under = leb-true (totals_of l g (ts ++ us)) most q in
              let d = merge_done l b1 b2 b3 x y e (at ts).lent (at us).lent sound_x sound_y
              (omega (arith, under, all_weigh, weighs_x, weighs_y)) (sym sums_merge) in
              ended 0 (sym d.0) (sym d.1)
          go false q =
              let past = leb-false (totals_of l g (ts ++ us)) most q in
              let d = merge_over l b1 b2 b3 x y e (at ts).lent (at us).lent sound_x sound_y
              (omega (arith, past, all_weigh, weighs_x, weighs_y)) in
              ended (passed_number l) (sym d.0) (sym d.1) ∙ passed_stops l x

    -- a part that is past the limit is enough for the whole to be
    merge_all : then_merge_in l b1 b2 b3 (all_merged l g ts) (all_merged l g us) ≡ all_merged l g (ts ++ us)
    unfolding all_merged then_merge_in
    merge_all = go (leb (totals_of l g ts) most) refl (leb (totals_of l g us) most) refl
      where
        past : most < totals_of l g (ts ++ us) → Stopped (passed_number l) ≡ all_merged l g (ts ++ us)
        past h =
            sym (ap (λ (c : Bool). cond c (Filled (written_sum (ts ++ us))) (Stopped (passed_number l)))
            (lt-leb _ _ h))

        go : (c : Bool) → leb (totals_of l g ts) most ≡ c → (d : Bool) → leb (totals_of l g us) most ≡ d
            → then_merge_in l b1 b2 b3 (cond c (Filled x) (Stopped (passed_number l)))
            (cond d (Filled y) (Stopped (passed_number l)))
            ≡ all_merged l g (ts ++ us)
        go true q true r = two_merge (leb-true _ _ q) (leb-true _ _ r)
        go true q false r = past (omega (arith, leb-false (totals_of l g us) most r, all_weigh))
        go false q d r = past (omega (arith, leb-false (totals_of l g ts) most q, all_weigh))

  -- a table by itself
  one_ends : (t : TableIn l) → SoundTable l g t → ◌≡◌ {A = EndedIn l} (Filled t) (all_merged l g (t ∷ []))
  unfolding all_merged totals_of sum_of sum_over
  one_ends t s =
      (λ i. Filled (holds_list_in l (holds_same_in (holds_itself_in l (bins_of g) t s.lent)
      (λ p j h k. sym (add-zero (view_in l t p j)))) i))
      ∙ sym (ap (λ (c : Bool). cond c (Filled (written_sum (t ∷ []))) (Stopped (passed_number l)))
      (le-leb (total g (view_in l t) + 0) most
      (omega (arith, total_high {most = most} {g = g} {v = view_in l t} (record { holds = s.is_sound })))))

  -- a tree ends with one table that holds what its tables hold together, or with the answer of the layout's limit
  pub ends_merged : (p : Tree l) → AllSound l g p → tree_ends l b1 b2 b3 p ≡ all_merged l g (tables_in l p)
  unfolding tree_ends tables_in
  ends_merged (one t) s = one_ends t s
  ends_merged (both p q) s =
      (λ i. then_merge_in l b1 b2 b3 (ends_merged p s.0 i) (ends_merged q s.1 i))
      ∙ merge_all (tables_in l p) (tables_in l q) (all_together p s.0) (all_together q s.1)

  -- so the shape of the tree and the order of its tables do not change how it ends
  pub same_tables : (p q : Tree l) → AllSound l g p → AllSound l g q → Perm (tables_in l p) (tables_in l q)
      → tree_ends l b1 b2 b3 p ≡ tree_ends l b1 b2 b3 q
  unfolding all_merged totals_of sum_of
  same_tables p q s r π =
      ends_merged p s
      ∙ (λ i. cond (leb (over_perm (λ t. total g (view_in l t)) π i) most)
      (Filled (written_in l (bins_of g) (λ n j. over_perm (λ t. view_in l t n j) π i))) (Stopped (passed_number l)))
      ∙ sym (ends_merged q r)

  -- ---- two tables
  -- what it leaves is sound, and weighs what both weigh
  module _ (t s : TableIn l) (a : SoundTable l g t) (b : SoundTable l g s)
      (h : total g (view_in l t) + total g (view_in l s) ≤ limit_of l) where
    pub two_done : merge_number_in l b1 b2 b3 t s ≡ 0
    two_done = merge_accepts_in l b1 b2 b3 t s e a.lent b.lent a.is_sound b.is_sound h

    two_hold : HoldsIn l (bins_of g) (merge_later_in l b1 b2 b3 t s) (merged (view_in l t) (view_in l s))
    two_hold =
        let d = merge_done l b1 b2 b3 t s e a.lent b.lent a.is_sound b.is_sound h refl in
        subst (λ (x : TableIn l). HoldsIn l (bins_of g) x (merged (view_in l t) (view_in l s))) d.1
        (list_holds_in l (bins_of g) (merged (view_in l t) (view_in l s)))

    pub two_weigh : total g (view_in l (merge_later_in l b1 b2 b3 t s)) ≡ total g (view_in l t) + total g (view_in l s)
    two_weigh =
        total_same g (view_in l (merge_later_in l b1 b2 b3 t s)) (merged (view_in l t) (view_in l s)) two_hold.at
        ∙ merge_total g (view_in l t) (view_in l s)

    pub two_sound : SoundTable l g (merge_later_in l b1 b2 b3 t s)
    two_sound =
        record {
          lent = two_hold.lent;
          is_sound =
              sound_same g (view_in l (merge_later_in l b1 b2 b3 t s)) (merged (view_in l t) (view_in l s)) two_hold.at
              (limit_of l)
              ∙ (merge_sound (record { holds = a.is_sound }) (record { holds = b.is_sound }) h).holds;
        }

  -- ---- as trees
  module _ (t s : TableIn l) where
    pub two_end : merge_number_in l b1 b2 b3 t s ≡ 0
        → tree_ends l b1 b2 b3 (both (one t) (one s)) ≡ Filled (merge_later_in l b1 b2 b3 t s)
    unfolding tree_ends then_merge_in
    two_end n = ended_filled n refl

    -- three, the first two of them first, or the last two
    module _ (u : TableIn l) where
      pub left_end : merge_number_in l b1 b2 b3 t s ≡ 0 → merge_number_in l b1 b2 b3 (merge_later_in l b1 b2 b3 t s) u ≡ 0
          → tree_ends l b1 b2 b3 (both (both (one t) (one s)) (one u))
          ≡ Filled (merge_later_in l b1 b2 b3 (merge_later_in l b1 b2 b3 t s) u)
      unfolding tree_ends then_merge_in
      left_end n m =
          ap (λ (x : EndedIn l). then_merge_in l b1 b2 b3 x (Filled u)) (ended_filled n refl)
          ∙ ended_filled m refl

      pub right_end : merge_number_in l b1 b2 b3 s u ≡ 0 → merge_number_in l b1 b2 b3 t (merge_later_in l b1 b2 b3 s u) ≡ 0
          → tree_ends l b1 b2 b3 (both (one t) (both (one s) (one u)))
          ≡ Filled (merge_later_in l b1 b2 b3 t (merge_later_in l b1 b2 b3 s u))
      unfolding tree_ends then_merge_in
      right_end n m =
          ap (then_merge_in l b1 b2 b3 (Filled t)) (ended_filled n refl)
          ∙ ended_filled m refl

  module _ (t s : TableIn l) (a : SoundTable l g t) (b : SoundTable l g s) where
    pub tree_turned : tree_ends l b1 b2 b3 (both (one t) (one s)) ≡ tree_ends l b1 b2 b3 (both (one s) (one t))
    unfolding tables_in
    tree_turned = same_tables (both (one t) (one s)) (both (one s) (one t)) (a, b) (b, a) (Perm.swap s t [])

    pub tree_regrouped : (u : TableIn l) → SoundTable l g u
        → tree_ends l b1 b2 b3 (both (both (one t) (one s)) (one u))
        ≡ tree_ends l b1 b2 b3 (both (one t) (both (one s) (one u)))
    unfolding tables_in
    tree_regrouped u c =
        same_tables (both (both (one t) (one s)) (one u)) (both (one t) (both (one s) (one u))) ((a, b), c) (a, (b, c))
        (Perm.refl (t ∷ s ∷ u ∷ []))
