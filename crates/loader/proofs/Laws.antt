-- What a caller of load and merge may use without seeing inside their definitions: a refusal leaves all as it was, the
-- size stays, and where the answer is 0 the grid is accepted, the tables were sound, the total fits, and each number
-- is known.
-- Assumes nothing.
use Rattle.std.specs.Prelude.{Some}
use mathlib.Core.Path.{◌≡◌, refl, sym, subst, ◌∙◌}
use mathlib.Core.Bool.{Bool, true, false, not, ◌&&◌}
use mathlib.Core.List.{List}
use Prim.Native.Nat.{ℕ, zero, suc, ◌+◌, ◌/◌, ◌%◌, ◌≤◌, ◌<◌}
use borrow.Author.Tests.{eqb-true, ltb-false, not-false}
use lib.Dec.{eqb, ltb}
use lib.ListN.{length, get_or}
use Rattle.grid.specs.declared.place.Grid.{Grid}
use Rattle.basics.specs.Answer.{refuse}
use Rattle.grid.specs.Grid.{grid_of, on_grid, number_on, bins_of}
use Rattle.basics.proofs.Ends.{passed, same_length}
use Rattle.grid.proofs.Ends.{call_refused, call_done}
use Rattle.basics.proofs.Range.{and_left, and_right}
use Rattle.grid.proofs.Places.{chose}
use Rattle.table.specs.Layouts.{Layout}
use Rattle.table.specs.Layouts.{Wide, Narrow}
use Rattle.table.specs.Table.{Table, Sized, is_sized, view_of}
use Rattle.table.specs.Layout.{TableIn, SizedIn, is_sized_in, view_in}
use Rattle.table.specs.Sound.{limit, limit_of, total, sound}
use Rattle.adder.specs.Batch.{weight_of, batch_of, loaded}
use Rattle.table.specs.Sound.{passed_number}
use Rattle.loader.specs.Load.{load_number_on, load_number_in, load_later_in, load_number, load_later}
use Rattle.loader.specs.Merge.{merged, merge_number_on, merge_number_in, merge_later_in, merge_number, merge_later}
use Rattle.table.proofs.Tables.{same_size}
use Rattle.table.proofs.Layouts.{sized_in, sized_once, HoldsIn, list_holds_in}
use Rattle.table.proofs.Soundness.{Sound, sound_same, total_same}
use Rattle.adder.proofs.Loading.{held_sound, held_total}
use Rattle.adder.proofs.Parts.{all_bytes_of}
use Rattle.loader.proofs.Merging.{merge_sound, merge_total}
use Rattle.loader.proofs.Calls.{pairs, load_on, load_after, load_done_in, merge_on, merge_after, merge_done}

-- no 4: as many weights as colours where they are given
in_pairs : (weighted : Bool) (n m : ℕ) → (weighted && not (eqb n m)) ≡ false → weighted ≡ true → n ≡ m
in_pairs weighted n m e y = eqb-true n m (not-false _ (sym (rw y refl) ∙ e))

-- no answer beyond the limit: the total is not past it
passed_limit : (l : Layout) (b : Bool) → refuse b (passed_number l) 0 ≡ 0 → b ≡ false
passed_limit Wide b e = (passed b 6 0 e).0
passed_limit Narrow b e = (passed b 14 0 e).0

-- ---- load
module _ (l : Layout) (b1 b2 b3 : ℕ) (t : TableIn l) (colours : List ℕ) (weighted : Bool) (weights : List ℕ) where
  abbrev number : ℕ
  number = load_number_in l b1 b2 b3 t colours weighted weights

  abbrev later : TableIn l
  later = load_later_in l b1 b2 b3 t colours weighted weights

  pub load_refused_in : {n : ℕ} → number ≡ suc n → later ≡ t
  unfolding load_number_in load_later_in
  load_refused_in e =
      call_refused (grid_of b1 b2 b3) (load_on l b1 b2 b3 t colours weighted weights)
      (load_after l b1 b2 b3 t colours weighted weights) t e

  -- its tests on an accepted grid, in their order
  pub load_tests_in : {g : Grid} → grid_of b1 b2 b3 ≡ Some g → number
      ≡ refuse (not (eqb (length colours % 3) 0)) 3
      (refuse (weighted && not (eqb (length weights) (length colours / 3))) 4
      (refuse (not (is_sized_in l t (bins_of g))) 5
      (refuse (not (sound (limit_of l) g (view_in l t))) 6
      (refuse (ltb (limit_of l) (total g (view_in l t) + weight_of (batch_of colours weighted weights)))
      (passed_number l) 0))))
  unfolding load_number_in load_number_on number_on on_grid
  load_tests_in e = rw e refl

  -- what a load that is done tells
  pub record LoadDone : Type 0 where
    pub g : Grid
    pub chosen : grid_of b1 b2 b3 ≡ Some g
    pub threes : length colours % 3 ≡ 0
    pub paired : weighted ≡ true → length weights ≡ length colours / 3
    pub lent : SizedIn l t (bins_of g)
    pub sound_before : Sound (limit_of l) g (view_in l t)
    pub under : total g (view_in l t) + weight_of (batch_of colours weighted weights) ≤ limit_of l
    pub holds : HoldsIn l (bins_of g) later (loaded g (batch_of colours weighted weights) (view_in l t))

  pub load_says_in : number ≡ 0 → LoadDone
  unfolding load_number_in load_later_in load_number_on
  load_says_in e =
      let c = call_done (grid_of b1 b2 b3) (load_on l b1 b2 b3 t colours weighted weights)
      (load_after l b1 b2 b3 t colours weighted weights) t e in
      let four = passed _ 2 _ c.number in
      let five = passed _ 3 _ four.1 in
      let six = passed _ 4 _ five.1 in
      let seven = passed _ 5 _ six.1 in
      let last = passed_limit l _ seven.1 in
      record {
        g = c.g;
        chosen = c.is;
        threes = eqb-true (length colours % 3) 0 (not-false _ four.0);
        paired = in_pairs weighted (length weights) (length colours / 3) five.0;
        lent = sized_in l _ _ (not-false _ six.0);
        sound_before = record { holds = not-false _ seven.0 };
        under = ltb-false (limit_of l) (total c.g (view_in l t) + weight_of (batch_of colours weighted weights)) last;
        holds =
            rw c.later (list_holds_in l (bins_of c.g)
            (loaded c.g (batch_of colours weighted weights) (view_in l t)));
      }

  -- and the other way round: "where none applies, the answer is 0"
  pub load_accepts_in : {g : Grid} → grid_of b1 b2 b3 ≡ Some g → length colours % 3 ≡ 0
      → (weighted ≡ true → length weights ≡ length colours / 3) → SizedIn l t (bins_of g)
      → sound (limit_of l) g (view_in l t) ≡ true
      → total g (view_in l t) + weight_of (batch_of colours weighted weights) ≤ limit_of l → number ≡ 0
  load_accepts_in e threes paired lent is_sound under =
      sym (load_done_in l b1 b2 b3 t colours weighted weights e threes
      (pairs weighted (length weights) (length colours / 3) paired) lent is_sound under refl).0

  -- a load leaves a table of as many bins
  pub load_size : (n : ℕ) → SizedIn l t n → SizedIn l later n
  load_size n s = go number refl
    where
      go : (m : ℕ) → number ≡ m → SizedIn l later n
      go zero e =
          let d = load_says_in e in
          subst (λ (m : ℕ). SizedIn l later m) (sized_once l t (bins_of d.g) n d.lent s) d.holds.lent
      go (suc m) e = subst (λ (x : TableIn l). SizedIn l x n) (sym (load_refused_in e)) s

  module _ (bytes : (k : ℕ) → get_or colours k 0 < 256) (e : number ≡ 0) where
    -- loading keeps a table sound, and the total after is the sum
    pub load_keeps : Sound (limit_of l) (load_says_in e).g (view_in l later)
    load_keeps =
        let d = load_says_in e in
        held_sound (chose b1 b2 b3 d.g d.chosen).accepted (batch_of colours weighted weights)
        (all_bytes_of colours weighted weights bytes) (view_in l t) d.holds d.sound_before d.under

    pub load_sum : total (load_says_in e).g (view_in l later)
        ≡ total (load_says_in e).g (view_in l t) + weight_of (batch_of colours weighted weights)
    load_sum =
        let d = load_says_in e in
        held_total (chose b1 b2 b3 d.g d.chosen).accepted (batch_of colours weighted weights)
        (all_bytes_of colours weighted weights bytes) (view_in l t) d.holds

-- ---- merge
module _ (l : Layout) (b1 b2 b3 : ℕ) (t s : TableIn l) where
  abbrev merge_number_lem : ℕ
  merge_number_lem = merge_number_in l b1 b2 b3 t s

  abbrev merge_later_lem : TableIn l
  merge_later_lem = merge_later_in l b1 b2 b3 t s

  pub merge_refused_in : {n : ℕ} → merge_number_lem ≡ suc n → merge_later_lem ≡ t
  unfolding merge_number_in merge_later_in
  merge_refused_in e =
      call_refused (grid_of b1 b2 b3) (merge_on l b1 b2 b3 t s) (merge_after l b1 b2 b3 t s) t e

  pub merge_tests_in : {g : Grid} → grid_of b1 b2 b3 ≡ Some g → merge_number_lem
      ≡ refuse (not (is_sized_in l t (bins_of g) && is_sized_in l s (bins_of g))) 5
      (refuse (not (sound (limit_of l) g (view_in l t) && sound (limit_of l) g (view_in l s))) 6
      (refuse (ltb (limit_of l) (total g (view_in l t) + total g (view_in l s))) (passed_number l) 0))
  unfolding merge_number_in merge_number_on number_on on_grid
  merge_tests_in e = rw e refl

  -- what a merge that is done tells
  pub record MergeDone : Type 0 where
    pub g : Grid
    pub chosen : grid_of b1 b2 b3 ≡ Some g
    pub lent : SizedIn l t (bins_of g) × SizedIn l s (bins_of g)
    pub sound_before : Sound (limit_of l) g (view_in l t) × Sound (limit_of l) g (view_in l s)
    pub under : total g (view_in l t) + total g (view_in l s) ≤ limit_of l
    pub holds : HoldsIn l (bins_of g) merge_later_lem (merged (view_in l t) (view_in l s))

  pub merge_says_in : merge_number_lem ≡ 0 → MergeDone
  unfolding merge_number_in merge_later_in merge_number_on
  merge_says_in e =
      let c = call_done (grid_of b1 b2 b3) (merge_on l b1 b2 b3 t s) (merge_after l b1 b2 b3 t s) t e in
      let six = passed _ 4 _ c.number in
      let seven = passed _ 5 _ six.1 in
      let last = passed_limit l _ seven.1 in
      let first : Bool = is_sized_in l t (bins_of c.g) in
      let second : Bool = is_sized_in l s (bins_of c.g) in
      let one : Bool = sound (limit_of l) c.g (view_in l t) in
      let two : Bool = sound (limit_of l) c.g (view_in l s) in
      record {
        g = c.g;
        chosen = c.is;
        lent = (
          sized_in l _ _ (and_left first second (not-false _ six.0)),
          sized_in l _ _ (and_right first second (not-false _ six.0)),
        );
        sound_before = (
          record { holds = and_left one two (not-false _ seven.0) },
          record { holds = and_right one two (not-false _ seven.0) },
        );
        under = ltb-false (limit_of l) (total c.g (view_in l t) + total c.g (view_in l s)) last;
        holds = rw c.later (list_holds_in l (bins_of c.g) (merged (view_in l t) (view_in l s)));
      }

  pub merge_accepts_in : {g : Grid} → grid_of b1 b2 b3 ≡ Some g → SizedIn l t (bins_of g)
      → SizedIn l s (bins_of g)
      → sound (limit_of l) g (view_in l t) ≡ true → sound (limit_of l) g (view_in l s) ≡ true
      → total g (view_in l t) + total g (view_in l s) ≤ limit_of l → merge_number_lem ≡ 0
  merge_accepts_in e first second one two under = sym (merge_done l b1 b2 b3 t s e first second one two under refl).0

  module _ (e : merge_number_lem ≡ 0) where
    pub merge_keeps : Sound (limit_of l) (merge_says_in e).g (view_in l merge_later_lem)
    merge_keeps =
        let d = merge_says_in e in
        record {
          holds = sound_same d.g (view_in l merge_later_lem) (merged (view_in l t) (view_in l s)) d.holds.at (limit_of l)
              ∙ (merge_sound d.sound_before.0 d.sound_before.1 d.under).holds;
        }

    pub merge_sum : total (merge_says_in e).g (view_in l merge_later_lem)
        ≡ total (merge_says_in e).g (view_in l t) + total (merge_says_in e).g (view_in l s)
    merge_sum =
        let d = merge_says_in e in
        total_same d.g (view_in l merge_later_lem) (merged (view_in l t) (view_in l s)) d.holds.at
        ∙ merge_total d.g (view_in l t) (view_in l s)

-- ---- in the wide layout
module _ (b1 b2 b3 : ℕ) (t : Table) (colours : List ℕ) (weighted : Bool) (weights : List ℕ) where
  pub load_refused : {n : ℕ} → load_number b1 b2 b3 t colours weighted weights ≡ suc n
      → load_later b1 b2 b3 t colours weighted weights ≡ t
  load_refused = load_refused_in Wide b1 b2 b3 t colours weighted weights

  pub load_tests_lem : {g : Grid} → grid_of b1 b2 b3 ≡ Some g
      → load_number b1 b2 b3 t colours weighted weights
      ≡ refuse (not (eqb (length colours % 3) 0)) 3
      (refuse (weighted && not (eqb (length weights) (length colours / 3))) 4
      (refuse (not (is_sized t (bins_of g))) 5
      (refuse (not (sound limit g (view_of t))) 6
      (refuse (ltb limit (total g (view_of t) + weight_of (batch_of colours weighted weights))) 7 0))))
  load_tests_lem = load_tests_in Wide b1 b2 b3 t colours weighted weights

  pub load_says : load_number b1 b2 b3 t colours weighted weights ≡ 0
      → LoadDone Wide b1 b2 b3 t colours weighted weights
  load_says = load_says_in Wide b1 b2 b3 t colours weighted weights

  pub load_accepts : {g : Grid} → grid_of b1 b2 b3 ≡ Some g → length colours % 3 ≡ 0
      → (weighted ≡ true → length weights ≡ length colours / 3) → Sized t (bins_of g) → sound limit g (view_of t) ≡ true
      → total g (view_of t) + weight_of (batch_of colours weighted weights) ≤ limit
      → load_number b1 b2 b3 t colours weighted weights ≡ 0
  load_accepts = load_accepts_in Wide b1 b2 b3 t colours weighted weights

  pub load_length : length (load_later b1 b2 b3 t colours weighted weights) ≡ length t
  load_length =
      same_length (load_number b1 b2 b3 t colours weighted weights) t (load_later b1 b2 b3 t colours weighted weights)
      (λ m e. load_refused e) (λ e. let d = load_says e in same_size d.holds.lent d.lent)

module _ (b1 b2 b3 : ℕ) (t s : Table) where
  pub merge_refused : {n : ℕ} → merge_number b1 b2 b3 t s ≡ suc n → merge_later b1 b2 b3 t s ≡ t
  merge_refused = merge_refused_in Wide b1 b2 b3 t s

  pub merge_tests_lem : {g : Grid} → grid_of b1 b2 b3 ≡ Some g → merge_number b1 b2 b3 t s
      ≡ refuse (not (is_sized t (bins_of g) && is_sized s (bins_of g))) 5
      (refuse (not (sound limit g (view_of t) && sound limit g (view_of s))) 6
      (refuse (ltb limit (total g (view_of t) + total g (view_of s))) 7 0))
  merge_tests_lem = merge_tests_in Wide b1 b2 b3 t s

  pub merge_says : merge_number b1 b2 b3 t s ≡ 0 → MergeDone Wide b1 b2 b3 t s
  merge_says = merge_says_in Wide b1 b2 b3 t s

  pub merge_length : length (merge_later b1 b2 b3 t s) ≡ length t
  merge_length =
      same_length (merge_number b1 b2 b3 t s) t (merge_later b1 b2 b3 t s) (λ m e. merge_refused e)
      (λ e. let d = merge_says e in same_size d.holds.lent d.lent.0)
