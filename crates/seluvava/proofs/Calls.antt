-- What the definitions of the calls come to: the sizes of a grid, the room for the boxes, the answer of a cut.
-- Assumes nothing.
use Rattle.std.specs.Prelude.{None, Option, Some}
use mathlib.Core.Path.{◌≡◌, refl, sym, ap, ◌∙◌}
use mathlib.Core.Bool.{Bool, true, false, not, ◌&&◌}
use mathlib.Core.List.{List}
use Prim.Native.Nat.{ℕ, zero, suc, ◌*◌, ◌≤◌, ◌<◌}
use native.Mathlib.Omega.{arith}
use borrow.Author.Tests.{le-leb, lt-leb, leb-true, not-false}
use lib.Dec.{eqb, leb}
use lib.ListN.{length}
use lib.Ieee.{Float}
use Rattle.grid.specs.declared.place.Grid.{Grid}
use Rattle.basics.specs.Answer.{refuse, when_done}
use Rattle.grid.specs.Grid.{grid_of, grid_answer, on_grid, number_on, bins_of}
use Rattle.basics.proofs.Range.{and_left, and_right}
use Rattle.basics.proofs.Ends.{passed}
use Rattle.table.specs.Layouts.{Layout}
use Rattle.table.specs.Table.{table_len}
use Rattle.table.specs.Layout.{TableIn, view_in}
use Rattle.table.specs.Sound.{limit_of, total, sound, unsound_number}
use Rattle.sums.specs.declared.source.Source.{Source}
use Rattle.sums.specs.declared.source.Source.TheVariants.{Bins}
use Rattle.cutter.specs.Record.{CutRecord}
use Rattle.cutter.specs.Fronts.{filled}
use Rattle.cutter.specs.Cut.{BuffersIn, lengths_right, cut_number_on, cut_number_in, refused_record, cut_record_in}
use Rattle.cutter.specs.Cut.{cut_later_in}
use Rattle.cutter.proofs.Fronts.{filled_none}
use Rattle.cutter.proofs.Laws.{record_number, cut_refuses, bins_leave_work}
use Rattle.seluvava.specs.declared.cut.CutAnswer.{CutAnswer}
use Rattle.seluvava.specs.Sizes.{bins_for, table_len_for}
use Rattle.seluvava.proofs.Boxes.{six, one}
use Rattle.seluvava.specs.Cut.{LentIn, lent_in, has_room, all_long, call_number_on, call_number_in, cut_answer_in}
use Rattle.seluvava.specs.Cut.{its_bytes, spread_of, told, call_later_in}
use Rattle.seluvava.specs.Inner.{room_on, room_number}

module _ (b1 b2 b3 : ℕ) where
  -- ---- sizes
  pub bins_refused : grid_of b1 b2 b3 ≡ None → bins_for b1 b2 b3 ≡ 0
  unfolding bins_for on_grid
  bins_refused e = rw e refl

  pub bins_on : {g : Grid} → grid_of b1 b2 b3 ≡ Some g → bins_for b1 b2 b3 ≡ bins_of g
  unfolding bins_for on_grid
  bins_on e = rw e refl

  pub len_refused : grid_of b1 b2 b3 ≡ None → table_len_for b1 b2 b3 ≡ 0
  unfolding table_len_for on_grid
  len_refused e = rw e refl

  pub len_on : {g : Grid} → grid_of b1 b2 b3 ≡ Some g → table_len_for b1 b2 b3 ≡ table_len (bins_of g)
  unfolding table_len_for on_grid
  len_on e = rw e refl

  -- ---- the room for the boxes
  module _ (k boxes spreads : ℕ) where
    pub room_refused : grid_of b1 b2 b3 ≡ None → room_number b1 b2 b3 k boxes spreads ≡ 1
    unfolding room_number number_on on_grid grid_answer
    room_refused e = rw e refl

    pub room_on_lem : {g : Grid} → grid_of b1 b2 b3 ≡ Some g
        → room_number b1 b2 b3 k boxes spreads ≡ room_on k boxes spreads
    unfolding room_number number_on on_grid
    room_on_lem e = rw e refl

module _ (k boxes spreads : ℕ) where
  pub room_k_low : k < 1 → room_on k boxes spreads ≡ 2
  unfolding room_on refuse
  room_k_low h = simp (lt-leb 1 k h)

  pub room_k_high : 256 < k → room_on k boxes spreads ≡ 2
  unfolding room_on refuse
  room_k_high h = simp (le-leb 1 k (omega arith), lt-leb k 256 h)

  module _ (least : 1 ≤ k) (most : k ≤ 256) where
    pub room_boxes_short : boxes < 6 * k → room_on k boxes spreads ≡ 5
    unfolding room_on refuse has_room
    room_boxes_short h = simp (le-leb 1 k least, le-leb k 256 most, lt-leb (6 * k) boxes h)

    pub room_spreads_short : 6 * k ≤ boxes → spreads < k → room_on k boxes spreads ≡ 5
    unfolding room_on refuse has_room
    room_spreads_short l h = simp (le-leb 1 k least, le-leb k 256 most, le-leb (6 * k) boxes l, lt-leb k spreads h)

    pub room_enough : 6 * k ≤ boxes → k ≤ spreads → room_on k boxes spreads ≡ 0
    unfolding room_on refuse has_room
    room_enough l h = simp (le-leb 1 k least, le-leb k 256 most, le-leb (6 * k) boxes l, le-leb k spreads h)

-- room for k boxes, which are 1 to 256
pub record Roomy (k boxes spreads : ℕ) : Type 0 where
  pub least : 1 ≤ k
  pub most : k ≤ 256
  pub boxes_fit : 6 * k ≤ boxes
  pub spreads_fit : k ≤ spreads

roomy_on : (k boxes spreads : ℕ) → room_on k boxes spreads ≡ 0 → Roomy k boxes spreads
unfolding room_on has_room
roomy_on k boxes spreads e =
    let size = passed _ 1 _ e in
    let long = passed _ 4 _ size.1 in
    let bounds = not-false _ size.0 in
    let room = not-false _ long.0 in
    record {
      least = leb-true 1 k (and_left (leb 1 k) _ bounds);
      most = leb-true k 256 (and_right (leb 1 k) _ bounds);
      boxes_fit = leb-true (6 * k) boxes (and_left (leb (6 * k) boxes) _ room);
      spreads_fit = leb-true k spreads (and_right (leb (6 * k) boxes) _ room);
    }

pub roomy : (b1 b2 b3 k boxes spreads : ℕ) → room_number b1 b2 b3 k boxes spreads ≡ 0 → Roomy k boxes spreads
unfolding room_number number_on on_grid grid_answer
roomy b1 b2 b3 k boxes spreads = go (grid_of b1 b2 b3)
  where
    never : ◌≡◌ {A = ℕ} 1 0 → ⊥
    never q = omega arith

    go : (c : Option Grid) → on_grid c (grid_answer c).number (λ g. room_on k boxes spreads) ≡ 0 → Roomy k boxes spreads
    go (Some g) e = roomy_on k boxes spreads e
    go None e = absurd (never e)

-- ---- the call: what it answers, and what it leaves behind
-- the answer of a refusal, and that of a record
abbrev refused_of_lem : ℕ → CutAnswer
refused_of_lem number = record { number = number; boxes = 0; rounds = 0 }

abbrev told_of : ℕ → CutRecord → CutAnswer
told_of number r = record { number = number; boxes = r.boxes; rounds = r.rounds }

abbrev answer_of : CutRecord → CutAnswer
answer_of r = told_of r.number r

-- 2, and 5 for any of the lengths: those of one kind may be asked for before the others
stages : (size long room : Bool) (rest : ℕ)
    → refuse (not size) 2 (refuse (not (long && room)) 5 rest)
    ≡ when_done (refuse (not size) 2 (refuse (not room) 5 0)) (refuse (not size) 2 (refuse (not long) 5 rest))
    (refuse (not size) 2 (refuse (not room) 5 0))
unfolding refuse when_done
stages false long room rest = refl
stages true true true rest = refl
stages true true false rest = refl
stages true false true rest = refl
stages true false false rest = refl

module _ (layout : Layout) (source : Source) (b1 b2 b3 k : ℕ) (t : TableIn layout) (l : LentIn layout) where
  abbrev room : ℕ
  room = room_number b1 b2 b3 k (length l.boxes) (length l.spreads)

  -- the answer of the call is that of the room, and where that is 0 the answer of the cut
  pub in_stages : call_number_in layout source b1 b2 b3 k t l ≡ when_done room (cut_number_in layout source b1 b2 b3 k t l.buffers) room
  unfolding call_number_in call_number_on all_long cut_number_in cut_number_on room_number room_on number_on on_grid grid_answer when_done
  in_stages = go (grid_of b1 b2 b3)
    where
      go : (c : Option Grid)
          → number_on c (λ g. call_number_on layout source g k t l)
          ≡ when_done (number_on c (λ g. room_on k (length l.boxes) (length l.spreads)))
          (number_on c (λ g. cut_number_on (limit_of layout) g k (lengths_right layout source g k t l.buffers) (view_in layout t)))
          (number_on c (λ g. room_on k (length l.boxes) (length l.spreads)))
      go (Some g) =
          stages (leb 1 k && leb k 256) (lengths_right layout source g k t l.buffers)
          (has_room k (length l.boxes) (length l.spreads))
          (refuse (not (sound (limit_of layout) g (view_in layout t))) unsound_number (refuse (eqb (total g (view_in layout t)) 0) 8 0))
      go None = refl

  abbrev Ends : CutAnswer → LentIn layout → Type 0
  Ends r e = (r ≡ cut_answer_in layout source b1 b2 b3 k t l) × (e ≡ call_later_in layout source b1 b2 b3 k t l)

  -- the boxes of a record written out, beside its buffers
  abbrev written : CutRecord → BuffersIn layout → LentIn layout
  written r b = lent_in layout b (filled 6 its_bytes (told r) l.boxes) (filled 1 spread_of (told r) l.spreads)

  -- what a cut with room leaves behind
  abbrev cut : LentIn layout
  cut = written (cut_record_in layout source b1 b2 b3 k t l.buffers) (cut_later_in layout source b1 b2 b3 k t l.buffers)

  -- "A refusal writes nothing", and tells of no box and no round
  pub call_kept : {n : ℕ} → call_number_in layout source b1 b2 b3 k t l ≡ suc n
      → (cut_answer_in layout source b1 b2 b3 k t l ≡ refused_of_lem (suc n)) × (call_later_in layout source b1 b2 b3 k t l ≡ l)
  unfolding cut_answer_in call_later_in when_done
  call_kept e = (rw e refl, rw e refl)

  -- and a call that is done has the boxes of the record
  pub call_has : call_number_in layout source b1 b2 b3 k t l ≡ 0
      → (cut_answer_in layout source b1 b2 b3 k t l ≡ told_of 0 (cut_record_in layout source b1 b2 b3 k t l.buffers))
      × (call_later_in layout source b1 b2 b3 k t l ≡ cut)
  unfolding cut_answer_in call_later_in when_done
  call_has e = (rw e refl, rw e refl)

  -- ---- what the code shows of it, stage by stage
  module _ {n : ℕ} (e : n ≡ room) where
    pub call_refused : (n ≡ 0 → ⊥) → Ends (refused_of_lem n) l
    unfolding when_done
    call_refused h = go n refl
      where
        go : (m : ℕ) → n ≡ m → Ends (refused_of_lem n) l
        go zero z = absurd (h z)
        go (suc m) z =
            let kept = call_kept {n = m} (in_stages ∙ rw (← e, z) refl) in
            (ap (λ (i : ℕ). refused_of_lem i) z ∙ sym kept.0, sym kept.1)

    -- where there is room: the cut's answer, and its boxes written out
    cut_ends : n ≡ 0 → Ends (answer_of (cut_record_in layout source b1 b2 b3 k t l.buffers)) cut
    unfolding when_done told refused_record
    cut_ends z = go (cut_number_in layout source b1 b2 b3 k t l.buffers) refl
      where
        same : call_number_in layout source b1 b2 b3 k t l ≡ cut_number_in layout source b1 b2 b3 k t l.buffers
        same = in_stages ∙ rw (← e, z) refl

        go : (m : ℕ) → cut_number_in layout source b1 b2 b3 k t l.buffers ≡ m
            → Ends (answer_of (cut_record_in layout source b1 b2 b3 k t l.buffers)) cut
        go zero q =
            let has = call_has (same ∙ q) in (
              ap (λ (i : ℕ). told_of i (cut_record_in layout source b1 b2 b3 k t l.buffers))
                  (record_number layout source b1 b2 b3 k t l.buffers ∙ q) ∙ sym has.0,
              sym has.1,
            )
        go (suc m) q =
            let kept = call_kept {n = m} (same ∙ q) in
            let none = cut_refuses layout source b1 b2 b3 k t l.buffers q in (
              ap answer_of none.0 ∙ sym kept.0,
              (λ i. written (none.0 i) (none.1 i))
                  ∙ (λ i. lent_in layout l.buffers (filled_none 6 its_bytes six l.boxes i)
                  (filled_none 1 spread_of one l.spreads i)) ∙ sym kept.1,
            )

    pub call_done : n ≡ 0 → {r : CutRecord} → r ≡ cut_record_in layout source b1 b2 b3 k t l.buffers
        → {b : BuffersIn layout} {boxes : List ℕ} {spreads : List Float} → b ≡ cut_later_in layout source b1 b2 b3 k t l.buffers
        → boxes ≡ filled 6 its_bytes (told r) l.boxes → spreads ≡ filled 1 spread_of (told r) l.spreads
        → Ends (answer_of r) (lent_in layout b boxes spreads)
    call_done z q later p s =
        let ends = cut_ends z in (
          ap answer_of q ∙ ends.0,
          (λ i. lent_in layout (later i) (p i) (s i))
              ∙ ap (λ (r : CutRecord). written r (cut_later_in layout source b1 b2 b3 k t l.buffers)) q
              ∙ ends.1,
        )

-- a cut that adds up bins leaves its work table alone
pub call_leaves_work : (layout : Layout) (b1 b2 b3 k : ℕ) (t : TableIn layout) (l : LentIn layout)
    → (call_later_in layout Bins b1 b2 b3 k t l).buffers.work ≡ l.buffers.work
unfolding call_later_in when_done
call_leaves_work layout b1 b2 b3 k t l = go (call_number_in layout Bins b1 b2 b3 k t l)
  where
    go : (n : ℕ)
        → (when_done n
        (lent_in layout (cut_later_in layout Bins b1 b2 b3 k t l.buffers)
        (filled 6 its_bytes (told (cut_record_in layout Bins b1 b2 b3 k t l.buffers)) l.boxes)
        (filled 1 spread_of (told (cut_record_in layout Bins b1 b2 b3 k t l.buffers)) l.spreads)) l).buffers.work
        ≡ l.buffers.work
    go zero = bins_leave_work layout b1 b2 b3 k t l.buffers
    go (suc n) = refl
