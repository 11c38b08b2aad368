-- The cut that a C or Rust caller makes, by either engine, is the cut: it is done exactly where that is done and there
-- is room for the boxes, and then it tells and leaves behind what that does. So Tiling, Full and Order, which speak of
-- `cut_record` and `cut_later`, speak of it too.
-- Assumes nothing.
use mathlib.Core.Path.{◌≡◌, refl, sym, ap, subst, ◌∙◌}
use mathlib.Core.Logic.{◌↔◌}
use mathlib.Core.List.{List}
use Prim.Native.Nat.{ℕ, zero, suc, ◌+◌, ◌*◌, ◌≤◌, ◌<◌}
use native.Mathlib.Nat.{one-mul}
use native.Mathlib.Omega.{arith}
use lib.ListN.{length, get_or, get_or-map}
use lib.Seq.{get_or-take}
use lib.Ieee.{Float, nan}
use Rattle.basics.specs.Answer.{when_done}
use Rattle.heap.specs.Boxes.{BoxSpread}
use Rattle.boxes.specs.Box.{no_box}
use Rattle.rounds.specs.Loop.{with_zero}
use Rattle.sums.specs.declared.source.Source.{Source}
use Rattle.table.specs.Layouts.{Layout}
use Rattle.table.specs.Layout.{TableIn}
use Rattle.cutter.specs.Record.{CutRecord}
use Rattle.cutter.specs.Fronts.{filled}
use Rattle.cutter.specs.Cut.{list_of, cut_number_in, cut_record_in, cut_later_in}
use Rattle.cutter.proofs.RecordSize.{few, all_places}
use Rattle.cutter.proofs.Fronts.{length_filled, filled_at, filled_past}
use Rattle.cutter.proofs.Laws.{record_number}
use Rattle.seluvava.specs.Cut.{LentIn, its_bytes, spread_of, told, call_number_in, cut_answer_in, call_later_in}
use Rattle.seluvava.specs.Inner.{room_number}
use Rattle.seluvava.proofs.Boxes.{six, one, told_length}
use Rattle.seluvava.proofs.Calls.{roomy, room_on_lem, room_enough, in_stages, call_kept, call_has}
use Rattle.promises.specs.Tiling.{boxes_in, box_in}
use Rattle.promises.specs.Call.{Room, box_read, TellsCut}
use Rattle.promises.proofs.Numbers.{cut_exactly}
use Rattle.boxes.specs.Bytes.{box_bytes}

-- ---- what is read where the boxes of a record were written
abbrev none : BoxSpread
none = with_zero no_box

module _ (r : CutRecord) (many : length (told r) ≡ r.boxes) (i : ℕ) (h : i < r.boxes) where
  in_list : i < length (told r)
  in_list = omega (arith, h, many)

  read_box : (old : List ℕ) → box_read (filled 6 its_bytes (told r) old) i ≡ box_in r i
  unfolding box_read box_in boxes_in its_bytes box_bytes list_of told
  read_box old =
      (λ j. record {
        r0 = at 0 (omega arith) j;
        r1 = at 1 (omega arith) j;
        g0 = at 2 (omega arith) j;
        g1 = at 3 (omega arith) j;
        b0 = at 4 (omega arith) j;
        b1 = at 5 (omega arith) j;
      })
      ∙ sym (get_or-map (λ (x : BoxSpread). x.bounds) (told r) i none)
    where
      at : (j : ℕ) → j < 6
          → get_or (filled 6 its_bytes (told r) old) (6 * i + j) 0 ≡ get_or (its_bytes (get_or (told r) i none)) j 0
      at j l = filled_at 6 its_bytes six (told r) old i j none 0 in_list l

  read_spread : (old : List Float) → get_or (filled 1 spread_of (told r) old) i nan ≡ (get_or r.places i none).spread
  unfolding spread_of told
  read_spread old =
      ap (λ (j : ℕ). get_or (filled 1 spread_of (told r) old) j nan) (place i)
      ∙ filled_at 1 spread_of one (told r) old i 0 none nan in_list (omega arith)
      ∙ ap (λ (x : BoxSpread). x.spread) (get_or-take r.boxes r.places i none h)
    where
      place : (i : ℕ) → i ≡ 1 * i + 0
      place i = omega arith

-- "Places past the filled front of palette, counts and remainders stay."
stays : {B : Type 0} (w : ℕ) (f : BoxSpread → List B) → ((x : BoxSpread) → length (f x) ≡ w)
    → (xs : List BoxSpread) {n : ℕ} → w * length xs ≡ n → (old : List B) (j : ℕ) (past : B)
    → get_or (filled w f xs old) (n + j) past ≡ get_or old (n + j) past
stays w f each xs e old j past =
    subst (λ (n : ℕ). get_or (filled w f xs old) (n + j) past ≡ get_or old (n + j) past) e
    (filled_past w f each xs old j past)

-- ---- the call
module _ (layout : Layout) (source : Source) (b1 b2 b3 k : ℕ) (t : TableIn layout) (l : LentIn layout) where
  abbrev number : ℕ
  number = (cut_answer_in layout source b1 b2 b3 k t l).number

  abbrev r : CutRecord
  r = cut_record_in layout source b1 b2 b3 k t l.buffers

  abbrev room : ℕ
  room = room_number b1 b2 b3 k (length l.boxes) (length l.spreads)

  -- the answer that is given
  is_number_lem : number ≡ call_number_in layout source b1 b2 b3 k t l
  unfolding cut_answer_in
  is_number_lem = refl

  has_room_lem : number ≡ 0 → room ≡ 0
  unfolding when_done
  has_room_lem e = go room refl
    where
      never : (n : ℕ) → suc n ≡ 0 → ⊥
      never n q = omega arith

      go : (n : ℕ) → room ≡ n → room ≡ 0
      go zero q = q
      go (suc n) q = absurd (never n (sym (sym e ∙ is_number_lem ∙ in_stages layout source b1 b2 b3 k t l ∙ rw q refl)))

  cut_number_lem : room ≡ 0 → number ≡ cut_number_in layout source b1 b2 b3 k t l.buffers
  unfolding when_done
  cut_number_lem e = is_number_lem ∙ in_stages layout source b1 b2 b3 k t l ∙ rw e refl

  pub call_is_cut : ((cut_answer_in layout source b1 b2 b3 k t l).number ≡ 0)
      ↔ ((cut_number_in layout source b1 b2 b3 k t l.buffers ≡ 0) × Room layout k l)
  call_is_cut = (
    λ e.
        let enough = roomy b1 b2 b3 k (length l.boxes) (length l.spreads) (has_room_lem e) in
        (sym (cut_number_lem (has_room_lem e)) ∙ e, record { boxes = enough.boxes_fit; spreads = enough.spreads_fit }),
    λ d.
        let o = (cut_exactly b1 b2 b3 layout source k t l.buffers).0 d.0 in
        cut_number_lem
        (room_on_lem b1 b2 b3 k (length l.boxes) (length l.spreads) o.chosen
        ∙ room_enough k (length l.boxes) (length l.spreads) o.can.0.least o.can.0.most d.1.boxes
        d.1.spreads)
        ∙ d.0,
  )

  -- "A refusal writes nothing." And it has no boxes and no rounds
  pub refused_call : {n : ℕ} → (cut_answer_in layout source b1 b2 b3 k t l).number ≡ suc n
      → (cut_answer_in layout source b1 b2 b3 k t l ≡ record { number = suc n; boxes = 0; rounds = 0 })
      × (call_later_in layout source b1 b2 b3 k t l ≡ l)
  refused_call e = call_kept layout source b1 b2 b3 k t l (sym is_number_lem ∙ e)

  pub call_tells : (cut_answer_in layout source b1 b2 b3 k t l).number ≡ 0
      → TellsCut layout (cut_record_in layout source b1 b2 b3 k t l.buffers) (cut_later_in layout source b1 b2 b3 k t l.buffers) l
      (cut_answer_in layout source b1 b2 b3 k t l) (call_later_in layout source b1 b2 b3 k t l)
  call_tells e =
      let enough = roomy b1 b2 b3 k (length l.boxes) (length l.spreads) (has_room_lem e) in
      let has = call_has layout source b1 b2 b3 k t l (sym is_number_lem ∙ e) in
      let most : r.boxes ≤ k = few layout source k t b1 b2 b3 l.buffers refl in
      let many = told_length r (all_places layout source k t b1 b2 b3 l.buffers refl) (omega (arith, most, enough.most)) in
      record {
        answer = has.0
            ∙ ap (λ (n : ℕ). record { number = n; boxes = r.boxes; rounds = r.rounds })
            (sym (record_number layout source b1 b2 b3 k t l.buffers ∙ sym (cut_number_lem (has_room_lem e)) ∙ e));
        buffers = ap (λ (x : LentIn layout). x.buffers) has.1;
        box = λ i h. ap (λ (x : LentIn layout). box_read x.boxes i) has.1 ∙ read_box r many i h l.boxes;
        spread = λ i h. ap (λ (x : LentIn layout). get_or x.spreads i nan) has.1 ∙ read_spread r many i h l.spreads;
        boxes_stay = λ j. ap (λ (x : LentIn layout). get_or x.boxes (6 * r.boxes + j) 0) has.1
            ∙ stays 6 its_bytes six (told r) (ap (λ (n : ℕ). 6 * n) many) l.boxes j 0;
        spreads_stay = λ j. ap (λ (x : LentIn layout). get_or x.spreads (r.boxes + j) nan) has.1
            ∙ stays 1 spread_of one (told r) (one-mul (length (told r)) ∙ many) l.spreads j nan;
        boxes_long = ap (λ (x : LentIn layout). length x.boxes) has.1
            ∙ length_filled 6 its_bytes six (told r) l.boxes (omega (arith, many, most, enough.boxes_fit));
        spreads_long = ap (λ (x : LentIn layout). length x.spreads) has.1
            ∙ length_filled 1 spread_of one (told r) l.spreads (omega (arith, many, most, enough.spreads_fit));
      }
