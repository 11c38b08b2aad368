-- The call cut for C and Rust, which writes its boxes and their spreads into lent arrays. Definitions only.
use Rattle.std.specs.Prelude.{Bool, ◌&&◌, List, [], ◌∷◌, ℕ, ◌*◌, leb, length, take, Float}
use Rattle.grid.specs.declared.place.Grid.{Grid}
use Rattle.basics.specs.Answer.{when_done}
use Rattle.grid.specs.Grid.{grid_of, number_on}
use Rattle.table.specs.Layouts.{Layout}
use Rattle.table.specs.Layouts.{Wide}
use Rattle.table.specs.Table.{Table}
use Rattle.table.specs.Layout.{TableIn, view_in}
use Rattle.table.specs.Sound.{limit_of}
use Rattle.boxes.specs.Bytes.{box_bytes}
use Rattle.sums.specs.declared.source.Source.{Source}
use Rattle.heap.specs.Boxes.{BoxSpread}
use Rattle.cutter.specs.Record.{CutRecord}
use Rattle.cutter.specs.Fronts.{filled}
use Rattle.cutter.specs.Cut.{BuffersIn, Buffers, lengths_right, cut_number_on, cut_record_in, cut_later_in}
use Rattle.seluvava.specs.declared.cut.CutAnswer.{CutAnswer}

-- what is lent to be written
pub record LentIn (l : Layout) : Type 0 where
  pub buffers : BuffersIn l
  pub boxes : List ℕ
  pub spreads : List Float

abbrev pub Lent : Type 0
Lent = LentIn Wide

abbrev pub lent_in : (l : Layout) → BuffersIn l → List ℕ → List Float → LentIn l
lent_in l b boxes spreads = record { buffers = b; boxes = boxes; spreads = spreads }

abbrev pub lent : Buffers → List ℕ → List Float → Lent
lent b boxes spreads = lent_in Wide b boxes spreads

-- at least six bytes and one spread for each of k boxes
unfoldable pub has_room : ℕ → ℕ → ℕ → Bool
has_room k boxes spreads = leb (6 * k) boxes && leb k spreads

-- no lent length is wrong: those that every cut is lent are right, and there is room for the boxes
unfoldable pub all_long : (l : Layout) → Source → Grid → ℕ → TableIn l → LentIn l → Bool
all_long l source g k t e =
    lengths_right l source g k t e.buffers && has_room k (length e.boxes) (length e.spreads)

-- the answer of the call on an accepted grid: that of a cut, where 5 is any of its lengths
unfoldable pub call_number_on : (l : Layout) → Source → Grid → ℕ → TableIn l → LentIn l → ℕ
call_number_on l source g k t e = cut_number_on (limit_of l) g k (all_long l source g k t e) (view_in l t)

unfoldable pub call_number_in : (l : Layout) → Source → ℕ → ℕ → ℕ → ℕ → TableIn l → LentIn l → ℕ
call_number_in l source b1 b2 b3 k t e = number_on (grid_of b1 b2 b3) (λ g. call_number_on l source g k t e)

-- "A refused cut hands back its answer, zero boxes, zero rounds"
unfoldable pub cut_answer_in : (l : Layout) → Source → ℕ → ℕ → ℕ → ℕ → TableIn l → LentIn l → CutAnswer
cut_answer_in l source b1 b2 b3 k t e =
    let n = call_number_in l source b1 b2 b3 k t e in
    let r = cut_record_in l source b1 b2 b3 k t e.buffers in
    record { number = n; boxes = when_done n r.boxes 0; rounds = when_done n r.rounds 0 }

-- ---- what was lent, afterwards
-- what a box gives the bytes, and what it gives the spreads
unfoldable pub its_bytes : BoxSpread → List ℕ
its_bytes x = box_bytes x.bounds

unfoldable pub spread_of : BoxSpread → List Float
spread_of x = x.spread ∷ []

-- the boxes that a record tells of
unfoldable pub told : CutRecord → List BoxSpread
told r = take r.boxes r.places

-- "A refusal writes nothing."
unfoldable pub call_later_in : (l : Layout) → Source → ℕ → ℕ → ℕ → ℕ → TableIn l → LentIn l → LentIn l
call_later_in l source b1 b2 b3 k t e =
    let r = cut_record_in l source b1 b2 b3 k t e.buffers in
    when_done (call_number_in l source b1 b2 b3 k t e)
    (record {
      buffers = cut_later_in l source b1 b2 b3 k t e.buffers;
      boxes = filled 6 its_bytes (told r) e.boxes;
      spreads = filled 1 spread_of (told r) e.spreads;
    })
    e

-- ---- the same of a table in the wide layout
abbrev pub cut_answer : Source → ℕ → ℕ → ℕ → ℕ → Table → Lent → CutAnswer
cut_answer source b1 b2 b3 k t l = cut_answer_in Wide source b1 b2 b3 k t l

abbrev pub call_later : Source → ℕ → ℕ → ℕ → ℕ → Table → Lent → Lent
call_later source b1 b2 b3 k t l = call_later_in Wide source b1 b2 b3 k t l
