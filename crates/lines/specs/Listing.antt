-- The listing program (Rules, Listing) between reading and writing. Definitions only.
use Rattle.std.specs.Prelude.{◌≡◌, false, List, [], ℕ, zero, suc, ◌*◌, ◌%◌, ◌≤◌, ◌<◌, min, eqb, length, take, replicate, Result, Ok, Err}
use Rattle.basics.specs.Answer.{when_done}
use Rattle.table.specs.Table.{Table, empty_of}
use Rattle.loader.specs.Load.{load_number, load_later}
use Rattle.sums.specs.declared.source.Source.TheVariants.{Moments}
use Rattle.cutter.specs.Cut.{Buffers, buffers, cut_record, cut_later}
use Rattle.lines.specs.declared.batches.Loaded.{Loaded}
use Rattle.lines.specs.declared.found.Found.{Found}
use Rattle.lines.specs.Text.{listing_of, refused_of}

-- ---- "reads RGB triples from standard input in batches, grid 8,8,8"
unfoldable pub empty_table : Table
empty_table = empty_of (8 * 8 * 8)

-- the answer to a load of some bytes without weights, and the table then
unfoldable pub part_number : List ℕ → List ℕ → ℕ
part_number t bytes = load_number 8 8 8 t bytes false []

unfoldable pub part_later : List ℕ → List ℕ → List ℕ
part_later t bytes = load_later 8 8 8 t bytes false []

-- the lower of two answers, where 0 is no refusal
unfoldable pub lower_of : ℕ → ℕ → ℕ
lower_of zero m = m
lower_of (suc n) zero = suc n
lower_of (suc n) (suc m) = min (suc n) (suc m)

-- a batch whose first bytes are filled: the lowest refusal so far, and that another one may follow where it is full
unfoldable pub batch_answer : List ℕ → List ℕ → ℕ → ℕ → Loaded
batch_answer t batch filled lowest =
    record { number = lower_of lowest (part_number t (take filled batch)); more = eqb filled (length batch) }

unfoldable pub batch_later : List ℕ → List ℕ → ℕ → List ℕ
batch_later t batch filled = part_later t (take filled batch)

-- ---- "grid 8,8,8, k=16": the text for the table that was loaded
-- what a cut is lent, as long as it has to be
unfoldable pub lent_zeros : Buffers
lent_zeros =
    buffers (empty_of (8 * 8 * 8)) (replicate (3 * 16) 0) (replicate 16 0) (replicate (3 * 16) 0)
    (replicate (8 * 8 * 8) 0)

unfoldable pub cut_text : List ℕ → List ℕ
cut_text t =
    let r = cut_record Moments 8 8 8 16 t lent_zeros in
    let later = cut_later Moments 8 8 8 16 t lent_zeros in
    when_done r.number (listing_of r.boxes r.rounds later.results.palette later.results.counts)
    (refused_of r.number)

-- the cut into at most k boxes, or the number of a refusal: the lowest of the loads, or else that of the cut
unfoldable pub found_in : ℕ → ℕ → List ℕ → Result Found ℕ
found_in k number t =
    let r = cut_record Moments 8 8 8 k t lent_zeros in
    let later = cut_later Moments 8 8 8 k t lent_zeros in
    when_done number
    (when_done r.number
    (Ok (record { boxes = r.boxes; rounds = r.rounds; palette = later.results.palette; counts = later.results.counts }))
    (Err r.number))
    (Err number)

abbrev pub found_of : ℕ → List ℕ → Result Found ℕ
found_of = found_in 16

-- "On a refusal it writes only `refused N`": the lowest refusal of the loads, or else that of the cut
unfoldable pub text_of : ℕ → List ℕ → List ℕ
text_of number t = when_done number (cut_text t) (refused_of number)

-- ---- what the code is given
-- every text has room in so many bytes: one line more than boxes
abbrev pub text_room : ℕ
text_room = 2176

-- a batch of whole pixels, some of its bytes filled: only one that is not full can split a pixel
pub record Filled (batch : List ℕ) (filled : ℕ) : Type 0 where
  pub some : 0 < length batch
  pub whole : length batch % 3 ≡ 0
  pub there : filled ≤ length batch
