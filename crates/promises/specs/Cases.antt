-- P1 to P10 (Rules, Cases) as one table: what is loaded and cut, and what is to come out. Definitions only.
use Rattle.std.specs.Prelude.{true, false, List, [], ◌∷◌, ◌++◌, ℕ, zero, suc, ◌-◌, ◌*◌, pos, length, replicate, Float}
use Rattle.std.specs.Float.{inf, fin}
use Rattle.grid.specs.Grid.{grid_of, on_grid}
use Rattle.table.specs.Table.{table_len, view_of}
use Rattle.loader.specs.Load.{load_number, load_later}
use Rattle.loader.specs.Plan.{Batch}
use Rattle.spread.specs.Spread.{zero_of}
use Rattle.spread.specs.Cut.{ScoredAnswer, position_answer, best_cut}
use Rattle.heap.specs.Boxes.{BoxSpread}
use Rattle.boxes.specs.Box.{whole_of}
use Rattle.sums.specs.declared.source.Source.TheVariants.{Moments}
use Rattle.cutter.specs.Record.{CutRecord}
use Rattle.cutter.specs.Cut.{Buffers, buffers, cut_record, cut_later}

-- the answer to a load, and the table then
pub record AfterLoad : Type 0 where
  pub number : ℕ
  pub table : List ℕ

-- what comes out: each load's answer and table, the best position of the whole grid, the record of the cut, and what
-- was lent to it
pub record Outcome : Type 0 where
  pub loads : List AfterLoad
  pub position : ScoredAnswer
  pub cut : CutRecord
  pub later : Buffers

-- three sizes, a table, batches to load into it one after the other, and how many boxes to cut it into
pub record Case : Type 0 where
  pub sizes : ℕ × ℕ × ℕ
  pub table : List ℕ
  pub batches : List Batch
  pub k : ℕ
  pub expected : Outcome

-- ---- what the definitions of the contracts make of a case
unfoldable pub loads_of : ℕ → ℕ → ℕ → List ℕ → List Batch → List AfterLoad
loads_of b1 b2 b3 t [] = []
loads_of b1 b2 b3 t (b ∷ bs) =
    let number = load_number b1 b2 b3 t b.colours b.weighted b.weights in
    let table = load_later b1 b2 b3 t b.colours b.weighted b.weights in
    record { number = number; table = table } ∷ loads_of b1 b2 b3 table bs

unfoldable pub table_after : ℕ → ℕ → ℕ → List ℕ → List Batch → List ℕ
table_after b1 b2 b3 t [] = t
table_after b1 b2 b3 t (b ∷ bs) = table_after b1 b2 b3 (load_later b1 b2 b3 t b.colours b.weighted b.weights) bs

-- no position
unfoldable pub nowhere : ScoredAnswer
nowhere = record { number = 0; values = []; scores = [] }

-- the best position to cut the whole grid
unfoldable pub position_in : ℕ → ℕ → ℕ → List ℕ → ScoredAnswer
position_in b1 b2 b3 t = on_grid (grid_of b1 b2 b3) nowhere (λ g. position_answer (best_cut g (view_of t) (whole_of g)))

-- what is lent to the cut: long enough for every k here, and nowhere zero
unfoldable pub lent_to : ℕ → Buffers
lent_to bins =
    buffers (replicate (table_len bins) 5) (replicate 780 7) (replicate 260 9) (replicate 770 4) (replicate bins 3)

unfoldable pub outcome : Case → Outcome
outcome c =
    let b1 = c.sizes.0 in
    let b2 = c.sizes.1 in
    let b3 = c.sizes.2 in
    let t = table_after b1 b2 b3 c.table c.batches in
    let lent = lent_to (b1 * b2 * b3) in
    record {
      loads = loads_of b1 b2 b3 c.table c.batches;
      position = position_in b1 b2 b3 t;
      cut = cut_record Moments b1 b2 b3 c.k t lent;
      later = cut_later Moments b1 b2 b3 c.k t lent;
    }

-- ---- words for what is to come out
-- a list n times over
unfoldable pub times : ℕ → List ℕ → List ℕ
times zero xs = []
times (suc n) xs = xs ++ times n xs

-- n bins that are empty
unfoldable pub empties : ℕ → List ℕ
empties n = times n (0 ∷ 0 ∷ 0 ∷ 0 ∷ 0 ∷ [])

-- colours without weights, whatever list is lent, and with weights
unfoldable pub plain : List ℕ → Batch
plain colours = record { colours = colours; weighted = false; weights = 8 ∷ [] }

unfoldable pub weighted : List ℕ → List ℕ → Batch
weighted colours weights = record { colours = colours; weighted = true; weights = weights }

unfoldable pub load_gives : ℕ → List ℕ → AfterLoad
load_gives number table = record { number = number; table = table }

-- dimension and bin, with the score
unfoldable pub at : ℕ → ℕ → Float → ScoredAnswer
at dimension bin score = record { number = 0; values = dimension ∷ bin ∷ []; scores = score ∷ [] }

-- a box of three ranges, with its spread
unfoldable pub box : ℕ × ℕ → ℕ × ℕ → ℕ × ℕ → Float → BoxSpread
box r gr b spread =
    record { bounds = record { r0 = r.0; r1 = r.1; g0 = gr.0; g1 = gr.1; b0 = b.0; b1 = b.1 }; spread = spread }

-- "places past the last box are all zeros"
unfoldable pub record_with : ℕ → ℕ → List BoxSpread → CutRecord
record_with number rounds xs =
    record {
      number = number;
      boxes = length xs;
      rounds = rounds;
      places =
          xs ++ replicate (256 - length xs) (box (0, 0) (0, 0) (0, 0) zero_of);
    }

-- a cut that is done: its rounds, boxes, moments, colours, counts, remainders and map; "Places past the filled front of
-- palette, counts and remainders stay"
pub record Done : Type 0 where
  pub rounds : ℕ
  pub boxes : List BoxSpread
  pub work : List ℕ
  pub colours : List ℕ
  pub counts : List ℕ
  pub remainders : List ℕ
  pub map : List ℕ

unfoldable pub done : List AfterLoad → ScoredAnswer → Done → Outcome
done loads position d =
    record {
      loads = loads;
      position = position;
      cut = record_with 0 d.rounds d.boxes;
      later = buffers d.work (d.colours ++ replicate (780 - length d.colours) 7)
          (d.counts ++ replicate (260 - length d.counts) 9)
          (d.remainders ++ replicate (770 - length d.remainders) 4) d.map;
    }

-- "A refusal writes nothing. A refused cut hands back its answer, zero boxes, zero rounds and box places all zero."
unfoldable pub refused_with : ℕ → List AfterLoad → ScoredAnswer → ℕ → Outcome
refused_with number loads position bins =
    record { loads = loads; position = position; cut = record_with number 0 []; later = lent_to bins }

-- ---- what several cases load
-- "black weight 1, white weight 3"
unfoldable pub black_white : List Batch
black_white = weighted (0 ∷ 0 ∷ 0 ∷ 255 ∷ 255 ∷ 255 ∷ []) (1 ∷ 3 ∷ []) ∷ []

unfoldable pub black_white_table : List ℕ
black_white_table = 1 ∷ 0 ∷ 0 ∷ 0 ∷ 0 ∷ (empties 6 ++ (3 ∷ 765 ∷ 765 ∷ 765 ∷ 585225 ∷ []))

unfoldable pub black_white_moments : List ℕ
black_white_moments = times 7 (1 ∷ 0 ∷ 0 ∷ 0 ∷ 0 ∷ []) ++ (4 ∷ 765 ∷ 765 ∷ 765 ∷ 585225 ∷ [])

-- "reds 0, 64, 255, other components 0"
unfoldable pub reds : List Batch
reds = plain (0 ∷ 0 ∷ 0 ∷ 64 ∷ 0 ∷ 0 ∷ 255 ∷ 0 ∷ 0 ∷ []) ∷ []

unfoldable pub reds_table : List ℕ
reds_table =
    (1 ∷ 0 ∷ 0 ∷ 0 ∷ 0 ∷ empties 3)
    ++ ((1 ∷ 64 ∷ 0 ∷ 0 ∷ 4096 ∷ empties 7)
    ++ (1 ∷ 255 ∷ 0 ∷ 0 ∷ 65025 ∷ empties 3))

unfoldable pub reds_moments : List ℕ
reds_moments =
    times 4 (1 ∷ 0 ∷ 0 ∷ 0 ∷ 0 ∷ []) ++ (times 8 (2 ∷ 64 ∷ 0 ∷ 0 ∷ 4096 ∷ []) ++ times 4 (3 ∷ 319 ∷ 0 ∷ 0 ∷ 69121 ∷ []))

-- (9, 9, 9) as often as a table can hold it
unfoldable pub full_cell : List ℕ
full_cell = 4294967295 ∷ 38654705655 ∷ 38654705655 ∷ 38654705655 ∷ 1043677052685 ∷ []

-- a size 1: nothing of a load or a cut is looked at, and nothing written
unfoldable pub size_one : ℕ → ℕ → ℕ → Case
size_one b1 b2 b3 =
    record {
      sizes = (b1, b2, b3);
      table = replicate 20 6;
      batches = black_white;
      k = 2;
      expected = refused_with 1 (load_gives 1 (replicate 20 6) ∷ []) nowhere 4;
    }

-- ---- the table
unfoldable pub cases : List Case
cases =
    -- P1 "grid 2,2,2; black weight 1, white weight 3; k=2: palette (0,0,0), (255,255,255), counts 1, 3; map bins 0..3
    -- are 0, 4..7 are 1"
    record {
      sizes = (2, 2, 2);
      table = empties 8;
      batches = black_white;
      k = 2;
      expected = done (load_gives 0 black_white_table ∷ []) (at 0 1 (fin true 585225 (pos 0)))
          (record {
            rounds = 1;
            boxes = box (0, 1) (0, 2) (0, 2) zero_of ∷ box (1, 2) (0, 2) (0, 2) zero_of ∷ [];
            work = black_white_moments;
            colours = 0 ∷ 0 ∷ 0 ∷ 255 ∷ 255 ∷ 255 ∷ [];
            counts = 1 ∷ 3 ∷ [];
            remainders = replicate 6 0;
            map = replicate 4 0 ++ replicate 4 1;
          });
    }
    -- P2 "the same, k=3: palette (255,255,255), (0,0,0), counts 3, 1"
    ∷ record {
      sizes = (2, 2, 2);
      table = empties 8;
      batches = black_white;
      k = 3;
      expected = done (load_gives 0 black_white_table ∷ []) (at 0 1 (fin true 585225 (pos 0)))
          (record {
            rounds = 2;
            boxes = box (1, 2) (0, 2) (0, 2) zero_of ∷ box (0, 1) (0, 2) (0, 2) zero_of ∷ [];
            work = black_white_moments;
            colours = 255 ∷ 255 ∷ 255 ∷ 0 ∷ 0 ∷ 0 ∷ [];
            counts = 3 ∷ 1 ∷ [];
            remainders = replicate 6 0;
            map = replicate 4 1 ++ replicate 4 0;
          });
    }
    -- P3 "grid 2,2,2; (10,20,30) once; k=4: one entry, that colour, count 1"
    ∷ record {
      sizes = (2, 2, 2);
      table = empties 8;
      batches = plain (10 ∷ 20 ∷ 30 ∷ []) ∷ [];
      k = 4;
      expected = done (load_gives 0 (1 ∷ 10 ∷ 20 ∷ 30 ∷ 1400 ∷ empties 7) ∷ []) nowhere
          (record {
            rounds = 2;
            boxes = box (0, 2) (0, 2) (0, 2) zero_of ∷ [];
            work = times 8 (1 ∷ 10 ∷ 20 ∷ 30 ∷ 1400 ∷ []);
            colours = 10 ∷ 20 ∷ 30 ∷ [];
            counts = 1 ∷ [];
            remainders = replicate 3 0;
            map = replicate 8 0;
          });
    }
    -- P4 "grid 2,2,2; (1,0,0) and (2,0,0); k=256: one entry (1,0,0), count 2"
    ∷ record {
      sizes = (2, 2, 2);
      table = empties 8;
      batches = plain (1 ∷ 0 ∷ 0 ∷ 2 ∷ 0 ∷ 0 ∷ []) ∷ [];
      k = 256;
      expected = done (load_gives 0 (2 ∷ 3 ∷ 0 ∷ 0 ∷ 5 ∷ empties 7) ∷ []) nowhere
          (record {
            rounds = 2;
            boxes = box (0, 2) (0, 2) (0, 2) zero_of ∷ [];
            work = times 8 (2 ∷ 3 ∷ 0 ∷ 0 ∷ 5 ∷ []);
            colours = 1 ∷ 0 ∷ 0 ∷ [];
            counts = 2 ∷ [];
            remainders = 1 ∷ 0 ∷ 0 ∷ [];
            map = replicate 8 0;
          });
    }
    -- P5 "grid 2,2,2; (0,0,0) and (0,128,128); the cut is in dimension 1 at bin 1"
    ∷ record {
      sizes = (2, 2, 2);
      table = empties 8;
      batches = plain (0 ∷ 0 ∷ 0 ∷ 0 ∷ 128 ∷ 128 ∷ []) ∷ [];
      k = 2;
      expected =
          done (load_gives 0 ((1 ∷ 0 ∷ 0 ∷ 0 ∷ 0 ∷ empties 2) ++ (1 ∷ 0 ∷ 128 ∷ 128 ∷ 32768 ∷ empties 4)) ∷ [])
          (at 1 1 (fin true 1 (pos 15)))
          (record {
            rounds = 1;
            boxes = box (0, 2) (0, 1) (0, 2) zero_of ∷ box (0, 2) (1, 2) (0, 2) zero_of ∷ [];
            work = times 2 (times 3 (1 ∷ 0 ∷ 0 ∷ 0 ∷ 0 ∷ []) ++ (2 ∷ 0 ∷ 128 ∷ 128 ∷ 32768 ∷ []));
            colours = 0 ∷ 0 ∷ 0 ∷ 0 ∷ 128 ∷ 128 ∷ [];
            counts = 1 ∷ 1 ∷ [];
            remainders = replicate 6 0;
            map = times 2 (0 ∷ 0 ∷ 1 ∷ 1 ∷ []);
          });
    }
    -- P6 "grid 4,4,4; (0,0,0) and (192,0,0); the cut is in dimension 0 at bin 1"
    ∷ record {
      sizes = (4, 4, 4);
      table = empties 64;
      batches = plain (0 ∷ 0 ∷ 0 ∷ 192 ∷ 0 ∷ 0 ∷ []) ∷ [];
      k = 2;
      expected =
          done (load_gives 0 ((1 ∷ 0 ∷ 0 ∷ 0 ∷ 0 ∷ empties 47) ++ (1 ∷ 192 ∷ 0 ∷ 0 ∷ 36864 ∷ empties 15)) ∷ [])
          (at 0 1 (fin true 9 (pos 12)))
          (record {
            rounds = 1;
            boxes = box (0, 1) (0, 4) (0, 4) zero_of ∷ box (1, 4) (0, 4) (0, 4) zero_of ∷ [];
            work = times 48 (1 ∷ 0 ∷ 0 ∷ 0 ∷ 0 ∷ []) ++ times 16 (2 ∷ 192 ∷ 0 ∷ 0 ∷ 36864 ∷ []);
            colours = 0 ∷ 0 ∷ 0 ∷ 192 ∷ 0 ∷ 0 ∷ [];
            counts = 1 ∷ 1 ∷ [];
            remainders = replicate 6 0;
            map = replicate 16 0 ++ replicate 48 1;
          });
    }
    -- P7 "grid 4,2,2; reds 0, 64, 255, other components 0; k=2: boxes r 0..2 and 2..4, spreads 2048 and 0"; 2048 is
    -- 1·2^11
    ∷ record {
      sizes = (4, 2, 2);
      table = empties 16;
      batches = reds;
      k = 2;
      expected = done (load_gives 0 reds_table ∷ []) (at 0 2 (fin true 67073 (pos 0)))
          (record {
            rounds = 1;
            boxes = box (0, 2) (0, 2) (0, 2) (fin false 1 (pos 11)) ∷ box (2, 4) (0, 2) (0, 2) zero_of ∷ [];
            work = reds_moments;
            colours = 32 ∷ 0 ∷ 0 ∷ 255 ∷ 0 ∷ 0 ∷ [];
            counts = 2 ∷ 1 ∷ [];
            remainders = replicate 6 0;
            map = replicate 8 0 ++ replicate 8 1;
          });
    }
    -- P8 "the same, k=3: palette (255,0,0), (0,0,0), (64,0,0), counts 1, 1, 1; map 1,1,1,1,2,2,2,2, then eight 0"
    ∷ record {
      sizes = (4, 2, 2);
      table = empties 16;
      batches = reds;
      k = 3;
      expected = done (load_gives 0 reds_table ∷ []) (at 0 2 (fin true 67073 (pos 0)))
          (record {
            rounds = 2;
            boxes = box (2, 4) (0, 2) (0, 2) zero_of ∷ box (0, 1) (0, 2) (0, 2) zero_of ∷ box (1, 2) (0, 2) (0, 2) zero_of
                ∷ [];
            work = reds_moments;
            colours = 255 ∷ 0 ∷ 0 ∷ 0 ∷ 0 ∷ 0 ∷ 64 ∷ 0 ∷ 0 ∷ [];
            counts = 1 ∷ 1 ∷ 1 ∷ [];
            remainders = replicate 9 0;
            map = replicate 4 1 ++ (replicate 4 2 ++ replicate 8 0);
          });
    }
    -- P9 "one colour with weight 4,294,967,295 loads; one more of weight 1 gives 7"; and with k=1 the start stays, at
    -- infinity
    ∷ record {
      sizes = (2, 2, 2);
      table = empties 8;
      batches = weighted (9 ∷ 9 ∷ 9 ∷ []) (4294967295 ∷ []) ∷ weighted (9 ∷ 9 ∷ 9 ∷ []) (1 ∷ []) ∷ [];
      k = 1;
      expected = done (load_gives 0 (full_cell ++ empties 7) ∷ load_gives 7 (full_cell ++ empties 7) ∷ []) nowhere
          (record {
            rounds = 0;
            boxes = box (0, 2) (0, 2) (0, 2) (inf false) ∷ [];
            work = times 8 full_cell;
            colours = 9 ∷ 9 ∷ 9 ∷ [];
            counts = 4294967295 ∷ [];
            remainders = replicate 3 0;
            map = replicate 8 0;
          });
    }
    -- P10 "total 0 gives 8"
    ∷ record {
      sizes = (2, 2, 2);
      table = empties 8;
      batches = [];
      k = 2;
      expected = refused_with 8 [] nowhere 8;
    }
    -- "k=0 and k=257 give 2"
    ∷ record {
      sizes = (2, 2, 2);
      table = empties 8;
      batches = black_white;
      k = 0;
      expected = refused_with 2 (load_gives 0 black_white_table ∷ []) (at 0 1 (fin true 585225 (pos 0))) 8;
    }
    ∷ record {
      sizes = (2, 2, 2);
      table = empties 8;
      batches = black_white;
      k = 257;
      expected = refused_with 2 (load_gives 0 black_white_table ∷ []) (at 0 1 (fin true 585225 (pos 0))) 8;
    }
    -- "size 1 gives 1"
    ∷ size_one 1 2 2
    ∷ size_one 2 1 2
    ∷ size_one 2 2 1
    ∷ []
