-- A batch that says its interval (Rules, Record; Rules, Answers). Definitions only.
use Rattle.std.specs.Prelude.{Bool, true, not, List, ℕ, ◌/◌, eqb, length}
use Rattle.basics.specs.Answer.{refuse, when_done}
use Rattle.table.specs.Table.{Table}
use Rattle.adder.specs.Batch.{scaled_weights}
use Rattle.loader.specs.Load.{load_number, load_later}
use Rattle.recorder.specs.declared.session.Session.{Session}
use Rattle.recorder.specs.Session.{is_interval}

-- an interval "out of range is 13, one that is not in force is 14", before all else
unfoldable pub in_force : Session → ℕ → ℕ → ℕ
in_force s i rest = refuse (not (is_interval i)) 13 (refuse (not (eqb i s.interval)) 14 rest)

-- the answer to a batch: then a load's, "each weight multiplied by the interval"
unfoldable pub batch_number : Session → ℕ → ℕ → ℕ → ℕ → Table → List ℕ → Bool → List ℕ → ℕ
batch_number s i b1 b2 b3 t colours weighted weights =
    in_force s i (load_number b1 b2 b3 t colours true (scaled_weights i (length colours / 3) weighted weights))

-- the table after it
unfoldable pub batch_later : Session → ℕ → ℕ → ℕ → ℕ → Table → List ℕ → Bool → List ℕ → Table
batch_later s i b1 b2 b3 t colours weighted weights =
    when_done (in_force s i 0)
    (load_later b1 b2 b3 t colours true (scaled_weights i (length colours / 3) weighted weights))
    t
