-- What the crate's own functions are told of a replay: entries on an accepted grid. Definitions only.
use Rattle.std.specs.Prelude.{List, ℕ, Result, Ok, Err}
use Rattle.basics.specs.declared.refusal.Refusal.{Refusal}
use Rattle.basics.specs.Refusal.{number_of}
use Rattle.grid.specs.declared.place.Grid.{Grid}
use Rattle.table.specs.Table.{Table}
use Rattle.recorder.specs.declared.session.Session.{Session}
use Rattle.recorder.specs.declared.session.SessionAnswer.{SessionAnswer}
use Rattle.recorder.specs.Replay.{Entry, Standing, entry_number, entry_later, stands_after, answers_to}

abbrev pub stand : Session → Table → Standing
stand s t = record { session = s; table = t }

abbrev pub entry : ℕ → ℕ → List ℕ → List ℕ → Entry
entry kind interval colours weights =
    record { kind = kind; interval = interval; colours = colours; weights = weights }

-- an accepted grid is that of its sizes
abbrev pub number_on : Grid → Standing → Entry → ℕ
number_on g = entry_number g.size1 g.size2 g.size3

abbrev pub later_on : Grid → Standing → Entry → Standing
later_on g = entry_later g.size1 g.size2 g.size3

abbrev pub stands_on : Grid → Standing → List Entry → Standing
stands_on g = stands_after g.size1 g.size2 g.size3

abbrev pub answers_on : Grid → Standing → List Entry → List ℕ
answers_on g = answers_to g.size1 g.size2 g.size3

-- what a replay hands back: "a refusal replays nothing and answers interval 0"
abbrev pub told : Result Session Refusal → SessionAnswer
told (Ok s) = record { number = 0; session = s }
told (Err r) = record { number = number_of r; session = record { interval = 0 } }
