-- Sessions (Rules, Record; Rules, Answers). Definitions only.
use Rattle.std.specs.Prelude.{Bool, not, ◌&&◌, ℕ, leb}
use Rattle.basics.specs.Answer.{refuse, when_done}
use Rattle.recorder.specs.declared.session.Session.{Session}
use Rattle.recorder.specs.declared.session.SessionAnswer.{SessionAnswer}

-- "An interval is a whole number from 1 to 4,096"
unfoldable pub is_interval : ℕ → Bool
is_interval i = leb 1 i && leb i 4096

-- the answer that an interval calls for
unfoldable pub interval_number : ℕ → ℕ
interval_number i = refuse (not (is_interval i)) 13 0

-- "A reload sets the interval in force; refused, it leaves the old one."
unfoldable pub reloaded : Session → ℕ → SessionAnswer
reloaded s i =
    record {
      number = interval_number i;
      session = record { interval = when_done (interval_number i) i s.interval };
    }

-- "A session begins with an interval; refused, it has interval 0."
unfoldable pub begun : ℕ → SessionAnswer
begun i = reloaded (record { interval = 0 }) i
