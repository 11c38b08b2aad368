-- `recorder::session::begin` meets its contract: it reloads where nothing is in force.
-- Assumes nothing.
use Rattle.recorder.specs.Session.{begun}
use Rattle.recorder.proofs.session.begin.Goals as goal

pub returns : goal.returns
unfolding begun
returns c = c.reload.ensures
