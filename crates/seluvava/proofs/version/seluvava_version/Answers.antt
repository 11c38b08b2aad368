-- `seluvava::version::seluvava_version` meets its contract: both sides compute to the same number.
-- Assumes nothing.
use mathlib.Core.Path.{refl}
use Rattle.seluvava.specs.Version.{version_of, version_number}
use Rattle.seluvava.proofs.version.seluvava_version.Goals as goal

pub returns : goal.returns
unfolding version_of version_number
returns c = refl
