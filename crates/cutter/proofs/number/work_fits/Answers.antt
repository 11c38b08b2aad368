-- `cutter::number::work_fits` meets its contract: each source asks for its own.
-- Assumes nothing.
use Rattle.cutter.specs.Cut.{work_fits}
use Rattle.cutter.proofs.number.work_fits.Goals as goal

pub returns-in-Moments : goal.returns-in-Moments
unfolding work_fits
returns-in-Moments c = cc

pub returns-in-Bins : goal.returns-in-Bins
unfolding work_fits
returns-in-Bins c = cc
