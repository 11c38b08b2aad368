-- `band::look_up::LookUp::of` meets its contract: the steps are those of the grid's first two dimensions.
-- Assumes nothing.
use Rattle.band.proofs.look_up.LookUp.of.Goals as goal

pub invariant_of-result : goal.invariant_of-result
invariant_of-result c =
    record { ready = record { of_grid = c.requires; one = c.steps.ensures; two = c.steps-2.ensures } }
