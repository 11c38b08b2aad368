-- `band::look_up::LookUp::index_at` meets its contract: the index of the colour that stands there.
-- Assumes nothing.
use mathlib.Core.Path.{ap, ◌∙◌}
use lib.ListN.{get_or}
use Rattle.pixels.specs.declared.colour.Rgb.{Rgb}
use Rattle.grid.specs.Grid.{colour_place}
use Rattle.band.specs.Band.{index_at}
use Rattle.band.proofs.look_up.LookUp.index_at.Goals as goal

pub returns : goal.returns
unfolding index_at
returns c =
    let a = c.args in
    c.index_of.ensures ∙ ap (λ (x : Rgb). get_or a.self.now.map.now (colour_place a.self.now.g x) 0) c.colour.ensures
