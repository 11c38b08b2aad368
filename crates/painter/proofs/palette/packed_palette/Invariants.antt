-- `painter::palette::packed_palette` meets its contract: after i colours the first i are packed.
-- Assumes nothing.
use Rattle.std.proofs.Common.{◌≡◌, length}
use Rattle.painter.proofs.Packing.{PackedTo}
use Rattle.painter.proofs.palette.packed_palette.Given as goal

abbrev pub invariant-loop-i : goal.invariant-loop-i
invariant-loop-i l = (length l.out ≡ 256) × PackedTo l.palette l.out l.i
