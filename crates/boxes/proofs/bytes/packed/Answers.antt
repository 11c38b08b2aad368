-- `boxes::bytes::packed` meets its contract: byte by byte.
-- Assumes nothing.
use native.Mathlib.Omega.{arith}
use Rattle.boxes.specs.Bytes.{pack_of}
use Rattle.boxes.proofs.bytes.packed.Goals as goal

pub returns : goal.returns
unfolding pack_of
returns c = omega (arith, c.from_le_bytes.ensures)
