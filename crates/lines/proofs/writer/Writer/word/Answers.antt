-- `lines::writer::Writer::word` meets its contract: the bytes are copied to the place.
-- Assumes nothing.
use mathlib.Core.Path.{◌≡◌, refl}
use mathlib.Core.List.{List, append_assoc}
use Prim.Native.Nat.{ℕ, ◌+◌, ◌≤◌}
use native.Mathlib.Omega.{arith}
use borrow.Rule.Slice.PartMut.{put_mid}
use lib.ListN.{length}
use Rattle.std.proofs.lemmas.List.{drop-drop}
use Rattle.std.proofs.lemmas.Grind.{common_steps}
use lib.Seq.{sets, sets-eq, length-sets}
use Rattle.lines.proofs.writer.Writer.word.Goals as goal

-- the bytes at the place, in whatever way they came there
copied : (at n : ℕ) (a bytes : List ℕ) → n ≡ length bytes → at + length bytes ≤ length a
    → put_mid at n a bytes ≡ sets a at bytes
copied at n a bytes long room = rw (long, sets-eq bytes a at room, drop-drop, append_assoc) refl

pub returns : goal.returns
returns c =
    record {
      same = grind arith;
      put = record { later = grind (arith, common_steps, copied); ends = omega arith };
      long = grind (arith, copied, length-sets);
      fits = omega arith;
    }
