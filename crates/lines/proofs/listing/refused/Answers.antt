-- `lines::listing::refused` meets its contract: its two parts one behind the other, each with its room.
-- Assumes nothing.
use borrow.Author.Rules.{rules}
use native.Mathlib.Omega.{arith}
use Rattle.std.proofs.Common.{refl}
use Rattle.lines.specs.Text.{refused_of, refused_word, newline}
use Rattle.lines.proofs.Writing.{writes_more, writes_whole}
use Rattle.lines.proofs.listing.refused.Goals as goal

pub returns : goal.returns
unfolding refused_of refused_word newline
returns c =
    let both = writes_whole refl (writes_more c.named.ensures c.byte.ensures) (omega (arith, c.requires)) in search rules
