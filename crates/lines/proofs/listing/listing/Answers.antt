-- `lines::listing::listing` meets its contract: after each turn the first line and the lines so far are put.
-- Assumes nothing.
use borrow.Author.Rules.{rules}
use native.Mathlib.Omega.{arith}
use native.Mathlib.Numerals.{add-one}
use Rattle.std.proofs.Common.{◌≡◌, refl}
use Rattle.lines.specs.Text.{lines_of, listing_of}
use Rattle.lines.proofs.Writing.{writes_none, writes_more, writes_within, writes_whole}
use Rattle.lines.proofs.listing.listing.Goals as goal

pub loop-i-init : goal.loop-i-init
unfolding lines_of
loop-i-init c = writes_none

pub box_line-requires : goal.box_line-requires
box_line-requires c =
    let l = c.loop-i.invariant in
    let lent = c.requires in
    record { room = omega (arith, l.fits, l.long, c.head.ensures.fits, c.head.ensures.long, lent.room, c.loop-i-test.true); there = (omega (arith, lent.few), omega (arith, lent.few)) }

pub loop-i-preserved : goal.loop-i-preserved
unfolding lines_of
loop-i-preserved c =
    rw (add-one c.loop-i.i) (writes_within _ (omega arith) (writes_more c.loop-i.invariant c.box_line.ensures))

pub returns : goal.returns
unfolding listing_of
returns c =
    let turns : c.loop-i.i ≡ c.args.found.now.boxes = omega arith in
    let all = rw (c.total-total.ensures, turns) at (writes_more c.head.ensures c.loop-i.invariant) in
    let both = writes_whole refl all (omega (arith, c.requires.room)) in search rules
