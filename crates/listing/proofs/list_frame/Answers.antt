-- The pixels of an image start within the bytes that its header was read from.
use Rattle.std.proofs.Common.{sym, arith}
use lib.Seq.{length-take-le}
use Rattle.ppm.proofs.Calls.{in_file}
use Rattle.listing.proofs.list_frame.Goals as goal

pub to_front-there-requires : goal.to_front-there-requires
to_front-there-requires c =
    let fits = c.fill-read.ensures.fits.1 in
    (omega (arith, (in_file _ (sym c.in-Image.ensures)).starts, fits, length-take-le c.fill-read.new.filled c.fill-read.new.space fits), fits)
