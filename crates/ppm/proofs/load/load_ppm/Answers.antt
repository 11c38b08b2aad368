-- `ppm::load::load_ppm` meets its contract: what the header says, and then the pixels.
-- Assumes nothing.
use mathlib.Core.Path.{sym, ◌∙◌}
use Rattle.ppm.proofs.Calls.{in_file, malformed, other_maximum, image}
use Rattle.ppm.proofs.load.load_ppm.Goals as goal

pub load_frame-requires : goal.load_frame-requires
load_frame-requires c = in_file _ (sym c.read_header.ensures ∙ c.in-Image.is)

pub returns-in-Image : goal.returns-in-Image
returns-in-Image c =
    let k = c in
    let a = c.args in let both = image a.b1 a.b2 a.b3 a.table.now a.file.now
    (sym k.read_header.ensures ∙ k.in-Image.is)
    k.load_frame.ensures.number k.load_frame.ensures.later in record { number = both.0; later = both.1 }

pub returns-in-Maximum : goal.returns-in-Maximum
returns-in-Maximum c =
    let a = c.args in let both = other_maximum a.b1 a.b2 a.b3 a.table.now a.file.now
    (sym c.read_header.ensures ∙ c.in-Maximum.is) in record { number = both.0; later = both.1 }

pub returns-in-Malformed : goal.returns-in-Malformed
returns-in-Malformed c =
    let a = c.args in let both = malformed a.b1 a.b2 a.b3 a.table.now a.file.now
    (sym c.read_header.ensures ∙ c.in-Malformed.is) in record { number = both.0; later = both.1 }
