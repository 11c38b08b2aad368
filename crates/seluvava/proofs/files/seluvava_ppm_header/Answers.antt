-- `seluvava::files::seluvava_ppm_header` meets its contract: each case of the header with its values.
-- Assumes nothing.
use mathlib.Core.Path.{refl, sym, ◌∙◌}
use Rattle.ppm.specs.Header.{header_answer}
use Rattle.seluvava.specs.Files.{ppm_answer, ppm_header}
use Rattle.seluvava.proofs.files.seluvava_ppm_header.Goals as goal

pub returns-in-Image : goal.returns-in-Image
unfolding ppm_header ppm_answer header_answer
returns-in-Image c = rw (sym c.read_header.ensures ∙ c.in-Image.is) refl

pub returns-in-Maximum : goal.returns-in-Maximum
unfolding ppm_header ppm_answer header_answer
returns-in-Maximum c = rw (sym c.read_header.ensures ∙ c.in-Maximum.is) c.refused.ensures

pub returns-in-Malformed : goal.returns-in-Malformed
unfolding ppm_header ppm_answer header_answer
returns-in-Malformed c = rw (sym c.read_header.ensures ∙ c.in-Malformed.is) c.refused-in-Malformed.ensures
