-- `inputs::frames::frame_number` meets its contract, case by case.
-- Assumes nothing.
use mathlib.Core.Path.{◌∙◌}
use native.Mathlib.Omega.{arith}
use Rattle.inputs.proofs.Answers.{few, is_malformed, is_maximum, is_other, is_whole}
use Rattle.inputs.proofs.frames.frame_number.Goals as goal

pub overflow_mul-pixels : goal.overflow_mul-pixels
overflow_mul-pixels c = omega (arith, few c.requires c.in-Image.is)

pub overflow_mul-pixels-in-Image : goal.overflow_mul-pixels-in-Image
overflow_mul-pixels-in-Image c = omega (arith, few c.requires c.in-Image.is)

pub returns-then-bytes-pixels : goal.returns-then-bytes-pixels
returns-then-bytes-pixels c = is_whole c.args.bytes c.args.lowest c.in-Image.is c.if-bytes-pixels.true

pub returns-else-bytes-pixels : goal.returns-else-bytes-pixels
returns-else-bytes-pixels c =
    c.number.ensures ∙ is_other c.args.bytes c.args.lowest c.in-Image.is c.if-bytes-pixels.false

pub returns-in-Maximum : goal.returns-in-Maximum
returns-in-Maximum c = c.number-in-Maximum.ensures ∙ is_maximum c.args.bytes c.args.lowest c.in-Maximum.is

pub returns-in-Malformed : goal.returns-in-Malformed
returns-in-Malformed c = c.number-in-Malformed.ensures ∙ is_malformed c.args.bytes c.args.lowest c.in-Malformed.is
