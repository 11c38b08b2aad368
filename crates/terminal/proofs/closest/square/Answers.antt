-- `terminal::closest::square` meets its contract: a square of at most 255 * 255.
-- Assumes nothing.
use Rattle.std.proofs.Common.{◌*◌, ◌∙◌, arith}
use Rattle.terminal.specs.Nearest.{square_of}
use Rattle.terminal.proofs.Laws.{square_bound}
use Rattle.terminal.proofs.closest.square.Goals as goal

pub overflow_mul-by : goal.overflow_mul-by
overflow_mul-by c = omega (arith, square_bound c.difference-by.result c.difference-by.ensures.1)

pub returns : goal.returns
unfolding square_of
returns c = (
  c.from.ensures ∙ (λ i. c.difference-by.ensures.0 i * c.difference-by.ensures.0 i),
  omega (arith, c.from.ensures, square_bound c.difference-by.result c.difference-by.ensures.1),
)
