-- `table::sound::lies_between` meets its contract: up to the narrow limit the two parts of one product are both bounds.
-- Assumes nothing.
use Rattle.std.proofs.Common.{ℕ, ◌+◌, ◌%◌, ◌^◌, ◌≤◌, leb, sym, ap, ◌∙◌, arith, lit≤}
use Rattle.table.proofs.Packed.{wider, far_between, both_fit, low_part, width_part}
use Rattle.table.proofs.sound.lies_between.Goals as goal

pub overflow_mul-both : goal.overflow_mul-both
overflow_mul-both c =
    let s = c in omega (arith, both_fit s.args.n s.args.span s.requires.0 (omega (arith, c.if-n-le-NARROW_LIMIT.true)))

pub returns-then-n-le-NARROW_LIMIT : goal.returns-then-n-le-NARROW_LIMIT
returns-then-n-le-NARROW_LIMIT c =
    let s = c in
    let n = s.args.n in
    let span = s.args.span in
    let light : n ≤ 16843008 = omega (arith, c.if-n-le-NARROW_LIMIT.true) in
    ap (λ (k : ℕ). leb c.wrapping_sub_u64.result k) (width_part n span s.requires.0 light)
    ∙ far_between n span (wider (lit≤ tt) s.requires.0) s.requires.1 (omega arith)
    (ap (λ (k : ℕ). (c.wrapping_sub_u64.result + k) % 2 ^ 64) (sym (low_part n span s.requires.0 light))
    ∙ c.wrapping_sub_u64.ensures.value)

pub lies_far_between-requires : goal.lies_far_between-requires
lies_far_between-requires c = let p = c.requires in (wider (lit≤ tt) p.0, p.1)

pub returns : goal.returns
returns c = c.lies_far_between.ensures
