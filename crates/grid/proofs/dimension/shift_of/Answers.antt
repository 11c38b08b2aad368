-- `grid::dimension::shift_of` meets its contract: each arm is one of the seven choices, and what no arm takes is none
-- of them.
-- Assumes nothing.
use mathlib.Core.Path.{refl}
use borrow.Author.Tests.{ne_eqb}
use Rattle.grid.specs.Size.{shift_of, shift_in, choices}
use Rattle.grid.proofs.dimension.shift_of.Goals as goal

pub returns-in-2 : goal.returns-in-2
unfolding shift_of shift_in choices
returns-in-2 c = rw c.in-2.is refl

pub returns-in-4 : goal.returns-in-4
unfolding shift_of shift_in choices
returns-in-4 c = rw c.in-4.is refl

pub returns-in-8 : goal.returns-in-8
unfolding shift_of shift_in choices
returns-in-8 c = rw c.in-8.is refl

pub returns-in-16 : goal.returns-in-16
unfolding shift_of shift_in choices
returns-in-16 c = rw c.in-16.is refl

pub returns-in-32 : goal.returns-in-32
unfolding shift_of shift_in choices
returns-in-32 c = rw c.in-32.is refl

pub returns-in-64 : goal.returns-in-64
unfolding shift_of shift_in choices
returns-in-64 c = rw c.in-64.is refl

pub returns-in-128 : goal.returns-in-128
unfolding shift_of shift_in choices
returns-in-128 c = rw c.in-128.is refl

pub returns-in_default : goal.returns-in_default
unfolding shift_of shift_in choices
returns-in_default c =
    simp (
      ne_eqb _ 2 c.in_default.in_default-own.rest.0.0.0.0.0.0.1,
      ne_eqb _ 4 c.in_default.in_default-own.rest.0.0.0.0.0.1,
      ne_eqb _ 8 c.in_default.in_default-own.rest.0.0.0.0.1,
      ne_eqb _ 16 c.in_default.in_default-own.rest.0.0.0.1,
      ne_eqb _ 32 c.in_default.in_default-own.rest.0.0.1,
      ne_eqb _ 64 c.in_default.in_default-own.rest.0.1,
      ne_eqb _ 128 c.in_default.in_default-own.rest.1,
    )
