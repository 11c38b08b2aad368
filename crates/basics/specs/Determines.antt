-- What it is that a contract determines what its caller sees. Definitions only.
use Rattle.std.specs.Prelude.{◌≡◌, List, ℕ}
use contract.Lifetimes.{Lfts}
use denote.Triple.Clauses.{AtExit}
use borrow.Fn.Kinds.{ParamKind, ResultKind, Dens, res_t, ended_of, Out}

-- "any two results allowed by its statement are equal": whatever the arguments, what the contract allows as result and
-- as the parameters at exit is the same in what `seen` takes of it, which is the result and each later content of what
-- may be written
abbrev pub Determines : {A : Type 0} (n : ℕ) (ps : List (ParamKind n)) (r : ResultKind n) → Out n ps r
    → ((κs : Lfts n) → (res_t r κs).Denot → AtExit (ended_of n ps r) κs → A) → Type 0
Determines n ps r allowed seen =
    (κs : Lfts n) (a : Dens κs ps) (x y : (res_t r κs).Denot) (e f : AtExit (ended_of n ps r) κs)
    → allowed κs a x e → allowed κs a y f → seen κs x e ≡ seen κs y f
