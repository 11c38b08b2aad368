-- What a caller sees of a table that was lent in a layout, and of what is of any type. Definitions only.
use Rattle.std.specs.Prelude.{List, [], ℕ}
use contract.Lifetimes.{Lfts}
use denote.RattleType.{RattleType}
use denote.Param.Laws.{Laws, IsCopy}
use mir.Syntax.{Dict}
use denote.Triple.Clauses.{AtExit}
use borrow.Fn.Kinds.{ParamKind, ResultKind, res_t, ended_of, Out}
use Rattle.std.specs.declared.clone.Clone.{Ghosts as Clones}
use Rattle.table.specs.declared.layout.Layout.{Ghosts}
use Rattle.basics.specs.Determines.{Determines}
use Rattle.table.specs.Layouts.{Layout}
use Rattle.table.specs.Layouts.{Wide, Narrow}
use Rattle.table.specs.Layout.{TableIn, laid}

-- the lists that a table is in: of a wide one the large list alone, since a small one is no part of it
abbrev pub lists_in : (l : Layout) → TableIn l → List ℕ × List ℕ
lists_in Wide t = ([], t)
lists_in Narrow t = (t.sums, t.squares)

abbrev pub lent_lists : Layout → List ℕ → List ℕ → List ℕ × List ℕ
lent_lists l small large = lists_in l (laid l small large)

-- a contract determines what its caller sees in each layout: at each type that is one, whatever else it brings
abbrev pub DeterminesIn : {A : Type 0} (n : ℕ) (ps : (T : RattleType) → Laws T → List (ParamKind n))
    (r : (T : RattleType) → Laws T → ResultKind n)
    → ((T : RattleType) (laws : Laws T) → Ghosts T.Denot → Dict → Out n (ps T laws) (r T laws))
    → ((T : RattleType) (laws : Laws T) → Layout → (κs : Lfts n) → (res_t (r T laws) κs).Denot
    → AtExit (ended_of n (ps T laws) (r T laws)) κs → A) → Type 2
DeterminesIn n ps r allowed seen =
    (T : RattleType) (laws : Laws T) (l : Ghosts T.Denot) (d : Dict)
    → Determines n (ps T laws) (r T laws) (allowed T laws l d) (seen T laws l.layout)

-- the same at each type that can be copied
abbrev pub DeterminesOf : {A : RattleType → Type 0} (n : ℕ)
    (ps : (T : RattleType) (laws : Laws T) → IsCopy T → List (ParamKind n))
    (r : (T : RattleType) (laws : Laws T) → IsCopy T → ResultKind n)
    → ((T : RattleType) (laws : Laws T) (copy : IsCopy T) → Clones T.Denot → Dict → Out n (ps T laws copy) (r T laws copy))
    → ((T : RattleType) (laws : Laws T) (copy : IsCopy T) (κs : Lfts n) → (res_t (r T laws copy) κs).Denot
    → AtExit (ended_of n (ps T laws copy) (r T laws copy)) κs → A T) → Type 2
DeterminesOf n ps r allowed seen =
    (T : RattleType) (laws : Laws T) (copy : IsCopy T) (clone : Clones T.Denot) (d : Dict)
    → Determines n (ps T laws copy) (r T laws copy) (allowed T laws copy clone d) (seen T laws copy)
