-- How a comparison ends: which record it hands back and what it leaves, case by case.
-- Assumes nothing.
use Rattle.std.specs.Prelude.{None, Some}
use mathlib.Core.Path.{◌≡◌, refl, ap, ◌∙◌}
use mathlib.Core.Bool.{true, false}
use mathlib.Core.List.{List}
use Prim.Native.Nat.{ℕ}
use borrow.Author.Tests.{eq-eqb, ne_eqb}
use lib.IntN.{ℤ}
use lib.ListN.{length}
use Rattle.grid.specs.declared.place.Grid.{Grid}
use Rattle.basics.specs.Answer.{refuse, when_done}
use Rattle.grid.specs.Grid.{grid_of, bins_of}
use Rattle.grid.proofs.Ends.{grid_refused, ends}
use Rattle.table.specs.Cell.{View}
use Rattle.table.specs.Table.{Table, table_len, Sized, view_of}
use Rattle.table.specs.Sound.{limit, sound}
use Rattle.table.proofs.Tables.{sized_test, not_sized_test}
use Rattle.compare.specs.declared.call.Compared.{Compared}
use Rattle.compare.specs.Compare.{differing, first_differing, differences_of, compare_number_on, all_sized, compare_on}
use Rattle.compare.specs.Compare.{compare_number, compared, compare_record, compare_later}

-- what a refusal hands back
abbrev pub refusal : ℕ → Compared
refusal n = record { number = n; differ = 0; first = 0 }

module _ (b1 b2 b3 : ℕ) (t s : Table) (l : List ℤ) where
  abbrev pub Ends : Compared → List ℤ → Type 0
  Ends r x = (r ≡ compare_record b1 b2 b3 t s l) × (x ≡ compare_later b1 b2 b3 t s l)

  -- what comes of the tables on a grid
  abbrev pub on : {A : Type 0} → (ℕ → View → View → A) → Grid → A
  on f g = f (bins_of g) (view_of t) (view_of s)

  pub no_grid_lem : grid_of b1 b2 b3 ≡ None → Ends (refusal 1) l
  unfolding compare_record compare_later compare_number compared
  no_grid_lem e =
      let d = grid_refused (grid_of b1 b2 b3) (compare_on t s l) (on differing) 0 e in
      let f = grid_refused (grid_of b1 b2 b3) (compare_on t s l) (on first_differing) 0 e in
      let w = grid_refused (grid_of b1 b2 b3) (compare_on t s l) (on differences_of) l e in
      ((λ i. record { number = d.0 i; differ = d.1 i; first = f.1 i }), w.1)

  module _ {g : Grid} (e : grid_of b1 b2 b3 ≡ Some g) where
    ends_with : {n : ℕ} → compare_on t s l g ≡ n → {r : Compared} → r.number ≡ n
        → r.differ ≡ when_done n (on differing g) 0 → r.first ≡ when_done n (on first_differing g) 0
        → {x : List ℤ} → x ≡ when_done n (on differences_of g) l → Ends r x
    unfolding compare_record compare_later compare_number compared
    ends_with q {r} m p o y =
        let d = ends (grid_of b1 b2 b3) (compare_on t s l) (on differing) 0 e q p in
        let f = ends (grid_of b1 b2 b3) (compare_on t s l) (on first_differing) 0 e q o in
        let w = ends (grid_of b1 b2 b3) (compare_on t s l) (on differences_of) l e q y in
        ((λ i. record { number = (m ∙ d.0) i; differ = d.1 i; first = f.1 i }), w.1)

    pub first_length : (Sized t (bins_of g) → ⊥) → Ends (refusal 5) l
    unfolding compare_on compare_number_on all_sized refuse when_done
    first_length n = ends_with (simp (not_sized_test n)) refl refl refl refl

    module _ (h : Sized t (bins_of g)) where
      pub second_length : (Sized s (bins_of g) → ⊥) → Ends (refusal 5) l
      unfolding compare_on compare_number_on all_sized refuse when_done
      second_length n = ends_with (simp (sized_test h, not_sized_test n)) refl refl refl refl

      module _ (k : Sized s (bins_of g)) where
        pub list_length : (length l ≡ table_len (bins_of g) → ⊥) → Ends (refusal 5) l
        unfolding compare_on compare_number_on all_sized refuse when_done
        list_length n = ends_with (simp (sized_test h, sized_test k, ne_eqb _ _ n)) refl refl refl refl

        module _ (m : length l ≡ table_len (bins_of g)) where
          pub first_unsound : sound limit g (view_of t) ≡ false → Ends (refusal 6) l
          unfolding compare_on compare_number_on all_sized refuse when_done
          first_unsound u = ends_with (simp (sized_test h, sized_test k, eq-eqb _ _ m, u)) refl refl refl refl

          module _ (v : sound limit g (view_of t) ≡ true) where
            pub second_unsound : sound limit g (view_of s) ≡ false → Ends (refusal 6) l
            unfolding compare_on compare_number_on all_sized refuse when_done
            second_unsound u = ends_with (simp (sized_test h, sized_test k, eq-eqb _ _ m, v, u)) refl refl refl refl

            pub all_done : sound limit g (view_of s) ≡ true → {r : Compared}
                → r ≡ record { number = 0; differ = on differing g; first = on first_differing g }
                → {x : List ℤ} → x ≡ on differences_of g → Ends r x
            unfolding compare_on compare_number_on all_sized refuse when_done
            all_done w r x =
                ends_with (simp (sized_test h, sized_test k, eq-eqb _ _ m, v, w)) (ap (λ (c : Compared). c.number) r)
                (ap (λ (c : Compared). c.differ) r) (ap (λ (c : Compared). c.first) r) x
