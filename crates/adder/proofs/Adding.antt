-- What a caller of add_batch may use without seeing inside its definitions: what its answer means, and that the table
-- is known after it.
-- Assumes nothing.
use Rattle.std.specs.Prelude.{None, Some}
use mathlib.Core.Path.{◌≡◌, refl, sym, ap, subst, ◌∙◌}
use mathlib.Core.Bool.{Bool, true, false, cond}
use mathlib.Core.List.{List}
use Prim.Native.Nat.{ℕ, ◌+◌, ◌≤◌, ◌<◌}
use native.Mathlib.Omega.{arith}
use borrow.Author.Tests.{le-leb, lt-leb, leb-true, leb-false}
use lib.Dec.{leb}
use Rattle.grid.specs.declared.place.Grid.{Grid}
use Rattle.grid.specs.Grid.{bins_of}
use Rattle.table.specs.Layouts.{Layout}
use Rattle.table.specs.Layout.{TableIn, view_in, written_in}
use Rattle.table.proofs.Layouts.{list_holds_in}
use Rattle.adder.specs.Batch.{Weighted, weight_of, loaded}
use Rattle.adder.specs.Add.{KnownIn, added_to, added_later_in}
use Rattle.adder.specs.Inner.{held_to}
use Rattle.adder.proofs.Loading.{AllBytes, held_sound, held_total}

-- ---- the two cases
cond_total : (b : Bool) (x y : ℕ) → cond b (Some x) None ≡ Some y → (b ≡ true) × (y ≡ x)
cond_total true x y e = (refl, (cc))
cond_total false x y e = absurd (never e)
  where
    never : None ≡ Some y → ⊥
    never q = let z : ◌≡◌ {A = ℕ} 0 1 = cc in omega arith

cond_passed : (b : Bool) (x : ℕ) → cond b (Some x) None ≡ None → b ≡ false
cond_passed true x e = absurd (never e)
  where
    never : Some x ≡ None → ⊥
    never q = let z : ◌≡◌ {A = ℕ} 0 1 = cc in omega arith
cond_passed false x e = refl

module _ (most had : ℕ) (cs : List Weighted) where
  -- where the total fits, and where it does not
  pub added_fits : had + weight_of cs ≤ most → added_to most had cs ≡ Some (had + weight_of cs)
  unfolding added_to
  added_fits h = ap (λ (b : Bool). cond b (Some (had + weight_of cs)) None) (le-leb (had + weight_of cs) most h)

  pub added_passes : most < had + weight_of cs → added_to most had cs ≡ None
  unfolding added_to
  added_passes h = ap (λ (b : Bool). cond b (Some (had + weight_of cs)) None) (lt-leb (had + weight_of cs) most h)

  -- it is the total held to the limit
  pub held_added : held_to most (had + weight_of cs) ≡ added_to most had cs
  unfolding added_to held_to
  held_added = refl

  -- and the other way round
  pub total_means : {n : ℕ} → added_to most had cs ≡ Some n → (had + weight_of cs ≤ most) × (n ≡ had + weight_of cs)
  unfolding added_to
  total_means {n} e =
      let c = cond_total (leb (had + weight_of cs) most) (had + weight_of cs) n e in
      (leb-true (had + weight_of cs) most c.0, c.1)

  pub passed_means : added_to most had cs ≡ None → most < had + weight_of cs
  unfolding added_to
  passed_means e =
      leb-false (had + weight_of cs) most (cond_passed (leb (had + weight_of cs) most) (had + weight_of cs) e)

  module _ (l : Layout) (g : Grid) (t : TableIn l) where
    abbrev after : TableIn l
    after = written_in l (bins_of g) (loaded g cs (view_in l t))

    pub later_fits : had + weight_of cs ≤ most
        → added_later_in l most g t had cs ≡ written_in l (bins_of g) (loaded g cs (view_in l t))
    unfolding added_later_in
    later_fits h = ap (λ (b : Bool). cond b after t) (le-leb (had + weight_of cs) most h)

    pub later_passes : most < had + weight_of cs → added_later_in l most g t had cs ≡ t
    unfolding added_later_in
    later_passes h = ap (λ (b : Bool). cond b after t) (lt-leb (had + weight_of cs) most h)

-- ---- the table is known after it
module _ {l : Layout} {most : ℕ} {g : Grid} {t : TableIn l} {had : ℕ} (k : KnownIn l most g t had)
    (cs : List Weighted) where
  pub known_after : AllBytes cs → {n : ℕ} → added_to most had cs ≡ Some n
      → KnownIn l most g (added_later_in l most g t had cs) n
  known_after bytes e =
      let m = total_means most had cs e in
      let a = k.table.accepted in
      let same = later_fits most had cs l g t m.0 in
      let holds = list_holds_in l (bins_of g) (loaded g cs (view_in l t)) in
      rw same
      (record {
        table = record { accepted = a; lent = holds.lent };
        is_sound =
            (held_sound a cs bytes (view_in l t) holds (record { holds = k.is_sound })
            (subst (λ (x : ℕ). x + weight_of cs ≤ most) k.total_is m.0)).holds;
        total_is =
            m.1 ∙ ap (λ (x : ℕ). x + weight_of cs) k.total_is ∙ sym (held_total a cs bytes (view_in l t) holds);
      })

  pub known_still : added_to most had cs ≡ None → KnownIn l most g (added_later_in l most g t had cs) had
  known_still e = rw (later_passes most had cs l g t (passed_means most had cs e)) k
