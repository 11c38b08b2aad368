-- Entries of a map below the palette's length, and their largest.
-- Assumes nothing.
use mathlib.Core.Path.{◌≡◌, sym, ap, ◌∙◌}
use mathlib.Core.Bool.{Bool, true, ◌&&◌}
use mathlib.Core.List.{List}
use Prim.Native.Nat.{ℕ, ◌+◌, ◌≤◌, ◌<◌}
use native.Mathlib.Nat.{zero-add, lt_of_not-le}
use native.Mathlib.Decide.{dec_le}
use native.Mathlib.Omega.{arith}
use borrow.Author.Tests.{ltb-true, lt-ltb}
use lib.Dec.{ltb}
use Rattle.std.proofs.Common.{nat_cmp}
use Rattle.std.proofs.lemmas.Bool.Decides.{nat_tests}
use Rattle.std.specs.Ordering.{ord_max}
use Rattle.std.proofs.lemmas.Grind.{common_steps}
use lib.ListN.{length, get_or, get_or-eq_default}
use Rattle.basics.specs.Range.{all_from}
use Rattle.basics.proofs.Range.{all_true, all_last, all_at}
use Rattle.band.specs.Band.{all_below}

-- the first n entries are below c exactly where top is
abbrev pub Tops : List ℕ → ℕ → ℕ → Type 0
Tops map n top = (c : ℕ) → 1 ≤ c → ltb top c ≡ all_from 0 n (λ p. ltb (get_or map p 0) c)

-- of two numbers both are below c exactly where the larger is
both_below : (x y c : ℕ) → ltb (ord_max nat_cmp x y) c ≡ (ltb x c && ltb y c)
both_below x y c = grind (arith, common_steps, nat_tests)

pub tops_none : (map : List ℕ) → Tops map 0 0
unfolding all_from
tops_none map c h = lt-ltb 0 c h

-- the larger of the largest so far and the next entry
pub tops_more : (map : List ℕ) (n top new : ℕ) → new ≡ ord_max nat_cmp top (get_or map n 0) → Tops map n top
    → Tops map (n + 1) new
tops_more map n top new larger old c h =
    ap (λ (t : ℕ). ltb t c) larger
    ∙ both_below top (get_or map n 0) c
    ∙ ap (λ (b : Bool). b && ltb (get_or map n 0) c) (old c h)
    ∙ ap (λ (p : ℕ). all_from 0 n (λ p. ltb (get_or map p 0) c) && ltb (get_or map p 0) c) (sym (zero-add n))
    ∙ sym (all_last 0 n (λ p. ltb (get_or map p 0) c))

-- entries that are each below c
pub all_below_lem : (c : ℕ) (map : List ℕ) → ((p : ℕ) → p < length map → get_or map p 0 < c) → all_below c map ≡ true
unfolding all_below
all_below_lem c map h =
    all_true 0 (length map) (λ p. ltb (get_or map p 0) c) (λ p a b. lt-ltb (get_or map p 0) c (h p (omega arith)))

-- an entry of a map whose entries are all below c; past the map's end 0 is read
pub entry_below : (c : ℕ) (map : List ℕ) → 1 ≤ c → all_below c map ≡ true → (p : ℕ) → get_or map p 0 < c
unfolding all_below
entry_below c map h e p = go (dec_le (length map) p)
  where
    go : Dec (length map ≤ p) → get_or map p 0 < c
    go (yes l) = rw (get_or-eq_default map 0 l) h
    go (no n) =
        let here = lt_of_not-le n in
        ltb-true (get_or map p 0) c (all_at 0 (length map) (λ p. ltb (get_or map p 0) c) e p (omega arith) (omega arith))
