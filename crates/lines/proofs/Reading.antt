-- Batches that came one after the other: none yet, and one more.
-- Assumes nothing.
use mathlib.Core.Path.{◌≡◌, refl, sym, ap, subst, ◌∙◌}
use mathlib.Core.Bool.{Bool, true, false}
use mathlib.Core.List.{List, [], ◌∷◌, ◌++◌}
use Prim.Native.Nat.{ℕ, ◌%◌}
use lib.ListN.{length}
use Rattle.lines.specs.Reading.{Progress, after_batch, after_all, InThrees, Came, AllCame}

pub after_last : (s : Progress) (batches : List (List ℕ)) (last : List ℕ)
    → after_all s (batches ++ last ∷ []) ≡ after_batch (after_all s batches) last
unfolding after_all
after_last s [] last = refl
after_last s (batch ∷ rest) last = after_last (after_batch s batch) rest last

threes_last : (batches : List (List ℕ)) (last : List ℕ) → InThrees batches → length last % 3 ≡ 0
    → InThrees (batches ++ last ∷ [])
threes_last [] last w h = (h, tt)
threes_last (batch ∷ rest) last w h = (w.0, threes_last rest last w.1 h)

pub none_came : (s : Progress) → AllCame s s true
unfolding after_all
none_came s = record { batches = []; whole = tt; last = []; loaded = refl }

then_one : {s m e : Progress} {more : Bool} (c : AllCame s m true) (d : Came m e more)
    → e ≡ after_all s (c.batches ++ d.batch ∷ [])
then_one {s} c d = d.loaded ∙ ap (λ (p : Progress). after_batch p d.batch) c.loaded
    ∙ sym (after_last s c.batches d.batch)

with_one : {s m e : Progress} (more : Bool) → AllCame s m true → Came m e more → AllCame s e more
with_one true c d =
    record {
      batches = c.batches ++ d.batch ∷ [];
      whole = threes_last c.batches d.batch c.whole (d.whole refl);
      last = [];
      loaded = then_one c d;
    }
with_one false c d = record { batches = c.batches; whole = c.whole; last = d.batch; loaded = then_one c d }

pub one_more : {s m e : Progress} {had : Bool} (more : Bool) → had ≡ true → AllCame s m had → Came m e more
    → AllCame s e more
one_more {s} {m} more e c d = with_one more (subst (AllCame s m) e c) d
