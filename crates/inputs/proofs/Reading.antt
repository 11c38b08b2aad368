-- Laws of batches that came: behind bytes that were there, and one after the other.
-- Assumes nothing.
use mathlib.Core.Path.{◌≡◌, refl, sym, ap, ◌∙◌}
use mathlib.Core.Bool.{Bool, true, false, cond}
use mathlib.Core.List.{List, [], ◌∷◌, ◌++◌}
use Prim.Native.Nat.{ℕ, ◌+◌, ◌%◌, ◌≤◌}
use borrow.Author.Tests.{eqb-true}
use lib.ListN.{length, take, drop, take-append-drop}
use lib.Seq.{length-take-le, take-take}
use Rattle.lines.specs.declared.batches.Loaded.{Loaded}
use Rattle.lines.specs.Listing.{batch_answer, batch_later}
use Rattle.lines.specs.Reading.{Progress, progress, after_batch, after_all, Came, AllCame}
use Rattle.lines.proofs.Reading.{none_came, one_more}
use Rattle.inputs.specs.Frames.{Room, CameBehind}

-- a buffer stays one whatever is read into it
pub room_same : {old new : List ℕ} → Room old → length new ≡ length old → Room new
room_same r e =
    record {
      some = rw e r.some;
      whole = ap (λ (n : ℕ). n % 3) e ∙ r.whole;
      few = rw e r.few;
    }

-- ---- a batch behind bytes that were there
pub behind_came : {front : List ℕ} {before after : Progress} {more : Bool} → CameBehind front before after more
    → Came before after more
behind_came {front} c = record { batch = front ++ c.rest; whole = c.whole; loaded = c.loaded }

-- what a batch of which some bytes are filled gives, where the first of them were there
pub filled_behind : {t later space : List ℕ} {front : List ℕ} {there filled lowest : ℕ} (had : ℕ) {r : Loaded}
    → Room space → filled ≤ length space → there ≤ filled → take there space ≡ front
    → r ≡ batch_answer t space filled lowest → later ≡ batch_later t space filled
    → CameBehind front (progress lowest t had) (progress r.number later (had + filled)) r.more
unfolding after_batch batch_answer batch_later
filled_behind {t} {later} {space} {front} {there} {filled} {lowest} had {r} room fits behind kept e l =
    record {
      rest = drop there (take filled space);
      whole = λ m. ap (λ (x : List ℕ). length x % 3) joined
          ∙ ap (λ (n : ℕ). n % 3) (long ∙ eqb-true filled (length space) (sym (ap (λ (x : Loaded). x.more) e) ∙ m))
          ∙ room.whole;
      loaded = (λ i. progress (e i).number (l i) (had + sym long i))
          ∙ ap (after_batch (progress lowest t had)) (sym joined);
    }
  where
    long : length (take filled space) ≡ filled
    long = length-take-le filled space fits

    joined : front ++ drop there (take filled space) ≡ take filled space
    joined =
        ap (λ (x : List ℕ). x ++ drop there (take filled space))
        (sym kept ∙ sym (take-take there filled space behind))
        ∙ take-append-drop there (take filled space)

-- ---- batches after batches
-- one that more may follow, and those that followed it
pub all_then : {s m e : Progress} (more : Bool) → Came s m true → AllCame m e more → AllCame s e more
unfolding after_all
all_then {s} {m} {e} more c d =
    record {
      batches = c.batch ∷ d.batches;
      whole = (c.whole refl, d.whole);
      last = d.last;
      loaded = d.loaded ∙ go more;
    }
  where
    go : (b : Bool)
        → cond b (after_all m d.batches) (after_all m (d.batches ++ d.last ∷ []))
        ≡ cond b (after_all s (c.batch ∷ d.batches)) (after_all s (c.batch ∷ d.batches ++ d.last ∷ []))
    go true = ap (λ (p : Progress). after_all p d.batches) c.loaded
    go false = ap (λ (p : Progress). after_all p (d.batches ++ d.last ∷ [])) c.loaded

-- one alone
pub only_one : {s e : Progress} {more : Bool} → Came s e more → AllCame s e more
only_one {s} {e} {more} c = one_more more refl (none_came s) c
