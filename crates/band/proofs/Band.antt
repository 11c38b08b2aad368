-- A band written over a list: its places, what one more place adds, and a part that is handed on and put back.
-- Assumes nothing.
use mathlib.Core.Path.{◌≡◌, refl, sym, ap, subst, ◌∙◌}
use mathlib.Core.Bool.{Bool, true, false, cond}
use mathlib.Core.List.{List, ◌++◌}
use Prim.Native.Nat.{ℕ, ◌+◌, ◌-◌, ◌≤◌, ◌<◌}
use native.Mathlib.Nat.{zero-add, lt_of_not-le}
use native.Mathlib.Omega.{arith}
use native.Mathlib.Decide.{dec_le}
use borrow.Author.Tests.{le-leb, lt-leb, lt-ltb, le-ltb, leb-true, leb-false, ltb-true, ltb-false}
use borrow.Rule.Slice.PartMut.{put_mid, same_len_mid, mid_len, take_put, drop_put}
use lib.Dec.{leb, ltb}
use lib.ListN.{replicate, length, get_or, set, take, drop, length-set, get_or-append, get_or-eq_default}
use lib.Seq.{get_or-take, get_or-drop, get_or-append-add, length-take-le, get_or-set_same, get_or-set_other}
use Rattle.std.proofs.lemmas.List.{get_or-replicate, length-replicate}
use Rattle.basics.specs.Range.{list_from}
use Rattle.basics.proofs.Range.{length_list, list_at, list_is}
use Rattle.band.specs.Band.{among, write_band}

-- ---- which numbers are among n from a first one onward
pub among_yes : (first n i : ℕ) → first ≤ i → i < first + n → among first n i ≡ true
unfolding among
among_yes first n i a b = simp (le-leb _ _ a, lt-ltb _ _ b)

pub among_before : (first n i : ℕ) → i < first → among first n i ≡ false
unfolding among
among_before first n i a = simp (lt-leb _ _ a)

pub among_after : (first n i : ℕ) → first + n ≤ i → among first n i ≡ false
unfolding among
among_after first n i a = simp (le-leb _ _ (inside first n i a), le-ltb _ _ a)
  where
    inside : (first n i : ℕ) → first + n ≤ i → first ≤ i
    inside first n i a = omega arith

-- before, among or after
module _ {P : Type 0} (first n i : ℕ) where
  pub by_place : (i < first → P) → (first ≤ i → i < first + n → P) → (first + n ≤ i → P) → P
  by_place before within after = go (leb first i) (ltb i (first + n)) refl refl
    where
      go : (a b : Bool) → leb first i ≡ a → ltb i (first + n) ≡ b → P
      go false b p q = before (leb-false first i p)
      go true true p q = within (leb-true first i p) (ltb-true i (first + n) q)
      go true false p q = after (ltb-false i (first + n) q)

-- ---- the places of a written band
module _ (first n : ℕ) (f : ℕ → ℕ) (old : List ℕ) where
  pub band_length : length (write_band first n f old) ≡ length old
  unfolding write_band
  band_length = length_list 0 (length old) (λ i. cond (among first n i) (f i) (get_or old i 0))

  pub band_at : (i : ℕ) → i < length old
      → get_or (write_band first n f old) i 0 ≡ cond (among first n i) (f i) (get_or old i 0)
  unfolding write_band
  band_at i h =
      list_at 0 (length old) (λ i. cond (among first n i) (f i) (get_or old i 0)) i 0 h
      ∙ ap (λ (k : ℕ). cond (among first n k) (f k) (get_or old k 0)) (zero-add i)

  pub band_within : (i : ℕ) → i < length old → first ≤ i → i < first + n → get_or (write_band first n f old) i 0 ≡ f i
  band_within i h a b = band_at i h ∙ ap (λ (t : Bool). cond t (f i) (get_or old i 0)) (among_yes first n i a b)

  pub band_before : (i : ℕ) → i < length old → i < first → get_or (write_band first n f old) i 0 ≡ get_or old i 0
  band_before i h a = band_at i h ∙ ap (λ (t : Bool). cond t (f i) (get_or old i 0)) (among_before first n i a)

  pub band_after : (i : ℕ) → i < length old → first + n ≤ i → get_or (write_band first n f old) i 0 ≡ get_or old i 0
  band_after i h a = band_at i h ∙ ap (λ (t : Bool). cond t (f i) (get_or old i 0)) (among_after first n i a)

  pub band_kept : (i : ℕ) → among first n i ≡ false → get_or (write_band first n f old) i 0 ≡ get_or old i 0
  band_kept i out = go (dec_le (length old) i)
    where
      go : Dec (length old ≤ i) → get_or (write_band first n f old) i 0 ≡ get_or old i 0
      go (yes l) =
          get_or-eq_default (write_band first n f old) 0 (rw band_length l) ∙ sym (get_or-eq_default old 0 l)
      go (no l) = band_at i (lt_of_not-le l) ∙ ap (λ (t : Bool). cond t (f i) (get_or old i 0)) out

  -- a list with those places is the written band
  pub band_is : (new : List ℕ) → length new ≡ length old
      → ((i : ℕ) → i < length old → i < first → get_or new i 0 ≡ get_or old i 0)
      → ((i : ℕ) → i < length old → first ≤ i → i < first + n → get_or new i 0 ≡ f i)
      → ((i : ℕ) → i < length old → first + n ≤ i → get_or new i 0 ≡ get_or old i 0) → new ≡ write_band first n f old
  unfolding write_band
  band_is new same before within after =
      list_is (length old) (λ i. cond (among first n i) (f i) (get_or old i 0)) new 0 same
      (λ i h. by_place {P = get_or new i 0 ≡ cond (among first n i) (f i) (get_or old i 0)} first n i
      (λ a. before i h a ∙ ap (λ (t : Bool). cond t (f i) (get_or old i 0)) (sym (among_before first n i a)))
      (λ a b. within i h a b ∙ ap (λ (t : Bool). cond t (f i) (get_or old i 0)) (sym (among_yes first n i a b)))
      (λ a. after i h a ∙ ap (λ (t : Bool). cond t (f i) (get_or old i 0)) (sym (among_after first n i a))))

-- ---- one band after the other
module _ (f : ℕ → ℕ) (old : List ℕ) where
  pub band_empty : (first : ℕ) → old ≡ write_band first 0 f old
  band_empty first = band_is first 0 f old old refl (λ i h a. refl) (λ i h a b. absurd (omega arith)) (λ i h a. refl)

  pub band_one : (i : ℕ) → i < length old → set old i (f i) ≡ write_band i 1 f old
  band_one i h =
      band_is i 1 f old (set old i (f i)) (length-set old i (f i))
      (λ k l a. get_or-set_other old i k (f i) 0 (λ e. absurd (omega (arith, a, e))))
      (λ k l a b. subst (λ (n : ℕ). get_or (set old i (f i)) n 0 ≡ f n) (here k a b) (get_or-set_same old i (f i) 0 h))
      (λ k l a. get_or-set_other old i k (f i) 0 (λ e. absurd (omega (arith, a, e))))
    where
      here : (k : ℕ) → i ≤ k → k < i + 1 → i ≡ k
      here k a b = omega arith

  -- two bands, the second where the first ends, are one
  pub band_join : (first n m : ℕ) → write_band (first + n) m f (write_band first n f old) ≡ write_band first (n + m) f old
  band_join first n m =
      let half = write_band first n f old in
      let same = band_length first n f old in
      band_is first (n + m) f old (write_band (first + n) m f half) (band_length (first + n) m f half ∙ same)
      (λ i h a. band_before (first + n) m f half i (rw same h) (omega arith) ∙ band_before first n f old i h a)
      (λ i h a b. by_place {P = get_or (write_band (first + n) m f half) i 0 ≡ f i} (first + n) m i
      (λ l. band_before (first + n) m f half i (rw same h) l ∙ band_within first n f old i h a l)
      (λ l k. band_within (first + n) m f half i (rw same h) l k)
      (λ l. absurd (omega (arith, b, l))))
      (λ i h a. band_after (first + n) m f half i (rw same h) (omega arith)
      ∙ band_after first n f old i h (omega arith))

module _ (f : ℕ → ℕ) (old : List ℕ) (first : ℕ) where
  -- a band that is written goes on: by a place
  pub band_next : (n v : ℕ) (l : List ℕ) → l ≡ write_band first n f old → v ≡ f (first + n) → first + n < length old
      → set l (first + n) v ≡ write_band first (n + 1) f old
  band_next n v l is at h =
      (λ t. set (is t) (first + n) (at t))
      ∙ band_one f (write_band first n f old) (first + n) (rw (band_length first n f old) h)
      ∙ band_join f old first n 1

  -- by a band
  pub band_more : (n m k : ℕ) (l new : List ℕ) → l ≡ write_band first n f old → new ≡ write_band (first + n) m f l
      → n + m ≡ k → new ≡ write_band first k f old
  band_more n m k l new is next all =
      next
      ∙ ap (write_band (first + n) m f) is
      ∙ band_join f old first n m
      ∙ ap (λ (k : ℕ). write_band first k f old) all

  -- and four places are one
  pub band_four : (a b c d : ℕ) → a ≡ f first → b ≡ f (first + 1) → c ≡ f (first + 2) → d ≡ f (first + 3)
      → first + 3 < length old
      → set (set (set (set old first a) (first + 1) b) (first + 2) c) (first + 3) d ≡ write_band first 4 f old
  band_four a b c d p q r s h =
      let one = ap (set old first) p ∙ band_one f old first (omega arith) in
      let two = band_next 1 b _ one q (omega arith) in
      band_next 3 d _ (band_next 2 c _ two r (omega arith)) s h

-- a band of f is a band of whatever agrees with f there
pub band_same : (first n : ℕ) (f h : ℕ → ℕ) (old : List ℕ) → ((i : ℕ) → first ≤ i → i < first + n → f i ≡ h i)
    → write_band first n f old ≡ write_band first n h old
band_same first n f h old same =
    band_is first n h old (write_band first n f old) (band_length first n f old)
    (band_before first n f old)
    (λ i l a b. band_within first n f old i l a b ∙ same i a b)
    (band_after first n f old)

-- ---- a band from the front
module _ (f : ℕ → ℕ) (old : List ℕ) where
  pub band_whole : write_band 0 (length old) f old ≡ list_from 0 (length old) f
  band_whole =
      list_is (length old) f (write_band 0 (length old) f old) 0 (band_length 0 (length old) f old)
      (λ i h. band_within 0 (length old) f old i h (omega arith) (omega arith))

  -- it goes on by a band, and by the rest
  pub front_more : (n m : ℕ) (l new : List ℕ) → l ≡ write_band 0 n f old → new ≡ write_band n m f l
      → new ≡ write_band 0 (n + m) f old
  front_more n m l new is next =
      band_more f old 0 n m (n + m) l new is (next ∙ ap (λ (k : ℕ). write_band k m f l) (sym (zero-add n))) refl

  pub front_rest : (n : ℕ) (l new : List ℕ) → n ≤ length old → l ≡ write_band 0 n f old
      → new ≡ write_band n (length old - n) f l → new ≡ list_from 0 (length old) f
  front_rest n l new h is next =
      let all : n + (length old - n) ≡ length old = omega arith in
      front_more n (length old - n) l new is next ∙ ap (λ (k : ℕ). write_band 0 k f old) all ∙ band_whole

-- ---- a part that is handed on
pub part_at : (a k : ℕ) (l : List ℕ) (i : ℕ) → i < k → get_or (take k (drop a l)) i 0 ≡ get_or l (a + i) 0
part_at a k l i h = get_or-take k (drop a l) i 0 h ∙ get_or-drop a l i 0

pub part_count : (a k : ℕ) → (a + k) - a ≡ k
part_count a k = omega arith

pub part_length : (a k : ℕ) (l : List ℕ) → a + k ≤ length l → length (take ((a + k) - a) (drop a l)) ≡ k
part_length a k l h = mid_len a (a + k) l h ∙ part_count a k

-- put back with f at each place, it makes the list with the band written
pub part_back : (a k : ℕ) (f : ℕ → ℕ) (old new : List ℕ) → a + k ≤ length old → length new ≡ k
    → ((i : ℕ) → i < k → get_or new i 0 ≡ f (a + i)) → put_mid a ((a + k) - a) old new ≡ write_band a k f old
part_back a k f old new fits long at =
    band_is a k f old whole (same_len_mid a ((a + k) - a) old new (long ∙ sym (part_length a k old fits)))
    (λ i h l. sym (get_or-take a whole i 0 l)
    ∙ ap (λ (t : List ℕ). get_or t i 0) (take_put a ((a + k) - a) old new (omega arith)) ∙ get_or-take a old i 0 l)
    (λ i h l m. within i l m)
    (λ i h l. after i l)
  where
    whole : List ℕ
    whole = put_mid a ((a + k) - a) old new

    rest : List ℕ
    rest = drop ((a + k) - a) (drop a old)

    within_from : (j : ℕ) → j < k → get_or whole (a + j) 0 ≡ f (a + j)
    within_from j h =
        ap (λ (n : ℕ). get_or whole (n + j) 0) (sym (length-take-le a old (omega arith)))
        ∙ get_or-append-add (take a old) (new ++ rest) j 0
        ∙ get_or-append new rest 0 j (rw long h)
        ∙ at j h

    within : (i : ℕ) → a ≤ i → i < a + k → get_or whole i 0 ≡ f i
    within i l m =
        let e : a + (i - a) ≡ i = omega arith in
        subst (λ (n : ℕ). get_or whole n 0 ≡ f n) e (within_from (i - a) (omega arith))

    after_from : (j : ℕ) → get_or whole ((a + k) + j) 0 ≡ get_or old ((a + k) + j) 0
    after_from j =
        sym (get_or-drop (a + k) whole j 0)
        ∙ ap (λ (t : List ℕ). get_or t j 0) (drop_put a (a + k) old new (omega arith) fits (long ∙ sym (part_count a k)))
        ∙ get_or-drop (a + k) old j 0

    after : (i : ℕ) → a + k ≤ i → get_or whole i 0 ≡ get_or old i 0
    after i l =
        let e : (a + k) + (i - (a + k)) ≡ i = omega arith in
        subst (λ (n : ℕ). get_or whole n 0 ≡ get_or old n 0) e (after_from (i - (a + k)))

-- the same, where the part is left as a list of h
pub part_written : (a k n : ℕ) (f h : ℕ → ℕ) (old new : List ℕ) → a + k ≤ length old → n ≡ k → new ≡ list_from 0 n h
    → ((i : ℕ) → i < k → h i ≡ f (a + i)) → put_mid a ((a + k) - a) old new ≡ write_band a k f old
part_written a k n f h old new fits long is same =
    part_back a k f old new fits (ap length is ∙ length_list 0 n h ∙ long)
    (λ i l. ap (λ (t : List ℕ). get_or t i 0) is ∙ list_at 0 n h i 0 (rw long l) ∙ ap h (zero-add i) ∙ same i l)

-- the same, where the part is filled with what f is at each of its places
pub filled : (f : ℕ → ℕ) (old new : List ℕ) (a k x : ℕ) → a + k ≤ length old
    → new ≡ replicate (length (take ((a + k) - a) (drop a old))) x → ((i : ℕ) → a ≤ i → i < a + k → x ≡ f i)
    → put_mid a ((a + k) - a) old new ≡ write_band a k f old
filled f old new a k x fits is at =
    let long = part_length a k old fits in
    part_back a k f old new fits (ap length is ∙ length-replicate _ x ∙ long)
    (λ i h. ap (λ (t : List ℕ). get_or t i 0) is ∙ get_or-replicate _ i x 0 (rw long h)
    ∙ at (a + i) (omega arith) (omega arith))
