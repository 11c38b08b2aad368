-- Runs of pixels, one after the other, painted from packed colours.
-- Assumes nothing.
use mathlib.Core.Path.{◌≡◌, sym, ap, ◌∙◌}
use mathlib.Core.List.{List}
use Prim.Native.Nat.{ℕ, ◌+◌, ◌-◌, ◌*◌, ◌/◌, ◌%◌, ◌≤◌, ◌<◌}
use native.Mathlib.Nat.{zero-add, add-zero}
use native.Mathlib.Omega.{arith}
use lib.ListN.{length, get_or, set}
use Rattle.grid.specs.declared.place.Grid.{Grid}
use Rattle.basics.specs.Range.{list_from}
use Rattle.basics.specs.Dimension.{choose}
use Rattle.pixels.specs.Colour.{colour_at}
use Rattle.grid.specs.Grid.{colour_place}
use Rattle.band.specs.Band.{index_at, write_band}
use Rattle.band.proofs.Band.{among_after, band_length, band_within, band_kept, band_one, band_next, band_join}
use Rattle.band.proofs.Band.{band_same, band_whole}
use Rattle.band.proofs.Pixels.{same_index}
use Rattle.painter.specs.Inner.{unpacked, fill_at, packed_at, painted_for}

-- ---- one pixel
fill_byte : (v i d : ℕ) → d < 3 → unpacked v d ≡ fill_at v (3 * i + d)
unfolding fill_at
fill_byte v i d h = ap (unpacked v) (byte i d h)
  where
    byte : (i d : ℕ) → d < 3 → d ≡ (3 * i + d) % 3
    byte i d h = omega arith

-- its three bytes are a band
pub three_bytes : (v i : ℕ) (old : List ℕ) → 3 * i + 2 < length old
    → set (set (set old (3 * i) (v % 256)) (3 * i + 1) (v / 256 % 256)) (3 * i + 2) (v / 65536 % 256)
    ≡ write_band (3 * i) 3 (fill_at v) old
unfolding unpacked choose
three_bytes v i old h =
    let one = ap (set old (3 * i)) first ∙ band_one (fill_at v) old (3 * i) (omega arith) in
    let two = band_next (fill_at v) old (3 * i) 1 _ _ one (fill_byte v i 1 (omega arith)) (omega arith) in
    band_next (fill_at v) old (3 * i) 2 _ _ two (fill_byte v i 2 (omega arith)) h
  where
    first : unpacked v 0 ≡ fill_at v (3 * i)
    first = fill_byte v i 0 (omega arith) ∙ ap (fill_at v) (add-zero (3 * i))

-- ---- a run of pixels
-- two runs, the second where the first ends, are one
pub run_join : (f : ℕ → ℕ) (old : List ℕ) (from n m : ℕ)
    → write_band (3 * (from + n)) (3 * m) f (write_band (3 * from) (3 * n) f old)
    ≡ write_band (3 * from) (3 * (n + m)) f old
run_join f old from n m =
    ap (λ (k : ℕ). write_band k (3 * m) f (write_band (3 * from) (3 * n) f old)) (bytes from n)
    ∙ band_join f old (3 * from) (3 * n) (3 * m)
    ∙ ap (λ (k : ℕ). write_band (3 * from) k f old) (sym (bytes n m))
  where
    bytes : (n m : ℕ) → 3 * (n + m) ≡ 3 * n + 3 * m
    bytes n m = omega arith

-- a run goes on as it began, 16 pixels before
pub run_copied : (v at k : ℕ) (old half l : List ℕ) → half ≡ write_band at 48 (fill_at v) old
    → l ≡ write_band (at + 48) k (fill_at v) half → at + 48 + k < length old
    → set l (at + 48 + k) (get_or l (at + k) 0) ≡ write_band (at + 48) (k + 1) (fill_at v) half
unfolding fill_at
run_copied v at k old half l begun more h =
    band_next (fill_at v) half (at + 48) k _ l more byte
    (omega (arith, ap length begun, band_length at 48 (fill_at v) old))
  where
    before : (at k : ℕ) → (at + k) % 3 ≡ (at + 48 + k) % 3
    before at k = omega arith

    byte : get_or l (at + k) 0 ≡ fill_at v (at + 48 + k)
    byte =
        ap (λ (b : List ℕ). get_or b (at + k) 0)
        (more ∙ ap (write_band (at + 48) k (fill_at v)) begun ∙ band_join (fill_at v) old at 48 k)
        ∙ band_within at (48 + k) (fill_at v) old (at + k) (omega arith) (omega arith) (omega arith)
        ∙ ap (unpacked v) (before at k)

module _ (g : Grid) (map packed : List ℕ) where
  -- pixels of one colour are painted with one packed colour
  pub run_alike : (l : List ℕ) (from n v : ℕ) → v ≡ get_or packed (index_at g map l from) 0
      → ((i : ℕ) → from ≤ i → i < from + n → colour_at l i ≡ colour_at l from)
      → write_band (3 * from) (3 * n) (fill_at v) l ≡ painted_for g map packed l from n
  unfolding packed_at
  run_alike l from n v e alike =
      band_same (3 * from) (3 * n) (fill_at v) (packed_at g map packed l) l
      (λ j a b. ap (λ (w : ℕ). fill_at w j) (e ∙ ap (λ (k : ℕ). get_or packed k 0)
      (sym (same_index g map l from (j / 3) (alike (j / 3) (omega arith) (omega arith))))))

  module _ (old : List ℕ) (from : ℕ) where
    abbrev painted : ℕ → List ℕ
    painted n = painted_for g map packed old from n

    -- a pixel after the n that are painted is as it was
    index_after : (n i : ℕ) → from + n ≤ i → index_at g map (painted n) i ≡ index_at g map old i
    unfolding index_at colour_at
    index_after n i h =
        let kept : (j : ℕ) → 3 * from + 3 * n ≤ j → get_or (painted n) j 0 ≡ get_or old j 0 =
        λ j a. band_kept (3 * from) (3 * n) (packed_at g map packed old) old j (among_after (3 * from) (3 * n) j a) in
        let one = kept (3 * i) (omega arith) in
        let two = kept (3 * i + 1) (omega arith) in
        let three = kept (3 * i + 2) (omega arith) in
        λ t. get_or map (colour_place g (record { c1 = one t; c2 = two t; c3 = three t })) 0

    -- so the next pixels are painted alike whether those before them are painted or not
    pub painted_more : (n m : ℕ) (l : List ℕ) → l ≡ painted n → painted_for g map packed l (from + n) m ≡ painted (n + m)
    unfolding packed_at
    painted_more n m l e =
        ap (λ (l : List ℕ). painted_for g map packed l (from + n) m) e
        ∙ band_same (3 * (from + n)) (3 * m) (packed_at g map packed (painted n)) (packed_at g map packed old) (painted n)
        (λ j a b. ap (λ (k : ℕ). fill_at (get_or packed k 0) j) (index_after n (j / 3) (omega arith)))
        ∙ run_join (packed_at g map packed old) old from n m

    pub painted_next : (n v : ℕ) (l : List ℕ) → l ≡ painted n → v ≡ get_or packed (index_at g map l (from + n)) 0
        → write_band (3 * (from + n)) 3 (fill_at v) l ≡ painted (n + 1)
    painted_next n v l e p = run_alike l (from + n) 1 v p (λ i a b. ap (colour_at l) (only i a b)) ∙ painted_more n 1 l e
      where
        only : (i : ℕ) → from + n ≤ i → i < from + n + 1 → i ≡ from + n
        only i a b = omega arith

  -- from the front: the next pixels, and the rest
  pub painted_on : (old l new : List ℕ) (n m : ℕ) → l ≡ painted_for g map packed old 0 n
      → new ≡ painted_for g map packed l n m → new ≡ painted_for g map packed old 0 (n + m)
  painted_on old l new n m is next =
      next
      ∙ ap (λ (k : ℕ). painted_for g map packed l k m) (sym (zero-add n))
      ∙ painted_more old 0 n m l is

  pub painted_rest : (old l new : List ℕ) (n : ℕ) → length old % 3 ≡ 0 → n ≤ length old / 3
      → l ≡ painted_for g map packed old 0 n → new ≡ painted_for g map packed l n (length old / 3 - n)
      → new ≡ list_from 0 (length old) (packed_at g map packed old)
  painted_rest old l new n threes h is next =
      let all : 3 * (n + (length old / 3 - n)) ≡ length old = omega arith in
      painted_on old l new n (length old / 3 - n) is next
      ∙ ap (λ (k : ℕ). write_band 0 k (packed_at g map packed old) old) all
      ∙ band_whole (packed_at g map packed old) old
