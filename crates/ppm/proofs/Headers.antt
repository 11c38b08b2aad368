-- Laws of fields and of headers: what was read of each, and what three fields say.
-- Assumes nothing.
use mathlib.Core.Path.{◌≡◌, refl, sym, ap, subst, ◌∙◌}
use mathlib.Core.Bool.{Bool, true, false, true≢false, ◌&&◌, cond}
use mathlib.Core.List.{List, [], ◌∷◌}
use Prim.Native.Nat.{ℕ, ◌+◌, ◌-◌, ◌≤◌, ◌<◌, min}
use native.Mathlib.Omega.{arith}
use borrow.Author.Tests.{eq-eqb, ne_eqb, eqb-true, le-leb, leb-true}
use lib.Dec.{eqb, leb}
use lib.ListN.{length, get_or, drop, length-drop}
use Rattle.basics.proofs.Range.{and_left, and_right, and_first, and_stop, and_false, tests_same}
use Rattle.ppm.specs.declared.fields.Digits.{Digits}
use Rattle.std.specs.Prelude.{Option, Some}
use Rattle.std.specs.Prelude as std
use Rattle.ppm.specs.declared.header.Header.{Header}
use Rattle.ppm.specs.declared.header.Header.TheVariants.{Image, Maximum, Malformed}
use Rattle.ppm.specs.Header.{is_blank, is_digit, after_gap, has_blank, is_number, value_from, after_number, Field, None, Read, field_of, on_field}
use Rattle.ppm.specs.Header.{is_magic, starts_blank, behind_blank, is_side, image_of, header_of}
use Rattle.ppm.specs.Inner.{most, behind, StartsAt, read_as}
use Rattle.ppm.proofs.Tails.{Tail, tail_of, tail_drop, starts_behind, next_byte, no_byte}
use Rattle.ppm.proofs.Gaps.{gap_tail}
use Rattle.ppm.proofs.Numbers.{number_tail}

-- ---- a field
-- what follows it is an end of what was there
pub field_tail : (xs : List ℕ) {value : ℕ} {rest : List ℕ} → field_of xs ≡ Read value rest → Tail xs rest
unfolding field_of
field_tail xs {value} {rest} e = go (has_blank false xs && is_number (after_gap false xs)) e
  where
    rest_of : Field → List ℕ
    rest_of None = xs
    rest_of (Read v r) = r

    all : Tail xs (after_number (after_gap false xs))
    all = tail_of (gap_tail false xs) (number_tail (after_gap false xs))

    is_read : Field → Bool
    is_read None = false
    is_read (Read v r) = true

    go : (b : Bool)
        → cond b (Read (value_from 0 (after_gap false xs)) (after_number (after_gap false xs))) None ≡ Read value rest
        → Tail xs rest
    go true q = subst (Tail xs) (ap rest_of q) all
    go false q = absurd (true≢false (sym (ap is_read q)))

-- what the code has read of one
pub record Reads (file xs : List ℕ) (d : Digits) : Type 0 where
  pub value : ℕ
  pub rest : List ℕ
  pub is : field_of xs ≡ Read value rest
  pub kept : d.value ≡ min value most
  pub starts : StartsAt file rest d.end

is_read : Option Digits → Bool
is_read (Some d) = true
is_read std.None = false

digits_or : Digits → Option Digits → Digits
digits_or z (Some d) = d
digits_or z std.None = z

module _ (file xs : List ℕ) where
  pub field_read : Tail file xs → {d : Digits} → read_as file (field_of xs) ≡ Some d → Reads file xs d
  unfolding read_as is_read digits_or
  field_read t {d} e = go (field_of xs) refl e
    where
      go : (f : Field) → field_of xs ≡ f → read_as file f ≡ Some d → Reads file xs d
      go None q p = absurd (true≢false (sym (ap is_read p)))
      go (Read value rest) q p =
          let same : record { value = min value most; end = behind file rest } ≡ d = ap (digits_or d) p in
          record {
            value = value;
            rest = rest;
            is = q;
            kept = sym (ap (λ (x : Digits). x.value) same);
            starts = subst (StartsAt file rest) (ap (λ (x : Digits). x.end) same)
                (starts_behind (tail_of t (field_tail xs q)));
          }

  pub field_none : read_as file (field_of xs) ≡ std.None → field_of xs ≡ None
  unfolding read_as is_read
  field_none e = go (field_of xs) e
    where
      go : (f : Field) → read_as file f ≡ std.None → f ≡ None
      go None p = refl
      go (Read value rest) p = absurd (true≢false (ap is_read p))

-- ---- a field from a place on, by the gap and the digit behind it
module _ (file : List ℕ) (at : ℕ) {end : ℕ} (h : at ≤ length file)
    (e : end ≡ behind file (after_gap false (drop at file))) where
  -- what is left behind the gap
  behind_gap : StartsAt file (after_gap false (drop at file)) end
  behind_gap =
      subst (StartsAt file (after_gap false (drop at file))) (sym e)
      (starts_behind (tail_of (tail_drop file at h) (gap_tail false (drop at file))))

  pub gap_end : end ≤ length file
  gap_end = behind_gap.there

  pub field_no_blank : has_blank false (drop at file) ≡ false → std.None ≡ read_as file (field_of (drop at file))
  unfolding field_of read_as
  field_no_blank b = rw b refl

  pub field_cut : (end < length file → ⊥) → std.None ≡ read_as file (field_of (drop at file))
  unfolding field_of read_as is_number
  field_cut n =
      rw (sym behind_gap.left ∙ no_byte file end gap_end n, and_false (has_blank false (drop at file))) refl

  module _ (l : end < length file) where
    digit_is : is_number (after_gap false (drop at file)) ≡ is_digit (get_or file end 0)
    unfolding is_number
    digit_is = ap is_number (sym behind_gap.left ∙ next_byte file end l)

    pub field_no_digit : is_digit (get_or file end 0) ≡ false → std.None ≡ read_as file (field_of (drop at file))
    unfolding field_of read_as
    field_no_digit d = rw (digit_is ∙ d, and_false (has_blank false (drop at file))) refl

    pub field_is : has_blank false (drop at file) ≡ true → is_digit (get_or file end 0) ≡ true → {d : Digits}
        → d.value ≡ min (value_from 0 (drop end file)) most → d.end ≡ behind file (after_number (drop end file))
        → Some d ≡ read_as file (field_of (drop at file))
    unfolding field_of read_as
    field_is b d p q =
        rw (b, digit_is ∙ d)
        (λ i. Some (record {
          value = (p ∙ ap (λ (l : List ℕ). min (value_from 0 l) most) behind_gap.left) i;
          end = (q ∙ ap (λ (l : List ℕ). behind file (after_number l)) behind_gap.left) i;
        }))

-- ---- values that are kept at 65,536
pub side_says : (n : ℕ) → is_side n ≡ true → (1 ≤ n) × (n ≤ 65535)
unfolding is_side
side_says n e = (leb-true 1 n (and_left (leb 1 n) (leb n 65535) e), leb-true n 65535 (and_right (leb 1 n) (leb n 65535) e))

side_by : (n : ℕ) → 1 ≤ n → n ≤ 65535 → is_side n ≡ true
unfolding is_side
side_by n h l = rw (le-leb 1 n h, le-leb n 65535 l) refl

side_same : (n : ℕ) → is_side n ≡ true → min n most ≡ n
side_same n e = omega (arith, (side_says n e).1)

side_kept : (n : ℕ) → is_side (min n most) ≡ is_side n
side_kept n = tests_same _ _ down (λ e. ap is_side (side_same n e) ∙ e)
  where
    down : is_side (min n most) ≡ true → is_side n ≡ true
    down e = let s = side_says (min n most) e in side_by n (omega (arith, s.0)) (omega (arith, s.1))

maximum_kept : (n : ℕ) → eqb (min n most) 255 ≡ eqb n 255
maximum_kept n = tests_same _ _ down up
  where
    down : eqb (min n most) 255 ≡ true → eqb n 255 ≡ true
    down e = eq-eqb n 255 (omega (arith, eqb-true (min n most) 255 e))

    up : eqb n 255 ≡ true → eqb (min n most) 255 ≡ true
    up e = eq-eqb (min n most) 255 (omega (arith, eqb-true n 255 e))

module _ (bytes width height maximum : ℕ) (rest : List ℕ) where
  pub image_kept : image_of bytes (min width most) (min height most) (min maximum most) rest
      ≡ image_of bytes width height maximum rest
  unfolding image_of
  image_kept =
      ap (λ (b : Bool). cond b (inner (min width most) (min height most) (min maximum most)) Malformed)
      (λ i. starts_blank rest && (side_kept width i && side_kept height i))
      ∙ go (starts_blank rest && (is_side width && is_side height)) refl
    where
      inner : ℕ → ℕ → ℕ → Header
      inner w h m =
          cond (eqb m 255) (Image (record { width = w; height = h; pixels = bytes - behind_blank rest })) Maximum

      go : (b : Bool) → (starts_blank rest && (is_side width && is_side height)) ≡ b
          → cond b (inner (min width most) (min height most) (min maximum most)) Malformed
          ≡ cond b (inner width height maximum) Malformed
      go true e =
          let sides = and_right (starts_blank rest) (is_side width && is_side height) e in
          let w = side_same width (and_left (is_side width) (is_side height) sides) in
          let h = side_same height (and_right (is_side width) (is_side height) sides) in
          λ i. cond (maximum_kept maximum i)
          (Image (record { width = w i; height = h i; pixels = bytes - behind_blank rest }))
          Maximum
      go false e = refl

-- ---- `P6`
pub magic_short : (xs : List ℕ) → length xs < 2 → is_magic xs ≡ false
unfolding is_magic
magic_short [] h = refl
magic_short (a ∷ []) h = refl
magic_short (a ∷ b ∷ xs) h = absurd (omega arith)

pub magic_long : (xs : List ℕ) → is_magic xs ≡ true → 2 ≤ length xs
unfolding is_magic
magic_long [] e = absurd (true≢false (sym e))
magic_long (a ∷ []) e = absurd (true≢false (sym e))
magic_long (a ∷ b ∷ xs) e = omega arith

pub magic_other : (xs : List ℕ) → (get_or xs 0 0 ≡ 80 → ⊥) → is_magic xs ≡ false
unfolding is_magic
magic_other [] n = refl
magic_other (a ∷ []) n = refl
magic_other (a ∷ b ∷ xs) n = and_stop (eqb b 54) (ne_eqb a 80 n)

pub magic_is : (xs : List ℕ) → 2 ≤ length xs → get_or xs 0 0 ≡ 80 → is_magic xs ≡ eqb (get_or xs 1 0) 54
unfolding is_magic
magic_is [] h e = absurd (omega arith)
magic_is (a ∷ []) h e = absurd (omega arith)
magic_is (a ∷ b ∷ xs) h e = and_first (eqb b 54) (eq-eqb a 80 e)

-- ---- three numbers with one whitespace behind them
module _ (file : List ℕ) (width height maximum p : ℕ) where
  abbrev said : Header
  said = image_of (length file) width height maximum (drop p file)

  pub image_cut : p ≤ length file → (p < length file → ⊥) → said ≡ Malformed
  unfolding image_of starts_blank
  image_cut h n = rw (no_byte file p h n) refl

  module _ (h : p < length file) where
    blank_is : starts_blank (drop p file) ≡ is_blank (get_or file p 0)
    unfolding starts_blank
    blank_is = ap starts_blank (next_byte file p h)

    pub image_no_blank : is_blank (get_or file p 0) ≡ false → said ≡ Malformed
    unfolding image_of
    image_no_blank e = rw (blank_is ∙ e) refl

    module _ (b : is_blank (get_or file p 0) ≡ true) where
      pub image_no_width : is_side width ≡ false → said ≡ Malformed
      unfolding image_of
      image_no_width e = rw (blank_is ∙ b, e) refl

      module _ (w : is_side width ≡ true) where
        pub image_no_height : is_side height ≡ false → said ≡ Malformed
        unfolding image_of
        image_no_height e = rw (blank_is ∙ b, w, e) refl

        module _ (t : is_side height ≡ true) where
          pub image_maximum : (maximum ≡ 255 → ⊥) → said ≡ Maximum
          unfolding image_of
          image_maximum n = rw (blank_is ∙ b, w, t, ne_eqb maximum 255 n) refl

          pub image_is : maximum ≡ 255
              → said ≡ Image (record { width = width; height = height; pixels = p + 1 })
          unfolding image_of behind_blank
          image_is e =
              rw (blank_is ∙ b, w, t, eq-eqb maximum 255 e)
              (ap (λ (n : ℕ). Image (record { width = width; height = height; pixels = n })) starts)
            where
              starts : length file - (length (drop p file) - 1) ≡ p + 1
              starts = omega (arith, h, length-drop p file)

-- ---- a header by its fields
module _ (file : List ℕ) where
  pub no_magic : is_magic file ≡ false → header_of file ≡ Malformed
  unfolding header_of
  no_magic e = rw e refl

  module _ (magic : is_magic file ≡ true) where
    pub no_width : field_of (drop 2 file) ≡ None → header_of file ≡ Malformed
    unfolding header_of on_field
    no_width e = rw (magic, e) refl

    module _ {w : Digits} (one : Reads file (drop 2 file) w) where
      pub no_height : field_of (drop w.end file) ≡ None → header_of file ≡ Malformed
      unfolding header_of on_field
      no_height e = rw (magic, one.is, ap field_of (sym one.starts.left) ∙ e) refl

      module _ {h : Digits} (two : Reads file (drop w.end file) h) where
        pub no_maximum : field_of (drop h.end file) ≡ None → header_of file ≡ Malformed
        unfolding header_of on_field
        no_maximum e =
            rw (
              magic,
              one.is,
              ap field_of (sym one.starts.left) ∙ two.is,
              ap field_of (sym two.starts.left) ∙ e,
            ) refl

        pub all_fields : {m : Digits} → Reads file (drop h.end file) m
            → header_of file ≡ image_of (length file) w.value h.value m.value (drop m.end file)
        unfolding header_of on_field
        all_fields {m} three =
            rw (
              magic,
              one.is,
              ap field_of (sym one.starts.left) ∙ two.is,
              ap field_of (sym two.starts.left) ∙ three.is,
            )
            (sym (image_kept (length file) one.value two.value three.value three.rest)
            ∙ sym (λ i. image_of (length file) (one.kept i) (two.kept i) (three.kept i) (three.starts.left i)))
