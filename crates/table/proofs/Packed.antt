-- Laws of spans that are packed into numbers: what they tell, how they add, how a weight is multiplied by one, and those
-- of a row's bins.
-- Assumes nothing.
use Rattle.std.proofs.Common.{◌≡◌, ℕ, zero, suc, ◌+◌, ◌-◌, ◌*◌, ◌/◌, ◌%◌, ◌^◌, ◌<◌, ◌≤◌, Bool, true, false, cond, ◌&&◌, ltb, leb, List, length, get_or, set, sym, refl, ap, ◌∙◌, lt_of_le_of_lt, mul_assoc, mul-le-mul, lt_of_not-le, div-add-mod', zero-add, mul-add, arith, lit<, length-set, get_or-set_other, get_or-set_same, le-ltb, lt-ltb, eq-eqb, ne_eqb, le-leb, leb-false, leb-true}
use native.Mathlib.Decide.{ℕ_discrete, dec_le}
use borrow.Author.Tests.{lt-leb}
use Rattle.grid.specs.declared.place.Grid.{Grid}
use Rattle.grid.specs.declared.dimension.Span.{Span}
use Rattle.basics.specs.Dimension.{choose}
use Rattle.grid.specs.Size.{span_of, InSize}
use Rattle.grid.specs.Grid.{Accepted, Inside, shift_at}
use Rattle.basics.proofs.Range.{list_at, list_is}
use Rattle.grid.proofs.Size.{in_size, span_byte, size_high}
use Rattle.grid.proofs.Places.{one, two, three}
use Rattle.table.specs.declared.spans.RowSpans.{RowSpans}
use Rattle.table.specs.Sound.{between, squared_span, plus_span, in_bounds, SpanBelow}
use Rattle.table.specs.Spans.{packed_span, told_span, spans_of, row_spans, span_number, filled_spans, SpanTable}

-- ---- spans of bytes
pub byte_span : {shift bin : ℕ} → InSize shift bin → SpanBelow 255 (span_of shift bin)
unfolding span_of
byte_span {shift} {bin} i = record { low = omega arith; high = span_byte shift bin i }

pub square_byte : (n : ℕ) → n ≤ 255 → n * n ≤ 65025
square_byte n h = mul-le-mul {n₂ = 255} {m₂ = 255} h h

pub wider : {few most : ℕ} {s : Span} → few ≤ most → SpanBelow few s → SpanBelow most s
wider h b = record { low = b.low; high = omega (arith, h, b.high) }

-- their squares, and what is added to them
pub squares_below : {s : Span} → SpanBelow 255 s → SpanBelow 65025 (squared_span s)
unfolding squared_span
squares_below {s} b = record { low = mul-le-mul b.low b.low; high = square_byte s.high b.high }

pub plus_below : {few most : ℕ} {s t : Span} → SpanBelow few s → SpanBelow most t → SpanBelow (few + most) (plus_span s t)
unfolding plus_span
plus_below a b = record { low = omega (arith, a.low, b.low); high = omega (arith, a.high, b.high) }

-- ---- in one number
-- it tells the span again
pub unpack_pack : {most : ℕ} {s : Span} → SpanBelow most s → most < 4294967296 → told_span (packed_span s) ≡ s
unfolding packed_span told_span
unpack_pack {most} {s} b h =
    λ i. record { low = low_is s.low s.high under i; high = high_is s.low s.high b.low under i }
  where
    under : s.low < 4294967296
    under = omega (arith, b.low, b.high)

    low_is : (l h : ℕ) → l < 4294967296 → (l + 4294967296 * (h - l)) % 4294967296 ≡ l
    low_is l h u = omega arith

    high_is : (l h : ℕ) → l ≤ h → l < 4294967296
        → (l + 4294967296 * (h - l)) % 4294967296 + (l + 4294967296 * (h - l)) / 4294967296 ≡ h
    high_is l h o u = omega arith

-- two of them added tell the spans added
pub pack_plus : {few most : ℕ} {s t : Span} → SpanBelow few s → SpanBelow most t
    → packed_span s + packed_span t ≡ packed_span (plus_span s t)
unfolding packed_span plus_span
pack_plus a b = omega (arith, a.low, b.low)

pub pack_fits : {most : ℕ} {s : Span} → SpanBelow most s → most < 4294967296 → packed_span s < 2 ^ 64
unfolding packed_span
pack_fits b h = omega (arith, b.low, b.high)

-- ---- a weight times a span
-- a difference that wraps, held to a width
pub wrapped : (x least width sum : ℕ) → x < 2 ^ 64 → least + width < 2 ^ 64 → (x + least) % 2 ^ 64 ≡ sum
    → leb x width ≡ (leb least sum && leb sum (least + width))
wrapped x least width sum h l e = go (leb x width) refl
  where
    whole : (x + least) / 2 ^ 64 * 2 ^ 64 + sum ≡ x + least
    whole = rw (← e) (div-add-mod' (x + least) (2 ^ 64))

    go : (b : Bool) → leb x width ≡ b → b ≡ (leb least sum && leb sum (least + width))
    go true t =
        let under : x ≤ width = leb-true x width t in
        let same : sum ≡ x + least = omega (arith, whole) in
        simp (le-leb least sum (omega arith), le-leb sum (least + width) (omega arith))
    go false t =
        let over : width < x = leb-false x width t in
        low (leb least sum) refl
      where
        low : (b : Bool) → leb least sum ≡ b → false ≡ (b && leb sum (least + width))
        low false f = refl
        low true f =
            let at : least ≤ sum = leb-true least sum f in
            let over : width < x = leb-false x width t in
            sym (lt-leb sum (least + width) (omega (arith, whole)))

-- both bounds of a sum, by two products
module _ (n span : ℕ) (b : SpanBelow 195075 (told_span span)) (h : n ≤ 4294967295) where
  pub low_fits : n * (span % 4294967296) + n * (span / 4294967296) < 2 ^ 64
  unfolding told_span
  low_fits =
      rw (← mul-add n (span % 4294967296) (span / 4294967296))
      (lt_of_le_of_lt (mul-le-mul {n₂ = 4294967295} {m₂ = 195075} h b.high) (lit< tt))

  pub far_between : {x sum : ℕ} → x < 2 ^ 64 → (x + n * (span % 4294967296)) % 2 ^ 64 ≡ sum
      → leb x (n * (span / 4294967296)) ≡ between (told_span span) n sum
  unfolding between told_span
  far_between {x} {sum} f e =
      wrapped x (n * (span % 4294967296)) (n * (span / 4294967296)) sum f low_fits e
      ∙ ap (λ (k : ℕ). leb (n * (span % 4294967296)) sum && leb sum k)
      (sym (mul-add n (span % 4294967296) (span / 4294967296)))

-- and by one, where the weight is light and the span one of bytes
module _ (n span : ℕ) (b : SpanBelow 255 (told_span span)) (h : n ≤ 16843008) where
  split : n * span ≡ n * (span / 4294967296) * 4294967296 + n * (span % 4294967296)
  split =
      ap (λ (k : ℕ). n * k) (sym (div-add-mod' span 4294967296))
      ∙ mul-add n (span / 4294967296 * 4294967296) (span % 4294967296)
      ∙ ap (λ (k : ℕ). k + n * (span % 4294967296)) (sym (mul_assoc n (span / 4294967296) 4294967296))

  small : n * (span % 4294967296) + n * (span / 4294967296) ≤ 4294967040
  unfolding told_span
  small =
      rw (← mul-add n (span % 4294967296) (span / 4294967296)) (mul-le-mul {n₂ = 16843008} {m₂ = 255} h b.high)

  pub both_fit : n * span < 2 ^ 64
  both_fit = omega (arith, split, small)

  pub low_part : n * span % 4294967296 ≡ n * (span % 4294967296)
  low_part = omega (arith, split, small)

  pub width_part : n * span / 4294967296 ≡ n * (span / 4294967296)
  width_part = omega (arith, split, small)

-- ---- the third spans of a grid
even_number : (g : Grid) (b : ℕ) → span_number g (2 * b) ≡ packed_span (span_of g.shift3 b)
unfolding span_number
even_number g b =
    λ i. cond (eq-eqb (2 * b % 2) 0 (even b) i) (packed_span (span_of g.shift3 (half b i)))
    (packed_span (squared_span (span_of g.shift3 (half b i))))
  where
    even : (b : ℕ) → 2 * b % 2 ≡ 0
    even b = omega arith

    half : (b : ℕ) → 2 * b / 2 ≡ b
    half b = omega arith

odd_number : (g : Grid) (b : ℕ) → span_number g (2 * b + 1) ≡ packed_span (squared_span (span_of g.shift3 b))
unfolding span_number
odd_number g b =
    λ i. cond (ne_eqb ((2 * b + 1) % 2) 0 (odd b) i) (packed_span (span_of g.shift3 (half b i)))
    (packed_span (squared_span (span_of g.shift3 (half b i))))
  where
    odd : (b : ℕ) → (2 * b + 1) % 2 ≡ 0 → ⊥
    odd b e = omega arith

    half : (b : ℕ) → (2 * b + 1) / 2 ≡ b
    half b = omega arith

-- after n bins the list has their numbers in front, and behind them what was there
pub record SpansTo (g : Grid) (old : List ℕ) (n : ℕ) (new : List ℕ) : Type 0 where
  pub long : length new ≡ 256
  pub front : (i : ℕ) → i < 2 * n → get_or new i 0 ≡ span_number g i
  pub behind : (i : ℕ) → 2 * n ≤ i → get_or new i 0 ≡ get_or old i 0

pub spans_none : (g : Grid) (old : List ℕ) → length old ≡ 256 → SpansTo g old 0 old
spans_none g old e = record { long = e; front = λ i l. absurd (omega arith); behind = λ i l. refl }

pub spans_more : {g : Grid} {old : List ℕ} {n : ℕ} {new : List ℕ} → SpansTo g old n new → n < 128
    → {x y : ℕ} → x ≡ packed_span (span_of g.shift3 n) → y ≡ packed_span (squared_span (span_of g.shift3 n))
    → SpansTo g old (n + 1) (set (set new (2 * n) x) (2 * n + 1) y)
spans_more {g} {old} {n} {new} s h {x} {y} ex ey =
    record {
      long = length-set one (2 * n + 1) y ∙ long_one;
      front = λ i l. elim (ℕ_discrete i (2 * n + 1)) [
        | yes e ↦ rw e (get_or-set_same one (2 * n + 1) y 0 (omega (arith, long_one)) ∙ ey ∙ sym (odd_number g n))
        | no d ↦ get_or-set_other one (2 * n + 1) i y 0 d ∙ first i (omega (arith, d)) (ℕ_discrete i (2 * n))
      ];
      behind = λ i l. get_or-set_other one (2 * n + 1) i y 0 (λ e. omega arith)
          ∙ get_or-set_other new (2 * n) i x 0 (λ e. omega arith) ∙ s.behind i (omega arith);
    }
  where
    one : List ℕ
    one = set new (2 * n) x

    long_one : length one ≡ 256
    long_one = length-set new (2 * n) x ∙ s.long

    first : (i : ℕ) → i ≤ 2 * n → Dec (i ≡ 2 * n) → get_or one i 0 ≡ span_number g i
    first i l (yes e) = rw e (get_or-set_same new (2 * n) x 0 (omega (arith, s.long)) ∙ ex ∙ sym (even_number g n))
    first i l (no d) = get_or-set_other new (2 * n) i x 0 d ∙ s.front i (omega (arith, d))

pub spans_all : {g : Grid} {old new : List ℕ} → SpansTo g old g.size3 new → new ≡ filled_spans g old
unfolding filled_spans
spans_all {g} {old} {new} s =
    list_is 256 (λ i. cond (ltb i (2 * g.size3)) (span_number g i) (get_or old i 0)) new 0 s.long
    (λ i h. each i (dec_le (suc i) (2 * g.size3)))
  where
    each : (i : ℕ) → Dec (suc i ≤ 2 * g.size3)
        → get_or new i 0 ≡ cond (ltb i (2 * g.size3)) (span_number g i) (get_or old i 0)
    each i (yes l) = rw (lt-ltb i (2 * g.size3) l) (s.front i l)
    each i (no l) =
        let past : 2 * g.size3 ≤ i = omega (arith, lt_of_not-le l) in
        rw (le-ltb i (2 * g.size3) past) (s.behind i past)

pub filled_table : {g : Grid} → Accepted g → (old : List ℕ) → SpanTable g (filled_spans g old)
unfolding filled_spans
filled_table {g} a old =
    record {
      at = λ i h.
          list_at 0 256 (λ k. cond (ltb k (2 * g.size3)) (span_number g k) (get_or old k 0)) i 0
          (omega (arith, size_high (three a)))
          ∙ ap (λ (k : ℕ). cond (ltb k (2 * g.size3)) (span_number g k) (get_or old k 0)) (zero-add i)
          ∙ ap (λ (t : Bool). cond t (span_number g i) (get_or old i 0)) (lt-ltb i (2 * g.size3) h);
    }

-- ---- a bin of a row
chosen_span : (g : Grid) (r gr b d : ℕ)
    → spans_of g r gr b d ≡ choose d (span_of g.shift1 r) (span_of g.shift2 gr) (span_of g.shift3 b)
unfolding spans_of shift_at choose
chosen_span g r gr b zero = refl
chosen_span g r gr b (suc zero) = refl
chosen_span g r gr b (suc (suc d)) = refl

-- its bounds, by its three spans
pub chosen_bounds : (g : Grid) (r gr b : ℕ) (f : ℕ → ℕ)
    → in_bounds (λ d. choose d (span_of g.shift1 r) (span_of g.shift2 gr) (span_of g.shift3 b)) f
    ≡ in_bounds (spans_of g r gr b) f
chosen_bounds g r gr b f = λ i. in_bounds (λ d. sym (chosen_span g r gr b d) i) f

module _ {g : Grid} {r gr b : ℕ} (i : Inside g r gr b) where
  pub first_below : SpanBelow 255 (span_of g.shift1 r)
  first_below = byte_span (in_size (one i.accepted) r i.one)

  pub second_below : SpanBelow 255 (span_of g.shift2 gr)
  second_below = byte_span (in_size (two i.accepted) gr i.two)

  pub third_below : SpanBelow 255 (span_of g.shift3 b)
  third_below = byte_span (in_size (three i.accepted) b i.three)

  row_below : SpanBelow 130050 (plus_span (squared_span (span_of g.shift1 r)) (squared_span (span_of g.shift2 gr)))
  row_below = plus_below (squares_below first_below) (squares_below second_below)

  module _ {row : RowSpans} (e : row ≡ row_spans g r gr) where
    pub first_is : told_span row.one ≡ span_of g.shift1 r
    unfolding row_spans
    first_is = ap (λ (x : RowSpans). told_span x.one) e ∙ unpack_pack first_below (lit< tt)

    pub second_is : told_span row.two ≡ span_of g.shift2 gr
    unfolding row_spans
    second_is = ap (λ (x : RowSpans). told_span x.two) e ∙ unpack_pack second_below (lit< tt)

    module _ {t : List ℕ} (s : SpanTable g t) where
      pub third_is : told_span (get_or t (2 * b) 0) ≡ span_of g.shift3 b
      third_is = ap told_span (s.at (2 * b) (omega (arith, i.three)) ∙ even_number g b) ∙ unpack_pack third_below (lit< tt)

      all_squares : row.squares + get_or t (2 * b + 1) 0
          ≡ packed_span (plus_span (plus_span (squared_span (span_of g.shift1 r)) (squared_span (span_of g.shift2 gr)))
          (squared_span (span_of g.shift3 b)))
      unfolding row_spans
      all_squares =
          (λ j. (e j).squares + (s.at (2 * b + 1) (omega (arith, i.three)) ∙ odd_number g b) j)
          ∙ pack_plus row_below (squares_below third_below)

      all_below_lem : SpanBelow 195075 (plus_span (plus_span (squared_span (span_of g.shift1 r))
          (squared_span (span_of g.shift2 gr))) (squared_span (span_of g.shift3 b)))
      all_below_lem = plus_below row_below (squares_below third_below)

      pub squares_fit : row.squares + get_or t (2 * b + 1) 0 < 2 ^ 64
      squares_fit = rw all_squares (pack_fits all_below_lem (lit< tt))

      pub squares_are : told_span (row.squares + get_or t (2 * b + 1) 0)
          ≡ plus_span (plus_span (squared_span (span_of g.shift1 r)) (squared_span (span_of g.shift2 gr)))
          (squared_span (span_of g.shift3 b))
      squares_are = ap told_span all_squares ∙ unpack_pack all_below_lem (lit< tt)

      pub squares_under : SpanBelow 195075 (told_span (row.squares + get_or t (2 * b + 1) 0))
      squares_under = rw squares_are all_below_lem
