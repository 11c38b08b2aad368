-- The header of a PPM (Rules, Frames): its reader accepts just the grammar, and an image's plain header reads back.
-- Assumes nothing.
use mathlib.Core.Path.{◌≡◌, refl, sym, ap, subst, ◌∙◌}
use mathlib.Core.Bool.{Bool, true, false, true≢false, ◌&&◌, ◌||◌, cond}
use mathlib.Core.List.{List, [], ◌∷◌, ◌++◌, append_assoc}
use Prim.Native.Nat.{ℕ, zero, suc, ◌+◌, ◌-◌, ◌*◌, ◌/◌, ◌%◌, ◌≤◌, ◌<◌}
use native.Mathlib.Decide.{ℕ_discrete, dec_le}
use native.Mathlib.Nat.{mod-lt, div-add-mod', lt_of_not-le}
use native.Mathlib.Omega.{arith}
use borrow.Author.Tests.{ne_eqb, eqb-true, eqb-false, le-leb, leb-true}
use lib.Dec.{eqb, leb}
use lib.ListN.{length, drop, length-append}
use lib.Seq.{append_snoc}
use Rattle.basics.proofs.Range.{and_left, and_right}
use Rattle.lines.specs.Text.{digits_within, decimal_of}
use Rattle.lines.proofs.Decimal.{tenth, decimal_one, decimal_more}
use Rattle.ppm.specs.declared.header.Frame.{Frame}
use Rattle.ppm.specs.declared.header.Header.{Header}
use Rattle.ppm.specs.declared.header.Header.TheVariants.{Image, Maximum, Malformed}
use Rattle.ppm.specs.Header.{is_line_end, is_blank, is_digit, opens, in_gap, after_gap, has_blank, is_number, value_from}
use Rattle.ppm.specs.Header.{after_number, Field, None, Read, field_of, on_field, is_magic, starts_blank, behind_blank}
use Rattle.ppm.specs.Header.{is_side, image_of, header_of, header_answer}
use Rattle.ppm.proofs.Numbers.{digit_says}
use Rattle.promises.specs.Grammar.{LineEnd, CR, LF, White, Blank, Tab, Line, end_byte, white_byte, Piece, Space}
use Rattle.promises.specs.Grammar.{Comment, piece_text, pieces_text, NoLineEnd, ArePieces, some_space, Gap}
use Rattle.promises.specs.Grammar.{AreDigits, digits_text, worth_from, Number, WellFormed, IsSide}
use Rattle.promises.specs.Grammar.{a_side, said_of, RightOf, plain_header}

-- ---- the reader's tests of bytes
white_in : (w : White) → in_gap false (white_byte w) ≡ true
unfolding in_gap is_blank is_line_end white_byte end_byte
white_in Blank = refl
white_in Tab = refl
white_in (Line CR) = refl
white_in (Line LF) = refl

white_shut : (w : White) → opens false (white_byte w) ≡ false
unfolding opens is_line_end white_byte end_byte
white_shut Blank = refl
white_shut Tab = refl
white_shut (Line CR) = refl
white_shut (Line LF) = refl

white_blank : (w : White) → is_blank (white_byte w) ≡ true
unfolding is_blank is_line_end white_byte end_byte
white_blank Blank = refl
white_blank Tab = refl
white_blank (Line CR) = refl
white_blank (Line LF) = refl

white_no_digit : (w : White) → is_digit (white_byte w) ≡ false
unfolding is_digit white_byte end_byte
white_no_digit Blank = refl
white_no_digit Tab = refl
white_no_digit (Line CR) = refl
white_no_digit (Line LF) = refl

hash_in : in_gap false 35 ≡ true
unfolding in_gap is_blank is_line_end
hash_in = refl

hash_opens : opens false 35 ≡ true
unfolding opens is_line_end
hash_opens = refl

hash_no_blank : is_blank 35 ≡ false
unfolding is_blank is_line_end
hash_no_blank = refl

end_shuts : (e : LineEnd) → opens true (end_byte e) ≡ false
unfolding opens is_line_end end_byte
end_shuts CR = refl
end_shuts LF = refl

stays_open : (c : ℕ) → (c ≡ 13 → ⊥) → (c ≡ 10 → ⊥) → opens true c ≡ true
unfolding opens is_line_end
stays_open c n m = rw (ne_eqb c 13 n, ne_eqb c 10 m) refl

digit_by : (c : ℕ) → 48 ≤ c → c ≤ 57 → is_digit c ≡ true
unfolding is_digit
digit_by c h l = rw (le-leb 48 c h, le-leb c 57 l) refl

-- no digit is a byte of a gap
digit_out : (c : ℕ) → is_digit c ≡ true → in_gap false c ≡ false
unfolding in_gap is_blank is_line_end
digit_out c e =
    let d = digit_says c e in
    rw (
      ne_eqb c 32 (λ q. omega (arith, d.0)),
      ne_eqb c 9 (λ q. omega (arith, d.0)),
      ne_eqb c 13 (λ q. omega (arith, d.0)),
      ne_eqb c 10 (λ q. omega (arith, d.0)),
      ne_eqb c 35 (λ q. omega (arith, d.0)),
    ) refl

-- ---- a gap is read
-- the rest of a comment
comment_read : (inside : List ℕ) → NoLineEnd inside → (e : LineEnd) (rest : List ℕ)
    → (after_gap true (inside ++ end_byte e ∷ rest) ≡ after_gap false rest)
    × (has_blank true (inside ++ end_byte e ∷ rest) ≡ has_blank false rest)
unfolding after_gap has_blank in_gap
comment_read [] h e rest = rw (end_shuts e) (refl, refl)
comment_read (c ∷ cs) h e rest = rw (stays_open c h.0 h.1) (comment_read cs h.2 e rest)

pieces_read : (ps : List Piece) → ArePieces ps → (rest : List ℕ)
    → (after_gap false (pieces_text ps ++ rest) ≡ after_gap false rest)
    × (has_blank false (pieces_text ps ++ rest) ≡ (some_space ps || has_blank false rest))
unfolding after_gap has_blank pieces_text piece_text some_space
pieces_read [] h rest = (refl, refl)
pieces_read (Space w ∷ ps) h rest =
    rw (white_in w, white_shut w, white_blank w) ((pieces_read ps h rest).0, refl)
pieces_read (Comment inside e ∷ ps) h rest =
    let behind : List ℕ = pieces_text ps ++ rest in
    let joined = append_assoc (inside ++ end_byte e ∷ []) (pieces_text ps) rest ∙ append_snoc inside (end_byte e) behind in
    let now = comment_read inside h.0 e behind in
    let later = pieces_read ps h.1 rest in
    rw (hash_in, hash_opens, hash_no_blank)
    (ap (after_gap true) joined ∙ now.0 ∙ later.0, ap (has_blank true) joined ∙ now.1 ∙ later.1)

-- no gap begins as a number
gap_no_number : {gap : List ℕ} → Gap gap → (rest : List ℕ) → is_number (gap ++ rest) ≡ false
unfolding some_space pieces_text piece_text is_number is_digit
gap_no_number {gap} g rest =
    ap (λ (l : List ℕ). is_number (l ++ rest)) g.is ∙ go g.pieces g.some
  where
    go : (ps : List Piece) → some_space ps ≡ true → is_number (pieces_text ps ++ rest) ≡ false
    go [] e = absurd (true≢false (sym e))
    go (Space w ∷ ps) e = white_no_digit w
    go (Comment inside end ∷ ps) e = refl

-- ---- a number is read
digits_read : (ds : List ℕ) → AreDigits ds → (rest : List ℕ)
    → (after_number (digits_text ds ++ rest) ≡ after_number rest)
    × ((before : ℕ) → value_from before (digits_text ds ++ rest) ≡ value_from (worth_from before ds) rest)
unfolding after_number value_from digits_text worth_from
digits_read [] h rest = (refl, λ before. refl)
digits_read (d ∷ ds) h rest =
    let later = digits_read ds h.1 rest in
    let same : 48 + d - 48 ≡ d = omega arith in
    rw (digit_by (48 + d) (omega arith) (omega (arith, h.0)), same) (later.0, λ before. later.1 (10 * before + d))

digits_first : (ds : List ℕ) → AreDigits ds → 1 ≤ length ds → (rest : List ℕ)
    → (is_number (digits_text ds ++ rest) ≡ true) × (after_gap false (digits_text ds ++ rest) ≡ digits_text ds ++ rest)
unfolding is_number after_gap digits_text
digits_first [] h n rest = absurd (omega arith)
digits_first (d ∷ ds) h n rest =
    let is = digit_by (48 + d) (omega arith) (omega (arith, h.0)) in
    (is, rw (digit_out (48 + d) is) refl)

-- where no digit follows, nothing more is
no_digit_follows : (rest : List ℕ) → is_number rest ≡ false
    → (after_number rest ≡ rest) × ((before : ℕ) → value_from before rest ≡ before)
unfolding is_number after_number value_from
no_digit_follows [] e = (refl, λ before. refl)
no_digit_follows (c ∷ cs) e = rw e (refl, λ before. refl)

-- ---- a gap and a number are a field
field_reads : {gap number : List ℕ} {value : ℕ} → Gap gap → Number number value → (rest : List ℕ)
    → is_number rest ≡ false → field_of (gap ++ (number ++ rest)) ≡ Read value rest
unfolding field_of
field_reads g n rest ends =
    let digits : List ℕ = digits_text n.digits ++ rest in
    let gap_is = pieces_read g.pieces g.are digits in
    let first = digits_first n.digits n.are n.some rest in
    let all = digits_read n.digits n.are rest in
    let last = no_digit_follows rest ends in
    rw (
      g.is,
      n.is,
      n.worth,
      gap_is.1,
      g.some,
      gap_is.0 ∙ first.1,
      first.0,
      all.0 ∙ last.0,
      all.1 0 ∙ last.1 (worth_from 0 n.digits),
    ) refl

-- ---- a well-formed text is read
module _ {text : List ℕ} {width height maximum : ℕ} (w : WellFormed text width height maximum) (pixels : List ℕ) where
  -- what is left of the file behind `P6` and behind each number
  abbrev after3 : List ℕ
  after3 = white_byte w.last ∷ pixels

  abbrev after2 : List ℕ
  after2 = w.gap3 ++ (w.number3 ++ after3)

  abbrev after1 : List ℕ
  after1 = w.gap2 ++ (w.number2 ++ after2)

  abbrev after0 : List ℕ
  after0 = w.gap1 ++ (w.number1 ++ after1)

  joined : text ++ pixels ≡ 80 ∷ 54 ∷ after0
  joined = ap (λ (l : List ℕ). l ++ pixels) w.is ∙ simp append_assoc

  one : field_of after0 ≡ Read width after1
  one = field_reads w.is_gap1 w.is_width after1 (gap_no_number w.is_gap2 (w.number2 ++ after2))

  two : field_of after1 ≡ Read height after2
  two = field_reads w.is_gap2 w.is_height after2 (gap_no_number w.is_gap3 (w.number3 ++ after3))

  three : field_of after2 ≡ Read maximum after3
  unfolding is_number
  three = field_reads w.is_gap3 w.is_maximum after3 (white_no_digit w.last)

  pixels_at : length (80 ∷ 54 ∷ after0) - (length after3 - 1) ≡ length text
  pixels_at = omega (arith, ap length joined, length-append text pixels)

  -- The reader says of a well-formed text, whatever pixels follow it, what is to be said.
  pub grammar_read : header_of (text ++ pixels) ≡ said_of width height maximum (length text)
  unfolding header_of is_magic on_field image_of starts_blank behind_blank is_side said_of a_side
  grammar_read = ap header_of joined ∙ rw (one, two, three, white_blank w.last, pixels_at) refl

-- ---- what a gap was read from
-- a byte of a file: whitespace, the start of a comment, or of no gap
data Kind (c : ℕ) : Type 0 where
  white : (w : White) → c ≡ white_byte w → Kind c
  hashed : c ≡ 35 → Kind c
  other : in_gap false c ≡ false → Kind c

kind : (c : ℕ) → Kind c
unfolding in_gap is_blank is_line_end white_byte end_byte
kind c = go (ℕ_discrete c 32) (ℕ_discrete c 9) (ℕ_discrete c 13) (ℕ_discrete c 10) (ℕ_discrete c 35)
  where
    go : Dec (c ≡ 32) → Dec (c ≡ 9) → Dec (c ≡ 13) → Dec (c ≡ 10) → Dec (c ≡ 35) → Kind c
    go (yes e) b d f g = white Blank e
    go (no a) (yes e) d f g = white Tab e
    go (no a) (no b) (yes e) f g = white (Line CR) e
    go (no a) (no b) (no d) (yes e) g = white (Line LF) e
    go (no a) (no b) (no d) (no f) (yes e) = hashed e
    go (no a) (no b) (no d) (no f) (no g) =
        other (rw (ne_eqb c 32 a, ne_eqb c 9 b, ne_eqb c 13 d, ne_eqb c 10 f, ne_eqb c 35 g) refl)

-- bytes that are pieces of a gap and then a rest, with whitespace among the pieces or not
record Outside (xs rest : List ℕ) (blank : Bool) : Type 0 where
  pieces : List Piece
  are : ArePieces pieces
  is : xs ≡ pieces_text pieces ++ rest
  some : blank ≡ some_space pieces

-- or the same behind the end of a comment
record Within (xs rest : List ℕ) (blank : Bool) : Type 0 where
  inside : List ℕ
  none : NoLineEnd inside
  end : LineEnd
  behind : List ℕ
  is : xs ≡ inside ++ end_byte end ∷ behind
  then : Outside behind rest blank

-- one byte more in front
module _ {xs rest : List ℕ} {blank : Bool} where
  with_space : (w : White) → Outside xs rest blank → Outside (white_byte w ∷ xs) rest true
  unfolding pieces_text piece_text some_space
  with_space w o =
      record {
        pieces = Space w ∷ o.pieces;
        are = o.are;
        is = ap (λ (l : List ℕ). white_byte w ∷ l) o.is;
        some = refl;
      }

  with_hash : Within xs rest blank → Outside (35 ∷ xs) rest blank
  unfolding pieces_text piece_text some_space
  with_hash t =
      let o = t.then in
      record {
        pieces = Comment t.inside t.end ∷ o.pieces;
        are = (t.none, o.are);
        is =
            ap (λ (l : List ℕ). 35 ∷ l)
            (t.is
            ∙ ap (λ (l : List ℕ). t.inside ++ end_byte t.end ∷ l) o.is
            ∙ sym (append_assoc (t.inside ++ end_byte t.end ∷ []) (pieces_text o.pieces) rest
            ∙ append_snoc t.inside (end_byte t.end) (pieces_text o.pieces ++ rest)));
        some = o.some;
      }

  with_end : (e : LineEnd) → Outside xs rest blank → Within (end_byte e ∷ xs) rest blank
  with_end e o = record { inside = []; none = tt; end = e; behind = xs; is = refl; then = o }

  with_inside : {c : ℕ} → (c ≡ 13 → ⊥) → (c ≡ 10 → ⊥) → Within xs rest blank → Within (c ∷ xs) rest blank
  with_inside {c} n m t =
      record {
        inside = c ∷ t.inside;
        none = (n, m, t.none);
        end = t.end;
        behind = t.behind;
        is = ap (λ (l : List ℕ). c ∷ l) t.is;
        then = t.then;
      }

-- the bytes of a gap that was read up to a number
gap_of : (xs : List ℕ)
    → (is_number (after_gap false xs) ≡ true → Outside xs (after_gap false xs) (has_blank false xs))
    × (is_number (after_gap true xs) ≡ true → Within xs (after_gap true xs) (has_blank true xs))
unfolding is_number after_gap has_blank in_gap some_space pieces_text end_byte
gap_of [] = (λ e. absurd (true≢false (sym e)), λ e. absurd (true≢false (sym e)))
gap_of (c ∷ cs) =
    let later = gap_of cs in
    (outside (kind c) later.0 later.1, within (ℕ_discrete c 13) (ℕ_discrete c 10) later.0 later.1)
  where
    outside : Kind c
        → (is_number (after_gap false cs) ≡ true → Outside cs (after_gap false cs) (has_blank false cs))
        → (is_number (after_gap true cs) ≡ true → Within cs (after_gap true cs) (has_blank true cs))
        → is_number (after_gap false (c ∷ cs)) ≡ true
        → Outside (c ∷ cs) (after_gap false (c ∷ cs)) (has_blank false (c ∷ cs))
    outside (white w q) out in-comment e =
        let a = ap (in_gap false) q ∙ white_in w in
        let b = ap (opens false) q ∙ white_shut w in
        rw (a, b, ap is_blank q ∙ white_blank w, q) (with_space w (out (rw (a, b) at e)))
    outside (hashed q) out in-comment e =
        let a = ap (in_gap false) q ∙ hash_in in
        let b = ap (opens false) q ∙ hash_opens in
        rw (a, b, ap is_blank q ∙ hash_no_blank, q) (with_hash (in-comment (rw (a, b) at e)))
    outside (other q) out in-comment e = rw q (record { pieces = []; are = tt; is = refl; some = refl })

    within : Dec (c ≡ 13) → Dec (c ≡ 10)
        → (is_number (after_gap false cs) ≡ true → Outside cs (after_gap false cs) (has_blank false cs))
        → (is_number (after_gap true cs) ≡ true → Within cs (after_gap true cs) (has_blank true cs))
        → is_number (after_gap true (c ∷ cs)) ≡ true
        → Within (c ∷ cs) (after_gap true (c ∷ cs)) (has_blank true (c ∷ cs))
    within (yes q) b out in-comment e =
        let a = ap (opens true) q ∙ end_shuts CR in rw (a, q) (with_end CR (out (rw a at e)))
    within (no n) (yes q) out in-comment e =
        let a = ap (opens true) q ∙ end_shuts LF in rw (a, q) (with_end LF (out (rw a at e)))
    within (no n) (no m) out in-comment e =
        let a = stays_open c n m in rw a (with_inside n m (in-comment (rw a at e)))

-- ---- what a number was read from
-- bytes that are digits and then a rest
record Digits (xs rest : List ℕ) (before value : ℕ) : Type 0 where
  digits : List ℕ
  are : AreDigits digits
  some : is_number xs ≡ true → 1 ≤ length digits
  is : xs ≡ digits_text digits ++ rest
  worth : value ≡ worth_from before digits

digits_of : (xs : List ℕ) (before : ℕ) → Digits xs (after_number xs) before (value_from before xs)
unfolding is_number after_number value_from digits_text worth_from
digits_of [] before =
    record { digits = []; are = tt; some = λ n. absurd (true≢false (sym n)); is = refl; worth = refl }
digits_of (c ∷ cs) before = go (is_digit c) refl (digits_of cs next)
  where
    next : ℕ
    next = 10 * before + (c - 48)

    go : (b : Bool) → is_digit c ≡ b → Digits cs (after_number cs) next (value_from next cs)
        → Digits (c ∷ cs) (cond b (after_number cs) (c ∷ cs)) before (cond b (value_from next cs) before)
    go true e later =
        let d = digit_says c e in
        let same : c ≡ 48 + (c - 48) = omega (arith, d.0) in
        record {
          digits = (c - 48) ∷ later.digits;
          are = (omega (arith, d.1), later.are);
          some = λ n. omega arith;
          is = λ i. same i ∷ later.is i;
          worth = later.worth;
        }
    go false e later =
        record { digits = []; are = tt; some = λ n. absurd (true≢false (sym n ∙ e)); is = refl; worth = refl }

-- ---- what a field was read from
record FieldIn (xs : List ℕ) (value : ℕ) (rest : List ℕ) : Type 0 where
  gap : List ℕ
  is_gap : Gap gap
  number : List ℕ
  is_number_lem : Number number value
  is : xs ≡ gap ++ (number ++ rest)

is_read : Field → Bool
is_read None = false
is_read (Read value rest) = true

value_or : ℕ → Field → ℕ
value_or v None = v
value_or v (Read value rest) = value

rest_or : List ℕ → Field → List ℕ
rest_or r None = r
rest_or r (Read value rest) = rest

field_of_lem : (xs : List ℕ) {value : ℕ} {rest : List ℕ} → field_of xs ≡ Read value rest → FieldIn xs value rest
unfolding field_of is_read value_or rest_or
field_of_lem xs {value} {rest} e = go (has_blank false xs && is_number (after_gap false xs)) refl e
  where
    behind : List ℕ
    behind = after_gap false xs

    go : (b : Bool) → (has_blank false xs && is_number behind) ≡ b
        → cond b (Read (value_from 0 behind) (after_number behind)) None ≡ Read value rest → FieldIn xs value rest
    go true t q =
        let n = and_right (has_blank false xs) (is_number behind) t in
        let o = (gap_of xs).0 n in
        let d = digits_of behind 0 in
        record {
          gap = pieces_text o.pieces;
          is_gap = record {
            pieces = o.pieces;
            are = o.are;
            some = sym o.some ∙ and_left (has_blank false xs) (is_number behind) t;
            is = refl;
          };
          number = digits_text d.digits;
          is_number_lem = record {
            digits = d.digits;
            are = d.are;
            some = d.some n;
            is = refl;
            worth = sym (ap (value_or 0) q) ∙ d.worth;
          };
          is =
              o.is
              ∙ ap (λ (l : List ℕ). pieces_text o.pieces ++ l)
              (d.is ∙ ap (λ (l : List ℕ). digits_text d.digits ++ l) (ap (rest_or []) q));
        }
    go false t q = absurd (true≢false (sym (ap is_read q)))

-- ---- what a header was read from
record HeaderIn (file : List ℕ) : Type 0 where
  text : List ℕ
  pixels : List ℕ
  width : ℕ
  height : ℕ
  maximum : ℕ
  formed : WellFormed text width height maximum
  is : file ≡ text ++ pixels

magic_text : (file : List ℕ) → is_magic file ≡ true → file ≡ 80 ∷ 54 ∷ drop 2 file
unfolding is_magic
magic_text [] e = absurd (true≢false (sym e))
magic_text (a ∷ []) e = absurd (true≢false (sym e))
magic_text (a ∷ b ∷ rest) e =
    let is-80 = eqb-true a 80 (and_left (eqb a 80) (eqb b 54) e) in
    let is-54 = eqb-true b 54 (and_right (eqb a 80) (eqb b 54) e) in
    λ i. is-80 i ∷ is-54 i ∷ rest

-- one whitespace in front
record White1 (rest : List ℕ) : Type 0 where
  first : White
  then : List ℕ
  is : rest ≡ white_byte first ∷ then

white_text : (rest : List ℕ) → starts_blank rest ≡ true → White1 rest
unfolding starts_blank in_gap is_blank is_line_end
white_text [] e = absurd (true≢false (sym e))
white_text (c ∷ cs) e = go (kind c)
  where
    go : Kind c → White1 (c ∷ cs)
    go (white w q) = record { first = w; then = cs; is = ap (λ (b : ℕ). b ∷ cs) q }
    go (hashed q) = absurd (true≢false (sym e ∙ ap is_blank q))
    go (other q) = absurd (true≢false (sym (ap (λ (b : Bool). b || eqb c 35) e) ∙ q))

module _ (file : List ℕ) (told : header_of file ≡ Malformed → ⊥) where
  module _ (magic : is_magic file ≡ true) where
    module _ {width height maximum : ℕ} {rest1 rest2 rest3 : List ℕ} (one : field_of (drop 2 file) ≡ Read width rest1)
        (two : field_of rest1 ≡ Read height rest2) (three : field_of rest2 ≡ Read maximum rest3) where
      header_of_lem : (b : Bool) → starts_blank rest3 ≡ b → HeaderIn file
      unfolding header_of on_field image_of
      header_of_lem false e = absurd (told (rw (magic, one, two, three, e) refl))
      header_of_lem true e =
          let f1 = field_of_lem (drop 2 file) one in
          let f2 = field_of_lem rest1 two in
          let f3 = field_of_lem rest2 three in
          let w = white_text rest3 e in
          record {
            text =
                80 ∷ 54 ∷ f1.gap ++ f1.number ++ f2.gap ++ f2.number ++ f3.gap ++ f3.number
                ++ white_byte w.first ∷ [];
            pixels = w.then;
            width = width;
            height = height;
            maximum = maximum;
            formed = record {
              gap1 = f1.gap;
              is_gap1 = f1.is_gap;
              number1 = f1.number;
              is_width = f1.is_number_lem;
              gap2 = f2.gap;
              is_gap2 = f2.is_gap;
              number2 = f2.number;
              is_height = f2.is_number_lem;
              gap3 = f3.gap;
              is_gap3 = f3.is_gap;
              number3 = f3.number;
              is_maximum = f3.is_number_lem;
              last = w.first;
              is = refl;
            };
            is =
                magic_text file magic
                ∙ ap (λ (l : List ℕ). 80 ∷ 54 ∷ l)
                (f1.is ∙ ap (λ (l : List ℕ). f1.gap ++ (f1.number ++ l))
                (f2.is ∙ ap (λ (l : List ℕ). f2.gap ++ (f2.number ++ l))
                (f3.is ∙ ap (λ (l : List ℕ). f3.gap ++ (f3.number ++ l)) w.is)))
                ∙ simp append_assoc;
          }

    with_magic : HeaderIn file
    unfolding header_of on_field
    with_magic = width_of (field_of (drop 2 file)) refl
      where
        maximum_of : {width height : ℕ} {rest1 rest2 : List ℕ} → field_of (drop 2 file) ≡ Read width rest1
            → field_of rest1 ≡ Read height rest2 → (f : Field) → field_of rest2 ≡ f → HeaderIn file
        maximum_of one two None q = absurd (told (rw (magic, one, two, q) refl))
        maximum_of one two (Read maximum rest3) q = header_of_lem one two q (starts_blank rest3) refl

        height_of : {width : ℕ} {rest1 : List ℕ} → field_of (drop 2 file) ≡ Read width rest1
            → (f : Field) → field_of rest1 ≡ f → HeaderIn file
        height_of one None q = absurd (told (rw (magic, one, q) refl))
        height_of one (Read height rest2) q = maximum_of one q (field_of rest2) refl

        width_of : (f : Field) → field_of (drop 2 file) ≡ f → HeaderIn file
        width_of None q = absurd (told (rw (magic, q) refl))
        width_of (Read width rest1) q = height_of q (field_of rest1) refl

  header_in : HeaderIn file
  unfolding header_of
  header_in = go (is_magic file) refl
    where
      go : (b : Bool) → is_magic file ≡ b → HeaderIn file
      go true e = with_magic e
      go false e = absurd (told (rw e refl))

-- ---- the reader accepts just the grammar
side_in : (n : ℕ) → IsSide n → a_side n ≡ true
unfolding a_side
side_in n h = rw (le-leb 1 n h.0, le-leb n 65535 h.1) refl

in_side : (n : ℕ) → a_side n ≡ true → IsSide n
unfolding a_side
in_side n e = (
  leb-true 1 n (and_left (leb 1 n) (leb n 65535) e),
  leb-true n 65535 (and_right (leb 1 n) (leb n 65535) e),
)

frame_or : Frame → Header → Frame
frame_or z (Image f) = f
frame_or z Maximum = z
frame_or z Malformed = z

-- two cases of a header have different numbers
unlike : {a b : Header} → a ≡ b → ((header_answer a).number ≡ (header_answer b).number → ⊥) → ⊥
unlike e n = n (ap (λ (h : Header). (header_answer h).number) e)

-- which numbers are said to be what
module _ (width height maximum place : ℕ) where
  abbrev sides : Bool
  sides = a_side width && a_side height

  both : sides ≡ true → IsSide width × IsSide height
  both e = (
    in_side width (and_left (a_side width) (a_side height) e),
    in_side height (and_right (a_side width) (a_side height) e),
  )

  abbrev all : Frame
  all = record { width = width; height = height; pixels = place }

  said_image : {f : Frame} → said_of width height maximum place ≡ Image f
      → IsSide width × IsSide height × (maximum ≡ 255) × (f ≡ all)
  unfolding said_of header_answer frame_or
  said_image {f} e = go sides refl (eqb maximum 255) refl e
    where
      go : (b : Bool) → sides ≡ b → (c : Bool) → eqb maximum 255 ≡ c
          → cond b (cond c (Image all) Maximum) Malformed ≡ Image f
          → IsSide width × IsSide height × (maximum ≡ 255) × (f ≡ all)
      go true s true t q = let h = both s in (h.0, h.1, eqb-true maximum 255 t, sym (ap (frame_or f) q))
      go true s false t q = absurd (unlike q (λ n. omega arith))
      go false s c t q = absurd (unlike q (λ n. omega arith))

  said_maximum : said_of width height maximum place ≡ Maximum → IsSide width × IsSide height × (maximum ≡ 255 → ⊥)
  unfolding said_of header_answer
  said_maximum e = go sides refl (eqb maximum 255) refl e
    where
      go : (b : Bool) → sides ≡ b → (c : Bool) → eqb maximum 255 ≡ c
          → cond b (cond c (Image all) Maximum) Malformed ≡ Maximum
          → IsSide width × IsSide height × (maximum ≡ 255 → ⊥)
      go true s true t q = absurd (unlike q (λ n. omega arith))
      go true s false t q = let h = both s in (h.0, h.1, eqb-false maximum 255 t)
      go false s c t q = absurd (unlike q (λ n. omega arith))

  said_malformed : IsSide width → IsSide height → said_of width height maximum place ≡ Malformed → ⊥
  unfolding said_of header_answer
  said_malformed w h e = go sides (rw (side_in width w, side_in height h) refl) (eqb maximum 255) e
    where
      go : (b : Bool) → b ≡ true → (c : Bool) → cond b (cond c (Image all) Maximum) Malformed ≡ Malformed → ⊥
      go true s true q = unlike q (λ n. omega arith)
      go true s false q = unlike q (λ n. omega arith)
      go false s c q = true≢false (sym s)

-- What the reader says of a file is right: an image or another maximum for just the files of the grammar, with their
-- numbers, and malformed for all others.
pub read_grammar : (file : List ℕ) → RightOf file (header_of file)
unfolding header_answer
read_grammar file = go (header_of file) refl
  where
    said : (t : HeaderIn file) {h : Header} → header_of file ≡ h
        → said_of t.width t.height t.maximum (length t.text) ≡ h
    said t e = sym (grammar_read t.formed t.pixels) ∙ ap header_of (sym t.is) ∙ e

    go : (h : Header) → header_of file ≡ h → RightOf file h
    go Malformed e =
        λ width height maximum place g.
        said_malformed width height maximum (length g.text) g.wide g.high
        (sym (grammar_read g.formed g.pixels) ∙ ap header_of (sym g.is) ∙ e)
    go Maximum e =
        let t = header_in file (λ m. unlike (sym e ∙ m) (λ n. omega arith)) in
        let s = said_maximum t.width t.height t.maximum (length t.text) (said t e) in
        record {
          width = t.width;
          height = t.height;
          maximum = t.maximum;
          place = length t.text;
          has = record {
            text = t.text;
            pixels = t.pixels;
            is = t.is;
            formed = t.formed;
            wide = s.0;
            high = s.1;
            starts = refl;
          };
          other = s.2;
        }
    go (Image f) e =
        let t = header_in file (λ m. unlike (sym e ∙ m) (λ n. omega arith)) in
        let s = said_image t.width t.height t.maximum (length t.text) (said t e) in
        rw s.3
        (record {
          text = t.text;
          pixels = t.pixels;
          is = t.is;
          formed = subst (WellFormed t.text t.width t.height) s.2 t.formed;
          wide = s.0;
          high = s.1;
          starts = refl;
        })

-- ---- the plain header reads back
-- digits with one more behind them
module _ (d : ℕ) where
  more_are : (ds : List ℕ) → AreDigits ds → d ≤ 9 → AreDigits (ds ++ d ∷ [])
  more_are [] h l = (l, tt)
  more_are (e ∷ ds) h l = (h.0, more_are ds h.1 l)

  more_text : (ds : List ℕ) → digits_text (ds ++ d ∷ []) ≡ digits_text ds ++ (48 + d) ∷ []
  unfolding digits_text
  more_text [] = refl
  more_text (e ∷ ds) = ap (λ (l : List ℕ). (48 + e) ∷ l) (more_text ds)

  more_worth : (ds : List ℕ) (before : ℕ) → worth_from before (ds ++ d ∷ []) ≡ 10 * worth_from before ds + d
  unfolding worth_from
  more_worth [] before = refl
  more_worth (e ∷ ds) before = more_worth ds (10 * before + e)

-- the decimals of a number are that number
decimal_number : (n : ℕ) → Number (decimal_of n) n
unfolding digits_text worth_from
decimal_number n = below (suc n) n (omega arith)
  where
    small : (m : ℕ) → m < 10 → Number (decimal_of m) m
    small m h =
        record {
          digits = m % 10 ∷ [];
          are = (omega (arith, mod-lt m {m = 10} (omega arith)), tt);
          some = omega arith;
          is = decimal_one m h;
          worth = omega (arith, div-add-mod' m 10);
        }

    large : (m : ℕ) → 10 ≤ m → Number (decimal_of (m / 10)) (m / 10) → Number (decimal_of m) m
    large m h front =
        let ds = front.digits in
        record {
          digits = ds ++ (m % 10) ∷ [];
          are = more_are (m % 10) ds front.are (omega (arith, mod-lt m {m = 10} (omega arith)));
          some = omega (arith, length-append ds ((m % 10) ∷ []));
          is =
              decimal_more m h ∙ ap (λ (l : List ℕ). l ++ (48 + m % 10) ∷ []) front.is
              ∙ sym (more_text (m % 10) ds);
          worth = omega (arith, div-add-mod' m 10, front.worth, more_worth (m % 10) ds 0);
        }

    step : (k m : ℕ) → m < suc k → ((i : ℕ) → i < k → Number (decimal_of i) i) → Dec (10 ≤ m) → Number (decimal_of m) m
    step k m h lower (yes l) = let t = tenth l in large m l (lower (m / 10) (omega arith))
    step k m h lower (no l) = small m (lt_of_not-le l)

    below : (k m : ℕ) → m < k → Number (decimal_of m) m
    below zero m h = absurd (omega arith)
    below (suc k) m h = step k m h (below k) (dec_le 10 m)

space : (w : White) → Gap (white_byte w ∷ [])
unfolding pieces_text piece_text some_space
space w = record { pieces = Space w ∷ []; are = tt; some = refl; is = refl }

plain_formed : (width height : ℕ) → WellFormed (plain_header width height) width height 255
unfolding plain_header white_byte end_byte digits_text worth_from
plain_formed width height =
    record {
      gap1 = 10 ∷ [];
      is_gap1 = space (Line LF);
      number1 = decimal_of width;
      is_width = decimal_number width;
      gap2 = 32 ∷ [];
      is_gap2 = space Blank;
      number2 = decimal_of height;
      is_height = decimal_number height;
      gap3 = 10 ∷ [];
      is_gap3 = space (Line LF);
      number3 = 50 ∷ 53 ∷ 53 ∷ [];
      is_maximum = record {
        digits = 2 ∷ 5 ∷ 5 ∷ [];
        are = (omega arith, (omega arith, (omega arith, tt)));
        some = omega arith;
        is = refl;
        worth = refl;
      };
      last = Line LF;
      is = simp append_assoc;
    }

-- For every width and height from 1 to 65,535 the plain header reads back, whatever pixels follow it.
pub reads_back : (width height : ℕ) → IsSide width → IsSide height → (pixels : List ℕ)
    → header_of (plain_header width height ++ pixels)
    ≡ Image (record { width = width; height = height; pixels = length (plain_header width height) })
unfolding said_of
reads_back width height w h pixels =
    grammar_read (plain_formed width height) pixels ∙ rw (side_in width w, side_in height h) refl

-- ---- examples
-- a comment and a TAB are a gap, and a comment alone is none
comment_tab : Gap (35 ∷ 57 ∷ 10 ∷ 9 ∷ [])
unfolding pieces_text piece_text some_space white_byte end_byte
comment_tab =
    record {
      pieces = Comment (57 ∷ []) LF ∷ Space Tab ∷ [];
      are = (((λ e. omega arith), (λ e. omega arith), tt), tt);
      some = refl;
      is = refl;
    }

comment_alone : Gap (35 ∷ 57 ∷ 10 ∷ []) → ⊥
unfolding has_blank in_gap opens is_blank is_line_end
comment_alone g =
    true≢false
    (sym (ap (λ (b : Bool). b || false) g.some)
    ∙ sym (pieces_read g.pieces g.are []).1
    ∙ ap (λ (l : List ℕ). has_blank false (l ++ [])) (sym g.is))

-- the plain header of two pixels in a row
plain_two : plain_header 2 1 ≡ 80 ∷ 54 ∷ 10 ∷ 50 ∷ 32 ∷ 49 ∷ 10 ∷ 50 ∷ 53 ∷ 53 ∷ 10 ∷ []
unfolding plain_header decimal_of digits_within
plain_two = refl
