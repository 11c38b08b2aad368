-- `ppm::header::read_header` meets its contract, field by field.
-- Assumes nothing.
use mathlib.Core.Path.{◌≡◌, sym, ◌∙◌}
use mathlib.Core.Bool.{true}
use mathlib.Core.List.{List}
use Prim.Native.Nat.{ℕ}
use lib.ListN.{drop}
use Rattle.ppm.specs.Header.{is_magic}
use Rattle.ppm.proofs.Tails.{tail_drop}
use Rattle.ppm.proofs.Headers.{Reads, magic_long, field_read, field_none, no_magic, no_width, no_height, no_maximum, all_fields}
use Rattle.ppm.proofs.header.read_header.Goals.{Else-not-is_magic, In-Some, In-Some-field, In-Some-field-2}
use Rattle.ppm.proofs.header.read_header.Goals as goal

abbrev file : Else-not-is_magic → List ℕ
file f = f.args.file.now

magic : (f : Else-not-is_magic) → is_magic (file f) ≡ true
magic f = sym f.is_magic.ensures ∙ f.if-not-is_magic.false

-- once a field was read
abbrev at_one : In-Some → Else-not-is_magic
at_one k = (goal.at-In-Some k).Else-not-is_magic

one : (k : In-Some) → Reads (file (at_one k)) (drop 2 (file (at_one k))) k.in-Some.width
one k =
    field_read (file (at_one k)) _ (tail_drop (file (at_one k)) 2 (magic_long _ (magic (at_one k))))
    (sym k.field.ensures ∙ k.in-Some.is)

abbrev at_two : In-Some-field → In-Some
at_two k = (goal.at-In-Some-field k).In-Some

two : (k : In-Some-field) → let f = file (at_one (at_two k)) in
    Reads f (drop (at_two k).in-Some.width.end f) k.in-Some-field.height
two k =
    let f = file (at_one (at_two k)) in
    field_read f _ (tail_drop f _ (one (at_two k)).starts.there)
    (sym k.field-2.ensures ∙ k.in-Some-field.is)

abbrev at_three : In-Some-field-2 → In-Some-field
at_three k = (goal.at-In-Some-field-2 k).In-Some-field

three : (k : In-Some-field-2) → let f = file (at_one (at_two (at_three k))) in
    Reads f (drop (at_three k).in-Some-field.height.end f) k.in-Some-field-2.maximum
three k =
    let f = file (at_one (at_two (at_three k))) in
    field_read f _ (tail_drop f _ (two (at_three k)).starts.there)
    (sym k.field-3.ensures ∙ k.in-Some-field-2.is)

pub returns-then-not-is_magic : goal.returns-then-not-is_magic
returns-then-not-is_magic c = sym (no_magic c.args.file.now (sym c.is_magic.ensures ∙ c.if-not-is_magic.true))

pub field-requires : goal.field-requires
field-requires c = magic_long _ (magic c)

pub returns-in_default : goal.returns-in_default
returns-in_default c =
    let f = (goal.at-returns-in_default c).Else-not-is_magic in
    sym (no_width (file f) (magic f) (field_none (file f) _ (sym c.field.ensures ∙ c.in_default.is)))

pub field-requires-2 : goal.field-requires-2
field-requires-2 c = (one c).starts.there

pub returns-in_default-field : goal.returns-in_default-field
returns-in_default-field c =
    let k = (goal.at-returns-in_default-field c).In-Some in
    let f = file (at_one k) in
    sym (no_height f (magic (at_one k)) (one k)
    (field_none f _ (sym c.field-2.ensures ∙ c.in_default-field.is)))

pub field-requires-3 : goal.field-requires-3
field-requires-3 c = (two c).starts.there

pub returns-in_default-field-2 : goal.returns-in_default-field-2
returns-in_default-field-2 c =
    let k = (goal.at-returns-in_default-field-2 c).In-Some-field in
    let e = at_one (at_two k) in
    sym (no_maximum (file e) (magic e) (one (at_two k)) (two k)
    (field_none (file e) _ (sym c.field-3.ensures ∙ c.in_default-field-2.is)))

pub image-requires : goal.image-requires
image-requires c = (three c).starts.there

pub returns : goal.returns
returns c =
    let k = at_three (goal.at-returns c).In-Some-field-2 in
    let e = at_one (at_two k) in
    c.image.ensures ∙ sym (all_fields (file e) (magic e) (one (at_two k)) (two k) (three (goal.at-returns c).In-Some-field-2))
