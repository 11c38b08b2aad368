-- Headers of small files and loads of them, computed on the definitions.
-- Assumes nothing.
use mathlib.Core.Path.{◌≡◌, refl}
use mathlib.Core.List.{List, [], ◌∷◌, ◌++◌, map}
use Prim.Native.Nat.{ℕ}
use lib.ListN.{replicate}
use Rattle.ppm.specs.declared.header.Header.{Header}
use Rattle.ppm.specs.declared.header.Header.TheVariants.{Image, Maximum, Malformed}
use Rattle.ppm.specs.Header.{is_blank, is_line_end, is_digit, opens, in_gap, after_gap, has_blank, is_number, value_from}
use Rattle.ppm.specs.Header.{after_number, field_of, on_field, is_magic, starts_blank, behind_blank, is_side, image_of}
use Rattle.ppm.specs.Header.{header_of}

record Case : Type 0 where
  file : List ℕ
  expected : Header

-- `P6`, newline
magic : List ℕ
magic = 80 ∷ 54 ∷ 10 ∷ []

-- `2 1`, newline
size : List ℕ
size = 50 ∷ 32 ∷ 49 ∷ 10 ∷ []

-- `255`, newline
last : List ℕ
last = 50 ∷ 53 ∷ 53 ∷ 10 ∷ []

-- `# 9`, newline
comment : List ℕ
comment = 35 ∷ 32 ∷ 57 ∷ 10 ∷ []

-- an image of two pixels in a row whose first byte stands at a place
two_pixels : ℕ → Header
two_pixels at = Image (record { width = 2; height = 1; pixels = at })

cases : List Case
cases =
    record { file = magic ++ size ++ last ++ replicate 6 0; expected = two_pixels 11 }
    -- no pixel yet
    ∷ record { file = magic ++ size ++ last; expected = two_pixels 11 }
    -- a comment after the newline, before it, and in the place of it
    ∷ record { file = magic ++ comment ++ size ++ last; expected = two_pixels 15 }
    ∷ record { file = 80 ∷ 54 ∷ comment ++ (10 ∷ size) ++ last; expected = two_pixels 15 }
    ∷ record { file = 80 ∷ 54 ∷ comment ++ size ++ last; expected = Malformed }
    -- a comment right behind a number, which a CR ends; TAB and CR between the numbers
    ∷ record {
      file = magic ++ (50 ∷ 35 ∷ 57 ∷ 13 ∷ 9 ∷ 49 ∷ 13 ∷ []) ++ last;
      expected = two_pixels 14;
    }
    -- leading zeros; one whitespace behind the maximum is no part of the pixels, and a second one is
    ∷ record { file = magic ++ (48 ∷ 48 ∷ size) ++ (48 ∷ last); expected = two_pixels 14 }
    ∷ record { file = magic ++ size ++ last ++ (32 ∷ []); expected = two_pixels 11 }
    -- no comment behind the first digit of the maximum
    ∷ record { file = magic ++ size ++ (50 ∷ 53 ∷ 53 ∷ 35 ∷ 10 ∷ 10 ∷ []); expected = Malformed }
    -- cut short: behind the maximum, within a comment, and behind the magic
    ∷ record { file = magic ++ size ++ (50 ∷ 53 ∷ 53 ∷ []); expected = Malformed }
    ∷ record { file = magic ++ (35 ∷ size); expected = Malformed }
    ∷ record { file = 80 ∷ 54 ∷ []; expected = Malformed }
    -- another magic, and numbers that begin at once
    ∷ record { file = 80 ∷ 51 ∷ 10 ∷ size ++ last; expected = Malformed }
    ∷ record { file = 80 ∷ 54 ∷ size ++ last; expected = Malformed }
    -- a maximum of 256 and of 0; a width of 0 is malformed before that
    ∷ record { file = magic ++ size ++ (50 ∷ 53 ∷ 54 ∷ 10 ∷ []); expected = Maximum }
    ∷ record { file = magic ++ size ++ (48 ∷ 10 ∷ []); expected = Maximum }
    ∷ record { file = magic ++ (48 ∷ 32 ∷ 49 ∷ 10 ∷ 48 ∷ 10 ∷ []); expected = Malformed }
    -- a width of 65,535 and of 65,536
    ∷ record {
      file = magic ++ (54 ∷ 53 ∷ 53 ∷ 51 ∷ 53 ∷ 32 ∷ 49 ∷ 10 ∷ []) ++ last;
      expected = Image (record { width = 65535; height = 1; pixels = 15 });
    }
    ∷ record { file = magic ++ (54 ∷ 53 ∷ 53 ∷ 51 ∷ 54 ∷ 32 ∷ 49 ∷ 10 ∷ []) ++ last; expected = Malformed }
    ∷ []

worked : map (λ (c : Case). header_of c.file) cases ≡ map (λ (c : Case). c.expected) cases
unfolding cases magic size last comment two_pixels header_of image_of is_side behind_blank starts_blank is_magic on_field
    field_of after_number value_from is_number has_blank after_gap in_gap opens is_digit is_blank is_line_end
worked = refl
