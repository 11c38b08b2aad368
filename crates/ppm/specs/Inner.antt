-- What the crate's own functions are told of a header. Definitions only.
use Rattle.std.specs.Prelude.{◌≡◌, Bool, false, not, ◌&&◌, ◌||◌, List, [], ℕ, ◌-◌, ◌≤◌, min, length, drop}
use Rattle.basics.specs.Answer.{refuse, when_done}
use Rattle.table.specs.Table.{Table}
use Rattle.loader.specs.Load.{load_number, load_later}
use Rattle.std.specs.Prelude.{Option, Some}
use Rattle.std.specs.Prelude as std
use Rattle.std.specs.Bool.{then_some}
use Rattle.ppm.specs.declared.fields.Digits.{Digits}
use Rattle.ppm.specs.declared.header.Frame.{Frame}
use Rattle.ppm.specs.Header.{is_blank, has_blank, after_gap, Field, None, Read}
use Rattle.ppm.specs.Load.{pixels_fit}

-- a value as the code keeps it: no field asks for one of 65,536 or more
abbrev pub most : ℕ
most = 65536

-- whether whitespace that is no part of a comment was seen, a byte later
unfoldable pub blank_seen : Bool → Bool → ℕ → Bool
blank_seen blank within c = blank || (not within && is_blank c)

-- the place in a file of what is left of it
abbrev pub behind : List ℕ → List ℕ → ℕ
behind file rest = length file - length rest

-- the place behind a gap in front of what is left of a file, where the gap has whitespace that is no part of a comment
unfoldable pub blank_gap : List ℕ → List ℕ → Option ℕ
blank_gap file rest = then_some (has_blank false rest) (behind file (after_gap false rest))

-- what is left of a file starts at a place of it
pub record StartsAt (file rest : List ℕ) (p : ℕ) : Type 0 where
  pub there : p ≤ length file
  pub left : drop p file ≡ rest

-- a field as the code hands it back
unfoldable pub read_as : List ℕ → Field → Option Digits
read_as file None = std.None
read_as file (Read value rest) = Some (record { value = min value most; end = behind file rest })

-- an image whose header stands in a file of so many bytes
pub record InFile (bytes : ℕ) (f : Frame) : Type 0 where
  pub starts : f.pixels ≤ bytes
  pub narrow : f.width ≤ 65535
  pub low : f.height ≤ 65535

-- loading the pixels of an image whose header was read
unfoldable pub frame_number : ℕ → ℕ → ℕ → Table → List ℕ → Frame → ℕ
frame_number b1 b2 b3 t file f =
    refuse (not (pixels_fit (length file) f)) 12 (load_number b1 b2 b3 t (drop f.pixels file) false [])

unfoldable pub frame_later : ℕ → ℕ → ℕ → Table → List ℕ → Frame → Table
frame_later b1 b2 b3 t file f =
    when_done (refuse (not (pixels_fit (length file) f)) 12 0) (load_later b1 b2 b3 t (drop f.pixels file) false []) t
