-- What the listing program makes of its input before it is loaded (Rules, Listing). Definitions only.
use Rattle.std.specs.Prelude.{◌≡◌, Bool, true, false, not, ◌&&◌, List, [], ◌∷◌, ◌++◌, ℕ, ◌-◌, ◌*◌, ◌%◌, ◌≤◌, ◌<◌, eqb, length, take, drop}
use Rattle.basics.specs.Answer.{refuse}
use Rattle.ppm.specs.declared.header.Header.{Header}
use Rattle.ppm.specs.Header.{header_of, header_answer}
use Rattle.ppm.specs.Load.{on_image}
use Rattle.lines.specs.Reading.{Progress, after_batch}

-- bytes that begin with a word
unfoldable pub begins_with : List ℕ → List ℕ → Bool
begins_with [] bytes = true
begins_with (c ∷ word) [] = false
begins_with (c ∷ word) (b ∷ bytes) = eqb b c && begins_with word bytes

-- a buffer whose filled bytes from a place on were moved to its front
unfoldable pub moved_up : ℕ → ℕ → List ℕ → List ℕ
moved_up from filled space = take (filled - from) (drop from space) ++ drop (filled - from) space

-- a header that was read from some bytes
pub record Read (h : Header) : Type 0 where
  pub bytes : List ℕ
  pub is : h ≡ header_of bytes

-- the answer to a PPM whose pixels came in batches: by its header, by how many bytes followed it, and then the lowest
-- refusal of their loads
unfoldable pub frame_answer : Header → ℕ → ℕ → ℕ
frame_answer h bytes lowest =
    let n = (header_answer h).number in
    refuse (eqb n 10) 10
    (refuse (eqb n 11) 11
    (refuse (on_image h false (λ f. not (eqb bytes (3 * (f.width * f.height))))) 12 lowest))

-- ---- what the program's functions are told of what they read
-- a buffer for batches of whole pixels, of at most 16,384
pub record Room (space : List ℕ) : Type 0 where
  pub some : 0 < length space
  pub whole : length space % 3 ≡ 0
  pub few : length space ≤ 49152

-- a batch came behind the bytes that were there, and was loaded with them; where more may follow they split no pixel
pub record CameBehind (front : List ℕ) (before after : Progress) (more : Bool) : Type 0 where
  pub rest : List ℕ
  pub whole : more ≡ true → length (front ++ rest) % 3 ≡ 0
  pub loaded : after ≡ after_batch before (front ++ rest)
