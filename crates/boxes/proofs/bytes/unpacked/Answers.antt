-- `boxes::bytes::unpacked` meets its contract: byte by byte.
-- Assumes nothing.
use mathlib.Core.Path.{◌≡◌, ap, ◌∙◌}
use mathlib.Core.List.{List}
use Prim.Native.Nat.{ℕ, ◌/◌, ◌%◌}
use native.Mathlib.Omega.{arith}
use lib.ListN.{get_or}
use Rattle.boxes.specs.Bytes.{box_of}
use Rattle.boxes.proofs.bytes.unpacked.Goals as goal

-- the bytes from the third on, by one division
third : (n : ℕ) → n / 65536 % 256 ≡ n / 256 / 256 % 256
third n = omega arith

fourth : (n : ℕ) → n / 16777216 % 256 ≡ n / 256 / 256 / 256 % 256
fourth n = omega arith

fifth : (n : ℕ) → n / 4294967296 % 256 ≡ n / 256 / 256 / 256 / 256 % 256
fifth n = omega arith

sixth : (n : ℕ) → n / 1099511627776 % 256 ≡ n / 256 / 256 / 256 / 256 / 256 % 256
sixth n = omega arith

pub returns : goal.returns
unfolding box_of
returns c =
    let n = c.args.n in
    let e = c.to_le_bytes-bytes.ensures in
    λ i. record {
      r0 = get_or (e i) 0 0;
      r1 = get_or (e i) 1 0;
      g0 = (ap (λ (l : List ℕ). get_or l 2 0) e ∙ third n) i;
      g1 = (ap (λ (l : List ℕ). get_or l 3 0) e ∙ fourth n) i;
      b0 = (ap (λ (l : List ℕ). get_or l 4 0) e ∙ fifth n) i;
      b1 = (ap (λ (l : List ℕ). get_or l 5 0) e ∙ sixth n) i;
    }
