-- The laws of the sums: the firmware sum never passes 24 bits; both sums of a full FLASH, by place.
-- Assumes nothing.
use mathlib.Core.Path.{◌≡◌, refl}
use mathlib.Core.List.{List}
use Prim.Native.Nat.{ℕ, ◌+◌, ◌*◌, ◌≤◌}
use native.Mathlib.Omega.{arith}
use lib.Dec.{eqb}
use lib.ListN.{length, get_or}
use borrow.Author.Tests.{eqb-true, eq-eqb}
use Rattle.base.specs.Parts.{part, sum_of, Bytes}
use Rattle.base.proofs.Bytes.{bytes_part}
use Rattle.base.proofs.Choice.{by_cond}
use Rattle.base.proofs.Patched.{part_length}
use Rattle.memory_sum.specs.Sum.{firmware_sum, stored_sum_of}
use Rattle.base.proofs.Sums.{sum_most}

-- 28,669 cells of a full FLASH: what is at most 255 for each
pub bytes_most : (flash : List ℕ) (sum : ℕ) → length flash ≡ 65536 → sum ≤ 255 * length (part flash 0x001003 28669) → sum ≤ 7310595
bytes_most flash sum l h = omega (arith, part_length flash 0x001003 28669 (omega arith))

-- "it is at most 7,310,595 and so never passes 24 bits"
pub firmware_sum_most : (flash : List ℕ) → Bytes flash → firmware_sum flash ≤ 7310595
unfolding firmware_sum
firmware_sum_most flash h =
    by_cond (λ (n : ℕ). n ≤ 7310595) (eqb (length flash) 65536) _ _
    (λ t. bytes_most flash _ (eqb-true (length flash) 65536 t) (sum_most (part flash 0x001003 28669) (bytes_part flash 0x001003 28669 h)))
    (λ _. omega arith)

-- the worked-out sum is that of the cells 0x001003 to 0x007FFF
pub worked_out : (flash : List ℕ) → length flash ≡ 65536 → firmware_sum flash ≡ sum_of (part flash 0x001003 28669)
unfolding firmware_sum
worked_out flash l = rw (eq-eqb (length flash) 65536 l) refl

-- the stored sum of a full FLASH, by place
pub stored_by_place : (flash : List ℕ) → length flash ≡ 65536
    → stored_sum_of flash ≡ get_or flash 0x001000 0 * 65536 + get_or flash 0x001001 0 * 256 + get_or flash 0x001002 0
unfolding stored_sum_of
stored_by_place flash l = rw (eq-eqb (length flash) 65536 l) refl
