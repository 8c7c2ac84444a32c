-- The single statement of request A4's examples. A row follows from six cells of its FLASH and one sum, which compute, by the laws of the
-- flag byte, of a restart and of 0x106.
-- Assumes nothing.
use mathlib.Core.Path.{◌≡◌, ◌∙◌, refl, ap, sym, subst}
use mathlib.Core.Bool.{Bool, true, false, not, ◌&&◌}
use mathlib.Core.List.{List, [], ◌∷◌}
use Prim.Native.Nat.{ℕ, ◌/◌, ◌%◌, ◌≤◌}
use native.Mathlib.Omega.{arith}
use lib.Dec.{eqb}
use lib.ListN.{length, take, get_or, replicate, length-replicate}
use Rattle.base.specs.Parts.{part, patch, sum_of, high_first}
use Rattle.base.proofs.Patched.{length_patch}
use Rattle.memory_start.specs.Start.{sums_differ, cells_differ, flags_of, flag_byte}
use Rattle.memory_start.specs.Plain.{FlagSays}
use Rattle.memory_sum.proofs.Laws.{stored_by_place, worked_out}
use Rattle.memory_start.proofs.Laws.{flag_says, starts_by_flag}
use Rattle.node_rules.specs.declared.Pin.TheVariants.{CanOnly}
use Rattle.node_rules.specs.declared.Mode.TheVariants.{Normal, Waiting}
use Rattle.node_rules.specs.Numbered.{Restarted}
use Rattle.node_rules.specs.Record.{plain}
use Rattle.node_rules.specs.Step.{Step}
use Rattle.node_rules.specs.Examples.{node050_a, flash_with}
use Rattle.node_rules.proofs.Restarting.{restart_normal}
use Rattle.node_rules.proofs.RequestTable.{request_1F1}
use Rattle.samples.specs.Starting.{row, RowHolds, AllHold, starting}

-- the flag byte, by the two sums and the three cells
abbrev flag_by : ℕ → ℕ → ℕ → ℕ → ℕ → ℕ
flag_by stored sum x y z = flags_of (not (eqb stored sum)) (not (eqb x 0x30 && (eqb y 0x00 && eqb z 0x03)))

module _ (flash : List ℕ) (stored sum x y z : ℕ) (l : length flash ≡ 65536)
    (a : high_first (get_or flash 0x001000 0) (get_or flash 0x001001 0) (get_or flash 0x001002 0) ≡ stored)
    (b : sum_of (part flash 0x001003 28669) ≡ sum)
    (c : (get_or flash 0x001010 0 ≡ x) × (get_or flash 0x001011 0 ≡ y) × (get_or flash 0x001012 0 ≡ z)) where
  flag_by_lem : flag_byte flash ≡ flag_by stored sum x y z
  unfolding flag_byte sums_differ cells_differ
  flag_by_lem = rw (stored_by_place flash l ∙ a, worked_out flash l ∙ b, c.0, c.1, c.2) refl

  says : FlagSays (flag_by stored sum x y z) flash
  says = subst (λ (flag : ℕ). FlagSays flag flash) flag_by_lem (flag_says flash l)

  row_by : (started : Bool) (flag high middle low : ℕ) → flag_by stored sum x y z ≡ flag → eqb flag 0 ≡ started
      → sum / 65536 % 256 ≡ high → sum / 256 % 256 ≡ middle → sum % 256 ≡ low → RowHolds (row flash started flag high middle low)
  row_by started flag high middle low f s h m w =
      let zeros : length (replicate {A = ℕ} 1024 0) ≡ 1024 = length-replicate {A = ℕ} 1024 0 in
      let found = subst (λ (byte : ℕ). FlagSays byte flash) f says in (
        l,
        ap (λ (r : Restarted). r.node.mode)
            (restart_normal (node050_a CanOnly Waiting []) (plain CanOnly) flash (replicate 1024 0) l zeros
            (λ e. let d : ◌≡◌ {A = ℕ} 0 0xFF = e in omega arith))
            ∙ ap Normal (starts_by_flag flash flag l found ∙ s),
        rw (← h, ← m, ← w)
            (ap (λ (t : Step). take 12 t.answer.replies)
            (request_1F1 (node050_a CanOnly (Normal false) []) flash (replicate 1024 0) l zeros false refl 0xF0 0xF0 0xFF 0xFF 0x05 0x0A 0xFF
            0xFF 0xFF 0xFF (refl, refl) refl flag sum found (sym b))),
      )

-- a row of zeros but for the low byte of the stored sum and three cells has its length
with_length : (low place x y z : ℕ) → place ≤ 65533 → length (flash_with low place x y z) ≡ 65536
unfolding flash_with
with_length low place x y z h =
    let zeros : length (replicate {A = ℕ} 65536 0) ≡ 65536 = length-replicate {A = ℕ} 65536 0 in
    let once : length (patch (replicate 65536 0) 0x001002 (low ∷ [])) ≡ 65536 =
    length_patch (replicate 65536 0) 0x001002 (low ∷ []) (omega arith) ∙ zeros
    in
    length_patch (patch (replicate 65536 0) 0x001002 (low ∷ [])) place (x ∷ y ∷ z ∷ []) (omega arith) ∙ once

-- such a row, whose sum is one byte
module _ (low place x y z sum a b c : ℕ) (h : place ≤ 65533) where
  abbrev cells : List ℕ
  cells = flash_with low place x y z

  with_row : high_first (get_or cells 0x001000 0) (get_or cells 0x001001 0) (get_or cells 0x001002 0) ≡ low
      → sum_of (part cells 0x001003 28669) ≡ sum
      → (get_or cells 0x001010 0 ≡ a) × (get_or cells 0x001011 0 ≡ b) × (get_or cells 0x001012 0 ≡ c)
      → (started : Bool) (flag : ℕ) → flag_by low sum a b c ≡ flag → eqb flag 0 ≡ started
      → (sum / 65536 % 256 ≡ 0x00) × (sum / 256 % 256 ≡ 0x00) × (sum % 256 ≡ sum) → RowHolds (row cells started flag 0x00 0x00 sum)
  with_row d e f started flag g s k =
      row_by cells low sum a b c (with_length low place x y z h) d e f started flag 0x00 0x00 sum g s k.0 k.1 k.2

pub starts_hold : AllHold starting
unfolding flash_with patch
starts_hold = (
  row_by (replicate 65536 0x00) 0 0 0x00 0x00 0x00 (length-replicate {A = ℕ} 65536 0x00) refl refl (refl, refl, refl)
      false 2 0x00 0x00 0x00 refl refl refl refl refl,
  (
    row_by (replicate 65536 0xFF) 0xFFFFFF 0x6F8D03 0xFF 0xFF 0xFF (length-replicate {A = ℕ} 65536 0xFF) refl refl (refl, refl, refl)
        false 3 0x6F 0x8D 0x03 refl refl refl refl refl,
    (
      with_row 0x33 0x001010 0x30 0x00 0x03 0x33 0x30 0x00 0x03 (omega arith) refl refl (refl, refl, refl) true 0 refl refl (refl, refl, refl),
      (
        with_row 0x32 0x001010 0x30 0x00 0x03 0x33 0x30 0x00 0x03 (omega arith) refl refl (refl, refl, refl) false 1 refl refl (refl, refl, refl),
        (
          with_row 0x34 0x001010 0x31 0x00 0x03 0x34 0x31 0x00 0x03 (omega arith) refl refl (refl, refl, refl) false 2 refl refl (refl, refl, refl),
          (
            with_row 0x33 0x001011 0x30 0x00 0x03 0x33 0x00 0x30 0x00 (omega arith) refl refl (refl, refl, refl) false 2 refl refl (refl, refl, refl),
            tt,
          ),
        ),
      ),
    ),
  ),
)
