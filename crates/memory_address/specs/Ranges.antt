-- Where each command is legal, in document 01's numbers ("Legal rows"): what the laws of the address rule say from both sides.
use Rattle.std.specs.Prelude.{ℕ, ◌%◌, ◌≤◌, ◌≡◌}

-- a multiple of step from low to high, both in it
abbrev pub Multiple : ℕ → ℕ → ℕ → ℕ → Type 0
Multiple step low high a = (low ≤ a) × (a ≤ high) × (a % step ≡ 0)

-- the one holds exactly if the other does
abbrev pub Exactly : Type 0 → Type 0 → Type 0
Exactly P Q = (P → Q) × (Q → P)

-- "at multiples of 8, in 0x001000 to 0x00FFF8 or 0xF00000 to 0xF003F8"
abbrev pub FlashRow : ℕ → Type 0
FlashRow a = Multiple 8 0x001000 0x00FFF8 a

abbrev pub EepromRow : ℕ → Type 0
EepromRow a = Multiple 8 0xF00000 0xF003F8 a

-- "at multiples of 64 in 0x001000 to 0x00FFC0"
abbrev pub Block : ℕ → Type 0
Block a = Multiple 64 0x001000 0x00FFC0 a
