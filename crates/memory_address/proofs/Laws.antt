-- The laws of the address rule, by which every other crate knows it: where the cells of a legal command lie, which cells no write or
-- erase covers, and that what may be erased may be written, and what may be written be read. Each holds of the rule because it holds of
-- its three parts, the row to read, the row to write and the block to erase; only the laws of the parts look at their bounds.
-- No law of another crate opens the rule: beside these, only examples that are computed do.
-- Assumes nothing.
use Rattle.std.specs.Prelude.{Option, Some, None, Result, Ok, Err}
use mathlib.Core.Path.{◌≡◌, refl, ap, sym}
use mathlib.Core.Bool.{Bool, true, false, false≢true}
use Prim.Native.Nat.{ℕ, ◌+◌, ◌-◌, ◌*◌, ◌%◌, ◌≤◌, ◌<◌}
use native.Mathlib.Nat.{suc-ne-zero}
use native.Mathlib.Omega.{arith}
use mathlib.Core.Logic.{◌⊎◌, inl, inr}
use lib.Dec.{leb, eqb}
use borrow.Author.Tests.{leb-true, ltb-true, ltb-false, eqb-true, eq-eqb, le-leb, lt-ltb}
use Rattle.base.proofs.Choice.{by_cond, both_true, true_both}
use Rattle.memory_address.specs.declared.Address.TheVariants.{Flash, Eeprom}
use Rattle.memory_address.specs.Rule.{multiple_in, rim, last_flash_row, last_block, first_eeprom_row, last_eeprom_row, cells_of}
use Rattle.memory_address.specs.Rule.{in_flash, in_eeprom, row_of, read_row, write_row, block_of, ruled, protected}
use Rattle.memory_address.specs.Rule.{is_flash, is_eeprom, is_legal, legal_flash, legal_eeprom, numbered, refusal_number, number_of}
use Rattle.memory_address.specs.declared.Address.{Address}
use Rattle.memory_address.specs.declared.Refusal.TheVariants.{WrongLength, Illegal}
use Rattle.memory_address.specs.declared.Refusal.{Refusal}

multiple_in_lem : (step low high a : ℕ) → multiple_in step low high a ≡ true → (low ≤ a) × (a ≤ high) × (a % step ≡ 0)
multiple_in_lem step low high a e =
    let p = both_true (leb low a) _ e in
    let q = both_true (leb a high) _ p.1 in
    (leb-true low a p.0, leb-true a high q.0, eqb-true (a % step) 0 q.1)

in_multiple : (step low high a : ℕ) → low ≤ a → a ≤ high → a % step ≡ 0 → multiple_in step low high a ≡ true
in_multiple step low high a l h m =
    true_both (leb low a) _ (le-leb low a l) (true_both (leb a high) _ (le-leb a high h) (eq-eqb (a % step) 0 m))

-- what is known of the rule's answer for n cells at a: in FLASH above the rim, or in EEPROM, and within it
abbrev pub Within : ℕ → ℕ → Option Address → Type 0
Within n a (Some (Flash f)) = (f.0 ≡ a) × (0x001000 ≤ a) × (a + n ≤ 0x010000)
Within n a (Some (Eeprom e)) = (e.0 ≡ a) × (0xF00000 ≤ a) × (a + n ≤ 0xF00400)
Within n a None = Unit {0}

-- ---- the three parts: the row to read, the row to write, the block to erase

row_within : (a : ℕ) → Within 8 a (row_of a)
row_within a =
    by_cond (Within 8 a) (multiple_in 8 rim last_flash_row a) _ _
    (λ t. let m = multiple_in_lem 8 rim last_flash_row a t in (refl, omega arith, omega arith))
    (λ _.
    by_cond (Within 8 a) (multiple_in 8 first_eeprom_row last_eeprom_row a) _ _
    (λ t. let m = multiple_in_lem 8 first_eeprom_row last_eeprom_row a t in (refl, omega arith, omega arith))
    (λ _. tt))

read_within : (a : ℕ) → Within 8 a (read_row a)
read_within a = row_within a

write_within : (a : ℕ) → Within 8 a (write_row a)
write_within a = row_within a

block_within : (a : ℕ) → Within 64 a (block_of a)
block_within a =
    by_cond (Within 64 a) (multiple_in 64 rim last_block a) _ _
    (λ t. let m = multiple_in_lem 64 rim last_block a t in (refl, omega arith, omega arith))
    (λ _. tt)

-- a row of FLASH from the rim on may be written
in_write : (a : ℕ) → 0x001000 ≤ a → a < 0x010000 → a % 8 ≡ 0 → is_flash (write_row a) ≡ true
in_write a l h m = rw (in_multiple 8 rim last_flash_row a (omega arith) (omega arith) m) refl

-- what a block that may be erased is
block_in : (a : ℕ) → is_flash (block_of a) ≡ true → (rim ≤ a) × (a ≤ last_block) × (a % 64 ≡ 0)
block_in a =
    by_cond (λ (r : Option Address). is_flash r ≡ true → (rim ≤ a) × (a ≤ last_block) × (a % 64 ≡ 0)) (multiple_in 64 rim last_block a) _ _
    (λ e _. multiple_in_lem 64 rim last_block a e) (λ _ t. absurd (false≢true t))

block_writable : (a i : ℕ) → is_flash (block_of a) ≡ true → i < 8 → is_flash (write_row (a + 8 * i)) ≡ true
block_writable a i t l = let m = block_in a t in in_write (a + 8 * i) (omega arith) (omega arith) (omega arith)

-- what may be written may be read
write_readable : (a : ℕ) → is_flash (write_row a) ≡ true → is_flash (read_row a) ≡ true
write_readable a t = t

-- a block's first row is one of its rows, and what may be written may be read
block_readable : (a : ℕ) → is_flash (block_of a) ≡ true → is_flash (read_row a) ≡ true
block_readable a t = write_readable a (let m = block_in a t in in_write a (omega arith) (omega arith) (omega arith))

no_eeprom_block : (a : ℕ) → is_eeprom (block_of a) ≡ false
no_eeprom_block a = by_cond (λ (r : Option Address). is_eeprom r ≡ false) (multiple_in 64 rim last_block a) _ _ (λ _. refl) (λ _. refl)

eeprom_write_readable : (a : ℕ) → is_eeprom (write_row a) ≡ true → is_eeprom (read_row a) ≡ true
eeprom_write_readable a t = t

-- the paper's number: every cell below 0x001000 is protected
pub rim_protected : (c : ℕ) → c < 0x001000 → protected c ≡ true
unfolding protected
rim_protected c l = lt-ltb c 0x001000 l

-- what may be written or erased covers no protected cell
write_spares : (a c : ℕ) → is_flash (write_row a) ≡ true → protected c ≡ true → (c < a) ⊎ (a + 8 ≤ c)
unfolding protected
write_spares a c t p = let l = ltb-true c rim p in inl (go (write_row a) t (write_within a) l)
  where
    go : (r : Option Address) → is_flash r ≡ true → Within 8 a r → c < rim → c < a
    go (Some (Flash f)) e w l = omega arith
    go (Some (Eeprom x)) e w l = absurd (false≢true e)
    go None e w l = absurd (false≢true e)

block_spares : (a c : ℕ) → is_flash (block_of a) ≡ true → protected c ≡ true → (c < a) ⊎ (a + 64 ≤ c)
unfolding protected
block_spares a c t p = let m = block_in a t in let l = ltb-true c rim p in inl (omega arith)

-- and every other cell lies in a row that may be written
unprotected_writable : (c : ℕ) → c < 0x010000 → protected c ≡ false → is_flash (write_row (c - c % 8)) ≡ true
unfolding protected
unprotected_writable c l p = let h = ltb-false c rim p in in_write (c - c % 8) (omega arith) (omega arith) (omega arith)

-- ---- the rule, by its parts

-- what holds of each part, and where nothing is legal, holds of the rule
by_command : (P : Option Address → Type 0) (a command : ℕ) → (command ≡ 0x01 → P (read_row a)) → (command ≡ 0x02 → P (write_row a))
    → (command ≡ 0x03 → P (block_of a)) → P None → P (ruled a command)
unfolding ruled
by_command P a command r w b n =
    by_cond P (eqb command 0x01) _ _ (λ t. r (eqb-true command 0x01 t))
    (λ _.
    by_cond P (eqb command 0x02) _ _ (λ t. w (eqb-true command 0x02 t))
    (λ _. by_cond P (eqb command 0x03) _ _ (λ t. b (eqb-true command 0x03 t)) (λ _. n)))

pub read_ruled : (a : ℕ) → ruled a 0x01 ≡ read_row a
unfolding ruled
read_ruled a = refl

pub write_ruled : (a : ℕ) → ruled a 0x02 ≡ write_row a
unfolding ruled
write_ruled a = refl

pub erase_ruled : (a : ℕ) → ruled a 0x03 ≡ block_of a
unfolding ruled
erase_ruled a = refl

-- the cells of a legal command lie in its memory, above the rim in FLASH
pub ruled_within : (a command : ℕ) → Within (cells_of command) a (ruled a command)
ruled_within a command =
    by_command (Within (cells_of command) a) a command (λ e. rw e (read_within a)) (λ e. rw e (write_within a))
    (λ e. rw e (block_within a)) tt

-- a legal FLASH command at a: the rule's answer, and where its cells lie
pub flash_ruled : (a command : ℕ) → legal_flash a command ≡ true → ruled a command ≡ in_flash a
flash_ruled a command h = go (ruled a command) h (ruled_within a command)
  where
    go : (r : Option Address) → is_flash r ≡ true → Within (cells_of command) a r → r ≡ in_flash a
    go (Some (Flash f)) t w = ap in_flash w.0
    go (Some (Eeprom e)) t w = cc
    go None t w = cc

pub eeprom_ruled : (a command : ℕ) → legal_eeprom a command ≡ true → ruled a command ≡ in_eeprom a
eeprom_ruled a command h = go (ruled a command) h (ruled_within a command)
  where
    go : (r : Option Address) → is_eeprom r ≡ true → Within (cells_of command) a r → r ≡ in_eeprom a
    go (Some (Flash f)) t w = cc
    go (Some (Eeprom e)) t w = ap in_eeprom w.0
    go None t w = cc

pub flash_within : (a command : ℕ) → legal_flash a command ≡ true → (0x001000 ≤ a) × (a + cells_of command ≤ 0x010000)
flash_within a command h =
    let w : Within (cells_of command) a (in_flash a) = rw (flash_ruled a command h) at (ruled_within a command) in
    (w.1, w.2)

pub eeprom_within : (a command : ℕ) → legal_eeprom a command ≡ true → (0xF00000 ≤ a) × (a + cells_of command ≤ 0xF00400)
eeprom_within a command h =
    let w : Within (cells_of command) a (in_eeprom a) = rw (eeprom_ruled a command h) at (ruled_within a command) in
    (w.1, w.2)

-- EEPROM has no erase
pub no_eeprom_erase : (a : ℕ) → legal_eeprom a 0x03 ≡ false
no_eeprom_erase a = rw (erase_ruled a) (no_eeprom_block a)

-- a command other than read, write and erase is legal nowhere, and on EEPROM neither is an erase
pub no_other_flash : (a command : ℕ) → (command ≡ 0x01 → ⊥) → (command ≡ 0x02 → ⊥) → (command ≡ 0x03 → ⊥) → legal_flash a command ≡ false
no_other_flash a command r w b =
    by_command (λ (x : Option Address). is_flash x ≡ false) a command (λ e. absurd (r e)) (λ e. absurd (w e)) (λ e. absurd (b e)) refl

pub no_other_eeprom : (a command : ℕ) → (command ≡ 0x01 → ⊥) → (command ≡ 0x02 → ⊥) → legal_eeprom a command ≡ false
no_other_eeprom a command r w =
    by_command (λ (x : Option Address). is_eeprom x ≡ false) a command (λ e. absurd (r e)) (λ e. absurd (w e)) (λ _. no_eeprom_block a) refl

-- the eight rows of a block that may be erased may be written
pub block_rows : (a i : ℕ) → legal_flash a 0x03 ≡ true → i < 8 → legal_flash (a + 8 * i) 0x02 ≡ true
block_rows a i h l = rw (write_ruled (a + 8 * i)) (block_writable a i (rw (erase_ruled a) at h) l)

-- what may be written or erased may be read
pub flash_readable : (a command : ℕ) → legal_flash a command ≡ true → legal_flash a 0x01 ≡ true
flash_readable a command =
    rw (read_ruled a)
    (by_command (λ (r : Option Address). is_flash r ≡ true → is_flash (read_row a) ≡ true) a command
    (λ _ t. t) (λ _ t. write_readable a t) (λ _ t. block_readable a t) (λ t. absurd (false≢true t)))

pub eeprom_readable : (a command : ℕ) → legal_eeprom a command ≡ true → legal_eeprom a 0x01 ≡ true
eeprom_readable a command =
    rw (read_ruled a)
    (by_command (λ (r : Option Address). is_eeprom r ≡ true → is_eeprom (read_row a) ≡ true) a command
    (λ _ t. t) (λ _ t. eeprom_write_readable a t) (λ _ t. absurd (false≢true (rw (no_eeprom_block a) at t)))
    (λ t. absurd (false≢true t)))

-- no legal write or erase covers a protected cell
pub spares_protected : (a command c : ℕ) → legal_flash a command ≡ true → (command ≡ 0x01 → ⊥) → protected c ≡ true
    → (c < a) ⊎ (a + cells_of command ≤ c)
spares_protected a command c h unread p =
    by_command (λ (r : Option Address). is_flash r ≡ true → (c < a) ⊎ (a + cells_of command ≤ c)) a command
    (λ e _. absurd (unread e)) (λ e t. rw e (write_spares a c t p)) (λ e t. rw e (block_spares a c t p)) (λ t. absurd (false≢true t)) h

-- and every other cell of FLASH is covered by one: the write of its row
pub protected_only : (c : ℕ) → c < 0x010000 → protected c ≡ false → legal_flash (c - c % 8) 0x02 ≡ true
protected_only c l p = rw (write_ruled (c - c % 8)) (unprotected_writable c l p)

-- the number is 0 exactly where the memory is full and the address legal
pub zero_numbered : (full legal : Bool) → numbered full legal ≡ 0 → (full ≡ true) × (legal ≡ true)
zero_numbered true true e = (refl, refl)
zero_numbered true false e = absurd (suc-ne-zero 7 e)
zero_numbered false legal e = absurd (suc-ne-zero 0 e)

-- a refusal's number is never 0, and the number says which answer it is
pub refused : (e : Refusal) → refusal_number e ≡ 0 → ⊥
refused WrongLength z = absurd (suc-ne-zero 0 z)
refused Illegal z = absurd (suc-ne-zero 7 z)

pub number_says : (r r' : Result (Unit {0}) Refusal) → number_of r ≡ number_of r' → r ≡ r'
number_says (Ok x) (Ok y) z = refl
number_says (Ok x) (Err e) z = absurd (refused e (sym z))
number_says (Err e) (Ok y) z = absurd (refused e z)
number_says (Err WrongLength) (Err WrongLength) z = refl
number_says (Err Illegal) (Err Illegal) z = refl
number_says (Err WrongLength) (Err Illegal) z = let k : ◌≡◌ {A = ℕ} 1 8 = z in let b : ⊥ = omega arith in absurd b
number_says (Err Illegal) (Err WrongLength) z = let k : ◌≡◌ {A = ℕ} 8 1 = z in let b : ⊥ = omega arith in absurd b

-- a command that is legal anywhere is read, write or erase
pub legal_command : (a command : ℕ) → is_legal (ruled a command) ≡ true → (command ≡ 0x01) ⊎ ((command ≡ 0x02) ⊎ (command ≡ 0x03))
legal_command a command =
    by_command (λ (r : Option Address). is_legal r ≡ true → (command ≡ 0x01) ⊎ ((command ≡ 0x02) ⊎ (command ≡ 0x03))) a command
    (λ e _. inl e) (λ e _. inr (inl e)) (λ e _. inr (inr e)) (λ t. absurd (false≢true t))
