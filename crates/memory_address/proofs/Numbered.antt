-- Document 01's number for what `rule` answers, over its real contract: 0 at every row or block that document 01 names, 8 elsewhere. The
-- contract is the rule, whose laws from both sides (BothSides) say where it is legal.
-- Assumes nothing.
use Rattle.std.specs.Prelude.{Option, None}
use mathlib.Core.Path.{◌≡◌, ◌∙◌, ap}
use mathlib.Core.Logic.{◌⊎◌, ⊎_elim}
use Prim.Native.Nat.{ℕ}
use contract.Lifetimes.{Lfts}
use borrow.Fn.World.{ArgsD, ResD}
use denote.Triple.Clauses.{AtExit}
use borrow.Fn.Kinds.{ended_of}
use Rattle.memory_address.specs.Rule.{in_flash, in_eeprom, ruled, ruled_number}
use Rattle.memory_address.specs.Ranges.{Exactly, FlashRow, EepromRow, Block}
use Rattle.memory_address.proofs.BothSides.{read_legal, write_legal, erase_legal, other_illegal}
use Rattle.memory_address.specs.contracts.rule.{signature}
use Rattle.memory_address.proofs.rule.Kinds as kinds
use Rattle.memory_address.proofs.rule.Reads as reads
use Rattle.memory_address.specs.declared.Address.{Address}

-- the number of an answer that is what a law of rows says
module _ (x : ℕ) (r : Option Address) where
  by_row : Exactly (r ≡ in_flash x) (FlashRow x) × Exactly (r ≡ in_eeprom x) (EepromRow x)
      × ((FlashRow x → ⊥) → (EepromRow x → ⊥) → r ≡ None)
      → (FlashRow x ⊎ EepromRow x → ruled_number r ≡ 0) × ((FlashRow x → ⊥) → (EepromRow x → ⊥) → ruled_number r ≡ 8)
  by_row law = (
    ⊎_elim (λ f. ap ruled_number (law.0.1 f)) (λ e. ap ruled_number (law.1.1 e)),
    λ n n'. ap ruled_number (law.2 n n'),
  )

  by_block : Exactly (r ≡ in_flash x) (Block x) × ((Block x → ⊥) → r ≡ None)
      → (Block x → ruled_number r ≡ 0) × ((Block x → ⊥) → ruled_number r ≡ 8)
  by_block law = (λ b. ap ruled_number (law.0.1 b), λ n. ap ruled_number (law.1 n))

-- a call of `rule` at a number, with a command
module _ (κs : Lfts 0) (a : ArgsD signature κs) (r : ResD signature κs) (s : AtExit (ended_of 0 kinds.ps kinds.r) κs)
    (p : reads.Post κs a r s) where
  -- "read 0x01 and write 0x02 at multiples of 8, in 0x001000 to 0x00FFF8 or 0xF00000 to 0xF003F8"
  pub rule_number_row : (a.1.0 ≡ 0x01) ⊎ (a.1.0 ≡ 0x02)
      → (FlashRow a.0 ⊎ EepromRow a.0 → ruled_number r ≡ 0)
      × ((FlashRow a.0 → ⊥) → (EepromRow a.0 → ⊥) → ruled_number r ≡ 8)
  rule_number_row =
      ⊎_elim (λ e. rw (p ∙ ap (ruled a.0) e) (by_row a.0 (ruled a.0 0x01) (read_legal a.0)))
      (λ e. rw (p ∙ ap (ruled a.0) e) (by_row a.0 (ruled a.0 0x02) (write_legal a.0)))

  -- "Erase 0x03 at multiples of 64 in 0x001000 to 0x00FFC0; EEPROM has none."
  pub rule_number_block : a.1.0 ≡ 0x03
      → (Block a.0 → ruled_number r ≡ 0) × ((Block a.0 → ⊥) → ruled_number r ≡ 8)
  rule_number_block e = rw (p ∙ ap (ruled a.0) e) (by_block a.0 (ruled a.0 0x03) (erase_legal a.0))

  -- any other command
  pub rule_number_other : (a.1.0 ≡ 0x01 → ⊥) → (a.1.0 ≡ 0x02 → ⊥) → (a.1.0 ≡ 0x03 → ⊥) → ruled_number r ≡ 8
  rule_number_other x y z = ap ruled_number (p ∙ other_illegal a.0 a.1.0 x y z)
