-- `memory_row::row_of` meets its contract: where the rule says legal, the eight cells lie within the memory that it names.
-- Assumes nothing.
use Rattle.std.specs.Prelude.{Option, Some, None, Err}
use borrow.Author.Tests.{eq-eqb, ne_eqb}
use mathlib.Core.Path.{◌≡◌, ◌∙◌, sym, ap, subst}
use mathlib.Core.Bool.{false}
use mathlib.Core.List.{List}
use Prim.Native.Nat.{ℕ, ◌-◌}
use native.Mathlib.Nat.{add-sub_cancel_left}
use native.Mathlib.Omega.{arith}
use lib.ListN.{length, take, drop}
use denote.Ref.{Bor}
use Rattle.memory_address.specs.Places.{full}
use Rattle.memory_address.specs.Rule.{ruled, ruled_number}
use Rattle.memory_address.specs.declared.Refusal.TheVariants.{WrongLength}
use Rattle.memory_address.proofs.Laws.{Within, ruled_within}
use Rattle.memory_row.specs.Shown.{row_at, row_lies, shown, shown_at, shown_number}
use Rattle.memory_row.specs.Internal.Says.{Says}
use Rattle.memory_row.proofs.Pinned.{and_false}
use Rattle.memory_row.proofs.row_of.Goals as goal
use Rattle.memory_row.proofs.row_of.Goals.{then-flash-ne-FLASH_CELLS-via-then-flash-ne-FLASH_CELLS, then-flash-ne-FLASH_CELLS-via-else-flash-ne-FLASH_CELLS+then-eeprom-ne-EEPROM_CELLS}
use Rattle.memory_address.specs.declared.Address.{Address}

-- of a memory of the wrong length nothing is shown
not-full : (flash eeprom : Bor (List ℕ)) (a : ℕ) → full flash.now eeprom.now ≡ false → Says flash eeprom a (Err WrongLength)
unfolding shown shown_at shown_number
not-full flash eeprom a f = (simp f, simp f, simp f)

-- of full ones what the rule says
module _ (flash eeprom : Bor (List ℕ)) (a : ℕ) (r : Option Address) (l : length flash.now ≡ 65536) (k : length eeprom.now ≡ 1024)
    (q : r ≡ ruled a 0x01) where
  number-is : shown_number flash.now eeprom.now a ≡ ruled_number r
  unfolding shown_number
  number-is = simp (eq-eqb (length flash.now) 65536 l, eq-eqb (length eeprom.now) 1024 k) (ap ruled_number (sym q))

  shown-is : row_at flash.now eeprom.now r ≡ shown flash.now eeprom.now a
  unfolding shown
  shown-is = simp (eq-eqb (length flash.now) 65536 l, eq-eqb (length eeprom.now) 1024 k) (ap (row_at flash.now eeprom.now) q)

  shown-lies : row_lies flash eeprom r ≡ shown_at flash eeprom a
  unfolding shown_at
  shown-lies = simp (eq-eqb (length flash.now) 65536 l, eq-eqb (length eeprom.now) 1024 k) (ap (row_lies flash eeprom) q)

-- where the eight cells of a case of the rule's answer lie within the memory
lies : (a : ℕ) (r : Option Address) → r ≡ ruled a 0x01 → Within 8 a r
lies a r q = subst (Within 8 a) (sym q) (ruled_within a 0x01)

pub returns-then-flash-ne-FLASH_CELLS : goal.returns-then-flash-ne-FLASH_CELLS
returns-then-flash-ne-FLASH_CELLS c =
    let args = c.args in
    not-full args.flash args.eeprom args.at
    (elim c.then-flash-ne-FLASH_CELLS.branch [
      | then-flash-ne-FLASH_CELLS-via-then-flash-ne-FLASH_CELLS w ↦ simp (ne_eqb _ 65536 w.if-flash-ne-FLASH_CELLS.true)
      | then-flash-ne-FLASH_CELLS-via-else-flash-ne-FLASH_CELLS+then-eeprom-ne-EEPROM_CELLS w ↦ simp (ne_eqb _ 1024 w.if-eeprom-ne-EEPROM_CELLS.true, and_false)
    ])

pub slice_bounds-result-end : goal.slice_bounds-result-end
slice_bounds-result-end c =
    let q = sym (ap Some c.in-Some-Flash.field-0-is) ∙ c.in-Some-Flash.ensures in
    omega (arith, lies c.args.at _ q)

pub overflow_sub-a : goal.overflow_sub-a
overflow_sub-a c =
    let q = sym (ap Some c.in-Some-Eeprom.field-0-is) ∙ c.in-Some-Eeprom.ensures in
    omega (arith, lies c.args.at _ q)

pub slice_bounds-result-end-in-Some-Eeprom : goal.slice_bounds-result-end-in-Some-Eeprom
slice_bounds-result-end-in-Some-Eeprom c =
    let q = sym (ap Some c.in-Some-Eeprom.field-0-is) ∙ c.in-Some-Eeprom.ensures in
    omega (arith, lies c.args.at _ q)

pub returns-in-Some-Flash : goal.returns-in-Some-Flash
returns-in-Some-Flash c =
    let args = c.args in
    let f = c.in-Some-Flash.f.0 in
    let q = sym (ap Some c.in-Some-Flash.field-0-is) ∙ c.in-Some-Flash.ensures in
    let l = c.if-flash-ne-FLASH_CELLS.false in
    let k = c.if-eeprom-ne-EEPROM_CELLS.false in (
      number-is args.flash args.eeprom args.at _ l k q,
      ap (λ (n : ℕ). take n (drop f args.flash.now)) (add-sub_cancel_left f 8) ∙ shown-is args.flash args.eeprom args.at _ l k q,
      shown-lies args.flash args.eeprom args.at _ l k q,
    )

pub returns-in-Some-Eeprom : goal.returns-in-Some-Eeprom
returns-in-Some-Eeprom c =
    let args = c.args in
    let e = c.in-Some-Eeprom.e.0 - 0xF00000 in
    let q = sym (ap Some c.in-Some-Eeprom.field-0-is) ∙ c.in-Some-Eeprom.ensures in
    let l = c.if-flash-ne-FLASH_CELLS.false in
    let k = c.if-eeprom-ne-EEPROM_CELLS.false in (
      number-is args.flash args.eeprom args.at _ l k q,
      ap (λ (n : ℕ). take n (drop e args.eeprom.now)) (add-sub_cancel_left e 8) ∙ shown-is args.flash args.eeprom args.at _ l k q,
      shown-lies args.flash args.eeprom args.at _ l k q,
    )

pub returns-in-None : goal.returns-in-None
returns-in-None c =
    let args = c.args in
    let q = c.in-None.ensures in
    let l = c.if-flash-ne-FLASH_CELLS.false in
    let k = c.if-eeprom-ne-EEPROM_CELLS.false in (
      number-is args.flash args.eeprom args.at None l k q,
      sym (shown-is args.flash args.eeprom args.at None l k q),
      sym (shown-lies args.flash args.eeprom args.at None l k q),
    )
