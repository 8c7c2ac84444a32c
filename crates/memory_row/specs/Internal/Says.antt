-- What an answer says of a row: the part and where it lies, or why there is none. The public functions promise their part of it by itself.
use Rattle.std.specs.Prelude.{ℕ, ◌≡◌, List, [], Result, Ok, Err}
use Rattle.std.specs.Borrow.{Bor}
use Rattle.memory_address.specs.Rule.{refusal_number}
use Rattle.memory_address.specs.declared.Refusal.{Refusal}
use Rattle.memory_row.specs.Shown.{shown, shown_at, shown_number}

abbrev pub Says : Bor (List ℕ) → Bor (List ℕ) → ℕ → Result (Bor (List ℕ)) Refusal → Type 0
Says flash eeprom at (Ok row) =
    (shown_number flash.now eeprom.now at ≡ 0) × (row.now ≡ shown flash.now eeprom.now at) × (row.ref_ptr ≡ shown_at flash eeprom at)
Says flash eeprom at (Err e) =
    (shown_number flash.now eeprom.now at ≡ refusal_number e) × (shown flash.now eeprom.now at ≡ []) × (shown_at flash eeprom at ≡ flash.ref_ptr)
