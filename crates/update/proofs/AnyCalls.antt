-- What no calls can spoil, whatever they are and whatever they are handed: each spares the protected cells of FLASH and keeps the lengths
-- of both memories, and so do they all.
-- Assumes nothing.
use mathlib.Core.Path.{◌≡◌, ◌∙◌, refl}
use mathlib.Core.Bool.{true}
use mathlib.Core.List.{List}
use Prim.Native.Nat.{ℕ, ◌<◌}
use lib.ListN.{length, get_or}
use Rattle.memory_address.specs.Rule.{protected}
use Rattle.memory_address.proofs.Laws.{rim_protected}
use Rattle.node.proofs.DemandOne.{one_call_protected, one_call_lengths}
use Rattle.update.specs.Calls.{AnyCalls, none, called, delivered}
use Rattle.update.proofs.Delivering.{deliver_protected, deliver_lengths}

pub no_calls_spoil : {flash eeprom flash' eeprom' : List ℕ} → AnyCalls flash eeprom flash' eeprom' → (i : ℕ) → protected i ≡ true
    → get_or flash' i 0 ≡ get_or flash i 0
no_calls_spoil none i p = refl
no_calls_spoil (called c rest) i p = no_calls_spoil rest i p ∙ one_call_protected c i p
no_calls_spoil (delivered c rest) i p = no_calls_spoil rest i p ∙ deliver_protected c i p

-- "No sequence of calls changes FLASH below 0x001000."
pub no_calls_below_rim : {flash eeprom flash' eeprom' : List ℕ} → AnyCalls flash eeprom flash' eeprom' → (i : ℕ) → i < 0x001000
    → get_or flash' i 0 ≡ get_or flash i 0
no_calls_below_rim calls i l = no_calls_spoil calls i (rim_protected i l)

-- nor the length of a memory
pub no_calls_lengths : {flash eeprom flash' eeprom' : List ℕ} → AnyCalls flash eeprom flash' eeprom'
    → (length flash' ≡ length flash) × (length eeprom' ≡ length eeprom)
no_calls_lengths none = (refl, refl)
no_calls_lengths (called c rest) =
    let one = one_call_lengths c in
    let others = no_calls_lengths rest in
    (others.0 ∙ one.0, others.1 ∙ one.1)
no_calls_lengths (delivered c rest) =
    let one = deliver_lengths c in
    let others = no_calls_lengths rest in
    (others.0 ∙ one.0, others.1 ∙ one.1)
