-- What the contract of `deliver` says, whatever node, memories and buffers it is lent: the definition's step. And so what it can't spoil:
-- the protected cells and the lengths, since a refused recipe touches nothing and a delivery hands frames over one by one.
-- Assumes nothing.
use mathlib.Core.Path.{◌≡◌, ◌∙◌, refl, ap}
use mathlib.Core.Bool.{true}
use mathlib.Core.List.{List}
use Prim.Native.Nat.{ℕ}
use lib.ListN.{length, get_or}
use Rattle.memory_address.specs.Rule.{protected}
use Rattle.memory_address.proofs.Laws.{rim_protected}
use Rattle.memory_cells.specs.Spared.{Spared}
use Rattle.node_rules.specs.declared.Node.{Node}
use Rattle.node_rules.specs.Runs.{state}
use Rattle.recipe.specs.Translation.{Translated, Frames, Refused, translated, output_by}
use Rattle.update_rules.specs.Delivery.{delivered}
use Rattle.update_rules.proofs.Deliveries.{all_delivered, delivery_keeps, delivery_spares}
use Rattle.update_deliver.specs.Taken.{first_frames}
use Rattle.update_deliver.specs.Delivering.{Left, room_for, deliver_by, deliver_step}
use Rattle.update.specs.Calls.{Deliver, call}

pub deliver_said : {recipe flash eeprom frames answers : List ℕ} {n : Node} {l : Left} → Deliver recipe n flash eeprom frames answers l
    → l ≡ deliver_step recipe n flash eeprom frames answers
deliver_said (call κs a r s p) = p

module _ (recipe flash eeprom frames answers : List ℕ) (n : Node) where
  step_protected : (t : Translated) (i : ℕ) → protected i ≡ true
      → get_or (deliver_by t recipe n flash eeprom frames answers).flash i 0 ≡ get_or flash i 0
  unfolding delivered
  step_protected (Refused number place) i p = refl
  step_protected (Frames count) i p =
      let fs = first_frames count (output_by (Frames count) recipe frames) in
      delivery_spares fs (state n flash eeprom) _ _ (all_delivered fs (state n flash eeprom)) i p

  step_lengths : (t : Translated)
      → (length (deliver_by t recipe n flash eeprom frames answers).flash ≡ length flash)
      × (length (deliver_by t recipe n flash eeprom frames answers).eeprom ≡ length eeprom)
  unfolding delivered
  step_lengths (Refused number place) = (refl, refl)
  step_lengths (Frames count) =
      let fs = first_frames count (output_by (Frames count) recipe frames) in
      let kept = delivery_keeps fs (state n flash eeprom) _ _ (all_delivered fs (state n flash eeprom)) in
      (kept.flash_length, kept.eeprom_length)

-- any node, any memories, any buffers
module _ {recipe flash eeprom frames answers : List ℕ} {n : Node} {l : Left}
    (delivers : Deliver recipe n flash eeprom frames answers l) where
  pub deliver_protected : (i : ℕ) → protected i ≡ true → get_or l.flash i 0 ≡ get_or flash i 0
  unfolding deliver_step
  deliver_protected i p =
      ap (λ (x : Left). get_or x.flash i 0) (deliver_said delivers)
      ∙ step_protected recipe flash eeprom frames answers n (translated recipe (room_for (length frames) (length answers))) i p

  pub deliver_lengths : (length l.flash ≡ length flash) × (length l.eeprom ≡ length eeprom)
  unfolding deliver_step
  deliver_lengths =
      let h = step_lengths recipe flash eeprom frames answers n (translated recipe (room_for (length frames) (length answers))) in
      let said = deliver_said delivers in
      (ap (λ (x : Left). length x.flash) said ∙ h.0, ap (λ (x : Left). length x.eeprom) said ∙ h.1)

  -- FLASH is spared, and EEPROM has its length
  pub deliver_spares : Spared flash l.flash × (length l.eeprom ≡ length eeprom)
  deliver_spares = ((λ i h. deliver_protected i (rim_protected i h), deliver_protected, deliver_lengths.0), deliver_lengths.1)
