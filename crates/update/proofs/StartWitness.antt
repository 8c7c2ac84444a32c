-- The premises of "firmware is started exactly if the image meets both conditions" can be met, either way, over a FLASH of zeros: a Block
-- at 0x001000 with the stored sum 00 00 33 and, at 0x001010, 30 00 03; and one with 33 00 00 there, whose sums are equal too. A Block is
-- legal whatever its bytes, so each is delivered as any other; six cells and a sum compute.
-- Assumes nothing.
use mathlib.Core.Path.{◌≡◌, refl, ap, subst, sym}
use mathlib.Core.Bool.{true}
use mathlib.Core.List.{List, [], ◌∷◌, ◌++◌}
use Prim.Native.Nat.{ℕ}
use native.Mathlib.Omega.{arith}
use lib.Dec.{lit<}
use lib.ListN.{replicate}
use Rattle.base.specs.Parts.{Bytes, patch}
use Rattle.base.proofs.Bytes.{bytes_append, bytes_replicate}
use Rattle.memory_address.specs.Rule.{ruled}
use Rattle.memory_start.specs.Plain.{SumsAgree, Starts}
use Rattle.node_rules.specs.declared.Mode.TheVariants.{Normal}
use Rattle.node_rules.specs.declared.Choices.{Choices}
use Rattle.node_rules.specs.Numbered.{Restarted}
use Rattle.node_rules.specs.Record.{tidied}
use Rattle.node_rules.specs.Runs.{State}
use Rattle.node.specs.Calls.{RestartWith}
use Rattle.recipe.specs.Items.{block, Recipe, Legal}
use Rattle.recipe.specs.Frames.{frames_of}
use Rattle.recipe.specs.Plain.{Memories, plain_items, plainly}
use Rattle.recipe.proofs.Plainly.{plain_block}
use Rattle.update_rules.specs.Delivery.{behind_frames, delivered}
use Rattle.update_rules.specs.Updated.{Ready, over, Arrived}
use Rattle.update_rules.proofs.Deliveries.{all_delivered}
use Rattle.update_rules.proofs.DemandThree.{delivery_arrives}
use Rattle.update_rules.proofs.BlockWitness.{node, memories, staged_before, block_full}
use Rattle.update.proofs.Afterwards.{restart_then_starts}

-- the Block's bytes, by the three that go to 0x001010
pub image : ℕ → ℕ → ℕ → List ℕ
image x y z = 0x00 ∷ 0x00 ∷ 0x33 ∷ replicate 13 0x00 ++ (x ∷ y ∷ z ∷ replicate 45 0x00)

pub start_recipe : ℕ → ℕ → ℕ → Recipe
start_recipe x y z = record { module_number = 0x05; group_number = 0x0A; items = block 0x001000 (image x y z) ∷ [] }

module _ (x y z : ℕ) (bytes : Bytes (x ∷ y ∷ z ∷ [])) where
  start_legal : Legal (start_recipe x y z)
  unfolding start_recipe image ruled
  start_legal =
      let rest = bytes_append (replicate 13 0x00) (x ∷ y ∷ z ∷ replicate 45 0x00) (bytes_replicate 13 0x00 (lit< tt))
      (bytes.0, (bytes.1.0, (bytes.1.1.0, bytes_replicate 45 0x00 (lit< tt))))
      in
      record {
        module_byte = lit< tt;
        group_byte = lit< tt;
        few = omega arith;
        each = ((refl, refl, (lit< tt, (lit< tt, (lit< tt, rest)))), tt);
      }

  start_ready : Ready node (start_recipe x y z)
  unfolding start_recipe node staged_before tidied ruled
  start_ready = record { staged = staged_before; is_programming = refl; same_module = refl; same_group = refl }

  -- what stands after the delivery, and that it has arrived whole
  abbrev pub after : State
  after = behind_frames (frames_of (start_recipe x y z)) (over node memories)

  start_arrives : Arrived (start_recipe x y z) node memories
      (delivered (frames_of (start_recipe x y z)) node memories.flash memories.eeprom).answers after
  start_arrives =
      delivery_arrives (start_recipe x y z) node memories _ after start_legal start_ready block_full
      (all_delivered (frames_of (start_recipe x y z)) (over node memories))

  -- FLASH as the recipe reads plainly
  start_flash : (plainly (start_recipe x y z) memories).flash ≡ patch memories.flash 0x001000 (image x y z)
  unfolding plainly plain_items start_recipe
  start_flash = ap (λ (m : Memories). m.flash) (plain_block 0x001000 (image x y z) memories start_legal.each.0 block_full.0)

pub bytes_30 : Bytes (0x30 ∷ 0x00 ∷ 0x03 ∷ [])
bytes_30 = (lit< tt, (lit< tt, (lit< tt, tt)))

pub bytes_33 : Bytes (0x33 ∷ 0x00 ∷ 0x00 ∷ [])
bytes_33 = (lit< tt, (lit< tt, (lit< tt, tt)))

-- with 30 00 03 both conditions are met, with 33 00 00 that of the sums only
both_met : Starts (patch memories.flash 0x001000 (image 0x30 0x00 0x03))
unfolding patch image memories
both_met = (refl, (refl, refl, refl))

sums_only : SumsAgree (patch memories.flash 0x001000 (image 0x33 0x00 0x00))
    × (Starts (patch memories.flash 0x001000 (image 0x33 0x00 0x00)) → ⊥)
unfolding patch image memories
sums_only = (refl, λ h. let d : ◌≡◌ {A = ℕ} 0x33 0x30 = h.1.0 in omega arith)

-- so that whatever a passing restart may answer, the firmware of the one has started, and that of the other has not
module _ {choices : Choices} {x : Restarted} where
  pub starts_after : let s = after 0x30 0x00 0x03 bytes_30 in
      RestartWith s.node choices true s.flash s.eeprom x → x.node.mode ≡ Normal true
  starts_after c =
      (restart_then_starts (start_recipe 0x30 0x00 0x03) node memories _ (after 0x30 0x00 0x03 bytes_30) (start_legal 0x30 0x00 0x03 bytes_30)
      block_full (start_arrives 0x30 0x00 0x03 bytes_30) c).1 (subst Starts (sym (start_flash 0x30 0x00 0x03 bytes_30)) both_met)

  pub none_starts_after : let s = after 0x33 0x00 0x00 bytes_33 in
      RestartWith s.node choices true s.flash s.eeprom x → x.node.mode ≡ Normal true → ⊥
  none_starts_after c e =
      sums_only.1
      (subst Starts (start_flash 0x33 0x00 0x00 bytes_33)
      ((restart_then_starts (start_recipe 0x33 0x00 0x00) node memories _ (after 0x33 0x00 0x00 bytes_33) (start_legal 0x33 0x00 0x00 bytes_33)
      block_full (start_arrives 0x33 0x00 0x00 bytes_33) c).0 e))
