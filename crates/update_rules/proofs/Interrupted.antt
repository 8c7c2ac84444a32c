-- A recipe broken off and delivered again: after any number of its frames but Leave's, the whole recipe to a node that is programming and
-- bears its numbers leaves what it leaves where nothing was broken off. The frames that came changed only cells that the recipe names, and
-- the plain reading forgets what stood there.
-- Assumes nothing.
use mathlib.Core.Path.{◌≡◌, ◌∙◌, refl, sym, ap, subst}
use mathlib.Core.Bool.{true}
use mathlib.Core.List.{List}
use Prim.Native.Nat.{ℕ, ◌<◌}
use native.Mathlib.Omega.{arith}
use lib.ListN.{length, get_or, take, drop, take-append-drop}
use lib.Seq.{length-take-le}
use Rattle.node_rules.specs.declared.Choices.{Choices}
use Rattle.node_rules.specs.Numbered.{Restarted}
use Rattle.node_rules.specs.declared.Staged.TheVariants.{Nothing}
use Rattle.node_rules.specs.declared.Mode.TheVariants.{Waiting}
use Rattle.node_rules.specs.declared.Node.{Node}
use Rattle.node_rules.specs.Record.{with_mode, tidied}
use Rattle.node_rules.specs.Restart.{restart_step}
use Rattle.node_rules.specs.Runs.{State, state}
use Rattle.node_rules.proofs.Restarting.{restart_programming}
use Rattle.recipe.specs.Items.{Recipe, Legal}
use Rattle.recipe.specs.Frames.{frames_of, frame_count}
use Rattle.recipe.specs.Plain.{Memories, plainly, OutsideEeprom, Each}
use Rattle.recipe.proofs.Framing.{count_frames}
use Rattle.recipe.proofs.Agreeing.{plainly_agrees}
use Rattle.update_rules.specs.Delivery.{Delivery, Delivers}
use Rattle.update_rules.specs.Mirror.{answers_of}
use Rattle.update_rules.specs.Updated.{Ready, over, Full, Underway}
use Rattle.update_rules.proofs.Deliveries.{parted}
use Rattle.update_rules.proofs.DemandThree.{whole_delivery}
use Rattle.update_rules.proofs.Prefixes.{prefix_underway}

-- a node that a passing restart finds with BOOTFL 0xFF and the recipe's numbers in EEPROM
pub ready_restarted : (r : Recipe) (n : Node) (choices : Choices) (m : Memories) → Full m → get_or m.eeprom 0x00 0 ≡ 0xFF
    → get_or m.eeprom 0x26 0 ≡ r.module_number → get_or m.eeprom 0x27 0 ≡ r.group_number
    → Ready (restart_step n choices true m.flash m.eeprom).node r
unfolding tidied
ready_restarted r n choices m full b mo g =
    subst (λ (x : Restarted). Ready x.node r) (sym (restart_programming n choices m.flash m.eeprom full.0 full.1 b))
    (record { staged = Nothing; is_programming = refl; same_module = mo; same_group = g })

module _ (r : Recipe) (k : ℕ) (n : Node) (m : Memories) (answers : List (List ℕ)) (broken : State) (legal : Legal r) (ready : Ready n r)
    (full : Full m) (few : k < frame_count r) (came : Delivers (take k (frames_of r)) (over n m) answers broken) where
  -- how things stand
  pub broken_off : Underway r (over n m) broken
  broken_off = prefix_underway r k (over n m) answers broken legal ready full.0 full.1 few came

  -- what was told so far
  pub told_so_far : answers ≡ take k (answers_of r)
  told_so_far =
      let fs = frames_of r in
      let whole = whole_delivery r n m legal ready full in
      let after = over (with_mode (tidied n) Waiting) (plainly r m) in
      let p = parted (take k fs) (drop k fs) (over n m) after (answers_of r)
      (subst (λ (gs : List (List ℕ)). Delivers gs (over n m) (answers_of r) after) (sym (take-append-drop k fs)) whole) in
      let long : length (take k fs) ≡ k = length-take-le k fs (omega (arith, count_frames r)) in
      ap (λ (d : Delivery). d.answers) (sym came ∙ p.firstly) ∙ ap (λ (j : ℕ). take j (answers_of r)) long

  -- the memories as they stand, and what the recipe makes of them
  abbrev stand : Memories
  stand = record { flash = broken.flash; eeprom = broken.eeprom }

  broken_full : Full stand
  broken_full = (broken_off.flash_length ∙ full.0, broken_off.eeprom_length ∙ full.1)

  read_the_same : plainly r stand ≡ plainly r m
  read_the_same =
      let s = broken_full in
      plainly_agrees r stand m legal s.0 full.0 s.1 full.1 broken_off.flash_kept (λ c _ o. broken_off.eeprom_kept c o)

  -- the whole recipe again
  pub again : (n' : Node) → Ready n' r
      → Delivers (frames_of r) (state n' broken.flash broken.eeprom) (answers_of r) (over (with_mode (tidied n') Waiting) (plainly r m))
  again n' ready' =
      subst (λ (x : Memories). Delivers (frames_of r) (over n' stand) (answers_of r) (over (with_mode (tidied n') Waiting) x)) read_the_same
      (whole_delivery r n' stand legal ready' broken_full)

  -- the plug pulled: a passing restart, and the whole recipe again, where BOOTFL and the own numbers' cells are named by no item and hold
  -- 0xFF and the recipe's numbers
  pub again_after_restart : (choices : Choices) → Each (OutsideEeprom 0x00) r.items → get_or m.eeprom 0x00 0 ≡ 0xFF
      → Each (OutsideEeprom 0x26) r.items → get_or m.eeprom 0x26 0 ≡ r.module_number
      → Each (OutsideEeprom 0x27) r.items → get_or m.eeprom 0x27 0 ≡ r.group_number
      → let n' = (restart_step broken.node choices true broken.flash broken.eeprom).node in
      Delivers (frames_of r) (state n' broken.flash broken.eeprom) (answers_of r) (over (with_mode (tidied n') Waiting) (plainly r m))
  again_after_restart choices ob b om mo og g =
      let u = broken_off in
      again (restart_step broken.node choices true broken.flash broken.eeprom).node
      (ready_restarted r broken.node choices stand broken_full (u.eeprom_kept 0x00 ob ∙ b) (u.eeprom_kept 0x26 om ∙ mo)
      (u.eeprom_kept 0x27 og ∙ g))
