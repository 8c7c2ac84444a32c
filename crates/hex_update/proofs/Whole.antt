-- From text to cells: a text becomes a recipe, the recipe arrives whole at a node, and so the module holds what the HEX file said. Over the
-- real contracts of `convert` and of each way of delivery: demand 3 says what an arrived recipe leaves, and a recipe of cells read plainly
-- leaves those cells.
-- Assumes nothing.
use mathlib.Core.Path.{◌≡◌, ◌∙◌, sym, ap, subst}
use mathlib.Core.List.{List, []}
use Prim.Native.Nat.{ℕ, ◌*◌, ◌≤◌, ◌<◌}
use lib.ListN.{length, get_or, take}
use Rattle.node_rules.specs.declared.Node.{Node}
use Rattle.node_rules.specs.Runs.{State, state}
use Rattle.recipe.specs.Items.{Recipe, Legal, printed}
use Rattle.recipe.specs.Frames.{frame_count}
use Rattle.recipe.proofs.Accepts.{printed_once}
use Rattle.recipe.specs.Plain.{Memories, plainly}
use Rattle.update_rules.specs.Updated.{Ready, Full, Arrived}
use Rattle.update_rules.specs.Mirror.{answers_of}
use Rattle.update_deliver.specs.Delivering.{Left}
use Rattle.update.specs.Calls.{Deliver}
use Rattle.update.proofs.Whole.{deliver_arrives}
use Rattle.hex_rules.specs.Refusing.{Converted, Made}
use Rattle.hex_rules.specs.Cells.{Cell}
use Rattle.hex_rules.specs.Checks.{gives}
use Rattle.hex_rules.specs.Converting.{text_read}
use Rattle.hex_rules.specs.Recipe.{recipe_of}
use Rattle.hex_rules.specs.Printing.{EachOnce}
use Rattle.hex_rules.specs.Holding.{Holds}
use Rattle.hex_rules.proofs.MadeLegal.{made_legal}
use Rattle.hex_rules.proofs.Once.{read_once}
use Rattle.hex_rules.proofs.PlainCells.{made_holds, file_cell_flash, file_cell_eeprom}
use Rattle.hex_update.specs.Calls.{Convert}
use Rattle.hex_update.specs.Module.{HoldsFile}
use Rattle.hex_update.proofs.Converting.{convert_made, same_cells}

-- memories of a state
abbrev memories : State → Memories
memories s = record { flash = s.flash; eeprom = s.eeprom }

-- the recipe of cells, each given once, has arrived whole: the module holds those cells
cells_arrived : (m g : ℕ) (cells : List Cell) → EachOnce [] cells → (n : Node) (memory : Memories) (answers : List (List ℕ)) (after : State)
    → Full memory → Arrived (recipe_of m g cells) n memory answers after → HoldsFile cells n memory after
cells_arrived m g cells once n memory answers after full arrived =
    let leaves : memories after ≡ plainly (recipe_of m g cells) memory = ap memories arrived.stands in
    record {
      waits = ap (λ (s : State). s.node) arrived.stands;
      holds = subst (Holds cells memory) (sym leaves) (made_holds m g cells memory full.0 full.1);
      flash_cell = λ xs x ys e h.
          ap (λ (y : Memories). get_or y.flash x.place 0) leaves
          ∙ ap (λ (cs : List Cell). get_or (plainly (recipe_of m g cs) memory).flash x.place 0) e
          ∙ file_cell_flash m g xs x ys memory (subst (EachOnce []) e once) full.0 full.1 h;
      eeprom_cell = λ xs x ys e i p b.
          ap (λ (y : Memories). get_or y.eeprom i 0) leaves
          ∙ ap (λ (cs : List Cell). get_or (plainly (recipe_of m g cs) memory).eeprom i 0) e
          ∙ file_cell_eeprom m g xs x ys memory (subst (EachOnce []) e once) full.0 full.1 i p b;
    }

module _ {text before after : List ℕ} {m g : ℕ} {c : Converted} (converts : Convert text m g before c after)
    (size : ℕ) (made : c ≡ Made size) (cells : List Cell) (read : text_read text ≡ gives cells) where
  once : EachOnce [] cells
  once = read_once text cells read

  bytes : take size after ≡ printed (recipe_of m g cells)
  bytes =
      let k = convert_made converts size made in
      k.bytes ∙ ap (λ (cs : List Cell). printed (recipe_of m g cs)) (same_cells converts size k cells read)

  -- however the frames of the recipe were handed over, on CAN, on UART, in pieces: where it has arrived whole, the module holds what the
  -- file said. (The bytes that `convert` made are that recipe's.)
  pub arrived_holds : (n : Node) (memory : Memories) (answers : List (List ℕ)) (end : State) (q : Recipe) → take size after ≡ printed q
      → Legal q → m < 256 → g < 256 → Full memory → Arrived q n memory answers end → HoldsFile cells n memory end
  arrived_holds n memory answers end q e legal hm hg full arrived =
      let same : q ≡ recipe_of m g cells = printed_once q (recipe_of m g cells) legal (made_legal m g cells hm hg once) (sym e ∙ bytes) in
      cells_arrived m g cells once n memory answers end full (subst (λ (x : Recipe). Arrived x n memory answers end) same arrived)

  -- the recipe handed to `deliver`, with a node that is programming and bears its numbers, memories of full size and room for frames and
  -- answers: the module holds what the file said
  pub text_to_cells : {frames answers : List ℕ} {n : Node} {memory : Memories} {l : Left}
      → Deliver (take size after) n memory.flash memory.eeprom frames answers l
      → m < 256 → g < 256 → Ready n (recipe_of m g cells) → Full memory
      → 12 * frame_count (recipe_of m g cells) ≤ length frames → 14 * frame_count (recipe_of m g cells) ≤ length answers
      → HoldsFile cells n memory (state l.result.node l.flash l.eeprom)
  text_to_cells {n = n} {memory = memory} {l = l} delivers hm hg ready full f a =
      cells_arrived m g cells once n memory (answers_of (recipe_of m g cells)) (state l.result.node l.flash l.eeprom) full
      (deliver_arrives delivers (recipe_of m g cells) (made_legal m g cells hm hg once) bytes ready full f a)
