-- What a restart finds once a recipe has arrived whole, on either port, over the real contract of `restart_with`: the contract is the
-- rules' restart, of which crate update_rules says it.
-- Assumes nothing.
use mathlib.Core.Path.{◌≡◌, ◌∙◌, ap, sym}
use mathlib.Core.Bool.{true}
use mathlib.Core.List.{List}
use Prim.Native.Nat.{ℕ}
use Rattle.memory_address.specs.Ranges.{Exactly}
use Rattle.memory_start.specs.Start.{starts}
use Rattle.memory_start.specs.Plain.{Starts}
use Rattle.node_rules.specs.declared.Mode.TheVariants.{Normal}
use Rattle.node_rules.specs.declared.Node.{Node}
use Rattle.node_rules.specs.declared.Choices.{Choices}
use Rattle.node_rules.specs.Numbered.{Restarted}
use Rattle.node_rules.specs.Runs.{State}
use Rattle.node.specs.Calls.{RestartWith}
use Rattle.node.proofs.Calls.{restart_with_said}
use Rattle.recipe.specs.Items.{Recipe, Legal}
use Rattle.recipe.specs.Plain.{Memories, plainly}
use Rattle.update_rules.specs.Updated.{Full, Arrived}
use Rattle.update_rules.proofs.Corollaries.{then_normal, then_starts}

-- with a passing self-test: 0, and normal mode
pub restart_then_normal : (r : Recipe) (n : Node) (m : Memories) (answers : List (List ℕ)) (after : State) → Legal r → Full m
    → Arrived r n m answers after → {choices : Choices} {x : Restarted}
    → RestartWith after.node choices true after.flash after.eeprom x
    → (x.number ≡ 0) × (x.node.mode ≡ Normal (starts (plainly r m).flash))
restart_then_normal r n m answers after legal full arrived {choices} c =
    let normal = then_normal r n m answers after legal full arrived choices in
    let said = restart_with_said c in
    (ap (λ (y : Restarted). y.number) said ∙ normal.0, ap (λ (y : Restarted). y.node.mode) said ∙ normal.1)

-- and firmware is started exactly if the image meets both conditions: its sums are equal, and its three cells are 30 00 03
pub restart_then_starts : (r : Recipe) (n : Node) (m : Memories) (answers : List (List ℕ)) (after : State) → Legal r → Full m
    → Arrived r n m answers after → {choices : Choices} {x : Restarted}
    → RestartWith after.node choices true after.flash after.eeprom x
    → Exactly (x.node.mode ≡ Normal true) (Starts (plainly r m).flash)
restart_then_starts r n m answers after legal full arrived {choices} c =
    let starts = then_starts r n m answers after legal full arrived choices in
    let said = ap (λ (y : Restarted). y.node.mode) (restart_with_said c) in
    (λ e. starts.0 (sym said ∙ e), λ h. said ∙ starts.1 h)
