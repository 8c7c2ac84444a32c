-- What `change` can't spoil, whatever effect and frame it is handed, over its real contract (the generated `Reads`): the law of any memory
-- effects, of node_rules, at this one.
-- Assumes nothing.
use mathlib.Core.Path.{◌≡◌, ◌∙◌, sym, ap, subst}
use mathlib.Core.List.{List, [], ◌∷◌}
use Prim.Native.Nat.{ℕ}
use contract.Lifetimes.{Lfts}
use borrow.Fn.World.{ArgsD, ResD}
use denote.Triple.Clauses.{AtExit}
use borrow.Fn.Kinds.{ended_of}
use lib.ListN.{length}
use Rattle.memory_address.proofs.Laws.{rim_protected}
use Rattle.memory_cells.specs.Spared.{Spared}
use Rattle.node_rules.specs.declared.Memory.{Memory}
use Rattle.node_rules.specs.Requests.{data_in}
use Rattle.node_rules.specs.Step.{flash_after}
use Rattle.node_rules.proofs.Spoiling.{protected_stays, lengths_stay}
use Rattle.node_change.specs.contracts.change.{signature as change-signature}
use Rattle.node_change.proofs.change.Kinds as change-kinds
use Rattle.node_change.proofs.change.Reads as change-reads

-- FLASH after one effect
one_effect : (m : Memory) (d flash : List ℕ) → Spared flash (flash_after m d flash)
one_effect m d flash =
    let one : List (Memory × List ℕ) = (m, d) ∷ [] in (
      λ i l. protected_stays one flash i (rim_protected i l),
      λ i p. protected_stays one flash i p,
      (lengths_stay one flash []).0,
    )

-- FLASH is spared, and EEPROM has its length
pub change_spares : (κs : Lfts 3) (a : ArgsD change-signature κs) (r : ResD change-signature κs)
    (s : AtExit (ended_of 3 change-kinds.ps change-kinds.r) κs) → change-reads.Post κs a r s
    → Spared a.1.1.0.now s.1.1.0.now × (length s.1.1.1.0.now ≡ length a.1.1.1.0.now)
change_spares κs a r s p =
    let m = a.0 in
    let d = data_in a.1.0.now in
    let flash = a.1.1.0.now in
    let eeprom = a.1.1.1.0.now in
    (subst (Spared flash) (sym p.0) (one_effect m d flash), ap length p.1 ∙ (lengths_stay ((m, d) ∷ []) [] eeprom).1)
