-- A call of the translator and of `deliver`, witnessed by its real contract, and calls one after the other.
use Rattle.std.specs.Prelude.{◌≡◌, List, [], ◌∷◌, ℕ, length}
use contract.Lifetimes.{Lfts}
use borrow.Fn.World.{ArgsD, ResD}
use denote.Triple.Clauses.{AtExit}
use borrow.Fn.Kinds.{ended_of}
use Rattle.frame_uart.specs.Calls.{Wrap}
use Rattle.node_rules.specs.declared.Node.{Node}
use Rattle.node.specs.Calls.{OneCall}
use Rattle.recipe.specs.Translation.{Translated, in_numbers}
use Rattle.recipe_translate.specs.contracts.translate as translate
use Rattle.recipe_translate.proofs.translate.Kinds as translate-kinds
use Rattle.recipe_translate.proofs.translate.Reads as translate-reads
use Rattle.update_deliver.specs.Delivering.{Left, delivered_in_numbers, left}
use Rattle.update_deliver.specs.contracts.deliver as deliver
use Rattle.update_deliver.proofs.deliver.Kinds as deliver-kinds
use Rattle.update_deliver.proofs.deliver.Reads as deliver-reads

-- `translate(recipe, output)` may give t and leave output'
pub data Translate : List ℕ → List ℕ → Translated → List ℕ → Type 1 where
  call : (κs : Lfts 2) (a : ArgsD translate.signature κs) (r : ResD translate.signature κs)
      (s : AtExit (ended_of 2 translate-kinds.ps translate-kinds.r) κs) → translate-reads.Post κs a r s
      → Translate a.0.now a.1.0.now (in_numbers r) s.1.0.now

-- `deliver(recipe, n, flash, eeprom, frames, answers)` may leave l
pub data Deliver : List ℕ → Node → List ℕ → List ℕ → List ℕ → List ℕ → Left → Type 1 where
  call : (κs : Lfts 5) (a : ArgsD deliver.signature κs) (r : ResD deliver.signature κs)
      (s : AtExit (ended_of 5 deliver-kinds.ps deliver-kinds.r) κs) → deliver-reads.Post κs a r s
      → Deliver a.0.now a.1.0 a.1.1.0.now a.1.1.1.0.now a.1.1.1.1.0.now a.1.1.1.1.1.0.now
      (left (delivered_in_numbers r) s.1.1.0.now s.1.1.1.0.now s.1.1.1.1.0.now s.1.1.1.1.1.0.now)

-- calls of `wrap`, one a frame, each into 15 lent bytes: the frames, and what each left
pub data Wraps : List (List ℕ) → List (List ℕ) → Type 1 where
  none : Wraps [] []
  more : {f held w : List ℕ} {number : ℕ} {fs ws : List (List ℕ)} → Wrap f held number w → length held ≡ 15 → Wraps fs ws
      → Wraps (f ∷ fs) (w ∷ ws)

-- calls of any kind one after the other, with any arguments: what the two memories hold before the first and behind the last. The memories
-- are carried over; between calls any record may be handed in.
pub data AnyCalls : List ℕ → List ℕ → List ℕ → List ℕ → Type 1 where
  none : {flash eeprom : List ℕ} → AnyCalls flash eeprom flash eeprom
  called : {flash eeprom flash₁ eeprom₁ flash' eeprom' : List ℕ} → OneCall flash eeprom flash₁ eeprom₁
      → AnyCalls flash₁ eeprom₁ flash' eeprom' → AnyCalls flash eeprom flash' eeprom'
  delivered : {recipe flash eeprom frames answers flash' eeprom' : List ℕ} {n : Node} {l : Left}
      → Deliver recipe n flash eeprom frames answers l → AnyCalls l.flash l.eeprom flash' eeprom'
      → AnyCalls flash eeprom flash' eeprom'
