-- What 0x105 and 0x106 are answered over the calls' real contracts (Calls.antt), with FLASH as it is when asked: the rows of the request
-- table (node_rules/proofs/RequestTable.antt) are of any record and any FLASH, so nothing is said of what an earlier restart found.
-- Assumes nothing.
use mathlib.Core.Path.{◌≡◌, ◌∙◌, refl, ap}
use mathlib.Core.Bool.{Bool, true, false}
use mathlib.Core.List.{List, [], ◌∷◌, ◌++◌}
use mathlib.Core.Logic.{◌⊎◌}
use Prim.Native.Nat.{ℕ, ◌+◌, ◌/◌, ◌%◌}
use lib.ListN.{length, get_or}
use Rattle.base.specs.Parts.{part, sum_of}
use Rattle.memory_start.specs.Plain.{FlagSays}
use Rattle.frame_rules.specs.Wrapping.{wrapped_of}
use Rattle.node_rules.specs.declared.Pin.TheVariants.{CanAndUart}
use Rattle.node_rules.specs.declared.Mode.TheVariants.{Normal}
use Rattle.node_rules.specs.declared.Choices.{Choices}
use Rattle.node_rules.specs.declared.Node.{Node}
use Rattle.node_rules.specs.Numbered.{Answer, Restarted}
use Rattle.node_rules.specs.Record.{held_of, tidied}
use Rattle.node_rules.specs.Outcomes.{is_deaf}
use Rattle.node_rules.specs.Step.{Step}
use Rattle.node_rules.specs.Uart.{UartStep, via_uart}
use Rattle.node_rules.specs.Runs.{State, state, collected}
use Rattle.node_rules.specs.Reading.{replies_with, with_own, eight_of, ToGroup, ToNode}
use Rattle.node_rules.proofs.RequestTable.{request_105_106, request_1F1}
use Rattle.node_rules.proofs.Agreement.{agreement}
use Rattle.node.proofs.Calls.{bytes_said}
use Rattle.node.proofs.DemandTwo.{can_frame_follows}
use Rattle.node.specs.Calls.{RestartWith, CanFrame, UartBytes}

module _ {n : Node} {flash eeprom : List ℕ} (fl : length flash ≡ 65536) (el : length eeprom ≡ 1024) (m g d0 d1 d2 d3 d4 d5 d6 d7 : ℕ) where
  -- 0x106 to a node whose firmware has not started: the twelve bytes, the flag byte by the two conditions as they are now; the node and
  -- both memories stay
  pub can_frame_1F1 : {flash' eeprom' : List ℕ} {r : Answer}
      → CanFrame n (0x10 ∷ 0x60 ∷ m ∷ g ∷ eight_of d0 d1 d2 d3 d4 d5 d6 d7) flash eeprom r flash' eeprom'
      → n.mode ≡ Normal false → ToNode n.plate d2 d3
      → (flag sum : ℕ) → FlagSays flag flash → sum ≡ sum_of (part flash 0x001003 28669)
      → let x =
      replies_with
      (with_own n.plate 0x1F 0x11 (eight_of flag (sum / 65536 % 256) (sum / 256 % 256) (sum % 256) 0xFF 0xFF 0x03 0x04))
      (tidied n) flash eeprom
      in
      (r ≡ x.answer) × (flash' ≡ flash) × (eeprom' ≡ eeprom)
  can_frame_1F1 c mode to flag sum says e =
      can_frame_follows c _ (request_1F1 n flash eeprom fl el false mode m g d0 d1 d2 d3 d4 d5 d6 d7 to refl flag sum says e)

  -- the same on UART, wrapped, byte by byte
  pub uart_bytes_1F1 : {steps : List UartStep} {end : State}
      → let f : List ℕ = 0x10 ∷ 0x60 ∷ m ∷ g ∷ eight_of d0 d1 d2 d3 d4 d5 d6 d7 in
      UartBytes (wrapped_of f) (state n flash eeprom) steps end
      → n.mode ≡ Normal false → n.choices.pin ≡ CanAndUart → held_of n ≡ [] → ToNode n.plate d2 d3
      → (flag sum : ℕ) → FlagSays flag flash → sum ≡ sum_of (part flash 0x001003 28669)
      → steps
      ≡ collected (tidied n) [] (0xAA ∷ f ++ (sum_of f % 256 ∷ [])) flash eeprom
      ++ (via_uart
      (replies_with
      (with_own n.plate 0x1F 0x11 (eight_of flag (sum / 65536 % 256) (sum / 256 % 256) (sum % 256) 0xFF 0xFF 0x03 0x04))
      (tidied n) flash eeprom)
      ∷ [])
  uart_bytes_1F1 bytes mode pin empty to flag sum says e =
      let f : List ℕ = 0x10 ∷ 0x60 ∷ m ∷ g ∷ eight_of d0 d1 d2 d3 d4 d5 d6 d7 in
      let hears : is_deaf n.mode ≡ false = ap is_deaf mode in
      (bytes_said bytes).0
      ∙ agreement n flash eeprom fl el pin hears empty f refl
      ∙ ap (λ (x : Step). collected (tidied n) [] (0xAA ∷ f ++ (sum_of f % 256 ∷ [])) flash eeprom ++ (via_uart x ∷ []))
      (request_1F1 n flash eeprom fl el false mode m g d0 d1 d2 d3 d4 d5 d6 d7 to refl flag sum says e)

  -- 0x105 in normal mode, and 0x106 to a node whose firmware has started: the ordinary reply, whatever the conditions are now
  pub can_frame_105_106 : {flash' eeprom' : List ℕ} {r : Answer} (b2 : ℕ)
      → CanFrame n (0x10 ∷ b2 ∷ m ∷ g ∷ eight_of d0 d1 d2 d3 d4 d5 d6 d7) flash eeprom r flash' eeprom'
      → (started : Bool) → n.mode ≡ Normal started
      → ((b2 ≡ 0x50) × ToGroup n.plate d2 d3) ⊎ ((b2 ≡ 0x60) × ToNode n.plate d2 d3 × (started ≡ true))
      → let x =
      replies_with
      (with_own n.plate 0x10 (b2 + 1)
      (eight_of 0x30 0x00 0x03 (get_or flash 0x001013 0) (get_or flash 0x001014 0) (get_or flash 0x001015 0) 0x03 0x04))
      (tidied n) flash eeprom
      in
      (r ≡ x.answer) × (flash' ≡ flash) × (eeprom' ≡ eeprom)
  can_frame_105_106 b2 c started mode to =
      can_frame_follows c _ (request_105_106 n flash eeprom fl el started mode m g d0 d1 d2 d3 d4 d5 d6 d7 b2 to)

-- "as found when asked": after a restart that started nothing, over whatever FLASH, the flag byte is of FLASH as it is when 0x106 comes
pub found_when_asked : {n : Node} {choices : Choices} {passed : Bool} {flash₁ eeprom₁ : List ℕ} {x : Restarted}
    → RestartWith n choices passed flash₁ eeprom₁ x → x.node.mode ≡ Normal false
    → {flash eeprom flash' eeprom' : List ℕ} {r : Answer} (m g d0 d1 d2 d3 d4 d5 d6 d7 : ℕ)
    → CanFrame x.node (0x10 ∷ 0x60 ∷ m ∷ g ∷ eight_of d0 d1 d2 d3 d4 d5 d6 d7) flash eeprom r flash' eeprom'
    → length flash ≡ 65536 → length eeprom ≡ 1024 → ToNode x.node.plate d2 d3 → (flag : ℕ) → FlagSays flag flash
    → get_or r.replies 4 0 ≡ flag
found_when_asked c mode m g d0 d1 d2 d3 d4 d5 d6 d7 asked fl el to flag says =
    ap (λ (y : Answer). get_or y.replies 4 0)
    (can_frame_1F1 fl el m g d0 d1 d2 d3 d4 d5 d6 d7 asked mode to flag _ says refl).0
