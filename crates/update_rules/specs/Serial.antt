-- The same delivery on UART: each frame wrapped, and its fifteen bytes handed to the node one by one.
use Rattle.std.specs.Prelude.{ℕ, ◌≡◌, cond, List, [], ◌∷◌, ◌++◌, map, eqb, length, get_or, take, drop, replicate}
use Rattle.frame_rules.specs.Wrapping.{wrapped_of}
use Rattle.memory_address.specs.Places.{flash_cells, eeprom_cells}
use Rattle.node_rules.specs.declared.Pin.TheVariants.{CanAndUart}
use Rattle.node_rules.specs.declared.Node.{Node}
use Rattle.node_rules.specs.Numbered.{UartAnswer}
use Rattle.node_rules.specs.Record.{held_of}
use Rattle.node_rules.specs.Uart.{UartStep}
use Rattle.node_rules.specs.Runs.{State, state, end_of, behind_byte, bytes_in}
use Rattle.recipe.specs.Frames.{joined}
use Rattle.update_rules.specs.Delivery.{Delivery, delivery}

-- what is told of the answer to a byte: the number, how many replies, and the 15 bytes of the first (0 where there is none)
abbrev pub told_on_uart : UartAnswer → List ℕ
told_on_uart a = a.number ∷ a.count ∷ take 15 a.replies

abbrev pub told_all_on_uart : List UartStep → List (List ℕ)
told_all_on_uart steps = map (λ (s : UartStep). told_on_uart s.answer) steps

-- all that UART steps leave, behind what stood before them
abbrev pub delivery_on_uart : State → List UartStep → Delivery
delivery_on_uart before steps = delivery (told_all_on_uart steps) (end_of behind_byte before steps)

-- bytes handed to a node one by one
unfoldable pub fed : List ℕ → Node → List ℕ → List ℕ → Delivery
fed bytes n flash eeprom = delivery_on_uart (state n flash eeprom) (bytes_in bytes (state n flash eeprom))

-- wrapped frames, one behind the other
abbrev pub wrapped_all : List (List ℕ) → List ℕ
wrapped_all frames = joined (map wrapped_of frames)

-- a byte that does not complete its frame: number 10, no reply
abbrev pub incomplete_told : List ℕ
incomplete_told = 10 ∷ 0 ∷ replicate 15 0

-- what is told of the byte that completes a frame, where t is told of the frame on CAN: the same, its reply wrapped
abbrev pub wrapped_told : List ℕ → List ℕ
wrapped_told t = get_or t 0 0 ∷ get_or t 1 0 ∷ cond (eqb (get_or t 1 0) 0) (replicate 15 0) (wrapped_of (drop 2 t))

-- "each byte but a frame's last gives 10"
abbrev pub serially : List (List ℕ) → List (List ℕ)
serially [] = []
serially (t ∷ ts) = replicate 14 incomplete_told ++ (wrapped_told t ∷ serially ts)

abbrev pub on_serial : Delivery → Delivery
on_serial d = record { answers = serially d.answers; node = d.node; flash = d.flash; eeprom = d.eeprom }

-- "on an open port with no frame half received", "both memories of full size": pin CAN and UART, nothing held
pub record OpenPort (n : Node) (flash eeprom : List ℕ) : Type 0 where
  pub both_ports : n.choices.pin ≡ CanAndUart
  pub none_held : held_of n ≡ []
  pub flash_full : length flash ≡ flash_cells
  pub eeprom_full : length eeprom ≡ eeprom_cells

-- each told answer has number 0: its frame was done
abbrev pub AllDone : List (List ℕ) → Type 0
AllDone [] = Unit {0}
AllDone (t ∷ ts) = (get_or t 0 0 ≡ 0) × AllDone ts
