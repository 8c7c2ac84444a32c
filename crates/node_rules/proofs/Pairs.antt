-- What a node in programming mode does with the frames of an update: an address frame stages its command, a data frame does what is staged
-- and shows the eight cells, and 0x020 leaves. Each law reads `can_step` through once; whoever delivers frames cites them alone.
-- Assumes nothing.
use Rattle.std.specs.Prelude.{Some}
use mathlib.Core.Path.{◌≡◌, ◌∙◌, refl, sym, ap}
use mathlib.Core.Bool.{true, false}
use mathlib.Core.List.{List, [], ◌∷◌}
use Prim.Native.Nat.{ℕ, ◌+◌, ◌*◌, ◌/◌, ◌%◌, ◌<◌}
use native.Mathlib.Omega.{arith}
use lib.Dec.{eqb, lit≤}
use lib.ListN.{length, take, drop, replicate}
use lib.Seq.{take-take}
use borrow.Author.Tests.{eq-eqb}
use Rattle.base.specs.Parts.{part, patch, listed}
use Rattle.base.proofs.Patched.{part_patch}
use Rattle.base.proofs.Listed.{listed_part, listed_all}
use Rattle.memory_address.specs.Places.{full, eeprom_cell}
use Rattle.memory_address.specs.Rule.{ruled, legal_flash, legal_eeprom}
use Rattle.memory_address.specs.declared.Address.{Address}
use Rattle.memory_address.specs.declared.Address.TheVariants.{Flash, Eeprom}
use Rattle.memory_address.proofs.Laws.{flash_within, eeprom_within}
use Rattle.memory_cells.specs.Memory.{flash_written, flash_erased, eeprom_written}
use Rattle.memory_cells.proofs.Laws.{erased_length, written_length, eeprom_written_length, erased_done, eeprom_written_done}
use Rattle.node_rules.specs.declared.Staged.{Staged}
use Rattle.node_rules.specs.declared.Staged.TheVariants.{Write, Erase}
use Rattle.node_rules.specs.declared.Mode.TheVariants.{Programming, Waiting}
use Rattle.node_rules.specs.declared.Node.{Node}
use Rattle.node_rules.specs.declared.Memory.TheVariants.{Kept, Bootfl}
use Rattle.node_rules.specs.declared.Next.TheVariants.{Programs, Waits}
use Rattle.node_rules.specs.declared.Reply.TheVariants.{Silent, Echoed}
use Rattle.node_rules.specs.Numbered.{Effect}
use Rattle.node_rules.specs.Record.{with_mode, legal_staged, tidied}
use Rattle.node_rules.specs.Requests.{handled_types, found, command_at, does, doing}
use Rattle.node_rules.specs.Outcomes.{is_nothing, decided}
use Rattle.node_rules.specs.Replies.{no_reply, one_reply}
use Rattle.node_rules.specs.Step.{Step, after, bootfl_set, answering, done, can_step}
use Rattle.node_rules.proofs.Ruling.{sizes_full}
use Rattle.node_rules.proofs.TidiedOnce.{programming, tidied_once, tidied_legal, programming_is}

eqb_same : (x : ℕ) → eqb x x ≡ true
eqb_same x = eq-eqb x x refl

-- the eight cells after an erase, and after an EEPROM write
erased_cells_lem : (flash : List ℕ) (a : ℕ) → length flash ≡ 65536 → legal_flash a 0x03 ≡ true
    → part (flash_erased flash a) a 8 ≡ replicate 8 0xFF
erased_cells_lem flash a l h =
    let w = flash_within a 0x03 h in
    ap (λ (m : List ℕ). part m a 8) (erased_done flash a l h)
    ∙ sym (take-take 8 64 (drop a (patch flash a (replicate 64 0xFF))) (lit≤ tt))
    ∙ ap (take 8) (part_patch flash a (replicate 64 0xFF) (omega arith))

eeprom_cells_lem : (eeprom : List ℕ) (a : ℕ) (d : List ℕ) → length eeprom ≡ 1024 → legal_eeprom a 0x02 ≡ true → length d ≡ 8
    → part (eeprom_written eeprom a d) (eeprom_cell a) 8 ≡ d
eeprom_cells_lem eeprom a d l h eight =
    let w = eeprom_within a 0x02 h in
    ap (λ (m : List ℕ). part m (eeprom_cell a) 8) (eeprom_written_done eeprom a d l h eight)
    ∙ ap (λ (j : ℕ). part (patch eeprom (eeprom_cell a) d) (eeprom_cell a) j) (sym eight)
    ∙ part_patch eeprom (eeprom_cell a) d (omega arith)

-- the frames, to a node with these numbers: 0x030 with a command at an address, 0x040 with eight bytes, 0x020
abbrev pub address_to : ℕ → ℕ → ℕ → ℕ → List ℕ
address_to m g command a =
    0x03 ∷ 0x00 ∷ m ∷ g ∷ a / 65536 % 256 ∷ a / 256 % 256 ∷ a % 256 ∷ 0xFF ∷ 0xFF ∷ command ∷ 0xFF ∷ 0xFF ∷ []

abbrev pub data_to : ℕ → ℕ → List ℕ → List ℕ
data_to m g d = 0x04 ∷ 0x00 ∷ m ∷ g ∷ d

abbrev pub leave_to : ℕ → ℕ → List ℕ
leave_to m g = 0x02 ∷ 0x00 ∷ m ∷ g ∷ replicate 8 0xFF

-- and the replies: the request's type, flag 1, the own numbers; 0x030 is echoed, 0x040 shows eight cells
abbrev pub echo_of : ℕ → ℕ → ℕ → ℕ → List ℕ
echo_of m g command a =
    0x03 ∷ 0x01 ∷ m ∷ g ∷ a / 65536 % 256 ∷ a / 256 % 256 ∷ a % 256 ∷ 0xFF ∷ 0xFF ∷ command ∷ 0xFF ∷ 0xFF ∷ []

abbrev pub show_of : ℕ → ℕ → List ℕ → List ℕ
show_of m g cells = 0x04 ∷ 0x01 ∷ m ∷ g ∷ cells

-- the address's three bytes are the address
three_bytes : (a : ℕ) → a < 0x1000000 → a / 65536 % 256 * 65536 + a / 256 % 256 * 256 + a % 256 ≡ a
three_bytes a h = omega arith

module _ (n : Node) (s : Staged) where
  -- an address frame with a legal command stages it
  decided_address : (command a : ℕ) (x : Address) → a < 0x1000000 → ruled a command ≡ Some x
      → decided (programming n s) true (address_to n.plate.own.0 n.plate.group.0 command a)
      ≡ does Echoed Kept (Programs (command_at command x))
  unfolding decided found handled_types tidied
  decided_address command a x h r = simp (eqb_same, three_bytes a h, r)

  decided_leave : decided (programming n s) true (leave_to n.plate.own.0 n.plate.group.0) ≡ does Silent (Bootfl 0x00) Waits
  unfolding decided found handled_types tidied
  decided_leave = simp eqb_same

  -- a data frame does what is staged
  decided_data : (d : List ℕ) → length d ≡ 8 → is_nothing s ≡ false
      → decided (programming n s) true (data_to n.plate.own.0 n.plate.group.0 d) ≡ doing s
  unfolding decided found handled_types tidied
  decided_data d h k = simp (eqb_same, h, k)

-- the staged commands of an update, at the number of their address
abbrev pub write_flash : ℕ → Staged
write_flash a = Write (Flash (record { 0 = a }))

abbrev pub write_eeprom : ℕ → Staged
write_eeprom a = Write (Eeprom (record { 0 = a }))

abbrev pub erase_flash : ℕ → Staged
erase_flash a = Erase (record { 0 = a })

-- what a done frame leaves: number 0, one reply, the node with this staged, and both memories
abbrev pub answered : Node → Staged → List ℕ → List ℕ → List ℕ → Step
answered n s reply flash eeprom = after (answering 0 (one_reply reply) (programming n s)) flash eeprom

module _ (n : Node) (flash eeprom : List ℕ) (l : length flash ≡ 65536) (k : length eeprom ≡ 1024) where
  -- over full memories a programming node does what it decides
  obeys : (s : Staged) → legal_staged s ≡ true → (frame : List ℕ) (e : Effect) → decided (programming n s) true frame ≡ e
      → can_step (programming n s) frame flash eeprom ≡ done e (programming n s) frame flash eeprom
  unfolding can_step
  obeys s h frame e d = simp (sizes_full flash eeprom l k, tidied_once n s h, d)

  -- the first call tidies
  pub tidied_first : (s : Staged) → (tidied n).mode ≡ Programming s → (frame : List ℕ)
      → can_step n frame flash eeprom ≡ can_step (programming n s) frame flash eeprom
  unfolding can_step
  tidied_first s e frame =
      ap (λ (t : Node). done (decided t (full flash eeprom) frame) t frame flash eeprom)
      (programming_is n s e ∙ sym (tidied_once n s (tidied_legal n s e)))

  -- 0x030 with a legal command: staged, D0 to D7 echoed
  pub stages : (s : Staged) → legal_staged s ≡ true → (command a : ℕ) (x : Address) → a < 0x1000000 → ruled a command ≡ Some x
      → can_step (programming n s) (address_to n.plate.own.0 n.plate.group.0 command a) flash eeprom
      ≡ answered n (command_at command x) (echo_of n.plate.own.0 n.plate.group.0 command a) flash eeprom
  unfolding done tidied
  stages s h command a x b r =
      obeys s h (address_to n.plate.own.0 n.plate.group.0 command a) (does Echoed Kept (Programs (command_at command x)))
      (decided_address n s command a x b r)

  -- 0x020: no reply, BOOTFL 0x00, waiting
  pub leaves_programming : (s : Staged) → legal_staged s ≡ true
      → can_step (programming n s) (leave_to n.plate.own.0 n.plate.group.0) flash eeprom
      ≡ after (answering 0 no_reply (with_mode (tidied n) Waiting)) flash (bootfl_set eeprom 0x00)
  unfolding done tidied
  leaves_programming s h =
      obeys s h (leave_to n.plate.own.0 n.plate.group.0) (does Silent (Bootfl 0x00) Waits) (decided_leave n s)

  -- 0x040's reply with these cells
  abbrev showing : Staged → List ℕ → List ℕ → List ℕ → Step
  showing s cells = answered n s (show_of n.plate.own.0 n.plate.group.0 cells)

  module _ (a : ℕ) (d : List ℕ) (eight : length d ≡ 8) where
    -- 0x040 with an erase staged: the block is erased, and the reply shows eight 0xFF
    pub erases : legal_flash a 0x03 ≡ true
        → can_step (programming n (erase_flash a)) (data_to n.plate.own.0 n.plate.group.0 d) flash eeprom
        ≡ answered n (erase_flash a) (show_of n.plate.own.0 n.plate.group.0 (replicate 8 0xFF)) (flash_erased flash a) eeprom
    unfolding done tidied
    erases h =
        let w = flash_within a 0x03 h in
        let long = erased_length flash a ∙ l in
        obeys (erase_flash a) h (data_to n.plate.own.0 n.plate.group.0 d) (doing (erase_flash a))
        (decided_data n (erase_flash a) d eight refl)
        ∙ ap (λ (cells : List ℕ). showing (erase_flash a) cells (flash_erased flash a) eeprom)
        (listed_part (flash_erased flash a) a 8 (omega arith) ∙ erased_cells_lem flash a l h)

    -- with a FLASH write staged: the row is written over what was there, and the reply shows it
    pub writes_flash : legal_flash a 0x02 ≡ true
        → can_step (programming n (write_flash a)) (data_to n.plate.own.0 n.plate.group.0 d) flash eeprom
        ≡ answered n (write_flash a) (show_of n.plate.own.0 n.plate.group.0 (part (flash_written flash a d) a 8))
        (flash_written flash a d) eeprom
    unfolding done tidied
    writes_flash h =
        let w = flash_within a 0x02 h in
        let long = written_length flash a d ∙ l in
        obeys (write_flash a) h (data_to n.plate.own.0 n.plate.group.0 d) (doing (write_flash a))
        (decided_data n (write_flash a) d eight refl)
        ∙ ap (λ (new : List ℕ). showing (write_flash a) (listed (flash_written flash a new) a 8) (flash_written flash a new) eeprom)
        (listed_all d 8 eight)
        ∙ ap (λ (cells : List ℕ). showing (write_flash a) cells (flash_written flash a d) eeprom)
        (listed_part (flash_written flash a d) a 8 (omega arith))

    -- with an EEPROM write staged: the row is replaced, and the reply shows the new bytes
    pub writes_eeprom : legal_eeprom a 0x02 ≡ true
        → can_step (programming n (write_eeprom a)) (data_to n.plate.own.0 n.plate.group.0 d) flash eeprom
        ≡ answered n (write_eeprom a) (show_of n.plate.own.0 n.plate.group.0 d) flash (eeprom_written eeprom a d)
    unfolding done tidied
    writes_eeprom h =
        let w = eeprom_within a 0x02 h in
        let long = eeprom_written_length eeprom a d ∙ k in
        obeys (write_eeprom a) h (data_to n.plate.own.0 n.plate.group.0 d) (doing (write_eeprom a))
        (decided_data n (write_eeprom a) d eight refl)
        ∙ ap
        (λ (new : List ℕ). showing (write_eeprom a) (listed (eeprom_written eeprom a new) (eeprom_cell a) 8) flash
        (eeprom_written eeprom a new))
        (listed_all d 8 eight)
        ∙ ap (λ (cells : List ℕ). showing (write_eeprom a) cells flash (eeprom_written eeprom a d))
        (listed_part (eeprom_written eeprom a d) (eeprom_cell a) 8 (omega arith) ∙ eeprom_cells_lem eeprom a d k h eight)
