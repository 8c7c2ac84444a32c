-- The list "In programming mode only", one theorem a line and a command: the frame's bytes, and all that the call leaves, written out as
-- document 01 has them. A staged command is what the tidied record has; that it is legal follows.
-- Assumes nothing.
use Rattle.std.specs.Prelude.{Option, Some, None}
use mathlib.Core.Path.{◌≡◌, ◌∙◌, refl, sym, ap}
use mathlib.Core.Bool.{true, false, ◌&&◌, not}
use mathlib.Core.List.{List, [], ◌∷◌}
use mathlib.Core.Logic.{◌⊎◌, inl, inr}
use Prim.Native.Nat.{ℕ, ◌+◌, ◌-◌, ◌≤◌, ◌<◌}
use native.Mathlib.Nat.{add-zero}
use native.Mathlib.Numerals.{towards_suc}
use native.Mathlib.Omega.{arith}
use lib.Dec.{eqb, lit<}
use lib.ListN.{length, get_or, set, replicate}
use borrow.Author.Tests.{eq-eqb}
use Rattle.base.specs.Parts.{part, patch, listed, high_first}
use Rattle.base.proofs.Choice.{true_both}
use Rattle.base.proofs.Listed.{listed_part}
use Rattle.base.proofs.Patched.{inside_patch}
use Rattle.memory_address.specs.Rule.{ruled, is_flash, is_eeprom, is_legal, legal_flash, legal_eeprom}
use Rattle.memory_address.specs.declared.Address.{Address}
use Rattle.memory_address.specs.declared.Address.TheVariants.{Flash, Eeprom}
use Rattle.memory_address.proofs.Laws.{flash_ruled, eeprom_ruled, flash_within, eeprom_within}
use Rattle.memory_leaves.specs.Leaves.{combined}
use Rattle.memory_cells.specs.Memory.{flash_written}
use Rattle.memory_cells.proofs.Laws.{written_done, erased_done, eeprom_written_done}
use Rattle.frame_rules.specs.Frame.{type_of}
use Rattle.node_rules.specs.declared.HandledIn.TheVariants.{InProgramming}
use Rattle.node_rules.specs.declared.Addressing.TheVariants.{AllZero, OwnNumbers}
use Rattle.node_rules.specs.declared.Request.TheVariants.{LeaveProgramming, AddressFrame, DataFrame}
use Rattle.node_rules.specs.declared.Staged.{Staged}
use Rattle.node_rules.specs.declared.Staged.TheVariants.{Nothing, Read, Write, Erase}
use Rattle.node_rules.specs.declared.Mode.{Mode}
use Rattle.node_rules.specs.declared.Mode.TheVariants.{Programming, Waiting}
use Rattle.node_rules.specs.declared.Node.{Node}
use Rattle.node_rules.specs.declared.Kind.{Kind}
use Rattle.node_rules.specs.declared.Memory.TheVariants.{Kept}
use Rattle.node_rules.specs.declared.Next.TheVariants.{Programs}
use Rattle.node_rules.specs.declared.Reply.TheVariants.{Echoed}
use Rattle.node_rules.specs.Numbered.{Effect}
use Rattle.node_rules.specs.Record.{with_mode, tidied}
use Rattle.node_rules.specs.Requests.{kind, found, handled_types, is_programming, is_for, command_at, staged_by, does, doing, asked}
use Rattle.node_rules.specs.Outcomes.{outcome, unless, misshapen, is_response, is_nothing, request_outcomes}
use Rattle.node_rules.specs.Step.{Step, done, can_step}
use Rattle.node_rules.specs.Reading.{leaves, replies_with, with_own, eight_of, Stages, eight_at, eight_and}
use Rattle.node_rules.proofs.TidiedOnce.{tidied_legal}
use Rattle.node_rules.proofs.Ruling.{sizes_full, obeys}

-- two numbers that are the own ones
own_own : (m g : ℕ) → (eqb m m && eqb g g) ≡ true
own_own m g = true_both (eqb m m) _ (eq-eqb m m refl) (eq-eqb g g refl)

-- what is legal neither on FLASH nor on EEPROM is illegal
ruled_illegal : (a command : ℕ) → legal_flash a command ≡ false → legal_eeprom a command ≡ false → ruled a command ≡ None
ruled_illegal a command h k = go (ruled a command) h k
  where
    go : (r : Option Address) → is_flash r ≡ false → is_eeprom r ≡ false → r ≡ None
    go (Some (Flash f)) h k = cc
    go (Some (Eeprom e)) h k = cc
    go None h k = refl

-- eight cells, listed
eight_listed : (m : List ℕ) (a : ℕ) → listed m a 8 ≡ eight_at m a
eight_listed m a = simp towards_suc

-- where new cells were put in place the first eight of them are listed
patched_listed : (m : List ℕ) (a : ℕ) (new : List ℕ) → a + length new ≤ length m → 8 ≤ length new
    → listed (patch m a new) a 8 ≡ listed new 0 8
patched_listed m a new fits l =
    let c : (j : ℕ) → j < 8 → get_or (patch m a new) (a + j) 0 ≡ get_or new j 0 = λ j h. inside_patch m a new fits j (omega arith) in
    eight_listed (patch m a new) a
    ∙ cc
    (c 0 (lit< tt), c 1 (lit< tt), c 2 (lit< tt), c 3 (lit< tt), c 4 (lit< tt), c 5 (lit< tt), c 6 (lit< tt), c 7 (lit< tt), add-zero a)

-- FLASH after a write: "the old bits and the new bits combined by "and""
flash_put : (flash : List ℕ) (a d0 d1 d2 d3 d4 d5 d6 d7 : ℕ) → length flash ≡ 65536 → legal_flash a 0x02 ≡ true
    → flash_written flash a (eight_of d0 d1 d2 d3 d4 d5 d6 d7) ≡ patch flash a (eight_and flash a d0 d1 d2 d3 d4 d5 d6 d7)
flash_put flash a d0 d1 d2 d3 d4 d5 d6 d7 fl h =
    let w = flash_within a 0x02 h in
    let d : List ℕ = eight_of d0 d1 d2 d3 d4 d5 d6 d7 in
    let e : part flash a 8 ≡ listed flash a 8 = sym (listed_part flash a 8 (omega arith)) in
    written_done flash a d fl h refl ∙ ap (λ (x : List ℕ). patch flash a (combined x d)) (e ∙ eight_listed flash a)

-- what 0x030 comes to, by what the address rule says
abbrev staging : ℕ → Option Address → Effect
staging command r = unless (outcome 8 (not (is_legal r)) ∷ []) (does Echoed Kept (Programs (staged_by command r)))

module _ (n : Node) (flash eeprom : List ℕ) (fl : length flash ≡ 65536) (el : length eeprom ≡ 1024) (s : Staged)
    (mode : (tidied n).mode ≡ Programming s) where
  by_line : (f : List ℕ) (k : Kind) → misshapen f ≡ false → is_response f ≡ false
      → found (type_of f) ≡ Some k → k.handled ≡ InProgramming → is_for k.addressing (tidied n).plate f ≡ true
      → can_step n f flash eeprom
      ≡ done (unless (request_outcomes k.request (Programming s) f) (asked k.request (Programming s) f)) (tidied n) f flash eeprom
  by_line f k shape request e h a =
      let p : is_programming (tidied n).mode ≡ true = rw mode refl in
      obeys n f flash eeprom (sizes_full flash eeprom fl el) shape request k e (rw h p) a
      ∙ ap (λ (m : Mode). done (unless (request_outcomes k.request m f) (asked k.request m f)) (tidied n) f flash eeprom) mode

  module _ (d0 d1 d2 d3 d4 d5 d6 d7 : ℕ) where
    -- 0x010, "frame module and group both 0x00"; 0x020, "frame module and group the own numbers: BOOTFL becomes 0x00, waits for restart,
    -- no reply"
    pub request_010_020 : (b1 m g : ℕ)
        → ((b1 ≡ 0x01) × (m ≡ 0x00) × (g ≡ 0x00)) ⊎ ((b1 ≡ 0x02) × (m ≡ n.plate.own.0) × (g ≡ n.plate.group.0))
        → can_step n (b1 ∷ 0x00 ∷ m ∷ g ∷ eight_of d0 d1 d2 d3 d4 d5 d6 d7) flash eeprom
        ≡ leaves 0 0 (replicate 24 0) (with_mode (tidied n) Waiting) flash (set eeprom 0 0x00)
    unfolding done tidied found handled_types
    request_010_020 b1 m g (inl (e, x, y)) =
        rw (e, x, y)
        (by_line (0x01 ∷ 0x00 ∷ 0x00 ∷ 0x00 ∷ eight_of d0 d1 d2 d3 d4 d5 d6 d7)
        (kind 0x010 InProgramming AllZero LeaveProgramming) refl refl refl refl refl)
    request_010_020 b1 m g (inr (e, x, y)) =
        rw (e, x, y)
        (by_line (with_own n.plate 0x02 0x00 (eight_of d0 d1 d2 d3 d4 d5 d6 d7))
        (kind 0x020 InProgramming OwnNumbers LeaveProgramming) refl refl refl refl (own_own n.plate.own.0 n.plate.group.0))

    -- 0x030, "own numbers in the frame: D0 D1 D2 is the address, high byte first, D5 the command."
    by_address : (r : Option Address) → ruled (high_first d0 d1 d2) d5 ≡ r
        → can_step n (with_own n.plate 0x03 0x00 (eight_of d0 d1 d2 d3 d4 d5 d6 d7)) flash eeprom
        ≡ done (staging d5 r) (tidied n) (with_own n.plate 0x03 0x00 (eight_of d0 d1 d2 d3 d4 d5 d6 d7)) flash eeprom
    unfolding tidied found handled_types
    by_address r e =
        by_line (with_own n.plate 0x03 0x00 (eight_of d0 d1 d2 d3 d4 d5 d6 d7))
        (kind 0x030 InProgramming OwnNumbers AddressFrame) refl refl refl refl (own_own n.plate.own.0 n.plate.group.0)
        ∙ ap (λ (x : Option Address). done (staging d5 x) (tidied n) (with_own n.plate 0x03 0x00 (eight_of d0 d1 d2 d3 d4 d5 d6 d7)) flash eeprom) e

    -- "0x030 with illegal address or command": 8, nothing staged
    pub request_030_illegal : legal_flash (high_first d0 d1 d2) d5 ≡ false → legal_eeprom (high_first d0 d1 d2) d5 ≡ false
        → can_step n (with_own n.plate 0x03 0x00 (eight_of d0 d1 d2 d3 d4 d5 d6 d7)) flash eeprom
        ≡ leaves 8 0 (replicate 24 0) (with_mode (tidied n) (Programming Nothing)) flash eeprom
    unfolding done
    request_030_illegal h k = by_address None (ruled_illegal (high_first d0 d1 d2) d5 h k)

    -- "Legal: staged, D0 to D7 echoed."
    stages : (x : Address) → ruled (high_first d0 d1 d2) d5 ≡ Some x
        → Stages n (eight_of d0 d1 d2 d3 d4 d5 d6 d7) (command_at d5 x) flash eeprom
    unfolding done tidied
    stages x e = by_address (Some x) e

-- 0x030 with each legal command
module _ (n : Node) (flash eeprom : List ℕ) (fl : length flash ≡ 65536) (el : length eeprom ≡ 1024) (s : Staged)
    (mode : (tidied n).mode ≡ Programming s) (d0 d1 d2 d3 d4 d6 d7 : ℕ) where
  at_flash : (command : ℕ) → legal_flash (high_first d0 d1 d2) command ≡ true
      → Stages n (eight_of d0 d1 d2 d3 d4 command d6 d7) (command_at command (Flash (record { 0 = high_first d0 d1 d2 }))) flash eeprom
  at_flash command h =
      stages n flash eeprom fl el s mode d0 d1 d2 d3 d4 command d6 d7 (Flash (record { 0 = high_first d0 d1 d2 }))
      (flash_ruled (high_first d0 d1 d2) command h)

  at_eeprom : (command : ℕ) → legal_eeprom (high_first d0 d1 d2) command ≡ true
      → Stages n (eight_of d0 d1 d2 d3 d4 command d6 d7) (command_at command (Eeprom (record { 0 = high_first d0 d1 d2 }))) flash eeprom
  at_eeprom command h =
      stages n flash eeprom fl el s mode d0 d1 d2 d3 d4 command d6 d7 (Eeprom (record { 0 = high_first d0 d1 d2 }))
      (eeprom_ruled (high_first d0 d1 d2) command h)

  pub request_030_read_flash : legal_flash (high_first d0 d1 d2) 0x01 ≡ true
      → Stages n (eight_of d0 d1 d2 d3 d4 0x01 d6 d7) (Read (Flash (record { 0 = high_first d0 d1 d2 }))) flash eeprom
  request_030_read_flash = at_flash 0x01

  pub request_030_write_flash : legal_flash (high_first d0 d1 d2) 0x02 ≡ true
      → Stages n (eight_of d0 d1 d2 d3 d4 0x02 d6 d7) (Write (Flash (record { 0 = high_first d0 d1 d2 }))) flash eeprom
  request_030_write_flash = at_flash 0x02

  pub request_030_erase : legal_flash (high_first d0 d1 d2) 0x03 ≡ true
      → Stages n (eight_of d0 d1 d2 d3 d4 0x03 d6 d7) (Erase (record { 0 = high_first d0 d1 d2 })) flash eeprom
  request_030_erase = at_flash 0x03

  pub request_030_read_eeprom : legal_eeprom (high_first d0 d1 d2) 0x01 ≡ true
      → Stages n (eight_of d0 d1 d2 d3 d4 0x01 d6 d7) (Read (Eeprom (record { 0 = high_first d0 d1 d2 }))) flash eeprom
  request_030_read_eeprom = at_eeprom 0x01

  pub request_030_write_eeprom : legal_eeprom (high_first d0 d1 d2) 0x02 ≡ true
      → Stages n (eight_of d0 d1 d2 d3 d4 0x02 d6 d7) (Write (Eeprom (record { 0 = high_first d0 d1 d2 }))) flash eeprom
  request_030_write_eeprom = at_eeprom 0x02

-- 0x040, "own numbers in the frame: does the staged command, with D0 to D7 as the data of a write. The command stays staged. .. the reply
-- data are the eight cells at the address after the command."
module _ (n : Node) (flash eeprom : List ℕ) (fl : length flash ≡ 65536) (el : length eeprom ≡ 1024) (d0 d1 d2 d3 d4 d5 d6 d7 : ℕ) where
  by_data : (s : Staged) → (tidied n).mode ≡ Programming s
      → can_step n (with_own n.plate 0x04 0x00 (eight_of d0 d1 d2 d3 d4 d5 d6 d7)) flash eeprom
      ≡ done (unless (outcome 9 (is_nothing s) ∷ []) (doing s)) (tidied n)
      (with_own n.plate 0x04 0x00 (eight_of d0 d1 d2 d3 d4 d5 d6 d7)) flash eeprom
  unfolding tidied found handled_types
  by_data s e =
      by_line n flash eeprom fl el s e (with_own n.plate 0x04 0x00 (eight_of d0 d1 d2 d3 d4 d5 d6 d7))
      (kind 0x040 InProgramming OwnNumbers DataFrame) refl refl refl refl (own_own n.plate.own.0 n.plate.group.0)

  -- the reply with these cells
  abbrev showing : List ℕ → List ℕ → List ℕ → Step
  showing cells = replies_with (with_own n.plate 0x04 0x01 cells) (tidied n)

  -- "0x040 with nothing staged": 9
  pub request_040_nothing : (tidied n).mode ≡ Programming Nothing
      → can_step n (with_own n.plate 0x04 0x00 (eight_of d0 d1 d2 d3 d4 d5 d6 d7)) flash eeprom
      ≡ leaves 9 0 (replicate 24 0) (tidied n) flash eeprom
  unfolding done
  request_040_nothing e = by_data Nothing e

  pub request_040_read_flash : (a : ℕ) → (tidied n).mode ≡ Programming (Read (Flash (record { 0 = a })))
      → can_step n (with_own n.plate 0x04 0x00 (eight_of d0 d1 d2 d3 d4 d5 d6 d7)) flash eeprom
      ≡ replies_with (with_own n.plate 0x04 0x01 (eight_at flash a)) (tidied n) flash eeprom
  unfolding done tidied
  request_040_read_flash a e =
      by_data (Read (Flash (record { 0 = a }))) e ∙ ap (λ (cells : List ℕ). showing cells flash eeprom) (eight_listed flash a)

  pub request_040_read_eeprom : (p : ℕ) → (tidied n).mode ≡ Programming (Read (Eeprom (record { 0 = p })))
      → can_step n (with_own n.plate 0x04 0x00 (eight_of d0 d1 d2 d3 d4 d5 d6 d7)) flash eeprom
      ≡ replies_with (with_own n.plate 0x04 0x01 (eight_at eeprom (p - 0xF00000))) (tidied n) flash eeprom
  unfolding done tidied
  request_040_read_eeprom p e =
      by_data (Read (Eeprom (record { 0 = p }))) e
      ∙ ap (λ (cells : List ℕ). showing cells flash eeprom) (eight_listed eeprom (p - 0xF00000))

  pub request_040_write_flash : (a : ℕ) → (tidied n).mode ≡ Programming (Write (Flash (record { 0 = a })))
      → can_step n (with_own n.plate 0x04 0x00 (eight_of d0 d1 d2 d3 d4 d5 d6 d7)) flash eeprom
      ≡ replies_with (with_own n.plate 0x04 0x01 (eight_and flash a d0 d1 d2 d3 d4 d5 d6 d7)) (tidied n)
      (patch flash a (eight_and flash a d0 d1 d2 d3 d4 d5 d6 d7)) eeprom
  unfolding done tidied
  request_040_write_flash a e =
      let h = tidied_legal n (Write (Flash (record { 0 = a }))) e in
      let w = flash_within a 0x02 h in
      let new : List ℕ = eight_and flash a d0 d1 d2 d3 d4 d5 d6 d7 in
      by_data (Write (Flash (record { 0 = a }))) e
      ∙ ap (λ (m : List ℕ). showing (listed m a 8) m eeprom) (flash_put flash a d0 d1 d2 d3 d4 d5 d6 d7 fl h)
      ∙ ap (λ (cells : List ℕ). showing cells (patch flash a new) eeprom) (patched_listed flash a new (omega arith) (omega arith))

  pub request_040_write_eeprom : (p : ℕ) → (tidied n).mode ≡ Programming (Write (Eeprom (record { 0 = p })))
      → can_step n (with_own n.plate 0x04 0x00 (eight_of d0 d1 d2 d3 d4 d5 d6 d7)) flash eeprom
      ≡ replies_with (with_own n.plate 0x04 0x01 (eight_of d0 d1 d2 d3 d4 d5 d6 d7)) (tidied n) flash
      (patch eeprom (p - 0xF00000) (eight_of d0 d1 d2 d3 d4 d5 d6 d7))
  unfolding done tidied
  request_040_write_eeprom p e =
      let h = tidied_legal n (Write (Eeprom (record { 0 = p }))) e in
      let w = eeprom_within p 0x02 h in
      let new : List ℕ = eight_of d0 d1 d2 d3 d4 d5 d6 d7 in
      by_data (Write (Eeprom (record { 0 = p }))) e
      ∙ ap (λ (m : List ℕ). showing (listed m (p - 0xF00000) 8) flash m) (eeprom_written_done eeprom p new el h refl)
      ∙ ap (λ (cells : List ℕ). showing cells flash (patch eeprom (p - 0xF00000) new))
      (patched_listed eeprom (p - 0xF00000) new (omega arith) (omega arith))

  pub request_040_erase : (a : ℕ) → (tidied n).mode ≡ Programming (Erase (record { 0 = a }))
      → can_step n (with_own n.plate 0x04 0x00 (eight_of d0 d1 d2 d3 d4 d5 d6 d7)) flash eeprom
      ≡ replies_with (with_own n.plate 0x04 0x01 (eight_of 0xFF 0xFF 0xFF 0xFF 0xFF 0xFF 0xFF 0xFF)) (tidied n)
      (patch flash a (replicate 64 0xFF)) eeprom
  unfolding done tidied
  request_040_erase a e =
      let h = tidied_legal n (Erase (record { 0 = a })) e in
      let w = flash_within a 0x03 h in
      by_data (Erase (record { 0 = a })) e
      ∙ ap (λ (m : List ℕ). showing (listed m a 8) m eeprom) (erased_done flash a fl h)
      ∙ ap (λ (cells : List ℕ). showing cells (patch flash a (replicate 64 0xFF)) eeprom)
      (patched_listed flash a (replicate 64 0xFF) (omega arith) (omega arith))
