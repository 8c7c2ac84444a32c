-- The pair 0x030 then 0x040, for any node in programming mode, whatever is staged: the address frame stages its command, and the data
-- frame does it. The theorem of the first, and then that of the second at the record that the first left.
-- Assumes nothing.
use mathlib.Core.Path.{◌≡◌, ◌∙◌, ap}
use mathlib.Core.Bool.{true}
use mathlib.Core.List.{List}
use Prim.Native.Nat.{ℕ, ◌-◌}
use lib.ListN.{length, replicate}
use Rattle.base.specs.Parts.{patch, high_first}
use Rattle.memory_address.specs.Rule.{legal_flash, legal_eeprom}
use Rattle.memory_address.specs.declared.Address.TheVariants.{Flash, Eeprom}
use Rattle.node_rules.specs.declared.Staged.{Staged}
use Rattle.node_rules.specs.declared.Staged.TheVariants.{Read, Write, Erase}
use Rattle.node_rules.specs.declared.Mode.TheVariants.{Programming}
use Rattle.node_rules.specs.declared.Node.{Node}
use Rattle.node_rules.specs.Record.{with_mode, legal_staged, tidied}
use Rattle.node_rules.specs.Step.{Step, can_step}
use Rattle.node_rules.specs.Reading.{replies_with, can_then, with_own, eight_of, Stages, eight_at, eight_and}
use Rattle.node_rules.proofs.TidiedOnce.{programming, tidied_once}
use Rattle.node_rules.proofs.ProgrammingList.{request_030_read_flash, request_030_write_flash, request_030_erase, request_030_read_eeprom, request_030_write_eeprom, request_040_read_flash, request_040_read_eeprom, request_040_write_flash, request_040_write_eeprom, request_040_erase}

-- what was staged is staged in the record tidied again
staged_mode : (n : Node) (c : Staged) → legal_staged c ≡ true → (tidied (programming n c)).mode ≡ Programming c
staged_mode n c legal = ap (λ (x : Node). x.mode) (tidied_once n c legal)

-- the two frames: the first stages c, and the second is done with c staged; `left` is what it leaves, by the node
both : (n : Node) (c : Staged) (d e flash eeprom : List ℕ) (left : Node → Step) → legal_staged c ≡ true → Stages n d c flash eeprom
    → can_step (programming n c) (with_own n.plate 0x04 0x00 e) flash eeprom ≡ left (tidied (programming n c))
    → can_then (can_step n (with_own n.plate 0x03 0x00 d) flash eeprom) (with_own n.plate 0x04 0x00 e) ≡ left (programming n c)
both n c d e flash eeprom left legal stages does =
    ap (λ (x : Step). can_then x (with_own n.plate 0x04 0x00 e)) stages ∙ does ∙ ap left (tidied_once n c legal)

module _ (n : Node) (flash eeprom : List ℕ) (fl : length flash ≡ 65536) (el : length eeprom ≡ 1024) (s : Staged)
    (mode : (tidied n).mode ≡ Programming s) (d0 d1 d2 d3 d4 d6 d7 e0 e1 e2 e3 e4 e5 e6 e7 : ℕ) where
  pub pair_read_flash : legal_flash (high_first d0 d1 d2) 0x01 ≡ true
      → can_then (can_step n (with_own n.plate 0x03 0x00 (eight_of d0 d1 d2 d3 d4 0x01 d6 d7)) flash eeprom)
      (with_own n.plate 0x04 0x00 (eight_of e0 e1 e2 e3 e4 e5 e6 e7))
      ≡ replies_with (with_own n.plate 0x04 0x01 (eight_at flash (high_first d0 d1 d2)))
      (with_mode (tidied n) (Programming (Read (Flash (record { 0 = high_first d0 d1 d2 }))))) flash eeprom
  unfolding tidied
  pair_read_flash h =
      let c : Staged = Read (Flash (record { 0 = high_first d0 d1 d2 })) in
      both n c (eight_of d0 d1 d2 d3 d4 0x01 d6 d7) (eight_of e0 e1 e2 e3 e4 e5 e6 e7) flash eeprom
      (λ (x : Node). replies_with (with_own n.plate 0x04 0x01 (eight_at flash (high_first d0 d1 d2))) x flash eeprom) h
      (request_030_read_flash n flash eeprom fl el s mode d0 d1 d2 d3 d4 d6 d7 h)
      (request_040_read_flash (programming n c) flash eeprom fl el e0 e1 e2 e3 e4 e5 e6 e7 (high_first d0 d1 d2) (staged_mode n c h))

  pub pair_read_eeprom : legal_eeprom (high_first d0 d1 d2) 0x01 ≡ true
      → can_then (can_step n (with_own n.plate 0x03 0x00 (eight_of d0 d1 d2 d3 d4 0x01 d6 d7)) flash eeprom)
      (with_own n.plate 0x04 0x00 (eight_of e0 e1 e2 e3 e4 e5 e6 e7))
      ≡ replies_with (with_own n.plate 0x04 0x01 (eight_at eeprom (high_first d0 d1 d2 - 0xF00000)))
      (with_mode (tidied n) (Programming (Read (Eeprom (record { 0 = high_first d0 d1 d2 }))))) flash eeprom
  unfolding tidied
  pair_read_eeprom h =
      let c : Staged = Read (Eeprom (record { 0 = high_first d0 d1 d2 })) in
      both n c (eight_of d0 d1 d2 d3 d4 0x01 d6 d7) (eight_of e0 e1 e2 e3 e4 e5 e6 e7) flash eeprom
      (λ (x : Node). replies_with (with_own n.plate 0x04 0x01 (eight_at eeprom (high_first d0 d1 d2 - 0xF00000))) x flash eeprom) h
      (request_030_read_eeprom n flash eeprom fl el s mode d0 d1 d2 d3 d4 d6 d7 h)
      (request_040_read_eeprom (programming n c) flash eeprom fl el e0 e1 e2 e3 e4 e5 e6 e7 (high_first d0 d1 d2) (staged_mode n c h))

  pub pair_write_flash : legal_flash (high_first d0 d1 d2) 0x02 ≡ true
      → can_then (can_step n (with_own n.plate 0x03 0x00 (eight_of d0 d1 d2 d3 d4 0x02 d6 d7)) flash eeprom)
      (with_own n.plate 0x04 0x00 (eight_of e0 e1 e2 e3 e4 e5 e6 e7))
      ≡ replies_with (with_own n.plate 0x04 0x01 (eight_and flash (high_first d0 d1 d2) e0 e1 e2 e3 e4 e5 e6 e7))
      (with_mode (tidied n) (Programming (Write (Flash (record { 0 = high_first d0 d1 d2 })))))
      (patch flash (high_first d0 d1 d2) (eight_and flash (high_first d0 d1 d2) e0 e1 e2 e3 e4 e5 e6 e7)) eeprom
  unfolding tidied
  pair_write_flash h =
      let c : Staged = Write (Flash (record { 0 = high_first d0 d1 d2 })) in
      let new : List ℕ = eight_and flash (high_first d0 d1 d2) e0 e1 e2 e3 e4 e5 e6 e7 in
      both n c (eight_of d0 d1 d2 d3 d4 0x02 d6 d7) (eight_of e0 e1 e2 e3 e4 e5 e6 e7) flash eeprom
      (λ (x : Node). replies_with (with_own n.plate 0x04 0x01 new) x (patch flash (high_first d0 d1 d2) new) eeprom) h
      (request_030_write_flash n flash eeprom fl el s mode d0 d1 d2 d3 d4 d6 d7 h)
      (request_040_write_flash (programming n c) flash eeprom fl el e0 e1 e2 e3 e4 e5 e6 e7 (high_first d0 d1 d2) (staged_mode n c h))

  pub pair_write_eeprom : legal_eeprom (high_first d0 d1 d2) 0x02 ≡ true
      → can_then (can_step n (with_own n.plate 0x03 0x00 (eight_of d0 d1 d2 d3 d4 0x02 d6 d7)) flash eeprom)
      (with_own n.plate 0x04 0x00 (eight_of e0 e1 e2 e3 e4 e5 e6 e7))
      ≡ replies_with (with_own n.plate 0x04 0x01 (eight_of e0 e1 e2 e3 e4 e5 e6 e7))
      (with_mode (tidied n) (Programming (Write (Eeprom (record { 0 = high_first d0 d1 d2 }))))) flash
      (patch eeprom (high_first d0 d1 d2 - 0xF00000) (eight_of e0 e1 e2 e3 e4 e5 e6 e7))
  unfolding tidied
  pair_write_eeprom h =
      let c : Staged = Write (Eeprom (record { 0 = high_first d0 d1 d2 })) in
      let new : List ℕ = eight_of e0 e1 e2 e3 e4 e5 e6 e7 in
      both n c (eight_of d0 d1 d2 d3 d4 0x02 d6 d7) new flash eeprom
      (λ (x : Node). replies_with (with_own n.plate 0x04 0x01 new) x flash (patch eeprom (high_first d0 d1 d2 - 0xF00000) new)) h
      (request_030_write_eeprom n flash eeprom fl el s mode d0 d1 d2 d3 d4 d6 d7 h)
      (request_040_write_eeprom (programming n c) flash eeprom fl el e0 e1 e2 e3 e4 e5 e6 e7 (high_first d0 d1 d2) (staged_mode n c h))

  pub pair_erase : legal_flash (high_first d0 d1 d2) 0x03 ≡ true
      → can_then (can_step n (with_own n.plate 0x03 0x00 (eight_of d0 d1 d2 d3 d4 0x03 d6 d7)) flash eeprom)
      (with_own n.plate 0x04 0x00 (eight_of e0 e1 e2 e3 e4 e5 e6 e7))
      ≡ replies_with (with_own n.plate 0x04 0x01 (eight_of 0xFF 0xFF 0xFF 0xFF 0xFF 0xFF 0xFF 0xFF))
      (with_mode (tidied n) (Programming (Erase (record { 0 = high_first d0 d1 d2 }))))
      (patch flash (high_first d0 d1 d2) (replicate 64 0xFF)) eeprom
  unfolding tidied
  pair_erase h =
      let c : Staged = Erase (record { 0 = high_first d0 d1 d2 }) in
      let block : List ℕ = replicate 64 0xFF in
      both n c (eight_of d0 d1 d2 d3 d4 0x03 d6 d7) (eight_of e0 e1 e2 e3 e4 e5 e6 e7) flash eeprom
      (λ (x : Node). replies_with (with_own n.plate 0x04 0x01 (replicate 8 0xFF)) x (patch flash (high_first d0 d1 d2) block) eeprom) h
      (request_030_erase n flash eeprom fl el s mode d0 d1 d2 d3 d4 d6 d7 h)
      (request_040_erase (programming n c) flash eeprom fl el e0 e1 e2 e3 e4 e5 e6 e7 (high_first d0 d1 d2) (staged_mode n c h))
