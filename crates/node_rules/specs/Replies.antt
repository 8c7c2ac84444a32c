-- The replies of document 01's request table: "Replies carry the request's type, flag 1, own module and group."
use Rattle.std.specs.Prelude.{ℕ, ◌+◌, ◌*◌, ◌/◌, ◌%◌, Bool, false, ◌&&◌, not, cond, List, [], ◌∷◌, ◌++◌, eqb, get_or, replicate}
use Rattle.base.specs.Parts.{listed}
use Rattle.frame_rules.specs.Frame.{type_of}
use Rattle.memory_address.specs.Places.{eeprom_cell, description, atype, avers, fvers}
use Rattle.memory_address.specs.declared.Address.{Address}
use Rattle.memory_address.specs.declared.Address.TheVariants.{Flash, Eeprom}
use Rattle.memory_sum.specs.Sum.{firmware_sum}
use Rattle.memory_start.specs.Start.{flag_byte}
use Rattle.node_rules.specs.declared.Mode.{Mode}
use Rattle.node_rules.specs.declared.Mode.TheVariants.{Normal, Programming, Error, Waiting}
use Rattle.node_rules.specs.declared.Plate.{Plate}
use Rattle.node_rules.specs.declared.Node.{Node}
use Rattle.node_rules.specs.declared.Reply.{Reply}
use Rattle.node_rules.specs.declared.Reply.TheVariants.{Silent, Entered, Hardware, Firmware, Described, Device, Echoed, Cells}
use Rattle.node_rules.specs.declared.Replies.{Replies}
use Rattle.node_rules.specs.Requests.{data_in}

-- a reply of this type with these eight data bytes
abbrev pub reply_of : Plate → ℕ → List ℕ → List ℕ
reply_of p t d = t / 16 ∷ (t % 16 * 16 + 1) ∷ p.own.0 ∷ p.group.0 ∷ listed d 0 8

-- 0x100: "FF FF 03 04 FF FF FF FF"
abbrev pub entered_data : List ℕ
entered_data = 0xFF ∷ 0xFF ∷ 0x03 ∷ 0x04 ∷ 0xFF ∷ 0xFF ∷ 0xFF ∷ 0xFF ∷ []

-- 0x103, 0x104: "30 00 03 FF ID0 ID1 ID2 ID3"
abbrev pub hardware_data : Plate → List ℕ
hardware_data p =
    0x30 ∷ 0x00 ∷ 0x03 ∷ 0xFF ∷ get_or p.fixed 0 0 ∷ get_or p.fixed 1 0 ∷ get_or p.fixed 2 0 ∷ get_or p.fixed 3 0 ∷ []

-- 0x105, 0x106: "30 00 03 ATYPE AVERS FVERS 03 04"
abbrev pub firmware_data : List ℕ → List ℕ
firmware_data flash =
    0x30 ∷ 0x00 ∷ 0x03 ∷ get_or flash atype 0 ∷ get_or flash avers 0 ∷ get_or flash fvers 0 ∷ 0x03 ∷ 0x04 ∷ []

-- "To 0x106 with firmware not started the reply has type 0x1F1: .., worked-out sum high byte first, FF FF 03 04"; the flag byte in front of
-- it as request A4 has it, "as found when asked": of FLASH as it is then
abbrev pub firmware_error_data : List ℕ → List ℕ
firmware_error_data flash =
    flag_byte flash ∷
    firmware_sum flash / 65536 % 256 ∷ firmware_sum flash / 256 % 256 ∷ firmware_sum flash % 256 ∷ 0xFF ∷ 0xFF ∷ 0x03 ∷ 0x04 ∷ []

abbrev pub has_started : Mode → Bool
has_started (Normal started) = started
has_started (Programming s) = false
has_started Error = false
has_started Waiting = false

-- a departure from 001, which has error frames for 0x105 too: document 01's sentence names 0x106 alone
abbrev pub is_firmware_error : ℕ → Mode → Bool
is_firmware_error t m = eqb t 0x106 && not (has_started m)

abbrev pub firmware_reply : Node → ℕ → List ℕ → List ℕ
firmware_reply n t flash =
    cond (is_firmware_error t n.mode) (reply_of n.plate 0x1F1 (firmware_error_data flash)) (reply_of n.plate t (firmware_data flash))

-- 0x10D, 0x10E: "two frames, description 0 to 7 then 8 to 15"
abbrev pub description_data : ℕ → List ℕ → List ℕ
description_data i eeprom = listed eeprom (eeprom_cell description + i) 8

-- 0x10F, 0x111: "DEVID1 DEVID2 then six FF"
abbrev pub device_data : Plate → List ℕ
device_data p = get_or p.fixed 4 0 ∷ get_or p.fixed 5 0 ∷ replicate 6 0xFF

-- 0x040: "the eight cells at the address", of FLASH or of EEPROM
abbrev pub cells_at : Address → List ℕ → List ℕ → List ℕ
cells_at (Flash a) flash eeprom = listed flash a.0 8
cells_at (Eeprom p) flash eeprom = listed eeprom (eeprom_cell p.0) 8

-- no reply, one and two; unused room is 0
abbrev pub no_reply : Replies 24
no_reply = record { count = 0; bytes = replicate 24 0 }

abbrev pub one_reply : List ℕ → Replies 24
one_reply reply = record { count = 1; bytes = reply ++ replicate 12 0 }

abbrev pub two_replies : List ℕ → List ℕ → Replies 24
two_replies first second = record { count = 2; bytes = first ++ second }

-- the replies to a frame, over the memories as they are afterwards
abbrev pub replying : Reply → Node → List ℕ → List ℕ → List ℕ → Replies 24
replying Silent n f flash eeprom = no_reply
replying Entered n f flash eeprom = one_reply (reply_of n.plate (type_of f) entered_data)
replying Hardware n f flash eeprom = one_reply (reply_of n.plate (type_of f) (hardware_data n.plate))
replying Firmware n f flash eeprom = one_reply (firmware_reply n (type_of f) flash)
replying Described n f flash eeprom =
    two_replies (reply_of n.plate (type_of f) (description_data 0 eeprom)) (reply_of n.plate (type_of f) (description_data 8 eeprom))
replying Device n f flash eeprom = one_reply (reply_of n.plate (type_of f) (device_data n.plate))
replying Echoed n f flash eeprom = one_reply (reply_of n.plate (type_of f) (data_in f))
replying (Cells a) n f flash eeprom = one_reply (reply_of n.plate (type_of f) (cells_at a flash eeprom))
