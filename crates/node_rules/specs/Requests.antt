-- "Requests and replies": which types are handled, whom a frame is for, and what each request comes to.
use Rattle.std.specs.Prelude.{ℕ, ◌+◌, Bool, true, false, ◌&&◌, ◌||◌, cond, List, [], ◌∷◌, eqb, get_or, Option, Some, None}
use Rattle.base.specs.Parts.{listed, high_first}
use Rattle.frame_rules.specs.Frame.{module_of, group_of}
use Rattle.memory_address.specs.Rule.{ruled}
use Rattle.memory_address.specs.declared.Module.{Module}
use Rattle.memory_address.specs.declared.Group.{Group}
use Rattle.memory_address.specs.declared.Address.{Address}
use Rattle.memory_address.specs.declared.Address.TheVariants.{Flash, Eeprom}
use Rattle.node_rules.specs.declared.HandledIn.{HandledIn}
use Rattle.node_rules.specs.declared.HandledIn.TheVariants.{InNormal, InProgramming}
use Rattle.node_rules.specs.declared.Addressing.{Addressing}
use Rattle.node_rules.specs.declared.Addressing.TheVariants.{AsGroup, AsNode, AllZero, OwnNumbers}
use Rattle.node_rules.specs.declared.Request.{Request}
use Rattle.node_rules.specs.declared.Request.TheVariants.{EnterProgramming, WaitForRestart, HardwareType, FirmwareType, Description, DeviceId, LeaveProgramming, AddressFrame, DataFrame}
use Rattle.node_rules.specs.declared.Kind.{Kind}
use Rattle.node_rules.specs.declared.Staged.{Staged}
use Rattle.node_rules.specs.declared.Staged.TheVariants.{Nothing, Read, Write, Erase}
use Rattle.node_rules.specs.declared.Mode.{Mode}
use Rattle.node_rules.specs.declared.Mode.TheVariants.{Normal, Programming, Error, Waiting}
use Rattle.node_rules.specs.declared.Plate.{Plate}
use Rattle.node_rules.specs.declared.Memory.{Memory}
use Rattle.node_rules.specs.declared.Memory.TheVariants.{Kept, Bootfl, Written, Erased}
use Rattle.node_rules.specs.declared.Next.{Next}
use Rattle.node_rules.specs.declared.Next.TheVariants.{Stays, Programs, Waits}
use Rattle.node_rules.specs.declared.Reply.{Reply}
use Rattle.node_rules.specs.declared.Reply.TheVariants.{Silent, Entered, Hardware, Firmware, Described, Device, Echoed, Cells}
use Rattle.node_rules.specs.Numbered.{Effect}

-- ---- "The handled types stand in one table": "Type" and "For", with the mode in which a type is handled and what it asks

abbrev pub kind : ℕ → HandledIn → Addressing → Request → Kind
kind t h a r = record { frame_type = t; handled = h; addressing = a; request = r }

-- the request table's rows ("These are handled in normal mode only."), then the list "In programming mode only"
unfoldable pub handled_types : List Kind
handled_types =
    kind 0x100 InNormal AsNode EnterProgramming ∷
    kind 0x101 InNormal AsGroup WaitForRestart ∷
    kind 0x102 InNormal AsNode WaitForRestart ∷
    kind 0x103 InNormal AsGroup HardwareType ∷
    kind 0x104 InNormal AsNode HardwareType ∷
    kind 0x105 InNormal AsGroup FirmwareType ∷
    kind 0x106 InNormal AsNode FirmwareType ∷
    kind 0x10D InNormal AsGroup Description ∷
    kind 0x10E InNormal AsNode Description ∷
    kind 0x10F InNormal AsGroup DeviceId ∷
    kind 0x111 InNormal AsNode DeviceId ∷
    kind 0x010 InProgramming AllZero LeaveProgramming ∷
    kind 0x020 InProgramming OwnNumbers LeaveProgramming ∷
    kind 0x030 InProgramming OwnNumbers AddressFrame ∷
    kind 0x040 InProgramming OwnNumbers DataFrame ∷ []

-- the first row of that type
abbrev pub look_in : List Kind → ℕ → Option Kind
look_in [] t = None
look_in (k ∷ ks) t = cond (eqb k.frame_type t) (Some k) (look_in ks t)

unfoldable pub found : ℕ → Option Kind
found t = look_in handled_types t

-- ---- "For": whom a frame is for, and in which mode

-- D0 to D7 of a frame
abbrev pub D : ℕ → List ℕ → ℕ
D i f = get_or f (4 + i) 0

abbrev pub data_in : List ℕ → List ℕ
data_in f = listed f 4 8

-- numbers of a frame, as a module's and a group's
abbrev pub a_module : ℕ → Module
a_module m = record { 0 = m }

abbrev pub a_group : ℕ → Group
a_group g = record { 0 = g }

-- a module and a group are the node's own
abbrev pub are_own : Plate → Module → Group → Bool
are_own p m g = eqb m.0 p.own.0 && eqb g.0 p.group.0

-- ""Group" means D2 is 0x00 and D3 is 0x00 or the own group; "node" means D2, D3 are the own numbers."
-- "0x010, frame module and group both 0x00; 0x020, frame module and group the own numbers"; 0x030 and 0x040 "own numbers in the frame"
abbrev pub is_for : Addressing → Plate → List ℕ → Bool
is_for AsGroup p f = eqb (D 2 f) 0x00 && (eqb (D 3 f) 0x00 || eqb (D 3 f) p.group.0)
is_for AsNode p f = are_own p (a_module (D 2 f)) (a_group (D 3 f))
is_for AllZero p f = eqb (module_of f) 0x00 && eqb (group_of f) 0x00
is_for OwnNumbers p f = are_own p (a_module (module_of f)) (a_group (group_of f))

abbrev pub is_normal : Mode → Bool
is_normal (Normal started) = true
is_normal (Programming s) = false
is_normal Error = false
is_normal Waiting = false

abbrev pub is_programming : Mode → Bool
is_programming (Normal started) = false
is_programming (Programming s) = true
is_programming Error = false
is_programming Waiting = false

-- "These are handled in normal mode only. In programming mode only: .."
abbrev pub handled_here : HandledIn → Mode → Bool
handled_here InNormal m = is_normal m
handled_here InProgramming m = is_programming m

-- ---- "Reply data or effect"

-- 0x030: "D0 D1 D2 is the address, high byte first, D5 the command."
abbrev pub address_in : List ℕ → ℕ
address_in f = high_first (D 0 f) (D 1 f) (D 2 f)

abbrev pub ruled_in : List ℕ → Option Address
ruled_in f = ruled (address_in f) (D 5 f)

-- the command that is staged at a legal address; at an illegal one nothing is
abbrev pub command_at : ℕ → Address → Staged
command_at command (Flash a) =
    cond (eqb command 0x01) (Read (Flash a)) (cond (eqb command 0x02) (Write (Flash a)) (Erase a))
command_at command (Eeprom p) = cond (eqb command 0x01) (Read (Eeprom p)) (Write (Eeprom p))

abbrev pub staged_by : ℕ → Option Address → Staged
staged_by command (Some a) = command_at command a
staged_by command None = Nothing

-- what is staged in a mode
abbrev pub staged_in : Mode → Staged
staged_in (Normal started) = Nothing
staged_in (Programming s) = s
staged_in Error = Nothing
staged_in Waiting = Nothing

-- done: with this reply, this becomes of the memories and this of the mode
abbrev pub does : Reply → Memory → Next → Effect
does reply memory next = record { number = 0; reply = reply; memory = memory; next = next }

-- 0x040: "does the staged command, with D0 to D7 as the data of a write. The command stays staged. *Ours:* the reply data are the eight
-- cells at the address after the command."
abbrev pub doing : Staged → Effect
doing Nothing = does Silent Kept Stays
doing (Read a) = does (Cells a) Kept Stays
doing (Write a) = does (Cells a) (Written a) Stays
doing (Erase a) = does (Cells (Flash a)) (Erased a) Stays

-- a clause a row: the reply, the memories, the mode
abbrev pub asked : Request → Mode → List ℕ → Effect
asked EnterProgramming m f = does Entered (Bootfl 0xFF) (Programs Nothing)
asked WaitForRestart m f = does Silent Kept Waits
asked HardwareType m f = does Hardware Kept Stays
asked FirmwareType m f = does Firmware Kept Stays
asked Description m f = does Described Kept Stays
asked DeviceId m f = does Device Kept Stays
asked LeaveProgramming m f = does Silent (Bootfl 0x00) Waits
asked AddressFrame m f = does Echoed Kept (Programs (staged_by (D 5 f) (ruled_in f)))
asked DataFrame m f = doing (staged_in m)

-- what a frame asks, by what the table says of its type; one that is not in the table asks nothing
abbrev pub asked_by : Option Kind → Mode → List ℕ → Effect
asked_by None m f = does Silent Kept Stays
asked_by (Some k) m f = asked k.request m f
