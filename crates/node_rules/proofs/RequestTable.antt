-- The request table, one theorem a row: the frame's bytes, and all that the call leaves, written out as document 01 has them. Each is the
-- law of a request at that type; what is left computes.
-- Assumes nothing.
use Rattle.std.specs.Prelude.{Some, None}
use mathlib.Core.Path.{◌≡◌, ◌∙◌, refl, sym}
use mathlib.Core.Bool.{Bool, true, false, ◌&&◌, ◌||◌}
use mathlib.Core.List.{List, [], ◌∷◌, ◌++◌}
use mathlib.Core.Logic.{◌⊎◌, inl, inr}
use Prim.Native.Nat.{ℕ, ◌+◌, ◌/◌, ◌%◌}
use lib.Dec.{eqb}
use lib.ListN.{length, get_or, set, replicate}
use borrow.Author.Tests.{eq-eqb, ne_eqb}
use Rattle.base.specs.Parts.{part, sum_of}
use Rattle.base.proofs.Choice.{true_both}
use Rattle.memory_sum.specs.Sum.{firmware_sum}
use Rattle.memory_start.specs.Start.{flag_byte}
use Rattle.memory_start.specs.Plain.{FlagSays}
use Rattle.memory_sum.proofs.Laws.{worked_out}
use Rattle.memory_start.proofs.Laws.{flag_only}
use Rattle.frame_rules.specs.Frame.{type_of}
use Rattle.node_rules.specs.declared.HandledIn.TheVariants.{InNormal}
use Rattle.node_rules.specs.declared.Addressing.TheVariants.{AsGroup, AsNode, AllZero, OwnNumbers}
use Rattle.node_rules.specs.declared.Request.TheVariants.{EnterProgramming, WaitForRestart, HardwareType, FirmwareType, Description, DeviceId}
use Rattle.node_rules.specs.declared.Staged.TheVariants.{Nothing}
use Rattle.node_rules.specs.declared.Mode.TheVariants.{Normal, Programming, Waiting}
use Rattle.node_rules.specs.declared.Plate.{Plate}
use Rattle.node_rules.specs.declared.Node.{Node}
use Rattle.node_rules.specs.declared.Kind.{Kind}
use Rattle.node_rules.specs.Record.{with_mode, tidied}
use Rattle.node_rules.specs.Requests.{kind, look_in, found, handled_types, is_normal, handled_here, is_for, asked}
use Rattle.node_rules.specs.Outcomes.{unless, is_deaf, misshapen, is_response, request_outcomes}
use Rattle.node_rules.specs.Step.{done, can_step}
use Rattle.node_rules.specs.Reading.{leaves, replies_with, with_own, eight_of, eight_at, ToGroup, ToNode, NoneIs}
use Rattle.node_rules.proofs.Ruling.{sizes_full, obeys, not_in_table, not_in_mode, not_for_it}

to_group : (p : Plate) (d2 d3 : ℕ) → ToGroup p d2 d3 → (eqb d2 0x00 && (eqb d3 0x00 || eqb d3 p.group.0)) ≡ true
to_group p d2 d3 (z, inl e) = rw (eq-eqb d2 0 z, eq-eqb d3 0 e) refl
to_group p d2 d3 (z, inr e) = rw (eq-eqb d2 0 z, eq-eqb d3 p.group.0 e) (go (eqb d3 0))
  where
    go : (b : Bool) → (b || true) ≡ true
    go true = refl
    go false = refl

to_node : (p : Plate) (d2 d3 : ℕ) → ToNode p d2 d3 → (eqb d2 p.own.0 && eqb d3 p.group.0) ≡ true
to_node p d2 d3 (e, f) = true_both (eqb d2 p.own.0) _ (eq-eqb d2 p.own.0 e) (eq-eqb d3 p.group.0 f)

pub and_false : (b : Bool) → (b && false) ≡ false
and_false true = refl
and_false false = refl

other_group : (p : Plate) (d2 d3 : ℕ) → (d2 ≡ 0x00 → ⊥) ⊎ ((d3 ≡ 0x00 → ⊥) × (d3 ≡ p.group.0 → ⊥))
    → (eqb d2 0x00 && (eqb d3 0x00 || eqb d3 p.group.0)) ≡ false
other_group p d2 d3 (inl x) = rw (ne_eqb d2 0 x) refl
other_group p d2 d3 (inr (x, y)) = rw (ne_eqb d3 0 x, ne_eqb d3 p.group.0 y) (and_false (eqb d2 0))

other_numbers : (x y m g : ℕ) → (m ≡ x → ⊥) ⊎ (g ≡ y → ⊥) → (eqb m x && eqb g y) ≡ false
other_numbers x y m g (inl d) = rw (ne_eqb m x d) refl
other_numbers x y m g (inr d) = rw (ne_eqb g y d) (and_false (eqb m x))

module _ (n : Node) (flash eeprom : List ℕ) (fl : length flash ≡ 65536) (el : length eeprom ≡ 1024) (started : Bool)
    (mode : n.mode ≡ Normal started) (m g d0 d1 d2 d3 d4 d5 d6 d7 : ℕ) where
  normal_here : is_normal (tidied n).mode ≡ true
  unfolding tidied
  normal_here = rw mode refl

  -- a frame of a type of the table, by its first two bytes
  abbrev request_of : ℕ → ℕ → List ℕ
  request_of b1 b2 = b1 ∷ b2 ∷ m ∷ g ∷ eight_of d0 d1 d2 d3 d4 d5 d6 d7

  by_request : (b1 b2 : ℕ) (k : Kind) → misshapen (request_of b1 b2) ≡ false → is_response (request_of b1 b2) ≡ false
      → found (type_of (request_of b1 b2)) ≡ Some k → k.handled ≡ InNormal
      → is_for k.addressing (tidied n).plate (request_of b1 b2) ≡ true
      → can_step n (request_of b1 b2) flash eeprom
      ≡ done (unless (request_outcomes k.request (tidied n).mode (request_of b1 b2))
      (asked k.request (tidied n).mode (request_of b1 b2)))
      (tidied n) (request_of b1 b2) flash eeprom
  by_request b1 b2 k shape request e h a =
      obeys n (request_of b1 b2) flash eeprom (sizes_full flash eeprom fl el) shape request k e (rw h normal_here) a

  -- 0x100 to the node: "FF FF 03 04 FF FF FF FF; BOOTFL becomes 0xFF, programming, nothing staged"
  pub request_100 : ToNode n.plate d2 d3
      → can_step n (0x10 ∷ 0x00 ∷ m ∷ g ∷ eight_of d0 d1 d2 d3 d4 d5 d6 d7) flash eeprom
      ≡ replies_with
      (with_own n.plate 0x10 0x01 (eight_of 0xFF 0xFF 0x03 0x04 0xFF 0xFF 0xFF 0xFF))
      (with_mode (tidied n) (Programming Nothing)) flash (set eeprom 0 0xFF)
  unfolding done tidied found handled_types
  request_100 a = by_request 0x10 0x00 (kind 0x100 InNormal AsNode EnterProgramming) refl refl refl refl (to_node n.plate d2 d3 a)

  -- 0x101 to the group, 0x102 to the node: "none; waits for restart"
  pub request_101_102 : (b2 : ℕ) → ((b2 ≡ 0x10) × ToGroup n.plate d2 d3) ⊎ ((b2 ≡ 0x20) × ToNode n.plate d2 d3)
      → can_step n (0x10 ∷ b2 ∷ m ∷ g ∷ eight_of d0 d1 d2 d3 d4 d5 d6 d7) flash eeprom
      ≡ leaves 0 0 (replicate 24 0) (with_mode (tidied n) Waiting) flash eeprom
  unfolding done tidied found handled_types
  request_101_102 b2 (inl (e, a)) =
      rw e (by_request 0x10 0x10 (kind 0x101 InNormal AsGroup WaitForRestart) refl refl refl refl (to_group n.plate d2 d3 a))
  request_101_102 b2 (inr (e, a)) =
      rw e (by_request 0x10 0x20 (kind 0x102 InNormal AsNode WaitForRestart) refl refl refl refl (to_node n.plate d2 d3 a))

  -- 0x103 to the group, 0x104 to the node: "30 00 03 FF ID0 ID1 ID2 ID3"
  pub request_103_104 : (b2 : ℕ) → ((b2 ≡ 0x30) × ToGroup n.plate d2 d3) ⊎ ((b2 ≡ 0x40) × ToNode n.plate d2 d3)
      → can_step n (0x10 ∷ b2 ∷ m ∷ g ∷ eight_of d0 d1 d2 d3 d4 d5 d6 d7) flash eeprom
      ≡ replies_with
      (with_own n.plate 0x10 (b2 + 1)
      (eight_of 0x30 0x00 0x03 0xFF (get_or n.plate.fixed 0 0) (get_or n.plate.fixed 1 0) (get_or n.plate.fixed 2 0)
      (get_or n.plate.fixed 3 0)))
      (tidied n) flash eeprom
  unfolding done tidied found handled_types
  request_103_104 b2 (inl (e, a)) =
      rw e (by_request 0x10 0x30 (kind 0x103 InNormal AsGroup HardwareType) refl refl refl refl (to_group n.plate d2 d3 a))
  request_103_104 b2 (inr (e, a)) =
      rw e (by_request 0x10 0x40 (kind 0x104 InNormal AsNode HardwareType) refl refl refl refl (to_node n.plate d2 d3 a))

  -- 0x105 to the group, and 0x106 to the node with firmware started: "30 00 03 ATYPE AVERS FVERS 03 04"
  pub request_105_106 : (b2 : ℕ) → ((b2 ≡ 0x50) × ToGroup n.plate d2 d3) ⊎ ((b2 ≡ 0x60) × ToNode n.plate d2 d3 × (started ≡ true))
      → can_step n (0x10 ∷ b2 ∷ m ∷ g ∷ eight_of d0 d1 d2 d3 d4 d5 d6 d7) flash eeprom
      ≡ replies_with
      (with_own n.plate 0x10 (b2 + 1)
      (eight_of 0x30 0x00 0x03 (get_or flash 0x001013 0) (get_or flash 0x001014 0) (get_or flash 0x001015 0) 0x03 0x04))
      (tidied n) flash eeprom
  unfolding done tidied found handled_types
  request_105_106 b2 (inl (e, a)) =
      rw e (by_request 0x10 0x50 (kind 0x105 InNormal AsGroup FirmwareType) refl refl refl refl (to_group n.plate d2 d3 a))
  request_105_106 b2 (inr (e, a, s)) =
      rw e
      (by_request 0x10 0x60 (kind 0x106 InNormal AsNode FirmwareType) refl refl refl refl (to_node n.plate d2 d3 a)
      ∙ simp (mode, s))

  -- 0x106 to the node, "with firmware not started the reply has type 0x1F1: .., worked_out sum high byte first, FF FF 03 04", and in front
  -- of the sum the flag byte: what it says is said of FLASH as it is now, whatever the restart found
  pub request_1F1 : ToNode n.plate d2 d3 → started ≡ false
      → (flag sum : ℕ) → FlagSays flag flash → sum ≡ sum_of (part flash 0x001003 28669)
      → can_step n (0x10 ∷ 0x60 ∷ m ∷ g ∷ eight_of d0 d1 d2 d3 d4 d5 d6 d7) flash eeprom
      ≡ replies_with
      (with_own n.plate 0x1F 0x11 (eight_of flag (sum / 65536 % 256) (sum / 256 % 256) (sum % 256) 0xFF 0xFF 0x03 0x04))
      (tidied n) flash eeprom
  unfolding done tidied found handled_types
  request_1F1 a s flag sum says e =
      let b : flag_byte flash ≡ flag = sym (flag_only flash flag fl says) in
      let w : firmware_sum flash ≡ sum = worked_out flash fl ∙ sym e in
      by_request 0x10 0x60 (kind 0x106 InNormal AsNode FirmwareType) refl refl refl refl (to_node n.plate d2 d3 a) ∙ simp (mode, s, b, w)

  -- 0x10D to the group, 0x10E to the node: "two frames, description 0 to 7 then 8 to 15"
  pub request_10_d_10_e : (b2 : ℕ) → ((b2 ≡ 0xD0) × ToGroup n.plate d2 d3) ⊎ ((b2 ≡ 0xE0) × ToNode n.plate d2 d3)
      → can_step n (0x10 ∷ b2 ∷ m ∷ g ∷ eight_of d0 d1 d2 d3 d4 d5 d6 d7) flash eeprom
      ≡ leaves 0 2
      (with_own n.plate 0x10 (b2 + 1) (eight_at eeprom 0x30) ++ with_own n.plate 0x10 (b2 + 1) (eight_at eeprom 0x38))
      (tidied n) flash eeprom
  unfolding done tidied found handled_types
  request_10_d_10_e b2 (inl (e, a)) =
      rw e (by_request 0x10 0xD0 (kind 0x10D InNormal AsGroup Description) refl refl refl refl (to_group n.plate d2 d3 a))
  request_10_d_10_e b2 (inr (e, a)) =
      rw e (by_request 0x10 0xE0 (kind 0x10E InNormal AsNode Description) refl refl refl refl (to_node n.plate d2 d3 a))

  -- 0x10F to the group, 0x111 to the node: "DEVID1 DEVID2 then six FF"
  pub request_10_f_111 : (b1 b2 : ℕ) → ((b1 ≡ 0x10) × (b2 ≡ 0xF0) × ToGroup n.plate d2 d3)
      ⊎ ((b1 ≡ 0x11) × (b2 ≡ 0x10) × ToNode n.plate d2 d3)
      → can_step n (b1 ∷ b2 ∷ m ∷ g ∷ eight_of d0 d1 d2 d3 d4 d5 d6 d7) flash eeprom
      ≡ replies_with
      (with_own n.plate b1 (b2 + 1) (eight_of (get_or n.plate.fixed 4 0) (get_or n.plate.fixed 5 0) 0xFF 0xFF 0xFF 0xFF 0xFF 0xFF))
      (tidied n) flash eeprom
  unfolding done tidied found handled_types
  request_10_f_111 b1 b2 (inl (e, h, a)) =
      rw (e, h) (by_request 0x10 0xF0 (kind 0x10F InNormal AsGroup DeviceId) refl refl refl refl (to_group n.plate d2 d3 a))
  request_10_f_111 b1 b2 (inr (e, h, a)) =
      rw (e, h) (by_request 0x11 0x10 (kind 0x111 InNormal AsNode DeviceId) refl refl refl refl (to_node n.plate d2 d3 a))

-- "Every other type": 6, whatever else the frame says, to a node in normal or programming mode
module _ (n : Node) (f flash eeprom : List ℕ) (fl : length flash ≡ 65536) (el : length eeprom ≡ 1024) (twelve : length f ≡ 12)
    (flags : get_or f 1 0 % 16 ≡ 0) where
  shaped : misshapen f ≡ false
  shaped = rw (eq-eqb (length f) 12 twelve, flags) refl

  asking : is_response f ≡ false
  asking = rw flags refl

  pub other_type_lem : is_deaf (tidied n).mode ≡ false → found (type_of f) ≡ None
      → can_step n f flash eeprom ≡ leaves 6 0 (replicate 24 0) (tidied n) flash eeprom
  unfolding done
  other_type_lem m e = not_in_table n f flash eeprom (sizes_full flash eeprom fl el) shaped asking m e

  -- a type of the table in the other mode
  pub other_mode : (k : Kind) → is_deaf (tidied n).mode ≡ false → found (type_of f) ≡ Some k
      → handled_here k.handled (tidied n).mode ≡ false
      → can_step n f flash eeprom ≡ leaves 6 0 (replicate 24 0) (tidied n) flash eeprom
  unfolding done
  other_mode k m e h = not_in_mode n f flash eeprom (sizes_full flash eeprom fl el) shaped asking k m e h

  -- "not for this node": 7. A frame of a "group" type with D2 not 0x00, or with D3 neither 0x00 nor the own group; one of a "node" type
  -- with D2 or D3 not the own number
  pub not_for_group : (k : Kind) → found (type_of f) ≡ Some k → handled_here k.handled (tidied n).mode ≡ true
      → k.addressing ≡ AsGroup
      → (get_or f 6 0 ≡ 0x00 → ⊥) ⊎ ((get_or f 7 0 ≡ 0x00 → ⊥) × (get_or f 7 0 ≡ n.plate.group.0 → ⊥))
      → can_step n f flash eeprom ≡ leaves 7 0 (replicate 24 0) (tidied n) flash eeprom
  unfolding done tidied
  not_for_group k e h g d =
      not_for_it n f flash eeprom (sizes_full flash eeprom fl el) shaped asking k e h
      (rw g (other_group n.plate (get_or f 6 0) (get_or f 7 0) d))

  pub not_for_node : (k : Kind) → found (type_of f) ≡ Some k → handled_here k.handled (tidied n).mode ≡ true
      → k.addressing ≡ AsNode → (get_or f 6 0 ≡ n.plate.own.0 → ⊥) ⊎ (get_or f 7 0 ≡ n.plate.group.0 → ⊥)
      → can_step n f flash eeprom ≡ leaves 7 0 (replicate 24 0) (tidied n) flash eeprom
  unfolding done tidied
  not_for_node k e h g d =
      not_for_it n f flash eeprom (sizes_full flash eeprom fl el) shaped asking k e h
      (rw g (other_numbers n.plate.own.0 n.plate.group.0 (get_or f 6 0) (get_or f 7 0) d))

  -- and in programming mode one whose frame module and group are not the own numbers
  pub not_for_own : (k : Kind) → found (type_of f) ≡ Some k → handled_here k.handled (tidied n).mode ≡ true
      → k.addressing ≡ OwnNumbers → (get_or f 2 0 ≡ n.plate.own.0 → ⊥) ⊎ (get_or f 3 0 ≡ n.plate.group.0 → ⊥)
      → can_step n f flash eeprom ≡ leaves 7 0 (replicate 24 0) (tidied n) flash eeprom
  unfolding done tidied
  not_for_own k e h g d =
      not_for_it n f flash eeprom (sizes_full flash eeprom fl el) shaped asking k e h
      (rw g (other_numbers n.plate.own.0 n.plate.group.0 (get_or f 2 0) (get_or f 3 0) d))

  -- 0x010 whose frame module and group are not both 0x00
  pub not_for_zero : (k : Kind) → found (type_of f) ≡ Some k → handled_here k.handled (tidied n).mode ≡ true
      → k.addressing ≡ AllZero → (get_or f 2 0 ≡ 0x00 → ⊥) ⊎ (get_or f 3 0 ≡ 0x00 → ⊥)
      → can_step n f flash eeprom ≡ leaves 7 0 (replicate 24 0) (tidied n) flash eeprom
  unfolding done tidied
  not_for_zero k e h g d =
      not_for_it n f flash eeprom (sizes_full flash eeprom fl el) shaped asking k e h
      (rw g (other_numbers 0x00 0x00 (get_or f 2 0) (get_or f 3 0) d))

-- "All other types: 6": every type but the fifteen is in no row of the table
pub every_other : (t : ℕ)
    → NoneIs (0x100 ∷ 0x101 ∷ 0x102 ∷ 0x103 ∷ 0x104 ∷ 0x105 ∷ 0x106 ∷ 0x10D ∷ 0x10E ∷ 0x10F ∷ 0x111 ∷ 0x010 ∷ 0x020 ∷ 0x030 ∷ 0x040 ∷ []) t
    → found t ≡ None
unfolding found handled_types
every_other t h = none handled_types h
  where
    types : List Kind → List ℕ
    types [] = []
    types (k ∷ ks) = k.frame_type ∷ types ks

    none : (ks : List Kind) → NoneIs (types ks) t → look_in ks t ≡ None
    none [] o = refl
    none (k ∷ ks) o = rw (ne_eqb k.frame_type t o.0) (none ks o.1)
