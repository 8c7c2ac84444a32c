-- The law of a request: over full memories a frame that has the right shape, is no response, is of a type that is handled in the mode and
-- is for the node comes to what its request asks, unless 8 or 9 holds. Every outcome before those is false by a premise.
-- Assumes nothing.
use Rattle.std.specs.Prelude.{Some, None}
use mathlib.Core.Path.{◌≡◌, refl, ap}
use mathlib.Core.Bool.{true, false, false≢true}
use mathlib.Core.List.{List}
use Prim.Native.Nat.{ℕ}
use lib.Dec.{eqb}
use lib.ListN.{length}
use borrow.Author.Tests.{eq-eqb}
use Rattle.base.proofs.Choice.{true_both}
use Rattle.memory_address.specs.Places.{full}
use Rattle.frame_rules.specs.Frame.{type_of}
use Rattle.node_rules.specs.declared.HandledIn.{HandledIn}
use Rattle.node_rules.specs.declared.HandledIn.TheVariants.{InNormal, InProgramming}
use Rattle.node_rules.specs.declared.Mode.{Mode}
use Rattle.node_rules.specs.declared.Mode.TheVariants.{Normal, Programming, Error, Waiting}
use Rattle.node_rules.specs.declared.Kind.{Kind}
use Rattle.node_rules.specs.declared.Node.{Node}
use Rattle.node_rules.specs.Numbered.{Effect}
use Rattle.node_rules.specs.Record.{tidied}
use Rattle.node_rules.specs.Requests.{found, is_for, handled_here, asked}
use Rattle.node_rules.specs.Outcomes.{refused, unless, is_deaf, misshapen, is_response, request_outcomes, decided}
use Rattle.node_rules.specs.Step.{done, can_step}

-- memories of their size are full
pub sizes_full : (flash eeprom : List ℕ) → length flash ≡ 65536 → length eeprom ≡ 1024 → full flash eeprom ≡ true
sizes_full flash eeprom l k = true_both (eqb (length flash) 65536) _ (eq-eqb (length flash) 65536 l) (eq-eqb (length eeprom) 1024 k)

-- a mode in which a type is handled is not deaf
pub handled_hears : (h : HandledIn) (m : Mode) → handled_here h m ≡ true → is_deaf m ≡ false
handled_hears h (Normal started) e = refl
handled_hears h (Programming s) e = refl
handled_hears InNormal Error e = absurd (false≢true e)
handled_hears InProgramming Error e = absurd (false≢true e)
handled_hears InNormal Waiting e = absurd (false≢true e)
handled_hears InProgramming Waiting e = absurd (false≢true e)

module _ (n : Node) (f flash eeprom : List ℕ) (sized : full flash eeprom ≡ true) where
  by_decision : (e : Effect) → decided (tidied n) true f ≡ e → can_step n f flash eeprom ≡ done e (tidied n) f flash eeprom
  unfolding can_step
  by_decision e d = rw sized (ap (λ (x : Effect). done x (tidied n) f flash eeprom) d)

  module _ (shape : misshapen f ≡ false) (request : is_response f ≡ false) where
    pub obeys : (k : Kind) → found (type_of f) ≡ Some k → handled_here k.handled (tidied n).mode ≡ true
        → is_for k.addressing (tidied n).plate f ≡ true
        → can_step n f flash eeprom
        ≡ done (unless (request_outcomes k.request (tidied n).mode f) (asked k.request (tidied n).mode f)) (tidied n) f flash eeprom
    unfolding decided
    obeys k e h a =
        by_decision (unless (request_outcomes k.request (tidied n).mode f) (asked k.request (tidied n).mode f))
        (rw (e, handled_hears k.handled (tidied n).mode h, shape, request, h, a) refl)

    -- a type that is not in the table, and one that is handled in the other mode
    pub not_in_table : is_deaf (tidied n).mode ≡ false → found (type_of f) ≡ None
        → can_step n f flash eeprom ≡ done (refused 6) (tidied n) f flash eeprom
    unfolding decided
    not_in_table m e = by_decision (refused 6) (rw (e, m, shape, request) refl)

    pub not_in_mode : (k : Kind) → is_deaf (tidied n).mode ≡ false → found (type_of f) ≡ Some k
        → handled_here k.handled (tidied n).mode ≡ false
        → can_step n f flash eeprom ≡ done (refused 6) (tidied n) f flash eeprom
    unfolding decided
    not_in_mode k m e h = by_decision (refused 6) (rw (e, m, shape, request, h) refl)

    -- a frame that is for another node
    pub not_for_it : (k : Kind) → found (type_of f) ≡ Some k → handled_here k.handled (tidied n).mode ≡ true
        → is_for k.addressing (tidied n).plate f ≡ false → can_step n f flash eeprom ≡ done (refused 7) (tidied n) f flash eeprom
    unfolding decided
    not_for_it k e h a =
        by_decision (refused 7)
        (rw (e, handled_hears k.handled (tidied n).mode h, shape, request, h, a) refl)
