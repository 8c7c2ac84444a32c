-- The number of each conversion alone, and what it leaves (document 01, "Numbered outcomes", from "Alone" on). "A lent output of another
-- length than the result is 4, checked first": `room` is the output's length.
use Rattle.std.specs.Prelude.{ℕ, cond, not, List, eqb, length, Result, Ok, Err}
use Rattle.frame_rules.specs.declared.Refusal.{Refusal}
use Rattle.frame_rules.specs.declared.Refusal.TheVariants.{Misshapen, WronglyWrapped}
use Rattle.frame_rules.specs.Frame.{identifier_of, legal_identifier, upper_flags}
use Rattle.frame_rules.specs.Wrapping.{rightly_wrapped}

-- identifier and data to a frame: 4 for an "identifier above 0x1FFFFFFF, or not 8 data bytes"
unfoldable pub to_hapcan_number : ℕ → List ℕ → ℕ → ℕ
to_hapcan_number i d room =
    cond (not (eqb room 12)) 4
    (cond (not (legal_identifier i)) 4
    (cond (not (eqb (length d) 8)) 4
    0))

-- a frame to identifier and data: 4 for "not 12 bytes, an upper flag set"
unfoldable pub to_can_number : List ℕ → ℕ → ℕ
to_can_number f room =
    cond (not (eqb room 8)) 4
    (cond (not (eqb (length f) 12)) 4
    (cond (upper_flags f) 4
    0))

-- "wrapping wants 12 bytes, .. else 4"
unfoldable pub wrap_number : List ℕ → ℕ → ℕ
wrap_number f room =
    cond (not (eqb room 15)) 4
    (cond (not (eqb (length f) 12)) 4
    0)

-- "unwrapping 15, else 4; a wrong start, sum or stop is 11"
unfoldable pub unwrap_number : List ℕ → ℕ → ℕ
unwrap_number w room =
    cond (not (eqb room 12)) 4
    (cond (not (eqb (length w) 15)) 4
    (cond (not (rightly_wrapped w)) 11
    0))

-- what a lent output holds after a number: the result after 0, and else what it held, for "A refused conversion touches no output"
abbrev pub output_after : ℕ → List ℕ → List ℕ → List ℕ
output_after number result held = cond (eqb number 0) result held

-- the number of a refusal
abbrev pub refusal_number : Refusal → ℕ
refusal_number Misshapen = 4
refusal_number WronglyWrapped = 11

-- the number of what a conversion answers: 0, or the refusal's
abbrev pub number_of : {A : Type 0} → Result A Refusal → ℕ
number_of (Ok _) = 0
number_of (Err refusal) = refusal_number refusal

-- what a frame says as a CAN identifier: the number and, beside it, the identifier
pub record Identified : Type 0 where
  pub number : ℕ
  pub identifier : ℕ

-- the same of what a conversion answers: after a refusal the identifier is 0
abbrev pub identified : Result ℕ Refusal → Identified
identified (Ok i) = record { number = 0; identifier = i }
identified (Err refusal) = record { number = refusal_number refusal; identifier = 0 }

-- the number, and beside it the identifier, 0 after a refusal
abbrev pub identified_of : ℕ → List ℕ → Identified
identified_of number f = record { number = number; identifier = cond (eqb number 0) (identifier_of f) 0 }
