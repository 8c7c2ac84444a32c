-- Which refusal, and where. Document 01, "The recipe": "The first item at fault decides; at an item: 25 .. 21 .. 23 .. 22 .. 24".
use Rattle.std.specs.Prelude.{ℕ, ◌+◌, Bool, false, ◌||◌, cond, not, List, [], ◌∷◌, ltb, eqb, length, get_or}
use Rattle.base.specs.Parts.{high_first}
use Rattle.memory_address.specs.Rule.{legal_flash, legal_eeprom}

-- "One byte of kind": of the item that `input` starts with
abbrev pub kind_of : List ℕ → ℕ
kind_of input = get_or input 0 0

-- "0x01 Open", "0x02 Block", "0x03 Row", "0x0F Leave"
abbrev pub known : ℕ → Bool
known kind = eqb kind 0x01 || eqb kind 0x02 || eqb kind 0x03 || eqb kind 0x0F

-- "then a body whose length the kind fixes": 2, 3 and 64, 3 and 8, none
abbrev pub body_length : ℕ → ℕ
body_length kind = cond (eqb kind 0x01) 2 (cond (eqb kind 0x02) 67 (cond (eqb kind 0x03) 11 0))

-- the address that a Block or a Row starts its body with, high byte first
abbrev pub address_of : List ℕ → ℕ
address_of input = high_first (get_or input 1 0) (get_or input 2 0) (get_or input 3 0)

-- "Open is first and once, Leave last and once": out of place is Open behind the first item, anything else as the first item, and
-- "anything after Leave"
abbrev pub out_of_place : ℕ → ℕ → Bool → Bool
out_of_place kind number afterLeave = afterLeave || cond (eqb kind 0x01) (not (eqb number 1)) (eqb number 1)

-- "address illegal (Block as erase, Row as EEPROM write)"
abbrev pub address_illegal : ℕ → ℕ → Bool
address_illegal kind address =
    cond (eqb kind 0x02) (not (legal_flash address 0x03)) (cond (eqb kind 0x03) (not (legal_eeprom address 0x02)) false)

-- at an item, each refusal with its condition, in their order: `input` starts with the item, which would be item `number`
unfoldable pub rules_at : List ℕ → ℕ → Bool → List (ℕ × Bool)
rules_at input number afterLeave =
    (25, eqb number 2049)
    ∷ (21, not (known (kind_of input)))
    ∷ (23, out_of_place (kind_of input) number afterLeave)
    ∷ (22, ltb (length input) (1 + body_length (kind_of input)))
    ∷ (24, address_illegal (kind_of input) (address_of input))
    ∷ []

-- the number of the first condition that holds, 0 where none does
abbrev pub first_of : List (ℕ × Bool) → ℕ
first_of [] = 0
first_of (r ∷ rs) = cond r.1 r.0 (first_of rs)

unfoldable pub fault_at : List ℕ → ℕ → Bool → ℕ
fault_at input number afterLeave = first_of (rules_at input number afterLeave)
