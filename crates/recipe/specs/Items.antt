-- A legal recipe, by printing: a module number, a group number, Blocks and Rows, and the bytes that they are printed as.
-- Document 01, "The recipe".
use Rattle.std.specs.Prelude.{◌≡◌, true, List, [], ◌∷◌, ◌++◌, ℕ, ◌/◌, ◌%◌, ◌≤◌, ◌<◌, length}
use Rattle.base.specs.Parts.{Bytes}
use Rattle.memory_address.specs.Rule.{legal_flash, legal_eeprom}

-- "0x02 Block .. address 3, data 64", "0x03 Row .. EEPROM address 3, data 8"
pub data Item : Type 0 where
  block row : ℕ → List ℕ → Item

-- what stands between Open, with its module and group, and Leave
pub record Recipe : Type 0 where
  pub module_number : ℕ
  pub group_number : ℕ
  pub items : List Item

-- "address illegal (Block as erase, Row as EEPROM write)": an item that is legal
abbrev pub LegalItem : Item → Type 0
LegalItem (block address cells) = (legal_flash address 0x03 ≡ true) × (length cells ≡ 64) × Bytes cells
LegalItem (row address cells) = (legal_eeprom address 0x02 ≡ true) × (length cells ≡ 8) × Bytes cells

abbrev pub LegalItems : List Item → Type 0
LegalItems [] = Unit {0}
LegalItems (i ∷ is) = LegalItem i × LegalItems is

-- "at most 2,048 items", Open and Leave among them
pub record Legal (r : Recipe) : Type 0 where
  pub module_byte : r.module_number < 256
  pub group_byte : r.group_number < 256
  pub few : length r.items ≤ 2046
  pub each : LegalItems r.items

-- "address 3", high byte first
abbrev pub address_bytes : ℕ → List ℕ
address_bytes a = a / 65536 % 256 ∷ a / 256 % 256 ∷ a % 256 ∷ []

-- "One byte of kind, then a body"
abbrev pub printed_item : Item → List ℕ
printed_item (block address cells) = 0x02 ∷ (address_bytes address ++ cells)
printed_item (row address cells) = 0x03 ∷ (address_bytes address ++ cells)

unfoldable pub printed_items : List Item → List ℕ
printed_items [] = []
printed_items (i ∷ is) = printed_item i ++ printed_items is

-- "0x01 Open .. module, group", "Open is first and once, Leave last and once", "0x0F Leave .. none"
unfoldable pub printed : Recipe → List ℕ
printed r = 0x01 ∷ r.module_number ∷ r.group_number ∷ (printed_items r.items ++ (0x0F ∷ []))

-- Open and items, and no Leave yet
abbrev pub opened : ℕ → ℕ → List Item → List ℕ
opened m g is = 0x01 ∷ m ∷ g ∷ printed_items is
