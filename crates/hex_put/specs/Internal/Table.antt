-- A table of 66,560 places, the 65,536 of FLASH and behind them the 1,024 of EEPROM: 255 where nothing is given, and 256 more than the byte
-- where one is. What a recipe's bytes are by such a table.
use Rattle.std.specs.Prelude.{Option, Some, None, ℕ, zero, suc, ◌+◌, ◌%◌, ◌≤◌, Bool, false, ◌&&◌, ◌||◌, cond, List, [], ◌∷◌, ◌++◌, eqb, leb, ltb, length, take, drop}
use Rattle.base.specs.Parts.{part}
use Rattle.recipe.specs.Items.{address_bytes}

-- whether one of these places is marked
abbrev pub some_marked : List ℕ → Bool
some_marked [] = false
some_marked (x ∷ xs) = ltb 255 x || some_marked xs

-- the bytes of these places
abbrev pub low_bytes : List ℕ → List ℕ
low_bytes [] = []
low_bytes (x ∷ xs) = x % 256 ∷ low_bytes xs

-- an item's bytes
abbrev pub item_bytes : ℕ → ℕ → List ℕ → List ℕ
item_bytes kind address places = kind ∷ (address_bytes address ++ low_bytes places)

-- and where it is touched
abbrev pub touched_bytes : ℕ → ℕ → List ℕ → List ℕ
touched_bytes kind address places = cond (some_marked places) (item_bytes kind address places) []

-- the bytes of the touched ones of n items of one size, from index k and address a on
unfoldable pub printed_in : ℕ → ℕ → List ℕ → ℕ → ℕ → ℕ → List ℕ
printed_in kind size table zero k a = []
printed_in kind size table (suc n) k a = touched_bytes kind a (part table k size) ++ printed_in kind size table n (k + size) (a + size)

-- items of one size, one behind the other: some of them at most fill FLASH
pub record Items (places : List ℕ) (size : ℕ) : Type 0 where
  pub some : 1 ≤ size
  pub small : size ≤ 64
  pub few : length places ≤ 65536

-- the recipe's bytes: Open, the blocks, the rows, Leave
unfoldable pub bytes_in : ℕ → ℕ → List ℕ → List ℕ → List ℕ
bytes_in m g blocks rows =
    0x01 ∷ m ∷ g ∷ (printed_in 0x02 64 blocks 1024 0 0x000000 ++ (printed_in 0x03 8 rows 128 0 0xF00000 ++ (0x0F ∷ [])))

-- the same of a whole table
abbrev pub table_bytes : ℕ → ℕ → List ℕ → List ℕ
table_bytes m g table = bytes_in m g (take 65536 table) (drop 65536 table)

-- how many bytes are put, where these are to be put into `room` from a table of `places`: none where there is no room, or the table is none
abbrev pub put_length : List ℕ → ℕ → ℕ → Option ℕ
put_length bytes places room = cond (eqb places 66560 && leb (length bytes) room) (Some (length bytes)) None

-- and the output after it
abbrev pub put_output : List ℕ → ℕ → List ℕ → List ℕ
put_output bytes places output = cond (eqb places 66560 && leb (length bytes) (length output)) (bytes ++ drop (length bytes) output) output
