-- Words of answer one: what no call may spoil of a FLASH that is lent to be changed.
use Rattle.std.specs.Prelude.{ℕ, ◌<◌, ◌≡◌, true, List, length, get_or}
use Rattle.memory_address.specs.Rule.{protected}

-- FLASH before and after: the cells below 0x001000 are as they were, and so are every protected cell and the length
abbrev pub Spared : List ℕ → List ℕ → Type 0
Spared flash flash' =
    ((i : ℕ) → i < 0x001000 → get_or flash' i 0 ≡ get_or flash i 0)
    × ((i : ℕ) → protected i ≡ true → get_or flash' i 0 ≡ get_or flash i 0)
    × (length flash' ≡ length flash)
