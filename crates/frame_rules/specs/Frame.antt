-- A HAPCAN frame and its CAN identifier (document 01, "Frames"; 001, table 1). A frame is the list of its 12 bytes.
use Rattle.std.specs.Prelude.{ℕ, ◌+◌, ◌*◌, ◌/◌, ◌%◌, Bool, not, List, [], ◌∷◌, ◌++◌, eqb, leb, get_or, drop}

-- "A HAPCAN frame is 12 bytes: 12 bits of type, 4 flag bits .., module, group, data D0 to D7. The type's top eight bits are byte 1":
-- its low four are the upper half of byte 2
abbrev pub type_of : List ℕ → ℕ
type_of f = get_or f 0 0 * 16 + get_or f 1 0 / 16

-- "4 flag bits (three zeros, then the response flag)": the lower half of byte 2
abbrev pub flags_of : List ℕ → ℕ
flags_of f = get_or f 1 0 % 16

-- the response flag is the last of the four
abbrev pub flag_of : List ℕ → ℕ
flag_of f = flags_of f % 2

-- "an upper flag set": one of the other three
abbrev pub upper_flags : List ℕ → Bool
upper_flags f = not (eqb (flags_of f / 2) 0)

-- "module, group": bytes 3 and 4
abbrev pub module_of : List ℕ → ℕ
module_of f = get_or f 2 0

abbrev pub group_of : List ℕ → ℕ
group_of f = get_or f 3 0

-- "data D0 to D7": the other eight
abbrev pub data_of : List ℕ → List ℕ
data_of f = drop 4 f

-- "The CAN identifier has 29 bits: type times 131,072, plus flag times 65,536, plus module times 256, plus group."
unfoldable pub identifier_of : List ℕ → ℕ
identifier_of f = type_of f * 131_072 + flag_of f * 65_536 + module_of f * 256 + group_of f

-- the same fields of an identifier
abbrev pub type_in : ℕ → ℕ
type_in i = i / 131_072

abbrev pub flag_in : ℕ → ℕ
flag_in i = i / 65_536 % 2

abbrev pub module_in : ℕ → ℕ
module_in i = i / 256 % 256

abbrev pub group_in : ℕ → ℕ
group_in i = i % 256

-- "29 bits": a legal identifier is not "above 0x1FFFFFFF"
abbrev pub legal_identifier : ℕ → Bool
legal_identifier i = leb i 0x1FFFFFFF

-- the first four bytes of the frame that has this identifier
unfoldable pub head_of : ℕ → List ℕ
head_of i = type_in i / 16 ∷ (type_in i % 16 * 16 + flag_in i) ∷ module_in i ∷ group_in i ∷ []

-- the frame that has this identifier and these data
unfoldable pub hapcan_of : ℕ → List ℕ → List ℕ
hapcan_of i d = head_of i ++ d
