-- How bytes are read from a word, and how they are written: two hex digits for a byte, the high half first, and `-` for no bytes.
use Rattle.std.specs.Prelude.{◌≡◌, ℕ, ◌+◌, ◌-◌, ◌*◌, ◌/◌, ◌%◌, ◌<◌, cond, ◌&&◌, List, [], ◌∷◌, Some, None, Option, ◌==◌, nat_le, nat_lt}
use Rattle.std.specs.List.{flat_map, AllByRecursion}

-- what a hex digit counts: `0` to `9` (48 to 57), `a` to `f` (97 to 102) or `A` to `F` (65 to 70)
abbrev pub hex_digit : ℕ → Option ℕ
hex_digit c =
    cond (nat_le 48 c && nat_le c 57) (Some (c - 48))
    (cond (nat_le 97 c && nat_le c 102) (Some (c - 97 + 10)) (cond (nat_le 65 c && nat_le c 70) (Some (c - 65 + 10)) None))

-- the byte of two halves, the high one first
abbrev pub byte_of : Option ℕ → Option ℕ → Option ℕ
byte_of None low = None
byte_of (Some high) None = None
byte_of (Some high) (Some low) = Some (high * 16 + low)

-- a byte in front of bytes, where both are there
abbrev pub in_front : Option ℕ → Option (List ℕ) → Option (List ℕ)
in_front None bytes = None
in_front (Some b) None = None
in_front (Some b) (Some bytes) = Some (b ∷ bytes)

-- the bytes that pairs of hex digits stand for: none where a digit is left over, or a byte is no digit
abbrev pub pairs : List ℕ → Option (List ℕ)
pairs [] = Some []
pairs (high ∷ []) = None
pairs (high ∷ (low ∷ rest)) = in_front (byte_of (hex_digit high) (hex_digit low)) (pairs rest)

-- what a word reads as: `-` (45) as no bytes, and two digits or more by pairs
abbrev pub hex_bytes : List ℕ → Option (List ℕ)
hex_bytes [] = None
hex_bytes (c ∷ []) = cond (c == 45) (Some []) None
hex_bytes (high ∷ (low ∷ rest)) = pairs (high ∷ (low ∷ rest))

-- the digit that counts d, below 16, with small letters
abbrev pub hex_character : ℕ → ℕ
hex_character d = cond (nat_lt d 10) (48 + d) (97 + (d - 10))

-- the two digits of a byte
abbrev pub two_digits : ℕ → List ℕ
two_digits b = hex_character (b / 16) ∷ (hex_character (b % 16) ∷ [])

-- how bytes are written: `-` for none, else two digits for each
abbrev pub hex_text : List ℕ → List ℕ
hex_text [] = 45 ∷ []
hex_text (b ∷ bs) = flat_map two_digits (b ∷ bs)

-- bytes that are printed read back as themselves
abbrev pub PrintedBytesReadBack : Type 0
PrintedBytesReadBack = (bs : List ℕ) → AllByRecursion (λ b. b < 256) bs → hex_bytes (hex_text bs) ≡ Some bs
