-- How a number is read from a word, and how it is written: decimal digits, the highest first.
use Rattle.std.specs.Prelude.{◌≡◌, ℕ, zero, suc, ◌+◌, ◌-◌, ◌*◌, ◌/◌, ◌%◌, ◌^◌, ◌<◌, Bool, true, cond, ◌&&◌, List, [], ◌∷◌, ◌++◌, length, Some, None, Option, nat_le, nat_lt, decimal as displayed}

-- a byte is a digit: `0` is 48, and `9` is 57
abbrev pub digit : ℕ → Bool
digit c = nat_le 48 c && nat_le c 57

-- every byte of a word is a digit
abbrev pub all_digits : List ℕ → Bool
all_digits [] = true
all_digits (c ∷ cs) = digit c && all_digits cs

-- the number that digits stand for: a digit counts ten times as much for each digit behind it
abbrev pub value : List ℕ → ℕ
value [] = 0
value (c ∷ cs) = (c - 48) * 10 ^ length cs + value cs

-- a word is a number: one digit or more, nothing else, and a value below 2^64
abbrev pub is_number : List ℕ → Bool
is_number word = nat_lt 0 (length word) && (all_digits word && nat_lt (value word) (2 ^ 64))

-- what a word reads as: its value where it is a number, and else none
abbrev pub decimal : List ℕ → Option ℕ
decimal word = cond (is_number word) (Some (value word)) None

-- the digits of n, without leading zeros, where k places are enough: those of its tenth part, and then the last one
abbrev pub digits_within : ℕ → ℕ → List ℕ
digits_within zero n = []
digits_within (suc k) n = cond (nat_lt n 10) ((48 + n) ∷ []) (digits_within k (n / 10) ++ ((48 + n % 10) ∷ []))

-- how a number is written: without leading zeros, and zero as `0` (n + 1 places are always enough)
abbrev pub digits : ℕ → List ℕ
digits n = digits_within (n + 1) n

-- a number that is printed reads back as itself
abbrev pub PrintedNumberReadsBack : Type 0
PrintedNumberReadsBack = (n : ℕ) → n < 2 ^ 64 → decimal (digits n) ≡ Some n

-- so does one that is displayed, as in `{n}`: what the library prints of it is its digits
abbrev pub DisplayedNumberReadsBack : Type 0
DisplayedNumberReadsBack = (n : ℕ) → n < 2 ^ 64 → (displayed n ≡ digits n) × (decimal (displayed n) ≡ Some n)

-- the number n with the byte c written behind it, where c is a digit and the number stays below 2^64: a step of reading
abbrev pub extended : ℕ → ℕ → Option ℕ
extended n c = cond (digit c && nat_lt (n * 10 + (c - 48)) (2 ^ 64)) (Some (n * 10 + (c - 48))) None
