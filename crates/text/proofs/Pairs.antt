-- Pairs of hex digits: read one after another they give what the whole word reads as, and written ones read back.
use Rattle.std.proofs.Common.{◌≡◌, ℕ, ◌/◌, ◌%◌, ◌<◌, ◌≤◌, List, [], ◌∷◌, ◌++◌, length, get_or, Some, None, Option, sym, refl, ap, ◌∙◌, arith}
use Rattle.std.specs.Option.{option_map}
use Rattle.std.specs.List.{flat_map, AllByRecursion}
use Rattle.std.proofs.lemmas.List.{append_assoc}
use Rattle.std.proofs.lemmas.Bool.Decides.{nat_tests}
use Rattle.text.specs.Hex.{hex_digit, byte_of, in_front, pairs, hex_bytes, hex_character, two_digits, PrintedBytesReadBack}

-- bytes that are read already stand in front of those that are still to come
read_one_more : (bs : List ℕ) (b : ℕ) (o : Option (List ℕ)) → option_map (λ cs. (bs ++ (b ∷ [])) ++ cs) o ≡ option_map (λ cs. bs ++ cs) (in_front (Some b) o)
read_one_more bs b None = refl
read_one_more bs b (Some cs) = ap Some (append_assoc bs (b ∷ []) cs)

digit_reads_back : (d : ℕ) → d < 16 → hex_digit (hex_character d) ≡ Some d
digit_reads_back d h = grind (arith, nat_tests)

byte_reads_back : (b : ℕ) → b < 256 → byte_of (hex_digit (hex_character (b / 16))) (hex_digit (hex_character (b % 16))) ≡ Some b
byte_reads_back b h =
    rw (digit_reads_back (b / 16) (omega arith), digit_reads_back (b % 16) (omega arith)) (ap Some (omega arith))

pairs_read_back : (bs : List ℕ) → AllByRecursion (λ b. b < 256) bs → pairs (flat_map two_digits bs) ≡ Some bs
pairs_read_back [] h = refl
pairs_read_back (b ∷ bs) h = rw (byte_reads_back b h.0, pairs_read_back bs h.1)

pub reads_back : PrintedBytesReadBack
reads_back [] h = refl
reads_back (b ∷ bs) h = pairs_read_back (b ∷ bs) h

-- one more byte is read from the rest
pub one_more_pair : (rest pair tail bs new : List ℕ) (b : ℕ) (r : Option (List ℕ)) → rest ≡ pair ++ tail → length pair ≡ 2
    → Some b ≡ byte_of (hex_digit (get_or pair 0 0)) (hex_digit (get_or pair 1 0)) → new ≡ bs ++ (b ∷ [])
    → option_map (λ cs. bs ++ cs) (pairs rest) ≡ r → option_map (λ cs. new ++ cs) (pairs tail) ≡ r
one_more_pair rest [] tail bs new b r is two byte grown e = absurd (omega arith)
one_more_pair rest (high ∷ []) tail bs new b r is two byte grown e = absurd (omega arith)
one_more_pair rest (high ∷ (low ∷ [])) tail bs new b r is two byte grown e =
    ap (λ bytes. option_map (λ cs. bytes ++ cs) (pairs tail)) grown ∙ read_one_more bs b (pairs tail)
    ∙ ap (λ o. option_map (λ cs. bs ++ cs) (in_front o (pairs tail))) byte ∙ ap (λ text. option_map (λ cs. bs ++ cs) (pairs text)) (sym is) ∙ e
one_more_pair rest (high ∷ (low ∷ (c ∷ cs))) tail bs new b r is two byte grown e = absurd (omega arith)

-- a word of two bytes or more is read by pairs
pub long_word : (word : List ℕ) → 2 ≤ length word → pairs word ≡ hex_bytes word
long_word [] two = absurd (omega arith)
long_word (c ∷ []) two = absurd (omega arith)
long_word (c ∷ (d ∷ cs)) two = refl
