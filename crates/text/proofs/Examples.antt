-- What the definitions say of a few words, for the reader; the texts stand as the codes of their characters.
use Rattle.std.proofs.Common.{◌≡◌, [], ◌∷◌, Some, None, codes, refl}
use Rattle.text.specs.Decimal.{decimal, digits}
use Rattle.text.specs.Hex.{hex_bytes, hex_text}

leading_zeros_are_read : decimal (codes "007") ≡ Some 7
leading_zeros_are_read = refl

the_largest_number_is_read : decimal (codes "18446744073709551615") ≡ Some 18446744073709551615
the_largest_number_is_read = refl

one_more_is_refused : decimal (codes "18446744073709551616") ≡ None
one_more_is_refused = refl

a_sign_is_refused : decimal (codes "+7") ≡ None
a_sign_is_refused = refl

the_empty_word_is_no_number : decimal [] ≡ None
the_empty_word_is_no_number = refl

a_number_is_written : digits 1024 ≡ codes "1024"
a_number_is_written = refl

zero_is_written : digits 0 ≡ codes "0"
zero_is_written = refl

both_cases_are_read : hex_bytes (codes "0aFf") ≡ Some (10 ∷ (255 ∷ []))
both_cases_are_read = refl

a_dash_is_no_bytes : hex_bytes (codes "-") ≡ Some []
a_dash_is_no_bytes = refl

an_odd_word_is_refused : hex_bytes (codes "0af") ≡ None
an_odd_word_is_refused = refl

the_empty_word_is_no_bytes : hex_bytes [] ≡ None
the_empty_word_is_no_bytes = refl

bytes_are_written_small : hex_text (10 ∷ (255 ∷ [])) ≡ codes "0aff"
bytes_are_written_small = refl
