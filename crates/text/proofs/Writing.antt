-- What is written of a number is what the library prints, and it reads back as that number.
use Rattle.std.proofs.Common.{◌≡◌, ℕ, ◌+◌, ◌^◌, ◌<◌, true, List, length, Some, sym, ap, ◌∙◌, rules}
use Rattle.std.proofs.lemmas.Bool.{lt-ltb}
use Rattle.std.proofs.lemmas.Str.Parse.{IsNumeralModel, numerals_by_weight}
use Rattle.std.proofs.lemmas.Fmt.{AppendsLastDigit, decimal_from_appends, length-decimal-le_succ, digits_decimal, digits_value-decimal, decimal_nonempty}
use Rattle.std.specs.Fmt as std
use Rattle.text.specs.Decimal.{all_digits, value, decimal, digits_within, digits, PrintedNumberReadsBack, DisplayedNumberReadsBack}

spells : AppendsLastDigit digits_within
spells = search rules

own : IsNumeralModel (λ ds. all_digits ds ≡ true) value
own = numerals_by_weight _ (search rules) value (search rules)

pub digits_are_the_library's : (n : ℕ) → n < 2 ^ 64 → digits n ≡ std.decimal n
digits_are_the_library's n h = decimal_from_appends digits_within spells (n + 1) n h (length-decimal-le_succ n h)

reads_at : (ds : List ℕ) (n : ℕ) → 0 < length ds → all_digits ds ≡ true → value ds ≡ n → n < 2 ^ 64 → decimal ds ≡ Some n
reads_at ds n some all is h = rw (lt-ltb 0 (length ds) some, all, is, lt-ltb n (2 ^ 64) h)

displayed_reads_back : (n : ℕ) → n < 2 ^ 64 → decimal (std.decimal n) ≡ Some n
displayed_reads_back n h = reads_at (std.decimal n) n (decimal_nonempty n h) (digits_decimal own n h) (digits_value-decimal own n h) h

pub reads_back : PrintedNumberReadsBack
reads_back n h = ap decimal (digits_are_the_library's n h) ∙ displayed_reads_back n h

pub displays_back : DisplayedNumberReadsBack
displays_back n h = (sym (digits_are_the_library's n h), displayed_reads_back n h)
