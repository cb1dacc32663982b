-- `write_decimal` writes the digits of the number, since the library prints those.
use Rattle.std.proofs.Common.{rules}
use Rattle.text.proofs.Writing.{digits_are_the_library's}
use Rattle.text.proofs.decimal.write_decimal.Goals as goal

pub returns : goal.returns
returns c = search (rules, digits_are_the_library's)
