-- A word of two bytes or more is read by pairs.
use Rattle.std.proofs.Common.{rules}
use Rattle.text.proofs.Pairs.{long_word}
use Rattle.text.proofs.hex.read_hex.Goals as goal

pub returns-in_default : goal.returns-in_default
returns-in_default c = search (rules, long_word)
