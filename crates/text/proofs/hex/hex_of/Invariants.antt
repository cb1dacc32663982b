-- What the loop of `hex_of` keeps true.
use Rattle.std.proofs.Common.{◌≡◌, take, string_bytes}
use Rattle.std.specs.List.{flat_map}
use Rattle.text.specs.Hex.{two_digits}
use Rattle.text.proofs.hex.hex_of.Given as goal

-- the text so far has the digits of the bytes so far
abbrev pub invariant-loop-byte : goal.invariant-loop-byte
invariant-loop-byte l = string_bytes l.text ≡ flat_map two_digits (take l.byte-index l.bytes)
