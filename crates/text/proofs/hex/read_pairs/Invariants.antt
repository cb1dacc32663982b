-- What the loop of `read_pairs` keeps true.
use Rattle.std.proofs.Common.{◌≡◌, ◌++◌, vec_items}
use Rattle.std.specs.Option.{option_map}
use Rattle.std.specs.Slice.Iter.{chunks_rest, chunks_size}
use Rattle.text.specs.Hex.{pairs}
use Rattle.text.proofs.hex.read_pairs.Given as goal

-- the bytes so far, and then those of the rest, are what the word stands for
abbrev pub invariant-loop-pair : goal.invariant-loop-pair
invariant-loop-pair l = (chunks_size l.pair-iterator ≡ 2) × (option_map (λ more. vec_items l.bytes ++ more) (pairs (chunks_rest l.pair-iterator)) ≡ pairs l.word)
