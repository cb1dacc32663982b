-- Each next begins behind the range before.
use Rattle.std.proofs.Common.{◌-◌, ◌^◌}
use Rattle.storebench.proofs.perform.Digest.add_ranges.Given as goal

abbrev pub decreases-loop-low : goal.decreases-loop-low
decreases-loop-low g l = 2 ^ 64 - l.n
