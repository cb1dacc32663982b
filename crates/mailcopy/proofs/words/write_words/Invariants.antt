-- So far words have been added.
use Rattle.mailcopy.specs.Prints.{Adds}
use Rattle.mailcopy.proofs.words.write_words.Given as goal

abbrev pub invariant-loop-word : goal.invariant-loop-word
invariant-loop-word l = Adds l.fn.out.items l.out.items
