-- The laws that a printed number reads back as itself, and so does one that is displayed.
use Rattle.text.proofs.Writing.{reads_back, displays_back}
use Rattle.text.proofs.decimal.printed_number_reads_back.Goals as goal

pub returns-clause-written : goal.returns-clause-written
returns-clause-written c = reads_back

pub returns-clause-displayed : goal.returns-clause-displayed
returns-clause-displayed c = displays_back
