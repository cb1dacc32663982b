-- The law that printed bytes read back as themselves.
use Rattle.text.proofs.Pairs.{reads_back}
use Rattle.text.proofs.hex.printed_bytes_read_back.Goals as goal

pub returns : goal.returns
returns c = reads_back
