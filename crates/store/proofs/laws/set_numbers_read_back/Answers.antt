-- The law that the contract of `set_numbers_read_back` states.
use Rattle.store.proofs.Models.{number_small, numbered_back, numbered_past}
use Rattle.store.proofs.laws.set_numbers_read_back.Goals as goal

pub returns : goal.returns
returns c = (λ set. (number_small set, numbered_back set), numbered_past)
