-- What a call on a store of some limit does to its sets, and what it answers.
use Rattle.std.specs.Prelude.{◌≡◌, ℕ, ◌<◌, ◌≤◌, Ok, Err, Result}
use Rattle.store.specs.Ranges.{has, next_range}
use Rattle.store.specs.Sets.{Model, total}
use Rattle.store.specs.Changes.{put_into, taken_from, moved, cleared}
use Rattle.store.specs.declared.refusal.StoreRefusal.{StoreRefusal}
use Rattle.store.specs.declared.refusal.StoreRefusal.TheVariants.{Full}
use Rattle.mailcopy.specs.declared.answer.Answer.{Answer}
use Rattle.mailcopy.specs.declared.answer.Answer.TheVariants.{Done, Test, Count}
use Rattle.mailcopy.specs.declared.answer.Answer.TheVariants as answer
use Rattle.mailcopy.specs.declared.call.StoreCall.{StoreCall}
use Rattle.mailcopy.specs.declared.call.StoreCall.TheVariants.{Put, Take, Move, Clear, Query, Next, Total, Limit}

-- the answer of a call, or the store's refusal
abbrev pub Performed : Type 0
Performed = Result Answer StoreRefusal

-- other sets are wanted: they are there where they fit the limit, and else the refusal as full leaves all as it was
pub record Wanted (limit : ℕ) (before wanted after : Model) (outcome : Performed) : Type 0 where
  pub fits : total wanted ≤ limit → (after ≡ wanted) × (outcome ≡ Ok Done)
  pub full : limit < total wanted → (after ≡ before) × (outcome ≡ Err Full)

abbrev pub Performs : ℕ → Model → StoreCall → Model → Performed → Type 0
Performs limit before (Put set range) after outcome = Wanted limit before (put_into before set range.low range.high) after outcome
Performs limit before (Take set range) after outcome = Wanted limit before (taken_from before set range.low range.high) after outcome
Performs limit before (Move from to) after outcome = (after ≡ moved before from to) × (outcome ≡ Ok Done)
Performs limit before (Clear set) after outcome = (after ≡ cleared before set) × (outcome ≡ Ok Done)
Performs limit before (Query set id) after outcome = (after ≡ before) × (outcome ≡ Ok (Test (has (before set) id)))
Performs limit before (Next set n) after outcome = (after ≡ before) × (outcome ≡ Ok (answer.Next (next_range (before set) n)))
Performs limit before Total after outcome = (after ≡ before) × (outcome ≡ Ok (Count (total before)))
Performs limit before Limit after outcome = (after ≡ before) × (outcome ≡ Ok (Count limit))
