-- What a script has made, and what each of its calls makes of that and answers.
use Rattle.std.specs.Prelude.{◌≡◌, ℕ, ◌⊎◌, List, ◌++◌, Some, None, Ok, Err, Option, Result, OnOk}
use Rattle.std.specs.Option.{option_map}
use Rattle.store.specs.Limits.{MayBeLimit}
use Rattle.store.specs.Sets.{Model, nothing}
use Rattle.store.specs.Refusals.{listed, wrong_row_count}
use Rattle.rows.specs.Meaning.{meaning, limit_of}
use Rattle.mailcopy.specs.declared.answer.Answer.{Answer}
use Rattle.mailcopy.specs.declared.answer.Answer.TheVariants.{Done}
use Rattle.mailcopy.specs.declared.answer.Complaint.{Complaint}
use Rattle.mailcopy.specs.declared.answer.Complaint.TheVariants.{Refused, NoCopy}
use Rattle.mailcopy.specs.declared.answer.Failure.{Failure}
use Rattle.mailcopy.specs.declared.answer.Failure.TheVariants as failure
use Rattle.mailcopy.specs.declared.call.Call.{Call}
use Rattle.mailcopy.specs.declared.call.Call.TheVariants.{MakeRows, Store}
use Rattle.mailcopy.specs.declared.call.StoreCall.{StoreCall}
use Rattle.mailcopy.specs.declared.session.Session.{Session}
use Rattle.mailcopy.specs.Performs.{Performed, Performs}
use Rattle.mailcopy.specs.Prints.{line_text, bad_call_text}

-- the limit and the sets of the store that is in use, if one has been made
abbrev pub Made : Type 0
Made = Option (ℕ × Model)

abbrev pub made_so_far : Session → Made
made_so_far session = option_map (λ store. (limit_of store, meaning store)) session.store

-- the answer to a call, or the complaint in place of one
abbrev pub Outcome : Type 0
Outcome = Result Answer Complaint

-- what comes of a call on a store, where a refusal of the store becomes a complaint
abbrev pub told : Performed → Outcome
told (Ok answer) = Ok answer
told (Err refusal) = Err (Refused (listed refusal))

-- a store of n rows is wanted: it takes the place of what was there, and else refusal 1 leaves that
pub record Makes (n : ℕ) (before after : Made) (outcome : Outcome) : Type 0 where
  pub made : MayBeLimit n → (after ≡ Some (n, nothing)) × (outcome ≡ Ok Done)
  pub refused : (MayBeLimit n → ⊥) → (after ≡ before) × (outcome ≡ Err (Refused wrong_row_count))

-- a call on the store in use, if there is one
abbrev pub Asks : Made → StoreCall → Made → Outcome → Type 0
Asks None call after outcome = (after ≡ None) × (outcome ≡ Err NoCopy)
Asks (Some store) call after outcome = (sets : Model) × (done : Performed) × (after ≡ Some (store.0, sets)) × Performs store.0 store.1 call sets done × (outcome ≡ told done)

abbrev pub Steps : Made → Call → Made → Outcome → Type 0
Steps before (MakeRows n) after outcome = Makes n before after outcome
Steps before (Store call) after outcome = Asks before call after outcome

-- memory was wanting: only for the rows of a store that may be, and then all is as it was
abbrev pub Wanting : Made → Call → Made → Type 0
Wanting before (MakeRows n) after = MayBeLimit n × (after ≡ before)
Wanting before (Store call) after = ⊥

-- what comes of a call: a step with its answer, or with a complaint; or memory was wanting
abbrev pub Comes : Made → Call → Made → Result Answer Failure → Type 0
Comes before call after (Ok answer) = Steps before call after (Ok answer)
Comes before call after (Err (failure.Complaint complaint)) = Steps before call after (Err complaint)
Comes before call after (Err (failure.Memory _)) = Wanting before call after

-- what is printed of a line that makes no step: nothing, or some words and that they are no call
abbrev pub NoStep : List ℕ → List ℕ → Type 0
NoStep printed now = (now ≡ printed) ⊎ ((words : List ℕ) × (now ≡ printed ++ (words ++ bad_call_text)))

-- a line makes one step by a call, and prints behind what was printed the call with what comes of it; or it makes none
abbrev pub Line : {X Y : Type 0} → Made → Made → List ℕ → List ℕ → Result X Y → Type 0
Line before after printed now result =
    ((after ≡ before) × OnOk result (NoStep printed now))
    ⊎ ((call : Call) × (outcome : Outcome) × Steps before call after outcome × OnOk result (now ≡ printed ++ line_text call outcome))
