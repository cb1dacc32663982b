-- How calls, answers and complaints are printed.
use Rattle.std.specs.Prelude.{◌≡◌, ℕ, List, [], ◌∷◌, ◌++◌, Some, None, Ok, Err, Result, if◌then◌else◌, codes, decimal}
use Rattle.store.specs.Prints.{range_text, refusal_text}
use Rattle.store.specs.Sets.{number}
use Rattle.mailcopy.specs.declared.answer.Answer.{Answer}
use Rattle.mailcopy.specs.declared.answer.Answer.TheVariants as answer
use Rattle.mailcopy.specs.declared.answer.Complaint.{Complaint}
use Rattle.mailcopy.specs.declared.answer.Complaint.TheVariants.{Refused, BadCall, NoCopy}
use Rattle.mailcopy.specs.declared.call.StoreCall.{StoreCall}
use Rattle.mailcopy.specs.declared.call.StoreCall.TheVariants.{Put, Take, Move, Clear, Query, Next, Total, Limit}
use Rattle.mailcopy.specs.declared.call.Call.{Call}
use Rattle.mailcopy.specs.declared.call.Call.TheVariants.{MakeRows, Store}

abbrev pub answer_text : Answer → List ℕ
answer_text answer.Done = codes "ok"
answer_text (answer.Test truth) = codes "ok " ++ (if truth then codes "true" else codes "false")
answer_text (answer.Next None) = codes "ok none"
answer_text (answer.Next (Some ends)) = codes "ok " ++ (decimal ends.0 ++ (codes " " ++ decimal ends.1))
answer_text (answer.Count n) = codes "ok " ++ decimal n

abbrev pub complaint_text : Complaint → List ℕ
complaint_text (Refused refusal) = codes "refused " ++ refusal_text refusal
complaint_text BadCall = codes "bad call"
complaint_text NoCopy = codes "no copy"

-- a call in normal form: its name, the numbers of its sets, and its numbers, with one space between two
abbrev pub store_call_text : StoreCall → List ℕ
store_call_text (Put set range) = codes "put " ++ (decimal (number set) ++ (codes " " ++ range_text range))
store_call_text (Take set range) = codes "take " ++ (decimal (number set) ++ (codes " " ++ range_text range))
store_call_text (Move from to) = codes "move " ++ (decimal (number from) ++ (codes " " ++ decimal (number to)))
store_call_text (Clear set) = codes "clear " ++ decimal (number set)
store_call_text (Query set id) = codes "query " ++ (decimal (number set) ++ (codes " " ++ decimal id))
store_call_text (Next set n) = codes "next " ++ (decimal (number set) ++ (codes " " ++ decimal n))
store_call_text Total = codes "total"
store_call_text Limit = codes "limit"

abbrev pub call_text : Call → List ℕ
call_text (MakeRows n) = codes "make rows " ++ decimal n
call_text (Store call) = store_call_text call

-- what comes of a call, the answer or the complaint
abbrev pub outcome_text : Result Answer Complaint → List ℕ
outcome_text (Ok answer) = answer_text answer
outcome_text (Err complaint) = complaint_text complaint

-- a line's call in normal form, what comes of it, and the line's end
abbrev pub line_text : Call → Result Answer Complaint → List ℕ
line_text call outcome = call_text call ++ (codes " => " ++ (outcome_text outcome ++ 10 ∷ []))

-- what stands behind the words of a line that is no call
abbrev pub bad_call_text : List ℕ
bad_call_text = codes " => " ++ (complaint_text BadCall ++ 10 ∷ [])

-- something, or nothing, stands behind what was printed
abbrev pub Adds : List ℕ → List ℕ → Type 0
Adds printed now = (more : List ℕ) × (now ≡ printed ++ more)
