-- The first row that does not end before the number is the answer if it is under the label, and else there is none.
use Rattle.std.proofs.Common.{◌≡◌, ◌<◌, ◌≤◌, length, take, get_or, subst, ap, arith, rules}
use Rattle.std.specs.List.{AllByRecursion}
use Rattle.rows.specs.Rows.{spot, ends_at}
use Rattle.rows.specs.Tables.{rows_of}
use Rattle.rows.specs.Searches.{in_order}
use Rattle.rows.proofs.Halves.{front}
use Rattle.rows.proofs.Nexts.{next_none, next_found, next_other}
use Rattle.rows.proofs.table.Table.next.Goals as goal
use Rattle.rows.proofs.table.Table.next.Goals.{After-get, In-Some}

before : (c : After-get) → AllByRecursion (λ r. ends_at r < spot c.args.label.value c.args.n) (take c.ending_before-found.result (rows_of c.args.self.now))
before c =
    let rs = rows_of c.args.self.now in
    subst (λ x. AllByRecursion (λ r. ends_at r < x) (take c.ending_before-found.result rs)) c.spot-at.ensures (front _ _ _ c.ending_before-found.ensures.inside c.ending_before-found.ensures.point.0)

inside : (c : In-Some) → c.ending_before-found.result < length (rows_of c.args.self.now)
inside c = search rules

is : (c : In-Some) → c.in-Some.row.now ≡ get_or (rows_of c.args.self.now) c.ending_before-found.result c.in-Some.row.now
is c = search rules

late : (c : In-Some) → spot c.args.label.value c.args.n ≤ ends_at c.in-Some.row.now
late c = omega (arith, c.spot-at.ensures, c.ending_before-found.ensures.point.1 c.ending_before-found.result c.in-Some.row.now (omega arith) (inside c), ap ends_at (is c))

pub returns-in-Some : goal.returns-in-Some
returns-in-Some c =
    let a = goal.at.returns-in-Some c in
    next_found _ (in_order c.args.self.now) _ _ _ (before a.After-get) c.in-Some.row.now (inside a.In-Some) (is a.In-Some) (omega arith) (late a.In-Some) c.if-row-label.true

pub returns-in_default : goal.returns-in_default
returns-in_default c =
    let a = goal.at.returns-in_default c in
    next_other _ (in_order c.args.self.now) _ _ _ (before a.After-get) c.in-Some.row.now (inside a.In-Some) (is a.In-Some) (omega arith) (late a.In-Some) c.if-row-label.false

pub returns-in_default-2 : goal.returns-in_default-2
returns-in_default-2 c =
    let past : length (rows_of c.args.self.now) ≤ c.ending_before-found.result = search rules in
    next_none _ (in_order c.args.self.now) _ _ _ (before (goal.at.returns-in_default-2 c).After-get) past
