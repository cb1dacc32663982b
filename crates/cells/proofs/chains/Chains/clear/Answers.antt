-- All cells from the first to the last.
use Rattle.std.proofs.Common.{◌≡◌, ◌+◌, ◌-◌, ◌++◌, get_or, take, drop, sym, ap, ◌∙◌, subst, arith}
use Rattle.std.proofs.lemmas.List.{drop_all}
use Rattle.cells.specs.Links.{ends}
use Rattle.cells.specs.Chains.{numbers_of, count_of, ranges_of, Follow, Changed}
use Rattle.cells.specs.Held.{ranges_many}
use Rattle.cells.proofs.Steps.{first_at, last_at, at_front}
use Rattle.cells.proofs.chains.Chains.clear.Goals as goal

pub remove-requires : goal.remove-requires
remove-requires c =
    let x = c.args.self.now in
    let k = c.args.chain.number in
    let small = c.args.chain.small in
    let z : 0 + count_of x k - 1 ≡ count_of x k - 1 = omega arith in
    subst (λ g. Follow x (record { gap = g; ends = ends x.ends k })) (sym c.front.ensures)
    (record { stands = (at_front x c.args.chain).stands; inside = omega arith; begins = λ p. first_at x k small p; ends_in = λ p. ap (λ n. get_or (numbers_of x k) n 0) z ∙ last_at x k small p })

pub returns : goal.returns
returns c =
    let x = c.args.self.now in
    let k = c.args.chain.number in
    let none = drop_all (0 + count_of x k) (ranges_of x k) (omega (arith, ranges_many x k (omega (arith, c.args.chain.small)))) in
    subst (Changed x c.remove.new.self k) none
    (subst (λ g. Changed x c.remove.new.self g.chain.number (take g.place (ranges_of x g.chain.number) ++ drop (g.place + count_of x k) (ranges_of x g.chain.number))) c.front.ensures c.remove.ensures.changed)
