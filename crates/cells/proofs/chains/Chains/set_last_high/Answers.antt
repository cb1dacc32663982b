-- The last cell gets another high end.
use Rattle.std.proofs.Common.{◌-◌, vec_items, ◌∙◌, arith}
use Rattle.cells.specs.Links.{ends}
use Rattle.cells.specs.Chains.{count_of}
use Rattle.cells.specs.Held.{linked, long, last_fits, read}
use Rattle.cells.proofs.Steps.{last_at, last_written}
use Rattle.cells.proofs.Writes.{After, written}
use Rattle.cells.proofs.chains.Chains.set_last_high.Goals as goal
use Rattle.cells.proofs.chains.Chains.set_last_high.Goals.{After-index_mut}

pub index_mut-requires : goal.index_mut-requires
index_mut-requires c = last_fits c.args.self.now c.args.chain.number (omega (arith, c.args.chain.small)) c.requires

done : (c : After-index_mut) → After (vec_items c.args.self.now.cells) c.args.self.now.ends c.args.chain.number (count_of c.args.self.now c.args.chain.number - 1) (ends c.args.self.now.ends c.args.chain.number).last c.index_mut.result.now.low c.args.high c.index_mut.result.now
done c =
    let x = c.args.self.now in
    let k = c.args.chain.number in
    written (vec_items x.cells) x.ends k (count_of x k - 1) (ends x.ends k).last c.index_mut.result.now.low c.args.high (linked x) x.twelve c.args.chain.small (omega (arith, c.requires)) (last_at x k c.args.chain.small c.requires)
    c.index_mut.result.now (read x _ c.index_mut.result.now (last_fits x k (omega (arith, c.args.chain.small)) c.requires) c.index_mut.ensures.value)

pub invariant_of-self : goal.invariant_of-self
invariant_of-self c =
    let x = c.args.self.now in
    let m = done (goal.at.invariant_of-self c).After-index_mut in
    record { lawful = x.lawful; twelve = m.twelve; running = m.running; ending = m.ending; parted = m.parted; whole = m.whole ∙ long x }

pub returns : goal.returns
returns c =
    let x = c.args.self.now in
    let k = c.args.chain.number in
    let cell = read x _ c.index_mut.result.now (last_fits x k (omega (arith, c.args.chain.small)) c.requires) c.index_mut.ensures.value in
    last_written x _ k c.args.chain.small c.requires _ c.index_mut.result.now cell c.args.high _ (done (goal.at.returns c).After-index_mut)
