-- The run goes, and the ranges that there are come in its place; refused before anything is changed.
use Rattle.std.proofs.Common.{arith}
use Rattle.cells.specs.Held.{both_fit}
use Rattle.cells.proofs.Replaces.{replaced}
use Rattle.cells.proofs.chains.Chains.replace.Goals as goal

pub overflow_add-free : goal.overflow_add-free
overflow_add-free c = omega (arith, both_fit c.args.self.now c.args.run.gap.chain.number c.args.run.gap.chain.small, c.requires.inside, c.free.ensures, c.args.self.now.lawful.1)

pub returns : goal.returns
returns c =
    let r = c.args.run in
    replaced c.args.self.now c.remove.new.self c.insert_any.new.self c.insert_any-2.new.self c.args.run.gap.chain.number r.gap.place r.ends.count c.args.lower c.args.upper c.args.run.gap.chain.small c.requires.inside
    c.remove.ensures.changed c.insert_any.ensures.changed c.insert_any-2.ensures.changed
