-- The two chains change places.
use Rattle.std.proofs.Common.{vec_items, ◌∙◌}
use Rattle.cells.specs.Held.{linked, long}
use Rattle.cells.proofs.Writes.{Swapped, swapped}
use Rattle.cells.proofs.chains.Chains.exchange.Goals as goal
use Rattle.cells.proofs.chains.Chains.exchange.Goals.{After-swap}

done : (c : After-swap) → Swapped (vec_items c.args.self.now.cells) c.args.self.now.ends c.swap.new.self c.args.one.number c.args.two.number
done c = let x = c.args.self.now in swapped (vec_items x.cells) x.ends c.args.one.number c.args.two.number (linked x) x.twelve c.args.one.small c.args.two.small c.requires c.swap.new.self c.swap.ensures.after

pub invariant_of-self : goal.invariant_of-self
invariant_of-self c =
    let x = c.args.self.now in
    let m = done (goal.at.invariant_of-self c).After-swap in
    record { lawful = x.lawful; twelve = m.twelve; running = m.running; ending = m.ending; parted = m.parted; whole = m.whole ∙ long x }
