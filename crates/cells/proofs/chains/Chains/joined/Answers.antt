-- The first and the last cell of a run are in the memory.
use Rattle.std.proofs.Common.{min, max, sym, ap, ◌∙◌, arith}
use Rattle.cells.specs.Links.{cell}
use Rattle.cells.specs.Held.{read}
use Rattle.cells.proofs.Puts.{first_cell, last_cell}
use Rattle.cells.proofs.chains.Chains.joined.Goals as goal

pub index-first-requires : goal.index-first-requires
index-first-requires c = first_cell c.args.self.now c.args.run c.requires (omega (arith, c.if-run-eq0.false))

pub index-last-requires : goal.index-last-requires
index-last-requires c = last_cell c.args.self.now c.args.run c.requires (omega (arith, c.if-run-eq0.false))

pub returns-clause-whole : goal.returns-clause-whole
returns-clause-whole c p =
    let x = c.args.self.now in
    let r = c.args.range in
    let e = c.args.run.ends in
    c.joined_with.ensures
    ∙ ap (λ z. (min r.low z.low, max r.high c.index-last.result.now.high)) (sym (read x e.first c.index-first.result.now (first_cell x c.args.run c.requires p) c.index-first.ensures))
    ∙ ap (λ z. (min r.low (cell x.cells.items e.first).low, max r.high z.high)) (sym (read x e.last c.index-last.result.now (last_cell x c.args.run c.requires p) c.index-last.ensures))
