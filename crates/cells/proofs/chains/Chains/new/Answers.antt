-- All cells are free.
use Rattle.std.proofs.Common.{sym, ◌≡◌, ℕ, ◌+◌, ◌<◌, List, length, vec_items, vec_len, refl, ap, ◌∙◌, arith}
use Rattle.std.specs.List.{refill, length_refill}
use Rattle.std.proofs.lemmas.List.{take_at}
use Rattle.cells.specs.declared.cell.Cell.{Cell}
use Rattle.cells.specs.Links.{cell, Blank}
use Rattle.cells.proofs.Fresh.{fresh_running, fresh_ending, fresh_parted, fresh_sum}
use Rattle.cells.proofs.chains.Chains.new.Goals as goal
use Rattle.cells.proofs.chains.Chains.new.Goals.{After-link_all}

-- the memory, with the cells as they have been linked
left : After-link_all → List Cell
left c = refill (vec_len c.args.memory.places) (vec_items c.args.memory.places) c.link_all.new.cells

whole : (c : After-link_all) → length (left c) ≡ c.len-n.result
unfolding left
whole c = sym (length_refill (vec_len c.args.memory.places) (vec_items c.args.memory.places) c.link_all.new.cells c.args.memory.places.ok.0) ∙ sym c.len-n.ensures

some : (c : After-link_all) → 0 < c.len-n.result
some c = omega (arith, c.len-n.ensures, c.args.memory.lawful.0)

blank : (c : After-link_all) → Blank (left c)
unfolding left
blank c k h =
    ap (λ t. cell t k) (take_at c.link_all.new.cells _ (vec_len c.args.memory.places) (omega (arith, c.link_all.auto.cells, c.deref_mut.ensures.len)))
    ∙ c.link_all.ensures k (omega (arith, whole c, c.len-n.ensures, c.deref_mut.ensures.len, c.link_all.auto.cells))

next : (c : After-link_all) (k : ℕ) → k < c.len-n.result → (cell (left c) k).next ≡ k + 1
next c k h = ap (λ x. x.next) (blank c k (omega (arith, whole c)))

pub invariant_of-result : goal.invariant_of-result
unfolding left
invariant_of-result c =
    let d = (goal.at.invariant_of-result c).After-link_all in
    let n = c.len-n.result in
    record {
      lawful = c.args.memory.lawful;
      twelve = refl;
      running = fresh_running (left d) n (whole d) (some d) (next d);
      ending = fresh_ending (left d) n (whole d) (some d) (next d);
      parted = fresh_parted (left d) n (whole d) (some d) (next d);
      whole = fresh_sum 11 n ∙ c.len-n.ensures;
    }

pub returns-clause-blank : goal.returns-clause-blank
unfolding left
returns-clause-blank c = blank (goal.at.returns-clause-blank c).After-link_all
