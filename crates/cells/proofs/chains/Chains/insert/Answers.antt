-- A free cell is linked in at the gap.
use Rattle.std.proofs.Common.{subst, sym, ◌≡◌, ◌+◌, ◌<◌, eqb, IfSome, vec_items, vec_len, refl, ap, ◌∙◌, arith}
use Rattle.std.specs.List.{refill}
use Rattle.std.proofs.lemmas.List.{take_at}
use Rattle.cells.specs.Links.{ends}
use Rattle.cells.specs.Relinks.{link, relinked}
use Rattle.cells.specs.Held.{linked, long, first_fits, both_fit, before_fits, read, changed, still_stands}
use Rattle.cells.proofs.Inserts.{After}
use Rattle.cells.proofs.InsertsFirst.{grown, grown_behind, grown_within, inserted_at}
use Rattle.cells.proofs.chains.Chains.insert.Goals as goal
use Rattle.cells.proofs.chains.Chains.insert.Goals.{After-relink-next, then-gap-set, else-gap-set}

pub index-requires : goal.index-requires
index-requires c = first_fits c.args.self.now 11 (omega arith) c.requires.room

one_more : (c : After-relink-next) → (let z = c.if-gap-set.set in record { first = z.first; last = z.last; count = z.count + 1 }) ≡ grown (ends c.args.self.now.ends c.args.gap.chain.number) (eqb c.args.gap.place (ends c.args.self.now.ends c.args.gap.chain.number).count) (ends c.args.self.now.ends 11).first
one_more c =
    let e = ends c.args.self.now.ends c.args.gap.chain.number in
    let f = (ends c.args.self.now.ends 11).first in
    elim c.if-gap-set.branch [
      | then-gap-set w ↦ grown_behind c.if-gap-set.set e c.args.gap.place e.count f w.if-gap-set.true w.set-is
      | else-gap-set w ↦ grown_within c.if-gap-set.set e c.args.gap.place e.count f w.if-gap-set.false w.set-is
    ]

pub overflow_add-set : goal.overflow_add-set
overflow_add-set c =
    let fits = both_fit c.args.self.now c.args.gap.chain.number c.args.gap.chain.small in
    elim c.if-gap-set.branch [
      | then-gap-set w ↦ omega (arith, fits, ap (λ e. e.count) w.set-is)
      | else-gap-set w ↦ omega (arith, fits, ap (λ e. e.count) w.set-is)
    ]

pub relink-next-requires : goal.relink-next-requires
relink-next-requires c = subst (λ n. IfSome c.args.gap.before (λ p. p < n)) (sym c.deref_mut.ensures.len) (before_fits c.args.self.now c.args.gap c.requires.stands)

pub index_mut-requires : goal.index_mut-requires
index_mut-requires c = first_fits c.args.self.now 11 (omega arith) c.requires.room

-- the memory, with the cells as the relinking left them
left : (c : After-relink-next) → refill (vec_len c.args.self.now.cells) (vec_items c.args.self.now.cells) c.relink-next.new.cells ≡ relinked (vec_items c.args.self.now.cells) c.args.gap.before (ends c.args.self.now.ends 11).first
left c =
    let f = (ends c.args.self.now.ends 11).first in
    take_at c.relink-next.new.cells _ (vec_len c.args.self.now.cells) (omega (arith, c.relink-next.auto.cells, c.deref_mut.ensures.len))
    ∙ c.relink-next.ensures.cells ∙ ap (λ t. relinked t c.args.gap.before f) c.deref_mut.ensures.value

done : (c : After-relink-next) → After (vec_items c.args.self.now.cells) c.args.self.now.ends c.args.gap.chain.number c.args.gap.place c.args.low c.args.high (refill (vec_len c.args.self.now.cells) (vec_items c.args.self.now.cells) c.relink-next.new.cells) c.relink-next.new.ends c.relink-next.result c.index.result.now.next
done c =
    let x = c.args.self.now in
    let r = c.relink-next in
    let z = c.if-gap-set.set in
    let was = r.ensures.was ∙ ap (λ t. link t (record { first = z.first; last = z.last; count = z.count + 1 }) c.args.gap.before) c.deref_mut.ensures.value in
    inserted_at (vec_items x.cells) x.ends c.args.gap.chain.number c.args.low c.args.high (linked x) x.twelve c.args.gap.chain.small c.requires.room c.args.gap.place c.requires.stands.inside c.args.gap.before c.requires.stands.behind
    _ (one_more c) _ (left c) _ r.ensures.ends _ was c.index.result.now (read x _ c.index.result.now (first_fits x 11 (omega arith) c.requires.room) c.index.ensures)

pub invariant_of-self : goal.invariant_of-self
invariant_of-self c =
    let x = c.args.self.now in
    let m = done (goal.at.invariant_of-self c).After-relink-next in
    record { lawful = x.lawful; twelve = m.twelve; running = m.running; ending = m.ending; parted = m.parted; whole = m.whole ∙ long x }

pub returns-clause-changed : goal.returns-clause-changed
returns-clause-changed c = changed c.args.self.now _ c.args.gap.chain.number _ _ _ (done (goal.at.returns-clause-changed c).After-relink-next)

pub returns-clause-stands : goal.returns-clause-stands
returns-clause-stands c = still_stands c.args.self.now _ c.args.gap _ _ _ _ (done (goal.at.returns-clause-stands c).After-relink-next) refl c.requires.stands
