-- No cells at all, or those behind the gap, which are handed to the free chain.
use Rattle.std.proofs.Common.{subst, sym, ◌≡◌, ◌+◌, ◌-◌, ◌<◌, ◌++◌, take, drop, IfSome, vec_items, vec_len, refl, ap, ◌∙◌, arith, take-append-drop}
use Rattle.std.specs.List.{refill, length_refill}
use Rattle.std.proofs.lemmas.List.{get_or_read, take_at}
use Rattle.cells.specs.Links.{ends}
use Rattle.cells.specs.Relinks.{relinked}
use Rattle.cells.specs.Chains.{ranges_of}
use Rattle.cells.specs.Held.{linked, long, before_fits, end_fits, both_fit, read, changed, still_stands, unchanged}
use Rattle.cells.proofs.RemovesAfter.{After, longer}
use Rattle.cells.proofs.RemovesFirst.{cut, cut_end, cut_within, longer_from_none, longer_from_some, removed_at}
use Rattle.cells.proofs.chains.Chains.remove.Goals as goal
use Rattle.cells.proofs.chains.Chains.remove.Goals.{Joined-free-eq0, then-set-ends, else-set-ends, then-free-eq0, else-free-eq0}

pub returns-then-ends-eq0-clause-changed : goal.returns-then-ends-eq0-clause-changed
returns-then-ends-eq0-clause-changed c =
    let rs = ranges_of c.args.self.now c.args.run.gap.chain.number in
    let r = c.args.run in
    let z : r.gap.place + r.ends.count ≡ r.gap.place = omega (arith, c.if-ends-eq0.true) in
    unchanged c.args.self.now c.args.run.gap.chain.number _ (ap (λ n. take r.gap.place rs ++ drop n rs) z ∙ take-append-drop r.gap.place rs)

pub index-requires : goal.index-requires
index-requires c = end_fits c.args.self.now c.args.run (omega (arith, c.if-ends-eq0.false)) c.requires

pub relink-requires : goal.relink-requires
relink-requires c = subst (λ n. IfSome c.args.run.gap.before (λ p. p < n)) (sym c.deref_mut.ensures.len) (before_fits c.args.self.now c.args.run.gap c.requires.stands)

pub index_mut-requires : goal.index_mut-requires
index_mut-requires c = end_fits c.args.self.now c.args.run (omega (arith, c.if-ends-eq0.false)) c.requires

pub overflow_add-free : goal.overflow_add-free
overflow_add-free c =
    let fits = both_fit c.args.self.now c.args.run.gap.chain.number c.args.run.gap.chain.small in
    elim c.if-free-eq0.branch [
      | then-free-eq0 w ↦ omega (arith, fits, c.requires.inside, ap (λ e. e.count) w.free-is)
      | else-free-eq0 w ↦ omega (arith, fits, c.requires.inside, ap (λ e. e.count) w.free-is)
    ]

fewer : (c : Joined-free-eq0) → (let z = c.if-set-ends.set in record { first = z.first; last = z.last; count = z.count - c.args.run.ends.count }) ≡ cut (ends c.args.self.now.ends c.args.run.gap.chain.number) c.args.run.ends.count c.args.run.ends.last c.args.run.gap.before
fewer c =
    let e = ends c.args.self.now.ends c.args.run.gap.chain.number in
    let r = c.args.run in
    elim c.if-set-ends.branch [
      | then-set-ends w ↦ cut_end c.if-set-ends.set e r.ends.count r.ends.last r.gap.before w.unwrap_or.result w.if-set-ends.true w.unwrap_or.ensures w.set-is
      | else-set-ends w ↦ cut_within c.if-set-ends.set e r.ends.count r.ends.last r.gap.before w.if-set-ends.false w.set-is
    ]

more : (c : Joined-free-eq0) → (let z = c.if-free-eq0.free in record { first = z.first; last = z.last; count = z.count + c.args.run.ends.count }) ≡ longer (ends c.args.self.now.ends 11) c.args.run.ends.count c.args.run.ends.last c.args.run.ends.first
more c =
    let e = ends c.args.self.now.ends 11 in
    let r = c.args.run in
    elim c.if-free-eq0.branch [
      | then-free-eq0 w ↦ longer_from_none c.if-free-eq0.free e r.ends.count r.ends.last r.ends.first w.if-free-eq0.true w.free-is
      | else-free-eq0 w ↦ longer_from_some c.if-free-eq0.free e r.ends.count r.ends.last r.ends.first w.if-free-eq0.false w.free-is
    ]

-- the memory, with the cells as the relinking left them
left : (c : Joined-free-eq0) → refill (vec_len c.args.self.now.cells) (vec_items c.args.self.now.cells) c.relink.new.cells ≡ relinked (vec_items c.args.self.now.cells) c.args.run.gap.before c.index.result.now.next
left c =
    take_at c.relink.new.cells _ (vec_len c.args.self.now.cells) (omega (arith, c.relink.auto.cells, c.deref_mut.ensures.len))
    ∙ c.relink.ensures.cells ∙ ap (λ t. relinked t c.args.run.gap.before c.index.result.now.next) c.deref_mut.ensures.value

done : (c : Joined-free-eq0) → (let z = c.if-free-eq0.free in After (vec_items c.args.self.now.cells) c.args.self.now.ends c.args.run.gap.chain.number c.args.run.gap.place c.args.run.ends.count c.args.run.ends.last (refill (vec_len c.args.self.now.cells) (vec_items c.args.self.now.cells) c.relink.new.cells) c.relink.new.ends c.index_mut.result.now (record { first = z.first; last = z.last; count = z.count + c.args.run.ends.count }))
done c =
    let x = c.args.self.now in
    let k = c.args.run.gap.chain.number in
    let r = c.args.run in
    let f = c.requires in
    let some : 0 < r.ends.count = omega (arith, c.if-ends-eq0.false) in
    let fits = end_fits x r some f in
    let long_now = length_refill (vec_len x.cells) (vec_items x.cells) c.relink.new.cells (sym (long x)) in
    removed_at (vec_items x.cells) x.ends k (linked x) x.twelve c.args.run.gap.chain.small r.gap.place r.ends.count r.ends.last r.ends.first some f.inside (f.ends_in some) (f.begins some) r.gap.before c.requires.stands.behind
    _ (fewer c) _ (ap (λ z. z.next) (read x _ c.index.result.now fits c.index.ensures)) _ (left c) _ c.relink.ensures.ends
    c.index_mut.result.now (sym (get_or_read _ r.ends.last c.index_mut.result.now (omega (arith, fits, long_now)) c.index_mut.ensures.value _)) _ (more c)

pub invariant_of-self : goal.invariant_of-self
invariant_of-self c =
    let x = c.args.self.now in
    let m = done (goal.at.invariant_of-self c).Joined-free-eq0 in
    record { lawful = x.lawful; twelve = m.twelve; running = m.running; ending = m.ending; parted = m.parted; whole = m.whole ∙ long x }

pub returns-clause-changed : goal.returns-clause-changed
returns-clause-changed c = changed c.args.self.now _ c.args.run.gap.chain.number _ _ _ (done (goal.at.returns-clause-changed c).Joined-free-eq0)

pub returns-clause-stands : goal.returns-clause-stands
returns-clause-stands c = still_stands c.args.self.now _ c.args.run.gap _ _ _ _ (done (goal.at.returns-clause-stands c).Joined-free-eq0) refl c.requires.stands
