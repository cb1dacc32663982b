-- A step passes one cell more.
use Rattle.std.proofs.Common.{◌≡◌, ◌+◌, ◌<◌, Some, true, false, refl, sym, ap, ◌∙◌, subst, arith}
use Rattle.cells.specs.Chains.{count_of, cell_at, GoesOn}
use Rattle.cells.proofs.Steps.{at_fits, step, cell_is}
use Rattle.cells.proofs.Walks.{one_more}
use Rattle.cells.proofs.chains.Chains.walk_while.Goals as goal
use Rattle.cells.proofs.chains.Chains.walk_while.Goals.{else-loop-place-test, then-loop-place-test+then-not-passes}

pub index-cell-requires : goal.index-cell-requires
index-cell-requires g c =
    let s = c.loop-place.spot in
    let w = c.loop-place.invariant in
    at_fits c.args.self.now s w.on (subst (λ h. s.gap.place < count_of c.args.self.now h.number) (sym w.chain) (omega (arith, w.here, c.loop-place-test.true)))

pub loop-place-preserved : goal.loop-place-preserved
loop-place-preserved g c =
    let x = c.args.self.now in
    let from = c.args.from.gap in
    let i = c.loop-place.place in
    let s = c.loop-place.spot in
    let cell = c.index-cell.result.now in
    let w = c.loop-place.invariant in
    let l : s.gap.place < count_of x s.gap.chain.number = subst (λ h. s.gap.place < count_of x h.number) (sym w.chain) (omega (arith, w.here, c.loop-place-test.true)) in
    let is : cell_at x from.chain.number i ≡ cell = ap (cell_at x from.chain.number) (sym w.here) ∙ ap (λ h. cell_at x h.number s.gap.place) (sym w.chain) ∙ cell_is x s w.on l cell c.index-cell.ensures in
    record {
      chain = refl;
      here = refl;
      on = subst (λ h. GoesOn x (record { gap = record { chain = h; place = i + 1; before = Some s.at }; at = cell.next })) w.chain
          (subst (λ n. GoesOn x (record { gap = record { chain = s.gap.chain; place = n + 1; before = Some s.at }; at = cell.next })) w.here (step x s w.on l cell c.index-cell.ensures));
      passed = one_more (λ z. goal.F-post g c.args.passes z true) x from.chain.number from.place i (λ j a b. w.passed j a (omega arith))
          (subst (λ z. goal.F-post g c.args.passes z true) (sym is) (subst (goal.F-post g c.args.passes cell) c.if-not-passes.false c.passes.ensures));
    }

pub returns-clause-stopped : goal.returns-clause-stopped
returns-clause-stopped g c l =
    let x = c.args.self.now in
    let s = c.loop-place.spot in
    let v = c.loop-place.invariant in
    elim c.loop-place-test.branch [
      | else-loop-place-test w ↦ absurd (omega (arith, v.here, w.loop-place-test.false))
      | then-loop-place-test+then-not-passes w ↦
          let is = ap (λ h. cell_at x h.number s.gap.place) (sym v.chain) ∙ cell_is x s v.on (subst (λ h. s.gap.place < count_of x h.number) (sym v.chain) l) w.index-cell.result.now w.index-cell.ensures in
          subst (λ z. goal.F-post g c.args.passes z false) (sym is) (subst (goal.F-post g c.args.passes w.index-cell.result.now) w.if-not-passes.true w.passes.ensures)
    ]
