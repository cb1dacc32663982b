-- The ranges of a chain with a range put into them, and taken out.
use Rattle.std.proofs.Common.{◌≡◌, ℕ, ◌+◌, ◌-◌, ◌<◌, ◌≤◌, min, max, Bool, true, false, cond, Some, None, ltb, List, [], ◌∷◌, ◌++◌, length, get_or, take, drop, vec_items, vec_len, Result, sym, refl, ap, ◌∙◌, subst, arith}
use Rattle.store.specs.Ids.{Lawful}
use Rattle.store.specs.Ranges.{Span, Canonical, apart, with_range, without_range}
use Rattle.store.specs.declared.refusal.StoreRefusal.{StoreRefusal}
use Rattle.cells.specs.declared.cell.Cell.{Cell}
use Rattle.cells.specs.declared.chains.Chain.{Chain}
use Rattle.cells.specs.declared.chains.Chains.{Chains}
use Rattle.cells.specs.declared.chains.Run.{Run}
use Rattle.cells.specs.Links.{cell, ends}
use Rattle.cells.specs.Chains.{count_of, ranges_of, Follow, Changed, ChangedIfItFits}
use Rattle.cells.specs.Places.{at_place, one_or_none, EndingBelow, BeginningWithin}
use Rattle.cells.specs.Held.{ranges_many, place_fits, end_fits, last_fits, read, unchanged}
use Rattle.cells.proofs.Steps.{last_at, range_at}
use Rattle.cells.proofs.Joins.{put_at, grow_last}
use Rattle.cells.proofs.Cuts.{take_at, take_nothing}

-- a range that there is on a condition, as a list
pub as_list : (b : Bool) (r : Span) → one_or_none (cond b (Some r) None) ≡ cond b (r ∷ []) []
as_list true r = refl
as_list false r = refl

-- the last range grown
module _ (x y : Chains) (k : ℕ) (h : k < 11) (f : Canonical (ranges_of x k)) (pos : 0 < count_of x k) (c : Cell) (r : c ≡ get_or (vec_items x.cells) (ends x.ends k).last c) (lo hi lo' top : ℕ) (law : Lawful lo hi) (below : (id : ℕ) → ltb id lo' ≡ apart id lo) where
  pub grown : c.low ≤ lo → lo' ≤ c.high → top ≡ max c.high hi → Changed x y k (take (count_of x k - 1) (ranges_of x k) ++ ((at_place (ranges_of x k) (count_of x k - 1)).0, top) ∷ []) → Changed x y k (with_range lo hi (ranges_of x k))
  grown a b t made =
      let rs = ranges_of x k in
      let many = ranges_many x k (omega arith) in
      let is = range_at x k h (count_of x k - 1) (ends x.ends k).last c (omega arith) (last_at x k h pos) (read x _ c (last_fits x k (omega arith) pos) r) in
      let at : at_place rs (length rs - 1) ≡ (c.low, c.high) = ap (λ n. at_place rs (n - 1)) many ∙ is in
      let new = grow_last lo hi lo' rs f law below (omega (arith, many)) (subst (λ s. s.0 ≤ lo) (sym at) a) (subst (λ s. lo' ≤ s.1) (sym at) b) in
      let ends_at : top ≡ max (at_place rs (length rs - 1)).1 hi = t ∙ ap (λ s. max s.1 hi) (sym at) in
      subst (Changed x y k) (sym (new ∙ ap (λ z. take (length rs - 1) rs ++ ((at_place rs (length rs - 1)).0, z) ∷ []) (sym ends_at) ∙ ap (λ n. take (n - 1) rs ++ ((at_place rs (n - 1)).0, top) ∷ []) many)) made

-- the cells at the two ends of a run
pub first_cell : (x : Chains) (run : Run) → Follow x run → 0 < run.ends.count → run.ends.first < vec_len x.cells
first_cell x run follow p = place_fits x run.gap.chain.number (omega (arith, run.gap.chain.small)) run.gap.place run.ends.first (omega (arith, follow.inside)) (follow.begins p)

pub last_cell : (x : Chains) (run : Run) → Follow x run → 0 < run.ends.count → run.ends.last < vec_len x.cells
last_cell x run follow p = end_fits x run p follow

-- the run of ranges of a chain that are met
module _ (x : Chains) (run : Run) (follow : Follow x run) (chain : Chain) (whose : run.gap.chain ≡ chain) where
  abbrev k : ℕ
  k = chain.number

  abbrev place : ℕ
  place = run.gap.place

  abbrev number : ℕ
  number = run.ends.count

  first_range : 0 < number → (at_place (ranges_of x k) place).0 ≡ (cell (vec_items x.cells) run.ends.first).low
  first_range p = ap (λ c. (at_place (ranges_of x c.number) place).0) (sym whose) ∙ ap (λ s. s.0) (range_at x _ run.gap.chain.small place run.ends.first _ (omega (arith, follow.inside)) (follow.begins p) refl)

  last_range : 0 < number → (at_place (ranges_of x k) (place + number - 1)).1 ≡ (cell (vec_items x.cells) run.ends.last).high
  last_range p =
      ap (λ c. (at_place (ranges_of x c.number) (place + number - 1)).1) (sym whose)
      ∙ ap (λ s. s.1) (range_at x _ run.gap.chain.small (place + number - 1) run.ends.last _ (omega (arith, follow.inside)) (follow.ends_in p) refl)

  -- what a change is for the run's chain, it is for the chain
  its : (y : Chains) (r : Result (Unit {0}) StoreRefusal) (wanted : List Span → List Span) → ChangedIfItFits x y run.gap.chain.number (wanted (ranges_of x run.gap.chain.number)) r → ChangedIfItFits x y k (wanted (ranges_of x k)) r
  its y r wanted made = subst (λ c. ChangedIfItFits x y c.number (wanted (ranges_of x c.number)) r) whose made

  module _ (y : Chains) (f : Canonical (ranges_of x k)) (lo hi : ℕ) (law : Lawful lo hi) (r : Result (Unit {0}) StoreRefusal) where
    pub put_changes : (lo' hi' : ℕ) (new : Span) → ((id : ℕ) → ltb id lo' ≡ apart id lo) → ((id : ℕ) → ltb hi' id ≡ apart hi id) → EndingBelow (ranges_of x k) lo' place → BeginningWithin (ranges_of x k) hi' place number
        → (number ≡ 0 → new ≡ (lo, hi)) → (0 < number → new ≡ (min lo (cell (vec_items x.cells) run.ends.first).low, max hi (cell (vec_items x.cells) run.ends.last).high))
        → (let rs = ranges_of x run.gap.chain.number in ChangedIfItFits x y run.gap.chain.number (take place rs ++ new ∷ drop (place + number) rs) r) → ChangedIfItFits x y k (with_range lo hi (ranges_of x k)) r
    put_changes lo' hi' new a b ending beginning alone whole made =
        subst (λ l. ChangedIfItFits x y k l r)
        (sym (put_at lo hi lo' hi' (ranges_of x k) place number new f law a b ending beginning alone
        (λ p. whole p ∙ (λ i. (min lo (sym (first_range p) i), max hi (sym (last_range p) i))))))
        (its y r (λ rs. take place rs ++ new ∷ drop (place + number) rs) made)

    pub take_changes : (lower upper : List Span) → 0 < number → EndingBelow (ranges_of x k) lo place → BeginningWithin (ranges_of x k) hi place number
        → lower ≡ cond (ltb (cell (vec_items x.cells) run.ends.first).low lo) (((cell (vec_items x.cells) run.ends.first).low, lo - 1) ∷ []) []
        → upper ≡ cond (ltb hi (cell (vec_items x.cells) run.ends.last).high) ((hi + 1, (cell (vec_items x.cells) run.ends.last).high) ∷ []) []
        → (let rs = ranges_of x run.gap.chain.number in ChangedIfItFits x y run.gap.chain.number (take place rs ++ (lower ++ (upper ++ drop (place + number) rs))) r) → ChangedIfItFits x y k (without_range lo hi (ranges_of x k)) r
    take_changes lower upper p ending beginning a b made =
        subst (λ l. ChangedIfItFits x y k l r)
        (sym (take_at lo hi (ranges_of x k) place number f law ending beginning p
        ∙ ap (λ z. take place (ranges_of x k) ++ (cond (ltb z lo) ((z, lo - 1) ∷ []) [] ++ (cond (ltb hi (at_place (ranges_of x k) (place + number - 1)).1) ((hi + 1, (at_place (ranges_of x k) (place + number - 1)).1) ∷ []) [] ++ drop (place + number) (ranges_of x k)))) (first_range p)
        ∙ ap (λ z. take place (ranges_of x k) ++ (z ++ (cond (ltb hi (at_place (ranges_of x k) (place + number - 1)).1) ((hi + 1, (at_place (ranges_of x k) (place + number - 1)).1) ∷ []) [] ++ drop (place + number) (ranges_of x k)))) (sym a)
        ∙ ap (λ z. take place (ranges_of x k) ++ (lower ++ (cond (ltb hi z) ((hi + 1, z) ∷ []) [] ++ drop (place + number) (ranges_of x k)))) (last_range p)
        ∙ ap (λ z. take place (ranges_of x k) ++ (lower ++ (z ++ drop (place + number) (ranges_of x k)))) (sym b)))
        (its y r (λ rs. take place rs ++ (lower ++ (upper ++ drop (place + number) rs))) made)

-- nothing met, nothing taken
pub takes_nothing : (x : Chains) (k : ℕ) → Canonical (ranges_of x k) → (lo hi place number : ℕ) → Lawful lo hi → EndingBelow (ranges_of x k) lo place → BeginningWithin (ranges_of x k) hi place number → number ≡ 0 → Changed x x k (without_range lo hi (ranges_of x k))
takes_nothing x k f lo hi place number law ending beginning e = unchanged x k _ (take_nothing lo hi (ranges_of x k) place number f law ending beginning e)
