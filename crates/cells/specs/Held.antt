-- What the chains of a memory are, from the facts in their type.
use Rattle.std.specs.Prelude.{◌≡◌, ℕ, zero, suc, ◌+◌, ◌-◌, ◌<◌, ◌≤◌, List, ◌++◌, length, take, Some, IfSome, vec_items, vec_len, slice_index, slice_index_or, refl}
use Rattle.std.proofs.Common.{sym, ap, subst, ◌∙◌, arith, length-append}
use Rattle.std.proofs.lemmas.List.{get_or_read, get_or_append_left, get_or-take, length-take-le}
use Rattle.store.specs.Ranges.{Span}
use Rattle.cells.specs.declared.cell.Cell.{Cell}
use Rattle.cells.specs.declared.chains.Chain.{Chain}
use Rattle.cells.specs.declared.chains.Chains.{Chains}
use Rattle.cells.specs.declared.chains.Gap.{Gap}
use Rattle.cells.specs.declared.chains.Run.{Run}
use Rattle.cells.specs.Links.{cell, ends, Linked}
use Rattle.cells.specs.Chains.{numbers_of, count_of, ranges_of, free_of, before_place, Stands, Follow, Changed}
use Rattle.cells.specs.Segs.{chain_at, spans-length}
use Rattle.cells.specs.Relinks.{Made, inside, first_inside, last_inside, sum_two}

pub long : (x : Chains) → length (vec_items x.cells) ≡ vec_len x.cells
long x = sym x.cells.ok.0

pub linked : (x : Chains) → Linked (vec_items x.cells) x.ends
linked x = (x.running, x.ending, x.parted, x.whole ∙ sym (long x))

module _ (x : Chains) (k : ℕ) (h : k < 12) where
  pub many : length (numbers_of x k) ≡ count_of x k
  many = (chain_at (vec_items x.cells) x.ends k (linked x) h).len

  pub ranges_many : length (ranges_of x k) ≡ count_of x k
  ranges_many = spans-length (vec_items x.cells) (numbers_of x k) ∙ many

  pub first_fits : 0 < count_of x k → (ends x.ends k).first < vec_len x.cells
  first_fits p = omega (arith, first_inside (vec_items x.cells) x.ends k x.running h p, long x)

  pub last_fits : 0 < count_of x k → (ends x.ends k).last < vec_len x.cells
  last_fits p = omega (arith, last_inside (vec_items x.cells) x.ends k (linked x) h p, long x)

  pub place_fits : (i p : ℕ) → i < count_of x k → slice_index (numbers_of x k) i ≡ p → p < vec_len x.cells
  place_fits i p l e = omega (arith, inside (vec_items x.cells) x.ends k i p x.running h l e, long x)

-- a set's cells and the free ones are not more than there are
pub both_fit : (x : Chains) (k : ℕ) → k < 11 → count_of x k + free_of x ≤ vec_len x.cells
both_fit x k h = omega (arith, sum_two x.ends k 11 (omega (arith, x.twelve)) (omega (arith, x.twelve)) (omega arith), x.whole)

-- a cell as the code reads it
pub read : (x : Chains) (p : ℕ) (c : Cell) → p < vec_len x.cells → c ≡ slice_index_or (vec_items x.cells) p c → cell (vec_items x.cells) p ≡ c
read x p c h e = sym (get_or_read (vec_items x.cells) p c (omega (arith, long x)) e _)

-- a gap of a chain, told by the chain
pub place_inside : (x : Chains) (gap : Gap) (chain : Chain) → gap.chain ≡ chain → Stands x gap → gap.place ≤ count_of x chain.number
place_inside x gap chain e s = subst (λ c. gap.place ≤ count_of x c.number) e s.inside

-- the cell before a gap, and the last of a run
pub before_fits : (x : Chains) (gap : Gap) → Stands x gap → IfSome gap.before (λ p. p < vec_len x.cells)
before_fits x gap s = subst (λ b. IfSome b (λ p. p < vec_len x.cells)) (sym s.behind) (go gap.place s.inside)
  where
    go : (i : ℕ) → i ≤ count_of x gap.chain.number → IfSome (before_place (numbers_of x gap.chain.number) i) (λ p. p < vec_len x.cells)
    go zero l = tt
    go (suc i) l = place_fits x gap.chain.number (omega (arith, gap.chain.small)) i _ (omega arith) refl

pub end_fits : (x : Chains) (run : Run) → 0 < run.ends.count → Follow x run → run.ends.last < vec_len x.cells
end_fits x run p s = place_fits x run.gap.chain.number (omega (arith, run.gap.chain.small)) (run.gap.place + run.ends.count - 1) run.ends.last (omega (arith, s.inside)) (s.ends_in p)

-- with the same numbers up to a place
before_in : (l rest : List ℕ) (i : ℕ) → i ≤ length l → before_place (take i l ++ rest) i ≡ before_place l i
before_in l rest zero h = refl
before_in l rest (suc i) h =
    let short = length-take-le (suc i) l h in
    ap Some (get_or_append_left (take (suc i) l) rest 0 i (omega (arith, short)) ∙ get_or-take (suc i) l i 0 (omega arith))

-- what a change of the links is for the ranges
pub changed : (x y : Chains) (s : ℕ) (l : List ℕ) (new : List Span) (spare : ℕ) → Made (vec_items x.cells) (vec_items y.cells) x.ends y.ends s l new spare → Changed x y s new
changed x y s l new spare m = record { room = omega (arith, m.cells, long x, long y); here = m.here; others = m.others }

-- and for a gap with the same cells before it
pub still_stands : (x y : Chains) (gap : Gap) (l : List ℕ) (new : List Span) (spare : ℕ) (rest : List ℕ) → Made (vec_items x.cells) (vec_items y.cells) x.ends y.ends gap.chain.number l new spare → l ≡ take gap.place (numbers_of x gap.chain.number) ++ rest → Stands x gap → Stands y gap
still_stands x y gap l new spare rest m e g =
    let s = gap.chain.number in
    let h : s < 12 = omega (arith, gap.chain.small) in
    let fits : gap.place ≤ length (numbers_of x s) = omega (arith, many x s h, g.inside) in
    let is = m.numbers_here ∙ e in
    record {
      inside = omega (arith, many y s h, ap length is, length-append (take gap.place (numbers_of x s)) rest, length-take-le gap.place (numbers_of x s) fits);
      behind = g.behind ∙ sym (ap (λ t. before_place t gap.place) is ∙ before_in (numbers_of x s) rest gap.place fits);
    }

-- nothing is changed
pub unchanged : (x : Chains) (k : ℕ) (rs : List Span) → rs ≡ ranges_of x k → Changed x x k rs
unchanged x k rs e = record { room = refl; here = sym e; others = λ other _ _. refl }
