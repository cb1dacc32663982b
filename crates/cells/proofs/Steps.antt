-- Steps along a chain, and the ranges of its cells by their places.
use Rattle.std.proofs.Common.{◌≡◌, ℕ, zero, suc, ◌+◌, ◌-◌, ◌<◌, ◌≤◌, true, ⊎_elim, List, [], ◌∷◌, ◌++◌, length, get_or, take, drop, Some, None, vec_items, vec_len, sym, refl, ap, ◌∙◌, subst, arith}
use Rattle.std.proofs.lemmas.Bool.{and_parts, leb-true, le-leb, cases_eq, cases_lt}
use Rattle.std.proofs.lemmas.List.{get_or_read, drop_more, drop_all}
use Rattle.cells.specs.declared.cell.Cell.{Cell}
use Rattle.cells.specs.declared.chains.Chain.{Chain}
use Rattle.cells.specs.declared.chains.Chains.{Chains}
use Rattle.cells.specs.declared.walk.Spot.{Spot}
use Rattle.cells.specs.Links.{cell, ends, path, runs, final, span, spans}
use Rattle.cells.specs.Chains.{numbers_of, count_of, ranges_of, cell_at, before_place, GoesOn, Changed}
use Rattle.cells.specs.Places.{at_place}
use Rattle.cells.specs.Relinks.{Made}
use Rattle.cells.specs.Segs.{Seg, chain_at, seg_at, parts_before}
use Rattle.cells.specs.Held.{long, linked, many, last_fits, read, ranges_many, place_fits, changed}

final_place : (d : ℕ) (l : List ℕ) → 0 < length l → get_or l (length l - 1) 0 ≡ final d l
final_place d [] h = absurd (omega arith)
final_place d (x ∷ []) h = refl
final_place d (x ∷ y ∷ l) h = (let e : length (x ∷ y ∷ l) - 1 ≡ suc (length (y ∷ l) - 1) = omega arith in ap (λ n. get_or (x ∷ y ∷ l) n 0) e) ∙ final_place x (y ∷ l) (omega arith)

spans_place : (cs : List Cell) (l : List ℕ) (i : ℕ) → i < length l → get_or (spans cs l) i (0, 0) ≡ span cs (get_or l i 0)
spans_place cs [] i h = absurd (omega arith)
spans_place cs (x ∷ l) zero h = refl
spans_place cs (x ∷ l) (suc i) h = spans_place cs l i (omega arith)

-- the last of one number more
before_next : (l : List ℕ) (i : ℕ) → before_place l (i + 1) ≡ Some (get_or l i 0)
before_next l i = (let e : i + 1 ≡ suc i = omega arith in ap (before_place l) e)

module _ (x : Chains) (k : ℕ) (h : k < 11) where
  -- the last cell
  pub last_at : 0 < count_of x k → get_or (numbers_of x k) (count_of x k - 1) 0 ≡ (ends x.ends k).last
  last_at p =
      ap (λ n. get_or (numbers_of x k) (n - 1) 0) (sym (many x k (omega arith))) ∙ final_place 0 (numbers_of x k) (omega (arith, many x k (omega arith))) ∙ x.ending k (omega arith) p

  -- the first cell
  pub first_at : 0 < count_of x k → get_or (numbers_of x k) 0 0 ≡ (ends x.ends k).first
  first_at p = go (count_of x k) p
    where
      go : (n : ℕ) → 0 < n → get_or (path (vec_items x.cells) n (ends x.ends k).first) 0 0 ≡ (ends x.ends k).first
      go zero h = absurd (omega arith)
      go (suc n) h = refl

  -- the range at a place is that of the cell there
  pub range_at : (i p : ℕ) (c : Cell) → i < count_of x k → get_or (numbers_of x k) i 0 ≡ p → cell (vec_items x.cells) p ≡ c → at_place (ranges_of x k) i ≡ (c.low, c.high)
  range_at i p c l at e =
      spans_place (vec_items x.cells) (numbers_of x k) i (omega (arith, many x k (omega arith))) ∙ ap (span (vec_items x.cells)) at ∙ ap (λ z. (z.low, z.high)) e

module _ (x y : Chains) (k : ℕ) (h : k < 11) (pos : 0 < count_of x k) (l : List ℕ) (c : Cell) (is : cell (vec_items x.cells) (ends x.ends k).last ≡ c) (high spare : ℕ) where
  pub last_written : Made (vec_items x.cells) (vec_items y.cells) x.ends y.ends k l (take (count_of x k - 1) (ranges_of x k) ++ (c.low, high) ∷ drop (count_of x k - 1 + 1) (ranges_of x k)) spare
      → Changed x y k (take (count_of x k - 1) (ranges_of x k) ++ ((at_place (ranges_of x k) (count_of x k - 1)).0, high) ∷ [])
  last_written m =
      let r = range_at x k h (count_of x k - 1) (ends x.ends k).last c (omega arith) (last_at x k h pos) is in
      let none = drop_all (count_of x k - 1 + 1) (ranges_of x k) (omega (arith, ranges_many x k (omega arith))) in
      subst (Changed x y k)
      (ap (λ z. take (count_of x k - 1) (ranges_of x k) ++ (c.low, high) ∷ z) none ∙ ap (λ z. take (count_of x k - 1) (ranges_of x k) ++ (z.0, high) ∷ []) (sym r))
      (changed x y k l _ spare m)

-- the cell behind a gap
module _ (x : Chains) (s : Spot) (w : GoesOn x s) where
  abbrev k : ℕ
  k = s.gap.chain.number

  abbrev i : ℕ
  i = s.gap.place

  module _ (l : i < count_of x k) where
    here : drop i (numbers_of x k) ≡ s.at ∷ path (vec_items x.cells) (count_of x k - (i + 1)) (cell (vec_items x.cells) s.at).next
    here = w.rest ∙ (let e : count_of x k - i ≡ suc (count_of x k - (i + 1)) = omega arith in ap (λ n. path (vec_items x.cells) n s.at) e)

    more : drop i (numbers_of x k) ≡ get_or (numbers_of x k) i 0 ∷ drop (i + 1) (numbers_of x k)
    more = drop_more (numbers_of x k) i 0 (omega (arith, many x k (omega (arith, s.gap.chain.small))))

    pub at_is : get_or (numbers_of x k) i 0 ≡ s.at
    at_is = let a = here in let b = more in cc

    rest_is : drop (i + 1) (numbers_of x k) ≡ path (vec_items x.cells) (count_of x k - (i + 1)) (cell (vec_items x.cells) s.at).next
    rest_is = let a = here in let b = more in cc

    pub at_fits : s.at < vec_len x.cells
    at_fits = place_fits x k (omega (arith, s.gap.chain.small)) i s.at l at_is

    -- with the cell as the code has read it
    module _ (c : Cell) (r : c ≡ get_or (vec_items x.cells) s.at c) where
      read_at : cell (vec_items x.cells) s.at ≡ c
      read_at = sym (get_or_read (vec_items x.cells) s.at c (omega (arith, at_fits, long x)) r _)

      pub step : GoesOn x (record { gap = record { chain = s.gap.chain; place = i + 1; before = Some s.at }; at = c.next })
      step =
          let e : count_of x k - i ≡ suc (count_of x k - (i + 1)) = omega arith in
          record {
            stands = record { inside = omega arith; behind = ap Some (sym at_is) ∙ sym (before_next (numbers_of x k) i) };
            rest = rest_is ∙ ap (λ z. path (vec_items x.cells) (count_of x k - (i + 1)) z.next) read_at;
            stops = ap (λ z. runs (vec_items x.cells) (count_of x k - (i + 1)) z.next) (sym read_at) ∙ (and_parts _ _ (ap (λ n. runs (vec_items x.cells) n s.at) (sym e) ∙ w.stops)).1;
          }

      pub range_is : at_place (ranges_of x k) i ≡ (c.low, c.high)
      range_is = range_at x k s.gap.chain.small i s.at c l at_is read_at

      pub cell_is : cell_at x k i ≡ c
      cell_is = ap (cell (vec_items x.cells)) at_is ∙ read_at

  -- where no cell is behind a gap, it is the last one
  pub some_behind : s.at < vec_len x.cells → i < count_of x k
  some_behind l = ⊎_elim (λ (e : i ≡ count_of x k). absurd (past e)) (λ ne. omega (arith, w.stands.inside)) (cases_eq i (count_of x k))
    where
      past : i ≡ count_of x k → ⊥
      past e =
          let z : count_of x k - i ≡ 0 = omega arith in
          let over : length (vec_items x.cells) ≤ s.at = leb-true _ _ (ap (λ n. runs (vec_items x.cells) n s.at) (sym z) ∙ w.stops) in
          omega (arith, over, long x)

  pub none_behind : vec_len x.cells ≤ s.at → i ≡ count_of x k
  none_behind l = ⊎_elim (λ (lt : i < count_of x k). absurd (omega (arith, at_fits lt))) (λ ge. omega (arith, w.stands.inside)) (cases_lt i (count_of x k))

-- the gap behind the last cell
pub at_last : (x : Chains) (chain : Chain) → (let k = chain.number in 0 < count_of x k → (c : Cell) → c ≡ get_or (vec_items x.cells) (ends x.ends k).last c
    → GoesOn x (record { gap = record { chain = chain; place = count_of x k; before = Some (ends x.ends k).last }; at = c.next }))
at_last x chain p c r =
    let k = chain.number in
    let h : k < 12 = omega (arith, chain.small) in
    let e : count_of x k - 1 + 1 ≡ count_of x k = omega arith in
    let z : count_of x k - count_of x k ≡ 0 = omega arith in
    let none = drop_all (count_of x k) (numbers_of x k) (omega (arith, many x k h)) in
    let all = chain_at (vec_items x.cells) x.ends k (linked x) h in
    let before = take (count_of x k - 1) (numbers_of x k) in
    let is : numbers_of x k ≡ before ++ (ends x.ends k).last ∷ [] = parts_before (numbers_of x k) (count_of x k) _ p (omega (arith, many x k h)) (last_at x k chain.small p) ∙ ap (λ t. before ++ (ends x.ends k).last ∷ t) none in
    let cut = seg_at (vec_items x.cells) (ends x.ends k).first all.stop (ends x.ends k).last before [] (subst (λ l. Seg (vec_items x.cells) (ends x.ends k).first l all.stop) is all.seg) in
    let next : (cell (vec_items x.cells) (ends x.ends k).last).next ≡ c.next = ap (λ z. z.next) (read x _ c (last_fits x k h p) r) in
    record {
      stands = record { inside = omega arith; behind = ap Some (sym (last_at x k chain.small p)) ∙ sym (before_next (numbers_of x k) (count_of x k - 1)) ∙ ap (before_place (numbers_of x k)) e };
      rest = none ∙ ap (λ n. path (vec_items x.cells) n c.next) (sym z);
      stops = ap (λ n. runs (vec_items x.cells) n c.next) z ∙ le-leb _ _ (omega (arith, all.over, cut.2, next));
    }

-- the gap before the first cell
pub at_front : (x : Chains) (chain : Chain) → GoesOn x (record { gap = record { chain = chain; place = 0; before = None }; at = (ends x.ends chain.number).first })
at_front x chain =
    let all : count_of x chain.number ≡ count_of x chain.number - 0 = omega arith in
    record {
      stands = record { inside = omega arith; behind = refl };
      rest = ap (λ n. path (vec_items x.cells) n (ends x.ends chain.number).first) all;
      stops = subst (λ n. runs (vec_items x.cells) n (ends x.ends chain.number).first ≡ true) all (x.running chain.number (omega (arith, chain.small)));
    }
