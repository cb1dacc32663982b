-- A gap linked to another cell; and two chains changed, and the others left.
use Rattle.std.specs.Prelude.{◌≡◌, ℕ, zero, suc, ◌+◌, ◌<◌, ◌≤◌, true, ◌⊎◌, List, [], ◌∷◌, length, Some, None, Option, ◌≢◌, slice_index, slice_set, refl}
use Rattle.std.proofs.Common.{sym, ap, subst, ◌∙◌, ⊎_elim, arith, length-set}
use Rattle.std.proofs.lemmas.Bool.{ltb-true, and_parts, cases_eq}
use Rattle.std.proofs.lemmas.List.{get_or-set_same, get_or-set_other}
use Rattle.cells.specs.declared.cell.Cell.{Cell}
use Rattle.cells.specs.declared.cell.Ends.{Ends}
use Rattle.store.specs.Ranges.{Span}
use Rattle.cells.specs.Links.{cell, ends, path, runs, final, numbers, sum, Running, Ending, Parted, Linked, spans}
use Rattle.cells.specs.Segs.{Seg, Out, Chain, Splits, chain_at, chain_path, chain_runs, across, final_in, out_final, seg_at}

-- the number that a gap is linked to, by the cell before it, or before the first cell
abbrev pub link : List Cell → Ends → Option ℕ → ℕ
link cs e None = e.first
link cs e (Some p) = (cell cs p).next

-- the cells, and the ends of the chain, with the gap linked to i
abbrev pub relinked : List Cell → Option ℕ → ℕ → List Cell
relinked cs None i = cs
relinked cs (Some p) i = slice_set cs p (record { low = (cell cs p).low; high = (cell cs p).high; next = i })

abbrev pub with_link : Ends → Option ℕ → ℕ → Ends
with_link e None i = record { first = i; last = e.last; count = e.count }
with_link e (Some p) i = e

pub sum-set : (es : List Ends) (i : ℕ) (e : Ends) → i < length es → sum (slice_set es i e) + (ends es i).count ≡ sum es + e.count
sum-set [] i e h = absurd (omega arith)
sum-set (x ∷ es) zero e h = omega arith
sum-set (x ∷ es) (suc i) e h = omega (arith, sum-set es i e (omega arith))

pub sum_one : (es : List Ends) (i : ℕ) → i < length es → (ends es i).count ≤ sum es
sum_one [] i h = absurd (omega arith)
sum_one (x ∷ es) zero h = omega arith
sum_one (x ∷ es) (suc i) h = omega (arith, sum_one es i (omega arith))

pub sum_two : (es : List Ends) (i j : ℕ) → i < length es → j < length es → (i ≢ j) → (ends es i).count + (ends es j).count ≤ sum es
sum_two [] i j h k n = absurd (omega arith)
sum_two (x ∷ es) zero zero h k n = absurd (n refl)
sum_two (x ∷ es) zero (suc j) h k n = omega (arith, sum_one es j (omega arith))
sum_two (x ∷ es) (suc i) zero h k n = omega (arith, sum_one es i (omega arith))
sum_two (x ∷ es) (suc i) (suc j) h k n = omega (arith, sum_two es i j (omega arith) (omega arith) (λ e. n (ap suc e)))

-- a cell of one chain is on no other
pub elsewhere : (cs : List Cell) (es : List Ends) (j k p : ℕ) → Linked cs es → j < 12 → k < 12 → (j ≢ k) → Splits p (numbers cs es j) → Out p (numbers cs es k)
elsewhere cs es j k p g hj hk ne sp = across p sp.0 sp.1.0 (chain_at cs es j g hj) (chain_at cs es k g hk) sp.1.1 (λ a b e. ne (g.2 j k (hj, hk, a, b, e)))

-- the final cell of a chain is on it
pub last_is_in : (cs : List Cell) (es : List Ends) (k : ℕ) → Linked cs es → k < 12 → 0 < (ends es k).count → Splits (ends es k).last (numbers cs es k)
last_is_in cs es k g h c =
    let t = chain_at cs es k g h in
    subst (λ p. Splits p (numbers cs es k)) (t.last c) (final_in 0 (numbers cs es k) (omega (arith, t.len)))

abbrev Fine : ℕ → Ends → ℕ → Ends → Type 0
Fine j d k e = 0 < d.count → 0 < e.count → d.last ≡ e.last → j ≡ k

module _ (cs cs' : List Cell) (es : List Ends) (s f : ℕ) (x y : Ends) (l m : List ℕ) where
  abbrev pub es' : List Ends
  es' = slice_set (slice_set es s x) f y

  -- what a change of two chains owes
  pub record Change : Type 0 where
    pub long : length es ≡ 12
    pub cells : length cs' ≡ length cs
    pub s< : s < 12
    pub f< : f < 12
    pub apart : s ≡ f → ⊥
    pub first : Chain cs' x l
    pub second : Chain cs' y m
    pub others : (k : ℕ) → k < 12 → (k ≢ s) → (k ≢ f) → Chain cs' (ends es k) (numbers cs es k)
    pub counts : x.count + y.count ≡ (ends es s).count + (ends es f).count
    pub from_x : 0 < x.count → Splits x.last (numbers cs es s) ⊎ Splits x.last (numbers cs es f)
    pub from_y : 0 < y.count → Splits y.last (numbers cs es s) ⊎ Splits y.last (numbers cs es f)
    pub differ : 0 < x.count → 0 < y.count → x.last ≢ y.last

  module _ (g : Linked cs es) (c : Change) where
    pub at_f : ends es' f ≡ y
    at_f = get_or-set_same (slice_set es s x) f y _ (omega (arith, length-set es s x, c.long, c.f<))

    pub at_s : ends es' s ≡ x
    at_s = get_or-set_other (slice_set es s x) f s y _ c.apart ∙ get_or-set_same es s x _ (omega (arith, c.long, c.s<))

    pub at_k : (k : ℕ) → (k ≢ s) → (k ≢ f) → ends es' k ≡ ends es k
    at_k k a b = get_or-set_other (slice_set es s x) f k y _ b ∙ get_or-set_other es s k x _ a

    -- every chain
    each : (P : ℕ → Ends → Type 0) → P s x → P f y → ((k : ℕ) → k < 12 → (k ≢ s) → (k ≢ f) → P k (ends es k)) → (k : ℕ) → k < 12 → P k (ends es' k)
    each P a b o k h =
        ⊎_elim
        (λ (i : k ≡ s). subst (λ j. P j (ends es' j)) (sym i) (subst (P s) (sym at_s) a))
        (λ n. ⊎_elim
        (λ (i : k ≡ f). subst (λ j. P j (ends es' j)) (sym i) (subst (P f) (sym at_f) b))
        (λ q. subst (P k) (sym (at_k k n q)) (o k h n q))
        (cases_eq k f))
        (cases_eq k s)

    pub running : Running cs' es'
    running = each (λ k e. runs cs' e.count e.first ≡ true) (chain_runs c.first) (chain_runs c.second) (λ k h a b. chain_runs (c.others k h a b))

    end_of : (e : Ends) (t : List ℕ) → Chain cs' e t → 0 < e.count → final 0 (path cs' e.count e.first) ≡ e.last
    end_of e t w h = ap (final 0) (chain_path w) ∙ w.last h

    pub ending : Ending cs' es'
    ending = each (λ k e. 0 < e.count → final 0 (path cs' e.count e.first) ≡ e.last) (end_of x l c.first) (end_of y m c.second) (λ k h a b. end_of (ends es k) (numbers cs es k) (c.others k h a b))

    -- a tail from one of the two chains is no other chain's
    strange : (p k : ℕ) → Splits p (numbers cs es s) ⊎ Splits p (numbers cs es f) → k < 12 → (k ≢ s) → (k ≢ f) → 0 < (ends es k).count → p ≢ (ends es k).last
    strange p k w h a b n e =
        let t = chain_at cs es k g h in
        let o : Out p (numbers cs es k) = ⊎_elim (elsewhere cs es s k p g c.s< h (λ i. a (sym i))) (elsewhere cs es f k p g c.f< h (λ i. b (sym i))) w in
        out_final 0 p (numbers cs es k) (omega (arith, t.len)) o (t.last n ∙ sym e)

    pub parted : Parted es'
    parted j k w = go j w.0 k w.1 w.2 w.3 w.4
      where
        go : (j : ℕ) → j < 12 → (k : ℕ) → k < 12 → Fine j (ends es' j) k (ends es' k)
        go = each (λ j d. (k : ℕ) → k < 12 → Fine j d k (ends es' k))
            (each (λ k e. Fine s x k e) (λ _ _ _. refl) (λ a b e. absurd (c.differ a b e)) (λ k h n q a b e. absurd (strange x.last k (c.from_x a) h n q b e)))
            (each (λ k e. Fine f y k e) (λ a b e. absurd (c.differ b a (sym e))) (λ _ _ _. refl) (λ k h n q a b e. absurd (strange y.last k (c.from_y a) h n q b e)))
            (λ j hj nj qj. each (λ k e. Fine j (ends es j) k e)
            (λ a b e. absurd (strange x.last j (c.from_x b) hj nj qj a (sym e)))
            (λ a b e. absurd (strange y.last j (c.from_y b) hj nj qj a (sym e)))
            (λ k h n q a b e. g.2 j k (hj, h, a, b, e)))

    pub whole : sum es' ≡ length cs'
    whole =
        let a = sum-set es s x (omega (arith, c.long, c.s<)) in
        let b = sum-set (slice_set es s x) f y (omega (arith, length-set es s x, c.long, c.f<)) in
        let d = ap (λ z. z.count) (get_or-set_other es s f x (record { first = 0; last = 0; count = 0 }) (λ i. c.apart (sym i))) in
        omega (arith, a, b, d, c.counts, c.cells, g.3)

    pub numbers_s : numbers cs' es' s ≡ l
    numbers_s = ap (λ e. path cs' e.count e.first) at_s ∙ chain_path c.first

    pub numbers_f : numbers cs' es' f ≡ m
    numbers_f = ap (λ e. path cs' e.count e.first) at_f ∙ chain_path c.second

    pub numbers_k : (k : ℕ) → k < 12 → (k ≢ s) → (k ≢ f) → numbers cs' es' k ≡ numbers cs es k
    numbers_k k h a b = ap (λ e. path cs' e.count e.first) (at_k k a b) ∙ chain_path (c.others k h a b)

-- what is left by a change of the chain s and the free chain: the chain's cells and ranges, those of the other sets, and how many are free
pub record Made (cs cs' : List Cell) (es es' : List Ends) (s : ℕ) (l : List ℕ) (new : List Span) (spare : ℕ) : Type 0 where
  pub cells : length cs' ≡ length cs
  pub twelve : length es' ≡ 12
  pub running : Running cs' es'
  pub ending : Ending cs' es'
  pub parted : Parted es'
  pub whole : sum es' ≡ length cs
  pub numbers_here : numbers cs' es' s ≡ l
  pub free : (ends es' 11).count ≡ spare
  pub here : spans cs' (numbers cs' es' s) ≡ new
  pub others : (k : ℕ) → k < 11 → (k ≢ s) → spans cs' (numbers cs' es' k) ≡ spans cs (numbers cs es k)

pub make : (cs cs' : List Cell) (es : List Ends) (s : ℕ) (x y : Ends) (l m : List ℕ) (new : List Span) → Linked cs es → s < 11 → Change cs cs' es s 11 x y l m → spans cs' l ≡ new → ((k : ℕ) → k < 11 → (k ≢ s) → spans cs' (numbers cs es k) ≡ spans cs (numbers cs es k)) → Made cs cs' es (slice_set (slice_set es s x) 11 y) s l new y.count
make cs cs' es s x y l m new g h c e o = record {
  cells = c.cells;
  twelve = length-set (slice_set es s x) 11 y ∙ length-set es s x ∙ c.long;
  running = running cs cs' es s 11 x y l m g c;
  ending = ending cs cs' es s 11 x y l m g c;
  parted = parted cs cs' es s 11 x y l m g c;
  whole = whole cs cs' es s 11 x y l m g c ∙ c.cells;
  numbers_here = numbers_s cs cs' es s 11 x y l m g c;
  free = ap (λ e. e.count) (at_f cs cs' es s 11 x y l m g c);
  here = ap (spans cs') (numbers_s cs cs' es s 11 x y l m g c) ∙ e;
  others = λ k hk ne. ap (spans cs') (numbers_k cs cs' es s 11 x y l m g c k (omega arith) ne (omega arith)) ∙ o k hk ne;
}

-- the cell at the place i of a chain
pub inside : (cs : List Cell) (es : List Ends) (k i p : ℕ) → Running cs es → k < 12 → i < (ends es k).count → slice_index (numbers cs es k) i ≡ p → p < length cs
inside cs es k i p r h l e = subst (λ q. q < length cs) e (go (ends es k).count (ends es k).first i (r k h) l)
  where
    go : (n j i : ℕ) → runs cs n j ≡ true → i < n → slice_index (path cs n j) i < length cs
    go zero j i t b = absurd (omega arith)
    go (suc n) j zero t b = ltb-true _ _ (and_parts _ _ t).0
    go (suc n) j (suc i) t b = go n (cell cs j).next i (and_parts _ _ t).1 (omega arith)

pub first_inside : (cs : List Cell) (es : List Ends) (k : ℕ) → Running cs es → k < 12 → 0 < (ends es k).count → (ends es k).first < length cs
first_inside cs es k r h l = go (ends es k).count (ends es k).first (r k h) l
  where
    go : (n j : ℕ) → runs cs n j ≡ true → 0 < n → j < length cs
    go zero j t b = absurd (omega arith)
    go (suc n) j t b = ltb-true _ _ (and_parts _ _ t).0

pub last_inside : (cs : List Cell) (es : List Ends) (k : ℕ) → Linked cs es → k < 12 → 0 < (ends es k).count → (ends es k).last < length cs
last_inside cs es k g h l =
    let c = chain_at cs es k g h in
    let t = last_is_in cs es k g h l in
    (seg_at cs (ends es k).first c.stop (ends es k).last t.0 t.1.0 (subst (λ m. Seg cs (ends es k).first m c.stop) t.1.1 c.seg)).1
