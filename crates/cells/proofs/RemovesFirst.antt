-- The first cells of a chain handed to the free chain, or those behind any gap.
use Rattle.std.proofs.Common.{◌≡◌, ◌≢◌, ℕ, zero, suc, ◌+◌, ◌-◌, ◌<◌, ◌≤◌, false, cond, eqb, ◌⊎◌, Option, List, ◌∷◌, ◌++◌, length, get_or, take, drop, set, sym, refl, ap, ◌∙◌, subst, inl, inr, ⊎_elim, arith, length-append, length-set}
use Rattle.std.specs.Option.{unwrap_or}
use Rattle.std.proofs.lemmas.Bool.{cases_eq, cond-true, cond-false, eq-eqb, ne_eqb, eqb-false, cond_both}
use Rattle.std.proofs.lemmas.List.{length-take-le}
use Rattle.cells.specs.declared.cell.Cell.{Cell}
use Rattle.cells.specs.declared.cell.Ends.{Ends}
use Rattle.cells.specs.Links.{cell, ends, path, final, numbers, Linked, spans}
use Rattle.cells.specs.Segs.{Seg, Out, Chain, Splits, chain_at, chain_frame, once, seg_at, seg_frame, seg_join, final-++, final_any, last_of_free, out_final, spans_keep, spans-drop, parts_before}
use Rattle.cells.specs.Chains.{before_place}
use Rattle.cells.specs.Relinks.{link, relinked, with_link, Change, Made, make, elsewhere, last_is_in}
use Rattle.cells.proofs.RemovesAfter.{After, longer, removed}

module _ (cs : List Cell) (es : List Ends) (s n p : ℕ) (a b : List ℕ) (v : Cell) where
  abbrev pub x : Ends
  x = record { first = (cell cs p).next; last = (ends es s).last; count = (ends es s).count - (n) }

  abbrev pub y : Ends
  y = record { first = (ends es s).first; last = cond (eqb (ends es 11).count 0) p (ends es 11).last; count = (ends es 11).count + n }

  pub behead : Linked cs es → length es ≡ 12 → s < 11 → numbers cs es s ≡ a ++ p ∷ b → length a + 1 ≡ n → v.next ≡ (ends es 11).first → Change cs (set cs p v) es s 11 x y b (a ++ p ∷ numbers cs es 11)
  behead g long h is an vn = record {
    long = long;
    cells = length-set cs p v;
    s< = omega arith;
    f< = omega arith;
    apart = λ e. omega arith;
    first = record {
      stop = c.stop;
      seg = seg_frame cs (cell cs p).next c.stop p v b cut.2 out.1;
      over = subst (λ m. m ≤ c.stop) (sym (length-set cs p v)) c.over;
      len = omega (arith, many);
      last = λ pos. final_any 0 p b (omega (arith, many)) ∙ sym (final-++ 0 p a b) ∙ ap (final 0) (sym is) ∙ c.last (omega arith);
    };
    second = record {
      stop = f.stop;
      seg = seg_join cs (ends es s).first p f.stop v a (numbers cs es 11) cut.0 cut.1 out.0 (subst (λ j. Seg (set cs p v) j (numbers cs es 11) f.stop) (sym vn) (seg_frame cs (ends es 11).first f.stop p v (numbers cs es 11) f.seg off));
      over = subst (λ m. m ≤ f.stop) (sym (length-set cs p v)) f.over;
      len = omega (arith, length-append a (p ∷ numbers cs es 11), f.len);
      last = λ _. final-++ 0 p a (numbers cs es 11) ∙ last_of_free p f;
    };
    others = λ k hk ns nf. chain_frame p v (chain_at cs es k g hk) (elsewhere cs es s k p g (omega arith) hk (λ e. ns (sym e)) here);
    counts = omega (arith, many);
    from_x = λ pos. inl (last_is_in cs es s g (omega arith) (omega arith));
    from_y = λ pos. cond_both (eqb (ends es 11).count 0) p (ends es 11).last (λ z. Splits z (numbers cs es s) ⊎ Splits z (numbers cs es 11)) (λ _. inl here) (λ e. inr (last_is_in cs es 11 g (omega arith) (some e)));
    differ = λ pos _. cond_both (eqb (ends es 11).count 0) p (ends es 11).last (λ z. (ends es s).last ≡ z → ⊥)
        (λ _ e. out_final 0 p b (omega (arith, many)) out.1 (final_any 0 p b (omega (arith, many)) ∙ sym (final-++ 0 p a b) ∙ ap (final 0) (sym is) ∙ c.last (omega arith) ∙ e))
        (λ q e. let same = g.2 s 11 (omega arith, omega arith, omega arith, some q, e) in omega arith);
  }
    where
      c : Chain cs (ends es s) (numbers cs es s)
      c = chain_at cs es s g (omega arith)

      f : Chain cs (ends es 11) (numbers cs es 11)
      f = chain_at cs es 11 g (omega arith)

      path_is : Seg cs (ends es s).first (a ++ p ∷ b) c.stop
      path_is = subst (λ l. Seg cs (ends es s).first l c.stop) is c.seg

      cut : Seg cs (ends es s).first a p × (p < length cs) × Seg cs (cell cs p).next b c.stop
      cut = seg_at cs (ends es s).first c.stop p a b path_is

      out : Out p a × Out p b
      out = once cs (ends es s).first c.stop p a b path_is c.over

      here : Splits p (numbers cs es s)
      here = (a, (b, is))

      off : Out p (numbers cs es 11)
      off = elsewhere cs es s 11 p g (omega arith) (omega arith) (λ e. omega arith) here

      many : (ends es s).count ≡ n + length b
      many = sym c.len ∙ ap length is ∙ omega (arith, length-append a (p ∷ b))

      some : eqb (ends es 11).count 0 ≡ false → 0 < (ends es 11).count
      some e = ⊎_elim (λ (z : (ends es 11).count ≡ 0). absurd (eqb-false _ _ e z)) (λ z. omega arith) (cases_eq (ends es 11).count 0)

module _ (cs : List Cell) (es : List Ends) (s n p : ℕ) (g : Linked cs es) (long : length es ≡ 12) (h : s < 11) (pos : 0 < n) (l : n ≤ (ends es s).count) (at : get_or (numbers cs es s) (n - 1) 0 ≡ p) where
  many : length (numbers cs es s) ≡ (ends es s).count
  many = (chain_at cs es s g (omega arith)).len

  is : numbers cs es s ≡ take (n - 1) (numbers cs es s) ++ p ∷ drop n (numbers cs es s)
  is = parts_before (numbers cs es s) n p pos (omega (arith, many)) at

  pub removed_first : After cs es s 0 n p cs (record { first = (cell cs p).next; last = (ends es s).last; count = (ends es s).count - n }) (cell cs p) (longer (ends es 11) n p (ends es s).first)
  removed_first =
      let v : Cell = record { low = (cell cs p).low; high = (cell cs p).high; next = (ends es 11).first } in
      let z : 0 + n ≡ n = omega arith in
      subst (λ i. Made cs (set cs p v) es (set (set es s (record { first = (cell cs p).next; last = (ends es s).last; count = (ends es s).count - n })) 11 (record { first = (ends es s).first; last = cond (eqb (ends es 11).count 0) p (ends es 11).last; count = (ends es 11).count + n })) s (drop i (numbers cs es s)) (drop i (spans cs (numbers cs es s))) ((ends es 11).count + n)) (sym z)
      (make cs (set cs p v) es s _ _ (drop n (numbers cs es s)) _ (drop n (spans cs (numbers cs es s))) g h
      (behead cs es s n p (take (n - 1) (numbers cs es s)) (drop n (numbers cs es s)) v g long h is (omega (arith, length-take-le (n - 1) (numbers cs es s) (omega (arith, many)))) refl)
      (spans_keep cs p v (drop n (numbers cs es s)) refl refl ∙ spans-drop cs n (numbers cs es s))
      (λ k hk ne. spans_keep cs p v (numbers cs es k) refl refl))

-- the ends of a chain with so many cells fewer, of which the last is p; `before` goes before them
abbrev pub cut : Ends → ℕ → ℕ → Option ℕ → Ends
cut e n p before = record { first = e.first; last = cond (eqb e.last p) (unwrap_or before e.last) e.last; count = e.count - n }

module _ (z e : Ends) (n p : ℕ) where
  pub cut_end : (before : Option ℕ) (v : ℕ) → e.last ≡ p → v ≡ unwrap_or before e.last → z ≡ record { first = e.first; last = v; count = e.count } → record { first = z.first; last = z.last; count = z.count - n } ≡ cut e n p before
  cut_end before v i w is = ap (λ o. record { first = o.first; last = o.last; count = o.count - n }) is ∙ ap (λ t. record { first = e.first; last = t; count = e.count - n }) (w ∙ sym (cond-true (eqb e.last p) _ e.last (eq-eqb e.last p i)))

  pub cut_within : (before : Option ℕ) → e.last ≢ p → z ≡ e → record { first = z.first; last = z.last; count = z.count - n } ≡ cut e n p before
  cut_within before i is = ap (λ o. record { first = o.first; last = o.last; count = o.count - n }) is ∙ ap (λ t. record { first = e.first; last = t; count = e.count - n }) (sym (cond-false (eqb e.last p) _ e.last (ne_eqb e.last p i)))

  pub longer_from_none : (m : ℕ) → e.count ≡ 0 → z ≡ record { first = m; last = p; count = e.count } → record { first = z.first; last = z.last; count = z.count + n } ≡ longer e n p m
  longer_from_none m i is = ap (λ o. record { first = o.first; last = o.last; count = o.count + n }) is ∙ ap (λ t. record { first = m; last = t; count = e.count + n }) (sym (cond-true (eqb e.count 0) p e.last (eq-eqb e.count 0 i)))

  pub longer_from_some : (m : ℕ) → e.count ≢ 0 → z ≡ record { first = m; last = e.last; count = e.count } → record { first = z.first; last = z.last; count = z.count + n } ≡ longer e n p m
  longer_from_some m i is = ap (λ o. record { first = o.first; last = o.last; count = o.count + n }) is ∙ ap (λ t. record { first = m; last = t; count = e.count + n }) (sym (cond-false (eqb e.count 0) p e.last (ne_eqb e.count 0 i)))

-- the number at a place of a chain is what the gap before it is linked to
next_in : (cs : List Cell) (n j i : ℕ) → suc i < n → get_or (path cs n j) (suc i) 0 ≡ (cell cs (get_or (path cs n j) i 0)).next
next_in cs zero j i h = absurd (omega arith)
next_in cs (suc zero) j i h = absurd (omega arith)
next_in cs (suc (suc n)) j zero h = refl
next_in cs (suc n) j (suc i) h = next_in cs n (cell cs j).next i (omega arith)

at_link : (cs : List Cell) (n j i : ℕ) (e : Ends) → e.first ≡ j → i < n → get_or (path cs n j) i 0 ≡ link cs e (before_place (path cs n j) i)
at_link cs zero j i e f h = absurd (omega arith)
at_link cs (suc n) j zero e f h = sym f
at_link cs (suc n) j (suc i) e f h = next_in cs (suc n) j i h

-- at a gap, whether or not there is a cell before it
module _ (cs : List Cell) (es : List Ends) (s : ℕ) (g : Linked cs es) (long : length es ≡ 12) (h : s < 11) where
  base : (i n p : ℕ) → 0 < n → i + n ≤ (ends es s).count → get_or (numbers cs es s) (i + n - 1) 0 ≡ p
      → (let w = before_place (numbers cs es s) i in let x = cut (ends es s) n p w in let ds = relinked cs w (cell cs p).next in
      After cs es s i n p ds (with_link x w (cell cs p).next) (cell ds p) (longer (ends es 11) n p (link cs (ends es s) w)))
  base zero n p some l at =
      let z : n - 1 ≡ 0 + n - 1 = omega arith in
      subst (λ t. After cs es s 0 n p cs (record { first = (cell cs p).next; last = t; count = (ends es s).count - n }) (cell cs p) (longer (ends es 11) n p (ends es s).first))
      (cond_both (eqb (ends es s).last p) (ends es s).last (ends es s).last (λ t. (ends es s).last ≡ t) (λ _. refl) (λ _. refl))
      (removed_first cs es s n p g long h some (omega arith) (ap (λ k. get_or (numbers cs es s) k 0) z ∙ at))
  base (suc j) n p some l at =
      let z : suc j - 1 ≡ j = omega arith in
      removed cs es s (suc j) n (get_or (numbers cs es s) j 0) p g long h (omega arith) some l (ap (λ k. get_or (numbers cs es s) k 0) z) at

  pub removed_at : (i n p m : ℕ) → 0 < n → i + n ≤ (ends es s).count → get_or (numbers cs es s) (i + n - 1) 0 ≡ p → get_or (numbers cs es s) i 0 ≡ m → (before : Option ℕ) → before ≡ before_place (numbers cs es s) i
      → (x : Ends) → x ≡ cut (ends es s) n p before → (r : ℕ) → (cell cs p).next ≡ r → (ds : List Cell) → ds ≡ relinked cs before r → (e : Ends) → e ≡ with_link x before r
      → (c : Cell) → cell ds p ≡ c → (y : Ends) → y ≡ longer (ends es 11) n p m → After cs es s i n p ds e c y
  removed_at i n p m some l at first before be x xe r re ds de e ee c ce y ye =
      let w = before_place (numbers cs es s) i in
      let u = cut (ends es s) n p w in
      let nx = (cell cs p).next in
      let d : ds ≡ relinked cs w nx = de ∙ ap (λ o. relinked cs o r) be ∙ ap (relinked cs w) (sym re) in
      let f : e ≡ with_link u w nx = ee ∙ ap (λ z. with_link z before r) xe ∙ ap (λ o. with_link (cut (ends es s) n p o) o r) be ∙ ap (with_link u w) (sym re) in
      let free : longer (ends es 11) n p (link cs (ends es s) w) ≡ y = ap (longer (ends es 11) n p) (sym (at_link cs (ends es s).count (ends es s).first i (ends es s) refl (omega arith)) ∙ first) ∙ sym ye in
      subst (λ z. After cs es s i n p ds e z y) ce
      (subst (λ z. After cs es s i n p z e (cell z p) y) (sym d)
      (subst (λ z. After cs es s i n p (relinked cs w nx) z (cell (relinked cs w nx) p) y) (sym f)
      (subst (After cs es s i n p (relinked cs w nx) (with_link u w nx) (cell (relinked cs w nx) p)) free
      (base i n p some l at))))
