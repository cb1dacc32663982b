-- A free cell linked into a chain behind one of its cells.
use Rattle.std.proofs.Common.{◌≡◌, ◌≢◌, ℕ, zero, suc, ◌+◌, ◌-◌, ◌<◌, ◌≤◌, cond, eqb, ◌⊎◌, List, [], ◌∷◌, ◌++◌, length, get_or, take, drop, set, sym, refl, ap, ◌∙◌, subst, inl, inr, ⊎_elim, arith, length-append, length-drop, length-set}
use Rattle.std.proofs.lemmas.Bool.{cases_eq, eq-eqb, ne_eqb, cond_both}
use Rattle.std.proofs.lemmas.List.{get_or-set_same, get_or-set_other}
use Rattle.cells.specs.declared.cell.Cell.{Cell}
use Rattle.cells.specs.declared.cell.Ends.{Ends}
use Rattle.cells.specs.Links.{cell, ends, path, final, numbers, Linked, spans}
use Rattle.cells.specs.Segs.{Seg, Out, Chain, Splits, chain_at, chain_frame, once, seg_at, seg_frame, seg_join, final-++, final_any, last_of_more, out_final, out_left, out_right, out-take, out-drop, spans_out, spans_keep, spans_put, spans-take, spans-drop, parts_before, take_before}
use Rattle.cells.specs.Relinks.{Change, Made, make, elsewhere, last_is_in, first_inside}

-- the first cell of a chain
pub first_from : (cs : List Cell) (es : List Ends) (k : ℕ) → 0 < (ends es k).count → (r : List ℕ) × (numbers cs es k ≡ (ends es k).first ∷ r)
first_from cs es k h = go (ends es k).count (ends es k).first h
  where
    go : (n i : ℕ) → 0 < n → (r : List ℕ) × (path cs n i ≡ i ∷ r)
    go zero i h = absurd (omega arith)
    go (suc n) i h = (path cs n (cell cs i).next, refl)

module _ (cs : List Cell) (es : List Ends) (s q f stop : ℕ) (a b r : List ℕ) (w v : Cell) where
  pub grow : Linked cs es → length es ≡ 12 → s < 11 → numbers cs es s ≡ a ++ q ∷ b → numbers cs es 11 ≡ f ∷ r → Seg cs v.next b stop → length cs ≤ stop → w.next ≡ f → Change cs (set (set cs f v) q w) es s 11 (record { first = (ends es s).first; last = cond (eqb (length b) 0) f (ends es s).last; count = (ends es s).count + 1 }) (record { first = (cell cs f).next; last = (ends es 11).last; count = (ends es 11).count - 1 }) (a ++ q ∷ f ∷ b) r
  grow g long h is fr sb over wn = record {
    long = long;
    cells = len2;
    s< = omega arith;
    f< = omega arith;
    apart = λ e. omega arith;
    first = record {
      stop = stop;
      seg = seg_join (set cs f v) (ends es s).first q stop w a (f ∷ b) (seg_frame cs (ends es s).first q f v a cut.0 (out_left f a (q ∷ b) offf)) (subst (λ z. q < z) (sym (length-set cs f v)) cut.1) outq.0
          (wn, subst (λ z. f < z) (sym len2) cutf.1, subst (λ j. Seg (set (set cs f v) q w) j b stop) (sym (ap (λ z. z.next) (get_or-set_other (set cs f v) q f w _ offq.0 ∙ get_or-set_same cs f v _ cutf.1))) (seg_frame (set cs f v) v.next stop q w b (seg_frame cs v.next stop f v b sb (out_right f a (q ∷ b) offf).1) outq.1));
      over = subst (λ z. z ≤ stop) (sym len2) over;
      len = omega (arith, many, length-append a (q ∷ f ∷ b));
      last = λ _. final-++ 0 q a (f ∷ b) ∙ last_of_more f q (ends es s).last b (sym (final-++ 0 q a b) ∙ ap (final 0) (sym is) ∙ c.last (omega (arith, many)));
    };
    second = record {
      stop = e.stop;
      seg = seg_frame (set cs f v) (cell cs f).next e.stop q w r (seg_frame cs (cell cs f).next e.stop f v r cutf.2 outf) offq.1;
      over = subst (λ z. z ≤ e.stop) (sym len2) e.over;
      len = omega (arith, spare);
      last = λ pos. final_any 0 f r (omega (arith, spare)) ∙ ap (final 0) (sym fr) ∙ e.last (omega arith);
    };
    others = λ k hk ns nf. chain_frame q w (chain_frame f v (chain_at cs es k g hk) (elsewhere cs es 11 k f g (omega arith) hk (λ i. nf (sym i)) heref)) (elsewhere cs es s k q g (omega arith) hk (λ i. ns (sym i)) hereq);
    counts = omega (arith, spare);
    from_x = λ pos. cond_both (eqb (length b) 0) f (ends es s).last (λ z. Splits z (numbers cs es s) ⊎ Splits z (numbers cs es 11)) (λ _. inr heref) (λ _. inl (last_is_in cs es s g (omega arith) (omega (arith, many))));
    from_y = λ pos. inr (last_is_in cs es 11 g (omega arith) (omega arith));
    differ = λ _ pos. cond_both (eqb (length b) 0) f (ends es s).last (λ z. z ≡ (ends es 11).last → ⊥)
        (λ _ i. out_final 0 f r (omega (arith, spare)) outf (final_any 0 f r (omega (arith, spare)) ∙ ap (final 0) (sym fr) ∙ e.last (omega arith) ∙ sym i))
        (λ _ i. let same = g.2 s 11 (omega arith, omega arith, omega (arith, many), omega arith, i) in omega arith);
  }
    where
      c : Chain cs (ends es s) (numbers cs es s)
      c = chain_at cs es s g (omega arith)

      e : Chain cs (ends es 11) (numbers cs es 11)
      e = chain_at cs es 11 g (omega arith)

      len2 : length (set (set cs f v) q w) ≡ length cs
      len2 = length-set (set cs f v) q w ∙ length-set cs f v

      way : Seg cs (ends es s).first (a ++ q ∷ b) c.stop
      way = subst (λ l. Seg cs (ends es s).first l c.stop) is c.seg

      wayf : Seg cs (ends es 11).first ([] ++ f ∷ r) e.stop
      wayf = subst (λ l. Seg cs (ends es 11).first l e.stop) fr e.seg

      cut : Seg cs (ends es s).first a q × (q < length cs) × Seg cs (cell cs q).next b c.stop
      cut = seg_at cs (ends es s).first c.stop q a b way

      cutf : Seg cs (ends es 11).first [] f × (f < length cs) × Seg cs (cell cs f).next r e.stop
      cutf = seg_at cs (ends es 11).first e.stop f [] r wayf

      outq : Out q a × Out q b
      outq = once cs (ends es s).first c.stop q a b way c.over

      outf : Out f r
      outf = (once cs (ends es 11).first e.stop f [] r wayf e.over).1

      hereq : Splits q (numbers cs es s)
      hereq = (a, (b, is))

      heref : Splits f (numbers cs es 11)
      heref = ([], (r, fr))

      offq : Out q (f ∷ r)
      offq = subst (Out q) fr (elsewhere cs es s 11 q g (omega arith) (omega arith) (λ i. omega arith) hereq)

      offf : Out f (a ++ q ∷ b)
      offf = subst (Out f) is (elsewhere cs es 11 s f g (omega arith) (omega arith) (λ i. omega arith) heref)

      many : (ends es s).count ≡ length a + 1 + length b
      many = sym c.len ∙ ap length is ∙ omega (arith, length-append a (q ∷ b))

      spare : (ends es 11).count ≡ 1 + length r
      spare = sym e.len ∙ ap length fr ∙ omega arith

-- by places, with the values as the code has them
abbrev pub After : List Cell → List Ends → ℕ → ℕ → ℕ → ℕ → List Cell → Ends → ℕ → ℕ → Type 0
After cs es s i lo hi ds d n m = Made cs (set ds (ends es 11).first (record { low = lo; high = hi; next = n })) es (set (set es s d) 11 (record { first = m; last = (ends es 11).last; count = (ends es 11).count - 1 })) s (take i (numbers cs es s) ++ (ends es 11).first ∷ drop i (numbers cs es s)) (take i (spans cs (numbers cs es s)) ++ (lo, hi) ∷ drop i (spans cs (numbers cs es s))) ((ends es 11).count - 1)

set_swap : (cs : List Cell) (i j : ℕ) (v w : Cell) → i ≢ j → set (set cs i v) j w ≡ set (set cs j w) i v
set_swap [] i j v w ne = refl
set_swap (c ∷ cs) zero zero v w ne = absurd (ne refl)
set_swap (c ∷ cs) zero (suc j) v w ne = refl
set_swap (c ∷ cs) (suc i) zero v w ne = refl
set_swap (c ∷ cs) (suc i) (suc j) v w ne = ap (λ t. c ∷ t) (set_swap cs i j v w (λ e. ne (ap suc e)))

module _ (cs : List Cell) (es : List Ends) (s i q lo hi : ℕ) (g : Linked cs es) (long : length es ≡ 12) (h : s < 11) (pos : 0 < i) (l : i ≤ (ends es s).count) (room : 0 < (ends es 11).count) (at : get_or (numbers cs es s) (i - 1) 0 ≡ q) where
  abbrev a : List ℕ
  a = take (i - 1) (numbers cs es s)

  abbrev b : List ℕ
  b = drop i (numbers cs es s)

  abbrev f : ℕ
  f = (ends es 11).first

  many : length (numbers cs es s) ≡ (ends es s).count
  many = (chain_at cs es s g (omega arith)).len

  is : numbers cs es s ≡ a ++ q ∷ b
  is = parts_before (numbers cs es s) i q pos (omega (arith, many)) at

  at_end : eqb (length b) 0 ≡ eqb i (ends es s).count
  at_end =
      let e = length-drop i (numbers cs es s) in
      ⊎_elim
      (λ (z : i ≡ (ends es s).count). eq-eqb (length b) 0 (omega (arith, e, many)) ∙ sym (eq-eqb i (ends es s).count z))
      (λ z. ne_eqb (length b) 0 (omega (arith, e, many)) ∙ sym (ne_eqb i (ends es s).count z))
      (cases_eq i (ends es s).count)

  pub inserted : (t : ℕ) → cond (eqb i (ends es s).count) f (ends es s).last ≡ t
      → After cs es s i lo hi (set cs q (record { low = (cell cs q).low; high = (cell cs q).high; next = f })) (record { first = (ends es s).first; last = t; count = (ends es s).count + 1 }) (cell cs q).next (cell cs f).next
  inserted t te =
      let w : Cell = record { low = (cell cs q).low; high = (cell cs q).high; next = f } in
      let v : Cell = record { low = lo; high = hi; next = (cell cs q).next } in
      let c = chain_at cs es s g (omega arith) in
      let fr = first_from cs es 11 room in
      let cut = seg_at cs (ends es s).first c.stop q a b (subst (λ l. Seg cs (ends es s).first l c.stop) is c.seg) in
      let cutf = first_inside cs es 11 g.0 (omega arith) room in
      let offf = elsewhere cs es 11 s f g (omega arith) (omega arith) (λ e. omega arith) ([], (fr.0, fr.1)) in
      let apart : q ≡ f → ⊥ = λ e. (out_right f a (q ∷ b) (subst (Out f) is offf)).0 e in
      let keep : (l : List ℕ) → spans (set (set cs f v) q w) l ≡ spans (set cs f v) l = λ l. spans_keep (set cs f v) q w l (ap (λ z. z.low) (sym (get_or-set_other cs f q v _ apart))) (ap (λ z. z.high) (sym (get_or-set_other cs f q v _ apart))) in
      let there : a ++ q ∷ f ∷ b ≡ take i (numbers cs es s) ++ f ∷ b = take_before (numbers cs es s) i q (f ∷ b) pos (omega (arith, many)) at in
      let x : ℕ → Ends = λ z. record { first = (ends es s).first; last = z; count = (ends es s).count + 1 } in
      let y : Ends = record { first = (cell cs f).next; last = (ends es 11).last; count = (ends es 11).count - 1 } in
      let new = take i (spans cs (numbers cs es s)) ++ (lo, hi) ∷ drop i (spans cs (numbers cs es s)) in
      subst (λ z. Made cs z es (set (set es s (x t)) 11 y) s (take i (numbers cs es s) ++ f ∷ b) new ((ends es 11).count - 1)) (set_swap cs f q v w (λ e. apart (sym e)))
      (subst (λ z. Made cs (set (set cs f v) q w) es (set (set es s (x z)) 11 y) s (take i (numbers cs es s) ++ f ∷ b) new ((ends es 11).count - 1)) (ap (λ z. cond z f (ends es s).last) at_end ∙ te)
      (subst (λ n. Made cs (set (set cs f v) q w) es (set (set es s (x (cond (eqb (length b) 0) f (ends es s).last))) 11 y) s n new ((ends es 11).count - 1)) there
      (make cs (set (set cs f v) q w) es s _ _ (a ++ q ∷ f ∷ b) fr.0 new g h
      (grow cs es s q f c.stop a b fr.0 w v g long h is fr.1 cut.2 c.over refl)
      (keep (a ++ q ∷ f ∷ b) ∙ ap (spans (set cs f v)) there ∙ spans_put cs f v (take i (numbers cs es s)) b cutf (out-take f i (numbers cs es s) offf) (out-drop f i (numbers cs es s) offf)
      ∙ ap (λ z. z ++ (lo, hi) ∷ spans cs b) (spans-take cs i (numbers cs es s)) ∙ ap (λ z. take i (spans cs (numbers cs es s)) ++ (lo, hi) ∷ z) (spans-drop cs i (numbers cs es s)))
      (λ k hk ne. keep (numbers cs es k) ∙ spans_out cs f v (numbers cs es k) (elsewhere cs es 11 k f g (omega arith) (omega arith) (λ e. omega arith) ([], (fr.0, fr.1)))))))
