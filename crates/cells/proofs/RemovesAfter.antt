-- A run of cells of a chain handed to the free chain, and the cell before it written.
use Rattle.std.proofs.Common.{◌≡◌, ℕ, ◌+◌, ◌-◌, ◌<◌, ◌≤◌, false, cond, eqb, ◌⊎◌, List, [], ◌∷◌, ◌++◌, length, get_or, take, drop, set, sym, refl, ap, ◌∙◌, subst, inl, inr, ⊎_elim, append_assoc, arith, length-append, length-drop, length-set}
use Rattle.std.proofs.lemmas.Bool.{cases_eq, eqb-false, cond_both}
use Rattle.std.proofs.lemmas.List.{length-take-le, get_or-drop, drop-drop}
use Rattle.cells.specs.declared.cell.Cell.{Cell}
use Rattle.cells.specs.declared.cell.Ends.{Ends}
use Rattle.cells.specs.Links.{cell, ends, final, numbers, Linked, spans}
use Rattle.cells.specs.Segs.{Seg, Out, Chain, Splits, chain_at, chain_frame, once, seg_at, seg_frame, seg_join, final-++, last_of_rest, last_of_free, out_final, out-++, out_left, out_right, spans_keep, spans-take, spans-drop, spans-++, parts_before, take_before}
use Rattle.cells.specs.Relinks.{Change, Made, make, elsewhere, last_is_in}

module _ (cs : List Cell) (es : List Ends) (s n p q : ℕ) (a m b : List ℕ) (w v : Cell) where
  pub fold : Linked cs es → length es ≡ 12 → s < 11 → numbers cs es s ≡ a ++ q ∷ (m ++ p ∷ b) → length m + 1 ≡ n → w.next ≡ (cell cs p).next → v.next ≡ (ends es 11).first → Change cs (set (set cs q w) p v) es s 11 (record { first = (ends es s).first; last = cond (eqb (ends es s).last p) q (ends es s).last; count = (ends es s).count - n }) (record { first = (cell cs q).next; last = cond (eqb (ends es 11).count 0) p (ends es 11).last; count = (ends es 11).count + n }) (a ++ q ∷ b) (m ++ p ∷ numbers cs es 11)
  fold g long h is mn wn vn = record {
    long = long;
    cells = len2;
    s< = omega arith;
    f< = omega arith;
    apart = λ e. omega arith;
    first = record {
      stop = c.stop;
      seg = seg_frame (set cs q w) (ends es s).first c.stop p v (a ++ q ∷ b)
          (seg_join cs (ends es s).first q c.stop w a b cutq.0 cutq.1 outq.0 (subst (λ j. Seg (set cs q w) j b c.stop) (sym wn) (seg_frame cs (cell cs p).next c.stop q w b cutp.2 (out_right q (p ∷ []) b (out_right q m (p ∷ b) outq.1)))))
          (out-++ p a (q ∷ b) (out_left p a (q ∷ m) outp.0) ((out_right p a (q ∷ m) outp.0).0, outp.1));
      over = subst (λ z. z ≤ c.stop) (sym len2) c.over;
      len = omega (arith, many, length-append a (q ∷ b));
      last = λ _. final-++ 0 q a b ∙ last_of_rest q p (ends es s).last b (sym (final-++ 0 p (a ++ q ∷ m) b) ∙ ap (final 0) (sym whole) ∙ c.last (omega (arith, many))) outp.1;
    };
    second = record {
      stop = f.stop;
      seg = seg_join (set cs q w) (cell cs q).next p f.stop v m (numbers cs es 11) (seg_frame cs (cell cs q).next p q w m cutp.0 (out_left q m (p ∷ b) outq.1)) (subst (λ z. p < z) (sym (length-set cs q w)) cutp.1) (out_right p (q ∷ []) m (out_right p a (q ∷ m) outp.0))
          (subst (λ j. Seg (set (set cs q w) p v) j (numbers cs es 11) f.stop) (sym vn) (seg_frame (set cs q w) (ends es 11).first f.stop p v (numbers cs es 11) (seg_frame cs (ends es 11).first f.stop q w (numbers cs es 11) f.seg offq) offp));
      over = subst (λ z. z ≤ f.stop) (sym len2) f.over;
      len = omega (arith, length-append m (p ∷ numbers cs es 11), f.len);
      last = λ _. final-++ 0 p m (numbers cs es 11) ∙ last_of_free p f;
    };
    others = λ k hk ns nf. chain_frame p v (chain_frame q w (chain_at cs es k g hk) (elsewhere cs es s k q g (omega arith) hk (λ e. ns (sym e)) hereq)) (elsewhere cs es s k p g (omega arith) hk (λ e. ns (sym e)) herep);
    counts = omega (arith, many);
    from_x = λ pos. cond_both (eqb (ends es s).last p) q (ends es s).last (λ z. Splits z (numbers cs es s) ⊎ Splits z (numbers cs es 11)) (λ _. inl hereq) (λ _. inl (last_is_in cs es s g (omega arith) (omega (arith, many))));
    from_y = λ pos. cond_both (eqb (ends es 11).count 0) p (ends es 11).last (λ z. Splits z (numbers cs es s) ⊎ Splits z (numbers cs es 11)) (λ _. inl herep) (λ e. inr (last_is_in cs es 11 g (omega arith) (some e)));
    differ = λ _ _. cond_both (eqb (ends es s).last p) q (ends es s).last (λ y. y ≡ cond (eqb (ends es 11).count 0) p (ends es 11).last → ⊥)
        (λ _. cond_both (eqb (ends es 11).count 0) p (ends es 11).last (λ z. q ≡ z → ⊥)
        (λ _ e. (out_right q m (p ∷ b) outq.1).0 (sym e))
        (λ z e. out_final 0 q (numbers cs es 11) (omega (arith, some z, f.len)) offq (f.last (some z) ∙ sym e)))
        (λ y. cond_both (eqb (ends es 11).count 0) p (ends es 11).last (λ z. (ends es s).last ≡ z → ⊥)
        (λ _ e. eqb-false _ _ y e)
        (λ z e. let same = g.2 s 11 (omega arith, omega arith, omega (arith, many), some z, e) in omega arith));
  }
    where
      c : Chain cs (ends es s) (numbers cs es s)
      c = chain_at cs es s g (omega arith)

      f : Chain cs (ends es 11) (numbers cs es 11)
      f = chain_at cs es 11 g (omega arith)

      len2 : length (set (set cs q w) p v) ≡ length cs
      len2 = length-set (set cs q w) p v ∙ length-set cs q w

      whole : numbers cs es s ≡ (a ++ q ∷ m) ++ p ∷ b
      whole = is ∙ sym (append_assoc a (q ∷ m) (p ∷ b))

      pathq : Seg cs (ends es s).first (a ++ q ∷ (m ++ p ∷ b)) c.stop
      pathq = subst (λ l. Seg cs (ends es s).first l c.stop) is c.seg

      pathp : Seg cs (ends es s).first ((a ++ q ∷ m) ++ p ∷ b) c.stop
      pathp = subst (λ l. Seg cs (ends es s).first l c.stop) whole c.seg

      cutq : Seg cs (ends es s).first a q × (q < length cs) × Seg cs (cell cs q).next (m ++ p ∷ b) c.stop
      cutq = seg_at cs (ends es s).first c.stop q a (m ++ p ∷ b) pathq

      cutp : Seg cs (cell cs q).next m p × (p < length cs) × Seg cs (cell cs p).next b c.stop
      cutp = seg_at cs (cell cs q).next c.stop p m b cutq.2

      outq : Out q a × Out q (m ++ p ∷ b)
      outq = once cs (ends es s).first c.stop q a (m ++ p ∷ b) pathq c.over

      outp : Out p (a ++ q ∷ m) × Out p b
      outp = once cs (ends es s).first c.stop p (a ++ q ∷ m) b pathp c.over

      hereq : Splits q (numbers cs es s)
      hereq = (a, (m ++ p ∷ b, is))

      herep : Splits p (numbers cs es s)
      herep = (a ++ q ∷ m, (b, whole))

      offq : Out q (numbers cs es 11)
      offq = elsewhere cs es s 11 q g (omega arith) (omega arith) (λ e. omega arith) hereq

      offp : Out p (numbers cs es 11)
      offp = elsewhere cs es s 11 p g (omega arith) (omega arith) (λ e. omega arith) herep

      many : (ends es s).count ≡ length a + 1 + n + length b
      many = sym c.len ∙ ap length is ∙ omega (arith, length-append a (q ∷ (m ++ p ∷ b)), length-append m (p ∷ b))

      some : eqb (ends es 11).count 0 ≡ false → 0 < (ends es 11).count
      some e = ⊎_elim (λ (z : (ends es 11).count ≡ 0). absurd (eqb-false _ _ e z)) (λ z. omega arith) (cases_eq (ends es 11).count 0)

-- the free chain with so many cells more before it, from m to p
abbrev pub longer : Ends → ℕ → ℕ → ℕ → Ends
longer e n p m = record { first = m; last = cond (eqb e.count 0) p e.last; count = e.count + n }

-- by places, with the values as the code has them
abbrev pub After : List Cell → List Ends → ℕ → ℕ → ℕ → ℕ → List Cell → Ends → Cell → Ends → Type 0
After cs es s i n p ds d c y = Made cs (set ds p (record { low = c.low; high = c.high; next = (ends es 11).first })) es (set (set es s d) 11 y) s (take i (numbers cs es s) ++ drop (i + n) (numbers cs es s)) (take i (spans cs (numbers cs es s)) ++ drop (i + n) (spans cs (numbers cs es s))) ((ends es 11).count + n)

module _ (cs : List Cell) (es : List Ends) (s i n q p : ℕ) (g : Linked cs es) (long : length es ≡ 12) (h : s < 11) (pos : 0 < i) (some : 0 < n) (l : i + n ≤ (ends es s).count) (atq : get_or (numbers cs es s) (i - 1) 0 ≡ q) (atp : get_or (numbers cs es s) (i + n - 1) 0 ≡ p) where
  many : length (numbers cs es s) ≡ (ends es s).count
  many = (chain_at cs es s g (omega arith)).len

  abbrev a : List ℕ
  a = take (i - 1) (numbers cs es s)

  abbrev rest : List ℕ
  rest = drop i (numbers cs es s)

  abbrev m : List ℕ
  m = take (n - 1) rest

  abbrev b : List ℕ
  b = drop (i + n) (numbers cs es s)

  rest_is : rest ≡ m ++ p ∷ b
  rest_is =
      let z : i + (n - 1) ≡ i + n - 1 = omega arith in
      parts_before rest n p some (omega (arith, length-drop i (numbers cs es s), many)) (get_or-drop i (numbers cs es s) (n - 1) 0 ∙ ap (λ k. get_or (numbers cs es s) k 0) z ∙ atp)
      ∙ ap (λ k. m ++ p ∷ k) (drop-drop n i (numbers cs es s))

  is : numbers cs es s ≡ a ++ q ∷ (m ++ p ∷ b)
  is = parts_before (numbers cs es s) i q pos (omega (arith, many)) atq ∙ ap (λ z. a ++ q ∷ z) rest_is

  pub removed : (let ds = set cs q (record { low = (cell cs q).low; high = (cell cs q).high; next = (cell cs p).next }) in After cs es s i n p ds (record { first = (ends es s).first; last = cond (eqb (ends es s).last p) q (ends es s).last; count = (ends es s).count - n }) (cell ds p) (longer (ends es 11) n p (cell cs q).next))
  removed =
      let w : Cell = record { low = (cell cs q).low; high = (cell cs q).high; next = (cell cs p).next } in
      let v : Cell = record { low = (cell (set cs q w) p).low; high = (cell (set cs q w) p).high; next = (ends es 11).first } in
      let x : Ends = record { first = (ends es s).first; last = cond (eqb (ends es s).last p) q (ends es s).last; count = (ends es s).count - n } in
      let y = longer (ends es 11) n p (cell cs q).next in
      let new = take i (spans cs (numbers cs es s)) ++ drop (i + n) (spans cs (numbers cs es s)) in
      let keep : (l : List ℕ) → spans (set (set cs q w) p v) l ≡ spans cs l = λ l. spans_keep (set cs q w) p v l refl refl ∙ spans_keep cs q w l refl refl in
      let there : a ++ q ∷ b ≡ take i (numbers cs es s) ++ b = take_before (numbers cs es s) i q b pos (omega (arith, many)) atq in
      subst (λ l. Made cs (set (set cs q w) p v) es (set (set es s x) 11 y) s l new ((ends es 11).count + n)) there
      (make cs (set (set cs q w) p v) es s _ _ (a ++ q ∷ b) _ new g h
      (fold cs es s n p q a m b w v g long h is (omega (arith, length-take-le (n - 1) rest (omega (arith, length-drop i (numbers cs es s), many)))) refl refl)
      (keep (a ++ q ∷ b) ∙ ap (spans cs) there ∙ spans-++ cs (take i (numbers cs es s)) b ∙ ap (λ z. z ++ spans cs b) (spans-take cs i (numbers cs es s)) ∙ ap (λ z. take i (spans cs (numbers cs es s)) ++ z) (spans-drop cs (i + n) (numbers cs es s)))
      (λ k hk ne. keep (numbers cs es k)))
