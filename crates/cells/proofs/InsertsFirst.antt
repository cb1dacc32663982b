-- A free cell linked into a chain as its first, or at any gap.
use Rattle.std.proofs.Common.{◌≡◌, ◌≢◌, ℕ, zero, suc, ◌+◌, ◌-◌, ◌<◌, ◌≤◌, Bool, false, cond, eqb, ◌⊎◌, Option, List, [], ◌∷◌, length, get_or, set, sym, refl, ap, ◌∙◌, subst, inl, inr, ⊎_elim, arith, length-set}
use Rattle.std.proofs.lemmas.Bool.{cases_eq, cond-true, cond-false, eq-eqb, ne_eqb, cond_both, eqb-false}
use Rattle.std.proofs.lemmas.List.{get_or-set_same}
use Rattle.cells.specs.declared.cell.Cell.{Cell}
use Rattle.cells.specs.declared.cell.Ends.{Ends}
use Rattle.cells.specs.Links.{cell, ends, numbers, final, Linked, spans}
use Rattle.cells.specs.Segs.{Seg, Out, Chain, Splits, chain_at, chain_frame, once, seg_at, seg_frame, final_any, last_of_free, out_final, spans_out, spans_put}
use Rattle.cells.specs.Relinks.{link, relinked, with_link, Change, make, elsewhere, last_is_in, first_inside}
use Rattle.cells.specs.Chains.{before_place}
use Rattle.cells.proofs.Inserts.{After, first_from, inserted}

eqb_swap : (a b : ℕ) → eqb a b ≡ eqb b a
eqb_swap a b = ⊎_elim (λ (e : a ≡ b). eq-eqb a b e ∙ sym (eq-eqb b a (sym e))) (λ ne. ne_eqb a b ne ∙ sym (ne_eqb b a (λ e. ne (sym e)))) (cases_eq a b)

module _ (cs : List Cell) (es : List Ends) (s f : ℕ) (r : List ℕ) (v : Cell) where
  begin : Linked cs es → length es ≡ 12 → s < 11 → numbers cs es 11 ≡ f ∷ r → v.next ≡ (ends es s).first → Change cs (set cs f v) es s 11 (record { first = f; last = cond (eqb (ends es s).count 0) f (ends es s).last; count = (ends es s).count + 1 }) (record { first = (cell cs f).next; last = (ends es 11).last; count = (ends es 11).count - 1 }) (f ∷ numbers cs es s) r
  begin g long h fr vn = record {
    long = long;
    cells = length-set cs f v;
    s< = omega arith;
    f< = omega arith;
    apart = λ e. omega arith;
    first = record {
      stop = c.stop;
      seg = (refl, subst (λ z. f < z) (sym (length-set cs f v)) cutf.1, subst (λ j. Seg (set cs f v) j (numbers cs es s) c.stop) (sym (ap (λ z. z.next) (get_or-set_same cs f v _ cutf.1) ∙ vn)) (seg_frame cs (ends es s).first c.stop f v (numbers cs es s) c.seg offf));
      over = subst (λ z. z ≤ c.stop) (sym (length-set cs f v)) c.over;
      len = omega (arith, c.len);
      last = λ _. last_of_free f c;
    };
    second = record {
      stop = e.stop;
      seg = seg_frame cs (cell cs f).next e.stop f v r cutf.2 outf;
      over = subst (λ z. z ≤ e.stop) (sym (length-set cs f v)) e.over;
      len = omega (arith, spare);
      last = λ pos. final_any 0 f r (omega (arith, spare)) ∙ ap (final 0) (sym fr) ∙ e.last (omega arith);
    };
    others = λ k hk ns nf. chain_frame f v (chain_at cs es k g hk) (elsewhere cs es 11 k f g (omega arith) hk (λ i. nf (sym i)) heref);
    counts = omega (arith, spare);
    from_x = λ pos. cond_both (eqb (ends es s).count 0) f (ends es s).last (λ z. Splits z (numbers cs es s) ⊎ Splits z (numbers cs es 11)) (λ _. inr heref) (λ n. inl (last_is_in cs es s g (omega arith) (some n)));
    from_y = λ pos. inr (last_is_in cs es 11 g (omega arith) (omega arith));
    differ = λ _ pos. cond_both (eqb (ends es s).count 0) f (ends es s).last (λ z. z ≡ (ends es 11).last → ⊥)
        (λ _ i. out_final 0 f r (omega (arith, spare)) outf (final_any 0 f r (omega (arith, spare)) ∙ ap (final 0) (sym fr) ∙ e.last (omega arith) ∙ sym i))
        (λ n i. let same = g.2 s 11 (omega arith, omega arith, some n, omega arith, i) in omega arith);
  }
    where
      c : Chain cs (ends es s) (numbers cs es s)
      c = chain_at cs es s g (omega arith)

      e : Chain cs (ends es 11) (numbers cs es 11)
      e = chain_at cs es 11 g (omega arith)

      wayf : Seg cs (ends es 11).first (f ∷ r) e.stop
      wayf = subst (λ l. Seg cs (ends es 11).first l e.stop) fr e.seg

      cutf : Seg cs (ends es 11).first [] f × (f < length cs) × Seg cs (cell cs f).next r e.stop
      cutf = seg_at cs (ends es 11).first e.stop f [] r wayf

      outf : Out f r
      outf = (once cs (ends es 11).first e.stop f [] r wayf e.over).1

      heref : Splits f (numbers cs es 11)
      heref = ([], (r, fr))

      offf : Out f (numbers cs es s)
      offf = elsewhere cs es 11 s f g (omega arith) (omega arith) (λ i. omega arith) heref

      spare : (ends es 11).count ≡ 1 + length r
      spare = sym e.len ∙ ap length fr ∙ omega arith

      some : eqb (ends es s).count 0 ≡ false → 0 < (ends es s).count
      some n = ⊎_elim (λ (z : (ends es s).count ≡ 0). absurd (eqb-false _ _ n z)) (λ z. omega arith) (cases_eq (ends es s).count 0)

module _ (cs : List Cell) (es : List Ends) (s lo hi : ℕ) (g : Linked cs es) (long : length es ≡ 12) (h : s < 11) (room : 0 < (ends es 11).count) where
  abbrev f : ℕ
  f = (ends es 11).first

  pub inserted_first : (t : ℕ) → cond (eqb (ends es s).count 0) f (ends es s).last ≡ t → After cs es s 0 lo hi cs (record { first = f; last = t; count = (ends es s).count + 1 }) (ends es s).first (cell cs f).next
  inserted_first t te =
      let v : Cell = record { low = lo; high = hi; next = (ends es s).first } in
      let fr = first_from cs es 11 room in
      let off : (k : ℕ) → k < 11 → Out f (numbers cs es k) = λ k hk. elsewhere cs es 11 k f g (omega arith) (omega arith) (λ i. omega arith) ([], (fr.0, fr.1)) in
      subst (λ z. After cs es s 0 lo hi cs (record { first = f; last = z; count = (ends es s).count + 1 }) (ends es s).first (cell cs f).next) te
      (make cs (set cs f v) es s _ _ (f ∷ numbers cs es s) fr.0 ((lo, hi) ∷ spans cs (numbers cs es s)) g h
      (begin cs es s f fr.0 v g long h fr.1 refl)
      (spans_put cs f v [] (numbers cs es s) (first_inside cs es 11 g.0 (omega arith) room) tt (off s h))
      (λ k hk ne. spans_out cs f v (numbers cs es k) (off k hk)))

-- the ends of a chain with one cell more, f, which is the last one if the test holds
abbrev pub grown : Ends → Bool → ℕ → Ends
grown e test f = record { first = e.first; last = cond test f e.last; count = e.count + 1 }

module _ (z e : Ends) (a b f : ℕ) where
  pub grown_behind : a ≡ b → z ≡ record { first = e.first; last = f; count = e.count } → record { first = z.first; last = z.last; count = z.count + 1 } ≡ grown e (eqb a b) f
  grown_behind i is = ap (λ o. record { first = o.first; last = o.last; count = o.count + 1 }) is ∙ ap (λ t. record { first = e.first; last = t; count = e.count + 1 }) (sym (cond-true (eqb a b) f e.last (eq-eqb a b i)))

  pub grown_within : a ≢ b → z ≡ e → record { first = z.first; last = z.last; count = z.count + 1 } ≡ grown e (eqb a b) f
  grown_within i is = ap (λ o. record { first = o.first; last = o.last; count = o.count + 1 }) is ∙ ap (λ t. record { first = e.first; last = t; count = e.count + 1 }) (sym (cond-false (eqb a b) f e.last (ne_eqb a b i)))

-- at a gap, whether or not there is a cell before it
module _ (cs : List Cell) (es : List Ends) (s lo hi : ℕ) (g : Linked cs es) (long : length es ≡ 12) (h : s < 11) (room : 0 < (ends es 11).count) where
  base : (i : ℕ) → i ≤ (ends es s).count
      → (let w = before_place (numbers cs es s) i in let x = grown (ends es s) (eqb i (ends es s).count) (ends es 11).first in After cs es s i lo hi (relinked cs w (ends es 11).first) (with_link x w (ends es 11).first) (link cs x w) (cell cs (ends es 11).first).next)
  base zero l = inserted_first cs es s lo hi g long h room _ (ap (λ z. cond z (ends es 11).first (ends es s).last) (eqb_swap (ends es s).count 0))
  base (suc j) l =
      let z : suc j - 1 ≡ j = omega arith in
      inserted cs es s (suc j) (get_or (numbers cs es s) j 0) lo hi g long h (omega arith) l room (ap (λ n. get_or (numbers cs es s) n 0) z) _ refl

  pub inserted_at : (i : ℕ) → i ≤ (ends es s).count → (before : Option ℕ) → before ≡ before_place (numbers cs es s) i → (x : Ends) → x ≡ grown (ends es s) (eqb i (ends es s).count) (ends es 11).first
      → (ds : List Cell) → ds ≡ relinked cs before (ends es 11).first → (e : Ends) → e ≡ with_link x before (ends es 11).first → (n : ℕ) → n ≡ link cs x before → (c : Cell) → cell cs (ends es 11).first ≡ c → After cs es s i lo hi ds e n c.next
  inserted_at i l before at x xe ds a e b n d c ce =
      let f = (ends es 11).first in
      let w = before_place (numbers cs es s) i in
      let y = grown (ends es s) (eqb i (ends es s).count) f in
      subst (λ z. After cs es s i lo hi z e n c.next) (sym (a ∙ ap (λ o. relinked cs o f) at))
      (subst (λ z. After cs es s i lo hi (relinked cs w f) z n c.next) (sym (b ∙ ap (λ z. with_link z before f) xe ∙ ap (λ o. with_link y o f) at))
      (subst (λ z. After cs es s i lo hi (relinked cs w f) (with_link y w f) z c.next) (sym (d ∙ ap (λ z. link cs z before) xe ∙ ap (link cs y) at))
      (subst (λ z. After cs es s i lo hi (relinked cs w f) (with_link y w f) (link cs y w) z.next) ce (base i l))))
