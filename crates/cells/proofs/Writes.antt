-- A cell written whose link stays, and two chains exchanged.
use Rattle.std.proofs.Common.{◌≡◌, ℕ, zero, suc, ◌+◌, ◌<◌, ◌&&◌, ltb, leb, List, [], ◌∷◌, ◌++◌, length, get_or, take, drop, set, sym, refl, ap, ◌∙◌, subst, inl, inr, ⊎_elim, arith, length-set}
use Rattle.std.proofs.lemmas.Bool.{cases_eq, cases_lt}
use Rattle.std.specs.List.{swap}
use Rattle.std.proofs.lemmas.List.{set_past, get_or_default, get_or-set_same, get_or-set_other}
use Rattle.cells.specs.declared.cell.Cell.{Cell}
use Rattle.cells.specs.declared.cell.Ends.{Ends}
use Rattle.cells.specs.Links.{cell, ends, path, runs, final, numbers, sum, Running, Ending, Parted, Linked, spans}
use Rattle.cells.specs.Segs.{Seg, chain_at, once, seg_at, spans_out, spans_put, spans-take, spans-drop, parts}
use Rattle.cells.specs.Relinks.{running, ending, parted, whole, numbers_s, numbers_f, numbers_k, Change, Made, elsewhere, last_is_in}

next_keep : (cs : List Cell) (p : ℕ) (v : Cell) (i : ℕ) → v.next ≡ (cell cs p).next → (cell (set cs p v) i).next ≡ (cell cs i).next
next_keep cs p v i e =
    ⊎_elim
    (λ (is : i ≡ p). ⊎_elim
    (λ (h : p < length cs). ap (λ j. (cell (set cs p v) j).next) is ∙ ap (λ z. z.next) (get_or-set_same cs p v _ h) ∙ e ∙ ap (λ j. (cell cs j).next) (sym is))
    (λ h. ap (λ t. (cell t i).next) (set_past cs p v h))
    (cases_lt p (length cs)))
    (λ ne. ap (λ z. z.next) (get_or-set_other cs p i v _ ne))
    (cases_eq i p)

pub path_keep : (cs : List Cell) (p : ℕ) (v : Cell) (n i : ℕ) → v.next ≡ (cell cs p).next → path (set cs p v) n i ≡ path cs n i
path_keep cs p v zero i e = refl
path_keep cs p v (suc n) i e = ap (λ j. i ∷ path (set cs p v) n j) (next_keep cs p v i e) ∙ ap (λ t. i ∷ t) (path_keep cs p v n (cell cs i).next e)

runs_keep : (cs : List Cell) (p : ℕ) (v : Cell) (n i : ℕ) → v.next ≡ (cell cs p).next → runs (set cs p v) n i ≡ runs cs n i
runs_keep cs p v zero i e = ap (λ m. leb m i) (length-set cs p v)
runs_keep cs p v (suc n) i e =
    ap (λ m. ltb i m && runs (set cs p v) n (cell (set cs p v) i).next) (length-set cs p v)
    ∙ ap (λ j. ltb i (length cs) && runs (set cs p v) n j) (next_keep cs p v i e)
    ∙ ap (λ b. ltb i (length cs) && b) (runs_keep cs p v n (cell cs i).next e)

abbrev pub After : List Cell → List Ends → ℕ → ℕ → ℕ → ℕ → ℕ → Cell → Type 0
After cs es s i q lo hi cq = Made cs (set cs q (record { low = lo; high = hi; next = cq.next })) es es s (numbers cs es s) (take i (spans cs (numbers cs es s)) ++ (lo, hi) ∷ drop (i + 1) (spans cs (numbers cs es s))) (ends es 11).count

module _ (cs : List Cell) (es : List Ends) (s i q lo hi : ℕ) (g : Linked cs es) (long : length es ≡ 12) (h : s < 11) (l : i < (ends es s).count) (at : get_or (numbers cs es s) i 0 ≡ q) where
  base : After cs es s i q lo hi (cell cs q)
  base =
      let v : Cell = record { low = lo; high = hi; next = (cell cs q).next } in
      let c = chain_at cs es s g (omega arith) in
      let a = take i (numbers cs es s) in
      let b = drop (i + 1) (numbers cs es s) in
      let is : numbers cs es s ≡ a ++ q ∷ b = parts (numbers cs es s) i (omega (arith, c.len)) ∙ ap (λ z. take i (numbers cs es s) ++ z ∷ drop (i + 1) (numbers cs es s)) at in
      let way = subst (λ l. Seg cs (ends es s).first l c.stop) is c.seg in
      let out = once cs (ends es s).first c.stop q a b way c.over in
      let cut = seg_at cs (ends es s).first c.stop q a b way in
      let same : (k : ℕ) → numbers (set cs q v) es k ≡ numbers cs es k = λ k. path_keep cs q v (ends es k).count (ends es k).first refl in
      record {
        cells = length-set cs q v;
        twelve = long;
        running = λ k hk. runs_keep cs q v (ends es k).count (ends es k).first refl ∙ g.0 k hk;
        ending = λ k hk pos. ap (final 0) (same k) ∙ g.1 k hk pos;
        parted = g.2;
        whole = g.3;
        numbers_here = same s;
        free = refl;
        here = ap (spans (set cs q v)) (same s ∙ is) ∙ spans_put cs q v a b cut.1 out.0 out.1
            ∙ ap (λ z. z ++ (lo, hi) ∷ spans cs (drop (i + 1) (numbers cs es s))) (spans-take cs i (numbers cs es s))
            ∙ ap (λ z. take i (spans cs (numbers cs es s)) ++ (lo, hi) ∷ z) (spans-drop cs (i + 1) (numbers cs es s));
        others = λ k hk ne. ap (spans (set cs q v)) (same k) ∙ spans_out cs q v (numbers cs es k) (elsewhere cs es s k q g (omega arith) (omega arith) (λ e. ne (sym e)) (a, (b, is)));
      }

  pub written : (cq : Cell) → cell cs q ≡ cq → After cs es s i q lo hi cq
  written cq e = subst (After cs es s i q lo hi) e base

swap_is : (es : List Ends) (a b : ℕ) → a < length es → b < length es → swap es a b ≡ set (set es a (ends es b)) b (ends es a)
swap_is [] a b h k = absurd (omega arith)
swap_is (e ∷ es) a b h k =
    let none : Ends = record { first = 0; last = 0; count = 0 } in
    λ i. set (set (e ∷ es) a (get_or_default (e ∷ es) b e none k i)) b (get_or_default (e ∷ es) a e none h i)

-- what is left by an exchange of two chains
pub record Swapped (cs : List Cell) (es es' : List Ends) (a b : ℕ) : Type 0 where
  pub twelve : length es' ≡ 12
  pub running : Running cs es'
  pub ending : Ending cs es'
  pub parted : Parted es'
  pub whole : sum es' ≡ length cs
  pub one : numbers cs es' a ≡ numbers cs es b
  pub two : numbers cs es' b ≡ numbers cs es a
  pub others : (k : ℕ) → k < 11 → (k ≡ a → ⊥) → (k ≡ b → ⊥) → numbers cs es' k ≡ numbers cs es k

module _ (cs : List Cell) (es : List Ends) (a b : ℕ) (g : Linked cs es) (long : length es ≡ 12) (ha : a < 11) (hb : b < 11) (ne : a ≡ b → ⊥) where
  swap_change : Change cs cs es a b (ends es b) (ends es a) (numbers cs es b) (numbers cs es a)
  swap_change = record {
    long = long;
    cells = refl;
    s< = omega arith;
    f< = omega arith;
    apart = ne;
    first = chain_at cs es b g (omega arith);
    second = chain_at cs es a g (omega arith);
    others = λ k hk _ _. chain_at cs es k g hk;
    counts = omega arith;
    from_x = λ pos. inr (last_is_in cs es b g (omega arith) pos);
    from_y = λ pos. inl (last_is_in cs es a g (omega arith) pos);
    differ = λ pb pa e. ne (sym (g.2 b a (omega arith, omega arith, pb, pa, e)));
  }

  written_both : Swapped cs es (set (set es a (ends es b)) b (ends es a)) a b
  written_both = record {
    twelve = length-set (set es a (ends es b)) b (ends es a) ∙ length-set es a (ends es b) ∙ long;
    running = running cs cs es a b _ _ _ _ g swap_change;
    ending = ending cs cs es a b _ _ _ _ g swap_change;
    parted = parted cs cs es a b _ _ _ _ g swap_change;
    whole = whole cs cs es a b _ _ _ _ g swap_change;
    one = numbers_s cs cs es a b _ _ _ _ g swap_change;
    two = numbers_f cs cs es a b _ _ _ _ g swap_change;
    others = λ k hk na nb. numbers_k cs cs es a b _ _ _ _ g swap_change k (omega arith) na nb;
  }

  pub swapped : (fs : List Ends) → fs ≡ swap es a b → Swapped cs es fs a b
  swapped fs e = subst (λ z. Swapped cs es z a b) (sym (e ∙ swap_is es a b (omega (arith, long)) (omega (arith, long)))) written_both
