-- The theory of chains.
use Rattle.std.specs.Prelude.{◌≡◌, ℕ, zero, suc, ◌+◌, ◌-◌, ◌<◌, ◌≤◌, true, cond, ◌&&◌, ◌⊎◌, List, [], ◌∷◌, ◌++◌, length, take, drop, ◌==◌, ◌≢◌, nat_lt, slice_index, slice_set, refl}
use Rattle.std.proofs.Common.{sym, ap, subst, ◌∙◌, append_assoc, inl, inr, ⊎_elim, arith, length-set, length-append, take-append-drop}
use Rattle.std.proofs.lemmas.Bool.{and_parts, and_from, leb-true, le-leb, ltb-true, lt-ltb, cases_eq, cases_lt, cond-true, cond-false, eq-eqb, ne_eqb}
use Rattle.std.proofs.lemmas.List.{take_more, drop_more, get_or-set_same, get_or-set_other, set_past}
use Rattle.cells.specs.declared.cell.Cell.{Cell}
use Rattle.cells.specs.declared.cell.Ends.{Ends}
use Rattle.cells.specs.Links.{cell, ends, path, runs, final, numbers, Linked, span, spans}

-- from i along l to e
abbrev pub Seg : List Cell → ℕ → List ℕ → ℕ → Type 0
Seg cs i [] e = i ≡ e
Seg cs i (x ∷ l) e = (i ≡ x) × (x < length cs) × Seg cs (cell cs x).next l e

-- p is not in l
abbrev pub Out : ℕ → List ℕ → Type 0
Out p [] = Unit {0}
Out p (x ∷ l) = (x ≢ p) × Out p l

-- l is a whole chain with these ends
pub record Chain (cs : List Cell) (e : Ends) (l : List ℕ) : Type 0 where
  pub stop : ℕ
  pub seg : Seg cs e.first l stop
  pub over : length cs ≤ stop
  pub len : length l ≡ e.count
  pub last : 0 < e.count → final 0 l ≡ e.last

-- between the test and the chain
runs_path : (cs : List Cell) (n i : ℕ) → runs cs n i ≡ true → (e : ℕ) × (Seg cs i (path cs n i) e × (length cs ≤ e) × (length (path cs n i) ≡ n))
runs_path cs zero i h = (i, (refl, leb-true _ _ h, refl))
runs_path cs (suc n) i h =
    let a = and_parts _ _ h in
    let b = runs_path cs n (cell cs i).next a.1 in
    (b.0, ((refl, ltb-true _ _ a.0, b.1.0), b.1.1, ap suc b.1.2))

seg_path : (cs : List Cell) (i e : ℕ) (l : List ℕ) → Seg cs i l e → path cs (length l) i ≡ l
seg_path cs i e [] s = refl
seg_path cs i e (x ∷ l) s = ap (λ j. j ∷ path cs (length l) (cell cs j).next) s.0 ∙ ap (λ t. x ∷ t) (seg_path cs (cell cs x).next e l s.2)

seg_runs : (cs : List Cell) (i e : ℕ) (l : List ℕ) → Seg cs i l e → length cs ≤ e → runs cs (length l) i ≡ true
seg_runs cs i e [] s h = le-leb _ _ (omega arith)
seg_runs cs i e (x ∷ l) s h =
    ap (λ j. nat_lt j (length cs) && runs cs (length l) (cell cs j).next) s.0
    ∙ and_from _ _ (lt-ltb _ _ s.1) (seg_runs cs (cell cs x).next e l s.2 h)

pub chain_at : (cs : List Cell) (es : List Ends) (k : ℕ) → Linked cs es → k < 12 → Chain cs (ends es k) (numbers cs es k)
chain_at cs es k g h =
    let r = runs_path cs (ends es k).count (ends es k).first (g.0 k h) in
    record { stop = r.0; seg = r.1.0; over = r.1.1; len = r.1.2; last = g.1 k h }

pub chain_path : {cs : List Cell} {e : Ends} {l : List ℕ} → Chain cs e l → path cs e.count e.first ≡ l
chain_path {cs} {e} {l} c = ap (λ n. path cs n e.first) (sym c.len) ∙ seg_path cs e.first c.stop l c.seg

pub chain_runs : {cs : List Cell} {e : Ends} {l : List ℕ} → Chain cs e l → runs cs e.count e.first ≡ true
chain_runs {cs} {e} {l} c = ap (λ n. runs cs n e.first) (sym c.len) ∙ seg_runs cs e.first c.stop l c.seg c.over

-- two paths joined, and one parted
pub seg-++ : (cs : List Cell) (i m e : ℕ) (a b : List ℕ) → Seg cs i a m → Seg cs m b e → Seg cs i (a ++ b) e
seg-++ cs i m e [] b s t = subst (λ j. Seg cs j b e) (sym s) t
seg-++ cs i m e (x ∷ a) b s t = (s.0, s.1, seg-++ cs (cell cs x).next m e a b s.2 t)

-- the cell p of a path, and what goes before and after it
pub seg_at : (cs : List Cell) (i e p : ℕ) (a b : List ℕ) → Seg cs i (a ++ p ∷ b) e → Seg cs i a p × (p < length cs) × Seg cs (cell cs p).next b e
seg_at cs i e p [] b s = (s.0, s.1, s.2)
seg_at cs i e p (x ∷ a) b s = let r = seg_at cs (cell cs x).next e p a b s.2 in ((s.0, s.1, r.0), r.1, r.2)

-- a path goes on in one way
pub seg_unique : (cs : List Cell) (i e f : ℕ) (a b : List ℕ) → Seg cs i a e → Seg cs i b f → length cs ≤ e → length cs ≤ f → a ≡ b
seg_unique cs i e f [] [] s t h k = refl
seg_unique cs i e f [] (y ∷ b) s t h k = absurd (omega (arith, t.0, t.1))
seg_unique cs i e f (x ∷ a) [] s t h k = absurd (omega (arith, s.0, s.1))
seg_unique cs i e f (x ∷ a) (y ∷ b) s t h k =
    let xy : x ≡ y = sym s.0 ∙ t.0 in
    let rest = seg_unique cs (cell cs x).next e f a b s.2 (subst (λ z. Seg cs (cell cs z).next b f) (sym xy) t.2) h k in
    λ j. xy j ∷ rest j

-- p is in l, at some place
abbrev pub Splits : ℕ → List ℕ → Type 0
Splits p l = (a : List ℕ) × ((b : List ℕ) × (l ≡ a ++ p ∷ b))

pub out_or_in : (p : ℕ) (l : List ℕ) → Out p l ⊎ Splits p l
out_or_in p [] = inl tt
out_or_in p (x ∷ l) =
    ⊎_elim
    (λ (is : x ≡ p). inr ([], (l, ap (λ y. y ∷ l) is)))
    (λ not_it. ⊎_elim (λ o. inl (not_it, o)) (λ r. inr (x ∷ r.0, (r.1.0, ap (λ t. x ∷ t) r.1.1))) (out_or_in p l))
    (cases_eq x p)

-- no cell comes twice on a whole chain
pub once : (cs : List Cell) (i e p : ℕ) (a b : List ℕ) → Seg cs i (a ++ p ∷ b) e → length cs ≤ e → Out p a × Out p b
once cs i e p a b s h = (
  ⊎_elim (λ o. o)
      (λ r.
      let whole = subst (λ l. Seg cs i l p) r.1.1 (seg_at cs i e p a b s).0 in
      let one = seg_at cs i p p r.0 r.1.0 whole in
      let two = seg-++ cs (cell cs p).next p e r.1.0 (p ∷ b) one.2 here in
      let same = seg_unique cs p e e (p ∷ (r.1.0 ++ p ∷ b)) (p ∷ b) (refl, one.1, two) here h h in
      absurd (omega (arith, ap length same, length-append r.1.0 (p ∷ b))))
      (out_or_in p a),
  ⊎_elim (λ o. o)
      (λ r.
      let rest = subst (λ l. Seg cs (cell cs p).next l e) r.1.1 here.2 in
      let one = seg_at cs (cell cs p).next e p r.0 r.1.0 rest in
      let same = seg_unique cs p e e (p ∷ (r.0 ++ p ∷ r.1.0)) (p ∷ r.1.0) (refl, here.1, rest) (refl, one.1, one.2) h h in
      absurd (omega (arith, ap length same, length-append r.0 (p ∷ r.1.0))))
      (out_or_in p b),
)
  where
    here : Seg cs p (p ∷ b) e
    here = let t = seg_at cs i e p a b s in (refl, t.1, t.2)

pub final-++ : (d p : ℕ) (a b : List ℕ) → final d (a ++ p ∷ b) ≡ final p b
final-++ d p [] b = refl
final-++ d p (x ∷ a) b = final-++ x p a b

pub out-++ : (p : ℕ) (a b : List ℕ) → Out p a → Out p b → Out p (a ++ b)
out-++ p [] b o q = q
out-++ p (x ∷ a) b o q = (o.0, out-++ p a b o.1 q)

pub out_left : (p : ℕ) (a b : List ℕ) → Out p (a ++ b) → Out p a
out_left p [] b o = tt
out_left p (x ∷ a) b o = (o.0, out_left p a b o.1)

pub out_right : (p : ℕ) (a b : List ℕ) → Out p (a ++ b) → Out p b
out_right p [] b o = o
out_right p (x ∷ a) b o = out_right p a b o.1

-- the final cell of a list is in it
pub final_in : (d : ℕ) (l : List ℕ) → 0 < length l → Splits (final d l) l
final_in d [] h = absurd (omega arith)
final_in d (x ∷ []) h = ([], ([], refl))
final_in d (x ∷ y ∷ l) h = let r = final_in x (y ∷ l) (omega arith) in (x ∷ r.0, (r.1.0, ap (λ t. x ∷ t) r.1.1))

pub out_final : (d p : ℕ) (l : List ℕ) → 0 < length l → Out p l → final d l ≢ p
out_final d p [] h o e = absurd (omega arith)
out_final d p (x ∷ []) h o e = o.0 e
out_final d p (x ∷ y ∷ l) h o e = out_final x p (y ∷ l) (omega arith) o.1 e

-- two chains that share a cell end in the same one
alike : (cs : List Cell) (i j s t p : ℕ) (a b c d : List ℕ) → Seg cs i (a ++ p ∷ b) s → Seg cs j (c ++ p ∷ d) t → length cs ≤ s → length cs ≤ t → final 0 (a ++ p ∷ b) ≡ final 0 (c ++ p ∷ d)
alike cs i j s t p a b c d one two h k =
    let u = seg_at cs i s p a b one in
    let v = seg_at cs j t p c d two in
    let same : p ∷ b ≡ p ∷ d = seg_unique cs p s t (p ∷ b) (p ∷ d) (refl, u.1, u.2) (refl, v.1, v.2) h k in
    final-++ 0 p a b ∙ ap (final 0) same ∙ sym (final-++ 0 p c d)

longer : (a b : List ℕ) (p n : ℕ) → length (a ++ p ∷ b) ≡ n → 0 < n
longer a b p n e = omega (arith, e, length-append a (p ∷ b))

-- a cell of one chain is not on another
pub across : {cs : List Cell} {d e : Ends} {l m : List ℕ} (p : ℕ) (a b : List ℕ) → Chain cs d l → Chain cs e m → l ≡ a ++ p ∷ b → (0 < d.count → 0 < e.count → d.last ≢ e.last) → Out p m
across {cs} {d} {e} {l} {m} p a b c f is ne = ⊎_elim (λ o. o) (λ r. absurd (meet r.0 r.1.0 r.1.1)) (out_or_in p m)
  where
    meet : (a' b' : List ℕ) → m ≢ a' ++ p ∷ b'
    meet a' b' at =
        let dc = longer a b p d.count (ap length (sym is) ∙ c.len) in
        let ec = longer a' b' p e.count (ap length (sym at) ∙ f.len) in
        let same = alike cs d.first e.first c.stop f.stop p a b a' b' (subst (λ t. Seg cs d.first t c.stop) is c.seg) (subst (λ t. Seg cs e.first t f.stop) at f.seg) c.over f.over in
        ne dc ec (sym {a = final 0 l} (c.last dc) ∙ ap (final 0) is ∙ same ∙ ap (final 0) (sym at) ∙ f.last ec)

-- a write to a cell that is not on a path leaves the path
pub seg_frame : (cs : List Cell) (i e p : ℕ) (v : Cell) (l : List ℕ) → Seg cs i l e → Out p l → Seg (slice_set cs p v) i l e
seg_frame cs i e p v [] s o = s
seg_frame cs i e p v (x ∷ l) s o = (
  s.0,
  subst (λ n. x < n) (sym (length-set cs p v)) s.1,
  subst (λ j. Seg (slice_set cs p v) j l e) (sym (ap (λ z. z.next) (get_or-set_other cs p x v _ o.0))) (seg_frame cs (cell cs x).next e p v l s.2 o.1),
)

pub chain_frame : {cs : List Cell} {e : Ends} {l : List ℕ} (p : ℕ) (v : Cell) → Chain cs e l → Out p l → Chain (slice_set cs p v) e l
chain_frame {cs} {e} {l} p v c o = record { stop = c.stop; seg = seg_frame cs e.first c.stop p v l c.seg o; over = subst (λ n. n ≤ c.stop) (sym (length-set cs p v)) c.over; len = c.len; last = c.last }

-- a write that leaves the range of its cell
pub span_keep : (cs : List Cell) (p : ℕ) (v : Cell) (i : ℕ) → v.low ≡ (cell cs p).low → v.high ≡ (cell cs p).high → span (slice_set cs p v) i ≡ span cs i
span_keep cs p v i a b =
    ⊎_elim
    (λ (is : i ≡ p). ⊎_elim
    (λ (h : p < length cs). ap (λ j. span (slice_set cs p v) j) is ∙ ap (λ z. (z.low, z.high)) (get_or-set_same cs p v _ h) ∙ (λ j. (a j, b j)) ∙ ap (span cs) (sym is))
    (λ h. ap (λ t. span t i) (set_past cs p v h))
    (cases_lt p (length cs)))
    (λ ne. ap (λ z. (z.low, z.high)) (get_or-set_other cs p i v _ ne))
    (cases_eq i p)

pub spans_keep : (cs : List Cell) (p : ℕ) (v : Cell) (l : List ℕ) → v.low ≡ (cell cs p).low → v.high ≡ (cell cs p).high → spans (slice_set cs p v) l ≡ spans cs l
spans_keep cs p v [] a b = refl
spans_keep cs p v (x ∷ l) a b = λ j. span_keep cs p v x a b j ∷ spans_keep cs p v l a b j

pub spans_out : (cs : List Cell) (p : ℕ) (v : Cell) (l : List ℕ) → Out p l → spans (slice_set cs p v) l ≡ spans cs l
spans_out cs p v [] o = refl
spans_out cs p v (x ∷ l) o = let a : span (slice_set cs p v) x ≡ span cs x = ap (λ z. (z.low, z.high)) (get_or-set_other cs p x v _ o.0) in λ j. a j ∷ spans_out cs p v l o.1 j

pub spans-++ : (cs : List Cell) (a b : List ℕ) → spans cs (a ++ b) ≡ spans cs a ++ spans cs b
spans-++ cs [] b = refl
spans-++ cs (x ∷ a) b = ap (λ t. span cs x ∷ t) (spans-++ cs a b)

pub spans-length : (cs : List Cell) (l : List ℕ) → length (spans cs l) ≡ length l
spans-length cs [] = refl
spans-length cs (x ∷ l) = ap suc (spans-length cs l)

pub spans-take : (cs : List Cell) (n : ℕ) (l : List ℕ) → spans cs (take n l) ≡ take n (spans cs l)
spans-take cs zero l = refl
spans-take cs (suc n) [] = refl
spans-take cs (suc n) (x ∷ l) = ap (λ t. span cs x ∷ t) (spans-take cs n l)

pub spans-drop : (cs : List Cell) (n : ℕ) (l : List ℕ) → spans cs (drop n l) ≡ drop n (spans cs l)
spans-drop cs zero l = refl
spans-drop cs (suc n) [] = refl
spans-drop cs (suc n) (x ∷ l) = spans-drop cs n l

-- a list at the place i
pub parts : (l : List ℕ) (i : ℕ) → i < length l → l ≡ take i l ++ slice_index l i ∷ drop (i + 1) l
parts l i h = sym (take-append-drop i l) ∙ ap (λ t. take i l ++ t) (drop_more l i 0 h)

pub final_any : (c d : ℕ) (l : List ℕ) → 0 < length l → final c l ≡ final d l
final_any c d [] h = absurd (omega arith)
final_any c d (x ∷ l) h = refl

pub last_of_rest : (f p t : ℕ) (b : List ℕ) → final p b ≡ t → Out p b → final f b ≡ cond (t == p) f t
last_of_rest f p t [] e o = sym (cond-true _ _ _ (eq-eqb t p (sym e)))
last_of_rest f p t (x ∷ b) e o = e ∙ sym (cond-false _ _ _ (ne_eqb t p (λ i. out_final x p (x ∷ b) (omega arith) o (e ∙ i))))

pub last_of_more : (f p t : ℕ) (b : List ℕ) → final p b ≡ t → final f b ≡ cond (length b == 0) f t
last_of_more f p t [] e = sym (cond-true (0 == 0) f t (eq-eqb 0 0 refl))
last_of_more f p t (x ∷ b) e = e ∙ sym (cond-false (length (x ∷ b) == 0) f t (ne_eqb (length (x ∷ b)) 0 (omega arith)))

pub last_of_free : {cs : List Cell} {e : Ends} {r : List ℕ} (p : ℕ) → Chain cs e r → final p r ≡ cond (e.count == 0) p e.last
last_of_free {cs} {e} {r} p c = go r c.len c.last
  where
    go : (r : List ℕ) → length r ≡ e.count → (0 < e.count → final 0 r ≡ e.last) → final p r ≡ cond (e.count == 0) p e.last
    go [] n t = sym (cond-true _ _ _ (eq-eqb e.count 0 (sym n)))
    go (z ∷ r) n t = t (omega arith) ∙ sym (cond-false _ _ _ (ne_eqb e.count 0 (omega arith)))

-- a path to p, which now leads on to another
pub seg_join : (cs : List Cell) (i p e : ℕ) (v : Cell) (a r : List ℕ) → Seg cs i a p → p < length cs → Out p a → Seg (slice_set cs p v) v.next r e → Seg (slice_set cs p v) i (a ++ p ∷ r) e
seg_join cs i p e v a r s h o t =
    seg-++ (slice_set cs p v) i p e a (p ∷ r) (seg_frame cs i p p v a s o)
    (refl, subst (λ n. p < n) (sym (length-set cs p v)) h, subst (λ j. Seg (slice_set cs p v) j r e) (sym (ap (λ z. z.next) (get_or-set_same cs p v _ h))) t)

pub spans_put : (cs : List Cell) (p : ℕ) (v : Cell) (a b : List ℕ) → p < length cs → Out p a → Out p b → spans (slice_set cs p v) (a ++ p ∷ b) ≡ spans cs a ++ (v.low, v.high) ∷ spans cs b
spans_put cs p v a b h o q =
    let e : span (slice_set cs p v) p ≡ (v.low, v.high) = ap (λ z. (z.low, z.high)) (get_or-set_same cs p v _ h) in
    spans-++ (slice_set cs p v) a (p ∷ b) ∙ ap (λ t. t ++ spans (slice_set cs p v) (p ∷ b)) (spans_out cs p v a o)
    ∙ ap (λ t. spans cs a ++ t) (λ j. e j ∷ spans_out cs p v b q j)

-- the cell before the place i
pub parts_before : (l : List ℕ) (i p : ℕ) → 0 < i → i ≤ length l → slice_index l (i - 1) ≡ p → l ≡ take (i - 1) l ++ p ∷ drop i l
parts_before l i p h k e =
    let z : i - 1 + 1 ≡ i = omega arith in
    parts l (i - 1) (omega arith) ∙ ap (λ q. take (i - 1) l ++ q ∷ drop (i - 1 + 1) l) e ∙ ap (λ n. take (i - 1) l ++ p ∷ drop n l) z

pub take_before : (l : List ℕ) (i p : ℕ) (m : List ℕ) → 0 < i → i ≤ length l → slice_index l (i - 1) ≡ p → take (i - 1) l ++ p ∷ m ≡ take i l ++ m
take_before l i p m h k e =
    let z : i - 1 + 1 ≡ i = omega arith in
    sym (append_assoc (take (i - 1) l) (p ∷ []) m) ∙ ap (λ t. t ++ m) (ap (λ q. take (i - 1) l ++ q ∷ []) (sym e) ∙ sym (take_more l (i - 1) 0 (omega arith)) ∙ ap (λ n. take n l) z)

pub out-take : (p n : ℕ) (l : List ℕ) → Out p l → Out p (take n l)
out-take p n l o = out_left p (take n l) (drop n l) (subst (Out p) (sym (take-append-drop n l)) o)

pub out-drop : (p n : ℕ) (l : List ℕ) → Out p l → Out p (drop n l)
out-drop p n l o = out_right p (take n l) (drop n l) (subst (Out p) (sym (take-append-drop n l)) o)
