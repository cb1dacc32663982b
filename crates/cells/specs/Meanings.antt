-- What changes of chains are for the sets.
use Rattle.std.specs.Prelude.{◌≡◌, ℕ, ◌+◌, ◌<◌, true, List, [], length, Ok, Err, vec_len, Result, OnOk, ◌≢◌}
use Rattle.std.proofs.Math.Path.{fun_ext}
use Rattle.std.proofs.Common.{sym, ap, subst, ◌∙◌, ⊎_elim, arith}
use Rattle.std.proofs.lemmas.Bool.{cases_eq, cond-true, cond-false, eq-eqb, ne_eqb}
use Rattle.store.specs.Ranges.{Span, Canonical}
use Rattle.store.specs.Sets.{number, with_set, total}
use Rattle.store.specs.Changes.{moved, GrantedIfItFits}
use Rattle.store.specs.declared.sets.SetName.{SetName}
use Rattle.store.specs.declared.refusal.StoreRefusal.{StoreRefusal}
use Rattle.store.proofs.Models.{number_small, total_follows}
use Rattle.cells.specs.declared.cells_store.CellStore.{CellStore}
use Rattle.cells.specs.declared.chains.Chain.{Chain}
use Rattle.cells.specs.declared.chains.Chains.{Chains}
use Rattle.cells.specs.Chains.{ranges_of, free_of, Changed, ChangedIfItFits}
use Rattle.cells.specs.Places.{in_order}
use Rattle.cells.specs.Finds.{in_order_from, in_order_test}
use Rattle.cells.specs.Totals.{model_of, all_used}

-- a change of a set's chain is a change of the set
pub one_set : (x y : Chains) (k : ℕ) (set : SetName) (rs : List Span) → k ≡ number set → Changed x y k rs → model_of y ≡ with_set (model_of x) set rs
one_set x y k set rs e c = fun_ext (λ t. ⊎_elim
    (λ (same : number t ≡ number set). ap (ranges_of y) (same ∙ sym e) ∙ c.here ∙ sym (cond-true _ _ _ (eq-eqb (number t) (number set) same)))
    (λ ne. c.others (number t) (number_small t) (λ i. ne (i ∙ e)) ∙ sym (cond-false _ _ _ (ne_eqb (number t) (number set) ne)))
    (cases_eq (number t) (number set)))

-- and is granted, or refused, as one; where it is granted, what the change means holds
pub granted : {X : Type 0} (x y : Chains) (k : ℕ) (set : SetName) (change : List Span → List Span) (r : Result X StoreRefusal) (Means : Type 0) → k ≡ number set → ChangedIfItFits x y k (change (ranges_of x k)) r
    → (model_of y ≡ with_set (model_of x) set (change (model_of x set)) → Means)
    → GrantedIfItFits (vec_len x.cells) (model_of x) (with_set (model_of x) set (change (model_of x set))) (model_of y) r × OnOk r Means
granted x y k set change (Ok v) Means e c means =
    let is = one_set x y k set (change (model_of x set)) e (subst (λ n. Changed x y k (change (ranges_of x n))) e c) in
    ((omega (arith, ap total is, all_used y, c.room), is), means is)
granted x y k set change (Err f) Means e c means =
    let more = subst (λ n. length (ranges_of x n) + free_of x < length (change (ranges_of x n))) e c.2 in
    ((omega (arith, more, total_follows (model_of x) set (change (model_of x set)), all_used x), ap model_of c.1, c.0), tt)

-- the sets' ranges are in order
abbrev pub Ordered : Chains → Type 0
Ordered x = (k : ℕ) → k < 11 → in_order 0 (ranges_of x k) ≡ true

pub canonical : (x : Chains) → Ordered x → (k : ℕ) → k < 11 → Canonical (ranges_of x k)
canonical x o k h = in_order_from 0 (ranges_of x k) (o k h)

pub ordered_at : (x : CellStore) (chain : Chain) → Canonical (ranges_of x.chains chain.number)
ordered_at x chain = canonical x.chains x.ordered chain.number chain.small

-- and stay so where the changed chain's are
pub still_ordered : (x y : Chains) (k : ℕ) (rs : List Span) → Ordered x → Canonical rs → Changed x y k rs → Ordered y
still_ordered x y k rs o f c j h =
    ⊎_elim
    (λ (e : j ≡ k). ap (λ n. in_order 0 (ranges_of y n)) e ∙ ap (in_order 0) c.here ∙ in_order_test 0 rs f)
    (λ ne. ap (in_order 0) (c.others j h ne) ∙ o j h)
    (cases_eq j k)

pub ordered_if_it_fits : {X : Type 0} (x y : Chains) (k : ℕ) (rs : List Span) (r : Result X StoreRefusal) → Ordered x → Canonical rs → ChangedIfItFits x y k rs r → Ordered y
ordered_if_it_fits x y k rs (Ok v) o f c = still_ordered x y k rs o f c
ordered_if_it_fits x y k rs (Err e) o f c = subst Ordered (sym c.1) o

pub same_room : {X : Type 0} (x y : Chains) (k : ℕ) (rs : List Span) (r : Result X StoreRefusal) → ChangedIfItFits x y k rs r → vec_len y.cells ≡ vec_len x.cells
same_room x y k rs (Ok v) c = c.room
same_room x y k rs (Err e) c = ap (λ z. vec_len z.cells) c.1

-- one set's chain emptied, and then exchanged with another's
module _ (x y z : Chains) (a b : SetName) (ne : number a ≡ number b → ⊥) (j k : ℕ) (ja : j ≡ number a) (kb : k ≡ number b) (cleared : Changed x y k [])
    (one : ranges_of z j ≡ ranges_of y k) (two : ranges_of z k ≡ ranges_of y j) (others : (o : ℕ) → o < 11 → (o ≢ j) → (o ≢ k) → ranges_of z o ≡ ranges_of y o) where
  pub sets_moved : model_of z ≡ moved (model_of x) a b
  sets_moved = fun_ext (λ t. ⊎_elim
      (λ (same : number t ≡ number a).
      ap (ranges_of z) (same ∙ sym ja) ∙ one ∙ cleared.here ∙ sym (cond-true _ _ _ (eq-eqb (number t) (number a) same)))
      (λ na. ⊎_elim
      (λ (same : number t ≡ number b).
      ap (ranges_of z) (same ∙ sym kb) ∙ two ∙ cleared.others j (subst (λ n. n < 11) (sym ja) (number_small a)) (λ i. ne (sym ja ∙ i ∙ kb)) ∙ ap (ranges_of x) ja
      ∙ sym (cond-false _ _ _ (ne_eqb (number t) (number a) na) ∙ cond-true _ _ _ (eq-eqb (number t) (number b) same)))
      (λ nb.
      others (number t) (number_small t) (λ i. na (i ∙ ja)) (λ i. nb (i ∙ kb)) ∙ cleared.others (number t) (number_small t) (λ i. nb (i ∙ kb))
      ∙ sym (cond-false _ _ _ (ne_eqb (number t) (number a) na) ∙ cond-false _ _ _ (ne_eqb (number t) (number b) nb)))
      (cases_eq (number t) (number b)))
      (cases_eq (number t) (number a)))
      ∙ sym (cond-false _ _ _ (ne_eqb (number a) (number b) ne))

  pub moved_ordered : Ordered x → Ordered z
  moved_ordered o i h =
      let oy : Ordered y = still_ordered x y k [] o tt cleared in
      ⊎_elim
      (λ (e : i ≡ j). ap (λ n. in_order 0 (ranges_of z n)) e ∙ ap (in_order 0) one ∙ oy k (subst (λ n. n < 11) (sym kb) (number_small b)))
      (λ ni. ⊎_elim
      (λ (e : i ≡ k). ap (λ n. in_order 0 (ranges_of z n)) e ∙ ap (in_order 0) two ∙ oy j (subst (λ n. n < 11) (sym ja) (number_small a)))
      (λ nk. ap (in_order 0) (others i h ni nk) ∙ oy i h)
      (cases_eq i k))
      (cases_eq i j)
