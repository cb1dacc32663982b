-- What changes under labels are changes of the sets.
use Rattle.std.specs.Prelude.{◌≡◌, ℕ, ◌+◌, ◌<◌, ◌≤◌, List, [], ◌∷◌, length, Ok, Err, Result, OnOk, vec_len, ◌≢◌, slice_index}
use Rattle.std.proofs.Math.Path.{fun_ext, refl}
use Rattle.std.proofs.Common.{sym, ap, subst, ◌∙◌, ⊎_elim, arith}
use Rattle.std.proofs.Math.Logic.{∥∥₁_elim}
use native.Mathlib.Nat.{ℕ_set}
use Rattle.std.specs.List.{swap}
use Rattle.std.specs.List.Sorted.{IsPermutation}
use Rattle.std.proofs.lemmas.List.Edits.{Swapped, swapped_from_swap}
use Rattle.std.proofs.lemmas.Bool.{cases_eq, cond-true, cond-false, eq-eqb, ne_eqb}
use Rattle.store.specs.Ranges.{Span, Canonical, with_range, without_range}
use Rattle.store.specs.Sets.{Model, number, with_set, total}
use Rattle.store.specs.Changes.{moved, GrantedIfItFits, Added, Removed}
use Rattle.store.specs.declared.sets.SetName.{SetName}
use Rattle.store.specs.declared.refusal.StoreRefusal.{StoreRefusal}
use Rattle.store.proofs.Models.{number_small, set_of_number, total_follows, added, removed}
use Rattle.rows.specs.declared.labels.Labels.{Labels}
use Rattle.rows.specs.declared.row.Row.{Row}
use Rattle.rows.specs.declared.table.Table.{Table}
use Rattle.rows.specs.Labels.{own}
use Rattle.rows.specs.Owners.{eleven, one_owner, owner}
use Rattle.rows.specs.Rows.{ends_at, Rising, ranges}
use Rattle.rows.specs.Searches.{in_order, in_use}
use Rattle.rows.specs.Tables.{rows_of, Changed, ChangedIfItFits}
use Rattle.rows.specs.Meaning.{labelled}

module _ (ls : List ℕ) (p : ∥ IsPermutation own ls ∥₁) where
  abbrev label : SetName → ℕ
  label s = slice_index ls (number s)

  labels_differ : (s t : SetName) → (number s ≢ number t) → label s ≢ label t
  labels_differ s t ne e = ne (one_owner ls p (number s) (number t) (number_small s) (number_small t) e)

  -- a change under a set's label is a change of the set
  pub one_set : (rs qs : List Row) (s : SetName) (l : ℕ) (spans : List Span) → l ≡ label s → Changed rs l spans qs → labelled ls qs ≡ with_set (labelled ls rs) s spans
  one_set rs qs s l spans e h = fun_ext (λ t. ⊎_elim
      (λ (same : number t ≡ number s). ap (λ n. ranges (slice_index ls n) qs) same ∙ ap (λ n. ranges n qs) (sym e) ∙ h.here ∙ sym (cond-true _ _ _ (eq-eqb (number t) (number s) same)))
      (λ ne. h.others (label t) (λ i. labels_differ t s ne (i ∙ e)) ∙ sym (cond-false _ _ _ (ne_eqb (number t) (number s) ne)))
      (cases_eq (number t) (number s)))

  -- each row is a range of one set
  one_row : (r : Row) (rs : List Row) → r.label < 11 → total (labelled ls (r ∷ rs)) ≡ total (labelled ls rs) + 1
  one_row r rs h = ∥∥₁_elim p (ℕ_set _ _) (λ q.
      let w = owner ls q r.label h in
      let o = set_of_number w.0 w.1 in
      let is : label o.0 ≡ r.label = ap (λ n. slice_index ls n) o.1 ∙ w.2 in
      let spans = (r.low, r.high) ∷ labelled ls rs o.0 in
      let more : labelled ls (r ∷ rs) ≡ with_set (labelled ls rs) o.0 spans = fun_ext (λ t. ⊎_elim
      (λ (same : number t ≡ number o.0).
      let lt : r.label ≡ label t = sym is ∙ ap (λ n. slice_index ls n) (sym same) in
      cond-true _ _ _ (eq-eqb r.label (label t) lt) ∙ ap (λ n. (r.low, r.high) ∷ ranges (slice_index ls n) rs) same ∙ sym (cond-true _ _ _ (eq-eqb (number t) (number o.0) same)))
      (λ ne.
      cond-false _ _ _ (ne_eqb r.label (label t) (λ i. labels_differ t o.0 ne (sym i ∙ sym is))) ∙ sym (cond-false _ _ _ (ne_eqb (number t) (number o.0) ne)))
      (cases_eq (number t) (number o.0))) in
      ap total more ∙ omega (arith, total_follows (labelled ls rs) o.0 spans))

  pub all_counted : (n : ℕ) (rs : List Row) → Rising n rs → total (labelled ls rs) ≡ length rs
  unfolding total
  all_counted n [] f = refl
  all_counted n (r ∷ rs) f = omega (arith, one_row r rs f.1.0, all_counted (ends_at r + 2) rs f.2)

  -- a change under a set's label is granted, or refused, as a change of the set
  pub granted : {X : Type 0} → (limit : ℕ) (rs qs : List Row) (s : SetName) (l : ℕ) (change : List Span → List Span) (r : Result X StoreRefusal) → l ≡ label s → length qs ≤ limit
      → ChangedIfItFits limit rs l (change (ranges l rs)) qs r
      → GrantedIfItFits limit (labelled ls rs) (with_set (labelled ls rs) s (change (labelled ls rs s))) (labelled ls qs) r
  granted limit rs qs s l change (Ok x) e fits h =
      let is = one_set rs qs s l (change (labelled ls rs s)) e (subst (λ n. Changed rs l (change (ranges n rs)) qs) e h) in
      (omega (arith, ap total is, all_counted 0 qs h.in_order), is)
  granted limit rs qs s l change (Err x) e fits h =
      let ws = h.2.0 in
      let is = one_set rs ws s l (change (labelled ls rs s)) e (subst (λ n. Changed rs l (change (ranges n rs)) ws) e h.2.1) in
      (omega (arith, ap total is, all_counted 0 ws h.2.1.in_order, h.2.2), ap (labelled ls) h.1, h.0)

  -- the rows of one set taken out, and its label changed with another's
  pub sets_moved : (rs qs : List Row) (a b : SetName) (l : ℕ) (ls' : List ℕ) → (number a ≢ number b) → l ≡ label b → Changed rs l [] qs → ls' ≡ swap ls (number a) (number b) → labelled ls' qs ≡ moved (labelled ls rs) a b
  sets_moved rs qs a b l ls' ab e h w = fun_ext by_set ∙ sym (cond-false _ _ _ (ne_eqb (number a) (number b) ab))
    where
      swapped : Swapped (λ k. slice_index ls k) (λ k. slice_index ls' k) (number a) (number b)
      swapped = swapped_from_swap ls ls' (number a) (number b) 0 (omega (arith, eleven ls p, number_small a)) (omega (arith, eleven ls p, number_small b)) w

      by_set : (t : SetName) → labelled ls' qs t ≡ with_set (with_set (labelled ls rs) b (labelled ls rs a)) a [] t
      by_set t = ⊎_elim
          (λ (same : number t ≡ number a).
          ap (λ n. ranges n qs) (ap (λ n. slice_index ls' n) same ∙ swapped.0 ∙ sym e) ∙ h.here
          ∙ sym (cond-true _ _ _ (eq-eqb (number t) (number a) same)))
          (λ na. ⊎_elim
          (λ (same : number t ≡ number b).
          ap (λ n. ranges n qs) (ap (λ n. slice_index ls' n) same ∙ swapped.1) ∙ h.others (label a) (λ i. labels_differ a b ab (i ∙ e))
          ∙ sym (cond-false _ _ _ (ne_eqb (number t) (number a) na) ∙ cond-true _ _ _ (eq-eqb (number t) (number b) same)))
          (λ nb.
          ap (λ n. ranges n qs) (swapped.2 (number t) na nb) ∙ h.others (label t) (λ i. labels_differ t b nb (i ∙ e))
          ∙ sym (cond-false _ _ _ (ne_eqb (number t) (number a) na) ∙ cond-false _ _ _ (ne_eqb (number t) (number b) nb)))
          (cases_eq (number t) (number b)))
          (cases_eq (number t) (number a))

-- what was granted, by members
module _ {X : Type 0} (limit : ℕ) (before after : Model) (s : SetName) (lo hi : ℕ) (law : lo ≤ hi) where
  pub granted_added : (r : Result X StoreRefusal) → Canonical (before s) → GrantedIfItFits limit before (with_set before s (with_range lo hi (before s))) after r → OnOk r (Added before after s lo hi)
  granted_added (Ok x) c h = added before after s lo hi h.1 law c
  granted_added (Err e) c h = tt

  pub granted_removed : (r : Result X StoreRefusal) → GrantedIfItFits limit before (with_set before s (without_range lo hi (before s))) after r → OnOk r (Removed before after s lo hi)
  granted_removed (Ok x) h = removed before after s lo hi h.1 law
  granted_removed (Err e) h = tt

-- all ranges together are the rows in use, so they fit
pub all_fit : (t : Table) (l : Labels) → total (labelled l.label (rows_of t)) ≤ vec_len t.memory.places
all_fit t l = omega (arith, t.fits, in_use t, all_counted l.label l.permuted 0 (rows_of t) (in_order t))
