-- One set of the eleven changed: the others, the total and the members.
use Rattle.std.proofs.Common.{◌≡◌, ℕ, ◌+◌, ◌<◌, ◌≤◌, List, [], length, Some, None, sym, refl, ap, ◌∙◌, ⊎_elim, arith, lit<}
use Rattle.std.proofs.lemmas.Bool.{eq-eqb, ne_eqb, cases_eq, cond-true, cond-false}
use Rattle.std.proofs.lemmas.Bool.Decides.{nat_tests}
use Rattle.store.specs.Ranges.{Span, has, Canonical}
use Rattle.store.specs.Sets.{Model, nothing, number, numbered, with_set, total}
use Rattle.store.specs.Changes.{put_into, taken_from, moved, cleared, Added, Removed, Emptied, Moved}
use Rattle.store.specs.declared.sets.SetName.{SetName}
use Rattle.store.specs.declared.sets.SetName.TheVariants.{KeptGiven, KeptSeen, KeptSeenFai, KeptRead, TrackedGiven, TrackedSeen, TrackedSeenFai, ToldGiven, ToldSeen, ToldSeenFai, ToldRead}
use Rattle.store.proofs.Adding.{adding_members}
use Rattle.store.proofs.Removing.{removing_members}

pub this_set : (m : Model) (set : SetName) (rs : List Span) → with_set m set rs set ≡ rs
this_set m set rs = cond-true _ _ _ (eq-eqb (number set) (number set) refl)

pub other_set : (m : Model) (set other : SetName) (rs : List Span) → (number other ≡ number set → ⊥) → with_set m set rs other ≡ m other
other_set m set other rs ne = cond-false _ _ _ (ne_eqb (number other) (number set) ne)

pub total_follows : (m : Model) (set : SetName) (rs : List Span) → total (with_set m set rs) + length (m set) ≡ total m + length rs
unfolding total
total_follows m KeptGiven rs = omega arith
total_follows m KeptSeen rs = omega arith
total_follows m KeptSeenFai rs = omega arith
total_follows m KeptRead rs = omega arith
total_follows m TrackedGiven rs = omega arith
total_follows m TrackedSeen rs = omega arith
total_follows m TrackedSeenFai rs = omega arith
total_follows m ToldGiven rs = omega arith
total_follows m ToldSeen rs = omega arith
total_follows m ToldSeenFai rs = omega arith
total_follows m ToldRead rs = omega arith

pub total_nothing : total nothing ≡ 0
unfolding total
total_nothing = refl

pub numbered_back : (set : SetName) → numbered (number set) ≡ Some set
numbered_back KeptGiven = refl
numbered_back KeptSeen = refl
numbered_back KeptSeenFai = refl
numbered_back KeptRead = refl
numbered_back TrackedGiven = refl
numbered_back TrackedSeen = refl
numbered_back TrackedSeenFai = refl
numbered_back ToldGiven = refl
numbered_back ToldSeen = refl
numbered_back ToldSeenFai = refl
numbered_back ToldRead = refl

pub numbered_past : (n : ℕ) → 10 < n → numbered n ≡ None
numbered_past n h = grind (arith, nat_tests)

-- one name for one number
pub same_name : (s t : SetName) → number s ≡ number t → s ≡ t
same_name s t e =
    let a = numbered_back s in
    let b = numbered_back t in
    let d = ap numbered e in
    cc

pub number_small : (set : SetName) → number set < 11
number_small KeptGiven = lit< tt
number_small KeptSeen = lit< tt
number_small KeptSeenFai = lit< tt
number_small KeptRead = lit< tt
number_small TrackedGiven = lit< tt
number_small TrackedSeen = lit< tt
number_small TrackedSeenFai = lit< tt
number_small ToldGiven = lit< tt
number_small ToldSeen = lit< tt
number_small ToldSeenFai = lit< tt
number_small ToldRead = lit< tt

pub set_of_number : (n : ℕ) → n < 11 → (set : SetName) × (number set ≡ n)
set_of_number n h = ⊎_elim (λ (e : n ≡ 0). (KeptGiven, sym e)) (λ n0. ⊎_elim (λ (e : n ≡ 1). (KeptSeen, sym e)) (λ n1. ⊎_elim (λ (e : n ≡ 2). (KeptSeenFai, sym e)) (λ n2. ⊎_elim (λ (e : n ≡ 3). (KeptRead, sym e)) (λ n3. ⊎_elim (λ (e : n ≡ 4). (TrackedGiven, sym e)) (λ n4. ⊎_elim (λ (e : n ≡ 5). (TrackedSeen, sym e)) (λ n5. ⊎_elim (λ (e : n ≡ 6). (TrackedSeenFai, sym e)) (λ n6. ⊎_elim (λ (e : n ≡ 7). (ToldGiven, sym e)) (λ n7. ⊎_elim (λ (e : n ≡ 8). (ToldSeen, sym e)) (λ n8. ⊎_elim (λ (e : n ≡ 9). (ToldSeenFai, sym e)) (λ n9. (ToldRead, omega arith)) (cases_eq n 9)) (cases_eq n 8)) (cases_eq n 7)) (cases_eq n 6)) (cases_eq n 5)) (cases_eq n 4)) (cases_eq n 3)) (cases_eq n 2)) (cases_eq n 1)) (cases_eq n 0)

module _ (m n : Model) (set : SetName) (low high : ℕ) where
  pub added : n ≡ put_into m set low high → low ≤ high → Canonical (m set) → Added m n set low high
  added e h f = record {
    here = λ id. ap (λ x. has (x set) id) e ∙ ap (λ l. has l id) (this_set m set _) ∙ adding_members 0 low high id (m set) h f;
    others = λ other ne. ap (λ x. x other) e ∙ other_set m set other _ ne;
  }

  pub removed : n ≡ taken_from m set low high → low ≤ high → Removed m n set low high
  removed e h = record {
    here = λ id. ap (λ x. has (x set) id) e ∙ ap (λ l. has l id) (this_set m set _) ∙ removing_members low high id (m set) h;
    others = λ other ne. ap (λ x. x other) e ∙ other_set m set other _ ne;
  }

pub emptied : (m n : Model) (set : SetName) → n ≡ cleared m set → Emptied m n set
emptied m n set e = record {
  here = λ id. ap (λ x. has (x set) id) e ∙ ap (λ l. has l id) (this_set m set []);
  others = λ other ne. ap (λ x. x other) e ∙ other_set m set other _ ne;
}

module _ (m n : Model) (from to : SetName) (e : n ≡ moved m from to) where
  kept : number from ≡ number to → n ≡ m
  kept same = e ∙ cond-true _ _ _ (eq-eqb _ _ same)

  went : (number from ≡ number to → ⊥) → n ≡ with_set (with_set m to (m from)) from []
  went ne = e ∙ cond-false _ _ _ (ne_eqb _ _ ne)

  pub moved_members : Moved m n from to
  moved_members = record {
    there = λ id. ⊎_elim
        (λ (same : number from ≡ number to). ap (λ x. has (x to) id) (kept same) ∙ ap (λ s. has (m s) id) (same_name to from (sym same)))
        (λ ne. ap (λ x. has (x to) id) (went ne) ∙ ap (λ l. has l id) (other_set (with_set m to (m from)) from to [] (λ q. ne (sym q)) ∙ this_set m to (m from)))
        (cases_eq (number from) (number to));
    gone = λ ne id. ap (λ x. has (x from) id) (went ne) ∙ ap (λ l. has l id) (this_set (with_set m to (m from)) from []);
    others = λ other nf nt. ⊎_elim
        (λ (same : number from ≡ number to). ap (λ x. x other) (kept same))
        (λ ne. ap (λ x. x other) (went ne) ∙ other_set (with_set m to (m from)) from other [] nf ∙ other_set m to other (m from) nt)
        (cases_eq (number from) (number to));
  }
