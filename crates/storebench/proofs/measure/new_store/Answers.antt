-- So many places are memory for a store.
use Rattle.std.proofs.Common.{◌≡◌, Ok, Err, Result, vec_len, refl, arith}
use Rattle.std.specs.Result.{IsOk, MatchResult}
use Rattle.store.specs.Limits.{MayBeLimit}
use Rattle.store.specs.Refusals.{listed, wrong_row_count}
use Rattle.storebench.proofs.measure.new_store.Goals as goal

not_refused : {T E : Type 0} (P : T → Type 0) (Q : E → Type 0) (r : Result T E) → MatchResult r P Q → ((e : E) → Q e → ⊥) → IsOk r
not_refused P Q (Ok x) h n = refl
not_refused P Q (Err e) h n = absurd (n e h)

pub unwrap-requires : goal.unwrap-requires
unwrap-requires g c =
    let p = c.in_ok-places.places in
    not_refused (λ x. MayBeLimit (vec_len p) × (x.places ≡ p)) (λ e. (MayBeLimit (vec_len p) → ⊥) × (listed e.refusal ≡ wrong_row_count) × (e.places ≡ p)) c.new.result c.new.ensures
    (λ e h. h.0 (omega (arith, c.in_ok-places.ensures.len), omega (arith, c.in_ok-places.ensures.len)))
