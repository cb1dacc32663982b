-- What the changes of a store do to the meaning, by lists and by members.
use Rattle.std.specs.Prelude.{◌≡◌, ℕ, ◌<◌, ◌≤◌, false, cond, not, ◌&&◌, ◌||◌, [], Result, MatchResult, ◌==◌, ◌≢◌}
use Rattle.store.specs.Ranges.{has, within, with_range, without_range}
use Rattle.store.specs.Sets.{Model, number, with_set, total}
use Rattle.store.specs.Refusals.{listed, store_full}
use Rattle.store.specs.declared.sets.SetName.{SetName}
use Rattle.store.specs.declared.refusal.StoreRefusal.{StoreRefusal}

-- low..high put into a set, and taken out of it
abbrev pub put_into : Model → SetName → ℕ → ℕ → Model
put_into m set low high = with_set m set (with_range low high (m set))

abbrev pub taken_from : Model → SetName → ℕ → ℕ → Model
taken_from m set low high = with_set m set (without_range low high (m set))

abbrev pub cleared : Model → SetName → Model
cleared m set = with_set m set []

-- one set's IDs given to another, whose own go, and the first left empty; a set moved onto itself stays
abbrev pub moved : Model → SetName → SetName → Model
moved m from to = cond (number from == number to) m (with_set (with_set m to (m from)) from [])

-- the answer to a wish for other sets: granted exactly where their ranges do not pass the limit, else refused as full with the sets as they were
abbrev pub GrantedIfItFits : {X : Type 0} → ℕ → Model → Model → Model → Result X StoreRefusal → Type 0
GrantedIfItFits limit before wanted after answer =
    MatchResult answer
    (λ _. (total wanted ≤ limit) × (after ≡ wanted))
    (λ e. (limit < total wanted) × (after ≡ before) × (listed e ≡ store_full))

-- the IDs of low..high are in the set now too, and nothing else has changed
pub record Added (before after : Model) (set : SetName) (low high : ℕ) : Type 0 where
  pub here : (id : ℕ) → has (after set) id ≡ (has (before set) id || within low high id)
  pub others : (other : SetName) → (number other ≡ number set → ⊥) → after other ≡ before other

-- the IDs of low..high are in the set no more, and nothing else has changed
pub record Removed (before after : Model) (set : SetName) (low high : ℕ) : Type 0 where
  pub here : (id : ℕ) → has (after set) id ≡ (has (before set) id && not (within low high id))
  pub others : (other : SetName) → (number other ≡ number set → ⊥) → after other ≡ before other

-- no ID is in the set, and nothing else has changed
pub record Emptied (before after : Model) (set : SetName) : Type 0 where
  pub here : (id : ℕ) → has (after set) id ≡ false
  pub others : (other : SetName) → (number other ≡ number set → ⊥) → after other ≡ before other

-- the one set has the IDs that the other had, which has none, and nothing else has changed; nothing at all where they are one
pub record Moved (before after : Model) (from to : SetName) : Type 0 where
  pub there : (id : ℕ) → has (after to) id ≡ has (before from) id
  pub gone : (number from ≢ number to) → (id : ℕ) → has (after from) id ≡ false
  pub others : (other : SetName) → (number other ≢ number from) → (number other ≢ number to) → after other ≡ before other
