-- Histories: lists of entries, the newest first. A party has signed each entry.
use Rattle.std.specs.Prelude.{◌≡◌, List, [], ◌∷◌, ◌++◌, ◌⊎◌, ◌==◌, filter}
use Rattle.so_ids.specs.declared.PartyId.{PartyId}

module _ {E : Type 0} where
  -- the history `now` began as `before`
  abbrev pub Began : List E → List E → Type 0
  Began before now = (later : List E) × (now ≡ later ++ before)

  -- what was appended to the history was appended to the party's own entries, `made`, too
  abbrev pub Extends : List E → List E → List E → List E → Type 0
  Extends before now made made' = (later : List E) × (now ≡ later ++ before) × (made' ≡ later ++ made)

  module _ (signer : E → PartyId) where
    -- the entries that the party signed, in the history's order
    abbrev pub signed_by : PartyId → List E → List E
    signed_by party = filter (λ e. (signer e).0 == party.0)

    -- `now` is `before`, or `before` and one entry more, which the party signed
    abbrev pub AddsAtMostOne : PartyId → List E → List E → Type 0
    AddsAtMostOne party before now = (now ≡ before) ⊎ ((e : E) × (now ≡ e ∷ before) × (signer e ≡ party))

    -- `now` began as `before`, and nothing of what came later is the party's
    abbrev pub OthersAdded : PartyId → List E → List E → Type 0
    OthersAdded party before now = (later : List E) × (now ≡ later ++ before) × (signed_by party later ≡ [])
