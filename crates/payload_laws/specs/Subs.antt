-- The payload of a subscription.
use Rattle.std.specs.Prelude.{◌≡◌, ℕ, Bool, List}
use Rattle.row_store.specs.declared.stored.SubChange.{SubChange}
use Rattle.row_store.specs.declared.stored.Terms.{Terms}
use Rattle.row_store.specs.Spelling.{IsClient, sub_payload}
use Rattle.row_store.specs.Reading.{terms_if}

-- These bytes are the payload of the change; where it ends a subscription its terms are any.
pub record IsSub (payload : List ℕ) (change : SubChange) : Type 0 where
  pub on : Bool
  pub terms : Terms
  pub client : IsClient change.client
  pub is : change.terms ≡ terms_if on terms
  pub spelled : payload ≡ sub_payload change.client on terms
