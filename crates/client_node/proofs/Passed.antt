-- Rows that a write passes over, since none has a write that waits for its answer.
use Rattle.std.proofs.Common.{◌≡◌, ℕ, List, [], ◌∷◌, sym, ◌∙◌, subst}
use Rattle.client_journal.specs.Devs.{ClientDevs, Write}
use Rattle.client_node.specs.Requesting.{NoneWaits, ArePassed}

module _ (d : ClientDevs) (ws : List Write) (table : ℕ) where
  pub passed_wait : (rows : List (List ℕ)) → ArePassed d ws table rows → NoneWaits d table rows
  passed_wait [] p = tt
  passed_wait (row ∷ rows) p = (p.0.1, passed_wait rows p.1)

  pub all_passed : (rows : List (List ℕ)) → ws ≡ [] → NoneWaits d table rows → ArePassed d ws table rows
  all_passed [] idle none = tt
  all_passed (row ∷ rows) idle none = ((idle, none.0), all_passed rows idle none.1)

-- by devices that were only read
pub passed_looked : (d e : ClientDevs) (ws vs : List Write) → e ≡ d → vs ≡ ws → (table at : ℕ) → at ≡ table → (stale found : List (List ℕ)) → (ArePassed e vs at stale → ArePassed e vs at found) → ArePassed d ws table stale → ArePassed d ws table found
passed_looked d e ws vs same agenda table at is stale found h =
    subst (λ (n : ℕ). ArePassed d ws n stale → ArePassed d ws n found) is
    (subst (λ (l : List Write). ArePassed d l at stale → ArePassed d l at found) agenda (subst (λ (x : ClientDevs). ArePassed x vs at stale → ArePassed x vs at found) same h))
