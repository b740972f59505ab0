-- A message that is none for a client.
use Rattle.std.proofs.Common.{ℕ, None, refl}
use Rattle.client_journal.specs.Devs.{ClientDevs}
use Rattle.step_tables.specs.declared.message.Message.TheVariants as kinds
use Rattle.step_tables.specs.declared.message.PullRequest.{PullRequest}
use Rattle.step_tables.specs.declared.message.SyncRequest.{SyncRequest}
use Rattle.step_tables.specs.declared.message.TornRowRequest.{TornRowRequest}
use Rattle.client_node.specs.Readied.{Readies}

-- a request is no message for a client
pub request_readies : (d : ClientDevs) (c : ℕ) (q : SyncRequest) → Readies d c (kinds.SyncRequest q) None
request_readies d c q = record { none = λ is w disk shape idle fit. refl; some = tt }

pub pull_readies : (d : ClientDevs) (c : ℕ) (q : PullRequest) → Readies d c (kinds.PullRequest q) None
pull_readies d c q = record { none = λ is w disk shape idle fit. refl; some = tt }

pub torn_readies : (d : ClientDevs) (c : ℕ) (q : TornRowRequest) → Readies d c (kinds.TornRowRequest q) None
torn_readies d c q = record { none = λ is w disk shape idle fit. refl; some = tt }
