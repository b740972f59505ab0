-- What a request, a pull and a row that is asked for whole make of a table's devices.
use Rattle.std.specs.Prelude.{◌≡◌, ◌⊎◌, ℕ, ◌+◌, ◌<◌, ◌^◌, Bool, true, false, List, [], length, Option, Some, None}
use Rattle.std.specs.Prelude.{◌∷◌, option_map, Result}
use Rattle.std.specs.Prelude.{OnErr, IfErr, IsErrOf}
use Rattle.disk_trait.specs.Calls.{DiskState}
use Rattle.stab_base.specs.declared.limits.TheConstants.{NUMBER_MAX}
use Rattle.stab_base.specs.declared.row_version.RowVersion.{RowVersion}
use Rattle.row_value.specs.declared.schema.Scheme.{Scheme}
use Rattle.schemes.specs.declared.decision.Decision.{Decision}
use Rattle.schemes.specs.declared.decision.Decision.TheVariants as decisions
use Rattle.schemes.specs.Decide.{decision_of}
use Rattle.row_store.specs.declared.stored.StoredRow.{StoredRow}
use Rattle.row_store.specs.Data.{IsTableVersion, IsNextChanged}
use Rattle.store_commit.specs.declared.devs.TableDevs.{TableDevs}
use Rattle.store_commit.specs.declared.fault.CommitFault.{CommitFault}
use Rattle.store_commit.specs.declared.fault.CommitFault.TheVariants.{Disk, Spent, Memory}
use Rattle.store_commit.specs.Devs.{Devs, Write}
use Rattle.store_commit.specs.Agenda.{update_writes}
use Rattle.store_commit.specs.Standing.{devs, writes_of, all_faults, IsReady}
use Rattle.store_commit.specs.TakesOn.{IsNotDisk, AllLeave}
use Rattle.store_commit.specs.Unset.{KeepsUnset}
use Rattle.store_commit.specs.Update.{entry_for, stored_for}
use Rattle.stab_base.specs.declared.node.Node.{Node}
use Rattle.step_tables.specs.Facts as facts_of
use Rattle.step_tables.specs.Chunks.{Named}
use Rattle.step_tables.specs.Messages.{Pair, Header, Outcome, Again, Late, Stale, Conflict, NeedWhole, Request}
use Rattle.step_tables.specs.Travels.{outcome_of, header_of}
use Rattle.step_tables.specs.Store.{current_of}
use Rattle.step_tables.specs.StoreMoves.{StoreDisk, StoreStep, yours_in, accepting, item_for, quiet, sending, responded}
use Rattle.step_tables.specs.StoreMoves.{version_of, keeps_there}
use Rattle.step_tables.specs.declared.message.SyncRequest.{SyncRequest}
use Rattle.step_tables.specs.declared.message.PullRequest.{PullRequest}
use Rattle.step_tables.specs.declared.message.PullResponse.{PullResponse}
use Rattle.step_tables.specs.declared.message.TornRowRequest.{TornRowRequest}
use Rattle.step_tables.specs.declared.message.TornRowResponse.{TornRowResponse}
use Rattle.step_tables.specs.declared.message.Yours.{Yours}
use Rattle.device_laws.specs.Stands.{pair_in, update_for}
use Rattle.store_node.specs.Reading.{held_in, whole_at}
use Rattle.store_node.specs.Update.{request_of}
use Rattle.store_node.specs.declared.taking.Taken.{Taken}
use Rattle.store_node.specs.declared.taking.Taken.TheVariants.{Answered, Begun}
use Rattle.store_node.specs.declared.showing.WholeRow.{WholeRow}

-- A call on devices with no write to be done, which are ready behind it; or a disk has failed. A crash at any moment
-- leaves of each device what it held.
pub record Serves {D T : Type 0} (state : D → DiskState) (images : D → ℕ → List ℕ → Type 0) (old new : TableDevs D)
    (result : Result T CommitFault) : Type 0 where
  pub same : IsNotDisk result → devs state new ≡ devs state old
  pub ready : IsNotDisk result → IsReady state new (writes_of new)
  pub refused : OnErr result (writes_of new ≡ writes_of old)
  pub scanned : new.scanned ≡ old.scanned
  pub counted : IsNotDisk result → all_faults state new ≡ all_faults state old
  pub disk : IsErrOf result Disk → all_faults state old < all_faults state new
  pub only : IfErr result (λ e. (e ≡ Disk) ⊎ ((e ≡ Spent) ⊎ (e ≡ Memory)))
  pub leave : AllLeave state images old new
  pub fuse : KeepsUnset state old new

-- ---- a request

-- the chunks of the row that stands, if one does
abbrev pub held_if : Devs → Option StoredRow → List (List Named)
held_if d None = []
held_if d (Some stored) = held_in d stored.content

-- what is answered at once, by what was decided
abbrev pub answer_to : Decision → Option Outcome
answer_to (decisions.Again version) = Some (Again version)
answer_to (decisions.Late last) = Some (Late last)
answer_to decisions.Accept = None
answer_to (decisions.Stale latest) = Some (Stale latest)
answer_to (decisions.Conflict latest) = Some (Conflict latest)

-- what is answered to a write of this number over a base that isn't taken on, by the row's version and the client's
-- last write on it
abbrev pub refusal_of : Scheme → ℕ → ℕ → Pair → ℕ → Option Outcome
refusal_of g base current yours number =
    answer_to (decision_of g base current (yours.number, yours.version) number)

-- the version of the row that stands, 0 where none does
abbrev pub version_if : Option StoredRow → ℕ
version_if None = 0
version_if (Some stored) = stored.version

abbrev pub pair_of : Yours → Pair
pair_of yours = record { number = yours.number; version = yours.version }

-- These writes are those of a request's update, at the next version, where one is left.
pub record IsBegunBy (size : ℕ) (d : Devs) (disk : StoreDisk) (request : SyncRequest) (writes : List Write)
    (version : ℕ) : Type 0 where
  pub version_is : version ≡ length disk.items + 1
  pub few : version < 2 ^ 64
  pub number : request.number < 2 ^ 64
  pub left : length disk.items ≡ NUMBER_MAX → ⊥
  pub writes_are : writes ≡ update_writes (entry_for d version (update_for size (request_of request)))
      (update_for size (request_of request)).fresh (stored_for d version (update_for size (request_of request)))

-- a write that is to be taken on by its base and number isn't where its row lacks a chunk that it keeps
abbrev pub or_whole : Bool → Option Outcome → Option Outcome
or_whole there (Some outcome) = Some outcome
or_whole true None = None
or_whole false None = Some NeedWhole

-- what is answered to a request that isn't taken on
abbrev pub refused_by : Scheme → ℕ → StoreDisk → SyncRequest → Option Outcome
refused_by g size disk request = or_whole (keeps_there size disk.items (request_of request))
    (refusal_of g request.base (version_of (current_of disk.items request.row))
    (yours_in disk.items request.client request.row) request.number)

-- A write that isn't taken on was answered, and no write is to be done; or it is.
abbrev pub IsTaking : Scheme → ℕ → Devs → StoreDisk → SyncRequest → List Write → Taken → Type 0
IsTaking g size d disk request writes (Answered outcome) =
    (refused_by g size disk request ≡ Some (outcome_of outcome)) × (writes ≡ [])
IsTaking g size d disk request writes (Begun version) =
    (refused_by g size disk request ≡ None) × IsBegunBy size d disk request writes version

-- The same of a write that is to be taken on by its base and number: it is, where its row has each chunk that it keeps.
abbrev pub IsTakingNew : ℕ → Devs → StoreDisk → SyncRequest → List Write → Taken → Type 0
IsTakingNew size d disk request writes (Answered outcome) =
    (keeps_there size disk.items (request_of request) ≡ false) × (outcome_of outcome ≡ NeedWhole) × (writes ≡ [])
IsTakingNew size d disk request writes (Begun version) =
    (keeps_there size disk.items (request_of request) ≡ true) × IsBegunBy size d disk request writes version

-- what a table makes of a request, by what is answered to it
abbrev pub step_for : ℕ → ℕ → StoreDisk → Node → Request → Option Outcome → StoreStep
step_for size table d from request None =
    quiet d (Some (accepting size table d.items from request (item_for d.items request))) facts_of.Done
step_for size table d from request (Some outcome) = sending d (responded from request outcome ∷ [])

-- ---- a row, and a pull

abbrev pub header_by : ℕ → WholeRow → Header
header_by client found = record {
  row = found.row;
  version = found.version;
  yours = pair_in found.pairs client;
  content = found.content;
  names = found.names;
}

abbrev pub header_at : Devs → ℕ → Option RowVersion → Option Header
header_at d client None = None
header_at d client (Some next) = option_map (header_by client) (whole_at d next.row)

abbrev pub version_or : ℕ → Option RowVersion → ℕ
version_or position None = position
version_or position (Some next) = next.version

-- the answer to a pull: the next row above its position, and the last version of the table
pub record IsPulled (d : Devs) (request : PullRequest) (response : PullResponse) : Type 0 where
  pub next : Option RowVersion
  pub is_next : IsNextChanged d.held request.position next
  pub client : response.client ≡ request.client
  pub table : response.table ≡ request.table
  pub from : response.from ≡ request.position
  pub to : response.to ≡ version_or request.position next
  pub latest : IsTableVersion d.held response.latest
  pub header : option_map header_of response.header ≡ header_at d request.client next

-- the answer to a client that asks for a row whole: the row as it is now, none where nothing was written to it
pub record IsTornPulled (d : Devs) (request : TornRowRequest) (response : TornRowResponse) : Type 0 where
  pub client : response.client ≡ request.client
  pub table : response.table ≡ request.table
  pub row : response.row ≡ request.row
  pub header : option_map header_of response.header ≡ option_map (header_by request.client) (whole_at d request.row)
