-- How a table's devices take a request, from what was read of them.
use Rattle.std.proofs.Common.{◌≡◌, ℕ, ◌+◌, ◌<◌, ◌^◌, List, [], length, Bool, true, Option, Some, None, Result, Ok, Err, sym, ◌∙◌, ap, subst}
use Rattle.std.specs.Prelude.{IsErrOf, IfOk, IfSome, option_map}
use Rattle.disk_trait.specs.Calls.{DiskState}
use Rattle.stab_base.specs.declared.limits.TheConstants.{NUMBER_MAX}
use Rattle.row_value.specs.declared.schema.Schema.{Schema}
use Rattle.row_value.specs.Fit.{fit_of}
use Rattle.value_codec.specs.SchemaSpelling.{HasSchemaSpelling}
use Rattle.row_store.specs.declared.stored.StoredRow.{StoredRow}
use Rattle.row_store.specs.Data.{row_of, IsTableVersion}
use Rattle.row_store.specs.Spelling.{IsClient, HasStoredSpelling}
use Rattle.store_commit.specs.declared.devs.TableDevs.{TableDevs}
use Rattle.store_commit.specs.declared.update.Update.{Update}
use Rattle.store_commit.specs.declared.fault.CommitFault.{CommitFault}
use Rattle.store_commit.specs.declared.fault.CommitFault.TheVariants.{Spent, Disk}
use Rattle.store_commit.specs.Devs.{Devs, Write}
use Rattle.store_commit.specs.Agenda.{update_writes}
use Rattle.store_commit.specs.Standing.{devs, seen, writes_of, IsReady, NothingHidden}
use Rattle.store_commit.specs.TakesOn.{TakesOn}
use Rattle.store_commit.specs.Update.{entry_for, stored_for, lasts_if, IsNextVersion, IsUpdate}
use Rattle.store_commit.proofs.Begins.{one_version}
use Rattle.store_commit.proofs.Seen.{seen_all}
use Rattle.step_tables.specs.declared.message.SyncRequest.{SyncRequest}
use Rattle.step_tables.specs.declared.message.Outcome.{Outcome}
use Rattle.step_tables.specs.declared.message.Yours.{Yours}
use Rattle.step_tables.specs.Chunks.{Named, chunks_of, names_of, has_kept, is_spelled}
use Rattle.step_tables.specs.Messages.{Pair}
use Rattle.step_tables.specs.Store.{current_of}
use Rattle.step_tables.specs.StoreMoves.{StoreDisk, version_of, yours_in, keeps_there}
use Rattle.step_tables.specs.Travels.{outcome_of}
use Rattle.device_laws.specs.Stands.{Stands, HaveWords, pair_in, update_for}
use Rattle.device_laws.proofs.Asked.{update_is}
use Rattle.device_laws.proofs.Rows.{table_version}
use Rattle.store_node.specs.Reading.{Only}
use Rattle.store_node.specs.Taking.{held_if, refusal_of, version_if, pair_of, Serves, IsBegunBy, IsTaking, IsTakingNew, or_whole, refused_by}
use Rattle.row_value.specs.declared.schema.Scheme.{Scheme}
use Rattle.step_tables.specs.Messages as ends
use Rattle.store_node.specs.declared.taking.Taken.{Taken}
use Rattle.store_node.specs.declared.taking.Taken.TheVariants.{Answered, Begun}
use Rattle.store_node.specs.Update.{made_if, request_of}
use Rattle.store_node.proofs.Onlys.{only_same, only_hidden, only_ready}
use Rattle.store_node.proofs.Asks.{serves_then, serves_takes}
use Rattle.store_node.proofs.Telling.{held_is, held_different, yours_is, version_is}
use Rattle.store_commit.specs.NamedChunks.{AreDifferent}

-- ---- an answer with another value

module _ {D T S : Type 0} (state : D → DiskState) (images : D → ℕ → List ℕ → Type 0) (old new : TableDevs D) where
  pub serves_named : (x : S) (y : T) → Serves {T = S} state images old new (Ok x) → Serves {T = T} state images old new (Ok y)
  serves_named x y k = record {
    same = λ _. k.same (λ is. cc);
    ready = λ _. k.ready (λ is. cc);
    refused = tt;
    scanned = k.scanned;
    counted = λ _. k.counted (λ is. cc);
    disk = λ is. absurd cc;
    only = tt;
    leave = k.leave;
    fuse = k.fuse;
  }

  pub serves_err : (e : CommitFault) → Serves {T = S} state images old new (Err e) → Serves {T = T} state images old new (Err e)
  serves_err e k = record {
    same = λ n. k.same (λ is. n (there Disk is));
    ready = λ n. k.ready (λ is. n (there Disk is));
    refused = k.refused;
    scanned = k.scanned;
    counted = λ n. k.counted (λ is. n (there Disk is));
    disk = λ is. k.disk (here Disk is);
    only = k.only;
    leave = k.leave;
    fuse = k.fuse;
  }
    where
      there : (f : CommitFault) → IsErrOf {T = S} (Err e) f → IsErrOf {T = T} (Err e) f
      there f is = let same : e ≡ f = cc in ap (λ (x : CommitFault). Err x) same

      here : (f : CommitFault) → IsErrOf {T = T} (Err e) f → IsErrOf {T = S} (Err e) f
      here f is = let same : e ≡ f = cc in ap (λ (x : CommitFault). Err x) same

-- a new write that was taken on, or wasn't for want of a chunk, is so as the request was judged
pub taken_as : (g : Scheme) (size : ℕ) (d : Devs) (disk : StoreDisk) (request : SyncRequest) (writes : List Write) (r : Result Taken CommitFault)
    → refused_by g size disk request ≡ or_whole (keeps_there size disk.items (request_of request)) None → IfOk r (IsTakingNew size d disk request writes) → IfOk r (IsTaking g size d disk request writes)
taken_as g size d disk request writes (Err e) refused t = tt
taken_as g size d disk request writes (Ok (Answered outcome)) refused t =
    (refused ∙ (ap (λ (b : Bool). or_whole b None) t.0 ∙ ap (λ (o : ends.Outcome). Some o) (sym t.1)), t.2)
taken_as g size d disk request writes (Ok (Begun version)) refused t = (refused ∙ ap (λ (b : Bool). or_whole b None) t.0, t.1)

module _ {D : Type 0} (state : D → DiskState) (images : D → ℕ → List ℕ → Type 0) where
  module _ (old : TableDevs D) (schema : Schema) (request : SyncRequest) (hidden : NothingHidden old) where
    abbrev d : Devs
    d = devs state old

    pub seen_old : seen state old ≡ d
    seen_old = seen_all state old hidden

    -- the row that stands, as it was read
    pub standing_is : (standing : Option StoredRow) → row_of (seen state old).held request.row ≡ standing → row_of d.held request.row ≡ standing
    standing_is standing is = subst (λ (x : Devs). row_of x.held request.row ≡ standing) seen_old is

    module _ (disk : StoreDisk) (some : 0 < schema.chunk) (st : Stands schema d disk) where
      pub last_of_old : (v : ℕ) → IsTableVersion (seen state old).held v → v ≡ length disk.items
      last_of_old v is = one_version d.held v (length disk.items) (subst (λ (x : Devs). IsTableVersion x.held v) seen_old is)
          (table_version schema.chunk disk.items d.held st.held.numbered st.held.rows)

      module _ (standing : Option StoredRow) (stands : row_of d.held request.row ≡ standing) where
        held_of_row : (held : List (List Named)) → held ≡ held_if d standing → held ≡ chunks_of schema.chunk disk.items request.row
        held_of_row held is = is ∙ (ap (held_if d) (sym stands) ∙ held_is schema d disk some st request.row)

        -- none of the names of what was read stands twice
        pub read_different : (held : List (List Named)) → held ≡ held_if d standing → AreDifferent (names_of held)
        read_different held is = subst (λ (l : List (List Named)). AreDifferent (names_of l)) (sym (held_of_row held is)) (held_different schema d disk some st request.row)

        pub prepared_is : (held : List (List Named)) → held ≡ held_if d standing → (made : Option Update)
            → made ≡ made_if (has_kept schema.chunk held request.content request.pieces) (update_for schema.chunk (request_of request))
            → made ≡ made_if (keeps_there schema.chunk disk.items (request_of request)) (update_for schema.chunk (request_of request))
        prepared_is held is made same =
            same ∙ ap (λ (l : List (List Named)). made_if (has_kept schema.chunk l request.content request.pieces) (update_for schema.chunk (request_of request))) (held_of_row held is)

        pub refused_is : (yours : Yours) → pair_of yours ≡ pair_in (lasts_if standing) request.client → (current : ℕ) → current ≡ version_if standing → (o : Option Outcome)
            → option_map outcome_of o ≡ refusal_of schema.scheme request.base current (pair_of yours) request.number
            → refused_by schema.scheme schema.chunk disk request ≡ or_whole (keeps_there schema.chunk disk.items (request_of request)) (option_map outcome_of o)
        refused_is yours is current version o made =
            let now : pair_of yours ≡ yours_in disk.items request.client request.row = is ∙ (ap (λ (s : Option StoredRow). pair_in (lasts_if s) request.client) (sym stands) ∙ yours_is schema d disk some st request.row request.client) in
            let at : current ≡ version_of (current_of disk.items request.row) = version ∙ (ap version_if (sym stands) ∙ version_is schema d disk some st request.row) in
            ap (or_whole (keeps_there schema.chunk disk.items (request_of request))) (sym (made ∙ (ap (λ (v : ℕ). refusal_of schema.scheme request.base v (pair_of yours) request.number) at ∙ ap (λ (p : Pair). refusal_of schema.scheme request.base (version_of (current_of disk.items request.row)) p request.number) now)))

    module _ (mid : TableDevs D) {T : Type 0} (x : T) (o : Only state images old mid (Ok x)) where
      pub seen_mid : seen state mid ≡ d
      seen_mid = seen_all state mid (only_hidden state images old mid x o hidden) ∙ only_same state images old mid x o

      pub last_of_mid : (disk : StoreDisk) → Stands schema d disk → (v : ℕ) → IsTableVersion (seen state mid).held v → v ≡ length disk.items
      last_of_mid disk st v is = one_version d.held v (length disk.items) (subst (λ (x : Devs). IsTableVersion x.held v) seen_mid is)
          (table_version schema.chunk disk.items d.held st.held.numbered st.held.rows)

      pub is_asked : (disk : StoreDisk) → Stands schema d disk → HasSchemaSpelling schema → fit_of schema request.content ≡ Ok tt → HaveWords request.content → IsClient request.client
          → IfSome (row_of d.held request.row) HasStoredSpelling → is_spelled schema.chunk request.content request.pieces ≡ true → keeps_there schema.chunk disk.items (request_of request) ≡ true
          → (update : Update) → update ≡ update_for schema.chunk (request_of request) → IsUpdate (seen state mid) update
      is_asked disk st valid fits words client standing spelled there update is =
          subst (λ (x : Devs). IsUpdate x update) (sym seen_mid)
          (subst (λ (u : Update). IsUpdate d u) (sym is) (update_is schema d disk st (request_of request) valid fits words standing spelled there client))

      pub begun_by : (disk : StoreDisk) → Stands schema d disk → (new : TableDevs D) (r : Result ℕ CommitFault) (update : Update) → update ≡ update_for schema.chunk (request_of request)
          → IfOk r (λ v. writes_of new ≡ update_writes (entry_for (seen state mid) v update) update.fresh (stored_for (seen state mid) v update)) → IfOk r (λ v. IsNextVersion (seen state mid).held v) → IfOk r (λ v. v < 2 ^ 64)
          → request.number < 2 ^ 64 → (length disk.items ≡ NUMBER_MAX → ⊥) → IfOk r (IsBegunBy schema.chunk d disk request (writes_of new))
      begun_by disk st new (Err e) update is writes next few number left = tt
      begun_by disk st new (Ok v) update is writes next few number left = record {
        version_is = next.2 ∙ ap (λ (n : ℕ). n + 1) (last_of_mid disk st next.0 next.1);
        few = few;
        number = number;
        left = left;
        writes_are = writes ∙ (ap (λ (x : Devs). update_writes (entry_for x v update) update.fresh (stored_for x v update)) seen_mid ∙ ap (λ (u : Update). update_writes (entry_for d v u) u.fresh (stored_for d v u)) is);
      }

      pub serves_begun : (ready : IsReady state old []) → (idle : writes_of old ≡ []) → (new : TableDevs D) {S : Type 0} (is_spent : Type 0) (writes : S → List Write) (r : Result S CommitFault) → TakesOn state images is_spent writes mid new r
          → new.scanned ≡ mid.scanned → (NothingHidden mid → IsErrOf r Spent → new ≡ mid) → Serves state images old new r
      serves_begun ready idle new is_spent writes r takes scanned spent =
          serves_then state images old mid new x r (subst (λ (l : List Write). IsReady state old l) (sym idle) ready) o
          (serves_takes state images mid new is_spent writes r (only_ready state images old mid x o [] ready) (o.asks.agenda ∙ idle) takes scanned (spent (only_hidden state images old mid x o hidden)))
