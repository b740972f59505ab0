-- What a declaration and a start do to a table's devices, call by call.
use Rattle.std.proofs.Common.{◌≡◌, ◌⊎◌, inl, inr, ⊎_elim, ℕ, List, [], ◌∷◌, Some, Result, Ok, Err, refl, sym, ◌∙◌, ap, subst, arith}
use Rattle.std.specs.Prelude.{◌↔◌, OnOk, IsErrOf}
use Rattle.std.specs.BTreeSet.{keys}
use Rattle.std.proofs.lemmas.Result.{on_ok_weaker}
use Rattle.disk_trait.specs.Image.{IsImage}
use Rattle.disk_trait.specs.Calls.{DiskState}
use Rattle.vault.specs.Calls.{IsEither}
use Rattle.row_value.specs.declared.schema.Schema.{Schema}
use Rattle.table_model.specs.declared.table_state.TableState.{TableState}
use Rattle.device_laws.specs.Stands.{state_number}
use Rattle.chunk_store.specs.declared.device.ChunkDev.{ChunkDev}
use Rattle.chunk_store.specs.Standing as chunks
use Rattle.row_store.specs.Data.{with_table}
use Rattle.status_log.specs.declared.device.StatusLog.{StatusLog}
use Rattle.status_log.specs.Standing as logs
use Rattle.store_commit.specs.declared.devs.TableDevs.{TableDevs}
use Rattle.store_commit.specs.declared.recovery.Recovery.{Recovery}
use Rattle.store_commit.specs.declared.fault.CommitFault.{CommitFault}
use Rattle.store_commit.specs.declared.fault.CommitFault.TheVariants.{Busy, Spent, Disk, Down, Memory}
use Rattle.stab_base.specs.declared.step.Step.{Step}
use Rattle.store_commit.specs.Devs.{Devs, Write, PutTable, changed_by}
use Rattle.store_commit.specs.Recover.{Recovers, IsRecovery, IsStarting}
use Rattle.store_commit.specs.Rising.{AreRisingWrites}
use Rattle.store_commit.specs.Standing.{devs, writes_of, all_faults, nothing, AreUp, IsOneDown, AreLookedAt, AreSound, HaveOpenings, IsReady, DevsLeave, WorksOn}
use Rattle.store_commit.specs.TakesOn.{TakesOn, AllLeave}
use Rattle.store_commit.specs.Scan.{AllStay}
use Rattle.store_commit.specs.Unset.{KeepsUnset, HasCause}
use Rattle.store_commit.proofs.Works.{still_chunk, still_row, still_log}
use Rattle.store_commit.proofs.Fusing.{keeps_then, keeps_same, cause_then}
use Rattle.store_commit.specs.Fused.{device_of, OthersStay, StayBeside}
use Rattle.store_commit.specs.Standing.{RowsLeave, NothingHidden}
use Rattle.store_commit.proofs.Moments.{rows_then, rows_weaker}
use Rattle.store_commit.proofs.Bares.{still_looked, still_sound, still_openings}
use Rattle.store_node.specs.Devices.{no_rows, MakesTable, PutsRecord, BeginsStart}
use Rattle.store_node.proofs.Blanks.{SomeLeave, together, record_put}

module _ {D : Type 0} (state : D → DiskState) (images : D → ℕ → List ℕ → Type 0) where
  pub ready_up : (table : TableDevs D) (ws : List Write) → IsReady state table ws → AreUp table
  ready_up table ws r = record { chunks = r.chunk_looked.vault.up; rows = r.row_looked.vault.up; log = r.log_looked.vault.up }

  pub up_not_down : (table : TableDevs D) → AreUp table → IsOneDown table → ⊥
  up_not_down table up down = ⊎_elim (λ c. let u = up.chunks in absurd cc) (λ more. ⊎_elim (λ r. let u = up.rows in absurd cc) (λ l. let u = up.log in absurd cc) more) down

  pub memory_only : {T : Type 0} (table : TableDevs D) (e : CommitFault) → AreUp table → (IsErrOf {T = T} {E = CommitFault} (Err e) Down ↔ IsOneDown table) → (e ≡ Down) ⊎ (e ≡ Memory) → e ≡ Memory
  memory_only table e up down only = ⊎_elim (λ is. absurd (up_not_down table up (down.0 (ap (λ (x : CommitFault). Err x) is)))) (λ is. is) only

  pub takes_cause : {T S : Type 0} (writes : T → List Write) (old new : TableDevs D) (e : CommitFault) → AreUp old → writes_of old ≡ [] → TakesOn {T = T} state images ⊥ writes old new (Err e) → HasCause {T = S} state old new (Err e)
  takes_cause writes old new (Busy v) up idle k = absurd (let b = (k.busy v).0 refl in b.1 idle)
  takes_cause writes old new Spent up idle k = absurd (k.spent refl).2
  takes_cause writes old new Disk up idle k = record { cause = (λ is. (k.disk refl).0, λ isnt. absurd (isnt refl)); only = inl refl }
  takes_cause writes old new Down up idle k = absurd (up_not_down old up (k.down.0 refl))
  takes_cause writes old new Memory up idle k = record { cause = (λ is. absurd cc, λ isnt. k.counted (λ is. cc)); only = inr refl }

  pub other_cause : {S T : Type 0} (old new : TableDevs D) (e : CommitFault) → HasCause {T = S} state old new (Err e) → HasCause {T = T} state old new (Err e)
  other_cause old new e k = record { cause = k.cause; only = k.only }

  -- what a scan has hidden stays
  pub same_hidden : (old new : TableDevs D) → new.scanned ≡ old.scanned → NothingHidden old → NothingHidden new
  same_hidden old new same none = ap (λ x. keys x.hidden) same ∙ none

  -- ---- a scan

  -- what was scanned may be recovered
  pub scanned_starts : (old new : TableDevs D) → AllStay state old new → AreLookedAt state old → AreSound state old → HaveOpenings state old → writes_of new ≡ writes_of old → writes_of old ≡ [] → IsStarting state new
  scanned_starts old new stay l sound room agenda idle = record {
    looked = still_looked state images old new stay l;
    sound = still_sound state images old new stay sound;
    openings = still_openings state images old new stay room;
    idle = agenda ∙ idle;
  }

  -- ---- the put of the record

  module _ (schema : Schema) (stage : TableState) (old begun : TableDevs D) (w : Write) (table_is : w ≡ PutTable schema (state_number stage)) (rests : IsReady state old []) (idle : writes_of old ≡ []) where
    pub begin_refused : (e : CommitFault) → KeepsUnset state old begun → TakesOn {T = Unit {0}} state images ⊥ (λ _. w ∷ []) old begun (Err e) → PutsRecord state images schema stage old begun (Err e)
    begin_refused e keeps k =
        let left = k.leave (ready_up old [] rests) in
        record {
          held = tt;
          ready = tt;
          idle = tt;
          up = tt;
          hidden = λ _. tt;
          fuse = keeps;
          cause = takes_cause (λ _. w ∷ []) old begun e (ready_up old [] rests) idle k;
          chunks = left.chunks;
          rows = rows_weaker state images old begun (λ held. held ≡ (devs state old).held) (IsEither (devs state old).held (with_table (devs state old).held schema (state_number stage))) left.rows (λ held is. inl is);
          log = left.log;
        }

    module _ (keeps : KeepsUnset state old begun) (k : TakesOn {T = Unit {0}} state images ⊥ (λ _. w ∷ []) old begun (Ok tt)) (new : TableDevs D) (then_keeps : KeepsUnset state begun new) (others : StayBeside (writes_of begun) begun new) where
      works : (r : Result Step CommitFault) → WorksOn state images begun new r (writes_of begun) → WorksOn state images begun new r (w ∷ [])
      works r h = subst (λ (l : List Write). WorksOn state images begun new r l) k.taken h

      all_keep : KeepsUnset state old new
      all_keep = keeps_then state old begun new keeps then_keeps

      left : AllLeave state images old begun
      left = k.leave (ready_up old [] rests)

      same : devs state begun ≡ devs state old
      same = k.same (λ is. cc)

      counted : all_faults state begun ≡ all_faults state old
      counted = k.counted (λ is. cc)

      put_is : changed_by (devs state begun) w ≡ changed_by (devs state old) (PutTable schema (state_number stage))
      put_is = ap (λ (d : Devs). changed_by d w) same ∙ ap (λ (v : Write). changed_by (devs state old) v) table_is

      stay : OthersStay (device_of (PutTable schema (state_number stage))) begun new
      stay = subst (λ (v : Write). OthersStay (device_of v) begun new) table_is (subst (λ (l : List Write). StayBeside l begun new) k.taken others)

      chunks_left : chunks.Leaves state images old.chunks new.chunks (λ here. here ≡ chunks.chunks state old.chunks)
      chunks_left = subst (λ (x : ChunkDev D). chunks.Leaves state images old.chunks x (λ here. here ≡ chunks.chunks state old.chunks)) (sym stay.0) left.chunks

      log_left : logs.Leaves state images old.log new.log (λ here. here ≡ logs.entry_open state old.log)
      log_left = subst (λ (x : StatusLog D). logs.Leaves state images old.log x (λ here. here ≡ logs.entry_open state old.log)) (sym stay.1) left.log

      rows_put : (r : Result Step CommitFault) → WorksOn state images begun new r (writes_of begun) → RowsLeave state images old new (IsEither (devs state old).held (with_table (devs state old).held schema (state_number stage)))
      rows_put r h =
          rows_then state images old begun new (λ held. held ≡ (devs state old).held) (IsEither (devs state begun).held (changed_by (devs state begun) w).held) (IsEither (devs state old).held (with_table (devs state old).held schema (state_number stage))) left.rows (works r h).0.rows_left
          (λ held is. inl is) (λ held either. ⊎_elim (λ is. inl (is ∙ ap (λ (d : Devs). d.held) same)) (λ is. inr (is ∙ ap (λ (d : Devs). d.held) put_is)) either)

      pub work_refused : (e : CommitFault) → WorksOn state images begun new (Err e) (writes_of begun) → PutsRecord state images schema stage old new (Err e)
      work_refused e h =
          let d = (works (Err e) h).0.disk e refl in
          record {
            held = tt;
            ready = tt;
            idle = tt;
            up = tt;
            hidden = λ _. tt;
            fuse = all_keep;
            cause = record { cause = (λ is. let less = d.1 in omega (arith, counted, less), λ isnt. absurd (isnt d.0)); only = inl d.0 };
            chunks = chunks_left;
            rows = rows_put (Err e) h;
            log = log_left;
          }

      pub record_done : (step : Step) → (NothingHidden old → NothingHidden new) → WorksOn state images begun new (Ok step) (writes_of begun) → PutsRecord state images schema stage old new (Ok tt)
      record_done step hidden h =
          let x = works (Ok step) h in
          record {
            held = x.0.devs_are ∙ put_is;
            ready = x.0.ready;
            idle = x.1;
            up = x.0.up;
            hidden = hidden;
            fuse = all_keep;
            cause = record { cause = x.0.counted ∙ counted; only = tt };
            chunks = chunks_left;
            rows = rows_put (Ok step) h;
            log = log_left;
          }

  module _ (only_now : (disk : D) (image : List ℕ) → images disk (state disk).moment image → IsImage (state disk).pending image) (schema : Schema) (stage : TableState) (table : TableDevs D) (rests : IsReady state table []) where
    still_left : RowsLeave state images table table (IsEither (devs state table).held (with_table (devs state table).held schema (state_number stage)))
    still_left = rows_weaker state images table table (λ held. held ≡ (devs state table).held) (IsEither (devs state table).held (with_table (devs state table).held schema (state_number stage))) (still_row state images only_now table.rows rests.row_looked.vault rests.row_sound) (λ held is. inl is)

    -- memory was refused, and nothing was put
    pub record_short : PutsRecord state images schema stage table table (Err Memory)
    record_short = record {
      held = tt;
      ready = tt;
      idle = tt;
      up = tt;
      hidden = λ _. tt;
      fuse = keeps_same state table table refl refl refl;
      cause = record { cause = (λ is. absurd cc, λ _. refl); only = inr refl };
      chunks = still_chunk state images only_now table.chunks rests.chunk_looked.vault rests.chunk_sound;
      rows = still_left;
      log = still_log state images only_now table.log rests.log_looked.vault rests.log_sound;
    }

    -- the record is there
    pub record_there : writes_of table ≡ [] → (devs state table).held.table ≡ Some (schema, state_number stage) → PutsRecord state images schema stage table table (Ok tt)
    record_there idle there = record {
      held = same (devs state table) there;
      ready = rests;
      idle = idle;
      up = ready_up table [] rests;
      hidden = λ none. none;
      fuse = keeps_same state table table refl refl refl;
      cause = record { cause = refl; only = tt };
      chunks = still_chunk state images only_now table.chunks rests.chunk_looked.vault rests.chunk_sound;
      rows = still_left;
      log = still_log state images only_now table.log rests.log_looked.vault rests.log_sound;
    }
      where
        same : (d : Devs) → d.held.table ≡ Some (schema, state_number stage) → d ≡ changed_by d (PutTable schema (state_number stage))
        same d there = rw (sym there) refl

  -- ---- a declaration

  module _ (only_now : (disk : D) (image : List ℕ) → images disk (state disk).moment image → IsImage (state disk).pending image) (schema : Schema) (stage : TableState) (such : Type 0) (old : TableDevs D) where
    -- the disks weren't made ready
    pub not_made : (mid : TableDevs D) (e : CommitFault) → KeepsUnset state old mid → HasCause {T = Unit {0}} state old mid (Err e) → (such → SomeLeave state images only_now schema stage old mid)
        → MakesTable state images such schema stage old mid (Err e)
    not_made mid e fuse cause none = record { held = tt; ready = tt; idle = tt; up = tt; hidden = tt; fuse = fuse; cause = cause; none = λ was. together state images only_now schema stage old mid (none was) }

    -- they were, and the record was put, or not
    pub made : (mid new : TableDevs D) (r : Result (Unit {0}) CommitFault) → KeepsUnset state old mid → HasCause {T = Unit {0}} state old mid (Ok tt) → NothingHidden mid → changed_by (devs state mid) (PutTable schema (state_number stage)) ≡ no_rows schema stage
        → (such → IsEither nothing (no_rows schema stage) (devs state mid)) → (such → SomeLeave state images only_now schema stage old mid) → PutsRecord state images schema stage mid new r → MakesTable state images such schema stage old new r
    made mid new r fuse cause hidden bare held none put = record {
      held = on_ok_weaker r (λ is. is ∙ bare) put.held;
      ready = put.ready;
      idle = put.idle;
      up = put.up;
      hidden = put.hidden hidden;
      fuse = keeps_then state old mid new fuse put.fuse;
      cause = cause_then state old mid new tt r cause put.cause;
      none = λ was. together state images only_now schema stage old new (record_put state images only_now schema stage old mid new r (held was) (none was) put);
    }

  -- ---- a start

  -- the rows are left as they were, and so again
  pub rows_go_on : (old mid new : TableDevs D) → devs state mid ≡ devs state old → RowsLeave state images old mid (λ held. held ≡ (devs state old).held)
      → RowsLeave state images mid new (λ held. held ≡ (devs state mid).held)
      → RowsLeave state images old new (λ held. held ≡ (devs state old).held)
  rows_go_on old mid new same first second =
      rows_then state images old mid new (λ held. held ≡ (devs state old).held) (λ held. held ≡ (devs state mid).held) (λ held. held ≡ (devs state old).held) first second
      (λ held is. is) (λ held is. is ∙ ap (λ (d : Devs). d.held) same)

  pub begun_start : (old looked new : TableDevs D) (r : Result Recovery CommitFault) → KeepsUnset state old looked → HasCause {T = Unit {0}} state old looked (Ok tt) → devs state looked ≡ devs state old
      → KeepsUnset state looked new → RowsLeave state images old looked (λ held. held ≡ (devs state old).held) → Recovers state images looked new r
      → OnOk r (AreRisingWrites (devs state looked) (writes_of new)) → NothingHidden new → BeginsStart state images old new r
  begun_start old looked new (Ok recovery) keeps cause same more rows k rising hidden = record {
    answer = subst (λ (d : Devs). IsRecovery d recovery) same k.answer;
    writes = subst (λ (d : Devs). AreRisingWrites d (writes_of new)) same rising;
    ready = k.ready;
    up = k.up;
    same = k.same ∙ same;
    hidden = hidden;
    fuse = keeps_then state old looked new keeps more;
    cause = record { cause = k.counted ∙ cause.cause; only = tt };
    left = (looked, subst (λ (d : Devs). DevsLeave state images looked new (λ x. x ≡ d)) same k.any_moment);
    rows_left = rows_go_on old looked new same rows k.rows_left;
  }
  begun_start old looked new (Err e) keeps cause same more rows k rising hidden = record {
    answer = tt;
    writes = tt;
    ready = tt;
    up = tt;
    same = tt;
    hidden = tt;
    fuse = keeps_then state old looked new keeps more;
    cause = cause_then state old looked new tt (Err e) cause (record {
      cause = (λ is. (k.disk (ap (λ (x : CommitFault). Err x) is)).1, λ isnt. ⊎_elim (λ is. absurd (isnt is)) (λ is. (k.memory (ap (λ (x : CommitFault). Err x) is)).counted) k.only);
      only = k.only;
    });
    left = (looked, subst (λ (d : Devs). DevsLeave state images looked new (λ x. x ≡ d)) same k.any_moment);
    rows_left = rows_go_on old looked new same rows k.rows_left;
  }

  -- the table's state wasn't read, for want of memory
  pub not_resumed : (old new : TableDevs D) (recovery : Recovery) → BeginsStart state images old new (Ok recovery) → BeginsStart state images old new (Err Memory)
  not_resumed old new recovery k = record {
    answer = tt;
    writes = tt;
    ready = tt;
    up = tt;
    same = tt;
    hidden = tt;
    fuse = k.fuse;
    cause = record { cause = (λ is. absurd cc, λ _. k.cause.cause); only = inr refl };
    left = k.left;
    rows_left = k.rows_left;
  }
