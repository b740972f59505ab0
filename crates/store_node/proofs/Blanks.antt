-- What a crash leaves while a table is made on disks that hold nothing, or the record of the table alone.
use Rattle.std.proofs.Common.{◌≡◌, inl, inr, ⊎_elim, ℕ, List, [], Option, None, Result, sym, ◌∙◌, ap, subst}
use Rattle.disk_trait.specs.Image.{IsImage}
use Rattle.disk_trait.specs.Calls.{DiskState}
use Rattle.vault.specs.File.{StandsFor}
use Rattle.vault.specs.declared.vault.Vault.{Vault}
use Rattle.vault.specs.Standing.{payloads, disk_of, IsSound, IsBlank}
use Rattle.vault.specs.Calls.{IsEither}
use Rattle.vault.proofs.Uppers.{runs_then, runs_weaker}
use Rattle.stab_base.specs.declared.chunk_name.ChunkName.{ChunkName}
use Rattle.row_value.specs.declared.schema.Schema.{Schema}
use Rattle.table_model.specs.declared.table_state.TableState.{TableState}
use Rattle.device_laws.specs.Stands.{state_number}
use Rattle.chunk_store.specs.Payload.{chunks_of}
use Rattle.chunk_store.specs.Standing as chunks
use Rattle.row_store.specs.Data.{TableData, data_of, nothing_held, with_table}
use Rattle.row_store.specs.Standing as rows
use Rattle.status_log.specs.Entry.{Entry}
use Rattle.status_log.specs.Payload.{pending_of}
use Rattle.status_log.specs.Standing as logs
use Rattle.store_commit.specs.declared.devs.TableDevs.{TableDevs}
use Rattle.store_commit.specs.declared.fault.CommitFault.{CommitFault}
use Rattle.store_commit.specs.Devs.{Devs}
use Rattle.store_commit.specs.Standing.{devs, nothing, AreUp, AreBlank, RowsLeave}
use Rattle.store_commit.specs.TakesOn.{AllLeave, NoneLeave}
use Rattle.store_commit.proofs.Moments.{rows_then, rows_weaker}
use Rattle.store_commit.proofs.Works.{leave, synced_chunks, synced_rows, synced_log, short_stands, all_empty}
use Rattle.store_node.specs.Devices.{no_rows, LeavesNoRows, HoldNone, PutsRecord}

abbrev devs_of : List (ChunkName × List ℕ) → TableData → Option Entry → Devs
devs_of c h p = record { chunks = c; held = h; pending = p }

same_devs : (c : List (ChunkName × List ℕ)) (h : TableData) (p : Option Entry) (d : List (ChunkName × List ℕ)) (i : TableData) (q : Option Entry) → c ≡ d → h ≡ i → p ≡ q → devs_of c h p ≡ devs_of d i q
same_devs c h p d i q a b e = cc

module _ {D : Type 0} (state : D → DiskState) (images : D → ℕ → List ℕ → Type 0) (only_now : (disk : D) (image : List ℕ) → images disk (state disk).moment image → IsImage (state disk).pending image) (schema : Schema) (stage : TableState) where
  -- of each device by itself: no chunk, no row and no open entry
  pub record SomeLeave (old new : TableDevs D) : Type 0 where
    pub chunks : chunks.Leaves state images old.chunks new.chunks (λ here. here ≡ [])
    pub rows : RowsLeave state images old new (IsEither nothing_held (no_rows schema stage).held)
    pub log : logs.Leaves state images old.log new.log (λ here. here ≡ None)

  pub together : (old new : TableDevs D) → SomeLeave old new → LeavesNoRows state images schema stage old new
  together old new k = record {
    any_moment = leave state images only_now old new (λ here. here ≡ []) (IsEither nothing_held (no_rows schema stage).held) (λ here. here ≡ None) (IsEither nothing (no_rows schema stage)) k.chunks k.rows k.log
        (λ x y z px py pz. ⊎_elim (λ is. inl (same_devs x y z [] nothing_held None px is pz)) (λ is. inr (same_devs x y z [] (no_rows schema stage).held None px is pz)) py);
    rows_left = k.rows;
  }

  -- a format of blank disks
  pub none_some : (old new : TableDevs D) → NoneLeave state images old new → SomeLeave old new
  none_some old new none = record {
    chunks = none.chunks;
    rows = rows_weaker state images old new (λ held. held ≡ nothing_held) (IsEither nothing_held (no_rows schema stage).held) none.rows (λ held is. inl is);
    log = none.log;
  }

  -- ---- devices that hold nothing, or the record of the table alone

  abbrev HoldsEither : TableDevs D → Type 0
  HoldsEither table = IsEither nothing (no_rows schema stage) (devs state table)

  no_chunk : (table : TableDevs D) → HoldsEither table → chunks.chunks state table.chunks ≡ []
  no_chunk table either = ⊎_elim (λ is. ap (λ (d : Devs). d.chunks) is) (λ is. ap (λ (d : Devs). d.chunks) is) either

  no_row : (table : TableDevs D) → HoldsEither table → IsEither nothing_held (no_rows schema stage).held (devs state table).held
  no_row table either = ⊎_elim (λ is. inl (ap (λ (d : Devs). d.held) is)) (λ is. inr (ap (λ (d : Devs). d.held) is)) either

  no_open : (table : TableDevs D) → HoldsEither table → logs.entry_open state table.log ≡ None
  no_open table either = ⊎_elim (λ is. ap (λ (d : Devs). d.pending) is) (λ is. ap (λ (d : Devs). d.pending) is) either

  -- calls that leave what is held
  pub held_some : (old new : TableDevs D) → HoldsEither old → AllLeave state images old new → SomeLeave old new
  held_some old new either k = record {
    chunks = runs_weaker state images (chunks.vault_of old.chunks) (chunks.vault_of new.chunks) (λ l. chunks_of l ≡ chunks.chunks state old.chunks) (λ l. chunks_of l ≡ []) k.chunks (λ l is. is ∙ no_chunk old either);
    rows = rows_weaker state images old new (λ held. held ≡ (devs state old).held) (IsEither nothing_held (no_rows schema stage).held) k.rows (λ held is. subst (IsEither nothing_held (no_rows schema stage).held) (sym is) (no_row old either));
    log = runs_weaker state images (logs.vault_of old.log) (logs.vault_of new.log) (λ l. pending_of l ≡ logs.entry_open state old.log) (λ l. pending_of l ≡ None) k.log (λ l is. is ∙ no_open old either);
  }

  -- the put of the table's record, behind calls that leave none
  pub record_put : (old mid new : TableDevs D) (r : Result (Unit {0}) CommitFault) → HoldsEither mid → SomeLeave old mid → PutsRecord state images schema stage mid new r → SomeLeave old new
  record_put old mid new r either first put = record {
    chunks = runs_then state images (chunks.vault_of old.chunks) (chunks.vault_of mid.chunks) (chunks.vault_of new.chunks) (λ l. chunks_of l ≡ []) (λ l. chunks_of l ≡ chunks.chunks state mid.chunks) (λ l. chunks_of l ≡ []) first.chunks put.chunks
        (λ l is. is) (λ l is. is ∙ no_chunk mid either);
    rows = rows_then state images old mid new (IsEither nothing_held (no_rows schema stage).held) (IsEither (devs state mid).held (with_table (devs state mid).held schema (state_number stage))) (IsEither nothing_held (no_rows schema stage).held) first.rows put.rows
        (λ held is. is) (λ held is. ⊎_elim (λ before. subst (IsEither nothing_held (no_rows schema stage).held) (sym before) (no_row mid either)) (λ after. inr (after ∙ put_is)) is);
    log = runs_then state images (logs.vault_of old.log) (logs.vault_of mid.log) (logs.vault_of new.log) (λ l. pending_of l ≡ None) (λ l. pending_of l ≡ logs.entry_open state mid.log) (λ l. pending_of l ≡ None) first.log put.log
        (λ l is. is) (λ l is. is ∙ no_open mid either);
  }
    where
      put_is : with_table (devs state mid).held schema (state_number stage) ≡ (no_rows schema stage).held
      put_is = ⊎_elim (λ is. ap (λ (d : Devs). with_table d.held schema (state_number stage)) is) (λ is. ap (λ (d : Devs). with_table d.held schema (state_number stage)) is) either

  -- ---- while nothing is done

  pub still_some : (table : TableDevs D) → AreUp table → HoldNone state schema stage table → SomeLeave table table
  still_some table up k =
      held_some table table k.held
      (record {
        chunks = synced_chunks state images only_now table.chunks up.chunks k.synced.chunks k.sound.chunks;
        rows = synced_rows state images only_now table.rows up.rows k.synced.rows k.sound.rows;
        log = synced_log state images only_now table.log up.log k.synced.log k.sound.log;
      })

  -- ---- blank disks

  -- a blank file stands for no payload
  blank_vault : (vault : Vault D) → IsBlank state vault → (payloads state vault ≡ []) × IsSound state vault
  blank_vault vault blank =
      let file = (state (disk_of vault)).seen in
      let left = short_stands state images only_now file blank.short in
      (left.1.records ∙ left.2, subst (StandsFor file) (sym left.1.records) left.1)

  pub blank_holds : (table : TableDevs D) → AreBlank state table → HoldNone state schema stage table
  blank_holds table blank =
      let c = blank_vault (chunks.vault_of table.chunks) blank.chunks in
      let r = blank_vault (rows.vault_of table.rows) blank.rows in
      let l = blank_vault (logs.vault_of table.log) blank.log in
      record {
        held = inl (all_empty state images only_now (chunks.chunks state table.chunks) (rows.held state table.rows) (logs.entry_open state table.log) (ap chunks_of c.0) (ap data_of r.0) (ap pending_of l.0));
        sound = record { chunks = c.1; rows = r.1; log = l.1 };
        synced = record { chunks = λ _. blank.chunks.synced; rows = λ _. blank.rows.synced; log = λ _. blank.log.synced };
      }
