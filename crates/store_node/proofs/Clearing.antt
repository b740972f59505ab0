-- Devices that hold nothing, or the record of a table alone, are bare, and with the record put they are those of a table.
use Rattle.std.proofs.Common.{◌≡◌, ⊎_elim, true, [], None, refl, ap, sym, subst}
use Rattle.disk_trait.specs.Calls.{DiskState}
use Rattle.vault.specs.Calls.{IsEither}
use Rattle.row_value.specs.declared.schema.Schema.{Schema}
use Rattle.table_model.specs.declared.table_state.TableState.{TableState}
use Rattle.device_laws.specs.Stands.{state_number}
use Rattle.store_commit.specs.declared.devs.TableDevs.{TableDevs}
use Rattle.store_commit.specs.Bare.{is_bare, IsBare}
use Rattle.store_commit.specs.Devs.{Devs, PutTable, changed_by}
use Rattle.store_commit.specs.Standing.{devs, nothing, AreUp}
use Rattle.store_commit.proofs.Bares.{bare_holds}
use Rattle.store_node.specs.Devices.{no_rows, HoldNone}

module _ {D : Type 0} (state : D → DiskState) (schema : Schema) (stage : TableState) where
  pub none_bare : (table : TableDevs D) → AreUp table → HoldNone state schema stage table → IsBare state table
  none_bare table up k = record { up = up; synced = k.synced; sound = k.sound; bare = ⊎_elim (λ is. ap is_bare is) (λ is. ap is_bare is) k.held }

  pub bare_put : (table : TableDevs D) → is_bare (devs state table) ≡ true → changed_by (devs state table) (PutTable schema (state_number stage)) ≡ no_rows schema stage
  bare_put table is = let k = bare_holds (devs state table) is in same (devs state table) k.rows k.subs k.chunks k.pending
    where
      same : (d : Devs) → d.held.rows ≡ [] → d.held.subs ≡ [] → d.chunks ≡ [] → d.pending ≡ None → changed_by d (PutTable schema (state_number stage)) ≡ no_rows schema stage
      same d rows subs chunks pending = rw (rows, subs, chunks, pending) refl

  pub still_either : (old mid : TableDevs D) → devs state mid ≡ devs state old → IsEither nothing (no_rows schema stage) (devs state old) → IsEither nothing (no_rows schema stage) (devs state mid)
  still_either old mid same either = subst (IsEither nothing (no_rows schema stage)) (sym same) either
