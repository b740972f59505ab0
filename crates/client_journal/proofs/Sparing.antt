-- A recovery without the drops of chunks that are named.
use Rattle.std.proofs.Common.{◌≡◌, inl, inr, ⊎_elim, ◌⊎◌, ℕ, ◌+◌, ◌<◌, ◌≤◌, Bool, true, false, cond, not, List, [], ◌∷◌, ◌++◌, length, map, filter, Option, Some, None, Result, Ok, Err, refl, sym, ◌∙◌, ap, subst, arith}
use Rattle.std.specs.Prelude.{IsSome, IsErrOf, OnOk}
use Rattle.std.specs.BTreeMap.{insert_entry}
use Rattle.std.specs.BTreeSet.{BTreeSet}
use Rattle.std.specs.List.{AllByRecursion}
use Rattle.disk_trait.specs.Image.{IsImage}
use Rattle.disk_trait.specs.Calls.{DiskState}
use Rattle.vault.specs.Standing.{disk_of}
use Rattle.chunk_store.specs.declared.device.ChunkDev.{ChunkDev}
use Rattle.slot_store.specs.declared.device.SlotDev.{SlotDev}
use Rattle.plan_log.specs.declared.device.PlanLog.{PlanLog}
use Rattle.stab_base.specs.declared.chunk_name.ChunkName.{ChunkName}
use Rattle.held_value.specs.declared.local_name.LocalName.{LocalName}
use Rattle.spare_map.specs.Late.{without}
use Rattle.chunk_store.specs.Payload.{name_cmp}
use Rattle.chunk_store.specs.Standing as chunks
use Rattle.slot_store.specs.declared.held.RowKey.{RowKey}
use Rattle.slot_store.specs.declared.held.RowSlots.{RowSlots}
use Rattle.slot_store.specs.declared.held.TableRecord.{TableRecord}
use Rattle.slot_store.specs.Data.{SlotData, with_slots, with_record, slots_of, record_of}
use Rattle.slot_store.specs.Standing as slots
use Rattle.plan_log.specs.declared.plan.Commit.{Commit}
use Rattle.plan_log.specs.Journal.{AtWork, Idle, Intended, Committed, with_intend, with_commit, with_done}
use Rattle.plan_log.specs.Journal.{Journal as Planned}
use Rattle.plan_log.specs.Standing as journals
use Rattle.client_journal.specs.declared.devs.Journal.{Journal}
use Rattle.client_journal.specs.declared.task.Task.{Task}
use Rattle.client_journal.specs.declared.rolled.Rolled.{Rolled}
use Rattle.client_journal.specs.declared.scanned.Scanned.{Scanned}
use Rattle.client_journal.specs.declared.fault.JournalFault.{JournalFault}
use Rattle.client_journal.specs.declared.fault.JournalFault.TheVariants.{Disk, Memory}
use Rattle.client_journal.specs.Names.{is_among, Has, names_in}
use Rattle.client_journal.specs.Devs.{ClientDevs, chunk_of, local_in, Write, OpenJournal, OpenSlots, OpenChunks, PutIntend, PutChunk, PutCommit, PutSlots, PutRecord, DropChunk, PutDone, changed_by, changed_by_all}
use Rattle.client_journal.specs.Redone.{redone, row_behind, record_for}
use Rattle.client_journal.specs.NamedSlots.{IsNamed, NamedSlots, IsLeft}
use Rattle.client_journal.specs.Agenda.{drops, slot_writes, record_writes, rest_writes, recovery_writes, AreLeftovers, Runs, IsRedoing}
use Rattle.client_journal.specs.Standing.{devs, write_of, writes_of, IsReady, MayDoAll, chunk_opens, chunk_puts, chunk_bytes, slot_opens, slot_puts, slot_bytes, journal_opens, journal_puts, journal_bytes, chunk_opened, slot_opened, journal_opened}
use Rattle.client_journal.specs.Recover.{Recovers, AreRecoveryWrites}
use Rattle.client_journal.specs.There.{Chunks, is_not_there, is_hidden_at, named_from, names_there}
use Rattle.client_journal.specs.Scan.{IsFound}
use Rattle.client_journal.specs.Spare.{is_in, spares, unspared, Spares}
use Rattle.client_journal.proofs.Lookups.{cases_local, has_head, has_tail, local_put, local_put_other, local_dropped, local_dropped_other}
use Rattle.client_journal.proofs.Works.{all_chunk, all_slot, all_journal, same_ready}
use Rattle.client_journal.proofs.Ready.{chunk_less, slot_less, journal_less}
use Rattle.client_journal.proofs.Wholes.{rows_stand, has_either}

module _ (is_named : LocalName → Bool) where
  abbrev left : List Write → List Write
  left ws = unspared is_named ws

  -- ---- they may be done

  abbrev Map : Type 0
  Map = List (ChunkName × List ℕ)

  abbrev HaveMore : Map → Map → Type 0
  HaveMore more less = (q : LocalName) → IsSome (local_in less q) → IsSome (local_in more q)

  abbrev at_ : Map → SlotData → Planned → ClientDevs
  at_ cs held planned = record { chunks = cs; held = held; journal = planned }

  some_is : (o : Option (List ℕ)) (bytes : List ℕ) → o ≡ Some bytes → IsSome o
  some_is (Some x) bytes is = refl
  some_is None bytes is = absurd cc

  none_is : (o : Option (List ℕ)) → o ≡ None → IsSome o → ⊥
  none_is (Some x) is some = cc
  none_is None is some = cc

  more_put : (more less : Map) (name : LocalName) (bytes : List ℕ) → HaveMore more less → HaveMore (insert_entry name_cmp more (chunk_of name) bytes) (insert_entry name_cmp less (chunk_of name) bytes)
  more_put more less name bytes h q some =
      ⊎_elim
      (λ same. some_is (local_in (insert_entry name_cmp more (chunk_of name) bytes) q) bytes (ap (local_in (insert_entry name_cmp more (chunk_of name) bytes)) (sym same) ∙ local_put more name bytes))
      (λ other. subst (λ (o : Option (List ℕ)). IsSome o) (sym (local_put_other more name bytes q other)) (h q (subst (λ (o : Option (List ℕ)). IsSome o) (local_put_other less name bytes q other) some)))
      (cases_local name q)

  less_dropped : (more less : Map) (name : LocalName) → HaveMore more less → HaveMore more (without name_cmp less (chunk_of name))
  less_dropped more less name h q some =
      ⊎_elim
      (λ same. absurd (none_is (local_in (without name_cmp less (chunk_of name)) q) (ap (local_in (without name_cmp less (chunk_of name))) (sym same) ∙ local_dropped less name) some))
      (λ other. h q (subst (λ (o : Option (List ℕ)). IsSome o) (local_dropped_other less name q other) some))
      (cases_local name q)

  both_dropped : (more less : Map) (name : LocalName) → HaveMore more less → HaveMore (without name_cmp more (chunk_of name)) (without name_cmp less (chunk_of name))
  both_dropped more less name h q some =
      ⊎_elim
      (λ same. absurd (none_is (local_in (without name_cmp less (chunk_of name)) q) (ap (local_in (without name_cmp less (chunk_of name))) (sym same) ∙ local_dropped less name) some))
      (λ other. subst (λ (o : Option (List ℕ)). IsSome o) (sym (local_dropped_other more name q other)) (h q (subst (λ (o : Option (List ℕ)). IsSome o) (local_dropped_other less name q other) some)))
      (cases_local name q)

  may_left : (ws : List Write) (more less : Map) (held : SlotData) (planned : Planned) → HaveMore more less → MayDoAll (at_ less held planned) ws → MayDoAll (at_ more held planned) (left ws)
  may_left [] more less held planned h m = tt
  may_left (OpenJournal ∷ ws) more less held planned h m = (tt, may_left ws more less held planned h m.1)
  may_left (OpenSlots ∷ ws) more less held planned h m = (tt, may_left ws more less held planned h m.1)
  may_left (OpenChunks ∷ ws) more less held planned h m = (tt, may_left ws more less held planned h m.1)
  may_left (PutIntend intend ∷ ws) more less held planned h m = (m.0, may_left ws more less held (with_intend planned intend) h m.1)
  may_left (PutChunk name bytes ∷ ws) more less held planned h m =
      (m.0, may_left ws (insert_entry name_cmp more (chunk_of name) bytes) (insert_entry name_cmp less (chunk_of name) bytes) held planned (more_put more less name bytes h) m.1)
  may_left (PutCommit commit ∷ ws) more less held planned h m = (m.0, may_left ws more less held (with_commit planned commit) h m.1)
  may_left (PutSlots row ∷ ws) more less held planned h m = (m.0, may_left ws more less (with_slots held row) planned h m.1)
  may_left (PutRecord table ∷ ws) more less held planned h m = (m.0, may_left ws more less (with_record held table) planned h m.1)
  may_left (DropChunk name ∷ ws) more less held planned h m =
      pick (is_named name)
      (may_left ws more (without name_cmp less (chunk_of name)) held planned (less_dropped more less name h) m.1)
      (may_left ws (without name_cmp more (chunk_of name)) (without name_cmp less (chunk_of name)) held planned (both_dropped more less name h) m.1)
    where
      pick : (b : Bool) → MayDoAll (at_ more held planned) (left ws) → MayDoAll (at_ (without name_cmp more (chunk_of name)) held planned) (left ws)
          → MayDoAll (at_ more held planned) (cond (not b) (DropChunk name ∷ left ws) (left ws))
      pick true spared dropped = spared
      pick false spared dropped = (h name m.0, dropped)
  may_left (PutDone ∷ ws) more less held planned h m = (m.0, may_left ws more less held (with_done planned planned.greatest) h m.1)

  -- ---- no more is needed

  pub record NeedsLess (less more : List Write) : Type 0 where
    pub chunk_opens : chunk_opens less ≡ chunk_opens more
    pub chunk_puts : chunk_puts less ≤ chunk_puts more
    pub chunk_bytes : chunk_bytes less ≤ chunk_bytes more
    pub slot_opens : slot_opens less ≡ slot_opens more
    pub slot_puts : slot_puts less ≡ slot_puts more
    pub slot_bytes : slot_bytes less ≡ slot_bytes more
    pub journal_opens : journal_opens less ≡ journal_opens more
    pub journal_puts : journal_puts less ≡ journal_puts more
    pub journal_bytes : journal_bytes less ≡ journal_bytes more

  pub less_left : (ws : List Write) → NeedsLess (left ws) ws
  less_left [] = record { chunk_opens = refl; chunk_puts = omega arith; chunk_bytes = omega arith; slot_opens = refl; slot_puts = refl; slot_bytes = refl; journal_opens = refl; journal_puts = refl; journal_bytes = refl }
  less_left (OpenJournal ∷ ws) = let c = less_left ws in record { chunk_opens = c.chunk_opens; chunk_puts = c.chunk_puts; chunk_bytes = c.chunk_bytes; slot_opens = c.slot_opens; slot_puts = c.slot_puts; slot_bytes = c.slot_bytes; journal_opens = omega (arith, c.journal_opens); journal_puts = c.journal_puts; journal_bytes = c.journal_bytes }
  less_left (OpenSlots ∷ ws) = let c = less_left ws in record { chunk_opens = c.chunk_opens; chunk_puts = c.chunk_puts; chunk_bytes = c.chunk_bytes; slot_opens = omega (arith, c.slot_opens); slot_puts = c.slot_puts; slot_bytes = c.slot_bytes; journal_opens = c.journal_opens; journal_puts = c.journal_puts; journal_bytes = c.journal_bytes }
  less_left (OpenChunks ∷ ws) = let c = less_left ws in record { chunk_opens = omega (arith, c.chunk_opens); chunk_puts = c.chunk_puts; chunk_bytes = c.chunk_bytes; slot_opens = c.slot_opens; slot_puts = c.slot_puts; slot_bytes = c.slot_bytes; journal_opens = c.journal_opens; journal_puts = c.journal_puts; journal_bytes = c.journal_bytes }
  less_left (PutIntend intend ∷ ws) = let c = less_left ws in record { chunk_opens = c.chunk_opens; chunk_puts = c.chunk_puts; chunk_bytes = c.chunk_bytes; slot_opens = c.slot_opens; slot_puts = c.slot_puts; slot_bytes = c.slot_bytes; journal_opens = c.journal_opens; journal_puts = omega (arith, c.journal_puts); journal_bytes = omega (arith, c.journal_bytes) }
  less_left (PutChunk name bytes ∷ ws) = let c = less_left ws in record { chunk_opens = c.chunk_opens; chunk_puts = omega (arith, c.chunk_puts); chunk_bytes = omega (arith, c.chunk_bytes); slot_opens = c.slot_opens; slot_puts = c.slot_puts; slot_bytes = c.slot_bytes; journal_opens = c.journal_opens; journal_puts = c.journal_puts; journal_bytes = c.journal_bytes }
  less_left (PutCommit commit ∷ ws) = let c = less_left ws in record { chunk_opens = c.chunk_opens; chunk_puts = c.chunk_puts; chunk_bytes = c.chunk_bytes; slot_opens = c.slot_opens; slot_puts = c.slot_puts; slot_bytes = c.slot_bytes; journal_opens = c.journal_opens; journal_puts = omega (arith, c.journal_puts); journal_bytes = omega (arith, c.journal_bytes) }
  less_left (PutSlots row ∷ ws) = let c = less_left ws in record { chunk_opens = c.chunk_opens; chunk_puts = c.chunk_puts; chunk_bytes = c.chunk_bytes; slot_opens = c.slot_opens; slot_puts = omega (arith, c.slot_puts); slot_bytes = omega (arith, c.slot_bytes); journal_opens = c.journal_opens; journal_puts = c.journal_puts; journal_bytes = c.journal_bytes }
  less_left (PutRecord table ∷ ws) = let c = less_left ws in record { chunk_opens = c.chunk_opens; chunk_puts = c.chunk_puts; chunk_bytes = c.chunk_bytes; slot_opens = c.slot_opens; slot_puts = omega (arith, c.slot_puts); slot_bytes = omega (arith, c.slot_bytes); journal_opens = c.journal_opens; journal_puts = c.journal_puts; journal_bytes = c.journal_bytes }
  less_left (DropChunk name ∷ ws) = pick (is_named name) (less_left ws)
    where
      pick : (b : Bool) → NeedsLess (left ws) ws → NeedsLess (cond (not b) (DropChunk name ∷ left ws) (left ws)) (DropChunk name ∷ ws)
      pick true c = record { chunk_opens = c.chunk_opens; chunk_puts = omega (arith, c.chunk_puts); chunk_bytes = omega (arith, c.chunk_bytes); slot_opens = c.slot_opens; slot_puts = c.slot_puts; slot_bytes = c.slot_bytes; journal_opens = c.journal_opens; journal_puts = c.journal_puts; journal_bytes = c.journal_bytes }
      pick false c = record { chunk_opens = c.chunk_opens; chunk_puts = omega (arith, c.chunk_puts); chunk_bytes = omega (arith, c.chunk_bytes); slot_opens = c.slot_opens; slot_puts = c.slot_puts; slot_bytes = c.slot_bytes; journal_opens = c.journal_opens; journal_puts = c.journal_puts; journal_bytes = c.journal_bytes }
  less_left (PutDone ∷ ws) = let c = less_left ws in record { chunk_opens = c.chunk_opens; chunk_puts = c.chunk_puts; chunk_bytes = c.chunk_bytes; slot_opens = c.slot_opens; slot_puts = c.slot_puts; slot_bytes = c.slot_bytes; journal_opens = c.journal_opens; journal_puts = omega (arith, c.journal_puts); journal_bytes = omega (arith, c.journal_bytes) }

  chunk_opened_left : (opened : Type 0) (ws : List Write) → chunk_opened opened ws → chunk_opened opened (left ws)
  chunk_opened_left opened [] h = h
  chunk_opened_left opened (OpenJournal ∷ ws) h = chunk_opened_left opened ws h
  chunk_opened_left opened (OpenSlots ∷ ws) h = chunk_opened_left opened ws h
  chunk_opened_left opened (OpenChunks ∷ ws) h = tt
  chunk_opened_left opened (PutIntend intend ∷ ws) h = chunk_opened_left opened ws h
  chunk_opened_left opened (PutChunk name bytes ∷ ws) h = h
  chunk_opened_left opened (PutCommit commit ∷ ws) h = chunk_opened_left opened ws h
  chunk_opened_left opened (PutSlots row ∷ ws) h = chunk_opened_left opened ws h
  chunk_opened_left opened (PutRecord table ∷ ws) h = chunk_opened_left opened ws h
  chunk_opened_left opened (DropChunk name ∷ ws) h = pick (is_named name)
    where
      pick : (b : Bool) → chunk_opened opened (cond (not b) (DropChunk name ∷ left ws) (left ws))
      pick true = all_chunk opened (left ws) h
      pick false = h
  chunk_opened_left opened (PutDone ∷ ws) h = chunk_opened_left opened ws h

  slot_opened_left : (opened : Type 0) (ws : List Write) → slot_opened opened ws → slot_opened opened (left ws)
  slot_opened_left opened [] h = h
  slot_opened_left opened (OpenJournal ∷ ws) h = slot_opened_left opened ws h
  slot_opened_left opened (OpenSlots ∷ ws) h = tt
  slot_opened_left opened (OpenChunks ∷ ws) h = slot_opened_left opened ws h
  slot_opened_left opened (PutIntend intend ∷ ws) h = slot_opened_left opened ws h
  slot_opened_left opened (PutChunk name bytes ∷ ws) h = slot_opened_left opened ws h
  slot_opened_left opened (PutCommit commit ∷ ws) h = slot_opened_left opened ws h
  slot_opened_left opened (PutSlots row ∷ ws) h = h
  slot_opened_left opened (PutRecord table ∷ ws) h = h
  slot_opened_left opened (DropChunk name ∷ ws) h = pick (is_named name) (slot_opened_left opened ws h)
    where
      pick : (b : Bool) → slot_opened opened (left ws) → slot_opened opened (cond (not b) (DropChunk name ∷ left ws) (left ws))
      pick true more = more
      pick false more = more
  slot_opened_left opened (PutDone ∷ ws) h = slot_opened_left opened ws h

  journal_opened_left : (opened : Type 0) (ws : List Write) → journal_opened opened ws → journal_opened opened (left ws)
  journal_opened_left opened [] h = h
  journal_opened_left opened (OpenJournal ∷ ws) h = tt
  journal_opened_left opened (OpenSlots ∷ ws) h = journal_opened_left opened ws h
  journal_opened_left opened (OpenChunks ∷ ws) h = journal_opened_left opened ws h
  journal_opened_left opened (PutIntend intend ∷ ws) h = h
  journal_opened_left opened (PutChunk name bytes ∷ ws) h = journal_opened_left opened ws h
  journal_opened_left opened (PutCommit commit ∷ ws) h = h
  journal_opened_left opened (PutSlots row ∷ ws) h = journal_opened_left opened ws h
  journal_opened_left opened (PutRecord table ∷ ws) h = journal_opened_left opened ws h
  journal_opened_left opened (DropChunk name ∷ ws) h = pick (is_named name) (journal_opened_left opened ws h)
    where
      pick : (b : Bool) → journal_opened opened (left ws) → journal_opened opened (cond (not b) (DropChunk name ∷ left ws) (left ws))
      pick true more = more
      pick false more = more
  journal_opened_left opened (PutDone ∷ ws) h = h

  -- ---- ready

  pub ready_left : {D : Type 0} (state : D → DiskState) (client : Journal D) (ws : List Write) → IsReady state client ws → IsReady state client (left ws)
  ready_left state client ws r =
      let n = less_left ws in
      record {
        may = may_left ws (chunks.chunks state client.chunks) (chunks.chunks state client.chunks) (slots.held state client.slots) (journals.held state client.journal) (λ q some. some) r.may;
        chunk_looked = r.chunk_looked;
        chunk_sound = r.chunk_sound;
        chunk_is_opened = chunk_opened_left (chunks.IsOpened state client.chunks) ws r.chunk_is_opened;
        chunk_room = chunk_less state client.chunks (chunk_opens ws) (chunk_puts ws) (chunk_bytes ws) (chunk_opens (left ws)) (chunk_puts (left ws)) (chunk_bytes (left ws)) (omega (arith, n.chunk_opens)) n.chunk_puts n.chunk_bytes r.chunk_room;
        slot_looked = r.slot_looked;
        slot_sound = r.slot_sound;
        slot_is_opened = slot_opened_left (slots.IsOpened state client.slots) ws r.slot_is_opened;
        slot_room = slot_less state client.slots (slot_opens ws) (slot_puts ws) (slot_bytes ws) (slot_opens (left ws)) (slot_puts (left ws)) (slot_bytes (left ws)) (omega (arith, n.slot_opens)) (omega (arith, n.slot_puts)) (omega (arith, n.slot_bytes)) r.slot_room;
        journal_looked = r.journal_looked;
        journal_sound = r.journal_sound;
        journal_is_opened = journal_opened_left (journals.IsOpened state client.journal) ws r.journal_is_opened;
        journal_room = journal_less state client.journal (journal_opens ws) (journal_puts ws) (journal_bytes ws) (journal_opens (left ws)) (journal_puts (left ws)) (journal_bytes (left ws)) (omega (arith, n.journal_opens)) (omega (arith, n.journal_puts)) (omega (arith, n.journal_bytes)) r.journal_room;
      }

  -- ---- the chunks that are named stay

  abbrev PutsNone : List Write → Type 0
  PutsNone [] = Unit {0}
  PutsNone (PutChunk name bytes ∷ ws) = ⊥
  PutsNone (_ ∷ ws) = PutsNone ws

  module _ (name : LocalName) (named : is_named name ≡ true) where
    stays : (ws : List Write) → PutsNone ws → (cs : Map) (held : SlotData) (planned : Planned) → local_in (changed_by_all (at_ cs held planned) (left ws)).chunks name ≡ local_in cs name
    stays [] none cs held planned = refl
    stays (OpenJournal ∷ ws) none cs held planned = stays ws none cs held planned
    stays (OpenSlots ∷ ws) none cs held planned = stays ws none cs held planned
    stays (OpenChunks ∷ ws) none cs held planned = stays ws none cs held planned
    stays (PutIntend intend ∷ ws) none cs held planned = stays ws none cs held (with_intend planned intend)
    stays (PutChunk q bytes ∷ ws) none cs held planned = absurd none
    stays (PutCommit commit ∷ ws) none cs held planned = stays ws none cs held (with_commit planned commit)
    stays (PutSlots row ∷ ws) none cs held planned = stays ws none cs (with_slots held row) planned
    stays (PutRecord table ∷ ws) none cs held planned = stays ws none cs (with_record held table) planned
    stays (DropChunk q ∷ ws) none cs held planned = pick (is_named q) refl (stays ws none cs held planned) (stays ws none (without name_cmp cs (chunk_of q)) held planned)
      where
        pick : (b : Bool) → is_named q ≡ b → local_in (changed_by_all (at_ cs held planned) (left ws)).chunks name ≡ local_in cs name
            → local_in (changed_by_all (at_ (without name_cmp cs (chunk_of q)) held planned) (left ws)).chunks name ≡ local_in (without name_cmp cs (chunk_of q)) name
            → local_in (changed_by_all (at_ cs held planned) (cond (not b) (DropChunk q ∷ left ws) (left ws))).chunks name ≡ local_in cs name
        pick true is spared dropped = spared
        pick false is spared dropped = dropped ∙ local_dropped_other cs q name (λ same. let t : is_named q ≡ true = ap is_named same ∙ named in absurd cc)
    stays (PutDone ∷ ws) none cs held planned = stays ws none cs held (with_done planned planned.greatest)

  drops_put_none : (names : List LocalName) (ws : List Write) → PutsNone ws → PutsNone (drops names ++ ws)
  drops_put_none [] ws h = h
  drops_put_none (name ∷ names) ws h = drops_put_none names ws h

  only_drops : (names : List LocalName) → PutsNone (drops names)
  only_drops [] = tt
  only_drops (name ∷ names) = only_drops names

  slots_put_none : (row : Option RowSlots) (ws : List Write) → PutsNone ws → PutsNone (slot_writes row ws)
  slots_put_none None ws h = h
  slots_put_none (Some row) ws h = h

  record_put_none : (table : Option TableRecord) (ws : List Write) → PutsNone ws → PutsNone (record_writes table ws)
  record_put_none None ws h = h
  record_put_none (Some table) ws h = h

  rest_put_none : (work : AtWork) (held : SlotData) (names : List LocalName) → PutsNone (rest_writes work held names)
  rest_put_none Idle held names = tt
  rest_put_none (Intended intend) held names = only_drops names
  rest_put_none (Committed commit) held names =
      slots_put_none (row_behind commit) (record_writes (record_for (record_of held commit.table) commit) (drops names ++ PutDone ∷ []))
      (record_put_none (record_for (record_of held commit.table) commit) (drops names ++ PutDone ∷ []) (drops_put_none names (PutDone ∷ []) tt))

  pub named_stays : (d : ClientDevs) (ws : List Write) → AreRecoveryWrites d ws → (name : LocalName) → is_named name ≡ true → local_in (changed_by_all d (left ws)).chunks name ≡ local_in d.chunks name
  named_stays d ws are name named = stays name named ws (subst PutsNone (sym are.2) (rest_put_none d.journal.at_work d.held are.0)) d.chunks d.held d.journal

  -- ---- nothing is spared

  abbrev NoneNamed : List LocalName → Type 0
  NoneNamed names = (name : LocalName) → Has names name → is_named name ≡ false

  drops_same : (names : List LocalName) (ws : List Write) → left ws ≡ ws → NoneNamed names → left (drops names ++ ws) ≡ drops names ++ ws
  drops_same [] ws same none = same
  drops_same (name ∷ names) ws same none =
      ap (λ (b : Bool). cond (not b) (DropChunk name ∷ left (drops names ++ ws)) (left (drops names ++ ws))) (none name (has_head name name names refl))
      ∙ ap (λ (l : List Write). DropChunk name ∷ l) (drops_same names ws same (λ q has. none q (has_tail name q names has)))

  all_drops_same : (names : List LocalName) → NoneNamed names → left (drops names) ≡ drops names
  all_drops_same [] none = refl
  all_drops_same (name ∷ names) none =
      ap (λ (b : Bool). cond (not b) (DropChunk name ∷ left (drops names)) (left (drops names))) (none name (has_head name name names refl))
      ∙ ap (λ (l : List Write). DropChunk name ∷ l) (all_drops_same names (λ q has. none q (has_tail name q names has)))

  slots_same : (row : Option RowSlots) (ws : List Write) → left ws ≡ ws → left (slot_writes row ws) ≡ slot_writes row ws
  slots_same None ws same = same
  slots_same (Some row) ws same = ap (λ (l : List Write). PutSlots row ∷ l) same

  record_same : (table : Option TableRecord) (ws : List Write) → left ws ≡ ws → left (record_writes table ws) ≡ record_writes table ws
  record_same None ws same = same
  record_same (Some table) ws same = ap (λ (l : List Write). PutRecord table ∷ l) same

  rest_same : (work : AtWork) (held : SlotData) (names : List LocalName) → NoneNamed names → left (rest_writes work held names) ≡ rest_writes work held names
  rest_same Idle held names none = refl
  rest_same (Intended intend) held names none = all_drops_same names none
  rest_same (Committed commit) held names none =
      slots_same (row_behind commit) (record_writes (record_for (record_of held commit.table) commit) (drops names ++ PutDone ∷ []))
      (record_same (record_for (record_of held commit.table) commit) (drops names ++ PutDone ∷ []) (drops_same names (PutDone ∷ []) refl none))

  pub all_left : (d : ClientDevs) (names : List LocalName) → NoneNamed names → left (recovery_writes d names) ≡ recovery_writes d names
  all_left d names none = ap (λ (l : List Write). OpenJournal ∷ (OpenSlots ∷ (OpenChunks ∷ l))) (rest_same d.journal.at_work d.held names none)

-- ---- what is named is named by a row

named_from_row : (d : ClientDevs) (name : LocalName) (before : List LocalName) (es : List (RowKey × RowSlots)) → AllByRecursion (λ (e : RowKey × RowSlots). slots_of (redone d) e.0.table e.0.row ≡ Some e.1) es
    → Has (named_from d.chunks (redone d) d.journal.greatest before es) name → Has before name ⊎ IsNamed (redone d) name
named_from_row d name before [] all h = inl h
named_from_row d name before (e ∷ es) all h = pick (is_hidden_at d.chunks (redone d) d.journal.greatest before e) (named_from_row d name before es all.1) (named_from_row d name (before ++ names_in e.1.slots) es all.1) h
  where
    pick : (b : Bool) → (Has (named_from d.chunks (redone d) d.journal.greatest before es) name → Has before name ⊎ IsNamed (redone d) name)
        → (Has (named_from d.chunks (redone d) d.journal.greatest (before ++ names_in e.1.slots) es) name → Has (before ++ names_in e.1.slots) name ⊎ IsNamed (redone d) name)
        → Has (cond b (named_from d.chunks (redone d) d.journal.greatest before es) (named_from d.chunks (redone d) d.journal.greatest (before ++ names_in e.1.slots) es)) name → Has before name ⊎ IsNamed (redone d) name
    pick true hidden there a = hidden a
    pick false hidden there a = ⊎_elim
        (λ more. ⊎_elim (λ was. inl was) (λ its. inr (record { table = e.0.table; row = e.0.row; stored = e.1; there = all.0; among = its })) (has_either before (names_in e.1.slots) name more))
        (λ row. inr row)
        (there a)

none_named : (meaning : LocalName → List ℕ) (d : ClientDevs) (scanned : Scanned) (names : List LocalName) → NamedSlots meaning d → IsFound d scanned → AreLeftovers d names → (name : LocalName) → Has names name → is_in scanned.named name ≡ false
none_named meaning d scanned names n found l name has = split (is_among (names_there d) name) refl
  where
    split : (b : Bool) → is_among (names_there d) name ≡ b → is_in scanned.named name ≡ false
    split false is = found.named.same name ∙ is
    split true is = absurd (⊎_elim (λ no_. cc) (λ row. n.apart name (l.left name has) row) (named_from_row d name [] (redone d).rows (rows_stand (redone d) found.rising) is))

-- ---- a recovery

pub tasks_left : (is_named : LocalName → Bool) (tasks : List Task) → map write_of (filter (λ (task : Task). not (spares is_named (write_of task))) tasks) ≡ unspared is_named (map write_of tasks)
tasks_left is_named [] = refl
tasks_left is_named (task ∷ tasks) = pick (spares is_named (write_of task)) (tasks_left is_named tasks)
  where
    pick : (b : Bool) → map write_of (filter (λ (t : Task). not (spares is_named (write_of t))) tasks) ≡ unspared is_named (map write_of tasks)
        → map write_of (cond (not b) (task ∷ filter (λ (t : Task). not (spares is_named (write_of t))) tasks) (filter (λ (t : Task). not (spares is_named (write_of t))) tasks))
        ≡ cond (not b) (write_of task ∷ unspared is_named (map write_of tasks)) (unspared is_named (map write_of tasks))
    pick true more = more
    pick false more = ap (λ (l : List Write). write_of task ∷ l) more

module _ {D : Type 0} (state : D → DiskState) (images : D → ℕ → List ℕ → Type 0) (scanned : Scanned) (old : Journal D) where
  pub refused : (new : Journal D) (e : JournalFault) → Recovers state images old new (Err e) → Spares state images scanned old new (Err e)
  refused new e k = record {
    answer = tt;
    writes = tt;
    ready = tt;
    up = tt;
    same = tt;
    counted = tt;
    spared = tt;
    runs = tt;
    any_moment = k.any_moment;
    idle = k.idle;
    memory = k.memory;
    disk = k.disk;
    only = k.only;
  }

  pub sparing : (full new : Journal D) (rolled : Rolled) → new.chunks ≡ full.chunks → new.slots ≡ full.slots → new.journal ≡ full.journal → Recovers state images old full (Ok rolled)
      → writes_of new ≡ unspared (is_in scanned.named) (writes_of full) → Spares state images scanned old new (Ok rolled)
  sparing full new rolled cs rs ls k are =
      let named : LocalName → Bool = is_in scanned.named in
      let here : devs state new ≡ devs state full = rw (cs, rs, ls) refl in
      record {
        answer = k.answer;
        writes = (writes_of full, k.writes, are);
        ready = subst (λ (ws : List Write). IsReady state new ws) (sym are) (same_ready state images full new cs rs ls (unspared named (writes_of full)) (ready_left named state full (writes_of full) k.ready));
        up = record { chunks = rw cs k.up.chunks; slots = rw rs k.up.slots; journal = rw ls k.up.journal };
        same = here ∙ k.same;
        counted = rw (cs, rs, ls) k.counted;
        spared = λ name is.
            subst (λ (ws : List Write). local_in (changed_by_all (devs state new) ws).chunks name ≡ local_in (devs state old).chunks name) (sym are)
            (subst (λ (d : ClientDevs). local_in (changed_by_all d (unspared named (writes_of full))).chunks name ≡ local_in (devs state old).chunks name) (sym (here ∙ k.same)) (named_stays named (devs state old) (writes_of full) k.writes name is));
        runs = λ meaning n found.
            let all : unspared named (writes_of full) ≡ writes_of full = ap (unspared named) k.writes.2 ∙ (all_left named (devs state old) k.writes.0 (none_named meaning (devs state old) scanned k.writes.0 n found k.writes.1) ∙ sym k.writes.2) in (
              subst (AreRecoveryWrites (devs state old)) (sym (are ∙ all)) k.writes,
              subst (λ (ws : List Write). Runs (IsRedoing meaning (redone (devs state old))) (devs state new) ws) (sym (are ∙ all))
                  (subst (λ (d : ClientDevs). Runs (IsRedoing meaning (redone (devs state old))) d (writes_of full)) (sym here) (k.runs meaning n)),
            );
        any_moment = record {
          each = λ a b l ca cb cl. k.any_moment.each a b l
              (subst (λ (x : ChunkDev D). images (disk_of (chunks.vault_of x)) (state (disk_of (chunks.vault_of old.chunks))).moment a) cs ca)
              (subst (λ (x : SlotDev D). images (disk_of (slots.vault_of x)) (state (disk_of (slots.vault_of old.slots))).moment b) rs cb)
              (subst (λ (x : PlanLog D). images (disk_of (journals.vault_of x)) (state (disk_of (journals.vault_of old.journal))).moment l) ls cl);
          later = record { chunks = rw cs k.any_moment.later.chunks; slots = rw rs k.any_moment.later.slots; journal = rw ls k.any_moment.later.journal };
        };
        idle = tt;
        memory = λ is. absurd cc;
        disk = λ is. absurd cc;
        only = tt;
      }
