-- What a start makes of the three devices.
use Rattle.std.proofs.Common.{◌≡◌, inl, inr, ⊎_elim, ◌⊎◌, ℕ, ◌+◌, ◌*◌, ◌<◌, ◌≤◌, Bool, true, false, List, [], ◌∷◌, ◌++◌, length, map, Option, Some, None, Result, Ok, Err, refl, sym, ◌∙◌, ap, subst, arith}
use Rattle.std.specs.Prelude.{IsErrOf, IsSome, IfSome}
use Rattle.disk_trait.specs.Image.{IsImage}
use Rattle.disk_trait.specs.Calls.{DiskState}
use Rattle.vault.specs.Limit.{payload_most}
use Rattle.stab_base.specs.declared.chunk_name.ChunkName.{ChunkName}
use Rattle.held_value.specs.declared.local_name.LocalName.{LocalName}
use Rattle.chunk_store.specs.Standing as chunks
use Rattle.slot_store.specs.Data.{record_of}
use Rattle.slot_store.specs.Standing as slots
use Rattle.plan_log.specs.declared.plan.Intend.{Intend}
use Rattle.plan_log.specs.declared.plan.Commit.{Commit}
use Rattle.plan_log.specs.Spelling.{HasCommit, commit_payload}
use Rattle.plan_log.specs.Journal.{AtWork, Idle, Intended, Committed, committed_plan}
use Rattle.plan_log.specs.Standing as journals
use Rattle.client_journal.specs.declared.devs.Journal.{Journal}
use Rattle.client_journal.specs.declared.rolled.Rolled.{Rolled}
use Rattle.client_journal.specs.declared.fault.JournalFault.{JournalFault}
use Rattle.client_journal.specs.declared.fault.JournalFault.TheVariants.{Disk, Memory}
use Rattle.client_journal.specs.Names.{is_among, Has}
use Rattle.client_journal.specs.Devs.{ClientDevs, Write, OpenJournal, OpenSlots, OpenChunks, DropChunk, PutDone, changed_by, chunk_of, local_in}
use Rattle.client_journal.specs.Redone.{row_behind, record_for, redone}
use Rattle.client_journal.specs.NamedSlots.{AreDifferent, NamedSlots}
use Rattle.client_journal.specs.Agenda.{drops, redo_writes, rest_writes, recovery_writes, AreLeftovers, Runs, IsRedoing}
use Rattle.client_journal.specs.Made.{bytes_of_row, bytes_of_record, IsOld}
use Rattle.client_journal.specs.Standing.{devs, writes_of, all_faults, AreUp, IsReady, MayDoAll, chunk_opens, chunk_puts, chunk_bytes, slot_opens, slot_puts, slot_bytes, journal_opens, journal_puts, journal_bytes}
use Rattle.client_journal.specs.Recover.{IsStarting, Starts, StaysAtStart, Recovers, AreRecoveryWrites, rolled_of}
use Rattle.client_journal.proofs.Lookups.{has_head, has_tail, local_dropped_other}
use Rattle.client_journal.proofs.Works.{all_same, same_ready}
use Rattle.client_journal.proofs.Recoveries.{recovery_runs}
use Rattle.client_journal.proofs.Planned.{row_spelled, row_short, record_spelled, record_short}
use Rattle.client_journal.proofs.Ready.{Needs, may_redo, redo_needs, chunk_less, slot_less, journal_less}

-- ---- the drops of an intend

pub may_undo : (names : List LocalName) (d : ClientDevs) → AreDifferent names → ((name : LocalName) → Has names name → IsSome (local_in d.chunks name)) → MayDoAll d (drops names)
may_undo [] d different there = tt
may_undo (name ∷ names) d different there = (
  there name (has_head name name names refl),
  may_undo names (changed_by d (DropChunk name)) different.1
      (λ q has.
      let other : name ≡ q → ⊥ = λ same. let here : Has names name = subst (Has names) (sym same) has in let none = different.0 in absurd cc in
      subst (λ (o : Option (List ℕ)). IsSome o) (sym (local_dropped_other d.chunks name q other)) (there q (has_tail name q names has))),
)

pub undo_needs : (names : List LocalName) → Needs (drops names) (length names) (13 * length names) 0 1 9
undo_needs [] = record { chunk_opens = refl; chunk_puts = omega arith; chunk_bytes = omega arith; slot_opens = refl; slot_puts = omega arith; slot_bytes = omega arith; journal_opens = refl; journal_puts = omega arith; journal_bytes = omega arith }
undo_needs (name ∷ names) =
    let n = undo_needs names in
    record {
      chunk_opens = n.chunk_opens;
      chunk_puts = omega (arith, n.chunk_puts);
      chunk_bytes = omega (arith, n.chunk_bytes);
      slot_opens = n.slot_opens;
      slot_puts = n.slot_puts;
      slot_bytes = n.slot_bytes;
      journal_opens = n.journal_opens;
      journal_puts = n.journal_puts;
      journal_bytes = n.journal_bytes;
    }

pub nothing_needs : Needs [] 0 0 0 0 0
nothing_needs = record { chunk_opens = refl; chunk_puts = omega arith; chunk_bytes = omega arith; slot_opens = refl; slot_puts = omega arith; slot_bytes = omega arith; journal_opens = refl; journal_puts = omega arith; journal_bytes = omega arith }

-- ---- ready

abbrev opened_first : List Write → List Write
opened_first ws = OpenJournal ∷ (OpenSlots ∷ (OpenChunks ∷ ws))

module _ {D : Type 0} (state : D → DiskState) (client : Journal D) (s : IsStarting state client) where
  pub start_ready : (ws : List Write) (cp cb sp sb jp jb : ℕ) → slot_puts ws ≤ sp → MayDoAll (devs state client) ws → Needs ws cp cb sb jp jb → chunks.HasRoom state client.chunks 1 cp cb → slots.HasRoom state client.slots 1 sp sb
      → journals.HasRoom state client.journal 1 jp jb → IsReady state client (opened_first ws)
  start_ready ws cp cb sp sb jp jb few may n chunk_room slot_room journal_room =
      let co = n.chunk_opens in
      let so = n.slot_opens in
      let jo = n.journal_opens in
      record {
        may = (tt, (tt, (tt, may)));
        chunk_looked = s.looked.chunks;
        chunk_sound = s.sound.chunks;
        chunk_is_opened = tt;
        chunk_room = chunk_less state client.chunks 1 cp cb (chunk_opens ws + 1) (chunk_puts ws) (chunk_bytes ws) (omega (arith, co)) n.chunk_puts n.chunk_bytes chunk_room;
        slot_looked = s.looked.slots;
        slot_sound = s.sound.slots;
        slot_is_opened = tt;
        slot_room = slot_less state client.slots 1 sp sb (slot_opens ws + 1) (slot_puts ws) (slot_bytes ws) (omega (arith, so)) few n.slot_bytes slot_room;
        journal_looked = s.looked.journal;
        journal_sound = s.sound.journal;
        journal_is_opened = tt;
        journal_room = journal_less state client.journal 1 jp jb (journal_opens ws + 1) (journal_puts ws) (journal_bytes ws) (omega (arith, jo)) n.journal_puts n.journal_bytes journal_room;
      }

  pub idle_ready : IsReady state client (opened_first [])
  idle_ready = start_ready [] 0 0 0 0 0 0 (omega arith) tt nothing_needs s.openings.chunks s.openings.slots s.openings.journal

  pub undo_ready : (names : List LocalName) → AreLeftovers (devs state client) names → chunks.HasRoom state client.chunks 1 (length names) (13 * length names) → slots.HasRoom state client.slots 1 2 0
      → journals.HasRoom state client.journal 1 1 9 → IsReady state client (opened_first (drops names))
  undo_ready names l chunk_room slot_room journal_room =
      let n = undo_needs names in
      start_ready (drops names) (length names) (13 * length names) 2 0 1 9 n.slot_puts (may_undo names (devs state client) l.different l.there) n chunk_room slot_room journal_room

  some_plan : (work : AtWork) (commit : Commit) → work ≡ Committed commit → IsSome (committed_plan work)
  some_plan work commit is = subst (λ (w : AtWork). IsSome (committed_plan w)) (sym is) refl

  pub redo_ready : (commit : Commit) (names : List LocalName) → (devs state client).journal.at_work ≡ Committed commit → HasCommit commit → length (commit_payload commit) ≤ payload_most
      → IsOld (record_of (devs state client).held commit.table) → AreLeftovers (devs state client) names → chunks.HasRoom state client.chunks 1 (length names) (13 * length names)
      → slots.HasRoom state client.slots 1 2 (bytes_of_row (row_behind commit) + bytes_of_record (record_for (record_of (devs state client).held commit.table) commit))
      → journals.HasRoom state client.journal 1 1 9 → IsReady state client (opened_first (redo_writes (devs state client).held commit names))
  redo_ready commit names is spelled short old l chunk_room slot_room journal_room =
      let d = devs state client in
      let o = record_of d.held commit.table in
      let n = redo_needs (row_behind commit) (record_for o commit) names in
      let may = may_redo (row_behind commit) (record_for o commit) names d (row_spelled commit spelled) (row_short commit spelled short) (record_spelled commit o spelled old) (record_short commit o short old) (some_plan d.journal.at_work commit is) l.different l.there in
      start_ready (redo_writes d.held commit names) (length names) (13 * length names) 2 (bytes_of_row (row_behind commit) + bytes_of_record (record_for o commit)) 1 9 n.slot_puts may n chunk_room slot_room journal_room

-- ---- a recovery

module _ {D : Type 0} (state : D → DiskState) (images : D → ℕ → List ℕ → Type 0) (only_now : (disk : D) (image : List ℕ) → images disk (state disk).moment image → IsImage (state disk).pending image) (old new : Journal D) (s : IsStarting state old) where
  pub was_refused : {T : Type 0} (e : JournalFault) → Starts {T = T} state images old new (Err e) → Recovers state images old new (Err e)
  was_refused {T} e w = record {
    answer = tt;
    writes = tt;
    ready = tt;
    up = tt;
    same = tt;
    counted = tt;
    runs = tt;
    any_moment = all_same state images only_now old new w.chunks w.slots w.journal;
    idle = w.agenda ∙ s.idle;
    memory = λ is.
        let kind : e ≡ Memory = cc in
        let not_disk : IsErrOf {T = T} (Err e) Disk → ⊥ = λ no. let other : e ≡ Disk = cc in absurd cc in
        record { starting = w.starting not_disk; same = w.same not_disk; counted = w.counted not_disk };
    disk = λ is. let kind : e ≡ Disk = cc in let d = w.disk (ap (λ (x : JournalFault). Err x) kind) in (d.1, d.0);
    only = w.only;
  }

  pub was_recovered : {T : Type 0} (x : T) (rolled : Rolled) (end : Journal D) → Starts {T = T} state images old new (Ok x) → end.chunks ≡ new.chunks → end.slots ≡ new.slots → end.journal ≡ new.journal
      → rolled ≡ rolled_of (devs state old).journal.at_work → AreRecoveryWrites (devs state old) (writes_of end) → IsReady state new (writes_of end) → Recovers state images old end (Ok rolled)
  was_recovered x rolled end w cs rs ls answer writes ready =
      let start = w.starting (λ is. cc) in
      let same : devs state end ≡ devs state old = rw (cs, rs, ls) (w.same (λ is. cc)) in
      record {
        answer = answer;
        writes = writes;
        ready = same_ready state images new end cs rs ls (writes_of end) ready;
        up = record { chunks = rw cs start.looked.chunks.vault.up; slots = rw rs start.looked.slots.vault.up; journal = rw ls start.looked.journal.vault.up };
        same = same;
        counted = rw (cs, rs, ls) (w.counted (λ is. cc));
        runs = λ meaning named.
            subst (λ (d : ClientDevs). Runs (IsRedoing meaning (redone (devs state old))) d (writes_of end)) (sym same)
            (subst (Runs (IsRedoing meaning (redone (devs state old))) (devs state old)) (sym writes.2) (recovery_runs meaning (devs state old) writes.0 named writes.1));
        any_moment = all_same state images only_now old end (rw cs w.chunks) (rw rs w.slots) (rw ls w.journal);
        idle = tt;
        memory = λ is. absurd cc;
        disk = λ is. absurd cc;
        only = tt;
      }
