-- What a start makes of the three devices.
use Rattle.std.proofs.Common.{◌≡◌, inl, inr, ⊎_elim, ◌⊎◌, ℕ, suc, ◌+◌, ◌*◌, ◌<◌, ◌≤◌, Bool, true, false, List, [], ◌∷◌, ◌++◌, length, Option, Some, None, Result, Ok, Err, refl, sym, ◌∙◌, ap, subst}
use Rattle.std.proofs.Common.{arith}
use Rattle.std.specs.Prelude.{IsErrOf, IsSome, is_some, not, filter, if◌then◌else◌}
use Rattle.std.specs.BTreeMap.{is_at}
use Rattle.std.specs.BTreeSet.{contains}
use Rattle.std.specs.VecDeque.{deque_len, deque_capacity}
use Rattle.disk_trait.specs.Image.{IsImage}
use Rattle.disk_trait.specs.Calls.{DiskState}
use Rattle.vault.specs.declared.fault.VaultFault.{VaultFault}
use Rattle.vault.specs.declared.fault.VaultFault.TheVariants as causes
use Rattle.vault.specs.declared.vault.Vault.{Vault}
use Rattle.vault.specs.Standing.{payloads, faults, IsUp, IsDown}
use Rattle.vault.specs.Standing as vaults
use Rattle.vault.specs.Calls.{Refuses, RefusesOnly}
use Rattle.vault.proofs.Uppers.{less_room, runs_weaker}
use Rattle.vault.proofs.Stayings.{vault_stays, stays_alone, looked_leaves}
use Rattle.stab_base.specs.declared.chunk_name.ChunkName.{ChunkName}
use Rattle.spare_map.specs.Late.{without}
use Rattle.chunk_store.specs.declared.device.ChunkDev.{ChunkDev}
use Rattle.chunk_store.specs.declared.fault.ChunkFault.{ChunkFault}
use Rattle.chunk_store.specs.Fault.{fault_of as chunk_fault}
use Rattle.chunk_store.specs.Index.{IsIndex, HasSpare as ChunkSpare}
use Rattle.chunk_store.specs.Payload.{name_cmp, chunks_of}
use Rattle.chunk_store.specs.Standing.{chunk_in}
use Rattle.chunk_store.specs.Standing as chunks
use Rattle.row_store.specs.declared.device.RowDev.{RowDev}
use Rattle.row_store.specs.Data.{TableData, data_of}
use Rattle.row_store.specs.Standing as rows
use Rattle.status_log.specs.declared.device.StatusLog.{StatusLog}
use Rattle.status_log.specs.declared.fault.LogFault.{LogFault}
use Rattle.status_log.specs.Fault.{fault_of as log_fault}
use Rattle.status_log.specs.Memory.{Fits as LogFits, HasSpare as LogSpare}
use Rattle.status_log.specs.Entry.{Entry}
use Rattle.status_log.specs.Payload.{pending_of}
use Rattle.status_log.specs.Standing as logs
use Rattle.store_commit.specs.declared.devs.TableDevs.{TableDevs}
use Rattle.store_commit.specs.declared.task.Task.{Task}
use Rattle.store_commit.specs.declared.fault.CommitFault.{CommitFault}
use Rattle.store_commit.specs.declared.fault.CommitFault.TheVariants.{Disk, Down, Memory}
use Rattle.store_commit.specs.Fault.{chunk_cause, log_cause}
use Rattle.store_commit.specs.Devs.{Devs, Write, OpenChunks, OpenRows, OpenLog, DropChunk, CloseEntry, changed_by}
use Rattle.store_commit.specs.NamedChunks.{Among, AreDifferent, NamedChunks}
use Rattle.store_commit.specs.Agenda.{drops, recovery_writes, AreLeftovers, Runs, IsRecovering}
use Rattle.store_commit.specs.Standing.{devs, writes_of, all_faults, AreUp, IsOneDown, AreLookedAt, AreSound, HaveOpenings, IsReady, DevsLeave, RowsLeave, MayDoAll}
use Rattle.store_commit.specs.Standing.{chunk_opens, chunk_puts, chunk_bytes, row_opens, row_puts, row_bytes, log_opens, log_puts, log_bytes}
use Rattle.store_commit.specs.Recover.{IsStarting, StaysAtStart, MakesRoom, Recovers, IsRecovery, AreRecoveryWrites}
use Rattle.store_commit.specs.declared.recovery.Recovery.{Recovery}
use Rattle.store_commit.specs.Standing.{spared_of}
use Rattle.store_commit.proofs.Leftovers.{among_filter, filter_different}
use Rattle.store_commit.proofs.Seen.{all_kept, none_in}
use Rattle.store_commit.proofs.Lookups.{chunk_dropped_other}
use Rattle.store_commit.proofs.Recoveries.{recovery_runs}
use Rattle.store_commit.proofs.Works.{all_same, same_ready}

-- ---- what the writes of a recovery need

abbrev last : Bool → List Write
last is_open = if is_open then CloseEntry ∷ [] else []

abbrev one_if : Bool → ℕ
one_if is_open = if is_open then 1 else 0

record Needs (names : List ChunkName) (is_open : Bool) : Type 0 where
  pub chunk_opens : chunk_opens (drops names ++ last is_open) ≡ 0
  pub chunk_puts : chunk_puts (drops names ++ last is_open) ≡ length names
  pub chunk_bytes : chunk_bytes (drops names ++ last is_open) ≡ 13 * length names
  pub row_opens : row_opens (drops names ++ last is_open) ≡ 0
  pub row_puts : row_puts (drops names ++ last is_open) ≡ 0
  pub row_bytes : row_bytes (drops names ++ last is_open) ≡ 0
  pub log_opens : log_opens (drops names ++ last is_open) ≡ 0
  pub log_puts : log_puts (drops names ++ last is_open) ≤ 1
  pub log_bytes : log_bytes (drops names ++ last is_open) ≤ 9

needs : (names : List ChunkName) (is_open : Bool) → Needs names is_open
needs [] true = record {
  chunk_opens = refl;
  chunk_puts = refl;
  chunk_bytes = refl;
  row_opens = refl;
  row_puts = refl;
  row_bytes = refl;
  log_opens = refl;
  log_puts = omega arith;
  log_bytes = omega arith;
}
needs [] false = record {
  chunk_opens = refl;
  chunk_puts = refl;
  chunk_bytes = refl;
  row_opens = refl;
  row_puts = refl;
  row_bytes = refl;
  log_opens = refl;
  log_puts = omega arith;
  log_bytes = omega arith;
}
needs (name ∷ names) is_open =
    let n = needs names is_open in
    record {
      chunk_opens = n.chunk_opens;
      chunk_puts = omega (arith, n.chunk_puts);
      chunk_bytes = omega (arith, n.chunk_bytes);
      row_opens = n.row_opens;
      row_puts = n.row_puts;
      row_bytes = n.row_bytes;
      log_opens = n.log_opens;
      log_puts = n.log_puts;
      log_bytes = n.log_bytes;
    }

may_end : (is_open : Bool) (d : Devs) → is_some d.pending ≡ is_open → MayDoAll d (last is_open)
may_end true d is = (is, tt)
may_end false d is = tt

may_drop : (names : List ChunkName) (is_open : Bool) (d : Devs) → is_some d.pending ≡ is_open → AreDifferent names → ((name : ChunkName) → Among name names → IsSome (chunk_in d.chunks name))
    → MayDoAll d (drops names ++ last is_open)
may_drop [] is_open d is different there = may_end is_open d is
may_drop (name ∷ names) is_open d is different there =
    let after : (q : ChunkName) → Among q names → IsSome (chunk_in (without name_cmp d.chunks name) q) = λ q among.
    let other : name ≡ q → ⊥ = λ same. different.0 (subst (λ (x : ChunkName). Among x names) (sym same) among) in
    ap is_some (chunk_dropped_other d.chunks name q other) ∙ there q (inr among) in
    (there name (inl refl), may_drop names is_open (changed_by d (DropChunk name)) is different.1 after)

pub drops_push : (names : List ChunkName) (name : ChunkName) → drops (names ++ name ∷ []) ≡ drops names ++ DropChunk name ∷ []
drops_push [] name = refl
drops_push (n ∷ names) name = ap (λ (ws : List Write). DropChunk n ∷ ws) (drops_push names name)

-- an answer that is no error
pub ok_if : {E : Type 0} (r : Result (Unit {0}) E) → ((x : E) → r ≡ Err x → ⊥) → r ≡ Ok tt
ok_if (Ok tt) none = refl
ok_if (Err x) none = absurd (none x refl)

-- ---- at the start

module _ {D : Type 0} (state : D → DiskState) (images : D → ℕ → List ℕ → Type 0) (only_now : (disk : D) (image : List ℕ) → images disk (state disk).moment image → IsImage (state disk).pending image) where
  chunk_rests : (dev : ChunkDev D) → vaults.IsLookedAt state (chunks.vault_of dev) → vaults.IsSound state (chunks.vault_of dev)
      → chunks.Leaves state images dev dev (λ here. here ≡ chunks.chunks state dev)
  chunk_rests dev looked sound = runs_weaker state images (chunks.vault_of dev) (chunks.vault_of dev) (λ l. l ≡ payloads state (chunks.vault_of dev)) (λ l. chunks_of l ≡ chunks.chunks state dev) (looked_leaves state images only_now (chunks.vault_of dev) looked sound) (λ l is. ap chunks_of is)

  row_rests : (dev : RowDev D) → vaults.IsLookedAt state (rows.vault_of dev) → vaults.IsSound state (rows.vault_of dev) → rows.Leaves state images dev dev (λ here. here ≡ rows.held state dev)
  row_rests dev looked sound = runs_weaker state images (rows.vault_of dev) (rows.vault_of dev) (λ l. l ≡ payloads state (rows.vault_of dev)) (λ l. data_of l ≡ rows.held state dev) (looked_leaves state images only_now (rows.vault_of dev) looked sound) (λ l is. ap data_of is)

  log_rests : (dev : StatusLog D) → vaults.IsLookedAt state (logs.vault_of dev) → vaults.IsSound state (logs.vault_of dev) → logs.Leaves state images dev dev (λ here. here ≡ logs.entry_open state dev)
  log_rests dev looked sound = runs_weaker state images (logs.vault_of dev) (logs.vault_of dev) (λ l. l ≡ payloads state (logs.vault_of dev)) (λ l. pending_of l ≡ logs.entry_open state dev) (looked_leaves state images only_now (logs.vault_of dev) looked sound) (λ l is. ap pending_of is)

  chunk_itself : (dev : ChunkDev D) → chunks.Stays state dev dev
  chunk_itself dev = stays_alone state IsIndex ChunkSpare dev.inner dev.inner (vault_stays state dev.inner.vault) refl refl

  log_itself : (dev : StatusLog D) → logs.Stays state dev dev
  log_itself dev = stays_alone state LogFits LogSpare dev.inner dev.inner (vault_stays state dev.inner.vault) refl refl

  module _ (old : TableDevs D) (s : IsStarting state old) where
    up_at_start : AreUp old
    up_at_start = record { chunks = s.looked.chunks.vault.up; rows = s.looked.rows.vault.up; log = s.looked.log.vault.up }

    -- room was added, and nothing else has changed
    stays : (new : TableDevs D) → new.rows ≡ old.rows → writes_of new ≡ [] → chunks.Stays state old.chunks new.chunks → logs.Stays state old.log new.log
        → faults state (chunks.vault_of new.chunks) ≡ faults state (chunks.vault_of old.chunks) → faults state (logs.vault_of new.log) ≡ faults state (logs.vault_of old.log)
        → StaysAtStart state old new
    stays new rs idle cs ls chunk_faults log_faults = record {
      starting = record {
        looked = record { chunks = cs.looked s.looked.chunks; rows = rw rs s.looked.rows; log = ls.looked s.looked.log };
        sound = record { chunks = cs.sound s.sound.chunks; rows = rw rs s.sound.rows; log = ls.sound s.sound.log };
        openings = record { chunks = cs.room 1 0 0 s.openings.chunks; rows = rw rs s.openings.rows; log = ls.room 1 0 0 s.openings.log };
        idle = idle;
      };
      same =
          let c : chunks.chunks state new.chunks ≡ chunks.chunks state old.chunks = ap chunks_of cs.same in
          let r : rows.held state new.rows ≡ rows.held state old.rows = ap (λ (d : RowDev D). rows.held state d) rs in
          let l : logs.entry_open state new.log ≡ logs.entry_open state old.log = ap pending_of ls.same in
          cc;
      counted = let row_faults : faults state (rows.vault_of new.rows) ≡ faults state (rows.vault_of old.rows) = ap (λ (d : RowDev D). faults state (rows.vault_of d)) rs in omega arith;
    }

    -- a crash leaves the rows that weren't touched
    rows_rest : (new : TableDevs D) → new.rows ≡ old.rows → RowsLeave state images old new (λ held. held ≡ (devs state old).held)
    rows_rest new rs = rw rs (row_rests old.rows s.looked.rows.vault s.sound.rows)

    -- a crash leaves what was there, where it does so of each device
    leaves : (new : TableDevs D) → new.rows ≡ old.rows → chunks.Leaves state images old.chunks new.chunks (λ here. here ≡ chunks.chunks state old.chunks)
        → logs.Leaves state images old.log new.log (λ here. here ≡ logs.entry_open state old.log) → DevsLeave state images old new (λ d. d ≡ devs state old)
    leaves new rs cs ls = all_same state images only_now old new cs (rows_rest new rs) ls

    -- memory was refused before a device was touched
    pub room_refused : (drops : ℕ) (new : TableDevs D) → new.rows ≡ old.rows → new.chunks ≡ old.chunks → new.log ≡ old.log → writes_of new ≡ [] → MakesRoom state images drops old new (Err Memory)
    room_refused drops new rs cs ls idle =
        let kept : StaysAtStart state old new = stays new rs idle (rw cs (chunk_itself old.chunks)) (rw ls (log_itself old.log)) (rw cs refl) (rw ls refl) in
        record {
          stays = tt;
          chunk_room = tt;
          log_room = tt;
          agenda_room = tt;
          any_moment = leaves new rs (rw cs (chunk_rests old.chunks s.looked.chunks.vault s.sound.chunks)) (rw ls (log_rests old.log s.looked.log.vault s.sound.log));
          idle = idle;
          memory = λ is. kept;
          disk = λ is. absurd cc;
          only = inr refl;
        }

    -- the chunks' device refused room
    pub chunks_refused : (drops : ℕ) (new : TableDevs D) → new.rows ≡ old.rows → new.log ≡ old.log → writes_of new ≡ [] → (x : ChunkFault)
        → chunks.Reserves state images drops (13 * drops) old.chunks new.chunks (Err x) → MakesRoom state images drops old new (Err (chunk_cause x))
    chunks_refused drops new rs ls idle x k = pick k.only.0 k.only.1
      where
        moment : DevsLeave state images old new (λ d. d ≡ devs state old)
        moment = leaves new rs (k.any_moment s.looked.chunks.vault.up s.sound.chunks) (rw ls (log_rests old.log s.looked.log.vault s.sound.log))

        pick : (c : VaultFault) → x ≡ chunk_fault c → MakesRoom state images drops old new (Err (chunk_cause x))
        pick causes.Disk same =
            let is : chunk_cause x ≡ Disk = ap chunk_cause same in
            let rose = k.refuses.cause.0 same in
            let down = k.refuses.disk (ap (λ e. Err e) same) in
            let row_faults : faults state (rows.vault_of new.rows) ≡ faults state (rows.vault_of old.rows) = ap (λ (d : RowDev D). faults state (rows.vault_of d)) rs in
            let log_faults : faults state (logs.vault_of new.log) ≡ faults state (logs.vault_of old.log) = ap (λ (d : StatusLog D). faults state (logs.vault_of d)) ls in
            subst (λ (e : CommitFault). MakesRoom state images drops old new (Err e)) (sym is) (record {
              stays = tt;
              chunk_room = tt;
              log_room = tt;
              agenda_room = tt;
              any_moment = moment;
              idle = idle;
              memory = λ no. absurd cc;
              disk = λ no. (inl down, omega arith);
              only = inl refl;
            })
        pick causes.Down same = let down = k.refuses.down.0 (ap (λ e. Err e) same) in let up = s.looked.chunks.vault.up in absurd cc
        pick causes.Memory same =
            let is : chunk_cause x ≡ Memory = ap chunk_cause same in
            let counted = k.refuses.cause.1 (λ no. absurd cc) in
            let kept : StaysAtStart state old new = stays new rs idle (k.memory (ap (λ e. Err e) same)) (rw ls (log_itself old.log)) counted (rw ls refl) in
            subst (λ (e : CommitFault). MakesRoom state images drops old new (Err e)) (sym is) (record {
              stays = tt;
              chunk_room = tt;
              log_room = tt;
              agenda_room = tt;
              any_moment = moment;
              idle = idle;
              memory = λ no. kept;
              disk = λ no. absurd cc;
              only = inr refl;
            })

    -- the log refused it
    pub log_refused : (drops : ℕ) (new : TableDevs D) → new.rows ≡ old.rows → writes_of new ≡ []
        → chunks.Reserves state images drops (13 * drops) old.chunks new.chunks (Ok tt) → (x : LogFault)
        → logs.Reserves state images 1 9 old.log new.log (Err x) → MakesRoom state images drops old new (Err (log_cause x))
    log_refused drops new rs idle r x k = pick k.only.0 k.only.1
      where
        moment : DevsLeave state images old new (λ d. d ≡ devs state old)
        moment = leaves new rs (r.any_moment s.looked.chunks.vault.up s.sound.chunks) (k.any_moment s.looked.log.vault.up s.sound.log)

        pick : (c : VaultFault) → x ≡ log_fault c → MakesRoom state images drops old new (Err (log_cause x))
        pick causes.Disk same =
            let is : log_cause x ≡ Disk = ap log_cause same in
            let rose = k.refuses.cause.0 same in
            let counted = r.refuses.cause in
            let down = k.refuses.disk (ap (λ e. Err e) same) in
            let row_faults : faults state (rows.vault_of new.rows) ≡ faults state (rows.vault_of old.rows) = ap (λ (d : RowDev D). faults state (rows.vault_of d)) rs in
            subst (λ (e : CommitFault). MakesRoom state images drops old new (Err e)) (sym is) (record {
              stays = tt;
              chunk_room = tt;
              log_room = tt;
              agenda_room = tt;
              any_moment = moment;
              idle = idle;
              memory = λ no. absurd cc;
              disk = λ no. (inr (inr down), omega arith);
              only = inl refl;
            })
        pick causes.Down same = let down = k.refuses.down.0 (ap (λ e. Err e) same) in let up = s.looked.log.vault.up in absurd cc
        pick causes.Memory same =
            let is : log_cause x ≡ Memory = ap log_cause same in
            let counted = k.refuses.cause.1 (λ no. absurd cc) in
            let kept : StaysAtStart state old new = stays new rs idle r.stays (k.memory (ap (λ e. Err e) same)) r.refuses.cause counted in
            subst (λ (e : CommitFault). MakesRoom state images drops old new (Err e)) (sym is) (record {
              stays = tt;
              chunk_room = tt;
              log_room = tt;
              agenda_room = tt;
              any_moment = moment;
              idle = idle;
              memory = λ no. kept;
              disk = λ no. absurd cc;
              only = inr refl;
            })

    pub room_made : (drops : ℕ) (new : TableDevs D) → new.rows ≡ old.rows → writes_of new ≡ [] → deque_len new.agenda + (drops + 4) ≤ deque_capacity new.agenda
        → chunks.Reserves state images drops (13 * drops) old.chunks new.chunks (Ok tt)
        → logs.Reserves state images 1 9 old.log new.log (Ok tt) → MakesRoom state images drops old new (Ok tt)
    room_made drops new rs idle agenda r k = record {
      stays = stays new rs idle r.stays k.stays r.refuses.cause k.refuses.cause;
      chunk_room = r.room;
      log_room = k.room;
      agenda_room = agenda;
      any_moment = leaves new rs (r.any_moment s.looked.chunks.vault.up s.sound.chunks) (k.any_moment s.looked.log.vault.up s.sound.log);
      idle = idle;
      memory = λ is. absurd cc;
      disk = λ is. absurd cc;
      only = tt;
    }

    -- ready for all that is to be done
    pub recovery_ready : (names : List ChunkName) → chunks.HasRoom state old.chunks 1 (length names) (13 * length names) → logs.HasRoom state old.log 1 1 9 → AreDifferent names
        → ((name : ChunkName) → Among name names → IsSome (chunk_in (devs state old).chunks name))
        → IsReady state old (recovery_writes names (is_some (devs state old).pending))
    recovery_ready names chunk_room log_room different there =
        let d = devs state old in
        let is_open = is_some d.pending in
        let n = needs names is_open in
        let rest = drops names ++ last is_open in
        let ws = recovery_writes names is_open in
        record {
          may = (tt, (tt, (tt, may_drop names is_open d refl different there)));
          chunk_looked = s.looked.chunks;
          chunk_sound = s.sound.chunks;
          chunk_is_opened = tt;
          chunk_room = subst (λ (b : ℕ). chunks.HasRoom state old.chunks (chunk_opens ws) (chunk_puts ws) b) (sym n.chunk_bytes)
              (subst (λ (p : ℕ). chunks.HasRoom state old.chunks (chunk_opens ws) p (13 * length names)) (sym n.chunk_puts)
              (subst (λ (o : ℕ). chunks.HasRoom state old.chunks (o + 1) (length names) (13 * length names)) (sym n.chunk_opens) chunk_room));
          row_looked = s.looked.rows;
          row_sound = s.sound.rows;
          row_is_opened = tt;
          row_room = subst (λ (b : ℕ). rows.HasRoom state old.rows (row_opens ws) (row_puts ws) b) (sym n.row_bytes)
              (subst (λ (p : ℕ). rows.HasRoom state old.rows (row_opens ws) p 0) (sym n.row_puts)
              (subst (λ (o : ℕ). rows.HasRoom state old.rows (o + 1) 0 0) (sym n.row_opens) s.openings.rows));
          log_looked = s.looked.log;
          log_sound = s.sound.log;
          log_is_opened = tt;
          log_room = subst (λ (o : ℕ). logs.HasRoom state old.log (o + 1) (log_puts ws) (log_bytes ws)) (sym n.log_opens) (log_less (log_puts rest) (log_bytes rest) n.log_puts n.log_bytes log_room);
        }
      where
        log_less : (p b : ℕ) → p ≤ 1 → b ≤ 9 → logs.HasRoom state old.log 1 1 9 → logs.HasRoom state old.log 1 p b
        log_less p b few short room = record {
          vault = less_room state (logs.vault_of old.log) 1 1 9 1 p b (omega arith) few short room.vault;
          memory = λ some. let m = room.memory (omega arith) in omega arith;
          payload = λ some. let m = room.payload (omega arith) in omega arith;
        }

  -- ---- a recovery

  abbrev devs_at : List (List ℕ) → List (List ℕ) → List (List ℕ) → Devs
  devs_at cs rs ls = record { chunks = chunks_of cs; held = data_of rs; pending = pending_of ls }

  -- the disks weren't touched before this
  from_before : (old mid new : TableDevs D) → chunks.vault_of mid.chunks ≡ chunks.vault_of old.chunks → mid.rows ≡ old.rows → mid.log ≡ old.log → devs state mid ≡ devs state old
      → DevsLeave state images mid new (λ d. d ≡ devs state mid) → DevsLeave state images old new (λ d. d ≡ devs state old)
  from_before old mid new cs rs ls same leave = record {
    each = λ c r l ic ir il.
        let jc = subst (λ (v : Vault D). images (vaults.disk_of (chunks.vault_of new.chunks)) (state (vaults.disk_of v)).moment c) (sym cs) ic in
        let jr = subst (λ (v : RowDev D). images (vaults.disk_of (rows.vault_of new.rows)) (state (vaults.disk_of (rows.vault_of v))).moment r) (sym rs) ir in
        let jl = subst (λ (v : StatusLog D). images (vaults.disk_of (logs.vault_of new.log)) (state (vaults.disk_of (logs.vault_of v))).moment l) (sym ls) il in
        let left = leave.each c r l jc jr jl in
        (left.0, left.1, left.2, left.3, left.4, left.5, ◌∙◌ {a = devs_at left.0 left.1 left.2} left.6 same);
    later = record {
      chunks = subst (λ (v : Vault D). (state (vaults.disk_of v)).moment ≤ (state (vaults.disk_of (chunks.vault_of new.chunks))).moment) cs leave.later.chunks;
      rows = subst (λ (v : RowDev D). (state (vaults.disk_of (rows.vault_of v))).moment ≤ (state (vaults.disk_of (rows.vault_of new.rows))).moment) rs leave.later.rows;
      log = subst (λ (v : StatusLog D). (state (vaults.disk_of (logs.vault_of v))).moment ≤ (state (vaults.disk_of (logs.vault_of new.log))).moment) ls leave.later.log;
    };
  }

  module _ (old mid : TableDevs D) (s : IsStarting state old) (cs : chunks.vault_of mid.chunks ≡ chunks.vault_of old.chunks) (rs : mid.rows ≡ old.rows) (ls : mid.log ≡ old.log) (agenda : mid.agenda ≡ old.agenda) (kept : chunks.Stays state old.chunks mid.chunks) where
    still_starting : StaysAtStart state old mid
    still_starting =
        let idle : writes_of mid ≡ [] = rw agenda s.idle in
        stays old s mid rs idle kept (rw ls (log_itself old.log)) (ap (λ (v : Vault D). faults state v) cs) (rw ls refl)

    still_leaves : DevsLeave state images old mid (λ d. d ≡ devs state old)
    still_leaves =
        leaves old s mid rs
        (subst (λ (v : Vault D). vaults.Leaves state images (chunks.vault_of old.chunks) v (λ l. chunks_of l ≡ chunks.chunks state old.chunks)) (sym cs) (chunk_rests old.chunks s.looked.chunks.vault s.sound.chunks))
        (rw ls (log_rests old.log s.looked.log.vault s.sound.log))

    pub start_known : IsStarting state mid
    start_known = still_starting.starting

    -- memory was refused while it was found what to do
    pub plan_refused : Recovers state images old mid (Err Memory)
    plan_refused = record {
      answer = tt;
      writes = tt;
      ready = tt;
      up = tt;
      same = tt;
      counted = tt;
      runs = tt;
      any_moment = still_leaves;
      rows_left = rows_rest old s mid rs;
      idle = still_starting.starting.idle;
      memory = λ is. still_starting;
      disk = λ is. absurd cc;
      only = inr refl;
    }

    module _ (new : TableDevs D) (drops : ℕ) (new_rows : new.rows ≡ mid.rows) where
      since : {r : Result (Unit {0}) CommitFault} → MakesRoom state images drops mid new r → DevsLeave state images old new (λ d. d ≡ devs state old)
      since m = from_before old mid new cs rs ls still_starting.same m.any_moment

      both_stay : StaysAtStart state mid new → StaysAtStart state old new
      both_stay k = record { starting = k.starting; same = k.same ∙ still_starting.same; counted = k.counted ∙ still_starting.counted }

      -- there was no room
      pub no_room : (e : CommitFault) → MakesRoom state images drops mid new (Err e) → Recovers state images old new (Err e)
      no_room e m = record {
        answer = tt;
        writes = tt;
        ready = tt;
        up = tt;
        same = tt;
        counted = tt;
        runs = tt;
        any_moment = since m;
        rows_left = rows_rest old s new (new_rows ∙ rs);
        idle = m.idle;
        memory = λ is. let kind : e ≡ Memory = cc in both_stay (m.memory (ap (λ (x : CommitFault). Err x) kind));
        disk = λ is. let kind : e ≡ Disk = cc in let d = m.disk (ap (λ (x : CommitFault). Err x) kind) in let counted = still_starting.counted in (d.0, omega (arith, d.1));
        only = m.only;
      }

      -- it was taken on
      pub recovered : (end : TableDevs D) → end.chunks ≡ new.chunks → end.rows ≡ new.rows → end.log ≡ new.log → (recovery : Recovery) → IsRecovery (devs state old) recovery
          → (names kept : List ChunkName) → AreLeftovers (devs state old) names → kept ≡ filter (λ (name : ChunkName). not (contains name_cmp (spared_of old) name)) names
          → (is_open : Bool) → is_open ≡ is_some (devs state old).pending → writes_of end ≡ recovery_writes kept is_open
          → drops ≡ length kept
          → MakesRoom state images drops mid new (Ok tt) → Recovers state images old end (Ok recovery)
      recovered end ce re le recovery answer names kept l kept_is is_open open_is writes size m = record {
        answer = answer;
        writes = (names, l, all_writes ∙ ap (λ (ns : List ChunkName). recovery_writes ns (is_some (devs state old).pending)) kept_is);
        ready = same_ready state images new end ce re le (writes_of end) ready;
        up = let k = up_at_start new m.stays.starting in record { chunks = rw ce k.chunks; rows = rw re k.rows; log = rw le k.log };
        same = end_same;
        counted = end_counted;
        runs = λ meaning none named.
            subst (λ (d : Devs). Runs (IsRecovering meaning (devs state old).held) d (writes_of end)) (sym end_same)
            (subst (Runs (IsRecovering meaning (devs state old).held) (devs state old)) (sym (all_writes ∙ ap (λ (ns : List ChunkName). recovery_writes ns (is_some (devs state old).pending)) (kept_is ∙ all_kept (λ (name : ChunkName). not (contains name_cmp (spared_of old) name)) names (λ name. ap not (none_in (spared_of old) (is_at (name_cmp name)) none))))) (recovery_runs meaning (devs state old) named names l));
        any_moment = record { each = rw (ce, re, le) (since m).each; later = record { chunks = rw ce (since m).later.chunks; rows = rw re (since m).later.rows; log = rw le (since m).later.log } };
        rows_left = rows_rest old s end (re ∙ new_rows ∙ rs);
        idle = tt;
        memory = λ is. absurd cc;
        disk = λ is. absurd cc;
        only = tt;
      }
        where
          new_same : devs state new ≡ devs state old
          new_same = m.stays.same ∙ still_starting.same

          end_same : devs state end ≡ devs state old
          end_same =
              let c : chunks.chunks state end.chunks ≡ chunks.chunks state new.chunks = ap (chunks.chunks state) ce in
              let r : rows.held state end.rows ≡ rows.held state new.rows = ap (rows.held state) re in
              let o : logs.entry_open state end.log ≡ logs.entry_open state new.log = ap (logs.entry_open state) le in
              let step : devs state end ≡ devs state new = cc in
              step ∙ new_same

          end_counted : all_faults state end ≡ all_faults state old
          end_counted =
              let c : faults state (chunks.vault_of end.chunks) ≡ faults state (chunks.vault_of new.chunks) = ap (λ (d : ChunkDev D). faults state (chunks.vault_of d)) ce in
              let r : faults state (rows.vault_of end.rows) ≡ faults state (rows.vault_of new.rows) = ap (λ (d : RowDev D). faults state (rows.vault_of d)) re in
              let o : faults state (logs.vault_of end.log) ≡ faults state (logs.vault_of new.log) = ap (λ (d : StatusLog D). faults state (logs.vault_of d)) le in
              let a = m.stays.counted in
              let b = still_starting.counted in
              omega arith

          all_writes : writes_of end ≡ recovery_writes kept (is_some (devs state old).pending)
          all_writes = writes ∙ ap (recovery_writes kept) open_is

          different : AreDifferent kept
          different = subst AreDifferent (sym kept_is) (filter_different (λ (name : ChunkName). not (contains name_cmp (spared_of old) name)) names l.different)

          there : (name : ChunkName) → Among name kept → IsSome (chunk_in (devs state new).chunks name)
          there name among =
              let left = among_filter (λ (q : ChunkName). not (contains name_cmp (spared_of old) q)) name names (subst (λ (ns : List ChunkName). Among name ns) kept_is among) in
              subst (λ (d : Devs). IsSome (chunk_in d.chunks name)) (sym new_same) (l.there name left.1)

          ready : IsReady state new (writes_of end)
          ready =
              let r = recovery_ready new m.stays.starting kept (subst (λ (n : ℕ). chunks.HasRoom state new.chunks 1 n (13 * n)) size m.chunk_room) m.log_room different there in
              let ws : recovery_writes kept (is_some (devs state new).pending) ≡ writes_of end = ap (λ (d : Devs). recovery_writes kept (is_some d.pending)) new_same ∙ sym all_writes in
              subst (IsReady state new) ws r
