-- Devices that a test goes on with.
use Rattle.std.proofs.Common.{◌≡◌, ℕ, false, List, [], ◌∷◌, Option, Some, None, is_some, option_map, Result, Ok, Err, refl, sym, ◌∙◌, ap, subst, arith}
use Rattle.std.specs.Prelude.{OnOk}
use Rattle.disk_trait.specs.Calls.{DiskState}
use Rattle.disk_trait.specs.Image.{settled}
use Rattle.vault.specs.declared.vault.Vault.{Vault}
use Rattle.vault.specs.File.{StandsFor, payloads_of}
use Rattle.vault.specs.Standing.{disk_of, IsSound, IsSynced, IsUp}
use Rattle.vault.specs.Calls.{IsEither}
use Rattle.vault.proofs.Uppers.{opened_sound}
use Rattle.chunk_store.specs.declared.device.ChunkDev.{ChunkDev}
use Rattle.chunk_store.specs.declared.fault.ChunkFault.{ChunkFault}
use Rattle.chunk_store.specs.Standing as chunks
use Rattle.chunk_store.specs.Standing.{chunk_in}
use Rattle.row_store.specs.declared.device.RowDev.{RowDev}
use Rattle.row_store.specs.declared.fault.RowFault.{RowFault}
use Rattle.row_store.specs.Standing as rows
use Rattle.status_log.specs.declared.device.StatusLog.{StatusLog}
use Rattle.status_log.specs.declared.fault.LogFault.{LogFault}
use Rattle.status_log.specs.Standing as logs
use Rattle.stab_base.specs.declared.step.Step.{Step}
use Rattle.store_commit.specs.declared.devs.TableDevs.{TableDevs}
use Rattle.store_commit.specs.declared.fault.CommitFault.{CommitFault}
use Rattle.row_value.specs.declared.schema.Schema.{Schema}
use Rattle.row_value.specs.declared.pieces.PieceContent.TheVariants.{Gone}
use Rattle.row_value.specs.Fit as fit
use Rattle.store_commit.specs.Devs.{Devs, Write, PutTable, changed_by}
use Rattle.store_commit.specs.There.{misfits, lacks}
use Rattle.store_commit.specs.Scan.{Asks}
use Rattle.store_commit.specs.TakesOn.{TakesOn}
use Rattle.store_commit.specs.Update.{IsUpdate, brought}
use Rattle.store_commit.specs.Standing.{devs, seen, nothing, writes_of, AreUp, AreSynced, AreSound, AreLookedAt, IsReady, DevsLeave, WorksOn}
use Rattle.device_tests.specs.Standing.{ChunksStand, RowsStand, LogStands, AreWhole, AreWorking, AreKnown, HasTable}

pub none_open : {A B : Type 0} (f : A → B) (found : Option A) (entry : Option B) → option_map f found ≡ entry → false ≡ is_some found → entry ≡ None
none_open f None entry is none = sym is
none_open f (Some x) entry is none = absurd (cc none)

module _ {D : Type 0} (state : D → DiskState) (images : D → ℕ → List ℕ → Type 0) where
  pub chunks_looked : (old new : ChunkDev D) (r : Result (Unit {0}) ChunkFault) → chunks.Looks state images old new r → IsSound state (chunks.vault_of old) → OnOk r (ChunksStand state new)
  chunks_looked old new (Ok x) k sound = record { looked = k.looked; sound = k.sound sound }
  chunks_looked old new (Err e) k sound = tt

  pub rows_looked : (old new : RowDev D) (r : Result (Unit {0}) RowFault) → rows.Looks state images old new r → IsSound state (rows.vault_of old) → OnOk r (RowsStand state new)
  rows_looked old new (Ok x) k sound = record { looked = k.looked; sound = k.sound sound }
  rows_looked old new (Err e) k sound = tt

  pub log_looked : (old new : StatusLog D) (r : Result (Unit {0}) LogFault) → logs.Looks state images old new r → IsSound state (logs.vault_of old) → OnOk r (LogStands state new)
  log_looked old new (Ok x) k sound = record { looked = k.looked; sound = k.sound sound }
  log_looked old new (Err e) k sound = tt

  pub chunks_opened : (dev : ChunkDev D) → chunks.IsOpened state dev → ChunksStand state dev
  chunks_opened dev o = record { looked = record { vault = o.vault.looked; memory = o.memory }; sound = opened_sound state (chunks.vault_of dev) o.vault }

  pub rows_opened : (dev : RowDev D) → rows.IsOpened state dev → RowsStand state dev
  rows_opened dev o = record { looked = record { vault = o.vault.looked; memory = o.memory }; sound = opened_sound state (rows.vault_of dev) o.vault }

  pub log_opened : (dev : StatusLog D) → logs.IsOpened state dev → LogStands state dev
  log_opened dev o = record { looked = record { vault = o.vault.looked; memory = o.memory }; sound = opened_sound state (logs.vault_of dev) o.vault }

  -- what is ready for its writes goes on
  pub works_on : (old new : TableDevs D) (r : Result Step CommitFault) (ws : List Write) → writes_of old ≡ ws → WorksOn state images old new r ws → AreWorking state old → OnOk r (AreWorking state new)
  works_on old new (Err e) ws is k working = tt
  works_on old new (Ok step) [] is k working = subst (AreWorking state) (sym k.1) working
  works_on old new (Ok step) (w ∷ ws) is k working = record { up = k.0.up; ready = subst (IsReady state new) (sym k.1) k.0.ready }

  -- what is sound before a write is so after a crash inside it
  pub works_sound : (old new last : TableDevs D) (r : Result Step CommitFault) (ws : List Write) → WorksOn state images old new r ws → AreUp old → IsReady state old (writes_of old)
      → ((start : TableDevs D) (a b : Devs) → DevsLeave state images start new (IsEither a b) → IsEither a b (devs state last) × AreSound state last)
      → (AreUp new → AreSynced state new → AreSound state new → (devs state last ≡ devs state new) × AreSound state last) → AreSound state last
  works_sound old new last r [] k up ready left rests =
      let same = k.1 in
      let synced : AreSynced state old = record { chunks = λ u. ready.chunk_looked.vault.synced; rows = λ u. ready.row_looked.vault.synced; log = λ u. ready.log_looked.vault.synced } in
      let sound : AreSound state old = record { chunks = ready.chunk_sound; rows = ready.row_sound; log = ready.log_sound } in
      (rests (subst AreUp (sym same) up) (subst (AreSynced state) (sym same) synced) (subst (AreSound state) (sym same) sound)).1
  works_sound old new last r (w ∷ ws) k up ready left rests = (left old (devs state old) (changed_by (devs state old) w) k.0.any_moment).1

  synced_there : (a b : Vault D) → disk_of b ≡ disk_of a → IsSynced state a → IsUp a → IsSynced state b
  synced_there a b same synced up other = subst (λ (d : D). (state d).pending ≡ settled (state d).seen) (sym same) (synced up)

  sound_there : (a b : Vault D) → disk_of b ≡ disk_of a → IsSound state a → IsSound state b
  sound_there a b same sound = subst (λ (d : D). StandsFor (state d).seen (payloads_of (state d).seen)) (sym same) sound

  -- three devices that stand are one that is at rest
  pub whole : (c : ChunkDev D) (r : RowDev D) (l : StatusLog D) (table : TableDevs D) → ChunksStand state c → RowsStand state r → LogStands state l
      → disk_of (chunks.vault_of table.chunks) ≡ disk_of (chunks.vault_of c) → disk_of (rows.vault_of table.rows) ≡ disk_of (rows.vault_of r)
      → disk_of (logs.vault_of table.log) ≡ disk_of (logs.vault_of l)
      → AreUp table → writes_of table ≡ [] → AreWhole state table
  whole c r l table cs rs ls same_c same_r same_l up idle =
      let sc = synced_there (chunks.vault_of c) (chunks.vault_of table.chunks) same_c (λ u. cs.looked.vault.synced) cs.looked.vault.up in
      let sr = synced_there (rows.vault_of r) (rows.vault_of table.rows) same_r (λ u. rs.looked.vault.synced) rs.looked.vault.up in
      let sl = synced_there (logs.vault_of l) (logs.vault_of table.log) same_l (λ u. ls.looked.vault.synced) ls.looked.vault.up in
      record {
        up = up;
        synced = record { chunks = sc; rows = sr; log = sl };
        sound = record {
          chunks = sound_there (chunks.vault_of c) (chunks.vault_of table.chunks) same_c cs.sound;
          rows = sound_there (rows.vault_of r) (rows.vault_of table.rows) same_r rs.sound;
          log = sound_there (logs.vault_of l) (logs.vault_of table.log) same_l ls.sound;
        };
        idle = idle;
      }

  -- ---- a table of which everything is known

  pub known_stays : {T : Type 0} (old new : TableDevs D) (r : Result T CommitFault) → Asks state images old new r → AreKnown state old → OnOk r (AreKnown state new)
  known_stays old new (Err e) k known = tt
  known_stays old new (Ok x) k known =
      let s = k.stay (λ is. cc) in
      record {
        up = record { chunks = s.chunks.down ∙ known.up.chunks; rows = s.rows.down ∙ known.up.rows; log = s.log.down ∙ known.up.log };
        looked = record { chunks = s.chunks.looked known.looked.chunks; rows = s.rows.looked known.looked.rows; log = s.log.looked known.looked.log };
      }

  pub known : (table : TableDevs D) → AreLookedAt state table → AreKnown state table
  known table looked = record { up = record { chunks = looked.chunks.vault.up; rows = looked.rows.vault.up; log = looked.log.vault.up }; looked = looked }

  -- ---- a table, and a deletion

  pub table_there : (old mid new : TableDevs D) (r : Result Step CommitFault) (schema : Schema) (n : ℕ) → devs state old ≡ nothing → devs state mid ≡ devs state old → writes_of mid ≡ PutTable schema n ∷ []
      → WorksOn state images mid new r (writes_of mid) → OnOk r (HasTable state new)
  table_there old mid new (Err e) schema n empty same ws k = tt
  table_there old mid new (Ok step) schema n empty same ws k =
      let w : WorksOn state images mid new (Ok step) (PutTable schema n ∷ []) = subst (λ (l : List Write). WorksOn state images mid new (Ok step) l) ws k in
      let are : devs state new ≡ changed_by nothing (PutTable schema n) = w.0.devs_are ∙ ap (λ (d : Devs). changed_by d (PutTable schema n)) (same ∙ empty) in
      record { ready = w.0.ready; idle = w.1; closed = ap (λ (d : Devs). d.pending) are; schema = schema; said = n; there = ap (λ (d : Devs). d.held.table) are }

  pub gone_is_update : (table : TableDevs D) → HasTable state table → (row : List ℕ) (number base : ℕ) (fresh : List (List ℕ)) → fresh ≡ []
      → IsUpdate (seen state table) (record { row = row; client = 3; number = number; base = base; content = Gone; fresh = fresh })
  unfolding fit.fit_of
  gone_is_update table h row number base fresh none =
      let t : Option (Schema × ℕ) = (devs state table).held.table in
      subst (λ (l : List (List ℕ)). IsUpdate (seen state table) (record { row = row; client = 3; number = number; base = base; content = Gone; fresh = l })) (sym none) (record {
        client = record { least = omega arith; most = omega arith };
        content = tt;
        short = omega arith;
        different = tt;
        kept = λ name among. absurd among;
        fresh = refl;
        chunks = tt;
        fits = ap (λ (x : Option (Schema × ℕ)). misfits x Gone) h.there;
        lens = ap (λ (x : Option (Schema × ℕ)). lacks (brought (chunk_in (devs state table).chunks) []) x Gone) h.there;
      })

  pub taken_works : {T : Type 0} (is_spent : Type 0) (writes : T → List Write) (old new : TableDevs D) (r : Result T CommitFault) → TakesOn state images is_spent writes old new r → OnOk r (AreWorking state new)
  taken_works is_spent writes old new (Err e) k = tt
  taken_works is_spent writes old new (Ok x) k = record { up = k.up; ready = k.ready }
