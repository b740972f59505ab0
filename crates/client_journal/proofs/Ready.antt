-- What the writes of a plan and of a recovery ask for, and the room that they need.
use Rattle.std.proofs.Common.{◌≡◌, ⊎_elim, ℕ, ◌+◌, ◌*◌, ◌<◌, ◌≤◌, Bool, true, false, List, [], ◌∷◌, ◌++◌, length, Option, Some, None, refl, sym, ◌∙◌, ap, subst, arith}
use Rattle.std.specs.Prelude.{◌==◌, ◌&&◌, ◌||◌, not, nat_lt, if◌then◌else◌, sum_by, IfSome, IsSome}
use Rattle.std.specs.List.{AllByRecursion}
use Rattle.std.specs.BTreeMap.{insert_entry}
use Rattle.std.proofs.lemmas.Bool.Decides.{nat_tests}
use Rattle.std.proofs.lemmas.List.Sums.{sum_by-cons}
use Rattle.disk_trait.specs.Calls.{DiskState}
use Rattle.vault.specs.Limit.{payload_most}
use Rattle.vault.proofs.Uppers.{less_room}
use Rattle.stab_base.specs.declared.chunk_name.ChunkName.{ChunkName}
use Rattle.stab_base.specs.declared.limits.TheConstants.{NUMBER_MAX}
use Rattle.held_value.specs.declared.local_name.LocalName.{LocalName}
use Rattle.chunk_store.specs.Payload.{name_cmp}
use Rattle.chunk_store.specs.declared.device.ChunkDev.{ChunkDev}
use Rattle.chunk_store.specs.Standing as chunks
use Rattle.slot_store.specs.declared.device.SlotDev.{SlotDev}
use Rattle.slot_store.specs.declared.held.RowSlots.{RowSlots}
use Rattle.slot_store.specs.declared.held.TableRecord.{TableRecord}
use Rattle.slot_store.specs.Spelling.{HasRowSpelling, HasRecordSpelling}
use Rattle.slot_store.specs.Data.{SlotData}
use Rattle.slot_store.specs.Standing as slots
use Rattle.plan_log.specs.declared.device.PlanLog.{PlanLog}
use Rattle.plan_log.specs.declared.plan.Intend.{Intend}
use Rattle.plan_log.specs.declared.plan.Commit.{Commit}
use Rattle.plan_log.specs.Spelling.{HasIntend, HasCommit, commit_payload}
use Rattle.plan_log.specs.Journal.{Journal as Planned, AtWork, Idle, Intended, Committed, is_committed, is_intended, intended, committed, takes_commit, may_intend, committed_plan}
use Rattle.plan_log.specs.Standing as journals
use Rattle.client_journal.specs.declared.devs.Journal.{Journal}
use Rattle.client_journal.specs.Names.{Has}
use Rattle.client_journal.specs.Devs.{ClientDevs, Write, PutCommit, PutSlots, PutRecord, DropChunk, PutDone, changed_by, chunk_of, local_in}
use Rattle.client_journal.specs.NamedSlots.{AreDifferent, IsNotCommitted}
use Rattle.client_journal.specs.Agenda.{fresh_name, puts, drops, slot_writes, record_writes, bring_writes}
use Rattle.client_journal.specs.Plan.{chunk_most}
use Rattle.client_journal.specs.Made.{bytes_of_row, bytes_of_record}
use Rattle.client_journal.specs.Standing.{chunk_opens, chunk_puts, chunk_bytes, slot_opens, slot_puts, slot_bytes, journal_opens, journal_puts, journal_bytes, MayDoAll, IsReady, devs}
use Rattle.client_journal.proofs.Lookups.{cases_local, has_head, has_tail, local_put, local_put_other, local_dropped_other}
use Rattle.client_journal.proofs.Planning.{intends, either_way}
use Rattle.client_journal.proofs.Works.{all_chunk, all_slot, all_journal}

-- ---- they may be done

abbrev AreThere : List (ChunkName × List ℕ) → List LocalName → Type 0
AreThere cs names = (name : LocalName) → Has names name → IsSome (local_in cs name)

may_drop : (names : List LocalName) (d : ClientDevs) → IsSome (committed_plan d.journal.at_work) → AreDifferent names → AreThere d.chunks names → MayDoAll d (drops names ++ PutDone ∷ [])
may_drop [] d work different there = (work, tt)
may_drop (name ∷ names) d work different there = (
  there name (has_head name name names refl),
  may_drop names (changed_by d (DropChunk name)) work different.1
      (λ q has.
      let other : name ≡ q → ⊥ = λ same. let here : Has names name = subst (Has names) (sym same) has in let none = different.0 in absurd cc in
      subst (λ (o : Option (List ℕ)). IsSome o) (sym (local_dropped_other d.chunks name q other)) (there q (has_tail name q names has))),
)

may_record : (table : Option TableRecord) (names : List LocalName) (d : ClientDevs) → IfSome table HasRecordSpelling → bytes_of_record table ≤ payload_most → IsSome (committed_plan d.journal.at_work) → AreDifferent names → AreThere d.chunks names
    → MayDoAll d (record_writes table (drops names ++ PutDone ∷ []))
may_record None names d spelled short work different there = may_drop names d work different there
may_record (Some table) names d spelled short work different there = ((spelled, short), may_drop names (changed_by d (PutRecord table)) work different there)

pub may_redo : (row : Option RowSlots) (table : Option TableRecord) (names : List LocalName) (d : ClientDevs) → IfSome row HasRowSpelling → bytes_of_row row ≤ payload_most → IfSome table HasRecordSpelling → bytes_of_record table ≤ payload_most
    → IsSome (committed_plan d.journal.at_work) → AreDifferent names → AreThere d.chunks names → MayDoAll d (slot_writes row (record_writes table (drops names ++ PutDone ∷ [])))
may_redo None table names d row_spelled row_short spelled short work different there = may_record table names d spelled short work different there
may_redo (Some row) table names d row_spelled row_short spelled short work different there = ((row_spelled, row_short), may_record table names (changed_by d (PutSlots row)) spelled short work different there)

may_commit : (commit : Commit) (ws : List Write) (cs : List (ChunkName × List ℕ)) (held : SlotData) (planned : Planned) → HasCommit commit → length (commit_payload commit) ≤ payload_most → takes_commit planned commit.plan ≡ true
    → MayDoAll (record { chunks = cs; held = held; journal = committed commit }) ws → MayDoAll (record { chunks = cs; held = held; journal = planned }) (PutCommit commit ∷ ws)
may_commit commit ws cs held planned spelled short takes rest = (
  (spelled, short, takes),
  subst (λ (t : Bool). MayDoAll (record { chunks = cs; held = held; journal = if t then committed commit else planned }) ws) (sym takes) rest,
)

still_there : (cs : List (ChunkName × List ℕ)) (names : List LocalName) (name : LocalName) (bytes : List ℕ) → AreThere cs names → AreThere (insert_entry name_cmp cs (chunk_of name) bytes) names
still_there cs names name bytes there q has =
    ⊎_elim
    (λ same. subst (λ (o : Option (List ℕ)). IsSome o) (sym (ap (local_in (insert_entry name_cmp cs (chunk_of name) bytes)) (sym same) ∙ local_put cs name bytes)) refl)
    (λ other. subst (λ (o : Option (List ℕ)). IsSome o) (sym (local_put_other cs name bytes q other)) (there q has))
    (cases_local name q)

may_put : (v k : ℕ) (brought : List (List ℕ)) (cs : List (ChunkName × List ℕ)) (held : SlotData) (planned : Planned) (names : List LocalName) (rest : List Write) → v ≤ NUMBER_MAX
    → AllByRecursion (λ (bytes : List ℕ). length bytes ≤ chunk_most) brought → AreThere cs names
    → ((ds : List (ChunkName × List ℕ)) → AreThere ds names → MayDoAll (record { chunks = ds; held = held; journal = planned }) rest)
    → MayDoAll (record { chunks = cs; held = held; journal = planned }) (puts v k brought ++ rest)
may_put v k [] cs held planned names rest most short there last = last cs there
may_put v k (bytes ∷ brought) cs held planned names rest most short there last = (
  (most, omega (arith, short.0)),
  may_put v (k + 1) brought (insert_entry name_cmp cs (chunk_of (fresh_name v k)) bytes) held planned names rest most short.1 (still_there cs names (fresh_name v k) bytes there) last,
)

not_committed_is : (work : AtWork) → IsNotCommitted work → is_committed work ≡ false
not_committed_is Idle n = refl
not_committed_is (Intended intend) n = refl
not_committed_is (Committed commit) n = absurd n

pub may_plan : (d : ClientDevs) (intend : Intend) (brought : List (List ℕ)) (commit : Commit) (ws : List Write) → intend.plan ≡ commit.plan → d.journal.greatest < commit.plan → commit.plan ≤ NUMBER_MAX → IsNotCommitted d.journal.at_work
    → ((brought ≡ [] → ⊥) → HasIntend intend) → HasCommit commit → length (commit_payload commit) ≤ payload_most → AllByRecursion (λ (bytes : List ℕ). length bytes ≤ chunk_most) brought
    → AreThere d.chunks commit.drops
    → ((cs : List (ChunkName × List ℕ)) → AreThere cs commit.drops → MayDoAll (record { chunks = cs; held = d.held; journal = committed commit }) ws)
    → MayDoAll d (bring_writes intend brought (PutCommit commit ∷ ws))
may_plan d intend [] commit ws same newest most not_ has_intend spelled short small there rest =
    let above : nat_lt d.journal.greatest commit.plan ≡ true = grind (arith, nat_tests) in
    let takes : takes_commit d.journal commit.plan ≡ true = ap (λ (t : Bool). t || ((commit.plan == d.journal.greatest) && is_intended d.journal.at_work)) above in
    may_commit commit ws d.chunks d.held d.journal spelled short takes (rest d.chunks there)
may_plan d intend (bytes ∷ brought) commit ws same newest most not_ has_intend spelled short small there rest =
    let newer : d.journal.greatest < intend.plan = omega (arith, newest, same) in
    let above : nat_lt d.journal.greatest intend.plan ≡ true = grind (arith, nat_tests) in
    let may : may_intend d.journal intend.plan ≡ true = ap (λ (t : Bool). t && not (is_committed d.journal.at_work)) above ∙ ap not (not_committed_is d.journal.at_work not_) in
    let equal : (commit.plan == intend.plan) ≡ true = grind (arith, nat_tests) in
    let takes : takes_commit (intended intend) commit.plan ≡ true = ap (λ (t : Bool). nat_lt intend.plan commit.plan || (t && true)) equal ∙ either_way (nat_lt intend.plan commit.plan) in (
      (has_intend (λ none. cc), may),
      subst (λ (j : Planned). MayDoAll (record { chunks = d.chunks; held = d.held; journal = j }) (puts intend.plan 0 (bytes ∷ brought) ++ (PutCommit commit ∷ ws))) (sym (intends d.journal intend newer))
          (may_put intend.plan 0 (bytes ∷ brought) d.chunks d.held (intended intend) commit.drops (PutCommit commit ∷ ws) (omega (arith, most, same)) small there (λ cs still. may_commit commit ws cs d.held (intended intend) spelled short takes (rest cs still))),
    )

-- ---- their room

pub record IsMore (more less : List Write) (cp cb sp sb jp jb : ℕ) : Type 0 where
  pub chunk_opens : chunk_opens more ≡ chunk_opens less
  pub chunk_puts : chunk_puts more ≡ chunk_puts less + cp
  pub chunk_bytes : chunk_bytes more ≡ chunk_bytes less + cb
  pub slot_opens : slot_opens more ≡ slot_opens less
  pub slot_puts : slot_puts more ≡ slot_puts less + sp
  pub slot_bytes : slot_bytes more ≡ slot_bytes less + sb
  pub journal_opens : journal_opens more ≡ journal_opens less
  pub journal_puts : journal_puts more ≡ journal_puts less + jp
  pub journal_bytes : journal_bytes more ≡ journal_bytes less + jb

no_more : (ws : List Write) → IsMore ws ws 0 0 0 0 0 0
no_more ws = record { chunk_opens = refl; chunk_puts = omega arith; chunk_bytes = omega arith; slot_opens = refl; slot_puts = omega arith; slot_bytes = omega arith; journal_opens = refl; journal_puts = omega arith; journal_bytes = omega arith }

put_more : (v k : ℕ) (brought : List (List ℕ)) (rest : List Write) → IsMore (puts v k brought ++ rest) rest (length brought) (13 * length brought + sum_by length brought) 0 0 0 0
put_more v k [] rest = record { chunk_opens = refl; chunk_puts = omega arith; chunk_bytes = omega arith; slot_opens = refl; slot_puts = omega arith; slot_bytes = omega arith; journal_opens = refl; journal_puts = omega arith; journal_bytes = omega arith }
put_more v k (bytes ∷ brought) rest =
    let m = put_more v (k + 1) brought rest in
    record {
      chunk_opens = m.chunk_opens;
      chunk_puts = omega (arith, m.chunk_puts);
      chunk_bytes = omega (arith, m.chunk_bytes, sum_by-cons (λ (b : List ℕ). length b) bytes brought);
      slot_opens = m.slot_opens;
      slot_puts = m.slot_puts;
      slot_bytes = m.slot_bytes;
      journal_opens = m.journal_opens;
      journal_puts = m.journal_puts;
      journal_bytes = m.journal_bytes;
    }

pub drop_more : (names : List LocalName) (rest : List Write) → IsMore (drops names ++ rest) rest (length names) (13 * length names) 0 0 0 0
drop_more [] rest = no_more rest
drop_more (name ∷ names) rest =
    let m = drop_more names rest in
    record {
      chunk_opens = m.chunk_opens;
      chunk_puts = omega (arith, m.chunk_puts);
      chunk_bytes = omega (arith, m.chunk_bytes);
      slot_opens = m.slot_opens;
      slot_puts = m.slot_puts;
      slot_bytes = m.slot_bytes;
      journal_opens = m.journal_opens;
      journal_puts = m.journal_puts;
      journal_bytes = m.journal_bytes;
    }

-- what is needed at most
pub record Needs (ws : List Write) (cp cb sb jp jb : ℕ) : Type 0 where
  pub chunk_opens : chunk_opens ws ≡ 0
  pub chunk_puts : chunk_puts ws ≤ cp
  pub chunk_bytes : chunk_bytes ws ≤ cb
  pub slot_opens : slot_opens ws ≡ 0
  pub slot_puts : slot_puts ws ≤ 2
  pub slot_bytes : slot_bytes ws ≤ sb
  pub journal_opens : journal_opens ws ≡ 0
  pub journal_puts : journal_puts ws ≤ jp
  pub journal_bytes : journal_bytes ws ≤ jb

end_needs : (names : List LocalName) → Needs (drops names ++ PutDone ∷ []) (length names) (13 * length names) 0 1 9
end_needs names =
    let m = drop_more names (PutDone ∷ []) in
    record {
      chunk_opens = m.chunk_opens;
      chunk_puts = omega (arith, m.chunk_puts);
      chunk_bytes = omega (arith, m.chunk_bytes);
      slot_opens = m.slot_opens;
      slot_puts = omega (arith, m.slot_puts);
      slot_bytes = omega (arith, m.slot_bytes);
      journal_opens = m.journal_opens;
      journal_puts = omega (arith, m.journal_puts);
      journal_bytes = omega (arith, m.journal_bytes);
    }

record_needs : (table : Option TableRecord) (names : List LocalName) → Needs (record_writes table (drops names ++ PutDone ∷ [])) (length names) (13 * length names) (bytes_of_record table) 1 9 × (slot_puts (record_writes table (drops names ++ PutDone ∷ [])) ≤ 1)
record_needs None names = let n = end_needs names in let m = drop_more names (PutDone ∷ []) in (n, omega (arith, m.slot_puts))
record_needs (Some table) names =
    let n = end_needs names in
    let m = drop_more names (PutDone ∷ []) in (
      record {
        chunk_opens = n.chunk_opens;
        chunk_puts = n.chunk_puts;
        chunk_bytes = n.chunk_bytes;
        slot_opens = n.slot_opens;
        slot_puts = omega (arith, m.slot_puts);
        slot_bytes = omega (arith, m.slot_bytes);
        journal_opens = n.journal_opens;
        journal_puts = n.journal_puts;
        journal_bytes = n.journal_bytes;
      },
      omega (arith, m.slot_puts),
    )

pub redo_needs : (row : Option RowSlots) (table : Option TableRecord) (names : List LocalName) → Needs (slot_writes row (record_writes table (drops names ++ PutDone ∷ []))) (length names) (13 * length names) (bytes_of_row row + bytes_of_record table) 1 9
redo_needs None table names =
    let n = record_needs table names in
    record {
      chunk_opens = n.0.chunk_opens;
      chunk_puts = n.0.chunk_puts;
      chunk_bytes = n.0.chunk_bytes;
      slot_opens = n.0.slot_opens;
      slot_puts = n.0.slot_puts;
      slot_bytes = omega (arith, n.0.slot_bytes);
      journal_opens = n.0.journal_opens;
      journal_puts = n.0.journal_puts;
      journal_bytes = n.0.journal_bytes;
    }
redo_needs (Some row) table names =
    let n = record_needs table names in
    record {
      chunk_opens = n.0.chunk_opens;
      chunk_puts = n.0.chunk_puts;
      chunk_bytes = n.0.chunk_bytes;
      slot_opens = n.0.slot_opens;
      slot_puts = omega (arith, n.1);
      slot_bytes = omega (arith, n.0.slot_bytes);
      journal_opens = n.0.journal_opens;
      journal_puts = n.0.journal_puts;
      journal_bytes = n.0.journal_bytes;
    }

pub plan_needs : (intend : Intend) (brought : List (List ℕ)) (commit : Commit) (ws : List Write) (cp cb sb : ℕ) → Needs ws cp cb sb 1 9
    → Needs (bring_writes intend brought (PutCommit commit ∷ ws)) (length brought + cp) (13 * length brought + sum_by length brought + cb) sb 3 (43 + length (commit_payload commit))
plan_needs intend [] commit ws cp cb sb n = record {
  chunk_opens = n.chunk_opens;
  chunk_puts = omega (arith, n.chunk_puts);
  chunk_bytes = omega (arith, n.chunk_bytes);
  slot_opens = n.slot_opens;
  slot_puts = n.slot_puts;
  slot_bytes = n.slot_bytes;
  journal_opens = n.journal_opens;
  journal_puts = omega (arith, n.journal_puts);
  journal_bytes = omega (arith, n.journal_bytes);
}
plan_needs intend (bytes ∷ brought) commit ws cp cb sb n =
    let m = put_more intend.plan 0 (bytes ∷ brought) (PutCommit commit ∷ ws) in
    record {
      chunk_opens = m.chunk_opens ∙ n.chunk_opens;
      chunk_puts = omega (arith, m.chunk_puts, n.chunk_puts);
      chunk_bytes = omega (arith, m.chunk_bytes, n.chunk_bytes);
      slot_opens = m.slot_opens ∙ n.slot_opens;
      slot_puts = omega (arith, m.slot_puts, n.slot_puts);
      slot_bytes = omega (arith, m.slot_bytes, n.slot_bytes);
      journal_opens = m.journal_opens ∙ n.journal_opens;
      journal_puts = omega (arith, m.journal_puts, n.journal_puts);
      journal_bytes = omega (arith, m.journal_bytes, n.journal_bytes);
    }

-- ---- less room

module _ {D : Type 0} (state : D → DiskState) where
  pub chunk_less : (dev : ChunkDev D) (o p b m n k : ℕ) → m ≤ o → n ≤ p → k ≤ b → chunks.HasRoom state dev o p b → chunks.HasRoom state dev m n k
  chunk_less dev o p b m n k x y z r = record {
    vault = less_room state (chunks.vault_of dev) o p b m n k x y z r.vault;
    memory = λ some. let h = r.memory (omega arith) in omega arith;
    payload = λ some. let h = r.payload (omega arith) in omega arith;
  }

  pub slot_less : (dev : SlotDev D) (o p b m n k : ℕ) → m ≤ o → n ≤ p → k ≤ b → slots.HasRoom state dev o p b → slots.HasRoom state dev m n k
  slot_less dev o p b m n k x y z r = record {
    vault = less_room state (slots.vault_of dev) o p b m n k x y z r.vault;
    memory = λ some. let h = r.memory (omega arith) in record { places = omega (arith, h.places); records = omega (arith, h.records); schemas = omega (arith, h.schemas) };
    payload = λ some. let h = r.payload (omega arith) in omega arith;
  }

  pub journal_less : (dev : PlanLog D) (o p b m n k : ℕ) → m ≤ o → n ≤ p → k ≤ b → journals.HasRoom state dev o p b → journals.HasRoom state dev m n k
  journal_less dev o p b m n k x y z r = record {
    vault = less_room state (journals.vault_of dev) o p b m n k x y z r.vault;
    memory = λ some. tt;
    payload = λ some. let h = r.payload (omega arith) in omega arith;
  }

  -- ready for writes that need no more than there is room for, at rest
  pub ready_for : (client : Journal D) (ws : List Write) (cp cb sb jp jb : ℕ) → IsReady state client [] → MayDoAll (devs state client) ws → Needs ws cp cb sb jp jb → chunks.HasRoom state client.chunks 1 cp cb
      → slots.HasRoom state client.slots 1 2 sb → journals.HasRoom state client.journal 1 jp jb → IsReady state client ws
  ready_for client ws cp cb sb jp jb r may n chunk_room slot_room journal_room =
      let co = n.chunk_opens in
      let so = n.slot_opens in
      let jo = n.journal_opens in
      record {
        may = may;
        chunk_looked = r.chunk_looked;
        chunk_sound = r.chunk_sound;
        chunk_is_opened = all_chunk (chunks.IsOpened state client.chunks) ws r.chunk_is_opened;
        chunk_room = chunk_less client.chunks 1 cp cb (chunk_opens ws) (chunk_puts ws) (chunk_bytes ws) (omega (arith, co)) n.chunk_puts n.chunk_bytes chunk_room;
        slot_looked = r.slot_looked;
        slot_sound = r.slot_sound;
        slot_is_opened = all_slot (slots.IsOpened state client.slots) ws r.slot_is_opened;
        slot_room = slot_less client.slots 1 2 sb (slot_opens ws) (slot_puts ws) (slot_bytes ws) (omega (arith, so)) n.slot_puts n.slot_bytes slot_room;
        journal_looked = r.journal_looked;
        journal_sound = r.journal_sound;
        journal_is_opened = all_journal (journals.IsOpened state client.journal) ws r.journal_is_opened;
        journal_room = journal_less client.journal 1 jp jb (journal_opens ws) (journal_puts ws) (journal_bytes ws) (omega (arith, jo)) n.journal_puts n.journal_bytes journal_room;
      }
