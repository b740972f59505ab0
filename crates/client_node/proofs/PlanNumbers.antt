-- The greatest number of a plan: it doesn't fall behind a write, and a new plan's is one above it.
use Rattle.std.proofs.Common.{◌≡◌, ◌⊎◌, inl, inr, ℕ, suc, ◌+◌, ◌<◌, ◌≤◌, ◌++◌, Bool, true, false, List, [], ◌∷◌, Option, Some, None, refl, sym, subst, arith}
use Rattle.std.specs.Prelude.{◌==◌, ◌&&◌, ◌||◌, nat_lt, if◌then◌else◌}
use Rattle.std.proofs.lemmas.Bool.Decides.{nat_tests}
use Rattle.disk_trait.specs.Calls.{DiskState}
use Rattle.disk_trait.specs.Fuse.{behind}
use Rattle.stab_base.specs.declared.limits.TheConstants.{NUMBER_MAX}
use Rattle.held_value.specs.declared.local_name.LocalName.{LocalName}
use Rattle.slot_store.specs.declared.held.RowSlots.{RowSlots}
use Rattle.slot_store.specs.declared.held.TableRecord.{TableRecord}
use Rattle.slot_store.specs.Data.{SlotData, record_of}
use Rattle.plan_log.specs.declared.plan.Intend.{Intend}
use Rattle.plan_log.specs.declared.plan.Commit.{Commit}
use Rattle.plan_log.specs.Journal.{Journal as Planned, AtWork, Idle, Intended, Committed, is_intended, takes_done, intended, committed, rested, nothing_planned}
use Rattle.vault.specs.Calls.{IsEither}
use Rattle.client_journal.specs.Agenda.{drops, puts, slot_writes, record_writes, redo_writes, bring_writes, plan_writes, rest_writes, recovery_writes}
use Rattle.client_journal.specs.Devs.{ClientDevs, Write, OpenJournal, OpenSlots, OpenChunks, PutIntend, PutChunk, PutCommit, PutSlots, PutRecord, DropChunk, PutDone, changed_by, changed_by_all}
use Rattle.client_journal.specs.Plan.{intend_for, commit_for}
use Rattle.client_journal.specs.Recover.{AreRecoveryWrites}
use Rattle.client_journal.specs.Redone.{row_behind, record_for}
use Rattle.client_journal.specs.Standing.{devs, writes_of}
use Rattle.client_journal.specs.declared.plan.Plan.{Plan as NewPlan}
use Rattle.step_tables.specs.ClientMoves.{ClientDisk, ClientTask, seen}
use Rattle.client_node.specs.declared.node.ClientNode.{ClientNode}
use Rattle.client_node.specs.Begins.{BeginsPlan, next_number}
use Rattle.client_node.specs.Does.{HasNoNumber}
use Rattle.client_node.specs.Node.{IsClient, HasPlansBelow}

-- ---- one write

abbrev number : Planned → ℕ
number j = j.greatest

intend_rises : (b : Bool) (j : Planned) (intend : Intend) → nat_lt j.greatest intend.plan ≡ b → number j ≤ number (if b then intended intend else j)
intend_rises true j intend is = let less : j.greatest < intend.plan = grind (arith, nat_tests, is) in omega (arith, less)
intend_rises false j intend is = omega arith

intend_most : (b : Bool) (j : Planned) (intend : Intend) (n : ℕ) → number j ≤ n → intend.plan ≤ n → number (if b then intended intend else j) ≤ n
intend_most true j intend n here more = more
intend_most false j intend n here more = here

commit_rises : (a b c : Bool) (j : Planned) (commit : Commit) → nat_lt j.greatest commit.plan ≡ a → (commit.plan == j.greatest) ≡ b
    → number j ≤ number (if a || (b && c) then committed commit else j)
commit_rises true b c j commit is same = let less : j.greatest < commit.plan = grind (arith, nat_tests, is) in omega (arith, less)
commit_rises false true true j commit is same = let equal : commit.plan ≡ j.greatest = grind (arith, nat_tests, same) in omega (arith, equal)
commit_rises false true false j commit is same = omega arith
commit_rises false false c j commit is same = omega arith

commit_most : (b : Bool) (j : Planned) (commit : Commit) (n : ℕ) → number j ≤ n → commit.plan ≤ n → number (if b then committed commit else j) ≤ n
commit_most true j commit n here more = more
commit_most false j commit n here more = here

done_stays : (b : Bool) (j : Planned) → number (if b then rested j.greatest else j) ≡ number j
done_stays true j = refl
done_stays false j = refl

rises : (d : ClientDevs) (w : Write) → d.journal.greatest ≤ (changed_by d w).journal.greatest
rises d OpenJournal = omega arith
rises d OpenSlots = omega arith
rises d OpenChunks = omega arith
rises d (PutIntend intend) = intend_rises (nat_lt d.journal.greatest intend.plan) d.journal intend refl
rises d (PutChunk name bytes) = omega arith
rises d (PutCommit commit) =
    commit_rises (nat_lt d.journal.greatest commit.plan) (commit.plan == d.journal.greatest) (is_intended d.journal.at_work) d.journal commit refl refl
rises d (PutSlots row) = omega arith
rises d (PutRecord table) = omega arith
rises d (DropChunk name) = omega arith
rises d PutDone = let same = done_stays (takes_done d.journal d.journal.greatest) d.journal in omega (arith, same)

-- ---- all of them

pub rises_all : (d : ClientDevs) (ws : List Write) → d.journal.greatest ≤ (changed_by_all d ws).journal.greatest
rises_all d [] = omega arith
rises_all d (w ∷ ws) = let one = rises d w in let more = rises_all (changed_by d w) ws in omega (arith, one, more)

-- the plan that a write begins has no number above this
abbrev IsBelow : ℕ → Write → Type 0
IsBelow n (PutIntend intend) = intend.plan ≤ n
IsBelow n (PutCommit commit) = commit.plan ≤ n
IsBelow n w = Unit {0}

abbrev AreBelow : ℕ → List Write → Type 0
AreBelow n [] = Unit {0}
AreBelow n (w ∷ ws) = IsBelow n w × AreBelow n ws

most : (n : ℕ) (d : ClientDevs) (w : Write) → d.journal.greatest ≤ n → IsBelow n w → (changed_by d w).journal.greatest ≤ n
most n d OpenJournal here below = here
most n d OpenSlots here below = here
most n d OpenChunks here below = here
most n d (PutIntend intend) here below = intend_most (nat_lt d.journal.greatest intend.plan) d.journal intend n here below
most n d (PutChunk name bytes) here below = here
most n d (PutCommit commit) here below =
    commit_most (nat_lt d.journal.greatest commit.plan || ((commit.plan == d.journal.greatest) && is_intended d.journal.at_work)) d.journal commit n here below
most n d (PutSlots row) here below = here
most n d (PutRecord table) here below = here
most n d (DropChunk name) here below = here
most n d PutDone here below = let same = done_stays (takes_done d.journal d.journal.greatest) d.journal in omega (arith, same, here)

most_all : (n : ℕ) (d : ClientDevs) (ws : List Write) → d.journal.greatest ≤ n → AreBelow n ws → (changed_by_all d ws).journal.greatest ≤ n
most_all n d [] here below = here
most_all n d (w ∷ ws) here below = most_all n (changed_by d w) ws (most n d w here below.0) below.1

-- ---- the writes of a plan, and of a start

module _ (n : ℕ) where
  drops_below : (names : List LocalName) (rest : List Write) → AreBelow n rest → AreBelow n (drops names ++ rest)
  drops_below [] rest below = below
  drops_below (name ∷ names) rest below = (tt, drops_below names rest below)

  only_drops : (names : List LocalName) → AreBelow n (drops names)
  only_drops [] = tt
  only_drops (name ∷ names) = (tt, only_drops names)

  puts_below : (plan ordinal : ℕ) (brought : List (List ℕ)) (rest : List Write) → AreBelow n rest → AreBelow n (puts plan ordinal brought ++ rest)
  puts_below plan ordinal [] rest below = below
  puts_below plan ordinal (bytes ∷ brought) rest below = (tt, puts_below plan (ordinal + 1) brought rest below)

  slots_below : (row : Option RowSlots) (rest : List Write) → AreBelow n rest → AreBelow n (slot_writes row rest)
  slots_below None rest below = below
  slots_below (Some row) rest below = (tt, below)

  record_below : (table : Option TableRecord) (rest : List Write) → AreBelow n rest → AreBelow n (record_writes table rest)
  record_below None rest below = below
  record_below (Some table) rest below = (tt, below)

  redo_below : (held : SlotData) (commit : Commit) (names : List LocalName) → AreBelow n (redo_writes held commit names)
  redo_below held commit names =
      slots_below (row_behind commit) (record_writes (record_for (record_of held commit.table) commit) (drops names ++ PutDone ∷ []))
      (record_below (record_for (record_of held commit.table) commit) (drops names ++ PutDone ∷ []) (drops_below names (PutDone ∷ []) (tt, tt)))

  bring_below : (intend : Intend) (brought : List (List ℕ)) (rest : List Write) → intend.plan ≤ n → AreBelow n rest → AreBelow n (bring_writes intend brought rest)
  bring_below intend [] rest most below = below
  bring_below intend (bytes ∷ brought) rest most below = (most, puts_below intend.plan 0 (bytes ∷ brought) rest below)

  plan_below : (held : SlotData) (intend : Intend) (brought : List (List ℕ)) (commit : Commit) → intend.plan ≤ n → commit.plan ≤ n → AreBelow n (plan_writes held intend brought commit)
  plan_below held intend brought commit first second =
      bring_below intend brought (PutCommit commit ∷ redo_writes held commit commit.drops) first (second, redo_below held commit commit.drops)

  rest_below : (work : AtWork) (held : SlotData) (names : List LocalName) → AreBelow n (rest_writes work held names)
  rest_below Idle held names = tt
  rest_below (Intended intend) held names = only_drops names
  rest_below (Committed commit) held names = redo_below held commit names

  recovery_below : (d : ClientDevs) (names : List LocalName) → AreBelow n (recovery_writes d names)
  recovery_below d names = (tt, (tt, (tt, rest_below d.journal.at_work d.held names)))

-- ---- a node

pub next_below : {D : Type 0} (state : D → DiskState) (n : ℕ) (node : ClientNode D) → HasPlansBelow state n node → HasPlansBelow state (suc n) node
next_below state n node h is = let most = h is in omega (arith, most)

module _ {D : Type 0} (state : D → DiskState) (n : ℕ) (old new : ClientNode D) where
  abbrev here : ClientDevs
  here = devs (behind state) old.devs

  abbrev there : ClientDevs
  there = devs (behind state) new.devs

  -- the number of the next plan
  abbrev next : ℕ
  next = next_number (behind state) old.devs

  -- it holds what it held, and has the same to do
  pub plans_same : (new.is_declared ≡ true → old.is_declared ≡ true) → there ≡ here → writes_of new.devs ≡ writes_of old.devs → HasPlansBelow state n old → HasPlansBelow state n new
  plans_same declared same writes h is =
      subst (λ (d : ClientDevs). (changed_by_all d (writes_of new.devs)).journal.greatest ≤ n) (sym same)
      (subst (λ (ws : List Write). (changed_by_all here ws).journal.greatest ≤ n) (sym writes) (h (declared is)))

  -- the first write was done
  pub plans_done : (w : Write) (ws : List Write) → writes_of old.devs ≡ w ∷ ws → (new.is_declared ≡ true → old.is_declared ≡ true) → there ≡ changed_by here w → writes_of new.devs ≡ ws
      → HasPlansBelow state n old → HasPlansBelow state n new
  plans_done w ws first declared same writes h is =
      subst (λ (d : ClientDevs). (changed_by_all d (writes_of new.devs)).journal.greatest ≤ n) (sym same)
      (subst (λ (l : List Write). (changed_by_all (changed_by here w) l).journal.greatest ≤ n) (sym writes)
      (subst (λ (l : List Write). (changed_by_all here l).journal.greatest ≤ n) first (h (declared is))))

  -- what it had to do is lost
  at_rest : (d : ClientDevs) → there ≡ d → writes_of new.devs ≡ [] → d.journal.greatest ≤ n → (changed_by_all there (writes_of new.devs)).journal.greatest ≤ n
  at_rest d same writes most =
      subst (λ (l : List Write). (changed_by_all there l).journal.greatest ≤ n) (sym writes) (subst (λ (x : ClientDevs). x.journal.greatest ≤ n) (sym same) most)

  pub plans_lost : (new.is_declared ≡ true → old.is_declared ≡ true) → there ≡ here → writes_of new.devs ≡ [] → HasPlansBelow state n old → HasPlansBelow state n new
  plans_lost declared same writes h is =
      let all = h (declared is) in let up = rises_all here (writes_of old.devs) in at_rest here same writes (omega (arith, all, up))

  -- and the first write is undone, or done
  pub plans_cut : (w : Write) (ws : List Write) → writes_of old.devs ≡ w ∷ ws → (new.is_declared ≡ true → old.is_declared ≡ true) → IsEither here (changed_by here w) there → writes_of new.devs ≡ []
      → HasPlansBelow state n old → HasPlansBelow state n new
  plans_cut w ws first declared (inl same) writes h is = plans_lost declared same writes h is
  plans_cut w ws first declared (inr same) writes h is =
      let all = subst (λ (l : List Write). (changed_by_all here l).journal.greatest ≤ n) first (h (declared is)) in
      let up = rises_all (changed_by here w) ws in
      at_rest (changed_by here w) same writes (omega (arith, all, up))

  -- a plan is begun
  pub plans_begun : (plan : NewPlan) → old.is_declared ≡ true → writes_of old.devs ≡ [] → there ≡ here → BeginsPlan (behind state) old.devs new.devs plan → HasPlansBelow state n old → HasPlansBelow state (suc n) new
  plans_begun plan declared idle same b h is =
      let most : here.journal.greatest ≤ n = subst (λ (l : List Write). (changed_by_all here l).journal.greatest ≤ n) idle (h declared) in
      let above : next ≤ suc n = omega (arith, most) in
      subst (λ (d : ClientDevs). (changed_by_all d (writes_of new.devs)).journal.greatest ≤ suc n) (sym same)
      (subst (λ (l : List Write). (changed_by_all here l).journal.greatest ≤ suc n) (sym b.writes)
      (most_all (suc n) here (plan_writes here.held (intend_for next plan) plan.brought (commit_for next plan)) (omega (arith, most))
      (plan_below (suc n) here.held (intend_for next plan) plan.brought (commit_for next plan) above above)))

  -- a start
  pub plans_started : old.is_declared ≡ true → writes_of old.devs ≡ [] → there ≡ here → AreRecoveryWrites here (writes_of new.devs) → HasPlansBelow state n old → HasPlansBelow state n new
  plans_started declared idle same r h is =
      let most : here.journal.greatest ≤ n = subst (λ (l : List Write). (changed_by_all here l).journal.greatest ≤ n) idle (h declared) in
      subst (λ (d : ClientDevs). (changed_by_all d (writes_of new.devs)).journal.greatest ≤ n) (sym same)
      (subst (λ (l : List Write). (changed_by_all here l).journal.greatest ≤ n) (sym r.2)
      (most_all n here (recovery_writes here r.0) most (recovery_below n here r.0)))

-- nothing was planned
pub plans_none : {D : Type 0} (state : D → DiskState) (n : ℕ) (node : ClientNode D) → (devs (behind state) node.devs).journal ≡ nothing_planned → writes_of node.devs ≡ [] → HasPlansBelow state n node
plans_none state n node none writes is =
    subst (λ (l : List Write). (changed_by_all (devs (behind state) node.devs) l).journal.greatest ≤ n) (sym writes)
    (subst (λ (j : Planned). j.greatest ≤ n) (sym none) (omega arith))

-- why no number is left for a plan of a client that is up
pub spent_plans : {D : Type 0} (state : D → DiskState) (n : ℕ) (node : ClientNode D) (disk : ClientDisk) (agenda : Option (List ClientTask)) → IsClient state node (record { disk = disk; agenda = agenda }) → node.is_up ≡ true
    → HasPlansBelow state n node → HasNoNumber state node disk → ((seen disk).last ≡ NUMBER_MAX) ⊎ (NUMBER_MAX ≤ n)
spent_plans state n node disk None t up h spent = let down = t.at.0 in absurd cc
spent_plans state n node disk (Some tasks) t up h (inl last) = inl last
spent_plans state n node disk (Some tasks) t up h (inr most) =
    let all = h t.at.1.declared in let rise = rises_all (devs (behind state) node.devs) (writes_of node.devs) in inr (omega (arith, all, rise, most))
