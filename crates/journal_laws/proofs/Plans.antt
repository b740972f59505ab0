-- The writes of a plan are the tasks of its agenda.
use Rattle.std.proofs.Common.{◌≡◌, ℕ, ◌+◌, ◌<◌, List, [], ◌∷◌, ◌++◌, Option, Some, None, refl, sym, ap, subst, arith}
use Rattle.std.proofs.lemmas.Bool.Decides.{nat_tests}
use Rattle.stab_base.specs.declared.chunk_name.ChunkName.{ChunkName}
use Rattle.stab_base.specs.declared.step.Step.{Step}
use Rattle.held_value.specs.declared.local_name.LocalName.{LocalName}
use Rattle.slot_store.specs.declared.held.RowSlots.{RowSlots}
use Rattle.slot_store.specs.Data.{SlotData, slots_of}
use Rattle.plan_log.specs.declared.plan.Intend.{Intend}
use Rattle.plan_log.specs.declared.plan.Commit.{Commit}
use Rattle.plan_log.specs.Journal.{Journal as Planned, AtWork, Idle, Intended, Committed, intended, committed, with_intend, with_commit}
use Rattle.client_journal.specs.declared.plan.Plan.{Plan as Begun}
use Rattle.client_journal.specs.Names.{Has, names_in}
use Rattle.client_journal.specs.Devs.{ClientDevs, Write, PutCommit, PutChunk, changed_by}
use Rattle.client_journal.specs.Redone.{redone}
use Rattle.client_journal.specs.NamedSlots.{IsNamed, NamedSlots, IsAtRest, IsNotCommitted}
use Rattle.client_journal.specs.Agenda.{fresh_name, puts, bring_writes, plan_writes, redo_writes, Commits, meaning_with, IsMoment, Runs}
use Rattle.client_journal.specs.Plan.{IsPlan, commit_for, intend_for}
use Rattle.client_journal.proofs.Applied.{as_held}
use Rattle.client_journal.proofs.Numbers.{plan_commits}
use Rattle.client_journal.proofs.Planning.{plan_runs, intends, commits_new, commits_intended}
use Rattle.step_tables.specs.Messages.{Send}
use Rattle.step_tables.specs.ClientMoves.{Plan, ClientDisk, ClientTask, Shape, TableDisk, told, only, keeps, rest_of, planning}
use Rattle.step_tables.specs.ClientMoves as moves
use Rattle.journal_laws.specs.Holds.{slots_or_empty, HoldsTables, IsPlanOf, IsPlanAt, StandsPlan, Stands, Follows}
use Rattle.journal_laws.specs.Moves.{put_steps, bring_steps, drop_steps}
use Rattle.journal_laws.proofs.Tables.{held_with}
use Rattle.journal_laws.proofs.Redoes.{Names, named_runs, redo_follows}

-- nothing is planned where nothing is committed
no_plan : (meaning : LocalName → List ℕ) (c : ℕ) (disk : ClientDisk) (work : AtWork) (o : Option Plan) → IsNotCommitted work → StandsPlan meaning c disk work o → o ≡ None
no_plan meaning c disk Idle None not_ s = refl
no_plan meaning c disk Idle (Some p) not_ s = absurd s
no_plan meaning c disk (Intended intend) None not_ s = refl
no_plan meaning c disk (Intended intend) (Some p) not_ s = absurd s
no_plan meaning c disk (Committed commit) o not_ s = absurd not_

none_stands : (meaning : LocalName → List ℕ) (c : ℕ) (disk : ClientDisk) (work : AtWork) → IsNotCommitted work → StandsPlan meaning c disk work None
none_stands meaning c disk Idle not_ = tt
none_stands meaning c disk (Intended intend) not_ = tt
none_stands meaning c disk (Committed commit) not_ = absurd not_

-- a name in what is held is a row's
pub named_in : (held : SlotData) (q : ℕ) (r : List ℕ) (name : LocalName) → Has (names_in (slots_or_empty (slots_of held q r))) name → IsNamed held name
named_in held q r name has = pick (slots_of held q r) refl has
  where
    pick : (o : Option RowSlots) → slots_of held q r ≡ o → Has (names_in (slots_or_empty o)) name → IsNamed held name
    pick None is has = absurd cc
    pick (Some stored) is has = record { table = q; row = r; stored = stored; there = is; among = has }

module _ (c : ℕ) (meaning : LocalName → List ℕ) (d : ClientDevs) (disk : ClientDisk) (number : ℕ) (plan : Begun) (p : Plan) (sends : List Send) (shape : Shape) (st : Stands c meaning d disk) (rest : IsAtRest d) (j : IsPlan d plan) (newest : d.journal.greatest < number) where
  abbrev means : LocalName → List ℕ
  means = meaning_with meaning number plan.brought

  abbrev commit : Commit
  commit = commit_for number plan

  abbrev intend : Intend
  intend = intend_for number plan

  abbrev redo : List Write
  redo = redo_writes d.held commit plan.drops

  old_means : (name : LocalName) → name.plan < number → means name ≡ meaning name
  old_means name lt = grind (arith, nat_tests)

  below : (name : LocalName) → IsNamed d.held name → name.plan < number
  below name a =
      let b : IsNamed (redone d) name = subst (λ (s : SlotData). IsNamed s name) (sym (as_held d.journal.at_work d.held rest.not_committed)) a in
      let most = st.named.below name b in
      omega (arith, most, newest)

  holds : HoldsTables means d.held disk.last disk.tables
  holds = held_with meaning means d.held disk.last disk.tables (λ q r name has. old_means name (below name (named_in d.held q r name has))) st.held

  commits : Commits d intend plan.brought commit
  commits = plan_commits number meaning d plan st.named rest.not_committed newest j

  runs : Runs (Names means) d (plan_writes d.held intend plan.brought commit)
  runs = named_runs means (IsMoment means d.held commit) (λ ws e m. m.named) d (plan_writes d.held intend plan.brought commit) (plan_runs meaning d intend plan.brought commit st.named rest commits)

  module _ (of : IsPlanOf means c commit p) (at : IsPlanAt disk plan.new_record p) (after : shape.after ≡ drop_steps plan.drops) where
    abbrev idle : ClientDisk
    idle = record { last = disk.last; tables = disk.tables; plan = None }

    abbrev behind : List ClientTask
    behind = record { change = moves.Commit p; facts = told p; sends = [] } ∷ rest_of shape p sends

    abbrev at_ : List (ChunkName × List ℕ) → Planned → ClientDevs
    at_ cs work = record { chunks = cs; held = d.held; journal = work }

    stands : (cs : List (ChunkName × List ℕ)) (work : Planned) → IsNotCommitted work.at_work → NamedSlots means (at_ cs work) → Stands c means (at_ cs work) idle
    stands cs work not_ n = record { named = n; held = holds; plan = none_stands means c idle work.at_work not_ }

    commit_follows : (cs : List (ChunkName × List ℕ)) (work : Planned) → IsNotCommitted work.at_work → with_commit work commit ≡ committed commit
        → Runs (Names means) (at_ cs work) (PutCommit commit ∷ redo)
        → Follows c means (at_ cs work) (PutCommit commit ∷ redo) idle behind
    commit_follows cs work not_ is r =
        let at_plan : IsPlanAt (record { last = disk.last; tables = disk.tables; plan = Some p }) plan.new_record p = record { last = at.last; opened = at.opened } in (
          stands cs work not_ r.0,
          of,
          subst (λ (w : Planned). Follows c means (at_ cs w) redo (record { last = disk.last; tables = disk.tables; plan = Some p }) (rest_of shape p sends)) (sym is)
              (redo_follows c means number commit p of plan.drops sends d.held disk.last disk.tables cs holds at_plan shape after (subst (λ (w : Planned). Runs (Names means) (at_ cs w) redo) is r.1)),
        )

    puts_follow : (cs : List (ChunkName × List ℕ)) (ordinal : ℕ) (more : List (List ℕ)) → Runs (Names means) (at_ cs (intended intend)) (puts number ordinal more ++ PutCommit commit ∷ redo)
        → Follows c means (at_ cs (intended intend)) (puts number ordinal more ++ PutCommit commit ∷ redo) idle (keeps (put_steps more) ++ behind)
    puts_follow cs ordinal [] r = commit_follows cs (intended intend) tt (commits_intended intend commit refl) r
    puts_follow cs ordinal (bytes ∷ more) r = (
      stands cs (intended intend) tt r.0,
      refl,
      puts_follow (changed_by (at_ cs (intended intend)) (PutChunk (fresh_name number ordinal) bytes)).chunks (ordinal + 1) more r.1,
    )

    brings_follow : (bs : List (List ℕ)) → Runs (Names means) d (bring_writes intend bs (PutCommit commit ∷ redo))
        → Follows c means d (bring_writes intend bs (PutCommit commit ∷ redo)) idle (keeps (bring_steps bs) ++ behind)
    brings_follow [] r = commit_follows d.chunks d.journal rest.not_committed (commits_new d.journal commit newest) r
    brings_follow (bytes ∷ more) r =
        let ws : List Write = puts number 0 (bytes ∷ more) ++ PutCommit commit ∷ redo in
        let is : with_intend d.journal intend ≡ intended intend = intends d.journal intend newest in (
          stands d.chunks d.journal rest.not_committed r.0,
          refl,
          subst (λ (w : Planned). Follows c means (at_ d.chunks w) ws idle (keeps (put_steps (bytes ∷ more)) ++ behind)) (sym is)
              (puts_follow d.chunks 0 (bytes ∷ more) (subst (λ (w : Planned). Runs (Names means) (at_ d.chunks w) ws) is r.1)),
        )

    pub plan_follows : shape.before ≡ bring_steps plan.brought → Follows c means d (plan_writes d.held intend plan.brought commit) disk (planning shape p sends)
    plan_follows before =
        let none : disk.plan ≡ None = no_plan meaning c disk d.journal.at_work disk.plan rest.not_committed st.plan in
        let same : idle ≡ disk = ap (λ (o : Option Plan). record { last = disk.last; tables = disk.tables; plan = o }) (sym none) in
        subst (λ (e : ClientDisk). Follows c means d (plan_writes d.held intend plan.brought commit) e (planning shape p sends)) same
        (subst (λ (l : List Step). Follows c means d (plan_writes d.held intend plan.brought commit) idle (keeps l ++ behind)) (sym before) (brings_follow plan.brought runs))
