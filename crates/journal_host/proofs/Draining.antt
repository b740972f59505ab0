-- The work of a client until it is idle: one task less behind each write.
use Rattle.std.proofs.Common.{◌≡◌, ◌⊎◌, inl, inr, ⊎_elim, ℕ, suc, ◌+◌, ◌++◌, length, Bool, true, false, cond, List, [], ◌∷◌, Option, Some, None, Result, Ok, Err, refl, sym, ap, ◌∙◌, subst, arith, append-nil, append_assoc}
use Rattle.std.specs.Prelude.{◌||◌, ◌≢◌, IfOk, IfErr, IsErrOf, if◌then◌else◌}
use Rattle.std.specs.Ordering.{nat_cmp}
use Rattle.std.specs.Cmp.{nat_cmp_total, unsigned_tied}
use Rattle.std.specs.BTreeMap.{is_at, insert_entry}
use Rattle.std.specs.BTreeMap as tree
use Rattle.std.specs.Map.{lookup}
use Rattle.std.proofs.lemmas.Bool.{eq-eqb}
use Rattle.disk_trait.specs.Calls.{DiskState}
use Rattle.stab_base.specs.declared.step.Step.{Step}
use Rattle.stab_base.specs.declared.step.Step.TheVariants as steps
use Rattle.stab_base.specs.declared.node.Node.TheVariants as nodes
use Rattle.table_model.specs.declared.line.Answer.{Answer}
use Rattle.table_model.specs.declared.line.Answer.TheVariants as answers
use Rattle.table_model.specs.declared.line.Refusal.TheVariants as refusals
use Rattle.step_tables.specs.Facts as facts
use Rattle.step_tables.specs.Messages.{Luck}
use Rattle.step_tables.specs.Messages as messages
use Rattle.step_tables.specs.ClientMoves.{ClientDisk, ClientTask, Client, ClientStep, Work, changed, client_step, no_shape, phases_by}
use Rattle.step_tables.proofs.Lists.{lookup-insert}
use Rattle.client_node.specs.declared.fault.CallFault.{CallFault}
use Rattle.client_node.specs.declared.fault.CallFault.TheVariants.{Disk as DiskFailed, Memory}
use Rattle.client_node.specs.declared.node.ClientNode.{ClientNode}
use Rattle.client_node.specs.Node.{IsClient, has_task}
use Rattle.client_node.specs.Phases.{KeepsPhases}
use Rattle.world_tables.specs.World.{World, Outbox, Packet, Moved, owner_of, and_then, still, client_at, is_cut, client_tasks, tasks_in, client_writes, client_works, client_until_idle, worked, all_worked, move_there, moved_client, is_resolving, next_write, is_fault}
use Rattle.journal_host.specs.declared.fault.ClientFault.TheVariants as faults
use Rattle.journal_host.specs.declared.host.ClientHost.{ClientHost}
use Rattle.journal_host.specs.Asks.{as_answer, refused_as, answered_as}
use Rattle.journal_host.specs.Holds.{IsHosted, ClientThere, HasPhases, HoldsClients, outs_of, said, SameFaults}
use Rattle.journal_host.specs.Phases.{MovesPhases}
use Rattle.journal_host.specs.Steps.{HasTold}
use Rattle.journal_host.specs.Calls.{IsMoved, IsCalled, HasMoveCause, HasCause}
use Rattle.journal_host.specs.Moves.{has_work}
use Rattle.journal_host.proofs.Lists.{no_more, outs_then}
use Rattle.journal_host.proofs.Keeping.{works_keeps, owners_kept}
use Rattle.journal_host.proofs.Replying.{same_err}
use Rattle.journal_host.proofs.Clients.{at_same, found, not_found, move_done, held_still, nowhere_held}
use Rattle.journal_host.proofs.Phased.{keeps_moves, keeps_stays, down_closed, has_as, resolving_left, resolving_apart}

put_here : (w : World) (c : ℕ) (s : Client) → lookup (is_at (nat_cmp c)) (insert_entry nat_cmp w.clients c s) ≡ Some s
put_here w c s = lookup-insert nat_cmp nat_cmp_total w.clients c s c ∙ ap (λ (b : Bool). cond b (Some s) (client_at w c)) (unsigned_tied c c ∙ eq-eqb c c refl)

some_client : (a b : Client) → Some a ≡ Some b → a ≡ b
some_client a b e = cc

-- ---- the next write

abbrev working : ClientDisk → ClientTask → List ClientTask → Client
working d task rest = record { disk = d; agenda = Some (task ∷ rest) }

-- of a client that has one
writes_are : (w : World) (c : ℕ) (d : ClientDisk) (task : ClientTask) (rest : List ClientTask) (luck : Luck) → client_at w c ≡ Some (working d task rest)
    → client_writes c luck (client_tasks (client_at w c)) w ≡ moved_client w c (Work luck) (client_step c no_shape (working d task rest) (Work luck))
writes_are w c d task rest luck at = ap (λ (o : Option Client). client_writes c luck (client_tasks o) w) at ∙ ap (λ (o : Option Client). move_there w c (Work luck) no_shape o) at

-- one that goes well doesn't fail
pub writes_well : (w : World) (c : ℕ) → (client_writes c messages.Done (client_tasks (client_at w c)) w).failed ≡ false
writes_well w c = by (client_at w c) refl
  where
    by : (o : Option Client) → client_at w c ≡ o → (client_writes c messages.Done (client_tasks (client_at w c)) w).failed ≡ false
    by None at = ap (λ (o : Option Client). (client_writes c messages.Done (client_tasks o) w).failed) at
    by (Some s) at = has s.disk s.agenda at
      where
        has : (d : ClientDisk) (agenda : Option (List ClientTask)) → client_at w c ≡ Some (record { disk = d; agenda = agenda })
            → (client_writes c messages.Done (client_tasks (client_at w c)) w).failed ≡ false
        has d None e = ap (λ (o : Option Client). (client_writes c messages.Done (client_tasks o) w).failed) e
        has d (Some []) e = ap (λ (o : Option Client). (client_writes c messages.Done (client_tasks o) w).failed) e
        has d (Some (task ∷ rest)) e = ap (λ (m : Moved). m.failed) (writes_are w c d task rest messages.Done e)

module _ {D : Type 0} (state : D → DiskState) (w : World) (old new : ClientHost D) (c : ℕ) (node after : ClientNode D) (h : HoldsClients state w old)
    (is : Some node ≡ tree.get nat_cmp old.clients c)
    (u : (q : ℕ) → tree.get nat_cmp new.clients q ≡ cond (is_at (nat_cmp c) q) (Some after) (tree.get nat_cmp old.clients q)) (keeps : KeepsPhases node after) where
  there : (s : Client) × (client_at w c ≡ Some s) × IsHosted state (is_cut w c) c s node
  there = found state w old.clients c h.there node is

  -- a client that does nothing stays
  stays : (d : ClientDisk) (agenda : Option (List ClientTask)) → client_at w c ≡ Some (record { disk = d; agenda = agenda }) → IsHosted state (is_cut w c) c (record { disk = d; agenda = agenda }) after
      → HoldsClients state w new
  stays d agenda at t =
      let same : there.0 ≡ record { disk = d; agenda = agenda } = some_client there.0 (record { disk = d; agenda = agenda }) (sym there.1 ∙ at) in
      held_still state w old new c node after h is u (record { disk = d; agenda = agenda }) at t
      (keeps_stays state node after d agenda (subst (λ (s : Client). IsClient state node s) same there.2.client) t.client keeps)

  -- the phases are those that a write leaves
  moves : (luck : Luck) (a : facts.Answer) → MovesPhases (Work luck) a node after
  moves luck a = keeps_moves node after (Work luck) a (λ phase table. refl) keeps

  well : (d : ClientDisk) (agenda : Option (List ClientTask)) → client_at w c ≡ Some (record { disk = d; agenda = agenda })
      → HasTold state (is_cut w c) c (client_step c no_shape (record { disk = d; agenda = agenda }) (Work messages.Done)) after old.outs.items new.outs.items
      → IsMoved state old new (client_writes c messages.Done (client_tasks (client_at w c)) w)
  well d None at t = let k = stays d None at t.behind in rw at (record { held = k; outs = t.outs (owner_of w) })
  well d (Some []) at t = let k = stays d (Some []) at t.behind in rw at (record { held = k; outs = t.outs (owner_of w) })
  well d (Some (task ∷ rest)) at t = subst (λ (m : Moved). IsMoved state old new m) (sym (ap (λ (o : Option Client). client_writes c messages.Done (client_tasks o) w) at))
      (move_done state w old new c node after h is u (working d task rest) at (Work messages.Done) no_shape t (moves messages.Done (client_step c no_shape (working d task rest) (Work messages.Done)).answer))

  badly : (d : ClientDisk) (agenda : Option (List ClientTask)) → client_at w c ≡ Some (record { disk = d; agenda = agenda }) → has_task agenda ≡ true → (luck : Luck) → (luck ≡ messages.Done → ⊥)
      → HasTold state (is_cut w c) c (client_step c no_shape (record { disk = d; agenda = agenda }) (Work luck)) after old.outs.items new.outs.items
      → (luck : Luck) × ((client_writes c luck (client_tasks (client_at w c)) w).failed ≡ true) × IsMoved state old new (client_writes c luck (client_tasks (client_at w c)) w)
  badly d None at busy luck failing t = absurd cc
  badly d (Some []) at busy luck failing t = absurd cc
  badly d (Some (task ∷ rest)) at busy luck failing t = (
    luck,
    ap (λ (m : Moved). m.failed) (writes_are w c d task rest luck at) ∙ fails luck failing,
    subst (λ (m : Moved). IsMoved state old new m) (sym (ap (λ (o : Option Client). client_writes c luck (client_tasks o) w) at))
        (move_done state w old new c node after h is u (working d task rest) at (Work luck) no_shape t (moves luck (client_step c no_shape (working d task rest) (Work luck)).answer)),
  )
    where
      fails : (luck : Luck) → (luck ≡ messages.Done → ⊥) → is_fault (client_step c no_shape (working d task rest) (Work luck)).answer ≡ true
      fails messages.Done failing = absurd (failing refl)
      fails messages.FailedBefore failing = refl
      fails messages.FailedAfter failing = refl

  pub work_moved : (r : Result Step CallFault)
      → ((cut : Bool) (s : Client) → IsHosted state cut c s node
      → IfOk r (λ step. HasTold state cut c (client_step c no_shape s (Work messages.Done)) after old.outs.items new.outs.items × (step ≡ next_write (tasks_in s.agenda))))
      → IfOk r (λ step. IsMoved state old new (client_writes c messages.Done (client_tasks (client_at w c)) w) × (step ≡ next_write (client_tasks (client_at w c))))
  work_moved r k = by r (k (is_cut w c) there.0 there.2)
    where
      by : (r : Result Step CallFault) → IfOk r
          (λ step. HasTold state (is_cut w c) c (client_step c no_shape there.0 (Work messages.Done)) after old.outs.items new.outs.items × (step ≡ next_write (tasks_in there.0.agenda)))
          → IfOk r (λ step. IsMoved state old new (client_writes c messages.Done (client_tasks (client_at w c)) w) × (step ≡ next_write (client_tasks (client_at w c))))
      by (Ok step) x = (well there.0.disk there.0.agenda there.1 x.0, x.1 ∙ ap (λ (o : Option Client). next_write (client_tasks o)) (sym there.1))
      by (Err e) x = tt

  pub work_failed : ((cut : Bool) (s : Client) → IsHosted state cut c s node → HasTold state cut c (client_step c no_shape s (Work messages.FailedBefore)) after old.outs.items new.outs.items
      ⊎ HasTold state cut c (client_step c no_shape s (Work messages.FailedAfter)) after old.outs.items new.outs.items)
      → ((s : Client) → IsClient state node s → has_task s.agenda ≡ true)
      → (luck : Luck) × ((client_writes c luck (client_tasks (client_at w c)) w).failed ≡ true) × IsMoved state old new (client_writes c luck (client_tasks (client_at w c)) w)
  work_failed k busy = ⊎_elim
      (λ t. badly there.0.disk there.0.agenda there.1 (busy there.0 there.2.client) messages.FailedBefore (λ bad. absurd cc) t)
      (λ t. badly there.0.disk there.0.agenda there.1 (busy there.0 there.2.client) messages.FailedAfter (λ bad. absurd cc) t)
      (k (is_cut w c) there.0 there.2)

-- where there is no client nothing is done
pub none_moved : {D : Type 0} (state : D → DiskState) (w : World) (old new : ClientHost D) (c : ℕ) (h : HoldsClients state w old) (none : None ≡ tree.get nat_cmp old.clients c) → new.clients
    ≡ old.clients → new.outs.items ≡ old.outs.items
    → IsMoved state old new (client_writes c messages.Done (client_tasks (client_at w c)) w) × (steps.Idle ≡ next_write (client_tasks (client_at w c)))
none_moved {D} state w old new c h none same outs =
    let gone = (not_found state w old.clients c h.there none).0 in (
      rw gone (record { held = nowhere_held state w old new c h none same outs; outs = no_more (owner_of w) old.outs.items new.outs.items outs }),
      ap (λ (o : Option Client). next_write (client_tasks o))
          (sym gone),
    )

-- ---- until there are none

abbrev pub put_before : List Outbox → Moved → Moved
put_before told m = record { world = m.world; outs = told ++ m.outs; failed = m.failed }

-- so many writes are done, and these moves come next
pub record Drains {D : Type 0} (state : D → DiskState) (w : World) (start host : ClientHost D) (c count : ℕ) : Type 0 where
  pub here : World
  pub told : List Outbox
  pub held : HoldsClients state here host
  pub outs : outs_of (owner_of here) host ≡ outs_of (owner_of here) start ++ said told
  pub goes : (lucks : List Luck) → (more : List Luck) × (client_works c (client_tasks (client_at w c)) more w ≡ put_before told (client_works c (client_tasks (client_at here c)) lucks here))
  pub counted : length (client_tasks (client_at w c)) ≡ count + length (client_tasks (client_at here c))

-- ---- a client that is down does nothing more

pub record RestsAt {D : Type 0} (state : D → DiskState) (new : ClientHost D) (m : Moved) : Type 0 where
  pub rests_held : HoldsClients state m.world new
  pub rests_said : said m.outs ≡ []

module _ {D : Type 0} (state : D → DiskState) (c : ℕ) (new : ClientHost D) where
  -- nor has it a phase
  closed_in : (x : World) (d : ClientDisk) → client_at x c ≡ Some (record { disk = d; agenda = None }) → HoldsClients state x new → (table : ℕ) → is_resolving x c table ≡ false
  closed_in x d at h table = by (tree.get nat_cmp new.clients c) (subst (λ (o : Option Client). ClientThere state (is_cut x c) c o (tree.get nat_cmp new.clients c)) at (h.there c)) (h.phases c)
    where
      by : (o : Option (ClientNode D)) → ClientThere state (is_cut x c) c (Some (record { disk = d; agenda = None })) o → HasPhases (is_resolving x c) o → is_resolving x c table ≡ false
      by None k p = absurd k
      by (Some node) k p = sym (p table) ∙ down_closed state node d k.client table

  put_again : (x : World) (d : ClientDisk) (packets : List Packet) (a : facts.Answer) → client_at x c ≡ Some (record { disk = d; agenda = None }) → HoldsClients state x new
      → HoldsClients state
      (record x { clients = insert_entry nat_cmp x.clients c (record { disk = d; agenda = None }); packets = packets; phases = phases_by c (Work messages.Done) a None x.phases }) new
  put_again x d packets a at h = record {
    there = λ q. subst (λ (o : Option Client). ClientThere state (is_cut x q) q o (tree.get nat_cmp new.clients q))
        (sym (lookup-insert nat_cmp nat_cmp_total x.clients c (record { disk = d; agenda = None }) q ∙ same q (is_at (nat_cmp c) q) refl)) (h.there q);
    phases = λ q. has_as (is_resolving x q) (is_resolving after q) (λ table. resolves q table (is_at (nat_cmp c) q) refl) (tree.get nat_cmp new.clients q) (h.phases q);
  }
    where
      after : World
      after = record x { phases = phases_by c (Work messages.Done) a None x.phases }

      same : (q : ℕ) (b : Bool) → is_at (nat_cmp c) q ≡ b → cond b (Some (record { disk = d; agenda = None })) (client_at x q) ≡ client_at x q
      same q true is = sym at ∙ ap (λ (k : ℕ). client_at x k) (at_same c q is)
      same q false is = refl

      resolves : (q table : ℕ) (b : Bool) → is_at (nat_cmp c) q ≡ b → is_resolving after q table ≡ is_resolving x q table
      resolves q table true is = subst (λ (k : ℕ). is_resolving after k table ≡ is_resolving x k table) (at_same c q is)
          (resolving_left x c (Work messages.Done) a None table ∙ sym (closed_in x d at h table))
      resolves q table false is = resolving_apart x c q is (Work messages.Done) a None table

  down_rests : (ts : List ClientTask) (x : World) (disk : ClientDisk) → client_at x c ≡ Some (record { disk = disk; agenda = None }) → HoldsClients state x new
      → RestsAt state new (client_works c ts [] x)
  down_rests [] x disk at h = record { rests_held = h; rests_said = refl }
  down_rests (task ∷ ts) x disk at h =
      let it : Client = record { disk = disk; agenda = None } in
      let s : ClientStep = client_step c no_shape it (Work messages.Done) in
      let m : Moved = moved_client x c (Work messages.Done) s in
      let more = down_rests ts m.world disk (put_here x c it) (put_again x disk m.world.packets s.answer at h) in
      subst (λ (y : Moved). RestsAt state new (and_then y (client_works c ts []))) (sym (ap (λ (o : Option Client). move_there x c (Work messages.Done) no_shape o) at))
      (record { rests_held = more.rests_held; rests_said = more.rests_said })

after_bad : (c : ℕ) (disk : ClientDisk) (task : ClientTask) (rest : List ClientTask) (luck : Luck) → is_fault (client_step c no_shape (working disk task rest) (Work luck)).answer ≡ true
    → (left : ClientDisk) × ((client_step c no_shape (working disk task rest) (Work luck)).client ≡ record { disk = left; agenda = None })
after_bad c disk task rest messages.Done fails = absurd cc
after_bad c disk task rest messages.FailedBefore fails = (disk, refl)
after_bad c disk task rest messages.FailedAfter fails = (changed disk task.change, refl)

module _ {D : Type 0} (state : D → DiskState) (w : World) (start : ClientHost D) (c : ℕ) where
  pub drains : HoldsClients state w start → Drains state w start start c 0
  drains h = record { here = w; told = []; held = h; outs = sym (append-nil (outs_of (owner_of w) start)); goes = λ lucks. (lucks, refl); counted = omega arith }

  module _ (host : ClientHost D) (count : ℕ) (d : Drains state w start host c count) where
    -- the client that has a write to do
    busy_one : (P : Type 0) → has_work (client_tasks (client_at d.here c)) ≡ true
        → ((disk : ClientDisk) (task : ClientTask) (rest : List ClientTask) → client_at d.here c ≡ Some (working disk task rest) → P) → P
    busy_one P busy go = by (client_at d.here c) refl
      where
        by : (o : Option Client) → client_at d.here c ≡ o → P
        by None at = let idle = ap (λ (o : Option Client). has_work (client_tasks o)) at in absurd cc
        by (Some s) at = has s.disk s.agenda at
          where
            has : (disk : ClientDisk) (agenda : Option (List ClientTask)) → client_at d.here c ≡ Some (record { disk = disk; agenda = agenda }) → P
            has disk None e = let idle = ap (λ (o : Option Client). has_work (client_tasks o)) e in absurd cc
            has disk (Some []) e = let idle = ap (λ (o : Option Client). has_work (client_tasks o)) e in absurd cc
            has disk (Some (task ∷ rest)) e = go disk task rest e

    module _ (disk : ClientDisk) (task : ClientTask) (rest : List ClientTask) (at : client_at d.here c ≡ Some (working disk task rest)) (new : ClientHost D) (luck : Luck) where
      abbrev step : ClientStep
      step = client_step c no_shape (working disk task rest) (Work luck)

      abbrev m : Moved
      m = moved_client d.here c (Work luck) step

      module _ (moved : IsMoved state host new (client_writes c luck (client_tasks (client_at d.here c)) d.here)) where
        next : IsMoved state host new m
        next = subst (λ (x : Moved). IsMoved state host new x) (writes_are d.here c disk task rest luck at) moved

        behind_outs : outs_of (owner_of d.here) new ≡ outs_of (owner_of d.here) start ++ said (d.told ++ m.outs)
        behind_outs = outs_then (owner_of d.here) (owner_of d.here) start host new d.told m.outs refl d.outs next.outs

        -- what the work is from here
        works_on : (lucks : List Luck) → client_works c (client_tasks (client_at d.here c)) (luck ∷ lucks) d.here ≡ and_then m (client_works c rest lucks)
        works_on lucks =
            ap (λ (o : Option Client). client_works c (client_tasks o) (luck ∷ lucks) d.here) at
            ∙ ap (λ (x : Moved). and_then x (client_works c rest lucks)) (ap (λ (o : Option Client). move_there d.here c (Work luck) no_shape o) at)

    drains_next_at : (disk : ClientDisk) (task : ClientTask) (rest : List ClientTask) → client_at d.here c ≡ Some (working disk task rest) → (new : ClientHost D)
        → IsMoved state host new (client_writes c messages.Done (client_tasks (client_at d.here c)) d.here) → Drains state w start new c (count + 1)
    drains_next_at disk task rest at new moved =
        let s : ClientStep = client_step c no_shape (working disk task rest) (Work messages.Done) in
        let x : Moved = moved_client d.here c (Work messages.Done) s in
        let left : client_tasks (client_at x.world c) ≡ rest = ap client_tasks (put_here d.here c s.client) in
        let now : length (client_tasks (client_at d.here c)) ≡ suc (length rest) = ap (λ (o : Option Client). length (client_tasks o)) at in
        let then_left : length (client_tasks (client_at x.world c)) ≡ length rest = ap (λ (ts : List ClientTask). length ts) left in
        record {
          here = x.world;
          told = d.told ++ x.outs;
          held = (next disk task rest at new messages.Done moved).held;
          outs = behind_outs disk task rest at new messages.Done moved;
          goes = λ lucks.
              let g = d.goes (messages.Done ∷ lucks) in (
                g.0,
                g.1 ∙ (ap (λ (y : Moved). put_before d.told y) (works_on disk task rest at new messages.Done moved lucks)
                    ∙ (ap (λ (l : List Outbox). record { world = (client_works c rest lucks x.world).world; outs = l; failed = (client_works c rest lucks x.world).failed })
                    (sym (append_assoc d.told x.outs (client_works c rest lucks x.world).outs))
                    ∙ ap (λ (ts : List ClientTask). put_before (d.told ++ x.outs) (client_works c ts lucks x.world)) (sym left))),
              );
          counted = let before = d.counted in omega (arith, before, now, then_left);
        }

    pub drains_next : (new : ClientHost D) → has_work (client_tasks (client_at d.here c)) ≡ true → IsMoved state host new (client_writes c messages.Done (client_tasks (client_at d.here c)) d.here)
        → Drains state w start new c (count + 1)
    drains_next new busy moved = busy_one (Drains state w start new c (count + 1)) busy (λ disk task rest at. drains_next_at disk task rest at new moved)

    pub drained : has_work (client_tasks (client_at d.here c)) ≡ false → (count ≡ length (client_tasks (client_at w c))) × (lucks : List Luck) × ((client_until_idle c lucks w).failed ≡ false)
        × IsMoved state start host (client_until_idle c lucks w)
    drained idle = by (client_tasks (client_at d.here c)) refl
      where
        by : (ts : List ClientTask) → client_tasks (client_at d.here c) ≡ ts → (count ≡ length (client_tasks (client_at w c))) × (lucks : List Luck)
            × ((client_until_idle c lucks w).failed ≡ false) × IsMoved state start host (client_until_idle c lucks w)
        by (task ∷ rest) is = let busy = ap has_work is in absurd cc
        by [] is =
            let g = d.goes [] in
            let e : client_until_idle c g.0 w ≡ put_before d.told (still d.here) = g.1 ∙ ap (λ (ts : List ClientTask). put_before d.told (client_works c ts [] d.here)) is in
            let none : length (client_tasks (client_at d.here c)) ≡ 0 = ap (λ (ts : List ClientTask). length ts) is in
            let before = d.counted in (
              omega (arith, before, none),
              g.0,
              ap (λ (m : Moved). m.failed) e,
              subst (λ (m : Moved). IsMoved state start host m) (sym e) (record { held = d.held; outs = d.outs ∙ ap (λ (l : List Outbox). outs_of (owner_of d.here) start ++ said l) (sym (append-nil d.told)) }),
            )

    bad_at : (disk : ClientDisk) (task : ClientTask) (rest : List ClientTask) → client_at d.here c ≡ Some (working disk task rest) → (new : ClientHost D) (luck : Luck)
        → (client_writes c luck (client_tasks (client_at d.here c)) d.here).failed ≡ true → IsMoved state host new (client_writes c luck (client_tasks (client_at d.here c)) d.here)
        → (lucks : List Luck) × ((client_until_idle c lucks w).failed ≡ true) × IsMoved state start new (client_until_idle c lucks w)
    bad_at disk task rest at new luck fails moved =
        let s : ClientStep = client_step c no_shape (working disk task rest) (Work luck) in
        let x : Moved = moved_client d.here c (Work luck) s in
        let failed : x.failed ≡ true = ap (λ (y : Moved). y.failed) (sym (writes_are d.here c disk task rest luck at)) ∙ fails in
        let gone = after_bad c disk task rest luck failed in
        let r : Moved = client_works c rest [] x.world in
        let rests = down_rests state c new rest x.world gone.0 (put_here d.here c s.client ∙ ap Some gone.1) (next disk task rest at new luck moved).held in
        let g = d.goes (luck ∷ []) in
        let e : client_until_idle c g.0 w ≡ put_before d.told (and_then x (client_works c rest [])) = g.1
        ∙ ap (λ (y : Moved). put_before d.told y) (works_on disk task rest at new luck moved []) in (
          g.0,
          ap (λ (y : Moved). y.failed) e ∙ ap (λ (b : Bool). b || r.failed) failed,
          subst (λ (y : Moved). IsMoved state start new y) (sym e) (record {
            held = rests.rests_held;
            outs = outs_then (owner_of d.here) (owner_of r.world) start new new (d.told ++ x.outs) r.outs (owners_kept x.world r (works_keeps c rest [] x.world))
                (behind_outs disk task rest at new luck moved)
                (sym (append-nil (outs_of (owner_of r.world) new)) ∙ ap (λ (l : List Outbox). outs_of (owner_of r.world) new ++ l) (sym rests.rests_said))
                ∙ ap (λ (l : List Outbox). outs_of (owner_of r.world) start ++ said l) (append_assoc d.told x.outs r.outs);
          }),
        )

    pub drained_badly : (new : ClientHost D) (luck : Luck) → has_work (client_tasks (client_at d.here c)) ≡ true
        → (client_writes c luck (client_tasks (client_at d.here c)) d.here).failed ≡ true → IsMoved state host new (client_writes c luck (client_tasks (client_at d.here c)) d.here)
        → (lucks : List Luck) × ((client_until_idle c lucks w).failed ≡ true) × IsMoved state start new (client_until_idle c lucks w)
    drained_badly new luck busy fails moved =
        busy_one ((lucks : List Luck) × ((client_until_idle c lucks w).failed ≡ true) × IsMoved state start new (client_until_idle c lucks w)) busy
        (λ disk task rest at. bad_at disk task rest at new luck fails moved)

-- ---- answers

later_cause : {D T : Type 0} (state : D → DiskState) (c : ℕ) (old mid new : tree.BTreeMap ℕ (ClientNode D)) (r : Result T CallFault) → SameFaults state old mid → HasMoveCause state c mid new r
    → HasMoveCause state c old new r
later_cause state c old mid new r same k = record {
  counted = λ none q. k.counted none q ∙ same q;
  cause = λ is. let x = k.cause is in record { one = rw (sym (same c)) x.one; others = λ q off. x.others q off ∙ same q };
  only = k.only;
}

pub err_cause : {D S T : Type 0} (state : D → DiskState) (c : ℕ) (old mid new : tree.BTreeMap ℕ (ClientNode D)) (e : CallFault) → SameFaults state old mid
    → HasMoveCause {T = S} state c mid new (Err e) → HasMoveCause {T = T} state c old new (Err e)
err_cause {D} {S} {T} state c old mid new e same k =
    let x = later_cause state c old mid new (Err e) same k in
    record { counted = λ none. x.counted (λ is. none (same_err e DiskFailed is)); cause = λ is. x.cause (same_err e DiskFailed is); only = x.only }

-- a fault of a disk is answered so, and no other
pub moves_cause : {D T : Type 0} (state : D → DiskState) (c : ℕ) (old new : tree.BTreeMap ℕ (ClientNode D)) (gives : T → Answer) → ((x : T) → gives x ≢ answers.Refused refusals.NoDevice)
    → (r : Result T CallFault) → HasMoveCause state c old new r
    → HasCause state c old new (answered_as (as_answer gives r))
moves_cause {D} {T} state c old new gives other (Ok x) k = record
    { counted = λ is. k.counted (λ bad. absurd cc); cause = λ is. absurd (other x (let e : gives x ≡ answers.Refused refusals.NoDevice = cc in e)) }
moves_cause {D} {T} state c old new gives other (Err e) k = by e k.only k
  where
    by : (e : CallFault) → (e ≡ DiskFailed) ⊎ (e ≡ Memory) → HasMoveCause {T = T} state c old new (Err e) → HasCause state c old new (refused_as e)
    by e (inl is) k = subst (λ (x : CallFault). HasCause state c old new (refused_as x)) (sym is)
        (record { counted = λ none. absurd (none refl); cause = λ fault. k.cause (ap (λ (x : CallFault). Err x) is) })
    by e (inr is) k = subst (λ (x : CallFault). HasCause state c old new (refused_as x)) (sym is)
        (record { counted = λ none. k.counted (λ bad. let a : e ≡ DiskFailed = cc in absurd cc); cause = λ fault. absurd cc })

pub moves_memory : {T : Type 0} (gives : T → Answer) (r : Result T CallFault) → IfErr r (λ e. (e ≡ DiskFailed) ⊎ (e ≡ Memory)) → IfErr (answered_as (as_answer gives r)) (λ e. e ≡ faults.Memory)
moves_memory gives (Ok x) k = tt
moves_memory gives (Err e) (inl is) = rw is tt
moves_memory gives (Err e) (inr is) = rw is refl

module _ {D : Type 0} (state : D → DiskState) (w : World) (old new : ClientHost D) (c : ℕ) where
  pub worked_as : (r : Result Step CallFault) → IfErr r (λ e. (e ≡ DiskFailed) ⊎ (e ≡ Memory))
      → IfOk r (λ step. IsMoved state old new (client_writes c messages.Done (client_tasks (client_at w c)) w) × (step ≡ next_write (client_tasks (client_at w c))))
      → (IsErrOf r DiskFailed → (luck : Luck) × ((client_writes c luck (client_tasks (client_at w c)) w).failed ≡ true)
      × IsMoved state old new (client_writes c luck (client_tasks (client_at w c)) w))
      → IfOk (answered_as (as_answer answers.Did r)) (λ answer. (lucks : List Luck) × IsCalled state old new (worked w lucks (nodes.Client c)) answer)
  worked_as (Ok step) only done failed = (
    [],
    record {
      answer_is = ap (λ (b : Bool). Some (if b then facts.Refuses facts.NoDevice else facts.Did (next_write (client_tasks (client_at w c))))) (writes_well w c)
          ∙ ap (λ (s : Step). Some (facts.Did s)) (sym done.1);
      held = done.0.held;
      outs = done.0.outs;
    },
  )
  worked_as (Err e) (inl is) done failed =
      let x = failed (ap (λ (y : CallFault). Err y) is) in
      rw is (
        x.0 ∷ [],
        record {
          answer_is = ap (λ (b : Bool). Some (if b then facts.Refuses facts.NoDevice else facts.Did (next_write (client_tasks (client_at w c))))) x.1;
          held = x.2.held;
          outs = x.2.outs;
        },
      )
  worked_as (Err e) (inr is) done failed = rw is tt

  pub all_worked_as : (r : Result ℕ CallFault) → IfErr r (λ e. (e ≡ DiskFailed) ⊎ (e ≡ Memory))
      → IfOk r (λ count. (count ≡ length (client_tasks (client_at w c))) × (lucks : List Luck) × ((client_until_idle c lucks w).failed ≡ false) × IsMoved state old new (client_until_idle c lucks w))
      → (IsErrOf r DiskFailed → (lucks : List Luck) × ((client_until_idle c lucks w).failed ≡ true) × IsMoved state old new (client_until_idle c lucks w))
      → IfOk (answered_as (as_answer answers.Number r)) (λ answer. (lucks : List Luck) × IsCalled state old new (all_worked w lucks (nodes.Client c)) answer)
  all_worked_as (Ok count) only done failed = (
    done.1,
    record {
      answer_is = ap (λ (b : Bool). Some (if b then facts.Refuses facts.NoDevice else facts.Number (length (client_tasks (client_at w c))))) done.2
          ∙ ap (λ (n : ℕ). Some (facts.Number n)) (sym done.0);
      held = done.3.held;
      outs = done.3.outs;
    },
  )
  all_worked_as (Err e) (inl is) done failed =
      let x = failed (ap (λ (y : CallFault). Err y) is) in
      rw is (
        x.0,
        record {
          answer_is = ap (λ (b : Bool). Some (if b then facts.Refuses facts.NoDevice else facts.Number (length (client_tasks (client_at w c))))) x.1;
          held = x.2.held;
          outs = x.2.outs;
        },
      )
  all_worked_as (Err e) (inr is) done failed = rw is tt
