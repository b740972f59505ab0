-- The question whether a client may resolve all conflicts of a table, as the world has it.
use Rattle.std.proofs.Common.{◌≡◌, ℕ, ◌≤◌, ◌++◌, Bool, true, false, cond, List, [], ◌∷◌, Option, Some, None, Result, Ok, Err, refl, sym, ap, ◌∙◌, subst, append-nil}
use Rattle.std.specs.Prelude.{◌&&◌, if◌then◌else◌}
use Rattle.std.specs.Ordering.{nat_cmp}
use Rattle.std.specs.Cmp.{nat_cmp_total}
use Rattle.std.specs.BTreeMap.{is_at}
use Rattle.std.specs.BTreeMap as tree
use Rattle.disk_trait.specs.Calls.{DiskState}
use Rattle.stab_base.specs.declared.node.Node.TheVariants as nodes
use Rattle.row_value.specs.declared.fit.FitFault.{FitFault}
use Rattle.conflicts.specs.declared.stored.Stored.{Stored}
use Rattle.table_model.specs.declared.line.Answer.{Answer}
use Rattle.step_tables.specs.Facts.{Refusal}
use Rattle.step_tables.specs.Facts as facts
use Rattle.step_tables.specs.Messages.{Luck}
use Rattle.step_tables.specs.Messages as messages
use Rattle.step_tables.specs.ClientMoves.{TableDisk, ClientDisk, ClientTask, Client, ClientMove, ClientStep, Shape, ResolveAll, all_fitting, all_idle, all_in, can_resolve, client_step, if_closed, is_before_phase, is_cut_off, kept_out, phases_by, seen, table_at}
use Rattle.step_tables.proofs.Lists.{lookup-insert}
use Rattle.world_tables.specs.World.{World, WorldStep, Moved, owner_of, client_at, first_luck, is_client_down, is_cut, packets_from, Outbox, is_resolving, move_client, moved_client, reads, refused, unless_cut, unless_kept, unless_closed, is_closed, is_closed_in, closed_answer}
use Rattle.world_laws.proofs.Working.{moved_is}
use Rattle.journal_host.specs.declared.host.ClientHost.{ClientHost}
use Rattle.journal_host.specs.Holds.{ClientThere, HoldsClients, outs_of, said}
use Rattle.journal_host.specs.Calls.{IsCalled}
use Rattle.journal_host.specs.Moves.{move_alone, alone_there, call_alone}
use Rattle.journal_host.proofs.Clients.{at_same}
use Rattle.journal_host.proofs.Phased.{has_as}
use Rattle.client_events.specs.Resolves.{IsReady}

-- ---- it leaves the client

pub all_still : (c : ℕ) (shape : Shape) (table : ℕ) (way : Stored) (d : ClientDisk) (agenda : Option (List ClientTask))
    → (client_step c shape (record { disk = d; agenda = agenda }) (ResolveAll table way)).client ≡ record { disk = d; agenda = agenda }
all_still c shape table way d None = refl
all_still c shape table way d (Some agenda) = by_table (table_at (seen d) table)
  where
    by_work : (tasks : List ClientTask) (o : TableDisk) → (all_idle shape d tasks o).client ≡ record { disk = d; agenda = Some tasks }
    by_work (task ∷ more) o = refl
    by_work [] o = refl

    by_fit : (o : TableDisk) (fit : Result (Unit {0}) FitFault) → (all_fitting shape d agenda o fit).client ≡ record { disk = d; agenda = Some agenda }
    by_fit o (Ok fits) = by_work agenda o
    by_fit o (Err fault) = refl

    by_table : (m : Option TableDisk) → (all_in shape d agenda way m).client ≡ record { disk = d; agenda = Some agenda }
    by_table None = refl
    by_table (Some o) = by_fit o (can_resolve o.schema way)

-- ---- where it is answered by a number

-- The client is idle, resolves the table's conflicts, hasn't closed it, and the move is all that is done.
pub record IsAsked (w : World) (c table : ℕ) (way : Stored) (shape : Shape) (s : WorldStep) : Type 0 where
  pub disk : ClientDisk
  pub at : client_at w c ≡ Some (record { disk = disk; agenda = Some [] })
  pub free : is_closed_in (table_at (seen disk) table) ≡ false
  pub phase : is_resolving w c table ≡ true
  pub is : s ≡ move_alone w c (ResolveAll table way) shape (record { disk = disk; agenda = Some [] })

-- no number is a refusal
refuses_none : (r : Refusal) (count : ℕ) → Some (facts.Refuses r) ≡ Some (facts.Number count) → ⊥
refuses_none r count is = absurd cc

idle_asked : (shape : Shape) (d : ClientDisk) (tasks : List ClientTask) (way : Stored) (count : ℕ) (o : Option TableDisk) → (all_in shape d tasks way o).answer ≡ facts.Number count → tasks ≡ []
idle_asked shape d tasks way count None is = absurd cc
idle_asked shape d tasks way count (Some opened) is = by_fit (can_resolve opened.schema way) is
  where
    by_work : (ts : List ClientTask) → (all_idle shape d ts opened).answer ≡ facts.Number count → ts ≡ []
    by_work [] e = refl
    by_work (task ∷ more) e = absurd cc

    by_fit : (fit : Result (Unit {0}) FitFault) → (all_fitting shape d tasks opened fit).answer ≡ facts.Number count → tasks ≡ []
    by_fit (Ok fits) e = by_work tasks e
    by_fit (Err fault) e = absurd cc

module _ (w : World) (c table : ℕ) (way : Stored) (shape : Shape) (count : ℕ) where
  abbrev move : ClientMove
  move = ResolveAll table way

  module _ (d : ClientDisk) (tasks : List ClientTask) (at : client_at w c ≡ Some (record { disk = d; agenda = Some tasks })) where
    abbrev node : Client
    node = record { disk = d; agenda = Some tasks }

    abbrev step : ClientStep
    step = client_step c shape node move

    abbrev alone : WorldStep
    alone = move_alone w c move shape node

    abbrev Found : WorldStep → Type 0
    Found s = s.answer ≡ Some (facts.Number count) → (tasks ≡ []) × (is_resolving w c table ≡ true) × (s ≡ alone)

    given : (b : Bool) (a : facts.Answer) → Some (if b then facts.Refuses facts.NoDevice else a) ≡ Some (facts.Number count) → a ≡ facts.Number count
    given true a is = absurd cc
    given false a is = cc

    answer_is : alone.answer ≡ Some (facts.Number count) → step.answer ≡ facts.Number count
    answer_is is = given (move_client c move shape w).failed step.answer is

    by_cut : is_resolving w c table ≡ true → (b : Bool) → Found (unless_cut w b alone)
    by_cut phase true is = absurd (refuses_none facts.Offline count is)
    by_cut phase false is = (idle_asked shape d tasks way count (table_at (seen d) table) (answer_is is), phase, refl)

    -- a number isn't refused before the phase
    open_for : (b phase : Bool) → b ≡ false → if_closed b phase ≡ None → phase ≡ true
    open_for b true before is = refl
    open_for true false before is = absurd cc
    open_for false false before is = absurd cc

    by_kept : (o : Option Refusal) → kept_out (is_resolving w c) move step.answer ≡ o → Found (unless_kept w o (unless_cut w (is_cut w c && is_cut_off c shape node move) alone))
    by_kept (Some r) kept is = absurd (refuses_none r count is)
    by_kept None kept is = by_link (is_cut w c && is_cut_off c shape node move) is
      where
        phase_is : step.answer ≡ facts.Number count → is_resolving w c table ≡ true
        phase_is a = open_for (is_before_phase move step.answer) (is_resolving w c table) (ap (λ (x : facts.Answer). is_before_phase move x) a) kept

        by_link : (b : Bool) → Found (unless_cut w b alone)
        by_link true e = absurd (refuses_none facts.Offline count e)
        by_link false e = by_cut (phase_is (answer_is e)) false e

    abbrev says_shut : facts.Answer
    says_shut = closed_answer shape (is_cut w c) (Some tasks) move

    abbrev unshut : WorldStep
    unshut = unless_kept w (kept_out (is_resolving w c) move step.answer) (unless_cut w (is_cut w c && is_cut_off c shape node move) alone)

    abbrev FoundOpen : WorldStep → Type 0
    FoundOpen s = s.answer ≡ Some (facts.Number count) → (is_closed node (Some table) ≡ false) × (tasks ≡ []) × (is_resolving w c table ≡ true) × (s ≡ alone)

    by_shut : (b : Bool) → is_closed node (Some table) ≡ b → FoundOpen (unless_closed w b says_shut unshut)
    by_shut true shut is = absurd (refuses_none facts.NoTable count is)
    by_shut false shut is = let found = by_kept (kept_out (is_resolving w c) move step.answer) refl is in (shut, found.0, found.1, found.2)

    by_luck : (luck : Luck) → FoundOpen (reads w c luck (unless_closed w (is_closed node (Some table)) says_shut unshut))
    by_luck messages.Done is = by_shut (is_closed node (Some table)) refl is
    by_luck messages.FailedBefore is = absurd (refuses_none facts.NoDevice count is)
    by_luck messages.FailedAfter is = absurd (refuses_none facts.NoDevice count is)

  pub asked : (lucks : List Luck) → (call_alone w c move shape lucks).answer ≡ Some (facts.Number count) → IsAsked w c table way shape (call_alone w c move shape lucks)
  asked lucks is = by (client_at w c) refl is
    where
      up : (d : ClientDisk) (tasks : List ClientTask) → client_at w c ≡ Some (record { disk = d; agenda = Some tasks })
          → (call_alone w c move shape lucks).answer ≡ Some (facts.Number count) → IsAsked w c table way shape (call_alone w c move shape lucks)
      up d tasks at is =
          let behind : WorldStep = reads w c (first_luck lucks) (unless_closed w (is_closed (node d tasks at) (Some table)) (says_shut d tasks at) (unshut d tasks at)) in
          let there : call_alone w c move shape lucks ≡ behind = ap (λ (o : Option Client). alone_there w c move shape lucks o) at
          ∙ ap (λ (b : Bool). if b then refused w (facts.NodeDown (nodes.Client c)) else behind) (ap is_client_down at) in
          let found = by_luck d tasks at (first_luck lucks) (ap (λ (s : WorldStep). s.answer) (sym there) ∙ is) in
          record {
            disk = d;
            at = at ∙ ap (λ (ts : List ClientTask). Some (record { disk = d; agenda = Some ts })) found.1;
            free = found.0;
            phase = found.2;
            is = there ∙ (found.3 ∙ ap (λ (ts : List ClientTask). move_alone w c move shape (record { disk = d; agenda = Some ts })) found.1);
          }

      down : (d : ClientDisk) → client_at w c ≡ Some (record { disk = d; agenda = None }) → (call_alone w c move shape lucks).answer ≡ Some (facts.Number count) → ⊥
      down d at is = refuses_none (facts.NodeDown (nodes.Client c)) count
          (sym (ap (λ (b : Bool). (if b then refused w (facts.NodeDown (nodes.Client c)) else behind).answer) (ap is_client_down at))
          ∙ (ap (λ (s : WorldStep). s.answer) (sym (ap (λ (o : Option Client). alone_there w c move shape lucks o) at)) ∙ is))
        where
          node_down : Client
          node_down = record { disk = d; agenda = None }

          behind : WorldStep
          behind = reads w c (first_luck lucks) (unless_closed w (is_closed node_down (Some table)) (closed_answer shape (is_cut w c) None move)
              (unless_kept w (kept_out (is_resolving w c) move (client_step c shape node_down move).answer)
              (unless_cut w (is_cut w c && is_cut_off c shape node_down move) (move_alone w c move shape node_down))))

      some : (d : ClientDisk) (agenda : Option (List ClientTask)) → client_at w c ≡ Some (record { disk = d; agenda = agenda }) → (call_alone w c move shape lucks).answer ≡ Some (facts.Number count)
          → IsAsked w c table way shape (call_alone w c move shape lucks)
      some d None at is = absurd (down d at is)
      some d (Some tasks) at is = up d tasks at is

      by : (o : Option Client) → client_at w c ≡ o → (call_alone w c move shape lucks).answer ≡ Some (facts.Number count) → IsAsked w c table way shape (call_alone w c move shape lucks)
      by None at is = absurd (refuses_none facts.NoTable count (sym (ap (λ (o : Option Client). (alone_there w c move shape lucks o).answer) at) ∙ is))
      by (Some s) at is = some s.disk s.agenda at is

-- ---- what the clients hold behind it

module _ {D : Type 0} (state : D → DiskState) (w : World) (old mid : ClientHost D) (c table : ℕ) (way : Stored) (shape : Shape) (s : WorldStep) (q : IsAsked w c table way shape s)
    (answer : Answer) (k : IsCalled state old mid s answer) where
  abbrev idle : Client
  idle = record { disk = q.disk; agenda = Some [] }

  abbrev looked : ClientStep
  looked = client_step c shape idle (ResolveAll table way)

  behind : s.world ≡ (moved_client w c (ResolveAll table way) looked).world
  behind = ap (λ (x : WorldStep). x.world) q.is ∙ ap (λ (m : Moved). m.world) (moved_is w c (ResolveAll table way) shape idle q.at)

  -- the same clients
  same_at : (b : ℕ) → client_at s.world b ≡ client_at w b
  same_at b = ap (λ (x : World). client_at x b) behind
      ∙ (lookup-insert nat_cmp nat_cmp_total w.clients c looked.client b ∙ (ap (λ (x : Client). cond (is_at (nat_cmp c) b) (Some x) (client_at w b)) (all_still c shape table way q.disk (Some []))
      ∙ by (is_at (nat_cmp c) b) refl))
    where
      by : (t : Bool) → is_at (nat_cmp c) b ≡ t → cond t (Some idle) (client_at w b) ≡ client_at w b
      by true is = sym q.at ∙ ap (λ (n : ℕ). client_at w n) (at_same c b is)
      by false is = refl

  -- the same phases
  same_phases : s.world.phases ≡ w.phases
  same_phases = ap (λ (x : World). x.phases) behind ∙ ap (λ (x : Client). phases_by c (ResolveAll table way) looked.answer x.agenda w.phases) (all_still c shape table way q.disk (Some []))

  same_cuts : (b : ℕ) → is_cut s.world b ≡ is_cut w b
  same_cuts b = ap (λ (x : World). is_cut x b) behind

  pub held_back : HoldsClients state w mid
  held_back = record {
    there = λ b. subst (λ (cut : Bool). ClientThere state cut b (client_at w b) (tree.get nat_cmp mid.clients b)) (same_cuts b)
        (subst (λ (o : Option Client). ClientThere state (is_cut s.world b) b o (tree.get nat_cmp mid.clients b)) (same_at b) (k.held.there b));
    phases = λ b. has_as (is_resolving s.world b) (is_resolving w b) (λ t. ap (λ (ps : List (ℕ × ℕ)). is_resolving (record w { phases = ps }) b t) (sym same_phases)) (tree.get nat_cmp mid.clients b) (k.held.phases b);
  }

  -- and nothing is told
  pub outs_back : outs_of (owner_of w) mid ≡ outs_of (owner_of w) old
  outs_back = subst (λ (owners : ℕ → ℕ). outs_of owners mid ≡ outs_of owners old ++ said s.outs) (ap owner_of behind) k.outs
      ∙ (ap (λ (l : List Outbox). outs_of (owner_of w) old ++ said l) (ap (λ (x : WorldStep). x.outs) q.is ∙ ap (λ (m : Moved). m.outs) (moved_is w c (ResolveAll table way) shape idle q.at))
      ∙ (ap (λ (l : List Outbox). outs_of (owner_of w) old ++ l) (silent (table_at (seen q.disk) table)) ∙ append-nil (outs_of (owner_of w) old)))
    where
      silent : (o : Option TableDisk) → said (record { facts = (all_in shape q.disk [] way o).facts; packets = packets_from (owner_of w) (nodes.Client c) (all_in shape q.disk [] way o).sends } ∷ []) ≡ []
      silent None = refl
      silent (Some opened) = by (can_resolve opened.schema way)
        where
          by : (fit : Result (Unit {0}) FitFault) → said (record { facts = (all_fitting shape q.disk [] opened fit).facts; packets = packets_from (owner_of w) (nodes.Client c) (all_fitting shape q.disk [] opened fit).sends } ∷ []) ≡ []
          by (Ok fits) = refl
          by (Err fault) = refl

  pub ready : (last : ℕ) → q.disk.last ≤ last → (seen q.disk).last ≤ last → IsReady w c table last
  ready last given giving = record { disk = q.disk; at = q.at; free = q.free; phase = q.phase; given = given; giving = giving }
