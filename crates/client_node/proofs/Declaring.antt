-- What a node's declaration promises, from what is done to its devices.
use Rattle.std.proofs.Common.{◌≡◌, inl, inr, ℕ, ◌<◌, ◌++◌, length, map, true, false, List, [], ◌∷◌, Option, Some, None, Result, Ok, Err, refl, sym, ◌∙◌, ap, subst, arith, append-nil}
use Rattle.std.specs.Prelude.{IsErrOf}
use Rattle.std.proofs.lemmas.List.{map-append}
use Rattle.std.specs.List.{AllByRecursion}
use Rattle.disk_trait.specs.Calls.{DiskState}
use Rattle.disk_trait.specs.Fuse.{behind, inner_of}
use Rattle.disk_trait.specs.declared.fuse.FuseDisk.{FuseDisk}
use Rattle.row_value.specs.declared.schema.Schema.{Schema}
use Rattle.held_value.specs.declared.local_name.LocalName.{LocalName}
use Rattle.table_model.specs.declared.line.Fact.{Fact as Told}
use Rattle.table_model.specs.declared.line.Fact.TheVariants as told
use Rattle.client_journal.specs.declared.devs.Journal.{Journal}
use Rattle.client_journal.specs.Devs.{ClientDevs, Write, changed_by_all}
use Rattle.client_journal.specs.NamedSlots.{IsAtRest}
use Rattle.client_journal.specs.Standing.{devs, writes_of, IsReady}
use Rattle.step_tables.specs.Facts.{Fact}
use Rattle.step_tables.specs.Facts as facts
use Rattle.step_tables.specs.Lines.{fact_of}
use Rattle.step_tables.specs.ClientMoves.{Plan, Shape, ClientDisk, ClientTask, Client, no_shape, started, resumed}
use Rattle.gathering.specs.declared.gathered.Gathered.{Gathered}
use Rattle.gathering.specs.Room.{HasRoom}
use Rattle.client_node.specs.declared.fault.CallFault.{CallFault}
use Rattle.client_node.specs.declared.fault.CallFault.TheVariants as call
use Rattle.client_node.specs.declared.node.ClientNode.{ClientNode}
use Rattle.client_node.specs.declared.owed.Owed.{Owed}
use Rattle.client_node.specs.Calls.{Falls, IsBehind, Stays}
use Rattle.client_node.specs.Devices.{MakesTables}
use Rattle.client_node.specs.Node.{AreOwed, FollowsFor, IsToOpen, IsWorking, IsResting, IsClient, IsNode, to_open, told_by, sent_by, facts_owed, sends_owed}
use Rattle.client_node.specs.Starts.{Declares, Starts, torn_in}
use Rattle.client_node.specs.Steady.{IsSteady}
use Rattle.client_node.proofs.Opening.{opens_steady}
use Rattle.client_node.proofs.Making.{records_stand, records_fit, records_rest}
use Rattle.client_node.proofs.OwnFaults.{own_kept, own_failed}
use Rattle.client_node.proofs.PlanNumbers.{plans_none}
use Rattle.client_node.proofs.Working.{IsKept}

pub no_room : {T : Type 0} (g : Gathered T) → HasRoom g 0
no_room g = record { now = let k = g.items.ok.1 in omega arith; later = inl refl }

module _ {D : Type 0} (state : D → DiskState) where
  abbrev st : FuseDisk D → DiskState
  st f = behind state f

  abbrev at : ClientDisk → Option (List ClientTask) → Client
  at disk agenda = record { disk = disk; agenda = agenda }

  -- a node that isn't declared is down
  pub rests_undeclared : (node : ClientNode D) (disk : ClientDisk) (agenda : Option (List ClientTask)) → IsClient state node (at disk agenda) → node.is_declared ≡ false
      → (agenda ≡ None) × (node.is_up ≡ false) × IsResting state node disk
  rests_undeclared node disk None t not_yet = (refl, t.at.0, t.at.1)
  rests_undeclared node disk (Some tasks) t not_yet = let is = t.at.1.declared in absurd cc

  pub tables_open : (node : ClientNode D) (disk : ClientDisk) (agenda : Option (List ClientTask)) → IsClient state node (at disk agenda) → node.is_declared ≡ false → AllByRecursion IsToOpen node.tables.items
  tables_open node disk agenda t not_yet = (rests_undeclared node disk agenda t not_yet).2.opens not_yet

  module _ (old : ClientNode D) (disk : ClientDisk) (agenda : Option (List ClientTask)) (t : IsClient state old (at disk agenda)) (not_yet : old.is_declared ≡ false) where
    r : IsResting state old disk
    r = (rests_undeclared old disk agenda t not_yet).2

    abbrev nothing_meant : LocalName → List ℕ
    nothing_meant name = []

    pub declare_done : (client : Journal (FuseDisk D)) (owed : Owed) → owed.facts.items ≡ [] → owed.messages.items ≡ [] → MakesTables st old.tables.items old.devs client (Ok tt)
        → Declares state (at disk agenda) old (record old { devs = client; owed = owed; is_declared = true; is_up = true }) (Ok tt)
    declare_done client owed no_facts no_messages k =
        let new : ClientNode D = record old { devs = client; owed = owed; is_declared = true; is_up = true } in
        let d : ClientDevs = devs st client in
        let tables = (to_open old.tables.items).tables in
        let follows : FollowsFor old.number d [] disk [] = subst (λ (e : ClientDisk). FollowsFor old.number d [] e []) (sym (r.undeclared not_yet))
        (nothing_meant, records_stand d tables k.holds old.number nothing_meant, records_fit d tables k.holds nothing_meant) in
        let w : IsWorking state new disk [] = record {
          declared = refl;
          up = k.up;
          fresh = k.cause.fuse.fresh r.fresh;
          ready = subst (λ (l : List Write). IsReady st client l) (sym k.idle) k.ready;
          follows = subst (λ (l : List Write). FollowsFor old.number d l disk []) (sym k.idle) follows;
          rests = subst (λ (l : List Write). IsAtRest (changed_by_all d l)) (sym k.idle) (records_rest d tables k.holds);
          steady = subst (IsSteady old.waiting) (sym (r.undeclared not_yet)) (opens_steady old.waiting old.tables.items (r.opens not_yet));
          tasks_steady = tt;
          owed = subst (λ (l : List Write). AreOwed owed.when (facts_owed owed) (sends_owed owed) l []) (sym k.idle) tt;
          fact_room = subst (λ (n : ℕ). HasRoom old.facts n) (sym (ap length no_facts)) (no_room old.facts);
          message_room = subst (λ (n : ℕ). HasRoom old.messages n) (sym (ap length no_messages)) (no_room old.messages);
        } in
        record {
          declared = record { client = record { at = (refl, w) }; told = refl; sent = refl; same = record { number = refl; linked = refl } };
          refused = tt;
          counted = λ n. own_kept state old new r.fresh k.cause.fuse (k.cause.counted n);
          cause = λ is. absurd cc;
          only = tt;
          plans = λ n. plans_none state n new k.holds.journal k.idle;
        }

    -- a node that is still down, and isn't declared
    still_down : (new : ClientNode D) → IsKept old new → new.is_up ≡ false → new.tables ≡ old.tables → IsResting state new disk → Stays state old new (at disk agenda)
    still_down new kept down tables rests = record {
      client = subst (λ (a : Option (List ClientTask)). IsClient state new (at disk a)) (sym (rests_undeclared old disk agenda t not_yet).0) (record { at = (down, rests) });
      told = kept.told;
      sent = kept.sent;
      same = kept.same;
    }

    pub declare_failed : (images : D → ℕ → List ℕ → Type 0) (mid new : ClientNode D) (e : CallFault) → MakesTables st old.tables.items old.devs mid.devs (Err e) → Falls state images mid new → IsKept old new → new.is_up ≡ false → new.tables ≡ old.tables
        → Declares state (at disk agenda) old new (Err e)
    declare_failed images mid new e k falls kept down tables =
        let not : new.is_declared ≡ false = kept.declared ∙ not_yet in
        record {
          declared = tt;
          refused = still_down new kept down tables (record {
            up = falls.up;
            fresh = falls.fresh;
            idle = falls.idle;
            synced = λ is. absurd cc;
            sound = λ is. absurd cc;
            stands = λ is. absurd cc;
            undeclared = λ _. r.undeclared not_yet ∙ ap (λ v. to_open v.items) (sym tables);
            opens = λ _. subst (λ v. AllByRecursion IsToOpen v.items) (sym tables) (r.opens not_yet);
            waiting = falls.waiting;
            steady = r.steady;
            phaseless = falls.phaseless;
          });
          counted = λ n. falls.counted ∙ own_kept state old mid r.fresh k.cause.fuse (k.cause.counted n);
          cause = λ is. let less = own_failed state old mid r.fresh k.cause.fuse (k.cause.disk is) in let same = falls.counted in omega (arith, less, same);
          only = k.cause.only;
          plans = λ n is. absurd cc;
        }

  pub declares_node : (s : Client) (old new : ClientNode D) (r : Result (Unit {0}) CallFault) → Declares state s old new r → IsNode state new
  declares_node s old new (Ok x) k = (_, k.declared.client)
  declares_node s old new (Err e) k = (_, k.refused.client)

  -- ---- a declaration that is late

  module _ (images : D → ℕ → List ℕ → Type 0) (old : ClientNode D) (disk : ClientDisk) (agenda : Option (List ClientTask)) (t : IsClient state old (at disk agenda)) (not_yet : old.is_declared ≡ false) (more : Gathered Told) (same : more.items.items ≡ old.facts.items.items) where
    abbrev mid : ClientNode D
    mid = record old { facts = more }

    pub late_node : IsClient state mid (at disk agenda)
    late_node =
        let rests = rests_undeclared old disk agenda t not_yet in
        let q = rests.2 in
        subst (λ (a : Option (List ClientTask)). IsClient state mid (at disk a)) (sym rests.0)
        (record { at = (rests.1, record { up = q.up; fresh = q.fresh; idle = q.idle; synced = q.synced; sound = q.sound; stands = q.stands; undeclared = q.undeclared; opens = q.opens; waiting = q.waiting; steady = q.steady; phaseless = q.phaseless }) })

    pub late_short : Starts state images (at disk agenda) old mid (Err call.Memory)
    late_short = record {
      started = tt;
      refused = record { client = late_node; told = ap (map fact_of) same; sent = refl; same = record { number = refl; linked = refl } };
      counted = λ _. refl;
      cause = λ is. absurd cc;
      only = inr refl;
      any_moment = λ is. absurd cc;
      plans = λ n below. below;
    }

    pub late_failed : (new : ClientNode D) (e : CallFault) → Declares state (at disk agenda) mid new (Err e) → Starts state images (at disk agenda) old new (Err e)
    late_failed new e k = record {
      started = tt;
      refused = record { client = k.refused.client; told = k.refused.told ∙ ap (map fact_of) same; sent = k.refused.sent; same = record { number = k.refused.same.number; linked = k.refused.same.linked } };
      counted = k.counted;
      cause = k.cause;
      only = k.only;
      any_moment = λ is. absurd cc;
      plans = λ n below. k.plans n;
    }

    module _ (made : ClientNode D) (k : Declares state (at disk agenda) mid made (Ok tt)) (kept : made.facts ≡ more) (quiet : made.owed.facts.items ≡ []) (put : Gathered Told) (list : List Told) (one : list ≡ told.ClientRecovered old.number ∷ []) (added : put.items.items ≡ made.facts.items.items ++ list) where
      abbrev new : ClientNode D
      new = record made { facts = put }

      put_client : IsClient state new (at disk (Some []))
      put_client =
          let c = k.declared.client in
          let w = c.at.1 in
          record {
            at = (
              c.at.0,
              record {
                declared = w.declared;
                up = w.up;
                fresh = w.fresh;
                ready = w.ready;
                follows = w.follows;
                rests = w.rests;
                steady = w.steady;
                tasks_steady = w.tasks_steady;
                owed = w.owed;
                fact_room = subst (λ (n : ℕ). HasRoom put n) (sym (ap length quiet)) (no_room put);
                message_room = w.message_room;
              },
            );
          }

      told_is : told_by new ≡ told_by old ++ facts.ClientRecovered old.number ∷ []
      told_is =
          let before : made.facts.items.items ≡ old.facts.items.items = ap (λ (g : Gathered Told). g.items.items) kept ∙ same in
          rw (added, before, one) (map-append fact_of old.facts.items.items (told.ClientRecovered old.number ∷ []))

      pub late_done : Starts state images (at disk agenda) old new (Ok tt)
      late_done =
          let rests = rests_undeclared old disk agenda t not_yet in
          let planless : disk.plan ≡ None = ap (λ (d : ClientDisk). d.plan) (rests.2.undeclared not_yet) in
          let b : IsBehind state old new (resumed old.number no_shape disk None) = record {
            client = put_client;
            told = told_is;
            sent = k.declared.sent ∙ sym (append-nil (sent_by old));
            same = record { number = k.declared.same.number; linked = k.declared.same.linked };
          } in
          record {
            started = subst (λ (a : Option (List ClientTask)). (shape : Shape) × IsBehind state old new (started old.number shape disk a) × (old.is_declared ≡ true → shape.torn ≡ torn_in state old)) (sym rests.0)
                (no_shape, subst (λ (o : Option Plan). IsBehind state old new (resumed old.number no_shape disk o)) (sym planless) b, λ is. absurd cc);
            refused = tt;
            counted = k.counted;
            cause = k.cause;
            only = tt;
            any_moment = λ is. absurd cc;
            plans = λ n below. k.plans n;
          }
