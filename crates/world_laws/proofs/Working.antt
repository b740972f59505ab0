-- A client that works on a plan of one row: at every moment the row is read as it was, or as the plan puts it, and all
-- other rows as they were.
use Rattle.std.proofs.Common.{◌≡◌, ◌⊎◌, ℕ, Bool, true, false, List, [], ◌∷◌, ◌++◌, Option, Some, None, refl, sym, ap, ◌∙◌, arith, inl, inr}
use Rattle.std.specs.Prelude.{◌==◌, ◌||◌, if◌then◌else◌}
use Rattle.std.proofs.lemmas.Bool.Decides.{nat_tests}
use Rattle.std.specs.Ordering.{nat_cmp}
use Rattle.std.specs.Map.{lookup}
use Rattle.std.specs.BTreeMap.{is_at}
use Rattle.stab_base.specs.declared.step.Step.{Step}
use Rattle.table_model.specs.History.{same_row}
use Rattle.step_tables.specs.Client.{row_cmp}
use Rattle.step_tables.specs.Facts.{ClientFact}
use Rattle.step_tables.specs.Messages.{Luck}
use Rattle.step_tables.specs.Messages as messages
use Rattle.step_tables.specs.ClientMoves as client
use Rattle.step_tables.specs.ClientMoves.{Slots, TableDisk, RowPut, Plan, ClientDisk, ClientTask, Client, ClientMove, ClientStep, Shape, no_shape, or_none, slots_at, slots_in, slots_of, table_at}
use Rattle.step_tables.specs.ClientMoves.{seen, planned_in, changed, row_put, put_row, with_table, keeps, planning, client_step}
use Rattle.step_tables.proofs.Lists.{lookup-insert_nat, lookup-insert_row}
use Rattle.world_tables.specs.World.{World, Moved, client_at, moved_client, move_there, move_client, and_then, first_luck, other_lucks, client_works}

-- ---- a client's move, where the client is there

pub moved_is : (w : World) (c : ℕ) (move : ClientMove) (shape : Shape) (node : Client) → client_at w c ≡ Some node
    → move_client c move shape w ≡ moved_client w c move (client_step c shape node move)
moved_is w c move shape node at = ap (λ (o : Option Client). move_there w c move shape o) at

itself : {X : Type 0} (n : ℕ) (x y : X) → (if n == n then x else y) ≡ x
itself n x y = grind (arith, nat_tests)

pub moved_at : (w : World) (c : ℕ) (move : ClientMove) (step : ClientStep) → client_at (moved_client w c move step).world c ≡ Some step.client
moved_at w c move step = lookup-insert_nat w.clients c step.client c ∙ itself c (Some step.client) (lookup (is_at (nat_cmp c)) w.clients)

-- ---- work on any tasks: what holds of the devices at every moment holds behind it

abbrev pub all_changed : ClientDisk → List ClientTask → ClientDisk
all_changed d [] = d
all_changed d (task ∷ more) = all_changed (changed d task.change) more

abbrev pub Always : (ClientDisk → Type 0) → ClientDisk → List ClientTask → Type 0
Always P d [] = P d
Always P d (task ∷ more) = P d × Always P (changed d task.change) more

pub record Ends (P : ClientDisk → Type 0) (c : ℕ) (last : ClientDisk) (m : Moved) : Type 0 where
  pub node : Client
  pub there : client_at m.world c ≡ Some node
  pub holds : P node.disk
  pub well : m.failed ≡ false → node ≡ record { disk = last; agenda = Some [] }

pub or_true : (a b : Bool) → a ≡ true → (a || b) ≡ false → ⊥
or_true true b is none = absurd cc
or_true false b is none = absurd cc

pub or_false : (a b : Bool) → (a || b) ≡ false → (a ≡ false) × (b ≡ false)
or_false true b none = absurd cc
or_false false b none = (refl, none)

now : (P : ClientDisk → Type 0) (d : ClientDisk) (tasks : List ClientTask) → Always P d tasks → P d
now P d [] a = a
now P d (task ∷ more) a = a.0

-- a client that is down stays so
abbrev IsDown : (ClientDisk → Type 0) → ℕ → Moved → Type 0
IsDown P c m = (node : Client) × (client_at m.world c ≡ Some node) × P node.disk

down_works : (P : ClientDisk → Type 0) (c : ℕ) (tasks : List ClientTask) (lucks : List Luck) (w : World) (d : ClientDisk) → client_at w c ≡ Some (record { disk = d; agenda = None }) → P d
    → IsDown P c (client_works c tasks lucks w)
down_works P c [] lucks w d at holds = (record { disk = d; agenda = None }, at, holds)
down_works P c (task ∷ tasks) lucks w d at holds =
    by_luck (λ (v : World) (there : client_at v c ≡ Some (record { disk = d; agenda = None })). down_works P c tasks (other_lucks lucks) v d there holds) (first_luck lucks)
  where
    node : Client
    node = record { disk = d; agenda = None }

    next : (luck : Luck) → World
    next luck = (move_client c (client.Work luck) no_shape w).world

    on : ((v : World) → client_at v c ≡ Some (record { disk = d; agenda = None }) → IsDown P c (client_works c tasks (other_lucks lucks) v)) → (luck : Luck)
        → (client_step c no_shape node (client.Work luck)).client ≡ node → IsDown P c (client_works c tasks (other_lucks lucks) (next luck))
    on rest luck same = rest (next luck) (ap (λ (m : Moved). client_at m.world c) (moved_is w c (client.Work luck) no_shape node at)
        ∙ (moved_at w c (client.Work luck) (client_step c no_shape node (client.Work luck)) ∙ ap Some same))

    by_luck : ((v : World) → client_at v c ≡ Some (record { disk = d; agenda = None }) → IsDown P c (client_works c tasks (other_lucks lucks) v)) → (luck : Luck)
        → IsDown P c (client_works c tasks (other_lucks lucks) (next luck))
    by_luck rest messages.Done = on rest messages.Done refl
    by_luck rest messages.FailedBefore = on rest messages.FailedBefore refl
    by_luck rest messages.FailedAfter = on rest messages.FailedAfter refl

pub works_end : (P : ClientDisk → Type 0) (c : ℕ) (tasks : List ClientTask) (lucks : List Luck) (w : World) (d : ClientDisk)
    → client_at w c ≡ Some (record { disk = d; agenda = Some tasks }) → Always P d tasks → Ends P c (all_changed d tasks) (client_works c tasks lucks w)
works_end P c [] lucks w d at always = record { node = record { disk = d; agenda = Some [] }; there = at; holds = always; well = λ none. refl }
works_end P c (task ∷ tasks) lucks w d at always =
    by_luck (λ (v : World) (there : client_at v c ≡ Some (record { disk = changed d task.change; agenda = Some tasks })).
    works_end P c tasks (other_lucks lucks) v (changed d task.change) there always.1) (first_luck lucks)
  where
    node : Client
    node = record { disk = d; agenda = Some (task ∷ tasks) }

    step : Luck → ClientStep
    step luck = client_step c no_shape node (client.Work luck)

    moved : Luck → Moved
    moved luck = move_client c (client.Work luck) no_shape w

    is : (luck : Luck) → moved luck ≡ moved_client w c (client.Work luck) (step luck)
    is luck = moved_is w c (client.Work luck) no_shape node at

    there : (luck : Luck) → client_at (moved luck).world c ≡ Some (step luck).client
    there luck = ap (λ (m : Moved). client_at m.world c) (is luck) ∙ moved_at w c (client.Work luck) (step luck)

    -- the write fails: the client is down, with its devices as they were before the write, or behind it
    failing : (luck : Luck) (e : ClientDisk) → (step luck).client ≡ record { disk = e; agenda = None } → (moved_client w c (client.Work luck) (step luck)).failed ≡ true → P e
        → Ends P c (all_changed d (task ∷ tasks)) (and_then (moved luck) (client_works c tasks (other_lucks lucks)))
    failing luck e fallen failed holds =
        let rest : IsDown P c (client_works c tasks (other_lucks lucks) (moved luck).world) =
        down_works P c tasks (other_lucks lucks) (moved luck).world e (there luck ∙ ap Some fallen) holds in
        record {
          node = rest.0;
          there = rest.1;
          holds = rest.2;
          well = λ none. absurd (or_true (moved luck).failed (client_works c tasks (other_lucks lucks) (moved luck).world).failed (ap (λ (m : Moved). m.failed) (is luck) ∙ failed) none);
        }

    by_luck : ((v : World) → client_at v c ≡ Some (record { disk = changed d task.change; agenda = Some tasks })
        → Ends P c (all_changed (changed d task.change) tasks) (client_works c tasks (other_lucks lucks) v)) → (luck : Luck)
        → Ends P c (all_changed d (task ∷ tasks)) (and_then (moved luck) (client_works c tasks (other_lucks lucks)))
    by_luck rest messages.FailedBefore = failing messages.FailedBefore d refl refl always.0
    by_luck rest messages.FailedAfter = failing messages.FailedAfter (changed d task.change) refl refl (now P (changed d task.change) tasks always.1)
    by_luck rest messages.Done =
        let e : Ends P c (all_changed (changed d task.change) tasks) (client_works c tasks (other_lucks lucks) (moved messages.Done).world) =
        rest (moved messages.Done).world (there messages.Done) in
        record {
          node = e.node;
          there = e.there;
          holds = e.holds;
          well = λ none. e.well (or_false (moved messages.Done).failed (client_works c tasks (other_lucks lucks) (moved messages.Done).world).failed none).1;
        }

-- ---- work on a plan of one row

module _ (table : ℕ) (row : List ℕ) (slots : Slots) (last : ℕ) (told : List ClientFact) (d : ClientDisk) (o : TableDisk) (at : table_at d table ≡ Some o) (free : d.plan ≡ None) where
  abbrev pub plan : Plan
  plan = record { last = last; table = table; row = Some (record { row = row; slots = slots }); position = None; alters = None; facts = told }

  abbrev pub put : RowPut
  put = record { row = row; slots = slots }

  -- the rows behind the plan
  abbrev pub behind : List ℕ → Slots
  behind other = if same_row row other then slots else slots_of d table other

  abbrev pub AsItWas : ClientDisk → Type 0
  AsItWas e = (other : List ℕ) → slots_of (seen e) table other ≡ slots_of d table other

  abbrev pub AsPut : ClientDisk → Type 0
  AsPut e = (other : List ℕ) → slots_of (seen e) table other ≡ behind other

  abbrev pub AsEither : ClientDisk → Type 0
  AsEither e = AsItWas e ⊎ AsPut e

  -- a row that is put is read so
  put_at : (e : ClientDisk) (x : TableDisk) → table_at e table ≡ Some x → (other : List ℕ)
      → slots_of (row_put e last table (Some put)) table other ≡ (if same_row row other then slots else slots_at x other)
  put_at e x is other =
      ap (λ (m : Option TableDisk). slots_of (with_table (record e { last = last }) table m (put_row put)) table other) is
      ∙ (ap (λ (m : Option TableDisk). slots_in m other) (lookup-insert_nat e.tables table (put_row put x) table ∙ itself table (Some (put_row put x)) (table_at e table))
      ∙ (ap or_none (lookup-insert_row x.rows row slots other) ∙ chosen (same_row row other)))
    where
      chosen : (b : Bool) → or_none (if b then Some slots else lookup (is_at (row_cmp other)) x.rows) ≡ (if b then slots else slots_at x other)
      chosen true = refl
      chosen false = refl

  was_at : (other : List ℕ) → slots_at o other ≡ slots_of d table other
  was_at other = ap (λ (m : Option TableDisk). slots_in m other) (sym at)

  put_over : (e : ClientDisk) → table_at e table ≡ Some o → (other : List ℕ) → slots_of (row_put e last table (Some put)) table other ≡ behind other
  put_over e is other = put_at e o is other ∙ ap (λ (s : Slots). if same_row row other then slots else s) (was_at other)

  -- and so is one that is put twice
  there_again : (e : ClientDisk) → table_at e table ≡ Some o → table_at (row_put e last table (Some put)) table ≡ Some (put_row put o)
  there_again e is =
      ap (λ (m : Option TableDisk). table_at (with_table (record e { last = last }) table m (put_row put)) table) is
      ∙ (lookup-insert_nat e.tables table (put_row put o) table ∙ itself table (Some (put_row put o)) (table_at e table))

  put_twice : (e : ClientDisk) → table_at e table ≡ Some o → (other : List ℕ) → slots_of (row_put (row_put e last table (Some put)) last table (Some put)) table other ≡ behind other
  put_twice e is other =
      put_at (row_put e last table (Some put)) (put_row put o) (there_again e is) other
      ∙ (ap (λ (s : Slots). if same_row row other then slots else s)
      (sym (ap (λ (m : Option TableDisk). slots_in m other) (there_again e is)) ∙ put_over e is other) ∙ twice (same_row row other))
    where
      twice : (b : Bool) → (if b then slots else (if b then slots else slots_of d table other)) ≡ (if b then slots else slots_of d table other)
      twice true = refl
      twice false = refl

  -- ---- each device write

  abbrev committed : ClientDisk
  committed = record d { plan = Some plan }

  abbrev stored : ClientDisk
  stored = row_put committed last table (Some put)

  abbrev pub finished : ClientDisk
  finished = record stored { plan = None }

  as_it_was : AsItWas d
  as_it_was other = ap (λ (p : Option Plan). slots_of (planned_in d p) table other) free

  committed_as : AsPut committed
  committed_as other = put_over committed at other

  stored_plan : stored.plan ≡ Some plan
  stored_plan = ap (λ (m : Option TableDisk). (with_table (record committed { last = last }) table m (put_row put)).plan) at

  stored_as : AsPut stored
  stored_as other = ap (λ (p : Option Plan). slots_of (planned_in stored p) table other) stored_plan ∙ put_twice committed at other

  pub finished_as : (other : List ℕ) → slots_of finished table other ≡ behind other
  finished_as other = put_over committed at other

  keeps_always : (P : ClientDisk → Type 0) (steps : List Step) (e : ClientDisk) (more : List ClientTask) → P e → Always P e more → Always P e (keeps steps ++ more)
  keeps_always P [] e more holds always = always
  keeps_always P (step ∷ steps) e more holds always = (holds, keeps_always P steps e more holds always)

  keeps_change : (steps : List Step) (e : ClientDisk) (more : List ClientTask) → all_changed e (keeps steps ++ more) ≡ all_changed e more
  keeps_change [] e more = refl
  keeps_change (step ∷ steps) e more = keeps_change steps e more

  abbrev ends : Shape → List ClientTask
  ends shape = keeps shape.after ++ record { change = client.Finish; facts = []; sends = [] } ∷ []

  pub plan_always : (shape : Shape) → Always AsEither d (planning shape plan [])
  plan_always shape = keeps_always AsEither shape.before d _ (inl as_it_was)
      (inl as_it_was, (inr committed_as, keeps_always AsEither shape.after stored _ (inr stored_as) (inr stored_as, inr finished_as)))

  pub plan_ends : (shape : Shape) → all_changed d (planning shape plan []) ≡ finished
  plan_ends shape = keeps_change shape.before d _ ∙ keeps_change shape.after stored _
