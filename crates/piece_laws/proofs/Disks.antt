-- What a client's devices have of the Store, behind the writes of a plan.
use Rattle.std.proofs.Common.{true, ◌≡◌, ⊎_elim, ℕ, List, [], ◌∷◌, ◌++◌, Option, Some, None, refl, sym, ◌∙◌, ap, subst, append-nil}
use Rattle.stab_base.specs.declared.step.Step.{Step}
use Rattle.step_tables.specs.Slots.{InFlight}
use Rattle.step_tables.specs.Store.{Stored}
use Rattle.step_tables.specs.Chunks.{is_spelled}
use Rattle.step_tables.specs.Facts.{Fact}
use Rattle.step_tables.specs.Members.{Among}
use Rattle.step_tables.specs.Messages.{Request, Message, Send, SyncRequest, SyncResponse, PullRequest, PullResponse, TornRowRequest, TornRowResponse}
use Rattle.step_tables.specs.ClientMoves.{Slots, TableDisk, RowPut, Plan, ClientDisk, ClientTask, Client, Shape, Commit, PutTable, Finish, slots_in, slots_of, table_at, row_put, table_put, applied, planned_in, seen, changed, told}
use Rattle.step_tables.specs.ClientMoves.{TableChange, Opens, Closes, opened_table, close_table, altered, rows_applied, applied_by, put_of, put_tasks}
use Rattle.step_tables.specs.ClientMoves.{only, row_task, table_task, keeps, rest_of, planning, ending}
use Rattle.step_tables.proofs.Lists.{among_left, among_right, among_either}
use Rattle.client_laws.proofs.Disks.{TableAlike, Alike, alike_row, alike_table, alike_plan, alike_itself, row_put_plan, table_put_plan, altered_plan, altered_slots, alike_altered}
use Rattle.piece_laws.specs.Pieces.{request_in, KeepsKnown, IsOfOne, SlotsNamed}
use Rattle.piece_laws.proofs.Altered.{changed_in, altered_cases}
use Rattle.piece_laws.proofs.Tables.{Became}
use Rattle.piece_laws.proofs.Outs.{slots_later, slots_fewer, together_became, known_became, became_more}

-- ---- requests among messages

abbrev pub requests_in : List Send → List Request
requests_in [] = []
requests_in (send ∷ more) = request_in send.message ++ requests_in more

-- a table is opened with chunks of this size
abbrev pub HasSize : ℕ → TableChange → Type 0
HasSize n (Opens schema) = schema.chunk ≡ n
HasSize n Closes = Unit {0}

module _ (size : ℕ → ℕ) (c : ℕ) where
  -- ---- a client's devices: each row, and no number waits twice

  pub record AreNamed (h : ℕ → List Stored) (sent : List Request) (d : ClientDisk) : Type 0 where
    pub rows : (table : ℕ) (row : List ℕ) → SlotsNamed (size table) c (h table) sent table row (slots_of d table row)
    pub apart : (table : ℕ) (row : List ℕ) (o : InFlight) (other : ℕ) (place : List ℕ) (p : InFlight) → (slots_of d table row).out ≡ Some o
        → (slots_of d other place).out ≡ Some p → o.number ≡ p.number → (table ≡ other) × (row ≡ place)
    pub sized : (table : ℕ) (opened : TableDisk) → table_at d table ≡ Some opened → opened.schema.chunk ≡ size table

  slots_alike : (a b : Option TableDisk) (row : List ℕ) → TableAlike a b → slots_in b row ≡ slots_in a row
  slots_alike None None row k = refl
  slots_alike (Some a) (Some b) row k = k.slots row
  slots_alike None (Some b) row k = absurd k
  slots_alike (Some a) None row k = absurd k

  sized_alike : (n : ℕ) (a b : Option TableDisk) → TableAlike a b → ((o : TableDisk) → a ≡ Some o → o.schema.chunk ≡ n) → (o : TableDisk) → b ≡ Some o → o.schema.chunk ≡ n
  sized_alike n None None k f o is = absurd cc
  sized_alike n (Some a) (Some b) k f o is = let same : b ≡ o = cc in ap (λ (x : TableDisk). x.schema.chunk) (sym same) ∙ (ap (λ s. s.chunk) k.schema ∙ f a refl)
  sized_alike n None (Some b) k f o is = absurd k
  sized_alike n (Some a) None k f o is = absurd k

  named_slots : (h : ℕ → List Stored) (sent : List Request) (d e : ClientDisk) → ((table : ℕ) (row : List ℕ) → slots_of e table row ≡ slots_of d table row)
      → ((table : ℕ) (opened : TableDisk) → table_at e table ≡ Some opened → opened.schema.chunk ≡ size table) → AreNamed h sent d → AreNamed h sent e
  named_slots h sent d e same sizes k = record {
    rows = λ table row. subst (λ (s : Slots). SlotsNamed (size table) c (h table) sent table row s) (sym (same table row)) (k.rows table row);
    apart = λ table row o other place p x y n. k.apart table row o other place p (ap (λ (s : Slots). s.out) (sym (same table row)) ∙ x) (ap (λ (s : Slots). s.out) (sym (same other place)) ∙ y) n;
    sized = sizes;
  }

  pub named_alike : (h : ℕ → List Stored) (sent : List Request) (d e : ClientDisk) → Alike d e → AreNamed h sent d → AreNamed h sent e
  named_alike h sent d e a k = named_slots h sent d e (λ table row. slots_alike (table_at d table) (table_at e table) row (a.tables table))
      (λ table opened at. sized_alike (size table) (table_at d table) (table_at e table) (a.tables table) (k.sized table) opened at) k

  -- a table that is opened has no rows, and one that is closed keeps them
  sized_behind : (n : ℕ) (change : TableChange) → HasSize n change → (m : Option TableDisk) → ((o : TableDisk) → m ≡ Some o → o.schema.chunk ≡ n)
      → (o : TableDisk) → changed_in change m ≡ Some o → o.schema.chunk ≡ n
  sized_behind n (Opens schema) has None all o is = let same : opened_table schema ≡ o = cc in ap (λ (x : TableDisk). x.schema.chunk) (sym same) ∙ has
  sized_behind n (Opens schema) has (Some table) all o is = all o is
  sized_behind n Closes has None all o is = absurd cc
  sized_behind n Closes has (Some table) all o is = let same : close_table table ≡ o = cc in ap (λ (x : TableDisk). x.schema.chunk) (sym same) ∙ all table refl

  pub altered_named : (h : ℕ → List Stored) (sent : List Request) (d : ClientDisk) (table : ℕ) (change : TableChange) → HasSize (size table) change → AreNamed h sent d
      → AreNamed h sent (altered d table change)
  altered_named h sent d table change has k = named_slots h sent d (altered d table change) (altered_slots d table change)
      (λ q opened at. ⊎_elim
      (λ e. subst (λ (n : ℕ). opened.schema.chunk ≡ size n) (sym e.0) (sized_behind (size table) change has (table_at d table) (k.sized table) opened (sym e.1 ∙ at)))
      (λ e. k.sized q opened (sym e.1 ∙ at)) (altered_cases d table change q)) k

  pub named_later : (h later : ℕ → List Stored) (sent : List Request) (d : ClientDisk) → ((table : ℕ) → Became (size table) sent table (h table) (later table)) → AreNamed h sent d → AreNamed later sent d
  named_later h later sent d b k = record {
    rows = λ table row. slots_later (size table) c sent table (h table) (later table) row (slots_of d table row) (b table) (k.rows table row);
    apart = k.apart;
    sized = k.sized;
  }

  pub named_fewer : (h : ℕ → List Stored) (sent fewer : List Request) (d : ClientDisk) → ((q : Request) → Among fewer q → q.client ≡ c → Among sent q) → AreNamed h sent d → AreNamed h fewer d
  named_fewer h sent fewer d sub k = record {
    rows = λ table row. slots_fewer (size table) c (h table) sent fewer table row (slots_of d table row) sub (k.rows table row);
    apart = k.apart;
    sized = k.sized;
  }

  -- ---- what is sent

  -- a request of the client that goes with those of its write before
  pub record IsSent (h : ℕ → List Stored) (sent : List Request) (q : Request) : Type 0 where
    pub client_is : q.client ≡ c
    pub spells : is_spelled (size q.table) q.content q.pieces ≡ true
    pub keeps : KeepsKnown (size q.table) (h q.table) q.row q.content q.pieces
    pub pairs : (p : Request) → Among sent p → p.client ≡ c → p.number ≡ q.number → IsOfOne size h p q

  abbrev pub SendsOne : (ℕ → List Stored) → List Request → Message → Type 0
  SendsOne h sent (SyncRequest q) = IsSent h sent q
  SendsOne h sent (PullRequest pull) = Unit {0}
  SendsOne h sent (SyncResponse r) = ⊥
  SendsOne h sent (PullResponse pulled) = ⊥
  SendsOne h sent (TornRowRequest torn) = Unit {0}
  SendsOne h sent (TornRowResponse answer) = ⊥

  abbrev pub SendsAll : (ℕ → List Stored) → List Request → List Send → Type 0
  SendsAll h sent [] = Unit {0}
  SendsAll h sent (send ∷ more) = SendsOne h sent send.message × SendsAll h (sent ++ request_in send.message) more

  -- ---- an agenda: the devices are named at every moment

  abbrev pub Runs : (ℕ → List Stored) → List Request → ClientDisk → List ClientTask → Type 0
  Runs h sent d [] = AreNamed h sent (seen d) × (d.plan ≡ None)
  Runs h sent d (task ∷ more) = AreNamed h sent (seen d) × SendsAll h sent task.sends × Runs h (sent ++ requests_in task.sends) (changed d task.change) more

  abbrev pub IsNamedAt : (ℕ → List Stored) → List Request → ClientDisk → Option (List ClientTask) → Type 0
  IsNamedAt h sent d None = AreNamed h sent (seen d)
  IsNamedAt h sent d (Some agenda) = Runs h sent d agenda

  abbrev pub IsNamedClient : (ℕ → List Stored) → List Request → Client → Type 0
  IsNamedClient h sent s = IsNamedAt h sent s.disk s.agenda

  pub now_named : (h : ℕ → List Stored) (sent : List Request) (d : ClientDisk) (agenda : List ClientTask) → Runs h sent d agenda → AreNamed h sent (seen d)
  now_named h sent d [] k = k.0
  now_named h sent d (task ∷ more) k = k.0

  pub of_one_later : (h later : ℕ → List Stored) (sent : List Request) (p q : Request) → ((table : ℕ) → Became (size table) sent table (h table) (later table)) → IsOfOne size h p q → IsOfOne size later p q
  of_one_later h later sent p q b k = record { table_is = k.table_is; row_is = k.row_is; together = together_became (size q.table) sent q.table (h q.table) (later q.table) q.row p.pieces q.pieces (b q.table) k.together }

  sends_later : (h later : ℕ → List Stored) (all sent : List Request) (sends : List Send) → ((table : ℕ) → Became (size table) all table (h table) (later table)) → SendsAll h sent sends → SendsAll later sent sends
  sends_later h later all sent [] b k = tt
  sends_later h later all sent (send ∷ more) b k = (one send.message k.0, sends_later h later all (sent ++ request_in send.message) more b k.1)
    where
      one : (m : Message) → SendsOne h sent m → SendsOne later sent m
      one (SyncRequest q) x = record {
        client_is = x.client_is;
        spells = x.spells;
        keeps = known_became (size q.table) all q.table (h q.table) (later q.table) q.row q.content q.pieces (b q.table) x.keeps;
        pairs = λ p a e n. of_one_later h later all p q b (x.pairs p a e n);
      }
      one (PullRequest pull) x = x
      one (SyncResponse r) x = x
      one (PullResponse pulled) x = x
      one (TornRowRequest torn) x = x
      one (TornRowResponse answer) x = x

  pub runs_later : (h later : ℕ → List Stored) (sent : List Request) (d : ClientDisk) (tasks : List ClientTask) → ((table : ℕ) → Became (size table) sent table (h table) (later table))
      → Runs h sent d tasks → Runs later sent d tasks
  runs_later h later sent d [] b k = (named_later h later sent (seen d) b k.0, k.1)
  runs_later h later sent d (task ∷ tasks) b k = (
    named_later h later sent (seen d) b k.0,
    sends_later h later sent sent task.sends b k.1,
    runs_later h later (sent ++ requests_in task.sends) (changed d task.change) tasks
        (λ table. became_more (size table) sent (requests_in task.sends) table (h table) (later table) (b table)) k.2,
  )

  pub client_later : (h later : ℕ → List Stored) (sent : List Request) (s : Client) → ((table : ℕ) → Became (size table) sent table (h table) (later table))
      → IsNamedClient h sent s → IsNamedClient later sent s
  client_later h later sent s b k = go s.agenda k
    where
      go : (agenda : Option (List ClientTask)) → IsNamedAt h sent s.disk agenda → IsNamedAt later sent s.disk agenda
      go None x = named_later h later sent (seen s.disk) b x
      go (Some tasks) x = runs_later h later sent s.disk tasks b x

  -- ---- requests of others

  abbrev Within : List Request → List Request → Type 0
  Within fewer sent = (q : Request) → Among fewer q → q.client ≡ c → Among sent q

  within_more : (fewer sent more : List Request) → Within fewer sent → Within (fewer ++ more) (sent ++ more)
  within_more fewer sent more sub q a e = ⊎_elim (λ x. among_left sent more q (sub q x e)) (λ x. among_right sent more q x) (among_either fewer more q a)

  sends_fewer : (h : ℕ → List Stored) (sent fewer : List Request) (sends : List Send) → Within fewer sent → SendsAll h sent sends → SendsAll h fewer sends
  sends_fewer h sent fewer [] sub k = tt
  sends_fewer h sent fewer (send ∷ more) sub k =
      (one send.message k.0, sends_fewer h (sent ++ request_in send.message) (fewer ++ request_in send.message) more (within_more fewer sent (request_in send.message) sub) k.1)
    where
      one : (m : Message) → SendsOne h sent m → SendsOne h fewer m
      one (SyncRequest q) x = record { client_is = x.client_is; spells = x.spells; keeps = x.keeps; pairs = λ p a e n. x.pairs p (sub p a e) e n }
      one (PullRequest pull) x = x
      one (SyncResponse r) x = x
      one (PullResponse pulled) x = x
      one (TornRowRequest torn) x = x
      one (TornRowResponse answer) x = x

  pub runs_fewer : (h : ℕ → List Stored) (sent fewer : List Request) (d : ClientDisk) (tasks : List ClientTask) → Within fewer sent → Runs h sent d tasks → Runs h fewer d tasks
  runs_fewer h sent fewer d [] sub k = (named_fewer h sent fewer (seen d) sub k.0, k.1)
  runs_fewer h sent fewer d (task ∷ tasks) sub k = (
    named_fewer h sent fewer (seen d) sub k.0,
    sends_fewer h sent fewer task.sends sub k.1,
    runs_fewer h (sent ++ requests_in task.sends) (fewer ++ requests_in task.sends) (changed d task.change) tasks (within_more fewer sent (requests_in task.sends) sub) k.2,
  )

  pub client_fewer : (h : ℕ → List Stored) (sent fewer : List Request) (s : Client) → Within fewer sent → IsNamedClient h sent s → IsNamedClient h fewer s
  client_fewer h sent fewer s sub k = go s.agenda k
    where
      go : (agenda : Option (List ClientTask)) → IsNamedAt h sent s.disk agenda → IsNamedAt h fewer s.disk agenda
      go None x = named_fewer h sent fewer (seen s.disk) sub x
      go (Some tasks) x = runs_fewer h sent fewer s.disk tasks sub x

  -- ---- the writes of a plan

  module _ (h : ℕ → List Stored) where
    unsent : (sent : List Request) (d : ClientDisk) (tasks : List ClientTask) → Runs h sent d tasks → Runs h (sent ++ []) d tasks
    unsent sent d tasks k = subst (λ (s : List Request). Runs h s d tasks) (sym (append-nil sent)) k

    pub keeps_runs : (steps : List Step) (sent : List Request) (d : ClientDisk) (tasks : List ClientTask) → Runs h sent d tasks → Runs h sent d (keeps steps ++ tasks)
    keeps_runs [] sent d tasks k = k
    keeps_runs (step ∷ steps) sent d tasks k =
        let more : Runs h sent d (keeps steps ++ tasks) = keeps_runs steps sent d tasks k in
        (now_named h sent d (keeps steps ++ tasks) more, tt, unsent sent d (keeps steps ++ tasks) more)

    pub ending_runs : (some : List Fact) (sent : List Request) (d : ClientDisk) (tasks : List ClientTask) → Runs h sent d tasks → Runs h sent d (ending some tasks)
    ending_runs some sent d [] k = k
    ending_runs some sent d (task ∷ []) k = k
    ending_runs some sent d (task ∷ next ∷ more) k = (k.0, k.1, ending_runs some (sent ++ requests_in task.sends) (changed d task.change) (next ∷ more) k.2)

    module _ (shape : Shape) (sent : List Request) (d : ClientDisk) (p : Plan) (sends : List Send) (is : d.plan ≡ Some p) (named : AreNamed h sent (applied p d)) (known : SendsAll h sent sends)
        (after : AreNamed h (sent ++ requests_in sends) (applied p d)) where
      abbrev last : List ClientTask
      last = keeps shape.after ++ record { change = Finish; facts = []; sends = sends } ∷ []

      abbrev all : List Request
      all = sent ++ requests_in sends

      seen_named : (e : ClientDisk) → e.plan ≡ Some p → AreNamed h sent (applied p e) → AreNamed h sent (seen e)
      seen_named e plan_is x = subst (λ (o : Option Plan). AreNamed h sent (planned_in e o)) (sym plan_is) x

      -- where the puts are done
      last_runs : (e : ClientDisk) → e.plan ≡ Some p → AreNamed h sent (applied p e) → AreNamed h all (record e { plan = None }) → Runs h sent e last
      last_runs e at now then_ = keeps_runs shape.after sent e (record { change = Finish; facts = []; sends = sends } ∷ []) (seen_named e at now, known, (then_, refl))

      -- of a row and a position
      module _ (rows : p.alters ≡ None) where
        of_rows : (some : List Request) (e : ClientDisk) → AreNamed h some (applied p e) → AreNamed h some (rows_applied p e)
        of_rows some e k = subst (λ (o : Option TableChange). AreNamed h some (applied_by p e o)) rows k

        rows_of : (some : List Request) (e : ClientDisk) → AreNamed h some (rows_applied p e) → AreNamed h some (applied p e)
        rows_of some e k = subst (λ (o : Option TableChange). AreNamed h some (applied_by p e o)) (sym rows) k

        abbrev put : ClientDisk
        put = row_put d p.last p.table p.row

        abbrev whole : ClientDisk
        whole = rows_applied p d

        put_plan : put.plan ≡ Some p
        put_plan = row_put_plan d p.last p.table p.row ∙ is

        put_named : AreNamed h sent (rows_applied p put)
        put_named = named_alike h sent whole (rows_applied p put) (alike_row p d) (of_rows sent d named)

        whole_runs : Runs h sent whole last
        whole_runs = last_runs whole (table_put_plan put p.table p.position ∙ put_plan)
            (rows_of sent whole (named_alike h sent (rows_applied p put) (rows_applied p whole) (alike_table p put) put_named))
            (named_alike h all whole (record whole { plan = None }) (alike_itself whole None) (of_rows all d after))

        table_runs : (position : Option ℕ) → p.position ≡ position → Runs h sent put (table_task p position ++ last)
        table_runs None at = subst (λ (n : Option ℕ). Runs h sent (table_put put p.table n) last) at whole_runs
        table_runs (Some n) at = (
          seen_named put put_plan (rows_of sent put put_named),
          tt,
          unsent sent (changed put (PutTable p)) last (subst (λ (o : Option TableChange). Runs h sent (put_of put p o) last) (sym rows) whole_runs),
        )

        row_runs : (row : Option RowPut) → p.row ≡ row → Runs h sent d (row_task p row ++ (table_task p p.position ++ last))
        row_runs None at = subst (λ (x : Option RowPut). Runs h sent (row_put d p.last p.table x) (table_task p p.position ++ last)) at (table_runs p.position refl)
        row_runs (Some x) at = (seen_named d is named, tt, unsent sent put (table_task p p.position ++ last) (table_runs p.position refl))

      -- of a table that is opened or closed
      module _ (change : TableChange) (alters : p.alters ≡ Some change) where
        abbrev new : ClientDisk
        new = altered d p.table change

        of_change : (some : List Request) → AreNamed h some (applied p d) → AreNamed h some new
        of_change some k = subst (λ (o : Option TableChange). AreNamed h some (applied_by p d o)) alters k

        new_runs : Runs h sent new last
        new_runs = last_runs new (altered_plan d p.table change ∙ is)
            (subst (λ (o : Option TableChange). AreNamed h sent (applied_by p new o)) (sym alters)
            (named_alike h sent new (altered new p.table change) (alike_altered d p.table change) (of_change sent named)))
            (named_alike h all new (record new { plan = None }) (alike_itself new None) (of_change all after))

        change_runs : Runs h sent d (only (PutTable p) ∷ last)
        change_runs = (
          seen_named d is named,
          tt,
          unsent sent (changed d (PutTable p)) last (subst (λ (o : Option TableChange). Runs h sent (put_of d p o) last) (sym alters) new_runs),
        )

      pub rest_runs : Runs h sent d (rest_of shape p sends)
      rest_runs = go p.alters refl
        where
          go : (o : Option TableChange) → p.alters ≡ o → Runs h sent d (put_tasks p o last)
          go None rows = row_runs rows p.row refl
          go (Some change) alters = change_runs change alters

    -- from an idle client on
    pub plan_runs : (shape : Shape) (sent : List Request) (d : ClientDisk) (p : Plan) (sends : List Send) → AreNamed h sent (seen d) → AreNamed h sent (applied p d) → SendsAll h sent sends
        → AreNamed h (sent ++ requests_in sends) (applied p d) → Runs h sent d (planning shape p sends)
    plan_runs shape sent d p sends now named known after =
        let e : ClientDisk = record d { plan = Some p } in
        keeps_runs shape.before sent d (record { change = Commit p; facts = told p; sends = [] } ∷ rest_of shape p sends) (
          now,
          tt,
          unsent sent e (rest_of shape p sends)
              (rest_runs shape sent e p sends refl (named_alike h sent (applied p d) (applied p e) (alike_plan p d (Some p)) named) known
              (named_alike h (sent ++ requests_in sends) (applied p d) (applied p e) (alike_plan p d (Some p)) after)),
        )
