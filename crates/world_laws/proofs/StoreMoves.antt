-- What a table tells and sends keeps the world.
use Rattle.std.proofs.Common.{◌≡◌, ◌≢◌, ℕ, Bool, false, List, [], ◌∷◌, Option, Some, None, sym, ap, ◌∙◌, subst, ⊎_elim}
use Rattle.stab_base.specs.declared.node.Node.{Node}
use Rattle.stab_base.specs.declared.node.Node.TheVariants as nodes
use Rattle.row_value.specs.declared.schema.Schema.{Schema}
use Rattle.row_value.specs.declared.schema.Scheme.{Scheme}
use Rattle.row_value.specs.declared.schema.Scheme.TheVariants.{Strong}
use Rattle.table_model.specs.declared.entry.Entry.{Entry}
use Rattle.table_model.specs.declared.line.Write.{Write}
use Rattle.step_tables.specs.Store.{Stored, entries_of}
use Rattle.step_tables.specs.Facts.{Fact}
use Rattle.step_tables.specs.Members.{Among}
use Rattle.step_tables.specs.Messages.{Request, Response, Pulled, Header, Outcome, Message, Send, SyncRequest, SyncResponse, PullRequest, PullResponse, TornRowRequest, TornRowResponse}
use Rattle.step_tables.specs.Messages as messages
use Rattle.step_tables.specs.Sayings.{Saying, SaysNothing, SaysEntry, SaysBack, saying, Heard, Said, hear, hear_all, entered, write_of}
use Rattle.step_tables.specs.StoreMoves.{StoreStep}
use Rattle.step_tables.specs.Items.{IsItemOf, IsItemAt}
use Rattle.step_tables.proofs.Lists.{among_either, among_none, among_cons}
use Rattle.step_tables.proofs.Maps.{put_here}
use Rattle.store_laws.specs.Part.{Known, Tells, TellsAll, Answers, IsAnswer, IsLate, StorePart, StoreLaw, IsWayTo, IsWayBy}
use Rattle.store_laws.specs.Part as store
use Rattle.client_laws.specs.Part.{Items, Sending, IsRefused}
use Rattle.client_laws.specs.Part as part
use Rattle.world_tables.specs.Again.{may_repeat}
use Rattle.world_tables.specs.World.{World, Packet, Hosted, Outbox, hosted_at, schema_at, owner_of, after_table, packets_from, address, goes_on, history_on}
use Rattle.world_laws.proofs.Kept.{KnownIn, IsFairMessage, IsFairPacket, nothing_there, Kept, MoveSound}
use Rattle.world_laws.proofs.Lines.{out_hear, out_said}
use Rattle.world_laws.proofs.Changes.{stands}
use Rattle.world_laws.proofs.Looks.{look_cases}
use Rattle.world_laws.proofs.TableMoves.{ClientGrows, LapsedGrows, Inv, Result, all}

module _ (client_grows : ClientGrows) (lapsed_grows : LapsedGrows) (g : ℕ → Scheme) where
  -- the history that the world keeps is the one told
  one_history : (s : Said) (table : ℕ) (old : List Entry) (K : Known) (h : List Stored) (again : Bool) (x : Saying) (later : List Stored) → old ≡ s.history table
      → Tells (g table) table K h again x later → goes_on old x ≡ (hear s x).history table
  one_history s table old K h again SaysNothing later e f = e
  one_history s table old K h again (SaysBack number v) later e f = e
  one_history s table old K h again (SaysEntry number entry) later e f = rw f.0 (ap (λ (es : List Entry). entered es entry) e ∙ sym (put_here s.history table (entered (s.history table) entry)))
  one_history s table old K h again other later e f = absurd f

  told_history : (s : Said) (table : ℕ) (old : List Entry) (K : Known) (h : List Stored) (some : List Fact) (later : List Stored) → old ≡ s.history table
      → TellsAll (g table) table K h some later → history_on old some ≡ (hear_all s some).history table
  told_history s table old K h [] later e f = e
  told_history s table old K h (fact ∷ more) later e f =
      told_history (hear s (saying fact)) table (goes_on old (saying fact)) K f.0 more later (one_history s table old K h (may_repeat fact) (saying fact) f.0 e f.1) f.2

  module _ (w : World) (s : Said) (k : Kept g w s) (table : ℕ) (hosted : Hosted)
      (there : (old : Hosted) × (hosted_at w table ≡ Some old) × (hosted.history ≡ old.history)) (step : StoreStep) (unmade : hosted.made ≡ false → step.store ≡ nothing_there step.store.disk.state)
      (law : StoreLaw (g table) table (KnownIn s.heard k.sent table) (k.items table) step) where
    inv : Inv client_grows lapsed_grows g w k.sent s k.items
    inv = record { told = k.told; history = k.history; lawful = k.lawful; tables = k.tables; clients = k.clients; packets = k.packets }

    result : Result client_grows lapsed_grows g w k.sent s k.items table step.facts law.later
    result = all client_grows lapsed_grows g w k.sent s k.items inv table step.facts law.later law.facts

    -- s' and its items are variables, so that what they are equal to is found
    module _ (s' : Said) (items : Items) (here : items table ≡ law.later) (elsewhere : (q : ℕ) → q ≢ table → items q ≡ k.items q) (heard : s'.heard ≡ s.heard)
        (at : Inv client_grows lapsed_grows g w k.sent s' items) (history : history_on hosted.history step.facts ≡ s'.history table) where
      part_here : StorePart (g table) table (KnownIn s'.heard k.sent table) (items table) step.store
      part_here = subst (λ (xs : List Stored). StorePart (g table) table (KnownIn s'.heard k.sent table) xs step.store) (sym here)
          (subst (λ (m : ℕ → Heard). StorePart (g table) table (KnownIn m k.sent table) law.later step.store) (sym heard) law.part)

      stores : (q : ℕ) (x : Hosted) → hosted_at (after_table w table hosted step).world q ≡ Some x
          → StorePart (g q) q (KnownIn s'.heard k.sent q) (items q) x.store × (x.history ≡ s'.history q)
      stores q x is = ⊎_elim
          (λ e.
          let new : Hosted = record { store = step.store; history = history_on hosted.history step.facts; made = hosted.made } in
          let both : Some new ≡ Some x = sym e.1 ∙ is in
          let same : new ≡ x = cc in
          subst (λ (y : Hosted). StorePart (g q) q (KnownIn s'.heard k.sent q) (items q) y.store × (y.history ≡ s'.history q)) same
          (subst (λ (z : ℕ). StorePart (g z) z (KnownIn s'.heard k.sent z) (items z) step.store × (history_on hosted.history step.facts ≡ s'.history z)) (sym e.0) (part_here, history)))
          (λ e.
          let f = k.stores q x (sym e.1 ∙ is) in (
            subst (λ (xs : List Stored). StorePart (g q) q (KnownIn s'.heard k.sent q) xs x.store) (sym (elsewhere q e.0))
                (subst (λ (m : ℕ → Heard). StorePart (g q) q (KnownIn m k.sent q) (k.items q) x.store) (sym heard) f.0),
            f.1 ∙ (k.history q ∙ (ap entries_of (sym (elsewhere q e.0)) ∙ sym (at.history q))),
          ))
          (look_cases w.tables table (record { store = step.store; history = history_on hosted.history step.facts; made = hosted.made }) q)

      declared : (q : ℕ) (x : Hosted) → hosted_at (after_table w table hosted step).world q ≡ Some x → (schema : Schema) × (schema_at w q ≡ Some schema)
      declared q x is = ⊎_elim (λ e. k.declared q there.0 (ap (hosted_at w) e.0 ∙ there.1)) (λ e. k.declared q x (sym e.1 ∙ is))
          (look_cases w.tables table (record { store = step.store; history = history_on hosted.history step.facts; made = hosted.made }) q)

      still_unmade : (q : ℕ) (x : Hosted) → hosted_at (after_table w table hosted step).world q ≡ Some x → x.made ≡ false → x.store ≡ nothing_there x.store.disk.state
      still_unmade q x is = ⊎_elim
          (λ e.
          let new : Hosted = record { store = step.store; history = history_on hosted.history step.facts; made = hosted.made } in
          let both : Some new ≡ Some x = sym e.1 ∙ is in
          let same : new ≡ x = cc in
          subst (λ (y : Hosted). y.made ≡ false → y.store ≡ nothing_there y.store.disk.state) same unmade)
          (λ e. k.unmade q x (sym e.1 ∙ is))
          (look_cases w.tables table (record { store = step.store; history = history_on hosted.history step.facts; made = hosted.made }) q)

      no_store : (q : ℕ) → hosted_at (after_table w table hosted step).world q ≡ None → items q ≡ []
      no_store q none = ⊎_elim
          (λ e. absurd (let both : Some (record { store = step.store; history = history_on hosted.history step.facts; made = hosted.made }) ≡ None = sym e.1 ∙ none in cc))
          (λ e. elsewhere q e.0 ∙ k.no_store q (sym e.1 ∙ none))
          (look_cases w.tables table (record { store = step.store; history = history_on hosted.history step.facts; made = hosted.made }) q)

      -- ---- what is sent

      item_here : (c n q : ℕ) (row : List ℕ) (v : ℕ) → q ≡ table → (i : Stored) × IsItemOf law.later c n row v i → (i : Stored) × IsItemOf (items q) c n row v i
      item_here c n q row v same f = subst (λ (z : ℕ). (i : Stored) × IsItemOf (items z) c n row v i) (sym same)
          (subst (λ (xs : List Stored). (i : Stored) × IsItemOf xs c n row v i) (sym here) f)

      refused_here : (c n : ℕ) (row : List ℕ) (v : ℕ) → IsLate (KnownIn s.heard k.sent table) law.later c row n v → IsRefused c items (k.sent c) n table row v
      refused_here c n row v f = record {
        base = f.base;
        was_sent = f.known.5;
        below = f.below;
        item = f.item;
        stands = subst (λ (xs : List Stored). IsItemAt xs row v f.item) (sym here) f.is;
        none = λ q i a client number.
            let m = at.told.entries q i.entry (subst (λ (es : List Entry). Among es i.entry) (sym (at.history q)) (stands (items q) i a)) in
            let found : write_of n (s.heard c).writes ≡ Some m.0 =
            subst (λ (x : ℕ). write_of n (s.heard x).writes ≡ Some m.0) client (subst (λ (x : ℕ). write_of x (s.heard i.entry.client).writes ≡ Some m.0) number
            (subst (λ (y : ℕ → Heard). write_of i.entry.number (y i.entry.client).writes ≡ Some m.0) heard m.1.told)) in
            let both : Some m.0 ≡ Some f.known.0 = sym found ∙ f.known.1 in
            let same : m.0 ≡ f.known.0 = cc in
            let in_table : q ≡ table = sym m.1.table_is ∙ (ap (λ (y : Write). y.table) same ∙ f.known.2) in
            let in_row : i.entry.row ≡ row = sym m.1.row_is ∙ (ap (λ (y : Write). y.row) same ∙ f.known.3) in
            let a_here : Among law.later i = subst (λ (xs : List Stored). Among xs i) here (subst (λ (z : ℕ). Among (items z) i) in_table a) in
            f.none i a_here client in_row number;
      }

      outcome_here : (r : Response) (o : Outcome) → r.table ≡ table → store.IsOutcome (g table) (KnownIn s.heard k.sent table) law.later r o → part.IsOutcome g r.client items (k.sent r.client) r o
      outcome_here r (messages.Accepted v) same f = item_here r.client r.number r.table r.row v same f
      outcome_here r (messages.Again v) same f = item_here r.client r.number r.table r.row v same f
      outcome_here r (messages.Late v) same f = tt
      outcome_here r (messages.Conflict v) same f = tt
      outcome_here r messages.NeedWhole same f = tt
      outcome_here r (messages.Stale v) same f =
          subst (λ (z : ℕ). (g z ≡ Strong) × IsRefused r.client items (k.sent r.client) r.number z r.row v) (sym same) (f.0, refused_here r.client r.number r.row v f.1)

      header_here : (q : Pulled) (o : Option Header) → q.table ≡ table → store.IsHeader law.later q o → part.IsHeader q.client items q o
      header_here q None same f = tt
      header_here q (Some hd) same f = subst (λ (xs : List Stored). store.IsHeader xs q (Some hd)) (sym here ∙ ap items (sym same)) f

      torn_here : (c q : ℕ) (o : Option Header) → q ≡ table → store.IsTornHeader c law.later o → part.IsTornHeader c (items q) o
      torn_here c q None same f = tt
      torn_here c q (Some hd) same f = subst (λ (xs : List Stored). store.IsTornHeader c xs (Some hd)) (sym here ∙ ap items (sym same)) f

      way_here : (c : ℕ) (to : Option Node) (m : Message) → IsWayBy c to → IsWayTo c (address (owner_of w) to m)
      way_here c None m f = absurd f
      way_here c (Some node) m f = f

      answers_here : (sends : List Send) → Answers (g table) table (KnownIn s.heard k.sent table) law.later sends
          → (p : Packet) → Among (packets_from (owner_of w) (nodes.Store (owner_of w table)) sends) p → IsFairPacket g s'.heard items k.sent p
      answers_here [] f p a = absurd (among_none p a)
      answers_here (send ∷ more) f p a = ⊎_elim (λ e. subst (λ (x : Packet). IsFairPacket g s'.heard items k.sent x) e (first send.message f.0)) (λ b. answers_here more f.1 p b)
          (among_cons (record { from = nodes.Store (owner_of w table); to = address (owner_of w) send.to send.message; message = send.message })
          (packets_from (owner_of w) (nodes.Store (owner_of w table)) more) p a)
        where
          first : (m : Message) → IsAnswer (g table) table (KnownIn s.heard k.sent table) law.later send.to m
              → IsFairMessage g s'.heard items k.sent (nodes.Store (owner_of w table)) (address (owner_of w) send.to m) m
          first (SyncRequest q) x = absurd x
          first (PullRequest q) x = absurd x
          first (SyncResponse r) x = (way_here r.client send.to (SyncResponse r) x.1, outcome_here r r.outcome x.0 x.2)
          first (PullResponse q) x = (way_here q.client send.to (PullResponse q) x.1, header_here q q.header x.0 x.2)
          first (TornRowRequest q) x = absurd x
          first (TornRowResponse q) x = (way_here q.client send.to (TornRowResponse q) x.1, torn_here q.client q.table q.header x.0 x.2)

      table_kept : Kept g (after_table w table hosted step).world s'
      table_kept = record {
        items = items;
        sent = k.sent;
        told = at.told;
        history = at.history;
        lawful = at.lawful;
        schemes = k.schemes;
        declared = declared;
        tables = at.tables;
        stores = stores;
        unmade = still_unmade;
        no_store = no_store;
        clients = at.clients;
        no_client = λ c none. let f = k.no_client c none in (ap (λ (m : ℕ → Heard). m c) heard ∙ f.0, f.1);
        packets = λ p a. ⊎_elim (λ b. at.packets p b) (λ b. answers_here step.sends law.sends p b) (among_either w.packets (packets_from (owner_of w) (nodes.Store (owner_of w table)) step.sends) p a);
      }

    pub table_moves : (number : ℕ) → MoveSound g s w number (after_table w table hosted step)
    table_moves number =
        let out : Outbox = record { facts = step.facts; packets = packets_from (owner_of w) (nodes.Store (owner_of w table)) step.sends } in
        let old : hosted.history ≡ s.history table = there.2 ∙ (k.stores table there.0 there.1).1 in
        record {
          lines = out_said g s number out [] result.are tt;
          kept = rw (out_hear g s number out []) (table_kept (hear_all s step.facts) result.items result.here result.elsewhere result.heard result.inv
              (told_history s table hosted.history (KnownIn s.heard k.sent table) (k.items table) step.facts law.later old law.facts));
          there = λ q none. ⊎_elim
              (λ e. absurd (let both : Some (record { store = step.store; history = history_on hosted.history step.facts; made = hosted.made }) ≡ None = sym e.1 ∙ none in cc))
              (λ e. sym e.1 ∙ none)
              (look_cases w.tables table (record { store = step.store; history = history_on hosted.history step.facts; made = hosted.made }) q);
        }
