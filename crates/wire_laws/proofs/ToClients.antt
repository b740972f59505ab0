-- A part that comes to a client: the whole world's client takes the packet that it completes, or the one that it is of; or
-- it asks for a row that it found torn.
use Rattle.std.proofs.Common.{◌≡◌, ◌≢◌, inl, inr, ℕ, Bool, true, false, List, [], ◌∷◌, Option, Some, None, refl, sym, ◌∙◌, ap, subst}
use Rattle.std.specs.Prelude.{◌&&◌, slice_get, if◌then◌else◌}
use Rattle.stab_base.specs.declared.node.Node.{Node}
use Rattle.stab_base.specs.declared.node.Node.TheVariants as nodes
use Rattle.table_model.specs.declared.event.Event.TheVariants as events
use Rattle.step_tables.specs.Facts.{Answer}
use Rattle.step_tables.specs.Facts as facts
use Rattle.step_tables.specs.Members.{Among}
use Rattle.step_tables.specs.Messages.{Message, Luck, SyncRequest, SyncResponse, PullRequest, PullResponse, TornRowRequest, TornRowResponse, table_of}
use Rattle.step_tables.specs.Messages as messages
use Rattle.step_tables.specs.ClientMoves as client
use Rattle.step_tables.specs.ClientMoves.{TableDisk, ClientDisk, Client, ClientTask, ClientStep, Shape, table_at, seen, client_step, take_step, ignored, response_in, pulled_in, torn_in, phases_by}
use Rattle.world_tables.specs.World.{World, Packet, Moved, WorldStep, Lucks, schema_at, client_at, is_cut, answering, unless_down, unless_cut, and_then}
use Rattle.world_tables.specs.World.{after_client, moved_client, move_there, move_client, client_follows_from, first_luck, other_lucks, reads, calls, call_there, to_there, carried}
use Rattle.world_tables.specs.World.{is_closed, is_closed_in, idle_answer, closed_answer, unless_closed}
use Rattle.part_tables.specs.Parts.{Part, Asks, Responds, Pulls, Answers, BringsUp, BringsDown, AsksTorn, AnswersTorn}
use Rattle.part_tables.specs.ClientParts.{Taken, Whole, Tears, Waits}
use Rattle.part_tables.specs.Arriving.{Arrived, arrived}
use Rattle.piece_laws.specs.Pieces.{items_at}
use Rattle.part_laws.specs.Answers.{AreTakenAlike, IsOpened}
use Rattle.part_laws.specs.Answers as answers
use Rattle.part_laws.specs.Rows.{SentDown, IsPart, IsTakenAsPull, IsTakenAsRow, ComesAs, AreArriving}
use Rattle.part_laws.proofs.WholeRows.{part_kept}
use Rattle.wire_tables.specs.Wire.{PartPacket, Wire, arriving_at, with_arriving, part_table, any_of, whole, untaken, completed, waits, client_taken, by_table, by_client, brought}
use Rattle.wire_laws.specs.Carried.{IsFit}
use Rattle.wire_laws.proofs.Fitting.{answer_fits, whole_row_fits}
use Rattle.wire_laws.proofs.PartsOf.{IsPartOf, part_of, same_table, client_part, tables_agree}
use Rattle.wire_laws.proofs.Ground.{IsGround, size_in, down_to, sent_pulled, pulled_sent, sent_torn, torn_sent, of_items, is_opened}
use Rattle.wire_laws.proofs.Keeping.{HasWhole, IsKept, arriving_kept}
use Rattle.wire_laws.proofs.Comings.{Comes, brings, stays, to_is}

-- ---- two messages that a client makes the same of

phases_same : (c : ℕ) (m n : Message) (answer : Answer) (agenda : Option (List ClientTask)) (phases : List (ℕ × ℕ))
    → phases_by c (client.Take m) answer agenda phases ≡ phases_by c (client.Take n) answer agenda phases
phases_same c m n answer None phases = refl
phases_same c m n answer (Some tasks) phases = refl

module _ (w : World) (c : ℕ) (shape : Shape) (lucks : List Luck) (node : Client) (m n : Message) where
  moved_same : client_step c shape node (client.Take m) ≡ client_step c shape node (client.Take n)
      → moved_client w c (client.Take m) (client_step c shape node (client.Take m)) ≡ moved_client w c (client.Take n) (client_step c shape node (client.Take n))
  moved_same same =
      ap (λ (s : ClientStep). moved_client w c (client.Take m) s) same
      ∙ (let s : ClientStep = client_step c shape node (client.Take n) in
      ap (λ (phases : List (ℕ × ℕ)). after_client (record w { phases = phases }) c s) (phases_same c m n s.answer s.client.agenda w.phases))

  called_same : client_at w c ≡ Some node → client_step c shape node (client.Take m) ≡ client_step c shape node (client.Take n) → (rest : List Luck)
      → calls w c (client.Take m) shape rest node ≡ calls w c (client.Take n) shape rest node
  called_same there same rest =
      ap (λ (s : ClientStep). answering s.answer (and_then (move_client c (client.Take m) shape w) (client_follows_from node.agenda c rest))) same
      ∙ ap (λ (x : Moved). answering (client_step c shape node (client.Take n)).answer (and_then x (client_follows_from node.agenda c rest)))
      (ap (move_there w c (client.Take m) shape) there ∙ (moved_same same ∙ sym (ap (move_there w c (client.Take n) shape) there)))

  -- what a message of a table comes to
  abbrev past : Bool → Bool → WorldStep → WorldStep
  past closed cut s = unless_down w (nodes.Client c)
      (reads w c (first_luck lucks) (unless_closed w closed (if cut then facts.Refuses facts.Offline else idle_answer shape node.agenda) (unless_cut w (cut && true) s)))

  abbrev closed_to : ℕ → Bool
  closed_to table = is_closed node (Some table)

  -- both are of one table
  module _ (tables : table_of m ≡ table_of n) where
    of_table : (s : WorldStep) → past (closed_to (table_of m)) (is_cut w c) s ≡ past (closed_to (table_of n)) (is_cut w c) s
    of_table s = ap (λ (table : ℕ). past (closed_to table) (is_cut w c) s) tables

    pub taken_same : client_at w c ≡ Some node → client_step c shape node (client.Take m) ≡ client_step c shape node (client.Take n)
        → call_there w c (client.Take m) shape lucks (Some node) ≡ call_there w c (client.Take n) shape lucks (Some node)
    taken_same there same =
        of_table (calls w c (client.Take m) shape (other_lucks lucks) node) ∙ ap (past (closed_to (table_of n)) (is_cut w c)) (called_same there same (other_lucks lucks))

    -- with its link down
    pub cut_same : is_cut w c ≡ true → call_there w c (client.Take m) shape lucks (Some node) ≡ call_there w c (client.Take n) shape lucks (Some node)
    cut_same cut =
        of_table (calls w c (client.Take m) shape (other_lucks lucks) node)
        ∙ (ap (λ (b : Bool). past (closed_to (table_of n)) b (calls w c (client.Take m) shape (other_lucks lucks) node)) cut
        ∙ sym (ap (λ (b : Bool). past (closed_to (table_of n)) b (calls w c (client.Take n) shape (other_lucks lucks) node)) cut))

    -- where the table is closed
    pub closed_same : closed_to (table_of n) ≡ true → call_there w c (client.Take m) shape lucks (Some node) ≡ call_there w c (client.Take n) shape lucks (Some node)
    closed_same closed =
        of_table (calls w c (client.Take m) shape (other_lucks lucks) node)
        ∙ (ap (λ (b : Bool). past b (is_cut w c) (calls w c (client.Take m) shape (other_lucks lucks) node)) closed
        ∙ sym (ap (λ (b : Bool). past b (is_cut w c) (calls w c (client.Take n) shape (other_lucks lucks) node)) closed))

  -- where a read fails
  pub unread_same : first_luck lucks ≢ messages.Done → call_there w c (client.Take m) shape lucks (Some node) ≡ call_there w c (client.Take n) shape lucks (Some node)
  unread_same fails = ap (unless_down w (nodes.Client c)) (go (first_luck lucks) fails)
    where
      go : (luck : Luck) → luck ≢ messages.Done
          → reads w c luck (unless_closed w (closed_to (table_of m)) (closed_answer shape (is_cut w c) node.agenda (client.Take m))
          (unless_cut w (is_cut w c && true) (calls w c (client.Take m) shape (other_lucks lucks) node)))
          ≡ reads w c luck (unless_closed w (closed_to (table_of n)) (closed_answer shape (is_cut w c) node.agenda (client.Take n))
          (unless_cut w (is_cut w c && true) (calls w c (client.Take n) shape (other_lucks lucks) node)))
      go messages.Done f = absurd (f refl)
      go messages.FailedBefore f = refl
      go messages.FailedAfter f = refl

-- a client at work, or down, and one that doesn't have the table
module _ (c : ℕ) (shape : Shape) (node : Client) (m n : Message) where
  at_agenda : (agenda : Option (List ClientTask)) → take_step c shape node.disk agenda m ≡ take_step c shape node.disk agenda n → node.agenda ≡ agenda
      → client_step c shape node (client.Take m) ≡ client_step c shape node (client.Take n)
  at_agenda agenda same is =
      ap (λ (a : Option (List ClientTask)). take_step c shape node.disk a m) is ∙ (same ∙ sym (ap (λ (a : Option (List ClientTask)). take_step c shape node.disk a n) is))

  pub down_step : node.agenda ≡ None → client_step c shape node (client.Take m) ≡ client_step c shape node (client.Take n)
  down_step is = at_agenda None refl is

  pub busy_step : (task : ClientTask) (more : List ClientTask) → node.agenda ≡ Some (task ∷ more) → client_step c shape node (client.Take m) ≡ client_step c shape node (client.Take n)
  busy_step task more is = at_agenda (Some (task ∷ more)) refl is

unopened : (c : ℕ) (shape : Shape) (d : ClientDisk) (m : Message) → table_at (seen d) (table_of m) ≡ None → take_step c shape d (Some []) m ≡ ignored d
unopened c shape d (SyncRequest q) none = refl
unopened c shape d (SyncResponse r) none = ap (response_in c shape d r) none
unopened c shape d (PullRequest pull) none = refl
unopened c shape d (PullResponse p) none = ap (pulled_in c shape d p) none
unopened c shape d (TornRowRequest torn) none = refl
unopened c shape d (TornRowResponse t) none = ap (torn_in c shape d t) none

pub unopened_step : (c : ℕ) (shape : Shape) (node : Client) (m n : Message) (table : ℕ) → table_of m ≡ table → table_of n ≡ table → node.agenda ≡ Some [] → table_at (seen node.disk) table ≡ None
    → client_step c shape node (client.Take m) ≡ client_step c shape node (client.Take n)
unopened_step c shape node m n table tm tn idle none =
    at_agenda c shape node m n (Some [])
    (unopened c shape node.disk m (ap (table_at (seen node.disk)) tm ∙ none) ∙ sym (unopened c shape node.disk n (ap (table_at (seen node.disk)) tn ∙ none))) idle

-- ---- a part comes

module _ (v : Wire) (g : IsGround v.world) (k : IsKept v) (number : ℕ) (p : PartPacket) (at : slice_get v.packets number ≡ Some p) (lucks : Lucks)
    (h : HasWhole v.world p) (c : ℕ) (here : p.to ≡ nodes.Client c) where
  abbrev pub table : ℕ
  table = part_table p.part

  abbrev pub q : Packet
  q = h.packet

  part_is : IsPartOf (size_in v.world (table_of q.message)) q.message p.part
  part_is = part_of (size_in v.world (table_of q.message)) q.message p.part h.part

  pub same : table_of q.message ≡ table
  same = sym (same_table (size_in v.world (table_of q.message)) q.message p.part part_is)

  -- where the client makes the same of the packet as of any other
  untaken_comes : to_there v.world c (any_of table) lucks.shape lucks.calls (client_at v.world c) ≡ to_there v.world c q.message lucks.shape lucks.calls (client_at v.world c)
      → Comes v (events.Deliver number) (untaken v p lucks)
  untaken_comes is =
      brings v number p at lucks v.gathered v.arriving k q h.stands (sym h.to) _
      (ap (carried v.world (whole p (any_of table)) lucks.shape lucks.calls) here
      ∙ (is ∙ ap (carried v.world q lucks.shape lucks.calls) (sym (sym h.to ∙ here))))

  module _ (node : Client) (there : client_at v.world c ≡ Some node) where
    at_client : call_there v.world c (client.Take (any_of table)) lucks.shape lucks.calls (Some node) ≡ call_there v.world c (client.Take q.message) lucks.shape lucks.calls (Some node)
        → Comes v (events.Deliver number) (untaken v p lucks)
    at_client is =
        untaken_comes (ap (to_there v.world c (any_of table) lucks.shape lucks.calls) there
        ∙ (is ∙ sym (ap (to_there v.world c q.message lucks.shape lucks.calls) there)))

    by_step : client_step c lucks.shape node (client.Take (any_of table)) ≡ client_step c lucks.shape node (client.Take q.message) → Comes v (events.Deliver number) (untaken v p lucks)
    by_step is = at_client (taken_same v.world c lucks.shape lucks.calls node (any_of table) q.message (sym same) there is)

    module _ (idle : node.agenda ≡ Some []) (opened : TableDisk) (is_there : table_at (seen node.disk) table ≡ Some opened) where
      abbrev sent : SentDown
      sent = down_to c v.world.packets

      abbrev pub x : Arrived
      x = arrived opened (arriving_at v c) p.part

      opened_here : IsOpened (size_in v.world (answers.table_of p.part)) (items_at v.world (answers.table_of p.part)) opened
      opened_here = subst (λ (t : ℕ). IsOpened (size_in v.world t) (items_at v.world t) opened) (sym (tables_agree p.part)) (is_opened v.world g c node there table opened is_there)

      is_part : IsPart (size_in v.world) sent p.part
      is_part =
          client_part (size_in v.world) sent q.message p.part part_is
          (λ pulled is. pulled_sent c v.world.packets q pulled h.stands (sym h.to ∙ here) is)
          (λ t is. torn_sent c v.world.packets q t h.stands (sym h.to ∙ here) is)

      arriving : AreArriving (size_in v.world) sent x.arriving
      arriving = (part_kept (size_in v.world) (items_at v.world) sent (of_items v.world g c) opened (arriving_at v c) (k.arriving c) p.part opened_here is_part).arriving

      kept : IsKept (with_arriving c x.arriving v)
      kept = arriving_kept v k c x.arriving arriving

      -- the packet of the message that is completed
      pub record IsTakenAs (m : Message) : Type 0 where
        pub packet : Packet
        pub stands : Among v.world.packets packet
        pub to : packet.to ≡ nodes.Client c
        pub fit : IsFit (schema_at v.world) p.from m
        pub tables : table_of m ≡ table_of packet.message
        pub step : (shape : Shape) → client_step c shape node (client.Take m) ≡ client_step c shape node (client.Take packet.message)

      alike_step : (t : ℕ) (m n : Message) → t ≡ table → AreTakenAlike t opened m n → (shape : Shape) → client_step c shape node (client.Take m) ≡ client_step c shape node (client.Take n)
      alike_step t m n is alike shape =
          at_agenda c shape node m n (Some []) (alike c shape node.disk (ap (table_at (seen node.disk)) is ∙ is_there)) idle

      as_pull : (t : ℕ) (m : Message) → t ≡ table → IsTakenAsPull t opened sent.pulls m → IsTakenAs m
      as_pull t m is a =
          let r = sent_pulled c v.world.packets a.answer a.was_sent in
          record {
            packet = r.packet;
            stands = r.stands;
            to = r.to;
            fit = answer_fits (schema_at v.world) p.from a.answer m (subst (IsFit (schema_at v.world) r.packet.from) r.message (g.fits r.packet r.stands)) a.of_it;
            tables = a.to_table ∙ sym (ap table_of r.message ∙ a.table_is);
            step = λ shape. alike_step t m (PullResponse a.answer) is a.alike shape ∙ ap (λ (y : Message). client_step c shape node (client.Take y)) (sym r.message);
          }

      as_row : (t : ℕ) (m : Message) → t ≡ table → IsTakenAsRow t opened sent.rows m → IsTakenAs m
      as_row t m is a =
          let r = sent_torn c v.world.packets a.answer a.was_sent in
          record {
            packet = r.packet;
            stands = r.stands;
            to = r.to;
            fit = whole_row_fits (schema_at v.world) p.from a.answer m (subst (IsFit (schema_at v.world) r.packet.from) r.message (g.fits r.packet r.stands)) a.of_it;
            tables = a.to_table ∙ sym (ap table_of r.message ∙ a.table_is);
            step = λ shape. alike_step t m (TornRowResponse a.answer) is a.alike shape ∙ ap (λ (y : Message). client_step c shape node (client.Take y)) (sym r.message);
          }

      as_itself : (m : Message) → m ≡ q.message → IsTakenAs m
      as_itself m is = record {
        packet = q;
        stands = h.stands;
        to = sym h.to ∙ here;
        fit = subst (IsFit (schema_at v.world) p.from) (sym is) (subst (λ (f : Node). IsFit (schema_at v.world) f q.message) (sym h.from) (g.fits q h.stands));
        tables = ap table_of is;
        step = λ shape. ap (λ (y : Message). client_step c shape node (client.Take y)) is;
      }

      taken_as : (m : Message) (part : Part) → part_table part ≡ table → IsPartOf (size_in v.world (table_of q.message)) q.message part → ComesAs opened sent part m → IsTakenAs m
      taken_as m (Asks head) t is a = absurd a
      taken_as m (Responds response) t is a = as_itself m (a ∙ sym is)
      taken_as m (Pulls pull) t is a = absurd a
      taken_as m (Answers head) t is a = as_pull head.table m t a
      taken_as m (BringsUp f) t is a = absurd a
      taken_as m (BringsDown f) t is (inl a) = as_pull f.table m t a
      taken_as m (BringsDown f) t is (inr a) = as_row f.table m t a
      taken_as m (AsksTorn torn) t is a = absurd a
      taken_as m (AnswersTorn head) t is a = as_row head.table m t a

      -- what a part completes
      pub completes_as : (m : Message) → x.taken ≡ Whole m → IsTakenAs m
      completes_as m is =
          taken_as m p.part refl part_is
          ((part_kept (size_in v.world) (items_at v.world) sent (of_items v.world g c) opened (arriving_at v c) (k.arriving c) p.part opened_here is_part).whole m is)

      whole_comes : (m : Message) → IsTakenAs m → Comes v (events.Deliver number) (completed (with_arriving c x.arriving v) p m lucks)
      whole_comes m t =
          brings v number p at lucks v.gathered (with_arriving c x.arriving v).arriving kept t.packet t.stands (t.to ∙ sym here) _
          (ap (carried v.world (whole p m) lucks.shape lucks.calls) here
          ∙ (ap (to_there v.world c m lucks.shape lucks.calls) there
          ∙ (taken_same v.world c lucks.shape lucks.calls node m t.packet.message t.tables there (t.step lucks.shape)
          ∙ (sym (ap (to_there v.world c t.packet.message lucks.shape lucks.calls) there)
          ∙ ap (carried v.world t.packet lucks.shape lucks.calls) (sym t.to)))))

      waits_come : (luck : Luck) → first_luck lucks.calls ≡ luck → Comes v (events.Deliver number) (waits v (with_arriving c x.arriving v) p lucks luck)
      waits_come messages.Done is = stays v number p at lucks v.gathered (with_arriving c x.arriving v).arriving kept
      waits_come messages.FailedBefore is =
          at_client (unread_same v.world c lucks.shape lucks.calls node (any_of table) q.message (λ e. let bad : messages.FailedBefore ≡ messages.Done = sym is ∙ e in cc))
      waits_come messages.FailedAfter is =
          at_client (unread_same v.world c lucks.shape lucks.calls node (any_of table) q.message (λ e. let bad : messages.FailedAfter ≡ messages.Done = sym is ∙ e in cc))

      taken_comes : (t : Taken) → x.taken ≡ t → Comes v (events.Deliver number) (client_taken v c p lucks (record x { taken = t }))
      taken_comes (Whole m) is =
          whole_comes m (completes_as m is)
      taken_comes (Tears row) is = inr (record {
        gathered = v.gathered;
        arriving = (with_arriving c x.arriving v).arriving;
        kept = kept;
        other = events.Pull c table;
        lucks = record lucks { tears = row ∷ []; asks = row ∷ [] };
        joins = inl refl;
        alike = to_is v number p (nodes.Client c) at here;
        is = refl;
      })
      taken_comes Waits is = waits_come (first_luck lucks.calls) refl

    table_comes : node.agenda ≡ Some [] → (o : Option TableDisk) → table_at (seen node.disk) table ≡ o → Comes v (events.Deliver number) (by_table v c p lucks o)
    table_comes idle None none = by_step (unopened_step c lucks.shape node (any_of table) q.message table refl same idle none)
    table_comes idle (Some opened) is_there = go opened.closed refl
      where
        go : (b : Bool) → opened.closed ≡ b → Comes v (events.Deliver number) (if b then untaken v p lucks else client_taken v c p lucks (arrived opened (arriving_at v c) p.part))
        go true closed = at_client (closed_same v.world c lucks.shape lucks.calls node (any_of table) q.message (sym same)
            (ap (λ (t : ℕ). is_closed node (Some t)) same ∙ (ap is_closed_in is_there ∙ closed)))
        go false opens = taken_comes idle opened is_there (arrived opened (arriving_at v c) p.part).taken refl

    agenda_comes : (a : Option (List ClientTask)) → node.agenda ≡ a → Comes v (events.Deliver number) (by_client v c p lucks (Some (record node { agenda = a })))
    agenda_comes None is = by_step (down_step c lucks.shape node (any_of table) q.message is)
    agenda_comes (Some (task ∷ more)) is = by_step (busy_step c lucks.shape node (any_of table) q.message task more is)
    agenda_comes (Some []) is = table_comes is (table_at (seen node.disk) table) refl

  client_comes : (o : Option Client) → client_at v.world c ≡ o → Comes v (events.Deliver number) (by_client v c p lucks o)
  client_comes None there = untaken_comes (ap (to_there v.world c (any_of table) lucks.shape lucks.calls) there ∙ sym (ap (to_there v.world c q.message lucks.shape lucks.calls) there))
  client_comes (Some node) there = agenda_comes node there node.agenda refl

  cut_comes : is_cut v.world c ≡ true → (o : Option Client) → client_at v.world c ≡ o → Comes v (events.Deliver number) (untaken v p lucks)
  cut_comes cut None there = client_comes None there
  cut_comes cut (Some node) there = at_client node there (cut_same v.world c lucks.shape lucks.calls node (any_of table) q.message (sym same) cut)

  pub at_client_comes : Comes v (events.Deliver number) (brought v p lucks (nodes.Client c))
  at_client_comes = go (is_cut v.world c) refl
    where
      go : (b : Bool) → is_cut v.world c ≡ b → Comes v (events.Deliver number) (if b then untaken v p lucks else by_client v c p lucks (client_at v.world c))
      go true is = cut_comes is (client_at v.world c) refl
      go false is = client_comes (client_at v.world c) refl
