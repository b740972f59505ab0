-- A part that comes to a Store: the whole world's Store takes the packet that it completes, or the one that it is of.
use Rattle.std.proofs.Common.{◌≡◌, ◌≢◌, ℕ, Bool, true, false, List, [], ◌∷◌, Option, Some, None, refl, sym, ◌∙◌, ap, subst}
use Rattle.std.specs.Prelude.{slice_get, if◌then◌else◌}
use Rattle.stab_base.specs.declared.node.Node.{Node}
use Rattle.stab_base.specs.declared.node.Node.TheVariants as nodes
use Rattle.row_value.specs.declared.schema.Schema.{Schema}
use Rattle.row_value.specs.declared.schema.Scheme.{Scheme}
use Rattle.table_model.specs.declared.event.Event.TheVariants as events
use Rattle.step_tables.specs.Facts as facts
use Rattle.step_tables.specs.Members.{Among}
use Rattle.step_tables.specs.Store.{Stored}
use Rattle.step_tables.specs.Messages.{Request, Message, Luck, SyncRequest, PullRequest, TornRowRequest, table_of}
use Rattle.step_tables.specs.Messages as messages
use Rattle.step_tables.specs.StoreMoves as store
use Rattle.step_tables.specs.StoreMoves.{StoreDisk, StoreTask, TableStore, StoreMove, StoreStep, store_step}
use Rattle.world_tables.specs.World.{World, Packet, Hosted, Moved, Lucks, owner_of, schema_at, hosted_at, hosted_by, scheme_in, chunk_in, is_down, answering, refused, unless_down, and_then}
use Rattle.world_tables.specs.World.{after_table, table_step, move_hosted, move_table, table_follows, first_luck, other_lucks, take_read, take_at, to_hosted, carried}
use Rattle.part_tables.specs.Parts.{Part, Asks, Responds, Pulls, Answers, BringsUp, BringsDown, AsksTorn, AnswersTorn, RequestHead}
use Rattle.part_tables.specs.StoreParts.{Taken, Whole, Waits, StoreTaken, parted}
use Rattle.world_laws.proofs.Owners.{hosted_by_is}
use Rattle.piece_laws.specs.Pieces.{items_in, NamesOne}
use Rattle.part_laws.specs.Gathers.{AreSent, Gathers, IsPart, IsTakenAsSent, ComesAs}
use Rattle.part_laws.proofs.Stores.{gathers_still, comes_whole}
use Rattle.wire_tables.specs.Wire.{PartPacket, Wire, gathered_at, with_gathered, part_table, any_of, whole, untaken, completed, waits, store_taken, by_hosted, brought}
use Rattle.wire_laws.specs.Carried.{IsFit}
use Rattle.wire_laws.proofs.Fitting.{request_fits}
use Rattle.wire_laws.proofs.PartsOf.{IsPartOf, part_of, up_is, same_table, store_part}
use Rattle.wire_laws.proofs.Ground.{IsGround, size_in, IsRequestTo, sent_request, request_sent, positive, one_name, are_sent}
use Rattle.wire_laws.proofs.Keeping.{HasWhole, IsKept, sent_to, gathered_kept}
use Rattle.wire_laws.proofs.Comings.{Comes, brings, stays}

-- ---- two moves that a table makes the same of

module _ (w : World) (table : ℕ) (lucks : List Luck) (one other : StoreMove) where
  pub moved_same : (hosted : Hosted) → hosted_at w table ≡ Some hosted → table_step w table hosted one ≡ table_step w table hosted other → move_table table one w ≡ move_table table other w
  moved_same hosted at same =
      ap (λ (o : Option Hosted). move_hosted w table one o) at ∙ (ap (after_table w table hosted) same ∙ sym (ap (λ (o : Option Hosted). move_hosted w table other o) at))

  read_same : (hosted : Hosted) → hosted_at w table ≡ Some hosted → table_step w table hosted one ≡ table_step w table hosted other → (rest : List Luck) (luck : Luck)
      → take_read w table hosted one rest luck ≡ take_read w table hosted other rest luck
  read_same hosted at same rest messages.Done =
      ap (λ (s : StoreStep). answering s.answer (and_then (move_table table one w) (table_follows table rest))) same
      ∙ ap (λ (m : Moved). answering (table_step w table hosted other).answer (and_then m (table_follows table rest))) (moved_same hosted at same)
  read_same hosted at same rest messages.FailedBefore = refl
  read_same hosted at same rest messages.FailedAfter = refl

  busy_same : (hosted : Hosted) → hosted_at w table ≡ Some hosted → table_step w table hosted one ≡ table_step w table hosted other
      → answering (table_step w table hosted one).answer (move_table table one w) ≡ answering (table_step w table hosted other).answer (move_table table other w)
  busy_same hosted at same =
      ap (λ (s : StoreStep). answering s.answer (move_table table one w)) same
      ∙ ap (λ (m : Moved). answering (table_step w table hosted other).answer m) (moved_same hosted at same)

  pub taken_same : (hosted : Hosted) → hosted_at w table ≡ Some hosted → table_step w table hosted one ≡ table_step w table hosted other
      → to_hosted w table one lucks (Some hosted) ≡ to_hosted w table other lucks (Some hosted)
  taken_same hosted at same = go hosted.store.agenda
    where
      go : (agenda : Option (List StoreTask)) → take_at w table hosted one lucks agenda ≡ take_at w table hosted other lucks agenda
      go None = busy_same hosted at same
      go (Some []) = read_same hosted at same (other_lucks lucks) (first_luck lucks)
      go (Some (task ∷ more)) = busy_same hosted at same

  -- a read that fails
  pub failing_same : (hosted : Hosted) (rest : List Luck) (luck : Luck) → luck ≢ messages.Done → take_read w table hosted one rest luck ≡ take_read w table hosted other rest luck
  failing_same hosted rest messages.Done fails = absurd (fails refl)
  failing_same hosted rest messages.FailedBefore fails = refl
  failing_same hosted rest messages.FailedAfter fails = refl

  pub unread_same : (hosted : Hosted) → hosted.store.agenda ≡ Some [] → first_luck lucks ≢ messages.Done → to_hosted w table one lucks (Some hosted) ≡ to_hosted w table other lucks (Some hosted)
  unread_same hosted idle fails =
      ap (take_at w table hosted one lucks) idle ∙ (failing_same hosted (other_lucks lucks) (first_luck lucks) fails ∙ sym (ap (take_at w table hosted other lucks) idle))

-- a table at work, or down, makes the same of each message
module _ (w : World) (table : ℕ) (hosted : Hosted) (from to : Node) (m n : Message) where
  at_agenda : (agenda : Option (List StoreTask)) → store.taken (scheme_in (schema_at w table)) (chunk_in (schema_at w table)) table hosted.store.disk agenda from m
      ≡ store.taken (scheme_in (schema_at w table)) (chunk_in (schema_at w table)) table hosted.store.disk agenda to n
      → hosted.store.agenda ≡ agenda → table_step w table hosted (store.Take from m) ≡ table_step w table hosted (store.Take to n)
  at_agenda agenda same is =
      ap (λ (a : Option (List StoreTask)). store.taken (scheme_in (schema_at w table)) (chunk_in (schema_at w table)) table hosted.store.disk a from m) is
      ∙ (same ∙ sym (ap (λ (a : Option (List StoreTask)). store.taken (scheme_in (schema_at w table)) (chunk_in (schema_at w table)) table hosted.store.disk a to n) is))

  pub down_step : hosted.store.agenda ≡ None → table_step w table hosted (store.Take from m) ≡ table_step w table hosted (store.Take to n)
  down_step is = at_agenda None refl is

  pub busy_step : (task : StoreTask) (more : List StoreTask) → hosted.store.agenda ≡ Some (task ∷ more) → table_step w table hosted (store.Take from m) ≡ table_step w table hosted (store.Take to n)
  busy_step task more is = at_agenda (Some (task ∷ more)) refl is

-- ---- packets that come to a Store

module _ (w : World) (number table : ℕ) (lucks : Lucks) (x y : Packet) (tx : table_of x.message ≡ table) (ty : table_of y.message ≡ table) where
  pub carried_same : to_hosted w table (store.Take x.from x.message) lucks.calls (hosted_by w number table) ≡ to_hosted w table (store.Take y.from y.message) lucks.calls (hosted_by w number table)
      → carried w x lucks.shape lucks.calls (nodes.Store number) ≡ carried w y lucks.shape lucks.calls (nodes.Store number)
  carried_same same =
      ap (λ (t : ℕ). unless_down w (nodes.Store number) (to_hosted w t (store.Take x.from x.message) lucks.calls (hosted_by w number t))) tx
      ∙ (ap (unless_down w (nodes.Store number)) same
      ∙ sym (ap (λ (t : ℕ). unless_down w (nodes.Store number) (to_hosted w t (store.Take y.from y.message) lucks.calls (hosted_by w number t))) ty))

  pub down_carried : is_down w (nodes.Store number) ≡ true → carried w x lucks.shape lucks.calls (nodes.Store number) ≡ carried w y lucks.shape lucks.calls (nodes.Store number)
  down_carried is = same (is_down w (nodes.Store number)) is
    where
      same : (b : Bool) → b ≡ true
          → (if b then refused w (facts.NodeDown (nodes.Store number)) else to_hosted w (table_of x.message) (store.Take x.from x.message) lucks.calls (hosted_by w number (table_of x.message)))
          ≡ (if b then refused w (facts.NodeDown (nodes.Store number)) else to_hosted w (table_of y.message) (store.Take y.from y.message) lucks.calls (hosted_by w number (table_of y.message)))
      same true e = refl
      same false e = absurd (let bad : false ≡ true = e in cc)

-- ---- a part comes

module _ (v : Wire) (g : IsGround v.world) (k : IsKept v) (number : ℕ) (p : PartPacket) (at : slice_get v.packets number ≡ Some p) (lucks : Lucks)
    (h : HasWhole v.world p) (n : ℕ) (here : p.to ≡ nodes.Store n) where
  abbrev pub table : ℕ
  table = part_table p.part

  abbrev pub q : Packet
  q = h.packet

  part_is : IsPartOf (size_in v.world (table_of q.message)) q.message p.part
  part_is = part_of (size_in v.world (table_of q.message)) q.message p.part h.part

  pub same : table_of q.message ≡ table
  same = sym (same_table (size_in v.world (table_of q.message)) q.message p.part part_is)

  -- where the Store makes the same of the packet as of any other
  untaken_comes : carried v.world (whole p (any_of table)) lucks.shape lucks.calls (nodes.Store n) ≡ carried v.world q lucks.shape lucks.calls (nodes.Store n)
      → Comes v (events.Deliver number) (untaken v p lucks)
  untaken_comes is =
      brings v number p at lucks v.gathered v.arriving k q h.stands (sym h.to) _
      (ap (carried v.world (whole p (any_of table)) lucks.shape lucks.calls) here
      ∙ (is ∙ ap (carried v.world q lucks.shape lucks.calls) (sym (sym h.to ∙ here))))

  untaken_here : to_hosted v.world table (store.Take p.from (any_of table)) lucks.calls (hosted_by v.world n table)
      ≡ to_hosted v.world table (store.Take q.from q.message) lucks.calls (hosted_by v.world n table)
      → Comes v (events.Deliver number) (untaken v p lucks)
  untaken_here is = untaken_comes (carried_same v.world n table lucks (whole p (any_of table)) q refl same is)

  module _ (hosted : Hosted) (by : hosted_by v.world n table ≡ Some hosted) where
    own : owner_of v.world table ≡ n
    own = (hosted_by_is v.world n table hosted by).0

    abbrev there : hosted_at v.world table ≡ Some hosted
    there = (hosted_by_is v.world n table hosted by).1

    at_hosted : to_hosted v.world table (store.Take p.from (any_of table)) lucks.calls (Some hosted) ≡ to_hosted v.world table (store.Take q.from q.message) lucks.calls (Some hosted)
        → Comes v (events.Deliver number) (untaken v p lucks)
    at_hosted is =
        untaken_here (ap (to_hosted v.world table (store.Take p.from (any_of table)) lucks.calls) by
        ∙ (is ∙ sym (ap (to_hosted v.world table (store.Take q.from q.message) lucks.calls) by)))

    abbrev schema : Schema
    schema = (g.declared table hosted there).0

    abbrev g_known : schema_at v.world table ≡ Some schema
    g_known = (g.declared table hosted there).1

    abbrev scheme : Scheme
    scheme = scheme_in (schema_at v.world table)

    abbrev items : List Stored
    items = hosted.store.disk.items

    abbrev sent : List Request
    sent = sent_to v.world table

    names : NamesOne (size_in v.world table) items
    names = subst (λ (l : List Stored). NamesOne (size_in v.world table) l) (ap items_in there) (one_name v.world g table schema g_known)

    are : AreSent (size_in v.world table) items sent
    are = subst (λ (l : List Stored). AreSent (size_in v.world table) l sent) (ap items_in there) (are_sent v.world g table schema g_known (owner_of v.world table))

    is_part : IsPart (size_in v.world table) sent p.part
    is_part =
        store_part (size_in v.world table) sent q.message p.part (subst (λ (t : ℕ). IsPartOf (size_in v.world t) q.message p.part) same part_is)
        (λ r is. request_sent (owner_of v.world table) table v.world.packets q r h.stands (sym h.to ∙ (here ∙ ap nodes.Store (sym own))) is (sym (ap table_of is) ∙ same))

    abbrev pub x : StoreTaken
    x = parted scheme (size_in v.world table) items (gathered_at v table) p.part

    gathers : Gathers (size_in v.world table) sent x.gatherings
    gathers = gathers_still scheme (size_in v.world table) (positive v.world g table schema g_known) items names sent are (gathered_at v table) (k.gathers table) p.part is_part

    kept : IsKept (with_gathered table x.gatherings v)
    kept = gathered_kept v k table x.gatherings gathers

    -- the packet of the message that is completed
    pub record IsTakenAs (m : Message) : Type 0 where
      pub packet : Packet
      pub stands : Among v.world.packets packet
      pub to : packet.to ≡ p.to
      pub table_m : table_of m ≡ table
      pub table_is : table_of packet.message ≡ table
      pub fit : IsFit (schema_at v.world) p.from m
      pub step : table_step v.world table hosted (store.Take p.from m) ≡ table_step v.world table hosted (store.Take packet.from packet.message)

    module _ (idle : hosted.store.agenda ≡ Some []) where
      as_request : (m : Message) (client : ℕ) → p.from ≡ nodes.Client client → IsTakenAsSent scheme (size_in v.world table) items sent client m → IsTakenAs m
      as_request m client from t =
          let r : IsRequestTo (owner_of v.world table) table v.world.packets t.0 = sent_request (owner_of v.world table) table v.world.packets t.0 t.1 in
          let way : r.packet.from ≡ p.from = (g.requests r.packet t.0 r.stands r.message).2 ∙ (ap nodes.Client t.2 ∙ sym from) in
          let idle_store : hosted.store ≡ record { disk = hosted.store.disk; agenda = Some [] } = ap (λ (a : Option (List StoreTask)). record { disk = hosted.store.disk; agenda = a }) idle in
          let at_store = λ (f : Node) (y : Message). ap (λ (s : TableStore). store_step (owner_of v.world table) scheme (size_in v.world table) table s (store.Take f y)) idle_store in
          record {
            packet = r.packet;
            stands = r.stands;
            to = r.to ∙ (ap nodes.Store own ∙ sym here);
            table_m = t.3 ∙ r.table_is;
            table_is = ap table_of r.message ∙ r.table_is;
            fit = request_fits (schema_at v.world) p.from t.0 m
                (subst (λ (f : Node). IsFit (schema_at v.world) f (SyncRequest t.0)) way (subst (IsFit (schema_at v.world) r.packet.from) r.message (g.fits r.packet r.stands))) t.5;
            step = at_store p.from m ∙ (t.4 (owner_of v.world table) table hosted.store.disk p.from refl ∙ (sym (at_store p.from (SyncRequest t.0))
                ∙ (ap (λ (f : Node). table_step v.world table hosted (store.Take f (SyncRequest t.0))) (sym way)
                ∙ ap (λ (y : Message). table_step v.world table hosted (store.Take r.packet.from y)) (sym r.message))));
          }

      -- a message that is the packet's own
      as_itself : (m : Message) → m ≡ q.message → IsTakenAs m
      as_itself m is = record {
        packet = q;
        stands = h.stands;
        to = sym h.to;
        table_m = ap table_of is ∙ same;
        table_is = same;
        fit = subst (IsFit (schema_at v.world) p.from) (sym is) (subst (λ (f : Node). IsFit (schema_at v.world) f q.message) (sym h.from) (g.fits q h.stands));
        step = ap (λ (f : Node). table_step v.world table hosted (store.Take f m)) h.from ∙ ap (λ (y : Message). table_step v.world table hosted (store.Take q.from y)) is;
      }

      pub taken_as : (m : Message) (part : Part) → IsPartOf (size_in v.world (table_of q.message)) q.message part → ComesAs scheme (size_in v.world table) items sent part m → IsTakenAs m
      taken_as m (Asks head) is t =
          as_request m head.client (h.from ∙ ((g.requests q is.0 h.stands is.1).2 ∙ ap nodes.Client (sym (ap (λ (r : RequestHead). r.client) is.2)))) t
      taken_as m (Responds response) is t = absurd t
      taken_as m (Pulls pull) is t = as_itself m (t ∙ sym is)
      taken_as m (Answers head) is t = absurd t
      taken_as m (BringsUp f) is t =
          as_request m f.client (h.from ∙ ((g.requests q is.0 h.stands is.1).2 ∙ ap nodes.Client (sym (up_is (size_in v.world (table_of q.message)) is.0 f is.2).0))) t
      taken_as m (BringsDown f) is t = absurd t
      taken_as m (AsksTorn torn) is t = as_itself m (t ∙ sym is)
      taken_as m (AnswersTorn head) is t = absurd t

      -- what a part completes
      pub completes_as : (m : Message) → x.taken ≡ Whole m → IsTakenAs m
      completes_as m is =
          taken_as m p.part part_is
          (comes_whole scheme (size_in v.world table) (positive v.world g table schema g_known) items names sent are (gathered_at v table) (k.gathers table) p.part is_part m is)

      whole_comes : (m : Message) → IsTakenAs m → Comes v (events.Deliver number) (completed (with_gathered table x.gatherings v) p m lucks)
      whole_comes m t =
          brings v number p at lucks (with_gathered table x.gatherings v).gathered v.arriving kept t.packet t.stands t.to _
          (ap (carried v.world (whole p m) lucks.shape lucks.calls) here
          ∙ (carried_same v.world n table lucks (whole p m) t.packet t.table_m t.table_is
          (ap (to_hosted v.world table (store.Take p.from m) lucks.calls) by
          ∙ (taken_same v.world table lucks.calls (store.Take p.from m) (store.Take t.packet.from t.packet.message) hosted there t.step
          ∙ sym (ap (to_hosted v.world table (store.Take t.packet.from t.packet.message) lucks.calls) by)))
          ∙ ap (carried v.world t.packet lucks.shape lucks.calls) (sym (t.to ∙ here))))

      waits_come : (luck : Luck) → first_luck lucks.calls ≡ luck → Comes v (events.Deliver number) (waits v (with_gathered table x.gatherings v) p lucks luck)
      waits_come messages.Done is = stays v number p at lucks (with_gathered table x.gatherings v).gathered v.arriving kept
      waits_come messages.FailedBefore is =
          at_hosted (unread_same v.world table lucks.calls (store.Take p.from (any_of table)) (store.Take q.from q.message) hosted idle
          (λ e. let bad : messages.FailedBefore ≡ messages.Done = sym is ∙ e in cc))
      waits_come messages.FailedAfter is =
          at_hosted (unread_same v.world table lucks.calls (store.Take p.from (any_of table)) (store.Take q.from q.message) hosted idle
          (λ e. let bad : messages.FailedAfter ≡ messages.Done = sym is ∙ e in cc))

      taken_comes : (t : Taken) → x.taken ≡ t → Comes v (events.Deliver number) (store_taken v p lucks (record x { taken = t }))
      taken_comes (Whole m) is = whole_comes m (completes_as m is)
      taken_comes Waits is = waits_come (first_luck lucks.calls) refl

    agenda_comes : (a : Option (List StoreTask)) → hosted.store.agenda ≡ a → Comes v (events.Deliver number) (by_hosted v p lucks (Some (record hosted { store = record hosted.store { agenda = a } })))
    agenda_comes None is =
        at_hosted (taken_same v.world table lucks.calls (store.Take p.from (any_of table)) (store.Take q.from q.message) hosted there
        (down_step v.world table hosted p.from q.from (any_of table) q.message is))
    agenda_comes (Some (task ∷ more)) is =
        at_hosted (taken_same v.world table lucks.calls (store.Take p.from (any_of table)) (store.Take q.from q.message) hosted there
        (busy_step v.world table hosted p.from q.from (any_of table) q.message task more is))
    agenda_comes (Some []) is = taken_comes is x.taken refl

  hosted_comes : (o : Option Hosted) → hosted_by v.world n table ≡ o → Comes v (events.Deliver number) (by_hosted v p lucks o)
  hosted_comes None by =
      untaken_here (ap (to_hosted v.world table (store.Take p.from (any_of table)) lucks.calls) by ∙ sym (ap (to_hosted v.world table (store.Take q.from q.message) lucks.calls) by))
  hosted_comes (Some hosted) by = agenda_comes hosted by hosted.store.agenda refl

  pub store_comes : Comes v (events.Deliver number) (brought v p lucks (nodes.Store n))
  store_comes = go (is_down v.world (nodes.Store n)) refl
    where
      go : (b : Bool) → is_down v.world (nodes.Store n) ≡ b → Comes v (events.Deliver number) (if b then untaken v p lucks else by_hosted v p lucks (hosted_by v.world n table))
      go true is = untaken_comes (down_carried v.world n table lucks (whole p (any_of table)) q refl same is)
      go false is = hosted_comes (hosted_by v.world n table) refl
