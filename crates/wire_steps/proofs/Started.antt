-- Events of the nodes alone: what is in memory behind a start, and what each comes to.
use Rattle.std.proofs.Common.{◌≡◌, ◌≢◌, ◌⊎◌, inl, inr, ⊎_elim, ℕ, suc, ◌+◌, ◌<◌, Bool, true, false, List, [], ◌∷◌}
use Rattle.std.proofs.Common.{◌++◌, length, map, drop, Option, Some, None, Result, Ok, Err, refl, sym, ◌∙◌, ap, subst, arith, true≢false}
use Rattle.std.proofs.Math.Seq.{drop-cons}
use Rattle.std.specs.Prelude.{◌&&◌, slice_index_or, filter, IfOk, IfErr, is_some, if◌then◌else◌}
use Rattle.std.specs.BTreeMap as tree
use Rattle.std.specs.Ordering.{nat_cmp}
use Rattle.std.specs.List.{flat_map}
use Rattle.disk_trait.specs.Calls.{DiskState, IsCounted}
use Rattle.stab_base.specs.declared.node.Node.{Node}
use Rattle.stab_base.specs.declared.node.Node.TheVariants as nodes
use Rattle.table_model.specs.declared.event.Event.{Event}
use Rattle.table_model.specs.declared.event.Event.TheVariants as events
use Rattle.table_model.specs.declared.line.Fact.{Fact as ToldFact}
use Rattle.table_model.specs.declared.line.TextLine.{TextLine}
use Rattle.step_tables.specs.Facts.{Fact}
use Rattle.step_tables.specs.Facts as facts
use Rattle.step_tables.specs.Lines.{fact_of}
use Rattle.step_tables.specs.StoreMoves.{StoreTask}
use Rattle.store_node.specs.Due as store_facts
use Rattle.store_node.specs.declared.told.StoreFact.{StoreFact}
use Rattle.store_node.specs.declared.told.StoreFact.TheVariants as told_facts
use Rattle.store_host.specs.declared.hosted.TableOut.{TableOut}
use Rattle.store_host.specs.Holds as stores
use Rattle.journal_host.specs.Holds as hosts
use Rattle.world_tables.specs.Faults.{is_device_fault, is_fault_answer}
use Rattle.world_tables.specs.World.{World as AWorld, Hosted, Outbox, WorldStep, Lucks, owner_of, hosted_at, client_at}
use Rattle.world_tables.specs.World.{has_store, is_down, is_client_down, step, client_pairs, answering, answered, store_starts, client_starts}
use Rattle.step_tables.specs.ClientMoves.{Client}
use Rattle.fair_laws.specs.Reached.{IsBuilt}
use Rattle.fair_laws.specs.Reached as fair
use Rattle.part_tables.specs.Arriving.{Arriving, nothing_arriving}
use Rattle.part_client.specs.Keeping.{Keeps}
use Rattle.part_network.specs.Packets.{HasPackets, most_bytes, bytes_of}
use Rattle.wire_tables.specs.Faults.{is_wire_fault}
use Rattle.wire_tables.specs.Wire.{PartPacket, Wire, WireStep, has_agenda, is_hosted_up, with_arriving, noting, torn_by_fact, torn_told, spread, wire_step, lines_of}
use Rattle.node_steps.specs.declared.fault.WorldFault.{WorldFault}
use Rattle.node_steps.specs.declared.fault.WorldFault.TheVariants.{Memory, Depot, Limit as LimitPassed}
use Rattle.node_steps.specs.declared.told.Outs.{Outs}
use Rattle.node_steps.specs.declared.told.Outs.TheVariants as outs
use Rattle.node_steps.specs.declared.told.Told.{Told}
use Rattle.node_steps.specs.declared.world.World.{World as Nodes}
use Rattle.node_steps.specs.Faults as node_faults
use Rattle.node_steps.specs.Fits.{IsOwn}
use Rattle.node_steps.specs.Holds.{AreOut, Holds as NodesHold}
use Rattle.node_steps.specs.Holds as nodes_hold
use Rattle.store_host.specs.Holds.{is_up_there}
use Rattle.node_steps.specs.Rows.{RowsStay}
use Rattle.node_steps.specs.Steps as node_steps
use Rattle.node_steps.specs.Told.{AreOuts}
use Rattle.wire_steps.specs.declared.world.World.{World}
use Rattle.wire_steps.specs.Holds.{Holds, HoldsMemory, IsWorld}
use Rattle.wire_steps.specs.Reached.{IsReached}
use Rattle.wire_steps.specs.Kinds.{started}
use Rattle.wire_steps.specs.Sending.{outs_of, packets_in, IsToTell, IsTold, IsSendFault, IsOverFault}
use Rattle.wire_steps.specs.Starting.{if_down, Forgets, NotesOf, HasLostAll, Notes, noted_in}
use Rattle.wire_steps.specs.Steps.{IsMoved, IsStep, IsOver, IsUndone, Spends, may_begin}
use Rattle.wire_laws.proofs.Carried.{reached_world}
use Rattle.wire_steps.proofs.Handed.{reached_next, hosted_stays, step_sent, step_sizes}
use Rattle.wire_steps.proofs.Answered.{limit_apart, some_plans}
use Rattle.wire_steps.proofs.Told.{store_silent, client_silent}
use Rattle.wire_steps.proofs.Lasting.{Grows, last_self, grows_last, step_grows, client_start_lasts, store_start_clients}
use Rattle.wire_steps.proofs.Remembering.{Gathered, memory_grown, memory_noted, memory_started, memory_joined, memory_forgotten}

-- ---- the rows that facts tell as torn

pub noting_both : (xs ys : List (ℕ × List ℕ)) (a : Arriving) → noting (xs ++ ys) a ≡ noting ys (noting xs a)
noting_both [] ys a = refl
noting_both (x ∷ xs) ys a = noting_both xs ys _

pub noted_more : (fact : ToldFact) (more : List ToldFact) (a : Arriving) → noted_in (fact ∷ more) a ≡ noted_in more (noting (torn_by_fact (fact_of fact)) a)
noted_more fact more a = noting_both (torn_by_fact (fact_of fact)) (flat_map torn_by_fact (map fact_of more)) a

pub told_more : (out : Outbox) (moves : List Outbox) (a : Arriving) → noting (torn_told (out ∷ moves)) a ≡ noting (torn_told moves) (noting (flat_map torn_by_fact out.facts) a)
told_more out moves a = noting_both (flat_map torn_by_fact out.facts) (torn_told moves) a

-- what is left of a list from an item on
pub drop_item : {A : Type 0} (xs : List A) (i : ℕ) (x d : A) → i < length xs → x ≡ slice_index_or xs i d → drop i xs ≡ x ∷ drop (i + 1) xs
drop_item {A} xs i x d below is =
    let next : suc i ≡ i + 1 = omega arith in
    drop-cons xs i d below ∙ (ap (λ (y : A). y ∷ drop (suc i) xs) (sym is) ∙ ap (λ (k : ℕ). x ∷ drop k xs) next)

-- the Store tells none
store_tells : (fact : StoreFact) → torn_by_fact (store_facts.fact_of fact) ≡ []
store_tells (told_facts.Accepted table entry) = refl
store_tells (told_facts.Forward table entry) = refl
store_tells (told_facts.Back table version) = refl
store_tells (told_facts.Recovered store table) = refl
store_tells (told_facts.Made table) = refl
store_tells (told_facts.Unmade table) = refl
store_tells (told_facts.Saved table) = refl

store_tells_none : (facts : List StoreFact) → flat_map torn_by_fact (map store_facts.fact_of facts) ≡ []
store_tells_none [] = refl
store_tells_none (fact ∷ facts) = ap (λ (l : List (ℕ × List ℕ)). l ++ flat_map torn_by_fact (map store_facts.fact_of facts)) (store_tells fact) ∙ store_tells_none facts

pub store_torn : (some : List TableOut) → torn_told (stores.outs_in some) ≡ []
store_torn [] = refl
store_torn (out ∷ some) = ap (λ (l : List (ℕ × List ℕ)). l ++ torn_told (stores.outs_in some)) (store_tells_none out.out.facts) ∙ store_torn some

-- those that told and sent nothing told none
module _ (says : Outbox → Bool) (silent : (out : Outbox) → says out ≡ false → out.facts ≡ []) where
  said_torn : (moves : List Outbox) → torn_told (filter says moves) ≡ torn_told moves
  said_torn [] = refl
  said_torn (out ∷ moves) = go (says out) refl (said_torn moves)
    where
      go : (b : Bool) → says out ≡ b → torn_told (filter says moves) ≡ torn_told moves
          → torn_told (if b then out ∷ filter says moves else filter says moves) ≡ flat_map torn_by_fact out.facts ++ torn_told moves
      go true is rest = ap (λ (l : List (ℕ × List ℕ)). flat_map torn_by_fact out.facts ++ l) rest
      go false is rest = rest ∙ sym (ap (λ (fs : List Fact). flat_map torn_by_fact fs ++ torn_told moves) (silent out is))

pub outs_torn : (owners : ℕ → ℕ) (o : Outs) (moves : List Outbox) → AreOuts owners o moves → torn_told (outs_of owners o) ≡ torn_told moves
outs_torn owners outs.Nothing moves is = ap torn_told (sym is)
outs_torn owners (outs.OfStore some) moves is = ap torn_told is ∙ said_torn stores.says_something (λ out e. (store_silent out e).0) moves
outs_torn owners (outs.OfClients some) moves is = ap torn_told is ∙ said_torn hosts.says_something (λ out e. (client_silent out e).0) moves

-- ---- the step of the wire

abbrev pub kept_for : Option Node → WorldStep → Wire → Wire
kept_for None s v = v
kept_for (Some (nodes.Store number)) s v = v
kept_for (Some (nodes.Client c)) s v = with_arriving c (noting (torn_told s.outs) nothing_arriving) v
kept_for (Some (nodes.Gate gate)) s v = v

-- the wire with what is kept of parts where the nodes carry out an event
abbrev pub kept_by : Event → WorldStep → Wire → Wire
kept_by (events.Store number) s v = record v { gathered = [] }
kept_by (events.Start node) s v = kept_for (if_down v.world (Some node)) s v
kept_by other s v = v

module _ (v : Wire) (lucks : Lucks) where
  start_is : (node : Node) → let s : WorldStep = step v.world (events.Start node) lucks in
      wire_step v (events.Start node) lucks ≡ spread (kept_for (if_down v.world (Some node)) s v) s
  start_is (nodes.Store number) = go (is_down v.world (nodes.Store number))
    where
      s : WorldStep
      s = step v.world (events.Start (nodes.Store number)) lucks

      go : (b : Bool) → spread v s ≡ spread (kept_for (if b then Some (nodes.Store number) else None) s v) s
      go true = refl
      go false = refl
  start_is (nodes.Client c) = go (is_client_down (client_at v.world c))
    where
      s : WorldStep
      s = step v.world (events.Start (nodes.Client c)) lucks

      go : (b : Bool) → (if b then spread (with_arriving c (noting (torn_told s.outs) nothing_arriving) v) s else spread v s)
          ≡ spread (kept_for (if b then Some (nodes.Client c) else None) s v) s
      go true = refl
      go false = refl
  start_is (nodes.Gate gate) = refl

  pub own_is : (event : Event) → IsOwn event → wire_step v event lucks ≡ spread (kept_by event (step v.world event lucks) v) (step v.world event lucks)
  own_is (events.Deliver packet) own = absurd own
  own_is (events.Pull c table) own = absurd own
  own_is (events.Start node) own = start_is node
  own_is other own = refl

packets_for : (o : Option Node) (s : WorldStep) (v : Wire) → (kept_for o s v).packets ≡ v.packets
packets_for None s v = refl
packets_for (Some (nodes.Store number)) s v = refl
packets_for (Some (nodes.Client c)) s v = refl
packets_for (Some (nodes.Gate gate)) s v = refl

pub kept_packets : (event : Event) (s : WorldStep) (v : Wire) → (kept_by event s v).packets ≡ v.packets
kept_packets (events.Store number) s v = refl
kept_packets (events.Start node) s v = packets_for (if_down v.world (Some node)) s v
kept_packets other s v = refl

world_for : (o : Option Node) (s : WorldStep) (v : Wire) → (kept_for o s v).world ≡ v.world
world_for None s v = refl
world_for (Some (nodes.Store number)) s v = refl
world_for (Some (nodes.Client c)) s v = refl
world_for (Some (nodes.Gate gate)) s v = refl

pub kept_world : (event : Event) (s : WorldStep) (v : Wire) → (kept_by event s v).world ≡ v.world
kept_world (events.Store number) s v = refl
kept_world (events.Start node) s v = world_for (if_down v.world (Some node)) s v
kept_world other s v = refl

-- whether a device fault shows
pub own_fault : (v : Wire) (event : Event) (lucks : Lucks) → IsOwn event → is_wire_fault v event lucks ≡ is_device_fault v.world event lucks
own_fault v (events.Deliver packet) lucks own = absurd own
own_fault v (events.Pull c table) lucks own = absurd own
own_fault v (events.Start node) lucks own = ap (λ (s : WireStep). is_fault_answer s.answer) (own_is v lucks (events.Start node) tt)
own_fault v other lucks own = refl

-- ---- what is in memory then

module _ {D : Type 0} (state : D → DiskState) (v : Wire) (r : fair.IsReached v.world) (lucks : Lucks) (old new : World D) (o : Outs) (m : HoldsMemory v old.gathered old.arriving) where
  abbrev Remembers : Event → Option Node → Type 0
  Remembers event node = let s : WorldStep = step v.world event lucks in
      HoldsMemory (spread (kept_for node s v) s).wire new.gathered new.arriving

  joined : (number : ℕ) → HasLostAll old new
      → HoldsMemory (spread (record v { gathered = [] }) (step v.world (events.Store number) lucks)).wire new.gathered new.arriving
  joined number k = subst (λ (w : World D). HoldsMemory (spread (record v { gathered = [] }) (step v.world (events.Store number) lucks)).wire w.gathered w.arriving) (sym k.rest)
      (memory_joined v old.gathered old.arriving m (step v.world (events.Store number) lucks).world _ new.gathered k.none refl)

  grown : (event : Event) → Grows (λ q. ⊥) v.world (step v.world event lucks).world → new ≡ old → Remembers event None
  grown event g same = subst (λ (w : World D). HoldsMemory (spread v (step v.world event lucks)).wire w.gathered w.arriving) (sym same)
      (memory_grown v old.gathered old.arriving m (step v.world event lucks).world _ g)

  still_up : (number : ℕ) (declared : Bool)
      → Grows (λ q. ⊥) v.world (if declared && false then answering facts.Done (store_starts number lucks.calls v.world) else answered v.world facts.Done).world
  still_up number true = grows_last (λ q. ⊥) v.world v.world (last_self (λ q. ⊥) v.world)
  still_up number false = grows_last (λ q. ⊥) v.world v.world (last_self (λ q. ⊥) v.world)

  up_grows : (node : Node) → is_down v.world node ≡ false → Grows (λ q. ⊥) v.world (step v.world (events.Start node) lucks).world
  up_grows (nodes.Store number) up = subst
      (λ (b : Bool). Grows (λ q. ⊥) v.world (if has_store v.world number && b then answering facts.Done (store_starts number lucks.calls v.world) else answered v.world facts.Done).world)
      (sym up) (still_up number (has_store v.world number))
  up_grows (nodes.Client c) up = subst (λ (b : Bool). Grows (λ q. ⊥) v.world (if b then answering facts.Done (client_starts c lucks.shape lucks.calls v.world) else answered v.world facts.Done).world)
      (sym up) (grows_last (λ q. ⊥) v.world v.world (last_self (λ q. ⊥) v.world))
  up_grows (nodes.Gate gate) up = grows_last (λ q. ⊥) v.world v.world (last_self (λ q. ⊥) v.world)

  store_remembers : (number : ℕ) (b : Bool) → is_down v.world (nodes.Store number) ≡ b → Forgets (if b then Some (nodes.Store number) else None) v.world old → new ≡ old
      → Remembers (events.Start (nodes.Store number)) (if b then Some (nodes.Store number) else None)
  store_remembers number false down forgotten same = grown (events.Start (nodes.Store number)) (up_grows (nodes.Store number) down) same
  store_remembers number true down forgotten same =
      let s : WorldStep = step v.world (events.Start (nodes.Store number)) lucks in
      subst (λ (w : World D). HoldsMemory (spread v s).wire w.gathered w.arriving) (sym same)
      (memory_started v old.gathered old.arriving m s.world _ forgotten (λ t none. hosted_stays v.world r (events.Start (nodes.Store number)) lucks tt t none)
      (store_start_clients v.world number lucks))

  -- of a Store none is noted
  store_notes : (b : Bool) (number : ℕ) → NotesOf (if b then Some (nodes.Store number) else None) o old new → new ≡ old
  store_notes true number k = k
  store_notes false number k = k

  client_there : (c : ℕ) → is_down v.world (nodes.Client c) ≡ true → is_some (client_at v.world c) ≡ true
  client_there c down = go (client_at v.world c) refl
    where
      go : (o : Option Client) → client_at v.world c ≡ o → is_some o ≡ true
      go (Some node) at = refl
      go None at = absurd (true≢false (sym down ∙ ap is_client_down at))

  client_remembers : (c : ℕ) (owners : ℕ → ℕ) (b : Bool) → is_down v.world (nodes.Client c) ≡ b → torn_told (outs_of owners o) ≡ torn_told (step v.world (events.Start (nodes.Client c)) lucks).outs
      → NotesOf (if b then Some (nodes.Client c) else None) o old new → Remembers (events.Start (nodes.Client c)) (if b then Some (nodes.Client c) else None)
  client_remembers c owners false down torn same = grown (events.Start (nodes.Client c)) (up_grows (nodes.Client c) down) same
  client_remembers c owners true down torn k =
      let s : WorldStep = step v.world (events.Start (nodes.Client c)) lucks in
      let last = client_start_lasts v.world c lucks in
      subst (λ (w : World D). HoldsMemory (spread (with_arriving c (noting (torn_told s.outs) nothing_arriving) v) s).wire w.gathered w.arriving) (sym k.rest)
      (memory_noted v old.gathered old.arriving m s.world _ c (noting (torn_told s.outs) nothing_arriving) new.arriving k.it (grows_last (λ q. q ≡ c) v.world s.world last)
      (last.there c (client_there c down))
      (subst (λ (l : List (ℕ × List ℕ)). Keeps k.it (noting l nothing_arriving)) torn (k.keeps owners)) k.at)

  pub own_remembers : (event : Event) (owners : ℕ → ℕ) → IsOwn event → torn_told (outs_of owners o) ≡ torn_told (step v.world event lucks).outs
      → Forgets (if_down v.world (started event)) v.world old → Notes event (if_down v.world (started event)) o old new
      → HoldsMemory (spread (kept_by event (step v.world event lucks) v) (step v.world event lucks)).wire new.gathered new.arriving
  own_remembers (events.Store number) owners own torn f k = joined number k
  own_remembers (events.Deliver packet) owners own torn f k = absurd own
  own_remembers (events.Pull c table) owners own torn f k = absurd own
  own_remembers (events.Start (nodes.Store number)) owners own torn f k =
      store_remembers number (is_down v.world (nodes.Store number)) refl f (store_notes (is_down v.world (nodes.Store number)) number k)
  own_remembers (events.Start (nodes.Client c)) owners own torn f k = client_remembers c owners (is_down v.world (nodes.Client c)) refl torn k
  own_remembers (events.Start (nodes.Gate gate)) owners own torn f k = grown (events.Start (nodes.Gate gate)) (up_grows (nodes.Gate gate) refl) k
  own_remembers other owners own torn f k = grown other (step_grows v.world other lucks tt) k

-- ---- what tables that are down had gathered

pub up_is : (o : Option Hosted) → is_up_there o ≡ is_hosted_up o
up_is None = refl
up_is (Some hosted) = go hosted.store.agenda
  where
    go : (o : Option (List StoreTask)) → is_some o ≡ has_agenda o
    go None = refl
    go (Some tasks) = refl

pub forgotten_held : {D : Type 0} (state : D → DiskState) (v : Wire) (world : World D) → Holds state v world → (less : Gathered)
    → ((t : ℕ) → tree.get nat_cmp less t ≡ (if is_hosted_up (hosted_at v.world t) then tree.get nat_cmp world.gathered t else None)) → Holds state v (record world { gathered = less })
forgotten_held state v world h less at = record {
  nodes = h.nodes;
  packets = h.packets;
  memory = memory_forgotten v world.gathered world.arriving h.memory less at;
}

pub forgotten_none : (w : AWorld) (gathered less : Gathered) → ((t : ℕ) → tree.get nat_cmp less t ≡ (if is_hosted_up (hosted_at w t) then tree.get nat_cmp gathered t else None))
    → (t : ℕ) → is_hosted_up (hosted_at w t) ≡ false → tree.get nat_cmp less t ≡ None
forgotten_none w gathered less at t down = at t ∙ ap (λ (b : Bool). if b then tree.get nat_cmp gathered t else None) down

-- ---- an event that is told

module _ {D : Type 0} (state : D → DiskState) (images : D → ℕ → List ℕ → Type 0) (v : Wire) (r : fair.IsReached v.world) (event : Event) (built : IsBuilt event) (own : IsOwn event)
    (is_out : ℕ → Bool) (old mid : World D) (told : Told) (h : Holds state v old) (k : node_steps.IsStep state images v.world event told is_out old.nodes mid.nodes)
    (forgets : Forgets (if_down v.world (started event)) v.world old) (notes : Notes event (if_down v.world (started event)) told.outs (record old { nodes = mid.nodes }) mid) where
  forgets_behind : (o : Option Node) → Forgets o v.world old → Forgets o v.world (record old { nodes = mid.nodes })
  forgets_behind None f = tt
  forgets_behind (Some (nodes.Store number)) f = f
  forgets_behind (Some (nodes.Client c)) f = tt
  forgets_behind (Some (nodes.Gate gate)) f = tt

  abbrev its : WorldStep
  its = step v.world event k.lucks

  abbrev its_kept : Wire
  its_kept = kept_by event (step v.world event k.lucks) v

  pub its_memory : HoldsMemory (spread its_kept its).wire mid.gathered mid.arriving
  its_memory = own_remembers state v r k.lucks (record old { nodes = mid.nodes }) mid told.outs h.memory event (owner_of its.world) own
      (outs_torn (owner_of its.world) told.outs its.outs k.outs_are) (forgets_behind (if_down v.world (started event)) forgets) notes

  pub its_world : its_kept.world ≡ v.world
  its_world = kept_world event its v

  pub its_packets : its_kept.packets ≡ v.packets
  its_packets = kept_packets event its v

  pub its_network : mid.network ≡ old.network
  its_network = go event (if_down v.world (started event)) notes
    where
      rest : (o : Option Node) → NotesOf o told.outs (record old { nodes = mid.nodes }) mid → mid.network ≡ old.network
      rest None f = ap (λ (w : World D). w.network) f
      rest (Some (nodes.Store number)) f = ap (λ (w : World D). w.network) f
      rest (Some (nodes.Client c)) f = ap (λ (w : World D). w.network) f.rest
      rest (Some (nodes.Gate gate)) f = ap (λ (w : World D). w.network) f

      go : (e : Event) (o : Option Node) → Notes e o told.outs (record old { nodes = mid.nodes }) mid → mid.network ≡ old.network
      go (events.Store number) o f = ap (λ (w : World D). w.network) f.rest
      go other o f = rest o f

  abbrev pub own_tells : IsToTell state mid told
  own_tells = record {
    kept = kept_by event (step v.world event k.lucks) v;
    s = step v.world event k.lucks;
    reached = reached_next v.world event k.lucks r built;
    lines_are = k.lines_are;
    outs_are = k.outs_are;
    held = k.held;
    packets = subst (λ (ps : List PartPacket). HasPackets mid.network ps) (sym its_packets) (subst (λ (n : _). HasPackets n v.packets) (sym its_network) h.packets);
    memory = its_memory;
    sent = subst (λ (w : AWorld). its.world.packets ≡ w.packets ++ packets_in its.outs) (sym its_world) (step_sent v.world r event k.lucks);
    sizes = subst (λ (w : AWorld). (its.outs ≡ []) ⊎ (its.world.schemas ≡ w.schemas)) (sym its_world) (step_sizes v.world r event k.lucks);
  }

  its_step : wire_step v event k.lucks ≡ spread its_kept its
  its_step = own_is v k.lucks event own

  own_moved : (new : World D) → new.nodes ≡ mid.nodes → IsMoved state images v event k.lucks is_out old new
  own_moved new same = record {
    held = subst (λ (n : Nodes D). NodesHold state (wire_step v event k.lucks).wire.world n) (sym same)
        (subst (λ (s : WireStep). NodesHold state s.wire.world mid.nodes) (sym its_step) k.held);
    out = subst (λ (s : WireStep). AreOut is_out s.wire.world) (sym its_step) k.out;
    rose = λ e. subst (λ (n : Nodes D). node_faults.all_faults state old.nodes < node_faults.all_faults state n) (sym same) (k.rose (sym (own_fault v event k.lucks own) ∙ e));
    same = λ e. ap (λ (n : Nodes D). node_faults.all_faults state n) same ∙ k.same (sym (own_fault v event k.lucks own) ∙ e);
    rows = subst (λ (n : Nodes D). RowsStay state images v.world (wire_step v event k.lucks).wire.world old.nodes n) (sym same)
        (subst (λ (s : WireStep). RowsStay state images v.world s.wire.world old.nodes mid.nodes) (sym its_step) k.rows);
  }

  pub own_done : (new : World D) → new.nodes ≡ mid.nodes → (lines : List TextLine)
      → IsTold state (kept_by event (step v.world event k.lucks) v) (step v.world event k.lucks) lines new
      → IsStep state images v event lines is_out old new
  own_done new same lines t = record {
    lucks = k.lucks;
    lines_are = t.lines_are ∙ (ap (λ (ps : List PartPacket). lines_of (record v { packets = ps }) (spread its_kept its)) its_packets ∙ ap (lines_of v) (sym its_step));
    held = subst (λ (s : WireStep). Holds state s.wire new) (sym its_step) t.held;
    moved = own_moved new same;
  }

  pub own_over : (new : World D) → new.nodes ≡ mid.nodes
      → most_bytes < bytes_of (spread (kept_by event (step v.world event k.lucks) v) (step v.world event k.lucks)).wire.packets
      → IsOver state images v event is_out old new
  own_over new same over = record {
    lucks = k.lucks;
    over = subst (λ (s : WireStep). most_bytes < bytes_of s.wire.packets) (sym its_step) over;
    moved = own_moved new same;
  }

-- ---- and what comes of it: of the world before what it forgets

module _ {D : Type 0} (state : D → DiskState) (images : D → ℕ → List ℕ → Type 0) (v : Wire) (event : Event) (is_out : ℕ → Bool) (first old new : World D) (from : old.nodes ≡ first.nodes) where
  moved_first : (lucks : Lucks) → IsMoved state images v event lucks is_out old new → IsMoved state images v event lucks is_out first new
  moved_first lucks m = record {
    held = m.held;
    out = m.out;
    rose = λ is. subst (λ (n : Nodes D). node_faults.all_faults state n < node_faults.all_faults state new.nodes) from (m.rose is);
    same = λ is. m.same is ∙ ap (λ (n : Nodes D). node_faults.all_faults state n) from;
    rows = subst (λ (n : Nodes D). RowsStay state images v.world (wire_step v event lucks).wire.world n new.nodes) from m.rows;
  }

  step_first : (lines : List TextLine) → IsStep state images v event lines is_out old new → IsStep state images v event lines is_out first new
  step_first lines k = record { lucks = k.lucks; lines_are = k.lines_are; held = k.held; moved = moved_first k.lucks k.moved }

  over_first : IsOver state images v event is_out old new → IsOver state images v event is_out first new
  over_first k = record { lucks = k.lucks; over = k.over; moved = moved_first k.lucks k.moved }

module _ {D : Type 0} (state : D → DiskState) (images : D → ℕ → List ℕ → Type 0) (v : Wire) (r : fair.IsReached v.world) (event : Event) (built : IsBuilt event) (own : IsOwn event)
    (is_out : ℕ → Bool) (first old : World D) (from : old.nodes ≡ first.nodes) (after : Nodes D) (mid : World D) (told : Told) (h : Holds state v old)
    (k : node_steps.IsStep state images v.world event told is_out old.nodes after)
    (same : mid.nodes ≡ after) (node : Option Node) (is : node ≡ if_down v.world (started event)) (f : Forgets node v.world old)
    (noted : Notes event node told.outs (record old { nodes = after }) mid) where
  abbrev pub stepped_so : node_steps.IsStep state images v.world event told is_out old.nodes mid.nodes
  stepped_so = subst (λ (n : Nodes D). node_steps.IsStep state images v.world event told is_out old.nodes n) (sym same) k

  abbrev pub forgets_so : Forgets (if_down v.world (started event)) v.world old
  forgets_so = subst (λ (o : Option Node). Forgets o v.world old) is f

  abbrev pub notes_so : Notes event (if_down v.world (started event)) told.outs (record old { nodes = mid.nodes }) mid
  notes_so = subst (λ (o : Option Node). Notes event o told.outs (record old { nodes = mid.nodes }) mid) is
      (subst (λ (n : Nodes D). Notes event node told.outs (record old { nodes = n }) mid) (sym same) noted)

  abbrev pub carried_tells : IsToTell state mid told
  carried_tells = own_tells state images v r event built own is_out old mid told h stepped_so forgets_so notes_so

  pub carried_done : (new : World D) → new.nodes ≡ mid.nodes → (result : Result (List TextLine) WorldFault)
      → IfOk result (λ lines. IsTold state carried_tells.kept carried_tells.s lines new) → IfOk result (λ lines. IsStep state images v event lines is_out first new)
  carried_done new still (Ok lines) t =
      step_first state images v event is_out first old new from lines (own_done state images v r event built own is_out old mid told h stepped_so forgets_so notes_so new still lines t)
  carried_done new still (Err e) t = tt

  pub carried_over : (new : World D) → new.nodes ≡ mid.nodes → (result : Result (List TextLine) WorldFault)
      → IfErr result (IsOverFault (spread carried_tells.kept carried_tells.s).wire.packets)
      → IfErr result (λ e. (count : ℕ) → e ≡ LimitPassed 10 count → IsOver state images v event is_out first new)
  carried_over new still (Ok lines) t = tt
  carried_over new still (Err e) t = λ count ten.
      over_first state images v event is_out first old new from (own_over state images v r event built own is_out old mid told h stepped_so forgets_so notes_so new still (t count ten))

-- ---- limits and plans

within_more : (n count : ℕ) (w : AWorld) (c : ℕ) → node_steps.SpendsWithin n count w c → node_steps.SpendsWithin (suc (suc n)) count w c
within_more n count w c k = ⊎_elim (λ last. inl last) (λ most. inr (omega (arith, most))) k

number_more : (n : ℕ) (w : AWorld) (c : ℕ) → node_steps.SpendsNumber n w c → node_steps.SpendsNumber (suc (suc n)) w c
number_more n w c k = ⊎_elim (λ last. inl last) (λ most. inr (omega (arith, most))) k

at_more : (n : ℕ) (w : AWorld) (node : Node) → node_steps.SpendsAt n w node → node_steps.SpendsAt (suc (suc n)) w node
at_more n w (nodes.Client c) k = number_more n w c k
at_more n w (nodes.Store number) k = absurd k
at_more n w (nodes.Gate gate) k = absurd k

pub spends_more : (n : ℕ) (w : AWorld) (event : Event) → node_steps.Spends n w event → Spends n w event
spends_more n w (events.Write c table row x) k = number_more n w c k
spends_more n w (events.Edit c table row x) k = number_more n w c k
spends_more n w (events.Show c table row) k = number_more n w c k
spends_more n w (events.Sum c table row) k = number_more n w c k
spends_more n w (events.Sync c table) k = number_more n w c k
spends_more n w (events.Pull c table) k = number_more n w c k
spends_more n w (events.BeginCr c table) k = number_more n w c k
spends_more n w (events.Conflicts c table) k = number_more n w c k
spends_more n w (events.EndCr c table) k = number_more n w c k
spends_more n w (events.Resolve c table row version choice) k = number_more n w c k
spends_more n w (events.ResolveAll c table by) k = within_more n (length (client_pairs (client_at w c) table)) w c k
spends_more n w (events.Create node table) k = at_more n w node k
spends_more n w (events.Drop node table) k = at_more n w node k
spends_more n w (events.Ask c table) k = number_more n w c k
spends_more n w (events.Deliver packet) k = ⊎_elim (λ full. inl full) (λ c. inr (c.0, number_more n w c.0 c.1)) k
spends_more n w other k = absurd k

pub own_begins : (w : AWorld) (event : Event) → IsOwn event → may_begin w event ≡ node_steps.may_begin w event
own_begins w (events.Deliver packet) own = absurd own
own_begins w (events.ResolveAll c table by) own = refl
own_begins w other own = refl

-- ---- what the nodes didn't carry out

pub nodes_stand : {D : Type 0} (state : D → DiskState) (is_out : ℕ → Bool) (world : World D) → IsWorld state is_out world → nodes_hold.IsWorld state is_out world.nodes
nodes_stand state is_out world x = record {
  w = x.v.world;
  reached = reached_world x.v x.reached.run x.reached.built x.reached.is;
  held = x.held.nodes;
  out = x.out;
}

pub own_reached : (v : Wire) → IsReached v → fair.IsReached v.world
own_reached v r = reached_world v r.run r.built r.is

module _ {D : Type 0} (state : D → DiskState) (v : Wire) (event : Event) (old : World D) (h : Holds state v old) where
  pub own_undone : (is_out : ℕ → Bool) (first : World D) → old.nodes ≡ first.nodes → (after : Nodes D) → node_faults.IsUndone state v.world is_out old.nodes after
      → IsUndone state v is_out first (record old { nodes = after })
  own_undone is_out first from after k = record {
    held = record { nodes = k.held; packets = h.packets; memory = h.memory };
    out = k.out;
    same = k.same ∙ ap (λ (n : Nodes D). node_faults.all_faults state n) from;
  }

  -- a limit of the nodes isn't that of the network
  abbrev pub IsNodesLimit : WorldFault → Type 0
  IsNodesLimit e = (n : ℕ) → node_steps.HavePlansBelow state n old.nodes → (code count : ℕ) → e ≡ LimitPassed code count → (code ≡ 11) × node_steps.Spends n v.world event

  pub own_not_over : (images : D → ℕ → List ℕ → Type 0) (is_out : ℕ → Bool) (first new : World D) (e : WorldFault) → IsNodesLimit e
      → (count : ℕ) → e ≡ LimitPassed 10 count → IsOver state images v event is_out first new
  own_not_over images is_out first new e limit count is =
      let some = some_plans state v.world old.nodes h.nodes in
      absurd (limit_apart (node_steps.Spends some.0 v.world event) count e is (limit some.0 some.1))

  pub own_limit : (n : ℕ) (e : WorldFault) → IsNodesLimit e → node_steps.HavePlansBelow state n old.nodes
      → (code count : ℕ) → e ≡ LimitPassed code count → (code ≡ 10) ⊎ ((code ≡ 11) × Spends n v.world event)
  own_limit n e limit below code count is = let k = limit n below code count is in inr (k.0, spends_more n v.world event k.1)

pub own_plans : {D : Type 0} (state : D → DiskState) (w : AWorld) (event : Event) (n : ℕ) (mid new : Nodes D) → IsOwn event → new ≡ mid
    → node_steps.HavePlansBelow state (node_steps.may_begin w event + n) mid → node_steps.HavePlansBelow state (may_begin w event + n) new
own_plans {D} state w event n mid new own same k =
    subst (λ (m : ℕ). node_steps.HavePlansBelow state (m + n) new) (sym (own_begins w event own))
    (subst (λ (x : Nodes D). node_steps.HavePlansBelow state (node_steps.may_begin w event + n) x) (sym same) k)

-- ---- what wasn't told for memory, or for what would be sent

ten : (count code other : ℕ) → LimitPassed 10 count ≡ LimitPassed code other → code ≡ 10
ten count code other e = cc

module _ {T : Type 0} where
  pub sends_within : (P : Type 0) (result : Result T WorldFault) → IfErr result IsSendFault
      → IfErr result (λ e. (code count : ℕ) → e ≡ LimitPassed code count → (code ≡ 10) ⊎ P)
  sends_within P (Ok x) k = tt
  sends_within P (Err e) k = λ code count is. inl (⊎_elim (λ m. let both : Memory ≡ LimitPassed code count = sym m ∙ is in absurd cc)
      (λ l. ten l.0 code count (sym l.1 ∙ is)) k)

  pub sends_alone : (P : Type 0) (Q : WorldFault → Type 0) (result : Result T WorldFault) → IfErr result IsSendFault
      → IfErr result (λ e. e ≢ Memory → ((count : ℕ) → e ≢ LimitPassed 10 count) → Q e → P)
  sends_alone P Q (Ok x) k = tt
  sends_alone P Q (Err e) k = λ memory limit q. ⊎_elim (λ m. absurd (memory m)) (λ l. absurd (limit l.0 l.1)) k

  pub sends_counted : (before after : ℕ) (result : Result T WorldFault) → after ≡ before → IfErr result IsSendFault → IsCounted Depot before after result
  sends_counted before after (Ok x) same k = same
  sends_counted before after (Err e) same k = (λ depot. absurd (apart depot k), λ other. same)
    where
      apart : e ≡ Depot → IsSendFault e → ⊥
      apart depot f = ⊎_elim (λ m. let both : Memory ≡ Depot = sym m ∙ depot in absurd cc) (λ l. let both : LimitPassed 10 l.0 ≡ Depot = sym l.1 ∙ depot in absurd cc) f
