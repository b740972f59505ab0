-- A part that comes to a node which has to be read first: what was read, and what comes then, or how the node fell.
use Rattle.std.proofs.Common.{◌≡◌, inl, inr, ℕ, Bool, true, false, ◌∷◌, [], List, length, map, Option, Some, None, Result, refl, sym, ◌∙◌, ap, subst}
use Rattle.std.specs.Prelude.{◌==◌, ◌&&◌, IfOk, IfErr, option_map, slice_get}
use Rattle.disk_trait.specs.Calls.{DiskState}
use Rattle.disk_trait.specs.Image.{IsImage}
use Rattle.stab_base.specs.declared.node.Node.{Node}
use Rattle.stab_base.specs.declared.node.Node.TheVariants as nodes
use Rattle.table_model.specs.declared.event.Event.TheVariants as events
use Rattle.table_model.specs.declared.line.TextLine.{TextLine}
use Rattle.table_model.specs.declared.message.Message.{Message}
use Rattle.step_tables.specs.Facts as facts
use Rattle.step_tables.specs.Facts.{AnswerLine}
use Rattle.step_tables.specs.Lines.{line_of}
use Rattle.step_tables.specs.Messages as messages
use Rattle.world_tables.specs.Ready.{is_table_ready}
use Rattle.world_tables.specs.World.{World as AWorld, Moved, owner_of, client_at, answering, failing, store_falls, client_falls, no_lucks}
use Rattle.message_parts.specs.Parts.{part_of}
use Rattle.part_network.specs.Packets.{part_in, part_with}
use Rattle.journal_host.specs.Calls.{has_table}
use Rattle.wire_tables.specs.Wire.{PartPacket, Wire, part_table, any_of, spread, delivered, wire_step}
use Rattle.wire_laws.specs.Carried.{IsFallen, IsFallenStore, IsFallenClient, TakesNothing}
use Rattle.part_store.specs.declared.view.RowView.{RowView}
use Rattle.node_steps.specs.declared.fault.WorldFault.{WorldFault}
use Rattle.node_steps.specs.declared.told.Told.{Told}
use Rattle.node_steps.specs.declared.world.World.{World as Nodes}
use Rattle.node_steps.specs.Reads.{HasFound, HasFallen}
use Rattle.wire_steps.specs.declared.world.World.{World}
use Rattle.wire_steps.specs.Reached.{IsReached}
use Rattle.wire_steps.specs.Holds.{Holds, HoldsMemory}
use Rattle.wire_steps.specs.Calls.{Comes, Ends, IsToCarry, bring_step}
use Rattle.wire_steps.specs.Delivering.{IsSentPart, IsBrought, IsOfTable, IsSeenOf, IsViewFor, IsOfClient, IsOpenedAt, delivery, takes_at}
use Rattle.wire_steps.specs.Sending.{IsToTell, IsTold, IsSendFault, IsOverFault}
use Rattle.wire_steps.specs.Views.{HasSeen, HasLost}
use Rattle.wire_steps.proofs.Answered.{told_comes, told_ends, seen_holds, comes_then, ends_then, comes_as, ends_as, still_comes}
use Rattle.wire_steps.proofs.Seen.{left_alone, found_seen, fall_lost}
use Rattle.wire_steps.proofs.Viewed.{ready_client, takes_both, opened_there, not_opened}
use Rattle.wire_steps.proofs.Delivered.{failed, wire_reached, untaken_carry, untaken_is, fallen_store, fallen_client, store_fell_memory, client_fell_memory, lost_tells, lost_behind}

-- ---- a node that falls where it is read

module _ {D : Type 0} (state : D → DiskState) (images : D → ℕ → List ℕ → Type 0) (v : Wire) (from to : Node) (p : PartPacket) (sent : IsSentPart v from to p) (falls : Moved)
    (k : IsFallen v sent.number failed falls) (old mid : World D) (told : Told) (h : Holds state v old) (lost : HasLost state images v falls old mid told)
    (m : HoldsMemory (spread k.kept (answering facts.Done (failing falls))).wire old.gathered old.arriving) where
  abbrev pub fall_tells : IsToTell state mid told
  fall_tells = lost_tells state images v sent.number falls k old mid told h lost (wire_reached v sent.reached) m

  module _ (new : World D) (same : new.nodes ≡ mid.nodes) (result : Result (List TextLine) WorldFault) where
    pub fall_comes : IfOk result (λ lines. IsTold state k.kept (answering facts.Done (failing falls)) lines new) → Comes state images v (delivery v sent) result old new
    fall_comes t = told_comes state images v (delivery v sent) old new k.kept (answering facts.Done (failing falls)) mid.nodes failed k.step_is same
        (lost_behind state images v sent.number falls k old mid told h lost (wire_reached v sent.reached)) k.packets result t

    pub fall_ends : IfErr result (IsOverFault (spread k.kept (answering facts.Done (failing falls))).wire.packets) → IfErr result IsSendFault
        → Ends state images v (delivery v sent) result old new
    fall_ends over only = told_ends state images v (delivery v sent) old new k.kept (answering facts.Done (failing falls)) mid.nodes failed k.step_is same
        (lost_behind state images v sent.number falls k old mid told h lost (wire_reached v sent.reached)) result over only

-- ---- at a table

module _ {D : Type 0} (state : D → DiskState) (images : D → ℕ → List ℕ → Type 0) (old mid : World D) (store : ℕ) (from : Node) (table : ℕ) (part : Message)
    (x : IsOfTable state old store from table part) where
  module _ (view : RowView) (seen : HasSeen state images x.brought.v (IsViewFor x.brought.v table x.brought.p.part) old mid view) where
    abbrev pub seen_of : IsSeenOf state mid store from table view part
    seen_of = record {
      of_table = record {
        brought = record {
          v = x.brought.v;
          held = seen_holds state images x.brought.v (IsViewFor x.brought.v table x.brought.p.part) old mid view x.brought.held seen;
          p = x.brought.p;
          sent = x.brought.sent;
          part_is = x.brought.part_is;
        };
        table_is = x.table_is;
        takes = x.takes;
      };
      view = seen.found;
    }

    module _ (new : World D) (result : Result (List TextLine) WorldFault) where
      pub seen_comes : Comes state images x.brought.v (delivery x.brought.v x.brought.sent) result mid new → Comes state images x.brought.v (delivery x.brought.v x.brought.sent) result old new
      seen_comes k = comes_then state images x.brought.v (IsViewFor x.brought.v table x.brought.p.part) old mid view x.brought.held seen (delivery x.brought.v x.brought.sent) new result k

      pub seen_ends : Ends state images x.brought.v (delivery x.brought.v x.brought.sent) result mid new → Ends state images x.brought.v (delivery x.brought.v x.brought.sent) result old new
      seen_ends k = ends_then state images x.brought.v (IsViewFor x.brought.v table x.brought.p.part) old mid view x.brought.held seen (delivery x.brought.v x.brought.sent) new result k

  pub takes_there : takes_at x.brought.v.world store (part_table x.brought.p.part) ≡ true
  takes_there = subst (λ (t : ℕ). takes_at x.brought.v.world store t ≡ true) x.table_is x.takes

  pub store_ready : is_table_ready x.brought.v.world table ≡ true
  store_ready = (takes_both x.brought.v.world store table x.takes).1

  abbrev pub store_fell : IsFallenStore x.brought.v x.brought.sent.number failed (part_table x.brought.p.part)
  store_fell = fallen_store x.brought.v store from x.brought.p x.brought.sent takes_there

  abbrev pub falls_there : Moved
  falls_there = store_falls (owner_of x.brought.v.world (part_table x.brought.p.part)) x.brought.v.world

  pub store_memory : HoldsMemory (spread store_fell.fallen.kept (answering facts.Done (failing falls_there))).wire old.gathered old.arriving
  store_memory = store_fell_memory state x.brought.v old x.brought.held x.brought.sent.number (part_table x.brought.p.part)
      (takes_both x.brought.v.world store (part_table x.brought.p.part) takes_there).1 store_fell

  module _ (told : Told) (lost : HasLost state images x.brought.v (store_falls (owner_of x.brought.v.world table) x.brought.v.world) old mid told) where
    pub lost_there : HasLost state images x.brought.v falls_there old mid told
    lost_there = subst (λ (t : ℕ). HasLost state images x.brought.v (store_falls (owner_of x.brought.v.world t) x.brought.v.world) old mid told) x.table_is lost

    abbrev pub table_tells : IsToTell state mid told
    table_tells = fall_tells state images x.brought.v from (nodes.Store store) x.brought.p x.brought.sent falls_there store_fell.fallen old mid told x.brought.held lost_there store_memory

    module _ (new : World D) (same : new.nodes ≡ mid.nodes) (result : Result (List TextLine) WorldFault) where
      pub table_comes : IfOk result (λ lines. IsTold state table_tells.kept table_tells.s lines new) → Comes state images x.brought.v (delivery x.brought.v x.brought.sent) result old new
      table_comes t = fall_comes state images x.brought.v from (nodes.Store store) x.brought.p x.brought.sent falls_there store_fell.fallen old mid told x.brought.held lost_there
          store_memory new same result t

      pub table_ends : IfErr result (IsOverFault (spread table_tells.kept table_tells.s).wire.packets) → IfErr result IsSendFault
          → Ends state images x.brought.v (delivery x.brought.v x.brought.sent) result old new
      table_ends over only = fall_ends state images x.brought.v from (nodes.Store store) x.brought.p x.brought.sent falls_there store_fell.fallen old mid told x.brought.held lost_there
          store_memory new same result over only

-- ---- at a client

module _ {D : Type 0} (state : D → DiskState) (images : D → ℕ → List ℕ → Type 0) (old mid : World D) (c : ℕ) (from : Node) (table : ℕ) (part : Message)
    (x : IsOfClient state old c from table part) where
  abbrev pub client_fell : IsFallenClient x.brought.v x.brought.sent.number failed c
  client_fell = fallen_client x.brought.v c from x.brought.p x.brought.sent x.ready

  pub client_memory : HoldsMemory (spread client_fell.fallen.kept (answering facts.Done (failing (client_falls c x.brought.v.world)))).wire old.gathered old.arriving
  client_memory = client_fell_memory state x.brought.v old x.brought.held x.brought.sent.number c client_fell

  module _ (told : Told) (lost : HasLost state images x.brought.v (client_falls c x.brought.v.world) old mid told) where
    abbrev pub client_tells : IsToTell state mid told
    client_tells = fall_tells state images x.brought.v from (nodes.Client c) x.brought.p x.brought.sent (client_falls c x.brought.v.world) client_fell.fallen old mid told x.brought.held lost client_memory

    module _ (new : World D) (same : new.nodes ≡ mid.nodes) (result : Result (List TextLine) WorldFault) where
      pub client_comes : IfOk result (λ lines. IsTold state client_tells.kept client_tells.s lines new) → Comes state images x.brought.v (delivery x.brought.v x.brought.sent) result old new
      client_comes t = fall_comes state images x.brought.v from (nodes.Client c) x.brought.p x.brought.sent (client_falls c x.brought.v.world) client_fell.fallen old mid told x.brought.held lost
          client_memory new same result t

      pub client_ends : IfErr result (IsOverFault (spread client_tells.kept client_tells.s).wire.packets) → IfErr result IsSendFault
          → Ends state images x.brought.v (delivery x.brought.v x.brought.sent) result old new
      client_ends over only = fall_ends state images x.brought.v from (nodes.Client c) x.brought.p x.brought.sent (client_falls c x.brought.v.world) client_fell.fallen old mid told x.brought.held lost
          client_memory new same result over only

  -- what was read of it leaves the world as it was
  module _ {T : Type 0} (is : T → Type 0) (found : T) (seen : HasSeen state images x.brought.v is old mid found) where
    abbrev pub still_of : IsOfClient state mid c from table part
    still_of = record {
      brought = record {
        v = x.brought.v;
        held = seen_holds state images x.brought.v is old mid found x.brought.held seen;
        p = x.brought.p;
        sent = x.brought.sent;
        part_is = x.brought.part_is;
      };
      table_is = x.table_is;
      ready = x.ready;
    }

    module _ (new : World D) (result : Result (List TextLine) WorldFault) where
      pub still_goes : Comes state images x.brought.v (delivery x.brought.v x.brought.sent) result mid new → Comes state images x.brought.v (delivery x.brought.v x.brought.sent) result old new
      still_goes k = comes_then state images x.brought.v is old mid found x.brought.held seen (delivery x.brought.v x.brought.sent) new result k

      pub still_ends : Ends state images x.brought.v (delivery x.brought.v x.brought.sent) result mid new → Ends state images x.brought.v (delivery x.brought.v x.brought.sent) result old new
      still_ends k = ends_then state images x.brought.v is old mid found x.brought.held seen (delivery x.brought.v x.brought.sent) new result k

-- ---- a part by the node that it is for

module _ {D : Type 0} (state : D → DiskState) (world : World D) (from to : Node) (part : Message) (x : IsBrought state world from to part) where
  abbrev pub at_node : (other : Node) → to ≡ other → IsBrought state world from other part
  at_node other is = record {
    v = x.v;
    held = x.held;
    p = x.p;
    sent = record { reached = x.sent.reached; number = x.sent.number; at = x.sent.at; from_is = x.sent.from_is; to_is = x.sent.to_is ∙ is };
    part_is = x.part_is;
  }

-- ---- a node that takes nothing of the table: whichever message it is handed, its delivery is that of the part

module _ {D : Type 0} (state : D → DiskState) (world : World D) (from to : Node) (part : Message) (x : IsBrought state world from to part) (table : ℕ) (table_is : table ≡ part_table x.p.part)
    (m : messages.Message) (is : m ≡ any_of table) (nothing : TakesNothing x.v.world table to) where
  pub nothing_there : TakesNothing x.v.world (part_table x.p.part) to
  nothing_there = subst (λ (t : ℕ). TakesNothing x.v.world t to) table_is nothing

  pub any_is : m ≡ any_of (part_table x.p.part)
  any_is = is ∙ ap any_of table_is

  abbrev pub idle_carry : IsToCarry state world from to m
  idle_carry = untaken_carry state world x.v x.held from to x.p x.sent nothing_there m any_is

  module _ (images : D → ℕ → List ℕ → Type 0) (new : World D) (result : Result (List TextLine) WorldFault) where
    pub idle_comes : Comes state images x.v (bring_step x.v from to m) result world new → Comes state images x.v (delivery x.v x.sent) result world new
    idle_comes k = comes_as state images x.v x.v (delivery x.v x.sent) (bring_step x.v from to m) result world world new refl refl refl
        (λ lucks. untaken_is state world x.v x.held from to x.p x.sent nothing_there m any_is lucks) k

    pub idle_ends : Ends state images x.v (bring_step x.v from to m) result world new → Ends state images x.v (delivery x.v x.sent) result world new
    idle_ends k = ends_as state images x.v x.v (delivery x.v x.sent) (bring_step x.v from to m) result world world new refl refl
        (λ lucks. untaken_is state world x.v x.held from to x.p x.sent nothing_there m any_is lucks) k

-- a Store was asked whether it takes a part
pub takes_so : (w : AWorld) (store table : ℕ) (takes : Bool) → takes ≡ takes_at w store table → takes ≡ true → takes_at w store table ≡ true
takes_so w store table takes is so = sym is ∙ so

-- a Store takes nothing of a table that it doesn't keep, or that takes no messages
pub store_takes_nothing : (w : AWorld) (store table : ℕ) (takes : Bool) → takes ≡ takes_at w store table → takes ≡ false → TakesNothing w table (nodes.Store store)
store_takes_nothing w store table takes is none = go (owner_of w table == store) refl (sym is ∙ none)
  where
    go : (b : Bool) → (owner_of w table == store) ≡ b → (b && is_table_ready w table) ≡ false → TakesNothing w table (nodes.Store store)
    go true is ready = inl ready
    go false is ready = inr is

-- a gateway takes nothing
pub gate_takes_nothing : (w : AWorld) (table : ℕ) (to : Node) (gate : ℕ) → to ≡ nodes.Gate gate → TakesNothing w table to
gate_takes_nothing w table to gate is = subst (TakesNothing w table) (sym is) tt

-- ---- whether a client has the table opened

module _ {D : Type 0} (state : D → DiskState) (images : D → ℕ → List ℕ → Type 0) (only_now : (disk : D) (image : List ℕ) → images disk (state disk).moment image → IsImage (state disk).pending image)
    (old : World D) (c : ℕ) (from : Node) (table : ℕ) (part : Message) (x : IsOfClient state old c from table part) (mid : Nodes D) (store : mid.store ≡ old.nodes.store) where
  module _ (found : Bool) (read : HasFound state x.brought.v.world (λ (f : Bool). f ≡ has_table (client_at x.brought.v.world c) table) old.nodes mid found) where
    pub opened_seen : HasSeen state images x.brought.v (λ (f : Bool). f ≡ has_table (client_at x.brought.v.world c) table) old (record old { nodes = mid }) found
    opened_seen =
        found_seen state images x.brought.v old mid (left_alone state images only_now x.brought.v old x.brought.held mid store)
        (λ (f : Bool). f ≡ has_table (client_at x.brought.v.world c) table) found read

    abbrev pub told_of : IsOfClient state (record old { nodes = mid }) c from table part
    told_of = still_of state images old (record old { nodes = mid }) c from table part x (λ (f : Bool). f ≡ has_table (client_at x.brought.v.world c) table) found opened_seen

    pub opened_then : found ≡ true → IsOpenedAt x.brought.v c table
    opened_then is =
        let k = opened_there x.brought.v.world c table (sym is ∙ opened_seen.found) in record { node = k.node; there = k.there; opened = k.opened; at = k.at; free = k.free }

    pub unopened_then : found ≡ false → TakesNothing x.brought.v.world table (nodes.Client c)
    unopened_then is =
        let k = ready_client x.brought.v.world c x.ready in
        inr (record { node = k.node; there = k.there; none = not_opened x.brought.v.world c table k.node k.there (sym is ∙ opened_seen.found) })

  pub opening_lost : (told : Told) → HasFallen state x.brought.v.world (client_falls c x.brought.v.world) old.nodes mid told
      → HasLost state images x.brought.v (client_falls c x.brought.v.world) old (record old { nodes = mid }) told
  opening_lost told fallen = fall_lost state images x.brought.v old mid (left_alone state images only_now x.brought.v old x.brought.held mid store) (client_falls c x.brought.v.world) told fallen

-- ---- no packet of the number was sent

both_same : {A B : Type 0} (a c : A) (b d : B) → ◌≡◌ {A = Option (A × B)} (Some (a, b)) (Some (c, d)) → (a ≡ c) × (b ≡ d)
both_same {A} {B} a c b d e =
    let pair : ◌≡◌ {A = A × B} (a, b) (c, d) = cc in (ap (λ (p : A × B). p.0) pair, ap (λ (p : A × B). p.1) pair)

one_same : {A : Type 0} (a c : A) → Some a ≡ Some c → a ≡ c
one_same a c e = cc

none_of : {A B : Type 0} (f : A → B) (o : Option A) → option_map f o ≡ None → o ≡ None
none_of f None e = refl
none_of f (Some x) e = absurd cc

module _ {D : Type 0} (state : D → DiskState) (images : D → ℕ → List ℕ → Type 0) (only_now : (disk : D) (image : List ℕ) → images disk (state disk).moment image → IsImage (state disk).pending image)
    (v : Wire) (world : World D) (h : Holds state v world) (number : ℕ) where
  pub absent_comes : {B : Type 0} (f : PartPacket → B) → option_map f (slice_get v.packets number) ≡ None → (result : Result (List TextLine) WorldFault)
      → IfOk result (λ lines. map line_of lines ≡ AnswerLine (facts.Refuses (facts.NoPacket (length v.packets))) ∷ []) → Comes state images v (wire_step v (events.Deliver number)) result world world
  absent_comes f none result lines = still_comes state images only_now v v (facts.Refuses (facts.NoPacket (length v.packets))) refl world world refl refl refl h
      (wire_step v (events.Deliver number)) (ap (delivered v no_lucks) (none_of f (slice_get v.packets number) none)) result lines

  -- ---- a packet that was read

  module _ (r : IsReached v) (from to : Node) (part : Message) (address : Some to ≡ option_map (λ (p : PartPacket). p.to) (slice_get v.packets number))
      (read : option_map part_in (Some (from, part)) ≡ option_map part_with (slice_get v.packets number)) where
    abbrev Stands : Type 0
    Stands = (p : PartPacket) × (slice_get v.packets number ≡ Some p) × (p.from ≡ from) × (p.to ≡ to) × (part_of part ≡ Some p.part)

    pub stands : Stands
    stands = go (slice_get v.packets number) refl address read
      where
        go : (o : Option PartPacket) → slice_get v.packets number ≡ o → Some to ≡ option_map (λ (p : PartPacket). p.to) o → option_map part_in (Some (from, part)) ≡ option_map part_with o → Stands
        go None at a e = absurd cc
        go (Some p) at a e =
            let k = both_same from p.from (part_of part) (Some p.part) e in (p, at, sym k.0, sym (one_same to p.to a), k.1)

    abbrev pub read_part : IsBrought state world from to part
    read_part = record {
      v = v;
      held = h;
      p = stands.0;
      sent = record { reached = r; number = number; at = stands.1; from_is = stands.2; to_is = stands.3 };
      part_is = stands.4;
    }
