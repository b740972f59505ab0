-- What a client has of its gateway is another: its session, and its link that goes up or down.
use Rattle.std.proofs.Common.{◌≡◌, ⊎_elim, ℕ, ◌+◌, Bool, true, false, cond, List, [], ◌∷◌, ◌++◌, map, Option, Some, None, Result, Ok, Err, refl, sym, ◌∙◌, ap, subst, arith, true≢false}
use Rattle.std.specs.Prelude.{is_some, option_map, OnOk, if◌then◌else◌}
use Rattle.std.specs.Ordering.{nat_cmp}
use Rattle.std.specs.BTreeMap as tree
use Rattle.std.specs.BTreeMap.{is_at, insert_entry}
use Rattle.disk_trait.specs.Calls.{DiskState}
use Rattle.disk_trait.specs.Image.{IsImage}
use Rattle.row_store.specs.Spelling.{IsClient}
use Rattle.fair_laws.proofs.Hosting.{all_after}
use Rattle.stab_base.specs.declared.node.Node.TheVariants as nodes
use Rattle.step_tables.specs.Facts.{AnswerLine}
use Rattle.step_tables.specs.Facts as facts
use Rattle.step_tables.specs.Lines.{line_of}
use Rattle.table_model.specs.declared.event.Event.TheVariants as events
use Rattle.table_model.specs.declared.line.TextLine.{TextLine}
use Rattle.world_laws.proofs.Looks.{look_cases}
use Rattle.world_tables.specs.Faults.{is_fault_answer}
use Rattle.world_tables.specs.World.{World as AWorld, Lucks, client_at, is_client_down, with_link}
use Rattle.gate_host.specs.Holds.{HoldsGates}
use Rattle.gated_tables.specs.Devices.{Device, is_online}
use Rattle.gated_tables.specs.Net.{Net, NetStep, cutting, device_at, with_device, linked, relinked, restarted, refused, still, asks_session, asks_again}
use Rattle.node_steps.specs.declared.fault.WorldFault.{WorldFault}
use Rattle.node_steps.specs.declared.world.World.{World as Nodes}
use Rattle.node_steps.specs.Holds.{Holds as NodesHold}
use Rattle.node_steps.specs.Links as node_links
use Rattle.wire_steps.specs.declared.world.World as wire_world
use Rattle.wire_steps.specs.Holds as holds
use Rattle.wire_steps.specs.Links.{link_set}
use Rattle.wire_steps.specs.Sending.{IsSendFault}
use Rattle.wire_steps.proofs.Answered.{plans_later}
use Rattle.wire_steps.proofs.Maps.{put_here, put_other}
use Rattle.net_steps.specs.declared.device.Device as kept
use Rattle.net_steps.specs.declared.world.World.{World}
use Rattle.net_steps.specs.Calls.{Comes, Overruns, IsCarriedOn}
use Rattle.net_steps.specs.Delivering.{Delivers, IsLinkedIn}
use Rattle.net_steps.specs.Carrying.{AreSent, IsOverFault}
use Rattle.net_steps.specs.Askers.{AreAsked}
use Rattle.net_steps.specs.Devices.{HoldsDevices, device_of}
use Rattle.net_steps.specs.Holds.{Holds, AreShort}
use Rattle.net_steps.specs.Steps.{IsMoved, HavePlansBelow, all_faults}
use Rattle.net_steps.specs.Through.{IsGated, restarted_if}
use Rattle.net_steps.proofs.Delivered.{delivers_as}
use Rattle.net_steps.proofs.Moved.{linked_moved}
use Rattle.net_steps.proofs.Routed.{register_short}
use Rattle.net_steps.proofs.Sessions.{is_there, is_client, sends_delivers, sends_fails}
use Rattle.net_steps.proofs.Started.{device_sent}

-- ---- a map of devices behind one change

module _ (devices : List (ℕ × Device)) (old new : tree.BTreeMap ℕ kept.Device) (c : ℕ) (x : kept.Device) where
  pub devices_put : HoldsDevices devices old → ((q : ℕ) → tree.get nat_cmp new q ≡ cond (is_at (nat_cmp c) q) (Some x) (tree.get nat_cmp old q))
      → HoldsDevices (insert_entry nat_cmp devices c (device_of x)) new
  devices_put h at q = ⊎_elim
      (λ e. e.1 ∙ sym (ap (option_map device_of) (ap (tree.get nat_cmp new) e.0 ∙ put_here old new c x at)))
      (λ e. e.1 ∙ (h q ∙ sym (ap (option_map device_of) (put_other old new c x at q e.0))))
      (look_cases devices c (device_of x) q)

-- which one it was
pub found_device : (o : Option Device) (held : Option kept.Device) (x : kept.Device) → o ≡ option_map device_of held → held ≡ Some x → o ≡ Some (device_of x)
found_device o held x at is = at ∙ ap (option_map device_of) is

pub no_device : (o : Option Device) (held : Option kept.Device) → o ≡ option_map device_of held → held ≡ None → o ≡ None
no_device o held at is = at ∙ ap (option_map device_of) is

-- ---- what is held behind it

pub some_of : {X : Type 0} (o : Option X) → is_some o ≡ true → (x : X) × (o ≡ Some x)
some_of None e = absurd (true≢false (sym e))
some_of (Some x) e = (x, refl)

pub has_device : (o : Option Device) (held : Option kept.Device) → o ≡ option_map device_of held → is_some held ≡ true → (d : Device) × (o ≡ Some d)
has_device o None at e = absurd (true≢false (sym e))
has_device o (Some x) at e = (device_of x, at)

pub lacks_device : (o : Option Device) (held : Option kept.Device) → o ≡ option_map device_of held → is_some held ≡ false → o ≡ None
lacks_device o None at e = at
lacks_device o (Some x) at e = absurd (true≢false e)

pub ok_as : {T E P Q : Type 0} (result : Result T E) → (P → Q) → OnOk result P → OnOk result Q
ok_as (Ok x) f p = f p
ok_as (Err e) f p = tt

module _ (n : Net) (c : ℕ) (d : Device) where
  -- the world of the wire
  pub cut_world : node_links.link_set c (is_online d) n.wire.world ≡ (with_device c d n).wire.world
  cut_world = go (is_client_down (client_at n.wire.world c))
    where
      m : Net
      m = record n { devices = insert_entry nat_cmp n.devices c d }

      go : (b : Bool) → (if b then n.wire.world else with_link c (is_online d) n.wire.world) ≡ (λ (x : Net). x.wire.world) (if b then m else record m { wire = cutting c (is_online d) n.wire })
      go true = refl
      go false = refl

module _ {D : Type 0} (state : D → DiskState) (n : Net) (c : ℕ) (d : Device) where
  linked_gates : (up : Bool) (gs : _) (gates : _) → HoldsGates n.wire.world.stores n.wire.world.schemas gs gates → HoldsGates (with_link c up n.wire.world).stores (with_link c up n.wire.world).schemas gs gates
  linked_gates true gs gates h = h
  linked_gates false gs gates h = h

  pub device_held : (old : World D) → Holds state n old → IsClient c → (devices : tree.BTreeMap ℕ kept.Device) → HoldsDevices (insert_entry nat_cmp n.devices c d) devices
      → (wire : wire_world.World D) → holds.Holds state (link_set c (is_online d) n.wire) wire → Holds state (with_device c d n) (record old { wire = wire; devices = devices })
  device_held old h client devices put wire held = go (is_client_down (client_at n.wire.world c)) held
    where
      m : Net
      m = record n { devices = insert_entry nat_cmp n.devices c d }

      numbered : (q : ℕ) (e : Device) → device_at (record n { devices = insert_entry nat_cmp n.devices c d }) q ≡ Some e → IsClient q
      numbered = all_after (λ (q : ℕ) (e : Device). IsClient q) n.devices c d client h.numbered

      asked : (up : Bool) → AreAsked n.askers (with_link c up n.wire.world).schemas
      asked true = h.asked
      asked false = h.asked

      go : (b : Bool) → holds.Holds state (if b then n.wire else cutting c (is_online d) n.wire) wire
          → Holds state (if b then m else record m { wire = cutting c (is_online d) n.wire }) (record old { wire = wire; devices = devices })
      go true k = record { wire = k; gates = h.gates; devices = put; sent = h.sent; short = h.short; bytes = h.bytes; numbered = numbered; askers = h.askers; asked = h.asked }
      go false k = record {
        wire = k;
        gates = linked_gates (is_online d) n.gates old.gates h.gates;
        devices = put;
        sent = h.sent;
        short = h.short;
        bytes = h.bytes;
        numbered = numbered;
        askers = h.askers;
        asked = asked (is_online d);
      }

-- ---- a client that was down has no session

module _ {D : Type 0} (state : D → DiskState) (n : Net) (c : ℕ) (new : World D) (was_down : Bool) where
  pub forgotten : was_down ≡ true → (o : Option Device) → device_at n c ≡ o → Holds state (restarted c o n) new → Holds state (restarted_if was_down c n) new
  forgotten is o at h =
      subst (λ (b : Bool). Holds state (restarted_if b c n) new) (sym is) (subst (λ (x : Option Device). Holds state (restarted c x n) new) (sym at) h)

  pub not_forgotten : was_down ≡ false → Holds state n new → Holds state (restarted_if was_down c n) new
  not_forgotten is h = subst (λ (b : Bool). Holds state (restarted_if b c n) new) (sym is) h

-- one that is online has a token
pub off_line : (d : Device) → is_online (record d { token = None }) ≡ false
off_line d = go d.linked
  where
    go : (b : Bool) → is_online (record d { linked = b; token = None }) ≡ false
    go true = refl
    go false = refl

-- it is cut off
pub cut_down : {D : Type 0} (state : D → DiskState) (m : Net) (c : ℕ) (d : Device) → device_at m c ≡ Some d → (at_work : Nodes D)
    → NodesHold state (node_links.link_set c false m.wire.world) at_work → NodesHold state (restarted_if true c m).wire.world at_work
cut_down state m c d at at_work h =
    subst (λ (o : Option Device). NodesHold state (restarted c o m).wire.world at_work) (sym at)
    (subst (λ (w : AWorld). NodesHold state w at_work) (cut_world m c (record d { token = None }))
    (subst (λ (b : Bool). NodesHold state (node_links.link_set c b m.wire.world) at_work) (sym (off_line d)) h))

pub uncut : {D : Type 0} (state : D → DiskState) (m : Net) (c : ℕ) → device_at m c ≡ None → (at_work : Nodes D) → NodesHold state m.wire.world at_work
    → NodesHold state (restarted_if true c m).wire.world at_work
uncut state m c at at_work h = subst (λ (o : Option Device). NodesHold state (restarted c o m).wire.world at_work) (sym at) h

-- one that is still down stays
pub still_down : {D : Type 0} (state : D → DiskState) (n : Net) (c : ℕ) (old : World D) → Holds state n old → is_client_down (client_at n.wire.world c) ≡ true
    → (wire : wire_world.World D) → holds.Holds state (link_set c false n.wire) wire → Holds state n (record old { wire = wire })
still_down state n c old h down wire held = record {
  wire = subst (λ (b : Bool). holds.Holds state (if b then n.wire else record n.wire { world = with_link c false n.wire.world }) wire) down held;
  gates = h.gates;
  devices = h.devices;
  sent = h.sent;
  short = h.short;
  bytes = h.bytes;
  numbered = h.numbered;
  askers = h.askers;
  asked = h.asked;
}

-- ---- a link that goes up or down

-- a client without a gateway
pub link_carried : (n : Net) (c : ℕ) (up : Bool) → device_at n c ≡ None → IsCarriedOn n (events.Link c up)
link_carried n c up none = record {
  step = λ lucks. ap (linked n c up lucks) none;
  fault = λ lucks. ap (λ (x : NetStep). is_fault_answer x.answer) (ap (linked n c up lucks) none);
  spends = λ m k. k;
  plain = refl;
}

-- one that is down
pub link_down_step : (n : Net) (c : ℕ) (up : Bool) (lucks : Lucks) (d : Device) → is_client_down (client_at n.wire.world c) ≡ true
    → linked n c up lucks (Some d) ≡ still n (facts.Refuses (facts.NodeDown (nodes.Client c)))
link_down_step n c up lucks d down = ap (λ (b : Bool). if b then refused n (facts.NodeDown (nodes.Client c)) else relinked n c up d) down

pub link_up_step : (n : Net) (c : ℕ) (up : Bool) (lucks : Lucks) (d : Device) → is_client_down (client_at n.wire.world c) ≡ false → linked n c up lucks (Some d) ≡ relinked n c up d
link_up_step n c up lucks d is_up = ap (λ (b : Bool). if b then refused n (facts.NodeDown (nodes.Client c)) else relinked n c up d) is_up

-- one whose link is up, or comes up
pub linked_already : (n : Net) (c : ℕ) (d : Device) → d.linked ≡ true → relinked n c true d ≡ still n facts.Done
linked_already n c d is = ap (λ (b : Bool). if b then still n facts.Done else asks_session (with_device c (record d { linked = true }) n) c (record d { linked = true })) is

pub linked_anew : (n : Net) (c : ℕ) (d : Device) → d.linked ≡ false
    → relinked n c true d ≡ asks_session (with_device c (record d { linked = true }) n) c (record d { linked = true })
linked_anew n c d is = ap (λ (b : Bool). if b then still n facts.Done else asks_session (with_device c (record d { linked = true }) n) c (record d { linked = true })) is

pub gated_up : {D : Type 0} (state : D → DiskState) (is_out : ℕ → Bool) (c : ℕ) (d : Device) (n : Net) (world : World D) → IsGated state is_out c d n world
    → is_client_down (client_at n.wire.world c) ≡ false → IsLinkedIn state is_out c d n world
gated_up state is_out c d n world g up = record { here = record { reached = g.stood.reached; held = g.stood.held; out = g.stood.out; up = up }; device = g.device }

-- ---- as an event

module _ {D : Type 0} (state : D → DiskState) (images : D → ℕ → List ℕ → Type 0) (n : Net) (c : ℕ) (up : Bool) (is_out : ℕ → Bool) (old new : World D) (o : Option Device) (at : device_at n c ≡ o)
    (result : Result (List TextLine) WorldFault) (k : Delivers state images n (λ lucks. linked n c up lucks o) result is_out old new) where
  delivered : Delivers state images n (λ lucks. linked n c up lucks (device_at n c)) result is_out old new
  delivered = delivers_as state images n (λ lucks. linked n c up lucks (device_at n c)) (λ lucks. linked n c up lucks o) (λ lucks. ap (linked n c up lucks) at) result is_out old new k

  pub link_comes : Comes state images n (events.Link c up) is_out result old new
  link_comes = delivered.done

  pub link_overruns : Overruns state images n (events.Link c up) is_out result old new
  link_overruns = delivered.over

pub plan_more : {D : Type 0} (state : D → DiskState) (m : ℕ) (world : World D) → HavePlansBelow state m world → HavePlansBelow state (1 + m) world
plan_more state m world k = subst (λ (j : ℕ). HavePlansBelow state j world) (omega arith) (plans_later state m world.wire.nodes k)

module _ {D : Type 0} (state : D → DiskState) (images : D → ℕ → List ℕ → Type 0) (only_now : (disk : D) (image : List ℕ) → images disk (state disk).moment image → IsImage (state disk).pending image)
    (is_out : ℕ → Bool) (n : Net) (c : ℕ) (d : Device) (old : World D) (x : IsLinkedIn state is_out c d n old) (down : d.linked ≡ false) (mid : World D)
    (h : Holds state (with_device c (record d { linked = true }) n) mid) (store : mid.wire.nodes.store ≡ old.wire.nodes.store) (faults : all_faults state mid ≡ all_faults state old)
    (plans : (k : ℕ) → HavePlansBelow state k old → HavePlansBelow state k mid) where
  abbrev up : Device
  up = record d { linked = true }

  went : IsMoved state images n false (with_device c up n).wire is_out old mid
  went = linked_moved state images n is_out old mid only_now x.here.reached x.here.held x.here.out c up (is_there state images only_now is_out n c d old x) h.wire.nodes store faults

  short : AreShort (asks_again c (Some (record d { linked = true })))
  short = ((λ none. register_short c (is_client state images only_now is_out n c d old x)), tt)

  -- it asks for a session
  pub asks_linked : (new : World D) → new ≡ record mid { network = new.network } → (before after : List TextLine) → map line_of before ≡ AnswerLine facts.Done ∷ []
      → AreSent (with_device c (record d { linked = true }) n).wire.packets (with_device c (record d { linked = true }) n).sent (asks_again c (Some (record d { linked = true }))) new.network before after
      → Delivers state images n (λ lucks. relinked n c true d) (Ok after) is_out old new
  asks_linked new to before after first k =
      sends_delivers state images n (with_device c up n) is_out old mid h (device_sent c up n) went (asks_again c (Some up)) (λ lucks. relinked n c true d) (linked_anew n c d down) short plans new to
      before after first k

  pub asks_not_linked : (new : World D) → new ≡ record mid { network = new.network } → (e : WorldFault) → IsSendFault e
      → IsOverFault ((with_device c (record d { linked = true }) n).sent ++ asks_again c (Some (record d { linked = true }))) e
      → Delivers state images n (λ lucks. relinked n c true d) (Err e) is_out old new
  asks_not_linked new to e only over =
      sends_fails state images n (with_device c up n) is_out old mid h (device_sent c up n) went (asks_again c (Some up)) (λ lucks. relinked n c true d) (linked_anew n c d down) plans new to e only over
