-- A message, or a pull, that is handed to the nodes: what it comes to.
use Rattle.std.proofs.Common.{◌≡◌, ◌≢◌, ◌⊎◌, inl, inr, ⊎_elim, ℕ, List, map, Result, Ok, Err, refl, sym, subst}
use Rattle.std.specs.Prelude.{IfOk, IfErr}
use Rattle.disk_trait.specs.Calls.{DiskState}
use Rattle.disk_trait.specs.Image.{IsImage}
use Rattle.stab_base.specs.declared.node.Node.{Node}
use Rattle.table_model.specs.declared.event.Event.TheVariants as events
use Rattle.table_model.specs.declared.line.TextLine.{TextLine}
use Rattle.step_tables.specs.Lines.{line_of}
use Rattle.step_tables.specs.declared.message.Message.{Message}
use Rattle.step_tables.specs.Travels.{message_of}
use Rattle.world_tables.specs.Passed.{taken_by, taken_part}
use Rattle.world_tables.specs.World.{World as AWorld, Lucks, WorldStep, carried, step}
use Rattle.wire_tables.specs.Wire.{Wire, spread}
use Rattle.store_host.specs.Holds.{AreLeft}
use Rattle.store_host.specs.declared.host.StoreHost.{StoreHost}
use Rattle.fair_laws.specs.Reached as fair
use Rattle.fair_laws.proofs.Worlds.{reached_fair}
use Rattle.node_steps.specs.declared.fault.WorldFault.{WorldFault}
use Rattle.node_steps.specs.declared.fault.WorldFault.TheVariants.{Depot, Limit as LimitPassed}
use Rattle.node_steps.specs.declared.told.Told.{Told}
use Rattle.node_steps.specs.declared.world.World.{World as Nodes}
use Rattle.node_steps.specs.Calls as calls
use Rattle.node_steps.specs.Faults.{AreTotals, tell_fault}
use Rattle.node_steps.specs.Fits.{FitsNode, packet_with}
use Rattle.node_steps.specs.Holds.{Holds as NodesHold}
use Rattle.node_steps.specs.Rows.{AreLeftOver}
use Rattle.node_steps.specs.Steps.{HavePlansBelow, SpendsNumber}
use Rattle.node_steps.proofs.Rows.{over_first, none_left}
use Rattle.wire_steps.specs.declared.world.World.{World}
use Rattle.wire_steps.specs.Holds.{Holds}
use Rattle.wire_steps.specs.Calls.{Comes, Ends, EndsRun, SpendsAny, IsLimitedBy, IsLimited, IsToCarry, bring_step, IsToPull, pull_step}
use Rattle.wire_steps.specs.Sending.{IsToTell, IsTold, IsSendFault, IsOverFault}
use Rattle.wire_steps.proofs.Answered.{nodes_end, told_comes, told_ends, some_plans}
use Rattle.wire_steps.proofs.Handed.{IsHanded, handed_memory, handed_tells, handed_behind, left_same, node_fits}

-- a limit of the nodes says where the run ends
pub limit_is : (P : Type 0) (e : WorldFault) → ((code count : ℕ) → e ≡ LimitPassed code count → (code ≡ 11) × P)
    → (code count : ℕ) → e ≡ LimitPassed code count → (code ≡ 10) ⊎ ((code ≡ 11) × P)
limit_is P e limit code count is = inr (limit code count is)

-- so does one that a client's pull meets
pub pull_spends : (n : ℕ) (w : AWorld) (c : ℕ) (e : WorldFault) → ((code count : ℕ) → e ≡ LimitPassed code count → (code ≡ 11) × SpendsNumber n w c)
    → (code count : ℕ) → e ≡ LimitPassed code count → (code ≡ 11) × SpendsAny n w
pull_spends n w c e limit code count is = let k = limit code count is in (k.0, inr (c, k.1))

pub limited_to : (n : ℕ) (w : AWorld) (c : ℕ) (result : Result (List TextLine) WorldFault) → IsLimitedBy (SpendsNumber n w c) result → IsLimited n w result
limited_to n w c (Ok lines) k = tt
limited_to n w c (Err e) k = λ code count is. ⊎_elim (λ ten. inl ten) (λ spent. inr (spent.0, inr (c, spent.1))) (k code count is)

-- what is handed over is told, or too much is sent
module _ {D : Type 0} (state : D → DiskState) (images : D → ℕ → List ℕ → Type 0) (kept : Wire) (f : Lucks → WorldStep) (old : World D) (mid : Nodes D) (told : Told) (lucks : Lucks)
    (x : Holds state kept old) (k : IsHanded state images kept.world (f lucks) old.nodes mid told)
    (r : fair.IsReached kept.world) where
  abbrev pub to_tell : IsToTell state (record old { nodes = mid }) told
  to_tell = handed_tells state images kept.world r (f lucks) old.nodes mid told k kept refl (record old { nodes = mid }) x.packets
      (handed_memory state images kept.world r (f lucks) old.nodes mid told k kept refl old x)

  module _ (new : World D) (same : new.nodes ≡ mid) (result : Result (List TextLine) WorldFault) where
    pub handed_comes : IfOk result (λ lines. IsTold state kept (f lucks) lines new) → Comes state images kept (λ l. spread kept (f l)) result old new
    handed_comes t = told_comes state images kept (λ l. spread kept (f l)) old new kept (f lucks) mid lucks refl same
        (handed_behind state images kept.world r (f lucks) old.nodes mid told k kept kept refl) refl result t

    pub handed_ends : IfErr result (IsOverFault (spread kept (f lucks)).wire.packets) → IfErr result IsSendFault → Ends state images kept (λ l. spread kept (f l)) result old new
    handed_ends over only = told_ends state images kept (λ l. spread kept (f l)) old new kept (f lucks) mid lucks refl same
        (handed_behind state images kept.world r (f lucks) old.nodes mid told k kept kept refl) result over only

-- ---- a message

module _ {D : Type 0} (state : D → DiskState) (images : D → ℕ → List ℕ → Type 0) (old : World D) (from to : Node) (message : Message)
    (x : IsToCarry state old from to (message_of message)) where
  pub fits_to : FitsNode x.kept.world to message
  fits_to = node_fits x.kept.world (reached_fair x.kept.world x.reached) from to message x.carried.fair

  pub to_carry : (w : AWorld) × NodesHold state w old.nodes × FitsNode w to message
  to_carry = (x.kept.world, x.held.nodes, fits_to)

  pub brought : (mid : Nodes D) (told : Told) (lucks : Lucks) → calls.IsDone state x.kept.world (carried x.kept.world (packet_with from to message) lucks.shape lucks.calls to) told mid
      → AreTotals state (tell_fault (map line_of told.lines)) old.nodes mid
      → AreLeftOver state images x.kept.world (taken_by x.kept.world (packet_with from to message) to) old.nodes.store.tables mid.store.tables
      → IsHanded state images x.kept.world (carried x.kept.world (packet_with from to message) lucks.shape lucks.calls to) old.nodes mid told
  brought mid told lucks done counted rows = record {
    event = events.Deliver x.carried.number;
    lucks = lucks;
    built = tt;
    plain = tt;
    is = x.carried.same lucks;
    done = done;
    counted = counted;
    left = ⊎_elim (λ e. subst (λ (first : AWorld). AreLeftOver state images x.kept.world first old.nodes.store.tables mid.store.tables) e rows)
        (λ same. left_same state images x.kept.world (taken_by x.kept.world (packet_with from to message) to) (taken_part x.kept.world (events.Deliver x.carried.number))
        old.nodes.store.tables mid.store.tables same rows) x.carried.first;
  }

  abbrev pub Carries : Nodes D → Told → Type 0
  Carries mid told = (lucks : Lucks) × calls.IsDone state x.kept.world (carried x.kept.world (packet_with from to message) lucks.shape lucks.calls to) told mid

  module _ (mid : Nodes D) (told : Told) (d : Carries mid told) (counted : AreTotals state (tell_fault (map line_of told.lines)) old.nodes mid)
      (rows : AreLeftOver state images x.kept.world (taken_by x.kept.world (packet_with from to message) to) old.nodes.store.tables mid.store.tables) where
    abbrev pub bring_tells : IsToTell state (record old { nodes = mid }) told
    bring_tells = to_tell state images x.kept (λ l. carried x.kept.world (packet_with from to message) l.shape l.calls to) old mid told d.0 x.held
        (brought mid told d.0 d.1 counted rows) x.reached

    module _ (new : World D) (same : new.nodes ≡ mid) (result : Result (List TextLine) WorldFault) where
      pub bring_comes : IfOk result (λ lines. IsTold state x.kept bring_tells.s lines new) → Comes state images x.kept (bring_step x.kept from to (message_of message)) result old new
      bring_comes t = handed_comes state images x.kept (λ l. carried x.kept.world (packet_with from to message) l.shape l.calls to) old mid told d.0 x.held
          (brought mid told d.0 d.1 counted rows) x.reached new same result t

      pub bring_ends : IfErr result (IsOverFault (spread x.kept bring_tells.s).wire.packets) → IfErr result IsSendFault
          → Ends state images x.kept (bring_step x.kept from to (message_of message)) result old new
      bring_ends over only = handed_ends state images x.kept (λ l. carried x.kept.world (packet_with from to message) l.shape l.calls to) old mid told d.0 x.held
          (brought mid told d.0 d.1 counted rows) x.reached new same result over only

  -- what the nodes refuse for a limit of theirs
  pub carry_ends : (new : World D) (e : WorldFault)
      → ((n : ℕ) → HavePlansBelow state n old.nodes → (code count : ℕ) → e ≡ LimitPassed code count → (code ≡ 11) × SpendsAny n x.kept.world)
      → (e ≢ Depot) → EndsRun state images x.kept (bring_step x.kept from to (message_of message)) old new e
  carry_ends new e limit only =
      let some = some_plans state x.kept.world old.nodes x.held.nodes in
      nodes_end state images x.kept (bring_step x.kept from to (message_of message)) old new (SpendsAny some.0 x.kept.world) e (limit some.0 some.1) only

-- ---- a pull

module _ {D : Type 0} (state : D → DiskState) (images : D → ℕ → List ℕ → Type 0) (only_now : (disk : D) (image : List ℕ) → images disk (state disk).moment image → IsImage (state disk).pending image)
    (old : World D) (c table : ℕ) (tears asks : List (List ℕ)) (x : IsToPull state old) where
  pub pulled : (mid : Nodes D) (told : Told) (lucks : Lucks)
      → calls.IsDone state x.kept.world (step x.kept.world (events.Pull c table) (record lucks { tears = tears; asks = asks })) told mid
      → AreTotals state (tell_fault (map line_of told.lines)) old.nodes mid → mid.store ≡ old.nodes.store
      → IsHanded state images x.kept.world (step x.kept.world (events.Pull c table) (record lucks { tears = tears; asks = asks })) old.nodes mid told
  pulled mid told lucks done counted store = record {
    event = events.Pull c table;
    lucks = record lucks { tears = tears; asks = asks };
    built = tt;
    plain = tt;
    is = refl;
    done = done;
    counted = counted;
    left = over_first state images x.kept.world x.kept.world old.nodes.store.tables mid.store.tables
        (subst (λ (s : StoreHost D). AreLeft state images x.kept.world old.nodes.store.tables s.tables) (sym store)
        (none_left state images only_now x.kept.world old.nodes.store x.held.nodes.store));
  }

  abbrev pub Pulls : Nodes D → Told → Type 0
  Pulls mid told = (lucks : Lucks) × calls.IsDone state x.kept.world (step x.kept.world (events.Pull c table) (record lucks { tears = tears; asks = asks })) told mid

  module _ (mid : Nodes D) (told : Told) (d : Pulls mid told) (counted : AreTotals state (tell_fault (map line_of told.lines)) old.nodes mid) (store : mid.store ≡ old.nodes.store) where
    abbrev pub pull_tells : IsToTell state (record old { nodes = mid }) told
    pull_tells = to_tell state images x.kept (λ l. step x.kept.world (events.Pull c table) (record l { tears = tears; asks = asks })) old mid told d.0 x.held
        (pulled mid told d.0 d.1 counted store) x.reached

    module _ (new : World D) (same : new.nodes ≡ mid) (result : Result (List TextLine) WorldFault) where
      pub pull_comes : IfOk result (λ lines. IsTold state x.kept pull_tells.s lines new) → Comes state images x.kept (pull_step x.kept c table tears asks) result old new
      pull_comes t = handed_comes state images x.kept (λ l. step x.kept.world (events.Pull c table) (record l { tears = tears; asks = asks })) old mid told d.0 x.held
          (pulled mid told d.0 d.1 counted store) x.reached new same result t

      pub pull_ends_so : IfErr result (IsOverFault (spread x.kept pull_tells.s).wire.packets) → IfErr result IsSendFault
          → Ends state images x.kept (pull_step x.kept c table tears asks) result old new
      pull_ends_so over only = handed_ends state images x.kept (λ l. step x.kept.world (events.Pull c table) (record l { tears = tears; asks = asks })) old mid told d.0 x.held
          (pulled mid told d.0 d.1 counted store) x.reached new same result over only

  pub pull_ends : (new : World D) (e : WorldFault)
      → ((n : ℕ) → HavePlansBelow state n old.nodes → (code count : ℕ) → e ≡ LimitPassed code count → (code ≡ 11) × SpendsAny n x.kept.world)
      → (e ≢ Depot) → EndsRun state images x.kept (pull_step x.kept c table tears asks) old new e
  pull_ends new e limit only =
      let some = some_plans state x.kept.world old.nodes x.held.nodes in
      nodes_end state images x.kept (pull_step x.kept c table tears asks) old new (SpendsAny some.0 x.kept.world) e (limit some.0 some.1) only
