-- What is in memory is of nodes that are up, on every wire, so that a link that goes up or down changes nothing else.
use Rattle.std.proofs.Common.{◌≡◌, ℕ, Bool, true, false, List, [], ◌∷◌, ◌++◌, Option, Some, None, refl, sym, ◌∙◌, ap, append-nil}
use Rattle.std.specs.Prelude.{map, filter, slice_get, if◌then◌else◌}
use Rattle.std.specs.List.{AllByRecursion, flat_map}
use Rattle.std.specs.declared.cmp.Ordering.{Ordering}
use Rattle.std.specs.declared.cmp.Ordering.TheVariants.{Less, Equal, Greater}
use Rattle.std.specs.Ordering.{nat_cmp, match_ordering}
use Rattle.std.specs.BTreeMap.{insert_entry}
use Rattle.stab_base.specs.declared.node.Node.{Node}
use Rattle.stab_base.specs.declared.node.Node.TheVariants as nodes
use Rattle.table_model.specs.declared.event.Event.{Event}
use Rattle.table_model.specs.declared.event.Event.TheVariants as events
use Rattle.step_tables.specs.Facts.{Answer, AnswerLine}
use Rattle.step_tables.specs.Facts as facts
use Rattle.step_tables.specs.Messages.{Luck, Message}
use Rattle.step_tables.specs.Messages as messages
use Rattle.step_tables.specs.StoreMoves.{StoreTask}
use Rattle.step_tables.specs.ClientMoves.{Client, ClientTask, TableDisk, table_at, seen}
use Rattle.world_tables.specs.Ready.{is_client_ready}
use Rattle.world_tables.specs.World.{Hosted, Outbox, WorldStep, Lucks, hosted_at, client_at, hosted_by, is_down, is_cut, is_client_down, with_link, linked, answered, refused, first_luck, step}
use Rattle.world_laws.proofs.Owners.{hosted_by_is}
use Rattle.part_tables.specs.Arriving.{Arriving, Arrived, nothing_arriving, asking, arrived}
use Rattle.part_tables.specs.StoreParts.{Gathering, StoreTaken}
use Rattle.part_tables.specs.StoreParts as at_store
use Rattle.part_tables.specs.ClientParts as at_client
use Rattle.wire_tables.specs.Wire.{PartPacket, PartOutbox, Wire, WireStep, start, arriving_at, with_gathered, with_arriving, part_table, split, in_parts, is_hosted_up, is_client_up, remembered}
use Rattle.wire_tables.specs.Wire.{spread, still, untaken, waits, store_taken, parted_at, by_hosted, client_taken, by_table, by_client, brought, delivered, pulling, pulled, torn_told, noting}
use Rattle.wire_tables.specs.Wire.{started_with, started, wire_step}
use Rattle.gated_tables.specs.Net.{cutting}

-- ---- lists

passing : {X : Type 0} (p : X → Bool) (xs : List X) → AllByRecursion (λ x. p x ≡ true) (filter p xs)
passing p [] = tt
passing {X} p (x ∷ xs) = go (p x) refl (passing p xs)
  where
    go : (b : Bool) → p x ≡ b → AllByRecursion (λ y. p y ≡ true) (filter p xs) → AllByRecursion (λ y. p y ≡ true) (if b then x ∷ filter p xs else filter p xs)
    go true is rest = (is, rest)
    go false is rest = rest

all_pass : {X : Type 0} (p : X → Bool) (xs : List X) → AllByRecursion (λ x. p x ≡ true) xs → filter p xs ≡ xs
all_pass p [] all = refl
all_pass {X} p (x ∷ xs) all =
    ap (λ (b : Bool). if b then x ∷ filter p xs else filter p xs) all.0 ∙ ap (λ (l : List X). x ∷ l) (all_pass p xs all.1)

inserted : {V : Type 0} (P : ℕ → Type 0) (es : List (ℕ × V)) (k : ℕ) (v : V) → P k → AllByRecursion (λ (e : ℕ × V). P e.0) es → AllByRecursion (λ (e : ℕ × V). P e.0) (insert_entry nat_cmp es k v)
inserted P [] k v here all = (here, tt)
inserted {V} P (e ∷ es) k v here all = pick (nat_cmp k e.0) (inserted P es k v here all.1)
  where
    pick : (o : Ordering) → AllByRecursion (λ (x : ℕ × V). P x.0) (insert_entry nat_cmp es k v)
        → AllByRecursion (λ (x : ℕ × V). P x.0) (match_ordering o ((k, v) ∷ e ∷ es) ((e.0, v) ∷ es) (e ∷ insert_entry nat_cmp es k v))
    pick Less more = (here, all)
    pick Equal more = (all.0, all.1)
    pick Greater more = (all.0, more)

flat_mapped : {X Y Z : Type 0} (f : X → Y) (g : Y → List Z) (xs : List X) → flat_map g (map f xs) ≡ flat_map (λ x. g (f x)) xs
flat_mapped f g [] = refl
flat_mapped {X} {Y} {Z} f g (x ∷ xs) = ap (λ (zs : List Z). g (f x) ++ zs) (flat_mapped f g xs)

-- ---- what is in memory

pub record IsRemembered (v : Wire) : Type 0 where
  pub gathered : AllByRecursion (λ (it : ℕ × List Gathering). is_hosted_up (hosted_at v.world it.0) ≡ true) v.gathered
  pub arriving : AllByRecursion (λ (it : ℕ × Arriving). is_client_up (client_at v.world it.0) ≡ true) v.arriving

pub start_remembered : IsRemembered start
start_remembered = record { gathered = tt; arriving = tt }

pub same_remembered : (v : Wire) → IsRemembered v → remembered v ≡ v
same_remembered v r =
    ap (λ (some : List (ℕ × List Gathering)). record v { gathered = some; arriving = filter (λ (it : ℕ × Arriving). is_client_up (client_at v.world it.0)) v.arriving })
    (all_pass (λ (it : ℕ × List Gathering). is_hosted_up (hosted_at v.world it.0)) v.gathered r.gathered)
    ∙ ap (λ (some : List (ℕ × Arriving)). record v { arriving = some }) (all_pass (λ (it : ℕ × Arriving). is_client_up (client_at v.world it.0)) v.arriving r.arriving)

-- what a step of the wire sends, and that it leaves what is in memory so
pub record IsShaped (v : Wire) (x : WireStep) : Type 0 where
  pub packets : x.wire.packets ≡ v.packets ++ flat_map (λ (out : PartOutbox). out.packets) x.outs
  pub remembered : IsRemembered x.wire

module _ (v kept : Wire) (same : kept.packets ≡ v.packets) where
  spread_shaped : (s : WorldStep) → IsShaped v (spread kept s)
  spread_shaped s = record {
    packets = ap (λ (ps : List PartPacket). ps ++ flat_map (λ (out : Outbox). flat_map (split kept.world) out.packets) s.outs) same
        ∙ ap (λ (ps : List PartPacket). v.packets ++ ps) (sym (flat_mapped (in_parts kept.world) (λ (out : PartOutbox). out.packets) s.outs));
    remembered = record {
      gathered = passing (λ (it : ℕ × List Gathering). is_hosted_up (hosted_at s.world it.0)) kept.gathered;
      arriving = passing (λ (it : ℕ × Arriving). is_client_up (client_at s.world it.0)) kept.arriving;
    };
  }

  still_shaped : (answer : Answer) → IsRemembered kept → IsShaped v (still kept answer)
  still_shaped answer r = record { packets = same ∙ sym (append-nil v.packets); remembered = r }

module _ (v : Wire) (r : IsRemembered v) where
  untaken_shaped : (p : PartPacket) (lucks : Lucks) → IsShaped v (untaken v p lucks)
  untaken_shaped p lucks = spread_shaped v v refl _

  waits_shaped : (kept : Wire) → kept.packets ≡ v.packets → IsRemembered kept → (p : PartPacket) (lucks : Lucks) (luck : Luck) → IsShaped v (waits v kept p lucks luck)
  waits_shaped kept same k p lucks messages.Done = still_shaped v kept same facts.Done k
  waits_shaped kept same k p lucks messages.FailedBefore = untaken_shaped p lucks
  waits_shaped kept same k p lucks messages.FailedAfter = untaken_shaped p lucks

  -- ---- to a Store

  store_shaped : (p : PartPacket) (lucks : Lucks) (x : StoreTaken) → is_hosted_up (hosted_at v.world (part_table p.part)) ≡ true → IsShaped v (store_taken v p lucks x)
  store_shaped p lucks x up = go x.taken
    where
      kept : Wire
      kept = with_gathered (part_table p.part) x.gatherings v

      too : IsRemembered kept
      too = record { gathered = inserted (λ (n : ℕ). is_hosted_up (hosted_at v.world n) ≡ true) v.gathered (part_table p.part) x.gatherings up r.gathered; arriving = r.arriving }

      go : (t : at_store.Taken) → IsShaped v (store_taken v p lucks (record x { taken = t }))
      go (at_store.Whole message) = spread_shaped v kept refl _
      go at_store.Waits = waits_shaped kept refl too p lucks (first_luck lucks.calls)

  hosted_shaped : (p : PartPacket) (lucks : Lucks) (o : Option Hosted)
      → ((hosted : Hosted) → o ≡ Some hosted → hosted_at v.world (part_table p.part) ≡ Some hosted) → IsShaped v (by_hosted v p lucks o)
  hosted_shaped p lucks None at = untaken_shaped p lucks
  hosted_shaped p lucks (Some hosted) at = go hosted.store.agenda refl
    where
      go : (agenda : Option (List StoreTask)) → hosted.store.agenda ≡ agenda → IsShaped v (by_hosted v p lucks (Some (record hosted { store = record hosted.store { agenda = agenda } })))
      go None is = untaken_shaped p lucks
      go (Some (task ∷ more)) is = untaken_shaped p lucks
      go (Some []) is = store_shaped p lucks (parted_at v p hosted.store.disk.items)
          (ap is_hosted_up (at hosted refl) ∙ ap (λ (o : Option (List StoreTask)). is_hosted_up (Some (record hosted { store = record hosted.store { agenda = o } }))) is)

  -- ---- to a client

  taken_shaped : (c : ℕ) (p : PartPacket) (lucks : Lucks) (x : Arrived) → is_client_up (client_at v.world c) ≡ true → IsShaped v (client_taken v c p lucks x)
  taken_shaped c p lucks x up = go x.taken
    where
      kept : Wire
      kept = with_arriving c x.arriving v

      too : IsRemembered kept
      too = record { gathered = r.gathered; arriving = inserted (λ (n : ℕ). is_client_up (client_at v.world n) ≡ true) v.arriving c x.arriving up r.arriving }

      go : (t : at_client.Taken) → IsShaped v (client_taken v c p lucks (record x { taken = t }))
      go (at_client.Whole message) = spread_shaped v kept refl _
      go (at_client.Tears row) = spread_shaped v kept refl _
      go at_client.Waits = waits_shaped kept refl too p lucks (first_luck lucks.calls)

  table_shaped : (c : ℕ) (p : PartPacket) (lucks : Lucks) → is_client_up (client_at v.world c) ≡ true → (o : Option TableDisk) → IsShaped v (by_table v c p lucks o)
  table_shaped c p lucks up None = untaken_shaped p lucks
  table_shaped c p lucks up (Some opened) = go opened.closed
    where
      go : (closed : Bool) → IsShaped v (if closed then untaken v p lucks else client_taken v c p lucks (arrived opened (arriving_at v c) p.part))
      go true = untaken_shaped p lucks
      go false = taken_shaped c p lucks (arrived opened (arriving_at v c) p.part) up

  client_shaped : (c : ℕ) (p : PartPacket) (lucks : Lucks) (o : Option Client) → client_at v.world c ≡ o → IsShaped v (by_client v c p lucks o)
  client_shaped c p lucks None at = untaken_shaped p lucks
  client_shaped c p lucks (Some node) at = go node.agenda refl
    where
      go : (agenda : Option (List ClientTask)) → node.agenda ≡ agenda → IsShaped v (by_client v c p lucks (Some (record node { agenda = agenda })))
      go None is = untaken_shaped p lucks
      go (Some (task ∷ more)) is = untaken_shaped p lucks
      go (Some []) is = table_shaped c p lucks (ap is_client_up at ∙ ap (λ (o : Option (List ClientTask)). is_client_up (Some (record node { agenda = o }))) is)
          (table_at (seen node.disk) (part_table p.part))

  -- ---- every event

  brought_shaped : (p : PartPacket) (lucks : Lucks) (to : Node) → IsShaped v (brought v p lucks to)
  brought_shaped p lucks (nodes.Gate gate) = untaken_shaped p lucks
  brought_shaped p lucks (nodes.Store number) = go (is_down v.world (nodes.Store number))
    where
      go : (b : Bool) → IsShaped v (if b then untaken v p lucks else by_hosted v p lucks (hosted_by v.world number (part_table p.part)))
      go true = untaken_shaped p lucks
      go false = hosted_shaped p lucks (hosted_by v.world number (part_table p.part)) (λ hosted by. (hosted_by_is v.world number (part_table p.part) hosted by).1)
  brought_shaped p lucks (nodes.Client c) = go (is_cut v.world c)
    where
      go : (b : Bool) → IsShaped v (if b then untaken v p lucks else by_client v c p lucks (client_at v.world c))
      go true = untaken_shaped p lucks
      go false = client_shaped c p lucks (client_at v.world c) refl

  delivered_shaped : (lucks : Lucks) (o : Option PartPacket) → IsShaped v (delivered v lucks o)
  delivered_shaped lucks None = still_shaped v v refl _ r
  delivered_shaped lucks (Some p) = brought_shaped p lucks p.to

  pulled_shaped : (c table : ℕ) (lucks : Lucks) → IsShaped v (pulled v c table lucks)
  pulled_shaped c table lucks = go (is_client_ready v.world c)
    where
      go : (b : Bool) → IsShaped v (if b
          then spread (with_arriving c (asking table (arriving_at v c)) v) (step v.world (events.Pull c table) (pulling v c table lucks))
          else spread v (step v.world (events.Pull c table) (record lucks { tears = []; asks = [] })))
      go true = spread_shaped v (with_arriving c (asking table (arriving_at v c)) v) refl (step v.world (events.Pull c table) (pulling v c table lucks))
      go false = spread_shaped v v refl (step v.world (events.Pull c table) (record lucks { tears = []; asks = [] }))

  started_shaped : (c : ℕ) (lucks : Lucks) → IsShaped v (started v c lucks)
  started_shaped c lucks = go (is_client_down (client_at v.world c))
    where
      s : WorldStep
      s = step v.world (events.Start (nodes.Client c)) lucks

      go : (b : Bool) → IsShaped v (if b then started_with v c s else spread v s)
      go true = spread_shaped v (with_arriving c (noting (torn_told s.outs) nothing_arriving) v) refl s
      go false = spread_shaped v v refl s

  pub shaped : (event : Event) (lucks : Lucks) → IsShaped v (wire_step v event lucks)
  shaped (events.Store number) lucks = spread_shaped v (record v { gathered = [] }) refl (step v.world (events.Store number) lucks)
  shaped (events.Deliver number) lucks = delivered_shaped lucks (slice_get v.packets number)
  shaped (events.Pull c table) lucks = pulled_shaped c table lucks
  shaped (events.Start (nodes.Client c)) lucks = started_shaped c lucks
  shaped other lucks = spread_shaped v v refl (step v.world other lucks)

-- ---- a link

-- where a client is up, its link that goes up or down cuts it off, or not, and does nothing else
pub link_alone : (v : Wire) (c : ℕ) (up : Bool) (lucks : Lucks) (node : Client) → IsRemembered v → client_at v.world c ≡ Some node → is_client_down (client_at v.world c) ≡ false
    → wire_step v (events.Link c up) lucks ≡ still (cutting c up v) facts.Done
link_alone v c up lucks node r there is_up =
    ap (spread v) (ap (linked v.world c up) there ∙ ap (λ (b : Bool). if b then refused v.world (facts.NodeDown (nodes.Client c)) else answered (with_link c up v.world) facts.Done) is_up)
    ∙ alone
  where
    same : (b : Bool) → IsRemembered (cutting c b v)
    same true = record { gathered = r.gathered; arriving = r.arriving }
    same false = record { gathered = r.gathered; arriving = r.arriving }

    alone : spread v (answered (with_link c up v.world) facts.Done) ≡ still (cutting c up v) facts.Done
    alone = ap (λ (ps : List PartPacket). still (remembered (record (cutting c up v) { packets = ps })) facts.Done) (append-nil v.packets)
        ∙ ap (λ (x : Wire). still x facts.Done) (same_remembered (cutting c up v) (same up))
