-- Each event of the wire is one of the whole world, or none.
use Rattle.std.proofs.Common.{◌≡◌, inl, inr, ℕ, Bool, true, false, List, [], ◌∷◌, length, Option, Some, None, refl, sym, ◌∙◌, ap}
use Rattle.std.specs.Prelude.{slice_get, if◌then◌else◌}
use Rattle.stab_base.specs.declared.node.Node.{Node}
use Rattle.stab_base.specs.declared.node.Node.TheVariants as nodes
use Rattle.table_model.specs.declared.event.Event.{Event}
use Rattle.table_model.specs.declared.event.Event.TheVariants as events
use Rattle.step_tables.specs.Facts as facts
use Rattle.step_tables.proofs.Lists.{among_get}
use Rattle.world_tables.specs.Ready.{is_client_ready}
use Rattle.world_tables.specs.World.{Lucks, Outbox, client_at, is_client_down, carried, step}
use Rattle.part_tables.specs.Arriving.{Arriving, nothing_arriving, with_torn, asking}
use Rattle.part_laws.specs.Rows.{SentDown, AreArriving}
use Rattle.part_laws.proofs.WholeRows.{nothing_kept, asking_kept}
use Rattle.wire_tables.specs.Wire.{PartPacket, Wire, arriving_at, with_arriving, any_of, part_table, whole, untaken, brought}
use Rattle.wire_tables.specs.Wire.{delivered, pulling, pulled, torn_told, noting, started_with, started, store_joined, wire_step, spread}
use Rattle.wire_laws.proofs.Ground.{IsGround, size_in, down_to}
use Rattle.wire_laws.proofs.Keeping.{HasWhole, IsKept, arriving_kept}
use Rattle.wire_laws.proofs.Comings.{Comes, brings}
use Rattle.wire_laws.proofs.ToStores.{store_comes}
use Rattle.wire_laws.proofs.ToClients.{at_client_comes}

-- ---- a client that starts waits for nothing

noting_kept : (size : ℕ → ℕ) (sent : SentDown) (torn : List (ℕ × List ℕ)) (a : Arriving) → AreArriving size sent a → AreArriving size sent (noting torn a)
noting_kept size sent [] a k = k
noting_kept size sent (row ∷ more) a k = noting_kept size sent more (record a { torn = with_torn row.0 row.1 a.torn }) (record { pulls = k.pulls; rows = k.rows })

module _ (v : Wire) (g : IsGround v.world) (k : IsKept v) where
  -- ---- deliveries

  module _ (number : ℕ) (lucks : Lucks) where
    gate_comes : (p : PartPacket) → slice_get v.packets number ≡ Some p → HasWhole v.world p → (gate : ℕ) → p.to ≡ nodes.Gate gate → Comes v (events.Deliver number) (untaken v p lucks)
    gate_comes p at h gate here =
        brings v number p at lucks v.gathered v.arriving k h.packet h.stands (sym h.to) _
        (ap (carried v.world (whole p (any_of (part_table p.part))) lucks.shape lucks.calls) here ∙ sym (ap (carried v.world h.packet lucks.shape lucks.calls) (sym h.to ∙ here)))

    brought_comes : (p : PartPacket) → slice_get v.packets number ≡ Some p → HasWhole v.world p → (to : Node) → p.to ≡ to → Comes v (events.Deliver number) (brought v p lucks to)
    brought_comes p at h (nodes.Store n) here = store_comes v g k number p at lucks h n here
    brought_comes p at h (nodes.Client c) here = at_client_comes v g k number p at lucks h c here
    brought_comes p at h (nodes.Gate gate) here = gate_comes p at h gate here

    delivered_comes : (o : Option PartPacket) → slice_get v.packets number ≡ o → Comes v (events.Deliver number) (delivered v lucks o)
    delivered_comes None at = inl (record {
      gathered = v.gathered;
      arriving = v.arriving;
      kept = k;
      answer = facts.Refuses (facts.NoPacket (length v.packets));
      lone = inr (length v.packets, refl);
      is = refl;
    })
    delivered_comes (Some p) at = brought_comes p at (k.parts p (among_get v.packets number p at)) p.to refl

  -- ---- a pull, and a client that starts

  pulled_comes : (c table : ℕ) (lucks : Lucks) → Comes v (events.Pull c table) (pulled v c table lucks)
  pulled_comes c table lucks = go (is_client_ready v.world c)
    where
      go : (b : Bool) → Comes v (events.Pull c table) (if b
          then spread (with_arriving c (asking table (arriving_at v c)) v) (step v.world (events.Pull c table) (pulling v c table lucks))
          else spread v (step v.world (events.Pull c table) (record lucks { tears = []; asks = [] })))
      go true = inr (record {
        gathered = v.gathered;
        arriving = (with_arriving c (asking table (arriving_at v c)) v).arriving;
        kept = arriving_kept v k c (asking table (arriving_at v c)) (asking_kept (size_in v.world) (down_to c v.world.packets) table (arriving_at v c) (k.arriving c));
        other = events.Pull c table;
        lucks = pulling v c table lucks;
        joins = inl refl;
        alike = refl;
        is = refl;
      })
      go false = inr (record {
        gathered = v.gathered;
        arriving = v.arriving;
        kept = k;
        other = events.Pull c table;
        lucks = record lucks { tears = []; asks = [] };
        joins = inl refl;
        alike = refl;
        is = refl;
      })

  started_comes : (c : ℕ) (lucks : Lucks) → Comes v (events.Start (nodes.Client c)) (started v c lucks)
  started_comes c lucks = go (is_client_down (client_at v.world c))
    where
      outs : List Outbox
      outs = (step v.world (events.Start (nodes.Client c)) lucks).outs

      noted : Arriving
      noted = noting (torn_told outs) nothing_arriving

      go : (b : Bool) → Comes v (events.Start (nodes.Client c)) (if b
          then started_with v c (step v.world (events.Start (nodes.Client c)) lucks)
          else spread v (step v.world (events.Start (nodes.Client c)) lucks))
      go true = inr (record {
        gathered = v.gathered;
        arriving = (with_arriving c noted v).arriving;
        kept = arriving_kept v k c noted
            (noting_kept (size_in v.world) (down_to c v.world.packets) (torn_told outs) nothing_arriving (nothing_kept (size_in v.world) (down_to c v.world.packets)));
        other = events.Start (nodes.Client c);
        lucks = lucks;
        joins = inl refl;
        alike = refl;
        is = refl;
      })
      go false = inr (record { gathered = v.gathered; arriving = v.arriving; kept = k; other = events.Start (nodes.Client c); lucks = lucks; joins = inl refl; alike = refl; is = refl })

  -- ---- a Store that joins

  joined_comes : (number : ℕ) (lucks : Lucks) → Comes v (events.Store number) (store_joined v number lucks)
  joined_comes number lucks = inr (record {
    gathered = [];
    arriving = v.arriving;
    kept = record { parts = k.parts; gathers = λ table. tt; arriving = k.arriving };
    other = events.Store number;
    lucks = lucks;
    joins = inr refl;
    alike = refl;
    is = refl;
  })

  -- ---- any event

  pub all_come : (event : Event) (lucks : Lucks) → Comes v event (wire_step v event lucks)
  all_come (events.Store number) lucks = joined_comes number lucks
  all_come (events.Deliver number) lucks = delivered_comes number lucks (slice_get v.packets number) refl
  all_come (events.Pull c table) lucks = pulled_comes c table lucks
  all_come (events.Start (nodes.Client c)) lucks = started_comes c lucks
  all_come other lucks = inr (record { gathered = v.gathered; arriving = v.arriving; kept = k; other = other; lucks = lucks; joins = inl refl; alike = refl; is = refl })
