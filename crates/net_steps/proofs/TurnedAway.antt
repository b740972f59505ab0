-- A part that comes to a Store: it is of a client, for a table of the Store, and is turned away where the table is shut.
use Rattle.std.proofs.Common.{◌≡◌, ℕ, Bool, true, false, Option, Some, refl, sym, ◌∙◌, ap, subst}
use Rattle.std.specs.Prelude.{slice_get, if◌then◌else◌}
use Rattle.disk_trait.specs.Calls.{DiskState}
use Rattle.stab_base.specs.declared.node.Node.{Node}
use Rattle.stab_base.specs.declared.node.Node.TheVariants as nodes
use Rattle.row_store.specs.Spelling.{IsClient}
use Rattle.table_model.specs.declared.message.Message.{Message}
use Rattle.message_frames.specs.Frames.{HasFrame}
use Rattle.message_parts.specs.Parts.{part_of, message_at}
use Rattle.part_tables.specs.Parts.{Part, Asks, Responds, Pulls, Answers, BringsUp, BringsDown, AsksTorn, AnswersTorn}
use Rattle.world_tables.specs.World.{Lucks, hosted_by, owner_of}
use Rattle.wire_tables.specs.Wire.{PartPacket, part_table}
use Rattle.gate_tables.specs.declared.timer.Asked.{Asked}
use Rattle.gate_tables.specs.Gate as gate
use Rattle.gated_tables.specs.Devices.{stamped}
use Rattle.gated_tables.specs.Net.{carried_on, is_shut, part_taken, to_store, turned_away}
use Rattle.gated_laws.proofs.HandedOn.{way_of}
use Rattle.gated_laws.proofs.Reached.{brought_to_store}
use Rattle.net_steps.specs.declared.world.World.{World}
use Rattle.net_steps.specs.Delivering.{IsComing, IsOfClient, is_asked_shut, step_brought}
use Rattle.net_steps.proofs.Coming.{goes, goes_to, packet, part_here, stands}
use Rattle.net_steps.proofs.Onward.{frame_there}

-- what is asked by a part that goes to a Store
pub record AsksFor (part : Part) (o : Option Asked) : Type 0 where
  pub asked : Asked
  pub is : o ≡ Some asked
  pub table : asked.table ≡ part_table part
  pub client : IsClient asked.client

no_store : {P : Type 0} (c store : ℕ) → nodes.Client c ≡ nodes.Store store → P
no_store c store e = absurd cc

asked_by : (part : Part) (a : Asked) → a.table ≡ part_table part → IsClient a.client → AsksFor part (Some a)
asked_by part a table client = record { asked = a; is = refl; table = table; client = client }

asks_for : (owners : ℕ → ℕ) (store token : ℕ) (part : Part) → way_of owners part ≡ nodes.Store store → HasFrame (message_at part) → AsksFor part (gate.asked (stamped token (message_at part)))
asks_for owners store token (Asks head) way f = asked_by (Asks head) _ refl (record { least = f.spelled.0.least; most = f.spelled.0.most })
asks_for owners store token (Pulls pull) way f = asked_by (Pulls pull) _ refl (record { least = f.spelled.0.least; most = f.spelled.0.most })
asks_for owners store token (BringsUp up) way f = asked_by (BringsUp up) _ refl (record { least = f.spelled.0.least; most = f.spelled.0.most })
asks_for owners store token (AsksTorn torn) way f = asked_by (AsksTorn torn) _ refl (record { least = f.spelled.0.least; most = f.spelled.0.most })
asks_for owners store token (Responds r) way f = no_store r.client store way
asks_for owners store token (Answers p) way f = no_store p.client store way
asks_for owners store token (BringsDown down) way f = no_store down.client store way
asks_for owners store token (AnswersTorn t) way f = no_store t.client store way

module _ {D : Type 0} (state : D → DiskState) (is_out : ℕ → Bool) (number : ℕ) (from : Node) (part : ℕ × ℕ) (old : World D) (store : ℕ)
    (x : IsComing state is_out number from (nodes.Store store) (Some part) old) where
  abbrev that : PartPacket
  that = packet state is_out number from (nodes.Store store) part old x tt

  at : slice_get x.n.wire.packets part.0 ≡ Some that
  at = stands state is_out number from (nodes.Store store) part old x tt

  its_part : part_of x.one.message ≡ Some that.part
  its_part = part_here state is_out number from (nodes.Store store) part old x tt

  there : that.to ≡ x.one.to
  there = goes_to state is_out number from (nodes.Store store) part old x tt

  its_way : way_of (owner_of x.n.wire.world) that.part ≡ nodes.Store store
  its_way = sym (goes state is_out number from (nodes.Store store) part old x tt that part.0 at) ∙ (there ∙ x.to_is)

  its_ask : AsksFor that.part (gate.asked x.one.message)
  its_ask = subst (λ (m : Message). AsksFor that.part (gate.asked m)) (sym x.part_is.2)
      (asks_for (owner_of x.n.wire.world) store part.1 that.part its_way (frame_there state x.n.wire old x.here.held.wire part.0 that at))

  module _ (asked : Option Asked) (is : asked ≡ gate.asked x.one.message) where
    pub of_client : IsOfClient asked
    of_client = subst IsOfClient (sym (is ∙ its_ask.is)) its_ask.client

    shut_as : is_asked_shut x.n store asked ≡ is_shut (hosted_by x.n.wire.world store (part_table that.part))
    shut_as = ap (is_asked_shut x.n store) (is ∙ its_ask.is) ∙ ap (λ (t : ℕ). is_shut (hosted_by x.n.wire.world store t)) its_ask.table

    by_shut : (lucks : Lucks) → to_store x.n store x.one lucks (part_of x.one.message)
        ≡ (if is_asked_shut x.n store asked then turned_away x.n x.one asked else part_taken x.n store x.one lucks that.part)
    by_shut lucks = ap (to_store x.n store x.one lucks) its_part
        ∙ (ap (λ (b : Bool). if b then turned_away x.n x.one (gate.asked x.one.message) else part_taken x.n store x.one lucks that.part) (sym shut_as)
        ∙ ap (λ (o : Option Asked). if is_asked_shut x.n store asked then turned_away x.n x.one o else part_taken x.n store x.one lucks that.part) (sym is))

    pub away_step : is_asked_shut x.n store asked ≡ true → (lucks : Lucks) → to_store x.n store x.one lucks (part_of x.one.message) ≡ turned_away x.n x.one asked
    away_step e lucks = by_shut lucks ∙ ap (λ (b : Bool). if b then turned_away x.n x.one asked else part_taken x.n store x.one lucks that.part) e

    pub taken_step : is_asked_shut x.n store asked ≡ false → (lucks : Lucks) → to_store x.n store x.one lucks (part_of x.one.message) ≡ step_brought x.n x.n.wire part.0 lucks
    taken_step e lucks = by_shut lucks
        ∙ (ap (λ (b : Bool). if b then turned_away x.n x.one asked else part_taken x.n store x.one lucks that.part) e
        ∙ ap (carried_on x.n) (brought_to_store x.n x.here.reached part.0 that at x.one.to that.part refl there store x.to_is lucks))
