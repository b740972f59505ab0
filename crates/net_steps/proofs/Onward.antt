-- A world of which the network alone has changed.
use Rattle.std.proofs.Common.{◌≡◌, ℕ, zero, suc, List, [], ◌∷◌, Some, sym, ◌∙◌, ap, subst}
use Rattle.std.specs.Prelude.{slice_get}
use Rattle.std.specs.List.{AllByRecursion}
use Rattle.disk_trait.specs.Calls.{DiskState}
use Rattle.message_parts.specs.Parts.{message_at}
use Rattle.message_frames.specs.Frames.{HasFrame}
use Rattle.part_network.specs.Packets.{HasPartFrame}
use Rattle.wire_tables.specs.Wire.{PartPacket, Wire}
use Rattle.gated_tables.specs.Devices as tables
use Rattle.gated_tables.specs.Net.{Net}
use Rattle.wire_steps.specs.Holds as wires
use Rattle.net_steps.specs.declared.world.World.{World}
use Rattle.net_steps.specs.Askers.{HoldsAskers}
use Rattle.net_steps.specs.Devices.{HoldsDevices}
use Rattle.net_steps.specs.Walking.{IsAlong}

abbrev pub IsOnward : {D : Type 0} → (old new : World D) → Type 0
IsOnward old new = new ≡ record old { network = new.network }

pub onward_then : {D : Type 0} (old mid new : World D) → IsOnward old mid → IsOnward mid new → IsOnward old new
onward_then {D} old mid new a b = b ∙ ap (λ (w : World D). record w { network = new.network }) a

pub wire_onward : {D : Type 0} (state : D → DiskState) (old new : World D) → IsOnward old new → (v : Wire) → wires.Holds state v old.wire → wires.Holds state v new.wire
wire_onward {D} state old new a v h = subst (wires.Holds state v) (sym (ap (λ (w : World D). w.wire) a)) h

pub devices_onward : {D : Type 0} (old new : World D) → IsOnward old new → (devices : List (ℕ × tables.Device)) → HoldsDevices devices old.devices → HoldsDevices devices new.devices
devices_onward {D} old new a devices h = subst (HoldsDevices devices) (sym (ap (λ (w : World D). w.devices) a)) h

pub along_onward : {D : Type 0} (state : D → DiskState) (old new : World D) → IsOnward old new → (n : Net) (v : Wire) → IsAlong state n v old → IsAlong state n v new
along_onward {D} state old new a n v h = record {
  wire = wire_onward state old new a v h.wire;
  devices = devices_onward old new a n.devices h.devices;
  numbered = h.numbered;
  askers = subst (HoldsAskers n.askers) (sym (ap (λ (w : World D). w.askers) a)) h.askers;
  asked = h.asked;
}

-- ---- frames of the wire's packets

all_at : {X : Type 0} (P : X → Type 0) (xs : List X) (i : ℕ) (x : X) → AllByRecursion P xs → slice_get xs i ≡ Some x → P x
all_at P [] i x all at = absurd cc
all_at {X} P (y ∷ xs) zero x all at = let e : Some y ≡ Some x = at in subst P (let same : y ≡ x = cc in same) all.0
all_at P (y ∷ xs) (suc i) x all at = all_at P xs i x all.1 at

pub frame_there : {D : Type 0} (state : D → DiskState) (v : Wire) (world : World D) → wires.Holds state v world.wire → (number : ℕ) (p : PartPacket) → slice_get v.packets number ≡ Some p
    → HasFrame (message_at p.part)
frame_there state v world held number p at = all_at (λ (q : PartPacket). HasPartFrame q.part) v.packets number p held.packets.frames at
