-- Packets that are sent one behind the other, as frames, as bytes and as lines.
use Rattle.std.proofs.Common.{◌≡◌, ℕ, zero, suc, ◌+◌, ◌-◌, ◌<◌, ◌≤◌, List, [], ◌∷◌, ◌++◌, length, drop, map, Option, Some, None, refl, sym, ◌∙◌, ap, subst, arith}
use Rattle.std.specs.Prelude.{◌^◌, min, option_map, slice_get}
use Rattle.std.specs.List.{AllByRecursion, sum_by}
use Rattle.std.specs.Prelude.{Result, Ok, Err, OnOk}
use Rattle.std.proofs.lemmas.List.{map-append, length-map, drop_all}
use Rattle.std.proofs.lemmas.List.Sums.{sum_by-append, sum_by-cons}
use Rattle.stab_base.specs.declared.node.Node.{Node}
use Rattle.table_model.specs.declared.message.Message.{Message}
use Rattle.table_model.specs.declared.message_name.MessageName.{MessageName}
use Rattle.table_model.specs.MessageNames.{name_of}
use Rattle.step_tables.specs.Facts.{Line, FactLine}
use Rattle.step_tables.specs.Facts as facts
use Rattle.step_tables.specs.Messages as wholes
use Rattle.part_tables.specs.Parts.{Part, parts_of, Asks, Responds, Pulls, Answers, BringsUp, BringsDown, AsksTorn, AnswersTorn}
use Rattle.wire_tables.specs.Wire.{PartPacket, part_name, sent_lines}
use Rattle.message_frames.specs.Frames.{HasFrame, IsFrameOf}
use Rattle.message_parts.specs.Parts.{message_at}
use Rattle.message_parts.proofs.Joined.{part_of_sent}
use Rattle.part_network.specs.declared.packet.Packet.{Packet}
use Rattle.part_network.specs.declared.network.Network.{Network}
use Rattle.part_network.specs.Packets.{BytePacket, packet_of, length_of, packet_with, framed, frame_length, frame_lengths, bytes_of, most_bytes}
use Rattle.part_network.specs.Packets.{HasPartFrame, HasFrames, HasPackets, read_of, part_in, part_with, sent_parts, told}

some_same : {X : Type 0} (a b : X) → Some a ≡ Some b → a ≡ b
some_same a b h = cc

one_sum : {X Y : Type 0} (f : X → ℕ) (g : Y → ℕ) (x : X) (y : Y) (xs : List X) (ys : List Y) → f x ≡ g y → sum_by f xs ≡ sum_by g ys → sum_by f (x ∷ xs) ≡ sum_by g (y ∷ ys)
one_sum f g x y xs ys here rest = sum_by-cons f x xs ∙ (ap (λ (n : ℕ). n + sum_by f xs) here ∙ (ap (λ (n : ℕ). g y + n) rest ∙ sym (sum_by-cons g y ys)))

-- ---- parts and their messages

name_stays : (part : Part) → name_of (message_at part) ≡ part_name part
name_stays (Asks head) = refl
name_stays (Responds response) = refl
name_stays (Pulls pull) = refl
name_stays (Answers head) = refl
name_stays (BringsUp f) = refl
name_stays (BringsDown f) = refl
name_stays (AsksTorn torn) = refl
name_stays (AnswersTorn head) = refl

abbrev between : Node → Node → List Part → List PartPacket
between from to parts = map (λ (part : Part). record { from = from; to = to; part = part }) parts

pub lines_are : (number : ℕ) (from to : Node) (parts : List Part) → told number from to (map message_at parts) ≡ sent_lines number (between from to parts)
lines_are number from to [] = refl
lines_are number from to (part ∷ parts) =
    ap (λ (name : MessageName). FactLine (facts.Sent number from to name) ∷ told (number + 1) from to (map message_at parts)) (name_stays part)
    ∙ ap (λ (l : List Line). FactLine (facts.Sent number from to (part_name part)) ∷ l) (lines_are (number + 1) from to parts)

pub packets_are : (from to : Node) (parts : List Part) → map (λ (m : Message). packet_with from to m) (map message_at parts) ≡ map framed (between from to parts)
packets_are from to [] = refl
packets_are from to (part ∷ parts) = ap (λ (l : List BytePacket). packet_with from to (message_at part) ∷ l) (packets_are from to parts)

pub lengths_are : (from to : Node) (parts : List Part) → frame_lengths (map message_at parts) ≡ bytes_of (between from to parts)
lengths_are from to [] = refl
lengths_are from to (part ∷ parts) =
    one_sum frame_length (λ (p : PartPacket). frame_length (message_at p.part)) (message_at part) (record { from = from; to = to; part = part }) (map message_at parts) (between from to parts) refl
    (lengths_are from to parts)

pub all_framed : (parts : List Part) → AllByRecursion HasPartFrame parts → AllByRecursion HasFrame (map message_at parts)
all_framed [] h = tt
all_framed (part ∷ parts) h = (h.0, all_framed parts h.1)

all_between : (from to : Node) (parts : List Part) → AllByRecursion HasPartFrame parts → AllByRecursion (λ (p : PartPacket). HasPartFrame p.part) (between from to parts)
all_between from to [] h = tt
all_between from to (part ∷ parts) h = (h.0, all_between from to parts h.1)

all_append : {X : Type 0} (P : X → Type 0) (xs ys : List X) → AllByRecursion P xs → AllByRecursion P ys → AllByRecursion P (xs ++ ys)
all_append P [] ys h k = k
all_append P (x ∷ xs) ys h k = (h.0, all_append P xs ys h.1 k)

-- ---- what all packets come to

abbrev greatest : ℕ
greatest = 2 ^ 64 - 1

lengths_of : (packets : List Packet) → sum_by length_of packets ≡ sum_by (λ (b : BytePacket). length b.bytes) (map packet_of packets)
lengths_of [] = refl
lengths_of (packet ∷ packets) = one_sum length_of (λ (b : BytePacket). length b.bytes) packet (packet_of packet) packets (map packet_of packets) refl (lengths_of packets)

lengths_with : (from to : Node) (messages : List Message) → sum_by (λ (b : BytePacket). length b.bytes) (map (λ (m : Message). packet_with from to m) messages) ≡ frame_lengths messages
lengths_with from to [] = refl
lengths_with from to (m ∷ messages) =
    one_sum (λ (b : BytePacket). length b.bytes) frame_length (packet_with from to m) m (map (λ (n : Message). packet_with from to n) messages) messages refl (lengths_with from to messages)

-- packets of messages have as many bytes as the frames of these
pub as_many_bytes : (from to : Node) (packets : List Packet) (messages : List Message) → map packet_of packets ≡ map (λ (m : Message). packet_with from to m) messages
    → sum_by length_of packets ≡ frame_lengths messages
as_many_bytes from to packets messages are =
    lengths_of packets ∙ (ap (sum_by (λ (b : BytePacket). length b.bytes)) are ∙ lengths_with from to messages)

-- no packet is left
pub all_added : (all : ℕ) (packets : List Packet) (i target : ℕ) → all ≤ greatest → length packets ≤ i → min (all + sum_by length_of (drop i packets)) greatest ≡ target → all ≡ target
all_added all packets i target most over so_far =
    let nothing : min (all + 0) greatest ≡ all = omega arith in
    sym nothing ∙ (ap (λ (l : List Packet). min (all + sum_by length_of l) greatest) (sym (drop_all i packets over)) ∙ so_far)

pub with_packets : (before : ℕ) (from to : Node) (slice packets : List Packet) (messages : List Message) (bytes : ℕ) → slice ≡ packets
    → map packet_of packets ≡ map (λ (m : Message). packet_with from to m) messages
    → bytes ≡ min (before + sum_by length_of slice) greatest → bytes ≡ min (before + frame_lengths messages) greatest
with_packets before from to slice packets messages bytes same are is =
    is ∙ ap (λ (n : ℕ). min (before + n) greatest) (ap (sum_by length_of) same ∙ as_many_bytes from to packets messages are)

pub too_many : (before with_them : ℕ) (bytes : ℕ) → bytes ≡ min (before + with_them) greatest → most_bytes < bytes → most_bytes < before + with_them
too_many before with_them bytes is over = omega arith

pub not_too_many : (before with_them : ℕ) (bytes : ℕ) → bytes ≡ min (before + with_them) greatest → bytes ≤ most_bytes → bytes ≡ before + with_them
not_too_many before with_them bytes is few = omega arith

pub bytes_behind : (ps qs : List PartPacket) → bytes_of (ps ++ qs) ≡ bytes_of ps + bytes_of qs
bytes_behind ps qs = sum_by-append (λ (p : PartPacket). frame_length (message_at p.part)) ps qs

pub as_many : (network : Network) (ps : List PartPacket) → HasPackets network ps → length network.packets.items ≡ length ps
as_many network ps h = sym (length-map network.packets.items packet_of) ∙ (ap length h.packets ∙ length-map ps framed)

-- ---- the network behind what was sent

pub three_ok : {T E : Type 0} (r : Result T E) (P Q R : Type 0) → OnOk r P → OnOk r Q → OnOk r R → OnOk r (P × (Q × R))
three_ok (Ok x) P Q R p q s = (p, (q, s))
three_ok (Err e) P Q R p q s = tt

pub goes_on : (old new : Network) (ps : List PartPacket) (from to : Node) (chunk : ℕ) (message : wholes.Message) (messages : List Message) → messages ≡ map message_at (parts_of chunk message)
    → HasFrames chunk message → map packet_of new.packets.items ≡ map packet_of old.packets.items ++ map (λ (m : Message). packet_with from to m) messages
    → new.bytes ≡ old.bytes + frame_lengths messages → new.bytes ≤ most_bytes → HasPackets old ps → HasPackets new (ps ++ sent_parts from to chunk message)
goes_on old new ps from to chunk message messages are have packets bytes most h =
    let parts : List Part = parts_of chunk message in
    let sent : List PartPacket = sent_parts from to chunk message in
    let behind : bytes_of (ps ++ sent) ≡ new.bytes =
    bytes_behind ps sent ∙ (ap (λ (n : ℕ). n + bytes_of sent) (sym h.bytes) ∙ (ap (λ (n : ℕ). old.bytes + n) (sym (ap frame_lengths are ∙ lengths_are from to parts)) ∙ sym bytes)) in
    record {
      packets = packets ∙ (ap (λ (l : List BytePacket). l ++ map (λ (m : Message). packet_with from to m) messages) h.packets
          ∙ (ap (λ (l : List BytePacket). map framed ps ++ l) (ap (map (λ (m : Message). packet_with from to m)) are ∙ packets_are from to parts) ∙ sym (map-append framed ps sent)));
      frames = all_append (λ (p : PartPacket). HasPartFrame p.part) ps sent h.frames (all_between from to parts have);
      bytes = sym behind;
      most = subst (λ (n : ℕ). n ≤ most_bytes) (sym behind) most;
    }

pub bytes_are : (old : Network) (ps : List PartPacket) (from to : Node) (chunk : ℕ) (message : wholes.Message) (messages : List Message) → messages ≡ map message_at (parts_of chunk message)
    → HasPackets old ps → old.bytes + frame_lengths messages ≡ bytes_of (ps ++ sent_parts from to chunk message)
bytes_are old ps from to chunk message messages are h =
    ap (λ (n : ℕ). n + frame_lengths messages) h.bytes
    ∙ (ap (λ (n : ℕ). bytes_of ps + n) (ap frame_lengths are ∙ lengths_are from to (parts_of chunk message)) ∙ sym (bytes_behind ps (sent_parts from to chunk message)))

pub lines_behind : (old : Network) (ps : List PartPacket) (from to : Node) (chunk : ℕ) (message : wholes.Message) (messages : List Message) → messages ≡ map message_at (parts_of chunk message)
    → HasPackets old ps → told (length old.packets.items) from to messages ≡ sent_lines (length ps) (sent_parts from to chunk message)
lines_behind old ps from to chunk message messages are h =
    ap (λ (n : ℕ). told n from to messages) (as_many old ps h) ∙ (ap (told (length ps) from to) are ∙ lines_are (length ps) from to (parts_of chunk message))

-- ---- one packet

-- a packet of the network, as the frame of the part that stands there
pub record IsPart (packet : Packet) (place : Option PartPacket) : Type 0 where
  pub p : PartPacket
  pub there : place ≡ Some p
  pub from : packet.from ≡ p.from
  pub to : packet.to ≡ p.to
  pub frame : IsFrameOf packet.frame.items (message_at p.part)

first_of_two : (a b : BytePacket) (some others : List BytePacket) → a ∷ some ≡ b ∷ others → (a ≡ b) × (some ≡ others)
first_of_two a b some others h = (cc, cc)

part_at : (items : List Packet) (ps : List PartPacket) (number : ℕ) (packet : Packet) → map packet_of items ≡ map framed ps → AllByRecursion (λ (p : PartPacket). HasPartFrame p.part) ps
    → Some packet ≡ slice_get items number → IsPart packet (slice_get ps number)
part_at [] ps number packet same have there = absurd cc
part_at (x ∷ items) [] number packet same have there = absurd cc
part_at (x ∷ items) (p ∷ ps) zero packet same have there =
    let it : packet_of packet ≡ framed p = ap packet_of (some_same packet x there) ∙ (first_of_two (packet_of x) (framed p) (map packet_of items) (map framed ps) same).0 in
    record {
      p = p;
      there = refl;
      from = ap (λ (b : BytePacket). b.from) it;
      to = ap (λ (b : BytePacket). b.to) it;
      frame = record { fits = have.0; is = ap (λ (b : BytePacket). b.bytes) it };
    }
part_at (x ∷ items) (p ∷ ps) (suc number) packet same have there =
    part_at items ps number packet (first_of_two (packet_of x) (framed p) (map packet_of items) (map framed ps) same).1 have.1 there

pub part_there : (network : Network) (ps : List PartPacket) (number : ℕ) (packet : Packet) → HasPackets network ps → Some packet ≡ slice_get network.packets.items number
    → IsPart packet (slice_get ps number)
part_there network ps number packet h there = part_at network.packets.items ps number packet h.packets h.frames there

pub reads : (packet : Packet) (place : Option PartPacket) (it : IsPart packet place) (m : Message) → m ≡ message_at it.p.part → Some (packet.from, m) ≡ option_map read_of place
reads packet place it m same =
    ap (λ (n : Message). Some (packet.from, n)) same ∙ (ap (λ (from : Node). Some (from, message_at it.p.part)) it.from ∙ sym (ap (option_map read_of) it.there))

-- an answer by messages, as one by parts
pub by_parts : (place : Option PartPacket) → option_map part_in (option_map read_of place) ≡ option_map part_with place
by_parts None = refl
by_parts (Some p) = ap (λ (part : Option Part). Some (p.from, part)) (part_of_sent p.part)
