-- Messages that are sent one behind the other, and one of them.
use Rattle.std.proofs.Common.{◌≡◌, ℕ, zero, suc, ◌+◌, ◌-◌, ◌≤◌, List, [], ◌∷◌, ◌++◌, length, Option, Some, None, refl, sym, ◌∙◌, ap, subst, arith}
use Rattle.std.specs.Prelude.{Bool, ◌^◌, min, is_some, option_map, slice_get, Result, IfOk}
use Rattle.std.proofs.lemmas.List.Sums.{sum_by-append}
use Rattle.table_model.specs.declared.message.Message.{Message}
use Rattle.wire_tables.specs.Wire.{PartPacket}
use Rattle.message_parts.specs.Parts.{part_of}
use Rattle.part_network.specs.Packets.{frame_length, most_bytes}
use Rattle.gated_tables.specs.Net.{Sent}
use Rattle.net_network.specs.declared.packet.Kept.{Kept}
use Rattle.net_network.specs.declared.packet.Kept.TheVariants as kinds
use Rattle.net_network.specs.declared.packet.Packet.{Packet}
use Rattle.net_network.specs.declared.packet.Way.{Way}
use Rattle.net_network.specs.declared.network.Network.{Network}
use Rattle.net_network.specs.Packets.{IsKept, IsPacketOf, AreKept, net_bytes, HasSent, IsPartIf, IsWayAt, whole_of, whole_in}
use Rattle.net_network.proofs.Stamped.{part_there}

-- ---- the wire sends more

found_before : {X : Type 0} (xs more : List X) (number : ℕ) (x : X) → slice_get xs number ≡ Some x → slice_get (xs ++ more) number ≡ Some x
found_before [] more number x h = absurd cc
found_before (y ∷ xs) more zero x h = h
found_before (y ∷ xs) more (suc number) x h = found_before xs more number x h

kept_before : (ps more : List PartPacket) (kept : Kept) (message : Message) → IsKept ps kept message → IsKept (ps ++ more) kept message
kept_before ps more (kinds.Part number token) message h = (h.0, found_before ps more number h.0 h.1, h.2, h.3)
kept_before ps more (kinds.Frame frame) message h = h

all_before : (ps more : List PartPacket) (packets : List Packet) (sent : List Sent) → AreKept ps packets sent → AreKept (ps ++ more) packets sent
all_before ps more [] [] h = tt
all_before ps more [] (one ∷ sent) h = absurd h
all_before ps more (packet ∷ packets) [] h = absurd h
all_before ps more (packet ∷ packets) (one ∷ sent) h =
    (record { from = h.0.from; to = h.0.to; kept = kept_before ps more packet.kept one.message h.0.kept }, all_before ps more packets sent h.1)

-- what was sent stays where the wire sends more
pub stays : (network : Network) (ps more : List PartPacket) (sent : List Sent) → HasSent network ps sent → HasSent network (ps ++ more) sent
stays network ps more sent h = record { kept = all_before ps more network.packets.items sent h.kept; bytes = h.bytes; most = h.most }

-- ---- one message more

pub one_more : (ps : List PartPacket) (packets : List Packet) (sent : List Sent) (packet : Packet) (one : Sent) → AreKept ps packets sent → IsPacketOf ps packet one
    → AreKept ps (packets ++ packet ∷ []) (sent ++ one ∷ [])
one_more ps [] [] packet one h it = (it, tt)
one_more ps [] (other ∷ sent) packet one h it = absurd h
one_more ps (before ∷ packets) [] packet one h it = absurd h
one_more ps (before ∷ packets) (other ∷ sent) packet one h it = (h.0, one_more ps packets sent packet one h.1 it)

pub as_many : (ps : List PartPacket) (packets : List Packet) (sent : List Sent) → AreKept ps packets sent → length packets ≡ length sent
as_many ps [] [] h = refl
as_many ps [] (one ∷ sent) h = absurd h
as_many ps (packet ∷ packets) [] h = absurd h
as_many ps (packet ∷ packets) (one ∷ sent) h = ap suc (as_many ps packets sent h.1)

pub bytes_with : (sent : List Sent) (one : Sent) → net_bytes (sent ++ one ∷ []) ≡ net_bytes sent + frame_length one.message
bytes_with sent one = omega (arith, sum_by-append (λ (it : Sent). frame_length it.message) sent (one ∷ []))

sum_is : (old len all more bytes : ℕ) → old ≡ all → len ≡ more → bytes ≡ min (old + len) (2 ^ 64 - 1) → bytes ≤ most_bytes → bytes ≡ all + more
sum_is old len all more bytes before here is few = omega arith

pub adds : (old new : Network) (ps : List PartPacket) (sent : List Sent) (packet : Packet) (one : Sent) (len : ℕ) → HasSent old ps sent → IsPacketOf ps packet one → len ≡ frame_length one.message
    → new.packets.items ≡ old.packets.items ++ packet ∷ [] → new.bytes ≡ min (old.bytes + len) (2 ^ 64 - 1) → new.bytes ≤ most_bytes → HasSent new ps (sent ++ one ∷ [])
adds old new ps sent packet one len h it same packets bytes few =
    let all : new.bytes ≡ net_bytes (sent ++ one ∷ []) = sum_is old.bytes len (net_bytes sent) (frame_length one.message) new.bytes h.bytes same bytes few ∙ sym (bytes_with sent one) in
    record {
      kept = subst (λ (l : List Packet). AreKept ps l (sent ++ one ∷ [])) (sym packets) (one_more ps old.packets.items sent packet one h.kept it);
      bytes = all;
      most = subst (λ (n : ℕ). n ≤ most_bytes) all few;
    }

-- ---- one of them

abbrev pub IsPacketAt : List PartPacket → Option Packet → Option Sent → Type 0
IsPacketAt ps None None = Unit {0}
IsPacketAt ps None (Some one) = ⊥
IsPacketAt ps (Some packet) None = ⊥
IsPacketAt ps (Some packet) (Some one) = IsPacketOf ps packet one

pub packet_at : (ps : List PartPacket) (packets : List Packet) (sent : List Sent) (number : ℕ) → AreKept ps packets sent → IsPacketAt ps (slice_get packets number) (slice_get sent number)
packet_at ps [] [] number h = tt
packet_at ps [] (one ∷ sent) number h = absurd h
packet_at ps (packet ∷ packets) [] number h = absurd h
packet_at ps (packet ∷ packets) (one ∷ sent) zero h = h.0
packet_at ps (packet ∷ packets) (one ∷ sent) (suc number) h = packet_at ps packets sent number h.1

pub there : (network : Network) (ps : List PartPacket) (sent : List Sent) (number : ℕ) (found : Option Packet) → HasSent network ps sent → found ≡ slice_get network.packets.items number
    → IsPacketAt ps found (slice_get sent number)
there network ps sent number found h is =
    subst (λ (o : Option Packet). IsPacketAt ps o (slice_get sent number)) (sym is) (packet_at ps network.packets.items sent number h.kept)

pub nothing : (ps : List PartPacket) (place : Option Sent) → IsPacketAt ps None place → None ≡ whole_in place
nothing ps None h = refl
nothing ps (Some one) h = absurd h

pub no_way : (ps : List PartPacket) (result : Option Way) (place : Option Sent) → IsPacketAt ps None place → result ≡ None → IsWayAt ps result place
no_way ps result None h is = subst (λ (o : Option Way). IsWayAt ps o None) (sym is) tt
no_way ps result (Some one) h is = absurd h

pub has_way : (ps : List PartPacket) (packet : Packet) (part : Option (ℕ × ℕ)) (place : Option Sent) → ((message : Message) → IsKept ps packet.kept message → IsPartIf ps part message)
    → IsPacketAt ps (Some packet) place → IsWayAt ps (Some (record { from = packet.from; to = packet.to; part = part })) place
has_way ps packet part None is h = absurd h
has_way ps packet part (Some one) is h = record { from = h.from; to = h.to; part = is one.message h.kept }

by_part : (ps : List PartPacket) (part : Option (ℕ × ℕ)) (message : Message) → IsPartIf ps part message → is_some part ≡ is_some (part_of message)
by_part ps None message h = sym (ap is_some h)
by_part ps (Some it) message h = sym (ap is_some (part_there ps it.0 it.1 message h))

pub by_way : (ps : List PartPacket) (result : Option Way) (place : Option Sent) → IsWayAt ps result place
    → option_map (λ (way : Way). is_some way.part) result ≡ option_map (λ (one : Sent). is_some (part_of one.message)) place
by_way ps None None h = refl
by_way ps None (Some one) h = absurd h
by_way ps (Some way) None h = absurd h
by_way ps (Some way) (Some one) h = ap (λ (b : Bool). Some b) (by_part ps way.part one.message h.part)

pub read_whole : {E : Type 0} (ps : List PartPacket) (packet : Packet) (place : Option Sent) (result : Result (Option Message) E)
    → ((message : Message) → IsKept ps packet.kept message → IfOk result (λ (found : Option Message). found ≡ whole_of message))
    → IsPacketAt ps (Some packet) place → IfOk result (λ (found : Option Message). found ≡ whole_in place)
read_whole ps packet None result is h = absurd h
read_whole ps packet (Some one) result is h = is one.message h.kept
