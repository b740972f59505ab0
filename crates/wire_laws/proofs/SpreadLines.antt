-- What a step of the nodes tells and sends on the wire, beside what it tells and sends of whole messages.
use Rattle.std.proofs.Common.{◌≡◌, ℕ, ◌+◌, suc, true, List, [], ◌∷◌, ◌++◌, length, Option, Some, None, refl, sym, ◌∙◌, ap, arith}
use Rattle.std.specs.Prelude.{map, option_to_list}
use Rattle.std.specs.List.{AllByRecursion, flat_map}
use Rattle.std.proofs.lemmas.List.{map-append}
use Rattle.stab_base.specs.declared.node.Node.{Node}
use Rattle.step_tables.specs.Facts.{Fact, Answer, Line, AnswerLine, FactLine}
use Rattle.step_tables.specs.Facts as facts
use Rattle.step_tables.specs.Messages.{table_of}
use Rattle.world_tables.specs.World.{World, Packet, Outbox, WorldStep, schema_at, chunk_in}
use Rattle.world_tables.specs.World as world
use Rattle.world_tables.specs.Quiet.{sent_in}
use Rattle.part_tables.specs.Parts.{Part, parts_of}
use Rattle.name_laws.proofs.Plain.{IsPlainFact, ArePlainFacts}
use Rattle.name_laws.proofs.Moves.{ArePlainOuts}
use Rattle.wire_tables.specs.Wire.{PartPacket, Wire, split, sent_lines, lines_from, lines_of, in_parts, spread}
use Rattle.wire_laws.specs.Alike.{is_sending, AreLinesAlike}
use Rattle.wire_laws.proofs.LinesAlike.{alike_itself, alike_both}
use Rattle.wire_laws.proofs.PartsOf.{parts_some}

all_sending : (number : ℕ) (packets : List PartPacket) → AllByRecursion (λ (line : Line). is_sending line ≡ true) (sent_lines number packets)
all_sending number [] = tt
all_sending number (packet ∷ packets) = (refl, all_sending (number + 1) packets)

lines_join : (number : ℕ) (xs ys : List PartPacket) → sent_lines number (xs ++ ys) ≡ sent_lines number xs ++ sent_lines (number + length xs) ys
lines_join number [] ys = ap (λ (n : ℕ). sent_lines n ys) (none number)
  where
    none : (n : ℕ) → n ≡ n + 0
    none n = omega arith
lines_join number (x ∷ xs) ys =
    ap (λ (lines : List Line). sent_lines number (x ∷ []) ++ lines)
    (lines_join (number + 1) xs ys ∙ ap (λ (n : ℕ). sent_lines (number + 1) xs ++ sent_lines n ys) (later number (length xs)))
  where
    later : (n k : ℕ) → n + 1 + k ≡ n + suc k
    later n k = omega arith

no_lines : (number : ℕ) (packets : List PartPacket) → sent_lines number packets ≡ [] → packets ≡ []
no_lines number [] e = refl
no_lines number (packet ∷ packets) e = absurd cc

none_mapped : {X Y : Type 0} (f : X → Y) (xs : List X) → map f xs ≡ [] → xs ≡ []
none_mapped f [] e = refl
none_mapped f (x ∷ xs) e = absurd cc

-- the nodes to which packets go
abbrev pub to_of : List PartPacket → List Node
to_of packets = map (λ (p : PartPacket). p.to) packets

abbrev pub whole_to : List Packet → List Node
whole_to packets = map (λ (p : Packet). p.to) packets

module _ (w : World) where
  split_some : (packet : Packet) → split w packet ≡ [] → ⊥
  split_some packet e =
      parts_some (chunk_in (schema_at w (table_of packet.message))) packet.message
      (none_mapped (λ (part : Part). record { from = packet.from; to = packet.to; part = part }) (parts_of (chunk_in (schema_at w (table_of packet.message))) packet.message) e)

  packets_alike : (number count : ℕ) (packets : List Packet) → AreLinesAlike (sent_lines number (flat_map (split w) packets)) (world.sent_lines count packets)
  packets_alike number count [] = refl
  packets_alike number count (packet ∷ packets) = (
    sent_lines number (split w packet),
    sent_lines (number + length (split w packet)) (flat_map (split w) packets),
    lines_join number (split w packet) (flat_map (split w) packets),
    record { some = λ e. split_some packet (no_lines number (split w packet) e); all = all_sending number (split w packet) },
    packets_alike (number + length (split w packet)) (count + 1) packets,
  )

  outs_alike : (number count : ℕ) (outs : List Outbox) → AreLinesAlike (lines_from number (map (in_parts w) outs)) (world.lines_from count outs)
  outs_alike number count [] = refl
  outs_alike number count (out ∷ outs) =
      let n : ℕ = number + length (flat_map (split w) out.packets) in
      let k : ℕ = count + length out.packets in
      alike_both (map FactLine out.facts) (map FactLine out.facts)
      (sent_lines number (flat_map (split w) out.packets) ++ lines_from n (map (in_parts w) outs)) (world.sent_lines count out.packets ++ world.lines_from k outs)
      (alike_itself (map FactLine out.facts))
      (alike_both (sent_lines number (flat_map (split w) out.packets)) (world.sent_lines count out.packets) (lines_from n (map (in_parts w) outs)) (world.lines_from k outs)
      (packets_alike number count out.packets) (outs_alike n k outs))

  -- ---- what is sent

  facts_sent : (some : List Fact) (rest : List Line) → ArePlainFacts some → sent_in (map FactLine some ++ rest) ≡ sent_in rest
  facts_sent [] rest p = refl
  facts_sent (fact ∷ more) rest p = one fact p.0 (facts_sent more rest p.1)
    where
      one : (f : Fact) → IsPlainFact f → sent_in (map FactLine more ++ rest) ≡ sent_in rest → sent_in (FactLine f ∷ (map FactLine more ++ rest)) ≡ sent_in rest
      one (facts.Sent n a b m) q later = absurd q
      one other q later = later

  packets_sent : (number : ℕ) (packets : List PartPacket) (rest : List Line) → sent_in (sent_lines number packets ++ rest) ≡ to_of packets ++ sent_in rest
  packets_sent number [] rest = refl
  packets_sent number (p ∷ packets) rest = ap (λ (ns : List Node). p.to ∷ ns) (packets_sent (number + 1) packets rest)

  abbrev pub parts_in : List Outbox → List PartPacket
  parts_in outs = flat_map (λ (out : Outbox). flat_map (split w) out.packets) outs

  outs_sent : (number : ℕ) (outs : List Outbox) → ArePlainOuts outs → sent_in (lines_from number (map (in_parts w) outs)) ≡ to_of (parts_in outs)
  outs_sent number [] p = refl
  outs_sent number (out ∷ outs) p =
      let n : ℕ = number + length (flat_map (split w) out.packets) in
      facts_sent out.facts (sent_lines number (flat_map (split w) out.packets) ++ lines_from n (map (in_parts w) outs)) p.0
      ∙ (packets_sent number (flat_map (split w) out.packets) (lines_from n (map (in_parts w) outs))
      ∙ (ap (λ (ns : List Node). to_of (flat_map (split w) out.packets) ++ ns) (outs_sent n outs p.1)
      ∙ sym (map-append (λ (x : PartPacket). x.to) (flat_map (split w) out.packets) (parts_in outs))))

-- behind what is counted
pub spread_alike : (v beside : Wire) (w : World) (s : WorldStep) → AreLinesAlike (lines_of v (spread beside s)) (world.lines_of w s)
spread_alike v beside w s =
    alike_both (map AnswerLine (option_to_list s.answer)) (map AnswerLine (option_to_list s.answer))
    (s.counted ++ lines_from (length v.packets) (map (in_parts beside.world) s.outs)) (s.counted ++ world.lines_from (length w.packets) s.outs)
    (alike_itself (map AnswerLine (option_to_list s.answer)))
    (alike_both s.counted s.counted (lines_from (length v.packets) (map (in_parts beside.world) s.outs)) (world.lines_from (length w.packets) s.outs)
    (alike_itself s.counted) (outs_alike beside.world (length v.packets) (length w.packets) s.outs))

pub spread_sent : (v beside : Wire) (s : WorldStep) → ArePlainOuts s.outs → ((rest : List Line) → sent_in (s.counted ++ rest) ≡ sent_in rest)
    → sent_in (lines_of v (spread beside s)) ≡ to_of (parts_in beside.world s.outs)
spread_sent v beside s plain counted = go s.answer
  where
    lines : List Line
    lines = lines_from (length v.packets) (map (in_parts beside.world) s.outs)

    go : (a : Option Answer) → sent_in (map AnswerLine (option_to_list a) ++ (s.counted ++ lines)) ≡ to_of (parts_in beside.world s.outs)
    go None = counted lines ∙ outs_sent beside.world (length v.packets) s.outs plain
    go (Some a) = counted lines ∙ outs_sent beside.world (length v.packets) s.outs plain
