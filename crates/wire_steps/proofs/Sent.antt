-- Packets and moves that are told and sent one after the other.
use Rattle.std.proofs.Common.{◌≡◌, inl, inr, ℕ, suc, ◌+◌, ◌<◌, true, List, [], ◌∷◌, ◌++◌, length, map, Option, refl, sym, ◌∙◌, ap, subst, arith, append-nil, append_assoc}
use Rattle.std.proofs.lemmas.List.{length-append}
use Rattle.stab_base.specs.declared.node.Node.{Node}
use Rattle.table_model.specs.declared.line.TextLine.{TextLine}
use Rattle.step_tables.specs.Facts.{Line, FactLine}
use Rattle.step_tables.specs.Lines.{line_of}
use Rattle.step_tables.specs.Members.{Among}
use Rattle.step_tables.specs.Messages.{table_of}
use Rattle.step_tables.specs.Travels.{message_of}
use Rattle.step_tables.specs.declared.message.Message.{Message}
use Rattle.step_tables.proofs.Lists.{among_here, among_left, among_right}
use Rattle.world_tables.specs.World.{World as AWorld, Packet, Outbox, schema_at, chunk_in, address}
use Rattle.fair_laws.specs.Reached.{IsReached}
use Rattle.message_parts.specs.Splits.{may_split}
use Rattle.part_network.specs.Packets.{HasPackets, HasFrames, IsFault, most_bytes, bytes_of}
use Rattle.part_network.specs.declared.fault.NetworkFault.{NetworkFault}
use Rattle.part_network.specs.declared.fault.NetworkFault.TheVariants as faults
use Rattle.part_network.specs.declared.network.Network.{Network}
use Rattle.part_network.proofs.Sent.{bytes_behind}
use Rattle.send_laws.specs.Widths.{HasWidths}
use Rattle.send_laws.proofs.Sending.{sent_in_frames}
use Rattle.wire_tables.specs.Wire.{PartPacket, PartOutbox, split, in_parts, sent_lines, lines_from}
use Rattle.node_steps.specs.Fits.{packet_with}
use Rattle.node_steps.specs.declared.fault.WorldFault.{WorldFault}
use Rattle.node_steps.specs.declared.fault.WorldFault.TheVariants.{Memory, Limit as LimitPassed}
use Rattle.wire_steps.specs.Sending.{parts_of, parts_in, packets_in, packets_by, owners_for, AllSent, AllOutsSent, AreSent, IsToldOne, AreTold, fault_of, IsSendFault, IsOverFault}

-- ---- lines and bytes of packets that are sent one behind the other

lines_join : (number : ℕ) (xs ys : List PartPacket) → sent_lines number (xs ++ ys) ≡ sent_lines number xs ++ sent_lines (number + length xs) ys
lines_join number [] ys = ap (λ (n : ℕ). sent_lines n ys) (none number)
  where
    none : (n : ℕ) → n ≡ n + 0
    none n = omega arith
lines_join number (x ∷ xs) ys =
    ap (λ (lines : List Line). sent_lines number (x ∷ []) ++ lines)
    (lines_join (number + 1) xs ys ∙ ap (λ (n : ℕ). sent_lines (number + 1) xs ++ sent_lines n ys) (one_more number (length xs)))
  where
    one_more : (n k : ℕ) → n + 1 + k ≡ n + suc k
    one_more n k = omega arith

lines_behind : (qs xs ys : List PartPacket) → sent_lines (length qs) (xs ++ ys) ≡ sent_lines (length qs) xs ++ sent_lines (length (qs ++ xs)) ys
lines_behind qs xs ys = lines_join (length qs) xs ys ∙ ap (λ (n : ℕ). sent_lines (length qs) xs ++ sent_lines n ys) (sym (length-append qs xs))

at_most : (a b c n : ℕ) → a ≡ b + c → n < b → n < a
at_most a b c n is less = omega (arith, is, less)

-- where more is to be sent, too many bytes are too many
over_more : (qs xs ys : List PartPacket) → most_bytes < bytes_of (qs ++ xs) → most_bytes < bytes_of (qs ++ (xs ++ ys))
over_more qs xs ys over =
    subst (λ (l : List PartPacket). most_bytes < bytes_of l) (append_assoc qs xs ys)
    (at_most (bytes_of ((qs ++ xs) ++ ys)) (bytes_of (qs ++ xs)) (bytes_of ys) most_bytes (bytes_behind (qs ++ xs) ys) over)

-- ---- what was sent has frames

module _ (w : AWorld) (packet : Packet) (r : IsReached w) (a : Among w.packets packet) (k : HasWidths packet.message) (chunk : ℕ)
    (is : chunk ≡ chunk_in (schema_at w (table_of packet.message))) where
  pub is_split : may_split packet.message ≡ true
  is_split = (sent_in_frames w packet r a k).0

  pub has_frames : HasFrames chunk packet.message
  has_frames = subst (λ (n : ℕ). HasFrames n packet.message) (sym is) (sent_in_frames w packet r a k).1

pub over_fault : (fault : NetworkFault) (ps : List PartPacket) → IsFault (bytes_of ps) fault → IsOverFault ps (fault_of fault)
over_fault (faults.Limit bytes) ps over = λ count is. over.0
over_fault faults.Memory ps over = λ count is. let both : Memory ≡ LimitPassed 10 count = is in absurd cc

pub send_fault : (fault : NetworkFault) → IsSendFault (fault_of fault)
send_fault (faults.Limit bytes) = inr (bytes, refl)
send_fault faults.Memory = inl refl

pub memory_over : (ps : List PartPacket) (e : WorldFault) → e ≡ Memory → IsOverFault ps e
memory_over ps e is = λ count over. let both : Memory ≡ LimitPassed 10 count = sym is ∙ over in absurd cc

-- the next packet of a party, and the others
pub next_packet : (w : AWorld) (from to : Node) (messages : List (Option Node × Message)) (o : Option Node) (message : Message) (rest : List (Option Node × Message))
    → messages ≡ (o, message) ∷ rest → to ≡ address (owners_for w from) o (message_of message) → packets_by w from messages ≡ packet_with from to message ∷ packets_by w from rest
next_packet w from to messages o message rest is at =
    ap (λ (items : List (Option Node × Message)). packets_by w from items) is
    ∙ ap (λ (n : Node). packet_with from n message ∷ packets_by w from rest) (sym at)

-- ---- packets, one after the other

pub record SendsOn (w : AWorld) (ps : List PartPacket) (all rest : List Packet) (network : Network) (before now : List TextLine) : Type 0 where
  pub qs : List PartPacket
  pub packets : HasPackets network qs
  pub rest_is : qs ++ parts_of w rest ≡ ps ++ parts_of w all
  pub lines : map line_of now ++ sent_lines (length qs) (parts_of w rest) ≡ map line_of before ++ sent_lines (length ps) (parts_of w all)

module _ (w : AWorld) (ps : List PartPacket) (all : List Packet) (before : List TextLine) where
  pub sends_first : (network : Network) → HasPackets network ps → SendsOn w ps all all network before before
  sends_first network h = record { qs = ps; packets = h; rest_is = refl; lines = refl }

  pub sends_next : (p : Packet) (rest : List Packet) (network new : Network) (now after : List TextLine) (s : SendsOn w ps all (p ∷ rest) network before now)
      → AreSent s.qs (split w p) new now after → SendsOn w ps all rest new before after
  sends_next p rest network new now after s k = record {
    qs = s.qs ++ split w p;
    packets = k.packets;
    rest_is = append_assoc s.qs (split w p) (parts_of w rest) ∙ s.rest_is;
    lines = ap (λ (l : List Line). l ++ sent_lines (length (s.qs ++ split w p)) (parts_of w rest)) k.lines
        ∙ (append_assoc (map line_of now) (sent_lines (length s.qs) (split w p)) (sent_lines (length (s.qs ++ split w p)) (parts_of w rest))
        ∙ (ap (λ (l : List Line). map line_of now ++ l) (sym (lines_behind s.qs (split w p) (parts_of w rest))) ∙ s.lines));
  }

  pub sends_all : (network : Network) (now : List TextLine) → SendsOn w ps all [] network before now → AreSent ps (parts_of w all) network before now
  sends_all network now s = record {
    packets = subst (HasPackets network) (sym (append-nil s.qs) ∙ s.rest_is) s.packets;
    lines = sym (append-nil (map line_of now)) ∙ s.lines;
  }

  pub sends_over : (p : Packet) (rest : List Packet) (network : Network) (now : List TextLine) (s : SendsOn w ps all (p ∷ rest) network before now) (e : WorldFault)
      → IsOverFault (s.qs ++ split w p) e → IsOverFault (ps ++ parts_of w all) e
  sends_over p rest network now s e over = λ count is.
      subst (λ (l : List PartPacket). most_bytes < bytes_of l) s.rest_is (over_more s.qs (split w p) (parts_of w rest) (over count is))

-- ---- moves, one after the other

pub record TellsOn (w : AWorld) (ps : List PartPacket) (all rest : List Outbox) (network : Network) (before now : List TextLine) : Type 0 where
  pub qs : List PartPacket
  pub packets : HasPackets network qs
  pub rest_is : qs ++ parts_in w rest ≡ ps ++ parts_in w all
  pub lines : map line_of now ++ lines_from (length qs) (map (in_parts w) rest) ≡ map line_of before ++ lines_from (length ps) (map (in_parts w) all)

module _ (w : AWorld) (ps : List PartPacket) (all : List Outbox) (before : List TextLine) where
  pub tells_first : (network : Network) → HasPackets network ps → TellsOn w ps all all network before before
  tells_first network h = record { qs = ps; packets = h; rest_is = refl; lines = refl }

  pub tells_next : (out : Outbox) (rest : List Outbox) (network new : Network) (now after : List TextLine) (s : TellsOn w ps all (out ∷ rest) network before now)
      → IsToldOne w s.qs out new now after → TellsOn w ps all rest new before after
  tells_next out rest network new now after s k =
      let sent : List PartPacket = parts_of w out.packets in
      let more : List PartOutbox = map (in_parts w) rest in
      record {
        qs = s.qs ++ parts_of w out.packets;
        packets = k.packets;
        rest_is = append_assoc s.qs (parts_of w out.packets) (parts_in w rest) ∙ s.rest_is;
        lines = ap (λ (l : List Line). l ++ lines_from (length (s.qs ++ sent)) more) k.lines
            ∙ (append_assoc (map line_of now) (map FactLine out.facts ++ sent_lines (length s.qs) sent) (lines_from (length (s.qs ++ sent)) more)
            ∙ (ap (λ (l : List Line). map line_of now ++ l)
            (append_assoc (map FactLine out.facts) (sent_lines (length s.qs) sent) (lines_from (length (s.qs ++ sent)) more)
            ∙ ap (λ (n : ℕ). map FactLine out.facts ++ (sent_lines (length s.qs) sent ++ lines_from n more)) (length-append s.qs sent)) ∙ s.lines));
      }

  pub tells_all : (network : Network) (now : List TextLine) → TellsOn w ps all [] network before now → AreTold w ps all network before now
  tells_all network now s = record {
    packets = subst (HasPackets network) (sym (append-nil s.qs) ∙ s.rest_is) s.packets;
    lines = sym (append-nil (map line_of now)) ∙ s.lines;
  }

  pub tells_over : (out : Outbox) (rest : List Outbox) (network : Network) (now : List TextLine) (s : TellsOn w ps all (out ∷ rest) network before now) (e : WorldFault)
      → IsOverFault (s.qs ++ parts_of w out.packets) e → IsOverFault (ps ++ parts_in w all) e
  tells_over out rest network now s e over = λ count is.
      subst (λ (l : List PartPacket). most_bytes < bytes_of l) s.rest_is (over_more s.qs (parts_of w out.packets) (parts_in w rest) (over count is))

-- the facts of a move, and then its packets
pub told_one : (w : AWorld) (ps : List PartPacket) (out : Outbox) (network : Network) (before middle after : List TextLine) → map line_of middle ≡ map line_of before ++ map FactLine out.facts
    → AreSent ps (parts_of w out.packets) network middle after → IsToldOne w ps out network before after
told_one w ps out network before middle after facts k = record {
  packets = k.packets;
  lines = k.lines ∙ (ap (λ (l : List Line). l ++ sent_lines (length ps) (parts_of w out.packets)) facts
      ∙ append_assoc (map line_of before) (map FactLine out.facts) (sent_lines (length ps) (parts_of w out.packets)));
}

-- ---- all that a step sent is among the packets behind it

pub all_among : (w : AWorld) (before sent : List Packet) → w.packets ≡ before ++ sent → (front rest : List Packet) → sent ≡ front ++ rest → AllSent w rest
all_among w before sent is front [] at = tt
all_among w before sent is front (p ∷ rest) at = (
  subst (λ (l : List Packet). Among l p) (sym is) (among_right before sent p (subst (λ (l : List Packet). Among l p) (sym at) (among_right front (p ∷ rest) p (among_here p rest)))),
  all_among w before sent is (front ++ p ∷ []) rest (at ∙ sym (append_assoc front (p ∷ []) rest)),
)

pub outs_among : (w : AWorld) (before : List Packet) (moves : List Outbox) → w.packets ≡ before ++ packets_in moves → AllOutsSent w moves
outs_among w before moves is = go moves [] refl
  where
    some : (front here rest : List Packet) → packets_in moves ≡ front ++ (here ++ rest) → (seen left : List Packet) → here ≡ seen ++ left → AllSent w left
    some front here rest at seen [] e = tt
    some front here rest at seen (p ∷ left) e = (
      subst (λ (l : List Packet). Among l p) (sym is)
          (among_right before (packets_in moves) p (subst (λ (l : List Packet). Among l p) (sym at)
          (among_right front (here ++ rest) p (among_left here rest p (subst (λ (l : List Packet). Among l p) (sym e) (among_right seen (p ∷ left) p (among_here p left))))))),
      some front here rest at (seen ++ p ∷ []) left (e ∙ sym (append_assoc seen (p ∷ []) left)),
    )

    go : (rest : List Outbox) (front : List Packet) → packets_in moves ≡ front ++ packets_in rest → AllOutsSent w rest
    go [] front at = tt
    go (out ∷ rest) front at = (
      some front out.packets (packets_in rest) at [] out.packets refl,
      go rest (front ++ out.packets) (at ∙ sym (append_assoc front out.packets (packets_in rest))),
    )
