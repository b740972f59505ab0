use Rattle.std.proofs.Common.{◌≡◌, ℕ, ◌<◌, List, ◌++◌, length, map, sym, ◌∙◌, ap, subst}
use Rattle.step_tables.specs.Lines.{line_of}
use Rattle.step_tables.specs.Travels.{message_of}
use Rattle.world_tables.specs.World.{schema_at, chunk_in}
use Rattle.wire_tables.specs.Wire.{PartPacket, sent_lines}
use Rattle.part_network.specs.Packets.{HasPackets, most_bytes, bytes_of, sent_parts}
use Rattle.node_steps.specs.Fits.{packet_with}
use Rattle.wire_steps.proofs.Sent.{is_split, has_frames, over_fault}
use Rattle.wire_steps.proofs.sending.send.Goals as goal

pub send-requires-clause-split : goal.send-requires-clause-split
send-requires-clause-split g c =
    let s = c.requires.sent in
    is_split s.0 (packet_with c.args.from c.args.to c.args.message) s.1.reached s.2 c.know_widths.ensures c.chunk_of-chunk.result
    (c.chunk_of-chunk.ensures s.0 s.1.held ∙ ap (λ (t : ℕ). chunk_in (schema_at s.0 t)) c.table.ensures)

pub send-requires-clause-frames : goal.send-requires-clause-frames
send-requires-clause-frames g c =
    let s = c.requires.sent in
    has_frames s.0 (packet_with c.args.from c.args.to c.args.message) s.1.reached s.2 c.know_widths.ensures c.chunk_of-chunk.result
    (c.chunk_of-chunk.ensures s.0 s.1.held ∙ ap (λ (t : ℕ). chunk_in (schema_at s.0 t)) c.table.ensures)

pub returns-in-Ok-clause-sent : goal.returns-in-Ok-clause-sent
returns-in-Ok-clause-sent g c w ps held h =
    let is = ap (λ (n : ℕ). sent_parts c.args.from c.args.to n (message_of c.args.message))
    (c.chunk_of-chunk.ensures w held ∙ ap (λ (t : ℕ). chunk_in (schema_at w t)) c.table.ensures) in
    record {
      packets = subst (λ (l : List PartPacket). HasPackets c.send.new.self (ps ++ l)) is (c.in-Ok.ensures.packets ps h);
      lines = subst (λ (l : List PartPacket). map line_of c.send.new.lines ≡ map line_of c.args.lines.now ++ sent_lines (length ps) l) is
          (c.in-Ok.ensures.lines ps h);
    }

pub returns-in-Err-clause-over : goal.returns-in-Err-clause-over
returns-in-Err-clause-over g c w ps held h count e =
    let is = ap (λ (n : ℕ). sent_parts c.args.from c.args.to n (message_of c.args.message))
    (c.chunk_of-chunk.ensures w held ∙ ap (λ (t : ℕ). chunk_in (schema_at w t)) c.table.ensures) in
    subst (λ (l : List PartPacket). most_bytes < bytes_of (ps ++ l)) is
    (over_fault c.in-Err.fault (ps ++ sent_parts c.args.from c.args.to c.chunk_of-chunk.result (message_of c.args.message)) (c.in-Err.ensures.limit ps h)
    count (sym c.fault_of.ensures ∙ e))
