use Rattle.std.proofs.Common.{◌++◌, List, map, sym, ap, subst, ◌∙◌}
use Rattle.std.specs.Prelude.{ℕ}
use Rattle.std.specs.List.{AllByRecursion}
use Rattle.std.proofs.lemmas.Result.{on_ok_weaker, IfErr-weaker}
use Rattle.step_tables.specs.Facts.{Line}
use Rattle.step_tables.specs.Lines.{line_of}
use Rattle.step_tables.specs.Travels.{message_of}
use Rattle.part_tables.specs.Parts.{parts_of}
use Rattle.message_frames.specs.Frames.{HasFrame}
use Rattle.part_network.specs.Packets.{IsFault}
use Rattle.part_network.proofs.Sent.{all_framed, three_ok, goes_on, lines_behind, bytes_are}
use Rattle.part_network.proofs.network.Network.send.Goals as goal

pub send_parts-requires : goal.send_parts-requires
send_parts-requires c =
    subst (AllByRecursion HasFrame) (sym (c.as_slice.ensures.value ∙ c.in_ok-parts.ensures.messages)) (all_framed (parts_of c.args.chunk (message_of c.args.message)) c.requires.frames)

pub returns-clause-packets : goal.returns-clause-packets
returns-clause-packets c ps h =
    on_ok_weaker c.send_parts.result
    (λ t. goes_on c.args.self.now c.send_parts.new.self ps c.args.from c.args.to c.args.chunk (message_of c.args.message) c.as_slice.result.now
    (c.as_slice.ensures.value ∙ c.in_ok-parts.ensures.messages)
    c.requires.frames t.0 t.1.0 t.1.1 h)
    (three_ok c.send_parts.result _ _ _ c.send_parts.ensures.packets c.send_parts.ensures.bytes c.send_parts.ensures.most)

pub returns-clause-lines : goal.returns-clause-lines
returns-clause-lines c ps h =
    on_ok_weaker c.send_parts.result
    (λ t. t ∙ ap (λ (l : List Line). map line_of c.args.lines.now ++ l)
    (lines_behind c.args.self.now ps c.args.from c.args.to c.args.chunk (message_of c.args.message) c.as_slice.result.now (c.as_slice.ensures.value ∙ c.in_ok-parts.ensures.messages) h))
    c.send_parts.ensures.lines

pub returns-clause-limit : goal.returns-clause-limit
returns-clause-limit c ps h =
    IfErr-weaker c.send_parts.result _ _
    (λ e. subst (λ (n : ℕ). IsFault n e)
    (bytes_are c.args.self.now ps c.args.from c.args.to c.args.chunk (message_of c.args.message) c.as_slice.result.now (c.as_slice.ensures.value ∙ c.in_ok-parts.ensures.messages) h))
    c.send_parts.ensures.fault
