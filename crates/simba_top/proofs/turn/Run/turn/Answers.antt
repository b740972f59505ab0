use Rattle.std.proofs.lemmas.Result.{err_from_is_err_and}
use Rattle.simba_top.specs.Faults.{Led}
use Rattle.simba_top.specs.declared.output.Output.TheVariants.{Transcript}
use Rattle.simba_top.proofs.Underway.{are_nodes, line_read}
use Rattle.simba_top.proofs.Endings.{same_count, ended, ended_left, still_tells, tells, tells_same, finished, put_done, put_failed}
use Rattle.simba_top.proofs.turn.Run.turn.Goals as goal

pub returns-in_err-line-clause-ends : goal.returns-in_err-line-clause-ends
returns-in_err-line-clause-ends g c = λ input before goes.
    let out = (g.P.Depot.state c.args.depot.now).is_out in
    let left = g.S.Source.left c.args.source.now in
    let now = g.K.Sink.holds c.args.sink.now in
    let p = err_from_is_err_and c.from_residual.result c.from_residual.ensures.1 in
    rw (p.1, p.2) (ended Transcript (Led g.D.Disk.state c.next_line.new.self.world) c.in_err-line.field-0.0 input goes.0 c.args.self.now.count c.next_line.new.self.count
    (g.S.Source.left c.next_line.new.source) before now
    (same_count c.args.self.now c.next_line.new.self c.in_err-line.ensures.same) (c.in_err-line.ensures.found input goes.0 goes.1 out goes.2)
    c.in_err-line.ensures.sent
    (tells_same g.D.Disk.state input c.args.self.now out left before now goes c.next_line.new.self c.in_err-line.ensures.same))

pub returns-in_default-clause-goes : goal.returns-in_default-clause-goes
returns-in_default-clause-goes g c = λ input before goes.
    let out = (g.P.Depot.state c.args.depot.now).is_out in
    let left = g.S.Source.left c.args.source.now in
    let now = g.K.Sink.holds c.args.sink.now in (
      goes.0,
      (rw c.in_default.is at (c.in_ok-line.ensures.found input goes.0 goes.1 out goes.2)),
      tells_same g.D.Disk.state input c.args.self.now out left before now goes c.next_line.new.self c.in_ok-line.ensures.same,
    )

pub returns-in_default-clause-finished : goal.returns-in_default-clause-finished
returns-in_default-clause-finished g c = λ input before goes false.
    let out = (g.P.Depot.state c.args.depot.now).is_out in
    finished g.D.Disk.state input c.args.self.now out (g.S.Source.left c.args.source.now) before (g.K.Sink.holds c.args.sink.now) goes
    c.next_line.new.self c.in_ok-line.ensures.same (rw c.in_default.is at (c.in_ok-line.ensures.found input goes.0 goes.1 out goes.2))

pub returns-in_err-texts-clause-ends : goal.returns-in_err-texts-clause-ends
returns-in_err-texts-clause-ends g c = λ input before goes.
    let out = (g.P.Depot.state c.args.depot.now).is_out in
    let left = g.S.Source.left c.args.source.now in
    let now = g.K.Sink.holds c.args.sink.now in
    let p = err_from_is_err_and c.from_residual-in_err-texts.result c.from_residual-in_err-texts.ensures.1 in
    let has = rw c.in-Some.is at (c.in_ok-line.ensures.found input goes.0 goes.1 out goes.2) in
    rw (p.1, p.2) (ended_left Transcript (Led g.D.Disk.state c.event_texts.new.self.world) (Led g.D.Disk.state c.args.self.now.world) c.in_err-texts.field-0.0 input goes.0 c.next_line.new.self.count
    c.event_texts.new.self.count (g.S.Source.left c.next_line.new.source) before now
    c.in_err-texts.ensures.few (c.in_err-texts.ensures.texts input goes.0 goes.1 (g.S.Source.left c.next_line.new.source) (rw c.deref.ensures.value has))
    (tells g.D.Disk.state input c.args.self.now out left before now goes)
    (λ no sent. still_tells g.D.Disk.state goes.0 goes.1 c.next_line.new.self.names c.next_line.new.self.world c.event_texts.new.self.world out (g.P.Depot.state c.event_texts.new.depot).is_out before now has.world
    (c.in_err-texts.ensures.left has.world.run has.world.behind no sent) goes.3)
    (λ is. let o = c.in_err-texts.ensures.over input goes.0 goes.1 (g.S.Source.left c.next_line.new.source) (rw c.deref.ensures.value has) is in (o.0, o.1, (goes.1, o.2, goes.3))))

pub returns-in_err-put_all-clause-ends : goal.returns-in_err-put_all-clause-ends
returns-in_err-put_all-clause-ends g c = λ input before goes.
    let out = (g.P.Depot.state c.args.depot.now).is_out in
    let new = (g.P.Depot.state c.event_texts.new.depot).is_out in
    let p = err_from_is_err_and c.from_residual-in_err-put_all.result c.from_residual-in_err-put_all.ensures.1 in
    let has = rw c.in-Some.is at (c.in_ok-line.ensures.found input goes.0 goes.1 out goes.2) in
    let on = c.in_ok-texts.ensures.texts input goes.0 goes.1 (g.S.Source.left c.next_line.new.source) (rw c.deref.ensures.value has) in
    rw (p.1, p.2) (put_failed g.D.Disk.state input goes.1 c.event_texts.new.self new (g.S.Source.left c.next_line.new.source) c.in_ok-texts.texts.items before
    (g.K.Sink.holds c.args.sink.now) (g.K.Sink.holds c.put_all.new.sink) on goes.3 (rw c.deref-2.ensures.value at c.in_err-put_all.ensures.err))

pub returns-clause-goes : goal.returns-clause-goes
returns-clause-goes g c = λ input before goes.
    let out = (g.P.Depot.state c.args.depot.now).is_out in
    let new = (g.P.Depot.state c.event_texts.new.depot).is_out in
    let has = rw c.in-Some.is at (c.in_ok-line.ensures.found input goes.0 goes.1 out goes.2) in
    let on = c.in_ok-texts.ensures.texts input goes.0 goes.1 (g.S.Source.left c.next_line.new.source) (rw c.deref.ensures.value has) in
    put_done g.D.Disk.state input goes.1 c.event_texts.new.self new (g.S.Source.left c.next_line.new.source) c.in_ok-texts.texts.items before
    (g.K.Sink.holds c.args.sink.now) (g.K.Sink.holds c.put_all.new.sink) on goes.3 (rw c.deref-2.ensures.value at c.in_ok-put_all.ensures.ok)

pub returns-in_err-line-clause-left : goal.returns-in_err-line-clause-left
returns-in_err-line-clause-left g c =
    let p = err_from_is_err_and c.from_residual.result c.from_residual.ensures.1 in
    let out = (g.P.Depot.state c.args.depot.now).is_out in
    rw (p.1, p.2) (λ no. are_nodes g.D.Disk.state out c.next_line.new.self
    (line_read g.D.Disk.state out c.args.self.now c.requires.held c.next_line.new.self c.in_err-line.ensures.same))

pub returns-in_err-texts-clause-left : goal.returns-in_err-texts-clause-left
returns-in_err-texts-clause-left g c =
    let p = err_from_is_err_and c.from_residual-in_err-texts.result c.from_residual-in_err-texts.ensures.1 in
    rw (p.1, p.2) c.in_err-texts.ensures.nodes

pub returns-in_err-put_all-clause-left : goal.returns-in_err-put_all-clause-left
returns-in_err-put_all-clause-left g c =
    let p = err_from_is_err_and c.from_residual-in_err-put_all.result c.from_residual-in_err-put_all.ensures.1 in
    rw (p.1, p.2) (λ no. are_nodes g.D.Disk.state (g.P.Depot.state c.event_texts.new.depot).is_out c.event_texts.new.self c.in_ok-texts.ensures.held)

pub event_texts-requires-clause-held : goal.event_texts-requires-clause-held
event_texts-requires-clause-held g c =
    line_read g.D.Disk.state (g.P.Depot.state c.args.depot.now).is_out c.args.self.now c.requires.held c.next_line.new.self c.in_ok-line.ensures.same

pub returns-in_default-clause-held : goal.returns-in_default-clause-held
returns-in_default-clause-held g c =
    line_read g.D.Disk.state (g.P.Depot.state c.args.depot.now).is_out c.args.self.now c.requires.held c.next_line.new.self c.in_ok-line.ensures.same
