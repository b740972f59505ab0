use Rattle.std.proofs.Common.{List, map, sym, ◌∙◌, ap, subst}
use Rattle.std.proofs.lemmas.List.{nil_from_length}
use Rattle.std.proofs.lemmas.Result.{err_from_is_err_and}
use Rattle.table_model.specs.declared.line.TextLine.{TextLine}
use Rattle.step_tables.specs.Facts.{Line}
use Rattle.step_tables.specs.Lines.{line_of}
use Rattle.net_steps.specs.Walking.{AreThere, WalksOn}
use Rattle.net_steps.proofs.Along.{walks_next, walks_all, walks_over}
use Rattle.net_steps.proofs.Onward.{onward_then, along_onward}
use Rattle.net_steps.proofs.world.World.carry_lines.Goals as goal

pub carry_line-requires : goal.carry_line-requires
carry_line-requires g c =
    let inv = c.loop-line.invariant in
    let k = inv.there in
    let there = subst (λ (l : List Line). AreThere k.0 k.1 l) (ap (λ (items : List TextLine). map line_of items) c.in-Some.ensures.steps.0) k.3 in
    record { along = (k.0, k.1, along_onward g.D.Disk.state c.args.self.now c.loop-line.self inv.same k.0 k.1 k.2, there.0) }

pub loop-line-preserved : goal.loop-line-preserved
loop-line-preserved g c =
    let inv = c.loop-line.invariant in
    let k = inv.there in
    let there = subst (λ (l : List Line). AreThere k.0 k.1 l) (ap (λ (items : List TextLine). map line_of items) c.in-Some.ensures.steps.0) k.3 in
    record {
      same = onward_then c.args.self.now c.loop-line.self c.carry_line.new.self inv.same c.in_ok-carry_line.ensures.same;
      there = (k.0, k.1, k.2, there.1);
      walks = λ n v sent along has there.
          let all = map line_of c.args.lines in
          let w = subst (λ (l : List Line). WalksOn n v sent all l c.loop-line.self.network c.args.told.now c.loop-line.told)
          (ap (λ (items : List TextLine). map line_of items) c.in-Some.ensures.steps.0) (inv.walks n v sent along has there) in
          walks_next n v sent all c.args.told.now (line_of c.in-Some.line) (map line_of c.next.new.self.rest.items) c.loop-line.self.network c.carry_line.new.self.network
          c.loop-line.told c.carry_line.new.told w
          (c.in_ok-carry_line.ensures.walked n v w.gone (along_onward g.D.Disk.state c.args.self.now c.loop-line.self inv.same n v along) w.sent w.there.0);
    }

pub returns-in_err-carry_line-clause-over : goal.returns-in_err-carry_line-clause-over
returns-in_err-carry_line-clause-over g c n v sent along has there =
    let inv = c.loop-line.invariant in
    let all = map line_of c.args.lines in
    let w = subst (λ (l : List Line). WalksOn n v sent all l c.loop-line.self.network c.args.told.now c.loop-line.told)
    (ap (λ (items : List TextLine). map line_of items) c.in-Some.ensures.steps.0) (inv.walks n v sent along has there) in
    let p = err_from_is_err_and c.from_residual.result c.from_residual.ensures.1 in
    rw (p.1, p.2) (walks_over n v sent all c.args.told.now (line_of c.in-Some.line) (map line_of c.next.new.self.rest.items) c.loop-line.self.network c.loop-line.told w
    c.in_err-carry_line.field-0.0
    (c.in_err-carry_line.ensures.over n v w.gone (along_onward g.D.Disk.state c.args.self.now c.loop-line.self inv.same n v along) w.sent w.there.0))

pub returns-clause-walked : goal.returns-clause-walked
returns-clause-walked g c n v sent along has there =
    let all = map line_of c.args.lines in
    walks_all n v sent all c.args.told.now c.loop-line.self.network c.loop-line.told
    (subst (λ (items : List TextLine). WalksOn n v sent all (map line_of items) c.loop-line.self.network c.args.told.now c.loop-line.told)
    (nil_from_length _ (sym c.loop-line.line-iterator.rest.ok.0 ∙ c.in-None.ensures.steps.0)) (c.loop-line.invariant.walks n v sent along has there))
