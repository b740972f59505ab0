use Rattle.std.proofs.Common.{Some, sym, ap, ◌∙◌}
use Rattle.std.proofs.lemmas.Result.{on_ok_weaker, on_err_weaker}
use Rattle.gate_host.specs.Moves.{directory_by, down, most_starts}
use Rattle.gate_host.proofs.Standing.{some_there, same_some, found, same_held, risen_held}
use Rattle.gate_host.proofs.gates.Gates.start.Goals as goal

pub returns-in-Some-clause-held : goal.returns-in-Some-clause-held
returns-in-Some-clause-held c stores schemas gates h =
    let n = c.args.gate in
    let it = c.start.new.gateway in
    let f = found stores schemas gates c.args.self.now h n c.in-Some.gateway.now c.in-Some.ensures.value in
    on_ok_weaker c.start.result
    (risen_held stores schemas gates c.args.self.now h (c.get_mut.follows.lender it) n it ((c.get_mut.follows.holds it).3 (some_there _ _ c.in-Some.ensures.value)).0 f.0 f.1)
    (c.start.ensures.held (directory_by stores schemas) n f.0 f.2)

pub returns-in-Some-clause-kept : goal.returns-in-Some-clause-kept
returns-in-Some-clause-kept c stores schemas gates h =
    let n = c.args.gate in
    let it = c.start.new.gateway in
    let f = found stores schemas gates c.args.self.now h n c.in-Some.gateway.now c.in-Some.ensures.value in
    on_err_weaker c.start.result
    (same_held stores schemas gates c.args.self.now h (c.get_mut.follows.lender it) n it ((c.get_mut.follows.holds it).3 (some_there _ _ c.in-Some.ensures.value)).0 f.0 f.1)
    (c.start.ensures.kept (directory_by stores schemas) n f.0 f.2)

pub returns-in-Some-clause-spent : goal.returns-in-Some-clause-spent
returns-in-Some-clause-spent c stores schemas gates h last =
    let f = found stores schemas gates c.args.self.now h c.args.gate c.in-Some.gateway.now c.in-Some.ensures.value in
    let k = c.start.ensures.spent (directory_by stores schemas) c.args.gate f.0 f.2 last in (
      λ e. let p = k.0 e in (p.0, f.1 ∙ ap Some p.1),
      λ p. k.1 (p.0, same_some f.0 (down most_starts) (sym f.1 ∙ p.1)),
    )
