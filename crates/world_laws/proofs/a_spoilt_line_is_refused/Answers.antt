use Rattle.std.proofs.Common.{◌≡◌, List, [], ◌∷◌, Option, Some, None, refl, ap, ◌∙◌, ⊎_elim, arith}
use Rattle.std.specs.Prelude.{map, option_map}
use Rattle.table_model.specs.declared.entry.Entry.{Entry}
use Rattle.step_tables.specs.Facts.{Fact, Answer, Shown, Line, AnswerLine, FactLine}
use Rattle.step_tables.specs.Facts as facts
use Rattle.step_tables.proofs.Lists.{among_cons, among_none}
use Rattle.world_laws.specs.Worked.{int}
use Rattle.world_laws.proofs.a_spoilt_line_is_refused.Goals as goal

pub returns-clause-wrote : goal.returns-clause-wrote
returns-clause-wrote c = λ sound.
    let k = sound.3.3.3.3.3.3.3.3.3.3.3.3.3.3.3.3.1 in
    let e : facts.Shows (facts.Clean 2 (int 6)) ≡ k.answer = cc in
    let is = rw (← e) at k.is in
    absurd cc

pub returns-clause-acked : goal.returns-clause-acked
returns-clause-acked c = λ sound.
    let x = sound.3.3.3.3.3.3.3.3.3.3.3.3.3.3.3.2.1.0.0 in
    ⊎_elim (λ e. absurd (let v = ap (λ (o : Entry). o.version) e in let w = x.1.version_is in omega arith))
    (λ b. ⊎_elim (λ e. absurd (let v = ap (λ (o : Entry). o.client) e in let w = x.2 in omega arith)) (λ z. among_none _ z) (among_cons _ _ _ b))
    (among_cons _ _ _ x.1.stands)

pub returns-clause-shown : goal.returns-clause-shown
returns-clause-shown c = λ sound.
    let k = sound.3.3.3.3.3.3.3.3.3.3.3.3.3.3.3.3.1 in
    let e : facts.Shows (facts.Clean 1 (int 5)) ≡ k.answer = cc in
    let is = rw (← e) at k.is in
    absurd cc
