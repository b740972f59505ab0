use Rattle.std.proofs.Common.{ℕ, ◌++◌, ◌∷◌, List, [], Option, ap, ◌∙◌, append_assoc}
use Rattle.std.proofs.lemmas.Result.{on_ok_weaker}
use Rattle.row_value.specs.declared.schema.Schema.{Schema}
use Rattle.journal_host.specs.Opening.{put_before}
use Rattle.journal_host.proofs.opening.put.Goals as goal

pub returns-in-Some-clause-put : goal.returns-in-Some-clause-put
returns-in-Some-clause-put c rest = on_ok_weaker c.put_copy.result
    (λ put. ap (λ (l : List (ℕ × Schema)). l ++ rest) put
    ∙ (append_assoc c.args.found.now.items ((c.args.table, c.in-Some.schema.now) ∷ []) rest
    ∙ ap (λ (o : Option Schema). c.args.found.now.items ++ put_before c.args.table o rest) c.in-Some.ensures.value))
    c.put_copy.ensures.put

pub returns-in-None-clause-put : goal.returns-in-None-clause-put
returns-in-None-clause-put c rest = ap (λ (o : Option Schema). c.args.found.now.items ++ put_before c.args.table o rest) c.in-None.ensures.value
