use Rattle.std.proofs.Common.{◌++◌, List, Option, None, map, refl, ◌∙◌, ap, subst}
use Rattle.std.proofs.lemmas.List.{drop_all}
use Rattle.held_value.specs.declared.tell.Tell.{Tell}
use Rattle.table_model.specs.declared.line.Fact.{Fact as Told}
use Rattle.step_tables.specs.Facts.{ClientFact}
use Rattle.step_tables.specs.Lines.{fact_of}
use Rattle.client_node.specs.Telling.{again_if, told_again}
use Rattle.client_node.proofs.Retelling.{TellsOn, tells_more, tells_end}
use Rattle.client_node.proofs.telling.tell_table.Goals as goal

pub loop-tell-init : goal.loop-tell-init
loop-tell-init c = ap (λ (l : List Told). map fact_of l ++ told_again c.args.client c.args.table None c.args.tells.now) c.new-told.ensures.items

pub loop-tell-preserved : goal.loop-tell-preserved
loop-tell-preserved c =
    tells_more c.args.client c.args.table None c.args.tells.now c.loop-tell.told.items c.add_again.new.told.items c.loop-tell.tell-index _ _ c.loop-tell-test.true refl c.loop-tell.invariant
    (c.in_ok-add_again.ensures ∙ ap (λ (o : Option ClientFact). map fact_of c.loop-tell.told.items ++ again_if o) c.table_fact.ensures)

pub returns : goal.returns
returns c =
    tells_end c.args.client c.args.table None c.args.tells.now c.loop-tell.told.items
    (subst (λ (l : List Tell). TellsOn c.args.client c.args.table None c.args.tells.now l c.loop-tell.told.items) (drop_all c.loop-tell.tell-index c.args.tells.now c.loop-tell-test.false) c.loop-tell.invariant)
