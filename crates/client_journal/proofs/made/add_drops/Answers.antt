use Rattle.std.proofs.Common.{◌∙◌, [], ◌∷◌, map, refl, ap}
use Rattle.std.proofs.lemmas.List.{map-append}
use Rattle.client_journal.specs.Standing.{write_of}
use Rattle.client_journal.proofs.Tasks.{drops_more}
use Rattle.client_journal.proofs.made.add_drops.Goals as goal

pub loop-name-preserved : goal.loop-name-preserved
loop-name-preserved c =
    drops_more (map write_of c.args.tasks.now.items) (map write_of c.loop-name.tasks.items) (map write_of c.push_back.new.self.items) c.args.names.now c.loop-name.name-index _ _ c.loop-name-test.true refl c.loop-name.invariant
    (ap (map write_of) c.in_ok-push_back.ensures.items ∙ map-append write_of c.loop-name.tasks.items (_ ∷ []))
