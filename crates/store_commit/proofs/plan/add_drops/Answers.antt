use Rattle.std.proofs.Common.{◌∙◌, [], ◌∷◌, map, refl, ap}
use Rattle.std.proofs.lemmas.List.{map-append}
use Rattle.store_commit.specs.Standing.{write_of}
use Rattle.store_commit.proofs.Plans.{drops_more}
use Rattle.store_commit.proofs.plan.add_drops.Goals as goal

pub loop-name-preserved : goal.loop-name-preserved
loop-name-preserved c =
    drops_more (map write_of c.args.tasks.now.items) (map write_of c.loop-name.tasks.items) (map write_of c.push_back.new.self.items) c.args.names.now c.loop-name.name-index _ _ c.loop-name-test.true refl c.loop-name.invariant
    (ap (map write_of) c.in_ok-push_back.ensures.items ∙ map-append write_of c.loop-name.tasks.items (_ ∷ []))
