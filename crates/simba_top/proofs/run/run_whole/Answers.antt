use Rattle.std.proofs.Common.{◌≡◌, ℕ, List, Option, Some, None, refl}
use Rattle.std.specs.Prelude.{IfSome}
use Rattle.simba_top.specs.declared.output.Output.TheVariants.{Transcript}
use Rattle.simba_top.proofs.Endings.{done_map}
use Rattle.simba_top.proofs.Sounds.{on_disks}
use Rattle.simba_top.proofs.run.run_whole.Goals as goal

known : (o : Option (List ℕ)) (P : List ℕ → Type 0) → ((input : List ℕ) → o ≡ Some input → P input) → IfSome o P
known None P f = tt
known (Some input) P f = f input refl

pub returns-in-Err-clause-stopped : goal.returns-in-Err-clause-stopped
returns-in-Err-clause-stopped g c = known _ _ (λ input is.
    c.ended.ensures.ends Transcript input _ _ (c.in-Err.ensures.ends input (rw is (c.new-run.ensures.stands input (g.P.Depot.state c.args.depot.now).is_out c.requires))))

pub returns-in-Ok-clause-done : goal.returns-in-Ok-clause-done
returns-in-Ok-clause-done g c = known _ _ (λ input is.
    done_map Transcript _ _ (on_disks _ c.whole.new.self.world _ c.close.ensures.told c.close.ensures.rows) input _ _
    (c.in-Ok.ensures.done input (rw is (c.new-run.ensures.stands input (g.P.Depot.state c.args.depot.now).is_out c.requires))))
