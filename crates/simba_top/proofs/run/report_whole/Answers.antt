use Rattle.std.proofs.Common.{◌≡◌, ◌≢◌, ◌⊎◌, ◌+◌, ◌≤◌, ℕ, List, Option, Some, None, Result, Ok, Err, refl, sym, subst, arith}
use Rattle.std.specs.Prelude.{IfSome, OnOk, IfErr, MatchResult}
use Rattle.stab_io.specs.Faults.{Rose}
use Rattle.simba_top.specs.declared.output.Output.TheVariants.{Report}
use Rattle.simba_top.specs.declared.stop.Stop.{Stop}
use Rattle.simba_top.specs.declared.stop.Stop.TheVariants.{Read, Put, Depot, Memory, BadLine, Limit, Sent}
use Rattle.simba_top.specs.Faults.{IsOnDisks}
use Rattle.simba_top.specs.Stands.{CountsPuts, CountsReads, IsDone, Stopped}
use Rattle.simba_top.proofs.Endings.{report_ended}
use Rattle.simba_top.proofs.run.report_whole.Goals as goal

known : (o : Option (List ℕ)) (P : List ℕ → Type 0) → ((input : List ℕ) → o ≡ Some input → P input) → IfSome o P
known None P f = tt
known (Some input) P f = f input refl

on_known : {T E : Type 0} (r : Result T E) (o : Option (List ℕ)) (P : List ℕ → Type 0) → ((input : List ℕ) → o ≡ Some input → OnOk r (P input)) → OnOk r (IfSome o P)
on_known (Ok x) o P f = known o P f
on_known (Err e) o P f = tt

err_known : {T : Type 0} (r : Result T Stop) (o : Option (List ℕ)) (Q : Stop → List ℕ → Type 0) → ((input : List ℕ) → o ≡ Some input → IfErr r (λ stop. Q stop input)) → IfErr r (λ stop. IfSome o (λ input. Q stop input))
err_known (Ok x) o Q f = tt
err_known (Err stop) o Q f = known o (λ input. Q stop input) f

reads_known : {T : Type 0} (r : Result T Stop) (old new : ℕ) → new ≡ old → ((n : ℕ) → IfErr r (λ stop. CountsReads stop n n)) → MatchResult r (λ _. new ≡ old) (λ stop. CountsReads stop old new)
reads_known (Ok x) old new same f = same
reads_known (Err stop) old new same f = subst (λ (n : ℕ). CountsReads stop old n) (sym same) (f old)

-- a sink that keeps nothing doesn't fail
never_put : (stop : Stop) → CountsPuts stop 0 0 → stop ≢ Put
never_put Put rose is = let most = rose.1 in omega (arith, most)
never_put Read rose is = cc
never_put Depot rose is = cc
never_put Memory rose is = cc
never_put (BadLine fault) rose is = cc
never_put (Limit limit) rose is = cc
never_put Sent rose is = cc

pub returns-in-Err-clause-stopped : goal.returns-in-Err-clause-stopped
returns-in-Err-clause-stopped g c = known _ _ (λ input is.
    c.ended.ensures.ends Report input _ _ (report_ended _ c.in-Err.stop input _ _ _ (never_put c.in-Err.stop c.in-Err.ensures.puts)
    (c.in-Err.ensures.ends input (rw is (c.new-run.ensures.stands input (g.P.Depot.state c.args.depot.now).is_out c.requires)))))

pub returns-in-Ok-clause-done : goal.returns-in-Ok-clause-done
returns-in-Ok-clause-done g c = on_known c.reported.result (g.S.Source.left c.args.source.now)
    (λ input. IsDone Report (IsOnDisks g.P.Disk.Disk.state (g.P.Depot.returned c.reported.new.depot)) input (g.K.Sink.holds c.args.sink.now) (g.K.Sink.holds c.reported.new.sink)) (λ input is.
    c.reported.ensures.done input (c.in-Ok.ensures.finished input (rw is (c.new-run.ensures.stands input (g.P.Depot.state c.args.depot.now).is_out c.requires))))

pub returns-in-Ok-clause-stopped : goal.returns-in-Ok-clause-stopped
returns-in-Ok-clause-stopped g c = err_known c.reported.result (g.S.Source.left c.args.source.now)
    (λ stop input. Stopped Report (IsOnDisks g.P.Disk.Disk.state (g.P.Depot.returned c.reported.new.depot)) stop input (g.S.Source.left c.whole.new.source) (g.K.Sink.holds c.args.sink.now) (g.K.Sink.holds c.reported.new.sink)) (λ input is.
    c.reported.ensures.stopped input (g.S.Source.left c.whole.new.source)
    (c.in-Ok.ensures.finished input (rw is (c.new-run.ensures.stands input (g.P.Depot.state c.args.depot.now).is_out c.requires))))

pub returns-in-Ok-clause-reads : goal.returns-in-Ok-clause-reads
returns-in-Ok-clause-reads g c =
    reads_known c.reported.result (g.S.Source.faults c.args.source.now) (g.S.Source.faults c.whole.new.source) c.in-Ok.ensures.reads c.reported.ensures.reads
