use Rattle.std.proofs.Common.{◌≡◌, List, ℕ, Option, sym, subst, ap, ◌∙◌}
use Rattle.std.specs.Prelude.{IsSome, IsTrue}
use Rattle.client_journal.specs.Devs.{ClientDevs, local_in}
use Rattle.client_journal.specs.Standing.{devs}
use Rattle.journal_tests.proofs.Moves.{rest_stays, ready_looked, chunk_some}
use Rattle.journal_tests.proofs.plans.has_chunk.Goals as goal

pub chunk-requires : goal.chunk-requires
chunk-requires g c up = ready_looked g.D.Disk.state c.args.client.now _ c.requires.moving.ready

pub returns-clause-rests : goal.returns-clause-rests
returns-clause-rests g c = rest_stays g.D.Disk.state g.D.Disk.images c.args.client.now c.chunk.new.self _ c.in_ok-found.ensures.asks c.requires

pub returns-clause-same : goal.returns-clause-same
returns-clause-same g c = c.in_ok-found.ensures.asks.same (λ is. cc)

pub returns-clause-there : goal.returns-clause-there
returns-clause-there g c is =
    let e = c.in_ok-found.ensures in
    let same = e.asks.same (λ is. cc) in
    let there = ap (λ (d : ClientDevs). local_in d.chunks c.args.name) same ∙ e.chunk in
    subst (λ (o : Option (List ℕ)). IsSome o) (sym there) (chunk_some _ _ c.is_some.ensures is)
