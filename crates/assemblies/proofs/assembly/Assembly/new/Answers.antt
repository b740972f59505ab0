use Rattle.std.proofs.Common.{◌≡◌, false, rules}
use Rattle.std.specs.Prelude.{replicate}
use Rattle.assemblies.proofs.Slots.{waiting_slots}
use Rattle.assemblies.proofs.assembly.Assembly.new.Goals as goal

pub returns : goal.returns
returns c =
    let came : c.in_ok-came.came.items ≡ replicate c.len-count.result false = c.in_ok-came.ensures.items_if_clones_equal (λ y is. search rules) in
    rw (came, c.in_ok-chunks.ensures, c.len-count.ensures) (waiting_slots c.args.awaited)
