use Rattle.std.proofs.Common.{◌∙◌, sym, ap}
use Rattle.std.specs.Prelude.{is_some}
use Rattle.part_tables.specs.Arriving.{asking}
use Rattle.part_client.proofs.Settled.{ok_then}
use Rattle.part_client.proofs.Risings.{no_tears, no_asks, still_none}
use Rattle.part_client.proofs.Keepings.{kept_there, nothing_there, one_changed, none_changed, asking_else}
use Rattle.part_client.proofs.arriving.Arriving.ask.Goals as goal

pub returns-in-Some-clause-kept : goal.returns-in-Some-clause-kept
returns-in-Some-clause-kept c a k =
    ok_then c.ask.result _ _
    (λ told got. one_changed c.args.self.now (record { tables = c.get_mut.follows.lender c.ask.new.it; alloc = c.args.self.now.alloc }) c.args.table a (asking c.args.table a) c.ask.new.it k
    (asking_else c.args.table a)
    ((c.get_mut.follows.holds c.ask.new.it).3 (ap is_some (sym c.in-Some.ensures.value))).0 got.kept)
    (c.ask.ensures.asked c.args.table a (kept_there c.args.self.now a c.args.table c.in-Some.it.now k (sym c.in-Some.ensures.value)))

pub returns-in-None-clause-asks : goal.returns-in-None-clause-asks
returns-in-None-clause-asks c a k =
    let none = nothing_there c.args.self.now a c.args.table k (sym c.in-None.ensures.value) in
    record { tears = c.new.ensures.items ∙ no_tears c.args.table a none; whole = c.new-in-None.ensures.items ∙ no_asks c.args.table a none }

pub returns-in-None-clause-kept : goal.returns-in-None-clause-kept
returns-in-None-clause-kept c a k =
    none_changed c.args.self.now (record { tables = c.get_mut.follows.lender-at-none; alloc = c.args.self.now.alloc }) c.args.table a (asking c.args.table a) k
    (asking_else c.args.table a) c.get_mut.follows.holds-at-none
    (sym c.in-None.ensures.value) (still_none c.args.table a (nothing_there c.args.self.now a c.args.table k (sym c.in-None.ensures.value)))
