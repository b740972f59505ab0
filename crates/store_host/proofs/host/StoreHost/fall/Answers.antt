use Rattle.std.proofs.Common.{ℕ, List, true, sym, ap, ◌∙◌, subst}
use Rattle.disk_trait.specs.Fuse.{inner_of}
use Rattle.world_tables.specs.World.{tables_fall}
use Rattle.store_host.specs.Holds.{HoldsTables, IsPartThere}
use Rattle.store_host.specs.Joining.{any_unmade}
use Rattle.store_host.proofs.Moving.{some_there}
use Rattle.store_host.proofs.Lefts.{none_still}
use Rattle.store_host.proofs.Stores.{fallen}
use Rattle.store_host.proofs.host.StoreHost.fall.Goals as goal

pub returns-in-Some-clause-fallen : goal.returns-in-Some-clause-fallen
returns-in-Some-clause-fallen g c w h declared =
    let s = c.in-Some.state.now in
    let new = record s { is_down = true; is_late = c.any_unmade-state.result } in
    let own = subst (λ o. IsPartThere w c.args.store o) (sym c.in-Some.ensures.value) h.own in
    fallen g.D.Disk.state w c.args.store c.args.self.now h declared c.halt_all.new.tables (c.get_mut.follows.lender new) s c.any_unmade-state.result
    (c.any_unmade-state.ensures ∙ ap (any_unmade c.halt_all.new.tables) c.as_slice-in-Some.ensures) c.in-Some.ensures.value ((c.get_mut.follows.holds new).3 (some_there _ _ c.in-Some.ensures.value)).0
    (subst (λ (ns : List ℕ). HoldsTables g.D.Disk.state (tables_fall ns w).world c.halt_all.new.tables) (c.as_slice.ensures ∙ own.1) (c.halt_all.ensures.fallen w h.tables))

pub returns-in_default-clause-left : goal.returns-in_default-clause-left
returns-in_default-clause-left g c w h = none_still g.D.Disk.state g.D.Disk.images (λ d image left. g.met.D.Disk.only_now (inner_of d) image left) w c.args.self.now.tables h.tables
