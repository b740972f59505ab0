use Rattle.std.proofs.Common.{Some, drop, sym, ap, ◌∙◌}
use Rattle.std.specs.Prelude.{option_map, slice_get}
use Rattle.store_host.specs.Holds.{disks_at}
use Rattle.store_host.proofs.Lists.{none_first, none_behind}
use Rattle.store_host.proofs.host.StoreHost.take_disks.Goals as goal

pub returns-in-Some-clause-disks : goal.returns-in-Some-clause-disks
returns-in-Some-clause-disks g c = ap Some (c.into_disks.ensures c.in-Some.table) ∙ sym (ap (λ es. option_map disks_at (slice_get es 0)) c.in-Some.ensures.removal)

pub returns-in-Some-clause-others : goal.returns-in-Some-clause-others
returns-in-Some-clause-others g c = sym (ap (drop 1) c.in-Some.ensures.removal)

pub returns-in-None-clause-disks : goal.returns-in-None-clause-disks
returns-in-None-clause-disks g c = none_first disks_at c.args.self.now.tables.entries (λ some. let x = c.in-None.ensures.variant.1 some in cc)

pub returns-in-None-clause-others : goal.returns-in-None-clause-others
returns-in-None-clause-others g c = c.in-None.ensures.unchanged ∙ none_behind c.args.self.now.tables.entries (λ some. let x = c.in-None.ensures.variant.1 some in cc)
