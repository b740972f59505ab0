use Rattle.std.proofs.Common.{◌≡◌, Ok, None, sym, ◌∙◌}
use Rattle.std.specs.BTreeSet.{contains}
use Rattle.row_store.specs.Data.{id_cmp}
use Rattle.store_commit.specs.Fault.{found_of}
use Rattle.store_commit.specs.Standing.{devs, hidden_of}
use Rattle.store_commit.proofs.Seen.{row_hidden, standing_there}
use Rattle.store_commit.proofs.Waiting.{none_waits, row_found, found_is}
use Rattle.store_commit.proofs.devs.TableDevs.standing.Goals as goal

pub returns-then-contains-clause-waits : goal.returns-then-contains-clause-waits
returns-then-contains-clause-waits g c = none_waits g.D.Disk.state g.D.Disk.images g.met.D.Disk.only_now c.args.self.now c.requires.up c.requires.rests (Ok None) (λ is. cc) tt

pub returns-then-contains-clause-row : goal.returns-then-contains-clause-row
returns-then-contains-clause-row g c =
    let old = c.args.self.now in
    record { is = row_hidden (contains id_cmp (hidden_of old)) (devs g.D.Disk.state old).held c.args.row.now (sym c.contains.ensures ∙ c.if-contains.true); spelled = tt; short = tt }

pub returns-clause-waits : goal.returns-clause-waits
returns-clause-waits g c =
    rw c.found_row.ensures (row_found g.D.Disk.state g.D.Disk.images g.met.D.Disk.only_now c.args.self.now c.requires.up c.requires.rests c.get_row.new.self c.get_row.result c.get_row.ensures.reads c.get_row.ensures.no_row_unchanged)

pub returns-clause-row : goal.returns-clause-row
returns-clause-row g c =
    let old = c.args.self.now in
    let held = (devs g.D.Disk.state old).held in
    let e = c.get_row.ensures in
    rw c.found_row.ensures (standing_there (contains id_cmp (hidden_of old)) held c.args.row.now (found_of c.get_row.result) (sym c.contains.ensures ∙ c.if-contains.false) (found_is held c.args.row.now c.get_row.result e.row e.spelled e.short (λ is. (e.no_row.0 is).1)))
