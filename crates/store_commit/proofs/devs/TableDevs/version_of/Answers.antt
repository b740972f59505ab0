use Rattle.std.proofs.Common.{sym, ◌∙◌, ap}
use Rattle.std.specs.BTreeSet.{contains}
use Rattle.row_store.specs.Data.{id_cmp}
use Rattle.store_commit.specs.Standing.{devs, hidden_of}
use Rattle.store_commit.proofs.Seen.{version_of_hidden, version_of_there}
use Rattle.store_commit.proofs.Works.{up_or_down}
use Rattle.store_commit.proofs.devs.TableDevs.version_of.Goals as goal

pub returns-then-is_down : goal.returns-then-is_down
returns-then-is_down g c up = absurd (up_or_down c.args.self.now up c.if-is_down.ensures)

pub returns-then-contains : goal.returns-then-contains
returns-then-contains g c up = sym (version_of_hidden (contains id_cmp (hidden_of c.args.self.now)) (devs g.D.Disk.state c.args.self.now).held c.args.row.now (sym c.contains.ensures ∙ c.if-contains.true))

pub returns : goal.returns
returns g c up = c.version_of.ensures up.rows ∙ sym (version_of_there (contains id_cmp (hidden_of c.args.self.now)) (devs g.D.Disk.state c.args.self.now).held c.args.row.now (sym c.contains.ensures ∙ c.if-contains.false))
