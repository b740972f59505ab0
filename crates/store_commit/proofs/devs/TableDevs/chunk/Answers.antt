use Rattle.std.proofs.Common.{◌≡◌, ◌+◌, ◌≤◌, ℕ, List, [], length, Option, Some, None, Ok, Err, inl, inr, ⊎_elim, refl, sym, ◌∙◌, ap, subst, arith}
use Rattle.std.proofs.lemmas.Result.{err_from_is_err_and}
use Rattle.std.proofs.lemmas.List.{nil_from_length}
use Rattle.std.specs.Prelude.{IfOk, IsErrOf, not, filter}
use Rattle.std.specs.BTreeMap.{is_at}
use Rattle.std.specs.BTreeSet.{contains}
use Rattle.stab_base.specs.declared.row_version.RowVersion.{RowVersion}
use Rattle.row_store.specs.Data.{id_cmp, row_of, IsTableVersion, AreChangedSince}
use Rattle.row_store.specs.Standing as rows
use Rattle.store_commit.specs.declared.fault.CommitFault.TheVariants.{Memory}
use Rattle.store_commit.specs.Devs.{Devs}
use Rattle.store_commit.specs.Standing.{devs, seen, hidden_of, NothingHidden}
use Rattle.store_commit.proofs.Seen.{seen_all, newest_there, changed_there, row_hidden, row_there}
use Rattle.store_commit.proofs.Asking.{asks_down, asks_none, asks_rows, asks_caused, asks_row, asks_chunk, reads_listed, was_ok}
use Rattle.store_commit.proofs.devs.TableDevs.chunk.Goals as goal

pub returns-clause-asks : goal.returns-clause-asks
returns-clause-asks g c =
    let up = c.if-is_down.ensures in
    rw c.found_chunk.ensures (asks_chunk g.D.Disk.state g.D.Disk.images g.met.D.Disk.only_now c.args.self.now up (c.requires up) c.get.new.self c.get.result c.get.ensures.reads c.get.ensures.absent_unchanged)
