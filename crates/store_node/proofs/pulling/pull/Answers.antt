use Rattle.std.proofs.Common.{◌≡◌, Option, Result, Ok, Err, refl, ◌∙◌, subst}
use Rattle.std.specs.Prelude.{option_map}
use Rattle.std.proofs.lemmas.Result.{err_from_is_err_and}
use Rattle.stab_base.specs.declared.row_version.RowVersion.{RowVersion}
use Rattle.row_store.specs.Data.{IsTableVersion, IsNextChanged}
use Rattle.store_commit.specs.declared.fault.CommitFault.{CommitFault}
use Rattle.store_commit.specs.Devs.{Devs}
use Rattle.store_commit.specs.Standing.{devs}
use Rattle.store_commit.proofs.Seen.{seen_all}
use Rattle.step_tables.specs.declared.message.RowHeader.{RowHeader}
use Rattle.step_tables.specs.Travels.{header_of}
use Rattle.store_node.specs.Taking.{header_at}
use Rattle.store_node.proofs.Onlys.{only_then, only_named, only_err, only_up, only_looked, only_same, only_hidden}
use Rattle.store_node.proofs.pulling.pull.Goals as goal

pub returns-in_err-latest-clause-reads : goal.returns-in_err-latest-clause-reads
returns-in_err-latest-clause-reads g c =
    let p = err_from_is_err_and c.from_residual.result c.from_residual.ensures.1 in
    rw (p.1, p.2) (only_err g.D.Disk.state g.D.Disk.images g.met.D.Disk.only_now c.args.table.now c.table_version.new.self c.in_err-latest.field-0.0 (record { asks = c.in_err-latest.ensures.asks; scanned = c.in_err-latest.ensures.scanned }))

pub next_changed-requires : goal.next_changed-requires
next_changed-requires g c up = only_looked g.D.Disk.state g.D.Disk.images c.args.table.now c.table_version.new.self c.in_ok-latest.latest (record { asks = c.in_ok-latest.ensures.asks; scanned = c.in_ok-latest.ensures.scanned }) c.requires.looked

pub returns-in_err-next-clause-reads : goal.returns-in_err-next-clause-reads
returns-in_err-next-clause-reads g c =
    let p = err_from_is_err_and c.from_residual-in_err-next.result c.from_residual-in_err-next.ensures.1 in
    let e = c.in_err-next.field-0.0 in
    let r : Result (Option RowVersion) CommitFault = Err e in
    let both = only_then g.D.Disk.state g.D.Disk.images g.met.D.Disk.only_now c.args.table.now c.table_version.new.self c.next_changed.new.self c.in_ok-latest.latest r c.requires.up (record { asks = c.in_ok-latest.ensures.asks; scanned = c.in_ok-latest.ensures.scanned }) (record { asks = c.in_err-next.ensures.asks; scanned = c.in_err-next.ensures.scanned }) in
    rw (p.1, p.2) (only_err g.D.Disk.state g.D.Disk.images g.met.D.Disk.only_now c.args.table.now c.next_changed.new.self e both)

pub read_header-requires-clause-up : goal.read_header-requires-clause-up
read_header-requires-clause-up g c = only_up g.D.Disk.state g.D.Disk.images c.args.table.now c.next_changed.new.self c.in_ok-next.next (only_then g.D.Disk.state g.D.Disk.images g.met.D.Disk.only_now c.args.table.now c.table_version.new.self c.next_changed.new.self c.in_ok-latest.latest (Ok c.in_ok-next.next) c.requires.up (record { asks = c.in_ok-latest.ensures.asks; scanned = c.in_ok-latest.ensures.scanned }) (record { asks = c.in_ok-next.ensures.asks; scanned = c.in_ok-next.ensures.scanned })) c.requires.up

pub read_header-requires-clause-looked : goal.read_header-requires-clause-looked
read_header-requires-clause-looked g c = only_looked g.D.Disk.state g.D.Disk.images c.args.table.now c.next_changed.new.self c.in_ok-next.next (only_then g.D.Disk.state g.D.Disk.images g.met.D.Disk.only_now c.args.table.now c.table_version.new.self c.next_changed.new.self c.in_ok-latest.latest (Ok c.in_ok-next.next) c.requires.up (record { asks = c.in_ok-latest.ensures.asks; scanned = c.in_ok-latest.ensures.scanned }) (record { asks = c.in_ok-next.ensures.asks; scanned = c.in_ok-next.ensures.scanned })) c.requires.looked

pub read_header-requires-clause-hidden : goal.read_header-requires-clause-hidden
read_header-requires-clause-hidden g c = only_hidden g.D.Disk.state g.D.Disk.images c.args.table.now c.next_changed.new.self c.in_ok-next.next (only_then g.D.Disk.state g.D.Disk.images g.met.D.Disk.only_now c.args.table.now c.table_version.new.self c.next_changed.new.self c.in_ok-latest.latest (Ok c.in_ok-next.next) c.requires.up (record { asks = c.in_ok-latest.ensures.asks; scanned = c.in_ok-latest.ensures.scanned }) (record { asks = c.in_ok-next.ensures.asks; scanned = c.in_ok-next.ensures.scanned })) c.requires.hidden

pub returns-in_err-header-clause-reads : goal.returns-in_err-header-clause-reads
returns-in_err-header-clause-reads g c =
    let p = err_from_is_err_and c.from_residual-in_err-header.result c.from_residual-in_err-header.ensures.1 in
    let e = c.in_err-header.field-0.0 in
    let r : Result (Option RowHeader) CommitFault = Err e in
    let both = only_then g.D.Disk.state g.D.Disk.images g.met.D.Disk.only_now c.args.table.now c.next_changed.new.self c.read_header.new.table c.in_ok-next.next r c.requires.up (only_then g.D.Disk.state g.D.Disk.images g.met.D.Disk.only_now c.args.table.now c.table_version.new.self c.next_changed.new.self c.in_ok-latest.latest (Ok c.in_ok-next.next) c.requires.up (record { asks = c.in_ok-latest.ensures.asks; scanned = c.in_ok-latest.ensures.scanned }) (record { asks = c.in_ok-next.ensures.asks; scanned = c.in_ok-next.ensures.scanned })) c.in_err-header.ensures.reads in
    rw (p.1, p.2) (only_err g.D.Disk.state g.D.Disk.images g.met.D.Disk.only_now c.args.table.now c.read_header.new.table e both)

pub returns-clause-reads : goal.returns-clause-reads
returns-clause-reads g c =
    let r : Result (Option RowHeader) CommitFault = Ok c.in_ok-header.header in
    let both = only_then g.D.Disk.state g.D.Disk.images g.met.D.Disk.only_now c.args.table.now c.next_changed.new.self c.read_header.new.table c.in_ok-next.next r c.requires.up (only_then g.D.Disk.state g.D.Disk.images g.met.D.Disk.only_now c.args.table.now c.table_version.new.self c.next_changed.new.self c.in_ok-latest.latest (Ok c.in_ok-next.next) c.requires.up (record { asks = c.in_ok-latest.ensures.asks; scanned = c.in_ok-latest.ensures.scanned }) (record { asks = c.in_ok-next.ensures.asks; scanned = c.in_ok-next.ensures.scanned })) c.in_ok-header.ensures.reads in
    only_named g.D.Disk.state g.D.Disk.images g.met.D.Disk.only_now c.args.table.now c.read_header.new.table c.in_ok-header.header _ both

pub returns-clause-answer : goal.returns-clause-answer
returns-clause-answer g c =
    let s = g.D.Disk.state in
    let one : devs s c.table_version.new.self ≡ devs s c.args.table.now = only_same g.D.Disk.state g.D.Disk.images c.args.table.now c.table_version.new.self c.in_ok-latest.latest (record { asks = c.in_ok-latest.ensures.asks; scanned = c.in_ok-latest.ensures.scanned }) in
    let both : devs s c.next_changed.new.self ≡ devs s c.args.table.now = only_same g.D.Disk.state g.D.Disk.images c.args.table.now c.next_changed.new.self c.in_ok-next.next (only_then g.D.Disk.state g.D.Disk.images g.met.D.Disk.only_now c.args.table.now c.table_version.new.self c.next_changed.new.self c.in_ok-latest.latest (Ok c.in_ok-next.next) c.requires.up (record { asks = c.in_ok-latest.ensures.asks; scanned = c.in_ok-latest.ensures.scanned }) (record { asks = c.in_ok-next.ensures.asks; scanned = c.in_ok-next.ensures.scanned })) in
    let here = seen_all s c.args.table.now c.requires.hidden in
    let there = seen_all s c.table_version.new.self (only_hidden g.D.Disk.state g.D.Disk.images c.args.table.now c.table_version.new.self c.in_ok-latest.latest (record { asks = c.in_ok-latest.ensures.asks; scanned = c.in_ok-latest.ensures.scanned }) c.requires.hidden) ∙ one in
    record {
      next = c.in_ok-next.next;
      is_next = subst (λ (d : Devs). IsNextChanged d.held c.args.request.now.position c.in_ok-next.next) there c.in_ok-next.ensures.next;
      client = refl;
      table = refl;
      from = refl;
      to = c.version_or.ensures;
      latest = subst (λ (d : Devs). IsTableVersion d.held c.in_ok-latest.latest) here c.in_ok-latest.ensures.greatest;
      header = subst (λ (d : Devs). option_map header_of c.in_ok-header.header ≡ header_at d c.args.request.now.client c.in_ok-next.next) both c.in_ok-header.ensures.header;
    }
