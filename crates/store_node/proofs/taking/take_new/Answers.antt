use Rattle.std.proofs.Common.{ℕ, List, [], Option, Result, Ok, Err, sym, ◌∙◌, subst}
use Rattle.std.proofs.lemmas.Result.{err_from_is_err_and}
use Rattle.store_commit.specs.declared.update.Update.{Update}
use Rattle.store_commit.specs.declared.fault.CommitFault.{CommitFault}
use Rattle.store_commit.specs.Devs.{Devs, Write}
use Rattle.store_commit.specs.Standing.{devs, writes_of, IsReady}
use Rattle.step_tables.specs.StoreMoves.{keeps_there}
use Rattle.step_tables.specs.declared.message.Outcome.TheVariants.{NeedWhole}
use Rattle.device_laws.specs.Stands.{Stands, update_for}
use Rattle.store_node.specs.declared.taking.Taken.TheVariants.{Answered, Begun}
use Rattle.store_node.specs.Taking.{IsBegunBy}
use Rattle.store_node.specs.Update.{request_of}
use Rattle.store_node.proofs.Onlys.{only_same, only_ready}
use Rattle.store_node.proofs.Asks.{serves_only, serves_then}
use Rattle.store_node.proofs.Pieced.{some_made}
use Rattle.store_node.proofs.Requests.{serves_named, serves_err}
use Rattle.store_node.proofs.taking.take_new.Goals as goal

pub returns-in_err-update-clause-serves : goal.returns-in_err-update-clause-serves
returns-in_err-update-clause-serves g c =
    let s = g.D.Disk.state in
    let i = g.D.Disk.images in
    let old = c.args.table.now in
    let mid = c.prepared.new.table in
    let ready : IsReady s old (writes_of old) = subst (λ (l : List Write). IsReady s old l) (sym c.requires.idle) c.requires.ready in
    let p = err_from_is_err_and c.from_residual.result c.from_residual.ensures.1 in
    let e = c.in_err-update.field-0.0 in
    let r : Result (Option Update) CommitFault = Err e in
    rw (p.1, p.2) (serves_err s i old mid e (serves_only s i old mid r ready c.in_err-update.ensures.reads))

pub accept-requires-clause-ready : goal.accept-requires-clause-ready
accept-requires-clause-ready g c =
    let s = g.D.Disk.state in
    let i = g.D.Disk.images in
    let old = c.args.table.now in
    let mid = c.prepared.new.table in
    let ready : IsReady s old (writes_of old) = subst (λ (l : List Write). IsReady s old l) (sym c.requires.idle) c.requires.ready in
    let made = c.in_ok-update.field-0 in
    let one = c.in_ok-update.ensures.reads in
    only_ready s i old mid made one [] c.requires.ready

pub returns-in_err-version-in-Some-clause-serves : goal.returns-in_err-version-in-Some-clause-serves
returns-in_err-version-in-Some-clause-serves g c =
    let s = g.D.Disk.state in
    let i = g.D.Disk.images in
    let old = c.args.table.now in
    let mid = c.prepared.new.table in
    let ready : IsReady s old (writes_of old) = subst (λ (l : List Write). IsReady s old l) (sym c.requires.idle) c.requires.ready in
    let made = c.in_ok-update.field-0 in
    let one = c.in_ok-update.ensures.reads in
    let p = err_from_is_err_and c.from_residual-in_err-version-in-Some.result c.from_residual-in_err-version-in-Some.ensures.1 in
    let e = c.in_err-version-in-Some.field-0.0 in
    let after : Result ℕ CommitFault = Err e in
    rw (p.1, p.2) (serves_err s i old c.accept.new.table e (serves_then s i old mid c.accept.new.table made after ready one c.in_err-version-in-Some.ensures.serves))

pub returns-in_ok-version-in-Some-clause-serves : goal.returns-in_ok-version-in-Some-clause-serves
returns-in_ok-version-in-Some-clause-serves g c =
    let s = g.D.Disk.state in
    let i = g.D.Disk.images in
    let old = c.args.table.now in
    let mid = c.prepared.new.table in
    let ready : IsReady s old (writes_of old) = subst (λ (l : List Write). IsReady s old l) (sym c.requires.idle) c.requires.ready in
    let made = c.in_ok-update.field-0 in
    let one = c.in_ok-update.ensures.reads in
    let version = c.in_ok-version-in-Some.version in
    let after : Result ℕ CommitFault = Ok version in
    serves_named s i old c.accept.new.table version (Begun version) (serves_then s i old mid c.accept.new.table made after ready one c.in_ok-version-in-Some.ensures.serves)

pub returns-in_ok-version-in-Some-clause-taken : goal.returns-in_ok-version-in-Some-clause-taken
returns-in_ok-version-in-Some-clause-taken g c disk st none =
    let s = g.D.Disk.state in
    let i = g.D.Disk.images in
    let old = c.args.table.now in
    let mid = c.prepared.new.table in
    let ready : IsReady s old (writes_of old) = subst (λ (l : List Write). IsReady s old l) (sym c.requires.idle) c.requires.ready in
    let made = c.in_ok-update.field-0 in
    let one = c.in_ok-update.ensures.reads in
    let size = c.args.schema.now.chunk in
    let same = only_same s i old mid made one in
    let there : Stands c.args.schema.now (devs s mid) disk = subst (λ (d : Devs). Stands c.args.schema.now d disk) (sym same) st in
    let begun = c.in_ok-version-in-Some.ensures.begun disk there none in
    let k = some_made (keeps_there size disk.items (request_of c.args.request.now)) (update_for size (request_of c.args.request.now)) c.in-Some.update (sym (c.in_ok-update.ensures.update disk st) ∙ c.in-Some.is) in
    (k.0, subst (λ (d : Devs). IsBegunBy size d disk c.args.request.now (writes_of c.accept.new.table) c.in_ok-version-in-Some.version) same begun)

pub returns-in-None-clause-serves : goal.returns-in-None-clause-serves
returns-in-None-clause-serves g c =
    let s = g.D.Disk.state in
    let i = g.D.Disk.images in
    let old = c.args.table.now in
    let mid = c.prepared.new.table in
    let ready : IsReady s old (writes_of old) = subst (λ (l : List Write). IsReady s old l) (sym c.requires.idle) c.requires.ready in
    let made = c.in_ok-update.field-0 in
    let one = c.in_ok-update.ensures.reads in
    let r : Result (Option Update) CommitFault = Ok made in
    serves_named s i old mid made (Answered NeedWhole) (serves_only s i old mid r ready one)
