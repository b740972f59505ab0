use Rattle.std.proofs.Common.{◌≡◌, Bool, List, [], Option, None, Result, Ok, Err, sym, ◌∙◌, ap, subst}
use Rattle.std.specs.Prelude.{option_map, IfOk}
use Rattle.std.proofs.lemmas.Result.{err_from_is_err_and}
use Rattle.row_store.specs.declared.stored.StoredRow.{StoredRow}
use Rattle.row_store.specs.Data.{row_of}
use Rattle.store_commit.specs.declared.fault.CommitFault.{CommitFault}
use Rattle.store_commit.specs.Devs.{Devs, Write}
use Rattle.store_commit.specs.Standing.{devs, writes_of, IsReady}
use Rattle.step_tables.specs.StoreMoves.{keeps_there}
use Rattle.step_tables.specs.Travels.{outcome_of}
use Rattle.step_tables.specs.declared.message.Outcome.{Outcome}
use Rattle.device_laws.specs.Stands.{Stands}
use Rattle.store_node.specs.declared.taking.Taken.TheVariants.{Answered}
use Rattle.store_node.specs.Reading.{Only}
use Rattle.store_node.specs.Taking.{IsTakingNew, or_whole}
use Rattle.store_node.specs.Update.{request_of}
use Rattle.store_node.proofs.Onlys.{only_same, only_ready}
use Rattle.store_node.proofs.Asks.{serves_only, serves_then}
use Rattle.store_node.proofs.Requests.{serves_named, serves_err, standing_is, refused_is, taken_as}
use Rattle.store_node.proofs.taking.take_write.Goals as goal

pub returns-in_err-standing-clause-serves : goal.returns-in_err-standing-clause-serves
returns-in_err-standing-clause-serves g c =
    let s = g.D.Disk.state in
    let old = c.args.table.now in
    let ready : IsReady s old (writes_of old) = subst (λ (l : List Write). IsReady s old l) (sym c.requires.idle) c.requires.ready in
    let p = err_from_is_err_and c.from_residual.result c.from_residual.ensures.1 in
    let e = c.in_err-standing.field-0.0 in
    let r : Result (Option StoredRow) CommitFault = Err e in
    rw (p.1, p.2) (serves_err s g.D.Disk.images old c.row.new.self e (serves_only s g.D.Disk.images old c.row.new.self r ready (record { asks = c.in_err-standing.ensures.asks; scanned = c.in_err-standing.ensures.scanned })))

pub returns-in-Some-clause-serves : goal.returns-in-Some-clause-serves
returns-in-Some-clause-serves g c =
    let s = g.D.Disk.state in
    let i = g.D.Disk.images in
    let old = c.args.table.now in
    let mid = c.row.new.self in
    let standing = c.in_ok-standing.standing in
    let ready : IsReady s old (writes_of old) = subst (λ (l : List Write). IsReady s old l) (sym c.requires.idle) c.requires.ready in
    let r : Result (Option StoredRow) CommitFault = Ok standing in
    let one : Only s i old mid (Ok standing) = record { asks = c.in_ok-standing.ensures.asks; scanned = c.in_ok-standing.ensures.scanned } in
    serves_named s i old mid standing (Answered c.in-Some.outcome) (serves_only s i old mid r ready one)

pub returns-in-Some-clause-taken : goal.returns-in-Some-clause-taken
returns-in-Some-clause-taken g c disk st none =
    let s = g.D.Disk.state in
    let i = g.D.Disk.images in
    let old = c.args.table.now in
    let mid = c.row.new.self in
    let standing = c.in_ok-standing.standing in
    let ready : IsReady s old (writes_of old) = subst (λ (l : List Write). IsReady s old l) (sym c.requires.idle) c.requires.ready in
    let r : Result (Option StoredRow) CommitFault = Ok standing in
    let one : Only s i old mid (Ok standing) = record { asks = c.in_ok-standing.ensures.asks; scanned = c.in_ok-standing.ensures.scanned } in
    let row = standing_is s i old c.args.schema.now c.args.request.now c.requires.hidden standing c.in_ok-standing.ensures.row in
    let refused = refused_is s i old c.args.schema.now c.args.request.now c.requires.hidden disk c.requires.size st standing row c.yours_if-yours.result c.yours_if-yours.ensures c.version_if-current.result c.version_if-current.ensures c.refusal_of.result c.refusal_of.ensures in
    let there = keeps_there c.args.schema.now.chunk disk.items (request_of c.args.request.now) in
    (refused ∙ ap (λ (o : Option Outcome). or_whole there (option_map outcome_of o)) c.in-Some.is, one.asks.agenda ∙ c.requires.idle)

pub take_new-requires-clause-ready : goal.take_new-requires-clause-ready
take_new-requires-clause-ready g c =
    let s = g.D.Disk.state in
    let i = g.D.Disk.images in
    let old = c.args.table.now in
    let mid = c.row.new.self in
    let standing = c.in_ok-standing.standing in
    let ready : IsReady s old (writes_of old) = subst (λ (l : List Write). IsReady s old l) (sym c.requires.idle) c.requires.ready in
    let one : Only s i old mid (Ok standing) = record { asks = c.in_ok-standing.ensures.asks; scanned = c.in_ok-standing.ensures.scanned } in
    only_ready s i old mid standing one [] c.requires.ready

pub take_new-requires-clause-standing : goal.take_new-requires-clause-standing
take_new-requires-clause-standing g c =
    let s = g.D.Disk.state in
    let i = g.D.Disk.images in
    let old = c.args.table.now in
    let mid = c.row.new.self in
    let standing = c.in_ok-standing.standing in
    let ready : IsReady s old (writes_of old) = subst (λ (l : List Write). IsReady s old l) (sym c.requires.idle) c.requires.ready in
    let one : Only s i old mid (Ok standing) = record { asks = c.in_ok-standing.ensures.asks; scanned = c.in_ok-standing.ensures.scanned } in
    let row = standing_is s i old c.args.schema.now c.args.request.now c.requires.hidden standing c.in_ok-standing.ensures.row in
    subst (λ (d : Devs). row_of d.held c.args.request.now.row ≡ standing) (sym (only_same s i old mid standing one)) row

pub returns-clause-serves : goal.returns-clause-serves
returns-clause-serves g c =
    let s = g.D.Disk.state in
    let i = g.D.Disk.images in
    let old = c.args.table.now in
    let mid = c.row.new.self in
    let standing = c.in_ok-standing.standing in
    let ready : IsReady s old (writes_of old) = subst (λ (l : List Write). IsReady s old l) (sym c.requires.idle) c.requires.ready in
    let one : Only s i old mid (Ok standing) = record { asks = c.in_ok-standing.ensures.asks; scanned = c.in_ok-standing.ensures.scanned } in
    serves_then s i old mid c.take_new.new.table standing c.take_new.result ready one c.take_new.ensures.serves

pub returns-clause-taken : goal.returns-clause-taken
returns-clause-taken g c disk st none =
    let s = g.D.Disk.state in
    let i = g.D.Disk.images in
    let old = c.args.table.now in
    let mid = c.row.new.self in
    let standing = c.in_ok-standing.standing in
    let ready : IsReady s old (writes_of old) = subst (λ (l : List Write). IsReady s old l) (sym c.requires.idle) c.requires.ready in
    let one : Only s i old mid (Ok standing) = record { asks = c.in_ok-standing.ensures.asks; scanned = c.in_ok-standing.ensures.scanned } in
    let row = standing_is s i old c.args.schema.now c.args.request.now c.requires.hidden standing c.in_ok-standing.ensures.row in
    let judged = refused_is s i old c.args.schema.now c.args.request.now c.requires.hidden disk c.requires.size st standing row c.yours_if-yours.result c.yours_if-yours.ensures c.version_if-current.result c.version_if-current.ensures c.refusal_of.result c.refusal_of.ensures in
    let keeps = keeps_there c.args.schema.now.chunk disk.items (request_of c.args.request.now) in
    let refused = judged ∙ ap (λ (o : Option Outcome). or_whole keeps (option_map outcome_of o)) c.in-None.is in
    let same = only_same s i old mid standing one in
    let there : Stands c.args.schema.now (devs s mid) disk = subst (λ (d : Devs). Stands c.args.schema.now d disk) (sym same) st in
    taken_as c.args.schema.now.scheme c.args.schema.now.chunk (devs s old) disk c.args.request.now (writes_of c.take_new.new.table) c.take_new.result refused
    (subst (λ (d : Devs). IfOk c.take_new.result (IsTakingNew c.args.schema.now.chunk d disk c.args.request.now (writes_of c.take_new.new.table))) same (c.take_new.ensures.taken disk there none))

pub returns-clause-spent : goal.returns-clause-spent
returns-clause-spent g c disk st is =
    let s = g.D.Disk.state in
    let i = g.D.Disk.images in
    let old = c.args.table.now in
    let mid = c.row.new.self in
    let standing = c.in_ok-standing.standing in
    let ready : IsReady s old (writes_of old) = subst (λ (l : List Write). IsReady s old l) (sym c.requires.idle) c.requires.ready in
    let one : Only s i old mid (Ok standing) = record { asks = c.in_ok-standing.ensures.asks; scanned = c.in_ok-standing.ensures.scanned } in
    let row = standing_is s i old c.args.schema.now c.args.request.now c.requires.hidden standing c.in_ok-standing.ensures.row in
    let judged = refused_is s i old c.args.schema.now c.args.request.now c.requires.hidden disk c.requires.size st standing row c.yours_if-yours.result c.yours_if-yours.ensures c.version_if-current.result c.version_if-current.ensures c.refusal_of.result c.refusal_of.ensures in
    let keeps = keeps_there c.args.schema.now.chunk disk.items (request_of c.args.request.now) in
    let refused = judged ∙ ap (λ (o : Option Outcome). or_whole keeps (option_map outcome_of o)) c.in-None.is in
    let same = only_same s i old mid standing one in
    let there : Stands c.args.schema.now (devs s mid) disk = subst (λ (d : Devs). Stands c.args.schema.now d disk) (sym same) st in
    let spent = c.take_new.ensures.spent disk there is in
    (refused ∙ ap (λ (b : Bool). or_whole b None) spent.0, spent.1)
