use Rattle.std.proofs.Common.{◌≡◌, inl, ℕ, List, Result, Ok, Err, refl, sym, ◌∙◌, subst}
use Rattle.std.specs.Prelude.{IfOk}
use Rattle.std.proofs.lemmas.Result.{err_from_is_err_and}
use Rattle.stab_base.specs.declared.limits.TheConstants.{NUMBER_MAX}
use Rattle.store_commit.specs.declared.fault.CommitFault.{CommitFault}
use Rattle.store_commit.specs.declared.fault.CommitFault.TheVariants.{Spent}
use Rattle.store_commit.specs.Devs.{Write}
use Rattle.store_commit.specs.Agenda.{update_writes}
use Rattle.store_commit.specs.Standing.{seen, writes_of, IsReady}
use Rattle.store_commit.specs.Update.{entry_for, stored_for, IsNextVersion}
use Rattle.store_node.specs.Reading.{Only}
use Rattle.store_node.specs.Taking.{Serves}
use Rattle.store_node.proofs.Onlys.{only_ready}
use Rattle.store_node.proofs.Asks.{serves_only, serves_refused}
use Rattle.store_node.proofs.Requests.{last_of_old, is_asked, begun_by, serves_begun, last_of_mid}
use Rattle.store_node.proofs.taking.accept.Goals as goal

pub returns-in_err-table_version-clause-serves : goal.returns-in_err-table_version-clause-serves
returns-in_err-table_version-clause-serves g c =
    let s = g.D.Disk.state in
    let old = c.args.table.now in
    let ready : IsReady s old (writes_of old) = subst (λ (l : List Write). IsReady s old l) (sym c.requires.idle) c.requires.ready in
    let p = err_from_is_err_and c.from_residual.result c.from_residual.ensures.1 in
    rw (p.1, p.2) (serves_only s g.D.Disk.images old c.table_version.new.self (Err c.in_err-table_version.field-0.0) ready (record { asks = c.in_err-table_version.ensures.asks; scanned = c.in_err-table_version.ensures.scanned }))

pub returns-then-branch-eq-NUMBER_MAX-clause-serves : goal.returns-then-branch-eq-NUMBER_MAX-clause-serves
returns-then-branch-eq-NUMBER_MAX-clause-serves g c =
    let s = g.D.Disk.state in
    let old = c.args.table.now in
    let ready : IsReady s old (writes_of old) = subst (λ (l : List Write). IsReady s old l) (sym c.requires.idle) c.requires.ready in
    serves_refused s g.D.Disk.images old c.table_version.new.self c.in_ok-table_version.field-0 Spent ready (record { asks = c.in_ok-table_version.ensures.asks; scanned = c.in_ok-table_version.ensures.scanned }) (inl refl)

pub returns-then-branch-eq-NUMBER_MAX-clause-spent : goal.returns-then-branch-eq-NUMBER_MAX-clause-spent
returns-then-branch-eq-NUMBER_MAX-clause-spent g c disk st is =
    let last = last_of_old g.D.Disk.state g.D.Disk.images c.args.table.now c.args.schema.now c.args.request.now c.requires.hidden disk c.requires.size st c.in_ok-table_version.field-0 c.in_ok-table_version.ensures.greatest in
    sym last ∙ cc

pub begin-requires-clause-ready : goal.begin-requires-clause-ready
begin-requires-clause-ready g c up =
    let s = g.D.Disk.state in
    let i = g.D.Disk.images in
    let old = c.args.table.now in
    let mid = c.table_version.new.self in
    let ready : IsReady s old (writes_of old) = subst (λ (l : List Write). IsReady s old l) (sym c.requires.idle) c.requires.ready in
    let one : Only s i old mid (Ok c.in_ok-table_version.field-0) = record { asks = c.in_ok-table_version.ensures.asks; scanned = c.in_ok-table_version.ensures.scanned } in
    subst (λ (l : List Write). IsReady s mid l) (sym one.asks.agenda) (only_ready s i old mid c.in_ok-table_version.field-0 one (writes_of old) ready)

pub begin-requires-clause-update : goal.begin-requires-clause-update
begin-requires-clause-update g c up idle =
    let s = g.D.Disk.state in
    let i = g.D.Disk.images in
    let old = c.args.table.now in
    let mid = c.table_version.new.self in
    let ready : IsReady s old (writes_of old) = subst (λ (l : List Write). IsReady s old l) (sym c.requires.idle) c.requires.ready in
    let one : Only s i old mid (Ok c.in_ok-table_version.field-0) = record { asks = c.in_ok-table_version.ensures.asks; scanned = c.in_ok-table_version.ensures.scanned } in
    let n = c.requires.stands in
    is_asked s i old c.args.schema.now c.args.request.now c.requires.hidden mid c.in_ok-table_version.field-0 one n.0 n.1 c.requires.spelled c.requires.fits c.requires.words c.requires.client c.requires.standing_spelled c.requires.pieces n.3
    c.args.update c.requires.update

pub returns-clause-serves : goal.returns-clause-serves
returns-clause-serves g c =
    let s = g.D.Disk.state in
    let i = g.D.Disk.images in
    let old = c.args.table.now in
    let mid = c.table_version.new.self in
    let ready : IsReady s old (writes_of old) = subst (λ (l : List Write). IsReady s old l) (sym c.requires.idle) c.requires.ready in
    let one : Only s i old mid (Ok c.in_ok-table_version.field-0) = record { asks = c.in_ok-table_version.ensures.asks; scanned = c.in_ok-table_version.ensures.scanned } in
    subst (λ (r : Result ℕ CommitFault). Serves s i old c.begin.new.self r) (sym c.known.ensures.same)
    (serves_begun s i old c.args.schema.now c.args.request.now c.requires.hidden mid c.in_ok-table_version.field-0 one c.requires.ready c.requires.idle c.begin.new.self _ _ c.begin.result c.begin.ensures.takes c.begin.ensures.scanned c.begin.ensures.spent_unchanged)

pub returns-clause-begun : goal.returns-clause-begun
returns-clause-begun g c disk st none =
    let s = g.D.Disk.state in
    let i = g.D.Disk.images in
    let old = c.args.table.now in
    let mid = c.table_version.new.self in
    let ready : IsReady s old (writes_of old) = subst (λ (l : List Write). IsReady s old l) (sym c.requires.idle) c.requires.ready in
    let one : Only s i old mid (Ok c.in_ok-table_version.field-0) = record { asks = c.in_ok-table_version.ensures.asks; scanned = c.in_ok-table_version.ensures.scanned } in
    let last = last_of_old s i old c.args.schema.now c.args.request.now c.requires.hidden disk c.requires.size st c.in_ok-table_version.field-0 c.in_ok-table_version.ensures.greatest in
    begun_by s i old c.args.schema.now c.args.request.now c.requires.hidden mid c.in_ok-table_version.field-0 one disk st c.begin.new.self c.known.result c.args.update c.requires.update
    (subst (λ (r : Result ℕ CommitFault). IfOk r (λ v. writes_of c.begin.new.self ≡ update_writes (entry_for (seen s mid) v c.args.update) c.args.update.fresh (stored_for (seen s mid) v c.args.update))) (sym c.known.ensures.same) c.begin.ensures.takes.taken)
    (subst (λ (r : Result ℕ CommitFault). IfOk r (IsNextVersion (seen s mid).held)) (sym c.known.ensures.same) c.begin.ensures.version) c.known.ensures.few c.requires.number (λ all. c.if-branch-eq-NUMBER_MAX.false (last ∙ all))

pub returns-clause-spent : goal.returns-clause-spent
returns-clause-spent g c disk st is =
    let s = g.D.Disk.state in
    let i = g.D.Disk.images in
    let old = c.args.table.now in
    let mid = c.table_version.new.self in
    let ready : IsReady s old (writes_of old) = subst (λ (l : List Write). IsReady s old l) (sym c.requires.idle) c.requires.ready in
    let one : Only s i old mid (Ok c.in_ok-table_version.field-0) = record { asks = c.in_ok-table_version.ensures.asks; scanned = c.in_ok-table_version.ensures.scanned } in
    sym (last_of_mid s i old c.args.schema.now c.args.request.now c.requires.hidden mid c.in_ok-table_version.field-0 one disk st NUMBER_MAX (c.begin.ensures.takes.spent (sym c.known.ensures.same ∙ is)).2)
