use Rattle.std.proofs.lemmas.Result.{err_from_is_err_and}
use Rattle.store_node.specs.Devices.{HoldNone}
use Rattle.store_node.proofs.Making.{not_made, made}
use Rattle.store_node.proofs.Blanks.{held_some}
use Rattle.store_node.proofs.Clearing.{none_bare, bare_put, still_either}
use Rattle.store_node.proofs.devices.remake_table.Goals as goal

pub returns-in_err-clear : goal.returns-in_err-clear
returns-in_err-clear g c =
    let s = g.D.Disk.state in
    let images = g.D.Disk.images in
    let only_now = g.met.D.Disk.only_now in
    let old = c.args.table.now in
    let schema = c.args.schema.now in
    let p = err_from_is_err_and c.from_residual.result c.from_residual.ensures.1 in
    let k = c.in_err-clear.ensures in
    rw (p.1, p.2) (not_made s images only_now schema c.args.state (HoldNone s schema c.args.state old) old c.clear.new.self c.in_err-clear.field-0.0 k.fuse (record { cause = k.cause.cause; only = k.cause.only })
    (λ none. held_some s images only_now schema c.args.state old c.clear.new.self none.held (k.leave (none_bare s schema c.args.state old c.requires.up none))))

pub returns : goal.returns
returns g c =
    let s = g.D.Disk.state in
    let images = g.D.Disk.images in
    let only_now = g.met.D.Disk.only_now in
    let old = c.args.table.now in
    let mid = c.clear.new.self in
    let schema = c.args.schema.now in
    let k = c.in_ok-clear.ensures in
    made s images only_now schema c.args.state (HoldNone s schema c.args.state old) old mid c.put_missing.new.table c.put_missing.result k.fuse (record { cause = k.cause.cause; only = k.cause.only }) k.hidden (bare_put s schema c.args.state mid k.bare)
    (λ none. still_either s schema c.args.state old mid (k.same (none_bare s schema c.args.state old c.requires.up none)) none.held)
    (λ none. held_some s images only_now schema c.args.state old mid none.held (k.leave (none_bare s schema c.args.state old c.requires.up none))) c.put_missing.ensures
