use Rattle.std.proofs.Common.{inl, inr, Err}
use Rattle.std.proofs.lemmas.Result.{err_from_is_err_and}
use Rattle.client_journal.specs.Standing.{devs}
use Rattle.client_node.proofs.MadeChoices.{pair_read}
use Rattle.client_node.proofs.Serving.{looks_none, looks_then, looks_err, looks_other}
use Rattle.client_node.proofs.calls.choosing.read_pair.Goals as goal

pub returns-in_default-clause-looks : goal.returns-in_default-clause-looks
returns-in_default-clause-looks g c = looks_none g.D.Disk.state g.D.Disk.images g.met.D.Disk.only_now c.args.devs.now c.requires.up c.requires.ready _ (λ no. cc)

pub returns-in_default-conflict-clause-looks : goal.returns-in_default-conflict-clause-looks
returns-in_default-conflict-clause-looks g c = looks_none g.D.Disk.state g.D.Disk.images g.met.D.Disk.only_now c.args.devs.now c.requires.up c.requires.ready _ (λ no. cc)

pub returns-in_err-check_seen-clause-looks : goal.returns-in_err-check_seen-clause-looks
returns-in_err-check_seen-clause-looks g c =
    let p = err_from_is_err_and c.from_residual.result c.from_residual.ensures.1 in
    let is = c.in_err-check_seen.ensures.moved.1 in
    rw (p.1, p.2, is) (looks_none g.D.Disk.state g.D.Disk.images g.met.D.Disk.only_now c.args.devs.now c.requires.up c.requires.ready _ (λ no. cc))

pub returns-in_err-check_seen-clause-refused : goal.returns-in_err-check_seen-clause-refused
returns-in_err-check_seen-clause-refused g c =
    let p = err_from_is_err_and c.from_residual.result c.from_residual.ensures.1 in
    let b = c.in_err-check_seen.ensures.moved in
    rw (p.1, p.2) (inr (inl (record { main = c.in-Some.main; main_is = c.in-Some.is; x = c.in-Some-conflict.row; conflict_is = c.in-Some-conflict.is; other = b.0; fault = b.1 })))

pub returns-in_err-mine-clause-looks : goal.returns-in_err-mine-clause-looks
returns-in_err-mine-clause-looks g c =
    let p = err_from_is_err_and c.from_residual-in_err-mine.result c.from_residual-in_err-mine.ensures.1 in
    rw (p.1, p.2) (looks_err g.D.Disk.state g.D.Disk.images c.args.devs.now c.read_content.new.devs c.requires.up c.requires.ready c.in_err-mine.field-0.0 c.in_err-mine.ensures.looks)

pub returns-in_err-mine-clause-refused : goal.returns-in_err-mine-clause-refused
returns-in_err-mine-clause-refused g c =
    let p = err_from_is_err_and c.from_residual-in_err-mine.result c.from_residual-in_err-mine.ensures.1 in
    rw (p.1, p.2) (inr (inr c.in_err-mine.ensures.refused))

pub read_content-requires-2-clause-up : goal.read_content-requires-2-clause-up
read_content-requires-2-clause-up g c = c.in_ok-mine.ensures.looks.serves.up (λ is. cc)

pub read_content-requires-2-clause-ready : goal.read_content-requires-2-clause-ready
read_content-requires-2-clause-ready g c = c.in_ok-mine.ensures.looks.serves.ready (λ is. cc)

pub returns-in_err-theirs-clause-looks : goal.returns-in_err-theirs-clause-looks
returns-in_err-theirs-clause-looks g c =
    let s = g.D.Disk.state in
    let im = g.D.Disk.images in
    let mid = c.read_content.new.devs in
    let l = c.in_ok-mine.ensures.looks in
    let p = err_from_is_err_and c.from_residual-in_err-theirs.result c.from_residual-in_err-theirs.ensures.1 in
    let e = c.in_err-theirs.field-0.0 in
    rw (p.1, p.2) (looks_then s im c.args.devs.now c.read_content-2.new.devs c.requires.up c.requires.ready mid c.in_ok-mine.mine (Err e) l
    (looks_err s im mid c.read_content-2.new.devs (l.serves.up (λ is. cc)) (l.serves.ready (λ is. cc)) e c.in_err-theirs.ensures.looks))

pub returns-in_err-theirs-clause-refused : goal.returns-in_err-theirs-clause-refused
returns-in_err-theirs-clause-refused g c =
    let p = err_from_is_err_and c.from_residual-in_err-theirs.result c.from_residual-in_err-theirs.ensures.1 in
    rw (p.1, p.2) (inr (inr c.in_err-theirs.ensures.refused))

pub returns-clause-looks : goal.returns-clause-looks
returns-clause-looks g c =
    let s = g.D.Disk.state in
    let im = g.D.Disk.images in
    let mid = c.read_content.new.devs in
    let l = c.in_ok-mine.ensures.looks in
    looks_then s im c.args.devs.now c.read_content-2.new.devs c.requires.up c.requires.ready mid c.in_ok-mine.mine _ l
    (looks_other s im mid c.read_content-2.new.devs (l.serves.up (λ is. cc)) (l.serves.ready (λ is. cc)) c.in_ok-theirs.theirs _ c.in_ok-theirs.ensures.looks (λ no. cc))

pub returns-clause-pair : goal.returns-clause-pair
returns-clause-pair g c =
    let s = g.D.Disk.state in
    pair_read (devs s c.args.devs.now) c.args.at.now c.args.seen c.in-Some.main c.in-Some.is c.in-Some-conflict.row c.in-Some-conflict.is c.in_ok-check_seen.ensures.same c.in_ok-mine.mine c.in_ok-theirs.theirs
    (devs s c.read_content.new.devs) (c.in_ok-mine.ensures.looks.serves.same (λ is. cc)) c.in_ok-mine.ensures.whole c.in_ok-theirs.ensures.whole
