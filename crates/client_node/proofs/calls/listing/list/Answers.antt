use Rattle.std.proofs.Common.{◌≡◌, inl, inr, ⊎_elim, ℕ, List, Ok, Err, refl, sym, ◌∙◌, ap, subst}
use Rattle.std.proofs.lemmas.Result.{err_from_is_err_and}
use Rattle.client_journal.specs.Devs.{ClientDevs}
use Rattle.client_journal.specs.Standing.{devs}
use Rattle.client_node.specs.declared.fault.CallFault.TheVariants as call
use Rattle.client_node.specs.Answers.{record_at}
use Rattle.client_node.specs.Listing.{pairs_held, AreCalm}
use Rattle.client_node.proofs.Contended.{numbered_small, list_fault, list_closed, list_unphased, list_done}
use Rattle.client_node.proofs.Serving.{looks_err, looks_other, looks_then}
use Rattle.client_node.proofs.calls.listing.list.Goals as goal

pub returns-in_err-_opened-clause-looks : goal.returns-in_err-_opened-clause-looks
returns-in_err-_opened-clause-looks g c =
    let p = err_from_is_err_and c.from_residual.result c.from_residual.ensures.1 in
    rw (p.1, p.2) (looks_err g.D.Disk.state g.D.Disk.images c.args.devs.now c.open_table.new.devs c.requires.up c.requires.ready c.in_err-_opened.field-0.0 c.in_err-_opened.ensures.looks)

pub returns-in_err-_opened-clause-answered : goal.returns-in_err-_opened-clause-answered
returns-in_err-_opened-clause-answered g c n disk st steady =
    let p = err_from_is_err_and c.from_residual.result c.from_residual.ensures.1 in
    rw (p.1, p.2) (list_closed n (devs g.D.Disk.state c.args.devs.now) disk st c.args.table c.args.is_open c.in_err-_opened.field-0.0 c.in_err-_opened.ensures.refused)

pub returns-in_err-_opened-clause-refused : goal.returns-in_err-_opened-clause-refused
returns-in_err-_opened-clause-refused g c =
    let p = err_from_is_err_and c.from_residual.result c.from_residual.ensures.1 in
    rw (p.1, p.2) (⊎_elim (λ none. inl none.0) (λ fault. inr (inr fault)) c.in_err-_opened.ensures.refused)

pub returns-in_err-check_open-clause-looks : goal.returns-in_err-check_open-clause-looks
returns-in_err-check_open-clause-looks g c =
    let p = err_from_is_err_and c.from_residual-in_err-check_open.result c.from_residual-in_err-check_open.ensures.1 in
    rw (p.1, p.2) (looks_other g.D.Disk.state g.D.Disk.images c.args.devs.now c.open_table.new.devs c.requires.up c.requires.ready c.in_ok-_opened._opened (Err c.in_err-check_open.field-0.0) c.in_ok-_opened.ensures.looks
    (λ is. let no : call.NotInResolution ≡ call.Disk = sym c.in_err-check_open.ensures.closed.1 ∙ cc in cc))

pub returns-in_err-check_open-clause-answered : goal.returns-in_err-check_open-clause-answered
returns-in_err-check_open-clause-answered g c n disk st steady =
    let p = err_from_is_err_and c.from_residual-in_err-check_open.result c.from_residual-in_err-check_open.ensures.1 in
    rw (p.1, p.2) (list_unphased n (devs g.D.Disk.state c.args.devs.now) disk st c.args.table c.args.is_open c.in_ok-_opened._opened c.in_ok-_opened.ensures.opened c.in_err-check_open.field-0.0 c.in_err-check_open.ensures.closed)

pub returns-in_err-check_open-clause-refused : goal.returns-in_err-check_open-clause-refused
returns-in_err-check_open-clause-refused g c =
    let p = err_from_is_err_and c.from_residual-in_err-check_open.result c.from_residual-in_err-check_open.ensures.1 in
    rw (p.1, p.2) (inr (inl c.in_err-check_open.ensures.closed.1))

pub returns-in_err-rows-clause-looks : goal.returns-in_err-rows-clause-looks
returns-in_err-rows-clause-looks g c =
    let p = err_from_is_err_and c.from_residual-in_err-rows.result c.from_residual-in_err-rows.ensures.1 in
    rw (p.1, p.2) (looks_other g.D.Disk.state g.D.Disk.images c.args.devs.now c.open_table.new.devs c.requires.up c.requires.ready c.in_ok-_opened._opened (Err call.Memory) c.in_ok-_opened.ensures.looks (λ no. cc))

pub returns-in_err-rows-clause-answered : goal.returns-in_err-rows-clause-answered
returns-in_err-rows-clause-answered g c n disk st steady =
    let p = err_from_is_err_and c.from_residual-in_err-rows.result c.from_residual-in_err-rows.ensures.1 in
    rw (p.1, p.2) (λ refusal is. absurd cc)

pub rows_in-requires : goal.rows_in-requires
rows_in-requires g c = numbered_small (record_at (devs g.D.Disk.state c.args.devs.now) c.args.table) c.args.table c.in_ok-_opened._opened c.in_ok-_opened.ensures.opened c.requires.numbered

pub pairs_of-requires-clause-up : goal.pairs_of-requires-clause-up
pairs_of-requires-clause-up g c = c.in_ok-_opened.ensures.looks.serves.up (λ is. cc)

pub pairs_of-requires-clause-ready : goal.pairs_of-requires-clause-ready
pairs_of-requires-clause-ready g c = c.in_ok-_opened.ensures.looks.serves.ready (λ is. cc)

pub returns-in_err-pairs-clause-looks : goal.returns-in_err-pairs-clause-looks
returns-in_err-pairs-clause-looks g c =
    let s = g.D.Disk.state in
    let im = g.D.Disk.images in
    let mid = c.open_table.new.devs in
    let l = c.in_ok-_opened.ensures.looks in
    let p = err_from_is_err_and c.from_residual-in_err-pairs.result c.from_residual-in_err-pairs.ensures.1 in
    rw (p.1, p.2) (looks_then s im c.args.devs.now c.pairs_of.new.devs c.requires.up c.requires.ready mid c.in_ok-_opened._opened (Err c.in_err-pairs.field-0.0) l
    (looks_err s im mid c.pairs_of.new.devs (l.serves.up (λ is. cc)) (l.serves.ready (λ is. cc)) c.in_err-pairs.field-0.0 c.in_err-pairs.ensures.looks))

pub returns-in_err-pairs-clause-answered : goal.returns-in_err-pairs-clause-answered
returns-in_err-pairs-clause-answered g c n disk st steady =
    let p = err_from_is_err_and c.from_residual-in_err-pairs.result c.from_residual-in_err-pairs.ensures.1 in
    rw (p.1, p.2) (list_fault n (devs g.D.Disk.state c.args.devs.now) disk st c.args.table c.args.is_open c.in_err-pairs.field-0.0 c.in_err-pairs.ensures.refused)

pub returns-in_err-pairs-clause-refused : goal.returns-in_err-pairs-clause-refused
returns-in_err-pairs-clause-refused g c =
    let p = err_from_is_err_and c.from_residual-in_err-pairs.result c.from_residual-in_err-pairs.ensures.1 in
    rw (p.1, p.2) (inr (inr c.in_err-pairs.ensures.refused))

pub returns-clause-looks : goal.returns-clause-looks
returns-clause-looks g c =
    let s = g.D.Disk.state in
    let im = g.D.Disk.images in
    looks_other s im c.args.devs.now c.pairs_of.new.devs c.requires.up c.requires.ready c.in_ok-pairs.pairs (Ok _)
    (looks_then s im c.args.devs.now c.pairs_of.new.devs c.requires.up c.requires.ready c.open_table.new.devs c.in_ok-_opened._opened (Ok c.in_ok-pairs.pairs) c.in_ok-_opened.ensures.looks c.in_ok-pairs.ensures.looks) (λ no. cc)

pub returns-clause-answered : goal.returns-clause-answered
returns-clause-answered g c n disk st steady =
    let d = devs g.D.Disk.state c.args.devs.now in
    let same = c.in_ok-_opened.ensures.looks.serves.same (λ is. cc) in
    list_done n d disk st c.args.table c.args.is_open c.in_ok-_opened._opened c.in_ok-_opened.ensures.opened c.in_ok-check_open.ensures.open c.args.waiting.now steady c.in_ok-rows.rows.items c.in_ok-rows.ensures _
    (c.from_vec.ensures ∙ (c.in_ok-pairs.ensures.pairs ∙ (ap (pairs_held (devs g.D.Disk.state c.open_table.new.devs) c.args.table) c.as_slice.ensures.value ∙ ap (λ (x : ClientDevs). pairs_held x c.args.table c.in_ok-rows.rows.items) same)))

pub returns-clause-calm : goal.returns-clause-calm
returns-clause-calm g c before =
    let same = c.in_ok-_opened.ensures.looks.serves.same (λ is. cc) in
    subst (λ (x : ClientDevs). AreCalm x c.args.table c.pairs_of.new.calm.items) same
    (c.in_ok-pairs.ensures.calm (subst (λ (x : ClientDevs). AreCalm x c.args.table c.args.calm.now.items) (sym same) before))
