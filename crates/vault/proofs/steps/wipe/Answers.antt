use Rattle.disk_trait.proofs.Moments.{started, goes_on}
use Rattle.vault.proofs.Blanks.{IsShort, short_settled, short_cut, short_write, short_less}
use Rattle.vault.proofs.steps.wipe.Goals as goal

pub returns-in_err-cut-clause-blank : goal.returns-in_err-cut-clause-blank
returns-in_err-cut-clause-blank g c synced short =
    let s = g.D.Disk.state in
    let i = g.D.Disk.images in
    let old = c.args.disk.now in
    let at = short_settled s i g.met.D.Disk.seen_left old synced short in
    goes_on s i old old c.cut.new.self IsShort (started s i old IsShort (λ image left. at image (g.met.D.Disk.only_now old image left))) c.cut.ensures.time (short_cut s i g.met.D.Disk.seen_left old c.cut.new.self at c.cut.ensures.crash)

pub returns-in_err-write_at-clause-blank : goal.returns-in_err-write_at-clause-blank
returns-in_err-write_at-clause-blank g c synced short =
    let s = g.D.Disk.state in
    let i = g.D.Disk.images in
    let old = c.args.disk.now in
    let at = short_settled s i g.met.D.Disk.seen_left old synced short in
    let after_cut = short_cut s i g.met.D.Disk.seen_left old c.cut.new.self at c.cut.ensures.crash in
    let cut = goes_on s i old old c.cut.new.self IsShort (started s i old IsShort (λ image left. at image (g.met.D.Disk.only_now old image left))) c.cut.ensures.time after_cut in
    goes_on s i old c.cut.new.self c.write_at.new.self IsShort cut c.write_at.ensures.time (short_write s i g.met.D.Disk.seen_left c.cut.new.self c.write_at.new.self after_cut c.write_at.ensures.crash)

pub returns-clause-blank : goal.returns-clause-blank
returns-clause-blank g c synced short =
    let s = g.D.Disk.state in
    let i = g.D.Disk.images in
    let old = c.args.disk.now in
    let at = short_settled s i g.met.D.Disk.seen_left old synced short in
    let after_cut = short_cut s i g.met.D.Disk.seen_left old c.cut.new.self at c.cut.ensures.crash in
    let after_write = short_write s i g.met.D.Disk.seen_left c.cut.new.self c.write_at.new.self after_cut c.write_at.ensures.crash in
    let cut = goes_on s i old old c.cut.new.self IsShort (started s i old IsShort (λ image left. at image (g.met.D.Disk.only_now old image left))) c.cut.ensures.time after_cut in
    let write = goes_on s i old c.cut.new.self c.write_at.new.self IsShort cut c.write_at.ensures.time after_write in
    goes_on s i old c.write_at.new.self c.sync.new.self IsShort write c.sync.ensures.time (short_less s i g.met.D.Disk.seen_left c.write_at.new.self c.sync.new.self after_write c.sync.ensures.crash)
