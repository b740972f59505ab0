use Rattle.std.proofs.lemmas.Result.{err_from_is_err_and}
use Rattle.store_commit.proofs.Bares.{looked_up, still_looked, still_openings, asks_cause, opened_clears, formatted_clears}
use Rattle.store_commit.proofs.devs.TableDevs.open_or_format.Goals as goal

pub returns-in_err-is_bare : goal.returns-in_err-is_bare
returns-in_err-is_bare g c =
    let s = g.D.Disk.state in
    let images = g.D.Disk.images in
    let old = c.args.self.now in
    let a = c.in_err-is_bare.ensures.asks in
    let p = err_from_is_err_and c.from_residual.result c.from_residual.ensures.1 in
    rw (p.1, p.2) (record {
      bare = tt;
      rests = tt;
      idle = tt;
      hidden = tt;
      fuse = a.fuse;
      cause = asks_cause s images old c.is_bare.new.self c.in_err-is_bare.field-0.0 (looked_up s images old c.requires.looked) a;
      leave = λ bare. a.leave bare.up bare.sound;
      same = λ bare. tt;
    })

pub open_all-requires-clause-looked : goal.open_all-requires-clause-looked
open_all-requires-clause-looked g c = still_looked g.D.Disk.state g.D.Disk.images c.args.self.now c.is_bare.new.self (c.in_ok-is_bare.ensures.asks.stay (λ e. cc)) c.requires.looked

pub open_all-requires-clause-room : goal.open_all-requires-clause-room
open_all-requires-clause-room g c = still_openings g.D.Disk.state g.D.Disk.images c.args.self.now c.is_bare.new.self (c.in_ok-is_bare.ensures.asks.stay (λ e. cc)) c.requires.room

pub returns-then-is_bare : goal.returns-then-is_bare
returns-then-is_bare g c =
    let a = c.in_ok-is_bare.ensures in
    let o = c.open_all.ensures in
    opened_clears g.D.Disk.state g.D.Disk.images c.args.self.now c.is_bare.new.self c.requires.looked c.in_ok-is_bare.is_bare a.bare a.asks a.agenda a.scanned c.requires.idle c.requires.hidden
    c.open_all.new.self c.open_all.result c.if-is_bare.true o.fuse o.cause o.rests o.same o.leave o.agenda o.scanned

pub returns : goal.returns
returns g c =
    let s = g.D.Disk.state in
    let images = g.D.Disk.images in
    let a = c.in_ok-is_bare.ensures in
    let f = c.format.ensures in
    let up = looked_up s images c.is_bare.new.self (still_looked s images c.args.self.now c.is_bare.new.self (a.asks.stay (λ e. cc)) c.requires.looked) in
    formatted_clears s images c.args.self.now c.is_bare.new.self c.requires.looked c.in_ok-is_bare.is_bare a.bare a.asks a.agenda a.scanned c.requires.idle c.requires.hidden
    c.format.new.self c.format.result c.if-is_bare.false (f.fuse up) (f.cause up) f.rests f.empty f.idle f.hidden
