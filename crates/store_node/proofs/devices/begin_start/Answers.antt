use Rattle.std.proofs.Common.{◌≡◌, map, Err, sym, ◌∙◌, ap, subst}
use Rattle.std.proofs.lemmas.Result.{err_from_is_err_and}
use Rattle.store_commit.specs.declared.recovery.Recovery.{Recovery}
use Rattle.store_commit.specs.Devs.{Devs}
use Rattle.store_commit.specs.NamedChunks.{NamedChunks}
use Rattle.store_commit.specs.There.{WholeRows}
use Rattle.store_commit.specs.Standing.{write_of, DevsLeave}
use Rattle.store_commit.specs.Unset.{HasCause}
use Rattle.store_commit.proofs.Fusing.{keeps_then, cause_then}
use Rattle.store_commit.proofs.Bares.{looked_up, still_looked, asks_cause}
use Rattle.store_node.proofs.Making.{scanned_starts, same_hidden, rows_go_on, begun_start}
use Rattle.store_node.proofs.devices.begin_start.Goals as goal

pub scan-requires : goal.scan-requires
scan-requires g c up = c.in_ok-look.ensures.looked

pub recover-requires : goal.recover-requires
recover-requires g c up =
    let l = c.in_ok-look.ensures in
    let a = c.in_ok-scan.ensures.asks in
    scanned_starts g.D.Disk.state g.D.Disk.images c.look.new.self c.scan.new.self (a.stay (λ is. cc)) l.looked (l.sound c.requires.sound) l.room a.agenda (ap (λ a. map write_of a.items) l.agenda ∙ c.requires.idle)

pub returns-in_err-look : goal.returns-in_err-look
returns-in_err-look g c =
    let p = err_from_is_err_and c.from_residual.result c.from_residual.ensures.1 in
    let l = c.look.ensures in
    let k = c.in_err-look.ensures.cause c.requires.up in
    rw (p.1, p.2) (record {
      answer = tt;
      writes = tt;
      ready = tt;
      up = tt;
      same = tt;
      hidden = tt;
      fuse = l.fuse c.requires.up;
      cause = record { cause = k.cause; only = k.only };
      left = (c.args.table.now, l.any_moment c.requires.up c.requires.sound);
      rows_left = l.rows_left c.requires.up c.requires.sound;
    })

pub returns-in_err-scan : goal.returns-in_err-scan
returns-in_err-scan g c =
    let s = g.D.Disk.state in
    let images = g.D.Disk.images in
    let old = c.args.table.now in
    let looked = c.look.new.self in
    let new = c.scan.new.self in
    let p = err_from_is_err_and c.from_residual-in_err-scan.result c.from_residual-in_err-scan.ensures.1 in
    let l = c.in_ok-look.ensures in
    let a = c.in_err-scan.ensures.asks in
    let up = looked_up s images looked l.looked in
    let k : HasCause {T = Recovery} s old new (Err c.in_err-scan.field-0.0) = cause_then s old looked new tt (Err c.in_err-scan.field-0.0) (l.cause c.requires.up) (asks_cause s images looked new c.in_err-scan.field-0.0 up a) in
    rw (p.1, p.2) (record {
      answer = tt;
      writes = tt;
      ready = tt;
      up = tt;
      same = tt;
      hidden = tt;
      fuse = keeps_then s old looked new (l.fuse c.requires.up) c.scan.ensures.fuse;
      cause = k;
      left = (looked, subst (λ (d : Devs). DevsLeave s images looked new (λ x. x ≡ d)) l.same (a.any_moment up (l.sound c.requires.sound)));
      rows_left = rows_go_on s images old looked new l.same (l.rows_left c.requires.up c.requires.sound) (a.leave up (l.sound c.requires.sound)).rows;
    })

pub returns : goal.returns
returns g c =
    let s = g.D.Disk.state in
    let images = g.D.Disk.images in
    let old = c.args.table.now in
    let looked = c.look.new.self in
    let scanned = c.scan.new.self in
    let l = c.in_ok-look.ensures in
    let a = c.in_ok-scan.ensures.asks in
    let up = looked_up s images scanned (still_looked s images looked scanned (a.stay (λ is. cc)) l.looked) in
    let w = c.requires.whole in
    let none = c.in_ok-scan.ensures.whole w.0 (subst (λ (d : Devs). NamedChunks w.0 d) (sym l.same) w.1) (subst (λ (d : Devs). WholeRows w.0 d.held) (sym l.same) w.2) in
    begun_start s images old scanned c.recover.new.self c.recover.result (keeps_then s old looked scanned (l.fuse c.requires.up) c.scan.ensures.fuse)
    (record { cause = a.counted (λ is. cc) ∙ (l.cause c.requires.up).cause; only = tt }) (a.same (λ is. cc) ∙ l.same) c.recover.ensures.fuse
    (rows_go_on s images old looked scanned l.same (l.rows_left c.requires.up c.requires.sound) (a.leave (looked_up s images looked l.looked) (l.sound c.requires.sound)).rows)
    (c.recover.ensures.recovers up) (c.recover.ensures.rising up none.1)
    (same_hidden s images scanned c.recover.new.self c.recover.ensures.scanned none.0)
