use Rattle.new_rows.proofs.Starts.{looked_up, still_starting}
use Rattle.new_rows.proofs.start.start_again.Goals as goal

pub scan-requires : goal.scan-requires
scan-requires g c up = c.in_ok-look.ensures.looked

pub recover-requires : goal.recover-requires
recover-requires g c up =
    let look = c.in_ok-look.ensures in
    still_starting g.D.Disk.state g.D.Disk.images c.look.new.self c.scan.new.self _ c.in_ok-scan.ensures.asks (record { looked = look.looked; sound = look.sound c.requires.sound; openings = look.room; idle = cc (look.agenda, c.requires.idle) })

pub returns-clause-up : goal.returns-clause-up
returns-clause-up g c =
    let look = c.in_ok-look.ensures in
    let start = still_starting g.D.Disk.state g.D.Disk.images c.look.new.self c.scan.new.self _ c.in_ok-scan.ensures.asks (record { looked = look.looked; sound = look.sound c.requires.sound; openings = look.room; idle = cc (look.agenda, c.requires.idle) }) in
    (c.in_ok-recover.ensures.recovers (looked_up g.D.Disk.state c.scan.new.self start.looked)).up

pub returns-clause-ready : goal.returns-clause-ready
returns-clause-ready g c =
    let look = c.in_ok-look.ensures in
    let start = still_starting g.D.Disk.state g.D.Disk.images c.look.new.self c.scan.new.self _ c.in_ok-scan.ensures.asks (record { looked = look.looked; sound = look.sound c.requires.sound; openings = look.room; idle = cc (look.agenda, c.requires.idle) }) in
    (c.in_ok-recover.ensures.recovers (looked_up g.D.Disk.state c.scan.new.self start.looked)).ready
