use Rattle.std.proofs.Common.{Ok, Err}
use Rattle.client_journal.proofs.Works.{one_looked, two_looked, all_same, synced_slots, synced_journal}
use Rattle.std.proofs.lemmas.Result.{err_from_is_err_and}
use Rattle.client_journal.proofs.Refusals.{cause_then, chunk_caused, slot_caused, journal_caused}
use Rattle.client_journal.proofs.Fusing.{keeps_then, chunk_same, slot_same, journal_same}
use Rattle.client_journal.proofs.devs.Journal.look.Goals as goal

pub returns-in_err-look-clause-any_moment : goal.returns-in_err-look-clause-any_moment
returns-in_err-look-clause-any_moment g c up sound =
    one_looked g.D.Disk.state g.D.Disk.images g.met.D.Disk.only_now c.args.self.now c.look.new.self up c.requires.synced sound (c.look.ensures.any_moment up.chunks sound.chunks)

pub returns-in_err-look-2-clause-any_moment : goal.returns-in_err-look-2-clause-any_moment
returns-in_err-look-2-clause-any_moment g c up sound =
    two_looked g.D.Disk.state g.D.Disk.images g.met.D.Disk.only_now c.args.self.now c.look.new.self c.look-2.new.self up c.requires.synced sound (c.look.ensures.any_moment up.chunks sound.chunks) (c.look-2.ensures.looks.any_moment up.slots sound.slots)

pub returns-in_err-look-3-clause-any_moment : goal.returns-in_err-look-3-clause-any_moment
returns-in_err-look-3-clause-any_moment g c up sound =
    all_same g.D.Disk.state g.D.Disk.images g.met.D.Disk.only_now c.args.self.now _ (c.look.ensures.any_moment up.chunks sound.chunks) (c.look-2.ensures.looks.any_moment up.slots sound.slots) (c.look-3.ensures.any_moment up.journal sound.journal)

pub returns-clause-any_moment : goal.returns-clause-any_moment
returns-clause-any_moment g c up sound =
    all_same g.D.Disk.state g.D.Disk.images g.met.D.Disk.only_now c.args.self.now _ (c.look.ensures.any_moment up.chunks sound.chunks) (c.look-2.ensures.looks.any_moment up.slots sound.slots) (c.look-3.ensures.any_moment up.journal sound.journal)

pub returns-in_err-look-clause-cause : goal.returns-in_err-look-clause-cause
returns-in_err-look-clause-cause g c up =
    let s = g.D.Disk.state in
    let old = c.args.self.now in
    let one = record old { chunks = c.look.new.self } in
    let p = err_from_is_err_and c.from_residual.result c.from_residual.ensures.1 in
    rw (p.1, p.2) (chunk_caused s old c.look.new.self old.chunks c.look.new.self (Err c.in_err-look.field-0.0) c.in_err-look.ensures.refuses c.in_err-look.ensures.only up.chunks)

pub returns-in_err-look-2-clause-cause : goal.returns-in_err-look-2-clause-cause
returns-in_err-look-2-clause-cause g c up =
    let s = g.D.Disk.state in
    let old = c.args.self.now in
    let one = record old { chunks = c.look.new.self } in
    let two = record one { slots = c.look-2.new.self } in
    let p = err_from_is_err_and c.from_residual-in_err-look-2.result c.from_residual-in_err-look-2.ensures.1 in
    rw (p.1, p.2) (cause_then s old one two tt _ (chunk_caused s old c.look.new.self old.chunks c.look.new.self (Ok tt) c.in_ok-look.ensures.refuses c.in_ok-look.ensures.only up.chunks) (slot_caused s one c.look-2.new.self old.slots c.look-2.new.self (Err c.in_err-look-2.field-0.0) c.in_err-look-2.ensures.looks.refuses c.in_err-look-2.ensures.looks.only up.slots))

pub returns-in_err-look-3-clause-cause : goal.returns-in_err-look-3-clause-cause
returns-in_err-look-3-clause-cause g c up =
    let s = g.D.Disk.state in
    let old = c.args.self.now in
    let one = record old { chunks = c.look.new.self } in
    let two = record one { slots = c.look-2.new.self } in
    let three = record two { journal = c.look-3.new.self } in
    let p = err_from_is_err_and c.from_residual-in_err-look-3.result c.from_residual-in_err-look-3.ensures.1 in
    rw (p.1, p.2) (cause_then s old two three tt _ (cause_then s old one two tt (Ok tt) (chunk_caused s old c.look.new.self old.chunks c.look.new.self (Ok tt) c.in_ok-look.ensures.refuses c.in_ok-look.ensures.only up.chunks) (slot_caused s one c.look-2.new.self old.slots c.look-2.new.self (Ok tt) c.in_ok-look-2.ensures.looks.refuses c.in_ok-look-2.ensures.looks.only up.slots)) (journal_caused s two c.look-3.new.self old.journal c.look-3.new.self (Err c.in_err-look-3.field-0.0) c.in_err-look-3.ensures.refuses c.in_err-look-3.ensures.only up.journal))

pub returns-clause-cause : goal.returns-clause-cause
returns-clause-cause g c up =
    let s = g.D.Disk.state in
    let old = c.args.self.now in
    let one = record old { chunks = c.look.new.self } in
    let two = record one { slots = c.look-2.new.self } in
    let three = record two { journal = c.look-3.new.self } in
    let k = cause_then s old two three tt (Ok tt) (cause_then s old one two tt (Ok tt) (chunk_caused s old c.look.new.self old.chunks c.look.new.self (Ok tt) c.in_ok-look.ensures.refuses c.in_ok-look.ensures.only up.chunks) (slot_caused s one c.look-2.new.self old.slots c.look-2.new.self (Ok tt) c.in_ok-look-2.ensures.looks.refuses c.in_ok-look-2.ensures.looks.only up.slots)) (journal_caused s two c.look-3.new.self old.journal c.look-3.new.self (Ok tt) c.in_ok-look-3.ensures.refuses c.in_ok-look-3.ensures.only up.journal) in
    record { cause = k.cause; only = k.only }

pub returns-in_err-look-clause-fuse : goal.returns-in_err-look-clause-fuse
returns-in_err-look-clause-fuse g c = chunk_same g.D.Disk.state c.args.self.now c.look.new.self c.look.ensures.fuse

pub returns-in_err-look-2-clause-fuse : goal.returns-in_err-look-2-clause-fuse
returns-in_err-look-2-clause-fuse g c =
    let s = g.D.Disk.state in
    let old = c.args.self.now in
    let one = record old { chunks = c.look.new.self } in
    let two = record one { slots = c.look-2.new.self } in
    keeps_then s old one two (chunk_same s old c.look.new.self c.look.ensures.fuse) (slot_same s one c.look-2.new.self c.look-2.ensures.looks.fuse)

pub returns-in_err-look-3-clause-fuse : goal.returns-in_err-look-3-clause-fuse
returns-in_err-look-3-clause-fuse g c =
    let s = g.D.Disk.state in
    let old = c.args.self.now in
    let one = record old { chunks = c.look.new.self } in
    let two = record one { slots = c.look-2.new.self } in
    let three = record two { journal = c.look-3.new.self } in
    keeps_then s old two three (keeps_then s old one two (chunk_same s old c.look.new.self c.look.ensures.fuse) (slot_same s one c.look-2.new.self c.look-2.ensures.looks.fuse)) (journal_same s two c.look-3.new.self c.look-3.ensures.fuse)

pub returns-clause-fuse : goal.returns-clause-fuse
returns-clause-fuse g c =
    let s = g.D.Disk.state in
    let old = c.args.self.now in
    let one = record old { chunks = c.look.new.self } in
    let two = record one { slots = c.look-2.new.self } in
    let three = record two { journal = c.look-3.new.self } in
    keeps_then s old two three (keeps_then s old one two (chunk_same s old c.look.new.self c.look.ensures.fuse) (slot_same s one c.look-2.new.self c.look-2.ensures.looks.fuse)) (journal_same s two c.look-3.new.self c.look-3.ensures.fuse)

pub returns-in_err-look-clause-leave : goal.returns-in_err-look-clause-leave
returns-in_err-look-clause-leave g c up sound = record {
  chunks = c.look.ensures.any_moment up.chunks sound.chunks;
  slots = synced_slots g.D.Disk.state g.D.Disk.images g.met.D.Disk.only_now c.args.self.now.slots up.slots c.requires.synced.slots sound.slots;
  journal = synced_journal g.D.Disk.state g.D.Disk.images g.met.D.Disk.only_now c.args.self.now.journal up.journal c.requires.synced.journal sound.journal;
}

pub returns-in_err-look-2-clause-leave : goal.returns-in_err-look-2-clause-leave
returns-in_err-look-2-clause-leave g c up sound = record {
  chunks = c.look.ensures.any_moment up.chunks sound.chunks;
  slots = c.look-2.ensures.looks.any_moment up.slots sound.slots;
  journal = synced_journal g.D.Disk.state g.D.Disk.images g.met.D.Disk.only_now c.args.self.now.journal up.journal c.requires.synced.journal sound.journal;
}

pub returns-in_err-look-3-clause-leave : goal.returns-in_err-look-3-clause-leave
returns-in_err-look-3-clause-leave g c up sound =
    record { chunks = c.look.ensures.any_moment up.chunks sound.chunks; slots = c.look-2.ensures.looks.any_moment up.slots sound.slots; journal = c.look-3.ensures.any_moment up.journal sound.journal }

pub returns-clause-leave : goal.returns-clause-leave
returns-clause-leave g c up sound =
    record { chunks = c.look.ensures.any_moment up.chunks sound.chunks; slots = c.look-2.ensures.looks.any_moment up.slots sound.slots; journal = c.look-3.ensures.any_moment up.journal sound.journal }
