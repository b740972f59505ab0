use Rattle.std.proofs.Common.{◌≡◌, ◌+◌, List, [], ◌∷◌, length, refl, sym, ◌∙◌, subst, arith}
use Rattle.slot_store.specs.Spelling.{record_payload}
use Rattle.client_journal.specs.Devs.{Write, PutRecord}
use Rattle.client_journal.specs.Standing.{writes_of, IsReady}
use Rattle.client_journal.proofs.Ready.{slot_less}
use Rattle.client_journal.proofs.Fusing.{keeps_then, keeps_same}
use Rattle.client_journal.proofs.devs.Journal.declare.Goals as goal

pub put_record-requires-clause-ready : goal.put_record-requires-clause-ready
put_record-requires-clause-ready g c =
    let s = g.D.Disk.state in
    let new = c.reserve_slots.new.self in
    let w = c.in_ok-reserve_slots.ensures.waits in
    let r = w.rests (λ is. cc) in
    subst (λ (l : List Write). IsReady s new (PutRecord c.args.table.now ∷ l)) (sym (w.agenda ∙ c.requires.idle))
    (record {
      may = ((c.requires.spelled, c.requires.short), tt);
      chunk_looked = r.chunk_looked;
      chunk_sound = r.chunk_sound;
      chunk_is_opened = r.chunk_is_opened;
      chunk_room = r.chunk_room;
      slot_looked = r.slot_looked;
      slot_sound = r.slot_sound;
      slot_is_opened = r.slot_is_opened;
      slot_room = slot_less s new.slots 1 1 c.in_ok-size.size 0 (0 + 1) (0 + length (record_payload c.args.table.now)) (omega arith) (omega arith) (omega (arith, c.in_ok-size.ensures)) c.in_ok-reserve_slots.ensures.room;
      journal_looked = r.journal_looked;
      journal_sound = r.journal_sound;
      journal_is_opened = r.journal_is_opened;
      journal_room = r.journal_room;
    })

pub returns-in_err-size-clause-fuse : goal.returns-in_err-size-clause-fuse
returns-in_err-size-clause-fuse g c = keeps_same g.D.Disk.state c.args.self.now c.args.self.now refl refl refl

pub returns-in_err-reserve_slots-clause-fuse : goal.returns-in_err-reserve_slots-clause-fuse
returns-in_err-reserve_slots-clause-fuse g c = c.reserve_slots.ensures.waits.fuse

pub returns-clause-fuse : goal.returns-clause-fuse
returns-clause-fuse g c = keeps_then g.D.Disk.state c.args.self.now c.reserve_slots.new.self c.put_record.new.self c.reserve_slots.ensures.waits.fuse c.put_record.ensures.fuse
