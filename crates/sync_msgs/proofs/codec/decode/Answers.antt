use Rattle.std.proofs.Common.{Ok, Err, refl, arith}
use Rattle.stab_base.specs.Codec.{IsBytes}
use Rattle.value_codec.specs.declared.spell_fault.SpellFault.TheVariants.{Bad}
use Rattle.value_codec.specs.Reading.{Gives, whole}
use Rattle.table_model.specs.declared.message.Message.{Message}
use Rattle.sync_msgs.specs.Reading.{message_at}
use Rattle.sync_msgs.proofs.Decoding.{found, only, same, never, bad}
use Rattle.sync_msgs.proofs.codec.decode.Goals as goal

pub returns-in-Ok-clause-found : goal.returns-in-Ok-clause-found
returns-in-Ok-clause-found c =
    let fits : IsBytes c.args.body.now = λ i. omega (arith, c.type_inv.body i) in
    found c.in-Some.name c.args.kind c.args.body.now c.in-Ok.message c.in-Some.ensures fits c.in-Ok.ensures

pub returns-in-Ok-clause-only : goal.returns-in-Ok-clause-only
returns-in-Ok-clause-only c = λ m h told. (same c.args.body.now c.in-Ok.message m (only c.in-Some.name c.args.kind c.args.body.now (Ok c.in-Ok.message) c.in-Some.ensures c.in-Ok.ensures m h told), tt)

pub returns-in-Err-Bad-clause-only : goal.returns-in-Err-Bad-clause-only
returns-in-Err-Bad-clause-only c = λ m h told.
    let given : Gives {X = Message} c.args.body.now (λ x. x) (Err (Bad c.in-Err-Bad.at)) (whole (message_at c.in-Some.name c.args.body.now)) = rw c.in-Err-Bad.field-0-is at c.in-Err-Bad.ensures in
    (tt, absurd (never c.args.body.now c.in-Err-Bad.at m (only c.in-Some.name c.args.kind c.args.body.now (Err (Bad c.in-Err-Bad.at)) c.in-Some.ensures given m h told)))

pub returns-in-Err-Bad-clause-refused : goal.returns-in-Err-Bad-clause-refused
returns-in-Err-Bad-clause-refused c =
    let fits : IsBytes c.args.body.now = λ i. omega (arith, c.type_inv.body i) in
    let given : Gives {X = Message} c.args.body.now (λ x. x) (Err (Bad c.in-Err-Bad.at)) (whole (message_at c.in-Some.name c.args.body.now)) = rw c.in-Err-Bad.field-0-is at c.in-Err-Bad.ensures in
    (refl, bad c.in-Some.name c.args.kind c.args.body.now c.in-Err-Bad.at c.in-Some.ensures fits given)
