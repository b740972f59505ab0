use Rattle.std.proofs.Common.{◌++◌, sym, subst}
use Rattle.std.specs.Prelude.{IfErr, OnOk}
use Rattle.net_steps.specs.declared.answer.Due.{Due}
use Rattle.net_steps.specs.Carrying.{AreSent, IsOverFault}
use Rattle.net_steps.specs.Walking.{IsToFollow, sends_as}
use Rattle.net_steps.proofs.Owed.{none_sent}
use Rattle.net_steps.proofs.world.World.follow.Goals as goal

pub ask_again-requires : goal.ask_again-requires
ask_again-requires g c = let k = c.requires.along in record { numbered = (k.0, k.2.devices, k.2.numbered) }

pub answer_asker-requires : goal.answer_asker-requires
answer_asker-requires g c = let k = c.requires.along in record { along = (k.0, k.1, k.2, subst (IsToFollow k.0 k.1) c.in-Answer.is k.3) }

pub returns-in-Session-clause-sent : goal.returns-in-Session-clause-sent
returns-in-Session-clause-sent g c n v sent along may has =
    subst (λ (d : Due). OnOk c.ask_again.result (AreSent v.packets sent (sends_as n d) c.ask_again.new.self.network c.args.told.now c.ask_again.new.told))
    (sym c.in-Session.is) (c.ask_again.ensures.sent n v.packets sent along.devices has)

pub returns-in-Session-clause-over : goal.returns-in-Session-clause-over
returns-in-Session-clause-over g c n v sent along may has =
    subst (λ (d : Due). IfErr c.ask_again.result (IsOverFault (sent ++ sends_as n d)))
    (sym c.in-Session.is) (c.ask_again.ensures.over n v.packets sent along.devices has)

pub returns-in-Answer-clause-sent : goal.returns-in-Answer-clause-sent
returns-in-Answer-clause-sent g c n v sent along may has =
    subst (λ (d : Due). OnOk c.answer_asker.result (AreSent v.packets sent (sends_as n d) c.answer_asker.new.self.network c.args.told.now c.answer_asker.new.told))
    (sym c.in-Answer.is) (c.answer_asker.ensures.sent n v sent along (subst (IsToFollow n v) c.in-Answer.is may) has)

pub returns-in-Answer-clause-over : goal.returns-in-Answer-clause-over
returns-in-Answer-clause-over g c n v sent along may has =
    subst (λ (d : Due). IfErr c.answer_asker.result (IsOverFault (sent ++ sends_as n d)))
    (sym c.in-Answer.is) (c.answer_asker.ensures.over n v sent along (subst (IsToFollow n v) c.in-Answer.is may) has)

pub returns-in-Nothing-clause-sent : goal.returns-in-Nothing-clause-sent
returns-in-Nothing-clause-sent g c n v sent along may has =
    subst (λ (d : Due). AreSent v.packets sent (sends_as n d) c.args.self.now.network c.args.told.now c.args.told.now)
    (sym c.in-Nothing.is) (none_sent v.packets sent c.args.self.now.network c.args.told.now has)
