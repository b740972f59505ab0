use Rattle.net_steps.proofs.world.World.hand.Goals as goal

pub returns-clause-done : goal.returns-clause-done
returns-clause-done g c is_out n b = (c.hand_message.ensures.promises is_out n b).done

pub returns-clause-over : goal.returns-clause-over
returns-clause-over g c is_out n b = (c.hand_message.ensures.promises is_out n b).over

pub returns-clause-limit : goal.returns-clause-limit
returns-clause-limit g c is_out n m b below = (c.hand_message.ensures.promises is_out n b).limit m below

pub returns-clause-plans : goal.returns-clause-plans
returns-clause-plans g c is_out n m b below = (c.hand_message.ensures.promises is_out n b).plans m below

pub returns-clause-left : goal.returns-clause-left
returns-clause-left g c is_out n b = (c.hand_message.ensures.promises is_out n b).left
