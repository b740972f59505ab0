use Rattle.gateway_core.proofs.running.Running.deliver.Goals as goal

pub returns-in-Client-RegisterDevice-clause-spent : goal.returns-in-Client-RegisterDevice-clause-spent
returns-in-Client-RegisterDevice-clause-spent c = λ last. rw (c.in-Client-RegisterDevice.is-0, c.in-Client-RegisterDevice.is-1) (c.register.ensures.spent last)
