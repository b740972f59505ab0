use Rattle.device_tests.proofs.commits.update_stopped.Goals as goal

pub work_stopped-requires : goal.work_stopped-requires
work_stopped-requires g c = let k = c.in_ok-work_some.ensures in record { up = k.up; ready = k.ready }
