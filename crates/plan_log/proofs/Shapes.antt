-- What a payload says, from what is to be noted of it.
use Rattle.std.proofs.Common.{◌≡◌, ℕ, refl, ap}
use Rattle.plan_log.specs.declared.plan.Intend.{Intend}
use Rattle.plan_log.specs.declared.plan.Commit.{Commit}
use Rattle.plan_log.specs.declared.change.Change.TheVariants as changes
use Rattle.plan_log.specs.Reading.{Said, SaysIntend, SaysCommit, SaysDone, SaysNothing}
use Rattle.plan_log.specs.Memory.{shape_of}

pub intend_shape : (said : Said) (intend : Intend) → shape_of said ≡ changes.Intend intend → said ≡ SaysIntend intend
intend_shape (SaysIntend other) intend e = let same : other ≡ intend = cc in ap (λ (x : Intend). SaysIntend x) same
intend_shape (SaysCommit commit) intend e = absurd cc
intend_shape (SaysDone plan) intend e = absurd cc
intend_shape SaysNothing intend e = absurd cc

pub commit_shape : (said : Said) (plan : ℕ) → shape_of said ≡ changes.Commit plan → (commit : Commit) × (said ≡ SaysCommit commit) × (commit.plan ≡ plan)
commit_shape (SaysIntend intend) plan e = absurd cc
commit_shape (SaysCommit commit) plan e = (commit, refl, cc)
commit_shape (SaysDone other) plan e = absurd cc
commit_shape SaysNothing plan e = absurd cc

pub done_shape : (said : Said) (plan : ℕ) → shape_of said ≡ changes.Done plan → said ≡ SaysDone plan
done_shape (SaysIntend intend) plan e = absurd cc
done_shape (SaysCommit commit) plan e = absurd cc
done_shape (SaysDone other) plan e = let same : other ≡ plan = cc in ap (λ (n : ℕ). SaysDone n) same
done_shape SaysNothing plan e = absurd cc

pub nothing_shape : (said : Said) → shape_of said ≡ changes.Nothing → said ≡ SaysNothing
nothing_shape (SaysIntend intend) e = absurd cc
nothing_shape (SaysCommit commit) e = absurd cc
nothing_shape (SaysDone plan) e = absurd cc
nothing_shape SaysNothing e = refl
