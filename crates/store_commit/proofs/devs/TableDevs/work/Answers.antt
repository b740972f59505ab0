use Rattle.std.proofs.Common.{◌≡◌, [], ◌∷◌, ◌++◌, List, map, length, arith, rules, Option, Ok, Err, refl, sym, ◌∙◌, ap, subst}
use Rattle.std.specs.Prelude.{option_to_list}
use Rattle.std.specs.BTreeSet.{keys}
use Rattle.std.proofs.lemmas.Bool.Decides.{nat_tests}
use Rattle.std.proofs.lemmas.Bool.{eqb-true}
use Rattle.std.proofs.lemmas.Grind.{common_steps}
use Rattle.std.proofs.lemmas.List.{nil_from_length}
use Rattle.store_commit.specs.declared.task.Task.{Task}
use Rattle.stab_base.specs.declared.step.Step.TheVariants.{Idle}
use Rattle.store_commit.specs.Devs.{Write}
use Rattle.store_commit.specs.Agenda.{Runs, IsMoment, IsRecovering, IsKeeping, IsKeepingWhole, IsStill}
use Rattle.store_commit.specs.declared.scanned.Scanned.{Scanned}
use Rattle.store_commit.specs.Fused.{device_of, StayBeside}
use Rattle.store_commit.specs.Shows.{behind_first, ShowsAlike}
use Rattle.store_commit.specs.Standing.{write_of, writes_of, devs, seen, hidden_of, IsReady, WorksOn}
use Rattle.store_commit.proofs.Blanks.{others_from}
use Rattle.store_commit.proofs.StillHidden.{still_hidden}
use Rattle.store_commit.proofs.Showing.{alike_itself, shows_write}
use Rattle.store_commit.proofs.Works.{works_named, works_failed, same_ready, same_works}
use Rattle.store_commit.proofs.Moments.{goes_on}
use Rattle.store_commit.proofs.Fusing.{keeps_then, keeps_same}
use Rattle.store_commit.proofs.devs.TableDevs.work.Goals as goal

pub perform-requires-clause-ready : goal.perform-requires-clause-ready
perform-requires-clause-ready g c =
    let old = c.args.self.now in
    let items : old.agenda.items ≡ c.unwrap-task.result ∷ c.pop_front.new.self.items = c.pop_front.ensures.items ∙ ap (λ (o : Option Task). option_to_list o ++ c.pop_front.new.self.items) c.unwrap-task.ensures in
    same_ready g.D.Disk.state g.D.Disk.images old _ refl refl refl _ (subst (λ (l : List Task). IsReady g.D.Disk.state old (map write_of l)) items (c.requires.ready c.if-is_down.ensures))

pub returns-in-Ok-clause-works : goal.returns-in-Ok-clause-works
returns-in-Ok-clause-works g c up =
    let old = c.args.self.now in
    let s = g.D.Disk.state in
    let i = g.D.Disk.images in
    let w = write_of c.unwrap-task.result in
    let ws = map write_of c.pop_front.new.self.items in
    let items : old.agenda.items ≡ c.unwrap-task.result ∷ c.pop_front.new.self.items = c.pop_front.ensures.items ∙ ap (λ (o : Option Task). option_to_list o ++ c.pop_front.new.self.items) c.unwrap-task.ensures in
    let works = same_works s i old _ refl refl refl w ws c.perform.new.self (Ok c.step-step.result) (works_named s i w ws _ c.perform.new.self c.step-step.result c.in-Ok.ensures.works) in
    let rest : writes_of c.perform.new.self ≡ ws = ap (λ a. map write_of a.items) c.perform.ensures.agenda in
    subst (λ (l : List Task). WorksOn s i old c.perform.new.self (Ok c.step-step.result) (map write_of l)) (sym items) (works, rest, c.step-step.ensures)

pub returns-in-Err-clause-works : goal.returns-in-Err-clause-works
returns-in-Err-clause-works g c up =
    let old = c.args.self.now in
    let s = g.D.Disk.state in
    let i = g.D.Disk.images in
    let w = write_of c.unwrap-task.result in
    let ws = map write_of c.pop_front.new.self.items in
    let items : old.agenda.items ≡ c.unwrap-task.result ∷ c.pop_front.new.self.items = c.pop_front.ensures.items ∙ ap (λ (o : Option Task). option_to_list o ++ c.pop_front.new.self.items) c.unwrap-task.ensures in
    let works = same_works s i old _ refl refl refl w ws c.perform.new.self (Err c.in-Err.fault) (works_failed s i w ws _ c.perform.new.self c.in-Err.fault c.in-Err.ensures.works) in
    let rest : writes_of c.perform.new.self ≡ ws = ap (λ a. map write_of a.items) c.perform.ensures.agenda in
    subst (λ (l : List Task). WorksOn s i old c.perform.new.self (Err c.in-Err.fault) (map write_of l)) (sym items) (works, rest, tt)

pub returns-in-Ok-clause-others : goal.returns-in-Ok-clause-others
returns-in-Ok-clause-others g c up =
    let old = c.args.self.now in
    let mid = record old { agenda = c.pop_front.new.self; scanned = c.put.new.self } in
    let w = write_of c.unwrap-task.result in
    let items : old.agenda.items ≡ c.unwrap-task.result ∷ c.pop_front.new.self.items = c.pop_front.ensures.items ∙ ap (λ (o : Option Task). option_to_list o ++ c.pop_front.new.self.items) c.unwrap-task.ensures in
    subst (λ (l : List Task). StayBeside (map write_of l) old c.perform.new.self) (sym items) (others_from (device_of w) old mid c.perform.new.self refl refl refl c.perform.ensures.others)

pub returns-in-Err-clause-others : goal.returns-in-Err-clause-others
returns-in-Err-clause-others g c up =
    let old = c.args.self.now in
    let mid = record old { agenda = c.pop_front.new.self; scanned = c.put.new.self } in
    let w = write_of c.unwrap-task.result in
    let items : old.agenda.items ≡ c.unwrap-task.result ∷ c.pop_front.new.self.items = c.pop_front.ensures.items ∙ ap (λ (o : Option Task). option_to_list o ++ c.pop_front.new.self.items) c.unwrap-task.ensures in
    subst (λ (l : List Task). StayBeside (map write_of l) old c.perform.new.self) (sym items) (others_from (device_of w) old mid c.perform.new.self refl refl refl c.perform.ensures.others)

pub returns-in-Ok-clause-updating : goal.returns-in-Ok-clause-updating
returns-in-Ok-clause-updating g c meaning before stored up runs =
    let old = c.args.self.now in
    goes_on g.D.Disk.state g.D.Disk.images g.met.D.Disk.only_now (IsMoment meaning before stored) old c.perform.new.self (Ok c.step-step.result) (writes_of old) refl (c.requires.ready up) (returns-in-Ok-clause-works g c up) runs

pub returns-in-Ok-clause-recovering : goal.returns-in-Ok-clause-recovering
returns-in-Ok-clause-recovering g c meaning before up runs =
    let old = c.args.self.now in
    goes_on g.D.Disk.state g.D.Disk.images g.met.D.Disk.only_now (IsRecovering meaning before) old c.perform.new.self (Ok c.step-step.result) (writes_of old) refl (c.requires.ready up) (returns-in-Ok-clause-works g c up) runs

pub returns-in-Err-clause-updating : goal.returns-in-Err-clause-updating
returns-in-Err-clause-updating g c meaning before stored up runs =
    let old = c.args.self.now in
    goes_on g.D.Disk.state g.D.Disk.images g.met.D.Disk.only_now (IsMoment meaning before stored) old c.perform.new.self (Err c.in-Err.fault) (writes_of old) refl (c.requires.ready up) (returns-in-Err-clause-works g c up) runs

pub returns-in-Err-clause-recovering : goal.returns-in-Err-clause-recovering
returns-in-Err-clause-recovering g c meaning before up runs =
    let old = c.args.self.now in
    goes_on g.D.Disk.state g.D.Disk.images g.met.D.Disk.only_now (IsRecovering meaning before) old c.perform.new.self (Err c.in-Err.fault) (writes_of old) refl (c.requires.ready up) (returns-in-Err-clause-works g c up) runs

pub returns-then-is_empty-clause-updating : goal.returns-then-is_empty-clause-updating
returns-then-is_empty-clause-updating g c meaning before stored up runs =
    let old = c.args.self.now in
    let s = g.D.Disk.state in
    let test = c.if-is_empty.ensures in
    let none : length old.agenda.items ≡ 0 = first_of (grind (arith, nat_tests), grind (arith, common_steps), search (rules, eqb-true)) in
    let is : writes_of old ≡ [] = ap (map write_of) (nil_from_length old.agenda.items none) in
    goes_on s g.D.Disk.images g.met.D.Disk.only_now (IsMoment meaning before stored) old old (Ok Idle) [] is (subst (λ (l : List Write). IsReady s old l) is (c.requires.ready up)) (refl, refl) (subst (λ (l : List Write). Runs (IsMoment meaning before stored) (devs s old) l) is runs)

pub returns-then-is_empty-clause-recovering : goal.returns-then-is_empty-clause-recovering
returns-then-is_empty-clause-recovering g c meaning before up runs =
    let old = c.args.self.now in
    let s = g.D.Disk.state in
    let test = c.if-is_empty.ensures in
    let none : length old.agenda.items ≡ 0 = first_of (grind (arith, nat_tests), grind (arith, common_steps), search (rules, eqb-true)) in
    let is : writes_of old ≡ [] = ap (map write_of) (nil_from_length old.agenda.items none) in
    goes_on s g.D.Disk.images g.met.D.Disk.only_now (IsRecovering meaning before) old old (Ok Idle) [] is (subst (λ (l : List Write). IsReady s old l) is (c.requires.ready up)) (refl, refl) (subst (λ (l : List Write). Runs (IsRecovering meaning before) (devs s old) l) is runs)

pub returns-in-Ok-clause-shows : goal.returns-in-Ok-clause-shows
returns-in-Ok-clause-shows g c up =
    let old = c.args.self.now in
    let s = g.D.Disk.state in
    let w = write_of c.unwrap-task.result in
    let items : old.agenda.items ≡ c.unwrap-task.result ∷ c.pop_front.new.self.items = c.pop_front.ensures.items ∙ ap (λ (o : Option Task). option_to_list o ++ c.pop_front.new.self.items) c.unwrap-task.ensures in
    let same = ap (λ (x : Scanned). x.hidden) c.perform.ensures.scanned in
    subst (λ (l : List Task). ShowsAlike (behind_first (map write_of l) (seen s old)) (seen s c.perform.new.self)) (sym items)
    (shows_write s w old c.perform.new.self c.put.new.self.hidden c.in-Ok.ensures.works.devs_are c.put.ensures.hidden same)

pub returns-then-is_empty-clause-others : goal.returns-then-is_empty-clause-others
returns-then-is_empty-clause-others g c up =
    let old = c.args.self.now in
    let test = c.if-is_empty.ensures in
    let none : length old.agenda.items ≡ 0 = first_of (grind (arith, nat_tests), grind (arith, common_steps), search (rules, eqb-true)) in
    let is : writes_of old ≡ [] = ap (map write_of) (nil_from_length old.agenda.items none) in
    subst (λ (l : List Write). StayBeside l old old) (sym is) refl

pub returns-then-is_empty-clause-shows : goal.returns-then-is_empty-clause-shows
returns-then-is_empty-clause-shows g c up =
    let old = c.args.self.now in
    let s = g.D.Disk.state in
    let test = c.if-is_empty.ensures in
    let none : length old.agenda.items ≡ 0 = first_of (grind (arith, nat_tests), grind (arith, common_steps), search (rules, eqb-true)) in
    let is : writes_of old ≡ [] = ap (map write_of) (nil_from_length old.agenda.items none) in
    subst (λ (l : List Write). ShowsAlike (behind_first l (seen s old)) (seen s old)) (sym is) (alike_itself (seen s old))

pub returns-in-Ok-clause-keeping : goal.returns-in-Ok-clause-keeping
returns-in-Ok-clause-keeping g c meaning up runs =
    let old = c.args.self.now in
    goes_on g.D.Disk.state g.D.Disk.images g.met.D.Disk.only_now (IsKeeping meaning) old c.perform.new.self (Ok c.step-step.result) (writes_of old) refl (c.requires.ready up) (returns-in-Ok-clause-works g c up) runs

pub returns-in-Err-clause-keeping : goal.returns-in-Err-clause-keeping
returns-in-Err-clause-keeping g c meaning up runs =
    let old = c.args.self.now in
    goes_on g.D.Disk.state g.D.Disk.images g.met.D.Disk.only_now (IsKeeping meaning) old c.perform.new.self (Err c.in-Err.fault) (writes_of old) refl (c.requires.ready up) (returns-in-Err-clause-works g c up) runs

pub returns-then-is_empty-clause-keeping : goal.returns-then-is_empty-clause-keeping
returns-then-is_empty-clause-keeping g c meaning up runs =
    let old = c.args.self.now in
    let s = g.D.Disk.state in
    let test = c.if-is_empty.ensures in
    let none : length old.agenda.items ≡ 0 = first_of (grind (arith, nat_tests), grind (arith, common_steps), search (rules, eqb-true)) in
    let is : writes_of old ≡ [] = ap (map write_of) (nil_from_length old.agenda.items none) in
    goes_on s g.D.Disk.images g.met.D.Disk.only_now (IsKeeping meaning) old old (Ok Idle) [] is (subst (λ (l : List Write). IsReady s old l) is (c.requires.ready up)) (refl, refl) (subst (λ (l : List Write). Runs (IsKeeping meaning) (devs s old) l) is runs)

pub returns-in-Ok-clause-keeping_whole : goal.returns-in-Ok-clause-keeping_whole
returns-in-Ok-clause-keeping_whole g c meaning up runs =
    let old = c.args.self.now in
    goes_on g.D.Disk.state g.D.Disk.images g.met.D.Disk.only_now (IsKeepingWhole meaning) old c.perform.new.self (Ok c.step-step.result) (writes_of old) refl (c.requires.ready up) (returns-in-Ok-clause-works g c up) runs

pub returns-in-Ok-clause-still : goal.returns-in-Ok-clause-still
returns-in-Ok-clause-still g c before up runs =
    let old = c.args.self.now in
    goes_on g.D.Disk.state g.D.Disk.images g.met.D.Disk.only_now (IsStill before) old c.perform.new.self (Ok c.step-step.result) (writes_of old) refl (c.requires.ready up) (returns-in-Ok-clause-works g c up) runs

pub returns-in-Err-clause-keeping_whole : goal.returns-in-Err-clause-keeping_whole
returns-in-Err-clause-keeping_whole g c meaning up runs =
    let old = c.args.self.now in
    goes_on g.D.Disk.state g.D.Disk.images g.met.D.Disk.only_now (IsKeepingWhole meaning) old c.perform.new.self (Err c.in-Err.fault) (writes_of old) refl (c.requires.ready up) (returns-in-Err-clause-works g c up) runs

pub returns-in-Err-clause-still : goal.returns-in-Err-clause-still
returns-in-Err-clause-still g c before up runs =
    let old = c.args.self.now in
    goes_on g.D.Disk.state g.D.Disk.images g.met.D.Disk.only_now (IsStill before) old c.perform.new.self (Err c.in-Err.fault) (writes_of old) refl (c.requires.ready up) (returns-in-Err-clause-works g c up) runs

pub returns-then-is_empty-clause-keeping_whole : goal.returns-then-is_empty-clause-keeping_whole
returns-then-is_empty-clause-keeping_whole g c meaning up runs =
    let old = c.args.self.now in
    let s = g.D.Disk.state in
    let test = c.if-is_empty.ensures in
    let none : length old.agenda.items ≡ 0 = first_of (grind (arith, nat_tests), grind (arith, common_steps), search (rules, eqb-true)) in
    let is : writes_of old ≡ [] = ap (map write_of) (nil_from_length old.agenda.items none) in
    goes_on s g.D.Disk.images g.met.D.Disk.only_now (IsKeepingWhole meaning) old old (Ok Idle) [] is (subst (λ (l : List Write). IsReady s old l) is (c.requires.ready up)) (refl, refl) (subst (λ (l : List Write). Runs (IsKeepingWhole meaning) (devs s old) l) is runs)

pub returns-then-is_empty-clause-still : goal.returns-then-is_empty-clause-still
returns-then-is_empty-clause-still g c before up runs =
    let old = c.args.self.now in
    let s = g.D.Disk.state in
    let test = c.if-is_empty.ensures in
    let none : length old.agenda.items ≡ 0 = first_of (grind (arith, nat_tests), grind (arith, common_steps), search (rules, eqb-true)) in
    let is : writes_of old ≡ [] = ap (map write_of) (nil_from_length old.agenda.items none) in
    goes_on s g.D.Disk.images g.met.D.Disk.only_now (IsStill before) old old (Ok Idle) [] is (subst (λ (l : List Write). IsReady s old l) is (c.requires.ready up)) (refl, refl) (subst (λ (l : List Write). Runs (IsStill before) (devs s old) l) is runs)

pub returns-in-Ok-clause-fuse : goal.returns-in-Ok-clause-fuse
returns-in-Ok-clause-fuse g c =
    let s = g.D.Disk.state in
    let popped = record c.args.self.now { agenda = c.pop_front.new.self; scanned = c.put.new.self } in
    keeps_then s c.args.self.now popped c.perform.new.self (keeps_same s c.args.self.now popped refl refl refl) c.perform.ensures.fuse

pub returns-in-Err-clause-fuse : goal.returns-in-Err-clause-fuse
returns-in-Err-clause-fuse g c =
    let s = g.D.Disk.state in
    let popped = record c.args.self.now { agenda = c.pop_front.new.self; scanned = c.put.new.self } in
    keeps_then s c.args.self.now popped c.perform.new.self (keeps_same s c.args.self.now popped refl refl refl) c.perform.ensures.fuse

pub returns-then-is_empty-clause-fuse : goal.returns-then-is_empty-clause-fuse
returns-then-is_empty-clause-fuse g c = keeps_same g.D.Disk.state c.args.self.now c.args.self.now refl refl refl

pub returns-then-is_down-clause-fuse : goal.returns-then-is_down-clause-fuse
returns-then-is_down-clause-fuse g c = keeps_same g.D.Disk.state c.args.self.now c.args.self.now refl refl refl

pub returns-in-Ok-clause-hidden : goal.returns-in-Ok-clause-hidden
returns-in-Ok-clause-hidden g c none =
    ap (λ (x : Scanned). keys x.hidden) c.perform.ensures.scanned ∙ still_hidden (write_of c.unwrap-task.result) (hidden_of c.args.self.now) c.put.new.self.hidden c.put.ensures.hidden none

pub returns-in-Err-clause-hidden : goal.returns-in-Err-clause-hidden
returns-in-Err-clause-hidden g c none =
    ap (λ (x : Scanned). keys x.hidden) c.perform.ensures.scanned ∙ still_hidden (write_of c.unwrap-task.result) (hidden_of c.args.self.now) c.put.new.self.hidden c.put.ensures.hidden none

pub returns-then-is_down-clause-once : goal.returns-then-is_down-clause-once
returns-then-is_down-clause-once g c = omega arith

pub returns-then-is_empty-clause-once : goal.returns-then-is_empty-clause-once
returns-then-is_empty-clause-once g c = omega arith

pub returns-in-Ok-clause-once : goal.returns-in-Ok-clause-once
returns-in-Ok-clause-once g c = c.perform.ensures.once

pub returns-in-Err-clause-once : goal.returns-in-Err-clause-once
returns-in-Err-clause-once g c = c.perform.ensures.once
