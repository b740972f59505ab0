use Rattle.std.proofs.Common.{◌≡◌, drop, map}
use Rattle.select_lang.specs.Meets.{any_true, all_true, meets}
use Rattle.select_lang.proofs.meeting.+meets.Given as goal

abbrev pub invariant-any : goal.invariant-any
invariant-any l = any_true (map (meets l.cells) (drop l.part-index l.part-items)) ≡ meets l.cells l.predicate

abbrev pub invariant-all : goal.invariant-all
invariant-all l = all_true (map (meets l.cells) (drop l.part-index l.part-items)) ≡ meets l.cells l.predicate
