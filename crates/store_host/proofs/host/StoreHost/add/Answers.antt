use Rattle.std.proofs.Common.{ℕ, List, Some, true, false, ap, ◌∙◌, subst, arith}
use Rattle.std.proofs.lemmas.Result.{on_ok_weaker}
use Rattle.ring_map.specs.Owners.{owner_on}
use Rattle.disk_trait.specs.Fuse.{inner_of}
use Rattle.store_host.specs.Holds.{IsHosted}
use Rattle.world_tables.specs.World.{new_hosted}
use Rattle.store_host.proofs.Lefts.{added_still}
use Rattle.store_host.proofs.Blanks.{none_added, is_added}
use Rattle.store_host.proofs.Moving.{added_faults, other_faults}
use Rattle.store_host.proofs.host.StoreHost.add.Goals as goal

pub returns-in-Ok-clause-added : goal.returns-in-Ok-clause-added
returns-in-Ok-clause-added g c w h =
    let own = c.owner_in-store.ensures w.stores h.ring ∙ ap (λ (name : List ℕ). owner_on name w.stores) c.as_slice.ensures in
    c.put.ensures.put w c.args.schema c.args.state true h (subst (λ (n : ℕ). IsHosted g.D.Disk.state n (Some c.args.schema) c.args.table (new_hosted c.args.state true) c.declare.new.self) own
    (c.in-Ok.ensures.declared c.owner_in-store.result (Some c.args.schema) c.args.table c.args.state c.new-hosted.ensures.hosted))

pub returns-in_ok-put-in-Err-Disk-clause-failed : goal.returns-in_ok-put-in-Err-Disk-clause-failed
returns-in_ok-put-in-Err-Disk-clause-failed g c w h failed =
    let own = c.owner_in-store.ensures w.stores h.ring ∙ ap (λ (name : List ℕ). owner_on name w.stores) c.as_slice.ensures in
    c.in_ok-put-in-Err-Disk.ensures.put w c.args.schema c.args.state false h (subst (λ (n : ℕ). IsHosted g.D.Disk.state n (Some c.args.schema) c.args.table (new_hosted c.args.state false) c.declare.new.self) own
    (c.in-Err-Disk.ensures.refused c.owner_in-store.result (Some c.args.schema) c.args.table c.args.state c.new-hosted.ensures.hosted))

pub returns-in_ok-put-in-Err-Disk-clause-cause : goal.returns-in_ok-put-in-Err-Disk-clause-cause
returns-in_ok-put-in-Err-Disk-clause-cause g c failed =
    let there = added_faults g.D.Disk.state c.args.self.now.tables c.put-in-Err-Disk.new.self.tables c.args.table c.declare.new.self c.in_ok-put-in-Err-Disk.ensures.tables in
    let given = c.new-hosted.ensures.faults in
    let rose = c.in-Err-Disk.ensures.cause.cause (let is = c.in-Err-Disk.field-0-is in cc) in
    omega (arith, there, given, rose)

pub returns-in_ok-put-in-Err-Disk-clause-others_failed : goal.returns-in_ok-put-in-Err-Disk-clause-others_failed
returns-in_ok-put-in-Err-Disk-clause-others_failed g c q apart failed =
    other_faults g.D.Disk.state c.args.self.now.tables c.put-in-Err-Disk.new.self.tables c.args.table c.declare.new.self c.in_ok-put-in-Err-Disk.ensures.tables q apart

pub returns-in_ok-put-in-Err-Disk-clause-left_failed : goal.returns-in_ok-put-in-Err-Disk-clause-left_failed
returns-in_ok-put-in-Err-Disk-clause-left_failed g c w h failed =
    added_still g.D.Disk.state g.D.Disk.images (λ f image left. g.met.D.Disk.only_now (inner_of f) image left) w c.args.self.now.tables h.tables c.put-in-Err-Disk.new.self.tables c.args.table
    c.declare.new.self c.requires.absent c.in_ok-put-in-Err-Disk.ensures.tables

pub returns-in-Ok-clause-counted : goal.returns-in-Ok-clause-counted
returns-in-Ok-clause-counted g c =
    on_ok_weaker c.put.result
    (λ u. added_faults g.D.Disk.state c.args.self.now.tables c.put.new.self.tables c.args.table c.declare.new.self u
    ∙ (c.in-Ok.ensures.cause.counted (λ e. absurd cc) ∙ c.new-hosted.ensures.faults))
    c.put.ensures.tables

pub returns-in-Ok-clause-others : goal.returns-in-Ok-clause-others
returns-in-Ok-clause-others g c q apart =
    on_ok_weaker c.put.result (λ u. other_faults g.D.Disk.state c.args.self.now.tables c.put.new.self.tables c.args.table c.declare.new.self u q apart) c.put.ensures.tables

pub returns-in-Ok-clause-left : goal.returns-in-Ok-clause-left
returns-in-Ok-clause-left g c w h =
    on_ok_weaker c.put.result
    (λ added. added_still g.D.Disk.state g.D.Disk.images (λ f image left. g.met.D.Disk.only_now (inner_of f) image left) w c.args.self.now.tables h.tables c.put.new.self.tables c.args.table
    c.declare.new.self c.requires.absent added)
    c.put.ensures.tables

pub returns-in-Ok-clause-blank : goal.returns-in-Ok-clause-blank
returns-in-Ok-clause-blank g c blank =
    let new = c.new-hosted.ensures in
    let declare = c.in-Ok.ensures in
    on_ok_weaker c.put.result
    (λ u it there. none_added g.D.Disk.state g.D.Disk.images c.declare.new.self it c.new-hosted.result.node.devs c.new-hosted.result.node.schema c.new-hosted.result.node.state c.args.row_disk
    (is_added c.args.self.now.tables c.put.new.self.tables c.args.table c.declare.new.self it u there) new.rows declare.schema declare.state (declare.blank (new.blank blank)))
    c.put.ensures.tables
