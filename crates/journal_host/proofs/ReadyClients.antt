-- Which clients take a message now.
use Rattle.std.proofs.Common.{◌≡◌, ℕ, Bool, true, false, List, [], ◌∷◌, Option, Some, None, refl, sym, ap, ◌∙◌}
use Rattle.std.specs.Prelude.{not, ◌&&◌}
use Rattle.std.specs.Ordering.{nat_cmp}
use Rattle.std.specs.BTreeMap as tree
use Rattle.disk_trait.specs.Calls.{DiskState}
use Rattle.step_tables.specs.ClientMoves.{ClientDisk, ClientTask, Client}
use Rattle.client_node.specs.declared.node.ClientNode.{ClientNode}
use Rattle.client_node.specs.Node.{IsAt, has_task}
use Rattle.world_tables.specs.Ready.{is_idle, is_idle_client, is_client_ready}
use Rattle.world_tables.specs.World.{World, is_cut}
use Rattle.journal_host.specs.declared.host.ClientHost.{ClientHost}
use Rattle.journal_host.specs.Holds.{IsHosted, HoldsClients}
use Rattle.journal_host.proofs.Clients.{found, not_found}

regrouped : (a b c : Bool) → ((a && b) && c) ≡ (a && (b && c))
regrouped true b c = refl
regrouped false b c = refl

-- a node that is up with nothing to do is idle
idle_is : {D : Type 0} (state : D → DiskState) (node : ClientNode D) (disk : ClientDisk) (agenda : Option (List ClientTask)) → IsAt state node disk agenda → (node.is_up && not (has_task agenda)) ≡ is_idle agenda
idle_is state node disk None t = ap (λ (up : Bool). up && true) t.0
idle_is state node disk (Some []) t = ap (λ (up : Bool). up && true) t.0
idle_is state node disk (Some (task ∷ more)) t = ap (λ (up : Bool). up && false) t.0

ready_is : {D : Type 0} (state : D → DiskState) (cut : Bool) (c : ℕ) (s : Client) (node : ClientNode D) → IsHosted state cut c s node → (busy : Bool) → busy ≡ has_task s.agenda
    → ((node.is_linked && node.is_up) && not busy) ≡ (not cut && is_idle s.agenda)
ready_is state cut c s node h busy is =
    regrouped node.is_linked node.is_up (not busy)
    ∙ (ap (λ (linked : Bool). linked && (node.is_up && not busy)) h.linked
    ∙ ap (λ (idle : Bool). not cut && idle) (ap (λ (b : Bool). node.is_up && not b) is ∙ idle_is state node s.disk s.agenda h.client.at))

-- where it is linked and up
pub ready_up : {D : Type 0} (state : D → DiskState) (cut : Bool) (c : ℕ) (s : Client) (node : ClientNode D) → IsHosted state cut c s node → node.is_linked ≡ true → node.is_up ≡ true → (busy : Bool)
    → busy ≡ has_task s.agenda → not busy ≡ (not cut && is_idle s.agenda)
ready_up state cut c s node h linked up busy is =
    sym (ap (λ (b : Bool). (b && node.is_up) && not busy) linked ∙ ap (λ (b : Bool). (true && b) && not busy) up) ∙ ready_is state cut c s node h busy is

module _ {D : Type 0} (state : D → DiskState) (w : World) (host : ClientHost D) (c : ℕ) (h : HoldsClients state w host) where
  pub ready_there : (node : ClientNode D) → Some node ≡ tree.get nat_cmp host.clients c → (ready : Bool) → ((cut : Bool) (c : ℕ) (s : Client) → IsHosted state cut c s node → ready ≡ (not cut && is_idle s.agenda))
      → ready ≡ is_client_ready w c
  ready_there node is ready of =
      let there = found state w host.clients c h.there node is in
      of (is_cut w c) c there.0 there.2 ∙ sym (ap (λ (o : Option Client). not (is_cut w c) && is_idle_client o) there.1)

  -- whose link is down
  pub cut_there : (node : ClientNode D) → Some node ≡ tree.get nat_cmp host.clients c → not node.is_linked ≡ is_cut w c
  cut_there node is = let there = found state w host.clients c h.there node is in ap not there.2.linked ∙ twice (is_cut w c)
    where
      twice : (b : Bool) → not (not b) ≡ b
      twice true = refl
      twice false = refl

  pub not_cut : None ≡ tree.get nat_cmp host.clients c → false ≡ is_cut w c
  not_cut none = sym (not_found state w host.clients c h.there none).1

  pub not_ready : None ≡ tree.get nat_cmp host.clients c → false ≡ is_client_ready w c
  not_ready none =
      let gone = not_found state w host.clients c h.there none in
      sym (ap (λ (o : Option Client). not (is_cut w c) && is_idle_client o) gone.0 ∙ ap (λ (cut : Bool). not cut && false) gone.1)
