-- A link that goes up or down.
use Rattle.std.proofs.Common.{◌≡◌, ℕ, ◌++◌, Bool, true, false, cond, List, [], ◌∷◌, Option, Some, None, refl, sym, ap, ◌∙◌, subst}
use Rattle.std.specs.Prelude.{not, ◌||◌, ◌==◌, filter, if◌then◌else◌}
use Rattle.std.specs.List.{list_any}
use Rattle.std.specs.Ordering.{nat_cmp}
use Rattle.std.specs.Cmp.{unsigned_tied}
use Rattle.std.specs.BTreeMap.{is_at}
use Rattle.std.specs.BTreeMap as tree
use Rattle.std.proofs.lemmas.Bool.{eqb-true, eq-eqb}
use Rattle.disk_trait.specs.Calls.{DiskState}
use Rattle.stab_base.specs.declared.node.Node.{Node}
use Rattle.stab_base.specs.declared.node.Node.TheVariants as nodes
use Rattle.table_model.specs.declared.line.Answer.{Answer}
use Rattle.table_model.specs.declared.line.Answer.TheVariants as answers
use Rattle.table_model.specs.declared.line.Refusal.TheVariants as refusals
use Rattle.step_tables.specs.Facts as facts
use Rattle.step_tables.specs.Lines.{answer_of}
use Rattle.step_tables.specs.ClientMoves.{Client}
use Rattle.client_node.specs.declared.node.ClientNode.{ClientNode}
use Rattle.world_tables.specs.World.{World, owner_of, client_at, is_cut, is_client_down, same_node, with_link, linked, answered, refused}
use Rattle.journal_host.specs.declared.host.ClientHost.{ClientHost}
use Rattle.journal_host.specs.Holds.{IsHosted, HavePhases, HoldsClients, outs_of}
use Rattle.journal_host.specs.Phases.{SamePhases}
use Rattle.journal_host.specs.Calls.{IsCalled}
use Rattle.journal_host.proofs.Lists.{no_more}
use Rattle.journal_host.proofs.Clients.{at_same, found, not_found, put_client, held_still, nowhere_answers, up_is, down_is}
use Rattle.journal_host.proofs.Phased.{phases_same}

-- ---- whose link is down

same_node_is : (c : ℕ) (x : Node) → same_node (nodes.Client c) x ≡ true → x ≡ nodes.Client c
same_node_is c (nodes.Client k) is = ap (λ (n : ℕ). nodes.Client n) (sym (eqb-true c k is))
same_node_is c (nodes.Store k) is = absurd cc
same_node_is c (nodes.Gate k) is = absurd cc

cut_gone : (c : ℕ) (xs : List Node) → list_any (same_node (nodes.Client c)) (filter (λ other. not (same_node (nodes.Client c) other)) xs) ≡ false
cut_gone c [] = refl
cut_gone c (x ∷ xs) = by (same_node (nodes.Client c) x) refl (cut_gone c xs)
  where
    by : (b : Bool) → same_node (nodes.Client c) x ≡ b → list_any (same_node (nodes.Client c)) (filter (λ other. not (same_node (nodes.Client c) other)) xs) ≡ false
        → list_any (same_node (nodes.Client c)) (if not b then x ∷ filter (λ other. not (same_node (nodes.Client c) other)) xs else filter (λ other. not (same_node (nodes.Client c) other)) xs)
        ≡ false
    by true is rest = rest
    by false is rest = ap (λ (b : Bool). b || list_any (same_node (nodes.Client c)) (filter (λ other. not (same_node (nodes.Client c) other)) xs)) is ∙ rest

cut_stays : (c q : ℕ) → (q == c) ≡ false → (xs : List Node)
    → list_any (same_node (nodes.Client q)) (filter (λ other. not (same_node (nodes.Client c) other)) xs) ≡ list_any (same_node (nodes.Client q)) xs
cut_stays c q off [] = refl
cut_stays c q off (x ∷ xs) = by (same_node (nodes.Client c) x) refl (cut_stays c q off xs)
  where
    by : (b : Bool) → same_node (nodes.Client c) x ≡ b
        → list_any (same_node (nodes.Client q)) (filter (λ other. not (same_node (nodes.Client c) other)) xs) ≡ list_any (same_node (nodes.Client q)) xs
        → list_any (same_node (nodes.Client q)) (if not b then x ∷ filter (λ other. not (same_node (nodes.Client c) other)) xs else filter (λ other. not (same_node (nodes.Client c) other)) xs)
        ≡ (same_node (nodes.Client q) x || list_any (same_node (nodes.Client q)) xs)
    by true is rest =
        rest
        ∙ sym (ap (λ (b : Bool). b || list_any (same_node (nodes.Client q)) xs) (ap (λ (n : Node). same_node (nodes.Client q) n) (same_node_is c x is) ∙ off))
    by false is rest = ap (λ (b : Bool). same_node (nodes.Client q) x || b) rest

pub cut_here : (w : World) (c : ℕ) (up : Bool) → is_cut (with_link c up w) c ≡ not up
cut_here w c true = cut_gone c w.cuts
cut_here w c false = ap (λ (b : Bool). b || list_any (same_node (nodes.Client c)) w.cuts) (eq-eqb c c refl)

turned : (c q : ℕ) → (c == q) ≡ false → (q == c) ≡ false
turned c q off = by (q == c) refl
  where
    by : (b : Bool) → (q == c) ≡ b → (q == c) ≡ false
    by false is = is
    by true is = let same : q ≡ c = eqb-true q c is in let on : (c == q) ≡ true = eq-eqb c q (sym same) in absurd cc

pub cut_apart : (w : World) (c q : ℕ) (up : Bool) → is_at (nat_cmp c) q ≡ false → is_cut (with_link c up w) q ≡ is_cut w q
cut_apart w c q true off = cut_stays c q (turned c q (sym (unsigned_tied c q) ∙ off)) w.cuts
cut_apart w c q false off = ap (λ (b : Bool). b || list_any (same_node (nodes.Client q)) w.cuts) (turned c q (sym (unsigned_tied c q) ∙ off))

same_links : (w : World) (c q : ℕ) (up : Bool) → client_at (with_link c up w) q ≡ client_at w q
same_links w c q true = refl
same_links w c q false = refl

-- ---- a node whose link changed

pub not_not : (b : Bool) → b ≡ not (not b)
not_not true = refl
not_not false = refl

-- ---- a client's link

module _ {D : Type 0} (state : D → DiskState) (w : World) (old new : ClientHost D) (c : ℕ) (up : Bool) (h : HoldsClients state w old) where
  module _ (node after : ClientNode D) (is : Some node ≡ tree.get nat_cmp old.clients c)
      (u : (q : ℕ) → tree.get nat_cmp new.clients q ≡ cond (is_at (nat_cmp c) q) (Some after) (tree.get nat_cmp old.clients q)) (outs : new.outs.items ≡ old.outs.items) (answer : Answer)
      (phases : SamePhases node after) where
    here : (s : Client) × (client_at w c ≡ Some s) × IsHosted state (is_cut w c) c s node
    here = found state w old.clients c h.there node is

    no_outs : (owners : ℕ → ℕ) → outs_of owners new ≡ outs_of owners old ++ []
    no_outs owners = no_more owners old.outs.items new.outs.items outs

    link_up : IsHosted state (not up) c here.0 after → answer ≡ answers.Done → IsCalled state old new (answered (with_link c up w) facts.Done) answer
    link_up at says = record {
      answer_is = ap (λ (a : Answer). Some (answer_of a)) (sym says);
      held = record {
        there = put_client state w (with_link c up w) old.clients new.clients c here.0 after h.there u (λ q. same_links w c q up ∙ same q (is_at (nat_cmp c) q) refl)
            (λ q off. cut_apart w c q up off)
            (subst (λ (cut : Bool). IsHosted state cut c here.0 after) (sym (cut_here w c up)) at);
        phases = link_phases up (phases_same w old.clients new.clients c after h.phases u node is phases);
      };
      outs = no_outs (owner_of (with_link c up w));
    }
      where
        link_phases : (b : Bool) → HavePhases w new.clients → HavePhases (with_link c b w) new.clients
        link_phases true k = k
        link_phases false k = k

        same : (q : ℕ) (b : Bool) → is_at (nat_cmp c) q ≡ b → client_at w q ≡ cond b (Some here.0) (client_at w q)
        same q true at_q = ap (λ (k : ℕ). client_at w k) (sym (at_same c q at_q)) ∙ here.1
        same q false at_q = refl

    link_down : after ≡ node → answer ≡ answers.Refused (refusals.Down (nodes.Client c)) → IsCalled state old new (refused w (facts.NodeDown (nodes.Client c))) answer
    link_down same says = record {
      answer_is = ap (λ (a : Answer). Some (answer_of a)) (sym says);
      held = held_still state w old new c node after h is u here.0 here.1 (subst (λ (n : ClientNode D). IsHosted state (is_cut w c) c here.0 n) (sym same) here.2) phases;
      outs = no_outs (owner_of w);
    }

    pub link_there : ((cut : Bool) (s : Client) → IsHosted state cut c s node → node.is_up ≡ true → IsHosted state (not up) c s after × (answer ≡ answers.Done))
        → (node.is_up ≡ false → (after ≡ node) × (answer ≡ answers.Refused (refusals.Down (nodes.Client c))))
        → IsCalled state old new (linked w c up (client_at w c)) answer
    link_there was down = subst (λ (o : Option Client). IsCalled state old new (linked w c up o) answer) (sym here.1) (by node.is_up refl)
      where
        at_down : (b : Bool) → is_client_down (client_at w c) ≡ b → IsCalled state old new (if b then refused w (facts.NodeDown (nodes.Client c)) else answered (with_link c up w) facts.Done) answer
            → IsCalled state old new (linked w c up (Some here.0)) answer
        at_down b d k = subst (λ (x : Bool). IsCalled state old new (if x then refused w (facts.NodeDown (nodes.Client c)) else answered (with_link c up w) facts.Done) answer) (sym d) k

        by : (b : Bool) → node.is_up ≡ b → IsCalled state old new (linked w c up (Some here.0)) answer
        by true up_is_so =
            let x = was (is_cut w c) here.0 here.2 up_is_so in
            at_down false (ap is_client_down here.1 ∙ up_is state node here.0.disk here.0.agenda here.2.client up_is_so) (link_up x.0 x.1)
        by false down_is_so =
            let x = down down_is_so in
            at_down true (ap is_client_down here.1 ∙ down_is state node here.0.disk here.0.agenda here.2.client down_is_so) (link_down x.0 x.1)

  pub link_nowhere : None ≡ tree.get nat_cmp old.clients c → new.clients ≡ old.clients → new.outs.items ≡ old.outs.items → IsCalled state old new (linked w c up (client_at w c)) answers.Done
  link_nowhere none same outs =
      subst (λ (o : Option Client). IsCalled state old new (linked w c up o) answers.Done) (sym (not_found state w old.clients c h.there none).0)
      (nowhere_answers state w old new c h none same outs facts.Done answers.Done refl)
