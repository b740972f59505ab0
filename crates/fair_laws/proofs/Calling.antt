-- What a client's moves keep of a world: each row is one of its table, and each request is its client's own.
use Rattle.std.proofs.Common.{◌≡◌, ⊎_elim, ℕ, Bool, true, false, List, [], ◌∷◌, Option, Some, None, refl, sym, ◌∙◌, ap, subst}
use Rattle.std.specs.Prelude.{◌+◌, if◌then◌else◌, is_some, ◌&&◌, drop}
use Rattle.conflicts.specs.declared.stored.Stored.{Stored}
use Rattle.stab_base.specs.declared.node.Node.{Node}
use Rattle.stab_base.specs.declared.node.Node.TheVariants as nodes
use Rattle.row_value.specs.declared.schema.Schema.{Schema}
use Rattle.row_store.specs.Spelling.{IsClient}
use Rattle.table_model.specs.declared.line.RowPair.{RowPair}
use Rattle.step_tables.specs.Facts as facts
use Rattle.step_tables.specs.Facts.{Answer, Refusal}
use Rattle.step_tables.specs.Members.{Among}
use Rattle.step_tables.specs.Messages.{Message, Send, Luck, SyncRequest, SyncResponse, PullRequest, PullResponse, TornRowRequest, TornRowResponse}
use Rattle.step_tables.specs.Messages as messages
use Rattle.step_tables.specs.ClientMoves as client
use Rattle.step_tables.specs.ClientMoves.{Client, ClientTask, ClientMove, ClientStep, Shape, no_shape, client_step, is_cut_off, kept_out, phases_by}
use Rattle.step_tables.proofs.Lists.{among_none, among_cons, among_either}
use Rattle.world_tables.specs.World.{World, Packet, WorldStep, has_node, schema_at, owner_of, client_at, still, is_down, is_cut, packets_from, after_client, move_there, move_client}
use Rattle.world_tables.specs.World.{first_luck, other_lucks}
use Rattle.world_tables.specs.World.{client_works, client_tasks, client_until_idle, client_follows, client_writes, starts_by, client_starts, client_falls, unless_down, refused, gets_tasks}
use Rattle.world_tables.specs.World.{table_of_move, is_closed, closed_answer, unless_closed}
use Rattle.world_tables.specs.World.{is_resolving, unless_cut, unless_kept, calls, call_there, reads, with_phases, and_then, and_unless, Moved, listed, first_shape, other_shapes, chosen_of}
use Rattle.world_tables.specs.World.{client_pairs, resolve_by, plan_size, resolve_each, resolve_all}
use Rattle.fair_laws.specs.Fair.{IsFairRequest, AreFairSends, OpensKnown, IsFairClient, IsFairStep}
use Rattle.fair_laws.specs.Worlds.{IsFairMessage, IsFair}
use Rattle.fair_laws.proofs.Fairness.{step_fair}
use Rattle.fair_laws.proofs.Hosting.{beside_fair, some_after, all_after}

-- ---- one move

from_client : (known : ℕ → Option Schema) (c : ℕ) → IsClient c → (m : Message) → IsFairRequest known c m → IsFairMessage known (nodes.Client c) m
from_client known c is (SyncRequest q) r = ((r.1, r.2, r.3), subst IsClient (sym r.0) is, ap (λ (n : ℕ). nodes.Client n) (sym r.0))
from_client known c is (PullRequest q) r = subst IsClient (sym r) is
from_client known c is (SyncResponse q) r = absurd r
from_client known c is (PullResponse q) r = absurd r
from_client known c is (TornRowRequest q) r = subst IsClient (sym r) is
from_client known c is (TornRowResponse q) r = absurd r

sent_fair : (known : ℕ → Option Schema) (owners : ℕ → ℕ) (c : ℕ) → IsClient c → (sends : List Send) → AreFairSends known c sends
    → (p : Packet) → Among (packets_from owners (nodes.Client c) sends) p → IsFairMessage known p.from p.message
sent_fair known owners c is [] f p a = absurd (among_none p a)
sent_fair known owners c is (send ∷ sends) f p a =
    ⊎_elim (λ e. subst (λ (x : Packet). IsFairMessage known x.from x.message) e (from_client known c is send.message f.0)) (sent_fair known owners c is sends f.1 p)
    (among_cons _ (packets_from owners (nodes.Client c) sends) p a)

after_fair : (w : World) (c : ℕ) (there : Client) (s : ClientStep) → client_at w c ≡ Some there → IsFair w → IsFairStep (schema_at w) c s → IsFair (after_client w c s).world
after_fair w c there s at f fair = record {
  both = f.both;
  made = f.made;
  numbers = λ q is. f.numbers q (sym (some_after w.clients c there s.client q at) ∙ is);
  tables = f.tables;
  clients = all_after (IsFairClient (schema_at w)) w.clients c s.client fair.client f.clients;
  packets = λ p a. ⊎_elim (f.packets p) (sent_fair (schema_at w) (owner_of w) c (f.numbers c (ap (λ (o : Option Client). is_some o) at)) s.sends fair.sends p)
      (among_either w.packets (packets_from (owner_of w) (nodes.Client c) s.sends) p a);
}

pub client_fair : (w : World) (c : ℕ) (move : ClientMove) (shape : Shape) → OpensKnown (schema_at w) move → IsFair w → IsFair (move_client c move shape w).world
client_fair w c move shape opens f = go (client_at w c) refl
  where
    go : (o : Option Client) → client_at w c ≡ o → IsFair (move_there w c move shape o).world
    go None at = f
    go (Some node) at =
        let s : ClientStep = client_step c shape node move in
        after_fair (with_phases w c move s) c node s at (beside_fair w w.holds w.downs w.cuts (phases_by c move s.answer s.client.agenda w.phases) f)
        (step_fair (schema_at w) c shape node move opens (f.clients c node at))

-- ---- the work that follows, and a start

pub client_works_fair : (c : ℕ) (tasks : List ClientTask) (lucks : List Luck) (w : World) → IsFair w → IsFair (client_works c tasks lucks w).world
client_works_fair c [] lucks w f = f
client_works_fair c (task ∷ tasks) lucks w f =
    client_works_fair c tasks (other_lucks lucks) (move_client c (client.Work (first_luck lucks)) no_shape w).world (client_fair w c (client.Work (first_luck lucks)) no_shape tt f)

client_follows_fair : (c : ℕ) (lucks : List Luck) (w : World) → IsFair w → IsFair (client_follows c lucks w).world
client_follows_fair c lucks w f = go (has_node w.holds (nodes.Client c))
  where
    go : (held : Bool) → IsFair (if held then still w else client_until_idle c lucks w).world
    go true = f
    go false = client_works_fair c (client_tasks (client_at w c)) lucks w f

pub client_writes_fair : (c : ℕ) (luck : Luck) (tasks : List ClientTask) (w : World) → IsFair w → IsFair (client_writes c luck tasks w).world
client_writes_fair c luck [] w f = f
client_writes_fair c luck (task ∷ tasks) w f = client_fair w c (client.Work luck) no_shape tt f

pub client_starts_fair : (c : ℕ) (shape : Shape) (lucks : List Luck) (w : World) → IsFair w → IsFair (client_starts c shape lucks w).world
client_starts_fair c shape lucks w f = go (first_luck lucks)
  where
    go : (luck : Luck) → IsFair (starts_by c shape luck (other_lucks lucks) w).world
    go messages.Done = client_follows_fair c (other_lucks lucks) (move_client c client.Start shape w).world (client_fair w c client.Start shape tt f)
    go messages.FailedBefore = f
    go messages.FailedAfter = f

client_falls_fair : (c : ℕ) (w : World) → IsFair w → IsFair (client_falls c w).world
client_falls_fair c w f = client_fair w c (client.Crash messages.FailedBefore) no_shape tt f

-- ---- a call

pub unless_down_fair : (w : World) → IsFair w → (node : Node) (s : WorldStep) → IsFair s.world → IsFair (unless_down w node s).world
unless_down_fair w f node s there = go (is_down w node)
  where
    go : (b : Bool) → IsFair (if b then refused w (facts.NodeDown node) else s).world
    go true = f
    go false = there

pub call_fair : (w : World) → IsFair w → (c : ℕ) (move : ClientMove) (shape : Shape) (lucks : List Luck) (o : Option Client) → OpensKnown (schema_at w) move
    → IsFair (call_there w c move shape lucks o).world
call_fair w f c move shape lucks None opens = f
call_fair w f c move shape lucks (Some node) opens = unless_down_fair w f (nodes.Client c) _ (read (first_luck lucks))
  where
    v : World
    v = (move_client c move shape w).world

    moved : IsFair v
    moved = client_fair w c move shape opens f

    follows : (b : Bool) → IsFair (if b then client_follows c (other_lucks lucks) v else still v).world
    follows true = client_follows_fair c (other_lucks lucks) v moved
    follows false = moved

    by_link : (cut : Bool) → IsFair (unless_cut w cut (calls w c move shape (other_lucks lucks) node)).world
    by_link true = f
    by_link false = follows (gets_tasks node.agenda v c)

    linked : WorldStep
    linked = unless_cut w (is_cut w c && is_cut_off c shape node move) (calls w c move shape (other_lucks lucks) node)

    by_phase : (out : Option Refusal) → IsFair (unless_kept w out linked).world
    by_phase None = by_link (is_cut w c && is_cut_off c shape node move)
    by_phase (Some refusal) = f

    kept : WorldStep
    kept = unless_kept w (kept_out (is_resolving w c) move (client_step c shape node move).answer) linked

    answer : Answer
    answer = closed_answer shape (is_cut w c) node.agenda move

    if_closed : (closed : Bool) → IsFair (unless_closed w closed answer kept).world
    if_closed true = f
    if_closed false = by_phase (kept_out (is_resolving w c) move (client_step c shape node move).answer)

    read : (luck : Luck) → IsFair (reads w c luck (unless_closed w (is_closed node (table_of_move move)) answer kept)).world
    read messages.Done = if_closed (is_closed node (table_of_move move))
    read messages.FailedBefore = client_falls_fair c w f
    read messages.FailedAfter = client_falls_fair c w f

-- ---- conflicts

-- a step whose answer is another one
abbrev with_answer : WorldStep → Option Answer → WorldStep
with_answer s o = record s { answer = o }

pub listed_fair : (s : WorldStep) → IsFair s.world → IsFair (listed s).world
listed_fair s f = go s.answer
  where
    go : (o : Option Answer) → IsFair (listed (with_answer s o)).world
    go None = f
    go (Some facts.Done) = f
    go (Some (facts.Number count)) = f
    go (Some (facts.Shows what)) = f
    go (Some (facts.Sums sum)) = f
    go (Some (facts.Stores version content)) = f
    go (Some (facts.Did did)) = f
    go (Some (facts.Names names)) = f
    go (Some (facts.Pairs pairs)) = f
    go (Some (facts.Refuses refusal)) = f

unless_fair : (m : Moved) (next : World → Moved) → IsFair m.world → ((x : World) → IsFair x → IsFair (next x).world) → IsFair (and_unless m next).world
unless_fair m next f goes = by_failure m.failed
  where
    by_failure : (failed : Bool) → IsFair (if failed then m else and_then m next).world
    by_failure true = f
    by_failure false = goes m.world f

module _ (c table : ℕ) (by : Stored) where
  resolve_by_fair : (shape : Shape) (pair : RowPair) (luck : Luck) (w : World) → IsFair w → IsFair (resolve_by c table by shape pair luck w).world
  resolve_by_fair shape pair messages.Done w f = client_fair w c (client.Resolve table pair.row pair.version (chosen_of by pair.row (client_at w c) table)) shape tt f
  resolve_by_fair shape pair messages.FailedBefore w f = client_falls_fair c w f
  resolve_by_fair shape pair messages.FailedAfter w f = client_falls_fair c w f

  resolve_each_fair : (shapes : List Shape) (lucks : List Luck) (pairs : List RowPair) (w : World) → IsFair w → IsFair (resolve_each c table by shapes lucks pairs w).world
  resolve_each_fair shapes lucks [] w f = f
  resolve_each_fair shapes lucks (pair ∷ pairs) w f =
      unless_fair (and_unless resolved (client_until_idle c (other_lucks lucks))) (resolve_each c table by (other_shapes shapes) (drop (1 + plan_size c resolved.world) lucks) pairs)
      (unless_fair resolved (client_until_idle c (other_lucks lucks)) (resolve_by_fair (first_shape shapes) pair (first_luck lucks) w f)
      (λ x k. client_works_fair c (client_tasks (client_at x c)) (other_lucks lucks) x k))
      (resolve_each_fair (other_shapes shapes) (drop (1 + plan_size c resolved.world) lucks) pairs)
    where
      resolved : Moved
      resolved = resolve_by c table by (first_shape shapes) pair (first_luck lucks) w

  pub resolve_all_fair : (w : World) → IsFair w → (shapes : List Shape) (lucks : List Luck) (s : WorldStep) → IsFair s.world → IsFair (resolve_all w c table by shapes lucks s).world
  resolve_all_fair w f shapes lucks s k = go s.answer
    where
      go : (o : Option Answer) → IsFair (resolve_all w c table by shapes lucks (with_answer s o)).world
      go None = k
      go (Some facts.Done) = k
      go (Some (facts.Number count)) = resolve_each_fair shapes lucks (client_pairs (client_at w c) table) w f
      go (Some (facts.Shows what)) = k
      go (Some (facts.Sums sum)) = k
      go (Some (facts.Stores version content)) = k
      go (Some (facts.Did did)) = k
      go (Some (facts.Names names)) = k
      go (Some (facts.Pairs pairs)) = k
      go (Some (facts.Refuses refusal)) = k
