-- What a call of a client comes to: it is refused, a disk of the client can't be read, or it is done.
use Rattle.std.proofs.Common.{◌≡◌, ℕ, Bool, true, false, List, [], ◌∷◌, Option, Some, None, refl, subst}
use Rattle.std.specs.Prelude.{◌&&◌, ◌||◌, not, if◌then◌else◌}
use Rattle.stab_base.specs.declared.node.Node.TheVariants as nodes
use Rattle.step_tables.specs.Facts.{Answer, Refusal}
use Rattle.step_tables.specs.Facts as facts
use Rattle.step_tables.specs.Messages.{Luck}
use Rattle.step_tables.specs.Messages as messages
use Rattle.step_tables.specs.ClientMoves as client
use Rattle.step_tables.specs.ClientMoves.{Client, ClientTask, ClientMove, Shape, client_step, is_cut_off, is_before_write, is_before_phase, kept_out}
use Rattle.world_tables.specs.World.{World, WorldStep, client_at, is_down, is_cut, is_resolving, first_luck, other_lucks, client_falls, failing, answering, answered, refused}
use Rattle.world_tables.specs.World.{reads, calls, unless_cut, unless_kept, table_of_move, is_closed, idle_answer, closed_answer, unless_closed, call_there}

-- a refusal that says nothing of rows
abbrev pub IsBefore : Refusal → Type 0
IsBefore facts.NoRow = ⊥
IsBefore other = Unit {0}

in_phase : (b : Bool) (x r : Refusal) → IsBefore x → (if b then Some x else None) ≡ Some r → IsBefore r
in_phase true x r before is = let same : x ≡ r = cc in subst (λ (y : Refusal). IsBefore y) same before
in_phase false x r before is = absurd cc

-- what the phases keep a client from it refuses so
kept_before : (phase : ℕ → Bool) (move : ClientMove) (answer : Answer) (r : Refusal) → kept_out phase move answer ≡ Some r → IsBefore r
kept_before phase (client.Write table row content) answer r is = in_phase (phase table && not (is_before_write answer)) facts.InResolution r tt is
kept_before phase (client.Change table row edit) answer r is = in_phase (phase table && not (is_before_write answer)) facts.InResolution r tt is
kept_before phase (client.BeginCr table) answer r is = in_phase (phase table && not (is_before_phase (client.BeginCr table) answer)) facts.InResolution r tt is
kept_before phase (client.Conflicts table) answer r is = in_phase (not (phase table || is_before_phase (client.Conflicts table) answer)) facts.NotInResolution r tt is
kept_before phase (client.EndCr table) answer r is = in_phase (not (phase table || is_before_phase (client.EndCr table) answer)) facts.NotInResolution r tt is
kept_before phase (client.Resolve table row seen choice) answer r is =
    in_phase (not (phase table || is_before_phase (client.Resolve table row seen choice) answer)) facts.NotInResolution r tt is
kept_before phase (client.ResolveAll table by) answer r is = in_phase (not (phase table || is_before_phase (client.ResolveAll table by) answer)) facts.NotInResolution r tt is
kept_before phase other answer r is = absurd cc

-- a message that comes for a closed table is taken, and nothing is done with it
abbrev pub IsTake : ClientMove → Type 0
IsTake (client.Take message) = Unit {0}
IsTake other = ⊥

module _ (P : WorldStep → Type 0) (w : World) (c : ℕ) (move : ClientMove) (shape : Shape) (lucks : List Luck)
    (refuses : (r : Refusal) → IsBefore r → P (refused w r)) (unread : P (answering facts.Done (failing (client_falls c w))))
    (idle : IsTake move → P (answered w facts.Done))
    (does : (node : Client) → client_at w c ≡ Some node → P (calls w c move shape (other_lucks lucks) node)) where
  -- what is asked of a closed table is refused
  when_idle : (agenda : Option (List ClientTask)) → P (answered w facts.Done) → P (answered w (idle_answer shape agenda))
  when_idle None here = here
  when_idle (Some []) here = here
  when_idle (Some (task ∷ more)) here = refuses (facts.Busy shape.plan) tt

  when_cut : (cut : Bool) (agenda : Option (List ClientTask)) → P (answered w facts.Done) → P (answered w (if cut then facts.Refuses facts.Offline else idle_answer shape agenda))
  when_cut true agenda here = refuses facts.Offline tt
  when_cut false agenda here = when_idle agenda here

  when_closed : (asked : ClientMove) → (IsTake asked → P (answered w facts.Done)) → (cut : Bool) (agenda : Option (List ClientTask)) → P (answered w (closed_answer shape cut agenda asked))
  when_closed (client.Take message) here cut agenda = when_cut cut agenda (here tt)
  when_closed other here cut agenda = refuses facts.NoTable tt

  -- what holds of each way that a call may go holds of the call
  pub call_is : (o : Option Client) → client_at w c ≡ o → P (call_there w c move shape lucks o)
  call_is None at = refuses facts.NoTable tt
  call_is (Some node) at = by_down (is_down w (nodes.Client c))
    where
      kept : Option Refusal
      kept = kept_out (is_resolving w c) move (client_step c shape node move).answer

      by_link : (cut : Bool) → P (unless_cut w cut (calls w c move shape (other_lucks lucks) node))
      by_link true = refuses facts.Offline tt
      by_link false = does node at

      by_phase : (o : Option Refusal) → kept_out (is_resolving w c) move (client_step c shape node move).answer ≡ o
          → P (unless_kept w o (unless_cut w (is_cut w c && is_cut_off c shape node move) (calls w c move shape (other_lucks lucks) node)))
      by_phase None is = by_link (is_cut w c && is_cut_off c shape node move)
      by_phase (Some r) is = refuses r (kept_before (is_resolving w c) move (client_step c shape node move).answer r is)

      answer : Answer
      answer = closed_answer shape (is_cut w c) node.agenda move

      by_closed : (closed : Bool) → P (unless_closed w closed answer
          (unless_kept w kept (unless_cut w (is_cut w c && is_cut_off c shape node move) (calls w c move shape (other_lucks lucks) node))))
      by_closed true = when_closed move idle (is_cut w c) node.agenda
      by_closed false = by_phase kept refl

      by_read : (luck : Luck)
          → P (reads w c luck (unless_closed w (is_closed node (table_of_move move)) answer
          (unless_kept w kept (unless_cut w (is_cut w c && is_cut_off c shape node move) (calls w c move shape (other_lucks lucks) node)))))
      by_read messages.Done = by_closed (is_closed node (table_of_move move))
      by_read messages.FailedBefore = unread
      by_read messages.FailedAfter = unread

      by_down : (down : Bool) → P (if down then refused w (facts.NodeDown (nodes.Client c)) else reads w c (first_luck lucks)
          (unless_closed w (is_closed node (table_of_move move)) answer
          (unless_kept w kept (unless_cut w (is_cut w c && is_cut_off c shape node move) (calls w c move shape (other_lucks lucks) node)))))
      by_down true = refuses (facts.NodeDown (nodes.Client c)) tt
      by_down false = by_read (first_luck lucks)
