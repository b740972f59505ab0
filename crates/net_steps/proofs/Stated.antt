-- The state of a table that a Store keeps which is up, and whether the table is at work.
use Rattle.std.proofs.Common.{◌≡◌, ◌==◌, ◌&&◌, ℕ, Bool, true, false, List, [], ◌∷◌, map, Option, Some, None, refl, sym, ◌∙◌, ap, subst}
use Rattle.std.specs.Prelude.{not, is_some, option_map, if◌then◌else◌}
use Rattle.disk_trait.specs.Calls.{DiskState}
use Rattle.stab_base.specs.declared.node.Node.TheVariants as nodes
use Rattle.row_store.specs.Spelling.{IsClient}
use Rattle.table_model.specs.declared.line.TextLine.{TextLine}
use Rattle.table_model.specs.declared.table_state.TableState.{TableState}
use Rattle.step_tables.specs.Facts as facts
use Rattle.step_tables.specs.Lines.{line_of}
use Rattle.step_tables.specs.StoreMoves.{StoreTask}
use Rattle.world_tables.specs.World.{World as AWorld, Hosted, hosted_at, hosted_by, is_at_work, is_down, is_live_state, owner_of}
use Rattle.store_host.specs.Calls.{busy_version, state_at}
use Rattle.store_host.specs.Holds.{IsUpAt}
use Rattle.gated_tables.specs.Net.{Net, NetStep, busy_with, is_idle, is_shut, refused, still, unless_busy}
use Rattle.node_steps.proofs.Found.{table_is_up, up_there}
use Rattle.node_steps.proofs.Showing.{kept_here, not_here}
use Rattle.wire_steps.specs.Links.{busy_lines}
use Rattle.net_steps.specs.declared.world.World.{World}
use Rattle.net_steps.specs.Delivering.{IsAsking, IsStateOf, IsUpIn}
use Rattle.net_steps.specs.Holds.{Holds}
use Rattle.net_steps.proofs.Sessions.{busy_same}

-- ---- which state it is

-- a table of another Store
pub not_kept : (w : AWorld) (store table : ℕ) → (owner_of w table ≡ store → ⊥) → IsStateOf None (hosted_by w store table)
not_kept w store table isnt = subst (λ (b : Bool). IsStateOf None (if b then hosted_at w table else None)) (sym (not_here w store table isnt)) tt

state_there : (o : Option Hosted) → ((hosted : Hosted) → o ≡ Some hosted → IsUpAt hosted.store.agenda) → IsStateOf (state_at o) o
state_there None up = tt
state_there (Some hosted) up =
    let k = up hosted refl in
    subst (λ (r : Option TableState). IsStateOf r (Some hosted)) (sym (ap (option_map (λ (agenda : List StoreTask). hosted.store.disk.state)) k.1)) (refl, k)

module _ {D : Type 0} (state : D → DiskState) (is_out : ℕ → Bool) (store table : ℕ) (n : Net) (world : World D) (x : IsUpIn state is_out (nodes.Store store) n world) where
  module _ (own : owner_of n.wire.world table ≡ store) where
    owner_up : is_down n.wire.world (nodes.Store (owner_of n.wire.world table)) ≡ false
    owner_up = ap (λ (k : ℕ). is_down n.wire.world (nodes.Store k)) own ∙ x.up

    agenda_there : (hosted : Hosted) → hosted_at n.wire.world table ≡ Some hosted → IsUpAt hosted.store.agenda
    agenda_there hosted at =
        table_is_up state n.wire.world world.wire.nodes.store table x.held.wire.nodes.store hosted at
        (up_there state n.wire.world world.wire.nodes.store table x.held.wire.nodes.store owner_up)

    -- one of its own
    pub kept_state : (r : Option TableState) → r ≡ state_at (hosted_at n.wire.world table) → IsStateOf r (hosted_by n.wire.world store table)
    kept_state r is = subst (IsStateOf r) (sym (kept_here n.wire.world store table own))
        (subst (λ (s : Option TableState). IsStateOf s (hosted_at n.wire.world table)) (sym is) (state_there (hosted_at n.wire.world table) agenda_there))

pub none_kept : (o : Option Hosted) → IsStateOf None o → o ≡ None
none_kept None k = refl
none_kept (Some hosted) k = absurd k

pub record IsKeptIn (state : TableState) (o : Option Hosted) : Type 0 where
  pub hosted : Hosted
  pub at : o ≡ Some hosted
  pub state_is : hosted.store.disk.state ≡ state
  pub agenda : List StoreTask
  pub agenda_is : hosted.store.agenda ≡ Some agenda

pub kept_in : (s : TableState) (o : Option Hosted) → IsStateOf (Some s) o → IsKeptIn s o
kept_in s None k = absurd k
kept_in s (Some hosted) k = record { hosted = hosted; at = refl; state_is = k.0; agenda = k.1.0; agenda_is = k.1.1 }

by_owner : (w : AWorld) (store table : ℕ) (hosted : Hosted) → hosted_by w store table ≡ Some hosted → hosted_at w table ≡ Some hosted
by_owner w store table hosted at = go (owner_of w table == store) at
  where
    go : (b : Bool) → (if b then hosted_at w table else None) ≡ Some hosted → hosted_at w table ≡ Some hosted
    go true e = e
    go false e = absurd (let bad : None ≡ Some hosted = e in cc)

-- ---- whether it is at work

abbrev has_any : List StoreTask → Bool
has_any [] = false
has_any (task ∷ tasks) = true

work_is : (w : AWorld) (table : ℕ) (hosted : Hosted) → hosted_at w table ≡ Some hosted → (tasks : List StoreTask) → hosted.store.agenda ≡ Some tasks → is_at_work w table ≡ has_any tasks
work_is w table hosted there [] e = rw (there, e) refl
work_is w table hosted there (task ∷ tasks) e = rw (there, e) refl

unless_is : (n : Net) (hosted : Hosted) (s : NetStep) (tasks : List StoreTask) → hosted.store.agenda ≡ Some tasks
    → unless_busy n hosted s ≡ (if has_any tasks then refused n (facts.Busy (busy_with (Some hosted))) else s)
unless_is n hosted s [] e = rw e refl
unless_is n hosted s (task ∷ tasks) e = rw e refl

idle_is : (hosted : Hosted) (tasks : List StoreTask) → hosted.store.agenda ≡ Some tasks → is_idle hosted ≡ not (has_any tasks)
idle_is hosted [] e = rw e refl
idle_is hosted (task ∷ tasks) e = rw e refl

swapped : (a b : Bool) → (not a && not b) ≡ (not b && not a)
swapped true true = refl
swapped true false = refl
swapped false true = refl
swapped false false = refl

module _ (n : Net) (store table : ℕ) (s : TableState) (k : IsStateOf (Some s) (hosted_by n.wire.world store table)) where
  abbrev here : IsKeptIn s (hosted_by n.wire.world store table)
  here = kept_in s (hosted_by n.wire.world store table) k

  there : hosted_at n.wire.world table ≡ Some here.hosted
  there = by_owner n.wire.world store table here.hosted here.at

  works : is_at_work n.wire.world table ≡ has_any here.agenda
  works = work_is n.wire.world table here.hosted there here.agenda here.agenda_is

  module _ (f : Option Hosted → NetStep) (g : TableState → NetStep) (is : (hosted : Hosted) → f (Some hosted) ≡ unless_busy n hosted (g hosted.store.disk.state)) where
    by_work : f (hosted_by n.wire.world store table)
        ≡ (if is_at_work n.wire.world table then refused n (facts.Busy (busy_with (Some here.hosted))) else g here.hosted.store.disk.state)
    by_work = ap f here.at ∙ (is here.hosted ∙ (unless_is n here.hosted (g here.hosted.store.disk.state) here.agenda here.agenda_is
        ∙ ap (λ (b : Bool). if b then refused n (facts.Busy (busy_with (Some here.hosted))) else g here.hosted.store.disk.state) (sym works)))

    pub at_work_step : is_at_work n.wire.world table ≡ true → f (hosted_by n.wire.world store table) ≡ still n (facts.Refuses (facts.Busy (busy_version (hosted_at n.wire.world table))))
    at_work_step e = by_work
        ∙ (ap (λ (b : Bool). if b then refused n (facts.Busy (busy_with (Some here.hosted))) else g here.hosted.store.disk.state) e
        ∙ ap (λ (k : ℕ). still n (facts.Refuses (facts.Busy k))) (sym (ap busy_version there ∙ busy_same (Some here.hosted))))

    pub idle_step : is_at_work n.wire.world table ≡ false → f (hosted_by n.wire.world store table) ≡ g s
    idle_step e = by_work
        ∙ (ap (λ (b : Bool). if b then refused n (facts.Busy (busy_with (Some here.hosted))) else g here.hosted.store.disk.state) e
        ∙ ap g here.state_is)

  -- a table with nothing to do that isn't live
  pub shut_is : is_shut (hosted_by n.wire.world store table) ≡ (not (is_at_work n.wire.world table) && not (is_live_state s))
  shut_is = ap is_shut here.at
      ∙ (ap (λ (b : Bool). b && not (is_live_state here.hosted.store.disk.state)) (idle_is here.hosted here.agenda here.agenda_is ∙ ap not (sym works))
      ∙ ap (λ (t : TableState). not (is_at_work n.wire.world table) && not (is_live_state t)) here.state_is)

  pub shut_by : (live busy : Bool) → live ≡ is_live_state s → busy ≡ is_at_work n.wire.world table → (not live && not busy) ≡ is_shut (hosted_by n.wire.world store table)
  shut_by live busy l b = swapped live busy
      ∙ (ap (λ (x : Bool). not busy && not x) l ∙ (ap (λ (x : Bool). not x && not (is_live_state s)) b ∙ sym shut_is))

  -- who asks for it asks for a declared one
  pub asks_here : {D : Type 0} (state : D → DiskState) (world : World D) → Holds state n world → (c : ℕ) → IsClient c → IsAsking n c table
  asks_here state world h c client = record {
    client = client;
    table = h.wire.nodes.numbered.both table ∙ ap (λ (o : Option Hosted). is_some o) there;
  }

-- the lines of its refusal
pub work_found : (w : AWorld) (table : ℕ) (found : Option (List TextLine)) → option_map (map line_of) found ≡ (if is_at_work w table then Some (busy_lines w table) else None)
    → (lines : List TextLine) → found ≡ Some lines → (is_at_work w table ≡ true) × (map line_of lines ≡ busy_lines w table)
work_found w table found told lines is = go (is_at_work w table) (sym (ap (option_map (map line_of)) is) ∙ told)
  where
    go : (b : Bool) → Some (map line_of lines) ≡ (if b then Some (busy_lines w table) else None) → (b ≡ true) × (map line_of lines ≡ busy_lines w table)
    go true e = (refl, (let both : Some (map line_of lines) ≡ Some (busy_lines w table) = e in cc))
    go false e = absurd (let bad : Some (map line_of lines) ≡ None = e in cc)

pub no_work : (w : AWorld) (table : ℕ) (found : Option (List TextLine)) → option_map (map line_of) found ≡ (if is_at_work w table then Some (busy_lines w table) else None)
    → found ≡ None → is_at_work w table ≡ false
no_work w table found told is = go (is_at_work w table) (sym (ap (option_map (map line_of)) is) ∙ told)
  where
    go : (b : Bool) → None ≡ (if b then Some (busy_lines w table) else None) → b ≡ false
    go true e = absurd (let bad : None ≡ Some (busy_lines w table) = e in cc)
    go false e = refl
