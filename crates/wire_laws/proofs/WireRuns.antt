-- A run of wires is a run of whole worlds, and keeps what those keep.
use Rattle.std.proofs.Common.{◌≡◌, ◌⊎◌, inl, inr, ⊎_elim, ℕ, true, false, List, [], ◌∷◌, ◌++◌, refl, sym, ◌∙◌, ap, subst, append-nil}
use Rattle.std.proofs.lemmas.List.{map-append}
use Rattle.stab_base.specs.declared.node.Node.{Node}
use Rattle.table_model.specs.declared.event.Event.{Event}
use Rattle.table_model.specs.declared.event.Event.TheVariants as events
use Rattle.step_tables.proofs.Lists.{among_none}
use Rattle.world_tables.specs.Turns.{Happening, Turn, turns, world_from}
use Rattle.world_tables.specs.Turns as wholes
use Rattle.world_tables.specs.World.{World, Packet, WorldStep, client_at, is_resolving, step}
use Rattle.world_tables.specs.World as world
use Rattle.world_tables.specs.Sound.{IsSound}
use Rattle.world_tables.specs.Quiet.{AreListed, sent_in}
use Rattle.client_laws.proofs.Law.{client_law}
use Rattle.client_laws.proofs.Grows.{client_grows, lapsed_grows}
use Rattle.world_laws.proofs.Runs.{all_runs}
use Rattle.world_laws.proofs.Fresh.{fresh_part}
use Rattle.name_laws.proofs.Moves.{packets_in}
use Rattle.name_laws.proofs.Steps.{stores_by, holds_by, schemas_by, Stepped, step_stepped, to_join, lines_sent}
use Rattle.name_laws.proofs.Runs.{all_listed}
use Rattle.asked_laws.specs.Asked.{AreAsked}
use Rattle.asked_laws.specs.Phases.{is_away, has_phase}
use Rattle.asked_laws.proofs.Runs.{all_asked}
use Rattle.asked_laws.proofs.PhaseTells.{phase_is, phase_up}
use Rattle.fair_laws.specs.Reached.{IsBuilt}
use Rattle.wire_tables.specs.Wire.{Wire, WireStep, start, spread, lines_of, wire_step}
use Rattle.wire_tables.specs.Runs.{wire_from, turns_from, wire_turns}
use Rattle.wire_laws.specs.Alike.{IsEventAlike, AreAlikeFrom}
use Rattle.wire_laws.specs.Runs.{AreBuilt, IsRunOf}
use Rattle.wire_laws.proofs.TurnsAlike.{sound_alike, are_asked_alike, phases_alike, are_listed_alike}
use Rattle.wire_laws.proofs.SpreadLines.{to_of, whole_to, parts_in, spread_alike, spread_sent}
use Rattle.wire_laws.proofs.Ground.{IsGround}
use Rattle.wire_laws.proofs.Keeping.{IsKept, spread_kept}
use Rattle.wire_laws.proofs.Comings.{beside, IsStepOf, IsLoneStep}
use Rattle.wire_laws.proofs.WireSteps.{all_come}
use Rattle.wire_laws.proofs.Founded.{ground}

-- ---- events that are built

built_too : (sent whole : List Node) (event other : Event) → IsEventAlike sent whole event other → IsBuilt event → IsBuilt other
built_too sent whole (events.Deliver k) (events.Deliver n) e b = tt
built_too sent whole (events.Deliver k) (events.Pull c t) e b = tt
built_too sent whole (events.Deliver k) other e b = absurd e
built_too sent whole event other e b = subst IsBuilt (sym e) b

built_push : (run : List Happening) (h : Happening) → AreBuilt run → IsBuilt h.event → AreBuilt (run ++ h ∷ [])
built_push [] h all here = (here, tt)
built_push (first ∷ run) h all here = (all.0, built_push run h all.1 here)

world_push : (h : Happening) (run : List Happening) (w : World) → world_from w (run ++ h ∷ []) ≡ (step (world_from w run) h.event h.lucks).world
world_push h [] w = refl
world_push h (first ∷ run) w = world_push h run (step w first.event first.lucks).world

-- ---- from any wire that a run leads to

pub record IsRunFrom (v : Wire) (run : List Happening) : Type 0 where
  pub whole : List Happening
  pub built : AreBuilt whole
  pub world : (wire_from v run).world ≡ world_from v.world whole
  pub alike : AreAlikeFrom (to_of v.packets) (whole_to v.world.packets) (turns_from v run) (wholes.turns_from v.world whole)

-- the first step, and what follows behind it
module _ (v : Wire) (event : Event) (hs : List Happening) where
  record Goes (x : WireStep) : Type 0 where
    whole : List Happening
    built : AreBuilt whole
    world : (wire_from x.wire hs).world ≡ world_from v.world whole
    alike : AreAlikeFrom (to_of v.packets) (whole_to v.world.packets) (record { event = event; lines = lines_of v x } ∷ turns_from x.wire hs) (wholes.turns_from v.world whole)

  lone_goes : (x : WireStep) (s : IsLoneStep v event x) → IsRunFrom (beside v s.gathered s.arriving) hs → Goes x
  lone_goes x s next = subst Goes (sym s.is) (record {
    whole = next.whole;
    built = next.built;
    world = next.world;
    alike = inl (
      s.lone,
      subst (λ (sent : List Node). AreAlikeFrom sent (whole_to v.world.packets) (turns_from (beside v s.gathered s.arriving) hs) (wholes.turns_from v.world next.whole))
          (sym (append-nil (to_of v.packets))) next.alike,
    );
  })

  step_goes : (x : WireStep) → IsGround v.world → IsBuilt event → (s : IsStepOf v event x) → IsRunFrom (spread (beside v s.gathered s.arriving) (step v.world s.other s.lucks)).wire hs → Goes x
  step_goes x g built s next = subst Goes (sym s.is) (record {
    whole = record { event = s.other; lucks = s.lucks } ∷ next.whole;
    built = (built_too (to_of v.packets) (whole_to v.world.packets) event s.other s.alike built, next.built);
    world = next.world;
    alike = inr (
      record { event = s.other; lines = world.lines_of v.world y },
      wholes.turns_from y.world next.whole,
      refl,
      record { event = s.alike; lines = spread_alike v b v.world y },
      subst (λ (sent : List Node). AreAlikeFrom sent (whole_to v.world.packets ++ sent_in (world.lines_of v.world y)) (turns_from (spread b y).wire hs) (wholes.turns_from y.world next.whole))
          wire_sent
          (subst (λ (sent : List Node). AreAlikeFrom (to_of (spread b y).wire.packets) sent (turns_from (spread b y).wire hs) (wholes.turns_from y.world next.whole)) whole_sent next.alike),
    );
  })
    where
      b : Wire
      b = beside v s.gathered s.arriving

      y : WorldStep
      y = step v.world s.other s.lucks

      stepped : Stepped v.world (stores_by v.world s.other) (holds_by v.world s.other s.lucks) (schemas_by v.world s.other s.lucks) (step v.world s.other s.lucks)
      stepped = step_stepped v.world s.other s.lucks g.fine

      wire_sent : to_of (spread (beside v s.gathered s.arriving) (step v.world s.other s.lucks)).wire.packets
          ≡ to_of v.packets ++ sent_in (lines_of v (spread (beside v s.gathered s.arriving) (step v.world s.other s.lucks)))
      wire_sent =
          map-append (λ p. p.to) v.packets (parts_in v.world (step v.world s.other s.lucks).outs)
          ∙ ap (λ (ns : List Node). to_of v.packets ++ ns) (sym (spread_sent v (beside v s.gathered s.arriving) (step v.world s.other s.lucks) stepped.plain stepped.counted))

      whole_sent : whole_to (step v.world s.other s.lucks).world.packets ≡ whole_to v.world.packets ++ sent_in (world.lines_of v.world (step v.world s.other s.lucks))
      whole_sent =
          ap whole_to stepped.packets
          ∙ (to_join v.world.packets (packets_in (step v.world s.other s.lucks).outs)
          ∙ ap (λ (ns : List Node). whole_to v.world.packets ++ ns)
          (sym (lines_sent v.world (stores_by v.world s.other) (holds_by v.world s.other s.lucks) (schemas_by v.world s.other s.lucks) (step v.world s.other s.lucks) stepped)))

abbrev Rest : List Happening → Type 0
Rest hs = (v : Wire) (front : List Happening) → v.world ≡ world_from world.start front → AreBuilt front → IsKept v → IsRunFrom v hs

module _ (h : Happening) (hs : List Happening) (rest : Rest hs) (v : Wire) (front : List Happening) (at : v.world ≡ world_from world.start front) (before : AreBuilt front) (k : IsKept v)
    (built : IsBuilt h.event) where
  here : IsGround v.world
  here = subst IsGround (sym at) (ground front before)

  behind : (s : IsStepOf v h.event (wire_step v h.event h.lucks)) → IsRunFrom (spread (beside v s.gathered s.arriving) (step v.world s.other s.lucks)).wire hs
  behind s =
      let next : Happening = record { event = s.other; lucks = s.lucks } in
      let later : AreBuilt (front ++ next ∷ []) = built_push front next before (built_too (to_of v.packets) (whole_to v.world.packets) h.event s.other s.alike built) in
      let there : (step v.world s.other s.lucks).world ≡ world_from world.start (front ++ next ∷ []) =
      ap (λ (w : World). (step w s.other s.lucks).world) at ∙ sym (world_push next front world.start) in
      rest (spread (beside v s.gathered s.arriving) (step v.world s.other s.lucks)).wire (front ++ next ∷ []) there later
      (spread_kept (beside v s.gathered s.arriving) here s.kept s.other s.lucks s.joins (subst IsGround (sym there) (ground (front ++ next ∷ []) later)))

  goes_on : IsLoneStep v h.event (wire_step v h.event h.lucks) ⊎ IsStepOf v h.event (wire_step v h.event h.lucks) → Goes v h.event hs (wire_step v h.event h.lucks)
  goes_on (inl s) = lone_goes v h.event hs (wire_step v h.event h.lucks) s (rest (beside v s.gathered s.arriving) front at before s.kept)
  goes_on (inr s) = step_goes v h.event hs (wire_step v h.event h.lucks) here built s (behind s)

  one_more : IsRunFrom v (h ∷ hs)
  one_more = let r = goes_on (all_come v here k h.event h.lucks) in record { whole = r.whole; built = r.built; world = r.world; alike = r.alike }

run_from : (hs : List Happening) → AreBuilt hs → Rest hs
run_from [] built v front at before k = record { whole = []; built = tt; world = refl; alike = refl }
run_from (h ∷ hs) built v front at before k = one_more h hs (run_from hs built.1) v front at before k built.0

start_kept : IsKept start
start_kept = record { parts = λ p a. absurd (among_none p a); gathers = λ table. tt; arriving = λ c. record { pulls = tt; rows = tt } }

-- ---- what every wire keeps that a run leads to

-- a run of whole worlds leads to its world
pub record IsGoing (v : Wire) : Type 0 where
  pub front : List Happening
  pub at : v.world ≡ world_from world.start front
  pub built : AreBuilt front
  pub kept : IsKept v

pub going_ground : (v : Wire) → IsGoing v → IsGround v.world
going_ground v i = subst IsGround (sym i.at) (ground i.front i.built)

one_kept : (v : Wire) → IsGoing v → (h : Happening) → IsBuilt h.event → IsGoing (wire_step v h.event h.lucks).wire
one_kept v i h built = ⊎_elim alone stepped (all_come v here i.kept h.event h.lucks)
  where
    here : IsGround v.world
    here = going_ground v i

    alone : IsLoneStep v h.event (wire_step v h.event h.lucks) → IsGoing (wire_step v h.event h.lucks).wire
    alone s = subst (λ (x : WireStep). IsGoing x.wire) (sym s.is) (record { front = i.front; at = i.at; built = i.built; kept = s.kept })

    stepped : IsStepOf v h.event (wire_step v h.event h.lucks) → IsGoing (wire_step v h.event h.lucks).wire
    stepped s =
        let next : Happening = record { event = s.other; lucks = s.lucks } in
        let later : AreBuilt (i.front ++ next ∷ []) = built_push i.front next i.built (built_too (to_of v.packets) (whole_to v.world.packets) h.event s.other s.alike built) in
        let there : (step v.world s.other s.lucks).world ≡ world_from world.start (i.front ++ next ∷ []) =
        ap (λ (w : World). (step w s.other s.lucks).world) i.at ∙ sym (world_push next i.front world.start) in
        subst (λ (x : WireStep). IsGoing x.wire) (sym s.is) (record {
          front = i.front ++ next ∷ [];
          at = there;
          built = later;
          kept = spread_kept (beside v s.gathered s.arriving) here s.kept s.other s.lucks s.joins (subst IsGround (sym there) (ground (i.front ++ next ∷ []) later));
        })

goes_from : (hs : List Happening) → AreBuilt hs → (v : Wire) → IsGoing v → IsGoing (wire_from v hs)
goes_from [] built v i = i
goes_from (h ∷ hs) built v i = goes_from hs built.1 (wire_step v h.event h.lucks).wire (one_kept v i h built.0)

pub run_goes : (run : List Happening) → AreBuilt run → IsGoing (wire_from start run)
run_goes run built = goes_from run built start (record { front = []; at = refl; built = tt; kept = start_kept })

-- ---- every run

pub whole_run : (run : List Happening) → AreBuilt run → IsRunOf run
whole_run run built =
    let r = run_from run built start [] refl tt start_kept in record { whole = r.whole; built = r.built; world = r.world; alike = r.alike }

pub run_sound : (run : List Happening) → AreBuilt run → IsSound (wire_turns run)
run_sound run built =
    let r = whole_run run built in sound_alike (wire_turns run) (turns r.whole) r.alike (all_runs client_law client_grows lapsed_grows fresh_part r.whole)

pub run_listed : (run : List Happening) → AreBuilt run → AreListed (wire_turns run)
run_listed run built = let r = whole_run run built in are_listed_alike (wire_turns run) (turns r.whole) r.alike (all_listed r.whole)

pub run_asked : (run : List Happening) → AreBuilt run → AreAsked (wire_turns run)
run_asked run built = let r = whole_run run built in are_asked_alike (wire_turns run) (turns r.whole) r.alike (all_asked r.whole)

pub run_phases : (run : List Happening) (c t : ℕ) → AreBuilt run → is_resolving (wire_from start run).world c t ≡ has_phase (wire_turns run) c t
run_phases run c t built =
    let r = whole_run run built in
    ap (λ (w : World). is_resolving w c t) r.world ∙ (phase_is r.whole c t ∙ sym (phases_alike (wire_turns run) (turns r.whole) r.alike c t))

pub run_up : (run : List Happening) (c t : ℕ) → AreBuilt run → has_phase (wire_turns run) c t ≡ true → is_away (client_at (wire_from start run).world c) ≡ false
run_up run c t built has =
    let r = whole_run run built in
    ap (λ (w : World). is_away (client_at w c)) r.world ∙ phase_up r.whole c t (sym (phases_alike (wire_turns run) (turns r.whole) r.alike c t) ∙ has)

-- the front of a run
pub built_front : (front more : List Happening) → AreBuilt (front ++ more) → AreBuilt front
built_front [] more built = tt
built_front (h ∷ front) more built = (built.0, built_front front more built.1)
