-- What the lines of a run say, of wires and of whole worlds, and the histories of tables behind it.
use Rattle.std.proofs.Common.{◌≡◌, ℕ, suc, ◌≤◌, List, [], ◌∷◌, length, map, Some, refl, sym, ◌∙◌, ap, subst, arith}
use Rattle.stab_base.specs.declared.node.Node.{Node}
use Rattle.row_value.specs.declared.schema.Scheme.{Scheme}
use Rattle.row_value.specs.declared.schema.Scheme.TheVariants.{Eventual}
use Rattle.step_tables.specs.Sayings.{Said, nothing_said, hear_lines}
use Rattle.world_tables.specs.Sound.{scheme_for}
use Rattle.world_tables.specs.Turns.{Happening, Turn, turns_from, turns, world_from, transcript_of}
use Rattle.world_tables.specs.World.{World, Hosted, start, step, lines_of, hosted_at}
use Rattle.client_laws.proofs.Law.{client_law}
use Rattle.client_laws.proofs.Grows.{client_grows, lapsed_grows}
use Rattle.world_laws.proofs.Fresh.{fresh_part}
use Rattle.world_laws.proofs.Kept.{Kept}
use Rattle.world_laws.proofs.Lines.{hear-append}
use Rattle.world_laws.proofs.Runs.{StepSound, Awaits, events_in, step_sound, first_is, scheme_on, start_kept}
use Rattle.world_laws.proofs.Ups.{IsUp, start_up, step_up}
use Rattle.wire_tables.specs.Wire.{Wire, wire_step}
use Rattle.wire_tables.specs.Wire as wire
use Rattle.wire_tables.specs.Runs.{wire_turns}
use Rattle.wire_tables.specs.Runs as wires
use Rattle.wire_laws.specs.Alike.{AreAlike}
use Rattle.wire_laws.specs.Runs.{AreBuilt, IsRunOf}
use Rattle.wire_laws.specs.Carried.{TellsHistories}
use Rattle.wire_laws.proofs.LinesAlike.{hear_alike}
use Rattle.wire_laws.proofs.TurnsAlike.{by_turns, lone_heard}
use Rattle.wire_laws.proofs.WireRuns.{whole_run}

-- ---- how many turns

wire_turn_count : (run : List Happening) (v : Wire) → length (wires.turns_from v run) ≡ length run
wire_turn_count [] v = refl
wire_turn_count (h ∷ run) v = ap suc (wire_turn_count run (wire_step v h.event h.lucks).wire)

turn_count : (run : List Happening) (w : World) → length (turns_from w run) ≡ length run
turn_count [] w = refl
turn_count (h ∷ run) w = ap suc (turn_count run (step w h.event h.lucks).world)

no_more_turns : (xs ys : List Turn) → AreAlike xs ys → length ys ≤ length xs
no_more_turns xs ys is =
    by_turns (λ (s w : List Node) (ts os : List Turn). length os ≤ length ts) (λ s w. omega arith) (λ s w turn ts os l p. omega (arith, p)) (λ s w turn other ts os a p. omega (arith, p)) xs [] [] ys is

pub whole_is_shorter : (run : List Happening) (r : IsRunOf run) → length r.whole ≤ length run
whole_is_shorter run r = omega (arith, no_more_turns (wire_turns run) (turns r.whole) r.alike, wire_turn_count run wire.start, turn_count r.whole start)

-- ---- what is said

-- no scheme is looked at
abbrev any_scheme : ℕ → Scheme
any_scheme table = Eventual

turns_heard : (xs ys : List Turn) → AreAlike xs ys → (s : Said) → hear_lines s (transcript_of xs) ≡ hear_lines s (transcript_of ys)
turns_heard xs ys is =
    by_turns (λ (s w : List Node) (ts os : List Turn). (t : Said) → hear_lines t (transcript_of ts) ≡ hear_lines t (transcript_of os)) (λ s w t. refl)
    (λ s w turn ts os l p t.
    hear-append any_scheme t turn.lines (transcript_of ts)
    ∙ (ap (λ (x : Said). hear_lines x (transcript_of ts)) (lone_heard any_scheme t turn.event turn.lines l) ∙ p t))
    (λ s w turn other ts os a p t.
    hear-append any_scheme t turn.lines (transcript_of ts)
    ∙ (ap (λ (x : Said). hear_lines x (transcript_of ts)) (hear_alike turn.lines other.lines a.lines t)
    ∙ (p (hear_lines t other.lines) ∙ sym (hear-append any_scheme t other.lines (transcript_of os)))))
    xs [] [] ys is

pub said_as_whole : (run : List Happening) (r : IsRunOf run) → hear_lines nothing_said (transcript_of (wire_turns run)) ≡ hear_lines nothing_said (transcript_of (turns r.whole))
said_as_whole run r = turns_heard (wire_turns run) (turns r.whole) r.alike nothing_said

pub histories_alike : (run : List Happening) (r : IsRunOf run) (table : ℕ)
    → (hear_lines nothing_said (transcript_of (wire_turns run))).history table ≡ (hear_lines nothing_said (transcript_of (turns r.whole))).history table
histories_alike run r table = ap (λ (s : Said). s.history table) (said_as_whole run r)

-- ---- the histories of the world behind a run

module _ (g : ℕ → Scheme) where
  run_kept : (hs : List Happening) (w : World) (s : Said) → Kept g w s → IsUp w → Awaits client_law client_grows lapsed_grows fresh_part g w (events_in client_law client_grows lapsed_grows fresh_part g hs)
      → Kept g (world_from w hs) (hear_lines s (transcript_of (turns_from w hs)))
  run_kept [] w s k up f = k
  run_kept (h ∷ hs) w s k up f =
      let x = step w h.event h.lucks in
      let es = map (λ (x : Happening). x.event) hs in
      let first : StepSound client_law client_grows lapsed_grows fresh_part g s w h.event x =
      step_sound client_law client_grows lapsed_grows fresh_part g w s k up h.event h.lucks (first_is client_law client_grows lapsed_grows fresh_part g w s k h.event es f) in
      subst (λ (y : Said). Kept g (world_from x.world hs) y) (sym (hear-append g s (lines_of w x) (transcript_of (turns_from x.world hs))))
      (run_kept hs x.world (hear_lines s (lines_of w x)) first.kept (step_up w h.event h.lucks up)
      (λ table none. f table (first.there table none) ∙ scheme_on client_law client_grows lapsed_grows fresh_part g w h.event h.lucks es table none))

pub history_told : (run : List Happening) (table : ℕ) (hosted : Hosted) → hosted_at (world_from start run) table ≡ Some hosted
    → hosted.history ≡ (hear_lines nothing_said (transcript_of (turns run))).history table
history_told run table hosted at =
    let g : ℕ → Scheme = scheme_for (map (λ (x : Happening). x.event) run) in
    ((run_kept g run start nothing_said (start_kept client_law client_grows lapsed_grows fresh_part g) start_up (λ q none. refl)).stores table hosted at).1

pub wire_history_told : (run : List Happening) → AreBuilt run → TellsHistories run
wire_history_told run built table hosted at =
    let r = whole_run run built in history_told r.whole table hosted (sym (ap (λ (w : World). hosted_at w table) r.world) ∙ at) ∙ sym (histories_alike run r table)
