-- What leads to a world is a run of its script, and goes on by one event.
use Rattle.std.proofs.Common.{◌≡◌, ℕ, ◌+◌, ◌<◌, Bool, true, false, Option, Some, None, arith, List, [], ◌∷◌, ◌++◌, map, refl, sym, ap, subst, ◌∙◌, append-nil, append_assoc}
use Rattle.std.proofs.lemmas.List.{map-append}
use Rattle.std.specs.Prelude.{IfSome}
use Rattle.std.specs.List.{AllByRecursion}
use Rattle.disk_trait.specs.Calls.{DiskState}
use Rattle.table_model.specs.declared.entry.Entry.{Entry}
use Rattle.table_model.specs.declared.event.Event.{Event}
use Rattle.table_model.specs.declared.line.TextLine.{TextLine}
use Rattle.step_tables.specs.Facts.{Line}
use Rattle.step_tables.specs.Lines.{line_of}
use Rattle.world_tables.specs.Faults.{one_if}
use Rattle.world_tables.specs.Sound.{is_declaration}
use Rattle.world_tables.specs.Turns.{Happening, transcript_of}
use Rattle.world_tables.specs.World as moves
use Rattle.fair_laws.specs.Reached.{IsBuilt}
use Rattle.fair_laws.specs.Reached as worlds
use Rattle.script_text.specs.Names.{Names, with_event}
use Rattle.wire_laws.specs.Runs.{AreBuilt}
use Rattle.wire_laws.proofs.WireRuns.{built_front}
use Rattle.gated_tables.specs.Faults.{is_net_fault, net_faults}
use Rattle.gated_tables.specs.Net.{Net, start, net_step, lines_of}
use Rattle.gated_tables.specs.Runs.{net_from, turns_from, net_turns}
use Rattle.gated_laws.specs.Runs.{AreDeclaredFirst}
use Rattle.gated_laws.proofs.NetLaws.{nets_sound, nets_listed, nets_asked, nets_phases, nets_up, nets_told}
use Rattle.net_laws.proofs.Forms.{nets_told_forms}
use Rattle.node_steps.specs.Faults.{all_faults_back}
use Rattle.node_steps.specs.Holds as nodes
use Rattle.node_steps.specs.Rows.{IsRowsBack, AreRowsBack}
use Rattle.net_steps.specs.declared.world.World.{World}
use Rattle.net_steps.specs.Steps.{IsMoved, IsStep, IsOver, IsUndone, all_faults}
use Rattle.line_widths.specs.Widths.{HasWidths}
use Rattle.line_widths.proofs.Texts.{have_texts}
use Rattle.simba_top.specs.Ends.{AreToldPhases, IsRun}
use Rattle.simba_top.specs.Faults.{Matches, Led, IsOnDisks, GoesOver}
use Rattle.simba_top.specs.Stands.{IsBehind, Leads}
use Rattle.simba_top.proofs.Declared.{first_front}
use Rattle.simba_top.proofs.Behind.{world-push, built-push, nodes_reached, first_on, behind_on}

-- ---- widths of lines

all-append : (told lines : List TextLine) → AllByRecursion HasWidths told → AllByRecursion HasWidths lines → AllByRecursion HasWidths (told ++ lines)
all-append [] lines all more = more
all-append (line ∷ told) lines all more = (all.0, all-append told lines all.1 more)

-- ---- one event more

module _ (h : Happening) where
  transcript-push : (n : Net) (run : List Happening) → transcript_of (turns_from n (run ++ h ∷ []))
      ≡ transcript_of (turns_from n run) ++ lines_of (net_from n run) (net_step (net_from n run) h.event h.lucks)
  transcript-push n [] = append-nil (lines_of n (net_step n h.event h.lucks))
  transcript-push n (first ∷ run) =
      let s = net_step n first.event first.lucks in
      let last = lines_of (net_from s.net run) (net_step (net_from s.net run) h.event h.lucks) in
      ap (λ (lines : List Line). lines_of n s ++ lines) (transcript-push s.net run)
      ∙ sym (append_assoc (lines_of n s) (transcript_of (turns_from s.net run)) last)

  faults-push : (n : Net) (run : List Happening)
      → net_faults n (run ++ h ∷ []) ≡ net_faults n run + one_if (is_net_fault (net_from n run) h.event h.lucks)
  faults-push n [] = zero_more (one_if (is_net_fault n h.event h.lucks))
    where
      zero_more : (n : ℕ) → n + 0 ≡ 0 + n
      zero_more n = omega arith
  faults-push n (first ∷ run) =
      let e = faults-push (net_step n first.event first.lucks).net run in
      longer (one_if (is_net_fault n first.event first.lucks)) _ _ _ e
    where
      longer : (a b c d : ℕ) → b ≡ c + d → a + b ≡ a + c + d
      longer a b c d e = omega (arith, e)

-- one step more, by whether it shows a device fault
one_more : (faults old new : ℕ) (b : Bool) → Matches faults old → (b ≡ true → old < new) → (b ≡ false → new ≡ old) → Matches (faults + one_if b) new
one_more faults old new true m rose same = let a = m.few in let r = rose refl in record { few = omega (arith, a, r); one = λ up. omega arith }
one_more faults old new false m rose same =
    let a = m.few in let s = same refl in record { few = omega (arith, a, s); one = λ up. let c = m.one (omega (arith, up, s)) in omega (arith, c) }

pub told_phases : (run : List Happening) → AreDeclaredFirst run → AreBuilt run → AreToldPhases run
told_phases run first built front more is client table =
    let b : AreBuilt front = built_front front more (subst AreBuilt is built) in
    let f : AreDeclaredFirst front = first_front front more (subst AreDeclaredFirst is first) in
    (nets_phases front f b client table, nets_up front f b client table)

-- what holds of every run of a script, and P of this one
abbrev pub run_with : (P : List Happening → Type 0) (script : List Event) (told : List TextLine) (run : List Happening) → map (λ (h : Happening). h.event) run ≡ script
    → map line_of told ≡ transcript_of (net_turns run) → AllByRecursion HasWidths told → AreDeclaredFirst run → AreBuilt run → P run → IsRun P script told
run_with P script told run events lines widths first built kept = record {
  run = run;
  events = events;
  lines_are = lines;
  texts = have_texts told widths (nets_told_forms run told first built lines);
  sound = nets_sound run first built;
  listed = nets_listed run first built;
  asked = nets_asked run first built;
  phases = told_phases run first built;
  kept = kept;
}

module _ {D : Type 0} (state : D → DiskState) (script : List Event) (told : List TextLine) (names : Names) (world : World D) (is_out : ℕ → Bool)
    (leads : Leads state script told names world is_out) where
  abbrev came : List Happening
  came = leads.run

  abbrev stands : IsBehind state came names world is_out
  stands = leads.behind

  abbrev pub is_run : IsRun (Led state world) script told
  is_run =
      run_with (Led state world) script told came leads.events leads.lines_are leads.widths stands.first stands.built
      (record { first = stands.first; built = stands.built; held = stands.held.wire.nodes; counted = leads.counted })

  module _ (images : D → ℕ → List ℕ → Type 0) (event : Event) (lucks : moves.Lucks) (new : World D) (out : ℕ → Bool) (built : IsBuilt event)
      (early : is_declaration event ≡ true → names.started ≡ false)
      (m : IsMoved state images (net_from start came) (is_net_fault (net_from start came) event lucks) (net_step (net_from start came) event lucks).net.wire out world new) where
    abbrev h : Happening
    h = record { event = event; lucks = lucks }

    counted_on : Matches (net_faults start (came ++ h ∷ [])) (all_faults state new)
    counted_on =
        subst (λ (n : ℕ). Matches n (all_faults state new)) (sym (faults-push h start came))
        (one_more (net_faults start came) (all_faults state world) (all_faults state new) (is_net_fault (net_from start came) event lucks) leads.counted m.rose m.same)

    -- the nodes are behind the event
    led_on : Led state new (came ++ h ∷ [])
    led_on = record {
      first = first_on state came names world is_out stands event early lucks;
      built = built-push came h stands.built built;
      held = subst (λ (w : moves.World). nodes.Holds state w new.wire.nodes) (sym (world-push h start came)) m.held;
      counted = counted_on;
    }

  pub leads_on : (images : D → ℕ → List ℕ → Type 0) (event : Event) (lines : List TextLine) (new : World D) (out : ℕ → Bool) → IsBuilt event → (is_declaration event ≡ true → names.started ≡ false)
      → AllByRecursion HasWidths lines → IsStep state images (net_from start came) event lines out world new → Leads state (script ++ event ∷ []) (told ++ lines) (with_event names event) new out
  leads_on images event lines new out built early widths s =
      let h : Happening = record { event = event; lucks = s.0 } in
      record {
        run = came ++ h ∷ [];
        events = map-append (λ (x : Happening). x.event) came (h ∷ []) ∙ ap (λ (es : List Event). es ++ event ∷ []) leads.events;
        lines_are = map-append line_of told lines
            ∙ ap (λ (ls : List Line). ls ++ map line_of lines) leads.lines_are
            ∙ ap (λ (ls : List Line). transcript_of (net_turns came) ++ ls) s.1.lines_are
            ∙ sym (transcript-push h start came);
        behind = behind_on state came names world is_out stands event early images lines new out built s;
        counted = counted_on images event s.0 new out built early s.1.moved;
        widths = all-append told lines leads.widths widths;
      }

  -- an event that isn't carried out leaves all as it was
  pub run_still : (new : World D) (out : ℕ → Bool) → IsUndone state (net_from start came) out world new → IsRun (Led state new) script told
  run_still new out u =
      run_with (Led state new) script told came leads.events leads.lines_are leads.widths stands.first stands.built
      (record { first = stands.first; built = stands.built; held = u.held.wire.nodes; counted = subst (λ (n : ℕ). Matches (net_faults start came) n) (sym u.same) leads.counted })

  -- an event sends too much, and the nodes are behind it
  pub run_over : (images : D → ℕ → List ℕ → Type 0) (event : Event) (new : World D) (out : ℕ → Bool) → IsBuilt event → (is_declaration event ≡ true → names.started ≡ false)
      → IsOver state images (net_from start came) event out world new → IsRun (GoesOver (Led state new) event) script told
  run_over images event new out built early o =
      run_with (GoesOver (Led state new) event) script told came leads.events leads.lines_are leads.widths stands.first stands.built
      (record { lucks = o.0; over = o.1.over; kept = led_on images event o.0 new out built early o.1.moved })

pub nothing_undone : {D : Type 0} (state : D → DiskState) (run : List Happening) (names : Names) (world : World D) (is_out : ℕ → Bool) → IsBehind state run names world is_out
    → IsUndone state (net_from start run) is_out world world
nothing_undone state run names world is_out behind = record { held = behind.held; out = behind.out; same = refl }

-- the disks of a world that went back
pub on_disks : {D : Type 0} (state : D → DiskState) (world : World D) (told : Option (ℕ → Option D))
    → ((w : moves.World) → nodes.Holds state w world.wire.nodes → IfSome told (λ disks. all_faults_back state disks w ≡ all_faults state world))
    → ((w : moves.World) → worlds.IsReached w → nodes.Holds state w world.wire.nodes → IfSome told (λ disks. AreRowsBack state disks w)) → (run : List Happening) → Led state world run
    → IsOnDisks state told run
on_disks state world None f k run led = tt
on_disks state world (Some disks) f k run led = record {
  faults = subst (λ (n : ℕ). Matches (net_faults start run) n) (sym (f (net_from start run).wire.world led.held)) led.counted;
  rows = λ table hosted at made. subst (λ (history : List Entry). IsRowsBack state disks (net_from start run).wire.world table history) (nets_told run led.first led.built table hosted at)
      (k (net_from start run).wire.world (nodes_reached run led.first led.built) led.held table hosted at made);
}
