-- In every run of wires each line has such a form.
use Rattle.std.proofs.Common.{◌≡◌, inl, inr, List, [], ◌∷◌, ◌++◌, refl, sym, ◌∙◌, ap, subst}
use Rattle.std.specs.Prelude.{map}
use Rattle.std.specs.List.{AllByRecursion}
use Rattle.table_model.specs.declared.line.TextLine.{TextLine}
use Rattle.step_tables.specs.Facts.{Line}
use Rattle.step_tables.specs.Lines.{line_of}
use Rattle.step_tables.specs.Members.{Among}
use Rattle.world_tables.specs.World.{World, schema_at}
use Rattle.world_tables.specs.Turns.{Happening, transcript_of}
use Rattle.fair_laws.specs.Reached.{IsBuilt}
use Rattle.fair_laws.specs.Worlds.{IsFairItem, IsFair}
use Rattle.fair_laws.proofs.Worlds.{reached_fair}
use Rattle.wire_tables.specs.Wire.{Wire, start, lines_of, wire_step}
use Rattle.wire_tables.specs.Runs.{wire_from, turns_from, wire_turns}
use Rattle.wire_laws.specs.Runs.{AreBuilt}
use Rattle.wire_laws.proofs.Carried.{reached_world}
use Rattle.line_widths.specs.Widths.{HasForm}
use Rattle.form_laws.specs.Forms.{HasLineForm}
use Rattle.form_laws.proofs.Values.{fit_value}
use Rattle.form_laws.proofs.Steps.{HaveValues}
use Rattle.form_laws.proofs.Texts.{forms_told}
use Rattle.form_laws.proofs.Wires.{all_join, lines_forms, wire_forms}

all_among : {X : Type 0} (P : X → Type 0) (xs : List X) (x : X) → AllByRecursion P xs → Among xs x → P x
unfolding Among
all_among P [] x all a = absurd a
all_among P (y ∷ xs) x all (inl is) = subst P is all.0
all_among P (y ∷ xs) x all (inr a) = all_among P xs x all.1 a

-- in a fair world each row at the Store has a value
fair_values : (w : World) → IsFair w → HaveValues w
fair_values w f table hosted at item a =
    let row = (all_among (IsFairItem (schema_at w table)) hosted.store.disk.items item (f.tables table hosted at).items a).content in
    fit_value row.0 item.content (f.made table row.0 row.1).spelled.some row.2

wire_push : (front : List Happening) (h : Happening) (v : Wire) → wire_from v (front ++ h ∷ []) ≡ (wire_step (wire_from v front) h.event h.lucks).wire
wire_push [] h v = refl
wire_push (first ∷ front) h v = wire_push front h (wire_step v first.event first.lucks).wire

-- behind any front of a run
forms_from : (run front : List Happening) → AreBuilt run → AreBuilt front → (v : Wire) → v ≡ wire_from start front → AllByRecursion HasLineForm (transcript_of (turns_from v run))
forms_from [] front built before v at = tt
forms_from (h ∷ run) front built before v at =
    let next : Wire = (wire_step v h.event h.lucks).wire in
    let there : next ≡ wire_from start (front ++ h ∷ []) = ap (λ (x : Wire). (wire_step x h.event h.lucks).wire) at ∙ sym (wire_push front h start) in
    all_join HasLineForm (lines_of v (wire_step v h.event h.lucks)) (transcript_of (turns_from next run))
    (lines_forms v (wire_step v h.event h.lucks) (wire_forms v (fair_values v.world (reached_fair v.world (reached_world v front before at))) h.event h.lucks))
    (forms_from run (front ++ h ∷ []) built.1 (all_join (λ (x : Happening). IsBuilt x.event) front (h ∷ []) before (built.0, tt)) next there)

pub run_forms : (run : List Happening) → AreBuilt run → AllByRecursion HasLineForm (transcript_of (wire_turns run))
run_forms run built = forms_from run [] built tt start refl

-- and so has each line that the program tells of it
pub told_forms : (run : List Happening) (told : List TextLine) → AreBuilt run → map line_of told ≡ transcript_of (wire_turns run) → AllByRecursion HasForm told
told_forms run told built is = forms_told told (subst (λ (lines : List Line). AllByRecursion HasLineForm lines) (sym is) (run_forms run built))
