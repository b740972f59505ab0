-- Along every run a list of a table's chunks, where its owner is quiet, has those that its rows name.
use Rattle.std.proofs.Common.{◌≡◌, ⊎_elim, ℕ, ◌<◌, Bool, true, false, List, [], ◌∷◌, Option, Some, None, refl, sym, ◌∙◌, ap, subst, arith}
use Rattle.std.specs.Prelude.{map, ◌==◌, if◌then◌else◌}
use Rattle.std.proofs.lemmas.Bool.Decides.{nat_tests}
use Rattle.stab_base.specs.declared.chunk_name.ChunkName.{ChunkName}
use Rattle.stab_base.specs.declared.node.Node.{Node}
use Rattle.stab_base.specs.declared.node.Node.TheVariants as nodes
use Rattle.row_value.specs.declared.schema.Schema.{Schema}
use Rattle.row_value.specs.declared.schema.Scheme.{Scheme}
use Rattle.table_model.specs.declared.event.Event.{Event}
use Rattle.table_model.specs.declared.event.Event.TheVariants as events
use Rattle.table_model.specs.declared.table_state.TableState.{TableState}
use Rattle.table_model.specs.declared.table_state.TableState.TheVariants as states
use Rattle.step_tables.specs.Facts.{Answer, Line}
use Rattle.step_tables.specs.Facts as facts
use Rattle.step_tables.specs.Messages.{Luck}
use Rattle.step_tables.specs.Messages as messages
use Rattle.step_tables.specs.Sayings.{Said, nothing_said, hear_lines}
use Rattle.step_tables.specs.Store.{Stored}
use Rattle.step_tables.specs.StoreMoves.{StoreDisk, StoreTask}
use Rattle.store_laws.specs.Part as part
use Rattle.client_laws.proofs.Law.{client_law}
use Rattle.client_laws.proofs.Grows.{client_grows, lapsed_grows}
use Rattle.world_tables.specs.Chunks.{AreChunks}
use Rattle.world_tables.specs.Quiet.{Quiet, at_first, names_in, AreTheChunks, schema_for, IsListed, AreListedFrom, AreListed, after}
use Rattle.world_tables.specs.Sound.{scheme_for}
use Rattle.world_tables.specs.Turns.{Happening, Turn, turns_from, turns}
use Rattle.world_tables.specs.World.{Lucks, World, Hosted, WorldStep, start, owner_by, owner_of, hosted_at, schema_at, chunk_in, has_node, is_down, tasks_in, lines_of, first_luck}
use Rattle.world_tables.specs.World.{answered, refused, new_hosted, with_table, made_with, declared, names_on, names_answer}
use Rattle.world_tables.specs.World.{chunk_names, step}
use Rattle.world_laws.proofs.Kept.{KnownIn, Kept}
use Rattle.world_laws.proofs.Looks.{look_cases}
use Rattle.world_laws.proofs.Ups.{IsUp, up_there, start_up, step_up}
use Rattle.world_laws.proofs.Runs.{step_sound, first_is, scheme_on, start_kept, events_are}
use Rattle.world_laws.proofs.Runs as runs
use Rattle.world_laws.proofs.Fresh.{fresh_part}
use Rattle.name_laws.proofs.Rows.{AreWellNamed}
use Rattle.name_laws.proofs.Keeps.{HasNames, named_now}
use Rattle.name_laws.proofs.Left.{IsClean}
use Rattle.name_laws.proofs.Listed.{listed}
use Rattle.name_laws.proofs.Idle.{AreBesideRows, clear_now}
use Rattle.name_laws.proofs.Moves.{IsFine}
use Rattle.name_laws.proofs.Steps.{stores_by, holds_by, schemas_by, step_stepped, lines_answer}
use Rattle.name_laws.proofs.Quiets.{Follows, start_follows, step_follows}

-- ---- what tables are: a declared one what its declaration said, and another what is to come says

pub record IsKnown (schemas : ℕ → Option Schema) (w : World) (es : List Event) : Type 0 where
  pub here : (table : ℕ) (schema : Schema) → schema_at w table ≡ Some schema → schemas table ≡ Some schema
  pub later : (table : ℕ) → hosted_at w table ≡ None → schemas table ≡ schema_for es table

with_new_there : (w : World) (table : ℕ) (schema : Schema) (state : TableState) (made : Bool) → hosted_at (with_table w table schema state made) table ≡ None → ⊥
with_new_there w table schema state made none = ⊎_elim (λ e. absurd (let both : Some new ≡ None = sym e.1 ∙ none in cc)) (λ e. absurd (e.0 refl)) (look_cases w.tables table new table)
  where
    new : Hosted
    new = new_hosted state made

new_there : (w : World) (table : ℕ) (schema : Schema) (state : TableState) (luck : Luck) → hosted_at (made_with w table schema state luck) table ≡ None → ⊥
new_there w table schema state messages.Done none = with_new_there w table schema state true none
new_there w table schema state messages.FailedBefore none = with_new_there w table schema state false none
new_there w table schema state messages.FailedAfter none = with_new_there w table schema state false none

declared_there : (w : World) (table : ℕ) (schema : Schema) (state : TableState) (luck : Luck) (o : Option Hosted) → hosted_at w table ≡ o
    → hosted_at (declared w table schema state luck o) table ≡ None → ⊥
declared_there w table schema state luck (Some hosted) at none = absurd (let both : Some hosted ≡ None = sym at ∙ none in cc)
declared_there w table schema state luck None at none = new_there w table schema state luck none

-- a table that isn't there behind its declaration says nothing of any
declared_on : (w : World) (number : ℕ) (schema : Schema) (state : TableState) (luck : Luck) (es : List Event) (table : ℕ)
    → hosted_at (declared w number schema state luck (hosted_at w number)) table ≡ None → (if number == table then Some schema else schema_for es table) ≡ schema_for es table
declared_on w number schema state luck es table none = go (number == table) refl
  where
    go : (b : Bool) → (number == table) ≡ b → (if b then Some schema else schema_for es table) ≡ schema_for es table
    go false e = refl
    go true e =
        let same : number ≡ table = grind (arith, nat_tests, e) in
        absurd (declared_there w number schema state luck (hosted_at w number) refl
        (subst (λ (n : ℕ). hosted_at (declared w number schema state luck (hosted_at w number)) n ≡ None) (sym same) none))

-- a table that isn't there behind an event wasn't declared by it
pub schema_on : (w : World) (event : Event) (lucks : Lucks) (es : List Event) (table : ℕ) → hosted_at (step w event lucks).world table ≡ None → schema_for (event ∷ es) table ≡ schema_for es table
schema_on w (events.Table number schema) lucks es table none = declared_on w number schema states.Live (first_luck lucks.calls) es table none
schema_on w (events.Draft number schema) lucks es table none = declared_on w number schema states.Draft (first_luck lucks.calls) es table none
schema_on w other lucks es table none = refl

-- the first declaration of a table says what it is
pub first_schema : (table : ℕ) (schema : Schema) (es : List Event) → (if table == table then Some schema else schema_for es table) ≡ Some schema
first_schema table schema es = go (table == table) refl
  where
    go : (b : Bool) → (table == table) ≡ b → (if b then Some schema else schema_for es table) ≡ Some schema
    go true e = refl
    go false e = absurd (grind (arith, nat_tests, e))

abbrev ArePut : (ℕ → Option Schema) → List (ℕ × Schema) → Type 0
ArePut schemas some = (table : ℕ) (schema : Schema) → schema_at (record start { schemas = some }) table ≡ Some schema → schemas table ≡ Some schema

module _ (schemas : ℕ → Option Schema) (w : World) where
  with_put : (table : ℕ) (schema : Schema) (state : TableState) (made : Bool) → schemas table ≡ Some schema → ArePut schemas w.schemas
      → ArePut schemas (with_table w table schema state made).schemas
  with_put table schema state made is put q x at = ⊎_elim (λ e. ap schemas e.0 ∙ (is ∙ (sym e.1 ∙ at))) (λ e. put q x (sym e.1 ∙ at)) (look_cases w.schemas table schema q)

  made_put : (table : ℕ) (schema : Schema) (state : TableState) (luck : Luck) → schemas table ≡ Some schema → ArePut schemas w.schemas
      → ArePut schemas (made_with w table schema state luck).schemas
  made_put table schema state messages.Done is put = with_put table schema state true is put
  made_put table schema state messages.FailedBefore is put = with_put table schema state false is put
  made_put table schema state messages.FailedAfter is put = with_put table schema state false is put

  declared_put : (table : ℕ) (schema : Schema) (state : TableState) (luck : Luck) (o : Option Hosted) → (o ≡ None → schemas table ≡ Some schema) → ArePut schemas w.schemas
      → ArePut schemas (declared w table schema state luck o).schemas
  declared_put table schema state luck (Some hosted) is put = put
  declared_put table schema state luck None is put = made_put table schema state luck (is refl) put

  event_put : (event : Event) (lucks : Lucks) (es : List Event) → IsKnown schemas w (event ∷ es) → ArePut schemas (schemas_by w event lucks)
  event_put (events.Draft table schema) lucks es s =
      declared_put table schema states.Draft (first_luck lucks.calls) (hosted_at w table) (λ none. s.later table none ∙ first_schema table schema es) s.here
  event_put (events.Table table schema) lucks es s =
      declared_put table schema states.Live (first_luck lucks.calls) (hosted_at w table) (λ none. s.later table none ∙ first_schema table schema es) s.here
  event_put other lucks es s = s.here

  step_known : IsFine w → (event : Event) (lucks : Lucks) (es : List Event) → ((table : ℕ) → hosted_at (step w event lucks).world table ≡ None → hosted_at w table ≡ None)
      → IsKnown schemas w (event ∷ es) → IsKnown schemas (step w event lucks).world es
  step_known fine event lucks es there s = record {
    here = subst (ArePut schemas) (sym (step_stepped w event lucks fine).schemas_are) (event_put event lucks es s);
    later = λ table none. s.later table (there table none) ∙ schema_on w event lucks es table none;
  }

-- ---- a list of chunks

told_now : (g : Scheme) (table : ℕ) (known : part.Known) (h : List Stored) (d : StoreDisk) (tasks : List StoreTask) → part.Runs g table known h d tasks → d.items ≡ h
told_now g table known h d [] runs = runs.0.items
told_now g table known h d (task ∷ more) runs = runs.0.items

names_listed : (names : List ChunkName) → names_in (names_answer names) ≡ Some names
names_listed [] = refl
names_listed (name ∷ names) = refl

module _ (g : ℕ → Scheme) (schemas : ℕ → Option Schema) (w : World) (s : Said) (q : Quiet) (k : Kept g w s) (up : IsUp w) (f : Follows w q) (put : ArePut schemas w.schemas) where
  known_at : (table : ℕ) (hosted : Hosted) → hosted_at w table ≡ Some hosted → schemas table ≡ schema_at w table
  known_at table hosted at = let schema = k.declared table hosted at in put table schema.0 schema.1 ∙ sym schema.1

  owner_at : (table : ℕ) (hosted : Hosted) → hosted_at w table ≡ Some hosted → owner_by q.stores (schemas table) ≡ owner_of w table
  owner_at table hosted at = ap (λ (stores : List ℕ). owner_by stores (schemas table)) f.stores ∙ ap (owner_by w.stores) (known_at table hosted at)

  on_devices : (table : ℕ) (hosted : Hosted) → hosted_at w table ≡ Some hosted → is_down w (nodes.Store (owner_of w table)) ≡ false → 0 < chunk_in (schemas table)
      → has_node q.loud (nodes.Store (owner_by q.stores (schemas table))) ≡ false
      → AreChunks s table (chunk_in (schemas table)) (names_on (chunk_in (schema_at w table)) hosted.store.disk)
  on_devices table hosted at is_up some quiet =
      let agenda = (up_there w up table hosted at is_up).1 in
      let rest : has_node q.loud (nodes.Store (owner_of w table)) ≡ false = ap (λ (n : ℕ). has_node q.loud (nodes.Store n)) (sym (owner_at table hosted at)) ∙ quiet in
      let tasks : List StoreTask = agenda.0 in
      let beside : AreBesideRows tasks = subst (λ (o : Option (List StoreTask)). AreBesideRows (tasks_in o)) agenda.1 (f.idle (owner_of w table) rest table hosted refl at) in
      let state = subst (λ (o : Option (List StoreTask)). part.IsAt (g table) table (KnownIn s.heard k.sent table) (k.items table) hosted.store.disk o) agenda.1 (k.stores table hosted at).0.state in
      let items = told_now (g table) table (KnownIn s.heard k.sent table) (k.items table) hosted.store.disk tasks state in
      let clean = clear_now tasks hosted.store.disk beside (subst (λ (o : Option (List StoreTask)). IsClean hosted.store.disk o) agenda.1 (f.fine.tables table hosted at).clean) in
      let named = named_now (chunk_in (schema_at w table)) hosted.store.disk.items tasks
      (subst (λ (o : Option (List StoreTask)). HasNames (chunk_in (schema_at w table)) hosted.store.disk o) agenda.1 (f.fine.tables table hosted at).named) in
      let size : chunk_in (schemas table) ≡ chunk_in (schema_at w table) = ap chunk_in (known_at table hosted at) in
      subst (λ (n : ℕ). AreChunks s table (chunk_in (schemas table)) (names_on n hosted.store.disk)) size
      (listed g w s k table (chunk_in (schemas table)) some hosted.store.disk items (subst (λ (n : ℕ). AreWellNamed n hosted.store.disk.items) (sym size) named) clean)

  chunks_listed : (table : ℕ) (o : Option Hosted) → hosted_at w table ≡ o → IsListed schemas s q (events.Chunks table) (chunk_names w table o).answer
  chunks_listed table None at = λ some quiet. tt
  chunks_listed table (Some hosted) at = go (is_down w node) refl
    where
      node : Node
      node = nodes.Store (owner_of w table)

      names : List ChunkName
      names = names_on (chunk_in (schema_at w table)) hosted.store.disk

      go : (b : Bool) → is_down w node ≡ b → IsListed schemas s q (events.Chunks table) (if b then refused w (facts.NodeDown node) else answered w (names_answer names)).answer
      go true down = λ some quiet. tt
      go false is_up = λ some quiet. subst (λ (o : Option (List ChunkName)). AreTheChunks s table (chunk_in (schemas table)) o) (sym (names_listed names)) (on_devices table hosted at is_up some quiet)

  event_listed : (event : Event) (lucks : Lucks) → IsListed schemas s q event (step w event lucks).answer
  event_listed (events.Chunks table) lucks = chunks_listed table (hosted_at w table) refl
  event_listed other lucks = tt

-- ---- runs

module _ (g : ℕ → Scheme) (schemas : ℕ → Option Schema) where
  abbrev AwaitsSchemes : World → List Event → Type 0
  AwaitsSchemes w es = runs.Awaits client_law client_grows lapsed_grows fresh_part g w es

  run_listed : (hs : List Happening) (w : World) (s : Said) (q : Quiet) → Kept g w s → IsUp w → Follows w q → AwaitsSchemes w (map (λ (h : Happening). h.event) hs)
      → IsKnown schemas w (map (λ (h : Happening). h.event) hs)
      → AreListedFrom schemas s q (turns_from w hs)
  run_listed [] w s q k up f awaits known = tt
  run_listed (h ∷ hs) w s q k up f awaits known =
      let es : List Event = map (λ (x : Happening). x.event) hs in
      let first = step_sound client_law client_grows lapsed_grows fresh_part g w s k up h.event h.lucks (first_is client_law client_grows lapsed_grows fresh_part g w s k h.event es awaits) in
      let x : WorldStep = step w h.event h.lucks in
      let answer = lines_answer w (stores_by w h.event) (holds_by w h.event h.lucks) (schemas_by w h.event h.lucks) x (step_stepped w h.event h.lucks f.fine) in (
        subst (λ (a : Option Answer). IsListed schemas s q h.event a) (sym answer) (event_listed g schemas w s q k up f known.here h.event h.lucks),
        run_listed hs x.world (hear_lines s (lines_of w x)) (after q (record { event = h.event; lines = lines_of w x })) first.kept (step_up w h.event h.lucks up) (step_follows w q h.event h.lucks f)
            (λ table none. awaits table (first.there table none) ∙ scheme_on client_law client_grows lapsed_grows fresh_part g w h.event h.lucks es table none)
            (step_known schemas w f.fine h.event h.lucks es first.there known),
      )

pub all_listed : (hs : List Happening) → AreListed (turns hs)
all_listed hs =
    let es : List Event = map (λ (turn : Turn). turn.event) (turns_from start hs) in
    let g : ℕ → Scheme = scheme_for es in
    run_listed g (schema_for es) hs start nothing_said at_first (start_kept client_law client_grows lapsed_grows fresh_part g) start_up start_follows
    (λ table none. ap (λ (ds : List Event). scheme_for ds table) (events_are hs start))
    (record { here = λ table schema at. absurd cc; later = λ table none. ap (λ (ds : List Event). schema_for ds table) (events_are hs start) })
