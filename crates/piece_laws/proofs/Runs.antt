-- Along every run the names of chunks stand for one chunk each.
use Rattle.std.proofs.Common.{◌≡◌, ℕ, true, List, [], ◌∷◌, Option, Some, None, refl, sym, ◌∙◌, ap, subst}
use Rattle.std.specs.Prelude.{map}
use Rattle.std.proofs.lemmas.Bool.{and_from}
use Rattle.stab_base.specs.declared.chunk_name.ChunkName.{ChunkName}
use Rattle.row_value.specs.declared.content.Content.{Content}
use Rattle.row_value.specs.declared.schema.Schema.{Schema}
use Rattle.row_value.specs.declared.schema.Scheme.{Scheme}
use Rattle.table_model.specs.declared.event.Event.{Event}
use Rattle.table_model.specs.declared.event.Event.TheVariants as events
use Rattle.step_tables.specs.Store.{Stored}
use Rattle.step_tables.specs.Items.{IsItemAt}
use Rattle.step_tables.specs.Members.{Among}
use Rattle.step_tables.specs.Messages.{Request, Header}
use Rattle.step_tables.specs.Chunks.{flat, objects_of, is_of_each, are_apart, is_spelled, is_named}
use Rattle.step_tables.specs.Sayings.{Said, nothing_said, hear_lines}
use Rattle.step_tables.specs.ClientMoves.{ClientTask, ClientDisk, slots_of, seen}
use Rattle.step_tables.proofs.Lists.{among_none}
use Rattle.client_laws.proofs.Law.{client_law}
use Rattle.client_laws.proofs.Grows.{client_grows, lapsed_grows}
use Rattle.world_tables.specs.Quiet.{schema_for}
use Rattle.world_tables.specs.Sound.{scheme_for}
use Rattle.world_tables.specs.Turns.{Happening, Turn, turns_from, world_from}
use Rattle.world_tables.specs.World.{World, Hosted, WorldStep, start, schema_at, hosted_at, chunk_in, lines_of, step}
use Rattle.world_laws.proofs.Kept.{Kept}
use Rattle.world_laws.proofs.Ups.{IsUp, start_up, step_up}
use Rattle.world_laws.proofs.Runs.{step_sound, first_is, scheme_on, start_kept, events_are}
use Rattle.world_laws.proofs.Runs as runs
use Rattle.world_laws.proofs.Fresh.{fresh_part}
use Rattle.name_laws.proofs.Runs.{schema_on, first_schema}
use Rattle.piece_laws.specs.Pieces.{items_in, items_at, asked_in, NamesOne, KeepsKnown, GoTogether, SlotsNamed, IsDead, IsOutcome, IsHeaderOf, IsHeader, IsKnown, NamesStand}
use Rattle.piece_laws.proofs.Disks.{AreNamed, IsNamedAt, now_named}
use Rattle.piece_laws.proofs.Worlds.{there_request, IsNamedWorld}
use Rattle.piece_laws.proofs.Outs.{different_apart}
use Rattle.piece_laws.proofs.Along.{named_at}
use Rattle.piece_laws.proofs.Ready.{one_item, one_content}
use Rattle.piece_laws.proofs.Events.{FitsFirst, step_named}

-- the size of a table's chunks, by its first declaration
abbrev sizes_in : List Event → ℕ → ℕ
sizes_in es table = chunk_in (schema_for es table)

module _ (size : ℕ → ℕ) where
  -- ---- what such a world says of names

  seen_named : (w : World) (c : ℕ) (d : ClientDisk) (agenda : Option (List ClientTask)) → IsNamedAt size c (items_at w) (asked_in w) d agenda → AreNamed size c (items_at w) (asked_in w) (seen d)
  seen_named w c d None k = k
  seen_named w c d (Some tasks) k = now_named size c (items_at w) (asked_in w) d tasks k

  -- a row has one content at a version, and so have two requests of one write
  record HaveOneContent (w : World) : Type 0 where
    items : (table : ℕ) (row : List ℕ) (version : ℕ) (i j : Stored) → IsItemAt (items_at w table) row version i → IsItemAt (items_at w table) row version j → i.content ≡ j.content
    requests : (p q : Request) → Among (asked_in w) p → Among (asked_in w) q → p.client ≡ q.client → p.number ≡ q.number → p.content ≡ q.content

  names_stand : (w : World) → IsNamedWorld size w → HaveOneContent w → NamesStand w
  names_stand w k contents = record {
    one = λ table schema at. one table schema at (hosted_at w table) refl;
    contents = contents.items;
    items = k.items;
    requests = λ q a schema at.
        let p = there_request w.packets q a in
        let known = subst (IsKnown size (items_at w) (asked_in w)) p.2 (k.packets p.0 p.1) in
        subst (λ (n : ℕ). (is_spelled n q.content q.pieces ≡ true) × KeepsKnown n (items_at w q.table) q.row q.content q.pieces) (k.sized q.table schema at) known;
    pairs = λ p q a b e n schema at.
        let x = k.pairs p q a b e n in
        (x.table_is, x.row_is, contents.requests p q a b e n, subst (λ (m : ℕ). GoTogether m (items_at w q.table) q.row p.pieces q.pieces) (k.sized q.table schema at) x.together);
    headers = λ packet a pulled is header some schema at.
        let known = subst (IsHeader (items_at w pulled.table)) some (subst (IsKnown size (items_at w) (asked_in w)) is (k.packets packet a)) in
        (known, subst (λ (n : ℕ). is_named n header.content header.names ≡ true) (k.sized pulled.table schema at) (header_named pulled.table header known));
    torn = λ packet a answer is header some schema at.
        let known = subst (IsHeader (items_at w answer.table)) some (subst (IsKnown size (items_at w) (asked_in w)) is (k.packets packet a)) in
        (known, subst (λ (n : ℕ). is_named n header.content header.names ≡ true) (k.sized answer.table schema at) (header_named answer.table header known));
    answers = λ packet a r is needs schema at.
        let known = subst (IsOutcome size (items_at w) (asked_in w) r) needs (subst (IsKnown size (items_at w) (asked_in w)) is (k.packets packet a)) in
        record {
          request = known.request;
          stands = known.stands;
          client_is = known.client_is;
          number_is = known.number_is;
          table_is = known.table_is;
          row_is = known.row_is;
          dead = subst (λ (n : ℕ). IsDead n (items_at w r.table) r.row known.request.pieces) (k.sized r.table schema at) known.dead;
          items = known.items;
        };
    clients = λ c node at table schema there row.
        subst (λ (n : ℕ). SlotsNamed n c (items_at w table) (asked_in w) table row (slots_of (seen node.disk) table row)) (k.sized table schema there)
        ((seen_named w c node.disk node.agenda (k.clients c node at)).rows table row);
  }
    where
      header_named : (table : ℕ) (header : Header) → IsHeaderOf (items_at w table) header → is_named (size table) header.content header.names ≡ true
      header_named table header h =
          let well = (named_at size w k table).all h.item h.is.stands in
          subst (λ (names : List (List ChunkName)). is_named (size table) header.content names ≡ true) h.names
          (subst (λ (content : Content). is_named (size table) content h.item.names ≡ true) h.content
          (and_from (is_of_each (size table) h.item.names (objects_of h.item.content)) (are_apart (flat h.item.names)) well.each (different_apart (flat h.item.names) well.different)))

      one : (table : ℕ) (schema : Schema) → schema_at w table ≡ Some schema → (o : Option Hosted) → hosted_at w table ≡ o → NamesOne schema.chunk (items_at w table)
      one table schema at None none = λ name a b r s x y. absurd (among_none x.item (subst (λ (l : List Stored). Among l x.item) (ap items_in none) x.stands))
      one table schema at (Some hosted) there =
          subst (λ (n : ℕ). NamesOne n (items_at w table)) (k.sized table schema at) (subst (λ (l : List Stored). NamesOne (size table) l) (sym (ap items_in there)) (k.tables table hosted there).linked.one)

  -- ---- runs

  abbrev AwaitsSizes : World → List Event → Type 0
  AwaitsSizes w es = (table : ℕ) → hosted_at w table ≡ None → size table ≡ sizes_in es table

  first_fits : (w : World) (event : Event) (es : List Event) → AwaitsSizes w (event ∷ es) → (g : ℕ → Scheme) (s : Said) (kept : Kept g w s) (k : IsNamedWorld size w) → FitsFirst size g w s kept k event
  first_fits w (events.Draft table schema) es awaits g s kept k = λ none. awaits table none ∙ ap chunk_in (first_schema table schema es)
  first_fits w (events.Table table schema) es awaits g s kept k = λ none. awaits table none ∙ ap chunk_in (first_schema table schema es)
  first_fits w other es awaits g s kept k = tt

  run_named : (g : ℕ → Scheme) (hs : List Happening) (w : World) (s : Said) → Kept g w s → IsUp w → IsNamedWorld size w
      → runs.Awaits client_law client_grows lapsed_grows fresh_part g w (map (λ (h : Happening). h.event) hs) → AwaitsSizes w (map (λ (h : Happening). h.event) hs)
      → IsNamedWorld size (world_from w hs) × HaveOneContent (world_from w hs)
  run_named g [] w s kept up k awaits sizes = (k, record { items = one_item g size w s kept; requests = one_content g size w s kept })
  run_named g (h ∷ hs) w s kept up k awaits sizes =
      let es : List Event = map (λ (x : Happening). x.event) hs in
      let first = step_sound client_law client_grows lapsed_grows fresh_part g w s kept up h.event h.lucks (first_is client_law client_grows lapsed_grows fresh_part g w s kept h.event es awaits) in
      let x : WorldStep = step w h.event h.lucks in
      run_named g hs x.world (hear_lines s (lines_of w x)) first.kept (step_up w h.event h.lucks up)
      (step_named size g w s kept k h.event h.lucks (first_fits w h.event es sizes g s kept k))
      (λ table none. awaits table (first.there table none) ∙ scheme_on client_law client_grows lapsed_grows fresh_part g w h.event h.lucks es table none)
      (λ table none. sizes table (first.there table none) ∙ ap chunk_in (schema_on w h.event h.lucks es table none))

  start_named : IsNamedWorld size start
  start_named = record {
    sized = λ table schema at. absurd cc;
    declared = λ table hosted at. absurd cc;
    tables = λ table hosted at. absurd cc;
    items = λ table i a. absurd (among_none i a);
    clients = λ c node at. absurd cc;
    packets = λ p a. absurd (among_none p a);
    pairs = λ p q a b e n. absurd (among_none p a);
  }

pub all_stand : (hs : List Happening) → NamesStand (world_from start hs)
all_stand hs =
    let es : List Event = map (λ (turn : Turn). turn.event) (turns_from start hs) in
    let g : ℕ → Scheme = scheme_for es in
    let run = run_named (sizes_in es) g hs start nothing_said (start_kept client_law client_grows lapsed_grows fresh_part g) start_up (start_named (sizes_in es))
    (λ table none. ap (λ (ds : List Event). scheme_for ds table) (events_are hs start))
    (λ table none. ap (λ (ds : List Event). sizes_in ds table) (events_are hs start)) in
    names_stand (sizes_in es) (world_from start hs) run.0 run.1
