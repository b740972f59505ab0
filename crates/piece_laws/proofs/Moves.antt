-- Each move of a client keeps what it has of the Store, and what it sends goes with what it sent before.
use Rattle.std.proofs.Common.{◌≡◌, ◌≢◌, ◌⊎◌, inl, inr, ⊎_elim, ℕ, ◌+◌, Bool, true, false, List, [], ◌∷◌, ◌++◌, Option, Some, None, Result, Ok, Err, refl, sym, ◌∙◌, ap, subst, append-nil, true≢false}
use Rattle.std.specs.Prelude.{◌==◌, nat_le, nat_lt, map, option_map, if◌then◌else◌}
use Rattle.std.proofs.lemmas.Bool.{eqb-true}
use Rattle.conflicts.specs.declared.pair.Choice.{Choice}
use Rattle.conflicts.specs.declared.pair.Choice.TheVariants as choices
use Rattle.conflicts.specs.declared.stored.Stored as resolvers
use Rattle.row_value.specs.declared.content.Content.{Content}
use Rattle.row_value.specs.declared.content.Content.TheVariants.{Gone, Row}
use Rattle.row_value.specs.declared.schema.Schema.{Schema}
use Rattle.row_value.specs.declared.schema.Scheme.{Scheme}
use Rattle.row_value.specs.declared.schema.Scheme.TheVariants.{Strong, Causal, Eventual}
use Rattle.row_value.specs.declared.fit.FitFault.{FitFault}
use Rattle.row_value.specs.Fit.{fit_of}
use Rattle.row_edits.specs.declared.change.Edit.{Edit}
use Rattle.row_edits.specs.Edit.{edited_to}
use Rattle.step_tables.specs.Client.{version_in}
use Rattle.step_tables.specs.Slots.{Main, Shadow, InFlight}
use Rattle.step_tables.specs.Store.{Stored}
use Rattle.step_tables.specs.Facts.{ClientFact, Fact, Answer}
use Rattle.step_tables.specs.Facts as facts
use Rattle.step_tables.specs.Items.{IsItemOf}
use Rattle.step_tables.specs.Members.{Among}
use Rattle.step_tables.specs.Messages.{Request, Response, Pulled, Header, Outcome, Message, Send, Luck, SyncRequest, SyncResponse, PullRequest, PullResponse}
use Rattle.step_tables.specs.Messages.{TornPulled, TornRowRequest, TornRowResponse}
use Rattle.step_tables.specs.Chunks.{is_named}
use Rattle.step_tables.specs.Messages as messages
use Rattle.step_tables.specs.ClientMoves as client
use Rattle.step_tables.specs.ClientMoves.{Slots, TableDisk, RowPut, Plan, ClientDisk, ClientTask, Client, ClientMove, ClientStep, Shape, Placed, RowOut, slots_at, slots_in, slots_of, table_at, seen, applied, planned_in, changed, quiet, begun, planning, keeps, rest_of, opening, ending}
use Rattle.step_tables.specs.ClientMoves.{TableChange, request_for, resent, spelled, strong_out, out_of, whole_out, shadow_at, shadow_of, client_step}
use Rattle.step_tables.proofs.Lists.{among_left, among_either}
use Rattle.client_laws.specs.Part.{Rising}
use Rattle.client_laws.specs.Spells.{Spells}
use Rattle.client_laws.proofs.Spelling.{spelled_spells, whole_spells}
use Rattle.name_laws.proofs.Rows.{AreWellNamed}
use Rattle.client_laws.proofs.Sends.{rows_found, IsFirst, first_is}
use Rattle.piece_laws.specs.Pieces.{KeepsKnown, KeepsNone, IsDead, IsOfRequest, IsNeeded, IsHeader, HasNames, IsSpelledOut, SlotsNamed}
use Rattle.piece_laws.proofs.Tables.{of_more}
use Rattle.piece_laws.proofs.Outs.{shadow_apart, spelled_known, whole_none, none_known, dead_keeps, header_names, accepted_names}
use Rattle.piece_laws.proofs.Disks.{HasSize, AreNamed, altered_named, SendsAll, Runs, IsNamedAt, IsNamedClient, requests_in, now_named, named_fewer, keeps_runs, ending_runs, rest_runs, plan_runs}
use Rattle.piece_laws.proofs.Rows.{plan, plan_named, out_behind, request_sent, named_sent, new_out, all_sent, of_waiting}

-- what a client that sends knows of its rows: they rise, and what may be sent next has a number that was never sent
pub record IsReady (c : ℕ) (sent : List Request) (d : ClientDisk) : Type 0 where
  pub rising : (table : ℕ) (opened : TableDisk) → table_at d table ≡ Some opened → Rising opened.rows
  pub unsent : (table : ℕ) (row : List ℕ) (m : Main) → (slots_of d table row).main ≡ Some m → (slots_of d table row).out ≡ None → (slots_of d table row).conflict ≡ None
      → (q : Request) → Among sent q → q.client ≡ c → q.number ≢ m.number
  pub others : (table : ℕ) (row : List ℕ) (m : Main) (other : ℕ) (place : List ℕ) (o : InFlight) → (slots_of d table row).main ≡ Some m → (slots_of d other place).out ≡ Some o
      → m.number ≡ o.number → (table ≡ other) × (row ≡ place)
  pub fresh : (q : Request) → Among sent q → q.client ≡ c → q.number ≢ d.last + 1
  pub fresh_out : (table : ℕ) (row : List ℕ) (o : InFlight) → (slots_of d table row).out ≡ Some o → d.last + 1 ≢ o.number

module _ (size : ℕ → ℕ) (c : ℕ) (h : ℕ → List Stored) where
  -- the items of the tables: each of a sent request, and well named
  abbrev pub IsStocked : List Request → Type 0
  IsStocked sent = ((t : ℕ) (i : Stored) → Among (h t) i → (q : Request) × IsOfRequest sent t i q) × ((t : ℕ) → AreWellNamed (size t) (h t))

  -- what is known of a message that is taken
  abbrev pub IsGivenOutcome : List Request → Response → Outcome → Type 0
  IsGivenOutcome sent r (messages.Accepted version) = (i : Stored) × IsItemOf (h r.table) c r.number r.row version i
  IsGivenOutcome sent r (messages.Again version) = (i : Stored) × IsItemOf (h r.table) c r.number r.row version i
  IsGivenOutcome sent r (messages.Late last) = Unit {0}
  IsGivenOutcome sent r (messages.Stale last) = Unit {0}
  IsGivenOutcome sent r (messages.Conflict last) = Unit {0}
  IsGivenOutcome sent r messages.NeedWhole = (r.client ≡ c) × IsNeeded size h sent r

  abbrev pub IsGiven : List Request → Message → Type 0
  IsGiven sent (SyncRequest q) = Unit {0}
  IsGiven sent (PullRequest pull) = Unit {0}
  IsGiven sent (SyncResponse r) = IsGivenOutcome sent r r.outcome
  IsGiven sent (PullResponse pulled) = IsHeader (h pulled.table) pulled.header
  IsGiven sent (TornRowRequest torn) = Unit {0}
  IsGiven sent (TornRowResponse answer) = IsHeader (h answer.table) answer.header

  pub record IsStep (sent : List Request) (s : ClientStep) : Type 0 where
    pub sends : SendsAll size c h sent s.sends
    pub client : IsNamedClient size c h (sent ++ requests_in s.sends) s.client

  -- ---- work, crashes and starts

  module _ (sent : List Request) where
    quiet_step : (d : ClientDisk) (agenda : Option (List ClientTask)) (a : Answer) → IsNamedAt size c h sent d agenda → IsStep sent (quiet d agenda a)
    quiet_step d agenda a k = record { sends = tt; client = subst (λ (s : List Request). IsNamedAt size c h s d agenda) (sym (append-nil sent)) k }

    at_rest : (d : ClientDisk) (agenda : Option (List ClientTask)) → IsNamedAt size c h sent d agenda → AreNamed size c h sent (seen d)
    at_rest d None k = k
    at_rest d (Some tasks) k = now_named size c h sent d tasks k

    behind_first : (d : ClientDisk) (task : ClientTask) (more : List ClientTask) → Runs size c h sent d (task ∷ more) → AreNamed size c h sent (seen (changed d task.change))
    behind_first d task more k =
        named_fewer size c h (sent ++ requests_in task.sends) sent (seen (changed d task.change)) (λ q a e. among_left sent (requests_in task.sends) q a)
        (now_named size c h (sent ++ requests_in task.sends) (changed d task.change) more k.2)

    crash_step : (d : ClientDisk) (agenda : Option (List ClientTask)) (luck : Luck) → IsNamedAt size c h sent d agenda → IsStep sent (client.crashed d agenda luck)
    crash_step d None luck k = quiet_step d None _ k
    crash_step d (Some []) luck k = quiet_step d None _ k.0
    crash_step d (Some (task ∷ more)) messages.FailedBefore k = quiet_step d None _ k.0
    crash_step d (Some (task ∷ more)) messages.FailedAfter k = quiet_step (changed d task.change) None _ (behind_first d task more k)
    crash_step d (Some (task ∷ more)) messages.Done k = quiet_step (changed d task.change) None _ (behind_first d task more k)

    failed_step : (d : ClientDisk) (agenda : Option (List ClientTask)) (luck : Luck) → IsNamedAt size c h sent d agenda
        → IsStep sent (record (client.crashed d agenda luck) { answer = facts.Refuses facts.NoDevice })
    failed_step d agenda luck k = let s = crash_step d agenda luck k in record { sends = s.sends; client = s.client }

    work_step : (d : ClientDisk) (agenda : Option (List ClientTask)) (luck : Luck) → IsNamedAt size c h sent d agenda → IsStep sent (client.worked d agenda luck)
    work_step d None messages.Done k = quiet_step d None _ k
    work_step d (Some []) messages.Done k = quiet_step d (Some []) _ k
    work_step d (Some (task ∷ more)) messages.Done k = record { sends = k.1; client = k.2 }
    work_step d agenda messages.FailedBefore k = failed_step d agenda messages.FailedBefore k
    work_step d agenda messages.FailedAfter k = failed_step d agenda messages.FailedAfter k

    start_step : (shape : Shape) (d : ClientDisk) (agenda : Option (List ClientTask)) → IsNamedAt size c h sent d agenda → IsStep sent (client.started c shape d agenda)
    start_step shape d (Some agenda) k = quiet_step d (Some agenda) _ k
    start_step shape d None k = go d.plan refl
      where
        resumed_step : (o : Option Plan) → Runs size c h sent d (opening shape o) → IsStep sent (client.resumed c shape d o)
        resumed_step o runs = record {
          sends = tt;
          client = subst (λ (s : List Request). Runs size c h s d (ending (facts.ClientRecovered c ∷ []) (opening shape o))) (sym (append-nil sent))
              (ending_runs size c h (facts.ClientRecovered c ∷ []) sent d (opening shape o) runs);
        }

        go : (o : Option Plan) → d.plan ≡ o → IsStep sent (client.resumed c shape d o)
        go None is = resumed_step None (keeps_runs size c h shape.before sent d (keeps shape.after)
            (subst (λ (tasks : List ClientTask). Runs size c h sent d tasks) (append-nil (keeps shape.after)) (keeps_runs size c h shape.after sent d [] (k, is))))
        go (Some p) is =
            let named : AreNamed size c h sent (applied p d) = subst (λ (o : Option Plan). AreNamed size c h sent (planned_in d o)) is k in
            resumed_step (Some p) (keeps_runs size c h shape.before sent d (rest_of shape p [])
            (rest_runs size c h shape sent d p [] is named tt (subst (λ (s : List Request). AreNamed size c h s (applied p d)) (sym (append-nil sent)) named)))

  -- ---- an idle client

  module _ (shape : Shape) (sent : List Request) (d : ClientDisk) (idle : Runs size c h sent d []) where
    named : AreNamed size c h sent d
    named = subst (λ (o : Option Plan). AreNamed size c h sent (planned_in d o)) idle.1 idle.0

    in_disk : (table : ℕ) (m : Option TableDisk) → table_at (seen d) table ≡ m → table_at d table ≡ m
    in_disk table m at = subst (λ (o : Option Plan). table_at (planned_in d o) table ≡ m) idle.1 at

    idle_step : (a : Answer) → IsStep sent (quiet d (Some []) a)
    idle_step a = quiet_step sent d (Some []) a idle

    pull_step : (sends : List Send) → requests_in sends ≡ [] → SendsAll size c h sent sends → IsStep sent (record (client.ignored d) { sends = sends })
    pull_step sends none known =
        record { sends = known; client = subst (λ (s : List Request). Runs size c h s d []) (sym (ap (λ (l : List Request). sent ++ l) none ∙ append-nil sent)) idle }

    plan_step : (a : Answer) (p : Plan) (sends : List Send) → requests_in sends ≡ [] → SendsAll size c h sent sends → AreNamed size c h sent (applied p d) → IsStep sent (begun shape d a p sends)
    plan_step a p sends none known behind = quiet_step sent d (Some (planning shape p sends)) a
        (plan_runs size c h shape sent d p sends idle.0 behind known
        (subst (λ (s : List Request). AreNamed size c h s (applied p d)) (sym (ap (λ (l : List Request). sent ++ l) none ∙ append-nil sent)) behind))

    module _ (table : ℕ) (o : TableDisk) (at : table_at d table ≡ Some o) (row : List ℕ) where
      here : slots_of d table row ≡ slots_at o row
      here = ap (λ (m : Option TableDisk). slots_in m row) at

      slots_named : SlotsNamed (size table) c (h table) sent table row (slots_at o row)
      slots_named = subst (λ (s : Slots). SlotsNamed (size table) c (h table) sent table row s) here (named.rows table row)

      -- slots whose Out is as before, or none
      abbrev IsSame : Slots → Type 0
      IsSame s = (s.out ≡ None) ⊎ (s.out ≡ (slots_at o row).out)

      same_apart : (s : Slots) → IsSame s → (x : InFlight) → s.out ≡ Some x → (other : ℕ) (place : List ℕ) (p : InFlight) → (slots_of d other place).out ≡ Some p
          → x.number ≡ p.number → (table ≡ other) × (row ≡ place)
      same_apart s (inl none) x is other place p waits n = absurd (let e : None ≡ Some x = sym none ∙ is in cc)
      same_apart s (inr same) x is other place p waits n = named.apart table row x other place p (ap (λ (z : Slots). z.out) here ∙ (sym same ∙ is)) waits n

      behind : (s : Slots) (last : ℕ) (position : Option ℕ) (fs : List ClientFact) → SlotsNamed (size table) c (h table) sent table row s
          → ((x : InFlight) → s.out ≡ Some x → (other : ℕ) (place : List ℕ) (p : InFlight) → (slots_of d other place).out ≡ Some p → x.number ≡ p.number → (table ≡ other) × (row ≡ place))
          → AreNamed size c h sent (applied (plan table last (Some (record { row = row; slots = s })) position fs) d)
      behind s last position fs new apart =
          let put : RowPut = record { row = row; slots = s } in
          plan_named table last (Some put) position fs size c h sent d named
          (λ x e. let same : put ≡ x = cc in subst (λ (z : RowPut). SlotsNamed (size table) c (h table) sent table z.row z.slots) same new)
          (λ x e. let same : put ≡ x = cc in
          subst (λ (z : RowPut). (y : InFlight) → z.slots.out ≡ Some y → (other : ℕ) (place : List ℕ) (p : InFlight) → (slots_of d other place).out ≡ Some p → y.number ≡ p.number
          → (table ≡ other) × (z.row ≡ place)) same apart)

      change_step : (a : Answer) (s : Slots) (last : ℕ) (position : Option ℕ) (fs : List ClientFact) (sends : List Send) → requests_in sends ≡ [] → SendsAll size c h sent sends
          → SlotsNamed (size table) c (h table) sent table row s → IsSame s → IsStep sent (begun shape d a (plan table last (Some (record { row = row; slots = s })) position fs) sends)
      change_step a s last position fs sends none known new same =
          plan_step a (plan table last (Some (record { row = row; slots = s })) position fs) sends none known (behind s last position fs new (same_apart s same))

      -- a plan of a write that is sent at its end
      send_runs : (s : Slots) (out : InFlight) (last : ℕ) (fs : List ClientFact) → s.out ≡ Some out → SlotsNamed (size table) c (h table) sent table row s
          → ((other : ℕ) (place : List ℕ) (p : InFlight) → (slots_of d other place).out ≡ Some p → out.number ≡ p.number → (table ≡ other) × (row ≡ place))
          → Runs size c h sent d (planning shape (plan table last (Some (record { row = row; slots = s })) None fs) (request_for c table row out ∷ []))
      send_runs s out last fs is new apart =
          let p : Plan = plan table last (Some (record { row = row; slots = s })) None fs in
          let k : AreNamed size c h sent (applied p d) =
          behind s last None fs new (λ x e other place y waits n. apart other place y waits (ap (λ (z : InFlight). z.number) (some_out out x (sym is ∙ e)) ∙ n)) in
          let waits : (slots_of (applied p d) table row).out ≡ Some out =
          ap (λ (z : Slots). z.out) (out_behind table last (Some (record { row = row; slots = s })) None fs d o at (record { row = row; slots = s }) refl) ∙ is in
          plan_runs size c h shape sent d p (request_for c table row out ∷ []) idle.0 k (request_sent size c h sent (applied p d) k table row out waits, tt)
          (named_sent size c h sent (applied p d) k table row out waits)
        where
          some_out : (x y : InFlight) → Some x ≡ Some y → x ≡ y
          some_out x y e = cc

      spelled_here : (out : InFlight) → KeepsKnown (size table) (h table) row out.content (spelled o.schema.chunk (slots_at o row).shadow out).pieces
      spelled_here out = subst (λ (n : ℕ). KeepsKnown (size table) (h table) row out.content (spelled n (slots_at o row).shadow out).pieces) (sym (named.sized table o at))
          (spelled_known (size table) (h table) row (slots_at o row).shadow slots_named.shadow out)

      spells_here : IsStocked sent → (out : InFlight) → Spells (size table) (spelled o.schema.chunk (slots_at o row).shadow out)
      spells_here items out = subst (λ (n : ℕ). Spells (size table) (spelled n (slots_at o row).shadow out)) (sym (named.sized table o at))
          (spelled_spells (size table) (slots_at o row).shadow out (shadow_apart (size table) (h table) row (slots_at o row).shadow (items.1 table) slots_named.shadow))

      -- ---- write

      strong_step : IsReady c sent d → IsStocked sent → (x : Content) (w : Option InFlight)
          → IsStep sent (client.write_strong o.schema.chunk c shape d table row (slots_at o row) x w)
      strong_step ready items x (Some w) = idle_step _
      strong_step ready items x None =
          let out : InFlight = strong_out o.schema.chunk (d.last + 1) (slots_at o row) x in
          let first : InFlight = out_of (client.main_of (d.last + 1) (version_in (slots_at o row).shadow) x) (version_in (slots_at o row).shadow) in
          let s : Slots = record (slots_at o row) { out = Some out } in
          quiet_step sent d _ _ (send_runs s out (d.last + 1) _ refl
          (record {
            shadow = slots_named.shadow;
            conflict = slots_named.conflict;
            out = λ y e. let same : out ≡ y = cc in subst (λ (z : InFlight). IsSpelledOut (size table) c (h table) sent table row z) same
                (new_out size c h sent items.0 table row out (spells_here items first) (spelled_here first) ready.fresh);
          })
          (λ other place p waits n. absurd (ready.fresh_out other place p waits n)))

      by_step : IsReady c sent d → IsStocked sent → (g : Scheme) (x : Content)
          → IsStep sent (client.write_by g c shape d table row o (slots_at o row) x)
      by_step ready items Strong x = strong_step ready items x (client.first_out o.rows)
      by_step ready items Causal x = change_step _ _ _ None _ [] refl tt (record { shadow = slots_named.shadow; conflict = slots_named.conflict; out = slots_named.out }) (inr refl)
      by_step ready items Eventual x = change_step _ _ _ None _ [] refl tt (record { shadow = slots_named.shadow; conflict = slots_named.conflict; out = slots_named.out }) (inr refl)

      free_step : IsReady c sent d → IsStocked sent → (g : Scheme) (x : Content) (y : Option Shadow)
          → IsStep sent (client.write_free g c shape d table row o (slots_at o row) x y)
      free_step ready items g x None = by_step ready items g x
      free_step ready items g x (Some y) = idle_step _

      -- ---- resolving

      over_named : (m : Option Main) (x : Shadow) → (slots_at o row).conflict ≡ Some x
          → SlotsNamed (size table) c (h table) sent table row (record (slots_at o row) { main = m; shadow = Some x; conflict = None })
      over_named m x is = record {
        shadow = λ y e. let same : x ≡ y = cc in slots_named.conflict y (is ∙ ap (λ (z : Shadow). Some z) same);
        conflict = λ y e. absurd cc;
        out = slots_named.out;
      }

      choose_step : (schema : Schema) (main : Main) (x : Shadow) → (slots_at o row).conflict ≡ Some x → (choice : Choice)
          → IsStep sent (client.choose c shape d table row schema (slots_at o row) main x choice)
      choose_step schema main x is choices.Mine = change_step _ _ _ None _ [] refl tt (over_named _ x is) (inr refl)
      choose_step schema main x is choices.Theirs = change_step _ _ _ None _ [] refl tt (over_named _ x is) (inr refl)
      choose_step schema main x is (choices.New content) = fits (fit_of schema content)
        where
          fits : (fit : Result (Unit {0}) FitFault) → IsStep sent (client.over_fitting c shape d table row (slots_at o row) main x content fit)
          fits (Ok it) = change_step _ _ _ None _ [] refl tt (over_named _ x is) (inr refl)
          fits (Err fault) = idle_step _

      resolve_step : (schema : Schema) (version : ℕ) (choice : Choice) (main : Option Main) (conflict : Option Shadow) → (slots_at o row).conflict ≡ conflict
          → IsStep sent (client.resolve_over c shape d table row schema (slots_at o row) version choice main conflict)
      resolve_step schema version choice None conflict is = idle_step _
      resolve_step schema version choice (Some main) None is = idle_step _
      resolve_step schema version choice (Some main) (Some x) is = go (x.version == version)
        where
          go : (b : Bool) → IsStep sent (if b then client.choose c shape d table row schema (slots_at o row) main x choice else client.refused d (facts.Moved version x.version))
          go true = choose_step schema main x is choice
          go false = idle_step _

      -- ---- answers

      accepted_step : IsStocked sent → (out : InFlight) → (slots_at o row).out ≡ Some out → (version : ℕ) (i : Stored)
          → IsItemOf (h table) c out.number row version i → IsStep sent (begun shape d facts.Done (client.ack_plan c d table row (slots_at o row) out version) [])
      accepted_step items out waits version i is =
          let spelt = slots_named.out out waits in
          let q = items.0 table i is.stands in
          let of = spelt.requests q.0 q.1.stands (q.1.client_is ∙ is.client_is) (q.1.number_is ∙ is.number_is) in
          change_step _ _ _ None _ [] refl tt (record {
            shadow = λ y e. let same : shadow_at version out ≡ y = cc in subst (HasNames (h table) row) same
                (accepted_names (size table) c (h table) sent table row out version i spelt is (sym q.1.content_is ∙ of.content_is));
            conflict = slots_named.conflict;
            out = λ y e. absurd cc;
          }) (inl refl)

      whole_step : (out : InFlight) → (slots_at o row).out ≡ Some out → out.whole ≡ false → (r : Response) → r.client ≡ c → r.table ≡ table → r.row ≡ row → r.number ≡ out.number
          → IsNeeded size h sent r → IsStep sent (begun shape d facts.Done (client.whole_plan d table row (slots_at o row) out) (request_for c table row (whole_out out) ∷ []))
      whole_step out waits part r client_is table_is row_is number_is needed =
          quiet_step sent d _ _ (send_runs (record (slots_at o row) { out = Some (whole_out out) }) (whole_out out) d.last [] refl
          (record {
            shadow = slots_named.shadow;
            conflict = slots_named.conflict;
            out = λ y e. let same : whole_out out ≡ y = cc in subst (λ (z : InFlight). IsSpelledOut (size table) c (h table) sent table row z) same whole;
          })
          (λ other place p w n. named.apart table row out other place p (ap (λ (z : Slots). z.out) here ∙ waits) w n))
        where
          spelt : IsSpelledOut (size table) c (h table) sent table row out
          spelt = slots_named.out out waits

          -- a request of the write spells it as it waits
          alike : (q : Request) → Among sent q → q.client ≡ c → q.number ≡ out.number → q.pieces ≡ out.pieces
          alike q a e n = ⊎_elim (λ same. same) (λ x. absurd (true≢false (sym x.0 ∙ part))) (spelt.requests q a e n).pieces

          dead : IsDead (size table) (h table) row out.pieces
          dead = subst (λ (ps : _). IsDead (size table) (h table) row ps) (alike needed.request needed.stands (needed.client_is ∙ client_is) (needed.number_is ∙ number_is))
              (subst (λ (z : List ℕ). IsDead (size table) (h table) z needed.request.pieces) row_is
              (subst (λ (n : ℕ). IsDead (size n) (h n) r.row needed.request.pieces) table_is needed.dead))

          whole : IsSpelledOut (size table) c (h table) sent table row (whole_out out)
          whole = record {
            spells = whole_spells (size table) out spelt.spells;
            keeps = none_known (size table) (h table) row out.content (whole_out out).pieces (whole_none 0 out.pieces);
            names = λ version i is.
                let q = needed.items i (subst (λ (n : ℕ). Among (h n) i) (sym table_is) is.stands) (is.client_is ∙ sym client_is) (is.number_is ∙ sym number_is) (is.row_is ∙ sym row_is) in
                let of = q.1 in
                absurd (dead_keeps (size table) (h table) row out.pieces dead
                (subst KeepsNone (alike q.0 of.stands (of.client_is ∙ is.client_is) (of.number_is ∙ is.number_is)) q.2));
            requests = λ q a e n.
                let of = spelt.requests q a e n in
                record {
                  table_is = of.table_is;
                  row_is = of.row_is;
                  content_is = of.content_is;
                  pieces = inr (refl, whole_none 0 out.pieces, subst (λ (ps : _). IsDead (size table) (h table) row ps) (sym (alike q a e n)) dead);
                };
          }

      outcome_step : IsStocked sent → (out : InFlight) → (slots_at o row).out ≡ Some out
          → (r : Response) → r.table ≡ table → r.row ≡ row → out.number ≡ r.number → (x : Outcome) → IsGivenOutcome sent r x
          → IsStep sent (client.outcome_taken c shape d table row o (slots_at o row) out x)
      outcome_step items out waits r table_is row_is n (messages.Accepted version) f = accepted_step items out waits version f.0 (item_here version f.0 f.1)
        where
          item_here : (v : ℕ) (i : Stored) → IsItemOf (h r.table) c r.number r.row v i → IsItemOf (h table) c out.number row v i
          item_here v i k = record { stands = subst (λ (t : ℕ). Among (h t) i) table_is k.stands; client_is = k.client_is; number_is = k.number_is ∙ sym n; row_is = k.row_is ∙ row_is; version_is = k.version_is }
      outcome_step items out waits r table_is row_is n (messages.Again version) f = accepted_step items out waits version f.0 (item_here version f.0 f.1)
        where
          item_here : (v : ℕ) (i : Stored) → IsItemOf (h r.table) c r.number r.row v i → IsItemOf (h table) c out.number row v i
          item_here v i k = record { stands = subst (λ (t : ℕ). Among (h t) i) table_is k.stands; client_is = k.client_is; number_is = k.number_is ∙ sym n; row_is = k.row_is ∙ row_is; version_is = k.version_is }
      outcome_step items out waits r table_is row_is n (messages.Late last) f = idle_step _
      outcome_step items out waits r table_is row_is n (messages.Stale latest) f =
          change_step _ _ _ None _ _ refl (tt, tt) (record { shadow = slots_named.shadow; conflict = slots_named.conflict; out = λ y e. absurd cc }) (inl refl)
      outcome_step items out waits r table_is row_is n (messages.Conflict latest) f = pull_step _ refl (tt, tt)
      outcome_step items out waits r table_is row_is n messages.NeedWhole f = go out.whole refl
        where
          go : (b : Bool) → out.whole ≡ b → IsStep sent (if b then client.ignored d
              else begun shape d facts.Done (client.whole_plan d table row (slots_at o row) out) (request_for c table row (whole_out out) ∷ []))
          go true is = idle_step _
          go false is = whole_step out waits is r f.0 table_is row_is (sym n) f.1

      -- ---- a row from the Store

      abbrev IsPlaced : Placed → Type 0
      IsPlaced x = SlotsNamed (size table) c (h table) sent table row x.slots × IsSame x.slots

      new_placed : (hd : Header) (s : Slots) (before : List ClientFact) → HasNames (h table) row (shadow_of hd) → SlotsNamed (size table) c (h table) sent table row s → IsSame s
          → IsPlaced (client.read_new c table hd s before)
      new_placed hd s before has k same = (
        record { shadow = λ y e. let one : shadow_of hd ≡ y = cc in subst (HasNames (h table) row) one has; conflict = k.conflict; out = k.out },
        same,
      )

      conflict_placed : (hd : Header) (s : Slots) (before : List ClientFact) (m : Main) → HasNames (h table) row (shadow_of hd) → SlotsNamed (size table) c (h table) sent table row s
          → IsPlaced (client.read_conflict c table hd s before m)
      conflict_placed hd s before m has k = (
        record { shadow = k.shadow; conflict = λ y e. let one : shadow_of hd ≡ y = cc in subst (HasNames (h table) row) one has; out = λ y e. absurd cc },
        inl refl,
      )

      placed_named : (g : Scheme) (hd : Header) (s : Slots) (before : List ClientFact) (m : Option Main) (x : Option Shadow) → HasNames (h table) row (shadow_of hd)
          → SlotsNamed (size table) c (h table) sent table row s → IsSame s → IsPlaced (client.placed g c table hd s before m x)
      placed_named g hd s before None x has k same = new_placed hd s before has k same
      placed_named g hd s before (Some m) (Some x) has k same = go (client.is_weak g)
        where
          go : (b : Bool) → IsPlaced (if b then client.read_new c table hd s before else client.read_conflict c table hd s before m)
          go true = new_placed hd s before has k same
          go false = conflict_placed hd s before m has k
      placed_named g hd s before (Some m) None has k same = go (client.reads_over g hd.yours.version hd.version)
        where
          go : (b : Bool) → IsPlaced (if b then client.read_new c table hd s before else client.read_conflict c table hd s before m)
          go true = new_placed hd s before has k same
          go false = conflict_placed hd s before m has k

      row_named : (g : Scheme) (hd : Header) → HasNames (h table) row (shadow_of hd) → (out : Option InFlight) → IsPlaced (client.row_placed g c table hd (slots_at o row) out)
      row_named g hd has None = placed_named g hd (slots_at o row) [] _ _ has slots_named (inr refl)
      row_named g hd has (Some out) = go (nat_le out.number hd.yours.number)
        where
          go : (b : Bool) → IsPlaced (if b then client.placed g c table hd (client.freed (slots_at o row) out.number)
              (facts.Acked c out.number table hd.row hd.yours.version ∷ []) (client.without out.number (slots_at o row).main) (slots_at o row).conflict
              else client.placed g c table hd (slots_at o row) [] (slots_at o row).main (slots_at o row).conflict)
          go true = placed_named g hd (client.freed (slots_at o row) out.number) (facts.Acked c out.number table hd.row hd.yours.version ∷ []) (client.without out.number (slots_at o row).main)
              (slots_at o row).conflict has
              (record { shadow = slots_named.shadow; conflict = slots_named.conflict; out = λ y e. absurd cc }) (inl refl)
          go false = placed_named g hd (slots_at o row) [] (slots_at o row).main (slots_at o row).conflict has slots_named (inr refl)

    -- ---- messages

    response_step : IsStocked sent → (r : Response) → IsGivenOutcome sent r r.outcome → (o : Option TableDisk)
        → table_at d r.table ≡ o → IsStep sent (client.response_in c shape d r o)
    response_step items r given None at = idle_step _
    response_step items r given (Some o) at = waits (slots_at o r.row).out refl
      where
        waits : (out : Option InFlight) → (slots_at o r.row).out ≡ out → IsStep sent (client.response_taken c shape d r o out)
        waits None is = idle_step _
        waits (Some out) is = go (out.number == r.number) refl
          where
            go : (b : Bool) → (out.number == r.number) ≡ b → IsStep sent (if b then client.outcome_taken c shape d r.table r.row o (slots_at o r.row) out r.outcome else client.ignored d)
            go true n = outcome_step r.table o at r.row items out is r refl refl (eqb-true out.number r.number n) r.outcome given
            go false n = idle_step _

    next_known : (table : ℕ) (q : Pulled) → (requests_in (client.next_pull c table q) ≡ []) × SendsAll size c h sent (client.next_pull c table q)
    next_known table q = go (nat_lt q.to q.latest)
      where
        go : (b : Bool) → (requests_in (if b then client.pull_from c table q.to ∷ [] else []) ≡ []) × SendsAll size c h sent (if b then client.pull_from c table q.to ∷ [] else [])
        go true = (refl, (tt, tt))
        go false = (refl, tt)

    position_step : (q : Pulled) → IsStep sent (begun shape d facts.Done (client.position_plan c d q.table q.to) (client.next_pull c q.table q))
    position_step q =
        let known = next_known q.table q in
        plan_step _ _ _ known.0 known.1
        (plan_named q.table d.last None (Some q.to) (facts.Position c q.table q.to ∷ []) size c h sent d named (λ x e. absurd cc) (λ x e. absurd cc))

    pulled_step : (q : Pulled) → IsHeader (h q.table) q.header → (o : Option TableDisk) → table_at d q.table ≡ o → IsStep sent (client.pulled_in c shape d q o)
    pulled_step q given None at = idle_step _
    pulled_step q given (Some o) at = with_header q.header given
      where
        taken : (hd : Header) → IsHeader (h q.table) (Some hd) → IsStep sent (client.row_taken c shape d q o hd (slots_at o hd.row))
        taken hd k = go (nat_le hd.version (client.top (slots_at o hd.row).conflict (slots_at o hd.row).shadow))
          where
            placed : Placed
            placed = client.row_placed o.schema.scheme c q.table hd (slots_at o hd.row) (slots_at o hd.row).out

            go : (b : Bool) → IsStep sent (if b
                then begun shape d facts.Done (client.position_plan c d q.table q.to) (client.next_pull c q.table q)
                else begun shape d facts.Done (client.row_plan c d q.table hd.row q.to placed) (client.next_pull c q.table q))
            go true = position_step q
            go false =
                let known = next_known q.table q in
                let k2 = row_named q.table o at hd.row o.schema.scheme hd (header_names (h q.table) hd k) (slots_at o hd.row).out in
                change_step q.table o at hd.row facts.Done placed.slots d.last (Some q.to) (placed.facts ++ facts.Position c q.table q.to ∷ []) (client.next_pull c q.table q) known.0 known.1 k2.0 k2.1

        with_header : (x : Option Header) → IsHeader (h q.table) x → IsStep sent (client.pulled_taken c shape d q o x)
        with_header None k = idle_step _
        with_header (Some hd) k = go (client.comes_next q o hd)
          where
            go : (b : Bool) → IsStep sent (if b then client.row_taken c shape d q o hd (slots_at o hd.row) else client.ignored d)
            go true = taken hd k
            go false = idle_step _

    torn_step : (q : TornPulled) → IsHeader (h q.table) q.header → (o : Option TableDisk) → table_at d q.table ≡ o → IsStep sent (client.torn_in c shape d q o)
    torn_step q given None at = idle_step _
    torn_step q given (Some o) at = with_header q.header given
      where
        taken : (hd : Header) → IsHeader (h q.table) (Some hd) → IsStep sent (client.torn_row_taken c shape d q.table o hd (slots_at o hd.row))
        taken hd k = go (nat_le hd.version (client.top (slots_at o hd.row).conflict (slots_at o hd.row).shadow))
          where
            placed : Placed
            placed = client.row_placed o.schema.scheme c q.table hd (slots_at o hd.row) (slots_at o hd.row).out

            go : (b : Bool) → IsStep sent (if b
                then record (client.ignored d) { sends = client.pull_from c q.table o.position ∷ [] }
                else begun shape d facts.Done (client.torn_plan d q.table hd.row placed) (client.pull_from c q.table o.position ∷ []))
            go true = pull_step _ refl (tt, tt)
            go false =
                let k2 = row_named q.table o at hd.row o.schema.scheme hd (header_names (h q.table) hd k) (slots_at o hd.row).out in
                change_step q.table o at hd.row facts.Done placed.slots d.last None placed.facts (client.pull_from c q.table o.position ∷ []) refl (tt, tt) k2.0 k2.1

        with_header : (x : Option Header) → IsHeader (h q.table) x → IsStep sent (client.torn_taken c shape d q.table o x)
        with_header None k = pull_step _ refl (tt, tt)
        with_header (Some hd) k = go (is_named o.schema.chunk hd.content hd.names)
          where
            go : (b : Bool) → IsStep sent (if b then client.torn_row_taken c shape d q.table o hd (slots_at o hd.row) else client.ignored d)
            go true = taken hd k
            go false = idle_step _

    -- the plan of a row's next write
    sending_first : IsStocked sent → (table : ℕ) (o : TableDisk) → table_at d table ≡ Some o → (y : RowOut)
        → (k : IsFirst o.rows y) → slots_at o y.row ≡ y.slots → ((q : Request) → Among sent q → q.client ≡ c → q.number ≢ k.main.number)
        → ((other : ℕ) (place : List ℕ) (p : InFlight) → (slots_of d other place).out ≡ Some p → k.main.number ≡ p.number → (table ≡ other) × (y.row ≡ place))
        → Runs size c h sent d (planning shape (client.send_plan d table (client.row_out o.schema.chunk y)) (request_for c table y.row (client.row_out o.schema.chunk y).out ∷ []))
    sending_first items table o at y k here_is unsent others =
        send_runs table o at y.row (record y.slots { out = Some out }) out d.last [] refl (record {
          shadow = old.shadow;
          conflict = old.conflict;
          out = λ z e. let same : out ≡ z = cc in subst (λ (w : InFlight). IsSpelledOut (size table) c (h table) sent table y.row w) same
              (new_out size c h sent items.0 table y.row out spells spelt (λ q a e2 n. unsent q a e2 (n ∙ number)));
        })
        (λ other place p w n. others other place p w (sym number ∙ n))
      where
        out : InFlight
        out = (client.row_out o.schema.chunk y).out

        number : out.number ≡ k.main.number
        number = ap (λ (x : InFlight). x.number) k.sends

        old : SlotsNamed (size table) c (h table) sent table y.row y.slots
        old = subst (λ (s : Slots). SlotsNamed (size table) c (h table) sent table y.row s) here_is (slots_named table o at y.row)

        spells : Spells (size table) out
        spells = subst (λ (s : Slots). Spells (size table) (spelled o.schema.chunk s.shadow y.out)) here_is (spells_here table o at y.row items y.out)

        spelt : KeepsKnown (size table) (h table) y.row out.content out.pieces
        spelt = subst (λ (s : Slots). KeepsKnown (size table) (h table) y.row y.out.content (spelled o.schema.chunk s.shadow y.out).pieces) here_is (spelled_here table o at y.row y.out)

  module _ (shape : Shape) (sent : List Request) (d : ClientDisk) (idle : Runs size c h sent d []) where
    -- ---- sync

    first_step : IsReady c sent d → IsStocked sent → (table : ℕ) (o : TableDisk) → table_at d table ≡ Some o
        → (x : Option RowOut) → client.first_to_send o.rows ≡ x → IsStep sent (client.sync_first c shape d table (resent c table o.rows) (option_map (client.row_out o.schema.chunk) x))
    first_step ready items table o at x is = go x is
      where
        found : (y : List ℕ × Slots) → Among o.rows y → slots_of d table y.0 ≡ y.1
        found y a = ap (λ (m : Option TableDisk). slots_in m y.0) at ∙ rows_found o y (ready.rising table o at) a

        again : SendsAll size c h sent (resent c table o.rows) × AreNamed size c h (sent ++ requests_in (resent c table o.rows)) d
        again = all_sent size c h d table o.rows found sent (named shape sent d idle)

        later : Runs size c h (sent ++ requests_in (resent c table o.rows)) d []
        later = (subst (λ (p : Option Plan). AreNamed size c h (sent ++ requests_in (resent c table o.rows)) (planned_in d p)) (sym idle.1) again.1, idle.1)

        go : (y : Option RowOut) → client.first_to_send o.rows ≡ y → IsStep sent (client.sync_first c shape d table (resent c table o.rows) (option_map (client.row_out o.schema.chunk) y))
        go None e = record { sends = again.0; client = later }
        go (Some y) e = record {
          sends = again.0;
          client = sending_first shape (sent ++ requests_in (resent c table o.rows)) d later items_later table o at y first
              (ap (λ (m : Option TableDisk). slots_in m y.row) (sym at) ∙ slots_are) unsent others;
        }
          where
            first : IsFirst o.rows y
            first = first_is o.rows y e

            slots_are : slots_of d table y.row ≡ y.slots
            slots_are = found (y.row, y.slots) first.stands

            main_is : (slots_of d table y.row).main ≡ Some first.main
            main_is = ap (λ (s : Slots). s.main) slots_are ∙ first.main_is

            out_is : (slots_of d table y.row).out ≡ None
            out_is = ap (λ (s : Slots). s.out) slots_are ∙ first.out_is

            unsent : (q : Request) → Among (sent ++ requests_in (resent c table o.rows)) q → q.client ≡ c → q.number ≢ first.main.number
            unsent q a k n = ⊎_elim
                (λ old. ready.unsent table y.row first.main main_is out_is (ap (λ (s : Slots). s.conflict) slots_are ∙ first.free) q old k n)
                (λ new.
                let w = of_waiting size c h d table o.rows found q new in
                let key = ready.others table y.row first.main table w.0 w.1 main_is w.2 (sym n ∙ w.3) in
                absurd (let both : None ≡ Some w.1 = sym out_is ∙ subst (λ (z : List ℕ). (slots_of d table z).out ≡ Some w.1) (sym key.1) w.2 in cc))
                (among_either sent (requests_in (resent c table o.rows)) q a)

            others : (other : ℕ) (place : List ℕ) (p : InFlight) → (slots_of d other place).out ≡ Some p → first.main.number ≡ p.number → (table ≡ other) × (y.row ≡ place)
            others other place p w n = ready.others table y.row first.main other place p main_is w n

            items_later : IsStocked (sent ++ requests_in (resent c table o.rows))
            items_later = ((λ t i a. let q = items.0 t i a in (q.0, of_more sent (requests_in (resent c table o.rows)) t i q.0 q.1)), items.1)

  -- ---- any move

  module _ (shape : Shape) (sent : List Request) (d : ClientDisk) (items : IsStocked sent) where
    still : (agenda : List ClientTask) (a : Answer) → Runs size c h sent d agenda → IsStep sent (quiet d (Some agenda) a)
    still agenda a k = quiet_step sent d (Some agenda) a k

    seen_idle : Runs size c h sent d [] → (table : ℕ) (m : Option TableDisk) → table_at (seen d) table ≡ m → table_at d table ≡ m
    seen_idle idle table m at = in_disk shape sent d idle table m at

    write_idle_step : (agenda : List ClientTask) → Runs size c h sent d agenda → (agenda ≡ [] → IsReady c sent d) → (g : Scheme) (table : ℕ) (row : List ℕ) (o : TableDisk) (x : Content)
        → table_at (seen d) table ≡ Some o → IsStep sent (client.write_idle g c shape d agenda table row o x)
    write_idle_step (task ∷ more) k ready g table row o x at = still (task ∷ more) _ k
    write_idle_step [] k ready g table row o x at = free_step shape sent d k table o (seen_idle k table (Some o) at) row (ready refl) items g x (slots_at o row).conflict

    write_step : (agenda : List ClientTask) → Runs size c h sent d agenda → (agenda ≡ [] → IsReady c sent d) → (table : ℕ) (row : List ℕ) (x : Content) (m : Option TableDisk)
        → table_at (seen d) table ≡ m → IsStep sent (client.write_to c shape d agenda table row x m)
    write_step agenda k ready table row x None at = still agenda _ k
    write_step agenda k ready table row x (Some o) at = go (fit_of o.schema x)
      where
        go : (fit : Result (Unit {0}) FitFault) → IsStep sent (client.write_fitting o.schema.scheme c shape d agenda table row o x fit)
        go (Ok it) = write_idle_step agenda k ready o.schema.scheme table row o x at
        go (Err fault) = still agenda _ k

    edit_step : (agenda : List ClientTask) → Runs size c h sent d agenda → (agenda ≡ [] → IsReady c sent d) → (table : ℕ) (row : List ℕ) (edit : Edit) (m : Option TableDisk)
        → table_at (seen d) table ≡ m → IsStep sent (client.edit_in c shape d agenda table row edit m)
    edit_step agenda k ready table row edit None at = still agenda _ k
    edit_step agenda k ready table row edit (Some o) at = over (option_map client.content_of (client.shown_in (slots_at o row).main (slots_at o row).conflict (slots_at o row).shadow))
      where
        made : (x : Result Content FitFault) → IsStep sent (client.edit_made c shape d agenda table row o x)
        made (Ok x) = write_step agenda k ready table row x (Some o) at
        made (Err fault) = still agenda _ k

        over : (shown : Option Content) → IsStep sent (client.edit_over c shape d agenda table row o edit shown)
        over None = still agenda _ k
        over (Some Gone) = still agenda _ k
        over (Some (Row some objects)) = made (edited_to o.schema some objects edit)

    sync_step : (agenda : List ClientTask) → Runs size c h sent d agenda → (agenda ≡ [] → IsReady c sent d) → (table : ℕ) (m : Option TableDisk)
        → table_at (seen d) table ≡ m → IsStep sent (client.sync_in c shape d agenda table m)
    sync_step agenda k ready table None at = still agenda _ k
    sync_step (task ∷ more) k ready table (Some o) at = still (task ∷ more) _ k
    sync_step [] k ready table (Some o) at = first_step shape sent d k (ready refl) items table o (seen_idle k table (Some o) at) (client.first_to_send o.rows) refl

    asks_known : (table : ℕ) (rows : List (List ℕ)) (before : List Request)
        → (requests_in (map (client.torn_from c table) rows) ≡ []) × SendsAll size c h before (map (client.torn_from c table) rows)
    asks_known table [] before = (refl, tt)
    asks_known table (row ∷ rows) before = let k = asks_known table rows (before ++ []) in (k.0, (tt, k.1))

    from_known : (table position : ℕ) (asks : List (List ℕ)) → (requests_in (client.next_from c table position asks) ≡ []) × SendsAll size c h sent (client.next_from c table position asks)
    from_known table position [] = (refl, (tt, tt))
    from_known table position (row ∷ rows) = asks_known table (row ∷ rows) sent

    next_step : (agenda : List ClientTask) → Runs size c h sent d agenda → (table : ℕ) (tears asks : List (List ℕ)) (m : Option TableDisk)
        → IsStep sent (client.next_in c shape d agenda table tears asks m)
    next_step agenda k table tears asks None = still agenda _ k
    next_step (task ∷ more) k table tears asks (Some o) = still (task ∷ more) _ k
    next_step [] k table tears asks (Some o) =
        let known = from_known table o.position asks in
        let s = pull_step shape sent d k (client.next_from c table o.position asks) known.0 known.1 in
        record { sends = s.sends; client = s.client }

    resolve_in_step : (agenda : List ClientTask) → Runs size c h sent d agenda → (table : ℕ) (row : List ℕ) (version : ℕ) (choice : Choice) (m : Option TableDisk)
        → table_at (seen d) table ≡ m → IsStep sent (client.resolve_in c shape d agenda table row version choice m)
    resolve_in_step agenda k table row version choice None at = still agenda _ k
    resolve_in_step (task ∷ more) k table row version choice (Some o) at = still (task ∷ more) _ k
    resolve_in_step [] k table row version choice (Some o) at =
        resolve_step shape sent d k table o (seen_idle k table (Some o) at) row o.schema version choice (slots_at o row).main (slots_at o row).conflict refl

    all_step : (agenda : List ClientTask) → Runs size c h sent d agenda → (by : resolvers.Stored) (m : Option TableDisk) → IsStep sent (client.all_in shape d agenda by m)
    all_step agenda k by None = still agenda _ k
    all_step agenda k by (Some o) = fits (client.can_resolve o.schema by)
      where
        idle : (tasks : List ClientTask) → Runs size c h sent d tasks → IsStep sent (client.all_idle shape d tasks o)
        idle [] r = still [] _ r
        idle (task ∷ more) r = still (task ∷ more) _ r

        fits : (fit : Result (Unit {0}) FitFault) → IsStep sent (client.all_fitting shape d agenda o fit)
        fits (Ok it) = idle agenda k
        fits (Err fault) = still agenda _ k

    phase_step : (agenda : List ClientTask) → Runs size c h sent d agenda → (m : Option TableDisk) → IsStep sent (client.phase_in d agenda m)
    phase_step agenda k None = still agenda _ k
    phase_step agenda k (Some o) = still agenda _ k

    conflicts_step : (agenda : List ClientTask) → Runs size c h sent d agenda → (m : Option TableDisk) → IsStep sent (client.conflicts_in d agenda m)
    conflicts_step agenda k None = still agenda _ k
    conflicts_step agenda k (Some o) = still agenda _ k

    alter_step : (agenda : List ClientTask) → Runs size c h sent d agenda → (table : ℕ) (change : TableChange) → HasSize (size table) change
        → IsStep sent (client.alter_in c shape d agenda table change)
    alter_step (task ∷ more) k table change has = still (task ∷ more) _ k
    alter_step [] k table change has = go (client.may_alter change (table_at (seen d) table))
      where
        go : (b : Bool) → IsStep sent (if b then begun shape d facts.Done (client.alter_plan c d table change) [] else client.ignored d)
        go true = plan_step shape sent d k facts.Done (client.alter_plan c d table change) [] refl tt (altered_named size c h sent d table change has (named shape sent d k))
        go false = still [] _ k

    take_step : (agenda : Option (List ClientTask)) (m : Message) → IsNamedAt size c h sent d agenda → IsGiven sent m → IsStep sent (client.take_step c shape d agenda m)
    take_step None m k g = quiet_step sent d None _ k
    take_step (Some (task ∷ more)) m k g = still (task ∷ more) _ k
    take_step (Some []) (SyncRequest q) k g = still [] _ k
    take_step (Some []) (PullRequest q) k g = still [] _ k
    take_step (Some []) (SyncResponse r) k g = response_step shape sent d k items r g (table_at (seen d) r.table) (seen_idle k r.table (table_at (seen d) r.table) refl)
    take_step (Some []) (PullResponse q) k g = pulled_step shape sent d k q g (table_at (seen d) q.table) (seen_idle k q.table (table_at (seen d) q.table) refl)
    take_step (Some []) (TornRowRequest q) k g = still [] _ k
    take_step (Some []) (TornRowResponse q) k g = torn_step shape sent d k q g (table_at (seen d) q.table) (seen_idle k q.table (table_at (seen d) q.table) refl)

  -- what a move takes as known
  abbrev pub Takes : List Request → Client → ClientMove → Type 0
  Takes sent s (client.Write table row x) = s.agenda ≡ Some [] → IsReady c sent s.disk
  Takes sent s (client.Change table row edit) = s.agenda ≡ Some [] → IsReady c sent s.disk
  Takes sent s (client.Sync table) = s.agenda ≡ Some [] → IsReady c sent s.disk
  Takes sent s (client.Alter table change) = HasSize (size table) change
  Takes sent s (client.Take m) = IsGiven sent m
  Takes sent s other = Unit {0}

  pub move_step : (shape : Shape) (sent : List Request) (s : Client) (move : ClientMove) → IsStocked sent
      → IsNamedClient size c h sent s → Takes sent s move → IsStep sent (client_step c shape s move)
  move_step shape sent s move items k takes = by_agenda s.agenda refl k move takes
    where
      by_agenda : (agenda : Option (List ClientTask)) → s.agenda ≡ agenda → IsNamedAt size c h sent s.disk agenda → (m : ClientMove) → Takes sent (record { disk = s.disk; agenda = agenda }) m
          → IsStep sent (client_step c shape (record { disk = s.disk; agenda = agenda }) m)
      by_agenda agenda is n (client.Take m) t = take_step shape sent s.disk items agenda m n t
      by_agenda agenda is n (client.Work luck) t = work_step sent s.disk agenda luck n
      by_agenda agenda is n (client.Crash luck) t = crash_step sent s.disk agenda luck n
      by_agenda agenda is n client.Start t = start_step sent shape s.disk agenda n
      by_agenda None is n (client.Write table row x) t = quiet_step sent s.disk None _ n
      by_agenda None is n (client.Change table row edit) t = quiet_step sent s.disk None _ n
      by_agenda None is n (client.Show table row) t = quiet_step sent s.disk None _ n
      by_agenda None is n (client.Sum table row) t = quiet_step sent s.disk None _ n
      by_agenda None is n (client.Sync table) t = quiet_step sent s.disk None _ n
      by_agenda None is n (client.Next table tears asks) t = quiet_step sent s.disk None _ n
      by_agenda None is n (client.BeginCr table) t = quiet_step sent s.disk None _ n
      by_agenda None is n (client.Conflicts table) t = quiet_step sent s.disk None _ n
      by_agenda None is n (client.EndCr table) t = quiet_step sent s.disk None _ n
      by_agenda None is n (client.Resolve table row version choice) t = quiet_step sent s.disk None _ n
      by_agenda None is n (client.ResolveAll table by) t = quiet_step sent s.disk None _ n
      by_agenda None is n (client.Alter table change) t = quiet_step sent s.disk None _ n
      by_agenda (Some tasks) is n (client.Write table row x) t = write_step shape sent s.disk items tasks n (λ e. t (ap (λ (l : List ClientTask). Some l) e)) table row x (table_at (seen s.disk) table) refl
      by_agenda (Some tasks) is n (client.Change table row edit) t = edit_step shape sent s.disk items tasks n (λ e. t (ap (λ (l : List ClientTask). Some l) e)) table row edit (table_at (seen s.disk) table) refl
      by_agenda (Some tasks) is n (client.Show table row) t = quiet_step sent s.disk (Some tasks) _ n
      by_agenda (Some tasks) is n (client.Sum table row) t = quiet_step sent s.disk (Some tasks) _ n
      by_agenda (Some tasks) is n (client.Sync table) t = sync_step shape sent s.disk items tasks n (λ e. t (ap (λ (l : List ClientTask). Some l) e)) table (table_at (seen s.disk) table) refl
      by_agenda (Some tasks) is n (client.Next table tears asks) t = next_step shape sent s.disk items tasks n table tears asks (table_at (seen s.disk) table)
      by_agenda (Some tasks) is n (client.BeginCr table) t = phase_step shape sent s.disk items tasks n (table_at (seen s.disk) table)
      by_agenda (Some tasks) is n (client.Conflicts table) t = conflicts_step shape sent s.disk items tasks n (table_at (seen s.disk) table)
      by_agenda (Some tasks) is n (client.EndCr table) t = phase_step shape sent s.disk items tasks n (table_at (seen s.disk) table)
      by_agenda (Some tasks) is n (client.Resolve table row version choice) t = resolve_in_step shape sent s.disk items tasks n table row version choice (table_at (seen s.disk) table) refl
      by_agenda (Some tasks) is n (client.ResolveAll table by) t = all_step shape sent s.disk items tasks n by (table_at (seen s.disk) table)
      by_agenda (Some tasks) is n (client.Alter table change) t = alter_step shape sent s.disk items tasks n table change t
