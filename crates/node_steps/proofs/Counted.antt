-- Which disks failed in a call, by its answer.
use Rattle.std.proofs.Common.{◌≡◌, ◌≢◌, ⊎_elim, ℕ, ◌+◌, ◌<◌, ◌≤◌, Bool, true, false, List, [], ◌∷◌, ◌++◌, map, Option, Some, None, Result, Ok, Err, refl, sym, ◌∙◌, ap, subst, arith}
use Rattle.std.specs.Prelude.{IfOk, IfErr, is_some, option_to_list}
use Rattle.std.specs.Ordering.{nat_cmp}
use Rattle.std.specs.BTreeMap as tree
use Rattle.std.proofs.lemmas.Bool.Decides.{eqb_tells}
use Rattle.disk_trait.specs.Calls.{DiskState}
use Rattle.table_model.specs.declared.event.Event.{Event}
use Rattle.table_model.specs.declared.line.Answer.{Answer}
use Rattle.table_model.specs.declared.line.RowPair.{RowPair}
use Rattle.step_tables.specs.Facts.{Line, AnswerLine}
use Rattle.step_tables.specs.ClientMoves.{Client}
use Rattle.step_tables.specs.Facts as facts
use Rattle.step_tables.specs.Lines.{line_of, answer_of}
use Rattle.step_tables.specs.Messages.{Luck}
use Rattle.world_tables.specs.World.{WorldStep, Lucks, Hosted, hosted_at, client_at, is_cut, is_fault, first_luck, owner_of, step, start, schema_at}
use Rattle.world_tables.specs.World as moves
use Rattle.world_tables.specs.Faults.{is_failure, fails_cut, is_fault_answer, is_device_fault}
use Rattle.world_tables.specs.Passed.{first_part}
use Rattle.fault_laws.proofs.Same.{done_alone}
use Rattle.fault_laws.proofs.Answered.{is_declaration, step_answered}
use Rattle.store_host.specs.declared.hosted.Hosted.{Hosted as Kept}
use Rattle.store_host.specs.declared.host.StoreHost.{StoreHost}
use Rattle.store_host.specs.Holds.{HostedThere, SameFaults, RisenFaults, faults_at, faults_in}
use Rattle.store_host.specs.Calls.{HasLuck}
use Rattle.row_store.specs.Spelling.{IsClient}
use Rattle.client_node.specs.declared.node.ClientNode.{ClientNode}
use Rattle.journal_host.specs.declared.host.ClientHost.{ClientHost}
use Rattle.journal_host.specs.Holds as clients
use Rattle.node_steps.specs.declared.fault.WorldFault.{WorldFault}
use Rattle.node_steps.specs.declared.fault.WorldFault.TheVariants.{Memory}
use Rattle.node_steps.specs.declared.told.Told.{Told}
use Rattle.node_steps.specs.declared.world.World.{World}
use Rattle.node_steps.specs.Calls.{IsDone, Comes, HasTold, HasToldPairs, HasToldClients}
use Rattle.node_steps.specs.Faults.{IsCounted, AreTotals, AreCounted, ComesCounted, IsUndone, table_faults, client_faults, all_faults, tell_fault}
use Rattle.node_steps.specs.Holds.{Holds, AreOut}
use Rattle.node_steps.specs.Rows.{ComesLeft}
use Rattle.node_steps.specs.Told.{answer_lines, IsOnly}
use Rattle.node_steps.specs.Steps.{IsStep, IsStill}
use Rattle.node_steps.proofs.Rows.{Stays, stay_over}
use Rattle.node_steps.proofs.Sums.{sum_same, sum_rises, sum_none}
use Rattle.fair_laws.specs.Reached.{IsReached}

module _ {D : Type 0} (state : D → DiskState) where
  -- ---- tables

  pub none_failed : (old new : tree.BTreeMap ℕ (Kept D)) (b : Bool) → b ≡ false → SameFaults state old new → IsCounted state b old new
  none_failed old new b e same = record { rose = λ t. absurd cc; same = λ f. same }

  pub some_failed : (old new : tree.BTreeMap ℕ (Kept D)) (b : Bool) → b ≡ true → RisenFaults state old new → IsCounted state b old new
  some_failed old new b e rose = record { rose = λ t. rose; same = λ f. absurd cc }

  pub then_counted : (old mid new : tree.BTreeMap ℕ (Kept D)) (b : Bool) → SameFaults state old mid → IsCounted state b mid new → IsCounted state b old new
  then_counted old mid new b same k = record {
    rose = λ t. let r = k.rose t in record {
      each = λ table. let a = same table in let c = r.each table in omega (arith, a, c);
      one = (r.one.0, let a = same r.one.0 in let c = r.one.1 in omega (arith, a, c));
    };
    same = λ f table. k.same f table ∙ same table;
  }

  pub follow_counted : (old mid new : tree.BTreeMap ℕ (Kept D)) (result : Result Answer WorldFault) → SameFaults state old mid
      → IfOk result (λ answer. IsCounted state (is_fault (answer_of answer)) mid new) → IfOk result (λ answer. IsCounted state (is_fault (answer_of answer)) old new)
  follow_counted old mid new (Err e) same k = tt
  follow_counted old mid new (Ok answer) same k = then_counted old mid new (is_fault (answer_of answer)) same k

  pub cut_counted : (busy : Option ℕ) (old new : tree.BTreeMap ℕ (Kept D)) (lucks : List Luck) → HasLuck state busy old new lucks → IsCounted state (fails_cut busy lucks) old new
  cut_counted busy old new lucks k = go busy refl
    where
      go : (o : Option ℕ) → busy ≡ o → IsCounted state (fails_cut o lucks) old new
      go None e = none_failed old new false refl (k.counted (k.idle e))
      go (Some table) e = record {
        rose = λ t. k.cause (λ done. let no : false ≡ true = ap is_failure (sym done) ∙ t in absurd cc);
        same = λ f. k.counted (done_alone (first_luck lucks) f);
      }

  -- a table more, one of whose disks has failed
  pub added_badly : (old new : tree.BTreeMap ℕ (Kept D)) (table n : ℕ) → tree.get nat_cmp old table ≡ None → n < faults_at state new table
      → ((q : ℕ) → q ≢ table → faults_at state new q ≡ faults_at state old q) → RisenFaults state old new
  added_badly old new table n none up others = record {
    each = λ q. ⊎_elim (λ is. let a = nothing q is.1 in omega (arith, a)) (λ no. let a = others q no.1 in omega (arith, a)) (eqb_tells q table);
    one = (table, let a = nothing table refl in omega (arith, a, up));
  }
    where
      nothing : (q : ℕ) → q ≡ table → faults_at state old q ≡ 0
      nothing q is = ap (λ (k : ℕ). faults_at state old k) is ∙ ap (λ (o : Option (Kept D)). faults_in state o) none

  -- ---- all disks

  pub ranged_at : (w : moves.World) (world : World D) → Holds state w world → (table : ℕ) → 0 < faults_at state world.store.tables table → (1 ≤ table) × (table ≤ 64)
  ranged_at w world h table up = go (tree.get nat_cmp world.store.tables table) up (hosted_at w table) refl (h.store.tables.there table)
    where
      go : (it : Option (Kept D)) → 0 < faults_in state it → (o : Option Hosted) → hosted_at w table ≡ o → HostedThere state (owner_of w table) (schema_at w table) table o it → (1 ≤ table) × (table ≤ 64)
      go None up o e k = absurd (omega (arith, up))
      go (Some it) up None e k = absurd k
      go (Some it) up (Some hosted) e k = h.numbered.tables table (ap (λ (o : Option Hosted). is_some o) e)

  pub tables_rise : (w : moves.World) (old new : World D) → Holds state w new → RisenFaults state old.store.tables new.store.tables → table_faults state old < table_faults state new
  tables_rise w old new h rose =
      let up = rose.one.1 in
      let range = ranged_at w new h rose.one.0 (omega (arith, up)) in
      sum_rises (faults_at state old.store.tables) (faults_at state new.store.tables) 64 rose.one.0 rose.each range.0 range.1 up

  pub tables_same : (old new : World D) → SameFaults state old.store.tables new.store.tables → table_faults state new ≡ table_faults state old
  tables_same old new same = sum_same (faults_at state new.store.tables) (faults_at state old.store.tables) 64 same

  pub tables_still : (old new : World D) → new.store ≡ old.store → table_faults state new ≡ table_faults state old
  tables_still old new same = tables_same old new (λ table. ap (λ (s : StoreHost D). faults_at state s.tables table) same)

  -- ---- all clients

  pub client_ranged : (w : moves.World) (world : World D) → Holds state w world → (c : ℕ) → 0 < clients.faults_at state world.clients.clients c → IsClient c
  client_ranged w world h c up = go (tree.get nat_cmp world.clients.clients c) up (client_at w c) refl (h.clients.there c)
    where
      go : (it : Option (ClientNode D)) → 0 < clients.faults_in state it → (o : Option Client) → client_at w c ≡ o → clients.ClientThere state (is_cut w c) c o it → IsClient c
      go None up o e k = absurd (omega (arith, up))
      go (Some it) up None e k = absurd k
      go (Some it) up (Some s) e k = h.numbered.clients c (ap (λ (o : Option Client). is_some o) e)

  -- the disks of one client have failed
  pub client_rises : (w : moves.World) (old new : World D) (c : ℕ) → Holds state w new → clients.RisenFaults state c old.clients.clients new.clients.clients
      → client_faults state old < client_faults state new
  client_rises w old new c h rose =
      let up = rose.one in
      let range = client_ranged w new h c (omega (arith, up)) in
      sum_rises (clients.faults_at state old.clients.clients) (clients.faults_at state new.clients.clients) 64 c later range.least range.most up
    where
      up_at : (q : ℕ) → q ≡ c → clients.faults_at state old.clients.clients q ≤ clients.faults_at state new.clients.clients q
      up_at q is =
          subst (λ (k : ℕ). clients.faults_at state old.clients.clients k ≤ clients.faults_at state new.clients.clients k) (sym is) (let up = rose.one in omega (arith, up))

      later : (q : ℕ) → clients.faults_at state old.clients.clients q ≤ clients.faults_at state new.clients.clients q
      later q = ⊎_elim (λ is. up_at q is.1) (λ no. let a = rose.others q no.1 in omega (arith, a)) (eqb_tells q c)

  -- no client's disks have failed
  pub clients_same : (old new : World D) → clients.SameFaults state old.clients.clients new.clients.clients → client_faults state new ≡ client_faults state old
  clients_same old new same = sum_same (clients.faults_at state new.clients.clients) (clients.faults_at state old.clients.clients) 64 same

  pub clients_still : (old new : World D) → new.clients.clients ≡ old.clients.clients → client_faults state new ≡ client_faults state old
  clients_still old new same = clients_same old new (λ c. ap (λ (m : tree.BTreeMap ℕ (ClientNode D)). clients.faults_at state m c) same)

  -- ---- all disks

  first_rises : (a b c d : ℕ) → a < c → d ≡ b → a + b < c + d
  first_rises a b c d up same = omega (arith, up, same)

  second_rises : (a b c d : ℕ) → c ≡ a → b < d → a + b < c + d
  second_rises a b c d same up = omega (arith, up, same)

  both_same : (a b c d : ℕ) → c ≡ a → d ≡ b → c + d ≡ a + b
  both_same a b c d one two = omega (arith, one, two)

  pub all_same : (old new : World D) → table_faults state new ≡ table_faults state old → client_faults state new ≡ client_faults state old → all_faults state new ≡ all_faults state old
  all_same old new one two = both_same (table_faults state old) (client_faults state old) (table_faults state new) (client_faults state new) one two

  pub all_still : (old new : World D) → new.store ≡ old.store → new.clients.clients ≡ old.clients.clients → all_faults state new ≡ all_faults state old
  all_still old new store nodes = all_same old new (tables_still old new store) (clients_still old new nodes)

  -- the tables alone
  pub tables_counted : (w : moves.World) (old new : World D) (b : Bool) → Holds state w new → IsCounted state b old.store.tables new.store.tables → new.clients.clients ≡ old.clients.clients
      → AreTotals state b old new
  tables_counted w old new b h k nodes = record {
    rose = λ t. first_rises (table_faults state old) (client_faults state old) (table_faults state new) (client_faults state new) (tables_rise w old new h (k.rose t)) (clients_still old new nodes);
    same = λ f. all_same old new (tables_same old new (k.same f)) (clients_still old new nodes);
  }

  -- one client alone
  pub client_counted : (w : moves.World) (old new : World D) (c : ℕ) (b : Bool) → Holds state w new → (b ≡ true → clients.RisenFaults state c old.clients.clients new.clients.clients)
      → (b ≡ false → clients.SameFaults state old.clients.clients new.clients.clients) → new.store ≡ old.store → AreTotals state b old new
  client_counted w old new c b h rose same store = record {
    rose = λ t. second_rises (table_faults state old) (client_faults state old) (table_faults state new) (client_faults state new) (tables_still old new store) (client_rises w old new c h (rose t));
    same = λ f. all_same old new (tables_still old new store) (clients_same old new (same f));
  }

  -- none at all
  pub none_totals : (old new : World D) (b : Bool) → b ≡ false → new.store ≡ old.store → new.clients.clients ≡ old.clients.clients → AreTotals state b old new
  none_totals old new b fine store nodes = record { rose = λ t. let no : false ≡ true = sym fine ∙ t in absurd cc; same = λ f. all_still old new store nodes }

  pub totals_as : (old new : World D) (a b : Bool) → a ≡ b → AreTotals state b old new → AreTotals state a old new
  totals_as old new a b is k = subst (λ (x : Bool). AreTotals state x old new) (sym is) k

  -- a world in which nothing is declared has no disks
  pub no_faults : (world : World D) → Holds state start world → all_faults state world ≡ 0
  no_faults world h = both_same 0 0 (table_faults state world) (client_faults state world)
      (sum_same (faults_at state world.store.tables) (λ k. 0) 64 (λ table. no_table table (tree.get nat_cmp world.store.tables table) (h.store.tables.there table)) ∙ sum_none 64)
      (sum_same (clients.faults_at state world.clients.clients) (λ k. 0) 64 (λ c. no_client c (tree.get nat_cmp world.clients.clients c) (h.clients.there c)) ∙ sum_none 64)
    where
      no_table : (table : ℕ) (it : Option (Kept D)) → HostedThere state (owner_of start table) (schema_at start table) table None it → faults_in state it ≡ 0
      no_table table None k = refl
      no_table table (Some it) k = absurd k

      no_client : (c : ℕ) (it : Option (ClientNode D)) → clients.ClientThere state (is_cut start c) c None it → clients.faults_in state it ≡ 0
      no_client c None k = refl
      no_client c (Some it) k = absurd k

  -- ---- answers

  tells : (told : List Line) (a : facts.Answer) (more : List Line) → told ≡ AnswerLine a ∷ more → tell_fault told ≡ is_fault a
  tells told a more is = ap tell_fault is

  pub counted_as : (old new : tree.BTreeMap ℕ (Kept D)) (a b : Bool) → a ≡ b → IsCounted state b old new → IsCounted state a old new
  counted_as old new a b is k = subst (λ (x : Bool). IsCounted state x old new) (sym is) k

  -- an answer alone
  pub only_counted : (result : Result Told WorldFault) (a : facts.Answer) (old new : World D) → is_fault a ≡ false → new.store ≡ old.store → new.clients.clients ≡ old.clients.clients
      → IfOk result (IsOnly (AnswerLine a ∷ [])) → AreCounted state result old new
  only_counted (Err e) a old new fine store nodes k = tt
  only_counted (Ok told) a old new fine store nodes k = none_totals old new (tell_fault (map line_of told.lines)) (tells (map line_of told.lines) a [] k.lines_are ∙ fine) store nodes

  -- what the Stores told and sent
  pub told_counted : (w : moves.World) (f : Lucks → WorldStep) (result : Result Told WorldFault) (a : facts.Answer) (old new : World D) (s : StoreHost D)
      → IsCounted state (is_fault a) old.store.tables s.tables → IfOk result (λ told. HasTold (record old { store = s }) new a told) → Comes state w f result new → AreCounted state result old new
  told_counted w f (Err e) a old new s c k d = tt
  told_counted w f (Ok told) a old new s c k d =
      totals_as old new (tell_fault (map line_of told.lines)) (is_fault a) (tells (map line_of told.lines) a _ k.lines_are)
      (tables_counted (f d.0).world old new (is_fault a) d.1.held (subst (λ (x : StoreHost D). IsCounted state (is_fault a) old.store.tables x.tables) (sym k.store) c)
      (ap (λ (x : World D). x.clients.clients) k.same))

  -- what a client told and sent
  pub sent_counted : (w : moves.World) (f : Lucks → WorldStep) (result : Result Told WorldFault) (a : facts.Answer) (old new : World D) (mid : ClientHost D) (c : ℕ) (pairs : List RowPair)
      → (is_fault a ≡ true → clients.RisenFaults state c old.clients.clients mid.clients) → (is_fault a ≡ false → clients.SameFaults state old.clients.clients mid.clients)
      → IfOk result (λ told. HasToldPairs state (record old { clients = mid }) new a pairs told) → Comes state w f result new → AreCounted state result old new
  sent_counted w f (Err e) a old new mid c pairs rose same k d = tt
  sent_counted w f (Ok told) a old new mid c pairs rose same k d =
      totals_as old new (tell_fault (map line_of told.lines)) (is_fault a) (tells (map line_of told.lines) a _ k.lines_are)
      (client_counted (f d.0).world old new c (is_fault a) d.1.held
      (λ t. subst (λ (m : tree.BTreeMap ℕ (ClientNode D)). clients.RisenFaults state c old.clients.clients m) (sym k.nodes) (rose t))
      (λ t. subst (λ (m : tree.BTreeMap ℕ (ClientNode D)). clients.SameFaults state old.clients.clients m) (sym k.nodes) (same t))
      (ap (λ (x : World D). x.store) k.same))

  -- ---- steps

  fault_told : (s : WorldStep) (told : Told) → is_some s.answer ≡ true → map line_of told.lines ≡ answer_lines s → tell_fault (map line_of told.lines) ≡ is_fault_answer s.answer
  fault_told s told some is = ap tell_fault is ∙ go s.answer some
    where
      go : (o : Option facts.Answer) → is_some o ≡ true → tell_fault (map AnswerLine (option_to_list o) ++ s.counted) ≡ is_fault_answer o
      go None e = absurd cc
      go (Some a) e = refl

  module _ (images : D → ℕ → List ℕ → Type 0) (w : moves.World) (event : Event) (is_out : ℕ → Bool) (old new : World D) (result : Result Told WorldFault) (out : AreOut is_out w) where
    out_behind : (lucks : Lucks) (told : Told) → IsDone state w (step w event lucks) told new → AreOut is_out (step w event lucks).world
    out_behind lucks told k = record {
      tables = λ table disk one most small. out.tables table disk one most small ∙ sym (k.tables table);
      clients = λ c disk one small. out.clients c disk one small ∙ sym (k.clients c);
    }

    -- the step is done, with these totals
    step_is : (told : Told) (lucks : Lucks) → IsDone state w (step w event lucks) told new → AreTotals state (is_device_fault w event lucks) old new → Stays state images w event old new
        → IsStep state images w event told is_out old new
    step_is told lucks k c stay =
        record { lucks = lucks; lines_are = k.lines_are; outs_are = k.outs_are; held = k.held; out = out_behind lucks told k; rose = c.rose; same = c.same; rows = stay lucks }

    fault_as : is_declaration event ≡ false → ((lucks : Lucks) → is_device_fault w event lucks ≡ is_fault_answer (step w event lucks).answer) → (told : Told) (lucks : Lucks)
        → IsDone state w (step w event lucks) told new → is_device_fault w event lucks ≡ tell_fault (map line_of told.lines)
    fault_as asks plain told lucks k = plain lucks ∙ sym (fault_told (step w event lucks) told (step_answered w event lucks asks) k.lines_are)

    -- by the answer
    pub stepped : is_declaration event ≡ false → ((lucks : Lucks) → is_device_fault w event lucks ≡ is_fault_answer (step w event lucks).answer)
        → Comes state w (step w event) result new → AreCounted state result old new → IfOk result (λ told. Stays state images w event old new)
        → IfOk result (λ told. IsStep state images w event told is_out old new)
    stepped asks plain k c stay = go result k c stay
      where
        go : (r : Result Told WorldFault) → Comes state w (step w event) r new → AreCounted state r old new → IfOk r (λ told. Stays state images w event old new)
            → IfOk r (λ told. IsStep state images w event told is_out old new)
        go (Err e) k c stay = tt
        go (Ok told) k c stay =
            step_is told k.0 k.1 (totals_as old new (is_device_fault w event k.0) (tell_fault (map line_of told.lines)) (fault_as asks plain told k.0 k.1) c) stay

    -- the same of an event whose first part goes with its lucks
    pub stepped_first : IsReached w → is_declaration event ≡ false → ((lucks : Lucks) → is_device_fault w event lucks ≡ is_fault_answer (step w event lucks).answer)
        → ComesLeft state images w (step w event) (first_part w event) result old new → AreCounted state result old new → IfOk result (λ told. IsStep state images w event told is_out old new)
    stepped_first reached asks plain k c = go result k c
      where
        go : (r : Result Told WorldFault) → ComesLeft state images w (step w event) (first_part w event) r old new → AreCounted state r old new
            → IfOk r (λ told. IsStep state images w event told is_out old new)
        go (Err e) k c = tt
        go (Ok told) k c =
            let t = totals_as old new (is_device_fault w event k.0) (tell_fault (map line_of told.lines)) (fault_as asks plain told k.0 k.1) c in
            record {
              lucks = k.0;
              lines_are = k.1.lines_are;
              outs_are = k.1.outs_are;
              held = k.1.held;
              out = out_behind k.0 told k.1;
              rose = t.rose;
              same = t.same;
              rows = stay_over state images w reached event k.0 old new k.2;
            }

    -- the disks stay as they are
    pub stepped_still : ((lucks : Lucks) → is_device_fault w event lucks ≡ false) → new.store ≡ old.store → new.clients.clients ≡ old.clients.clients → Comes state w (step w event) result new
        → IfOk result (λ told. Stays state images w event old new) → IfOk result (λ told. IsStep state images w event told is_out old new)
    stepped_still fine store nodes k stay = go result k stay
      where
        go : (r : Result Told WorldFault) → Comes state w (step w event) r new → IfOk r (λ told. Stays state images w event old new)
            → IfOk r (λ told. IsStep state images w event told is_out old new)
        go (Err e) k stay = tt
        go (Ok told) k stay = step_is told k.0 k.1 (none_totals old new (is_device_fault w event k.0) (fine k.0) store nodes) stay

    pub stepped_counted : ComesCounted state w (step w event) (λ lucks. is_device_fault w event lucks) result old new → IfOk result (λ told. Stays state images w event old new)
        → IfOk result (λ told. IsStep state images w event told is_out old new)
    stepped_counted k stay = go result k stay
      where
        go : (r : Result Told WorldFault) → ComesCounted state w (step w event) (λ lucks. is_device_fault w event lucks) r old new → IfOk r (λ told. Stays state images w event old new)
            → IfOk r (λ told. IsStep state images w event told is_out old new)
        go (Err e) k stay = tt
        go (Ok told) k stay = step_is told k.0 k.1 k.2 stay

  -- ---- faults of a run

  module _ (w : moves.World) (event : Event) (is_out : ℕ → Bool) (old new : World D) (result : Result Told WorldFault) (out : AreOut is_out w) where
    pub never_left : IfErr result (λ e. e ≡ Memory) → IfErr result (λ e. e ≢ Memory → IsUndone state w is_out old new)
    never_left k = go result k
      where
        go : (r : Result Told WorldFault) → IfErr r (λ e. e ≡ Memory) → IfErr r (λ e. e ≢ Memory → IsUndone state w is_out old new)
        go (Ok told) k = tt
        go (Err e) k = λ no. absurd (no k)

    pub left_still : IfErr result (λ e. e ≢ Memory → IsStill state w old new) → IfErr result (λ e. e ≢ Memory → IsUndone state w is_out old new)
    left_still k = go result k
      where
        go : (r : Result Told WorldFault) → IfErr r (λ e. e ≢ Memory → IsStill state w old new) → IfErr r (λ e. e ≢ Memory → IsUndone state w is_out old new)
        go (Ok told) k = tt
        go (Err e) k = λ no. record { held = (k no).held; out = out; same = (k no).same }

  -- ---- crashes

  module _ (w : moves.World) (f g : Lucks → WorldStep) (a b : Lucks → Bool) (result : Result Told WorldFault) (old new : World D) where
    pub counted_still : ((lucks : Lucks) → a lucks ≡ false) → new.store ≡ old.store → new.clients.clients ≡ old.clients.clients → Comes state w f result new
        → ComesCounted state w f a result old new
    counted_still fine store nodes k = go result k
      where
        go : (r : Result Told WorldFault) → Comes state w f r new → ComesCounted state w f a r old new
        go (Err e) k = tt
        go (Ok told) k = (k.0, k.1, none_totals old new (a k.0) (fine k.0) store nodes)

    pub comes_counted_as : ((lucks : Lucks) → f lucks ≡ g lucks) → ((lucks : Lucks) → a lucks ≡ b lucks) → ComesCounted state w g b result old new → ComesCounted state w f a result old new
    comes_counted_as steps faults k = go result k
      where
        go : (r : Result Told WorldFault) → ComesCounted state w g b r old new → ComesCounted state w f a r old new
        go (Err e) k = tt
        go (Ok told) k = (k.0, subst (λ (s : WorldStep). IsDone state w s told new) (sym (steps k.0)) k.1, totals_as old new (a k.0) (b k.0) (faults k.0) k.2)

    -- a crash of a Store
    pub counted_done : (lucks : Lucks) (s : StoreHost D) (given : facts.Answer) → IfOk result (λ told. IsDone state w (f lucks) told new)
        → IfOk result (λ told. HasTold (record old { store = s }) new given told) → IsCounted state (a lucks) old.store.tables s.tables → ComesCounted state w f a result old new
    counted_done lucks s given k t c = go result k t
      where
        go : (r : Result Told WorldFault) → IfOk r (λ told. IsDone state w (f lucks) told new) → IfOk r (λ told. HasTold (record old { store = s }) new given told)
            → ComesCounted state w f a r old new
        go (Err e) k t = tt
        go (Ok told) k t = (
          lucks,
          k,
          tables_counted (f lucks).world old new (a lucks) k.held (subst (λ (x : StoreHost D). IsCounted state (a lucks) old.store.tables x.tables) (sym t.store) c)
              (ap (λ (x : World D). x.clients.clients) t.same),
        )

    -- and of a client
    pub client_done : (lucks : Lucks) (mid : ClientHost D) (c : ℕ) (given : facts.Answer) → IfOk result (λ told. IsDone state w (f lucks) told new)
        → IfOk result (λ told. HasToldClients state (record old { clients = mid }) new given told)
        → (a lucks ≡ true → clients.RisenFaults state c old.clients.clients mid.clients) → (a lucks ≡ false → clients.SameFaults state old.clients.clients mid.clients)
        → ComesCounted state w f a result old new
    client_done lucks mid c given k t rose same = go result k t
      where
        go : (r : Result Told WorldFault) → IfOk r (λ told. IsDone state w (f lucks) told new)
            → IfOk r (λ told. HasToldClients state (record old { clients = mid }) new given told) → ComesCounted state w f a r old new
        go (Err e) k t = tt
        go (Ok told) k t = (
          lucks,
          k,
          client_counted (f lucks).world old new c (a lucks) k.held
              (λ up. subst (λ (m : tree.BTreeMap ℕ (ClientNode D)). clients.RisenFaults state c old.clients.clients m) (sym t.nodes) (rose up))
              (λ fine. subst (λ (m : tree.BTreeMap ℕ (ClientNode D)). clients.SameFaults state old.clients.clients m) (sym t.nodes) (same fine))
              (ap (λ (x : World D). x.store) t.same),
        )
