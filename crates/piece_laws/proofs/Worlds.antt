-- What a world keeps of the names of chunks: a part for each table, each client and each packet.
use Rattle.std.proofs.Common.{◌≡◌, ◌≢◌, ◌⊎◌, inl, inr, ⊎_elim, ℕ, false, List, [], ◌∷◌, ◌++◌, Option, Some, None, refl, sym, ◌∙◌, ap, subst, append-nil, append_assoc}
use Rattle.std.specs.Ordering.{nat_cmp}
use Rattle.std.specs.Map.{lookup}
use Rattle.std.specs.BTreeMap.{is_at, insert_entry}
use Rattle.stab_base.specs.declared.node.Node.{Node}
use Rattle.stab_base.specs.declared.node.Node.TheVariants as nodes
use Rattle.row_value.specs.declared.schema.Schema.{Schema}
use Rattle.step_tables.specs.Store.{Stored}
use Rattle.step_tables.specs.Members.{Among}
use Rattle.step_tables.specs.Messages.{Request, Response, Outcome, Header, Message, Send, SyncRequest, SyncResponse, PullRequest, PullResponse, TornRowRequest, TornRowResponse}
use Rattle.step_tables.specs.Messages as messages
use Rattle.step_tables.specs.StoreMoves.{StoreTask, StoreStep}
use Rattle.step_tables.specs.ClientMoves.{Client, ClientStep, ClientMove}
use Rattle.step_tables.proofs.Lists.{among_none, among_cons, among_here, among_next, among_left, among_right, among_either, among_cases}
use Rattle.world_tables.specs.World.{World, Packet, Hosted, owner_of, schema_at, hosted_at, client_at, address, packets_from, history_on, after_table, moved_client}
use Rattle.world_laws.proofs.Looks.{look_cases}
use Rattle.piece_laws.specs.Pieces.{items_in, items_at, request_in, requests_of, asked_in, IsDead, KeepsNone, GoTogether, IsOfRequest, IsOfOne, IsNeeded, IsOutcome, IsHeaderOf, IsHeader, IsKnown}
use Rattle.piece_laws.proofs.Linked.{AreLinked, push_linked}
use Rattle.piece_laws.proofs.Tables.{IsPut, Became, GrowsBy, Sends, SendsBy, IsAnswer, NeedsBy, IsNeededNow, AreKnown, IsMove, of_more, grows_more}
use Rattle.piece_laws.proofs.Gone.{dead_later}
use Rattle.piece_laws.proofs.Outs.{known_became}
use Rattle.piece_laws.proofs.Disks.{requests_in, SendsOne, SendsAll, IsSent, IsNamedClient, client_later, client_fewer, of_one_later}
use Rattle.piece_laws.proofs.Moves.{IsStep}

-- ---- the requests on a world's network

pub requests_both : (xs ys : List Packet) → requests_of (xs ++ ys) ≡ requests_of xs ++ requests_of ys
requests_both [] ys = refl
requests_both (x ∷ xs) ys = ap (λ (l : List Request). request_in x.message ++ l) (requests_both xs ys) ∙ sym (append_assoc (request_in x.message) (requests_of xs) (requests_of ys))

pub requests_sent : (owners : ℕ → ℕ) (from : Node) (sends : List Send) → requests_of (packets_from owners from sends) ≡ requests_in sends
requests_sent owners from [] = refl
requests_sent owners from (send ∷ sends) = ap (λ (l : List Request). request_in send.message ++ l) (requests_sent owners from sends)

pub request_there : (packets : List Packet) (p : Packet) (q : Request) → Among packets p → p.message ≡ SyncRequest q → Among (requests_of packets) q
request_there [] p q a is = absurd (among_none p a)
request_there (x ∷ packets) p q a is = ⊎_elim
    (λ same. among_left (request_in x.message) (requests_of packets) q (subst (λ (m : Message). Among (request_in m) q) (sym (ap (λ (y : Packet). y.message) same ∙ is)) (among_here q [])))
    (λ more. among_right (request_in x.message) (requests_of packets) q (request_there packets p q more is))
    (among_cons x packets p a)

pub there_request : (packets : List Packet) (q : Request) → Among (requests_of packets) q → (p : Packet) × Among packets p × (p.message ≡ SyncRequest q)
there_request [] q a = absurd (among_none q a)
there_request (x ∷ packets) q a = ⊎_elim
    (λ here. (x, among_here x packets, by_message x.message here))
    (λ more. let r = there_request packets q more in (r.0, among_next x packets r.0 r.1, r.2))
    (among_either (request_in x.message) (requests_of packets) q a)
  where
    by_message : (m : Message) → Among (request_in m) q → m ≡ SyncRequest q
    by_message (SyncRequest r) b = ⊎_elim (λ same. ap SyncRequest same) (λ none. absurd (among_none q none)) (among_cons r [] q b)
    by_message (PullRequest pull) b = absurd (among_none q b)
    by_message (SyncResponse r) b = absurd (among_none q b)
    by_message (PullResponse pulled) b = absurd (among_none q b)
    by_message (TornRowRequest torn) b = absurd (among_none q b)
    by_message (TornRowResponse answer) b = absurd (among_none q b)

sent_packet : (owners : ℕ → ℕ) (from : Node) (sends : List Send) (p : Packet) → Among (packets_from owners from sends) p → (send : Send) × Among sends send × (p.message ≡ send.message)
sent_packet owners from [] p a = absurd (among_none p a)
sent_packet owners from (send ∷ sends) p a = ⊎_elim
    (λ same. (send, among_here send sends, ap (λ (y : Packet). y.message) (sym same)))
    (λ more. let r = sent_packet owners from sends p more in (r.0, among_next send sends r.0 r.1, r.2))
    (among_cons (record { from = from; to = address owners send.to send.message; message = send.message }) (packets_from owners from sends) p a)

-- ---- what a world keeps

module _ (size : ℕ → ℕ) where
  abbrev pub Pairs : (ℕ → List Stored) → List Request → Type 0
  Pairs h sent = (p q : Request) → Among sent p → Among sent q → p.client ≡ q.client → p.number ≡ q.number → IsOfOne size h p q

  pub record IsTable (sent : List Request) (table : ℕ) (hosted : Hosted) : Type 0 where
    pub linked : AreLinked (size table) hosted.store.disk.items
    pub grows : GrowsBy (size table) sent table hosted.store.disk.items hosted.store.agenda
    pub sends : SendsBy (size table) sent table hosted.store.agenda
    pub unmade : hosted.made ≡ false → (hosted.store.disk.items ≡ []) × (hosted.store.agenda ≡ None)

  pub record IsNamedWorld (w : World) : Type 0 where
    pub sized : (table : ℕ) (schema : Schema) → schema_at w table ≡ Some schema → size table ≡ schema.chunk
    pub declared : (table : ℕ) (hosted : Hosted) → hosted_at w table ≡ Some hosted → (schema : Schema) × (schema_at w table ≡ Some schema)
    pub tables : (table : ℕ) (hosted : Hosted) → hosted_at w table ≡ Some hosted → IsTable (asked_in w) table hosted
    pub items : (table : ℕ) (i : Stored) → Among (items_at w table) i → (q : Request) × IsOfRequest (asked_in w) table i q
    pub clients : (c : ℕ) (node : Client) → client_at w c ≡ Some node → IsNamedClient size c (items_at w) (asked_in w) node
    pub packets : (p : Packet) → Among w.packets p → IsKnown size (items_at w) (asked_in w) p.message
    pub pairs : Pairs (items_at w) (asked_in w)

  -- ---- as an item comes

  module _ (h later : ℕ → List Stored) (sent : List Request) (b : (table : ℕ) → Became (size table) sent table (h table) (later table)) (pairs : Pairs h sent) where
    pub pairs_later : Pairs later sent
    pairs_later p q x y e n = of_one_later size 0 h later sent p q b (pairs p q x y e n)

    header_later : (table : ℕ) (o : Option Header) → IsHeader (h table) o → IsHeader (later table) o
    header_later table None k = tt
    header_later table (Some hd) k = ⊎_elim
        (λ same. subst (λ (l : List Stored). IsHeaderOf l hd) (sym same) k)
        (λ x. subst (λ (l : List Stored). IsHeaderOf l hd) (sym x.2) (record {
          item = k.item;
          is = record { stands = among_left (h table) (x.0 ∷ []) k.item k.is.stands; row_is = k.is.row_is; version_is = k.is.version_is };
          content = k.content;
          names = k.names;
        }))
        (b table)

    needed_push : (r : Response) (item : Stored) → IsPut (size r.table) sent r.table (h r.table) item → IsNeeded size h sent r
        → (i : Stored) → Among (h r.table ++ item ∷ []) i → i.entry.client ≡ r.client → i.entry.number ≡ r.number → i.entry.row ≡ r.row
        → (q : Request) × IsOfRequest sent r.table i q × KeepsNone q.pieces
    needed_push r item put k i a client_is number_is row_is = ⊎_elim
        (λ old. k.items i old client_is number_is row_is)
        (λ same. subst (λ (x : Stored). (q : Request) × IsOfRequest sent r.table x q × KeepsNone q.pieces) same
        (put.request, put.of, keeps_none (ap (λ (x : Stored). x.entry.client) same ∙ client_is) (ap (λ (x : Stored). x.entry.number) same ∙ number_is) (ap (λ (x : Stored). x.entry.row) same ∙ row_is)))
        (among_cases (h r.table) item i a)
      where
        keeps_none : item.entry.client ≡ r.client → item.entry.number ≡ r.number → item.entry.row ≡ r.row → KeepsNone put.request.pieces
        keeps_none c n at = go one.together
          where
            one : IsOfOne size h put.request k.request
            one = pairs put.request k.request put.of.stands k.stands (put.of.client_is ∙ (c ∙ sym k.client_is)) (put.of.number_is ∙ (n ∙ sym k.number_is))

            -- the request of the item isn't dead
            alive : IsDead (size k.request.table) (h k.request.table) k.request.row put.request.pieces → ⊥
            alive d = put.alive (subst (λ (z : List ℕ). IsDead (size r.table) (h r.table) z put.request.pieces) (k.row_is ∙ sym at)
                (subst (λ (t : ℕ). IsDead (size t) (h t) k.request.row put.request.pieces) k.table_is d))

            dead : IsDead (size k.request.table) (h k.request.table) k.request.row k.request.pieces
            dead = subst (λ (z : List ℕ). IsDead (size k.request.table) (h k.request.table) z k.request.pieces) (sym k.row_is)
                (subst (λ (t : ℕ). IsDead (size t) (h t) r.row k.request.pieces) (sym k.table_is) k.dead)

            go : GoTogether (size k.request.table) (h k.request.table) k.request.row put.request.pieces k.request.pieces → KeepsNone put.request.pieces
            go (inl same) = absurd (alive (subst (λ (ps : _). IsDead (size k.request.table) (h k.request.table) k.request.row ps) (sym same) dead))
            go (inr (inl x)) = absurd (alive x.0)
            go (inr (inr x)) = x.1

    needed_later : (r : Response) → IsNeeded size h sent r → IsNeeded size later sent r
    needed_later r k = record {
      request = k.request;
      stands = k.stands;
      client_is = k.client_is;
      number_is = k.number_is;
      table_is = k.table_is;
      row_is = k.row_is;
      dead = ⊎_elim
          (λ same. subst (λ (l : List Stored). IsDead (size r.table) l r.row k.request.pieces) (sym same) k.dead)
          (λ x. subst (λ (l : List Stored). IsDead (size r.table) l r.row k.request.pieces) (sym x.2) (dead_later (size r.table) (h r.table) x.0 x.1.next r.row k.request.pieces k.dead))
          (b r.table);
      items = λ i a e n at. ⊎_elim
          (λ same. k.items i (subst (λ (l : List Stored). Among l i) same a) e n at)
          (λ x. needed_push r x.0 x.1 k i (subst (λ (l : List Stored). Among l i) x.2 a) e n at)
          (b r.table);
    }

    outcome_later : (r : Response) (o : Outcome) → IsOutcome size h sent r o → IsOutcome size later sent r o
    outcome_later r (messages.Accepted v) k = tt
    outcome_later r (messages.Again v) k = tt
    outcome_later r (messages.Late v) k = tt
    outcome_later r (messages.Stale v) k = tt
    outcome_later r (messages.Conflict v) k = tt
    outcome_later r messages.NeedWhole k = needed_later r k

    pub known_later : (m : Message) → IsKnown size h sent m → IsKnown size later sent m
    known_later (SyncRequest q) k = (k.0, known_became (size q.table) sent q.table (h q.table) (later q.table) q.row q.content q.pieces (b q.table) k.1)
    known_later (PullRequest pull) k = tt
    known_later (SyncResponse r) k = outcome_later r r.outcome k
    known_later (PullResponse pulled) k = header_later pulled.table pulled.header k
    known_later (TornRowRequest torn) k = tt
    known_later (TornRowResponse answer) k = header_later answer.table answer.header k

  -- ---- as requests come

  module _ (h : ℕ → List Stored) (sent more : List Request) where
    outcome_more : (r : Response) (o : Outcome) → IsOutcome size h sent r o → IsOutcome size h (sent ++ more) r o
    outcome_more r (messages.Accepted v) k = tt
    outcome_more r (messages.Again v) k = tt
    outcome_more r (messages.Late v) k = tt
    outcome_more r (messages.Stale v) k = tt
    outcome_more r (messages.Conflict v) k = tt
    outcome_more r messages.NeedWhole k = record {
      request = k.request;
      stands = among_left sent more k.request k.stands;
      client_is = k.client_is;
      number_is = k.number_is;
      table_is = k.table_is;
      row_is = k.row_is;
      dead = k.dead;
      items = λ i a e n at. let q = k.items i a e n at in (q.0, of_more sent more r.table i q.0 q.1, q.2);
    }

    known_more : (m : Message) → IsKnown size h sent m → IsKnown size h (sent ++ more) m
    known_more (SyncRequest q) k = k
    known_more (PullRequest pull) k = tt
    known_more (SyncResponse r) k = outcome_more r r.outcome k
    known_more (PullResponse pulled) k = k
    known_more (TornRowRequest torn) k = tt
    known_more (TornRowResponse answer) k = k

    answer_more : (table : ℕ) (l : List Stored) (m : Message) → IsAnswer (size table) sent table l m → IsAnswer (size table) (sent ++ more) table l m
    answer_more table l (SyncRequest q) k = k
    answer_more table l (PullRequest pull) k = k
    answer_more table l (SyncResponse r) k = (k.0, by_outcome r.outcome k.1)
      where
        by_outcome : (o : Outcome) → NeedsBy (size table) sent table l r o → NeedsBy (size table) (sent ++ more) table l r o
        by_outcome (messages.Accepted v) x = tt
        by_outcome (messages.Again v) x = tt
        by_outcome (messages.Late v) x = tt
        by_outcome (messages.Stale v) x = tt
        by_outcome (messages.Conflict v) x = tt
        by_outcome messages.NeedWhole x = record {
          request = x.request;
          stands = among_left sent more x.request x.stands;
          client_is = x.client_is;
          number_is = x.number_is;
          table_is = x.table_is;
          row_is = x.row_is;
          dead = x.dead;
          none = x.none;
        }
    answer_more table l (PullResponse pulled) k = k
    answer_more table l (TornRowRequest torn) k = k
    answer_more table l (TornRowResponse answer) k = k

    answers_more : (table : ℕ) (l : List Stored) (sends : List Send) → AreKnown (size table) sent table l sends → AreKnown (size table) (sent ++ more) table l sends
    answers_more table l [] k = tt
    answers_more table l (send ∷ sends) k = (answer_more table l send.message k.0, answers_more table l sends k.1)

    sends_more : (table : ℕ) (tasks : List StoreTask) → Sends (size table) sent table tasks → Sends (size table) (sent ++ more) table tasks
    sends_more table [] k = tt
    sends_more table (task ∷ tasks) k = ((λ l. answers_more table l task.sends (k.0 l)), sends_more table tasks k.1)

    table_more : (table : ℕ) (hosted : Hosted) → IsTable sent table hosted → IsTable (sent ++ more) table hosted
    table_more table hosted k = record { linked = k.linked; grows = grows hosted.store.agenda k.grows; sends = sends hosted.store.agenda k.sends; unmade = k.unmade }
      where
        grows : (agenda : Option (List StoreTask)) → GrowsBy (size table) sent table hosted.store.disk.items agenda → GrowsBy (size table) (sent ++ more) table hosted.store.disk.items agenda
        grows None x = tt
        grows (Some tasks) x = grows_more (size table) sent more table hosted.store.disk.items tasks x

        sends : (agenda : Option (List StoreTask)) → SendsBy (size table) sent table agenda → SendsBy (size table) (sent ++ more) table agenda
        sends None x = tt
        sends (Some tasks) x = sends_more table tasks x

  -- each two of one write go together, with those that a client sends
  one_itself : (h : ℕ → List Stored) (q : Request) → IsOfOne size h q q
  one_itself h q = record { table_is = refl; row_is = refl; together = inl refl }

  one_turned : (h : ℕ → List Stored) (p q : Request) → IsOfOne size h p q → IsOfOne size h q p
  one_turned h p q k = record {
    table_is = sym k.table_is;
    row_is = sym k.row_is;
    together = subst (λ (z : List ℕ). GoTogether (size p.table) (h p.table) z q.pieces p.pieces) (sym k.row_is)
        (subst (λ (t : ℕ). GoTogether (size t) (h t) q.row q.pieces p.pieces) (sym k.table_is) (turned k.together));
  }
    where
      turned : GoTogether (size q.table) (h q.table) q.row p.pieces q.pieces → GoTogether (size q.table) (h q.table) q.row q.pieces p.pieces
      turned (inl same) = inl (sym same)
      turned (inr (inl x)) = inr (inr x)
      turned (inr (inr x)) = inr (inl x)

  pairs_one : (c : ℕ) (h : ℕ → List Stored) (sent : List Request) (q : Request) → Pairs h sent → IsSent size c h sent q → Pairs h (sent ++ q ∷ [])
  pairs_one c h sent q pairs k a b x y e n = go (among_cases sent q a x) (among_cases sent q b y)
    where
      go : Among sent a ⊎ (q ≡ a) → Among sent b ⊎ (q ≡ b) → IsOfOne size h a b
      go (inl u) (inl v) = pairs a b u v e n
      go (inl u) (inr v) = subst (IsOfOne size h a) v (k.pairs a u (e ∙ (ap (λ (z : Request). z.client) (sym v) ∙ k.client_is)) (n ∙ ap (λ (z : Request). z.number) (sym v)))
      go (inr u) (inl v) = one_turned h b a (subst (IsOfOne size h b) u
          (k.pairs b v (sym e ∙ (ap (λ (z : Request). z.client) (sym u) ∙ k.client_is)) (sym n ∙ ap (λ (z : Request). z.number) (sym u))))
      go (inr u) (inr v) = subst (λ (z : Request). IsOfOne size h z b) u (subst (IsOfOne size h q) v (one_itself h q))

  pairs_sends : (c : ℕ) (h : ℕ → List Stored) (sent : List Request) (sends : List Send) → Pairs h sent → SendsAll size c h sent sends → Pairs h (sent ++ requests_in sends)
  pairs_sends c h sent [] pairs k = subst (Pairs h) (sym (append-nil sent)) pairs
  pairs_sends c h sent (send ∷ sends) pairs k = subst (Pairs h) (append_assoc sent (request_in send.message) (requests_in sends))
      (pairs_sends c h (sent ++ request_in send.message) sends (by_message send.message k.0) k.1)
    where
      by_message : (m : Message) → SendsOne size c h sent m → Pairs h (sent ++ request_in m)
      by_message (SyncRequest q) x = pairs_one c h sent q pairs x
      by_message (PullRequest pull) x = subst (Pairs h) (sym (append-nil sent)) pairs
      by_message (SyncResponse r) x = absurd x
      by_message (PullResponse pulled) x = absurd x
      by_message (TornRowRequest torn) x = subst (Pairs h) (sym (append-nil sent)) pairs
      by_message (TornRowResponse answer) x = absurd x

  of_client : (c : ℕ) (h : ℕ → List Stored) (sent : List Request) (sends : List Send) → SendsAll size c h sent sends → (q : Request) → Among (requests_in sends) q → q.client ≡ c
  of_client c h sent [] k q a = absurd (among_none q a)
  of_client c h sent (send ∷ sends) k q a =
      ⊎_elim (λ here. by_message send.message k.0 here) (λ more. of_client c h (sent ++ request_in send.message) sends k.1 q more) (among_either (request_in send.message) (requests_in sends) q a)
    where
      by_message : (m : Message) → SendsOne size c h sent m → Among (request_in m) q → q.client ≡ c
      by_message (SyncRequest r) x b = ⊎_elim (λ same. ap (λ (z : Request). z.client) (sym same) ∙ x.client_is) (λ none. absurd (among_none q none)) (among_cons r [] q b)
      by_message (PullRequest pull) x b = absurd (among_none q b)
      by_message (SyncResponse r) x b = absurd x
      by_message (PullResponse pulled) x b = absurd x
      by_message (TornRowRequest torn) x b = absurd (among_none q b)
      by_message (TornRowResponse answer) x b = absurd x

  sends_known : (c : ℕ) (h : ℕ → List Stored) (all sent : List Request) (sends : List Send) → SendsAll size c h sent sends → (send : Send) → Among sends send → IsKnown size h all send.message
  sends_known c h all sent [] k send a = absurd (among_none send a)
  sends_known c h all sent (x ∷ sends) k send a = ⊎_elim
      (λ same. subst (λ (z : Send). IsKnown size h all z.message) same (by_message x.message k.0))
      (λ more. sends_known c h all (sent ++ request_in x.message) sends k.1 send more) (among_cons x sends send a)
    where
      by_message : (m : Message) → SendsOne size c h sent m → IsKnown size h all m
      by_message (SyncRequest q) y = (y.spells, y.keeps)
      by_message (PullRequest pull) y = tt
      by_message (SyncResponse r) y = absurd y
      by_message (PullResponse pulled) y = absurd y
      by_message (TornRowRequest torn) y = tt
      by_message (TornRowResponse answer) y = absurd y

  -- ---- a client's move

  pub client_moved : (w : World) (c : ℕ) (move : ClientMove) (s : ClientStep) → IsNamedWorld w → IsStep size c (items_at w) (asked_in w) s → IsNamedWorld (moved_client w c move s).world
  client_moved w c move s k step = record {
    sized = k.sized;
    declared = k.declared;
    tables = λ table hosted at. subst (λ (l : List Request). IsTable l table hosted) (sym asked) (table_more (items_at w) (asked_in w) (requests_in s.sends) table hosted (k.tables table hosted at));
    items = λ table i a. let q = k.items table i a in (q.0, subst (λ (l : List Request). IsOfRequest l table i q.0) (sym asked) (of_more (asked_in w) (requests_in s.sends) table i q.0 q.1));
    clients = λ q node at. subst (λ (l : List Request). IsNamedClient size q (items_at w) l node) (sym asked) (⊎_elim
        (λ e. let both : Some s.client ≡ Some node = sym e.1 ∙ at in let same : s.client ≡ node = cc in
        subst (λ (n : ℕ). IsNamedClient size n (items_at w) all node) (sym e.0) (subst (IsNamedClient size c (items_at w) all) same step.client))
        (λ e. client_fewer size q (items_at w) (asked_in w) all node (within q e.0) (k.clients q node (sym e.1 ∙ at)))
        (look_cases w.clients c s.client q));
    packets = λ p a. subst (λ (l : List Request). IsKnown size (items_at w) l p.message) (sym asked) (⊎_elim
        (λ old. known_more (items_at w) (asked_in w) (requests_in s.sends) p.message (k.packets p old))
        (λ new. let r = sent_packet (owner_of w) (nodes.Client c) s.sends p new in
        subst (IsKnown size (items_at w) all) (sym r.2) (sends_known c (items_at w) all (asked_in w) s.sends step.sends r.0 r.1))
        (among_either w.packets (packets_from (owner_of w) (nodes.Client c) s.sends) p a));
    pairs = subst (Pairs (items_at w)) (sym asked) (pairs_sends c (items_at w) (asked_in w) s.sends k.pairs step.sends);
  }
    where
      all : List Request
      all = asked_in w ++ requests_in s.sends

      asked : requests_of (w.packets ++ packets_from (owner_of w) (nodes.Client c) s.sends) ≡ all
      asked = requests_both w.packets (packets_from (owner_of w) (nodes.Client c) s.sends) ∙ ap (λ (l : List Request). asked_in w ++ l) (requests_sent (owner_of w) (nodes.Client c) s.sends)

      within : (q : ℕ) → q ≢ c → (r : Request) → Among all r → r.client ≡ q → Among (asked_in w) r
      within q apart r a is = ⊎_elim (λ old. old) (λ new. absurd (apart (sym is ∙ of_client c (items_at w) (asked_in w) s.sends step.sends r new))) (among_either (asked_in w) (requests_in s.sends) r a)

  -- ---- a table's move

  answers_none : (sent : List Request) (table : ℕ) (l : List Stored) (sends : List Send) → AreKnown (size table) sent table l sends → requests_in sends ≡ []
  answers_none sent table l [] k = refl
  answers_none sent table l (send ∷ sends) k = by_message send.message k.0 ∙ answers_none sent table l sends k.1
    where
      by_message : (m : Message) → IsAnswer (size table) sent table l m → request_in m ++ requests_in sends ≡ requests_in sends
      by_message (SyncRequest q) x = absurd x
      by_message (PullRequest pull) x = refl
      by_message (SyncResponse r) x = refl
      by_message (PullResponse pulled) x = refl
      by_message (TornRowRequest torn) x = refl
      by_message (TornRowResponse answer) x = refl

  module _ (h : ℕ → List Stored) (sent : List Request) (table : ℕ) where
    needed_now : (r : Response) → r.table ≡ table → IsNeededNow (size table) sent table (h table) r → IsNeeded size h sent r
    needed_now r at k = record {
      request = k.request;
      stands = k.stands;
      client_is = k.client_is;
      number_is = k.number_is;
      table_is = k.table_is ∙ sym at;
      row_is = k.row_is;
      dead = subst (λ (t : ℕ). IsDead (size t) (h t) r.row k.request.pieces) (sym at) k.dead;
      items = λ i a e n row_is. absurd (k.none i (subst (λ (t : ℕ). Among (h t) i) at a) e row_is n);
    }

    answer_known : (m : Message) → IsAnswer (size table) sent table (h table) m → IsKnown size h sent m
    answer_known (SyncRequest q) k = absurd k
    answer_known (PullRequest pull) k = absurd k
    answer_known (SyncResponse r) k = by_outcome r.outcome k.1
      where
        by_outcome : (o : Outcome) → NeedsBy (size table) sent table (h table) r o → IsOutcome size h sent r o
        by_outcome (messages.Accepted v) x = tt
        by_outcome (messages.Again v) x = tt
        by_outcome (messages.Late v) x = tt
        by_outcome (messages.Stale v) x = tt
        by_outcome (messages.Conflict v) x = tt
        by_outcome messages.NeedWhole x = needed_now r k.0 x
    answer_known (PullResponse pulled) k = subst (λ (t : ℕ). IsHeader (h t) pulled.header) (sym k.0) k.1
    answer_known (TornRowRequest torn) k = absurd k
    answer_known (TornRowResponse answer) k = subst (λ (t : ℕ). IsHeader (h t) answer.header) (sym k.0) k.1

    answers_known : (sends : List Send) → AreKnown (size table) sent table (h table) sends → (send : Send) → Among sends send → IsKnown size h sent send.message
    answers_known [] k send a = absurd (among_none send a)
    answers_known (x ∷ sends) k send a = ⊎_elim
        (λ same. subst (λ (z : Send). IsKnown size h sent z.message) same (answer_known x.message k.0))
        (λ more. answers_known sends k.1 send more) (among_cons x sends send a)

  pub table_moved : (w : World) (table : ℕ) (hosted old : Hosted) (s : StoreStep) → hosted_at w table ≡ Some old → IsNamedWorld w
      → IsMove (size table) (asked_in w) table old.store.disk.items s → (hosted.made ≡ false → (s.store.disk.items ≡ []) × (s.store.agenda ≡ None))
      → IsNamedWorld (after_table w table hosted s).world
  table_moved w table hosted old s at k move unmade = record {
    sized = k.sized;
    declared = λ q x is. ⊎_elim
        (λ e. let d = k.declared table old at in (d.0, subst (λ (t : ℕ). schema_at w t ≡ Some d.0) (sym e.0) d.1))
        (λ e. k.declared q x (sym e.1 ∙ is)) (look_cases w.tables table new q);
    tables = λ q x is. subst (λ (l : List Request). IsTable l q x) (sym asked) (⊎_elim
        (λ e. let both : Some new ≡ Some x = sym e.1 ∙ is in let same : new ≡ x = cc in subst (λ (t : ℕ). IsTable (asked_in w) t x) (sym e.0) (subst (IsTable (asked_in w) table) same new_table))
        (λ e. k.tables q x (sym e.1 ∙ is)) (look_cases w.tables table new q));
    items = λ q i a. let r = of_items q i a (became q) in (r.0, subst (λ (l : List Request). IsOfRequest l q i r.0) (sym asked) r.1);
    clients = λ c node is. subst (λ (l : List Request). IsNamedClient size c later l node) (sym asked) (client_later size c (items_at w) later (asked_in w) node became (k.clients c node is));
    packets = λ p a. subst (λ (l : List Request). IsKnown size later l p.message) (sym asked) (⊎_elim
        (λ old_one. known_later (items_at w) later (asked_in w) became k.pairs p.message (k.packets p old_one))
        (λ new_one. let r = sent_packet (owner_of w) node s.sends p new_one in
        subst (IsKnown size later (asked_in w)) (sym r.2) (answers_known later (asked_in w) table s.sends
        (subst (λ (l : List Stored). AreKnown (size table) (asked_in w) table l s.sends) (sym here) move.known) r.0 r.1))
        (among_either w.packets (packets_from (owner_of w) node s.sends) p a));
    pairs = subst (Pairs later) (sym asked) (pairs_later (items_at w) later (asked_in w) became k.pairs);
  }
    where
      node : Node
      node = nodes.Store (owner_of w table)

      new : Hosted
      new = record { store = s.store; history = history_on hosted.history s.facts; made = hosted.made }

      later : ℕ → List Stored
      later q = items_in (lookup (is_at (nat_cmp q)) (insert_entry nat_cmp w.tables table new))

      asked : requests_of (w.packets ++ packets_from (owner_of w) node s.sends) ≡ asked_in w
      asked = requests_both w.packets (packets_from (owner_of w) node s.sends)
          ∙ (ap (λ (l : List Request). asked_in w ++ l) (requests_sent (owner_of w) node s.sends ∙ answers_none (asked_in w) table s.store.disk.items s.sends move.known) ∙ append-nil (asked_in w))

      here : later table ≡ s.store.disk.items
      here = ⊎_elim (λ e. ap items_in e.1) (λ e. absurd (e.0 refl)) (look_cases w.tables table new table)

      became : (q : ℕ) → Became (size q) (asked_in w) q (items_at w q) (later q)
      became q = ⊎_elim
          (λ e. subst (λ (t : ℕ). Became (size t) (asked_in w) t (items_at w t) (later t)) (sym e.0)
          (subst (λ (l : List Stored). Became (size table) (asked_in w) table (items_at w table) l) (sym here)
          (subst (λ (l : List Stored). Became (size table) (asked_in w) table l s.store.disk.items) (sym (ap items_in at)) move.became)))
          (λ e. inl (ap items_in e.1)) (look_cases w.tables table new q)

      linked : Became (size table) (asked_in w) table old.store.disk.items s.store.disk.items → AreLinked (size table) s.store.disk.items
      linked (inl same) = subst (AreLinked (size table)) (sym same) (k.tables table old at).linked
      linked (inr x) = subst (AreLinked (size table)) (sym x.2) (push_linked (size table) old.store.disk.items (k.tables table old at).linked x.0 x.1.next)

      new_table : IsTable (asked_in w) table new
      new_table = record { linked = linked move.became; grows = move.grows; sends = move.sends; unmade = unmade }

      of_items : (q : ℕ) (i : Stored) → Among (later q) i → Became (size q) (asked_in w) q (items_at w q) (later q) → (r : Request) × IsOfRequest (asked_in w) q i r
      of_items q i a (inl same) = k.items q i (subst (λ (l : List Stored). Among l i) same a)
      of_items q i a (inr x) = ⊎_elim
          (λ before. k.items q i before)
          (λ same. (x.1.request, subst (λ (z : Stored). IsOfRequest (asked_in w) q z x.1.request) same x.1.of))
          (among_cases (items_at w q) x.0 i (subst (λ (l : List Stored). Among l i) x.2 a))
