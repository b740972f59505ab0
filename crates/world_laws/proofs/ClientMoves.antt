-- A move of a client keeps the world.
use Rattle.std.proofs.Common.{◌≡◌, ◌≢◌, ℕ, false, List, [], ◌∷◌, ◌++◌, Some, None, sym, ap, ◌∙◌, subst, arith, ⊎_elim, true≢false}
use Rattle.stab_base.specs.declared.node.Node.TheVariants as nodes
use Rattle.row_value.specs.declared.content.Content.{Content}
use Rattle.row_value.specs.declared.schema.Scheme.{Scheme}
use Rattle.table_model.specs.declared.entry.Entry.{Entry}
use Rattle.table_model.specs.declared.line.Write.{Write}
use Rattle.step_tables.specs.Members.{Among, put}
use Rattle.step_tables.specs.Messages.{Request, Response, Outcome, Message, Send, SyncRequest, SyncResponse, PullRequest, PullResponse, TornRowRequest, TornRowResponse}
use Rattle.step_tables.specs.Messages as messages
use Rattle.step_tables.specs.Sayings.{Heard, nothing_heard, own_all, Said, hear_all, write_of}
use Rattle.step_tables.specs.ClientMoves.{Client, ClientMove, ClientStep}
use Rattle.step_tables.proofs.Lists.{among_left, among_right, among_either, among_none, among_cons, among_here}
use Rattle.step_tables.proofs.Maps.{put_here, put_apart, put_cases}
use Rattle.store_laws.proofs.Items.{above, counted_up, one_version, latest_most}
use Rattle.store_laws.proofs.Grows.{lawful_knows, store_knows}
use Rattle.client_laws.specs.Part.{Items, Sending, sending_in, sendings, IsLapsed, Ours, OfTable, IsRequest, Requests, ClientPart, ClientLaw}
use Rattle.client_laws.specs.Part as part
use Rattle.world_tables.specs.World.{World, Packet, Outbox, after_client, client_at, owner_of, packets_from, address}
use Rattle.world_laws.proofs.Told.{SaidTold}
use Rattle.world_laws.proofs.Kept.{KnownIn, IsGood, IsGone, IsLost, IsFairMessage, IsFairPacket, Kept, MoveSound}
use Rattle.world_laws.proofs.Lines.{out_hear, out_said, all_told}
use Rattle.world_laws.proofs.Changes.{all_writes, SaysAll, all, good_all, good_sends, gone_facts}
use Rattle.world_laws.proofs.Looks.{look_cases}

module _ (g : ℕ → Scheme) where
  -- what a client knows of the items
  pub ours : (w : World) (s : Said) (k : Kept g w s) (c : ℕ) → Ours g c k.items (k.sent c) (s.heard c)
  ours w s k c = record {
    numbered = (k.told.clients c).numbered;
    fresh = (k.told.clients c).fresh;
    requested = λ r a. let q = k.lawful.good c r a in (q.write, q.written, q.table_is, q.row_is);
    of_table = table;
  }
    where
      table : (q : ℕ) → OfTable (g q) c (k.items q) q (s.heard c).writes (k.sent c)
      table q =
          let l = k.tables q in
          record {
            first = λ i a. (let up = above 0 (k.items q) i l.counted a in omega arith);
            up_to = λ i a. (let up = counted_up 0 (k.items q) i l.counted a in omega arith);
            one = λ i o a b e. one_version 0 (k.items q) i o l.counted a b e;
            last = λ i a. latest_most (k.items q) i l.counted a;
            over = λ exact i o a b same less. l.over exact i o a b same less;
            wrote = λ i a e. let f = l.known i a in
                (f.0, subst (λ (x : ℕ). write_of i.entry.number (s.heard x).writes ≡ Some f.0) e f.1, f.2, f.3, f.4);
            sends = λ i a e. let f = l.known i a in
                subst (λ (x : ℕ). Among (k.sent x) (record { table = q; row = i.entry.row; number = i.entry.number; base = i.entry.base })) e f.5;
          }

  -- more writes and sends: what is known of a write, and of a packet, stays
  module _ (heard next : ℕ → Heard) (h : Items) (sent later : ℕ → List Sending)
      (writes : (c n : ℕ) (w : Write) → write_of n (heard c).writes ≡ Some w → write_of n (next c).writes ≡ Some w)
      (sends : (c : ℕ) (r : Sending) → Among (sent c) r → Among (later c) r) where
    pub known_more : (table c : ℕ) (row : List ℕ) (n b : ℕ) (x : Content) → KnownIn heard sent table c row n b x → KnownIn next later table c row n b x
    known_more table c row n b x f = (f.0, writes c n f.0 f.1, f.2, f.3, f.4, sends c _ f.5)

    outcome_more : (r : Response) (o : Outcome) → part.IsOutcome g r.client h (sent r.client) r o → part.IsOutcome g r.client h (later r.client) r o
    outcome_more r (messages.Accepted v) f = f
    outcome_more r (messages.Again v) f = f
    outcome_more r (messages.Late v) f = f
    outcome_more r (messages.Conflict v) f = f
    outcome_more r messages.NeedWhole f = f
    outcome_more r (messages.Stale v) f = (
      f.0,
      record {
        base = f.1.base;
        was_sent = sends r.client _ f.1.was_sent;
        below = f.1.below;
        item = f.1.item;
        stands = f.1.stands;
        none = f.1.none;
      },
    )

    pub packet_more : (p : Packet) → IsFairPacket g heard h sent p → IsFairPacket g next h later p
    packet_more p = go p.message
      where
        go : (m : Message) → IsFairMessage g heard h sent p.from p.to m → IsFairMessage g next h later p.from p.to m
        go (SyncRequest q) f = (f.0, known_more q.table q.client q.row q.number q.base q.content f.1, f.2)
        go (PullRequest q) f = f
        go (SyncResponse r) f = (f.0, outcome_more r r.outcome f.1)
        go (PullResponse q) f = f
        go (TornRowRequest q) f = f
        go (TornRowResponse q) f = f

  module _ (w : World) (s : Said) (k : Kept g w s) (c : ℕ) (node : Client) (there : client_at w c ≡ Some node) (move : ClientMove) (step : ClientStep)
      (law : ClientLaw g c k.items (k.sent c) (s.heard c) move step) where
    t : Heard
    t = own_all (s.heard c) step.facts

    abbrev New : List Sending
    New = k.sent c ++ sendings step.sends

    -- s' is a variable, so that what it is equal to is found
    module _ (s' : Said) (told : SaidTold s') (history : s'.history ≡ s.history) (here : s'.heard c ≡ own_all (s.heard c) step.facts)
        (elsewhere : (q : ℕ) → q ≢ c → s'.heard q ≡ s.heard q) where
      abbrev Sent : ℕ → List Sending
      Sent = put k.sent c New

      writes : (q n : ℕ) (x : Write) → write_of n (s.heard q).writes ≡ Some x → write_of n (s'.heard q).writes ≡ Some x
      writes q n x at = ⊎_elim (λ e. rw (e.0, here) (all_writes (s.heard c) step.facts n x (rw e.0 at at))) (λ e. rw (elsewhere q e.0) at) (put_cases k.sent c New q)

      sends : (q : ℕ) (r : Sending) → Among (k.sent q) r → Among (Sent q) r
      sends q r a = ⊎_elim (λ e. subst (λ (xs : List Sending). Among xs r) (sym e.1) (among_left (k.sent c) (sendings step.sends) r (rw e.0 at a)))
          (λ e. subst (λ (xs : List Sending). Among xs r) (sym e.1) a) (put_cases k.sent c New q)

      good : (q : ℕ) (r : Sending) → Among (Sent q) r → IsGood g q k.items (s'.heard q) r
      good q r a = ⊎_elim
          (λ e. subst (λ (x : ℕ). IsGood g x k.items (s'.heard x) r) (sym e.0) (subst (λ (x : Heard). IsGood g c k.items x r) (sym here)
          (⊎_elim (λ b. good_all g c k.items (k.sent c) (s.heard c) step.facts r (k.lawful.good c r b))
          (λ b. good_sends g c k.items (k.sent c) (own_all (s.heard c) step.facts) step.sends law.sends r b)
          (among_either (k.sent c) (sendings step.sends) r (subst (λ (xs : List Sending). Among xs r) e.1 a)))))
          (λ e. subst (λ (x : Heard). IsGood g q k.items x r) (sym (elsewhere q e.0)) (k.lawful.good q r (subst (λ (xs : List Sending). Among xs r) e.1 a)))
          (put_cases k.sent c New q)

      -- no request of a lost write is sent
      not_sent : (u : Heard) (sends : List Send) → Requests g c k.items u sends → (table : ℕ) (row : List ℕ) (n : ℕ) (x : Write) → IsLost u table row n
          → write_of n u.writes ≡ Some x → x.table ≡ table → x.row ≡ row → (r : Sending) → Among (sendings sends) r → r.number ≢ n
      not_sent u [] q table row n x lost at in_table in_row r a = λ same. absurd (among_none r a)
      not_sent u (send ∷ more) q table row n x lost at in_table in_row r a =
          ⊎_elim (λ b. first send.message q.0 b) (λ b. not_sent u more q.1 table row n x lost at in_table in_row r b) (among_either (sending_in send.message) (sendings more) r a)
        where
          first : (m : Message) → IsRequest g c k.items u send m → Among (sending_in m) r → r.number ≢ n
          first (SyncResponse y) f b = absurd f
          first (PullResponse y) f b = absurd f
          first (PullRequest y) f b = λ same. absurd (among_none r b)
          first (TornRowRequest y) f b = λ same. absurd (among_none r b)
          first (TornRowResponse y) f b = absurd f
          first (SyncRequest y) f b = λ same.
              let m = f.1 in
              let one : record { table = y.table; row = y.row; number = y.number; base = y.base } ≡ r = ⊎_elim (λ e. e) (λ d. absurd (among_none r d)) (among_cons _ [] r b) in
              let number : y.number ≡ n = ap (λ (z : Sending). z.number) one ∙ same in
              let both : Some m.write ≡ Some x = sym m.written ∙ (ap (λ (z : ℕ). write_of z u.writes) number ∙ at) in
              let e : m.write ≡ x = cc in
              let table_is : y.table ≡ table = sym m.table_is ∙ (ap (λ (z : Write). z.table) e ∙ in_table) in
              let row_is : y.row ≡ row = sym m.row_is ∙ (ap (λ (z : Write). z.row) e ∙ in_row) in
              let clear : (u.at table row).conflict n ≡ None = rw (table_is, row_is, number) at m.clear in
              let unlost : (u.at table row).lost n ≡ false = rw (table_is, row_is, number) at m.unlost in
              ⊎_elim (λ v. absurd (let no : Some v.0 ≡ None = sym v.1 ∙ clear in cc)) (λ v. absurd (true≢false (sym v ∙ unlost))) lost

      gone_here : (table : ℕ) (row : List ℕ) (n : ℕ) → IsLost (own_all (s.heard c) step.facts) table row n → IsGone g c k.items New (own_all (s.heard c) step.facts) table row n
      gone_here table row n lost =
          let z = gone_facts g c k.items (k.sent c) (s.heard c) step.facts law.facts (λ q r m l. k.lawful.gone c q r m l) table row n lost in
          record {
            exact = z.exact;
            write = z.write;
            written = z.written;
            table_is = z.table_is;
            row_is = z.row_is;
            lapsed = record {
              below = λ r a same. ⊎_elim (λ b. z.lapsed.below r b same)
                  (λ b. absurd (not_sent (own_all (s.heard c) step.facts) step.sends law.sends table row n z.write lost z.written z.table_is z.row_is r b same))
                  (among_either (k.sent c) (sendings step.sends) r a);
              none = z.lapsed.none;
            };
          }

      gone : (q table : ℕ) (row : List ℕ) (n : ℕ) → IsLost (s'.heard q) table row n → IsGone g q k.items (Sent q) (s'.heard q) table row n
      gone q table row n = ⊎_elim
          (λ e. subst (λ (x : ℕ). IsLost (s'.heard x) table row n → IsGone g x k.items (Sent x) (s'.heard x) table row n) (sym e.0)
          (subst (λ (xs : List Sending). IsLost (s'.heard c) table row n → IsGone g c k.items xs (s'.heard c) table row n) (sym (put_here k.sent c New))
          (subst (λ (x : Heard). IsLost x table row n → IsGone g c k.items New x table row n) (sym here) (gone_here table row n))))
          (λ e. subst (λ (xs : List Sending). IsLost (s'.heard q) table row n → IsGone g q k.items xs (s'.heard q) table row n) (sym e.1)
          (subst (λ (x : Heard). IsLost x table row n → IsGone g q k.items (k.sent q) x table row n) (sym (elsewhere q e.0)) (k.lawful.gone q table row n)))
          (put_cases k.sent c New q)

      -- the client's part, and the others'
      client : (q : ℕ) (x : Client) → client_at (after_client w c step).world q ≡ Some x → ClientPart g q k.items (Sent q) (s'.heard q) x
      client q x at = ⊎_elim
          (λ e.
          let same : Some step.client ≡ Some x = sym e.1 ∙ at in
          let is : step.client ≡ x = cc in
          subst (λ (z : ℕ). ClientPart g z k.items (Sent z) (s'.heard z) x) (sym e.0)
          (subst (λ (xs : List Sending). ClientPart g c k.items xs (s'.heard c) x) (sym (put_here k.sent c New))
          (subst (λ (z : Heard). ClientPart g c k.items New z x) (sym here)
          (subst (λ (z : Client). ClientPart g c k.items New (own_all (s.heard c) step.facts) z) is law.part))))
          (λ e.
          let old : client_at w q ≡ Some x = sym e.1 ∙ at in
          subst (λ (xs : List Sending). ClientPart g q k.items xs (s'.heard q) x) (sym (put_apart k.sent c New q e.0))
          (subst (λ (z : Heard). ClientPart g q k.items (k.sent q) z x) (sym (elsewhere q e.0)) (k.clients q x old)))
          (look_cases w.clients c step.client q)

      no_client : (q : ℕ) → client_at (after_client w c step).world q ≡ None → (s'.heard q ≡ nothing_heard) × (Sent q ≡ [])
      no_client q none = ⊎_elim (λ e. absurd (let both : Some step.client ≡ None = sym e.1 ∙ none in cc))
          (λ e. let f = k.no_client q (sym e.1 ∙ none) in (elsewhere q e.0 ∙ f.0, put_apart k.sent c New q e.0 ∙ f.1)) (look_cases w.clients c step.client q)

      -- the packets that were sent
      fair_sends : (u : Heard) (sends : List Send) → ((n : ℕ) (x : Write) → write_of n u.writes ≡ Some x → write_of n (s'.heard c).writes ≡ Some x)
          → ((r : Sending) → Among (sendings sends) r → Among (Sent c) r) → Requests g c k.items u sends
          → (p : Packet) → Among (packets_from (owner_of w) (nodes.Client c) sends) p → IsFairPacket g s'.heard k.items Sent p
      fair_sends u [] more kept q p a = absurd (among_none p a)
      fair_sends u (send ∷ rest) more kept q p a = ⊎_elim
          (λ e. subst (λ (x : Packet). IsFairPacket g s'.heard k.items Sent x) e (first send.message q.0 (λ r b. kept r (among_left (sending_in send.message) (sendings rest) r b))))
          (λ b. fair_sends u rest more (λ r d. kept r (among_right (sending_in send.message) (sendings rest) r d)) q.1 p b)
          (among_cons (record { from = nodes.Client c; to = address (owner_of w) send.to send.message; message = send.message }) (packets_from (owner_of w) (nodes.Client c) rest) p a)
        where
          first : (m : Message) → IsRequest g c k.items u send m → ((r : Sending) → Among (sending_in m) r → Among (Sent c) r)
              → IsFairMessage g s'.heard k.items Sent (nodes.Client c) (address (owner_of w) send.to m) m
          first (SyncResponse y) f there_2 = absurd f
          first (PullResponse y) f there_2 = absurd f
          first (PullRequest y) f there_2 = sym f.1
          first (TornRowRequest y) f there_2 = sym f.1
          first (TornRowResponse y) f there_2 = absurd f
          first (SyncRequest y) f there_2 =
              let m = f.1 in
              let r : Sending = record { table = y.table; row = y.row; number = y.number; base = y.base } in
              let known : KnownIn s'.heard Sent y.table c y.row y.number y.base y.content =
              (m.write, more y.number m.write m.written, m.table_is, m.row_is, m.content_is, there_2 r (among_here r [])) in
              (sym m.client_is, subst (λ (q : ℕ). KnownIn s'.heard Sent y.table q y.row y.number y.base y.content) (sym m.client_is) known, m.base)

      client_kept : Kept g (after_client w c step).world s'
      client_kept = record {
        items = k.items;
        sent = Sent;
        told = told;
        history = λ table. ap (λ (f : ℕ → List Entry). f table) history ∙ k.history table;
        lawful = record { good = good; gone = gone };
        schemes = k.schemes;
        declared = k.declared;
        tables = λ table. lawful_knows (g table) table (KnownIn s.heard k.sent table) (KnownIn s'.heard Sent table) (known_more s.heard s'.heard k.items k.sent Sent writes sends table) (k.items table) (k.tables table);
        stores = λ table hosted at. let f = k.stores table hosted at in (
          store_knows (g table) table (KnownIn s.heard k.sent table) (KnownIn s'.heard Sent table) (known_more s.heard s'.heard k.items k.sent Sent writes sends table) (k.items table) hosted.store f.0,
          f.1 ∙ sym (ap (λ (m : ℕ → List Entry). m table) history),
        );
        unmade = k.unmade;
        no_store = k.no_store;
        clients = client;
        no_client = no_client;
        packets = λ p a. ⊎_elim (λ b. packet_more s.heard s'.heard k.items k.sent Sent writes sends p (k.packets p b))
            (λ b. fair_sends (own_all (s.heard c) step.facts) step.sends (λ n x at. rw here at)
            (λ r d. subst (λ (xs : List Sending). Among xs r) (sym (put_here k.sent c New)) (among_right (k.sent c) (sendings step.sends) r d)) law.sends p b)
            (among_either w.packets (packets_from (owner_of w) (nodes.Client c) step.sends) p a);
      }

    pub client_moves : (number : ℕ) → MoveSound g s w number (after_client w c step)
    client_moves number =
        let says : SaysAll g c k.items (k.sent c) s step.facts = all g c k.items (k.sent c) s k.history step.facts law.facts in
        let out : Outbox = record { facts = step.facts; packets = packets_from (owner_of w) (nodes.Client c) step.sends } in
        record {
          lines = out_said g s number out [] says.are tt;
          kept = rw (out_hear g s number out []) (client_kept (hear_all s step.facts) (all_told g s step.facts k.told says.are) says.history says.here says.elsewhere);
          there = λ table none. none;
        }
