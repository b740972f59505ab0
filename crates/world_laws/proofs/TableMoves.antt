-- A move of a table at the Store keeps the world.
use Rattle.std.proofs.Common.{◌≡◌, ◌≢◌, ℕ, ◌+◌, ◌<◌, ◌≤◌, Bool, true, false, List, [], ◌∷◌, ◌++◌, length, Option, Some, None, refl, sym, ap, ◌∙◌, subst, arith, inl, inr, ⊎_elim}
use Rattle.std.specs.Prelude.{nat_lt, if◌then◌else◌}
use Rattle.std.proofs.lemmas.Bool.Decides.{nat_tests}
use Rattle.std.proofs.lemmas.List.{length_push}
use Rattle.row_value.specs.declared.schema.Scheme.{Scheme}
use Rattle.row_value.specs.declared.schema.Scheme.TheVariants.{Strong, Causal, Eventual}
use Rattle.table_model.specs.declared.entry.Entry.{Entry}
use Rattle.table_model.specs.declared.line.Write.{Write}
use Rattle.table_model.specs.History.{current, same_row}
use Rattle.step_tables.specs.Store.{Stored, entries_of}
use Rattle.step_tables.specs.Facts.{Fact}
use Rattle.step_tables.specs.Members.{Among, put}
use Rattle.step_tables.specs.Messages.{Request, Response, Pulled, Header, Pair, Outcome, Message, Send, SyncRequest, SyncResponse, PullRequest, PullResponse, TornRowRequest, TornRowResponse}
use Rattle.step_tables.specs.Messages as messages
use Rattle.step_tables.specs.Sayings.{Saying, SaysNothing, SaysEntry, SaysBack, saying, Heard, Said, hear, hear_all, entered, write_of}
use Rattle.step_tables.specs.ClientMoves.{Client}
use Rattle.step_tables.specs.Items.{latest, IsItemOf, IsBase, IsYours, IsChange}
use Rattle.step_tables.proofs.Lists.{among_left, among_cases}
use Rattle.step_tables.proofs.Maps.{put_here, put_apart, put_cases}
use Rattle.store_laws.specs.Part.{Counts, IsLawful, IsNext, Tells, TellsAll}
use Rattle.store_laws.proofs.Items.{counted_up, latest_most, latest_item, latest-push}
use Rattle.store_laws.proofs.Law.{grown, base_grows}
use Rattle.client_laws.specs.Part.{Items, Sending, Spans, IsLapsed, IsRefused, Fits, ClientPart}
use Rattle.client_laws.specs.Part as part
use Rattle.world_tables.specs.Again.{may_repeat}
use Rattle.world_tables.specs.World.{World, Packet, client_at}
use Rattle.world_tables.specs.Sound.{HasNoEntry, IsOver, IsNew, IsSaid}
use Rattle.world_laws.proofs.Told.{SaidTold, told_step}
use Rattle.world_laws.proofs.Kept.{KnownIn, IsGood, IsGone, IsLost, Lawful, IsFairMessage, IsFairPacket}
use Rattle.world_laws.proofs.Lines.{FactsSaid}
use Rattle.world_laws.proofs.Changes.{stands, item_of, current_is}

-- what a client's crate gives
abbrev pub ClientGrows : Type 0
ClientGrows = (g : ℕ → Scheme) (c : ℕ) (h : Items) (sent : List Sending) (t : Heard) (s : Client) (table : ℕ) (i : Stored)
    → Fits g c h sent t table i → ClientPart g c h sent t s → ClientPart g c (put h table (h table ++ i ∷ [])) sent t s

abbrev pub LapsedGrows : Type 0
LapsedGrows = (g : ℕ → Scheme) (c : ℕ) (h : Items) (sent : List Sending) (t : Heard) (table : ℕ) (i : Stored) (n : ℕ) (w : Write)
    → Fits g c h sent t table i → write_of n t.writes ≡ Some w → g w.table ≢ Eventual
    → IsLapsed c h sent n → IsLapsed c (put h table (h table ++ i ∷ [])) sent n

entries_push : (h : List Stored) (i : Stored) → entries_of (h ++ i ∷ []) ≡ entries_of h ++ i.entry ∷ []
entries_push [] i = refl
entries_push (x ∷ h) i = ap (λ (es : List Entry). x.entry ∷ es) (entries_push h i)

pub entries_length : (h : List Stored) → length (entries_of h) ≡ length h
entries_length [] = refl
entries_length (x ∷ h) = grind (arith, entries_length h)

pub latest_low : (h : List Stored) (row : List ℕ) → Counts 0 h → latest h row ≤ length h
latest_low h row c = go (nat_lt 0 (latest h row)) refl
  where
    go : (b : Bool) → nat_lt 0 (latest h row) ≡ b → latest h row ≤ length h
    go true is =
        let i = latest_item h row (grind (arith, nat_tests, is)) in
        let up = counted_up 0 h i.0 c i.1.stands in
        let e = i.1.version_is in
        omega arith
    go false is = grind (arith, nat_tests, is)

spans_grow : (x : Scheme) (c n : ℕ) (h : List Stored) (i : Stored) (row : List ℕ) (read base : ℕ) → i.entry.version ≡ length h + 1 → base ≤ length h
    → Spans x c n h row read base → Spans x c n (h ++ i ∷ []) row read base
spans_grow Strong c n h i row read base next low k = k
spans_grow Eventual c n h i row read base next low k = tt
spans_grow Causal c n h i row read base next low k = λ o a same less up. ⊎_elim (λ b. k o b same less up)
    (λ e. absurd (let v = ap (λ (y : Stored). y.entry.version) e in omega arith)) (among_cases h i o a)

module _ (client_grows : ClientGrows) (lapsed_grows : LapsedGrows) (g : ℕ → Scheme) (w : World) (sent : ℕ → List Sending) where
  -- what the world keeps beside its tables' own states
  pub record Inv (s : Said) (h : Items) : Type 0 where
    pub told : SaidTold s
    pub history : (table : ℕ) → s.history table ≡ entries_of (h table)
    pub lawful : Lawful g s.heard h sent
    pub tables : (table : ℕ) → IsLawful (g table) (KnownIn s.heard sent table) (h table)
    pub clients : (c : ℕ) (node : Client) → client_at w c ≡ Some node → ClientPart g c h (sent c) (s.heard c) node
    pub packets : (p : Packet) → Among w.packets p → IsFairPacket g s.heard h sent p

  -- ---- one more item

  module _ (s : Said) (h : Items) (k : Inv s h) (table : ℕ) (i : Stored) (n : IsNext (g table) (KnownIn s.heard sent table) (h table) i) where
    abbrev Later : Items
    Later = put h table (h table ++ i ∷ [])

    client : ℕ
    client = i.entry.client

    wrote : Write
    wrote = n.known.0

    abbrev Request_of : Sending
    Request_of = record { table = table; row = i.entry.row; number = i.entry.number; base = i.entry.base }

    counted : Counts 0 (h table)
    counted = (k.tables table).counted

    fits : (c : ℕ) → Fits g c h (sent c) (s.heard c) table i
    fits c = record {
      next = n.next;
      bound = λ row. latest_low (h table) row counted;
      written = λ e. (n.known.0, subst (λ (q : ℕ). write_of i.entry.number (s.heard q).writes ≡ Some n.known.0) e n.known.1, n.known.2, n.known.3);
      over = λ exact e. subst (λ (q : ℕ). Among (sent q) (record { table = table; row = i.entry.row; number = i.entry.number; base = latest (h table) i.entry.row })) e
          (subst (λ (b : ℕ). Among (sent i.entry.client) (record { table = table; row = i.entry.row; number = i.entry.number; base = b })) (n.over exact) n.known.5);
    }

    -- an entry of the same write is an item of the same row
    once : HasNoEntry s i.entry.client i.entry.number
    once q o a client_is number_is =
        let m = k.told.entries q o a in
        let found : write_of i.entry.number (s.heard i.entry.client).writes ≡ Some m.0 =
        subst (λ (x : ℕ). write_of x (s.heard i.entry.client).writes ≡ Some m.0) number_is (subst (λ (x : ℕ). write_of o.number (s.heard x).writes ≡ Some m.0) client_is m.1.told) in
        let both : Some m.0 ≡ Some n.known.0 = sym found ∙ n.known.1 in
        let same : m.0 ≡ n.known.0 = cc in
        let in_table : q ≡ table = sym m.1.table_is ∙ (ap (λ (y : Write). y.table) same ∙ n.known.2) in
        let in_row : o.row ≡ i.entry.row = sym m.1.row_is ∙ (ap (λ (y : Write). y.row) same ∙ n.known.3) in
        let item = item_of (h table) o (subst (λ (es : List Entry). Among es o) (k.history table) (subst (λ (x : ℕ). Among (s.history x) o) in_table a)) in
        let less : item.0.entry.number < i.entry.number = n.rises item.0 item.1 (ap (λ (y : Entry). y.client) item.2 ∙ client_is) (ap (λ (y : Entry). y.row) item.2 ∙ in_row) in
        let number = ap (λ (y : Entry). y.number) item.2 in
        absurd (omega arith)

    rises : (o : Entry) → Among (s.history table) o → o.client ≡ i.entry.client → o.row ≡ i.entry.row → o.number < i.entry.number
    rises o a client_is row_is =
        let item = item_of (h table) o (subst (λ (es : List Entry). Among es o) (k.history table) a) in
        let less : item.0.entry.number < i.entry.number = n.rises item.0 item.1 (ap (λ (y : Entry). y.client) item.2 ∙ client_is) (ap (λ (y : Entry). y.row) item.2 ∙ row_is) in
        let number = ap (λ (y : Entry). y.number) item.2 in
        omega arith

    -- THE SCHEME'S RULE of the next entry
    over_is : (x : Scheme) → g table ≡ x → (read : ℕ) → Spans x i.entry.client i.entry.number (h table) i.entry.row read i.entry.base → IsOver x (entries_of (h table)) read i.entry
    over_is Strong is read spans =
        let exact : i.entry.base ≡ latest (h table) i.entry.row = n.over (λ e. absurd (let no : Strong ≡ Eventual = sym is ∙ e in cc)) in
        let base : i.entry.base ≡ current (entries_of (h table)) i.entry.row = exact ∙ sym (current_is (h table) i.entry.row) in
        (base, spans ∙ base)
    over_is Causal is read spans =
        let exact : i.entry.base ≡ latest (h table) i.entry.row = n.over (λ e. absurd (let no : Causal ≡ Eventual = sym is ∙ e in cc)) in (
          exact ∙ sym (current_is (h table) i.entry.row),
          λ o a row_is less.
              let m = item_of (h table) o a in
              let in_row : m.0.entry.row ≡ i.entry.row = ap (λ (y : Entry). y.row) m.2 ∙ row_is in
              let version = ap (λ (y : Entry). y.version) m.2 in
              let most : m.0.entry.version ≤ latest (h table) m.0.entry.row = latest_most (h table) m.0 counted m.1 in
              let low : m.0.entry.version ≤ latest (h table) i.entry.row = subst (λ (r : List ℕ). m.0.entry.version ≤ latest (h table) r) in_row most in
              let f = spans m.0 m.1 in_row (omega arith) (omega arith) in
              (sym (ap (λ (y : Entry). y.client) m.2) ∙ f.0, (let number = ap (λ (y : Entry). y.number) m.2 in let less_2 = f.1 in omega arith)),
        )
    over_is Eventual is read spans = ⊎_elim (λ zero. inl zero) (λ b. inr (b.0.entry, stands (h table) b.0 b.1.stands, b.1.row_is, b.1.version_is)) n.based

    -- what comes next wasn't lost
    not_lost : IsLost (s.heard i.entry.client) table i.entry.row i.entry.number → ⊥
    not_lost lost =
        let z = k.lawful.gone i.entry.client table i.entry.row i.entry.number lost in
        let less : i.entry.base < latest (h table) i.entry.row = z.lapsed.below Request_of n.known.5 refl in
        let base = n.over z.exact in
        absurd (omega arith)

    new_is : IsNew g s table i.entry
    new_is =
        let good = k.lawful.good i.entry.client Request_of n.known.5 in
        record {
          next = n.next ∙ ap (λ (x : ℕ). x + 1) (sym (ap length (k.history table) ∙ entries_length (h table)));
          write = good.write;
          written = record { told = good.written; by = ((k.told.clients i.entry.client).numbered i.entry.number good.write good.written).1; table_is = good.table_is; row_is = good.row_is };
          once = once;
          rises = rises;
          over = rw (k.history table) (over_is (g table) refl good.write.read good.spans);
          unlost = unlost ((s.heard i.entry.client).at table i.entry.row).lost refl;
          standing = standing (((s.heard i.entry.client).at table i.entry.row).conflict i.entry.number) refl;
        }
      where
        unlost : (f : ℕ → Bool) → ((s.heard i.entry.client).at table i.entry.row).lost ≡ f → f i.entry.number ≡ false
        unlost f is = go (f i.entry.number) refl
          where
            go : (b : Bool) → f i.entry.number ≡ b → f i.entry.number ≡ false
            go false e = e
            go true e = absurd (not_lost (inr (ap (λ (m : ℕ → Bool). m i.entry.number) is ∙ e)))

        standing : (o : Option ℕ) → ((s.heard i.entry.client).at table i.entry.row).conflict i.entry.number ≡ o → o ≡ None
        standing None is = refl
        standing (Some v) is = absurd (not_lost (inl (v, is)))

    -- ---- each part with the item

    grown_at : (q : ℕ) (P : List Stored → Type 0) → (q ≡ table → P (h table) → P (h table ++ i ∷ [])) → P (h q) → P (Later q)
    grown_at q P f p = ⊎_elim
        (λ e. subst P (sym e.1) (f e.0 (subst (λ (x : ℕ). P (h x)) e.0 p)))
        (λ e. subst P (sym e.1) p) (put_cases h table (h table ++ i ∷ []) q)

    more_at : (q : ℕ) (o : Stored) → Among (h q) o → Among (Later q) o
    more_at q o a = grown_at q (λ xs. Among xs o) (λ e b. among_left (h table) (i ∷ []) o b) a

    base_at : (q : ℕ) (row : List ℕ) (base : ℕ) → IsBase (h q) row base → IsBase (Later q) row base
    base_at q row base k2 = grown_at q (λ xs. IsBase xs row base) (λ e b. base_grows (g table) table (KnownIn s.heard sent table) (h table) i row base b) k2

    good_at : (c : ℕ) (r : Sending) → IsGood g c h (s.heard c) r → IsGood g c Later (s.heard c) r
    good_at c r f = record {
      write = f.write;
      written = f.written;
      table_is = f.table_is;
      row_is = f.row_is;
      base = base_at r.table r.row r.base f.base;
      spans = (grown_at r.table (λ xs. (r.base ≤ length xs) × Spans (g r.table) c r.number xs r.row f.write.read r.base)
          (λ e b. (grind (arith, length_push, b.0), spans_grow (g r.table) c r.number (h table) i r.row f.write.read r.base n.next b.0 b.1)) (f.low, f.spans)).1;
      low = (grown_at r.table (λ xs. r.base ≤ length xs) (λ e b. grind (arith, length_push, b)) f.low);
    }

    gone_at : (c q : ℕ) (row : List ℕ) (m : ℕ) → IsGone g c h (sent c) (s.heard c) q row m → IsGone g c Later (sent c) (s.heard c) q row m
    gone_at c q row m z = record {
      exact = z.exact;
      write = z.write;
      written = z.written;
      table_is = z.table_is;
      row_is = z.row_is;
      lapsed = lapsed_grows g c h (sent c) (s.heard c) table i m z.write (fits c) z.written (rw z.table_is z.exact) z.lapsed;
    }

    -- a strong write was sent over one base, its read position
    refused_at : (c m q : ℕ) (row : List ℕ) (v : ℕ) → g q ≡ Strong → IsRefused c h (sent c) m q row v → IsRefused c Later (sent c) m q row v
    refused_at c m q row v strong f = record {
      base = f.base;
      was_sent = f.was_sent;
      below = f.below;
      item = f.item;
      stands = record { stands = more_at q f.item f.stands.stands; row_is = f.stands.row_is; version_is = f.stands.version_is };
      none = λ other o a client_is. ⊎_elim
          (λ e. ⊎_elim (λ b. f.none table o b client_is) (λ same. last o same client_is) (among_cases (h table) i o (subst (λ (xs : List Stored). Among xs o) e.1 a)))
          (λ e. f.none other o (subst (λ (xs : List Stored). Among xs o) e.1 a) client_is)
          (put_cases h table (h table ++ i ∷ []) other);
    }
      where
        last : (o : Stored) → i ≡ o → o.entry.client ≡ c → o.entry.number ≢ m
        last o same client_is = λ number_is.
            let by : i.entry.client ≡ c = ap (λ (y : Stored). y.entry.client) same ∙ client_is in
            let number : i.entry.number ≡ m = ap (λ (y : Stored). y.entry.number) same ∙ number_is in
            let sent_i : Among (sent c) Request_of = subst (λ (x : ℕ). Among (sent x) Request_of) by n.known.5 in
            let x = k.lawful.good c Request_of sent_i in
            let y = k.lawful.good c (record { table = q; row = row; number = m; base = f.base }) f.was_sent in
            let both : Some x.write ≡ Some y.write = sym x.written ∙ (ap (λ (z : ℕ). write_of z (s.heard c).writes) number ∙ y.written) in
            let e : x.write ≡ y.write = cc in
            let in_table : table ≡ q = sym x.table_is ∙ (ap (λ (z : Write). z.table) e ∙ y.table_is) in
            let in_row : i.entry.row ≡ row = sym x.row_is ∙ (ap (λ (z : Write). z.row) e ∙ y.row_is) in
            let x_strong : g table ≡ Strong = ap g in_table ∙ strong in
            let x_spans : Spans Strong c i.entry.number (h table) i.entry.row x.write.read i.entry.base =
            subst (λ (z : Scheme). Spans z c i.entry.number (h table) i.entry.row x.write.read i.entry.base) x_strong x.spans in
            let y_spans : Spans Strong c m (h q) row y.write.read f.base = subst (λ (z : Scheme). Spans z c m (h q) row y.write.read f.base) strong y.spans in
            let read = ap (λ (z : Write). z.read) e in
            let exact : i.entry.base ≡ latest (h table) i.entry.row = n.over (λ no. absurd (let both_2 : Strong ≡ Eventual = sym x_strong ∙ no in cc)) in
            let most : f.item.entry.version ≤ latest (h q) f.item.entry.row = latest_most (h q) f.item (k.tables q).counted f.stands.stands in
            let up : f.item.entry.version ≤ latest (h table) i.entry.row = subst (λ (z : List ℕ). f.item.entry.version ≤ latest (h table) z) (f.stands.row_is ∙ sym in_row)
            (subst (λ (z : ℕ). f.item.entry.version ≤ latest (h z) f.item.entry.row) (sym in_table) most) in
            let version = f.stands.version_is in
            let less : f.base < v = f.below in
            absurd (omega arith)

    latest_grows : (row : List ℕ) (v : ℕ) → v ≤ length (h table) → latest (h table ++ i ∷ []) row ≤ v → latest (h table ++ i ∷ []) row ≡ latest (h table) row
    latest_grows row v low le = go (same_row i.entry.row row) refl
      where
        go : (b : Bool) → same_row i.entry.row row ≡ b → latest (h table ++ i ∷ []) row ≡ latest (h table) row
        go false is = grind (arith, nat_tests, latest-push (h table) i row, is)
        go true is = absurd (let next = n.next in grind (arith, nat_tests, latest-push (h table) i row, is, next, low, le))

    yours_at : (c : ℕ) (row : List ℕ) (v : ℕ) (y : Pair) → v ≤ length (h table) → IsYours c (h table) row v y → IsYours c (h table ++ i ∷ []) row v y
    yours_at c row v y low f = record {
      all = λ o a client_is row_is le. ⊎_elim (λ b. f.all o b client_is row_is le)
          (λ e. absurd (let next = n.next in let v_2 = ap (λ (z : Stored). z.entry.version) e in omega arith)) (among_cases (h table) i o a);
      is = ⊎_elim (λ z. inl z) (λ j. inr (
        j.0,
        record {
          stands = among_left (h table) (i ∷ []) j.0 j.1.stands;
          client_is = j.1.client_is;
          number_is = j.1.number_is;
          row_is = j.1.row_is;
          version_is = j.1.version_is;
        },
        j.2,
      )) f.is;
    }

    change_at : (c q from to : ℕ) (hd : Header) → IsChange c (h q) from to hd → IsChange c (Later q) from to hd
    change_at c q from to hd f = grown_at q (λ xs. IsChange c xs from to hd) (λ e b. one b) f
      where
        one : IsChange c (h table) from to hd → IsChange c (h table ++ i ∷ []) from to hd
        one b =
            let low : hd.version ≤ length (h table) = (let up = counted_up 0 (h table) b.item counted b.is.stands in let v = b.is.version_is in omega arith) in
            record {
              item = b.item;
              is = record { stands = among_left (h table) (i ∷ []) b.item b.is.stands; row_is = b.is.row_is; version_is = b.is.version_is };
              content = b.content;
              to_is = b.to_is;
              above = b.above;
              yours = yours_at c hd.row hd.version hd.yours low b.yours;
              others = λ row le.
                  let to_low : to ≤ length (h table) = (let t = b.to_is in omega arith) in
                  let same : latest (h table ++ i ∷ []) row ≡ latest (h table) row = latest_grows row to to_low le in
                  ⊎_elim (λ e. inl e) (λ e. inr (let e2 = e in omega arith)) (b.others row (omega arith));
            }

    row_for_at : (c q : ℕ) (hd : Header) → part.IsRowFor c (h q) hd → part.IsRowFor c (Later q) hd
    row_for_at c q hd f = grown_at q (λ xs. part.IsRowFor c xs hd) (λ e b. one b) f
      where
        one : part.IsRowFor c (h table) hd → part.IsRowFor c (h table ++ i ∷ []) hd
        one b =
            let low : hd.version ≤ length (h table) = (let up = counted_up 0 (h table) b.0 counted b.1.stands in let v = b.1.version_is in omega arith) in (
              b.0,
              record { stands = among_left (h table) (i ∷ []) b.0 b.1.stands; row_is = b.1.row_is; version_is = b.1.version_is },
              b.2,
              yours_at c hd.row hd.version hd.yours low b.3,
            )

    item_of_at : (c m q : ℕ) (row : List ℕ) (v : ℕ) → (o : Stored) × IsItemOf (h q) c m row v o → (o : Stored) × IsItemOf (Later q) c m row v o
    item_of_at c m q row v f =
        (f.0, record { stands = more_at q f.0 f.1.stands; client_is = f.1.client_is; number_is = f.1.number_is; row_is = f.1.row_is; version_is = f.1.version_is })

    outcome_at : (r : Response) (o : Outcome) → part.IsOutcome g r.client h (sent r.client) r o → part.IsOutcome g r.client Later (sent r.client) r o
    outcome_at r (messages.Accepted v) f = item_of_at r.client r.number r.table r.row v f
    outcome_at r (messages.Again v) f = item_of_at r.client r.number r.table r.row v f
    outcome_at r (messages.Late v) f = f
    outcome_at r (messages.Conflict v) f = f
    outcome_at r messages.NeedWhole f = f
    outcome_at r (messages.Stale v) f = (f.0, refused_at r.client r.number r.table r.row v f.0 f.1)

    packet_at : (p : Packet) → IsFairPacket g s.heard h sent p → IsFairPacket g s.heard Later sent p
    packet_at p = go p.message
      where
        header : (q : Pulled) (o : Option Header) → part.IsHeader q.client h q o → part.IsHeader q.client Later q o
        header q None f = tt
        header q (Some hd) f = (change_at q.client q.table q.from q.to hd f.0, f.1)

        torn : (c q : ℕ) (o : Option Header) → part.IsTornHeader c (h q) o → part.IsTornHeader c (Later q) o
        torn c q None f = tt
        torn c q (Some hd) f = row_for_at c q hd f

        go : (m : Message) → IsFairMessage g s.heard h sent p.from p.to m → IsFairMessage g s.heard Later sent p.from p.to m
        go (SyncRequest q) f = (f.0, f.1, base_at q.table q.row q.base f.2)
        go (PullRequest q) f = f
        go (SyncResponse r) f = (f.0, outcome_at r r.outcome f.1)
        go (PullResponse q) f = (f.0, header q q.header f.1)
        go (TornRowRequest q) f = f
        go (TornRowResponse q) f = (f.0, torn q.client q.table q.header f.1)

    inv_next : Inv (hear s (SaysEntry table i.entry)) Later
    inv_next = record {
      told = told_step g s false (SaysEntry table i.entry) k.told (inl new_is);
      history = λ q. ⊎_elim (λ e. e.1 ∙ (entered_is ∙ sym (ap entries_of (later_is q e.0)))) (λ e. e.1 ∙ (k.history q ∙ sym (ap entries_of (put_apart h table (h table ++ i ∷ []) q e.0)))) (put_cases s.history table (entered (s.history table) i.entry) q);
      lawful = record { good = λ c r a. good_at c r (k.lawful.good c r a); gone = λ c q row m lost. gone_at c q row m (k.lawful.gone c q row m lost) };
      tables = λ q. ⊎_elim
          (λ e. subst (λ (x : ℕ). IsLawful (g x) (KnownIn s.heard sent x) (Later x)) (sym e.0)
          (subst (λ (xs : List Stored). IsLawful (g table) (KnownIn s.heard sent table) xs) (sym (put_here h table (h table ++ i ∷ [])))
          (grown (g table) table (KnownIn s.heard sent table) (h table) i (k.tables table) n)))
          (λ e. subst (λ (xs : List Stored). IsLawful (g q) (KnownIn s.heard sent q) xs) (sym e.1) (k.tables q))
          (put_cases h table (h table ++ i ∷ []) q);
      clients = λ c node at. client_grows g c h (sent c) (s.heard c) node table i (fits c) (k.clients c node at);
      packets = λ p a. packet_at p (k.packets p a);
    }
      where
        later_is : (q : ℕ) → q ≡ table → Later q ≡ h table ++ i ∷ []
        later_is q e = ap Later e ∙ put_here h table (h table ++ i ∷ [])

        entered_is : entered (s.history table) i.entry ≡ entries_of (h table ++ i ∷ [])
        entered_is = go (nat_lt (length (s.history table)) i.entry.version) refl
          where
            go : (b : Bool) → nat_lt (length (s.history table)) i.entry.version ≡ b → (if b then s.history table ++ i.entry ∷ [] else s.history table) ≡ entries_of (h table ++ i ∷ [])
            go true is = ap (λ (es : List Entry). es ++ i.entry ∷ []) (k.history table) ∙ sym (entries_push (h table) i)
            go false is = absurd (grind (arith, nat_tests, is, n.next, ap length (k.history table), entries_length (h table)))

  -- ---- all that a table tells

  pub record Result (s : Said) (h : Items) (table : ℕ) (some : List Fact) (later : List Stored) : Type 0 where
    pub items : Items
    pub here : items table ≡ later
    pub elsewhere : (q : ℕ) → q ≢ table → items q ≡ h q
    pub are : FactsSaid g s some
    pub heard : (hear_all s some).heard ≡ s.heard
    pub inv : Inv (hear_all s some) items

  record One (s : Said) (h : Items) (table : ℕ) (repeats : Bool) (x : Saying) (later : List Stored) : Type 0 where
    items : Items
    here : items table ≡ later
    elsewhere : (q : ℕ) → q ≢ table → items q ≡ h q
    is : IsSaid g s repeats x
    heard : (hear s x).heard ≡ s.heard
    inv : Inv (hear s x) items

  -- a saying that adds nothing
  again : (s : Said) (h : Items) → Inv s h → (table : ℕ) (e : Entry) → ((i : Stored) × Among (h table) i × (i.entry ≡ e)) → Inv (hear s (SaysEntry table e)) h
  again s h k table e f = record {
    told = told_step g s true (SaysEntry table e) k.told (inr (refl, there));
    history = λ q. ⊎_elim (λ m. m.1 ∙ (entered_is ∙ ap s.history (sym m.0)) ∙ k.history q) (λ m. m.1 ∙ k.history q) (put_cases s.history table (entered (s.history table) e) q);
    lawful = k.lawful;
    tables = k.tables;
    clients = k.clients;
    packets = k.packets;
  }
    where
      there : Among (s.history table) e
      there = subst (λ (es : List Entry). Among es e) (sym (k.history table)) (subst (λ (x : Entry). Among (entries_of (h table)) x) f.2 (stands (h table) f.0 f.1))

      entered_is : entered (s.history table) e ≡ s.history table
      entered_is = go (nat_lt (length (s.history table)) e.version) refl
        where
          go : (b : Bool) → nat_lt (length (s.history table)) e.version ≡ b → (if b then s.history table ++ e ∷ [] else s.history table) ≡ s.history table
          go false is = refl
          go true is = absurd (
              let up = counted_up 0 (h table) f.0 (k.tables table).counted f.1 in
              let v : f.0.entry.version ≡ e.version = ap (λ (y : Entry). y.version) f.2 in
              let l : length (s.history table) ≡ length (h table) = ap length (k.history table) ∙ entries_length (h table) in
              grind (arith, nat_tests, is, up, v, l)
              )

  one : (s : Said) (h : Items) → Inv s h → (table : ℕ) (repeats : Bool) (x : Saying) (later : List Stored)
      → Tells (g table) table (KnownIn s.heard sent table) (h table) repeats x later → One s h table repeats x later
  one s h k table repeats SaysNothing later f = record { items = h; here = sym f; elsewhere = λ q apart. refl; is = tt; heard = refl; inv = k }
  one s h k table repeats (SaysBack number version) later f = record {
    items = h;
    here = sym f.2;
    elsewhere = λ q apart. refl;
    is = rw f.0 (f.1 ∙ ap (λ (x : ℕ). x + 1) (sym (ap length (k.history table) ∙ entries_length (h table))));
    heard = refl;
    inv = k;
  }
  one s h k table repeats (SaysEntry number e) later (same, inl f) =
      let new : IsNew g s table e = subst (λ (x : Entry). IsNew g s table x) f.1 (new_is s h k table f.0 f.2) in
      let at : Inv (hear s (SaysEntry table e)) (put h table (h table ++ f.0 ∷ [])) = subst (λ (x : Entry). Inv (hear s (SaysEntry table x)) (put h table (h table ++ f.0 ∷ []))) f.1 (inv_next s h k table f.0 f.2) in
      record {
        items = put h table (h table ++ f.0 ∷ []);
        here = put_here h table (h table ++ f.0 ∷ []) ∙ sym f.3;
        elsewhere = λ q apart. put_apart h table (h table ++ f.0 ∷ []) q apart;
        is = inl (rw same new);
        heard = refl;
        inv = rw same at;
      }
  one s h k table repeats (SaysEntry number e) later (same, inr f) =
      let at : Inv (hear s (SaysEntry table e)) h = again s h k table e f.2 in
      record {
        items = h;
        here = sym f.1;
        elsewhere = λ q apart. refl;
        is = inr (f.0, rw (same, k.history table) (subst (λ (x : Entry). Among (entries_of (h table)) x) f.2.2 (stands (h table) f.2.0 f.2.1)));
        heard = refl;
        inv = rw same at;
      }
  one s h k table repeats other later f = absurd f

  pub all : (s : Said) (h : Items) → Inv s h → (table : ℕ) (some : List Fact) (later : List Stored)
      → TellsAll (g table) table (KnownIn s.heard sent table) (h table) some later → Result s h table some later
  all s h k table [] later f = record { items = h; here = sym f; elsewhere = λ q apart. refl; are = tt; heard = refl; inv = k }
  all s h k table (fact ∷ more) later f =
      let first : One s h table (may_repeat fact) (saying fact) f.0 = one s h k table (may_repeat fact) (saying fact) f.0 f.1 in
      let then_tells : TellsAll (g table) table (KnownIn (hear s (saying fact)).heard sent table) (first.items table) more later =
      subst (λ (xs : List Stored). TellsAll (g table) table (KnownIn (hear s (saying fact)).heard sent table) xs more later) (sym first.here)
      (subst (λ (m : ℕ → Heard). TellsAll (g table) table (KnownIn m sent table) f.0 more later) (sym first.heard) f.2) in
      let rest : Result (hear s (saying fact)) first.items table more later = all (hear s (saying fact)) first.items first.inv table more later then_tells in
      record {
        items = rest.items;
        here = rest.here;
        elsewhere = λ q apart. rest.elsewhere q apart ∙ first.elsewhere q apart;
        are = (first.is, rest.are);
        heard = rest.heard ∙ first.heard;
        inv = rest.inv;
      }
