-- What the nodes told in a step is told and sent, as lines and as parts.
use Rattle.std.proofs.Common.{◌≡◌, ◌⊎◌, ⊎_elim, ℕ, ◌+◌, ◌<◌, Bool, true, false, List, [], ◌∷◌, ◌++◌, length, map, refl, sym, ◌∙◌, ap, subst, arith, append_assoc}
use Rattle.std.specs.Prelude.{filter, option_to_list, if◌then◌else◌}
use Rattle.disk_trait.specs.Calls.{DiskState}
use Rattle.row_value.specs.declared.schema.Schema.{Schema}
use Rattle.table_model.specs.declared.line.TextLine.{TextLine}
use Rattle.step_tables.specs.Facts.{Fact, Line, AnswerLine, FactLine}
use Rattle.world_tables.specs.World.{World as AWorld, Packet, Outbox, owner_of}
use Rattle.store_host.specs.Holds as stores
use Rattle.journal_host.specs.Holds as hosts
use Rattle.wire_tables.specs.Wire.{PartPacket, in_parts, sent_lines, lines_from, spread}
use Rattle.part_network.specs.Packets.{HasPackets, most_bytes, bytes_of}
use Rattle.part_network.specs.declared.network.Network.{Network}
use Rattle.node_steps.specs.declared.fault.WorldFault.{WorldFault}
use Rattle.node_steps.specs.declared.told.Outs.{Outs}
use Rattle.node_steps.specs.declared.told.Outs.TheVariants as outs
use Rattle.node_steps.specs.declared.told.Told.{Told}
use Rattle.node_steps.specs.Told.{AreOuts, answer_lines}
use Rattle.wire_steps.specs.declared.world.World.{World}
use Rattle.wire_steps.specs.Sending.{parts_of, parts_in, outs_of, AllOutsSent, IsSender, AreTold, IsOverFault, IsToTell, IsTold}
use Rattle.wire_steps.proofs.Sent.{outs_among}

-- ---- moves that told and sent nothing

abbrev pub AreSilent : (Outbox → Bool) → Type 0
AreSilent says = (out : Outbox) → says out ≡ false → (out.facts ≡ []) × (out.packets ≡ [])

pub store_silent : AreSilent stores.says_something
store_silent out is = go out.facts out.packets is
  where
    go : (facts : List Fact) (packets : List Packet) → stores.says_something (record { facts = facts; packets = packets }) ≡ false → (facts ≡ []) × (packets ≡ [])
    go [] [] is = (refl, refl)
    go [] (p ∷ packets) is = absurd cc
    go (fact ∷ facts) packets is = absurd cc

pub client_silent : AreSilent hosts.says_something
client_silent out is = go out.facts out.packets is
  where
    go : (facts : List Fact) (packets : List Packet) → hosts.says_something (record { facts = facts; packets = packets }) ≡ false → (facts ≡ []) × (packets ≡ [])
    go [] [] is = (refl, refl)
    go [] (p ∷ packets) is = absurd cc
    go (fact ∷ facts) packets is = absurd cc

module _ (says : Outbox → Bool) (silent : AreSilent says) (w : AWorld) where
  said_parts : (moves : List Outbox) → parts_in w (filter says moves) ≡ parts_in w moves
  said_parts [] = refl
  said_parts (out ∷ moves) = go (says out) refl (said_parts moves)
    where
      go : (b : Bool) → says out ≡ b → parts_in w (filter says moves) ≡ parts_in w moves
          → parts_in w (if b then out ∷ filter says moves else filter says moves) ≡ parts_of w out.packets ++ parts_in w moves
      go true is rest = ap (λ (ps : List PartPacket). parts_of w out.packets ++ ps) rest
      go false is rest = rest ∙ sym (ap (λ (ps : List Packet). parts_of w ps ++ parts_in w moves) (silent out is).1)

  said_lines : (n : ℕ) (moves : List Outbox) → lines_from n (map (in_parts w) (filter says moves)) ≡ lines_from n (map (in_parts w) moves)
  said_lines n [] = refl
  said_lines n (out ∷ moves) = go (says out) refl (λ k. said_lines k moves)
    where
      rest_from : ℕ → List Line
      rest_from k = lines_from k (map (in_parts w) moves)

      none : (k : ℕ) → k ≡ k + 0
      none k = omega arith

      go : (b : Bool) → says out ≡ b → ((k : ℕ) → lines_from k (map (in_parts w) (filter says moves)) ≡ lines_from k (map (in_parts w) moves))
          → lines_from n (map (in_parts w) (if b then out ∷ filter says moves else filter says moves))
          ≡ map FactLine out.facts ++ (sent_lines n (parts_of w out.packets) ++ lines_from (n + length (parts_of w out.packets)) (map (in_parts w) moves))
      go true is rest =
          ap (λ (ls : List Line). map FactLine out.facts ++ (sent_lines n (parts_of w out.packets) ++ ls)) (rest (n + length (parts_of w out.packets)))
      go false is rest =
          rest n ∙ (ap rest_from (none n)
          ∙ sym (ap (λ (fs : List Fact). map FactLine fs ++ (sent_lines n (parts_of w out.packets) ++ rest_from (n + length (parts_of w out.packets)))) (silent out is).0
          ∙ ap (λ (ps : List Packet). sent_lines n (parts_of w ps) ++ rest_from (n + length (parts_of w ps))) (silent out is).1))

  said_sent : (moves : List Outbox) → AllOutsSent w moves → AllOutsSent w (filter says moves)
  said_sent [] all = tt
  said_sent (out ∷ moves) all = go (says out) (said_sent moves all.1)
    where
      go : (b : Bool) → AllOutsSent w (filter says moves) → AllOutsSent w (if b then out ∷ filter says moves else filter says moves)
      go true rest = (all.0, rest)
      go false rest = rest

-- what is handed over is what the moves told and sent
pub told_parts : (w : AWorld) (owners : ℕ → ℕ) (o : Outs) (moves : List Outbox) → AreOuts owners o moves → parts_in w (outs_of owners o) ≡ parts_in w moves
told_parts w owners outs.Nothing moves is = ap (parts_in w) (sym is)
told_parts w owners (outs.OfStore some) moves is = ap (parts_in w) is ∙ said_parts stores.says_something store_silent w moves
told_parts w owners (outs.OfClients some) moves is = ap (parts_in w) is ∙ said_parts hosts.says_something client_silent w moves

pub told_lines : (w : AWorld) (n : ℕ) (owners : ℕ → ℕ) (o : Outs) (moves : List Outbox) → AreOuts owners o moves → lines_from n (map (in_parts w) (outs_of owners o)) ≡ lines_from n (map (in_parts w) moves)
told_lines w n owners outs.Nothing moves is = ap (λ (os : List Outbox). lines_from n (map (in_parts w) os)) (sym is)
told_lines w n owners (outs.OfStore some) moves is =
    ap (λ (os : List Outbox). lines_from n (map (in_parts w) os)) is ∙ said_lines stores.says_something store_silent w n moves
told_lines w n owners (outs.OfClients some) moves is =
    ap (λ (os : List Outbox). lines_from n (map (in_parts w) os)) is ∙ said_lines hosts.says_something client_silent w n moves

pub told_sent : (w : AWorld) (owners : ℕ → ℕ) (o : Outs) (moves : List Outbox) → AreOuts owners o moves → AllOutsSent w moves → AllOutsSent w (outs_of owners o)
told_sent w owners outs.Nothing moves is all = tt
told_sent w owners (outs.OfStore some) moves is all = subst (AllOutsSent w) (sym is) (said_sent stores.says_something store_silent w moves all)
told_sent w owners (outs.OfClients some) moves is all = subst (AllOutsSent w) (sym is) (said_sent hosts.says_something client_silent w moves all)

-- ---- chunks have the sizes of before

module _ (w x : AWorld) (moves : List Outbox) (same : (moves ≡ []) ⊎ (x.schemas ≡ w.schemas)) where
  pub same_parts : parts_in x moves ≡ parts_in w moves
  same_parts = ⊎_elim (λ none. ap (parts_in x) none ∙ sym (ap (parts_in w) none))
      (λ e. ap (λ (ss : List (ℕ × Schema)). parts_in (record w { schemas = ss }) moves) e) same

  pub same_lines : (n : ℕ) → lines_from n (map (in_parts x) moves) ≡ lines_from n (map (in_parts w) moves)
  same_lines n = ⊎_elim
      (λ none. ap (λ (os : List Outbox). lines_from n (map (in_parts x) os)) none ∙ sym (ap (λ (os : List Outbox). lines_from n (map (in_parts w) os)) none))
      (λ e. ap (λ (ss : List (ℕ × Schema)). lines_from n (map (in_parts (record w { schemas = ss })) moves)) e) same

-- ---- a step that is told

module _ {D : Type 0} (state : D → DiskState) (world : World D) (told : Told) (x : IsToTell state world told) where
  pub told_sender : (w : AWorld) × IsSender state world.nodes w × AllOutsSent w (outs_of (owner_of w) told.outs)
  told_sender = (
    x.s.world,
    record { reached = x.reached; held = x.held },
    told_sent x.s.world (owner_of x.s.world) told.outs x.s.outs x.outs_are (outs_among x.s.world x.kept.world.packets x.s.outs x.sent),
  )

  parts_are : parts_in x.s.world (outs_of (owner_of x.s.world) told.outs) ≡ parts_in x.kept.world x.s.outs
  parts_are = told_parts x.s.world (owner_of x.s.world) told.outs x.s.outs x.outs_are ∙ same_parts x.kept.world x.s.world x.s.outs x.sizes

  pub told_is : (lines : List TextLine) (network : Network) → AreTold x.s.world x.kept.packets (outs_of (owner_of x.s.world) told.outs) network told.lines lines
      → IsTold state x.kept x.s lines (record world { network = network })
  told_is lines network k = record {
    lines_are = k.lines
        ∙ (ap (λ (ls : List Line). ls ++ lines_from (length x.kept.packets) (map (in_parts x.s.world) (outs_of (owner_of x.s.world) told.outs))) x.lines_are
        ∙ (ap (λ (ls : List Line). answer_lines x.s ++ ls)
        (told_lines x.s.world (length x.kept.packets) (owner_of x.s.world) told.outs x.s.outs x.outs_are ∙ same_lines x.kept.world x.s.world x.s.outs x.sizes (length x.kept.packets))
        ∙ append_assoc (map AnswerLine (option_to_list x.s.answer)) x.s.counted (lines_from (length x.kept.packets) (map (in_parts x.kept.world) x.s.outs))));
    held = record {
      nodes = x.held;
      packets = subst (λ (ps : List PartPacket). HasPackets network (x.kept.packets ++ ps)) parts_are k.packets;
      memory = x.memory;
    };
  }

  pub told_over : (e : WorldFault) → IsOverFault (x.kept.packets ++ parts_in x.s.world (outs_of (owner_of x.s.world) told.outs)) e → IsOverFault (spread x.kept x.s).wire.packets e
  told_over e over = λ count is. subst (λ (ps : List PartPacket). most_bytes < bytes_of (x.kept.packets ++ ps)) parts_are (over count is)
