-- Turns that are alike are as sound, list as much, resolve as it was asked for, and tell the same phases.
use Rattle.std.proofs.Common.{◌≡◌, inl, inr, ⊎_elim, ℕ, Bool, true, false, List, [], ◌∷◌, ◌++◌, Option, Some, None, refl, sym, ◌∙◌, ap, subst, true≢false}
use Rattle.std.specs.Prelude.{◌&&◌, ◌||◌, not, map, slice_get, MatchBool, if◌then◌else◌}
use Rattle.std.specs.List.{list_any}
use Rattle.std.proofs.Math.Path.{fun_ext}
use Rattle.stab_base.specs.declared.node.Node.{Node}
use Rattle.stab_base.specs.declared.node.Node.TheVariants as nodes
use Rattle.row_value.specs.declared.schema.Schema.{Schema}
use Rattle.row_value.specs.declared.schema.Scheme.{Scheme}
use Rattle.row_value.specs.declared.schema.Scheme.TheVariants.{Eventual}
use Rattle.table_model.specs.declared.event.Event.{Event}
use Rattle.table_model.specs.declared.event.Event.TheVariants as events
use Rattle.step_tables.specs.Facts.{Answer, Line, AnswerLine}
use Rattle.step_tables.specs.Facts as facts
use Rattle.step_tables.specs.Members.{Among}
use Rattle.step_tables.specs.Sayings.{Said, nothing_said, hear_lines}
use Rattle.step_tables.proofs.Lists.{among_none, among_here, among_next, among_cons, among_filter, among_filtered}
use Rattle.world_tables.specs.Turns.{Turn}
use Rattle.world_tables.specs.World.{same_node, has_node, without_node, owner_by, joining}
use Rattle.world_tables.specs.Sound.{declared_by, scheme_for, AreSaid, IsForm, is_declaration, IsAnswered, IsTurn, InSight, IsSoundFrom, IsSound}
use Rattle.world_tables.specs.Quiet.{Quiet, at_first, sent_in, answer_in, if_done, comes_to, held_after, loud_after, stores_after, after, schema_by, schema_for, IsListed, AreListedFrom, AreListed}
use Rattle.asked_laws.specs.Asked.{Asked, nothing_asked, line_asked, lines_asked, LinesAsked, AskedFrom, AreAsked}
use Rattle.asked_laws.specs.Phases.{goes_to, has_fault, goes_down, phase_by, phase_from, has_phase}
use Rattle.wire_laws.specs.Alike.{AreLinesAlike, IsEventAlike, IsTurnAlike, IsLone, AreAlikeFrom, AreAlike}
use Rattle.wire_laws.proofs.LinesAlike.{hear_alike, said_alike, asked_alike, asked_so, answer_alike, quiet_alike, answered_alike}

-- ---- what a turn makes of the next, where the turns are put together by a part for each

-- what holds at the ends, of a turn that only the wire has, and of two turns that are alike
module _ (P : List Node → List Node → List Turn → List Turn → Type 0) (ends : (sent whole : List Node) → P sent whole [] [])
    (lone : (sent whole : List Node) (turn : Turn) (turns others : List Turn) → IsLone turn.event turn.lines → P (sent ++ sent_in turn.lines) whole turns others → P sent whole (turn ∷ turns) others)
    (both : (sent whole : List Node) (turn other : Turn) (turns others : List Turn) → IsTurnAlike sent whole turn other
    → P (sent ++ sent_in turn.lines) (whole ++ sent_in other.lines) turns others → P sent whole (turn ∷ turns) (other ∷ others)) where
  pub by_turns : (turns : List Turn) (sent whole : List Node) (others : List Turn) → AreAlikeFrom sent whole turns others → P sent whole turns others
  by_turns [] sent whole others is = subst (P sent whole []) (sym is) (ends sent whole)
  by_turns (turn ∷ turns) sent whole others (inl is) = lone sent whole turn turns others is.0 (by_turns turns (sent ++ sent_in turn.lines) whole others is.1)
  by_turns (turn ∷ turns) sent whole others (inr is) =
      subst (P sent whole (turn ∷ turns)) (sym is.2)
      (both sent whole turn is.0 turns is.1 is.3 (by_turns turns (sent ++ sent_in turn.lines) (whole ++ sent_in is.0.lines) is.1 is.4))

-- ---- declarations

abbrev events_of : List Turn → List Event
events_of turns = map (λ (turn : Turn). turn.event) turns

-- what events make of a map, where neither a packet nor a pull changes it
module _ {X : Type 0} (by : Event → ℕ → X → X) (f : List Event → ℕ → X) (step : (event : Event) (more : List Event) (table : ℕ) → f (event ∷ more) table ≡ by event table (f more table))
    (kept : (packet : ℕ) (table : ℕ) (x : X) → by (events.Deliver packet) table x ≡ x) (pulled : (client number table : ℕ) (x : X) → by (events.Pull client number) table x ≡ x) where
  lone_kept : (event : Event) (lines : List Line) (table : ℕ) (x : X) → IsLone event lines → by event table x ≡ x
  lone_kept (events.Deliver packet) lines table x is = kept packet table x
  lone_kept other lines table x is = absurd is

  both_kept : (sent whole : List Node) (event other : Event) (table : ℕ) (x : X) → IsEventAlike sent whole event other → by event table x ≡ by other table x
  both_kept sent whole (events.Deliver packet) (events.Deliver number) table x is = kept packet table x ∙ sym (kept number table x)
  both_kept sent whole (events.Deliver packet) (events.Pull client number) table x is = kept packet table x ∙ sym (pulled client number table x)
  both_kept sent whole (events.Deliver packet) other table x is = absurd is
  both_kept sent whole event other table x is = ap (λ (e : Event). by e table x) (sym is)

  pub made_alike : (turns others : List Turn) (sent whole : List Node) → AreAlikeFrom sent whole turns others → f (events_of turns) ≡ f (events_of others)
  made_alike turns others sent whole is = fun_ext (λ table.
      by_turns (λ (s w : List Node) (xs ys : List Turn). f (events_of xs) table ≡ f (events_of ys) table) (λ s w. refl)
      (λ s w turn xs ys l p. step turn.event (events_of xs) table ∙ (lone_kept turn.event turn.lines table (f (events_of xs) table) l ∙ p))
      (λ s w turn other xs ys a p.
      step turn.event (events_of xs) table ∙ (both_kept s w turn.event other.event table (f (events_of xs) table) a.event
      ∙ (ap (λ (x : X). by other.event table x) p ∙ sym (step other.event (events_of ys) table))))
      turns sent whole others is)

schemes_alike : (turns others : List Turn) → AreAlike turns others → scheme_for (events_of turns) ≡ scheme_for (events_of others)
schemes_alike turns others is = made_alike declared_by scheme_for (λ event more table. refl) (λ k table x. refl) (λ c n table x. refl) turns others [] [] is

schemas_alike : (turns others : List Turn) → AreAlike turns others → schema_for (events_of turns) ≡ schema_for (events_of others)
schemas_alike turns others is = made_alike schema_by schema_for (λ event more table. refl) (λ k table x. refl) (λ c n table x. refl) turns others [] [] is

-- ---- sound

module _ (g : ℕ → Scheme) (s : Said) where
  deliver_form : (k n : ℕ) (answer : Answer) → IsForm (events.Deliver n) answer → IsForm (events.Deliver k) answer
  deliver_form k n (facts.Refuses refusal) f = tt
  deliver_form k n facts.Done f = tt
  deliver_form k n other f = f

  pull_form : (k c n : ℕ) (answer : Answer) → IsForm (events.Pull c n) answer → IsForm (events.Deliver k) answer
  pull_form k c n (facts.Refuses refusal) f = tt
  pull_form k c n facts.Done f = tt
  pull_form k c n other f = f

  deliver_answered : (k n : ℕ) (lines whole : List Line) → AreLinesAlike lines whole → IsAnswered g s (events.Deliver n) whole → IsAnswered g s (events.Deliver k) lines
  deliver_answered k n lines whole is a =
      answered_alike g s (events.Deliver k) (events.Deliver n) (deliver_form k n) (λ answer counted c. c) (λ told some f q. tt) (λ answer counted q. tt) lines whole is a

  pull_answered : (k c n : ℕ) (lines whole : List Line) → AreLinesAlike lines whole → IsAnswered g s (events.Pull c n) whole → IsAnswered g s (events.Deliver k) lines
  pull_answered k c n lines whole is a =
      answered_alike g s (events.Deliver k) (events.Pull c n) (pull_form k c n) (λ answer counted q. q) (λ told some f q. tt) (λ answer counted q. tt) lines whole is a

  -- a turn of the same event
  same_turn : (b : Bool) (event : Event) (lines whole : List Line) → AreLinesAlike lines whole
      → MatchBool b (whole ≡ []) (IsAnswered g s event whole) → MatchBool b (lines ≡ []) (IsAnswered g s event lines)
  same_turn true event lines whole is e = subst (AreLinesAlike lines) e is
  same_turn false event lines whole is a =
      answered_alike g s event event (λ answer f. f) (λ answer counted c. c) (quiet_alike event) (λ answer counted q. q) lines whole is a

  turn_alike : (sent whole : List Node) (event other : Event) (lines others : List Line) → IsEventAlike sent whole event other → AreLinesAlike lines others
      → IsTurn g s (record { event = other; lines = others }) → IsTurn g s (record { event = event; lines = lines })
  turn_alike sent whole (events.Deliver k) (events.Deliver n) lines others e is a = deliver_answered k n lines others is a
  turn_alike sent whole (events.Deliver k) (events.Pull c n) lines others e is a = pull_answered k c n lines others is a
  turn_alike sent whole (events.Deliver k) other lines others e is a = absurd e
  turn_alike sent whole event other lines others e is a =
      same_turn (is_declaration event) event lines others is (subst (λ (x : Event). IsTurn g s (record { event = x; lines = others })) e a)

  -- a turn that the whole world hasn't
  lone_answered : (k : ℕ) (answer : Answer) (lines : List Line) → IsForm (events.Deliver k) answer → lines ≡ AnswerLine answer ∷ [] → IsAnswered g s (events.Deliver k) lines
  lone_answered k answer lines form is = record { answer = answer; counted = []; told = []; lines_are = is; form = form; counts = refl; quiet = tt; is = tt }

  lone_turn : (event : Event) (lines : List Line) → IsLone event lines → IsTurn g s (record { event = event; lines = lines })
  lone_turn (events.Deliver k) lines (inl is) = lone_answered k facts.Done lines tt is
  lone_turn (events.Deliver k) lines (inr is) = lone_answered k (facts.Refuses (facts.NoPacket is.0)) lines tt is.1
  lone_turn other lines is = absurd is

  lone_said : (event : Event) (lines : List Line) → IsLone event lines → AreSaid g s lines
  lone_said (events.Deliver k) lines (inl is) = subst (AreSaid g s) (sym is) (tt, tt)
  lone_said (events.Deliver k) lines (inr is) = subst (AreSaid g s) (sym is.1) (tt, tt)
  lone_said other lines is = absurd is

  pub lone_heard : (event : Event) (lines : List Line) → IsLone event lines → hear_lines s lines ≡ s
  lone_heard (events.Deliver k) lines (inl is) = ap (hear_lines s) is
  lone_heard (events.Deliver k) lines (inr is) = ap (hear_lines s) is.1
  lone_heard other lines is = absurd is

in_sight : (g : ℕ → Scheme) (s : Said) (turns : List Turn) → IsSoundFrom g s turns → InSight g s
in_sight g s [] k = k
in_sight g s (turn ∷ turns) k = k.0

module _ (g : ℕ → Scheme) where
  abbrev Sound : List Turn → List Turn → Type 0
  Sound turns others = (s : Said) → IsSoundFrom g s others → IsSoundFrom g s turns

  lone_sound : (turn : Turn) (turns others : List Turn) → IsLone turn.event turn.lines → Sound turns others → Sound (turn ∷ turns) others
  lone_sound turn turns others is p s k = (
    in_sight g s others k,
    lone_turn g s turn.event turn.lines is,
    lone_said g s turn.event turn.lines is,
    subst (λ (x : Said). IsSoundFrom g x turns) (sym (lone_heard g s turn.event turn.lines is)) (p s k),
  )

  both_sound : (sent whole : List Node) (turn other : Turn) (turns others : List Turn) → IsTurnAlike sent whole turn other → Sound turns others → Sound (turn ∷ turns) (other ∷ others)
  both_sound sent whole turn other turns others is p s k = (
    k.0,
    turn_alike g s sent whole turn.event other.event turn.lines other.lines is.event is.lines k.1,
    said_alike g turn.lines other.lines is.lines s k.2,
    subst (λ (x : Said). IsSoundFrom g x turns) (sym (hear_alike turn.lines other.lines is.lines s)) (p (hear_lines s other.lines) k.3),
  )

  sound_from : (turns others : List Turn) (sent whole : List Node) → AreAlikeFrom sent whole turns others → Sound turns others
  sound_from turns others sent whole is =
      by_turns (λ (s w : List Node) (xs ys : List Turn). Sound xs ys) (λ s w x k. k) (λ s w turn xs ys l p. lone_sound turn xs ys l p) (λ s w turn other xs ys a p. both_sound s w turn other xs ys a p)
      turns sent whole others is

pub sound_alike : (turns others : List Turn) → AreAlike turns others → IsSound others → IsSound turns
sound_alike turns others is k =
    subst (λ (g : ℕ → Scheme). IsSoundFrom g nothing_said turns) (sym (schemes_alike turns others is)) (sound_from (scheme_for (events_of others)) turns others [] [] is nothing_said k)

-- ---- what is resolved was asked for

line_same : (event other : Event) → ((answer : Answer) (a : Asked) → line_asked event (AnswerLine answer) a ≡ line_asked other (AnswerLine answer) a) → (line : Line) (a : Asked)
    → line_asked event line a ≡ line_asked other line a
line_same event other f (AnswerLine answer) a = f answer a
line_same event other f line a = refl

event_same : (sent whole : List Node) (event other : Event) → IsEventAlike sent whole event other → (line : Line) (a : Asked) → line_asked event line a ≡ line_asked other line a
event_same sent whole (events.Deliver k) (events.Deliver n) e = line_same (events.Deliver k) (events.Deliver n) (λ answer a. refl)
event_same sent whole (events.Deliver k) (events.Pull c n) e = line_same (events.Deliver k) (events.Pull c n) (λ answer a. refl)
event_same sent whole (events.Deliver k) other e = absurd e
event_same sent whole event other e = λ line a. ap (λ (x : Event). line_asked x line a) (sym e)

lone_asks : (event : Event) (lines : List Line) (a : Asked) → IsLone event lines → (lines_asked event lines a ≡ a) × LinesAsked event a lines
lone_asks (events.Deliver k) lines a (inl is) = (ap (λ (l : List Line). lines_asked (events.Deliver k) l a) is, subst (LinesAsked (events.Deliver k) a) (sym is) (tt, tt))
lone_asks (events.Deliver k) lines a (inr is) = (ap (λ (l : List Line). lines_asked (events.Deliver k) l a) is.1, subst (LinesAsked (events.Deliver k) a) (sym is.1) (tt, tt))
lone_asks other lines a is = absurd is

pub asked_from : (turns others : List Turn) (sent whole : List Node) → AreAlikeFrom sent whole turns others → (a : Asked) → AskedFrom a others → AskedFrom a turns
asked_from turns others sent whole is =
    by_turns (λ (s w : List Node) (xs ys : List Turn). (a : Asked) → AskedFrom a ys → AskedFrom a xs) (λ s w a k. k)
    (λ s w turn xs ys l p a k.
    let one = lone_asks turn.event turn.lines a l in
    (one.1, subst (λ (b : Asked). AskedFrom b xs) (sym one.0) (p a k)))
    (λ s w turn other xs ys e p a k.
    let same = event_same s w turn.event other.event e.event in (
      asked_so turn.event other.event same turn.lines other.lines e.lines a k.0,
      subst (λ (b : Asked). AskedFrom b xs) (sym (asked_alike turn.event other.event same turn.lines other.lines e.lines a)) (p (lines_asked other.event other.lines a) k.1),
    ))
    turns sent whole others is

pub are_asked_alike : (turns others : List Turn) → AreAlike turns others → AreAsked others → AreAsked turns
are_asked_alike turns others is k = asked_from turns others [] [] is nothing_asked k

-- ---- phases

module _ (c t : ℕ) where
  down_alike : (sent whole : List Node) (event other : Event) (answer : Option Answer) → IsEventAlike sent whole event other → goes_down c sent event answer ≡ goes_down c whole other answer
  down_alike sent whole (events.Deliver k) (events.Deliver n) answer e = ap (λ (to : Option Node). has_fault answer && goes_to c to) (sym e)
  down_alike sent whole (events.Deliver k) (events.Pull d n) answer e = ap (λ (to : Option Node). has_fault answer && goes_to c to) e
  down_alike sent whole (events.Deliver k) other answer e = absurd e
  down_alike sent whole event other answer e = ap (λ (x : Event). goes_down c whole x answer) (sym e)

  phase_alike : (sent whole : List Node) (event other : Event) (answer : Option Answer) (before : Bool) → IsEventAlike sent whole event other
      → phase_by c t event answer before ≡ phase_by c t other answer before
  phase_alike sent whole (events.Deliver k) (events.Deliver n) answer before e = refl
  phase_alike sent whole (events.Deliver k) (events.Pull d n) answer before e = refl
  phase_alike sent whole (events.Deliver k) other answer before e = absurd e
  phase_alike sent whole event other answer before e = ap (λ (x : Event). phase_by c t x answer before) (sym e)

  abbrev next_phase : List Node → Event → Option Answer → Bool → Bool
  next_phase sent event answer before = not (goes_down c sent event answer) && phase_by c t event answer before

  lone_phase : (sent : List Node) (event : Event) (lines : List Line) (before : Bool) → IsLone event lines → next_phase sent event (answer_in lines) before ≡ before
  lone_phase sent (events.Deliver k) lines before (inl is) = ap (λ (l : List Line). next_phase sent (events.Deliver k) (answer_in l) before) is
  lone_phase sent (events.Deliver k) lines before (inr is) = ap (λ (l : List Line). next_phase sent (events.Deliver k) (answer_in l) before) is.1
  lone_phase sent other lines before is = absurd is

  phases_from : (turns others : List Turn) (sent whole : List Node) → AreAlikeFrom sent whole turns others → (before : Bool) → phase_from c t sent before turns ≡ phase_from c t whole before others
  phases_from turns others sent whole is =
      by_turns (λ (s w : List Node) (xs ys : List Turn). (before : Bool) → phase_from c t s before xs ≡ phase_from c t w before ys) (λ s w before. refl)
      (λ s w turn xs ys l p before. ap (λ (b : Bool). phase_from c t (s ++ sent_in turn.lines) b xs) (lone_phase s turn.event turn.lines before l) ∙ p before)
      (λ s w turn other xs ys e p before.
      p (next_phase s turn.event (answer_in turn.lines) before)
      ∙ ap (λ (b : Bool). phase_from c t (w ++ sent_in other.lines) b ys)
      (ap (λ (x : Option Answer). next_phase s turn.event x before) (answer_alike turn.lines other.lines e.lines)
      ∙ (ap (λ (b : Bool). not b && phase_by c t turn.event (answer_in other.lines) before) (down_alike s w turn.event other.event (answer_in other.lines) e.event)
      ∙ ap (λ (b : Bool). not (goes_down c w other.event (answer_in other.lines)) && b) (phase_alike s w turn.event other.event (answer_in other.lines) before e.event))))
      turns sent whole others is

pub phases_alike : (turns others : List Turn) → AreAlike turns others → (c t : ℕ) → has_phase turns c t ≡ has_phase others c t
phases_alike turns others is c t = phases_from c t turns others [] [] is false

-- ---- lists of chunks

any_there : {X : Type 0} (p : X → Bool) (xs : List X) (x : X) → Among xs x → p x ≡ true → list_any p xs ≡ true
any_there p [] x a is = absurd (among_none x a)
any_there p (y ∷ ys) x a is = ⊎_elim
    (λ e. ap (λ (b : Bool). b || list_any p ys) (ap p e ∙ is))
    (λ more. ap (λ (b : Bool). p y || b) (any_there p ys x more is) ∙ or_true (p y)) (among_cons y ys x a)
  where
    or_true : (b : Bool) → (b || true) ≡ true
    or_true true = refl
    or_true false = refl

there_any : {X : Type 0} (p : X → Bool) (xs : List X) → list_any p xs ≡ true → (x : X) × Among xs x × (p x ≡ true)
there_any p [] is = absurd (true≢false (sym is))
there_any {X} p (y ∷ ys) is = pick (there_any p ys) (p y) refl is
  where
    pick : (list_any p ys ≡ true → (x : X) × Among ys x × (p x ≡ true)) → (b : Bool) → p y ≡ b → (b || list_any p ys) ≡ true → (x : X) × Among (y ∷ ys) x × (p x ≡ true)
    pick rest true here e = (y, among_here y ys, here)
    pick rest false here e = let r = rest e in (r.0, among_next y ys r.0 r.1, r.2)

-- the wire holds the same nodes, and something came to each node to which something came in the whole world
pub record IsQuieter (sent whole : List Node) (q r : Quiet) : Type 0 where
  pub stores : q.stores ≡ r.stores
  pub held : q.held ≡ r.held
  pub loud : (x : Node) → Among r.loud x → Among q.loud x
  pub sent_is : q.sent ≡ sent
  pub whole_is : r.sent ≡ whole

module _ (sent whole : List Node) (q r : Quiet) (a : IsQuieter sent whole q r) where
  pub more_comes : (to : Option Node) (x : Node) → Among q.loud x → Among (comes_to q to) x
  more_comes None x m = m
  more_comes (Some node) x m = go (has_node q.held node)
    where
      go : (b : Bool) → Among (if b then node ∷ q.loud else q.loud) x
      go true = among_next node q.loud x m
      go false = m

  same_comes : (to : Option Node) (x : Node) → Among (comes_to r to) x → Among (comes_to q to) x
  same_comes None x m = a.loud x m
  same_comes (Some node) x m = subst (λ (h : List Node). Among (if has_node h node then node ∷ q.loud else q.loud) x) (sym a.held) (go (has_node r.held node) m)
    where
      go : (b : Bool) → Among (if b then node ∷ r.loud else r.loud) x → Among (if b then node ∷ q.loud else q.loud) x
      go true there = ⊎_elim (λ e. subst (Among (node ∷ q.loud)) e (among_here node q.loud)) (λ b. among_next node q.loud x (a.loud x b)) (among_cons node r.loud x there)
      go false there = a.loud x there

  without_too : (node x : Node) → Among (without_node r.loud node) x → Among (without_node q.loud node) x
  without_too node x m =
      let b = among_filtered (λ (other : Node). not (same_node node other)) r.loud x m in
      among_filter (λ (other : Node). not (same_node node other)) q.loud x (a.loud x b.0) b.1

  worked_too : (node : Node) (answer : Option Answer) (x : Node) → Among (if_done answer (without_node r.loud node) r.loud) x → Among (if_done answer (without_node q.loud node) q.loud) x
  worked_too node None x m = a.loud x m
  worked_too node (Some (facts.Refuses refusal)) x m = a.loud x m
  worked_too node (Some other) x m = without_too node x m

  joining_too : (number : ℕ) (x : Node) → Among (joining number r.loud) x → Among (joining number q.loud) x
  joining_too number x m = go r.loud q.loud (a.loud x) (λ y there. a.loud y there) m
    where
      go : (less more : List Node) → (Among less x → Among more x) → ((y : Node) → Among less y → Among more y) → Among (joining number less) x → Among (joining number more) x
      go [] more here all there = absurd (among_none x there)
      go (y ∷ less) [] here all there = absurd (among_none y (all y (among_here y less)))
      go (y ∷ less) (z ∷ more) here all there = ⊎_elim (λ e. subst (Among (nodes.Store number ∷ z ∷ more)) e (among_here (nodes.Store number) (z ∷ more)))
          (λ b. among_next (nodes.Store number) (z ∷ more) x (here b)) (among_cons (nodes.Store number) (y ∷ less) x there)

  pub stores_same : (event : Event) → stores_after q event ≡ stores_after r event
  stores_same (events.Store number) = ap (λ (stores : List ℕ). number ∷ stores) a.stores
  stores_same other = a.stores

  stores_alike : (event other : Event) → IsEventAlike sent whole event other → stores_after q event ≡ stores_after r other
  stores_alike (events.Deliver k) (events.Deliver n) e = a.stores
  stores_alike (events.Deliver k) (events.Pull c n) e = a.stores
  stores_alike (events.Deliver k) other e = absurd e
  stores_alike event other e = stores_same event ∙ ap (stores_after r) (sym e)

  pub deliver_comes : (k n : ℕ) (x : Node) → slice_get whole n ≡ slice_get sent k → Among (comes_to r (slice_get r.sent n)) x → Among (comes_to q (slice_get q.sent k)) x
  deliver_comes k n x e m =
      same_comes (slice_get q.sent k) x (subst (λ (to : Option Node). Among (comes_to r to) x)
      (ap (λ (l : List Node). slice_get l n) a.whole_is ∙ (e ∙ ap (λ (l : List Node). slice_get l k) (sym a.sent_is))) m)

  pub loud_same : (event : Event) (answer : Option Answer) (x : Node) → IsEventAlike sent whole event event → Among (loud_after r event answer) x → Among (loud_after q event answer) x
  loud_same (events.Deliver k) answer x e m = deliver_comes k k x e m
  loud_same (events.Start node) answer x e m = same_comes (Some node) x m
  loud_same (events.WorkAll node) answer x e m = worked_too node answer x m
  loud_same (events.Store number) answer x e m = joining_too number x m
  loud_same other answer x e m = a.loud x m

  loud_alike : (event other : Event) (answer : Option Answer) (x : Node) → IsEventAlike sent whole event other → Among (loud_after r other answer) x → Among (loud_after q event answer) x
  loud_alike (events.Deliver k) (events.Deliver n) answer x e m = deliver_comes k n x e m
  loud_alike (events.Deliver k) (events.Pull c n) answer x e m = more_comes (slice_get q.sent k) x (a.loud x m)
  loud_alike (events.Deliver k) other answer x e m = absurd e
  loud_alike event other answer x e m = loud_same event answer x refl (subst (λ (y : Event). Among (loud_after r y answer) x) e m)

  pub held_same : (event : Event) (answer : Option Answer) → held_after q event answer ≡ held_after r event answer
  held_same (events.Hold node) answer = ap (λ (h : List Node). if_done answer (node ∷ h) h) a.held
  held_same (events.Free node) answer = ap (λ (h : List Node). if_done answer (without_node h node) h) a.held
  held_same other answer = a.held

  held_alike : (event other : Event) (answer : Option Answer) → IsEventAlike sent whole event other → held_after q event answer ≡ held_after r other answer
  held_alike (events.Deliver k) (events.Deliver n) answer e = a.held
  held_alike (events.Deliver k) (events.Pull c n) answer e = a.held
  held_alike (events.Deliver k) other answer e = absurd e
  held_alike event other answer e = held_same event answer ∙ ap (λ (y : Event). held_after r y answer) (sym e)

  quiet_too : (node : Node) → has_node q.loud node ≡ false → has_node r.loud node ≡ false
  quiet_too node none = go (has_node r.loud node) refl
    where
      go : (b : Bool) → has_node r.loud node ≡ b → b ≡ false
      go false e = refl
      go true e =
          let x = there_any (same_node node) r.loud e in
          absurd (true≢false (sym (any_there (same_node node) q.loud x.0 (a.loud x.0 x.1) x.2) ∙ none))

  pub listed_same : (schemas : ℕ → Option Schema) (s : Said) (event : Event) (answer : Option Answer) → IsListed schemas s r event answer → IsListed schemas s q event answer
  listed_same schemas s (events.Chunks table) (Some answer) k = λ some none. k some
      (quiet_too (nodes.Store (owner_by r.stores (schemas table))) (ap (λ (stores : List ℕ). has_node q.loud (nodes.Store (owner_by stores (schemas table)))) (sym a.stores) ∙ none))
  listed_same schemas s (events.Chunks table) None k = tt
  listed_same schemas s other answer k = tt

  listed_alike : (schemas : ℕ → Option Schema) (s : Said) (event other : Event) (answer : Option Answer) → IsEventAlike sent whole event other
      → IsListed schemas s r other answer → IsListed schemas s q event answer
  listed_alike schemas s (events.Deliver k) other answer e m = tt
  listed_alike schemas s event other answer e m = listed_same schemas s event answer (subst (λ (y : Event). IsListed schemas s r y answer) e m)

  -- behind a turn
  quieter_both : (turn other : Turn) → IsTurnAlike sent whole turn other → IsQuieter (sent ++ sent_in turn.lines) (whole ++ sent_in other.lines) (after q turn) (after r other)
  quieter_both turn other e =
      let answer = answer_alike turn.lines other.lines e.lines in
      record {
        stores = stores_alike turn.event other.event e.event;
        held = held_alike turn.event other.event (answer_in turn.lines) e.event ∙ ap (held_after r other.event) answer;
        loud = λ x m. loud_alike turn.event other.event (answer_in turn.lines) x e.event (subst (λ (o : Option Answer). Among (loud_after r other.event o) x) (sym answer) m);
        sent_is = ap (λ (l : List Node). l ++ sent_in turn.lines) a.sent_is;
        whole_is = ap (λ (l : List Node). l ++ sent_in other.lines) a.whole_is;
      }

  quieter_lone : (turn : Turn) → IsLone turn.event turn.lines → IsQuieter (sent ++ sent_in turn.lines) whole (after q turn) r
  quieter_lone turn l = record {
    stores = stores turn.event l;
    held = held turn.event l;
    loud = λ x m. loud turn.event l x m;
    sent_is = ap (λ (l : List Node). l ++ sent_in turn.lines) a.sent_is;
    whole_is = a.whole_is;
  }
    where
      stores : (event : Event) → IsLone event turn.lines → stores_after q event ≡ r.stores
      stores (events.Deliver k) is = a.stores
      stores other is = absurd is

      held : (event : Event) → IsLone event turn.lines → held_after q event (answer_in turn.lines) ≡ r.held
      held (events.Deliver k) is = a.held
      held other is = absurd is

      loud : (event : Event) → IsLone event turn.lines → (x : Node) → Among r.loud x → Among (loud_after q event (answer_in turn.lines)) x
      loud (events.Deliver k) is x m = more_comes (slice_get q.sent k) x (a.loud x m)
      loud other is x m = absurd is

lone_listed : (schemas : ℕ → Option Schema) (s : Said) (q : Quiet) (event : Event) (answer : Option Answer) (lines : List Line) → IsLone event lines → IsListed schemas s q event answer
lone_listed schemas s q (events.Deliver k) answer lines is = tt
lone_listed schemas s q other answer lines is = absurd is

listed_from : (schemas : ℕ → Option Schema) (turns others : List Turn) (sent whole : List Node) → AreAlikeFrom sent whole turns others → (s : Said) (q r : Quiet) → IsQuieter sent whole q r
    → AreListedFrom schemas s r others → AreListedFrom schemas s q turns
listed_from schemas turns others sent whole is =
    by_turns (λ (sent whole : List Node) (xs ys : List Turn). (s : Said) (q r : Quiet) → IsQuieter sent whole q r → AreListedFrom schemas s r ys → AreListedFrom schemas s q xs)
    (λ sent whole s q r a k. tt)
    (λ sent whole turn xs ys l p s q r a k. (
      lone_listed schemas s q turn.event (answer_in turn.lines) turn.lines l,
      subst (λ (x : Said). AreListedFrom schemas x (after q turn) xs) (sym (lone_heard (λ table. Eventual) s turn.event turn.lines l)) (p s (after q turn) r (quieter_lone sent whole q r a turn l) k),
    ))
    (λ sent whole turn other xs ys e p s q r a k. (
      listed_alike sent whole q r a schemas s turn.event other.event (answer_in turn.lines) e.event
          (subst (IsListed schemas s r other.event) (sym (answer_alike turn.lines other.lines e.lines)) k.0),
      subst (λ (x : Said). AreListedFrom schemas x (after q turn) xs) (sym (hear_alike turn.lines other.lines e.lines s))
          (p (hear_lines s other.lines) (after q turn) (after r other) (quieter_both sent whole q r a turn other e) k.1),
    ))
    turns sent whole others is

pub are_listed_alike : (turns others : List Turn) → AreAlike turns others → AreListed others → AreListed turns
are_listed_alike turns others is k =
    subst (λ (schemas : ℕ → Option Schema). AreListedFrom schemas nothing_said at_first turns) (sym (schemas_alike turns others is))
    (listed_from (schema_for (events_of others)) turns others [] [] is nothing_said at_first at_first (record { stores = refl; held = refl; loud = λ x m. m; sent_is = refl; whole_is = refl }) k)
