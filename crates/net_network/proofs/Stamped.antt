-- Parts of messages, and their messages with tokens.
use Rattle.std.proofs.Common.{◌≡◌, ℕ, ◌+◌, ◌<◌, Bool, true, false, List, length, Option, Some, None, refl, sym, ◌∙◌, ap, subst, arith}
use Rattle.std.specs.Prelude.{◌^◌, option_map}
use Rattle.field_codec.specs.Forms.{four, eight}
use Rattle.table_model.specs.declared.message.Message.{Message}
use Rattle.table_model.specs.declared.message.Message.TheVariants as messages
use Rattle.table_model.specs.declared.message.Outcome.{Outcome}
use Rattle.table_model.specs.declared.message.Outcome.TheVariants as outcomes
use Rattle.table_model.specs.declared.message.RowHeader.{RowHeader}
use Rattle.part_tables.specs.Parts.{Part, Fragment, Asks, Responds, Pulls, Answers, BringsUp, BringsDown, AsksTorn, AnswersTorn}
use Rattle.wire_tables.specs.Wire.{PartPacket}
use Rattle.sync_msgs.specs.Spelling.{body_spelling, HasSpelling}
use Rattle.message_frames.specs.Frames.{HasFrame}
use Rattle.message_parts.specs.Parts.{part_of, message_at, brings, fragment_of, fragment_at, outcome_of, outcome_at, row_head_of, row_header_at}
use Rattle.message_parts.proofs.Joined.{part_of_sent}
use Rattle.part_network.specs.Packets.{frame_length}
use Rattle.gated_tables.specs.Devices.{stamped}
use Rattle.net_network.specs.Packets.{token_in, IsPartAt}

some_same : {X : Type 0} (a b : X) → Some a ≡ Some b → a ≡ b
some_same a b h = cc

-- ---- the token 0

pub unstamped : (part : Part) → stamped 0 (message_at part) ≡ message_at part
unstamped (Asks head) = refl
unstamped (Responds r) = refl
unstamped (Pulls q) = refl
unstamped (Answers p) = refl
unstamped (BringsUp f) = refl
unstamped (BringsDown f) = refl
unstamped (AsksTorn q) = refl
unstamped (AnswersTorn t) = refl

-- ---- frames: a token has eight bytes

body_length : (token : ℕ) (m : Message) → length (body_spelling (stamped token m)) ≡ length (body_spelling m)
unfolding four eight
body_length token (messages.ObjectFragment m) = refl
body_length token (messages.PullRequest m) = refl
body_length token (messages.SyncRequest m) = refl
body_length token (messages.TornRowRequest m) = refl
body_length token other = refl

framed_length : (m : Message) → frame_length m ≡ length (body_spelling m) + 5
framed_length m = omega arith

pub stamped_length : (token : ℕ) (m : Message) → frame_length (stamped token m) ≡ frame_length m
stamped_length token m = framed_length (stamped token m) ∙ (ap (λ (n : ℕ). n + 5) (body_length token m) ∙ sym (framed_length m))

stamped_spelling : (token : ℕ) (m : Message) → token < 2 ^ 64 → HasSpelling m → HasSpelling (stamped token m)
stamped_spelling token (messages.ObjectFragment m) few h = (h.0, (few, h.1.1))
stamped_spelling token (messages.PullRequest m) few h = (h.0, (few, h.1.1))
stamped_spelling token (messages.SyncRequest m) few h = (h.0, (few, h.1.1))
stamped_spelling token (messages.TornRowRequest m) few h = (h.0, (few, h.1.1))
stamped_spelling token other few h = h

pub stamped_frame : (token : ℕ) (m : Message) → token < 2 ^ 64 → HasFrame m → HasFrame (stamped token m)
stamped_frame token m few h = record {
  spelled = stamped_spelling token m few h.spelled;
  room = subst (λ (n : ℕ). n < 1048576) (sym (body_length token m)) h.room;
}

-- ---- the part that a message is

pub part_of_stamped : (token : ℕ) (m : Message) → part_of (stamped token m) ≡ part_of m
part_of_stamped token (messages.ObjectFragment m) = refl
part_of_stamped token (messages.PullRequest m) = refl
part_of_stamped token (messages.SyncRequest m) = refl
part_of_stamped token (messages.TornRowRequest m) = refl
part_of_stamped token other = refl

-- of a message that is a packet's part with a token
pub part_there : (ps : List PartPacket) (number token : ℕ) (message : Message) (h : IsPartAt ps number token message) → part_of message ≡ Some h.0.part
part_there ps number token message h = ap part_of h.2 ∙ (part_of_stamped token (message_at h.0.part) ∙ part_of_sent h.0.part)

-- ---- a message that is a part is the message of that part with its own token

outcome_again : (o : Outcome) → outcome_at (outcome_of o) ≡ o
outcome_again (outcomes.Accepted version) = refl
outcome_again (outcomes.Again version) = refl
outcome_again (outcomes.Late last) = refl
outcome_again (outcomes.Stale latest) = refl
outcome_again (outcomes.Conflict latest) = refl
outcome_again outcomes.NeedWhole = refl

header_again : (h : Option RowHeader) → option_map row_header_at (option_map row_head_of h) ≡ h
header_again None = refl
header_again (Some h) = refl

fragment_again : (down : Bool) (token : ℕ) (f : Fragment) → stamped token (message_at (brings down f)) ≡ messages.ObjectFragment (record (fragment_at down f) { token = token })
fragment_again true token f = refl
fragment_again false token f = refl

-- from the message with its token put in
put_in : (token : ℕ) (m : Message) (here part : Part) → stamped token (message_at here) ≡ m → Some here ≡ Some part → m ≡ stamped token (message_at part)
put_in token m here part again h = sym again ∙ ap (λ (p : Part). stamped token (message_at p)) (some_same here part h)

pub own_token : (m : Message) (part : Part) → part_of m ≡ Some part → m ≡ stamped (token_in m) (message_at part)
own_token (messages.ObjectFragment f) part h =
    put_in f.token (messages.ObjectFragment f) (brings f.down (fragment_of f)) part (fragment_again f.down f.token (fragment_of f)) h
own_token (messages.PullRequest q) part h = put_in q.token (messages.PullRequest q) _ part refl h
own_token (messages.PullResponse p) part h =
    put_in 0 (messages.PullResponse p) _ part (ap (λ (o : Option RowHeader). messages.PullResponse (record p { header = o })) (header_again p.header)) h
own_token (messages.SyncRequest q) part h = put_in q.token (messages.SyncRequest q) _ part refl h
own_token (messages.SyncResponse r) part h =
    put_in 0 (messages.SyncResponse r) _ part (ap (λ (o : Outcome). messages.SyncResponse (record r { outcome = o })) (outcome_again r.outcome)) h
own_token (messages.TornRowRequest q) part h = put_in q.token (messages.TornRowRequest q) _ part refl h
own_token (messages.TornRowResponse t) part h =
    put_in 0 (messages.TornRowResponse t) _ part (ap (λ (o : Option RowHeader). messages.TornRowResponse (record t { header = o })) (header_again t.header)) h
own_token other part h = absurd cc
