-- Which messages can travel in parts: lengths, columns and places have numbers of 32 bits there.
use Rattle.std.specs.Prelude.{ℕ, ◌+◌, ◌^◌, ◌&&◌, nat_lt, Bool, true, List, length, Option, Some, None}
use Rattle.std.specs.List.{list_all}
use Rattle.row_value.specs.declared.content.Content.{Content}
use Rattle.row_value.specs.declared.content.Content.TheVariants.{Gone, Row}
use Rattle.step_tables.specs.Messages.{Header, Message, SyncRequest, SyncResponse, PullRequest, PullResponse}
use Rattle.step_tables.specs.Messages.{TornRowRequest, TornRowResponse}

-- its length has 32 bits
abbrev pub is_short : {X : Type 0} → List X → Bool
is_short list = nat_lt (length list) (2 ^ 32)

-- the columns are so few, and each object is so short, and so is what is said of the chunks of each
abbrev pub has_words : {X : Type 0} → Content → List (List X) → Bool
has_words Gone said = true
has_words (Row some objects) said =
    nat_lt (length some + length objects) (2 ^ 32) && (list_all is_short objects && list_all is_short said)

abbrev pub row_has_words : Option Header → Bool
row_has_words None = true
row_has_words (Some h) = has_words h.content h.names

abbrev pub may_split : Message → Bool
may_split (SyncRequest q) = has_words q.content q.pieces
may_split (SyncResponse r) = true
may_split (PullRequest q) = true
may_split (PullResponse p) = row_has_words p.header
may_split (TornRowRequest torn) = true
may_split (TornRowResponse t) = row_has_words t.header
