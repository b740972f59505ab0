-- How long the bodies of the messages are that parts go as.
use Rattle.std.proofs.Common.{◌≡◌, ◌+◌, ◌++◌, length, refl, arith, length-append}
use Rattle.value_codec.specs.Spelling.{flag_spelling, content_spelling}
use Rattle.field_codec.specs.Forms.{four, eight, option_spelling}
use Rattle.table_model.specs.declared.message.RowHeader.{RowHeader}
use Rattle.table_model.specs.declared.message.ObjectFragment.{ObjectFragment}
use Rattle.table_model.specs.declared.message.PullRequest.{PullRequest}
use Rattle.table_model.specs.declared.message.PullResponse.{PullResponse}
use Rattle.table_model.specs.declared.message.SyncRequest.{SyncRequest}
use Rattle.table_model.specs.declared.message.SyncResponse.{SyncResponse}
use Rattle.table_model.specs.declared.message.TornRowRequest.{TornRowRequest}
use Rattle.table_model.specs.declared.message.TornRowResponse.{TornRowResponse}
use Rattle.table_model.specs.declared.message.Outcome.{Outcome}
use Rattle.table_model.specs.declared.message.Outcome.TheVariants as outcomes
use Rattle.sync_msgs.specs.Spelling.{chunk_spelling, header_spelling, outcome_spelling}
use Rattle.sync_msgs.specs.Spelling.{object_fragment_spelling, pull_request_spelling, pull_response_spelling, sync_request_spelling, sync_response_spelling}
use Rattle.sync_msgs.specs.Spelling.{torn_row_request_spelling, torn_row_response_spelling}

pub fragment_len : (m : ObjectFragment) → length (object_fragment_spelling m) ≡ 37 + length m.row + length m.bytes
unfolding four eight chunk_spelling
fragment_len m = omega (arith, length-append m.row (flag_spelling m.down ++ (eight m.key ++ (four m.column ++ (four m.place ++ chunk_spelling m.bytes)))))

pub pull_len : (m : PullRequest) → length (pull_request_spelling m) ≡ 24
unfolding four eight
pull_len m = refl

pub pulled_len : (m : PullResponse) → length (pull_response_spelling m) ≡ 32 + length (option_spelling header_spelling m.header)
unfolding four eight
pulled_len m = omega arith

pub request_len : (m : SyncRequest) → length (sync_request_spelling m) ≡ 32 + length m.row + length (content_spelling m.content)
unfolding four eight
request_len m = omega (arith, length-append m.row (eight m.number ++ (eight m.base ++ content_spelling m.content)))

outcome_len : (outcome : Outcome) → length (outcome_spelling outcome) ≡ 9
unfolding eight
outcome_len (outcomes.Accepted version) = refl
outcome_len (outcomes.Again version) = refl
outcome_len (outcomes.Late last) = refl
outcome_len (outcomes.Stale latest) = refl
outcome_len (outcomes.Conflict latest) = refl
outcome_len outcomes.NeedWhole = refl

pub response_len : (m : SyncResponse) → length (sync_response_spelling m) ≡ 25 + length m.row
unfolding four eight
response_len m = omega (arith, length-append m.row (eight m.number ++ outcome_spelling m.outcome), outcome_len m.outcome)

pub torn_len : (m : TornRowRequest) → length (torn_row_request_spelling m) ≡ 16 + length m.row
unfolding four eight
torn_len m = omega arith

pub torn_answer_len : (m : TornRowResponse) → length (torn_row_response_spelling m) ≡ 8 + length m.row + length (option_spelling header_spelling m.header)
unfolding four eight
torn_answer_len m = omega (arith, length-append m.row (option_spelling header_spelling m.header))

pub header_len : (h : RowHeader) → length (header_spelling h) ≡ 24 + length h.row + length (content_spelling h.content)
unfolding eight
header_len h = omega (arith, length-append h.row (eight h.version ++ (eight h.yours.number ++ (eight h.yours.version ++ content_spelling h.content))))
