-- Contents with objects of the same lengths, whose bytes may differ.
use Rattle.std.specs.Prelude.{◌≡◌, ℕ, List, length, map}
use Rattle.row_value.specs.declared.content.Content.{Content}
use Rattle.step_tables.specs.Chunks.{objects_of}
use Rattle.step_tables.specs.Messages.{Request, Pulled, TornPulled, Header, Message, PullResponse, TornRowResponse}
use Rattle.std.specs.Prelude.{Some}

abbrev pub lens : Content → List ℕ
lens content = map (λ (object : List ℕ). length object) (objects_of content)

abbrev pub AreAsLong : Content → Content → Type 0
AreAsLong a b = lens a ≡ lens b

-- a request, the answer to a pull with a row, and a row that was asked for whole, with another content
abbrev pub request_with : Request → Content → Request
request_with q content = record q { content = content }

abbrev pub answer_with : Pulled → Header → Content → Message
answer_with p h content = PullResponse (record p { header = Some (record h { content = content }) })

abbrev pub torn_with : TornPulled → Header → Content → Message
torn_with t h content = TornRowResponse (record t { header = Some (record h { content = content }) })
