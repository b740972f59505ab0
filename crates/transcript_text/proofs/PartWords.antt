-- The words of contents, nodes, messages, entries and writes.
use Rattle.std.proofs.Common.{◌≡◌, ℕ, ◌<◌, Bool, cond, List, [], ◌∷◌, ◌++◌, map, codes}
use Rattle.std.proofs.Common.{true, false, refl, sym, ap, ◌∙◌, arith, rules, length, get_or, All, Some, append-nil, inl}
use Rattle.std.specs.List.{AllByRecursion, flat_map}
use Rattle.std.specs.Fmt.{decimal}
use Rattle.std.specs.Str.{bytes_eq}
use Rattle.std.proofs.lemmas.Fmt.{decimal_injective}
use Rattle.std.proofs.lemmas.Grind.{flat_map-append}
use Rattle.std.proofs.lemmas.List.Folds.{flat_map-map}
use Rattle.uuid.specs.Text.{hyphenated_text, lower, parsed}
use Rattle.uuid.proofs.RoundTrips.{parses_hyphenated}
use Rattle.row_value.specs.declared.content.Cell.{Cell}
use Rattle.row_value.specs.declared.content.Cell.TheVariants as cells
use Rattle.row_value.specs.declared.content.Content.{Content}
use Rattle.row_value.specs.declared.content.Content.TheVariants.{Gone, Row}
use Rattle.table_model.specs.declared.entry.Entry.{Entry}
use Rattle.table_model.specs.declared.message_name.MessageName.{MessageName}
use Rattle.table_model.specs.declared.message_name.MessageName.TheVariants as kinds
use Rattle.stab_base.specs.declared.node.Node.{Node}
use Rattle.stab_base.specs.declared.node.Node.TheVariants as nodes
use Rattle.table_model.specs.declared.line.RowPair.{RowPair}
use Rattle.table_model.specs.declared.line.Write.{Write}
use Rattle.transcript_text.specs.Text.{cell_text, content_text, node_text, message_text, entry_text, pair_text}
use Rattle.transcript_text.specs.OneForm.{AreBytes, HasContentText}
use Rattle.transcript_text.specs.OneForm.{HasRowText, HasWriteText, HasEntryText, HasPairText, HasNodeText}
use Rattle.transcript_text.proofs.Above.{IsAbove, led, decimal_above, row_above}
use Rattle.transcript_text.proofs.Values.{cell_word, object_word, cells_above, objects_above, all_words, object_same, no_object, values_same, not_gone}
use Rattle.transcript_text.proofs.Values.{object_not_gone}

abbrev pub content_words : Content → List (List ℕ)
content_words Gone = codes "gone" ∷ []
content_words (Row some objects) = map cell_word some ++ map object_word objects

abbrev pub node_word : Node → List ℕ
node_word (nodes.Client client) = codes "C" ++ decimal client
node_word (nodes.Gate gate) = codes "G" ++ decimal gate
node_word (nodes.Store store) = codes "S" ++ decimal store

abbrev pub write_words : Write → List (List ℕ)
write_words write =
    codes "wrote"
    ∷ (codes "C" ++ decimal write.client)
    ∷ decimal write.number
    ∷ (codes "T" ++ decimal write.table)
    ∷ hyphenated_text lower write.row
    ∷ decimal write.read
    ∷ content_words write.content

abbrev pub message_word : MessageName → List ℕ
message_word kinds.RegisterDevice = codes "registerDevice"
message_word kinds.CreateTable = codes "createTable"
message_word kinds.DropTable = codes "dropTable"
message_word kinds.SubscribeTable = codes "subscribeTable"
message_word kinds.UnsubscribeTable = codes "unsubscribeTable"
message_word kinds.Notify = codes "notify"
message_word kinds.ObjectFragment = codes "objectFragment"
message_word kinds.PullRequest = codes "pullRequest"
message_word kinds.PullResponse = codes "pullResponse"
message_word kinds.SyncRequest = codes "syncRequest"
message_word kinds.SyncResponse = codes "syncResponse"
message_word kinds.TornRowRequest = codes "tornRowRequest"
message_word kinds.TornRowResponse = codes "tornRowResponse"
message_word kinds.OperationResponse = codes "operationResponse"
message_word kinds.SaveClientSubscription = codes "saveClientSubscription"
message_word kinds.RestoreClientSubscriptions = codes "restoreClientSubscriptions"
message_word kinds.TableVersionUpdateNotification = codes "tableVersionUpdateNotification"

abbrev pub entry_words : ℕ → Entry → List (List ℕ)
entry_words table entry =
    (codes "T" ++ decimal table)
    ∷ decimal entry.version
    ∷ hyphenated_text lower entry.row
    ∷ (codes "C" ++ decimal entry.client)
    ∷ decimal entry.number
    ∷ decimal entry.base
    ∷ []

abbrev pub pair_words : RowPair → List (List ℕ)
pair_words pair = codes "pair" ∷ hyphenated_text lower pair.row ∷ decimal pair.number ∷ decimal pair.version ∷ []

pub cells_led : (some : List Cell) → flat_map cell_text some ≡ led 32 (map cell_word some)
cells_led [] = refl
cells_led (cells.Int n ∷ some) = ap (λ text. cell_text (cells.Int n) ++ text) (cells_led some)
cells_led (cells.Bool true ∷ some) = ap (λ text. cell_text (cells.Bool true) ++ text) (cells_led some)
cells_led (cells.Bool false ∷ some) = ap (λ text. cell_text (cells.Bool false) ++ text) (cells_led some)
cells_led (cells.Text t ∷ some) = ap (λ text. cell_text (cells.Text t) ++ text) (cells_led some)

pub content_led : (content : Content) → content_text content ≡ led 32 (content_words content)
content_led Gone = refl
content_led (Row some objects) =
    rw (flat_map-append, cells_led some, flat_map-map (λ (word : List ℕ). 32 ∷ word) object_word objects) refl

pub node_led : (node : Node) → node_text node ≡ 32 ∷ node_word node
node_led (nodes.Client client) = refl
node_led (nodes.Gate gate) = refl
node_led (nodes.Store store) = refl

pub message_led : (name : MessageName) → message_text name ≡ 32 ∷ message_word name
message_led kinds.RegisterDevice = refl
message_led kinds.CreateTable = refl
message_led kinds.DropTable = refl
message_led kinds.SubscribeTable = refl
message_led kinds.UnsubscribeTable = refl
message_led kinds.Notify = refl
message_led kinds.ObjectFragment = refl
message_led kinds.PullRequest = refl
message_led kinds.PullResponse = refl
message_led kinds.SyncRequest = refl
message_led kinds.SyncResponse = refl
message_led kinds.TornRowRequest = refl
message_led kinds.TornRowResponse = refl
message_led kinds.OperationResponse = refl
message_led kinds.SaveClientSubscription = refl
message_led kinds.RestoreClientSubscriptions = refl
message_led kinds.TableVersionUpdateNotification = refl

pub entry_led : (table : ℕ) (entry : Entry) → entry_text table entry ≡ led 32 (entry_words table entry)
entry_led table entry = simp append-nil

pub pair_led : (pair : RowPair) → 32 ∷ pair_text pair ≡ led 32 (pair_words pair)
pair_led pair = simp append-nil

pub content_above : (content : Content) → HasContentText content → AllByRecursion (IsAbove 32) (content_words content)
content_above Gone h = search rules
content_above (Row some objects) h = all_words (IsAbove 32) (map cell_word some) (map object_word objects) (cells_above some h.0) (objects_above objects h.1)

pub node_above : (node : Node) → HasNodeText node → IsAbove 32 (node_word node)
node_above (nodes.Client client) h = search (rules, decimal_above)
node_above (nodes.Gate gate) h = search (rules, decimal_above)
node_above (nodes.Store store) h = search (rules, decimal_above)

pub message_above : (name : MessageName) → IsAbove 32 (message_word name)
message_above kinds.RegisterDevice = search rules
message_above kinds.CreateTable = search rules
message_above kinds.DropTable = search rules
message_above kinds.SubscribeTable = search rules
message_above kinds.UnsubscribeTable = search rules
message_above kinds.Notify = search rules
message_above kinds.ObjectFragment = search rules
message_above kinds.PullRequest = search rules
message_above kinds.PullResponse = search rules
message_above kinds.SyncRequest = search rules
message_above kinds.SyncResponse = search rules
message_above kinds.TornRowRequest = search rules
message_above kinds.TornRowResponse = search rules
message_above kinds.OperationResponse = search rules
message_above kinds.SaveClientSubscription = search rules
message_above kinds.RestoreClientSubscriptions = search rules
message_above kinds.TableVersionUpdateNotification = search rules

pub entry_above : (table : ℕ) (entry : Entry) → HasEntryText table entry → AllByRecursion (IsAbove 32) (entry_words table entry)
entry_above table entry h = search (rules, decimal_above, row_above)

pub pair_above : (pair : RowPair) → HasPairText pair → AllByRecursion (IsAbove 32) (pair_words pair)
pair_above pair h = search (rules, decimal_above, row_above)

pub content_same : (a b : Content) → HasContentText a → HasContentText b → content_words a ≡ content_words b → a ≡ b
content_same Gone Gone p q e = refl
content_same Gone (Row some objects) p q e = absurd (not_gone object_word AreBytes object_same no_object object_not_gone some objects q.0 (sym e))
content_same (Row some objects) Gone p q e = absurd (not_gone object_word AreBytes object_same no_object object_not_gone some objects p.0 e)
content_same (Row some objects) (Row more others) p q e =
    let same = values_same object_word AreBytes object_same no_object some more objects others p.0 q.0 p.1 q.1 e in cc (same.0, same.1)

bytes_same : (xs ys : List ℕ) → length xs ≡ 16 → length ys ≡ 16 → All (λ b. b < 256) xs → All (λ b. b < 256) ys
    → hyphenated_text lower xs ≡ hyphenated_text lower ys → xs ≡ ys
bytes_same xs ys k l p q e =
    let same : Some xs ≡ Some ys = parses_hyphenated lower xs (inl refl) k p ∙ ap parsed e ∙ sym (parses_hyphenated lower ys (inl refl) l q) in
    cc

pub row_same : (xs ys : List ℕ) → HasRowText xs → HasRowText ys → hyphenated_text lower xs ≡ hyphenated_text lower ys → xs ≡ ys
row_same xs ys p q e = bytes_same xs ys p.size q.size p.bytes q.bytes e

pub write_same : (a b : Write) → HasWriteText a → HasWriteText b → write_words a ≡ write_words b → a ≡ b
write_same a b p q e =
    let rows = row_same a.row b.row p.row q.row (cc) in
    grind (arith, rows, decimal_injective, content_same)

pub entry_same : (s t : ℕ) (a b : Entry) → HasEntryText s a → HasEntryText t b → entry_words s a ≡ entry_words t b → (s ≡ t) × (a ≡ b)
entry_same s t a b p q e =
    let rows = row_same a.row b.row p.row q.row (cc) in
    grind (arith, rows, decimal_injective)

pub pair_same : (a b : RowPair) → HasPairText a → HasPairText b → pair_words a ≡ pair_words b → a ≡ b
pair_same a b p q e =
    let rows = row_same a.row b.row p.row q.row (cc) in
    grind (arith, rows, decimal_injective)

letter_of : Node → ℕ
letter_of (nodes.Client client) = 67
letter_of (nodes.Gate gate) = 71
letter_of (nodes.Store store) = 83

letter_is : (node : Node) → get_or (node_word node) 0 0 ≡ letter_of node
unfolding letter_of
letter_is (nodes.Client client) = refl
letter_is (nodes.Gate gate) = refl
letter_is (nodes.Store store) = refl

pub node_same : (a b : Node) → HasNodeText a → HasNodeText b → node_word a ≡ node_word b → a ≡ b
unfolding letter_of
node_same (nodes.Client m) (nodes.Client n) p q e = ap nodes.Client (decimal_injective m n (omega (arith, p)) (omega (arith, q)) (cc))
node_same (nodes.Gate m) (nodes.Gate n) p q e = ap nodes.Gate (decimal_injective m n (omega (arith, p)) (omega (arith, q)) (cc))
node_same (nodes.Store m) (nodes.Store n) p q e = ap nodes.Store (decimal_injective m n (omega (arith, p)) (omega (arith, q)) (cc))
node_same a b p q e =
    let same : letter_of a ≡ letter_of b = sym (letter_is a) ∙ ap (λ word. get_or word 0 0) e ∙ letter_is b in
    absurd (omega (arith, same))

message_in : List ℕ → MessageName
message_in word =
    cond (bytes_eq word (codes "registerDevice")) kinds.RegisterDevice
    (cond (bytes_eq word (codes "createTable")) kinds.CreateTable
    (cond (bytes_eq word (codes "dropTable")) kinds.DropTable
    (cond (bytes_eq word (codes "subscribeTable")) kinds.SubscribeTable
    (cond (bytes_eq word (codes "unsubscribeTable")) kinds.UnsubscribeTable
    (cond (bytes_eq word (codes "notify")) kinds.Notify
    (cond (bytes_eq word (codes "objectFragment")) kinds.ObjectFragment
    (cond (bytes_eq word (codes "pullRequest")) kinds.PullRequest
    (cond (bytes_eq word (codes "pullResponse")) kinds.PullResponse
    (cond (bytes_eq word (codes "syncRequest")) kinds.SyncRequest
    (cond (bytes_eq word (codes "syncResponse")) kinds.SyncResponse
    (cond (bytes_eq word (codes "tornRowRequest")) kinds.TornRowRequest
    (cond (bytes_eq word (codes "tornRowResponse")) kinds.TornRowResponse
    (cond (bytes_eq word (codes "operationResponse")) kinds.OperationResponse
    (cond (bytes_eq word (codes "saveClientSubscription")) kinds.SaveClientSubscription
    (cond (bytes_eq word (codes "restoreClientSubscriptions")) kinds.RestoreClientSubscriptions kinds.TableVersionUpdateNotification)))))))))))))))

message_read : (name : MessageName) → message_in (message_word name) ≡ name
unfolding message_in
message_read kinds.RegisterDevice = refl
message_read kinds.CreateTable = refl
message_read kinds.DropTable = refl
message_read kinds.SubscribeTable = refl
message_read kinds.UnsubscribeTable = refl
message_read kinds.Notify = refl
message_read kinds.ObjectFragment = refl
message_read kinds.PullRequest = refl
message_read kinds.PullResponse = refl
message_read kinds.SyncRequest = refl
message_read kinds.SyncResponse = refl
message_read kinds.TornRowRequest = refl
message_read kinds.TornRowResponse = refl
message_read kinds.OperationResponse = refl
message_read kinds.SaveClientSubscription = refl
message_read kinds.RestoreClientSubscriptions = refl
message_read kinds.TableVersionUpdateNotification = refl

pub message_same : (a b : MessageName) → message_word a ≡ message_word b → a ≡ b
message_same a b e = sym (message_read a) ∙ ap message_in e ∙ message_read b

abbrev pub first_word : List (List ℕ) → List ℕ
first_word [] = []
first_word (word ∷ words) = word
