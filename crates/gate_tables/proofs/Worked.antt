-- The table of a gateway, computed on worked examples.
use Rattle.std.proofs.Common.{◌≡◌, ℕ, true, false, [], ◌∷◌, None, refl}
use Rattle.stab_base.specs.declared.node.Node.TheVariants as nodes
use Rattle.row_value.specs.declared.schema.Scheme.TheVariants.{Strong, Causal}
use Rattle.table_model.specs.declared.message.Message.{Message}
use Rattle.table_model.specs.declared.message.Message.TheVariants as messages
use Rattle.gate_tables.specs.Gate.{Running, Directory, Done, answer, asks, notify, quiet, is_spent, taken, ticked}

-- table 1 is causal and at Store 1, table 64 is strong and at Store 2
abbrev here : Directory
here = record { tables = (1, record { owner = 1; scheme = Causal }) ∷ ((64, record { owner = 2; scheme = Strong }) ∷ []); owners = 1 ∷ (2 ∷ []) }

abbrev fresh : Running
fresh = record { drawn = 0; sessions = [] }

abbrev registering : Message
registering = messages.RegisterDevice (record { client = 2 })

abbrev pulling : ℕ → ℕ → Message
pulling token table = messages.PullRequest (record { client = 2; token = token; table = table; position = 0 })

-- ---- registering, once and again

abbrev first : Done
first = taken here 1 1 fresh (nodes.Client 2) registering

registers : first.sends ≡ answer 2 0 1 0 4294967297 ∷ (asks 1 2 1 ∷ (asks 1 2 2 ∷ []))
registers = refl

pulls : (taken here 1 1 first.running (nodes.Client 2) (pulling 4294967297 1)).sends ≡ (nodes.Store 1, pulling 4294967297 1) ∷ []
pulls = refl

no_table : (taken here 1 1 first.running (nodes.Client 2) (pulling 4294967297 3)).sends ≡ answer 2 3 8 18 4294967297 ∷ []
no_table = refl

-- the token of another start counts no more
another_start : (taken here 1 2 (taken here 1 2 fresh (nodes.Client 2) registering).running (nodes.Client 2) (pulling 4294967297 1)).sends ≡ answer 2 1 8 19 4294967297 ∷ []
another_start = refl

behind_a_crash : (taken here 1 2 fresh (nodes.Client 2) (pulling 4294967297 1)).sends ≡ answer 2 1 8 19 4294967297 ∷ []
behind_a_crash = refl

-- ---- the last token, and none behind it

abbrev almost : Running
almost = record { drawn = 4294967294; sessions = [] }

draws_the_last : (taken here 1 4294967295 almost (nodes.Client 2) registering).sends ≡ answer 2 0 1 0 18446744073709551615 ∷ (asks 1 2 1 ∷ (asks 1 2 2 ∷ []))
draws_the_last = refl

abbrev none_left : Running
none_left = (taken here 1 4294967295 almost (nodes.Client 2) registering).running

spent : is_spent none_left (nodes.Client 2) registering ≡ true
spent = refl

not_spent_yet : is_spent almost (nodes.Client 2) registering ≡ false
not_spent_yet = refl

draws_no_more : taken here 1 4294967295 none_left (nodes.Client 2) registering ≡ quiet none_left
draws_no_more = refl

-- ---- a subscription of period 2 and tolerance 1

abbrev subscribed : Done
subscribed = taken here 1 1 first.running (nodes.Client 2) (messages.SubscribeTable (record { client = 2; token = 4294967297; table = 1; period = 2; tolerance = 1 }))

saves : subscribed.sends ≡ (nodes.Store 1, messages.SaveClientSubscription (record { client = 2; gate = 1; table = 1; on = true; period = 2; tolerance = 1 })) ∷ []
saves = refl

abbrev changing : ℕ → Running → Done
changing table running = taken here 1 1 running (nodes.Store 1) (messages.TableVersionUpdateNotification (record { gate = 1; table = table; version = 1 }))

abbrev told : Done
told = changing 1 subscribed.running

waits : told.sends ≡ []
waits = refl

abbrev once : Done
once = ticked told.running

abbrev twice : Done
twice = ticked once.running

abbrev thrice : Done
thrice = ticked twice.running

not_yet : once.sends ≡ []
not_yet = refl

nor_now : twice.sends ≡ []
nor_now = refl

fires : thrice.sends ≡ notify 2 1 ∷ []
fires = refl

-- and not again until the table changes again
rests : (ticked (ticked (ticked (ticked thrice.running).running).running).running).sends ≡ []
rests = refl

-- ---- a strong table fires at once, with all that are marked

abbrev both : Done
both = taken here 1 1 told.running (nodes.Client 2) (messages.SubscribeTable (record { client = 2; token = 4294967297; table = 64; period = 9; tolerance = 9 }))

at_once : (changing 64 both.running).sends ≡ notify 2 9223372036854775809 ∷ []
at_once = refl

-- ---- a refused subscription has no timer

refused_timer : (taken here 1 1 told.running (nodes.Store 1) (messages.OperationResponse (record { client = 2; table = 1; answered = 4; status = 18; token = 4294967297; schema = None }))).running
    ≡ first.running
refused_timer = refl
