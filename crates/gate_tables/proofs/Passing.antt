-- What of a client's messages goes on.
use Rattle.std.proofs.Common.{◌≡◌, ℕ, Bool, true, false, cond, eqb, Option, Some, None, refl, sym, subst}
use Rattle.std.specs.List.{AllByRecursion}
use Rattle.table_model.specs.declared.message.Message.{Message}
use Rattle.gate_tables.specs.declared.timer.Asked.{Asked}
use Rattle.gate_tables.specs.declared.timer.Placed.{Placed}
use Rattle.gate_tables.specs.Gate.{Running, Session, Directory, Done, asked, has_token, session_of, placed, refused, to_owner, by_session, by_asked, from_client}
use Rattle.gate_tables.specs.Laws.{IsToClient, IsUnregistered, GoesToOwner}

module _ (directory : Directory) (number : ℕ) (running : Running) (message : Message) where
  -- ---- without a session

  abbrev Stays : Done → Type 0
  Stays done = AllByRecursion IsToClient done.sends

  no_token : (a : Asked) (session : Session) (b : Bool) → b ≡ false → Stays (cond b (to_owner number running a session message (placed directory a.table)) (refused running a 19))
  no_token a session true e = absurd cc
  no_token a session false e = (tt, tt)

  no_session : (a : Asked) (o : Option Session) → has_token o a.token ≡ false → Stays (by_session directory number running a message o)
  no_session a None e = (tt, tt)
  no_session a (Some session) e = no_token a session (eqb session.token a.token) e

  pub unregistered : IsUnregistered running message → Stays (from_client directory number running message)
  unregistered h = subst (λ (o : Option Asked). Stays (by_asked directory number running message o)) (sym h.1) (no_session h.0 (session_of running h.0.client) h.2)

  -- ---- to the owner

  abbrev Goes : Done → Type 0
  Goes done = AllByRecursion (GoesToOwner directory number message) done.sends

  owner_goes : (a : Asked) (session : Session) → asked message ≡ Some a → (o : Option Placed) → placed directory a.table ≡ o → Goes (to_owner number running a session message o)
  owner_goes a session e None p = (tt, tt)
  owner_goes a session e (Some place) p = ((a, place, e, p, refl, refl), tt)

  token_goes : (a : Asked) (session : Session) → asked message ≡ Some a → (b : Bool) → Goes (cond b (to_owner number running a session message (placed directory a.table)) (refused running a 19))
  token_goes a session e true = owner_goes a session e (placed directory a.table) refl
  token_goes a session e false = (tt, tt)

  session_goes : (a : Asked) → asked message ≡ Some a → (o : Option Session) → Goes (by_session directory number running a message o)
  session_goes a e None = (tt, tt)
  session_goes a e (Some session) = token_goes a session e (eqb session.token a.token)

  asked_goes : (o : Option Asked) → asked message ≡ o → Goes (by_asked directory number running message o)
  asked_goes None e = tt
  asked_goes (Some a) e = session_goes a e (session_of running a.client)

  pub passes : Goes (from_client directory number running message)
  passes = asked_goes (asked message) refl
