use Rattle.std.proofs.Common.{◌≡◌, ◌++◌, ◌∷◌, [], List, Bool, true, false, sym, ◌∙◌, ap, subst}
use Rattle.std.specs.Bool.{MatchBool}
use Rattle.std.proofs.lemmas.Result.{on_ok_weaker}
use Rattle.chunk_store.specs.Standing.{chunks}
use Rattle.held_value.specs.declared.local_name.LocalName.{LocalName}
use Rattle.slot_store.specs.declared.held.TableRecord.{TableRecord}
use Rattle.std.specs.Prelude.{Option}
use Rattle.client_journal.specs.Names.{names_in}
use Rattle.client_journal.specs.There.{is_not_there, HasNames, HasKeys}
use Rattle.client_journal.proofs.Theres.{keys_push}
use Rattle.client_journal.proofs.there.note_row.Goals as goal

pub returns-then-is_hidden : goal.returns-then-is_hidden
returns-then-is_hidden g c held of = record {
  noted = λ before ks has hid.
      let cs = chunks g.D.Disk.state c.args.dev.now in
      let is = sym c.if-is_hidden.true ∙ (c.in_ok-is_hidden.ensures before has ∙ ap (λ (t : Option TableRecord). is_not_there cs t c.args.greatest before c.args.slots.now) (sym of)) in
      subst (λ (b : Bool). MatchBool b (HasNames before c.args.found.now.named × HasKeys (ks ++ c.args.key.now ∷ []) c.insert.new.self) (HasNames (before ++ names_in c.args.slots.now) c.args.found.now.named × HasKeys ks c.insert.new.self)) is
      (has, keys_push c.args.found.now.hidden c.insert.new.self ks c.args.key.now hid c.in_ok-insert.ensures.updates.0);
}

pub returns : goal.returns
returns g c =
    on_ok_weaker c.add_all.result (λ all held of. record {
      noted = λ before ks has hid.
          let cs = chunks g.D.Disk.state c.args.dev.now in
          let is = sym c.if-is_hidden.false ∙ (c.in_ok-is_hidden.ensures before has ∙ ap (λ (t : Option TableRecord). is_not_there cs t c.args.greatest before c.args.slots.now) (sym of)) in
          let named = subst (λ (l : List LocalName). HasNames (before ++ l) c.add_all.new.named) (c.deref-2.ensures.value ∙ c.in_ok-names.ensures) (all before has) in
          subst (λ (b : Bool). MatchBool b (HasNames before c.add_all.new.named × HasKeys (ks ++ c.args.key.now ∷ []) c.args.found.now.hidden) (HasNames (before ++ names_in c.args.slots.now) c.add_all.new.named × HasKeys ks c.args.found.now.hidden)) is (named, hid);
    }) c.add_all.ensures
