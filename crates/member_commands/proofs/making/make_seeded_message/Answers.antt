use Rattle.std.proofs.Common.{◌≡◌, ◌∙◌, ◌∷◌, ◌++◌, [], List, ap, rules, subst, sym}
use Rattle.group_fields.specs.declared.header.Header.{Header}
use Rattle.group_model.specs.Sets.{Bytes}
use Rattle.group_messages.specs.Messages.{message_of}
use Rattle.causal_history.specs.Rows.{Row}
use Rattle.secret_book.specs.HeldBooks.{held}
use Rattle.next_messages.specs.Due.{IsNew}
use Rattle.member_commands.specs.Commands.{given_to}
use Rattle.member_commands.specs.Making.{AreDone, IsMadeBy, IsTakenBy, IsWritten, closed, plain_row}
use Rattle.member_commands.specs.Refusing.{IsUnmade}
use Rattle.member_commands.proofs.Plain.{same_places}
use Rattle.member_commands.proofs.Refused.{untaken}
use Rattle.member_commands.proofs.making.make_seeded_message.Goals as goal

pub finish-requires-clause-met : goal.finish-requires-clause-met
finish-requires-clause-met g c =
    same_places c.seal.new.book c.args.book.now c.in_ok-body.ensures.body.sealed.made.made.met ∙ c.requires.met

pub returns-in_err-made-clause-refused : goal.returns-in_err-made-clause-refused
returns-in_err-made-clause-refused g c =
    let rows = c.args.history.now in let me = c.args.me.now.0.0 in let random = c.args.random.now in
    let unmade : IsUnmade g.K.Kem g.G.Membership.rule rows random me c.args.kind c.args.target (held c.args.book.now) c.in_err-made.field-0.0 =
    untaken g.K.Kem g.G.Membership.rule rows random me c.args.kind c.args.target (held c.args.book.now) c.with_body-header.result
    (c.with_body-header.ensures.next g.K.Kem.SET rows me random c.args.kind c.args.target c.in_ok-header.ensures.next)
    c.in_err-made.field-0.0 c.in_err-made.ensures.refused in
    search rules

pub returns-clause-made : goal.returns-clause-made
returns-clause-made g c = λ input M O asks may.
    let kem = g.K.Kem in let rule = g.G.Membership.rule in let rows = c.args.history.now in let random = c.args.random.now in
    let me = c.args.me.now.0.0 in let first = c.in_ok-header.header in let body = c.in_ok-body.body in
    let made = c.in_ok-made.made in let sealed = held c.seal.new.book in let after = held c.finish.new.book in
    let last : Header = closed first body in
    let is : c.with_body-header.result ≡ last =
    subst (λ (z : Bytes). c.with_body-header.result ≡ closed first z) c.as_slice.ensures c.with_body-header.ensures.digest in
    let done : AreDone kem rule rows random me c.args.place c.args.kind c.args.target first body (held c.args.book.now) sealed after
    made.learned = record {
      kept = c.count-kept.ensures.kept;
      plain = c.requires.plain;
      own = c.requires.own;
      begun = c.in_ok-header.ensures.next;
      made = c.in_ok-body.ensures.body;
      new = subst (λ (z : Header). IsNew rows (message_of z)) is c.in_ok-made.ensures.new;
      taken = subst (λ (z : Header). IsTakenBy kem rule rows random z c.args.place sealed after made.learned) is c.in_ok-made.ensures.taken;
    } in
    record {
      header = last;
      written = subst (λ (z : Header). IsWritten z made) is c.in_ok-made.ensures.written;
      is = subst (λ (z : List Row). IsMadeBy kem rule M O (given_to input random) input last made.body z after made.learned)
          (sym (c.in_ok-made.ensures.rows ∙ ap (λ (z : Header). rows ++ plain_row z ∷ []) is))
          (subst (λ (z : Bytes). IsMadeBy kem rule M O (given_to input random) input last z (rows ++ plain_row last ∷ []) after made.learned)
          (sym c.in_ok-made.ensures.body)
          (c.commands_make_the_next.ensures rule g.G.Membership.is_rule rows random me c.args.place c.args.kind c.args.target first body
          (held c.args.book.now) sealed after made.learned done input M O asks may));
    }
