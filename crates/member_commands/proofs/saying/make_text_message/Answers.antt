use Rattle.std.proofs.Common.{◌≡◌, ◌∙◌, ◌∷◌, ◌++◌, [], ap, rules, subst, sym}
use Rattle.group_fields.specs.declared.header.Header.{Header}
use Rattle.group_fields.specs.declared.header.Kind.TheVariants as kinds
use Rattle.group_fields.specs.declared.header.Target.TheVariants as targets
use Rattle.group_model.specs.Sets.{Bytes}
use Rattle.group_messages.specs.Messages.{message_of}
use Rattle.secret_book.specs.HeldBooks.{held}
use Rattle.next_messages.specs.Due.{IsNew}
use Rattle.member_commands.specs.Making.{IsWritten, closed, plain_row}
use Rattle.member_commands.specs.Saying.{IsSaid, IsUnsaid}
use Rattle.member_commands.proofs.Unsaid.{untaken}
use Rattle.member_commands.proofs.saying.make_text_message.Goals as goal

pub returns-in_err-made-clause-refused : goal.returns-in_err-made-clause-refused
returns-in_err-made-clause-refused g c =
    let rows = c.args.history.now in let me = c.args.me.now.0.0 in let random = c.args.random.now in
    let unsaid : IsUnsaid g.K.Kem rows random me c.args.place (held c.args.book.now) c.in_err-made.field-0.0 =
    untaken g.K.Kem rows random me c.args.place (held c.args.book.now) c.with_body-header.result
    (c.with_body-header.ensures.next g.K.Kem.SET rows me random kinds.Text targets.Nothing c.in_ok-header.ensures.next)
    c.in_err-made.field-0.0 c.in_err-made.ensures.refused in
    search rules

pub returns-clause-made : goal.returns-clause-made
returns-clause-made g c = λ M O may.
    let kem = g.K.Kem in let rows = c.args.history.now in let random = c.args.random.now in let me = c.args.me.now.0.0 in
    let first = c.in_ok-header.header in let body = c.in_ok-body.body in let made = c.in_ok-made.made in
    let after = held c.seal_text.new.book in
    let last : Header = closed first body in
    let is : c.with_body-header.result ≡ last =
    subst (λ (z : Bytes). c.with_body-header.result ≡ closed first z) c.as_slice.ensures c.with_body-header.ensures.digest in
    let done : IsSaid kem rows random me c.args.place c.args.text.now first body (held c.args.book.now) after = record {
      kept = c.count-kept.ensures.kept;
      own = c.requires.own;
      begun = c.in_ok-header.ensures.next;
      sealed = c.in_ok-body.ensures.sealed;
      moved = c.in_ok-body.ensures.moved;
      new = subst (λ (z : Header). IsNew rows (message_of z)) is c.in_ok-made.ensures.new;
    } in
    let said = c.texts_are_the_next.ensures g.G.Membership.rule rows random me c.args.place c.args.text.now first body
    (held c.args.book.now) after done M O may in
    record {
      makes = record {
        header = last;
        written = subst (λ (z : Header). IsWritten z made) is c.in_ok-made.ensures.written;
        is = record {
          next = said.is.next;
          header_is = said.is.header_is;
          body_is = said.is.body_is ∙ sym c.in_ok-made.ensures.body;
          by_command = said.is.by_command;
          rows_are = c.in_ok-made.ensures.rows ∙ ap (λ (z : Header). rows ++ plain_row z ∷ []) is ∙ said.is.rows_are;
          stands = said.is.stands;
          learns = c.in_ok-made.ensures.none ∙ said.is.learns;
        };
      };
      says = said.says;
    }
