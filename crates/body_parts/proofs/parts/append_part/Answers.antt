use Rattle.std.proofs.Common.{sym, subst}
use Rattle.std.proofs.lemmas.Result.{on_ok_weaker}
use Rattle.secret_book.specs.HeldBooks.{held}
use Rattle.body_parts.specs.Sending.{IsSealedFor}
use Rattle.body_parts.proofs.Each.{others_stay}
use Rattle.body_parts.proofs.parts.append_part.Goals as goal

pub returns-clause-part : goal.returns-clause-part
returns-clause-part g c =
    let drawn = c.args.draws.now in
    let before = held c.args.book.now in
    let after = held c.seal_for.new.book in
    let bytes = c.as_slice.result.now in
    let sealed : IsSealedFor g.K.Kem c.args.to.now c.args.payload.now drawn before after bytes =
    subst (IsSealedFor g.K.Kem c.args.to.now c.args.payload.now drawn before after) (sym c.as_slice.ensures) c.in_ok-bytes.ensures.sealed in
    on_ok_weaker c.append_bytes.result
    (λ plain. (
      bytes,
      record {
        back = bytes;
        whole = plain;
        spelled = c.parts_are_the_models.ensures.spelled c.args.to.now c.args.payload.now drawn before after bytes sealed;
      },
      c.parts_are_the_models.ensures.made c.args.to.now c.args.payload.now drawn before after bytes sealed,
    ))
    c.append_bytes.ensures.plain

pub returns-clause-others : goal.returns-clause-others
returns-clause-others g c =
    on_ok_weaker c.append_bytes.result
    (λ plain. others_stay g.K.Kem c.args.to.now c.args.payload.now c.args.draws.now (held c.args.book.now) (held c.seal_for.new.book)
    c.in_ok-bytes.bytes c.in_ok-bytes.ensures.sealed)
    c.append_bytes.ensures.plain
