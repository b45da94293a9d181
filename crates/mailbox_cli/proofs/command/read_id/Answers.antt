use Rattle.std.proofs.Common.{◌≡◌, ◌*◌, ℕ, take, drop, refl, sym, ◌∙◌, subst, arith, length-set}
use Rattle.mailbox_cli.specs.Words.{bytes_of_digits}
use Rattle.mailbox_cli.proofs.Reading.{in_front, in_front-nothing, id_more, id_done, id_of_digits}
use Rattle.mailbox_cli.proofs.command.read_id.Goals as goal

pub loop-index-init : goal.loop-index-init
loop-index-init c = record { size = refl; spelled = in_front-nothing (bytes_of_digits c.args.word.now) }

pub loop-index-preserved : goal.loop-index-preserved
loop-index-preserved c = record {
  size = length-set c.loop-index.id c.loop-index.index c.in_ok-id.field-0 ∙ c.loop-index.invariant.size;
  spelled = id_more c.args.word.now c.loop-index.id c.loop-index.index c.in_ok-id.field-0 (omega (arith, c.if-word-ne64.false)) (omega (arith, c.loop-index.invariant.size))
      (sym c.read_byte.ensures ∙ c.in_ok-id.was) c.loop-index.invariant.spelled;
}

pub returns-clause-some : goal.returns-clause-some
returns-clause-some c =
    let all : c.loop-index.index ≡ 32 = omega arith in
    let done = id_done c.args.word.now c.loop-index.id c.if-word-ne64.false c.loop-index.invariant.size
    (subst (λ (i : ℕ). bytes_of_digits c.args.word.now ≡ in_front (take i c.loop-index.id) (bytes_of_digits (drop (2 * i) c.args.word.now))) all c.loop-index.invariant.spelled) in
    id_of_digits c.args.word.now c.if-word-ne64.false ∙ done
