use Rattle.std.proofs.Common.{◌≡◌, ◌∷◌, ℕ, arith, subst}
use Rattle.causal_history.specs.Bits.{bit}
use Rattle.causal_history.specs.Rows.{history_of}
use Rattle.group_keys.specs.Primitives.{primitives_of}
use Rattle.group_messages.specs.Messages.{message_of}
use Rattle.group_model.specs.KeyTerms.{member_secret}
use Rattle.group_model.specs.Membership.{ids_named}
use Rattle.member_book.specs.Places.{id_at}
use Rattle.secret_book.specs.HeldBooks.{held}
use Rattle.group_ops.specs.Answers.{answers_kept}
use Rattle.group_ops.proofs.KeptAnswers.{first-kept, more-kept}
use Rattle.group_ops.proofs.answers.keep_answers.Goals as goal

pub loop-place-init : goal.loop-place-init
loop-place-init g c = first-kept _ _ _ _

pub loop-place-preserved : goal.loop-place-preserved
loop-place-preserved g c = more-kept _ _ _ c.loop-place.place _ _ _ c.loop-place.invariant c.in_ok-keep_answer.ensures.kept
    c.in_ok-keep_answer.ensures.places

pub returns-clause-kept : goal.returns-clause-kept
returns-clause-kept g c = subst (λ (n : ℕ). held c.loop-place.book ≡ answers_kept (message_of c.args.op.now).id
    (λ p. member_secret (primitives_of g.K.Kem) c.args.seed.now (id_at (ids_named (message_of c.args.op.now ∷ history_of c.args.history.now)) p))
    (bit c.args.crowd.0) n (held c.args.book.now)) (omega (arith, c.loop-place-test.false, c.loop-place.auto.place-end))
    c.loop-place.invariant.kept
