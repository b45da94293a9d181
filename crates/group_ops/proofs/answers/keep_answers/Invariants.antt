use Rattle.std.proofs.Common.{◌∷◌}
use Rattle.causal_history.specs.Bits.{bit}
use Rattle.causal_history.specs.Rows.{history_of}
use Rattle.group_keys.specs.Primitives.{primitives_of}
use Rattle.group_messages.specs.Messages.{message_of}
use Rattle.group_model.specs.KeyTerms.{member_secret}
use Rattle.group_model.specs.Membership.{ids_named}
use Rattle.member_book.specs.Places.{id_at}
use Rattle.group_ops.proofs.KeptAnswers.{AreKept}
use Rattle.group_ops.proofs.answers.keep_answers.Given as goal

abbrev pub invariant-loop-place : goal.invariant-loop-place
invariant-loop-place g l = AreKept (message_of l.op).id
    (λ p. member_secret (primitives_of g.K.Kem) l.seed (id_at (ids_named (message_of l.op ∷ history_of l.history)) p))
    (bit l.crowd.0) l.place l.initial.book l.book
