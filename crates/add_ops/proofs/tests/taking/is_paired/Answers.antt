use Rattle.std.proofs.Common.{◌∙◌, ◌∷◌, ℕ, Some, subst, sym}
use Rattle.std.specs.Prelude.{IsSome}
use Rattle.causal_history.specs.Rows.{history_of}
use Rattle.group_messages.specs.Messages.{message_of}
use Rattle.group_model.specs.Membership.{ids_named}
use Rattle.group_model.proofs.Places.{place-distinct}
use Rattle.member_view.proofs.Crowds.{with-distinct}
use Rattle.secret_book.specs.HeldBooks.{held}
use Rattle.add_ops.proofs.TestFacts.{some-mapped}
use Rattle.add_ops.proofs.tests.taking.is_paired.Goals as goal

pub returns-in-Some : goal.returns-in-Some
returns-in-Some c = λ t p at.
    let h = history_of c.args.history.now in let m = message_of c.args.header.now in
    subst (λ (q : ℕ). IsSome ((held c.args.book.now).pairing q))
    (place-distinct (ids_named (m ∷ h)) (with-distinct h (Some m)) c.sender_place-place.result p m.sender c.sender_place-place.ensures.place at)
    (some-mapped _ _ _ (sym c.sends.ensures ∙ c.in-Some.is))
