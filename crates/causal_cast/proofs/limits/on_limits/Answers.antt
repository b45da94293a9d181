use Rattle.std.proofs.Common.{◌≡◌, true, false, inl, sym, ◌∙◌, ap, subst}
use Rattle.group_fields.specs.declared.header.Header.{Header}
use Rattle.group_messages.specs.Messages.{message_of}
use Rattle.group_model.specs.Validity.{IsWithinLimits}
use Rattle.causal_history.specs.Rows.{history_of}
use Rattle.causal_cast.specs.declared.verdict.Verdict.TheVariants.{HistoryFull}
use Rattle.causal_cast.proofs.Histories.{history-length}
use Rattle.causal_cast.proofs.Room.{limits-say}
use Rattle.causal_cast.proofs.limits.on_limits.Goals as goal

-- what is not within by numbers passes a limit
pub returns-then-not-is_within : goal.returns-then-not-is_within
returns-then-not-is_within g c =
    let x = c.args.me.now.0.0 in
    let h = history_of c.args.history.now in
    let rule = g.G.Membership.rule in
    let says = limits-say rule x h (message_of c.header-header.result) c.needs_answer-answers.result
    c.needs_answer-answers.ensures in
    inl (
      λ w.
          let found : false ≡ true = c.if-not-is_within.ensures.1
          (says.1 (subst (λ (z : Header). IsWithinLimits rule x h (message_of z)) (sym c.header-header.ensures) w)) in
          absurd cc,
      ap HistoryFull (c.count.ensures.count ∙ sym (history-length c.args.history.now)),
    )
