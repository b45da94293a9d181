use Rattle.std.proofs.Common.{◌≡◌, true, false, refl, sym, ◌∙◌, subst}
use Rattle.group_model.specs.Membership.{IsForwardedTo, IsSeeded, ids_named}
use Rattle.group_messages.specs.Messages.{kind_by, message_of}
use Rattle.causal_history.specs.Bits.{bit}
use Rattle.causal_history.specs.Rows.{history_of}
use Rattle.causal_cast.proofs.CrowdSets.{crowd-none}
use Rattle.causal_cast.proofs.Forwards.{forward-none}
use Rattle.forwarding.proofs.forward.forward_to.Goals as goal

pub returns-else-is_seeded : goal.returns-else-is_seeded
returns-else-is_seeded g c = λ m k.
    let h = history_of c.args.history.now in
    let o = message_of c.args.operation.now in
    crowd-none (ids_named h) (bit c.new.result.0) (λ y. IsForwardedTo g.G.Membership.rule h o.id m y) c.new.ensures
    (λ y i f. forward-none g.G.Membership.rule h m o k.history.2 o.id c.requires.row refl
    (λ s. let yes : c.is_seeded.result ≡ true = (c.is_seeded.ensures c.args.operation.now.target).1
    (subst (λ z. IsSeeded (kind_by z c.args.operation.now.target)) (sym c.kind.ensures) s) in
    let no : true ≡ false = sym yes ∙ c.if-is_seeded.false in
    absurd cc) y f)
