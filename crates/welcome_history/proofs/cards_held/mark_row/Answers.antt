use Rattle.std.proofs.Common.{map, sym, ap, subst}
use Rattle.std.proofs.lemmas.Option.{IfSome_then}
use Rattle.group_model.specs.Sets.{In, here}
use Rattle.group_model.specs.Membership.{named_by}
use Rattle.group_messages.specs.Messages.{kind_of}
use Rattle.causal_history.specs.Bits.{bit}
use Rattle.member_view.specs.Crowds.{MorePlaces}
use Rattle.welcome_history.proofs.CardsHeld.{member_id, none-then, within-one, marked-one}
use Rattle.welcome_history.proofs.cards_held.mark_row.Goals as goal

pub returns-in-Create-clause-marked : goal.returns-in-Create-clause-marked
returns-in-Create-clause-marked c =
    IfSome_then c.mark_ids.result c.mark_ids.ensures.marked
    (λ more v. subst
    (λ k. MorePlaces (map member_id c.args.ids.now) (bit c.args.seen.0) (bit more.0) (λ x. In x (named_by k)))
    c.in-Create.ensures v)

pub returns-in-Add-clause-missing : goal.returns-in-Add-clause-missing
returns-in-Add-clause-missing c =
    none-then c.mark_id.result c.mark_id.ensures.missing
    (λ n w. n (w.each (subst (λ k. In c.in-Add.id.0.0 (named_by k)) c.in-Add.ensures here)))

pub returns-in-Add-clause-there : goal.returns-in-Add-clause-there
returns-in-Add-clause-there c =
    IfSome_then c.mark_id.result c.mark_id.ensures.there
    (λ more i. within-one (map member_id c.args.ids.now) c.in-Add.id.0.0 (named_by (kind_of c.args.header.now))
    (ap named_by (sym c.in-Add.ensures)) i)

pub returns-in-Add-clause-marked : goal.returns-in-Add-clause-marked
returns-in-Add-clause-marked c =
    IfSome_then c.mark_id.result c.mark_id.ensures.marked
    (λ more v. marked-one (map member_id c.args.ids.now) (bit c.args.seen.0) (bit more.0) c.in-Add.id.0.0
    (named_by (kind_of c.args.header.now)) (ap named_by (sym c.in-Add.ensures)) v)
