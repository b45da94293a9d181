use Rattle.std.proofs.Common.{◌≡◌, ℕ, Bool, sym, subst}
use Rattle.group_fields.specs.declared.ids.MemberId.{MemberId}
use Rattle.group_model.specs.Sets.{Id, In}
use Rattle.group_model.specs.Membership.{ids_named, InView, IsForwardedTo}
use Rattle.group_model.specs.Marks.{IsCrowd}
use Rattle.group_model.proofs.Pasts.{deps-stand}
use Rattle.group_model.proofs.Places.{place-one}
use Rattle.group_messages.specs.Messages.{message_of}
use Rattle.causal_history.specs.Bits.{bit}
use Rattle.causal_history.specs.Rows.{history_of}
use Rattle.causal_cast.proofs.CrowdSets.{crowd-by}
use Rattle.causal_cast.proofs.Forwards.{left_out-crowd, places-of_answer, stands-well}
use Rattle.forwarding.proofs.Answers.{seen-by_member, member-sees}
use Rattle.forwarding.proofs.forward.left_out.Goals as goal

-- the operation is a row
pub view-met-requires-clause-stand : goal.view-met-requires-clause-stand
view-met-requires-clause-stand g c =
    deps-stand (history_of c.args.history.now) c.count-kept.ensures.kept.history c.requires.row

pub view-met-requires-clause-create : goal.view-met-requires-clause-create
view-met-requires-clause-create g c =
    stands-well (history_of c.args.history.now) (message_of c.args.operation.now) c.requires.row _

pub returns : goal.returns
returns g c = λ m k.
    let h = history_of c.args.history.now in
    let o = message_of c.args.operation.now in
    let rule = g.G.Membership.rule in
    let is_rule = g.G.Membership.is_rule in
    let same = places-of_answer h m k.moves_nobody in
    let there = λ (bits : ℕ → Bool) (P : Id → Type 0) (x : IsCrowd (ids_named h) bits P).
    subst (λ z. IsCrowd z bits P) (sym same) x in
    let seen = crowd-by (ids_named h) (bit c.members_now-now.result.0) (λ y. In y (rule h)) (λ y. InView rule h m y)
    c.members_now-now.ensures (seen-by_member h m k rule is_rule) (member-sees h m k rule is_rule) in
    let maker = subst (λ (id : MemberId). IsCrowd (ids_named h) (bit c.alone-first.result.0) (λ y. id.0.0 ≡ y))
    c.sender-maker.ensures c.alone-first.ensures in
    let own = subst (λ i. IsCrowd (ids_named h) (bit c.alone-last.result.0) (λ y. i ≡ y))
    (place-one (ids_named h) c.args.me c.member-own.result.0.0 m.sender c.member-own.ensures k.sender) c.alone-last.ensures in
    subst (λ z. IsCrowd z (bit c.without.result.0) (λ y. IsForwardedTo rule h o.id m y)) same
    (left_out-crowd rule h m o c.count-kept.ensures.kept.history k.moves_nobody c.requires.row c.requires.seeded
    (bit c.members_now-now.result.0) (bit c.view-met.result.0) (bit c.alone-first.result.0) (bit c.alone-last.result.0)
    (bit c.without-new.result.0) (bit c.without-others.result.0) (bit c.without.result.0)
    (there (bit c.members_now-now.result.0) (λ y. InView rule h m y) seen) c.view-met.ensures
    (there (bit c.alone-first.result.0) (λ y. o.sender ≡ y) maker)
    (there (bit c.alone-last.result.0) (λ y. m.sender ≡ y) own) c.without-new.ensures c.without-others.ensures
    c.without.ensures)
