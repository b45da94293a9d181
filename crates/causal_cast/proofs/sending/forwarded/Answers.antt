use Rattle.std.proofs.Common.{◌≡◌, Bool, true, false, ◌∷◌, sym, ◌∙◌, subst}
use Rattle.group_fields.specs.declared.header.Kind.{Kind}
use Rattle.group_fields.specs.declared.header.Target.{Target}
use Rattle.group_model.specs.Membership.{IsForwardedTo, IsSeeded, ids_named}
use Rattle.group_model.specs.Marks.{IsCrowd}
use Rattle.group_messages.specs.Messages.{kind_by, message_of}
use Rattle.causal_history.specs.Bits.{bit}
use Rattle.causal_history.specs.Rows.{history_of}
use Rattle.causal_cast.proofs.CrowdSets.{crowd-none}
use Rattle.causal_cast.proofs.Forwards.{forward-none}
use Rattle.causal_cast.proofs.sending.forwarded.Goals as goal

-- a kind that is found to send no seed sends none
seeded-not : (k kind : Kind) (target : Target) (found : Bool) → k ≡ kind → (IsSeeded (kind_by k target) → found ≡ true)
    → found ≡ false → IsSeeded (kind_by kind target) → ⊥
seeded-not k kind target found e says none s =
    let yes : found ≡ true = says (subst (λ z. IsSeeded (kind_by z target)) (sym e) s) in
    let no : true ≡ false = sym yes ∙ none in
    absurd cc

-- the row's id is the operation's
pub returns-then-is_seeded : goal.returns-then-is_seeded
returns-then-is_seeded g c =
    let h = history_of c.args.history.now in
    let m = message_of c.args.header.now in
    subst (λ i. IsCrowd (ids_named (m ∷ h)) (bit c.left_out.result.0) (λ y. IsForwardedTo g.G.Membership.rule h i m y))
    c.in-Some.ensures.1 c.left_out.ensures

-- what sends no seed is not forwarded
pub returns-else-is_seeded : goal.returns-else-is_seeded
returns-else-is_seeded g c =
    let h = history_of c.args.history.now in
    let m = message_of c.args.header.now in
    crowd-none (ids_named (m ∷ h)) (bit c.new-else-is_seeded.result.0)
    (λ y. IsForwardedTo g.G.Membership.rule h c.args.operation.now.0.0 m y) c.new-else-is_seeded.ensures
    (λ y i f. forward-none g.G.Membership.rule h m (message_of c.in-Some.row) c.count-kept.ensures.kept.history
    c.args.operation.now.0.0 c.in-Some.ensures.0 c.in-Some.ensures.1
    (λ s. seeded-not c.kind.result c.in-Some.row.kind c.in-Some.row.target c.is_seeded.result c.kind.ensures
    (c.is_seeded.ensures c.in-Some.row.target).1 c.if-is_seeded.false s) y f)
