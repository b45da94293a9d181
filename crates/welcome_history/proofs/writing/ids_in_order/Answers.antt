use Rattle.std.proofs.Common.{◌≡◌, ◌∷◌, ◌++◌, [], List, sym, ◌∙◌, subst, ap, arith}
use Rattle.std.specs.List.Sorted.{IsPermutation}
use Rattle.std.proofs.lemmas.List.{take_all}
use Rattle.group_model.specs.Sets.{Id}
use Rattle.group_model.specs.Membership.{ids_named}
use Rattle.group_model.proofs.RemoveWins.{ids_named-distinct}
use Rattle.causal_history.specs.Rows.{history_of}
use Rattle.welcome_history.proofs.CardsFor.{taken}
use Rattle.welcome_history.proofs.Sorting.{in-order}
use Rattle.welcome_history.proofs.writing.ids_in_order.Goals as goal

pub loop-place-preserved : goal.loop-place-preserved
loop-place-preserved c =
    let ids = ids_named (history_of c.args.history.now) in
    c.in_ok-push.ensures.items ∙ ap (λ (z : List Id). z ++ c.member.result.0.0 ∷ []) c.loop-place.invariant
    ∙ sym (taken ids c.loop-place.place c.member.result.0.0 c.member.ensures)

pub returns : goal.returns
returns c =
    let ids = ids_named (history_of c.args.history.now) in
    let all : c.loop-place.ids.items ≡ ids = c.loop-place.invariant ∙ take_all c.loop-place.place ids (omega arith) in
    in-order ids c.sort.new.self.items (ids_named-distinct (history_of c.args.history.now))
    (subst (λ (z : List Id). IsPermutation z c.sort.new.self.items) all c.in_ok-sort.ensures.permutation) c.in_ok-sort.ensures.sorted
