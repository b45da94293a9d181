use Rattle.std.proofs.Common.{◌≡◌, ◌∙◌, ◌+◌, List, [], ◌∷◌, ◌++◌, ap, sym, take, arith}
use Rattle.std.proofs.lemmas.List.{take_all, take_more}
use Rattle.std.proofs.lemmas.Option.{get_or_from_slice_get, slice_get_within}
use Rattle.group_fields.specs.declared.ids.Digest.{Digest}
use Rattle.group_fields.proofs.ids_view.IdsView.to_ids.Goals as goal

pub loop-index-preserved : goal.loop-index-preserved
loop-index-preserved c =
    let all = c.args.self.now in
    let at = c.loop-index.index in
    let id = c.id.result in
    let next : take (at + 1) all ≡ take at all ++ id ∷ [] =
    take_more all at id (slice_get_within all at id c.id.ensures)
    ∙ ap (λ (d : Digest). take at all ++ d ∷ []) (get_or_from_slice_get all at id id c.id.ensures) in
    c.in_ok-push.ensures.ok ∙ ap (λ (ids : List Digest). ids ++ id ∷ []) c.loop-index.invariant ∙ sym next

pub returns : goal.returns
returns c =
    c.loop-index.invariant ∙ take_all c.loop-index.index c.args.self.now (omega (arith, c.count-index-end.ensures, c.loop-index-test.false))
