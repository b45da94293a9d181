use Rattle.std.proofs.Common.{◌≡◌, List, ℕ, ◌++◌, ◌∷◌, ◌∙◌, ap}
use Rattle.std.proofs.lemmas.Result.{on_ok_weaker}
use Rattle.group_fields.proofs.CardBytes.{spelling_is}
use Rattle.step_records.proofs.write.append_add.Goals as goal

pub returns : goal.returns
returns c =
    let part : c.bytes.result.now ≡ _ = spelling_is c.args.card.now c.bytes.result.now c.bytes.ensures in
    on_ok_weaker c.append_part.result
    (λ is. is ∙ ap (λ (p : List ℕ). c.args.bytes.now.items ++ 3 ∷ (c.args.random.now ++ p)) part)
    c.append_part.ensures
