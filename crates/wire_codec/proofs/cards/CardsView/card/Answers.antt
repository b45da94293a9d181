use Rattle.std.proofs.Common.{◌≡◌, ◌*◌, ◌+◌, ◌-◌, ◌∙◌, ℕ, List, ap, refl, subst, arith, take, drop}
use Rattle.std.specs.Prelude.{Some}
use Rattle.group_fields.specs.Cards.{Spells}
use Rattle.group_fields.specs.declared.card.Card.{Card}
use Rattle.wire_codec.proofs.CardBytes.{card_at}
use Rattle.wire_codec.proofs.cards.CardsView.card.Goals as goal

pub slice_bounds-read_card-end : goal.slice_bounds-read_card-end
slice_bounds-read_card-end c =
    let inside = c.self.inside in
    let at = card_at inside.set inside.count c.args.index c.card_size-size.result inside.bytes.now c.args.self.now c.self.view_is c.self.invariant c.requires c.card_size-size.ensures in
    omega (arith, at.within)

sliced : (one : Card) (from size : ℕ) (bytes : List ℕ) → Spells one (take size (drop from bytes)) → Spells one (take (from + size - from) (drop from bytes))
sliced one from size bytes s = let n : size ≡ from + size - from = omega arith in subst (λ (k : ℕ). Spells one (take k (drop from bytes))) n s

pub unwrap-requires : goal.unwrap-requires
unwrap-requires c =
    let inside = c.self.inside in
    let size = c.card_size-size.result in
    let at = card_at inside.set inside.count c.args.index size inside.bytes.now c.args.self.now c.self.view_is c.self.invariant c.requires c.card_size-size.ensures in
    let is = c.read_card.ensures.only at.one (sliced at.one (c.args.index * size) size inside.bytes.now at.spelled) in
    rw is refl

pub returns : goal.returns
returns c =
    let inside = c.self.inside in
    let size = c.card_size-size.result in
    let at = card_at inside.set inside.count c.args.index size inside.bytes.now c.args.self.now c.self.view_is c.self.invariant c.requires c.card_size-size.ensures in
    let is = c.read_card.ensures.only at.one (sliced at.one (c.args.index * size) size inside.bytes.now at.spelled) in
    let same : at.one ≡ c.unwrap.result = let e = c.unwrap.ensures in cc in
    at.is ∙ ap (λ (one : Card). Some one) same
