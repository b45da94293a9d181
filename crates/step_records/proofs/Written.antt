-- The record of an add, by the bytes of its card.
use Rattle.std.proofs.Common.{◌≡◌, ℕ, ◌+◌, length, ap, sym, subst, arith}
use Rattle.std.proofs.lemmas.List.{length-append}
use Rattle.group_fields.specs.Cards.{Spells, spelling}
use Rattle.group_fields.specs.declared.card.Card.{Card}
use Rattle.group_fields.proofs.CardBytes.{spelling_is}
use Rattle.group_model.specs.Sets.{Bytes}
use Rattle.reference_member.specs.Inputs.{input_of}
use Rattle.reference_member.specs.Steps.{record_with}
use Rattle.reference_member.specs.declared.input.Input.{Input}
use Rattle.reference_member.specs.declared.input.Input.TheVariants as inputs

pub add-size : (set : ℕ) (input : Input) (card : Card) (bytes random : Bytes) → input ≡ inputs.Add card → Spells card bytes
    → length random ≡ 32 → 33 + length bytes ≡ length (record_with set random (input_of input))
add-size set input card bytes random is spelled long =
    subst (λ (i : Input). 33 + length bytes ≡ length (record_with set random (input_of i))) (sym is)
    (omega (arith, long, length-append random (spelling card), ap length (spelling_is card bytes spelled)))
