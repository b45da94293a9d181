use Rattle.std.proofs.Common.{length, sym, ◌∙◌, ap}
use Rattle.group_fields.specs.Cards.{key_size}
use Rattle.group_fields.proofs.CardBytes.{spelled_has}
use Rattle.member_checks.proofs.facts.facts_of_view.Goals as goal

-- a card that bytes spell has a key of its size
pub fault-requires : goal.fault-requires
fault-requires g c =
    ap length c.kem_public.ensures ∙ (spelled_has c.args.card.now _ c.bytes-bytes.ensures).kem_public
    ∙ ap key_size (sym c.set.ensures)
