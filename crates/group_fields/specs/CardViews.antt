-- What the fields that a reader of cards has taken stand for.
use Rattle.group_fields.specs.declared.card.Card.{Card}
use Rattle.group_fields.specs.declared.card_view.CardParts.{CardParts}

abbrev pub card_of : CardParts → Card
card_of parts =
    record {
      set = parts.set;
      lms_public = parts.lms_public.now;
      inviter = parts.inviter;
      kem_public = parts.kem_public.now;
    }
