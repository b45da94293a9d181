-- What kept bytes spell.
use Rattle.std.proofs.Common.{◌≡◌, ℕ, List, ap}
use Rattle.std.specs.Result.{result_unwrap_or}
use Rattle.group_fields.specs.Cards as card_words
use Rattle.group_fields.specs.Headers as header_words
use Rattle.group_fields.specs.declared.card.Card.{Card}
use Rattle.group_fields.specs.declared.header.Header.{Header}
use Rattle.group_fields.proofs.LayoutLaws.{whole_read}
use Rattle.causal_history.specs.Spelled.{header_in, no_header, card_spelled, no_card}

pub header_in-is : (bytes : List ℕ) (h : Header) → header_words.Spells h bytes → header_in bytes ≡ h
unfolding header_in
header_in-is bytes h s = ap (λ r. result_unwrap_or r no_header) (whole_read header_words.header bytes h s)

pub card_spelled-is : (bytes : List ℕ) (c : Card) → card_words.Spells c bytes → card_spelled bytes ≡ c
unfolding card_spelled
card_spelled-is bytes c s = ap (λ r. result_unwrap_or r no_card) (whole_read card_words.card bytes c s)
