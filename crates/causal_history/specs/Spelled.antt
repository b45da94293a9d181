-- The values that kept bytes spell.
use Rattle.std.specs.Prelude.{List, ℕ, []}
use Rattle.std.specs.Result.{result_unwrap_or}
use Rattle.group_fields.specs.LayoutReads.{read_whole}
use Rattle.group_fields.specs.Headers.{header}
use Rattle.group_fields.specs.Cards.{card}
use Rattle.group_fields.specs.declared.card.Card.{Card}
use Rattle.group_fields.specs.declared.header.Header.{Header}
use Rattle.group_fields.specs.declared.header.Kind.TheVariants as kinds
use Rattle.group_fields.specs.declared.header.Target.TheVariants as targets

-- what bytes that spell nothing are taken for
abbrev pub no_header : Header
no_header = record {
  set = 0;
  group = record { 0 = record { 0 = [] } };
  sender = record { 0 = record { 0 = [] } };
  seq = 0;
  kind = kinds.Text;
  target = targets.Nothing;
  predecessors = [];
  body = record { 0 = [] };
}

abbrev pub no_card : Card
no_card = record { set = 0; lms_public = []; inviter = record { 0 = record { 0 = [] } }; kem_public = [] }

unfoldable pub header_in : List ℕ → Header
header_in bytes = result_unwrap_or (read_whole header 0 bytes) no_header

unfoldable pub card_spelled : List ℕ → Card
card_spelled bytes = result_unwrap_or (read_whole card 0 bytes) no_card
