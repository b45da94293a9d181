use Rattle.std.proofs.Common.{length, ◌∙◌, ap}
use Rattle.group_fields.specs.Cards.{key_size}
use Rattle.group_fields.proofs.CardBytes.{spelled_has}
use Rattle.causal_cast.proofs.CardFacts.{key-room}
use Rattle.welcome_history.proofs.row_held.inviter_in.Goals as goal

-- a card of the set has a key of its size
pub public_ok-requires : goal.public_ok-requires
public_ok-requires g c =
    let spelled = spelled_has c.args.card.now _ c.bytes-bytes.ensures in
    ap length c.kem_public.ensures ∙ spelled.kem_public ∙ ap key_size c.requires
    ∙ key-room g.K.Kem.SET g.K.Kem.PUBLIC_LEN g.K.Kem.SECRET_LEN g.K.Kem.CIPHER_LEN g.K.Kem.has_set_lengths
