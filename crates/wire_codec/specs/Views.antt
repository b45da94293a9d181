-- What views of packets stand for.
use Rattle.std.specs.Prelude.{Some, None, List, [], ◌∷◌}
use Rattle.wire_codec.specs.Packets.{AddressedPart, Body, Packet, Sealed}
use Rattle.wire_codec.specs.declared.body.BodyView.{BodyView}
use Rattle.wire_codec.specs.declared.body.BodyView.TheVariants as bodies
use Rattle.wire_codec.specs.declared.body.CreateView.{CreateView}
use Rattle.wire_codec.specs.declared.body.WelcomeView.{WelcomeView}
use Rattle.wire_codec.specs.declared.packet.PacketFields.{PacketFields}
use Rattle.wire_codec.specs.declared.text.TextView.{TextView}

abbrev pub sealed_of : TextView → Sealed
sealed_of view = record { body = view.body.now; tag = view.tag.now }

-- the body of a create
abbrev pub created : CreateView → Body
created view = record { cards = view.cards; parts = view.parts; history = None; text = None }

-- the body of an add
abbrev pub welcome_of : WelcomeView → Body
welcome_of view =
    record {
      cards = view.card ∷ [];
      parts = record { to = view.to; bytes = view.part.now } ∷ [];
      history = Some view.history;
      text = None;
    }

-- the body that has parts alone
abbrev pub parts_seen : List AddressedPart → Body
parts_seen parts = record { cards = []; parts = parts; history = None; text = None }

-- the body of a text
abbrev pub text_seen : TextView → Body
text_seen view = record { cards = []; parts = []; history = None; text = Some (sealed_of view) }

-- the body that a view shows
abbrev pub body_seen : BodyView → Body
body_seen (bodies.Create view) = created view
body_seen (bodies.Parts parts) = parts_seen parts
body_seen (bodies.Add view) = welcome_of view
body_seen (bodies.Text view) = text_seen view

-- the packet whose fields a reader has taken
abbrev pub packet_of : PacketFields → Packet
packet_of fields =
    let carried = body_seen fields.body in
    record {
      header = fields.header;
      cards = carried.cards;
      parts = carried.parts;
      history = carried.history;
      text = carried.text;
      signature = fields.signature.now;
    }
