use Rattle.std.proofs.Common.{ap, ◌∙◌, subst}
use Rattle.group_fields.specs.Layouts.{Spells}
use Rattle.wire_codec.specs.Packets as packets
use Rattle.next_messages.proofs.laws.headers_and_bodies_are_the_next.Goals as goal

pub returns : goal.returns
returns g c = λ rule M t cards kind target made addressees header digest body to_whom new. record {
  set = header.set;
  group = header.group;
  sender = header.sender;
  seq = header.seq;
  kind_is = header.kind_is;
  target_is = header.target_is;
  predecessors = header.predecessors;
  digest = digest;
  spelled = subst (λ z. Spells z made.body made.carried)
      (ap (λ k. packets.body g.K.Kem.SET k made.header.target) header.kind_is ∙ ap (packets.body g.K.Kem.SET kind) header.target_is)
      body.spelled;
  cards_are = body.cards_are;
  addressees = addressees;
  to_whom = to_whom;
  parts = body.parts;
  written = body.written;
  handed_on = body.handed_on;
  text = body.text;
  new = new;
}
