use Rattle.std.proofs.Common.{◌∙◌, ap, ℕ, arith, inr}
use Rattle.std.specs.Prelude.{Ok, Err}
use Rattle.group_fields.proofs.LayoutLaws.{least, whole_found, whole_read}
use Rattle.wire_codec.specs.Packets.{packet}
use Rattle.wire_codec.specs.Views.{packet_of}
use Rattle.wire_codec.proofs.PacketBytes.{none_refused, the_place}
use Rattle.wire_codec.proofs.packet.PacketView.parse.Goals as goal

pub invariant_of-result : goal.invariant_of-result
invariant_of-result c = record { size = omega arith; spelled = whole_found packet c.args.bytes.now (packet_of c.in-Ok.fields) c.in-Ok.ensures }

pub returns-in-Ok-clause-found : goal.returns-in-Ok-clause-found
returns-in-Ok-clause-found c = record { size = omega arith; spelled = whole_found packet c.args.bytes.now (packet_of c.in-Ok.fields) c.in-Ok.ensures }

pub returns-in-Ok-clause-only : goal.returns-in-Ok-clause-only
returns-in-Ok-clause-only c = λ p is. let mine = c.in-Ok.ensures in let other = whole_read packet c.args.bytes.now p is.spelled in ap Ok cc

pub returns-in-Ok-clause-least : goal.returns-in-Ok-clause-least
returns-in-Ok-clause-least c = λ place is. absurd (none_refused c.args.bytes.now place (packet_of c.in-Ok.fields) (omega arith) c.in-Ok.ensures is)

pub returns-in-Err-clause-only : goal.returns-in-Err-clause-only
returns-in-Err-clause-only c = λ p is. absurd (let mine = c.in-Err.ensures in let other = whole_read packet c.args.bytes.now p is.spelled in cc)

pub returns-in-Err-clause-refused : goal.returns-in-Err-clause-refused
returns-in-Err-clause-refused c = inr (omega arith, (c.in-Err.fault, least packet c.args.bytes.now c.in-Err.fault c.in-Err.ensures, c.place_of.ensures))

pub returns-in-Err-clause-least : goal.returns-in-Err-clause-least
returns-in-Err-clause-least c =
    λ place is. ap (λ (n : ℕ). Err (record { 0 = n })) (c.place_of.ensures ∙ the_place c.args.bytes.now c.in-Err.fault place (omega arith) c.in-Err.ensures is)
