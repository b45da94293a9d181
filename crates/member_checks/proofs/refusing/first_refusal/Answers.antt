use Rattle.std.proofs.Common.{Some, inl, refl}
use Rattle.reference_member.specs.declared.input.Input.TheVariants as inputs
use Rattle.reference_member.specs.declared.refusal.Refusal.TheVariants as refusals
use Rattle.member_checks.proofs.InputStages.{by-input, ok-then}
use Rattle.member_checks.proofs.refusing.first_refusal.Goals as goal

pub returns-in-Init : goal.returns-in-Init
returns-in-Init g c = λ M is. by-input g.K.Kem g.G.Membership.rule M c.args.input.now
    (inputs.Init c.in-Init.field-0 c.in-Init.field-1) c.in-Init.is (Some refusals.AlreadyMade) (inl (tt, refl))

pub returns-in-Create : goal.returns-in-Create
returns-in-Create g c = ok-then c.create_refusal.result
    (λ answer x M is. by-input g.K.Kem g.G.Membership.rule M c.args.input.now (inputs.Create c.in-Create.cards)
    c.in-Create.is answer (x M is)) c.create_refusal.ensures

pub returns-in-Add : goal.returns-in-Add
returns-in-Add g c = λ M is. by-input g.K.Kem g.G.Membership.rule M c.args.input.now (inputs.Add c.in-Add.card)
    c.in-Add.is c.add_refusal.result (c.add_refusal.ensures M is)

pub returns-in-Remove : goal.returns-in-Remove
returns-in-Remove g c = λ M is. by-input g.K.Kem g.G.Membership.rule M c.args.input.now
    (inputs.Remove c.in-Remove.target) c.in-Remove.is c.remove_refusal.result (c.remove_refusal.ensures M is)

pub returns-in-Update : goal.returns-in-Update
returns-in-Update g c = λ M is. by-input g.K.Kem g.G.Membership.rule M c.args.input.now inputs.Update
    c.in-Update.is c.update_refusal.result (c.update_refusal.ensures M is)

pub returns-in-Send : goal.returns-in-Send
returns-in-Send g c = λ M is. by-input g.K.Kem g.G.Membership.rule M c.args.input.now (inputs.Send c.in-Send.text)
    c.in-Send.is c.send_refusal.result (c.send_refusal.ensures M is)

pub returns-in-Packet : goal.returns-in-Packet
returns-in-Packet g c = ok-then c.packet_refusal.result
    (λ answer x M is. by-input g.K.Kem g.G.Membership.rule M c.args.input.now (inputs.Packet c.in-Packet.packet)
    c.in-Packet.is answer (x M is)) c.packet_refusal.ensures
