-- What a member is given for a step, as the steps have it.
use Rattle.reference_member.specs.Steps as steps
use Rattle.reference_member.specs.declared.input.Input.{Input}
use Rattle.reference_member.specs.declared.input.Input.TheVariants as inputs

abbrev pub input_of : Input → steps.Input
input_of (inputs.Init inviter height) = steps.Init inviter.0.0 height
input_of (inputs.Create cards) = steps.Create cards.now
input_of (inputs.Add card) = steps.Add card
input_of (inputs.Remove target) = steps.Remove target.0.0
input_of inputs.Update = steps.Update
input_of (inputs.Send text) = steps.Send text.now
input_of (inputs.Packet packet) = steps.Take packet.now
