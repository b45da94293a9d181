use Rattle.wire_codec.proofs.parts.+pass_parts.Given as goal

abbrev pub decreases-pass_parts : goal.decreases-pass_parts
decreases-pass_parts l = l.count
