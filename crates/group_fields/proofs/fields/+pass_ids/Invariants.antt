use Rattle.group_fields.proofs.fields.+pass_ids.Given as goal

abbrev pub decreases-pass_ids : goal.decreases-pass_ids
decreases-pass_ids l = l.count
