use Rattle.std.proofs.Common.{◌∙◌, refl}
use Rattle.group_fields.specs.Headers.{header}
use Rattle.group_fields.specs.LayoutReads.{read}
use Rattle.group_fields.proofs.header_view.take_parts.Goals as goal

pub returns-clause-takes : goal.returns-clause-takes
unfolding header read
returns-clause-takes c =
    record {
      gives = rw (c.in_ok-take_known.ensures.takes.gives, c.in_ok-take_known-2.ensures.takes.gives, c.in_ok-set.ensures.takes.gives, c.in_ok-group.ensures.takes.gives, c.in_ok-sender.ensures.takes.gives, c.in_ok-seq.ensures.takes.gives, c.in_ok-kind.ensures.takes.gives, c.in_ok-target.ensures.takes.gives, c.in_ok-predecessors.ensures.takes.gives, c.in_ok-body.ensures.takes.gives) refl;
      same = c.in_ok-body.ensures.takes.same ∙ c.in_ok-predecessors.ensures.takes.same ∙ c.in_ok-target.ensures.takes.same ∙ c.in_ok-kind.ensures.takes.same ∙ c.in_ok-seq.ensures.takes.same ∙ c.in_ok-sender.ensures.takes.same ∙ c.in_ok-group.ensures.takes.same ∙ c.in_ok-set.ensures.takes.same ∙ c.in_ok-take_known-2.ensures.takes.same ∙ c.in_ok-take_known.ensures.takes.same;
      within = c.in_ok-body.ensures.takes.within;
    }
