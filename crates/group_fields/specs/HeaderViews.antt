-- What the fields that a reader of headers has taken stand for.
use Rattle.group_fields.specs.declared.header.Header.{Header}
use Rattle.group_fields.specs.declared.header.Target.{Target}
use Rattle.group_fields.specs.declared.header.Target.TheVariants as targets
use Rattle.group_fields.specs.declared.header_view.HeaderParts.{HeaderParts}
use Rattle.group_fields.specs.declared.header_view.TargetView.{TargetView}
use Rattle.group_fields.specs.declared.header_view.TargetView.TheVariants as views

-- the target that a view shows
abbrev pub target_of : TargetView → Target
target_of (views.Members ids) = targets.Members ids
target_of views.Nothing = targets.Nothing
target_of (views.Member id) = targets.Member id
target_of (views.Answer id took) = targets.Answer id took

abbrev pub header_of : HeaderParts → Header
header_of parts =
    record {
      set = parts.set;
      group = parts.group;
      sender = parts.sender;
      seq = parts.seq;
      kind = parts.kind;
      target = target_of parts.target;
      predecessors = parts.predecessors;
      body = parts.body;
    }
