use Rattle.group_fields.specs.Headers.{header}
use Rattle.group_fields.proofs.HeaderBytes.{header_plain}
use Rattle.group_fields.proofs.WholeReads.{whole_fault_is, whole_found_is, whole_least_is, whole_only_is}
use Rattle.group_fields.proofs.header_view.read_header.Goals as goal

pub returns-clause-found : goal.returns-clause-found
returns-clause-found c = whole_found_is header c.args.bytes.now c.read_whole_header.result c.read_whole_header.ensures

pub returns-clause-only : goal.returns-clause-only
returns-clause-only c = whole_only_is header c.args.bytes.now c.read_whole_header.result c.read_whole_header.ensures

pub returns-clause-refused : goal.returns-clause-refused
returns-clause-refused c = whole_fault_is header c.args.bytes.now c.read_whole_header.result c.read_whole_header.ensures

pub returns-clause-least : goal.returns-clause-least
returns-clause-least c = whole_least_is header c.args.bytes.now c.read_whole_header.result header_plain c.read_whole_header.ensures
