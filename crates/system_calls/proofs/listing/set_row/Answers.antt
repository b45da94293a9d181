use Rattle.std.proofs.Common.{◌≡◌, ◌∙◌, Some, ap, rules, string_bytes, bytes_eq, if◌then◌else◌}
use Rattle.std.specs.BTreeMap.{get_by_text}
use Rattle.std.proofs.lemmas.Map.Text.{btree_map_updates_text}
use Rattle.system_calls.proofs.listing.set_row.Goals as goal

pub returns : goal.returns
returns c = λ other.
    let same : string_bytes c.in_ok-from_str.field-0 ≡ c.args.name.now = search rules in
    btree_map_updates_text (string_bytes c.in_ok-from_str.field-0) c.args.rows.now c.insert.new.self _ c.in_ok-insert.ensures.updates other
    ∙ ap (λ name. if bytes_eq name other then Some c.args.entry else get_by_text c.args.rows.now other) same
