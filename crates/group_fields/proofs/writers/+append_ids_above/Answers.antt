use Rattle.std.proofs.Common.{◌≡◌, [], List, length, sym, subst, arith}
use Rattle.group_fields.specs.LayoutWrites.{Appends}
use Rattle.group_fields.specs.Layouts.{ids_above}
use Rattle.group_fields.specs.declared.ids.Digest.{Digest}
use Rattle.group_fields.proofs.WriteSteps.{all_kept, ids_appended, no_ids, no_ids_appended}
use Rattle.group_fields.proofs.writers.+append_ids_above.Goals as goal

pub returns-in_default-clause-appends : goal.returns-in_default-clause-appends
returns-in_default-clause-appends t c =
    let none : c.args.ids.now ≡ [] = no_ids c.args.ids.now c.in_default.len_below in
    subst (λ (ids : List Digest). Appends (ids_above (length ids) c.args.last) ids c.args.bytes.now.items c.args.bytes.now.items) (sym none)
    (no_ids_appended c.args.last c.args.bytes.now.items)

pub returns-clause-appends : goal.returns-clause-appends
returns-clause-appends t c =
    let ids = c.args.ids.now in
    let mine = ids_appended c.args.last ids _ c.args.bytes.now.items c.append_digest.new.bytes.items c.append_ids_above-appended.new.bytes.items
    c.append_ids_above-appended.result (omega arith) c.requires c.in_ok-append_digest.ensures.above c.append_ids_above-appended.ensures.appends in
    all_kept (Appends (ids_above (length ids) c.args.last) ids c.args.bytes.now.items) c.append_ids_above-appended.new.bytes.items
    c.all_or_none.new.bytes.items c.append_ids_above-appended.result c.all_or_none.result c.all_or_none.ensures.answer c.all_or_none.ensures.all mine
