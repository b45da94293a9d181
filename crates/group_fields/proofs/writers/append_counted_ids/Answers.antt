use Rattle.std.proofs.Common.{◌≡◌, ℕ, List, true, length, arith}
use Rattle.std.specs.Int.{w8}
use Rattle.group_fields.specs.Fields.{is_between}
use Rattle.group_fields.specs.LayoutWrites.{Appends}
use Rattle.group_fields.specs.Layouts.{counted_ids}
use Rattle.group_fields.proofs.WriteSteps.{all_kept, counted_ids_appended, none_kept}
use Rattle.group_fields.proofs.writers.append_counted_ids.Goals as goal

pub returns-clause-appends : goal.returns-clause-appends
returns-clause-appends c =
    let ids = c.args.ids.now in
    let old = c.args.bytes.now.items in
    let new = c.append_ids-appended.new.bytes.items in
    let mine = counted_ids_appended ids old c.append_u8.new.bytes.items new c.append_ids-appended.result c.in_ok-append_u8.ensures.appends
    c.append_ids-appended.ensures.appends in
    all_kept (λ (bytes : List ℕ). (least greatest : ℕ) → is_between least greatest (length ids) ≡ true → Appends (counted_ids least greatest) ids old bytes)
    new c.all_or_none.new.bytes.items c.append_ids-appended.result c.all_or_none.result c.all_or_none.ensures.answer c.all_or_none.ensures.all mine

pub returns-clause-same : goal.returns-clause-same
returns-clause-same c =
    none_kept w8 (length c.args.ids.now) c.args.bytes.now.items c.append_u8.new.bytes.items c.append_ids-appended.new.bytes.items
    c.all_or_none.new.bytes.items c.len-before.result c.append_ids-appended.result c.all_or_none.result c.in_ok-append_u8.ensures.appends
    (omega (arith, c.len-before.ensures)) c.all_or_none.ensures.answer c.append_ids-appended.ensures.same c.all_or_none.ensures.none
