use Rattle.std.proofs.Common.{◌≡◌, List, ℕ, length, true, sym, subst, arith}
use Rattle.group_fields.specs.Fields.{is_between}
use Rattle.group_fields.specs.Headers.{Spells, header}
use Rattle.group_fields.specs.LayoutWrites.{Appends}
use Rattle.group_fields.specs.Layouts.{counted_ids}
use Rattle.group_fields.specs.declared.ids.Digest.{Digest}
use Rattle.group_fields.proofs.HeaderBytes.{fields_appended, spelled, spelling_is}
use Rattle.group_fields.proofs.header.write_header.Goals as goal

whole : (c : goal.After-from) → Spells c.args.header.now c.from.result
whole c =
    let value = c.args.header.now in
    let with_target = c.append_target.new.bytes.items in
    let with_ids = c.append_counted_ids.new.bytes.items in
    let bytes = c.append_digest-3.new.bytes.items in
    let ids : (least greatest : ℕ) → is_between least greatest (length value.predecessors) ≡ true → Appends (counted_ids least greatest) value.predecessors with_target with_ids =
    subst (λ (xs : List Digest). (least greatest : ℕ) → is_between least greatest (length xs) ≡ true → Appends (counted_ids least greatest) xs with_target with_ids)
    c.as_slice.ensures c.in_ok-append_counted_ids.ensures.appends in
    let one = fields_appended value c.new-bytes.result.items c.append_known.new.bytes.items c.append_known-2.new.bytes.items
    c.append_u8.new.bytes.items c.append_digest.new.bytes.items c.append_digest-2.new.bytes.items c.append_u32.new.bytes.items
    c.append_kind.new.bytes.items with_target with_ids bytes c.requires (omega arith)
    c.in_ok-append_known.ensures.appends c.in_ok-append_known-2.ensures.appends c.in_ok-append_u8.ensures.appends
    c.in_ok-append_digest.ensures.appends c.in_ok-append_digest-2.ensures.appends c.in_ok-append_u32.ensures.appends
    c.in_ok-append_kind.ensures c.in_ok-append_target.ensures ids c.in_ok-append_digest-3.ensures.appends in
    subst (Spells value) (sym c.from.ensures)
    (spelled value bytes (subst (λ (start : List ℕ). Appends header value start bytes) c.new-bytes.ensures.items one))

pub returns-clause-whole : goal.returns-clause-whole
returns-clause-whole c = spelling_is c.args.header.now c.from.result (whole c)

pub returns-clause-spells : goal.returns-clause-spells
returns-clause-spells c = whole c
