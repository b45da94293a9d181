use Rattle.std.proofs.Common.{List, ℕ, length, sym, subst, arith}
use Rattle.group_fields.specs.Cards.{Spells, card}
use Rattle.group_fields.specs.LayoutWrites.{Appends}
use Rattle.group_fields.specs.Layouts.{bytes_of}
use Rattle.group_fields.proofs.CardBytes.{fields_appended, spelled, spelling_is}
use Rattle.group_fields.proofs.card.write_card.Goals as goal

whole : (c : goal.After-from) → Spells c.args.card.now c.from.result
whole c =
    let value = c.args.card.now in
    let bytes = c.append_bytes-2.new.bytes.items in
    let kem : Appends (bytes_of (length value.kem_public)) value.kem_public c.append_digest.new.bytes.items bytes =
    subst (λ (part : List ℕ). Appends (bytes_of (length part)) part c.append_digest.new.bytes.items bytes) c.as_slice.ensures
    c.in_ok-append_bytes-2.ensures.appends in
    let one = fields_appended value c.new-bytes.result.items c.append_known.new.bytes.items c.append_known-2.new.bytes.items
    c.append_u8.new.bytes.items c.append_bytes.new.bytes.items c.append_digest.new.bytes.items bytes c.requires (omega arith)
    c.in_ok-append_known.ensures.appends c.in_ok-append_known-2.ensures.appends c.in_ok-append_u8.ensures.appends
    c.in_ok-append_bytes.ensures.plain c.in_ok-append_digest.ensures.appends kem in
    subst (Spells value) (sym c.from.ensures)
    (spelled value bytes (subst (λ (start : List ℕ). Appends card value start bytes) c.new-bytes.ensures.items one))

pub returns-clause-whole : goal.returns-clause-whole
returns-clause-whole c = spelling_is c.args.card.now c.from.result (whole c)

pub returns-clause-spells : goal.returns-clause-spells
returns-clause-spells c = whole c
