use Rattle.std.proofs.Common.{List, ℕ, length, subst, arith}
use Rattle.std.proofs.lemmas.Result.{on_ok_weaker}
use Rattle.group_fields.specs.Cards.{spelling}
use Rattle.group_fields.specs.LayoutWrites.{Appends}
use Rattle.group_fields.specs.Layouts.{bytes_of}
use Rattle.group_fields.proofs.CardBytes.{fields_appended, spelled_has}
use Rattle.step_records.proofs.CardBytes.{card-appended}
use Rattle.step_records.proofs.cards.append_card.Goals as goal

pub returns : goal.returns
returns c =
    let card = c.args.card.now in
    let old = c.args.bytes.now.items in
    let new = c.append_bytes-2.new.bytes.items in
    let before = c.append_digest.new.bytes.items in
    on_ok_weaker c.append_bytes-2.result
    (λ (key : Appends (bytes_of (length c.as_slice.result.now)) c.as_slice.result.now before new).
    let kem = subst (λ (part : List ℕ). Appends (bytes_of (length part)) part before new) c.as_slice.ensures key in
    card-appended card old new
    (fields_appended card old c.append_known.new.bytes.items c.append_known-2.new.bytes.items c.append_u8.new.bytes.items
    c.append_bytes.new.bytes.items before new (spelled_has card (spelling card) c.requires) (omega arith)
    c.in_ok-append_known.ensures.appends c.in_ok-append_known-2.ensures.appends c.in_ok-append_u8.ensures.appends
    c.in_ok-append_bytes.ensures.plain c.in_ok-append_digest.ensures.appends kem))
    c.append_bytes-2.ensures.appends
