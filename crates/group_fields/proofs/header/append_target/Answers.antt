use Rattle.std.proofs.Common.{◌≡◌, List, ℕ, length, true, subst}
use Rattle.std.specs.Prelude.{OnOk}
use Rattle.group_fields.specs.Fields.{is_between}
use Rattle.group_fields.specs.Headers.{SuitsKind}
use Rattle.group_fields.specs.Layouts.{counted_ids}
use Rattle.group_fields.specs.declared.ids.Digest.{Digest}
use Rattle.group_fields.specs.LayoutWrites.{Appends}
use Rattle.group_fields.proofs.HeaderBytes.{answer_appended, member_appended, members_appended, taken_answer_appended}
use Rattle.group_fields.proofs.header.append_target.Goals as goal

pub returns-in-Members : goal.returns-in-Members
returns-in-Members c =
    let ids = c.in-Members.ids in
    let suits = subst (SuitsKind c.args.kind) c.in-Members.is c.requires in
    let old = c.args.bytes.now.items in
    let new = c.append_counted_ids.new.bytes.items in
    let one : OnOk c.append_counted_ids.result ((least greatest : ℕ) → is_between least greatest (length ids) ≡ true → Appends (counted_ids least greatest) ids old new) =
    subst (λ (xs : List Digest). OnOk c.append_counted_ids.result ((least greatest : ℕ) → is_between least greatest (length xs) ≡ true → Appends (counted_ids least greatest) xs old new))
    c.as_slice.ensures c.append_counted_ids.ensures.appends in
    rw c.in-Members.is (members_appended old new c.append_counted_ids.result c.args.kind ids suits one)

pub returns-in-Member : goal.returns-in-Member
returns-in-Member c =
    let suits = subst (SuitsKind c.args.kind) c.in-Member.is c.requires in
    rw c.in-Member.is
    (member_appended c.args.bytes.now.items c.append_digest.new.bytes.items c.append_digest.result c.args.kind c.in-Member.id suits c.append_digest.ensures.appends)

pub returns-in-Ack : goal.returns-in-Ack
returns-in-Ack c =
    rw (c.in-Answer.is, c.in-Ack.is)
    (answer_appended c.args.bytes.now.items c.append_flag.new.bytes.items c.append_flag.result c.append_digest-in-Answer.new.bytes.items
    c.in-Answer.id c.in-Answer.took c.in_ok-append_digest-in-Answer.ensures.appends c.append_flag.ensures)

pub returns-in_default : goal.returns-in_default
returns-in_default c =
    let suits = subst (SuitsKind c.args.kind) c.in-Answer.is c.requires in
    rw c.in-Answer.is
    (taken_answer_appended c.args.kind c.args.bytes.now.items c.append_digest-in-Answer.new.bytes.items c.in-Answer.id c.in-Answer.took c.in_default.not-Ack
    suits c.in_ok-append_digest-in-Answer.ensures.appends)
