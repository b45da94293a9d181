use Rattle.std.proofs.Common.{◌≡◌, List, ℕ, length, subst, sym, arith}
use Rattle.group_fields.specs.LayoutWrites.{Appends}
use Rattle.group_fields.specs.Layouts.{Spells, bytes_of}
use Rattle.mailbox_cli.specs.Steps.{Step, init_record}
use Rattle.mailbox_cli.proofs.Records.{init_appended, init_size}
use Rattle.mailbox_cli.proofs.step.init_record.Goals as goal

abbrev step_made : goal.After-from → Step
step_made c = record { inviter = c.args.inviter.0.0; random = c.args.random.now }

spelled : (c : goal.After-from) → Spells (init_record c.args.set) c.from.result (step_made c)
spelled c =
    let bytes = c.append_bytes.new.bytes.items in
    let long : length c.args.random.now ≡ 32 = omega arith in
    let random : Appends (bytes_of 32) c.args.random.now c.append_digest.new.bytes.items bytes =
    subst (λ (n : ℕ). Appends (bytes_of n) c.args.random.now c.append_digest.new.bytes.items bytes) long c.in_ok-append_bytes.ensures.appends in
    let one = init_appended c.args.set (step_made c) c.new-bytes.result.items c.append_known.new.bytes.items c.append_known-2.new.bytes.items
    c.append_known-3.new.bytes.items c.append_digest.new.bytes.items bytes c.in_ok-append_known.ensures.appends
    c.in_ok-append_known-2.ensures.appends c.in_ok-append_known-3.ensures.appends c.in_ok-append_digest.ensures.appends random in
    let alone = subst (λ (start : List ℕ). Appends (init_record c.args.set) (step_made c) start bytes) c.new-bytes.ensures.items one in
    subst (λ (b : List ℕ). Spells (init_record c.args.set) b (step_made c)) (sym c.from.ensures)
    (subst (λ (b : List ℕ). Spells (init_record c.args.set) b (step_made c)) (sym alone.whole) alone.spelled)

pub returns-clause-spells : goal.returns-clause-spells
returns-clause-spells c = spelled c

pub returns-clause-size : goal.returns-clause-size
returns-clause-size c = init_size c.args.set c.from.result (step_made c) (spelled c)
