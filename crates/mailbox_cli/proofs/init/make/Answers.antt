use Rattle.std.proofs.Common.{◌≡◌, [], ◌∷◌, is_some, ℕ, List, None, Ok, refl, sym, ap, subst, inr, rules}
use Rattle.group_fields.specs.Layouts.{Spells}
use Rattle.member_identity.specs.Identity.{secret_from}
use Rattle.member_journal.specs.Journal.{disk_of}
use Rattle.mailbox_cli.specs.Call.{Devices, Moment, devices, moment}
use Rattle.mailbox_cli.specs.Lines.{made_line}
use Rattle.mailbox_cli.specs.Opening.{IsNext}
use Rattle.mailbox_cli.specs.Steps.{Step, init_record}
use Rattle.mailbox_cli.specs.Story.{plans, says, init_step, seed_story, steps_after}
use Rattle.mailbox_cli.specs.declared.ended.Refusal.TheVariants.{NoUsableKey}
use Rattle.mailbox_cli.proofs.Disks.{Laws}
use Rattle.mailbox_cli.proofs.Making.{init_next, seed_lacks, seed_plans, seed_refuses}
use Rattle.mailbox_cli.proofs.Telling.{did_plan, fails_plan, lacks_memory, refuses_tells, says_tells, says_want, tells_on}
use Rattle.mailbox_cli.proofs.init.make.Goals as goal

pub returns-in-Err-Memory : goal.returns-in-Err-Memory
returns-in-Err-Memory g c =
    let on : Devices _ _ _ _ = devices g.D.Disk g.P.Post g.E.Entropy g.S.Sink in
    let m : Moment _ _ _ _ = moment (disk_of c.args.journal) c.args.post.now c.args.entropy.now c.args.out.now in
    let laws : Laws g.D.Disk = record { shows = g.met.D.Disk.content_is_image; since = g.met.D.Disk.counts_now; only = g.met.D.Disk.only_now } in
    let left = seed_lacks g.K.Kem c.args.inviter c.args.random.now _ (refl, refl) (on.entropy.asked m.entropy) in
    rw c.close.ensures (lacks_memory on g.K.Kem laws (Ok []) m _ (λ seeds. seed_story g.K.Kem c.args.inviter c.args.random.now)
    (seed_story g.K.Kem c.args.inviter c.args.random.now) refl left.0 left.1 refl)

pub returns-in-Err-NoUsableKey : goal.returns-in-Err-NoUsableKey
returns-in-Err-NoUsableKey g c =
    let on : Devices _ _ _ _ = devices g.D.Disk g.P.Post g.E.Entropy g.S.Sink in
    let m : Moment _ _ _ _ = moment (disk_of c.args.journal) c.args.post.now c.args.entropy.now c.args.out.now in
    let laws : Laws g.D.Disk = record { shows = g.met.D.Disk.content_is_image; since = g.met.D.Disk.counts_now; only = g.met.D.Disk.only_now } in
    let none : secret_from g.K.Kem c.args.random.now ≡ None = search rules in
    rw c.close-in-Err-NoUsableKey.ensures (refuses_tells on g.K.Kem laws (Ok []) m c.refuse-ended.result
    (λ seeds. seed_story g.K.Kem c.args.inviter c.args.random.now) NoUsableKey c.refuse-ended.new.out
    (λ seeds. seed_refuses g.K.Kem c.args.inviter c.args.random.now (ap is_some none)) c.refuse-ended.ensures)

pub returns-in-Err : goal.returns-in-Err
returns-in-Err g c =
    let on : Devices _ _ _ _ = devices g.D.Disk g.P.Post g.E.Entropy g.S.Sink in
    let m : Moment _ _ _ _ = moment (disk_of c.args.journal) c.args.post.now c.args.entropy.now c.args.out.now in
    let laws : Laws g.D.Disk = record { shows = g.met.D.Disk.content_is_image; since = g.met.D.Disk.counts_now; only = g.met.D.Disk.only_now } in
    let step : Step = init_step c.args.inviter c.args.random.now in
    let spelled = subst (λ (bytes : List ℕ). Spells (init_record g.K.Kem.SET) bytes step) (sym c.as_slice.ensures) c.in-Ok.ensures.spells in
    let next : IsNext g.K.Kem c.args.journal c.as_slice.result.now [] step = init_next g.K.Kem c.args.journal c.as_slice.result.now step c.requires spelled
    c.in-Ok.ensures.usable in
    fails_plan on g.K.Kem laws (Ok []) m c.in-Err.ended (λ seeds. seed_story g.K.Kem c.args.inviter c.args.random.now) c.in-Err.disk step (says made_line)
    (seed_plans g.K.Kem c.args.inviter c.args.random.now c.in-Ok.ensures.usable)
    (λ told reads. c.in-Err.ensures.stops told [] step (says made_line) next) c.in-Err.ensures.cause

pub returns : goal.returns
returns g c =
    let on : Devices _ _ _ _ = devices g.D.Disk g.P.Post g.E.Entropy g.S.Sink in
    let m : Moment _ _ _ _ = moment (disk_of c.args.journal) c.args.post.now c.args.entropy.now c.args.out.now in
    let laws : Laws g.D.Disk = record { shows = g.met.D.Disk.content_is_image; since = g.met.D.Disk.counts_now; only = g.met.D.Disk.only_now } in
    let step : Step = init_step c.args.inviter c.args.random.now in
    let spelled = subst (λ (bytes : List ℕ). Spells (init_record g.K.Kem.SET) bytes step) (sym c.as_slice.ensures) c.in-Ok.ensures.spells in
    let next : IsNext g.K.Kem c.args.journal c.as_slice.result.now [] step = init_next g.K.Kem c.args.journal c.as_slice.result.now step c.requires spelled
    c.in-Ok.ensures.usable in
    let mid : Moment _ _ _ _ = moment (disk_of c.in-Ok-commit.journal) c.args.post.now c.args.entropy.now c.args.out.now in
    let last : Moment _ _ _ _ = moment (disk_of c.in-Ok-commit.journal) c.args.post.now c.args.entropy.now c.say-ended.new.out in
    rw c.close-in-Ok-commit.ensures (tells_on on g.K.Kem laws (Ok []) m mid last (plans step ∷ [])
    (did_plan on g.K.Kem laws (Ok []) m (disk_of c.in-Ok-commit.journal) step (λ told reads. c.in-Ok-commit.ensures.did told [] step next) c.in-Ok-commit.ensures.counts)
    c.say-ended.result (λ seeds. seed_story g.K.Kem c.args.inviter c.args.random.now) (λ seeds. says made_line)
    (λ nine. inr (says_want on g.K.Kem laws mid c.say-ended.result made_line 0 None c.say-ended.new.out refl c.say-ended.ensures nine))
    (λ seeds. seed_plans g.K.Kem c.args.inviter c.args.random.now c.in-Ok.ensures.usable)
    (says_tells on g.K.Kem laws (steps_after (Ok []) (plans step ∷ [])) mid c.say-ended.result (λ seeds. says made_line) made_line 0 None c.say-ended.new.out
    (λ seeds. refl) refl c.say-ended.ensures))
