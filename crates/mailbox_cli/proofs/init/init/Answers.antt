use Rattle.std.proofs.Common.{◌≡◌, [], ◌∷◌, is_some, true, false, ℕ, List, Result, Ok, refl, sym, ◌∙◌, ap, subst, inl}
use Rattle.std.specs.Option.{option_to_list}
use Rattle.member_journal.specs.Journal.{disk_of}
use Rattle.mailbox_cli.specs.Call.{Devices, Moment, devices, moment}
use Rattle.mailbox_cli.specs.Parts.{Tells}
use Rattle.mailbox_cli.specs.Steps.{Step}
use Rattle.mailbox_cli.specs.Story.{Event, draws, init_story, seed_story}
use Rattle.mailbox_cli.specs.declared.ended.Refusal.TheVariants.{AlreadyMade}
use Rattle.mailbox_cli.proofs.Disks.{Laws}
use Rattle.mailbox_cli.proofs.Making.{init_draws, init_refuses, none_listed}
use Rattle.mailbox_cli.proofs.Telling.{did_draw, fails_draw, refuses_tells, tells_on}
use Rattle.mailbox_cli.proofs.init.init.Goals as goal

pub returns-then-is_some : goal.returns-then-is_some
returns-then-is_some g c =
    let on : Devices _ _ _ _ = devices g.D.Disk g.P.Post g.E.Entropy g.S.Sink in
    let m : Moment _ _ _ _ = moment (disk_of c.args.opened.journal) c.args.post.now c.args.entropy.now c.args.out.now in
    let laws : Laws g.D.Disk = record { shows = g.met.D.Disk.content_is_image; since = g.met.D.Disk.counts_now; only = g.met.D.Disk.only_now } in
    let steps : List Step = option_to_list c.args.opened.member in
    let some : is_some c.args.opened.member ≡ true = cc in
    rw c.close.ensures (refuses_tells on g.K.Kem laws (Ok steps) m c.refuse-ended.result (init_story g.K.Kem c.args.inviter steps) AlreadyMade
    c.refuse-ended.new.out (λ seeds. init_refuses g.K.Kem c.args.inviter c.args.opened.member seeds some) c.refuse-ended.ensures)

pub returns-in-Err : goal.returns-in-Err
returns-in-Err g c =
    let on : Devices _ _ _ _ = devices g.D.Disk g.P.Post g.E.Entropy g.S.Sink in
    let m : Moment _ _ _ _ = moment (disk_of c.args.opened.journal) c.args.post.now c.args.entropy.now c.args.out.now in
    let laws : Laws g.D.Disk = record { shows = g.met.D.Disk.content_is_image; since = g.met.D.Disk.counts_now; only = g.met.D.Disk.only_now } in
    let steps : List Step = option_to_list c.args.opened.member in
    let none : is_some c.args.opened.member ≡ false = cc in
    rw c.close-in-Err.ensures (fails_draw on g.K.Kem laws (Ok steps) m c.in-Err.ended (init_story g.K.Kem c.args.inviter steps) c.draw.new.entropy
    (init_draws g.K.Kem c.args.inviter c.args.opened.member [] none) c.in-Err.ensures.kept c.in-Err.ensures.asked c.in-Err.ensures.cause)

pub returns : goal.returns
returns g c =
    let on : Devices _ _ _ _ = devices g.D.Disk g.P.Post g.E.Entropy g.S.Sink in
    let m : Moment _ _ _ _ = moment (disk_of c.args.opened.journal) c.args.post.now c.args.entropy.now c.args.out.now in
    let mid : Moment _ _ _ _ = moment (disk_of c.args.opened.journal) c.args.post.now c.draw.new.entropy c.args.out.now in
    let last : Moment _ _ _ _ = moment c.make.result.0 c.make.new.post c.make.new.entropy c.make.new.out in
    let laws : Laws g.D.Disk = record { shows = g.met.D.Disk.content_is_image; since = g.met.D.Disk.counts_now; only = g.met.D.Disk.only_now } in
    let steps : List Step = option_to_list c.args.opened.member in
    let none : is_some c.args.opened.member ≡ false = cc in
    let later : List (List ℕ) → List Event = λ seeds. seed_story g.K.Kem c.args.inviter c.in-Ok.random in
    tells_on on g.K.Kem laws (Ok steps) m mid last (draws c.in-Ok.random ∷ [])
    (did_draw on g.K.Kem laws (Ok steps) m c.draw.new.entropy c.in-Ok.random c.in-Ok.ensures.drawn c.in-Ok.ensures.asked c.in-Ok.ensures.counts)
    c.make.result.1 (init_story g.K.Kem c.args.inviter steps) later (λ nine. inl refl)
    (λ seeds. init_draws g.K.Kem c.args.inviter c.args.opened.member (c.in-Ok.random ∷ seeds) none)
    (subst (λ (ss : List Step). Tells g.K.Kem on later (Ok ss) mid last c.make.result.1) (sym (none_listed c.args.opened.member none)) c.make.ensures)
