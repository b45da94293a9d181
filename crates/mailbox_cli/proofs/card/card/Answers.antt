use Rattle.std.proofs.Common.{◌≡◌, [], ◌∷◌, true, ℕ, List, Option, None, Some, Ok, IfSome, refl, sym, ◌∙◌, ap, subst, inl, inr}
use Rattle.std.specs.Option.{option_to_list}
use Rattle.sha2.specs.Sha256.{sha256}
use Rattle.member_journal.specs.Journal.{disk_of}
use Rattle.mailbox_cli.specs.Call.{Devices, Moment, devices, moment}
use Rattle.mailbox_cli.specs.Lines.{card_line}
use Rattle.mailbox_cli.specs.Steps.{Step, has_key}
use Rattle.mailbox_cli.specs.Story.{Event, puts, says, card_story, puts_card, file_name, steps_after}
use Rattle.mailbox_cli.specs.declared.ended.Refusal.TheVariants.{NotMade}
use Rattle.mailbox_cli.proofs.Disks.{Laws}
use Rattle.mailbox_cli.proofs.Making.{card_there, card_puts, card_refuses}
use Rattle.mailbox_cli.proofs.Telling.{did_put, fails_put, lacks_memory, refuses_tells, says_tells, tells_on}
use Rattle.mailbox_cli.proofs.card.card.Goals as goal

pub returns-in_default : goal.returns-in_default
returns-in_default g c =
    let on : Devices _ _ _ _ = devices g.D.Disk g.P.Post g.E.Entropy g.S.Sink in
    let m : Moment _ _ _ _ = moment (disk_of c.args.opened.journal) c.args.post.now c.args.entropy.now c.args.out.now in
    let laws : Laws g.D.Disk = record { shows = g.met.D.Disk.content_is_image; since = g.met.D.Disk.counts_now; only = g.met.D.Disk.only_now } in
    let none : c.args.opened.member ≡ None = cc in
    rw c.close-disk.ensures (refuses_tells on g.K.Kem laws (Ok (option_to_list c.args.opened.member)) m c.refuse.result
    (λ seeds. card_story g.K.Kem (option_to_list c.args.opened.member)) NotMade c.refuse.new.out
    (λ seeds. card_refuses g.K.Kem c.args.opened.member none) c.refuse.ensures)

pub returns-in-Err : goal.returns-in-Err
returns-in-Err g c =
    let on : Devices _ _ _ _ = devices g.D.Disk g.P.Post g.E.Entropy g.S.Sink in
    let m : Moment _ _ _ _ = moment (disk_of c.args.opened.journal) c.args.post.now c.args.entropy.now c.args.out.now in
    let laws : Laws g.D.Disk = record { shows = g.met.D.Disk.content_is_image; since = g.met.D.Disk.counts_now; only = g.met.D.Disk.only_now } in
    let step : Step = c.in-Some.member in
    let usable : has_key g.K.Kem step.random ≡ true = subst (λ (o : Option Step). IfSome o (λ member. has_key g.K.Kem member.random ≡ true)) c.in-Some.is c.requires.usable in
    let there = card_there g.K.Kem step usable in
    rw c.close-disk.ensures (lacks_memory on g.K.Kem laws (Ok (option_to_list c.args.opened.member)) m _
    (λ seeds. card_story g.K.Kem (option_to_list c.args.opened.member)) (puts_card (Some there.0))
    (card_puts g.K.Kem c.args.opened.member step there.0 c.in-Some.is there.1) refl (inr (refl, refl)) refl)

pub returns-in-Err-put : goal.returns-in-Err-put
returns-in-Err-put g c =
    let on : Devices _ _ _ _ = devices g.D.Disk g.P.Post g.E.Entropy g.S.Sink in
    let m : Moment _ _ _ _ = moment (disk_of c.args.opened.journal) c.args.post.now c.args.entropy.now c.args.out.now in
    let laws : Laws g.D.Disk = record { shows = g.met.D.Disk.content_is_image; since = g.met.D.Disk.counts_now; only = g.met.D.Disk.only_now } in
    let card : List ℕ = c.in-Ok.file.card in
    let name : c.as_str.result.now ≡ file_name card = c.as_str.ensures.value ∙ c.in-Ok.ensures.name in
    let later : List Event = says (card_line (sha256 card)) in
    rw c.close-disk.ensures (fails_put on g.K.Kem laws (Ok (option_to_list c.args.opened.member)) m c.in-Err-put.ended
    (λ seeds. card_story g.K.Kem (option_to_list c.args.opened.member)) c.put.new.post c.as_str.result.now c.as_slice.result.now later
    (card_puts g.K.Kem c.args.opened.member c.in-Some.member card c.in-Some.is c.in-Ok.ensures.card
    ∙ (λ i. puts (sym name i) (sym c.as_slice.ensures i) ∷ later))
    c.in-Err-put.ensures.others c.in-Err-put.ensures.failed c.in-Err-put.ensures.cause)

pub returns : goal.returns
returns g c =
    let on : Devices _ _ _ _ = devices g.D.Disk g.P.Post g.E.Entropy g.S.Sink in
    let m : Moment _ _ _ _ = moment (disk_of c.args.opened.journal) c.args.post.now c.args.entropy.now c.args.out.now in
    let mid : Moment _ _ _ _ = moment (disk_of c.args.opened.journal) c.put.new.post c.args.entropy.now c.args.out.now in
    let last : Moment _ _ _ _ = moment (disk_of c.args.opened.journal) c.put.new.post c.args.entropy.now c.say.new.out in
    let laws : Laws g.D.Disk = record { shows = g.met.D.Disk.content_is_image; since = g.met.D.Disk.counts_now; only = g.met.D.Disk.only_now } in
    let steps : List Step = option_to_list c.args.opened.member in
    let card : List ℕ = c.in-Ok.file.card in
    let name : c.as_str.result.now ≡ file_name card = c.as_str.ensures.value ∙ c.in-Ok.ensures.name in
    let line : c.as_bytes.result.now ≡ card_line (sha256 card) = c.as_bytes.ensures.value ∙ c.in-Ok.ensures.line in
    let later : List Event = says c.as_bytes.result.now in
    rw c.close-disk.ensures (tells_on on g.K.Kem laws (Ok steps) m mid last (puts c.as_str.result.now c.as_slice.result.now ∷ [])
    (did_put on g.K.Kem laws (Ok steps) m c.put.new.post c.as_str.result.now c.as_slice.result.now c.in-Ok-put.ensures.files c.in-Ok-put.ensures.seen
    c.in-Ok-put.ensures.counts) c.say.result (λ seeds. card_story g.K.Kem steps) (λ seeds. later) (λ nine. inl refl)
    (λ seeds. card_puts g.K.Kem c.args.opened.member c.in-Some.member card c.in-Some.is c.in-Ok.ensures.card
    ∙ (λ i. puts (sym name i) (sym c.as_slice.ensures i) ∷ says (sym line i)))
    (says_tells on g.K.Kem laws (Ok steps) mid c.say.result (λ seeds. later) c.as_bytes.result.now 0 None c.say.new.out (λ seeds. refl) refl c.say.ensures))
