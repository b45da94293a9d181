use Rattle.std.proofs.Common.{◌≡◌, ℕ, List, Ok, sym, ap, subst}
use Rattle.std.specs.Option.{option_to_list}
use Rattle.member_journal.specs.Journal.{disk_of}
use Rattle.mailbox_cli.specs.Call.{devices, moment}
use Rattle.mailbox_cli.specs.Parts.{Tells}
use Rattle.mailbox_cli.specs.Story.{Event, command_story}
use Rattle.mailbox_cli.specs.declared.command.Command.{Command}
use Rattle.mailbox_cli.proofs.run.carry_out.Goals as goal

pub returns-in-Init : goal.returns-in-Init
returns-in-Init g c =
    subst (λ (command : Command). Tells g.K.Kem (devices g.D.Disk g.P.Post g.E.Entropy g.S.Sink)
    (command_story g.K.Kem command (option_to_list c.args.opened.member) (g.P.Post.files c.args.post.now)) (Ok (option_to_list c.args.opened.member))
    (moment (disk_of c.args.opened.journal) c.args.post.now c.args.entropy.now c.args.out.now)
    (moment c.init.result.0 c.init.new.post c.init.new.entropy c.init.new.out) c.init.result.1) (sym c.in-Init.is) c.init.ensures

pub returns-in-Card : goal.returns-in-Card
returns-in-Card g c =
    subst (λ (command : Command). Tells g.K.Kem (devices g.D.Disk g.P.Post g.E.Entropy g.S.Sink)
    (command_story g.K.Kem command (option_to_list c.args.opened.member) (g.P.Post.files c.args.post.now)) (Ok (option_to_list c.args.opened.member))
    (moment (disk_of c.args.opened.journal) c.args.post.now c.args.entropy.now c.args.out.now)
    (moment c.card.result.0 c.card.new.post c.card.new.entropy c.card.new.out) c.card.result.1) (sym c.in-Card.is) c.card.ensures
