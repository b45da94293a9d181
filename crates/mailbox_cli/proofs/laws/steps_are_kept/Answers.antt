use Rattle.mailbox_cli.specs.Call.{Devices, devices}
use Rattle.mailbox_cli.proofs.Disks.{Laws}
use Rattle.mailbox_cli.proofs.Kept.{all_kept}
use Rattle.mailbox_cli.proofs.laws.steps_are_kept.Goals as goal

pub returns : goal.returns
returns g c told start last runs steps image settled reads here =
    let on : Devices _ _ _ _ = devices g.D.Disk g.P.Post g.E.Entropy g.S.Sink in
    let laws : Laws g.D.Disk = record { shows = g.met.D.Disk.content_is_image; since = g.met.D.Disk.counts_now; only = g.met.D.Disk.only_now } in
    all_kept g.K.Kem on laws told start last runs steps settled reads image here
