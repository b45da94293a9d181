-- What the adapters over single calls show: those calls, their counts, and the kind of their last failure.
use Rattle.std.specs.Prelude.{◌≤◌, ℕ, List, Option}
use Rattle.std.proofs.Math.Nat.{le_refl, le_trans}
use Rattle.std.specs.declared.io.ErrorKind.{ErrorKind}
use Rattle.group_fields.specs.declared.counts.Counts.{Counts}
use Rattle.mail_trait.specs.declared.dir_post.DirPost.{DirPost}
use Rattle.mail_trait.specs.declared.device_entropy.DeviceEntropy.{DeviceEntropy}
use Rattle.mail_trait.specs.declared.out_sink.OutSink.{OutSink}

abbrev pub counts_of_post : {C : Type 0} → DirPost C → Counts
counts_of_post post = post.failures.counts

abbrev pub counts_of_source : {C : Type 0} → DeviceEntropy C → Counts
counts_of_source source = source.failures.counts

abbrev pub counts_of_sink : {C : Type 0} → OutSink C → Counts
counts_of_sink sink = sink.failures.counts

abbrev pub reason_of_post : {C : Type 0} → DirPost C → Option ErrorKind
reason_of_post post = post.failures.reason

abbrev pub reason_of_source : {C : Type 0} → DeviceEntropy C → Option ErrorKind
reason_of_source source = source.failures.reason

abbrev pub reason_of_sink : {C : Type 0} → OutSink C → Option ErrorKind
reason_of_sink sink = sink.failures.reason

abbrev pub calls_of_post : {C : Type 0} → DirPost C → C
calls_of_post post = post.calls

abbrev pub folder_of_post : {C : Type 0} → DirPost C → List ℕ
folder_of_post post = post.folder

abbrev pub calls_of_source : {C : Type 0} → DeviceEntropy C → C
calls_of_source source = source.calls

abbrev pub calls_of_sink : {C : Type 0} → OutSink C → C
calls_of_sink sink = sink.calls

-- neither count has fallen
pub record NoFewer (before now : Counts) : Type 0 where
  pub faults : before.faults ≤ now.faults
  pub wants : before.wants ≤ now.wants

pub fewer-itself : (counts : Counts) → NoFewer counts counts
fewer-itself counts = record { faults = le_refl _; wants = le_refl _ }

pub fewer-on : (a b c : Counts) → NoFewer a b → NoFewer b c → NoFewer a c
fewer-on a b c f g = record { faults = le_trans f.faults g.faults; wants = le_trans f.wants g.wants }
