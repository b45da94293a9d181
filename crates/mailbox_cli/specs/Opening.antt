-- How a journal is opened, and what may be appended to it.
use Rattle.std.specs.Prelude.{◌≡◌, ℕ, List, [], ◌∷◌, ◌++◌, None, Result, Ok, Err}
use Rattle.disk_trait.specs.declared.disk.Disk.{Ghosts as DiskGhosts}
use Rattle.kem_trait.specs.declared.kem.Kem.{Ghosts as KemGhosts}
use Rattle.mail_trait.specs.declared.sink.Sink.{Ghosts as SinkGhosts}
use Rattle.member_journal.specs.Journal.{entries, next_place}
use Rattle.member_journal.specs.declared.fault.JournalFault.{JournalFault}
use Rattle.member_journal.specs.declared.fault.JournalFault.TheVariants.{Disk, Memory, NotJournal}
use Rattle.member_journal.specs.declared.journal.Journal.{Journal}
use Rattle.mailbox_cli.specs.Call.{Answers}
use Rattle.mailbox_cli.specs.Parts.{Refuses}
use Rattle.mailbox_cli.specs.Steps.{Step, steps_in}
use Rattle.mailbox_cli.specs.declared.ended.Ended.{Ended}
use Rattle.mailbox_cli.specs.declared.ended.Refusal.TheVariants.{NotJournal as Place}

-- the disk in an answer
abbrev pub disk_after : {T D F : Type 0} → (T → D) → Result T (D × F) → D
disk_after disk_in (Ok opened) = disk_in opened
disk_after disk_in (Err refused) = refused.0

-- the same answer without the disk
abbrev pub fault_in : {T D F : Type 0} → Result T (D × F) → Result T F
fault_in (Ok opened) = Ok opened
fault_in (Err refused) = Err refused.1

-- how a call ends whose journal did not open
abbrev pub EndsOpening : {S : Type 0} → SinkGhosts S → JournalFault → S → S → Ended → Type 0
EndsOpening sink Disk out out' ended = Answers 4 None ended × (out' ≡ out)
EndsOpening sink Memory out out' ended = Answers 9 None ended × (out' ≡ out)
EndsOpening sink (NotJournal place) out out' ended = Refuses sink (Place place) out out' ended

-- The records of a journal stand for steps, and with this record behind them for one step more.
pub record IsNext {K L D : Type 0} (kem : KemGhosts K L) {disk : DiskGhosts D} (journal : Journal D disk)
    (bytes : List ℕ) (steps : List Step) (step : Step) : Type 0 where
  pub before : steps_in kem (entries journal) ≡ Ok steps
  pub after : steps_in kem (entries journal ++ record { place = next_place journal; bytes = bytes } ∷ [])
      ≡ Ok (steps ++ step ∷ [])
