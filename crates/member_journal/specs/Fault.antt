-- The faults of a journal.
use Rattle.disk_trait.specs.declared.disk.DiskError.{DiskError}
use Rattle.disk_trait.specs.declared.disk.DiskError.TheVariants.{Failed, Memory}
use Rattle.member_journal.specs.declared.fault.JournalFault as fault
use Rattle.member_journal.specs.declared.fault.JournalFault.TheVariants as variant

-- a device's error, handed on
abbrev pub fault_of : DiskError → fault.JournalFault
fault_of Failed = variant.Disk
fault_of Memory = variant.Memory
