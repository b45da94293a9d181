-- Runs that only read a disk, one after another.
use Rattle.std.proofs.Common.{ℕ, List, Result, Ok, Err, OnOk}
use Rattle.disk_trait.specs.declared.disk.Disk.{Ghosts}
use Rattle.disk_trait.specs.Moments.{only_reads_none, only_reads_on}
use Rattle.member_journal.specs.Scan.{KeepsDisk}

module _ {D : Type 0} (disks : Ghosts D) where
  pub keeps_none : (disk : D) → ((c : List ℕ) → disks.told → disks.image_since disk (disks.clock disk) c → disks.image disk c)
      → disks.follows disk disk → KeepsDisk disks disk disk
  keeps_none disk only_now itself = record {
    reads = λ told. only_reads_none disks disk (λ c since. only_now c told since);
    comes_of = itself;
  }

  pub keeps_on : (first second third : D) → (disks.follows first second → disks.follows second third → disks.follows first third)
      → KeepsDisk disks first second → KeepsDisk disks second third → KeepsDisk disks first third
  keeps_on first second third on early late = record {
    reads = λ told. only_reads_on disks first second third (early.reads told) (late.reads told);
    comes_of = on early.comes_of late.comes_of;
  }

-- a fact for success leads to another
pub on_ok : {T E : Type 0} (result : Result T E) (P Q : Type 0) → (P → Q) → OnOk result P → OnOk result Q
on_ok (Ok value) P Q leads fact = leads fact
on_ok (Err error) P Q leads fact = fact
