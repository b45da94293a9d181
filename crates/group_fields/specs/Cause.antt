-- Why a call of a device fails.
use Rattle.std.specs.Prelude.{◌≡◌, ◌≤◌, Result, OnOk, IsErrOf}
use Rattle.group_fields.specs.Counts.{IsRaised}
use Rattle.group_fields.specs.declared.counts.Counts.{Counts}

-- No count falls. A call that succeeds leaves both. It fails only where the count of failures rose, and lacks memory only
-- where the count of wants rose.
pub record HasCause {T E : Type 0} (failed memory : E) (before now : Counts) (result : Result T E) : Type 0 where
  pub faults : before.faults ≤ now.faults
  pub wants : before.wants ≤ now.wants
  pub succeeded : OnOk result (now ≡ before)
  pub fault : IsErrOf result failed → IsRaised before.faults now.faults
  pub want : IsErrOf result memory → IsRaised before.wants now.wants
