-- When a call of a device in memory fails: by the numbers of the calls that are to fail.
use Rattle.std.proofs.Common.{◌≡◌, ◌∙◌, ◌+◌, ℕ, List, [], refl}
use Rattle.std.specs.Prelude.{min, Contains, Result, IsErrOf}
use Rattle.group_fields.specs.Counts.{greatest_count}
use Rattle.group_fields.specs.declared.counts.Counts.{Counts}

-- the number of the next call, from 1. It stands still at the greatest count, which no plan names
abbrev pub next_call : ℕ → ℕ
next_call made = min (made + 1) greatest_count

-- The call has the next number, and answers this error exactly where it is among the numbers of the calls that are to fail.
pub record FailsAsPlanned {T E : Type 0} (failed : E) (failing : List ℕ) (made now : ℕ) (result : Result T E) : Type 0 where
  pub number : now ≡ next_call made
  pub fails : Contains failing now → IsErrOf result failed
  pub only : IsErrOf result failed → Contains failing now

-- The plan is the same, and where no call is to fail, none has failed.
pub record KeepsPlan (plan now : List ℕ) (before after : Counts) : Type 0 where
  pub same : now ≡ plan
  pub honest : plan ≡ [] → after.faults ≡ before.faults

pub keeps-itself : (plan : List ℕ) (counts : Counts) → KeepsPlan plan plan counts counts
keeps-itself plan counts = record { same = refl; honest = λ _. refl }

pub keeps-on : (p q r : List ℕ) (a b c : Counts) → KeepsPlan p q a b → KeepsPlan q r b c → KeepsPlan p r a c
keeps-on p q r a b c f g = record { same = g.same ∙ f.same; honest = λ e. g.honest (f.same ∙ e) ∙ f.honest e }
