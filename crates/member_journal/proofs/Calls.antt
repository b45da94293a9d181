-- Writes one behind the other from a place on, and what a crash at any moment of them leaves.
use Rattle.std.proofs.Common.{◌≡◌, ℕ, ◌+◌, ◌≤◌, List, length, sym, subst}
use Rattle.disk_trait.specs.declared.disk.Disk.{Ghosts}
use Rattle.disk_trait.specs.Disk.{Torn, MayTear, MayNot, LeavesOnly}
use Rattle.disk_trait.specs.Moments.{Throughout, Took, throughout_none, throughout_call}
use Rattle.member_journal.proofs.Writes.{AllTorn, torn_none, all_torn_first, all_torn_on, all_torn_wider}

module _ {D : Type 0} (disks : Ghosts D) (at total : ℕ) where
  -- n bytes were written so far of a range
  pub record SoFar (first second : D) (n : ℕ) : Type 0 where
    pub moments : Throughout disks first second (Torn at total (disks.content first))
    pub torn : AllTorn at n (disks.content first) (disks.image second)

  -- the first write, of m bytes
  pub wrote_first : (first second : D) (n m : ℕ) → m ≡ n → n ≤ total
      → ((c : List ℕ) → disks.image_since first (disks.clock first) c → disks.image first c)
      → LeavesOnly (disks.content first) (disks.image first)
      → MayTear at m (disks.image first) (disks.image second) → Took disks first second → SoFar first second n
  wrote_first first second n m size fits only_now settled tears time =
      let torn = subst (λ k. AllTorn at k (disks.content first) (disks.image second)) size
      (all_torn_first at m (disks.content first) (disks.image first) (disks.image second) settled tears) in
      record {
        moments = throughout_call disks first first second (Torn at total (disks.content first))
            (throughout_none disks first (Torn at total (disks.content first))
            (λ c since. subst (Torn at total (disks.content first)) (sym (settled c (only_now c since))) (torn_none at total (disks.content first))))
            time
            (all_torn_wider at n total (disks.content first) (disks.image second) fits torn);
        torn = torn;
      }

  -- the next write, of m bytes behind the n before
  pub wrote_next : (first second third : D) (n m place : ℕ) → place ≡ at + n → n + m ≤ total → at ≤ length (disks.content first)
      → SoFar first second n → MayTear place m (disks.image second) (disks.image third) → Took disks second third
      → SoFar first third (n + m)
  wrote_next first second third n m place is fits inside so_far tears time =
      let torn = all_torn_on at n m (disks.content first) (disks.image second) (disks.image third) inside so_far.torn
      (subst (λ p. MayTear p m (disks.image second) (disks.image third)) is tears) in
      record {
        moments = throughout_call disks first second third (Torn at total (disks.content first)) so_far.moments time
            (all_torn_wider at (n + m) total (disks.content first) (disks.image third) fits torn);
        torn = torn;
      }

  pub synced : (first second third : D) (n : ℕ) → n ≤ total → SoFar first second n → MayNot (disks.image second) (disks.image third)
      → Took disks second third → SoFar first third n
  synced first second third n fits so_far nothing time =
      let torn : AllTorn at n (disks.content first) (disks.image third) = λ c now. so_far.torn c (nothing c now) in
      record {
        moments = throughout_call disks first second third (Torn at total (disks.content first)) so_far.moments time
            (all_torn_wider at n total (disks.content first) (disks.image third) fits torn);
        torn = torn;
      }
