-- Runs of calls of a disk: what a crash at any moment of a run leaves, and what a run changes.
use Rattle.std.proofs.Common.{◌≡◌, ◌⊎◌, inl, inr, ⊎_elim, ℕ, ◌≤◌, List, refl, ◌∙◌, arith}
use Rattle.disk_trait.specs.Disk.{MayNot, Passes}
use Rattle.disk_trait.specs.declared.disk.Disk.{Ghosts}

module _ {D : Type 0} (disks : Ghosts D) where
  -- A crash at any moment from the first disk to the second leaves bytes that have P, and one before the first leaves
  -- what it might have left then.
  pub record Throughout (first second : D) (P : List ℕ → Type 0) : Type 0 where
    pub later : disks.clock first ≤ disks.clock second
    pub each : (c : List ℕ) → disks.image_since second (disks.clock first) c → P c
    pub before : (from : ℕ) (c : List ℕ) → from ≤ disks.clock first → disks.image_since second from c
        → disks.image_since first from c ⊎ P c

  -- A crash at any moment from the first disk to the second, and after it, leaves bytes that have P, and a read gives
  -- such bytes.
  pub record Leaves (first second : D) (P : List ℕ → Type 0) : Type 0 where
    pub moments : Throughout first second P
    pub images : (c : List ℕ) → disks.image second c → P c
    pub reads : P (disks.content second)

  -- A run that only reads and syncs: the content stays, no image is new, and a crash at any moment leaves what it might
  -- have left before.
  pub record OnlyReads (first second : D) : Type 0 where
    pub stays : disks.content second ≡ disks.content first
    pub images : MayNot (disks.image first) (disks.image second)
    pub moments : Throughout first second (disks.image first)

  -- time passes in a call that leads from the first disk to the second
  abbrev pub Took : D → D → Type 0
  Took first second = Passes (disks.clock first) (disks.clock second)
      (disks.image_since first) (disks.image_since second) (disks.image second)

  -- before the first call
  pub throughout_none : (disk : D) (P : List ℕ → Type 0)
      → ((c : List ℕ) → disks.image_since disk (disks.clock disk) c → P c) → Throughout disk disk P
  throughout_none disk P here = record { later = omega arith; each = here; before = λ from c early since. inl since }

  -- one call more, after which a crash leaves what has P
  pub throughout_call : (first second third : D) (P : List ℕ → Type 0) → Throughout first second P
      → Took second third → ((c : List ℕ) → disks.image third c → P c) → Throughout first third P
  throughout_call first second third P so_far time now = record {
    later = omega (arith, so_far.later, time.later);
    each = λ c since. ⊎_elim (so_far.each c) (now c) (time.nothing_else (disks.clock first) c so_far.later since);
    before = λ from c early since. ⊎_elim
        (so_far.before from c early)
        (λ here. inr (now c here))
        (time.nothing_else from c (omega (arith, early, so_far.later)) since);
  }

  -- one run after another
  pub throughout_on : (first second third : D) (P Q : List ℕ → Type 0) → Throughout first second P
      → Throughout second third Q → Throughout first third (λ c. P c ⊎ Q c)
  throughout_on first second third P Q early late = record {
    later = omega (arith, early.later, late.later);
    each = λ c since. ⊎_elim
        (λ before. inl (early.each c before))
        (λ now. inr now)
        (late.before (disks.clock first) c early.later since);
    before = λ from c soon since. ⊎_elim
        (λ before. ⊎_elim (λ old. inl old) (λ now. inr (inl now)) (early.before from c soon before))
        (λ now. inr (inr now))
        (late.before from c (omega (arith, soon, early.later)) since);
  }

  -- what is weaker holds too
  pub throughout_weaker : (first second : D) (P Q : List ℕ → Type 0) → ((c : List ℕ) → P c → Q c)
      → Throughout first second P → Throughout first second Q
  throughout_weaker first second P Q weaker run = record {
    later = run.later;
    each = λ c since. weaker c (run.each c since);
    before = λ from c early since. ⊎_elim (λ old. inl old) (λ now. inr (weaker c now)) (run.before from c early since);
  }

  -- two runs that leave the same are one
  pub throughout_join : (first second third : D) (P : List ℕ → Type 0) → Throughout first second P
      → Throughout second third P → Throughout first third P
  throughout_join first second third P early late =
      throughout_weaker first third (λ c. P c ⊎ P c) P (λ c either. ⊎_elim (λ old. old) (λ now. now) either)
      (throughout_on first second third P P early late)

  -- what a crash leaves now is among what it might have left since the start, and so is what a read gives
  pub leaves_throughout : (first second : D) (P : List ℕ → Type 0)
      → ((c : List ℕ) → disks.clock first ≤ disks.clock second → disks.image second c
      → disks.image_since second (disks.clock first) c)
      → disks.image second (disks.content second) → Throughout first second P → Leaves first second P
  leaves_throughout first second P now reads run = record {
    moments = run;
    images = λ c here. run.each c (now c run.later here);
    reads = run.each (disks.content second) (now (disks.content second) run.later reads);
  }

  pub leaves_weaker : (first second : D) (P Q : List ℕ → Type 0) → ((c : List ℕ) → P c → Q c) → Leaves first second P
      → Leaves first second Q
  leaves_weaker first second P Q weaker run = record {
    moments = throughout_weaker first second P Q weaker run.moments;
    images = λ c now. weaker c (run.images c now);
    reads = weaker (disks.content second) run.reads;
  }

  pub only_reads_none : (disk : D) → ((c : List ℕ) → disks.image_since disk (disks.clock disk) c → disks.image disk c)
      → OnlyReads disk disk
  only_reads_none disk only_now = record {
    stays = refl;
    images = λ c now. now;
    moments = throughout_none disk (disks.image disk) only_now;
  }

  pub only_reads_call : (first second third : D) → OnlyReads first second → disks.content third ≡ disks.content second
      → MayNot (disks.image second) (disks.image third) → Took second third → OnlyReads first third
  only_reads_call first second third run same narrower time = record {
    stays = same ∙ run.stays;
    images = λ c now. run.images c (narrower c now);
    moments = throughout_call first second third (disks.image first) run.moments time
        (λ c now. run.images c (narrower c now));
  }

  pub only_reads_on : (first second third : D) → OnlyReads first second → OnlyReads second third → OnlyReads first third
  only_reads_on first second third early late = record {
    stays = late.stays ∙ early.stays;
    images = λ c now. early.images c (late.images c now);
    moments = throughout_weaker first third (λ c. disks.image first c ⊎ disks.image second c) (disks.image first)
        (λ c either. ⊎_elim (λ old. old) (early.images c) either)
        (throughout_on first second third (disks.image first) (disks.image second) early.moments late.moments);
  }
