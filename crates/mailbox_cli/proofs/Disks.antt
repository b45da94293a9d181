-- What events do to the disk.
use Rattle.std.proofs.Common.{◌≡◌, ◌⊎◌, inl, inr, ⊎_elim, ℕ, ◌≤◌, Bool, true, false, ◌||◌, List, [], ◌∷◌, ◌++◌, take, Result, Ok, Err, refl, sym, ◌∙◌, ap, subst}
use Rattle.std.proofs.lemmas.List.Folds.{list_any-append}
use Rattle.std.specs.List.{list_any}
use Rattle.group_fields.specs.declared.counts.Counts.{Counts}
use Rattle.disk_trait.specs.Moments.{OnlyReads, Throughout, only_reads_none, only_reads_on, throughout_none, throughout_on, throughout_weaker}
use Rattle.disk_trait.specs.declared.disk.Disk.{Ghosts as DiskGhosts}
use Rattle.kem_trait.specs.declared.kem.Kem.{Ghosts as KemGhosts}
use Rattle.mailbox_cli.specs.Call.{IsAmong, LeavesSteps}
use Rattle.mailbox_cli.specs.Parts.{DiskDid, DiskStops, IsSettled}
use Rattle.mailbox_cli.specs.Steps.{Step, steps_of}
use Rattle.mailbox_cli.specs.Story.{Event, opens, plans, plans_in, steps_after, is_opening}
use Rattle.mailbox_cli.proofs.Sums.{among_first, among_later, among_sooner, none_before, none_behind, plans_in-append, steps_after-append, steps_after-plans, steps_same}

-- the laws of a disk that tells its content
pub record Laws {D : Type 0} (disk : DiskGhosts D) : Type 0 where
  pub shows : (d : D) → disk.told → disk.image d (disk.content d)
  pub since : (d : D) (from : ℕ) (c : List ℕ) → disk.told → from ≤ disk.clock d → disk.image d c → disk.image_since d from c
  pub only : (d : D) (c : List ℕ) → disk.told → disk.image_since d (disk.clock d) c → disk.image d c

either : (a b : Bool) → (a || b) ≡ true → (a ≡ true) ⊎ (b ≡ true)
either true b is = inl refl
either false b is = inr is

module _ {K L D : Type 0} (kem : KemGhosts K L) (disk : DiskGhosts D) (laws : Laws disk) (told : disk.told) where
  -- a disk that is not asked
  pub disk_same : (events : List Event) (read : Result (List Step) ℕ) (d : D) → steps_after read events ≡ read
      → list_any is_opening events ≡ false → steps_of kem (disk.content d) ≡ read → DiskDid kem disk events read d d
  disk_same events read d none closed reads = record {
    steps = reads ∙ sym none;
    settled = λ either steps is. ⊎_elim (λ (o : list_any is_opening events ≡ true). let clash : true ≡ false = sym o ∙ closed in cc)
        (λ settled. settled) either;
    moments = throughout_none disk d (λ image. disk.image d image ⊎ IsAmong read events (steps_of kem image))
        (λ image here. inl (laws.only d image told here));
    bytes = λ nothing. only_reads_none disk d (λ image here. laws.only d image told here);
  }

  pub disk_stays : (fault : Type 0) (rest : List Event) (read : Result (List Step) ℕ) (d : D) → steps_of kem (disk.content d) ≡ read
      → DiskStops kem disk fault rest read d d
  disk_stays fault rest read d reads = record {
    steps = steps_same fault rest read (steps_of kem (disk.content d)) reads;
    images = λ settled image here. steps_same fault rest read (steps_of kem image)
        (ap (steps_of kem) (settled image here) ∙ reads);
    moments = throughout_none disk d (λ image. disk.image d image ⊎ IsAmong read (take 1 rest) (steps_of kem image))
        (λ image here. inl (laws.only d image told here));
    bytes = λ nothing. only_reads_none disk d (λ image here. laws.only d image told here);
  }

  -- the journal was opened
  pub disk_opened : (read : Result (List Step) ℕ) (first last : D) → steps_of kem (disk.content first) ≡ read
      → ((steps : List Step) → read ≡ Ok steps → IsSettled disk last) → OnlyReads disk first last
      → DiskDid kem disk (opens ∷ []) read first last
  disk_opened read first last reads settled only = record {
    steps = ap (steps_of kem) only.stays ∙ reads;
    settled = λ either steps is. settled steps is;
    moments = throughout_weaker disk first last (disk.image first)
        (λ image. disk.image first image ⊎ IsAmong read (opens ∷ []) (steps_of kem image)) (λ image old. inl old) only.moments;
    bytes = λ nothing. only;
  }

  -- it was not
  pub disk_unopened : (fault : Type 0) (later : List Event) (read : Result (List Step) ℕ) (first last : D)
      → steps_of kem (disk.content first) ≡ read → OnlyReads disk first last → DiskStops kem disk fault (opens ∷ later) read first last
  disk_unopened fault later read first last reads only = record {
    steps = ap (steps_of kem) only.stays ∙ reads;
    images = λ settled image here. ap (steps_of kem) (settled image (only.images image here)) ∙ reads;
    moments = throughout_weaker disk first last (disk.image first)
        (λ image. disk.image first image ⊎ IsAmong read (opens ∷ []) (steps_of kem image)) (λ image old. inl old) only.moments;
    bytes = λ nothing. only;
  }

  -- some events, and then others
  module _ (a b : List Event) (read : Result (List Step) ℕ) (first mid last : D) (early : DiskDid kem disk a read first mid) where
    settled_on : (list_any is_opening (a ++ b) ≡ true) ⊎ IsSettled disk first → (steps : List Step) → read ≡ Ok steps
        → (list_any is_opening b ≡ true) ⊎ IsSettled disk mid
    settled_on (inr settled) steps is = inr (early.settled (inr settled) steps is)
    settled_on (inl opened) steps is = ⊎_elim (λ soon. inr (early.settled (inl soon) steps is)) (λ late. inl late)
        (either (list_any is_opening a) (list_any is_opening b) (sym (list_any-append is_opening a b) ∙ opened))

    read_on : (steps : List Step) → read ≡ Ok steps → steps_after read a ≡ Ok (steps ++ plans_in a)
    read_on steps is = ap (λ (r : Result (List Step) ℕ). steps_after r a) is ∙ steps_after-plans steps a

    pub moments_on : (rest : List Event) → Throughout disk mid last
        (λ image. disk.image mid image ⊎ IsAmong (steps_after read a) rest (steps_of kem image))
        → Throughout disk first last (λ image. disk.image first image ⊎ IsAmong read (a ++ rest) (steps_of kem image))
    moments_on rest run = throughout_weaker disk first last
        (λ image. (disk.image first image ⊎ IsAmong read a (steps_of kem image))
        ⊎ (disk.image mid image ⊎ IsAmong (steps_after read a) rest (steps_of kem image)))
        (λ image. disk.image first image ⊎ IsAmong read (a ++ rest) (steps_of kem image))
        (λ image all. ⊎_elim (λ soon. sooner image soon)
        (λ late. ⊎_elim
        (λ here. sooner image (early.moments.each image (laws.since mid (disk.clock first) image told early.moments.later here)))
        (λ among. inr (among_later read a rest (steps_of kem image) among)) late) all)
        (throughout_on disk first mid last (λ image. disk.image first image ⊎ IsAmong read a (steps_of kem image))
        (λ image. disk.image mid image ⊎ IsAmong (steps_after read a) rest (steps_of kem image)) early.moments run)
      where
        sooner : (image : List ℕ) → disk.image first image ⊎ IsAmong read a (steps_of kem image)
            → disk.image first image ⊎ IsAmong read (a ++ rest) (steps_of kem image)
        sooner image soon = ⊎_elim (λ old. inl old) (λ among. inr (among_sooner read a rest (steps_of kem image) among)) soon

    pub disk_on : DiskDid kem disk b (steps_after read a) mid last → DiskDid kem disk (a ++ b) read first last
    disk_on late = record {
      steps = late.steps ∙ sym (steps_after-append read a b);
      settled = λ before steps is. late.settled (settled_on before steps is) (steps ++ plans_in a) (read_on steps is);
      moments = moments_on b late.moments;
      bytes = λ nothing.
          let none : plans_in a ++ plans_in b ≡ [] = sym (plans_in-append a b) ∙ nothing in
          only_reads_on disk first mid last (early.bytes (none_before (plans_in a) (plans_in b) none))
          (late.bytes (none_behind (plans_in a) (plans_in b) none));
    }
