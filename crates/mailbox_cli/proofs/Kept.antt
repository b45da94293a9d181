-- What is kept of the steps of calls on one disk.
use Rattle.std.proofs.Common.{◌≡◌, ◌⊎◌, inl, inr, ⊎_elim, ℕ, zero, suc, ◌+◌, ◌≤◌, Bool, true, false, List, [], ◌∷◌, ◌++◌, length, take, Option, Some, None, Result, Ok, Err, refl, sym, ◌∙◌, ap, subst, arith, append_assoc, length-append}
use Rattle.std.proofs.lemmas.List.{append-nil, take_all, take_at}
use Rattle.std.specs.List.{list_any}
use Rattle.disk_trait.specs.Disk.{LeavesOnly}
use Rattle.disk_trait.specs.Moments.{OnlyReads, Throughout}
use Rattle.kem_trait.specs.declared.kem.Kem.{Ghosts as KemGhosts}
use Rattle.mail_trait.specs.Post.{Files}
use Rattle.mailbox_cli.specs.Call.{Call, Carries, Devices, DiskFault, IsAmong, IsOpened, LeavesSteps}
use Rattle.mailbox_cli.specs.Runs.{Keeps, Runs, begins, returns, restarts, crashes, Kept}
use Rattle.mailbox_cli.specs.Steps.{Step, steps_of}
use Rattle.mailbox_cli.specs.Story.{Event, opens, draws, awaits, plans, puts, prints, ends, plans_in, steps_after, is_opening, story, story_of, read_story, with_step}
use Rattle.mailbox_cli.specs.Words.{command_of}
use Rattle.mailbox_cli.specs.declared.command.Command.{Command}
use Rattle.mailbox_cli.proofs.Disks.{Laws}
use Rattle.mailbox_cli.proofs.Sums.{none_before, none_behind, plans_in-append, steps_after-plans}

abbrev okay : List Step → Result (List Step) ℕ
okay steps = Ok steps

no_first : (rest : List Event) → plans_in rest ≡ [] → plans_in (take 1 rest) ≡ []
no_first [] none = refl
no_first (plans step ∷ rest) none = cc
no_first (event ∷ rest) none = refl

-- a story without an opening plans nothing
closed : {K L : Type 0} (kem : KemGhosts K L) (command : Option Command) (read : Result (List Step) ℕ) (files : Files) (seeds : List (List ℕ))
    (events rest : List Event) → story_of kem command read files seeds ≡ events ++ rest → list_any is_opening events ≡ false
    → (plans_in events ≡ []) × (plans_in (take 1 rest) ≡ [])
closed kem None read files seeds events rest is never =
    let none : plans_in events ++ plans_in rest ≡ [] = sym (plans_in-append events rest) ∙ ap plans_in (sym is) in
    (none_before (plans_in events) (plans_in rest) none, no_first rest (none_behind (plans_in events) (plans_in rest) none))
closed kem (Some command) read files seeds [] rest is never =
    (refl, ap (λ (l : List Event). plans_in (take 1 l)) (sym is))
closed kem (Some command) read files seeds (event ∷ events) rest is never =
    let same : opens ≡ event = cc in
    let clash : true ≡ false = (λ i. list_any is_opening (same i ∷ events)) ∙ never in cc

-- some of the planned steps, from the first on
among_taken : (steps : List Step) (events : List Event) (now : Result (List Step) ℕ) → IsAmong (Ok steps) events now
    → (count : ℕ) × (now ≡ okay (steps ++ take count (plans_in events)))
among_taken steps [] now is = (0, is ∙ ap okay (sym (append-nil steps)))
among_taken steps (plans step ∷ events) now (inl is) = (0, is ∙ ap okay (sym (append-nil steps)))
among_taken steps (plans step ∷ events) now (inr is) =
    let later = among_taken (steps ++ step ∷ []) events now is in
    (suc later.0, later.1 ∙ ap okay (append_assoc steps (step ∷ []) (take later.0 (plans_in events))))
among_taken steps (event ∷ events) now is = among_taken steps events now is

-- all of them that happened, and maybe the next one
left_taken : (counted : Type 0) (steps : List Step) (events rest : List Event) (now : Result (List Step) ℕ)
    → LeavesSteps counted rest (steps_after (Ok steps) events) now
    → (kept : List Step) × Keeps true events rest kept × (now ≡ okay (steps ++ kept))
left_taken counted steps events rest now leaves = by_rest rest leaves
  where
    whole : (rest : List Event) → now ≡ steps_after (Ok steps) events
        → (kept : List Step) × Keeps true events rest kept × (now ≡ okay (steps ++ kept))
    whole rest is = (
      plans_in events,
      record {
        count = length (plans_in events);
        first = sym (ap (take (length (plans_in events))) (plans_in-append events (take 1 rest))
            ∙ take_at (plans_in events) (plans_in (take 1 rest)) (length (plans_in events)) refl);
        all = λ returned. omega arith;
      },
      is ∙ steps_after-plans steps events,
    )

    by_rest : (rest : List Event) → LeavesSteps counted rest (steps_after (Ok steps) events) now
        → (kept : List Step) × Keeps true events rest kept × (now ≡ okay (steps ++ kept))
    by_rest [] is = whole [] is
    by_rest (plans step ∷ rest) (inl is) = whole (plans step ∷ rest) is
    by_rest (plans step ∷ rest) (inr more) = (
      plans_in events ++ step ∷ [],
      record {
        count = length (plans_in events ++ step ∷ []);
        first = sym (ap (take (length (plans_in events ++ step ∷ []))) (plans_in-append events (plans step ∷ []))
            ∙ take_all (length (plans_in events ++ step ∷ [])) (plans_in events ++ step ∷ []) (omega arith));
        all = λ returned. omega (arith, length-append (plans_in events) (step ∷ []));
      },
      more.1 ∙ ap (with_step step) (steps_after-plans steps events) ∙ ap okay (append_assoc steps (plans_in events) (step ∷ [])),
    )
    by_rest (event ∷ rest) is = whole (event ∷ rest) is

module _ {K L D P E S : Type 0} (kem : KemGhosts K L) (on : Devices D P E S) (laws : Laws on.disk) (told : on.disk.told) where
  -- a call that begins where the disk reads as these steps
  module _ (call : Call D P E S) (carries : Carries kem on call) (steps : List Step)
      (reads : steps_of kem (on.disk.content call.before.disk) ≡ Ok steps) where
    read_is : carries.read ≡ okay steps
    read_is = carries.reads_first told ∙ reads

    opened_is : list_any is_opening carries.events ≡ true → IsOpened carries.read carries.events
    opened_is was = subst (λ (r : Result (List Step) ℕ). IsOpened r carries.events) (sym read_is) was

    pub opened_keeps : list_any is_opening carries.events ≡ true → (image : List ℕ) → on.disk.image call.after.disk image
        → (kept : List Step) × Keeps true carries.events carries.rest kept × (steps_of kem image ≡ okay (steps ++ kept))
    opened_keeps was image here = left_taken (DiskFault kem on call) steps
        carries.events carries.rest (steps_of kem image)
        (subst (λ (r : Result (List Step) ℕ). LeavesSteps (DiskFault kem on call) carries.rest
        (steps_after r carries.events) (steps_of kem image)) read_is (carries.images told (opened_is was) image here))

    pub among_keeps : (image : List ℕ) → IsAmong carries.read (carries.events ++ take 1 carries.rest) (steps_of kem image)
        → (kept : List Step) × Keeps false carries.events carries.rest kept × (steps_of kem image ≡ okay (steps ++ kept))
    among_keeps image among =
        let taken = among_taken steps (carries.events ++ take 1 carries.rest) (steps_of kem image)
        (subst (λ (r : Result (List Step) ℕ). IsAmong r (carries.events ++ take 1 carries.rest) (steps_of kem image)) read_is among) in (
          take taken.0 (plans_in (carries.events ++ take 1 carries.rest)),
          record { count = taken.0; first = refl; all = λ returned. cc },
          taken.1,
        )

  -- nothing was kept, where no image is new
  keeps_none : (returned : Bool) (events rest : List Event) → plans_in events ≡ [] → Keeps returned events rest []
  keeps_none returned events rest none = record { count = 0; first = refl; all = λ is. omega (arith, ap length none) }

  nothing_kept : (events rest : List Event) → Keeps false events rest []
  nothing_kept events rest = record { count = 0; first = refl; all = λ is. cc }

  module _ (start disk : D) (runs : Runs kem on start disk) (call : Call D P E S) (is : call.before.disk ≡ disk)
      (carries : Carries kem on call) (steps : List Step)
      (earlier : (bytes : List ℕ) → on.disk.image disk bytes
      → (kept : List Step) × Kept kem on runs kept × (steps_of kem bytes ≡ okay (steps ++ kept))) where
    before_image : (bytes : List ℕ) → on.disk.image call.before.disk bytes
        → (kept : List Step) × Kept kem on runs kept × (steps_of kem bytes ≡ okay (steps ++ kept))
    before_image bytes then = earlier bytes (subst (λ (d : D). on.disk.image d bytes) is then)

    return_keeps : (image : List ℕ) → on.disk.image call.after.disk image → (was : Bool) → list_any is_opening carries.events ≡ was
        → (kept : List Step) × Kept kem on (returns runs call is carries) kept × (steps_of kem image ≡ okay (steps ++ kept))
    return_keeps image here true was =
        let soon = before_image (on.disk.content call.before.disk) (laws.shows call.before.disk told) in
        let later = opened_keeps call carries (steps ++ soon.0) soon.2 was image here in (
          soon.0 ++ later.0,
          (soon.0, later.0, soon.1, later.1, refl),
          later.2 ∙ ap okay (append_assoc steps soon.0 later.0),
        )
    return_keeps image here false never =
        let none = closed kem (command_of call.words) carries.read carries.files _ carries.events carries.rest carries.is never in
        let only : OnlyReads on.disk call.before.disk call.after.disk = carries.bytes told none.0 (inl none.1) in
        let soon = before_image image (only.images image here) in (
          soon.0,
          (soon.0, [], soon.1, keeps_none true carries.events carries.rest none.0, sym (append-nil soon.0)),
          soon.2,
        )

    module _ (bytes : List ℕ) (since : on.disk.image_since call.after.disk (on.disk.clock call.before.disk) bytes) (next : D)
        (shows : on.disk.content next ≡ bytes) (only : LeavesOnly bytes (on.disk.image next)) (image : List ℕ)
        (here : on.disk.image next image) where
      crash_keeps : on.disk.image call.before.disk bytes ⊎ IsAmong carries.read (carries.events ++ take 1 carries.rest) (steps_of kem bytes)
          → (kept : List Step) × Kept kem on (crashes runs call is carries bytes since next shows only) kept
          × (steps_of kem image ≡ okay (steps ++ kept))
      crash_keeps (inl old) =
          let soon = before_image bytes old in (
            soon.0,
            (soon.0, [], soon.1, nothing_kept carries.events carries.rest, sym (append-nil soon.0)),
            ap (steps_of kem) (only image here) ∙ soon.2,
          )
      crash_keeps (inr among) =
          let soon = before_image (on.disk.content call.before.disk) (laws.shows call.before.disk told) in
          let later = among_keeps call carries (steps ++ soon.0) soon.2 bytes among in (
            soon.0 ++ later.0,
            (soon.0, later.0, soon.1, later.1, refl),
            ap (steps_of kem) (only image here) ∙ later.2 ∙ ap okay (append_assoc steps soon.0 later.0),
          )

  pub all_kept : (start last : D) (runs : Runs kem on start last) (steps : List Step)
      → LeavesOnly (on.disk.content start) (on.disk.image start) → steps_of kem (on.disk.content start) ≡ Ok steps
      → (image : List ℕ) → on.disk.image last image
      → (kept : List Step) × Kept kem on runs kept × (steps_of kem image ≡ okay (steps ++ kept))
  all_kept start last begins steps settled reads image here =
      ([], refl, ap (steps_of kem) (settled image here) ∙ reads ∙ ap okay (sym (append-nil steps)))
  all_kept start last (returns {disk} runs call is carries) steps settled reads image here =
      return_keeps start disk runs call is carries steps (all_kept start disk runs steps settled reads) image here
      (list_any is_opening carries.events) refl
  all_kept start last (restarts {disk} runs call is carries bytes left next shows only) steps settled reads image here =
      let kept = return_keeps start disk runs call is carries steps (all_kept start disk runs steps settled reads) bytes left
      (list_any is_opening carries.events) refl in
      (kept.0, kept.1, ap (steps_of kem) (only image here) ∙ kept.2)
  all_kept start last (crashes {disk} runs call is carries bytes since next shows only) steps settled reads image here =
      crash_keeps start disk runs call is carries steps (all_kept start disk runs steps settled reads) bytes since next shows only image here
      ((carries.moments told).each bytes since)
