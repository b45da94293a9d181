-- From the story that was told to the whole call.
use Rattle.std.proofs.Common.{◌≡◌, ◌⊎◌, inl, inr, ⊎_elim, ℕ, true, List, [], ◌∷◌, ◌++◌, take, Option, Some, None, Result, Ok, Err, refl, sym, ◌∙◌, ap, subst}
use Rattle.std.specs.List.{list_any}
use Rattle.group_fields.specs.Counts.{IsRaised}
use Rattle.group_fields.specs.declared.counts.Counts.{Counts}
use Rattle.disk_trait.specs.Moments.{OnlyReads, Throughout, only_reads_on}
use Rattle.disk_trait.specs.declared.disk.Disk.{Ghosts as DiskGhosts}
use Rattle.kem_trait.specs.declared.kem.Kem.{Ghosts as KemGhosts}
use Rattle.mail_trait.specs.Post.{Files}
use Rattle.mail_trait.specs.declared.put.Put.{Put}
use Rattle.member_journal.specs.declared.fault.JournalFault.{JournalFault}
use Rattle.member_journal.specs.declared.fault.JournalFault.TheVariants.{Disk, Memory, NotJournal}
use Rattle.mailbox_cli.specs.Call.{Answers, Devices, Moment, Call, Carries, IsFaultOf, failed, HasCauses, IsOpened, LeavesAsked, LeavesLines, LeavesPost, LeavesSteps, call_of}
use Rattle.mailbox_cli.specs.Opening.{EndsOpening}
use Rattle.mailbox_cli.specs.Parts.{DiskDid, DiskStops, Did, Stops, Tells, IsSettled, Refuses}
use Rattle.mailbox_cli.specs.Steps.{Step, steps_of}
use Rattle.mailbox_cli.specs.Story.{Event, opens, seeds_in, plans_in, puts_in, lines_in, steps_after, files_after, asked_after, is_opening, story, story_of, read_story, command_story, refuses}
use Rattle.mailbox_cli.specs.Words.{command_of}
use Rattle.mailbox_cli.specs.declared.command.Command.{Command}
use Rattle.mailbox_cli.specs.declared.ended.Ended.{Ended}
use Rattle.mailbox_cli.specs.declared.ended.Refusal.TheVariants.{Words, NotJournal as Place}
use Rattle.mailbox_cli.proofs.Disks.{Laws, moments_on}
use Rattle.mailbox_cli.proofs.Telling.{causes_disk, causes_later, causes_memory, did_open, fails_open, refuses_tells, tells_on, untouched_on}

module _ {K L D P E S : Type 0} (kem : KemGhosts K L) (on : Devices D P E S) (laws : Laws on.disk) where
  module _ (words : List (List ℕ)) (read : Result (List Step) ℕ) (files : Files) (before after : Moment D P E S) (ended : Ended)
      (reads : on.disk.told → read ≡ steps_of kem (on.disk.content before.disk)) (held : on.post.told → files ≡ on.post.files before.post)
      (tells : Tells kem on (story kem words read files) read before after ended) where
    did_disk : on.disk.told → DiskDid kem on.disk tells.events read before.disk tells.mid.disk
    did_disk told = tells.did.disk told (sym (reads told))

    stops_disk : on.disk.told → DiskStops kem on.disk (IsFaultOf 4 (on.disk.counts tells.mid.disk) (on.disk.counts after.disk) ended)
        tells.rest (steps_after read tells.events) tells.mid.disk after.disk
    stops_disk told = tells.stops.disk told (did_disk told).steps

    left : (now : Result (List Step) ℕ)
        → LeavesSteps (IsFaultOf 4 (on.disk.counts tells.mid.disk) (on.disk.counts after.disk) ended) tells.rest
        (steps_after read tells.events) now
        → LeavesSteps (IsFaultOf 4 (on.disk.counts before.disk) (on.disk.counts after.disk) ended) tells.rest
        (steps_after read tells.events) now
    left now leaves = subst
        (λ (c : Counts). LeavesSteps (IsFaultOf 4 c (on.disk.counts after.disk) ended) tells.rest (steps_after read tells.events) now)
        tells.did.counts.disk leaves

    opened : (r : Result (List Step) ℕ) → IsOpened r tells.events
        → ((list_any is_opening tells.events ≡ true) ⊎ IsSettled on.disk before.disk → (steps : List Step) → r ≡ Ok steps
        → IsSettled on.disk tells.mid.disk) → IsSettled on.disk tells.mid.disk
    opened (Ok steps) was settled = settled (inl was) steps refl
    opened (Err place) was settled = absurd was

    quiet : (plans_in (take 1 tells.rest) ≡ []) ⊎ ¬ (IsFaultOf 4 (on.disk.counts before.disk) (on.disk.counts after.disk) ended)
        → (plans_in (take 1 tells.rest) ≡ []) ⊎ ¬ (IsFaultOf 4 (on.disk.counts tells.mid.disk) (on.disk.counts after.disk) ended)
    quiet (inl none) = inl none
    quiet (inr same) = inr (λ fault. same (subst (λ (c : Counts). IsFaultOf 4 c (on.disk.counts after.disk) ended) tells.did.counts.disk fault))

    pub carries_of : Carries kem on (call_of words before after ended)
    carries_of = record {
      read = read;
      files = files;
      reads_first = reads;
      files_first = held;
      events = tells.events;
      rest = tells.rest;
      is = tells.is;
      drawn = λ told. tells.stops.given told ∙ tells.did.drawn told;
      asked = λ told. subst (λ (n : ℕ). LeavesAsked tells.rest ended n (on.entropy.asked after.entropy)) (tells.did.asked told)
          (tells.stops.asked told);
      steps = λ told. left (steps_of kem (on.disk.content after.disk)) (stops_disk told).steps;
      images = λ told was image here. left (steps_of kem image)
          ((stops_disk told).images (opened read was (did_disk told).settled) image here);
      moments = λ told. moments_on kem on.disk laws told tells.events [] read before.disk tells.mid.disk after.disk (did_disk told)
          (take 1 tells.rest) (stops_disk told).moments;
      bytes = λ told none still. only_reads_on on.disk before.disk tells.mid.disk after.disk ((did_disk told).bytes none)
          ((stops_disk told).bytes (quiet still));
      posts = λ told.
          subst (λ (f : Files). LeavesPost tells.rest f (on.post.puts before.post ++ puts_in tells.events) (on.post.files after.post)
          (on.post.puts after.post)) (tells.did.files told)
          (subst (λ (l : List Put). LeavesPost tells.rest (on.post.files tells.mid.post) l (on.post.files after.post)
          (on.post.puts after.post)) (tells.did.puts told) (tells.stops.posts told));
      lines = λ told.
          subst (λ (c : Counts). LeavesLines (IsFaultOf 7 c (on.sink.counts after.out) ended) tells.rest
          (on.sink.written before.out ++ lines_in tells.events) (on.sink.written after.out)) tells.did.counts.sink
          (subst (λ (l : List ℕ). LeavesLines (IsFaultOf 7 (on.sink.counts tells.mid.out) (on.sink.counts after.out) ended) tells.rest l
          (on.sink.written after.out)) (tells.did.lines told) (tells.stops.lines told));
      untouched = untouched_on on before tells.mid after tells.events (take 1 tells.rest) tells.did.untouched tells.stops.untouched;
      ending = tells.stops.ending;
      wants = tells.wants;
    }

    pub causes_of : HasCauses on before after ended
    causes_of = causes_later on before tells.mid after tells.did.counts ended tells.stops.causes

  -- words that spell no command
  module _ (words : List (List ℕ)) (m : Moment D P E S) (out' : S) (ended : Ended) (none : command_of words ≡ None)
      (says : Refuses on.sink Words m.out out' ended) where
    abbrev read_first : Result (List Step) ℕ
    read_first = steps_of kem (on.disk.content m.disk)

    words_tell : Tells kem on (story kem words read_first (on.post.files m.post)) read_first m (record m { out = out' }) ended
    words_tell = refuses_tells on kem laws read_first m ended (story kem words read_first (on.post.files m.post)) Words out'
        (λ seeds. ap (λ (command : Option Command). story_of kem command read_first (on.post.files m.post) seeds) none) says

    pub words_carry : Carries kem on (call_of words m (record m { out = out' }) ended)
    words_carry = carries_of words read_first (on.post.files m.post) m (record m { out = out' }) ended (λ told. refl) (λ told. refl) words_tell

    pub words_cause : HasCauses on m (record m { out = out' }) ended
    words_cause = causes_of words read_first (on.post.files m.post) m (record m { out = out' }) ended (λ told. refl) (λ told. refl) words_tell

  module _ (words : List (List ℕ)) (command : Command) (is : command_of words ≡ Some command) (m : Moment D P E S) (disk' : D) where
    story_is : (read : Result (List Step) ℕ) (seeds : List (List ℕ)) → story kem words read (on.post.files m.post) seeds
        ≡ opens ∷ read_story kem command read (on.post.files m.post) seeds
    story_is read seeds = ap (λ (c : Option Command). story_of kem c read (on.post.files m.post) seeds) is

    -- the journal did not open
    module _ (out' : S) (ended : Ended) (only : on.disk.told → OnlyReads on.disk m.disk disk') where
      abbrev last : Moment D P E S
      last = record m { disk = disk'; out = out' }

      abbrev Told : Type 0
      Told = (read : Result (List Step) ℕ) × (on.disk.told → read ≡ steps_of kem (on.disk.content m.disk))
          × Tells kem on (story kem words read (on.post.files m.post)) read m last ended

      unopened : (status : ℕ) → out' ≡ m.out → HasCauses on m (record m { disk = disk' }) ended
          → Answers 4 None ended ⊎ Answers 9 None ended → Told
      unopened status silent causes fault =
          let read : Result (List Step) ℕ = steps_of kem (on.disk.content m.disk) in (
            read,
            λ told. refl,
            subst (λ (o : S). Tells kem on (story kem words read (on.post.files m.post)) read m (record m { disk = disk'; out = o }) ended)
                (sym silent) (fails_open on kem laws read m ended (story kem words read (on.post.files m.post))
                (read_story kem command read (on.post.files m.post) []) disk' (story_is read []) only causes fault),
          )

      no_journal : (place : ℕ) → (on.disk.told → steps_of kem (on.disk.content m.disk) ≡ Err place)
          → on.disk.counts disk' ≡ on.disk.counts m.disk → Refuses on.sink (Place place) m.out out' ended → Told
      no_journal place there same says =
          let read : Result (List Step) ℕ = Err place in (
            read,
            λ told. sym (there told),
            tells_on on kem laws read m (record m { disk = disk' }) last (opens ∷ [])
                (did_open on kem laws read m disk' (λ told steps ok. let clash : read ≡ Ok steps = ok in cc) only same) ended
                (story kem words read (on.post.files m.post)) (λ seeds. refuses (Place place)) (λ nine. inl refl) (λ seeds. story_is read seeds)
                (refuses_tells on kem laws read (record m { disk = disk' }) ended (λ seeds. refuses (Place place)) (Place place) out'
                (λ seeds. refl) says),
          )

      told_of : (why : JournalFault) → EndsOpening on.sink why m.out out' ended
          → (why ≡ Disk → IsRaised (on.disk.counts m.disk).faults (on.disk.counts disk').faults)
          → ((place : ℕ) → why ≡ NotJournal place → (on.disk.told → steps_of kem (on.disk.content m.disk) ≡ Err place)
          × (on.disk.counts disk' ≡ on.disk.counts m.disk)) → Told
      told_of Disk ends raised judged =
          unopened 4 ends.1 (causes_disk on m (record m { disk = disk' }) ended (failed ends.0 (raised refl))) (inl ends.0)
      told_of Memory ends raised judged =
          unopened 9 ends.1 (causes_memory on m (record m { disk = disk' }) ended ends.0.0) (inr ends.0)
      told_of (NotJournal place) ends raised judged =
          no_journal place (judged place refl).0 (judged place refl).1 ends

      module _ (why : JournalFault) (ends : EndsOpening on.sink why m.out out' ended)
          (raised : why ≡ Disk → IsRaised (on.disk.counts m.disk).faults (on.disk.counts disk').faults)
          (judged : (place : ℕ) → why ≡ NotJournal place → (on.disk.told → steps_of kem (on.disk.content m.disk) ≡ Err place)
          × (on.disk.counts disk' ≡ on.disk.counts m.disk)) where
        told_here : Told
        told_here = told_of why ends raised judged

        pub unopened_carry : Carries kem on (call_of words m (record m { disk = disk'; out = out' }) ended)
        unopened_carry = carries_of words told_here.0 (on.post.files m.post) m last ended told_here.1 (λ told. refl) told_here.2

        pub unopened_cause : HasCauses on m (record m { disk = disk'; out = out' }) ended
        unopened_cause = causes_of words told_here.0 (on.post.files m.post) m last ended told_here.1 (λ told. refl) told_here.2

    -- the journal was opened before
    module _ (steps : List Step) (after : Moment D P E S) (ended : Ended)
        (reads : on.disk.told → steps_of kem (on.disk.content m.disk) ≡ Ok steps) (settled : on.disk.told → IsSettled on.disk disk')
        (only : on.disk.told → OnlyReads on.disk m.disk disk') (same : on.disk.counts disk' ≡ on.disk.counts m.disk)
        (tells : Tells kem on (command_story kem command steps (on.post.files m.post)) (Ok steps) (record m { disk = disk' }) after ended) where
      opened_tell : Tells kem on (story kem words (Ok steps) (on.post.files m.post)) (Ok steps) m after ended
      opened_tell = tells_on on kem laws (Ok steps) m (record m { disk = disk' }) after (opens ∷ [])
          (did_open on kem laws (Ok steps) m disk' (λ told ss ok. settled told) only same) ended
          (story kem words (Ok steps) (on.post.files m.post)) (command_story kem command steps (on.post.files m.post))
          (λ nine. inl refl) (λ seeds. story_is (Ok steps) seeds) tells

      pub opened_carry : Carries kem on (call_of words m after ended)
      opened_carry = carries_of words (Ok steps) (on.post.files m.post) m after ended (λ told. sym (reads told)) (λ told. refl) opened_tell

      pub opened_cause : HasCauses on m after ended
      opened_cause = causes_of words (Ok steps) (on.post.files m.post) m after ended (λ told. sym (reads told)) (λ told. refl) opened_tell
