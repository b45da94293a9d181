-- What a call began with and ended with, and how far its story was carried out. Nothing here names a command.
use Rattle.std.specs.Prelude.{◌≡◌, ◌⊎◌, ℕ, Bool, true, false, List, [], ◌∷◌, ◌++◌, take, Option, None, Result, Ok, Err}
use Rattle.std.specs.List.{list_any}
use Rattle.group_fields.specs.Counts.{IsRaised}
use Rattle.group_fields.specs.Plan.{next_call}
use Rattle.group_fields.specs.declared.counts.Counts.{Counts}
use Rattle.disk_trait.specs.Moments.{OnlyReads, Throughout}
use Rattle.disk_trait.specs.declared.disk.Disk.{Ghosts as DiskGhosts}
use Rattle.kem_trait.specs.declared.kem.Kem.{Ghosts as KemGhosts}
use Rattle.mail_trait.specs.Post.{Files, SameElsewhere, failed_put}
use Rattle.mail_trait.specs.Sink.{AppendsPrefix}
use Rattle.mail_trait.specs.declared.entropy.Entropy.{Ghosts as EntropyGhosts}
use Rattle.mail_trait.specs.declared.post.Post.{Ghosts as PostGhosts}
use Rattle.mail_trait.specs.declared.put.Put.{Put}
use Rattle.mail_trait.specs.declared.sink.Sink.{Ghosts as SinkGhosts}
use Rattle.mailbox_cli.specs.Lines.{is_quiet}
use Rattle.mailbox_cli.specs.Steps.{Step, steps_of}
use Rattle.mailbox_cli.specs.Story.{Event, opens, draws, awaits, plans, puts, prints, ends, story, seeds_in, plans_in}
use Rattle.mailbox_cli.specs.Story.{puts_in, lines_in, with_step, steps_after, files_after, asked_after}
use Rattle.mailbox_cli.specs.Story.{is_acknowledged, asks_disk, asks_post, asks_source, asks_output, is_opening}
use Rattle.mailbox_cli.specs.declared.ended.Ended.{Ended}
use Rattle.mailbox_cli.specs.declared.ended.Refusal.{Refusal}

-- the four devices
pub record Devices (D P E S : Type 0) : Type 1 where
  pub disk : DiskGhosts D
  pub post : PostGhosts P
  pub entropy : EntropyGhosts E
  pub sink : SinkGhosts S

abbrev pub devices : {D P E S : Type 0} → DiskGhosts D → PostGhosts P → EntropyGhosts E → SinkGhosts S → Devices D P E S
devices disk post entropy sink = record { disk = disk; post = post; entropy = entropy; sink = sink }

-- the four at one moment
pub record Moment (D P E S : Type 0) : Type 0 where
  pub disk : D
  pub post : P
  pub entropy : E
  pub out : S

abbrev pub moment : {D P E S : Type 0} → D → P → E → S → Moment D P E S
moment disk post entropy out = record { disk = disk; post = post; entropy = entropy; out = out }

-- a call: its words, the devices before it and after it, and its answer
pub record Call (D P E S : Type 0) : Type 0 where
  pub words : List (List ℕ)
  pub before : Moment D P E S
  pub after : Moment D P E S
  pub ended : Ended

abbrev pub call_of : {D P E S : Type 0} → List (List ℕ) → Moment D P E S → Moment D P E S → Ended → Call D P E S
call_of words before after ended = record { words = words; before = before; after = after; ended = ended }

-- this status and this refusal
abbrev pub Answers : ℕ → Option Refusal → Ended → Type 0
Answers status refusal ended = (ended.status ≡ status) × (ended.refusal ≡ refusal)

-- the device of a status failed, or it wanted memory, and counted it
pub data IsFaultOf (status : ℕ) (before now : Counts) (ended : Ended) : Type 0 where
  failed : Answers status None ended → IsRaised before.faults now.faults → IsFaultOf status before now ended
  wanted : Answers 9 None ended → IsRaised before.wants now.wants → IsFaultOf status before now ended

-- no refusal, and this status or 9
abbrev pub IsFault : ℕ → Ended → Type 0
IsFault status ended = Answers status None ended ⊎ Answers 9 None ended

-- The answer where the story stopped before events: that of the end, or a fault of the device that the next event asks,
-- or want of memory.
abbrev pub LeavesEnd : List Event → Ended → Type 0
LeavesEnd [] ended = ⊥
LeavesEnd (opens ∷ rest) ended = IsFault 4 ended
LeavesEnd (draws random ∷ rest) ended = ⊥
LeavesEnd (awaits ∷ rest) ended = IsFault 6 ended
LeavesEnd (plans step ∷ rest) ended = IsFault 4 ended
LeavesEnd (puts name bytes ∷ rest) ended = IsFault 5 ended
LeavesEnd (prints text ∷ rest) ended = IsFault 7 ended
LeavesEnd (ends status refusal ∷ rest) ended = (rest ≡ []) × Answers status refusal ended

-- What bytes read as where the story stopped: the next step may be there only where the disk failed.
abbrev pub LeavesSteps : (fault : Type 0) → List Event → Result (List Step) ℕ → Result (List Step) ℕ → Type 0
LeavesSteps fault (plans step ∷ rest) read now = (now ≡ read) ⊎ (fault × (now ≡ with_step step read))
LeavesSteps fault rest read now = now ≡ read

-- The files, and all puts. A put that left no trace is not on the list.
abbrev pub LeavesPost : List Event → Files → List Put → Files → List Put → Type 0
LeavesPost (puts name bytes ∷ rest) files list files' list' =
    ((files' ≡ files) × (list' ≡ list))
    ⊎ (SameElsewhere name files files' × (list' ≡ list ++ failed_put name bytes ∷ []))
LeavesPost rest files list files' list' = (files' ≡ files) × (list' ≡ list)

-- What was written: a part of the next line may be there only where the output failed.
abbrev pub LeavesLines : (fault : Type 0) → List Event → List ℕ → List ℕ → Type 0
LeavesLines fault (prints text ∷ rest) written written' =
    (written' ≡ written) ⊎ (fault × AppendsPrefix text written written')
LeavesLines fault rest written written' = written' ≡ written

-- How often the source was asked: once more where random bytes are due, unless memory ran out before.
abbrev pub LeavesAsked : List Event → Ended → ℕ → ℕ → Type 0
LeavesAsked (awaits ∷ rest) ended asked asked' = (asked' ≡ next_call asked) ⊎ ((asked' ≡ asked) × (ended.status ≡ 9))
LeavesAsked rest ended asked asked' = asked' ≡ asked

-- the steps before, followed by the first of the planned ones: none, some or all
abbrev pub IsAmong : Result (List Step) ℕ → List Event → Result (List Step) ℕ → Type 0
IsAmong read [] now = now ≡ read
IsAmong read (plans step ∷ events) now = (now ≡ read) ⊎ IsAmong (with_step step read) events now
IsAmong read (event ∷ events) now = IsAmong read events now

-- The journal was opened, and it is one.
abbrev pub IsOpened : Result (List Step) ℕ → List Event → Type 0
IsOpened (Ok steps) events = list_any is_opening events ≡ true
IsOpened (Err place) events = ⊥

-- a device's count of failures or of wants rose
abbrev pub Counted : Counts → Counts → Type 0
Counted before now = IsRaised before.faults now.faults ⊎ IsRaised before.wants now.wants

module _ {D P E S : Type 0} (on : Devices D P E S) (first last : Moment D P E S) where
  -- no count rose
  pub record IsUncounted : Type 0 where
    pub disk : on.disk.counts last.disk ≡ on.disk.counts first.disk
    pub post : on.post.counts last.post ≡ on.post.counts first.post
    pub entropy : on.entropy.counts last.entropy ≡ on.entropy.counts first.entropy
    pub sink : on.sink.counts last.out ≡ on.sink.counts first.out

  -- no device counted a failure, or a want of memory
  pub record IsHonest : Type 0 where
    pub disk : ¬ (Counted (on.disk.counts first.disk) (on.disk.counts last.disk))
    pub post : ¬ (Counted (on.post.counts first.post) (on.post.counts last.post))
    pub entropy : ¬ (Counted (on.entropy.counts first.entropy) (on.entropy.counts last.entropy))
    pub sink : ¬ (Counted (on.sink.counts first.out) (on.sink.counts last.out))

  -- some device's count of wants rose
  pub data WantRose : Type 0 where
    of_disk : IsRaised (on.disk.counts first.disk).wants (on.disk.counts last.disk).wants → WantRose
    of_post : IsRaised (on.post.counts first.post).wants (on.post.counts last.post).wants → WantRose
    of_entropy : IsRaised (on.entropy.counts first.entropy).wants (on.entropy.counts last.entropy).wants → WantRose
    of_sink : IsRaised (on.sink.counts first.out).wants (on.sink.counts last.out).wants → WantRose

  -- No failure is swallowed: with 0, 2, 3 and 8 no count rose, and with 4, 5, 6 and 7 that device counted a failure.
  pub record HasCauses (ended : Ended) : Type 0 where
    pub quiet : is_quiet ended.status ≡ true → IsUncounted
    pub disk : ended.status ≡ 4 → IsRaised (on.disk.counts first.disk).faults (on.disk.counts last.disk).faults
    pub post : ended.status ≡ 5 → IsRaised (on.post.counts first.post).faults (on.post.counts last.post).faults
    pub entropy : ended.status ≡ 6
        → IsRaised (on.entropy.counts first.entropy).faults (on.entropy.counts last.entropy).faults
    pub sink : ended.status ≡ 7 → IsRaised (on.sink.counts first.out).faults (on.sink.counts last.out).faults

  -- A device that none of the events asks is as it was.
  pub record Untouched (events : List Event) : Type 0 where
    pub disk : list_any asks_disk events ≡ false → last.disk ≡ first.disk
    pub post : list_any asks_post events ≡ false → last.post ≡ first.post
    pub entropy : list_any asks_source events ≡ false → last.entropy ≡ first.entropy
    pub sink : list_any asks_output events ≡ false → last.out ≡ first.out

module _ {K L D P E S : Type 0} (kem : KemGhosts K L) (on : Devices D P E S) (call : Call D P E S) where
  -- the answer is that the disk failed or wanted memory, and the disk counted it
  abbrev pub DiskFault : Type 0
  DiskFault = IsFaultOf 4 (on.disk.counts call.before.disk) (on.disk.counts call.after.disk) call.ended

  -- the same of the output
  abbrev pub OutputFault : Type 0
  OutputFault = IsFaultOf 7 (on.sink.counts call.before.out) (on.sink.counts call.after.out) call.ended

  -- How far the story of the call was carried out: the events that happened, and those that were left. What is said of
  -- a device's content holds where that device tells it.
  pub record Carries : Type 0 where
    -- what the journal and the mail folder held before
    pub read : Result (List Step) ℕ
    pub files : Files
    pub reads_first : on.disk.told → read ≡ steps_of kem (on.disk.content call.before.disk)
    pub files_first : on.post.told → files ≡ on.post.files call.before.post
    -- the events that happened, and those that were left, by the random bytes that came
    pub events : List Event
    pub rest : List Event
    pub is : story kem call.words read files (seeds_in events) ≡ events ++ rest
    -- random bytes: exactly these, and one question for each
    pub drawn : on.entropy.told
        → on.entropy.given call.after.entropy ≡ on.entropy.given call.before.entropy ++ seeds_in events
    pub asked : on.entropy.told → LeavesAsked rest call.ended
        (asked_after (seeds_in events) (on.entropy.asked call.before.entropy)) (on.entropy.asked call.after.entropy)
    -- what the disk reads as
    pub steps : on.disk.told
        → LeavesSteps DiskFault rest (steps_after read events) (steps_of kem (on.disk.content call.after.disk))
    -- What a crash after the call leaves reads the same, where the journal was opened.
    pub images : on.disk.told → IsOpened read events → (image : List ℕ) → on.disk.image call.after.disk image
        → LeavesSteps DiskFault rest (steps_after read events) (steps_of kem image)
    -- A crash at any moment of the call leaves what it might have left before, or the steps before with the first of
    -- the planned ones.
    pub moments : on.disk.told → Throughout on.disk call.before.disk call.after.disk
        (λ image. on.disk.image call.before.disk image ⊎ IsAmong read (events ++ take 1 rest) (steps_of kem image))
    -- Where no step was begun the bytes stay, and no image is new.
    pub bytes : on.disk.told → plans_in events ≡ [] → (plans_in (take 1 rest) ≡ []) ⊎ ¬ DiskFault
        → OnlyReads on.disk call.before.disk call.after.disk
    -- the mail folder: the files, and each put in order
    pub posts : on.post.told → LeavesPost rest
        (files_after (on.post.files call.before.post) events) (on.post.puts call.before.post ++ puts_in events)
        (on.post.files call.after.post) (on.post.puts call.after.post)
    -- the output
    pub lines : on.sink.told
        → LeavesLines OutputFault rest (on.sink.written call.before.out ++ lines_in events)
        (on.sink.written call.after.out)
    -- devices that were not asked
    pub untouched : Untouched on call.before call.after (events ++ take 1 rest)
    -- the answer
    pub ending : LeavesEnd rest call.ended
    -- Want of memory that no device counted comes only where every planned step was acknowledged.
    pub wants : call.ended.status ≡ 9 → WantRose on call.before call.after ⊎ (is_acknowledged true events ≡ true)

  -- Where no device failed or wanted memory the call ends as its story does, or memory ran out.
  abbrev pub IsComplete : Type 0
  IsComplete = IsHonest on call.before call.after → (carries : Carries)
      × ((call.ended.status ≡ 9) ⊎ (carries.rest ≡ ends call.ended.status call.ended.refusal ∷ []))
