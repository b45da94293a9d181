-- What the parts of a call do: events that were all done, and the one before which a story stopped.
use Rattle.std.specs.Prelude.{◌≡◌, ◌⊎◌, ℕ, true, List, [], ◌∷◌, ◌++◌, take, Option, None, Some, Result, Ok}
use Rattle.std.specs.List.{list_any}
use Rattle.disk_trait.specs.Disk.{LeavesOnly}
use Rattle.disk_trait.specs.Moments.{OnlyReads, Throughout}
use Rattle.disk_trait.specs.declared.disk.Disk.{Ghosts as DiskGhosts}
use Rattle.kem_trait.specs.declared.kem.Kem.{Ghosts as KemGhosts}
use Rattle.mail_trait.specs.Sink.{AppendsPrefix}
use Rattle.mail_trait.specs.declared.sink.Sink.{Ghosts as SinkGhosts}
use Rattle.mailbox_cli.specs.Call.{Answers, IsFaultOf, Devices, Moment, IsAmong, IsUncounted, WantRose, HasCauses}
use Rattle.mailbox_cli.specs.Call.{Untouched, LeavesSteps, LeavesPost, LeavesLines, LeavesAsked, LeavesEnd}
use Rattle.mailbox_cli.specs.Lines.{refusal_line, status_of}
use Rattle.mailbox_cli.specs.Steps.{Step, steps_of}
use Rattle.mailbox_cli.specs.Story.{Event, seeds_in, plans_in, puts_in, lines_in, steps_after, files_after, asked_after}
use Rattle.mailbox_cli.specs.Story.{is_acknowledged, is_opening}
use Rattle.mailbox_cli.specs.declared.ended.Ended.{Ended}
use Rattle.mailbox_cli.specs.declared.ended.Refusal.{Refusal}

-- A line was written whole and this is the answer, or a part of it and the output is the cause.
pub data Says {S : Type 0} (sink : SinkGhosts S) (text : List ℕ) (status : ℕ) (refusal : Option Refusal) (out out' : S)
    (ended : Ended) : Type 0 where
  whole : Answers status refusal ended → sink.counts out' ≡ sink.counts out
      → (sink.told → sink.written out' ≡ sink.written out ++ text) → Says sink text status refusal out out' ended
  part : IsFaultOf 7 (sink.counts out) (sink.counts out') ended
      → (sink.told → AppendsPrefix text (sink.written out) (sink.written out'))
      → Says sink text status refusal out out' ended

-- A refusal was said, or memory ran out before its line.
abbrev pub Refuses : {S : Type 0} → SinkGhosts S → Refusal → S → S → Ended → Type 0
Refuses sink refusal out out' ended =
    Says sink (refusal_line refusal) (status_of refusal) (Some refusal) out out' ended
    ⊎ (Answers 9 None ended × (out' ≡ out))

-- a crash leaves what a read gives
abbrev pub IsSettled : {D : Type 0} → DiskGhosts D → D → Type 0
IsSettled disk d = LeavesOnly (disk.content d) (disk.image d)

module _ {K L D : Type 0} (kem : KemGhosts K L) (disk : DiskGhosts D) where
  -- Events that were all done to a disk that read so before them.
  pub record DiskDid (events : List Event) (read : Result (List Step) ℕ) (first last : D) : Type 0 where
    pub steps : steps_of kem (disk.content last) ≡ steps_after read events
    pub settled : (list_any is_opening events ≡ true) ⊎ IsSettled disk first → (steps : List Step) → read ≡ Ok steps
        → IsSettled disk last
    pub moments : Throughout disk first last
        (λ image. disk.image first image ⊎ IsAmong read events (steps_of kem image))
    pub bytes : plans_in events ≡ [] → OnlyReads disk first last

  -- A story stopped before events, at a disk that read so. Of the disk it may be said that it failed.
  pub record DiskStops (fault : Type 0) (rest : List Event) (read : Result (List Step) ℕ) (first last : D) : Type 0 where
    pub steps : LeavesSteps fault rest read (steps_of kem (disk.content last))
    pub images : IsSettled disk first → (image : List ℕ) → disk.image last image
        → LeavesSteps fault rest read (steps_of kem image)
    pub moments : Throughout disk first last
        (λ image. disk.image first image ⊎ IsAmong read (take 1 rest) (steps_of kem image))
    pub bytes : (plans_in (take 1 rest) ≡ []) ⊎ ¬ fault → OnlyReads disk first last

module _ {K L D P E S : Type 0} (kem : KemGhosts K L) (on : Devices D P E S) where
  -- Events that were all done, from one moment to another.
  pub record Did (events : List Event) (read : Result (List Step) ℕ) (first last : Moment D P E S) : Type 0 where
    pub drawn : on.entropy.told → on.entropy.given last.entropy ≡ on.entropy.given first.entropy ++ seeds_in events
    pub asked : on.entropy.told
        → on.entropy.asked last.entropy ≡ asked_after (seeds_in events) (on.entropy.asked first.entropy)
    pub disk : on.disk.told → steps_of kem (on.disk.content first.disk) ≡ read
        → DiskDid kem on.disk events read first.disk last.disk
    pub files : on.post.told → on.post.files last.post ≡ files_after (on.post.files first.post) events
    pub puts : on.post.told → on.post.puts last.post ≡ on.post.puts first.post ++ puts_in events
    pub lines : on.sink.told → on.sink.written last.out ≡ on.sink.written first.out ++ lines_in events
    pub untouched : Untouched on first last events
    pub counts : IsUncounted on first last

  -- A story stopped before events, with an answer.
  pub record Stops (rest : List Event) (read : Result (List Step) ℕ) (first last : Moment D P E S) (ended : Ended)
      : Type 0 where
    pub given : on.entropy.told → on.entropy.given last.entropy ≡ on.entropy.given first.entropy
    pub asked : on.entropy.told
        → LeavesAsked rest ended (on.entropy.asked first.entropy) (on.entropy.asked last.entropy)
    pub disk : on.disk.told → steps_of kem (on.disk.content first.disk) ≡ read
        → DiskStops kem on.disk (IsFaultOf 4 (on.disk.counts first.disk) (on.disk.counts last.disk) ended) rest read
        first.disk last.disk
    pub posts : on.post.told → LeavesPost rest (on.post.files first.post) (on.post.puts first.post)
        (on.post.files last.post) (on.post.puts last.post)
    pub lines : on.sink.told → LeavesLines (IsFaultOf 7 (on.sink.counts first.out) (on.sink.counts last.out) ended) rest
        (on.sink.written first.out) (on.sink.written last.out)
    pub untouched : Untouched on first last (take 1 rest)
    pub causes : HasCauses on first last ended
    pub ending : LeavesEnd rest ended

  -- A story was told from one moment to another: some events were done, and it stopped before the others.
  pub record Tells (story : List (List ℕ) → List Event) (read : Result (List Step) ℕ) (first last : Moment D P E S)
      (ended : Ended) : Type 0 where
    pub events : List Event
    pub rest : List Event
    pub mid : Moment D P E S
    pub is : story (seeds_in events) ≡ events ++ rest
    pub did : Did events read first mid
    pub stops : Stops rest (steps_after read events) mid last ended
    pub wants : ended.status ≡ 9 → WantRose on first last ⊎ (is_acknowledged true events ≡ true)
