-- What a disk in memory has gone through, and what a crash would leave of it.
use Rattle.std.specs.Prelude.{◌≡◌, ℕ, zero, suc, ◌+◌, ◌-◌, ◌≤◌, List, [], ◌∷◌, ◌++◌, length, take, drop, map, replicate}
use Rattle.disk_trait.specs.Disk.{Torn}
use Rattle.disk_trait.specs.declared.memory.Change.{Change}
use Rattle.disk_trait.specs.declared.memory.Change.TheVariants.{Write, Sync}

-- these bytes at this place over others, with zeros in a gap before them
abbrev pub overwritten : ℕ → List ℕ → List ℕ → List ℕ
overwritten at bytes old =
    take at (old ++ replicate (at + length bytes - length old) 0) ++ bytes ++ drop (at + length bytes) old

-- what is settled on the disk, and the writes since, the newest first
pub record Standing : Type 0 where
  pub settled : List ℕ
  pub pending : List (ℕ × List ℕ)

abbrev pub fresh : List ℕ → Standing
fresh bytes = record { settled = bytes; pending = [] }

-- bytes after pending writes, the oldest of them first
abbrev pub overlaid : List ℕ → List (ℕ × List ℕ) → List ℕ
overlaid settled [] = settled
overlaid settled (write ∷ writes) = overwritten write.0 write.1 (overlaid settled writes)

-- one pending write more
abbrev pub written_over : ℕ → List ℕ → Standing → Standing
written_over at bytes standing =
    record { settled = standing.settled; pending = (at, bytes) ∷ standing.pending }

abbrev pub after : Standing → Change → Standing
after standing (Write at bytes) = written_over at bytes standing
after standing Sync = fresh (overlaid standing.settled standing.pending)

-- how a disk stands after these changes, the oldest first
abbrev pub replayed : Standing → List Change → Standing
replayed standing [] = standing
replayed standing (change ∷ changes) = replayed (after standing change) changes

abbrev pub content_of : Standing → List ℕ
content_of standing = overlaid standing.settled standing.pending

-- what a crash may leave: each pending write torn, one after the other
abbrev pub IsTornFrom : List ℕ → List (ℕ × List ℕ) → List ℕ → Type 0
IsTornFrom settled [] image = image ≡ settled
IsTornFrom settled (write ∷ writes) image =
    (before : List ℕ) × IsTornFrom settled writes before × Torn write.0 (length write.1) before image

abbrev pub IsImage : Standing → List ℕ → Type 0
IsImage standing image = IsTornFrom standing.settled standing.pending image

-- what a crash after at least so many of the changes might have left
abbrev pub IsImageSince : List ℕ → List Change → ℕ → List ℕ → Type 0
IsImageSince first changes from image =
    (k : ℕ) × (from ≤ k) × (k ≤ length changes) × IsImage (replayed (fresh first) (take k changes)) image

abbrev pub inverted : List ℕ → List ℕ
inverted bytes = map (λ byte. 255 - byte) bytes

-- the writes with each byte inverted
abbrev pub inverted_writes : List (ℕ × List ℕ) → List (ℕ × List ℕ)
inverted_writes writes = map (λ write. (write.0, inverted write.1)) writes

-- the images that a crash puts in place: no pending write is kept, or all, or all with each byte inverted
abbrev pub crash_image : ℕ → Standing → List ℕ
crash_image zero standing = standing.settled
crash_image (suc zero) standing = overlaid standing.settled standing.pending
crash_image (suc (suc n)) standing = overlaid standing.settled (inverted_writes standing.pending)

-- bytes after these changes, the oldest first
abbrev pub overlay : List ℕ → List Change → List ℕ
overlay bytes [] = bytes
overlay bytes (Write at part ∷ changes) = overlay (overwritten at part bytes) changes
overlay bytes (Sync ∷ changes) = overlay bytes changes

-- bytes after these changes with each written byte inverted
abbrev pub overlay_inverted : List ℕ → List Change → List ℕ
overlay_inverted bytes [] = bytes
overlay_inverted bytes (Write at part ∷ changes) = overlay_inverted (overwritten at (inverted part) bytes) changes
overlay_inverted bytes (Sync ∷ changes) = overlay_inverted bytes changes

-- none of them is a sync
abbrev pub AllWrites : List Change → Type 0
AllWrites [] = Unit {0}
AllWrites (Write at part ∷ changes) = AllWrites changes
AllWrites (Sync ∷ changes) = ⊥

-- nothing is pending after them
abbrev pub Settles : List Change → Type 0
Settles changes = (first : List ℕ) → (replayed (fresh first) changes).pending ≡ []
