-- What bytes stand for before and after an append.
use Rattle.std.proofs.Common.{◌≡◌, ◌⊎◌, ⊎_elim, ℕ, ◌+◌, ◌<◌, List, [], ◌∷◌, ◌++◌, length, Result, Ok, sym, subst}
use Rattle.disk_trait.specs.Moments.{Leaves, leaves_weaker}
use Rattle.disk_trait.specs.declared.disk.Disk.{Ghosts}
use Rattle.member_journal.specs.declared.room.Room.{Room}
use Rattle.member_journal.specs.Format.{Entry, journal_of}
use Rattle.member_journal.specs.Front.{Begun, entries_at}

abbrev pub StandsFor : List Entry → List ℕ → Type 0
StandsFor entries bytes = journal_of bytes ≡ Ok entries

-- bytes that stand for these records, or for these with one more
abbrev pub IsBeforeOrAfter : List Entry → Entry → List ℕ → Type 0
IsBeforeOrAfter entries entry bytes = StandsFor entries bytes ⊎ StandsFor (entries ++ entry ∷ []) bytes

-- Whatever is read from records: what holds of it with these, and with one more, holds in a run that leaves either.
pub leaves_read : {D A : Type 0} (disks : Ghosts D) (first last : D) (entries : List Entry) (entry : Entry)
    (read : Result (List Entry) ℕ → A) (P : A → Type 0) → P (read (Ok entries)) → P (read (Ok (entries ++ entry ∷ [])))
    → Leaves disks first last (IsBeforeOrAfter entries entry)
    → Leaves disks first last (λ bytes. P (read (journal_of bytes)))
leaves_read disks first last entries entry read P before after run =
    leaves_weaker disks first last (IsBeforeOrAfter entries entry) (λ bytes. P (read (journal_of bytes)))
    (λ bytes either. ⊎_elim
    (λ stands. subst (λ r. P (read r)) (sym stands) before)
    (λ stands. subst (λ r. P (read r)) (sym stands) after)
    either)
    run

-- a record stands behind the gate that was the last
pub record Appended (old new : List ℕ) (rooms : List Room) (gate : ℕ) (payload : List ℕ) : Type 0 where
  pub begun : Begun new (rooms ++ record { place = gate + 1; length = length payload } ∷ []) (gate + 5 + length payload)
  pub long : 9 < length new
  pub entries : entries_at new (rooms ++ record { place = gate + 1; length = length payload } ∷ [])
      ≡ entries_at old rooms ++ record { place = gate + 1; bytes = payload } ∷ []
