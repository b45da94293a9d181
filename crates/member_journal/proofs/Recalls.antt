-- The record that is read is the one that stands there.
use Rattle.std.proofs.Common.{◌≡◌, ℕ, zero, suc, ◌+◌, ◌<◌, ◌≤◌, List, [], ◌∷◌, ◌++◌, length, take, drop, get_or, map, slice_get, Some, refl, sym, ◌∙◌, ap, arith}
use Rattle.std.proofs.lemmas.List.{drop_all, append-nil}
use Rattle.disk_trait.specs.Disk.{ReadsPart}
use Rattle.member_journal.specs.declared.room.Room.{Room}
use Rattle.member_journal.specs.Front.{entries_at}

record_at : (content : List ℕ) (rooms : List Room) (i : ℕ) (d : Room) → i < length rooms
    → slice_get (map (λ entry. entry.bytes) (entries_at content rooms)) i ≡ Some (take (get_or rooms i d).length (drop ((get_or rooms i d).place + 4) content))
record_at content [] i d within = absurd (omega arith)
record_at content (room ∷ rooms) zero d within = refl
record_at content (room ∷ rooms) (suc i) d within = record_at content rooms i d (omega arith)

all_read : (content old new : List ℕ) (at count n : ℕ) → ReadsPart content at count old new → length old ≡ n → n ≤ count → new ≡ take n (drop at content)
all_read content old new at count n reads size whole =
    let same : count ≡ n = omega (arith, reads.count, size, whole) in
    reads.bytes ∙ ap (λ (k : ℕ). take k (drop at content) ++ drop k old) same ∙ ap (λ (l : List ℕ). take n (drop at content) ++ l) (drop_all n old (omega (arith, size)))
    ∙ append-nil (take n (drop at content))

pub record_read : (content old new : List ℕ) (rooms : List Room) (room : Room) (i count : ℕ) → i < length rooms → room ≡ get_or rooms i room
    → ReadsPart content (room.place + 4) count old new → length old ≡ room.length → room.length ≤ count
    → slice_get (map (λ entry. entry.bytes) (entries_at content rooms)) i ≡ Some new
record_read content old new rooms room i count within is reads size whole =
    record_at content rooms i room within
    ∙ ap (λ (r : Room). Some (take r.length (drop (r.place + 4) content))) (sym is)
    ∙ sym (ap (λ (l : List ℕ). Some l) (all_read content old new (room.place + 4) count room.length reads size whole))
