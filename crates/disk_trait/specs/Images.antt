-- A disk in memory keeps the laws of a disk.
use Rattle.std.proofs.Common.{◌≡◌, ℕ, ◌+◌, ◌-◌, ◌≤◌, min, List, [], ◌∷◌, ◌++◌, length, take, drop, replicate, refl}
use Rattle.std.proofs.Common.{sym, ◌∙◌, ap, subst, arith, length-append, length-drop, append_assoc}
use Rattle.std.proofs.lemmas.List.{length-take, length-replicate, take-append-le, take-take, take_min, take_all}
use Rattle.std.proofs.lemmas.List.{take_at, drop_at}
use Rattle.disk_trait.specs.declared.memory.Change.{Change}
use Rattle.disk_trait.specs.Disk.{Wrote}
use Rattle.disk_trait.specs.Replay.{overwritten, overlaid, fresh, replayed, content_of, IsTornFrom, IsImage}
use Rattle.disk_trait.specs.Replay.{IsImageSince}

-- three parts one behind the other, of which the first ends at a place
placed_wrote : (at : ℕ) (front part old : List ℕ) → length front ≡ at → take (min at (length old)) front ≡ take at old
    → Wrote at part old (front ++ part ++ drop (at + length part) old)
placed_wrote at front part old ends same = record {
  there = ap (λ (l : List ℕ). take (length part) (drop at l)) (append_assoc front part rest)
      ∙ ap (take (length part)) (drop_at front (part ++ rest) at ends) ∙ take_at part rest (length part) refl;
  elsewhere = record {
    before = ap (take (min at (length old))) (append_assoc front part rest)
        ∙ take-append-le (min at (length old)) front (part ++ rest) (omega (arith, ends)) ∙ same;
    behind = drop_at (front ++ part) rest (at + length part) (omega (arith, length-append front part, ends));
    no_shorter = omega (arith, ends, length-append (front ++ part) rest, length-append front part, length-drop (at + length part) old);
    no_longer = omega (arith, ends, length-append (front ++ part) rest, length-append front part, length-drop (at + length part) old);
  };
}
  where
    rest : List ℕ
    rest = drop (at + length part) old

pub overwritten_wrote : (at : ℕ) (part old : List ℕ) → Wrote at part old (overwritten at part old)
overwritten_wrote at part old =
    let zeros : List ℕ = replicate (at + length part - length old) 0 in
    let long : at ≤ length (old ++ zeros) = omega (arith, length-append old zeros, length-replicate {A = ℕ} (at + length part - length old) 0) in
    let ends : length (take at (old ++ zeros)) ≡ at = omega (arith, length-take at (old ++ zeros)) in
    let least : min at (length old) ≤ at = omega arith in
    placed_wrote at (take at (old ++ zeros)) part old ends
    (take-take (min at (length old)) at (old ++ zeros) least
    ∙ take-append-le (min at (length old)) old zeros (omega arith) ∙ take_min at old)

-- what a read gives is an image
pub content_torn : (settled : List ℕ) (writes : List (ℕ × List ℕ)) → IsTornFrom settled writes (overlaid settled writes)
content_torn settled [] = refl
content_torn settled (write ∷ writes) =
    (overlaid settled writes, content_torn settled writes, (overwritten_wrote write.0 write.1 (overlaid settled writes)).elsewhere)

pub content_image : (first bytes : List ℕ) (changes : List Change) → bytes ≡ content_of (replayed (fresh first) changes)
    → IsImage (replayed (fresh first) changes) bytes
content_image first bytes changes shown =
    let standing = replayed (fresh first) changes in
    subst (IsImage standing) (sym shown) (content_torn standing.settled standing.pending)

pub image_now : (first : List ℕ) (changes : List Change) (from : ℕ) (c : List ℕ) → from ≤ length changes
    → IsImage (replayed (fresh first) changes) c → IsImageSince first changes from c
image_now first changes from c early image =
    (length changes, early, omega arith, subst (λ (cs : List Change). IsImage (replayed (fresh first) cs) c) (sym (take_all (length changes) changes (omega arith))) image)

pub only_image_now : (first : List ℕ) (changes : List Change) (c : List ℕ) → IsImageSince first changes (length changes) c
    → IsImage (replayed (fresh first) changes) c
only_image_now first changes c since =
    subst (λ (cs : List Change). IsImage (replayed (fresh first) cs) c) (take_all since.0 changes since.1) since.3
