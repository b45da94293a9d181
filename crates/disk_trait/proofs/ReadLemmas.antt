-- One read behind another, into the front of a buffer.
use Rattle.std.proofs.Common.{◌≡◌, ◌∙◌, ◌+◌, ◌-◌, ◌<◌, ◌≤◌, ⊎_elim, ℕ, List, ◌++◌, Option, Some, None, length, take, drop, sym, ap, subst, arith, length-drop, IsSomeAnd, append_assoc}
use Rattle.std.proofs.Math.Seq.{take-add}
use Rattle.std.proofs.lemmas.List.{length-take-le, take_all, take_at, drop_at, drop-drop, take_rest}
use Rattle.std.proofs.lemmas.Slice.{take-put_mid}
use borrow.Rule.Slice.PartMut.{put_mid}
use Rattle.system_calls.specs.Stored.{ReadsSome}
use Rattle.system_calls.specs.declared.stored.StoredFile.{StoredFile}
use Rattle.disk_trait.specs.Disk.{ReadsPart}
use Rattle.disk_trait.specs.LockedFile.{bytes_of}

pub reads_of : (stored : Option StoredFile) (place n : ℕ) (old new : List ℕ) → IsSomeAnd stored (λ file. ReadsSome file.bytes place n old new)
    → ReadsSome (bytes_of stored) place n old new
reads_of None place n old new reads = absurd reads
reads_of (Some file) place n old new reads = reads

module _ (at place from n room : ℕ) (content start cur part buf : List ℕ)
    (within : from ≤ length (drop at content)) (below : from ≤ length cur) (rest : room ≡ length cur - from)
    (so_far : cur ≡ take from (drop at content) ++ drop from start) (here : place ≡ at + from)
    (whole : length (put_mid from room cur buf) ≡ length cur) (size : length buf ≡ room)
    (is : part ≡ take room (drop from cur)) (reads : ReadsSome content place n part buf) where
  front : length (take from (drop at content)) ≡ from
  front = length-take-le from (drop at content) within

  tail : part ≡ drop from start
  tail =
      is ∙ ap (λ k. take k (drop from cur)) rest ∙ take_rest cur from ∙ ap (drop from) so_far
      ∙ drop_at (take from (drop at content)) (drop from start) from front

  left : drop place content ≡ drop from (drop at content)
  left = ap (λ k. drop k content) here ∙ sym (drop-drop from at content)

  pub filled_more : put_mid from room cur buf ≡ take (from + n) (drop at content) ++ drop (from + n) start
  filled_more =
      let size_of : length cur ≡ from + length buf = omega (arith, size, rest, below) in
      sym (take_all (length cur) (put_mid from room cur buf) (omega (arith, whole)))
      ∙ take-put_mid from room cur buf (length cur) size_of below
      ∙ ap (λ l. l ++ buf) (ap (take from) so_far ∙ take_at (take from (drop at content)) (drop from start) from front)
      ∙ ap (λ l. take from (drop at content) ++ l) (reads.bytes ∙ ap (λ l. take n l ++ drop n part) left ∙ ap (λ l. take n (drop from (drop at content)) ++ drop n l) tail)
      ∙ ap (λ l. take from (drop at content) ++ (take n (drop from (drop at content)) ++ l)) (drop-drop n from start)
      ∙ sym (append_assoc (take from (drop at content)) (take n (drop from (drop at content))) (drop (from + n) start))
      ∙ ap (λ l. l ++ drop (from + n) start) (sym (take-add from n (drop at content)))

  pub there_more : from + n ≤ length (drop at content)
  there_more = omega (arith, within, reads.there, ap length left, length-drop from (drop at content))

  pub fits_more : (greatest : ℕ) → place + n ≤ greatest → at + (from + n) ≤ greatest
  fits_more greatest fits = omega (arith, here, fits)

  -- where nothing comes any more, all was read
  pub read_all : n ≡ 0 → from < length cur → length cur ≡ length start → ReadsPart content at from start (put_mid from room cur buf)
  read_all nothing more same = record {
    count = ⊎_elim
        (λ empty. absurd (omega (arith, ap length tail, ap length empty, length-drop from start, more, same)))
        (λ ended. omega (arith, ap length ended, ap length left, length-drop from (drop at content), within, below, same))
        (reads.none nothing);
    bytes = subst (λ k. put_mid from room cur buf ≡ take k (drop at content) ++ drop k start) (omega (arith, nothing)) filled_more;
  }
