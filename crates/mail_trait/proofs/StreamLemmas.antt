-- What several reads and writes in a row make of bytes.
use Rattle.std.proofs.Common.{◌≡◌, ◌∙◌, ◌+◌, ◌≤◌, ◌<◌, ℕ, zero, suc, List, ◌++◌, Option, Some, None, IfSome, IsSomeAnd, length, take, refl, sym, ap, subst, append-nil, drop_at, length-take-le, take-add, drop, arith}
use Rattle.std.proofs.lemmas.List.{take-append-le, take_at, take-take, drop_all}
use Rattle.system_calls.specs.Stored.{Paths, SameFiles, ReadsSome, WritesSome, overwritten, written}
use Rattle.system_calls.specs.declared.stored.StoredFile.{StoredFile}
use Rattle.mail_trait.specs.Streams.{fresh_with}
use borrow.Rule.Slice.PartMut.{put_mid, post_of}

-- the front of a buffer after a read of n bytes into its part from a on
pub take-filled : (m a k n : ℕ) (xs ys : List ℕ) → m ≡ a + n → a ≤ length xs → n ≤ length ys →
    take m (put_mid a k xs ys) ≡ take a xs ++ take n ys
take-filled m a k n xs ys is within fits =
    let front = length-take-le a xs within in
    let rest = post_of a k xs in
    ap (λ l. take l (put_mid a k xs ys)) is
    ∙ take-add a n (put_mid a k xs ys)
    ∙ ap (λ l. l ++ take n (drop a (put_mid a k xs ys))) (take_at (take a xs) (ys ++ rest) a front)
    ∙ ap (λ l. take a xs ++ take n l) (drop_at (take a xs) (ys ++ rest) a front)
    ∙ ap (λ l. take a xs ++ l) (take-append-le n ys rest fits)

-- the front of a list and more of it, from a part that reaches to its end
pub take-more : (m a n k : ℕ) (xs : List ℕ) → m ≡ a + n → n ≤ k → take m xs ≡ take a xs ++ take n (take k (drop a xs))
take-more m a n k xs is fits =
    ap (λ i. take i xs) is ∙ take-add a n xs ∙ ap (λ l. take a xs ++ l) (sym (take-take n k (drop a xs) fits))

-- bytes that are written at the end are appended
pub overwritten-end : (at : ℕ) (bytes old : List ℕ) → length old ≡ at → overwritten at bytes old ≡ old ++ bytes
overwritten-end at bytes old end =
    let beyond : length old ≤ at + length bytes = omega arith in
    ap (λ l. l ++ bytes ++ drop (at + length bytes) old) (take_at old _ at end)
    ∙ ap (λ l. old ++ bytes ++ l) (drop_all (at + length bytes) old beyond)
    ∙ append-nil (old ++ bytes)

-- the next bytes are written to a file that was just made
pub write_more : (m at n k : ℕ) (bytes : List ℕ) (old new : Option StoredFile) → m ≡ at + n → at ≤ length bytes → n ≤ k →
    WritesSome at n (take k (drop at bytes)) old new → old ≡ Some (fresh_with (take at bytes)) → new ≡ Some (fresh_with (take m bytes))
write_more m at zero k bytes old new is within fits writes was =
    let same : at ≡ m = omega arith in
    writes.nothing refl ∙ was ∙ ap (λ i. Some (fresh_with (take i bytes))) same
write_more m at (suc n) k bytes old new is within fits writes was =
    let part = take (suc n) (take k (drop at bytes)) in
    let there = subst (λ (o : Option StoredFile). IsSomeAnd o (λ file. 0 < suc n → new ≡ Some (written at part file))) was writes.there in
    let some : 0 < suc n = omega arith in
    there some
    ∙ ap (λ l. Some (fresh_with l)) (overwritten-end at part (take at bytes) (length-take-le at bytes within) ∙ sym (take-more m at (suc n) k bytes is fits))

-- the next bytes of a file are read
pub read_more : (m at n : ℕ) (content done old new : List ℕ) → m ≡ at + n → done ≡ take at content → ReadsSome content at n old new →
    done ++ take n new ≡ take m content
read_more m at n content done old new is front reads =
    ap (λ l. done ++ take n l) reads.bytes
    ∙ ap (λ l. done ++ l) (take_at (take n (drop at content)) (drop n old) n (length-take-le n (drop at content) reads.there))
    ∙ ap (λ l. l ++ take n (drop at content)) front
    ∙ sym (take-add at n content)
    ∙ ap (λ i. take i content) (sym is)

-- the same where the file may be missing
read_found : (stored : Option StoredFile) (items done old new : List ℕ) (m at n : ℕ) → items ≡ done ++ take n new → m ≡ at + n →
    IfSome stored (λ file. done ≡ take at file.bytes) → IsSomeAnd stored (λ file. ReadsSome file.bytes at n old new) →
    IfSome stored (λ file. items ≡ take m file.bytes)
read_found None items done old new m at n grown is front reads = tt
read_found (Some file) items done old new m at n grown is front reads = grown ∙ read_more m at n file.bytes done old new is front reads

-- and where no path has changed before
pub read_on : (files before : Paths) (path from : List ℕ) (items done old new : List ℕ) (m at n : ℕ) → from ≡ path → SameFiles files before →
    items ≡ done ++ take n new → m ≡ at + n → IfSome (files path) (λ file. done ≡ take at file.bytes) →
    IsSomeAnd (before from) (λ file. ReadsSome file.bytes at n old new) → IfSome (files path) (λ file. items ≡ take m file.bytes)
read_on files before path from items done old new m at n kept same grown is front reads =
    read_found (files path) items done old new m at n grown is front
    (subst (λ (o : Option StoredFile). IsSomeAnd o (λ file. ReadsSome file.bytes at n old new)) (ap before kept ∙ same path) reads)
