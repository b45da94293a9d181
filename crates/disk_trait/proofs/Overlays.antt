-- How long bytes are after writes, and how replays go on.
use Rattle.std.proofs.Common.{◌≡◌, ℕ, ◌+◌, ◌-◌, ◌<◌, ◌≤◌, max, List, [], ◌∷◌, ◌++◌, length, take, drop, get_or, replicate, refl, ◌∙◌, ap, arith, length-append, length-drop}
use Rattle.std.proofs.lemmas.List.{at_drop_more, take_more, length-map, length-take, length-replicate}
use Rattle.disk_trait.specs.declared.memory.Change.{Change}
use Rattle.disk_trait.specs.declared.memory.Change.TheVariants.{Write, Sync}
use Rattle.disk_trait.specs.Replay.{overwritten, overlay, overlay_inverted, inverted, Standing, fresh, after, replayed, content_of, Settles}

pub length-overwritten : (at : ℕ) (part bytes : List ℕ) → length (overwritten at part bytes) ≡ max (length bytes) (at + length part)
length-overwritten at part bytes =
    let zeros : List ℕ = replicate (at + length part - length bytes) 0 in
    let front = take at (bytes ++ zeros) in
    omega (
      arith,
      length-append (front ++ part) (drop (at + length part) bytes),
      length-append front part,
      length-drop (at + length part) bytes,
      length-take at (bytes ++ zeros),
      length-append bytes zeros,
      length-replicate {A = ℕ} (at + length part - length bytes) 0,
    )

pub length-overlay : (changes : List Change) (bytes : List ℕ) → length bytes ≤ length (overlay bytes changes)
length-overlay [] bytes = omega arith
length-overlay (Write at part ∷ changes) bytes = omega (arith, length-overlay changes (overwritten at part bytes), length-overwritten at part bytes)
length-overlay (Sync ∷ changes) bytes = length-overlay changes bytes

pub length-inverted : (part : List ℕ) → length (inverted part) ≡ length part
length-inverted part = length-map part (λ byte. 255 - byte)

-- the length that changes lead to depends on the length before them alone, and is the same with inverted bytes
pub length-overlay_inverted : (changes : List Change) (bytes other : List ℕ) → length bytes ≡ length other
    → length (overlay_inverted bytes changes) ≡ length (overlay other changes)
length-overlay_inverted [] bytes other same = same
length-overlay_inverted (Write at part ∷ changes) bytes other same =
    length-overlay_inverted changes (overwritten at (inverted part) bytes) (overwritten at part other)
    (omega (arith, same, length-overwritten at (inverted part) bytes, length-overwritten at part other, length-inverted part))
length-overlay_inverted (Sync ∷ changes) bytes other same = length-overlay_inverted changes bytes other same

pub length-overlay_inverted_le : (changes : List Change) (bytes : List ℕ) → length bytes ≤ length (overlay_inverted bytes changes)
length-overlay_inverted_le changes bytes = omega (arith, length-overlay changes bytes, length-overlay_inverted changes bytes bytes refl)

-- one change more
pub replayed-push : (changes : List Change) (change : Change) (standing : Standing) → replayed standing (changes ++ change ∷ []) ≡ after (replayed standing changes) change
replayed-push [] change standing = refl
replayed-push (c ∷ changes) change standing = replayed-push changes change (after standing c)

-- the content is that of the writes, in order
pub content_of-replayed : (changes : List Change) (standing : Standing) → content_of (replayed standing changes) ≡ overlay (content_of standing) changes
content_of-replayed [] standing = refl
content_of-replayed (Write at part ∷ changes) standing = content_of-replayed changes (after standing (Write at part))
content_of-replayed (Sync ∷ changes) standing = content_of-replayed changes (after standing Sync)

-- a sync leaves nothing pending
pub settles_at_sync : (changes : List Change) (i : ℕ) (d : Change) → i < length changes → get_or changes i d ≡ Sync → Settles (take (i + 1) changes)
settles_at_sync changes i d within is first =
    ap (λ (cs : List Change). (replayed (fresh first) cs).pending) (take_more changes i d within)
    ∙ ap (λ (c : Change). (replayed (fresh first) (take i changes ++ c ∷ [])).pending) is
    ∙ ap (λ (s : Standing). s.pending) (replayed-push (take i changes) Sync (fresh first))

-- the write at an index is the next of what is left
pub overlay_next : (changes : List Change) (i : ℕ) (d : Change) (at : ℕ) (part bytes : List ℕ) → i < length changes → get_or changes i d ≡ Write at part
    → overlay bytes (drop i changes) ≡ overlay (overwritten at part bytes) (drop (i + 1) changes)
overlay_next changes i d at part bytes within is =
    at_drop_more (overlay bytes) changes i d within ∙ ap (λ (c : Change). overlay bytes (c ∷ drop (i + 1) changes)) is

pub overlay_inverted_next : (changes : List Change) (i : ℕ) (d : Change) (at : ℕ) (part bytes : List ℕ) → i < length changes → get_or changes i d ≡ Write at part
    → overlay_inverted bytes (drop i changes) ≡ overlay_inverted (overwritten at (inverted part) bytes) (drop (i + 1) changes)
overlay_inverted_next changes i d at part bytes within is =
    at_drop_more (overlay_inverted bytes) changes i d within ∙ ap (λ (c : Change). overlay_inverted bytes (c ∷ drop (i + 1) changes)) is
