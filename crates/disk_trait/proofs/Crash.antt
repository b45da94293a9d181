-- The images that a crash puts in place.
use Rattle.std.proofs.Common.{◌≡◌, ◌≢◌, ℕ, zero, suc, ◌≤◌, List, [], ◌∷◌, ◌++◌, length, refl, sym, ◌∙◌, ap, arith}
use Rattle.disk_trait.specs.declared.memory.Change.{Change}
use Rattle.disk_trait.specs.declared.memory.Change.TheVariants.{Write, Sync}
use Rattle.disk_trait.specs.Replay.{overwritten, overlaid, overlay, overlay_inverted, inverted_writes, Standing, fresh, after, replayed, AllWrites, Settles, crash_image}
use Rattle.disk_trait.proofs.Overlays.{content_of-replayed, length-overlay, length-overlay_inverted}

replayed-append : (changes more : List Change) (standing : Standing) → replayed standing (changes ++ more) ≡ replayed (replayed standing changes) more
replayed-append [] more standing = refl
replayed-append (change ∷ changes) more standing = replayed-append changes more (after standing change)

pub overlay-append : (changes more : List Change) (bytes : List ℕ) → overlay bytes (changes ++ more) ≡ overlay (overlay bytes changes) more
overlay-append [] more bytes = refl
overlay-append (Write at part ∷ changes) more bytes = overlay-append changes more (overwritten at part bytes)
overlay-append (Sync ∷ changes) more bytes = overlay-append changes more bytes

-- writes alone settle nothing
settled-replayed : (writes : List Change) (standing : Standing) → AllWrites writes → (replayed standing writes).settled ≡ standing.settled
settled-replayed [] standing only = refl
settled-replayed (Write at part ∷ writes) standing only = settled-replayed writes (after standing (Write at part)) only
settled-replayed (Sync ∷ writes) standing only = absurd only

inverted-replayed : (writes : List Change) (standing : Standing) (bytes : List ℕ) → AllWrites writes
    → overlaid bytes (inverted_writes (replayed standing writes).pending) ≡ overlay_inverted (overlaid bytes (inverted_writes standing.pending)) writes
inverted-replayed [] standing bytes only = refl
inverted-replayed (Write at part ∷ writes) standing bytes only = inverted-replayed writes (after standing (Write at part)) bytes only
inverted-replayed (Sync ∷ writes) standing bytes only = absurd only

module _ (first : List ℕ) (changes kept pending : List Change) (parts : kept ++ pending ≡ changes) (settles : Settles kept) (only : AllWrites pending) where
  before : Standing
  before = replayed (fresh first) kept

  whole : replayed (fresh first) changes ≡ replayed (replayed (fresh first) kept) pending
  whole = ap (replayed (fresh first)) (sym parts) ∙ replayed-append kept pending (fresh first)

  settled_is : (replayed (fresh first) kept).settled ≡ overlay first kept
  settled_is =
      sym (ap (overlaid (replayed (fresh first) kept).settled) (settles first)) ∙ content_of-replayed kept (fresh first)

  pub keeps_none : overlay first kept ≡ crash_image 0 (replayed (fresh first) changes)
  keeps_none = sym settled_is ∙ sym (settled-replayed pending (replayed (fresh first) kept) only) ∙ sym (ap (λ (s : Standing). s.settled) whole)

  pub overlay_whole : overlay (overlay first kept) pending ≡ overlay first changes
  overlay_whole = sym (overlay-append kept pending first) ∙ ap (overlay first) parts

  pub keeps_all : overlay (overlay first kept) pending ≡ crash_image 1 (replayed (fresh first) changes)
  keeps_all = overlay_whole ∙ sym (content_of-replayed changes (fresh first))

  pub inverts_all : overlay_inverted (overlay first kept) pending ≡ crash_image 2 (replayed (fresh first) changes)
  inverts_all =
      ap (λ (bytes : List ℕ). overlay_inverted bytes pending) (sym settled_is)
      ∙ sym (ap (λ (ws : List (ℕ × List ℕ)). overlay_inverted (overlaid (replayed (fresh first) kept).settled (inverted_writes ws)) pending) (settles first))
      ∙ sym (inverted-replayed pending (replayed (fresh first) kept) (replayed (fresh first) kept).settled only)
      ∙ sym (ap (λ (bytes : List ℕ). overlaid bytes (inverted_writes (replayed (replayed (fresh first) kept) pending).pending)) (settled-replayed pending (replayed (fresh first) kept) only))
      ∙ sym (ap (λ (s : Standing). overlaid s.settled (inverted_writes s.pending)) whole)

  pub kept_fits : length (overlay first kept) ≤ length (overlay first changes)
  kept_fits = omega (arith, length-overlay pending (overlay first kept), ap length overlay_whole)

  pub inverted_fits : length (overlay_inverted (overlay first kept) pending) ≡ length (overlay first changes)
  inverted_fits = length-overlay_inverted pending (overlay first kept) (overlay first kept) refl ∙ ap length overlay_whole

-- two and more stand for the third image
pub crash_image_more : (image : ℕ) (standing : Standing) → image ≢ 0 → image ≢ 1 → crash_image image standing ≡ crash_image 2 standing
crash_image_more zero standing some more = absurd (some refl)
crash_image_more (suc zero) standing some more = absurd (more refl)
crash_image_more (suc (suc n)) standing some more = refl
