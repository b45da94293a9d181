-- One change more of a disk in memory: what a crash may leave now, and might have left since.
use Rattle.std.proofs.Common.{Bool, true, false, if◌then◌else◌, ◌≡◌, ◌⊎◌, inl, inr, ⊎_elim, ℕ, ◌+◌, ◌≤◌, List, [], ◌∷◌, ◌++◌, length, take, refl, sym, ◌∙◌, ap, subst, arith, length-append}
use Rattle.std.proofs.lemmas.List.{take-append-le, take_all}
use Rattle.disk_trait.specs.declared.memory.Change.{Change}
use Rattle.disk_trait.specs.declared.memory.Change.TheVariants.{Write, Sync}
use Rattle.disk_trait.specs.Disk.{MayTear, MayNot, LeavesOnly, Passes}
use Rattle.disk_trait.specs.Replay.{overwritten, fresh, after, replayed, content_of, IsImage, IsImageSince, Standing}
use Rattle.disk_trait.specs.Images.{content_image}
use Rattle.disk_trait.proofs.Overlays.{replayed-push}

module _ (first first' : List ℕ) (changes changes' : List Change) (change : Change) (same : first' ≡ first) (grown : changes' ≡ changes ++ change ∷ []) where
  pub standing : replayed (fresh first') changes' ≡ after (replayed (fresh first) changes) change
  standing =
      ap (λ (bytes : List ℕ). replayed (fresh bytes) changes') same ∙ ap (replayed (fresh first)) grown ∙ replayed-push changes change (fresh first)

  pub images : (c : List ℕ) → IsImage (replayed (fresh first') changes') c → IsImage (after (replayed (fresh first) changes) change) c
  images c image = subst (λ (s : Standing). IsImage s c) standing image

  prefix : (k : ℕ) → k ≤ length changes → replayed (fresh first') (take k changes') ≡ replayed (fresh first) (take k changes)
  prefix k early =
      ap (λ (bytes : List ℕ). replayed (fresh bytes) (take k changes')) same
      ∙ ap (λ (cs : List Change). replayed (fresh first) (take k cs)) grown
      ∙ ap (replayed (fresh first)) (take-append-le k changes (change ∷ []) early)

  more : length changes' ≡ length changes + 1
  more = ap length grown ∙ length-append changes (change ∷ [])

  split : (k : ℕ) → k ≤ length changes' → (k ≤ length changes) ⊎ (length changes' ≤ k)
  split k within = grind (arith, more)

  pub passes : Passes (length changes) (length changes') (IsImageSince first changes) (IsImageSince first' changes') (IsImage (replayed (fresh first') changes'))
  passes = record {
    later = omega (arith, more);
    nothing_else = λ from c early since. ⊎_elim
        (λ within. inl (since.0, since.1, within, subst (λ (s : Standing). IsImage s c) (prefix since.0 within) since.3))
        (λ whole. inr (subst (λ (cs : List Change). IsImage (replayed (fresh first') cs) c) (take_all since.0 changes' whole) since.3))
        (split since.0 since.2);
    keeps = λ from c early since.
        (since.0, since.1, omega (arith, more, since.2), subst (λ (s : Standing). IsImage s c) (sym (prefix since.0 since.2)) since.3);
  }

-- after a write each image is one before it, torn
pub tears : (first first' : List ℕ) (changes changes' : List Change) (at : ℕ) (part : List ℕ) → first' ≡ first → changes' ≡ changes ++ Write at part ∷ []
    → MayTear at (length part) (IsImage (replayed (fresh first) changes)) (IsImage (replayed (fresh first') changes'))
tears first first' changes changes' at part same grown c image = images first first' changes changes' (Write at part) same grown c image

pub shows_write : (first first' bytes bytes' : List ℕ) (changes changes' : List Change) (at : ℕ) (part : List ℕ) → first' ≡ first → changes' ≡ changes ++ Write at part ∷ []
    → bytes ≡ content_of (replayed (fresh first) changes) → bytes' ≡ overwritten at part bytes → bytes' ≡ content_of (replayed (fresh first') changes')
shows_write first first' bytes bytes' changes changes' at part same grown shown written =
    written ∙ ap (overwritten at part) shown ∙ sym (ap content_of (standing first first' changes changes' (Write at part) same grown))

module _ (first first' bytes : List ℕ) (changes changes' : List Change) (same : first' ≡ first) (grown : changes' ≡ changes ++ Sync ∷ []) (shown : bytes ≡ content_of (replayed (fresh first) changes)) where
  pub durable : LeavesOnly bytes (IsImage (replayed (fresh first') changes'))
  durable c image = images first first' changes changes' Sync same grown c image ∙ sym shown

  pub nothing_new : MayNot (IsImage (replayed (fresh first) changes)) (IsImage (replayed (fresh first') changes'))
  nothing_new c image =
      subst (IsImage (replayed (fresh first) changes)) (sym (durable c image)) (content_image first bytes changes shown)

  pub shows_sync : bytes ≡ content_of (replayed (fresh first') changes')
  shows_sync = shown ∙ sym (ap content_of (standing first first' changes changes' Sync same grown))

-- whether the sync could be recorded or not
pub shows_pushed : (recorded : Bool) (first bytes : List ℕ) (changes changes' : List Change) → changes' ≡ (if recorded then changes ++ Sync ∷ [] else changes)
    → bytes ≡ content_of (replayed (fresh first) changes) → bytes ≡ content_of (replayed (fresh first) changes')
shows_pushed true first bytes changes changes' grown shown = shows_sync first first bytes changes changes' refl grown shown
shows_pushed false first bytes changes changes' same shown = shown ∙ ap (λ (cs : List Change). content_of (replayed (fresh first) cs)) (sym same)
