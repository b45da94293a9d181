-- The stories of `init` and `card`, by the ways in which they go.
use Rattle.std.proofs.Common.{◌≡◌, inr, ℕ, Bool, true, false, not, is_some, List, [], ◌∷◌, ◌++◌, length, Option, Some, None, refl, sym, ◌∙◌, ap}
use Rattle.std.proofs.lemmas.List.{length-map}
use Rattle.std.specs.Option.{option_map, option_to_list}
use Rattle.disk_trait.specs.declared.disk.Disk.{Ghosts as DiskGhosts}
use Rattle.group_fields.specs.declared.ids.MemberId.{MemberId}
use Rattle.kem_trait.specs.declared.kem.Kem.{Ghosts as KemGhosts}
use Rattle.group_fields.specs.Cards.{spelling}
use Rattle.group_fields.specs.Layouts.{Spells}
use Rattle.member_identity.specs.Identity.{card_bytes, card_of, card_with, secret_from}
use Rattle.member_journal.specs.Format.{Entry}
use Rattle.member_journal.specs.Journal.{entries, next_place, places, places-entries}
use Rattle.member_journal.specs.declared.journal.Journal.{Journal}
use Rattle.mailbox_cli.specs.Call.{Answers, LeavesAsked, LeavesEnd}
use Rattle.mailbox_cli.specs.Lines.{made_line}
use Rattle.mailbox_cli.specs.Opening.{IsNext}
use Rattle.mailbox_cli.specs.Steps.{Step, has_key, init_record, steps_behind, steps_in, tree_height}
use Rattle.mailbox_cli.specs.Story.{Event, plans, refuses, refuses_or, first, says, init_step, seed_story, init_story, card_story, puts_card, draws_then}
use Rattle.mailbox_cli.specs.declared.ended.Ended.{Ended}
use Rattle.mailbox_cli.specs.declared.ended.Refusal.TheVariants.{NoUsableKey, AlreadyMade, NotMade}
use Rattle.mailbox_cli.proofs.Records.{member_of-spelled, none_of_length}

module _ {K L : Type 0} (kem : KemGhosts K L) where
  module _ (inviter : Option MemberId) (random : List ℕ) where
    -- the story of random bytes, by whether they give a usable key
    abbrev by_key : Bool → List Event
    by_key usable = refuses_or (first ((not usable, NoUsableKey) ∷ [])) (plans (init_step inviter random) ∷ says made_line)

    pub seed_plans : has_key kem random ≡ true → seed_story kem inviter random ≡ plans (init_step inviter random) ∷ says made_line
    seed_plans usable = ap by_key usable

    pub seed_refuses : has_key kem random ≡ false → seed_story kem inviter random ≡ refuses NoUsableKey
    seed_refuses usable = ap by_key usable

    -- memory may run out before it
    pub seed_lacks : (ended : Ended) → Answers 9 None ended → (asked : ℕ)
        → LeavesAsked (seed_story kem inviter random) ended asked asked × LeavesEnd (seed_story kem inviter random) ended
    seed_lacks ended answer asked = either (has_key kem random)
      where
        either : (usable : Bool) → LeavesAsked (by_key usable) ended asked asked × LeavesEnd (by_key usable) ended
        either true = (refl, inr answer)
        either false = (refl, inr answer)

  no_entries : {D : Type 0} {disk : DiskGhosts D} (journal : Journal D disk) → length (places journal) ≡ 0 → entries journal ≡ []
  no_entries journal none = none_of_length (entries journal)
      (sym (ap length (places-entries journal) ∙ length-map (entries journal) (λ (entry : Entry). entry.place)) ∙ none)

  -- the record of an `init` may be the first
  pub init_next : {D : Type 0} {disk : DiskGhosts D} (journal : Journal D disk) (bytes : List ℕ) (step : Step) → length (places journal) ≡ 0
      → Spells (init_record kem.SET) bytes step → has_key kem step.random ≡ true → IsNext kem journal bytes [] step
  init_next journal bytes step none spelled usable = record {
    before = ap (steps_in kem) (no_entries journal none);
    after = (λ i. steps_in kem (no_entries journal none i ++ record { place = next_place journal; bytes = bytes } ∷ []))
        ∙ ap (λ (m : Option Step). steps_behind m (next_place journal) []) (member_of-spelled kem bytes step spelled usable);
  }

  -- the card of a member with a usable key
  pub card_there : (step : Step) → has_key kem step.random ≡ true → (card : List ℕ) × (card_bytes kem tree_height step ≡ Some card)
  unfolding card_bytes card_of
  card_there step usable = there (card_with kem tree_height step) spelling (secret_from kem step.random) usable
    where
      there : {A B : Type 0} (f : A → B) (g : B → List ℕ) (secret : Option A) → is_some secret ≡ true
          → (card : List ℕ) × (option_map g (option_map f secret) ≡ Some card)
      there f g None usable = cc
      there f g (Some secret) usable = (g (f secret), refl)

  pub card_puts : (member : Option Step) (step : Step) (card : List ℕ) → member ≡ Some step → card_bytes kem tree_height step ≡ Some card
      → card_story kem (option_to_list member) ≡ puts_card (Some card)
  card_puts member step card is made = ap (λ (m : Option Step). card_story kem (option_to_list m)) is ∙ ap puts_card made

  pub card_refuses : (member : Option Step) → member ≡ None → card_story kem (option_to_list member) ≡ refuses NotMade
  card_refuses member is = ap (λ (m : Option Step). card_story kem (option_to_list m)) is

  pub init_refuses : (inviter : Option MemberId) (member : Option Step) (seeds : List (List ℕ)) → is_some member ≡ true
      → init_story kem inviter (option_to_list member) seeds ≡ refuses AlreadyMade
  init_refuses inviter None seeds some = cc
  init_refuses inviter (Some step) seeds some = refl

  pub init_draws : (inviter : Option MemberId) (member : Option Step) (seeds : List (List ℕ)) → is_some member ≡ false
      → init_story kem inviter (option_to_list member) seeds ≡ draws_then (λ random seeds'. seed_story kem inviter random) seeds
  init_draws inviter None seeds none = refl
  init_draws inviter (Some step) seeds none = cc

pub none_listed : (member : Option Step) → is_some member ≡ false → option_to_list member ≡ []
none_listed None none = refl
none_listed (Some step) none = cc
