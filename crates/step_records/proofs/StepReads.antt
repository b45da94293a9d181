-- Which step bytes are the record of, by the kind that they begin with.
use Rattle.std.proofs.Common.{◌≡◌, ◌≢◌, ℕ, ◌+◌, ◌<◌, ◌≤◌, List, ◌∷◌, ◌++◌, length, take, drop, refl, ap, sym, subst, ◌∙◌, arith}
use Rattle.std.proofs.lemmas.List.{drop_at, length-take, take-append-drop}
use Rattle.kem_trait.specs.declared.kem.Kem.{Ghosts}
use Rattle.group_fields.specs.Cards.{Spells, spelling}
use Rattle.group_fields.specs.declared.card.Card.{Card}
use Rattle.group_fields.proofs.CardBytes.{spelling_is}
use Rattle.group_model.specs.Sets.{Bytes, In}
use Rattle.member_identity.specs.Identity.{HasCards}
use Rattle.reference_member.specs.Steps.{Add, Create, FitsRecord, HasBytes, Init, Input, Remove, Step, record_with, spellings}
use Rattle.step_records.specs.CardLists.{AreNoCards}
use Rattle.step_records.specs.Records.{IsNoRecord, IsRecordOf}

-- ---- lists

first-one : {x y : ℕ} {xs ys : Bytes} → x ∷ xs ≡ y ∷ ys → x ≡ y
first-one e = cc

rest-one : {x y : ℕ} {xs ys : Bytes} → x ∷ xs ≡ y ∷ ys → xs ≡ ys
rest-one e = cc

-- what stands behind fronts of one length
back-one : (a b c d : Bytes) → length a ≡ length b → a ++ c ≡ b ++ d → c ≡ d
back-one a b c d l e = sym (drop_at a c (length b) l) ∙ ap (drop (length b)) e ∙ drop_at b d (length b) refl

-- two strings in one, which is cut behind the first
pub cut-is : (bytes first rest second : Bytes) (n : ℕ) → first ≡ take n bytes → rest ≡ drop n bytes → second ≡ rest → first ++ second ≡ bytes
cut-is bytes first rest second n a b c = rw (a, c, b) (take-append-drop n bytes)

pub cut-sizes : (bytes first rest second : Bytes) (n : ℕ) → first ≡ take n bytes → length rest + n ≡ length bytes → second ≡ rest
    → length rest ≡ n → (length first ≡ n) × (length second ≡ n)
cut-sizes bytes first rest second n a long c size =
    let front : length (take n bytes) ≡ n = omega (arith, length-take n bytes, long) in
    (ap length a ∙ front, ap length c ∙ size)

module _ {K P : Type 0} (kem : Ghosts K P) where
  -- ---- creates

  create-parts : (random bytes : Bytes) → length random ≡ 32 → (step : Step) → IsRecordOf kem (2 ∷ (random ++ bytes)) step
      → (cards : List Card) × ((card : Card) → In card cards → HasBytes card) × (length cards ≤ 31)
      × (length cards ∷ spellings cards ≡ bytes)
  create-parts random bytes long step of = by step.input of.has_record.input of.is
    where
      by : (input : Input) → FitsRecord kem input → record_with kem.SET step.random input ≡ 2 ∷ (random ++ bytes)
          → (cards : List Card) × ((card : Card) → In card cards → HasBytes card) × (length cards ≤ 31)
          × (length cards ∷ spellings cards ≡ bytes)
      by (Create cards) fits is =
          (cards, fits.0, fits.1, back-one step.random random (length cards ∷ spellings cards) bytes (of.has_record.random ∙ sym long) (rest-one is))
      by _ fits is = absurd (omega (arith, first-one is))

  pub too-many : (random bytes rest : Bytes) (count : ℕ) → length random ≡ 32 → bytes ≡ count ∷ rest → 31 < count
      → IsNoRecord kem (2 ∷ (random ++ bytes))
  too-many random bytes rest count long begins many step of =
      let (cards, spelled, few, is) = create-parts random bytes long step of in
      let number : length cards ≡ count = first-one (is ∙ begins) in
      omega (arith, number, few, many)

  pub no-cards : (random bytes rest : Bytes) (count : ℕ) → length random ≡ 32 → bytes ≡ count ∷ rest → AreNoCards count rest
      → IsNoRecord kem (2 ∷ (random ++ bytes))
  no-cards random bytes rest count long begins none step of =
      let (cards, spelled, few, is) = create-parts random bytes long step of in
      none cards (record { number = first-one (is ∙ begins); spelled = spelled; are = rest-one (is ∙ begins) })

  -- ---- adds

  pub no-card : (random bytes : Bytes) → length random ≡ 32 → ((card : Card) → Spells card bytes → ⊥) → IsNoRecord kem (3 ∷ (random ++ bytes))
  no-card random bytes long none step of = by step.input of.has_record.input of.is
    where
      by : (input : Input) → FitsRecord kem input → record_with kem.SET step.random input ≡ 3 ∷ (random ++ bytes) → ⊥
      by (Add card) fits is =
          none card (subst (λ (b : Bytes). Spells card b)
          (back-one step.random random (spelling card) bytes (of.has_record.random ∙ sym long) (rest-one is)) fits)
      by _ fits is = absurd (omega (arith, first-one is))

  pub card-added : (random bytes : Bytes) (card : Card) → length random ≡ 32 → Spells card bytes
      → IsRecordOf kem (3 ∷ (random ++ bytes)) (record { input = Add card; random = random })
  card-added random bytes card long spelled =
      let own : bytes ≡ spelling card = spelling_is card bytes spelled in
      record {
        has_record = record { random = long; input = subst (λ (b : Bytes). Spells card b) own spelled };
        is = ap (λ (b : Bytes). 3 ∷ (random ++ b)) (sym own);
      }

  -- ---- removes

  pub no-target : (random bytes : Bytes) → length random ≡ 32 → length bytes ≢ 32 → IsNoRecord kem (4 ∷ (random ++ bytes))
  no-target random bytes long other step of = by step.input of.has_record.input of.is
    where
      by : (input : Input) → FitsRecord kem input → record_with kem.SET step.random input ≡ 4 ∷ (random ++ bytes) → ⊥
      by (Remove target) fits is =
          other (ap length (sym (back-one step.random random target bytes (of.has_record.random ∙ sym long) (rest-one is))) ∙ fits)
      by _ fits is = absurd (omega (arith, first-one is))

  -- ---- `init`

  pub made : (bytes rest ids : Bytes) (set byte height : ℕ) (inviter random : Bytes) → length inviter ≡ 32 → length random ≡ 32
      → bytes ≡ set ∷ rest → rest ≡ byte ∷ ids → set ≡ kem.SET → HasCards kem height → height ≡ byte → inviter ++ random ≡ ids
      → IsRecordOf kem (1 ∷ bytes) (record { input = Init inviter height; random = random })
  made bytes rest ids set byte height inviter random long_id long first second of_set has same both = record {
    has_record = record { random = long; input = (long_id, has) };
    is = rw (same, both, first, second, of_set) refl;
  }

-- ---- the kind and the random bytes in front

pub whole-is : (bytes rest first second : Bytes) (kind : ℕ) → bytes ≡ kind ∷ rest → first ≡ take 32 rest → second ≡ drop 32 rest
    → kind ∷ (first ++ second) ≡ bytes
whole-is bytes rest first second kind begins a b = rw (a, b, take-append-drop 32 rest) (sym begins)
