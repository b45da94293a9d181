-- What code computes from words and bytes, step by step, as the definitions have it.
use Rattle.std.proofs.Common.{◌≡◌, ℕ, suc, ◌+◌, ◌*◌, ◌/◌, ◌%◌, ◌<◌, Option, Some, None, List, [], ◌∷◌, length, map, take, get_or, flat_map, option_map, IsPermutation, ℤ, pos, ◌-ℤ◌, refl, sym, ap, ◌∙◌, arith}
use Rattle.std.specs.List.{range_with_len}
use Rattle.std.specs.List.Sorted.{IsNonDecreasing}
use Rattle.byteorder.specs.Endian.{little_bytes}
use Rattle.std.proofs.lemmas.List.{ext_get_or}
use Rattle.std.proofs.lemmas.List.FromFn.{length-map-range_with_len, get_or-map-range_with_len}
use Rattle.std.proofs.lemmas.List.Folds.{flat_map-map}
use Rattle.ntru_codec.specs.Mixed.{Spells, IsSpelling}
use Rattle.ntru_codec.specs.Small.{coefficient_of, SpellsSmall}
use Rattle.ntru_model.specs.Parameters.{Parameters}
use Rattle.kem_trait.specs.Streams.{Stream, behind}
use Rattle.ntru_model.specs.Draws.{small_coefficient, small_draw, marked, ascending, short_draw, bytes_draw, Invertible, first_invertible}
use Rattle.ntru_model.specs.Encodings.{mixed_read, small_read, public_read, rounded_read}
use Rattle.ntru_model.proofs.Injective.{mixed_injective, small_injective}
use Rattle.ntru_model.proofs.Readers.{mixed_read_is, mixed_read_none, small_read_is}
use Rattle.ntru_model.proofs.Sorting.{ascending_is}

-- a list by its elements
pub listed_by : {X : Type 0} (f : ℕ → X) (d : X) (n : ℕ) (xs : List X) → length xs ≡ n → ((k : ℕ) → k < n → get_or xs k d ≡ f k) → xs ≡ map f (range_with_len 0 n)
listed_by f d n xs len h =
    ext_get_or d xs (map f (range_with_len 0 n)) (len ∙ sym (length-map-range_with_len f 0 n)) (λ k below.
    let lt : k < n = omega arith in
    h k lt ∙ sym (get_or-map-range_with_len f 0 n k k d lt (let e : 0 + k ≡ k = omega arith in e)))

-- draws from the words that were taken
map-map : {X Y Z : Type 0} (g : Y → Z) (f : X → Y) (xs : List X) → map g (map f xs) ≡ map (λ x. g (f x)) xs
map-map g f [] = refl
map-map g f (x ∷ xs) = ap (λ zs. g (f x) ∷ zs) (map-map g f xs)

pub small_draw_from : (p : ℕ) (words : Stream) (taken : List ℕ) → length taken ≡ p → ((k : ℕ) → k < p → get_or taken k 0 ≡ words k) → map (λ word. small_coefficient word) taken ≡ small_draw p words
unfolding small_draw
small_draw_from p words taken len h = ap (map (λ word. small_coefficient word)) (listed_by words 0 p taken len h) ∙ map-map (λ word. small_coefficient word) words (range_with_len 0 p)

pub short_draw_from : (p w : ℕ) (words : Stream) (marks sorted : List ℕ) → length marks ≡ p → ((k : ℕ) → k < p → get_or marks k 0 ≡ marked w k (words k))
    → IsPermutation marks sorted → IsNonDecreasing sorted → map (λ word. coefficient_of (word % 4)) sorted ≡ short_draw p w words
unfolding short_draw
short_draw_from p w words marks sorted len h moved up =
    ap (map (λ word. coefficient_of (word % 4)))
    (sym (ascending_is marks sorted moved up) ∙ ap ascending (listed_by (λ k. marked w k (words k)) 0 p marks len h))

pub bytes_draw_from : (n : ℕ) (words : Stream) (taken : List ℕ) → length taken ≡ (n + 3) / 4 → ((k : ℕ) → k < (n + 3) / 4 → get_or taken k 0 ≡ words k)
    → take n (flat_map (λ word. little_bytes 4 word) taken) ≡ bytes_draw n words
unfolding bytes_draw
bytes_draw_from n words taken len h =
    ap (λ xs. take n (flat_map (λ word. little_bytes 4 word) xs)) (listed_by words 0 ((n + 3) / 4) taken len h)
    ∙ ap (take n) (flat_map-map (λ word. little_bytes 4 word) words (range_with_len 0 ((n + 3) / 4)))

-- the tries of a draw, one after the other
pub first_none : (p : ℕ) (draw : Stream → List ℤ) (invert : List ℤ → Option (List ℤ)) (words : Stream) → first_invertible p 0 draw invert words ≡ None
unfolding first_invertible
first_none p draw invert words = refl

abbrev with_inverse : Stream → List ℤ → Option (List ℤ) → Option Invertible → Option Invertible
with_inverse after a (Some inverse) others = Some (record { drawn = a; inverse = inverse; left = after })
with_inverse after a None others = others

tried : (p n : ℕ) (draw : Stream → List ℤ) (invert : List ℤ → Option (List ℤ)) (words : Stream)
    → first_invertible p (suc n) draw invert words ≡ with_inverse (behind p words) (draw words) (invert (draw words)) (first_invertible p n draw invert (behind p words))
unfolding first_invertible
tried p n draw invert words =
    elim (invert (draw words)) as (λ o. elim o as (λ _. Option Invertible) [
      | Some inverse ↦ Some (record { drawn = draw words; inverse = inverse; left = behind p words })
      | None ↦ first_invertible p n draw invert (behind p words)
    ] ≡ with_inverse (behind p words) (draw words) o (first_invertible p n draw invert (behind p words))) [ Some inverse ↦ refl | None ↦ refl ]

pub first_here : (p n : ℕ) (draw : Stream → List ℤ) (invert : List ℤ → Option (List ℤ)) (words : Stream) (b : List ℤ) → invert (draw words) ≡ Some b
    → first_invertible p (suc n) draw invert words ≡ Some (record { drawn = draw words; inverse = b; left = behind p words })
first_here p n draw invert words b e =
    tried p n draw invert words ∙ ap (λ o. with_inverse (behind p words) (draw words) o (first_invertible p n draw invert (behind p words))) e

pub first_later : (p n : ℕ) (draw : Stream → List ℤ) (invert : List ℤ → Option (List ℤ)) (words : Stream) → invert (draw words) ≡ None
    → first_invertible p (suc n) draw invert words ≡ first_invertible p n draw invert (behind p words)
first_later p n draw invert words e =
    tried p n draw invert words ∙ ap (λ o. with_inverse (behind p words) (draw words) o (first_invertible p n draw invert (behind p words))) e

-- what the bytes of digits are read as
pub mixed_read_from : (n m : ℕ) (bytes rs : List ℕ) → m < 65536 → length rs ≡ n → Spells m bytes rs → mixed_read n m bytes ≡ Some rs
mixed_read_from n m bytes rs few len h =
    mixed_read_is n m bytes rs len h (λ ds ld s. mixed_injective m ds rs few (ld ∙ sym len) s.below h.below (s.encoded ∙ sym h.encoded))

pub small_read_from : (n : ℕ) (bytes : List ℕ) (a : List ℤ) → n % 4 ≡ 1 → length a ≡ n → SpellsSmall bytes a → small_read n bytes ≡ Some a
small_read_from n bytes a one len h =
    small_read_is n bytes a len h (λ b lb s. small_injective b a (omega arith) (lb ∙ sym len) s.small h.small (s.encoded ∙ sym h.encoded))

pub public_read_from : (s : Parameters) (bytes rs : List ℕ) → s.q < 65536 → length rs ≡ s.p → Spells s.q bytes rs → public_read s bytes ≡ Some (map (λ r. pos r -ℤ pos (s.q / 2)) rs)
public_read_from s bytes rs few len h = ap (option_map (map (λ r. pos r -ℤ pos (s.q / 2)))) (mixed_read_from s.p s.q bytes rs few len h)

pub public_read_none : (s : Parameters) (bytes : List ℕ) → (IsSpelling s.p s.q bytes → ⊥) → public_read s bytes ≡ None
public_read_none s bytes none = ap (option_map (map (λ r. pos r -ℤ pos (s.q / 2)))) (mixed_read_none s.p s.q bytes none)

pub rounded_read_from : (s : Parameters) (bytes rs : List ℕ) → (s.q + 2) / 3 < 65536 → length rs ≡ s.p → Spells ((s.q + 2) / 3) bytes rs
    → rounded_read s bytes ≡ Some (map (λ r. pos (3 * r) -ℤ pos (s.q / 2)) rs)
rounded_read_from s bytes rs few len h = ap (option_map (map (λ r. pos (3 * r) -ℤ pos (s.q / 2)))) (mixed_read_from s.p ((s.q + 2) / 3) bytes rs few len h)

pub rounded_read_none : (s : Parameters) (bytes : List ℕ) → (IsSpelling s.p ((s.q + 2) / 3) bytes → ⊥) → rounded_read s bytes ≡ None
rounded_read_none s bytes none = ap (option_map (map (λ r. pos (3 * r) -ℤ pos (s.q / 2)))) (mixed_read_none s.p ((s.q + 2) / 3) bytes none)
