-- A tree's nodes as a list, and the way up from a leaf.
use Rattle.std.proofs.Common.{◌≡◌, ℕ, zero, suc, ◌+◌, ◌*◌, ◌-◌, ◌/◌, ◌%◌, ◌^◌, ◌<◌, ◌≤◌, ◌⊎◌, eqb, ltb, List, [], length, get_or, sym, ap, ap₂, subst, ◌∙◌, arith, inl, inr, bit_and, bit_xor, add-one, pow_pos, pow_mono, pow-add, pow-suc, shr-shr, div-one, div-le_self, le-div_iff_mul-le, div-lt_iff_lt-mul, mul-le-mul_right}
use Rattle.std.proofs.lemmas.Bool.{cases_eq, cases_lt, cases_Bool, eq-eqb, eqb-true, le-ltb, lt-ltb, ne_eqb, or_cases}
use Rattle.std.proofs.lemmas.Nat.{and_mask}
use Rattle.std.specs.Int.Bits.{xor_add_and}
use Rattle.sha2.proofs.Facts256.{length-sha256}
use Rattle.lms_ots.specs.OneTime.{element_at, one_time_public}
use Rattle.lms_sign.specs.Nodes.{HasNodes, sibling_at}
use Rattle.lms_sign.specs.Signatures.{climbed, parent_of}
use Rattle.lms_sign.specs.Trees.{IsHeight, LmsTree, inner_node, leaf_node, node, node_over}

pub height_cases : (h : ℕ) → IsHeight h → (h ≡ 5) ⊎ (h ≡ 10)
height_cases h is =
    elim (or_cases (eqb h 5) (eqb h 10) is) [ inl five ↦ inl (eqb-true h 5 five) | inr ten ↦ inr (eqb-true h 10 ten) ]

pub height_small : (h : ℕ) → IsHeight h → h ≤ 10
height_small h is = elim (height_cases h is) [ inl five ↦ omega arith | inr ten ↦ omega arith ]

pub leaves_few : (h : ℕ) → IsHeight h → 2 ^ h ≤ 1024
leaves_few h is = pow_mono (height_small h is)

pub xor_one : (n : ℕ) → bit_xor n 1 + (n % 2) * 2 ≡ n + 1
xor_one n =
    let low : bit_and n 1 ≡ n % 2 = and_mask n 1 in
    ap (λ b. bit_xor n 1 + b * 2) (sym low) ∙ xor_add_and n 1

pub sibling_below : (n l : ℕ) → n < 2 * l → bit_xor n 1 < 2 * l
sibling_below n l h = omega (arith, xor_one n)

pub sibling_positive : (n : ℕ) → 2 ≤ n → 1 ≤ bit_xor n 1
sibling_positive n h = omega (arith, xor_one n)

pub halved : (n k : ℕ) → n / 2 ^ (suc k) ≡ n / 2 ^ k / 2
halved n k = ap (λ e. n / 2 ^ e) (sym (add-one k)) ∙ sym (shr-shr n k 1)

pub at_least_one : (n h k : ℕ) → 2 ^ h ≤ n → k ≤ h → 1 ≤ n / 2 ^ k
at_least_one n h k leaf low =
    let less : 2 ^ k ≤ 2 ^ h = pow_mono low in
    (le-div_iff_mul-le (pow_pos k)).1 (omega arith)

pub no_root : (n h k : ℕ) → 2 ^ h ≤ n → k < h → 2 ≤ n / 2 ^ k
no_root n h k leaf low =
    let less : 2 ^ (1 + k) ≤ 2 ^ h = pow_mono (omega arith) in
    (le-div_iff_mul-le (pow_pos k)).1 (omega (arith, pow-add 2 1 k))

pub root_reached : (n h : ℕ) → 2 ^ h ≤ n → n < 2 * 2 ^ h → n / 2 ^ h ≡ 1
root_reached n h low high =
    let least : 1 ≤ n / 2 ^ h = (le-div_iff_mul-le (pow_pos h)).1 (omega arith) in
    let most : n / 2 ^ h < 2 = (div-lt_iff_lt-mul (pow_pos h)).1 high in
    omega arith

pub length-leaf_node : (id : List ℕ) (number : ℕ) (key : List ℕ) → length (leaf_node id number key) ≡ 32
unfolding leaf_node
length-leaf_node id number key = length-sha256 _

pub length-inner_node : (id : List ℕ) (number : ℕ) (left right : List ℕ) → length (inner_node id number left right) ≡ 32
unfolding inner_node
length-inner_node id number left right = length-sha256 _

pub length-node_over : (tree : LmsTree) (n r : ℕ) → length (node_over tree n r) ≡ 32
unfolding node_over
length-node_over tree zero r = length-leaf_node tree.id r (one_time_public tree.id (r - 2 ^ tree.height) tree.seed)
length-node_over tree (suc n) r =
    elim (cases_Bool (ltb r (2 ^ tree.height))) [
      | inl test ↦ rw test (length-inner_node tree.id r (node_over tree n (2 * r)) (node_over tree n (2 * r + 1)))
      | inr test ↦ rw test (length-leaf_node tree.id r (one_time_public tree.id (r - 2 ^ tree.height) tree.seed))
    ]

pub length-node : (tree : LmsTree) (r : ℕ) → length (node tree r) ≡ 32
unfolding node
length-node tree r = length-node_over tree tree.height r

-- a leaf of the list
pub listed_leaf : (height : ℕ) (id seed : List ℕ) (nodes : List (List ℕ)) → HasNodes height id seed nodes
    → (r : ℕ) → 2 ^ height ≤ r → r < 2 * 2 ^ height → get_or nodes r [] ≡ leaf_node id r (one_time_public id (r - 2 ^ height) seed)
listed_leaf height id seed nodes has r low high =
    let q : ℕ = r - 2 ^ height in
    let back : 2 ^ height + q ≡ r = omega arith in
    let P : ℕ → Type 0 = λ k. get_or nodes k [] ≡ leaf_node id k (one_time_public id q seed) in
    subst P back (has.leaves q (omega arith))

-- each node of the list is the tree's
pub listed_over : (height : ℕ) (id seed : List ℕ) (nodes : List (List ℕ)) → HasNodes height id seed nodes
    → (n r : ℕ) → 1 ≤ r → r < 2 * 2 ^ height → 2 ^ height ≤ r * 2 ^ n
    → get_or nodes r [] ≡ node_over (record { height = height; id = id; seed = seed }) n r
unfolding node_over
listed_over height id seed nodes has zero r low high deep = listed_leaf height id seed nodes has r (omega arith) high
listed_over height id seed nodes has (suc n) r low high deep =
    elim (cases_lt r (2 ^ height)) [
      | inl inner ↦
          let double : r * 2 ^ (suc n) ≡ r * (2 ^ n * 2) = ap (λ p. r * p) (pow-suc 2 n) in
          rw (lt-ltb r (2 ^ height) inner)
          (has.inner r (omega arith) inner
          ∙ ap₂ (inner_node id r)
          (listed_over height id seed nodes has n (2 * r) (omega arith) (omega arith) (omega arith))
          (listed_over height id seed nodes has n (2 * r + 1) (omega arith) (omega arith) (omega arith)))
      | inr leaf ↦ rw (le-ltb r (2 ^ height) leaf) (listed_leaf height id seed nodes has r leaf high)
    ]

pub listed : (height : ℕ) (id seed : List ℕ) (nodes : List (List ℕ)) → HasNodes height id seed nodes
    → (r : ℕ) → 1 ≤ r → r < 2 * 2 ^ height → get_or nodes r [] ≡ node (record { height = height; id = id; seed = seed }) r
unfolding node
listed height id seed nodes has r low high =
    listed_over height id seed nodes has height r low high (omega (arith, mul-le-mul_right (2 ^ height) low))

-- a node of the list from itself and its sibling
pub listed_parent : (height : ℕ) (id seed : List ℕ) (nodes : List (List ℕ)) → HasNodes height id seed nodes
    → (r : ℕ) → 2 ≤ r → r < 2 * 2 ^ height
    → parent_of id r (get_or nodes r []) (get_or nodes (bit_xor r 1) []) ≡ get_or nodes (r / 2) []
unfolding parent_of
listed_parent height id seed nodes has r low high =
    let above : get_or nodes (r / 2) [] ≡ inner_node id (r / 2) (get_or nodes (2 * (r / 2)) []) (get_or nodes (2 * (r / 2) + 1) []) =
    has.inner (r / 2) (omega arith) (omega arith) in
    let pair : ℕ → ℕ → List ℕ = λ a b. inner_node id (r / 2) (get_or nodes a []) (get_or nodes b []) in
    elim (cases_eq (r % 2) 1) [
      | inl odd ↦
          let left : bit_xor r 1 ≡ 2 * (r / 2) = omega (arith, xor_one r) in
          let right : r ≡ 2 * (r / 2) + 1 = omega arith in
          rw (eq-eqb (r % 2) 1 odd) (ap₂ pair left right ∙ sym above)
      | inr even ↦
          let left : r ≡ 2 * (r / 2) = omega arith in
          let right : bit_xor r 1 ≡ 2 * (r / 2) + 1 = omega (arith, xor_one r) in
          rw (ne_eqb (r % 2) 1 even) (ap₂ pair left right ∙ sym above)
    ]

-- the way up meets the list's nodes
pub risen : (height : ℕ) (id seed : List ℕ) (nodes : List (List ℕ)) → HasNodes height id seed nodes
    → (number : ℕ) (leaf path : List ℕ) → 2 ^ height ≤ number → number < 2 * 2 ^ height → leaf ≡ get_or nodes number []
    → ((i : ℕ) → i < height → element_at path (32 * i) ≡ sibling_at nodes number i)
    → (n : ℕ) → n ≤ height → climbed id number leaf path n ≡ get_or nodes (number / 2 ^ n) []
unfolding climbed
risen height id seed nodes has number leaf path low high is siblings zero few = is ∙ ap (λ k. get_or nodes k []) (sym (div-one number))
risen height id seed nodes has number leaf path low high is siblings (suc n) few =
    let r : ℕ = number / 2 ^ n in
    let own : climbed id number leaf path n ≡ get_or nodes r [] =
    risen height id seed nodes has number leaf path low high is siblings n (omega arith) in
    ap₂ (parent_of id r) own (siblings n (omega arith))
    ∙ (listed_parent height id seed nodes has r (no_root number height n low (omega arith)) (omega (arith, div-le_self number (2 ^ n)))
    ∙ ap (λ k. get_or nodes k []) (sym (halved number n)))
