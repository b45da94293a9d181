-- A list of a tree's nodes, each at the place of its number.
use Rattle.std.specs.Prelude.{◌≡◌, ℕ, ◌+◌, ◌*◌, ◌<◌, ◌^◌, ◌/◌, List, [], length, get_or, bit_xor}
use Rattle.lms_ots.specs.OneTime.{one_time_public}
use Rattle.lms_sign.specs.Trees.{IsHeight, inner_node, leaf_node}

-- the second half are the leaves
abbrev pub AreLeaves : List ℕ → List ℕ → ℕ → List (List ℕ) → Type 0
AreLeaves id seed leaves nodes =
    (q : ℕ) → q < leaves → get_or nodes (leaves + q) [] ≡ leaf_node id (leaves + q) (one_time_public id q seed)

-- the nodes behind a place that are no leaves stand above two others
abbrev pub AreInner : List ℕ → ℕ → ℕ → List (List ℕ) → Type 0
AreInner id leaves place nodes =
    (r : ℕ) → place < r → r < leaves → get_or nodes r [] ≡ inner_node id r (get_or nodes (2 * r) []) (get_or nodes (2 * r + 1) [])

-- all nodes of the tree of a height, an identifier and a seed
pub record HasNodes (height : ℕ) (id seed : List ℕ) (nodes : List (List ℕ)) : Type 0 where
  pub is_height : IsHeight height
  pub count : length nodes ≡ 2 * 2 ^ height
  pub leaves : AreLeaves id seed (2 ^ height) nodes
  pub inner : AreInner id (2 ^ height) 0 nodes

-- the sibling of the node so many levels above the node of a number
abbrev pub sibling_at : List (List ℕ) → ℕ → ℕ → List ℕ
sibling_at nodes number level = get_or nodes (bit_xor (number / 2 ^ level) 1) []
