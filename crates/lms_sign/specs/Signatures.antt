-- LMS signatures (RFC 8554, sections 5.4 and 5.4.2).
use Rattle.std.specs.Prelude.{◌≡◌, ℕ, zero, suc, ◌+◌, ◌*◌, ◌/◌, ◌%◌, ◌^◌, ◌<◌, ◌==◌, List, ◌++◌, length, take, drop, bit_xor, if◌then◌else◌}
use Rattle.std.specs.Int.{w32, to_be_bytes, from_be_bytes}
use Rattle.lms_ots.specs.OneTime.{candidate_key, element_at, joined, one_time_signature}
use Rattle.lms_sign.specs.Trees.{IsHeight, LmsTree, inner_node, leaf_node, node, type_of}

-- path[i] of leaf q: the sibling of the node i levels above the leaf (section 5.4.1)
unfoldable pub path_node : LmsTree → ℕ → ℕ → List ℕ
path_node tree q i = node tree (bit_xor ((2 ^ tree.height + q) / 2 ^ i) 1)

-- u32str(q) | lmots_signature | u32str(type) | path[0] | .. | path[h - 1] (section 5.4)
unfoldable pub lms_signature : LmsTree → ℕ → List ℕ → List ℕ
lms_signature tree q message =
    to_be_bytes w32 q ++ one_time_signature tree.id q tree.seed message ++ to_be_bytes w32 (type_of tree.height)
    ++ joined (path_node tree q) tree.height

-- the node above a node and its sibling: a node with an odd number is the right one (section 5.4.2, algorithm 6a, step 4)
unfoldable pub parent_of : List ℕ → ℕ → List ℕ → List ℕ → List ℕ
parent_of id number own sibling =
    if number % 2 == 1 then inner_node id (number / 2) sibling own else inner_node id (number / 2) own sibling

-- the node so many levels above a leaf, by the path's nodes
unfoldable pub climbed : List ℕ → ℕ → List ℕ → List ℕ → ℕ → List ℕ
climbed id number leaf path zero = leaf
climbed id number leaf path (suc levels) =
    parent_of id (number / 2 ^ levels) (climbed id number leaf path levels) (element_at path (32 * levels))

-- q, as a signature states it
abbrev pub leaf_number : List ℕ → ℕ
leaf_number signature = from_be_bytes w32 (take 4 signature)

-- Tc: the root that a signature of a message leads to (section 5.4.2, algorithm 6a)
unfoldable pub candidate_root : ℕ → List ℕ → List ℕ → List ℕ → List ℕ
candidate_root height id message signature =
    let q = leaf_number signature in
    let number = 2 ^ height + q in
    let key = candidate_key id q message (take 2180 (drop 4 signature)) in
    climbed id number (leaf_node id number key) (drop 2188 signature) height

-- the types, the length and the number that the standard asks for under a key of this height (section 5.4.2,
-- algorithm 6, step 1, and algorithm 6a, step 2)
pub record HasLmsForm (height : ℕ) (public signature : List ℕ) : Type 0 where
  pub key_type : take 4 public ≡ to_be_bytes w32 (type_of height)
  pub key_one_time_type : take 4 (drop 4 public) ≡ to_be_bytes w32 3
  pub length : length signature ≡ 2188 + 32 * height
  pub number : leaf_number signature < 2 ^ height
  pub one_time_type : take 4 (drop 4 signature) ≡ to_be_bytes w32 3
  pub type : take 4 (drop 2184 signature) ≡ to_be_bytes w32 (type_of height)

-- The standard's check: a signature of a message is good under a public key (section 5.4.2, algorithm 6).
pub record LmsOk (public message signature : List ℕ) : Type 0 where
  pub height : ℕ
  pub is_height : IsHeight height
  pub form : HasLmsForm height public signature
  pub root : candidate_root height (take 16 (drop 8 public)) message signature ≡ element_at public 24
