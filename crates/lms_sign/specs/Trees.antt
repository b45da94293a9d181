-- LMS trees (RFC 8554, section 5) for the types LMS_SHA256_M32_H5 and LMS_SHA256_M32_H10, whose leaves are pairs of
-- LMOTS_SHA256_N32_W4.
use Rattle.std.specs.Prelude.{IsTrue, ◌||◌, ℕ, zero, suc, ◌+◌, ◌-◌, ◌*◌, ◌^◌, ◌==◌, List, ◌++◌, nat_lt, if◌then◌else◌}
use Rattle.std.specs.Int.{w32, to_be_bytes}
use Rattle.sha2.specs.Sha256.{sha256}
use Rattle.lms_ots.specs.OneTime.{one_time_public, prefix}

-- what a contract sees of a tree: its height h, its identifier I and its secret SEED
pub record LmsTree : Type 0 where
  pub height : ℕ
  pub id : List ℕ
  pub seed : List ℕ

-- the heights of the two types
abbrev pub IsHeight : ℕ → Type 0
IsHeight height = IsTrue ((height == 5) || (height == 10))

-- the type of a height (section 5.1, table 2)
abbrev pub type_of : ℕ → ℕ
type_of height = if height == 5 then 5 else 6

-- a leaf's node, by its number and its one-time public key (section 5.3); 0x8282 is D_LEAF
unfoldable pub leaf_node : List ℕ → ℕ → List ℕ → List ℕ
leaf_node id number key = sha256 (prefix id number 0x8282 ++ key)

-- a node above two others (section 5.3); 0x8383 is D_INTR
unfoldable pub inner_node : List ℕ → ℕ → List ℕ → List ℕ → List ℕ
inner_node id number left right = sha256 (prefix id number 0x8383 ++ left ++ right)

-- T[r] of a node with at most `levels` levels below it
unfoldable pub node_over : LmsTree → ℕ → ℕ → List ℕ
node_over tree zero r = leaf_node tree.id r (one_time_public tree.id (r - 2 ^ tree.height) tree.seed)
node_over tree (suc levels) r =
    if nat_lt r (2 ^ tree.height)
    then inner_node tree.id r (node_over tree levels (2 * r)) (node_over tree levels (2 * r + 1))
    else leaf_node tree.id r (one_time_public tree.id (r - 2 ^ tree.height) tree.seed)

-- T[r]: the root is node 1, node r stands above nodes 2r and 2r + 1, and from 2^h on the nodes are leaves (section 5.3)
unfoldable pub node : LmsTree → ℕ → List ℕ
node tree r = node_over tree tree.height r

-- u32str(type) | u32str(otstype) | I | T[1] (section 5.3)
unfoldable pub lms_public : LmsTree → List ℕ
lms_public tree = to_be_bytes w32 (type_of tree.height) ++ to_be_bytes w32 3 ++ tree.id ++ node tree 1
