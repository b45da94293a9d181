-- The parts of keys and signatures.
use Rattle.std.proofs.Common.{◌≡◌, ℕ, ◌+◌, ◌*◌, ◌/◌, ◌^◌, ◌<◌, ◌≤◌, List, [], ◌++◌, length, take, drop, get_or, bit_xor, refl, sym, ap, ap₂, ◌∙◌, arith, length-append, append_assoc, append-nil, length-drop, div-le_self, inl, inr, subst}
use Rattle.std.proofs.lemmas.List.{take_at, drop_at, take_all, drop_all, take-append-le}
use Rattle.std.proofs.lemmas.Nat.{from_be_bytes-to_be_bytes_4}
use Rattle.std.specs.Int.{w32, to_be_bytes, from_be_bytes}
use Rattle.lms_ots.specs.OneTime.{IsOneTimeSignature, candidate_key, element_at, joined, one_time_public, one_time_signature}
use Rattle.lms_ots.proofs.Parts.{put_next}
use Rattle.lms_ots.proofs.Steps.{joined-element, joined-same, length-joined}
use Rattle.lms_sign.specs.Leaves.{leaves_of}
use Rattle.lms_sign.specs.Nodes.{HasNodes, sibling_at}
use Rattle.lms_sign.specs.Signatures.{LmsOk, candidate_root, climbed, leaf_number, lms_signature, path_node}
use Rattle.lms_sign.specs.Trees.{IsHeight, LmsTree, leaf_node, lms_public, node, type_of}
use Rattle.lms_sign.proofs.Rising.{height_cases, leaves_few, length-node, listed, no_root, risen, root_reached, sibling_below, sibling_positive}

-- the parts of a signature
pub record SignatureParts (n ots t way signature : List ℕ) : Type 0 where
  pub first : take 4 signature ≡ n
  pub one_time : take 2180 (drop 4 signature) ≡ ots
  pub one_time_type : take 4 (drop 4 signature) ≡ take 4 ots
  pub type : take 4 (drop 2184 signature) ≡ t
  pub path : drop 2188 signature ≡ way
  pub long : length signature ≡ 2188 + length way

pub signature_parts : (number ots type path : List ℕ) → length number ≡ 4 → length ots ≡ 2180 → length type ≡ 4
    → SignatureParts number ots type path (number ++ ots ++ type ++ path)
signature_parts number ots type path four long last =
    let signature : List ℕ = number ++ ots ++ type ++ path in
    let behind_ots : signature ≡ (number ++ ots) ++ (type ++ path) = append_assoc (number ++ ots) type path in
    let behind_number : signature ≡ number ++ (ots ++ (type ++ path)) = behind_ots ∙ append_assoc number ots (type ++ path) in
    let after_number : drop 4 signature ≡ ots ++ (type ++ path) = ap (drop 4) behind_number ∙ drop_at number (ots ++ (type ++ path)) 4 four in
    let after_ots : drop 2184 signature ≡ type ++ path =
    ap (drop 2184) behind_ots ∙ drop_at (number ++ ots) (type ++ path) 2184 (length-append number ots ∙ omega arith) in
    let front : length (number ++ ots ++ type) ≡ 2188 = length-append (number ++ ots) type ∙ omega (arith, length-append number ots) in
    record {
      first = ap (take 4) behind_number ∙ take_at number (ots ++ (type ++ path)) 4 four;
      one_time = ap (take 2180) after_number ∙ take_at ots (type ++ path) 2180 long;
      one_time_type = ap (take 4) after_number ∙ take-append-le 4 ots (type ++ path) (omega arith);
      type = ap (take 4) after_ots ∙ take_at type path 4 last;
      path = drop_at (number ++ ots ++ type) path 2188 front;
      long = length-append (number ++ ots ++ type) path ∙ omega arith;
    }

-- the parts of a public key
pub record KeyParts (t ots_type i top key : List ℕ) : Type 0 where
  pub type : take 4 key ≡ t
  pub one_time_type : take 4 (drop 4 key) ≡ ots_type
  pub id : take 16 (drop 8 key) ≡ i
  pub root : element_at key 24 ≡ top

pub key_parts : (type ots_type id root : List ℕ) → length type ≡ 4 → length ots_type ≡ 4 → length id ≡ 16 → length root ≡ 32
    → KeyParts type ots_type id root (type ++ ots_type ++ id ++ root)
key_parts type ots_type id root four next wide last =
    let key : List ℕ = type ++ ots_type ++ id ++ root in
    let behind_types : key ≡ (type ++ ots_type) ++ (id ++ root) = append_assoc (type ++ ots_type) id root in
    let behind_type : key ≡ type ++ (ots_type ++ (id ++ root)) = behind_types ∙ append_assoc type ots_type (id ++ root) in
    let front : length (type ++ ots_type ++ id) ≡ 24 = length-append (type ++ ots_type) id ∙ omega (arith, length-append type ots_type) in
    record {
      type = ap (take 4) behind_type ∙ take_at type (ots_type ++ (id ++ root)) 4 four;
      one_time_type = ap (take 4) (ap (drop 4) behind_type ∙ drop_at type (ots_type ++ (id ++ root)) 4 four) ∙ take_at ots_type (id ++ root) 4 next;
      id = ap (take 16) (ap (drop 8) behind_types ∙ drop_at (type ++ ots_type) (id ++ root) 8 (length-append type ots_type ∙ omega arith)) ∙ take_at id root 16 wide;
      root = ap (take 32) (drop_at (type ++ ots_type ++ id) root 24 front) ∙ take_all 32 root (omega arith);
    }

-- a path's node is the list's
pub path_listed : (height : ℕ) (id seed : List ℕ) (nodes : List (List ℕ)) (q : ℕ) → HasNodes height id seed nodes → q < 2 ^ height
    → (i : ℕ) → i < height → sibling_at nodes (2 ^ height + q) i ≡ path_node (record { height = height; id = id; seed = seed }) q i
unfolding path_node
path_listed height id seed nodes q has within i few =
    let number : ℕ = 2 ^ height + q in
    let own : ℕ = number / 2 ^ i in
    let two : 2 ≤ own = no_root number height i (omega arith) few in
    let below : own < 2 * 2 ^ height = omega (arith, div-le_self number (2 ^ i)) in
    listed height id seed nodes has (bit_xor own 1) (sibling_positive own two) (sibling_below own (2 ^ height) below)

pub path_wide : (tree : LmsTree) (q i : ℕ) → length (path_node tree q i) ≡ 32
unfolding path_node
path_wide tree q i = length-node tree (bit_xor ((2 ^ tree.height + q) / 2 ^ i) 1)

-- what a tree signs is good
pub signed_ok : (height : ℕ) (id seed : List ℕ) (nodes : List (List ℕ)) (q : ℕ) (message ots : List ℕ) → HasNodes height id seed nodes
    → length id ≡ 16 → q < 2 ^ height → IsOneTimeSignature ots → ots ≡ one_time_signature id q seed message
    → candidate_key id q message ots ≡ one_time_public id q seed
    → LmsOk (lms_public (record { height = height; id = id; seed = seed })) message (lms_signature (record { height = height; id = id; seed = seed }) q message)
unfolding lms_public lms_signature candidate_root
signed_ok height id seed nodes q message ots has wide within form is leads =
    let tree : LmsTree = record { height = height; id = id; seed = seed } in
    let type : List ℕ = to_be_bytes w32 (type_of height) in
    let path : List ℕ = joined (path_node tree q) height in
    let signed : List ℕ = one_time_signature id q seed message in
    let signature : List ℕ = to_be_bytes w32 q ++ signed ++ type ++ path in
    let key : List ℕ = type ++ to_be_bytes w32 3 ++ id ++ node tree 1 in
    let number : ℕ = 2 ^ height + q in
    let nodes_wide : (i : ℕ) → length (path_node tree q i) ≡ 32 = path_wide tree q in
    let signed_long : length signed ≡ 2180 = sym (ap length is) ∙ form.length in
    let parts : SignatureParts (to_be_bytes w32 q) signed type path signature = signature_parts (to_be_bytes w32 q) signed type path refl signed_long refl in
    let keys : KeyParts type (to_be_bytes w32 3) id (node tree 1) key = key_parts type (to_be_bytes w32 3) id (node tree 1) refl refl wide (length-node tree 1) in
    let small : q < 2 ^ 32 = omega (arith, leaves_few height has.is_height) in
    let is_number : leaf_number signature ≡ q = ap (from_be_bytes w32) parts.first ∙ from_be_bytes-to_be_bytes_4 q small in
    let way : List ℕ → ℕ → List ℕ → List ℕ → List ℕ =
    λ i n s p. climbed i (2 ^ height + n) (leaf_node i (2 ^ height + n) (candidate_key i n message s)) p height in
    let is_leaf : leaf_node id number (candidate_key id q message ots) ≡ get_or nodes number [] =
    ap (leaf_node id number) leads ∙ sym (has.leaves q within) in
    let siblings : (i : ℕ) → i < height → element_at path (32 * i) ≡ sibling_at nodes number i =
    λ i few. joined-element (path_node tree q) height i nodes_wide few ∙ sym (path_listed height id seed nodes q has within i few) in
    let up : way id q ots path ≡ get_or nodes (number / 2 ^ height) [] =
    risen height id seed nodes has number (leaf_node id number (candidate_key id q message ots)) path (omega arith) (omega arith) is_leaf siblings height (omega arith) in
    let positive : 2 ^ height ≤ number = omega arith in
    let top : get_or nodes (number / 2 ^ height) [] ≡ node tree 1 =
    ap (λ k. get_or nodes k []) (root_reached number height positive (omega arith)) ∙ listed height id seed nodes has 1 (omega arith) (omega arith) in
    record {
      height = height;
      is_height = has.is_height;
      form = record {
        key_type = keys.type;
        key_one_time_type = keys.one_time_type;
        length = parts.long ∙ ap (λ n. 2188 + n) (length-joined (path_node tree q) height nodes_wide);
        number = rw is_number within;
        one_time_type = parts.one_time_type ∙ (ap (take 4) (sym is) ∙ form.type);
        type = parts.type;
      };
      root = ap₂ (λ i n. way i n (take 2180 (drop 4 signature)) (drop 2188 signature)) keys.id is_number
          ∙ (ap₂ (way id q) (parts.one_time ∙ sym is) parts.path ∙ (up ∙ (top ∙ sym keys.root)));
    }

-- a public key, filled in part by part
pub key_filled : (a b c d zeros first second third fourth : List ℕ) → length a ≡ 4 → length b ≡ 4 → length c ≡ 16 → length d ≡ 32
    → length zeros ≡ 56
    → first ≡ take 0 zeros ++ (a ++ drop (0 + length a) zeros)
    → second ≡ take 4 first ++ (b ++ drop (4 + length b) first)
    → third ≡ take 8 second ++ (c ++ drop (8 + length c) second)
    → fourth ≡ take 24 third ++ (d ++ drop (24 + length d) third)
    → fourth ≡ a ++ b ++ c ++ d
key_filled a b c d zeros first second third fourth four next wide last fill one two three end =
    let rest1 : List ℕ = drop (length a) zeros in
    let rest2 : List ℕ = drop (length b) rest1 in
    let rest3 : List ℕ = drop (length c) rest2 in
    let rest4 : List ℕ = drop (length d) rest3 in
    let is_first : first ≡ a ++ rest1 = put_next [] zeros a zeros first 0 refl refl one in
    let is_second : second ≡ a ++ b ++ rest2 = put_next a rest1 b first second 4 is_first four two in
    let is_third : third ≡ a ++ b ++ c ++ rest3 = put_next (a ++ b) rest2 c second third 8 is_second (length-append a b ∙ omega arith) three in
    let is_fourth : fourth ≡ a ++ b ++ c ++ d ++ rest4 =
    put_next (a ++ b ++ c) rest3 d third fourth 24 is_third (length-append (a ++ b) c ∙ omega (arith, length-append a b)) end in
    let none : rest4 ≡ [] = drop_all (length d) rest3 (omega (arith, length-drop (length c) rest2, length-drop (length b) rest1, length-drop (length a) zeros)) in
    is_fourth ∙ (ap (λ r. a ++ b ++ c ++ d ++ r) none ∙ append-nil (a ++ b ++ c ++ d))

-- a signature in front of its path, filled in part by part
pub signature_filled : (a b c into first second third : List ℕ) → length a ≡ 4 → length b ≡ 2180 → length c ≡ 4
    → first ≡ take 0 into ++ (a ++ drop (0 + length a) into)
    → second ≡ take 4 first ++ (b ++ drop (4 + length b) first)
    → third ≡ take 2184 second ++ (c ++ drop (2184 + length c) second)
    → take 2188 third ≡ a ++ b ++ c
signature_filled a b c into first second third four long last one two three =
    let rest1 : List ℕ = drop (length a) into in
    let rest2 : List ℕ = drop (length b) rest1 in
    let rest3 : List ℕ = drop (length c) rest2 in
    let is_first : first ≡ a ++ rest1 = put_next [] into a into first 0 refl refl one in
    let is_second : second ≡ a ++ b ++ rest2 = put_next a rest1 b first second 4 is_first four two in
    let is_third : third ≡ a ++ b ++ c ++ rest3 = put_next (a ++ b) rest2 c second third 2184 is_second (length-append a b ∙ omega arith) three in
    ap (take 2188) is_third ∙ take_at (a ++ b ++ c) rest3 2188 (length-append (a ++ b) c ∙ omega (arith, length-append a b))

-- the path that is written
pub path_written : (height : ℕ) (id seed : List ℕ) (nodes : List (List ℕ)) (q number : ℕ) → HasNodes height id seed nodes → q < 2 ^ height
    → number ≡ 2 ^ height + q
    → joined (sibling_at nodes number) height ≡ joined (path_node (record { height = height; id = id; seed = seed }) q) height
path_written height id seed nodes q number has within is =
    ap (λ n. joined (sibling_at nodes n) height) is
    ∙ joined-same (sibling_at nodes (2 ^ height + q)) (path_node (record { height = height; id = id; seed = seed }) q) height
    (path_listed height id seed nodes q has within)

-- the signature that is written
pub signature_written : (height : ℕ) (id seed : List ℕ) (nodes : List (List ℕ)) (q number : ℕ) (message a b c into first second third new : List ℕ)
    → HasNodes height id seed nodes → q < 2 ^ height → number ≡ 2 ^ height + q
    → a ≡ to_be_bytes w32 q → b ≡ one_time_signature id q seed message → length b ≡ 2180 → c ≡ to_be_bytes w32 (type_of height)
    → first ≡ take 0 into ++ (a ++ drop (0 + length a) into)
    → second ≡ take 4 first ++ (b ++ drop (4 + length b) first)
    → third ≡ take 2184 second ++ (c ++ drop (2184 + length c) second)
    → new ≡ take 2188 third ++ joined (sibling_at nodes number) height
    → new ≡ lms_signature (record { height = height; id = id; seed = seed }) q message
unfolding lms_signature
signature_written height id seed nodes q number message a b c into first second third new has within is is_a is_b long is_c one two three end =
    let tree : LmsTree = record { height = height; id = id; seed = seed } in
    let path : List ℕ = joined (path_node tree q) height in
    let front : take 2188 third ≡ a ++ b ++ c = signature_filled a b c into first second third (ap length is_a) long (ap length is_c) one two three in
    end
    ∙ (ap₂ (λ x y. x ++ y) front (path_written height id seed nodes q number has within is)
    ∙ (ap₂ (λ x y. x ++ b ++ y ++ path) is_a is_c ∙ ap (λ x. to_be_bytes w32 q ++ x ++ to_be_bytes w32 (type_of height) ++ path) is_b))

-- how many leaves the tree of a public key has
pub leaves_of_public : (tree : LmsTree) → IsHeight tree.height → leaves_of (lms_public tree) ≡ 2 ^ tree.height
unfolding lms_public
leaves_of_public tree is =
    let P : ℕ → Type 0 = λ h. leaves_of (lms_public (record { height = h; id = tree.id; seed = tree.seed })) ≡ 2 ^ h in
    elim (height_cases tree.height is) [ inl five ↦ subst P (sym five) refl | inr ten ↦ subst P (sym ten) refl ]
