-- Lists of nodes that are filled in one by one.
use Rattle.std.proofs.Common.{◌≡◌, ◌≢◌, ℕ, ◌+◌, ◌*◌, ◌-◌, ◌<◌, List, [], length, get_or, set, refl, sym, ap, ap₂, ◌∙◌, arith, inl, inr, get_or-set_same, get_or-set_other, add-one, ◌/◌, ◌^◌}
use Rattle.std.proofs.lemmas.Bool.{cases_eq}
use Rattle.lms_sign.specs.Nodes.{AreInner}
use Rattle.lms_sign.specs.Trees.{inner_node}
use Rattle.lms_sign.specs.Signatures.{climbed, parent_of}
use Rattle.lms_ots.specs.OneTime.{element_at}

-- one more node above two others, at the place below the ones before
pub inner_more : (id : List ℕ) (leaves place next : ℕ) (nodes : List (List ℕ)) (value : List ℕ)
    → place < length nodes → next + 1 ≡ place → 0 < place
    → AreInner id leaves place nodes → value ≡ inner_node id place (get_or nodes (2 * place) []) (get_or nodes (2 * place + 1) [])
    → AreInner id leaves next (set nodes place value)
inner_more id leaves place next nodes value within after above so_far is r low high =
    let others : (k : ℕ) → place < k → get_or (set nodes place value) k [] ≡ get_or nodes k [] =
    λ k h. get_or-set_other nodes place k value [] (ne_of k place h) in
    let left : place < 2 * r = omega arith in
    let right : place < 2 * r + 1 = omega arith in
    let children : inner_node id r (get_or nodes (2 * r) []) (get_or nodes (2 * r + 1) [])
    ≡ inner_node id r (get_or (set nodes place value) (2 * r) []) (get_or (set nodes place value) (2 * r + 1) []) =
    ap₂ (inner_node id r) (sym (others (2 * r) left)) (sym (others (2 * r + 1) right)) in
    elim (cases_eq r place) [
      | inl same ↦
          ap (λ k. get_or (set nodes place value) k []) same
          ∙ (get_or-set_same nodes place value [] within
          ∙ (is ∙ (ap (λ k. inner_node id k (get_or nodes (2 * k) []) (get_or nodes (2 * k + 1) [])) (sym same) ∙ children)))
      | inr other ↦ others r (omega arith) ∙ (so_far r (omega arith) high ∙ children)
    ]
  where
    ne_of : (k place : ℕ) → place < k → k ≢ place
    ne_of k place h = λ e. omega arith

-- one more level of the way up
pub climbed_next : (id : List ℕ) (number : ℕ) (leaf path : List ℕ) (level : ℕ)
    → climbed id number leaf path (level + 1) ≡ parent_of id (number / 2 ^ level) (climbed id number leaf path level) (element_at path (32 * level))
unfolding climbed
climbed_next id number leaf path level = rw add-one refl
