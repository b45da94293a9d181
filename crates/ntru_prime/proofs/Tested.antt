-- The test of a pair, part by part.
use Rattle.std.proofs.Common.{◌≡◌, ap, sym, ◌∙◌, Bool, true, false, ◌&&◌, List, ℤ, nat_eq}
use Rattle.std.specs.List.{count_by, list_all}
use Rattle.std.specs.Ordering.{int_eq}
use Rattle.std.specs.Cmp.Lexicographic.{pointwise}
use Rattle.ring_solve.specs.Fields.{one}
use Rattle.ring_laws.specs.Laws.{is_nonzero}
use Rattle.ntru_model.specs.Parameters.{Parameters}
use Rattle.ntru_model.specs.Residues.{product_mod}
use Rattle.ntru_model.specs.Pairs.{KeyPair, is_tested, is_small_number, g_of}

pub fails_weight : (s : Parameters) (pair : KeyPair) → nat_eq (count_by is_nonzero pair.f) s.w ≡ false → false ≡ is_tested s pair
unfolding is_tested
fails_weight s pair e = sym (ap (λ t. (t && list_all is_small_number (g_of s pair)) && pointwise int_eq (product_mod s.p 3 (g_of s pair) pair.g_inverse) (one s.p)) e)

pub fails_small : (s : Parameters) (pair : KeyPair) (g : List ℤ) → nat_eq (count_by is_nonzero pair.f) s.w ≡ true → g ≡ g_of s pair → list_all is_small_number g ≡ false → false ≡ is_tested s pair
unfolding is_tested
fails_small s pair g ew eg e =
    sym (ap (λ t. (t && list_all is_small_number (g_of s pair)) && pointwise int_eq (product_mod s.p 3 (g_of s pair) pair.g_inverse) (one s.p)) ew
    ∙ ap (λ t. t && pointwise int_eq (product_mod s.p 3 (g_of s pair) pair.g_inverse) (one s.p)) (ap (list_all is_small_number) (sym eg) ∙ e))

pub tests_product : (s : Parameters) (pair : KeyPair) (g product : List ℤ) (t : Bool) → nat_eq (count_by is_nonzero pair.f) s.w ≡ true → g ≡ g_of s pair → list_all is_small_number g ≡ true
    → product ≡ product_mod s.p 3 g pair.g_inverse → t ≡ pointwise int_eq product (one s.p) → t ≡ is_tested s pair
unfolding is_tested
tests_product s pair g product t ew eg es ep et =
    et ∙ ap (λ a. pointwise int_eq a (one s.p)) (ep ∙ ap (λ a. product_mod s.p 3 a pair.g_inverse) eg)
    ∙ sym (ap (λ b. (b && list_all is_small_number (g_of s pair)) && pointwise int_eq (product_mod s.p 3 (g_of s pair) pair.g_inverse) (one s.p)) ew
    ∙ ap (λ b. b && pointwise int_eq (product_mod s.p 3 (g_of s pair) pair.g_inverse) (one s.p)) (ap (list_all is_small_number) (sym eg) ∙ es))
