use Rattle.std.proofs.Common.{◌≡◌, ap, ap₂, sym, ◌∙◌, List, ℕ, ◌++◌, append_assoc}
use Rattle.ntru_model.specs.Pairs.{hash, secret_key}
use Rattle.ntru_prime.proofs.making.write_secret.Goals as goal

regrouped : (a b c d e : List ℕ) → (((a ++ b) ++ c) ++ d) ++ e ≡ a ++ (b ++ (c ++ (d ++ e)))
regrouped a b c d e = simp append_assoc

joined : (a b c d e a' b' c' d' e' : List ℕ) → a ≡ a' → b ≡ b' → c ≡ c' → d ≡ d' → e ≡ e' → a ++ (b ++ (c ++ (d ++ e))) ≡ (((a' ++ b') ++ c') ++ d') ++ e'
joined a b c d e a' b' c' d' e' ha hb hc hd he =
    ap₂ (λ x y. x ++ y) ha (ap₂ (λ x y. x ++ y) hb (ap₂ (λ x y. x ++ y) hc (ap₂ (λ x y. x ++ y) hd he))) ∙ sym (regrouped a' b' c' d' e')

pub returns : goal.returns
unfolding secret_key
returns g c =
    joined c.encode_small.new.into c.encode_small-2.new.into c.write_public.new.into c.copy_from_slice.new.self c.copy_from_slice-2.new.self _ _ _ _ _
    c.encode_small.ensures c.encode_small-2.ensures c.write_public.ensures c.copy_from_slice.ensures.after
    (c.copy_from_slice-2.ensures.after ∙ c.hash.ensures ∙ ap (hash 4) c.write_public.ensures)
