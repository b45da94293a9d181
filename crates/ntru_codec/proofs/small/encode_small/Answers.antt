use Rattle.std.proofs.Common.{◌≡◌, ◌+◌, ◌-◌, ◌*◌, ◌<◌, ◌++◌, ◌∷◌, [], length, take, get_or, set, pos, ℤ, ℕ, List, inl, inr, SFits, w16, to_z, of_z, rules, subst, sym, ap, ap₂, ◌∙◌, arith}
use Rattle.std.specs.List.{All}
use Rattle.std.proofs.lemmas.Int.{to_z-of_z}
use Rattle.std.proofs.lemmas.List.{take_more_set, take_all, length-set}
use Rattle.ntru_codec.specs.Small.{IsSmall, small_encoding, code_of, packed}
use Rattle.ntru_codec.proofs.Codes.{small_none, small_encoding_more, small_encoding_end}
use Rattle.ntru_codec.proofs.small.encode_small.Goals as goal

-- a coefficient as it is read
small_fits : (a : ℤ) → IsSmall a → SFits w16 a
small_fits a s =
    elim s [
      | inl e ↦ subst (SFits w16) (sym e) (search rules)
      | inr t ↦ elim t [ inl e ↦ subst (SFits w16) (sym e) (search rules) | inr e ↦ subst (SFits w16) (sym e) (search rules) ]
    ]

as_read : (a : List ℤ) (k : ℕ) → All IsSmall a → k < length a → to_z w16 (of_z w16 (get_or a k (pos 0))) ≡ get_or a k (pos 0)
as_read a k small h = to_z-of_z w16 (get_or a k (pos 0)) (small_fits (get_or a k (pos 0)) (small k (pos 0) h))

same_packed : {a b c d x y z w : ℤ} → a ≡ x → b ≡ y → c ≡ z → d ≡ w → packed a b c d ≡ packed x y z w
same_packed p q r s = ap₂ (λ m n. m + 64 * n) (ap₂ (λ m n. m + 16 * n) (ap₂ (λ m n. m + 4 * n) (ap code_of p) (ap code_of q)) (ap code_of r)) (ap code_of s)

pub loop-i-init : goal.loop-i-init
loop-i-init c = sym small_none

pub loop-i-preserved : goal.loop-i-preserved
loop-i-preserved c =
    let i = c.loop-i.i in
    let a = c.args.a.now in
    let within : 4 * i + 3 < length a = omega (arith, c.requires.size, c.requires.count) in
    let read = same_packed (as_read a (4 * i) c.requires.small (omega arith)) (as_read a (4 * i + 1) c.requires.small (omega arith)) (as_read a (4 * i + 2) c.requires.small (omega arith)) (as_read a (4 * i + 3) c.requires.small (omega arith)) in
    take_more_set c.loop-i.into i c.pack.result (omega arith)
    ∙ ap (λ xs. xs ++ c.pack.result ∷ []) c.loop-i.invariant
    ∙ ap (λ x. small_encoding (take (4 * i) a) ++ x ∷ []) (c.pack.ensures ∙ read)
    ∙ sym (small_encoding_more i a within)

pub returns : goal.returns
returns c =
    let i = c.loop-i.i in
    let a = c.args.a.now in
    let at : length c.args.into.now - 1 ≡ i = omega arith in
    let count : length a ≡ 4 * i + 1 = omega (arith, c.requires.size, c.requires.count) in
    let len : length c.loop-i.into ≡ i + 1 = omega (arith, c.loop-i.auto.into, c.requires.size) in
    let last : c.code.result ≡ code_of (get_or a (4 * i) (pos 0)) = c.code.ensures.exact ∙ ap code_of (as_read a (4 * (length c.args.into.now - 1)) c.requires.small (omega arith)) ∙ ap (λ n. code_of (get_or a (4 * n) (pos 0))) at in
    ap (λ n. set c.loop-i.into n c.code.result) at
    ∙ sym (take_all (i + 1) (set c.loop-i.into i c.code.result) (omega (arith, length-set c.loop-i.into i c.code.result)))
    ∙ take_more_set c.loop-i.into i c.code.result (omega (arith, len))
    ∙ ap (λ xs. xs ++ c.code.result ∷ []) c.loop-i.invariant
    ∙ ap (λ x. small_encoding (take (4 * i) a) ++ x ∷ []) last
    ∙ sym (small_encoding_end i a count)
