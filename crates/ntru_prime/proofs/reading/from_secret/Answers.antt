use Rattle.std.proofs.Common.{◌≡◌, ap, sym, ◌∙◌, ◌+◌, ◌/◌, take, drop, Some, to_z, w32, arith, rules, nat_eq, true}
use Rattle.std.specs.Cmp.Lexicographic.{pointwise}
use Rattle.std.proofs.lemmas.Bool.{not-false, not-true}
use Rattle.std.proofs.lemmas.Grind.{common_steps}
use Rattle.std.proofs.lemmas.List.Elements.{All-same}
use Rattle.ntru_codec.specs.Small.{IsSmall}
use Rattle.ntru_model.specs.Pairs.{KeyPair, fields_read, is_tested, secret_key, secret_read}
use Rattle.ntru_prime.specs.Sets.{set_of, parameters, pair_with}
use Rattle.ntru_prime.proofs.Loops.{on_some, is_there}
use Rattle.ntru_prime.proofs.Encapsulates.{read_some, read_none}
use Rattle.ntru_prime.proofs.Secrets.{off_fields, off_test, off_same, on_read, on_secret, same_bytes, tested_same, key_same, read_as}
use Rattle.ntru_prime.proofs.reading.from_secret.Goals as goal

pub returns-then-is_none-clause-tested : goal.returns-then-is_none-clause-tested
returns-then-is_none-clause-tested g c =
    off_fields (set_of g.row.P (to_z w32 g.row.Q) g.row.W) c.args.secret.now
    (read_none c.read_fields-spells.result _ c.is_none.result _ c.is_none.ensures c.if-is_none.true c.read_fields-spells.ensures.fields)

pub spelled-requires-clause-f_small : goal.spelled-requires-clause-f_small
spelled-requires-clause-f_small g c =
    let same : c.as_slice.result.now ≡ c.read_fields-spells.new.f = first_of (search rules, grind (arith, common_steps)) in
    All-same IsSmall _ _ same (on_some c.read_fields-spells.result (is_there c.read_fields-spells.result c.is_none.result c.is_none.ensures c.if-is_none.false) c.read_fields-spells.ensures.f_small)

pub returns-then-not-is_tested-clause-tested : goal.returns-then-not-is_tested-clause-tested
returns-then-not-is_tested-clause-tested g c =
    let s = set_of g.row.P (to_z w32 g.row.Q) g.row.W in
    let pair : KeyPair = pair_with s c.read_fields-spells.new.f c.read_fields-spells.new.g_inverse c.read_fields-spells.new.h c.args.secret.now in
    let read : Some pair ≡ fields_read s c.args.secret.now =
    read_some c.read_fields-spells.result _ c.is_none.result _ c.is_none.ensures c.if-is_none.false c.read_fields-spells.ensures.fields in
    let f_same : c.as_slice-4.result.now ≡ c.read_fields-spells.new.f = first_of (search rules, grind (arith, common_steps)) in
    let g_same : c.as_slice-5.result.now ≡ c.read_fields-spells.new.g_inverse = first_of (search rules, grind (arith, common_steps)) in
    let h_same : c.as_slice-6.result.now ≡ c.read_fields-spells.new.h = first_of (search rules, grind (arith, common_steps)) in
    let test : c.is_tested.result ≡ is_tested s pair =
    c.is_tested.ensures pair.rho ∙ tested_same s c.as_slice-4.result.now _ c.as_slice-5.result.now _ c.as_slice-6.result.now _ pair.rho f_same g_same h_same in
    off_test s c.args.secret.now pair read (sym c.if-not-is_tested.true ∙ test)

pub returns-then-ne-clause-tested : goal.returns-then-ne-clause-tested
returns-then-ne-clause-tested g c =
    let s = set_of g.row.P (to_z w32 g.row.Q) g.row.W in
    let pair : KeyPair = pair_with s c.read_fields-spells.new.f c.read_fields-spells.new.g_inverse c.read_fields-spells.new.h c.args.secret.now in
    let read : Some pair ≡ fields_read s c.args.secret.now =
    read_some c.read_fields-spells.result _ c.is_none.result _ c.is_none.ensures c.if-is_none.false c.read_fields-spells.ensures.fields in
    let f_key : c.as_slice.result.now ≡ c.read_fields-spells.new.f = first_of (search rules, grind (arith, common_steps)) in
    let g_key : c.as_slice-2.result.now ≡ c.read_fields-spells.new.g_inverse = first_of (search rules, grind (arith, common_steps)) in
    let h_key : c.as_slice-3.result.now ≡ c.read_fields-spells.new.h = first_of (search rules, grind (arith, common_steps)) in
    let rho : c.part.result.now ≡ pair.rho =
    c.part.ensures ∙ ap (λ n. take (g.row.P / 4 + 1) (drop n c.args.secret.now)) (omega (arith, c.public_len.ensures.exact)) in
    let key : c.in_ok-again.again.items ≡ secret_key s pair =
    c.in_ok-again.ensures ∙ key_same s c.as_slice.result.now _ c.as_slice-2.result.now _ c.as_slice-3.result.now _ c.part.result.now _ f_key g_key h_key rho in
    off_same s c.args.secret.now c.in_ok-again.again.items pair read key
    (ap (λ l. pointwise nat_eq l c.args.secret.now) (sym c.as_slice-7.ensures.value) ∙ not-true _ (sym c.ne.ensures ∙ c.if-ne.true))

pub returns-clause-tested : goal.returns-clause-tested
returns-clause-tested g c =
    let s = set_of g.row.P (to_z w32 g.row.Q) g.row.W in
    let pair : KeyPair = pair_with s c.read_fields-spells.new.f c.read_fields-spells.new.g_inverse c.read_fields-spells.new.h c.args.secret.now in
    let read : Some pair ≡ fields_read s c.args.secret.now =
    read_some c.read_fields-spells.result _ c.is_none.result _ c.is_none.ensures c.if-is_none.false c.read_fields-spells.ensures.fields in
    let f_same : c.as_slice-4.result.now ≡ c.read_fields-spells.new.f = first_of (search rules, grind (arith, common_steps)) in
    let g_same : c.as_slice-5.result.now ≡ c.read_fields-spells.new.g_inverse = first_of (search rules, grind (arith, common_steps)) in
    let h_same : c.as_slice-6.result.now ≡ c.read_fields-spells.new.h = first_of (search rules, grind (arith, common_steps)) in
    let test : c.is_tested.result ≡ is_tested s pair =
    c.is_tested.ensures pair.rho ∙ tested_same s c.as_slice-4.result.now _ c.as_slice-5.result.now _ c.as_slice-6.result.now _ pair.rho f_same g_same h_same in
    let f_key : c.as_slice.result.now ≡ c.read_fields-spells.new.f = first_of (search rules, grind (arith, common_steps)) in
    let g_key : c.as_slice-2.result.now ≡ c.read_fields-spells.new.g_inverse = first_of (search rules, grind (arith, common_steps)) in
    let h_key : c.as_slice-3.result.now ≡ c.read_fields-spells.new.h = first_of (search rules, grind (arith, common_steps)) in
    let rho : c.part.result.now ≡ pair.rho =
    c.part.ensures ∙ ap (λ n. take (g.row.P / 4 + 1) (drop n c.args.secret.now)) (omega (arith, c.public_len.ensures.exact)) in
    let key : c.in_ok-again.again.items ≡ secret_key s pair =
    c.in_ok-again.ensures ∙ key_same s c.as_slice.result.now _ c.as_slice-2.result.now _ c.as_slice-3.result.now _ c.part.result.now _ f_key g_key h_key rho in
    let bytes : pointwise nat_eq c.in_ok-again.again.items c.args.secret.now ≡ true =
    ap (λ l. pointwise nat_eq l c.args.secret.now) (sym c.as_slice-7.ensures.value) ∙ not-false _ (sym c.ne.ensures ∙ c.if-ne.false) in
    let whole : secret_read s c.args.secret.now ≡ Some pair = on_read s c.args.secret.now c.in_ok-again.again.items pair read (sym c.if-not-is_tested.false ∙ test) key bytes in
    on_secret s c.args.secret.now pair whole

pub returns-clause-same : goal.returns-clause-same
returns-clause-same g c =
    same_bytes c.in_ok-again.again.items c.args.secret.now
    (ap (λ l. pointwise nat_eq l c.args.secret.now) (sym c.as_slice-7.ensures.value) ∙ not-false _ (sym c.ne.ensures ∙ c.if-ne.false))

pub invariant_of-result : goal.invariant_of-result
invariant_of-result g c =
    let s = set_of g.row.P (to_z w32 g.row.Q) g.row.W in
    let pair : KeyPair = pair_with s c.read_fields-spells.new.f c.read_fields-spells.new.g_inverse c.read_fields-spells.new.h c.args.secret.now in
    let read : Some pair ≡ fields_read s c.args.secret.now =
    read_some c.read_fields-spells.result _ c.is_none.result _ c.is_none.ensures c.if-is_none.false c.read_fields-spells.ensures.fields in
    let f_same : c.as_slice-4.result.now ≡ c.read_fields-spells.new.f = first_of (search rules, grind (arith, common_steps)) in
    let g_same : c.as_slice-5.result.now ≡ c.read_fields-spells.new.g_inverse = first_of (search rules, grind (arith, common_steps)) in
    let h_same : c.as_slice-6.result.now ≡ c.read_fields-spells.new.h = first_of (search rules, grind (arith, common_steps)) in
    let test : c.is_tested.result ≡ is_tested s pair =
    c.is_tested.ensures pair.rho ∙ tested_same s c.as_slice-4.result.now _ c.as_slice-5.result.now _ c.as_slice-6.result.now _ pair.rho f_same g_same h_same in
    let f_key : c.as_slice.result.now ≡ c.read_fields-spells.new.f = first_of (search rules, grind (arith, common_steps)) in
    let g_key : c.as_slice-2.result.now ≡ c.read_fields-spells.new.g_inverse = first_of (search rules, grind (arith, common_steps)) in
    let h_key : c.as_slice-3.result.now ≡ c.read_fields-spells.new.h = first_of (search rules, grind (arith, common_steps)) in
    let rho : c.part.result.now ≡ pair.rho =
    c.part.ensures ∙ ap (λ n. take (g.row.P / 4 + 1) (drop n c.args.secret.now)) (omega (arith, c.public_len.ensures.exact)) in
    let key : c.in_ok-again.again.items ≡ secret_key s pair =
    c.in_ok-again.ensures ∙ key_same s c.as_slice.result.now _ c.as_slice-2.result.now _ c.as_slice-3.result.now _ c.part.result.now _ f_key g_key h_key rho in
    let bytes : pointwise nat_eq c.in_ok-again.again.items c.args.secret.now ≡ true =
    ap (λ l. pointwise nat_eq l c.args.secret.now) (sym c.as_slice-7.ensures.value) ∙ not-false _ (sym c.ne.ensures ∙ c.if-ne.false) in
    let whole : secret_read s c.args.secret.now ≡ Some pair = on_read s c.args.secret.now c.in_ok-again.again.items pair read (sym c.if-not-is_tested.false ∙ test) key bytes in
    let f_made : c.from_vec.result ≡ c.read_fields-spells.new.f = first_of (search rules, grind (arith, common_steps)) in
    let g_made : c.from_vec-2.result ≡ c.read_fields-spells.new.g_inverse = first_of (search rules, grind (arith, common_steps)) in
    let h_made : c.from_vec-3.result ≡ c.read_fields-spells.new.h = first_of (search rules, grind (arith, common_steps)) in
    record {
      tested =
          read_as s (parameters g.row.P) c.args.secret.now c.in_ok-again.again.items _ c.from_vec.result _ c.from_vec-2.result _ c.from_vec-3.result
          c.requires.set.named (same_bytes c.in_ok-again.again.items c.args.secret.now bytes) f_made g_made h_made whole;
    }
