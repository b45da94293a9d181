use Rattle.std.proofs.Common.{◌≡◌, ap, ap₂, sym, ◌∙◌, ◌+◌, ◌/◌, Some, length, take, unsigned_abs, to_z, w32, arith, rules}
use Rattle.std.proofs.lemmas.Grind.{common_steps}
use Rattle.std.specs.Option.{option_map}
use Rattle.std.proofs.lemmas.List.{length-take}
use Rattle.std.proofs.lemmas.List.Elements.{All-same}
use Rattle.ring_poly.specs.Ring.{IsCentred}
use Rattle.ntru_codec.specs.Small.{IsSmall}
use Rattle.kem_trait.specs.Streams.{behind}
use Rattle.ntru_model.specs.Draws.{bytes_draw}
use Rattle.ntru_model.specs.Residues.{product_mod}
use Rattle.ntru_model.proofs.Small.{all_within_small}
use Rattle.ntru_prime.specs.Sets.{parameters, pair_with}
use Rattle.ntru_prime.proofs.Sums.{product_by}
use Rattle.ntru_prime.proofs.Makes.{made_without_g, made_without_f, g_centred_q, f_inverse_is, drawn_is, made_is, reads, secret_same, left_without_g, left_without_f, left_of_pair}
use Rattle.ntru_prime.proofs.making.make.Goals as goal

pub returns-in-None-clause-unusable : goal.returns-in-None-clause-unusable
returns-in-None-clause-unusable g c = λ _. made_without_g g.row.P (to_z w32 g.row.Q) g.row.W (g.V.Words.upcoming c.args.words.now) (c.in_ok-found.ensures.found ∙ ap (option_map (λ b. record { drawn = c.usable_small.new.g; inverse = b; left = g.V.Words.upcoming c.usable_small.new.words })) c.in-None.is)

pub returns-in-None-2-clause-unusable : goal.returns-in-None-2-clause-unusable
returns-in-None-2-clause-unusable g c = λ _. made_without_f g.row.P (to_z w32 g.row.Q) g.row.W (g.V.Words.upcoming c.args.words.now) (record { drawn = c.usable_small.new.g; inverse = c.in-Some.found; left = g.V.Words.upcoming c.usable_small.new.words }) (c.in_ok-found.ensures.found ∙ ap (option_map (λ b. record { drawn = c.usable_small.new.g; inverse = b; left = g.V.Words.upcoming c.usable_small.new.words })) c.in-Some.is) (c.in_ok-found-2.ensures.found ∙ ap (option_map (λ b. record { drawn = c.usable_short.new.f; inverse = b; left = g.V.Words.upcoming c.usable_short.new.words })) c.in-None-2.is)

pub mul_q-requires-clause-b_len : goal.mul_q-requires-clause-b_len
mul_q-requires-clause-b_len g c = ap length c.as_slice.ensures ∙ (f_inverse_is c.requires.set _ (record { drawn = c.usable_short.new.f; inverse = c.in-Some-2.found; left = g.V.Words.upcoming c.usable_short.new.words }) (c.in_ok-found-2.ensures.found ∙ ap (option_map (λ b. record { drawn = c.usable_short.new.f; inverse = b; left = g.V.Words.upcoming c.usable_short.new.words })) c.in-Some-2.is)).0

pub mul_q-requires-clause-b_centred : goal.mul_q-requires-clause-b_centred
mul_q-requires-clause-b_centred g c = All-same (IsCentred (to_z w32 g.row.Q)) c.as_slice.result.now c.in-Some-2.found c.as_slice.ensures (f_inverse_is c.requires.set _ (record { drawn = c.usable_short.new.f; inverse = c.in-Some-2.found; left = g.V.Words.upcoming c.usable_short.new.words }) (c.in_ok-found-2.ensures.found ∙ ap (option_map (λ b. record { drawn = c.usable_short.new.f; inverse = b; left = g.V.Words.upcoming c.usable_short.new.words })) c.in-Some-2.is)).1

pub mul_q-requires-clause-a_centred : goal.mul_q-requires-clause-a_centred
mul_q-requires-clause-a_centred g c = g_centred_q c.requires.set (g.V.Words.upcoming c.args.words.now) (record { drawn = c.usable_small.new.g; inverse = c.in-Some.found; left = g.V.Words.upcoming c.usable_small.new.words }) (c.in_ok-found.ensures.found ∙ ap (option_map (λ b. record { drawn = c.usable_small.new.g; inverse = b; left = g.V.Words.upcoming c.usable_small.new.words })) c.in-Some.is)

pub spelled-requires-clause-f_small : goal.spelled-requires-clause-f_small
spelled-requires-clause-f_small g c = let f_same : c.as_slice-2.result.now ≡ c.usable_short.new.f = first_of (search rules, grind (arith, common_steps)) in All-same IsSmall c.as_slice-2.result.now c.usable_short.new.f f_same (all_within_small c.usable_short.new.f (drawn_is c.requires.set (g.V.Words.upcoming c.args.words.now) (record { drawn = c.usable_small.new.g; inverse = c.in-Some.found; left = g.V.Words.upcoming c.usable_small.new.words }) (record { drawn = c.usable_short.new.f; inverse = c.in-Some-2.found; left = g.V.Words.upcoming c.usable_short.new.words }) c.mul_q.new.out c.draw_bytes.new.into (c.in_ok-found.ensures.found ∙ ap (option_map (λ b. record { drawn = c.usable_small.new.g; inverse = b; left = g.V.Words.upcoming c.usable_small.new.words })) c.in-Some.is) (c.in_ok-found-2.ensures.found ∙ ap (option_map (λ b. record { drawn = c.usable_short.new.f; inverse = b; left = g.V.Words.upcoming c.usable_short.new.words })) c.in-Some-2.is) (product_by c.requires.set c.usable_small.new.g c.as_slice.result.now c.mul_q.new.out c.mul_q.ensures.centred c.mul_q.ensures.congruent ∙ ap (product_mod g.row.P (unsigned_abs (to_z w32 g.row.Q)) c.usable_small.new.g) c.as_slice.ensures) (c.draw_bytes.ensures.drawn ∙ ap (λ n. bytes_draw n (g.V.Words.upcoming c.usable_short.new.words)) (let taken = length-take (g.row.P / 4 + 1) c.blank_bytes-rho.result in omega (arith, taken, c.blank_bytes-rho.ensures)))).f_short.small)

pub spelled-requires-clause-g_len : goal.spelled-requires-clause-g_len
spelled-requires-clause-g_len g c = ap length c.as_slice-3.ensures ∙ (drawn_is c.requires.set (g.V.Words.upcoming c.args.words.now) (record { drawn = c.usable_small.new.g; inverse = c.in-Some.found; left = g.V.Words.upcoming c.usable_small.new.words }) (record { drawn = c.usable_short.new.f; inverse = c.in-Some-2.found; left = g.V.Words.upcoming c.usable_short.new.words }) c.mul_q.new.out c.draw_bytes.new.into (c.in_ok-found.ensures.found ∙ ap (option_map (λ b. record { drawn = c.usable_small.new.g; inverse = b; left = g.V.Words.upcoming c.usable_small.new.words })) c.in-Some.is) (c.in_ok-found-2.ensures.found ∙ ap (option_map (λ b. record { drawn = c.usable_short.new.f; inverse = b; left = g.V.Words.upcoming c.usable_short.new.words })) c.in-Some-2.is) (product_by c.requires.set c.usable_small.new.g c.as_slice.result.now c.mul_q.new.out c.mul_q.ensures.centred c.mul_q.ensures.congruent ∙ ap (product_mod g.row.P (unsigned_abs (to_z w32 g.row.Q)) c.usable_small.new.g) c.as_slice.ensures) (c.draw_bytes.ensures.drawn ∙ ap (λ n. bytes_draw n (g.V.Words.upcoming c.usable_short.new.words)) (let taken = length-take (g.row.P / 4 + 1) c.blank_bytes-rho.result in omega (arith, taken, c.blank_bytes-rho.ensures)))).inverse_len

pub spelled-requires-clause-g_small : goal.spelled-requires-clause-g_small
spelled-requires-clause-g_small g c = All-same IsSmall c.as_slice-3.result.now c.in-Some.found c.as_slice-3.ensures (all_within_small c.in-Some.found (drawn_is c.requires.set (g.V.Words.upcoming c.args.words.now) (record { drawn = c.usable_small.new.g; inverse = c.in-Some.found; left = g.V.Words.upcoming c.usable_small.new.words }) (record { drawn = c.usable_short.new.f; inverse = c.in-Some-2.found; left = g.V.Words.upcoming c.usable_short.new.words }) c.mul_q.new.out c.draw_bytes.new.into (c.in_ok-found.ensures.found ∙ ap (option_map (λ b. record { drawn = c.usable_small.new.g; inverse = b; left = g.V.Words.upcoming c.usable_small.new.words })) c.in-Some.is) (c.in_ok-found-2.ensures.found ∙ ap (option_map (λ b. record { drawn = c.usable_short.new.f; inverse = b; left = g.V.Words.upcoming c.usable_short.new.words })) c.in-Some-2.is) (product_by c.requires.set c.usable_small.new.g c.as_slice.result.now c.mul_q.new.out c.mul_q.ensures.centred c.mul_q.ensures.congruent ∙ ap (product_mod g.row.P (unsigned_abs (to_z w32 g.row.Q)) c.usable_small.new.g) c.as_slice.ensures) (c.draw_bytes.ensures.drawn ∙ ap (λ n. bytes_draw n (g.V.Words.upcoming c.usable_short.new.words)) (let taken = length-take (g.row.P / 4 + 1) c.blank_bytes-rho.result in omega (arith, taken, c.blank_bytes-rho.ensures)))).inverse_small)

pub spelled-requires-clause-h_centred : goal.spelled-requires-clause-h_centred
spelled-requires-clause-h_centred g c = let h_same : c.as_slice-4.result.now ≡ c.mul_q.new.out = first_of (search rules, grind (arith, common_steps)) in All-same (IsCentred (to_z w32 g.row.Q)) c.as_slice-4.result.now c.mul_q.new.out h_same c.mul_q.ensures.centred

pub returns-clause-pair : goal.returns-clause-pair
returns-clause-pair g c = let f_same : c.as_slice-2.result.now ≡ c.usable_short.new.f = first_of (search rules, grind (arith, common_steps)) in let h_same : c.as_slice-4.result.now ≡ c.mul_q.new.out = first_of (search rules, grind (arith, common_steps)) in made_is c.requires.set (g.V.Words.upcoming c.args.words.now) (record { drawn = c.usable_small.new.g; inverse = c.in-Some.found; left = g.V.Words.upcoming c.usable_small.new.words }) (record { drawn = c.usable_short.new.f; inverse = c.in-Some-2.found; left = g.V.Words.upcoming c.usable_short.new.words }) c.mul_q.new.out c.draw_bytes.new.into (c.in_ok-found.ensures.found ∙ ap (option_map (λ b. record { drawn = c.usable_small.new.g; inverse = b; left = g.V.Words.upcoming c.usable_small.new.words })) c.in-Some.is) (c.in_ok-found-2.ensures.found ∙ ap (option_map (λ b. record { drawn = c.usable_short.new.f; inverse = b; left = g.V.Words.upcoming c.usable_short.new.words })) c.in-Some-2.is) (product_by c.requires.set c.usable_small.new.g c.as_slice.result.now c.mul_q.new.out c.mul_q.ensures.centred c.mul_q.ensures.congruent ∙ ap (product_mod g.row.P (unsigned_abs (to_z w32 g.row.Q)) c.usable_small.new.g) c.as_slice.ensures) (c.draw_bytes.ensures.drawn ∙ ap (λ n. bytes_draw n (g.V.Words.upcoming c.usable_short.new.words)) (let taken = length-take (g.row.P / 4 + 1) c.blank_bytes-rho.result in omega (arith, taken, c.blank_bytes-rho.ensures))) c.in_ok-secret.secret.items (c.in_ok-secret.ensures ∙ secret_same _ c.as_slice-2.result.now c.usable_short.new.f c.as_slice-3.result.now c.in-Some.found c.as_slice-4.result.now c.mul_q.new.out c.draw_bytes.new.into f_same c.as_slice-3.ensures h_same)

pub invariant_of-result : goal.invariant_of-result
invariant_of-result g c = let f_same : c.as_slice-2.result.now ≡ c.usable_short.new.f = first_of (search rules, grind (arith, common_steps)) in let h_same : c.as_slice-4.result.now ≡ c.mul_q.new.out = first_of (search rules, grind (arith, common_steps)) in let f_made : c.from_vec.result ≡ c.usable_short.new.f = first_of (search rules, grind (arith, common_steps)) in let h_made : c.from_vec-2.result ≡ c.mul_q.new.out = first_of (search rules, grind (arith, common_steps)) in record {
  tested = reads c.requires.set (g.V.Words.upcoming c.args.words.now) (record { drawn = c.usable_small.new.g; inverse = c.in-Some.found; left = g.V.Words.upcoming c.usable_small.new.words }) (record { drawn = c.usable_short.new.f; inverse = c.in-Some-2.found; left = g.V.Words.upcoming c.usable_short.new.words }) c.mul_q.new.out c.draw_bytes.new.into (c.in_ok-found.ensures.found ∙ ap (option_map (λ b. record { drawn = c.usable_small.new.g; inverse = b; left = g.V.Words.upcoming c.usable_small.new.words })) c.in-Some.is) (c.in_ok-found-2.ensures.found ∙ ap (option_map (λ b. record { drawn = c.usable_short.new.f; inverse = b; left = g.V.Words.upcoming c.usable_short.new.words })) c.in-Some-2.is) (product_by c.requires.set c.usable_small.new.g c.as_slice.result.now c.mul_q.new.out c.mul_q.ensures.centred c.mul_q.ensures.congruent ∙ ap (product_mod g.row.P (unsigned_abs (to_z w32 g.row.Q)) c.usable_small.new.g) c.as_slice.ensures) (c.draw_bytes.ensures.drawn ∙ ap (λ n. bytes_draw n (g.V.Words.upcoming c.usable_short.new.words)) (let taken = length-take (g.row.P / 4 + 1) c.blank_bytes-rho.result in omega (arith, taken, c.blank_bytes-rho.ensures))) c.in_ok-secret.secret.items (c.in_ok-secret.ensures ∙ secret_same _ c.as_slice-2.result.now c.usable_short.new.f c.as_slice-3.result.now c.in-Some.found c.as_slice-4.result.now c.mul_q.new.out c.draw_bytes.new.into f_same c.as_slice-3.ensures h_same)
      ∙ ap₂ (λ a b. Some (pair_with (parameters g.row.P) a c.in-Some.found b c.in_ok-secret.secret.items)) (sym f_made) (sym h_made);
}

pub returns-in-None-clause-unusable_left : goal.returns-in-None-clause-unusable_left
returns-in-None-clause-unusable_left g c = λ _. left_without_g g.row.P (to_z w32 g.row.Q) g.row.W (g.V.Words.upcoming c.args.words.now) (g.V.Words.upcoming c.usable_small.new.words)
    (c.in_ok-found.ensures.found ∙ ap (option_map (λ b. record { drawn = c.usable_small.new.g; inverse = b; left = g.V.Words.upcoming c.usable_small.new.words })) c.in-None.is)
    c.in_ok-found.ensures.left

pub returns-in-None-2-clause-unusable_left : goal.returns-in-None-2-clause-unusable_left
returns-in-None-2-clause-unusable_left g c = λ _. left_without_f g.row.P (to_z w32 g.row.Q) g.row.W (g.V.Words.upcoming c.args.words.now)
    (record { drawn = c.usable_small.new.g; inverse = c.in-Some.found; left = g.V.Words.upcoming c.usable_small.new.words })
    (g.V.Words.upcoming c.usable_short.new.words)
    (c.in_ok-found.ensures.found ∙ ap (option_map (λ b. record { drawn = c.usable_small.new.g; inverse = b; left = g.V.Words.upcoming c.usable_small.new.words })) c.in-Some.is)
    (c.in_ok-found-2.ensures.found ∙ ap (option_map (λ b. record { drawn = c.usable_short.new.f; inverse = b; left = g.V.Words.upcoming c.usable_short.new.words })) c.in-None-2.is)
    c.in_ok-found.ensures.left c.in_ok-found-2.ensures.left

pub returns-clause-left : goal.returns-clause-left
returns-clause-left g c =
    let count : length (take (g.row.P / 4 + 1) c.blank_bytes-rho.result) ≡ g.row.P / 4 + 1 = omega (arith, length-take (g.row.P / 4 + 1) c.blank_bytes-rho.result, c.blank_bytes-rho.ensures) in
    left_of_pair g.row.P (to_z w32 g.row.Q) g.row.W (g.V.Words.upcoming c.args.words.now)
    (record { drawn = c.usable_small.new.g; inverse = c.in-Some.found; left = g.V.Words.upcoming c.usable_small.new.words })
    (record { drawn = c.usable_short.new.f; inverse = c.in-Some-2.found; left = g.V.Words.upcoming c.usable_short.new.words })
    (g.V.Words.upcoming c.draw_bytes.new.words)
    (c.in_ok-found.ensures.found ∙ ap (option_map (λ b. record { drawn = c.usable_small.new.g; inverse = b; left = g.V.Words.upcoming c.usable_small.new.words })) c.in-Some.is)
    (c.in_ok-found-2.ensures.found ∙ ap (option_map (λ b. record { drawn = c.usable_short.new.f; inverse = b; left = g.V.Words.upcoming c.usable_short.new.words })) c.in-Some-2.is)
    c.in_ok-found.ensures.left c.in_ok-found-2.ensures.left
    (c.draw_bytes.ensures.left ∙ ap (λ n. behind ((n + 3) / 4) (g.V.Words.upcoming c.usable_short.new.words)) count)
