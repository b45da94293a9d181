use Rattle.std.proofs.Common.{◌∙◌, ap, map, IsErrOf, Err}
use Rattle.kem_trait.specs.Words.{seed_words}
use Rattle.two_party.proofs.Drawing.{made-all, none-made}
use Rattle.two_party.proofs.draws.make_pairs.Goals as goal

-- the error is the same, whatever the value would be
same-error : {A B E : Type 0} (e refusal : E) → IsErrOf {T = A} (Err e) refusal → IsErrOf {T = B} (Err e) refusal
same-error e refusal h = cc

pub returns-in-Ok-clause-made : goal.returns-in-Ok-clause-made
returns-in-Ok-clause-made g c =
    made-all g.K.Kem seed_words c.args.seed.now c.args.to.now c.in_ok-words.words.items c.as_mut_slice.result.now c.into_vec.result.items
    c.in_ok-words.ensures c.as_mut_slice.ensures.value (ap (map _) c.into_vec.ensures ∙ c.in-Ok.ensures.pairs)

pub returns-clause-unusable : goal.returns-clause-unusable
returns-clause-unusable g c = λ is.
    none-made g.K.Kem seed_words c.args.seed.now c.args.to.now c.in_ok-words.words.items c.as_mut_slice.result.now
    c.in_ok-words.ensures c.as_mut_slice.ensures.value (c.in-Err.ensures.unusable (same-error c.in-Err.refusal _ is))
