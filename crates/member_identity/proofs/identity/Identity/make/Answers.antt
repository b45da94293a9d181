use Rattle.std.proofs.Common.{sym, ◌∙◌, ap, rules}
use Rattle.kem_trait.specs.Words.{seed_words}
use Rattle.member_identity.proofs.Drawn.{same_words, same_secret, has_secret}
use Rattle.member_identity.proofs.identity.Identity.make.Goals as goal

pub returns-in_err-pair-clause-unusable : goal.returns-in_err-pair-clause-unusable
returns-in_err-pair-clause-unusable g c =
    let same = same_secret g.K.Kem c.args.random.now c.kdf.result (seed_words c.new-words.result) c.kdf.ensures c.new-words.ensures in
    search rules

pub invariant_of-result : goal.invariant_of-result
invariant_of-result g c =
    ap g.K.Kem.made (sym (same_words c.args.random.now c.kdf.result (seed_words c.new-words.result) c.kdf.ensures c.new-words.ensures)) ∙ c.in_ok-pair.ensures.pair

pub returns-clause-usable : goal.returns-clause-usable
returns-clause-usable g c =
    has_secret g.K.Kem c.args.random.now c.kdf.result (seed_words c.new-words.result) c.kdf.ensures c.new-words.ensures (g.K.Kem.secret_key c.in_ok-pair.pair) c.in_ok-pair.ensures.pair
