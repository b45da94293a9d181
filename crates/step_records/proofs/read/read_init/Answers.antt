use Rattle.std.proofs.Common.{◌∙◌, refl}
use Rattle.step_records.proofs.StepReads.{made}
use Rattle.step_records.proofs.read.read_init.Goals as goal

pub returns : goal.returns
returns g c =
    let sizes = c.in_ok-inviter.ensures.sizes in
    let has = c.if-not-has_cards.ensures in
    made g.K.Kem c.args.bytes.now c.in_ok-set.rest.now c.in_ok-height.ids.now c.in_ok-set.set.now c.in_ok-height.height.now c.from-height.result
    c.in_ok-inviter.inviter.now c.in_ok-inviter.random.now sizes.0 sizes.1 c.in_ok-set.ensures.cases.0
    c.in_ok-height.ensures.cases.0 (c.if-set-SET.false ∙ c.SET.ensures) (has.0 refl) c.from-height.ensures c.in_ok-inviter.ensures.parts
