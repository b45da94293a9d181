use Rattle.std.proofs.Common.{List, ℕ, subst}
use Rattle.group_fields.specs.Layouts.{Spells}
use Rattle.mailbox_cli.specs.Steps.{Step, init_record}
use Rattle.mailbox_cli.proofs.init.made_record.Goals as goal

pub returns-in-Ok-clause-spells : goal.returns-in-Ok-clause-spells
returns-in-Ok-clause-spells g c =
    let of_id : List ℕ → Step = λ id. record { inviter = id; random = c.args.random.now } in
    let at_set = subst (λ (set : ℕ). Spells (init_record set) c.in-Ok.bytes (of_id c.inviter_id-inviter.result.0.0)) c.SET.ensures c.in-Ok.ensures.spells in
    subst (λ (id : List ℕ). Spells (init_record g.K.Kem.SET) c.in-Ok.bytes (of_id id)) c.inviter_id-inviter.ensures at_set
