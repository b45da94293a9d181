use Rattle.std.proofs.Common.{map}
use Rattle.std.proofs.lemmas.Option.{IfSome_then}
use Rattle.causal_history.specs.Bits.{bit}
use Rattle.welcome_history.proofs.CardsHeld.{member_id, none-then, missing-first, missing-later, within-more}
use Rattle.welcome_history.proofs.CardsHeld.{marked-more}
use Rattle.welcome_history.proofs.cards_held.+mark_ids.Goals as goal

pub returns-in_err-more-clause-missing : goal.returns-in_err-more-clause-missing
returns-in_err-more-clause-missing t c =
    rw c.from_residual.ensures (missing-first (map member_id c.args.ids.now) c.args.named.now c.args.index c.id.result
    c.id.ensures c.in_err-more.ensures.missing)

pub returns-clause-missing : goal.returns-clause-missing
returns-clause-missing t c =
    none-then c.mark_ids.result c.mark_ids.ensures.missing
    (missing-later (map member_id c.args.ids.now) c.args.named.now c.args.index c.id.result c.id.ensures)

pub returns-clause-there : goal.returns-clause-there
returns-clause-there t c =
    IfSome_then c.mark_ids.result c.mark_ids.ensures.there
    (λ more w. within-more (map member_id c.args.ids.now) c.args.named.now c.args.index c.id.result c.id.ensures
    c.in_ok-more.ensures.there w)

pub returns-clause-marked : goal.returns-clause-marked
returns-clause-marked t c =
    IfSome_then c.mark_ids.result c.mark_ids.ensures.marked
    (λ more v. marked-more (map member_id c.args.ids.now) c.args.named.now c.args.index c.id.result c.id.ensures
    (bit c.args.seen.0) (bit c.in_ok-more.more.0) (bit more.0) c.in_ok-more.ensures.marked v)
