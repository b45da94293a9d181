use Rattle.causal_history.specs.Bits.{bit}
use Rattle.causal_history.specs.Rows.{history_of}
use Rattle.member_view.specs.Crowds.{ids_with, last_of}
use Rattle.member_view.proofs.Crowds.{more-one, more-missing, with-distinct}
use Rattle.member_view.proofs.places.with_id.Goals as goal

pub returns-in-None : goal.returns-in-None
returns-in-None c = more-missing (ids_with (last_of c.args.last) (history_of c.args.history.now)) (bit c.args.crowd.0) c.args.id.now.0.0
    c.in-None.ensures.place

pub returns-in-Some : goal.returns-in-Some
returns-in-Some c = more-one (ids_with (last_of c.args.last) (history_of c.args.history.now))
    (with-distinct (history_of c.args.history.now) (last_of c.args.last)) (bit c.args.crowd.0) (bit c.with.result.0) c.args.id.now.0.0
    c.in-Some.place c.in-Some.ensures.place c.with.ensures.set c.with.ensures.others
