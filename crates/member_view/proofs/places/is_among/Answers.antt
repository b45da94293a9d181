use Rattle.causal_history.specs.Bits.{bit}
use Rattle.causal_history.specs.Rows.{history_of}
use Rattle.member_view.proofs.Crowds.{among-bit, among-none}
use Rattle.member_view.proofs.places.is_among.Goals as goal

pub returns-in-None : goal.returns-in-None
returns-in-None c = among-none (history_of c.args.history.now) (bit c.args.crowd.0) c.args.id.now.0.0 c.in-None.ensures.place

pub returns-in-Some : goal.returns-in-Some
returns-in-Some c = among-bit (history_of c.args.history.now) (bit c.args.crowd.0) c.in-Some.place c.args.id.now.0.0 c.has.result
    c.in-Some.ensures.place c.has.ensures
