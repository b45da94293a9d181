use Rattle.std.proofs.Common.{[], refl}
use Rattle.welcome_history.specs.Joining.{Joining}
use Rattle.welcome_history.proofs.rows_judged.take_row.Goals as goal

-- of a row that holds the predecessors stand, and it is new
pub push_row-requires-clause-may : goal.push_row-requires-clause-may
push_row-requires-clause-may g c =
    let F : Joining = record {
      rule = g.G.Membership.rule;
      set = g.K.Kem.SET;
      is_public = g.K.Kem.is_public;
      me = [];
      inviter = [];
    } in
    let held = (c.row_holds.ensures F refl refl refl).0 c.if-not-row_holds.false in
    c.requires.may held.predecessors held.fresh
