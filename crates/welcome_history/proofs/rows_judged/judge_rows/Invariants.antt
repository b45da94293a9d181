use Rattle.std.proofs.Common.{◌≡◌, ◌+◌, [], map, take, drop}
use Rattle.welcome_history.specs.Joining.{Joining, on_rows}
use Rattle.welcome_history.specs.Welcomes.{row_of}
use Rattle.welcome_history.proofs.Leading.{Leads}
use Rattle.welcome_history.proofs.rows_judged.judge_rows.Given as goal

-- the rows so far, those that are left, and their causes
abbrev pub invariant-loop-index : goal.invariant-loop-index
invariant-loop-index g l = record {
  history : l.history ≡ map (row_of l.welcome.cards) (take l.index l.welcome.rows);
  rows : l.rows ≡ drop l.index l.welcome.rows;
  leads : (F : Joining) → F.rule ≡ g.G.Membership.rule → F.set ≡ g.K.Kem.SET → F.is_public ≡ g.K.Kem.is_public
      → Leads (on_rows F l.packet l.welcome.cards 1 [] l.welcome.rows)
      (on_rows F l.packet l.welcome.cards (l.index + 1) l.history l.rows);
}
