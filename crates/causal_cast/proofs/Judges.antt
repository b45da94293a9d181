-- The member that judges, of what a function over its history is given.
use Rattle.std.proofs.Common.{ℕ, Bool, List}
use Rattle.group_model.specs.Sets.{Id}
use Rattle.group_model.specs.Messages.{History}
use Rattle.causal_history.specs.Rows.{Row}
use Rattle.causal_cast.specs.Judging.{Judging}

abbrev pub judge_of : (rule : History → List Id) (set : ℕ) (is_public : List ℕ → Bool) (rows : List Row) (me : Id) (leaf_left : Bool)
    → Judging
judge_of rule set is_public rows me leaf_left =
    record { rule = rule; set = set; is_public = is_public; rows = rows; me = me; leaf_left = leaf_left }
