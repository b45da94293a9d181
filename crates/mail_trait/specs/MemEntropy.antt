-- What a source of seeds in memory shows.
use Rattle.std.specs.Prelude.{◌≡◌, ◌<◌, ◌≤◌, ℕ, List, [], length, take, drop}
use Rattle.std.proofs.Common.{◌∙◌, refl}
use Rattle.std.proofs.Math.Nat.{le_refl, le_trans, lt_of_lt_of_le}
use Rattle.group_fields.specs.declared.counts.Counts.{Counts}
use Rattle.system_calls.specs.Plan.{failing_in, made_in, counts_in}
use Rattle.mail_trait.specs.declared.mem_entropy.MemEntropy.{MemEntropy}

-- the seeds that it has given, in order
abbrev pub seeds_given : MemEntropy → List (List ℕ)
seeds_given source = take source.next source.seeds.items

-- the seeds that it has yet to give, in order
abbrev pub seeds_to_come : MemEntropy → List (List ℕ)
seeds_to_come source = drop source.next source.seeds.items

-- the numbers, from 1, of the calls that are to fail
abbrev pub failing_calls : MemEntropy → List ℕ
failing_calls source = failing_in source.plan

-- how many calls it has had
abbrev pub calls_made : MemEntropy → ℕ
calls_made source = made_in source.plan

abbrev pub counts_of : MemEntropy → Counts
counts_of source = counts_in source.plan

-- The same calls are to fail, and no seed comes anew. Where no call is to fail and a seed is still to come, none has
-- failed.
pub record Follows (before now : MemEntropy) : Type 0 where
  pub same : failing_calls now ≡ failing_calls before
  pub fewer : length (seeds_to_come now) ≤ length (seeds_to_come before)
  pub honest : failing_calls before ≡ [] → 0 < length (seeds_to_come now) →
      (counts_of now).faults ≡ (counts_of before).faults

-- calls after calls are calls
pub follows-itself : (source : MemEntropy) → Follows source source
follows-itself source = record { same = refl; fewer = le_refl _; honest = λ _ _. refl }

pub follows-on : (a b c : MemEntropy) → Follows a b → Follows b c → Follows a c
follows-on a b c f g = record {
  same = g.same ∙ f.same;
  fewer = le_trans g.fewer f.fewer;
  honest = λ e more. g.honest (f.same ∙ e) more ∙ f.honest e (lt_of_lt_of_le more g.fewer);
}
