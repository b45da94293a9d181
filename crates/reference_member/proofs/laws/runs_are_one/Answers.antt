use Rattle.reference_member.proofs.OneRun.{one-run}
use Rattle.reference_member.proofs.laws.runs_are_one.Goals as goal

pub returns : goal.returns
returns g c = record {
  member = λ rule is_rule steps M N made others x y. (one-run g.K.Kem rule is_rule steps M N made others x y).0;
  messages = λ rule is_rule steps M N made others x y. (one-run g.K.Kem rule is_rule steps M N made others x y).1;
}
