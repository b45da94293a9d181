-- The verdicts stage by stage.
use Rattle.std.proofs.Common.{◌++◌}
use Rattle.member_view.specs.Causes.{IsFirst, GivesNone, first-front, first-back}
use Rattle.wire_codec.specs.Packets.{Packet}
use Rattle.causal_cast.specs.Judging.{Judging}
use Rattle.causal_cast.specs.Verdicts.{on_arrival, on_rules, on_limits, on_signature, from_rules, verdicts}
use Rattle.causal_cast.specs.declared.verdict.Verdict.{Verdict}

module _ (J : Judging) (p : Packet) (v : Verdict) where
  pub by_arrival : IsFirst (on_arrival J p) v → IsFirst (verdicts J p) v
  unfolding verdicts
  by_arrival a = first-front (on_arrival J p) (from_rules J p) v a

  pub by_message : GivesNone (on_arrival J p) → IsFirst (from_rules J p) v → IsFirst (verdicts J p) v
  unfolding verdicts
  by_message n a = first-back (on_arrival J p) (from_rules J p) v n a

  pub by_rules : IsFirst (on_rules J p) v → IsFirst (from_rules J p) v
  by_rules a = first-front (on_rules J p) (on_limits J p ++ on_signature J p) v a

  pub by_limits : GivesNone (on_rules J p) → IsFirst (on_limits J p) v → IsFirst (from_rules J p) v
  by_limits r a =
      first-back (on_rules J p) (on_limits J p ++ on_signature J p) v r
      (first-front (on_limits J p) (on_signature J p) v a)

  pub by_signature : GivesNone (on_rules J p) → GivesNone (on_limits J p) → IsFirst (on_signature J p) v
      → IsFirst (from_rules J p) v
  by_signature r l a =
      first-back (on_rules J p) (on_limits J p ++ on_signature J p) v r
      (first-back (on_limits J p) (on_signature J p) v l a)
