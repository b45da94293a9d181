use Rattle.std.proofs.Common.{◌≡◌, ◌++◌, map, drop}
use Rattle.std.specs.List.{flat_map}
use Rattle.kem_trait.specs.Words.{seed_words}
use Rattle.two_party.specs.Drawn.{ids_of, sources_for}
use Rattle.two_party.proofs.draws.sources.Given as goal

-- the streams so far, and those of the members that are left
abbrev pub invariant-loop-member : goal.invariant-loop-member
invariant-loop-member l =
    map seed_words l.sources.items ++ flat_map (sources_for l.seed) (ids_of (drop l.member-index l.to))
    ≡ flat_map (sources_for l.seed) (ids_of l.to)
