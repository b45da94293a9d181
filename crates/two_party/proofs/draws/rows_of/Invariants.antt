use Rattle.std.proofs.Common.{◌≡◌, ◌++◌, map, drop, Some, IsSome}
use Rattle.std.specs.List.{flat_map, All}
use Rattle.std.specs.Vec.Iter.{into_iter_items}
use Rattle.group_keys.specs.Primitives.{primitives_of}
use Rattle.two_party.specs.Drawn.{ids_of, drawn_for, sources_for}
use Rattle.two_party.proofs.draws.rows_of.Given as goal

-- the rows so far and those of the members that are left, and the pairs of these
abbrev pub invariant-loop-member : goal.invariant-loop-member
invariant-loop-member g l = record {
  rows : l.rows.items ++ drawn_for (primitives_of g.K.Kem) l.seed (ids_of (drop l.member-index l.to))
      ≡ drawn_for (primitives_of g.K.Kem) l.seed (ids_of l.to);
  usable : All (λ row. IsSome row.left) l.rows.items;
  pairs : map (λ pair. Some (g.K.Kem.secret_key pair)) (into_iter_items l.pairs)
      ≡ map g.K.Kem.made (flat_map (sources_for l.seed) (ids_of (drop l.member-index l.to)));
}
