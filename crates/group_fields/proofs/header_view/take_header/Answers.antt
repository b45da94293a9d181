use Rattle.std.proofs.Common.{List, ℕ, subst, sym, arith}
use Rattle.group_fields.specs.HeaderViews.{header_of}
use Rattle.group_fields.specs.Headers.{Spells, header}
use Rattle.group_fields.specs.LayoutReads.{left}
use Rattle.group_fields.proofs.ReadSteps.{never_back}
use Rattle.group_fields.proofs.WholeReads.{taken_spelled}
use Rattle.group_fields.proofs.header_view.take_header.Goals as goal

pub since-requires : goal.since-requires
since-requires c =
    let old = c.args.cursor.now in
    let new = c.take_parts.new.cursor in
    let forth = never_back header old.place (left old) new.place (left new) (header_of c.in_ok-parts.parts) c.in_ok-parts.ensures.takes.gives in
    omega (arith, forth, c.place-from.ensures.place)

pub invariant_of-result : goal.invariant_of-result
invariant_of-result c =
    let value = header_of c.in_ok-parts.parts in
    let takes = c.in_ok-parts.ensures.takes in
    subst (λ (b : List ℕ). Spells value b) (sym c.since.ensures)
    (taken_spelled header c.place-from.result c.args.cursor.now c.take_parts.new.cursor value c.place-from.ensures.place takes.gives takes.same takes.within)
