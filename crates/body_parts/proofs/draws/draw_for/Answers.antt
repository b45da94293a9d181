use Rattle.std.proofs.Common.{◌≡◌, List, None, subst}
use Rattle.std.specs.Prelude.{Any}
use Rattle.group_model.specs.Sets.{Id}
use Rattle.group_keys.specs.Primitives.{primitives_of}
use Rattle.two_party.specs.Drawn.{Drawn, drawn_for, ids_of}
use Rattle.body_parts.specs.Receivers.{ids_to}
use Rattle.body_parts.proofs.Drawing.{all_drawn, all_left, members-are}
use Rattle.body_parts.proofs.draws.draw_for.Goals as goal

pub returns-clause-left : goal.returns-clause-left
returns-clause-left g c =
    let same : ids_of c.as_slice.result.now ≡ ids_to c.args.to.now =
    members-are c.args.to.now c.in_ok-members.members.items c.as_slice.result.now c.in_ok-members.ensures c.as_slice.ensures.value in
    all_left (primitives_of g.K.Kem) c.args.random.now (ids_to c.args.to.now) (ids_of c.as_slice.result.now) c.draw_parts.result same
    c.draw_parts.ensures.drawn c.draw_parts.ensures.usable

pub returns-clause-drawn : goal.returns-clause-drawn
returns-clause-drawn g c =
    let same : ids_of c.as_slice.result.now ≡ ids_to c.args.to.now =
    members-are c.args.to.now c.in_ok-members.members.items c.as_slice.result.now c.in_ok-members.ensures c.as_slice.ensures.value in
    all_drawn (primitives_of g.K.Kem) c.args.random.now (ids_to c.args.to.now) (ids_of c.as_slice.result.now) c.draw_parts.result same
    c.draw_parts.ensures.drawn

pub returns-clause-unusable : goal.returns-clause-unusable
returns-clause-unusable g c = λ e.
    let same : ids_of c.as_slice.result.now ≡ ids_to c.args.to.now =
    members-are c.args.to.now c.in_ok-members.members.items c.as_slice.result.now c.in_ok-members.ensures c.as_slice.ensures.value in
    subst (λ (ids : List Id). Any (λ (row : Drawn). row.left ≡ None) (drawn_for (primitives_of g.K.Kem) c.args.random.now ids)) same
    (c.draw_parts.ensures.unusable e)
