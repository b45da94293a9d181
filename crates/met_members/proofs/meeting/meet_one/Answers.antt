use Rattle.std.proofs.Common.{◌≡◌, ◌<◌, ℕ, Some, None, refl, sym, ◌∙◌, subst}
use Rattle.std.proofs.lemmas.Result.{on_ok_weaker}
use Rattle.group_model.specs.Sets.{Id, In}
use Rattle.met_members.proofs.Meets.{all-paired, met-other, met-own, one-met}
use Rattle.met_members.proofs.meeting.meet_one.Goals as goal

pub meet-requires-clause-own : goal.meet-requires-clause-own
meet-requires-clause-own g c =
    let ids = c.requires.met.0 in
    let own : c.args.id.now.0.0 ≡ c.args.me.now.0.0 = c.is_same.ensures.0 c.if-is_same.true in
    λ q l. all-paired ids c.args.me.now.0.0 c.args.book.now c.requires.met.1
    (subst (λ (z : Id). In z ids → ⊥) own c.requires.met.2) q (subst (λ (k : ℕ). q < k) c.met-place.ensures.count l)

pub returns-then-is_same : goal.returns-then-is_same
returns-then-is_same g c =
    let me = c.args.me.now.0.0 in
    let x = c.args.id.now.0.0 in
    let own : x ≡ me = c.is_same.ensures.0 c.if-is_same.true in
    on_ok_weaker c.meet.result
    (λ is ids met fresh. (
      one-met ids me x c.args.book.now c.meet.new.self None is met (λ other. absurd (other own)),
      λ O state id says h. met-own g.K.Kem O (c.meetings_stand.ensures.own O) ids x c.args.book.now c.meet.new.self state is fresh (id ∙ sym own) h,
    ))
    c.meet.ensures.met

pub returns-else-is_same : goal.returns-else-is_same
returns-else-is_same g c =
    let me = c.args.me.now.0.0 in
    let x = c.args.id.now.0.0 in
    on_ok_weaker c.meet-else-is_same.result
    (λ is ids met fresh. (
      one-met ids me x c.args.book.now c.meet-else-is_same.new.self (Some c.args.key.now) is met (λ other. refl),
      λ O state id says h. met-other g.K.Kem O (c.meetings_stand.ensures.meets O) ids x c.args.key.now c.args.book.now c.meet-else-is_same.new.self state is fresh says h,
    ))
    c.meet-else-is_same.ensures.met
