use Rattle.std.proofs.Common.{◌≡◌, ◌++◌, ◌∷◌, subst, sym, ◌∙◌, ap, take, drop}
use Rattle.group_model.specs.Sets.{In, IsAscending}
use Rattle.group_model.specs.Plain.{place}
use Rattle.group_model.proofs.Ascending.{into-placed, into-ascending, placed-In, In-placed}
use Rattle.group_model.proofs.plain.messages.with_id.Goals as goal

pub returns-clause-ascending : goal.returns-clause-ascending
returns-clause-ascending c = λ g.
    let e : c.insert.new.self.items ≡ take (c.place_of-at.result) c.args.ids.items ++ c.args.id.now ∷ drop (c.place_of-at.result) c.args.ids.items =
    c.in_ok-insert.ensures.items in
    let n : In c.args.id.now c.args.ids.items → ⊥ = λ i. let t = c.has.ensures.1 (rw (← c.as_slice.ensures.value) at i) in let f = c.if-has.false in cc in
    let p : c.place_of-at.result ≡ place c.args.ids.items c.args.id.now = c.place_of-at.ensures.value ∙ ap (λ z. place z c.args.id.now) c.as_slice-2.ensures.value in
    subst (λ z. IsAscending z) (sym (e ∙ ap (λ n. take n c.args.ids.items ++ c.args.id.now ∷ drop n c.args.ids.items) p ∙ into-placed c.args.ids.items c.args.id.now))
    (into-ascending c.args.ids.items c.args.id.now g n)

pub returns-clause-same : goal.returns-clause-same
returns-clause-same c = λ x.
    let e : c.insert.new.self.items ≡ take (c.place_of-at.result) c.args.ids.items ++ c.args.id.now ∷ drop (c.place_of-at.result) c.args.ids.items =
    c.in_ok-insert.ensures.items in (
      λ k. placed-In c.args.ids.items c.place_of-at.result c.args.id.now x (subst (λ z. In x z) e k),
      λ k. subst (λ z. In x z) (sym e) (In-placed c.args.ids.items c.place_of-at.result c.args.id.now x k),
    )
