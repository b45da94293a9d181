use Rattle.std.proofs.Common.{◌≡◌, ◌∙◌, ap, sym, length, List}
use Rattle.std.specs.Prelude.{Ok}
use Rattle.group_fields.specs.Ids.{ids_in}
use Rattle.group_fields.specs.LayoutReads.{found, left}
use Rattle.group_fields.specs.declared.ids.Digest.{Digest}
use Rattle.group_fields.proofs.IdBytes.{ids_between, ids_in-length}
use Rattle.group_fields.proofs.fields.take_ids.Goals as goal

pub returns-clause-takes : goal.returns-clause-takes
returns-clause-takes c =
    let old = c.args.cursor.now in
    let new = c.pass_ids.new.cursor in
    let takes = c.in_ok-pass_ids.ensures.takes in
    let e : ids_in c.args.count (left old) ≡ c.new.result =
    sym (ids_between c.args.count c.place-from.result old new c.place-from.ensures.place c.in_ok-pass_ids.ensures.moved takes.same)
    ∙ (let a = c.since.ensures in let b = c.new.ensures in let d = c.from.ensures in cc) in
    record { gives = takes.gives ∙ ap (λ (x : List Digest). Ok (found x new.place (left new))) e; same = takes.same; within = takes.within }

pub returns-clause-count : goal.returns-clause-count
returns-clause-count c = ap length c.new.ensures ∙ ids_in-length c.from.result c.since.result.now ∙ c.from.ensures
