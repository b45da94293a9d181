use Rattle.std.proofs.Common.{◌≡◌, true, false, List, sym, ◌∙◌, subst, arith, length}
use Rattle.group_fields.specs.declared.ids.Digest.{Digest}
use Rattle.group_messages.specs.Messages.{ids_of}
use Rattle.causal_history.specs.Bits.{mark}
use Rattle.causal_history.specs.Numbered.{MarksMore}
use Rattle.causal_history.specs.Rows.{history_of}
use Rattle.causal_history.proofs.HeadMarks.{heads-are, heads-stand, heads-same, all-there, not_missing}
use Rattle.causal_history.proofs.RowFacts.{history-length}
use Rattle.causal_history.proofs.history.History.follows_heads.Goals as goal

pub returns-then-is_some : goal.returns-then-is_some
returns-then-is_some c = (
  λ t. absurd (let e : false ≡ true = t in cc),
  λ a. absurd (not_missing (history_of c.args.self.now) (ids_of c.args.header.now.predecessors) c.missing.result (sym c.if-is_some.ensures) c.missing.ensures
      (heads-stand (history_of c.args.self.now) (mark c.args.of.now) (ids_of c.args.header.now.predecessors) a)),
)

pub returns : goal.returns
returns c =
    let more : MarksMore (history_of c.args.self.now) (ids_of c.args.header.now.predecessors) (mark c.new-named.result) (mark c.mark.new.into) =
    subst (λ (z : List Digest). MarksMore (history_of c.args.self.now) (ids_of z) (mark c.new-named.result) (mark c.mark.new.into))
    c.predecessors.ensures c.mark.ensures in
    let size : c.count.result ≡ length (history_of c.args.self.now) = c.count.ensures.count ∙ sym (history-length c.args.self.now) in (
      λ t. heads-are (history_of c.args.self.now) (mark c.args.of.now) (mark c.mark_heads.new.into) (mark c.mark.new.into) (mark c.new-named.result)
          (ids_of c.args.header.now.predecessors) (c.predecessors_ascend.ensures.ascending c.args.header.now c.bytes-spelled.ensures.has)
          c.mark_heads.ensures c.new-named.ensures more (all-there (history_of c.args.self.now) (ids_of c.args.header.now.predecessors) c.missing.result
          (sym c.if-is_some.ensures) c.missing.ensures)
          (λ i l. c.agrees_below.ensures.0 t i (omega (arith, l, size))),
      λ a. c.agrees_below.ensures.1 (λ i l. heads-same (history_of c.args.self.now) c.count.ensures.kept.history (mark c.args.of.now) (mark c.mark_heads.new.into)
          (mark c.mark.new.into) (mark c.new-named.result) (ids_of c.args.header.now.predecessors) c.mark_heads.ensures c.new-named.ensures more a i
          (omega (arith, l, size))),
    )
