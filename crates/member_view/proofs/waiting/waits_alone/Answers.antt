use Rattle.std.proofs.Common.{◌≡◌, true, false, inl, inr, refl, sym, ◌∙◌, ap, subst, arith, Some}
use Rattle.std.proofs.lemmas.Bool.Decides.{eqb_tells}
use Rattle.causal_history.specs.Bits.{mark}
use Rattle.causal_history.specs.Rows.{history_of}
use Rattle.group_model.specs.Marks.{HasNumber}
use Rattle.group_model.proofs.Numbers.{number-below}
use Rattle.member_view.proofs.Oldest.{rows-length, message-at}
use Rattle.member_view.proofs.Waits.{wait-is}
use Rattle.member_view.proofs.waiting.waits_alone.Goals as goal
use Rattle.member_view.proofs.waiting.waits_alone.Goals.{else-not-is_number-via-then-not-is_number+else-waits, else-not-is_number-via-else-not-is_number}

pub returns-then-waits : goal.returns-then-waits
returns-then-waits c =
    let t = message-at (history_of c.args.history.now) c.loop-index.index
    (let e = c.count-index-end.ensures.count in let f = rows-length c.args.history.now in omega arith) in (
      λ y. absurd (let e : false ≡ true = y in cc),
      λ alone.
          let u = (wait-is (history_of c.args.history.now) c.count-index-end.ensures.kept.history (mark c.args.of.now) (mark c.args.met.now) c.requires.history
          c.args.author.now.id.0.0 c.loop-index.index t.by t.is_row c.requires.met).0 ((c.waits.ensures t.by t.is_row).0 c.if-waits.true) in
          absurd (let y = c.is_number.ensures.1 (alone c.loop-index.index t.by t.is_row u) in let n = c.if-not-is_number.true in cc),
    )

pub loop-index-preserved : goal.loop-index-preserved
loop-index-preserved c = λ i o l r u. elim (eqb_tells i c.loop-index.index) [
  | inr e ↦ c.loop-index.invariant i o (let n = e.1 in omega arith) r u
  | inl e ↦ elim c.else-not-is_number.branch [
    | else-not-is_number-via-then-not-is_number+else-waits w ↦
        let q : HasNumber (history_of c.args.history.now) c.loop-index.index o = subst (λ z. HasNumber (history_of c.args.history.now) z o) e.1 r in
        let k = (wait-is (history_of c.args.history.now) c.count-index-end.ensures.kept.history (mark c.args.of.now) (mark c.args.met.now) c.requires.history
        c.args.author.now.id.0.0 c.loop-index.index o q c.requires.met).1 u in
        absurd (let y = (w.waits.ensures o q).1 k in let n = w.if-waits.false in cc)
    | else-not-is_number-via-else-not-is_number w ↦
        c.is_number.ensures.0 (let n = w.if-not-is_number.false in cc) ∙ ap (λ z. Some z) (sym e.1)
  ]
]

pub returns : goal.returns
returns c = (
  λ y i o r u. c.loop-index.invariant i o
      (let b = number-below (history_of c.args.history.now) i o r in
      let e = c.count-index-end.ensures.count in let f = rows-length c.args.history.now in omega arith) r u,
  λ alone. refl,
)
