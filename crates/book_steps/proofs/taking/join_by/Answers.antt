use Rattle.std.proofs.Common.{◌≡◌, sym, subst}
use Rattle.causal_history.specs.Rows.{history_of}
use Rattle.group_model.specs.Messages.{Add, History, Message}
use Rattle.group_model.specs.Packets.{part_for}
use Rattle.secret_book.specs.HeldBooks.{held}
use Rattle.secret_book.proofs.Outcomes.{ok-map}
use Rattle.add_ops.specs.Taking.{TakesAdd}
use Rattle.book_steps.proofs.Takes.{joins, of-packet}
use Rattle.book_steps.proofs.taking.join_by.Goals as goal

pub returns : goal.returns
returns g c = ok-map c.take_add.result
    (λ taken takes. λ O state p place stands header rows part kind.
    let after = held c.take_add.new.book in
    joins g.K.Kem O c.calls_make_the_book.ensures.calls p state after (subst (λ (m : Message). m.kind ≡ Add O.id) (sym header) kind) taken
    (subst (λ (h : History). TakesAdd g.K.Kem O h p.header O.id (part_for p.parts O.id) state taken after) (sym rows)
    (of-packet O p _ _ (λ m q. TakesAdd g.K.Kem O (history_of c.args.history.now) m O.id q state taken after) header part
    (takes O state place stands O.id kind)))) c.take_add.ensures
