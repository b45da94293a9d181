use Rattle.std.proofs.Common.{◌∷◌, Option, nat_eq, subst}
use Rattle.std.proofs.lemmas.Option.{slice_get_within}
use Rattle.causal_history.specs.Rows.{history_of}
use Rattle.group_messages.specs.Messages.{message_of}
use Rattle.group_model.specs.Membership.{ids_named}
use Rattle.group_model.specs.Sets.{Bytes}
use Rattle.group_model.proofs.Places.{place-distinct, place-stays}
use Rattle.group_model.proofs.RemoveWins.{ids_named-distinct}
use Rattle.member_book.specs.Books.{BookState, hand}
use Rattle.member_book.specs.Places.{id_at}
use Rattle.secret_book.specs.HeldBooks.{held}
use Rattle.book_standing.specs.Standing.{HeldStands}
use Rattle.add_ops.specs.Taking.{joined}
use Rattle.add_ops.proofs.AddMoves.{own-place, takes-add}
use Rattle.add_ops.proofs.Forgotten.{joined-where}
use Rattle.add_ops.proofs.taking.take_add.Goals as goal

pub returns : goal.returns
returns g c = λ O state mine h y kind.
    let H = history_of c.args.history.now in let m = message_of c.args.add.now in let ids = ids_named (m ∷ H) in
    let p = c.sender_place-place.result in let place = c.sender_place-place.ensures.place in
    let t = c.added_place-target.result in let target = c.added_place-target.ensures.place y kind in
    let is_own = own-place ids (place-distinct ids (ids_named-distinct (m ∷ H))) t c.args.me y O.id target mine in
    let before = subst (λ (s : BookState). HeldStands g.K.Kem O ids (held c.join.new.book) s)
    (joined-where g.K.Kem O H m y (nat_eq t c.args.me) state is_own)
    (c.join.ensures.stands O ids state (λ q x e. place-stays m H q x e) h) in
    let opens = c.in_ok-opened.ensures.opened O ids (joined g.K.Kem O H m y state) before (slice_get_within ids p m.sender place) in
    takes-add g.K.Kem O H m y p place _ (nat_eq t c.args.me) is_own state c.in_ok-opened.opened _ opens c.is_some.result c.is_some.ensures _ _
    (λ s stands within. subst (λ (r : Option Bytes). HeldStands g.K.Kem O ids (held c.hand_ratchet.new.book) (hand (id_at ids p) r s))
    c.where_own.ensures (c.hand_ratchet.ensures.stands O ids s stands within))
    c.in_ok-learned.learned (λ s stands. c.in_ok-learned.ensures O ids y s stands place target)
