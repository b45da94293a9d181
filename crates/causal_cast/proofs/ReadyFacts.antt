-- What is ready may be taken, and one verdict is the first.
use Rattle.std.proofs.Common.{◌≡◌, inl, inr, ◌⊎◌, [], ◌∷◌, ◌++◌, refl, sym, subst}
use Rattle.group_model.specs.Sets.{In}
use Rattle.group_model.specs.Messages.{IsHistory}
use Rattle.group_model.specs.Packets as model
use Rattle.group_model.specs.Settings.{Owner}
use Rattle.group_model.specs.Logs.{Log}
use Rattle.group_model.specs.LawfulLogs.{TakesPacket}
use Rattle.group_model.proofs.Pasts.{past-within}
use Rattle.causal_history.specs.Rows.{history_of}
use Rattle.group_messages.specs.Messages.{message_of}
use Rattle.member_view.specs.Causes.{Causes, AreSingle, IsFirst, GivesNone, single-unless, single-when}
use Rattle.member_view.specs.Causes.{first-one, unless, when}
use Rattle.wire_codec.specs.Packets.{Packet}
use Rattle.causal_cast.specs.Judging.{Judging, IsSigned, inviter_by, receivers}
use Rattle.causal_cast.specs.Taken.{IsSeenBy}
use Rattle.causal_cast.specs.Verdicts.{verdicts, MayBeTaken, IsOfJudge}
use Rattle.causal_cast.specs.Verdicts.{on_arrival, on_rules, on_limits}
use Rattle.causal_cast.specs.declared.verdict.Verdict.{Verdict}
use Rattle.causal_cast.specs.declared.verdict.Verdict.TheVariants as answers
use Rattle.causal_cast.proofs.Begun.{begun-with, follows}
use Rattle.causal_cast.proofs.Singles.{single-missing, single-fork}
use Rattle.causal_cast.proofs.Taking.{takes-next}

-- each cause has one answer
verdicts-single : (J : Judging) (packet : Packet) → AreSingle (verdicts J packet)
unfolding verdicts
verdicts-single J packet = (
  single-unless _ _,
  (
    single-unless _ _,
    (
      single-when _ _,
      (
        single-missing _ _ _,
        (
          single-unless _ _,
          (
            single-unless _ _,
            (
              single-fork _ _ _,
              (
                single-unless _ _,
                (
                  single-unless _ _,
                  (
                    single-unless _ _,
                    (
                      single-unless _ _,
                      (
                        single-unless _ _,
                        (single-when _ _, tt),
                      ),
                    ),
                  ),
                ),
              ),
            ),
          ),
        ),
      ),
    ),
  ),
)

pub one-verdict : (J : Judging) (packet : Packet) (a b : Verdict) → IsFirst (verdicts J packet) a
    → IsFirst (verdicts J packet) b → a ≡ b
one-verdict J packet a b x y = first-one (verdicts J packet) (verdicts-single J packet) a b x y

-- what each cause answers has the property
abbrev AllAnswer : {A : Type 0} → (A → Type 0) → Causes A → Type 0
AllAnswer {A} P [] = Unit {0}
AllAnswer {A} P (c ∷ causes) = ((a : A) → c.gives a → P a) × AllAnswer P causes

first-answer : {A : Type 0} (P : A → Type 0) (causes : Causes A) → AllAnswer P causes → (a : A) → IsFirst causes a → P a
first-answer P [] all a x = absurd x
first-answer P (c ∷ causes) all a (inl x) = all.0 a x
first-answer P (c ∷ causes) all a (inr x) = first-answer P causes all.1 a x.1

-- the first answer has the one property where a cause of the front gives it, else the other
either-answer : {A : Type 0} (P Q : A → Type 0) (front back : Causes A) → AllAnswer P front → AllAnswer Q back → (a : A)
    → IsFirst (front ++ back) a → P a ⊎ Q a
either-answer P Q [] back all others a x = inr (first-answer Q back others a x)
either-answer P Q (c ∷ front) back all others a (inl x) = inl (all.0 a x)
either-answer P Q (c ∷ front) back all others a (inr x) = either-answer P Q front back all.1 others a x.1

-- an answer that no cause of the front gives is one of the back, and no cause of the front holds
passes-front : {A : Type 0} (P : A → Type 0) (front back : Causes A) → AllAnswer P front → (a : A) → (P a → ⊥)
    → IsFirst (front ++ back) a → GivesNone front × IsFirst back a
passes-front P [] back all a other x = (tt, x)
passes-front P (c ∷ front) back all a other (inl x) = absurd (other (all.0 a x))
passes-front P (c ∷ front) back all a other (inr x) =
    let rest = passes-front P front back all.1 a other x.1 in
    ((x.0, rest.0), rest.1)

-- all verdicts but `Ready`, which comes last
abbrev refusals : (J : Judging) (packet : Packet) → Causes Verdict
refusals J packet =
    on_arrival J packet ++ (on_rules J packet ++ (on_limits J packet
    ++ (unless (IsSigned J.rows (message_of packet.header) packet.signature) answers.BadSignature ∷ [])))

abbrev ready : Causes Verdict
ready = when (Unit {0}) answers.Ready ∷ []

-- a judge's answer other than `Ready`
abbrev IsRefusal : Verdict → Type 0
IsRefusal a = IsOfJudge a × (a ≡ answers.Ready → ⊥)

are-refusals : (J : Judging) (packet : Packet) → AllAnswer IsRefusal (refusals J packet)
are-refusals J packet = (
  by answers.Out (tt, λ e. cc),
  (
    by answers.OtherGroup (tt, λ e. cc),
    (
      by answers.Known (tt, λ e. cc),
      (
        λ z g. is (answers.Waits g.0) (tt, λ e. cc) z g.2,
        (
          by answers.Stranger (tt, λ e. cc),
          (
            by answers.NotMember (tt, λ e. cc),
            (
              λ z g. is (answers.Forked g.0) (tt, λ e. cc) z g.2,
              (
                by answers.BadOrder (tt, λ e. cc),
                (
                  by answers.BadKind (tt, λ e. cc),
                  (
                    by (answers.HistoryFull _) (tt, λ e. cc),
                    (by (answers.KeysSpent _) (tt, λ e. cc), (by answers.BadSignature (tt, λ e. cc), tt)),
                  ),
                ),
              ),
            ),
          ),
        ),
      ),
    ),
  ),
)
  where
    is : (answer : Verdict) → IsRefusal answer → (z : Verdict) → z ≡ answer → IsRefusal z
    is answer k z e = subst IsRefusal (sym e) k

    by : {P : Type 0} (answer : Verdict) → IsRefusal answer → (z : Verdict) → P × (z ≡ answer) → IsRefusal z
    by answer k z g = is answer k z g.1

-- the answer of a judge
pub of_judge : (J : Judging) (packet : Packet) (a : Verdict) → IsFirst (verdicts J packet) a → IsOfJudge a
unfolding verdicts
of_judge J packet a x = elim (either-answer IsRefusal (λ z. z ≡ answers.Ready) (refusals J packet) ready
    (are-refusals J packet) (λ z g. g.1, tt) a x) [
      | inl refusal ↦ refusal.0
      | inr is ↦ subst IsOfJudge (sym is) tt
    ]

-- what no refusal holds of may be taken
unrefused-may_be_taken : (J : Judging) (packet : Packet) → IsHistory (history_of J.rows) → GivesNone (refusals J packet)
    → MayBeTaken J packet
unrefused-may_be_taken J packet g
    (member, (group, (new, (stand, (known, (current, (alone, (order, (kind, (limits, (leaf, (signed, none)))))))))))) =
    let h = history_of J.rows in
    let m = message_of packet.header in
    record {
      member = member;
      group = group;
      other = known.1;
      history = (stand, new, g);
      valid = follows J.rule (inviter_by J.is_public packet.cards) h m
          (begun-with h (past-within h m.predecessors known.0.there_is))
          (record {
            named = known.0;
            member = current;
            next = order.next;
            suits = kind.0;
            in_turn = order.in_turn;
            heads = order.heads;
          });
      unforked = λ a i e d.
          alone a i (record { sender = e; seq = d; other = λ k. new (record { by = a; there_is = i; has_id = k }) });
      parts = kind.1;
      limits = limits;
      leaf = leaf;
      signed = signed;
    }

pub ready-may_be_taken : (J : Judging) (packet : Packet) → IsHistory (history_of J.rows)
    → IsFirst (verdicts J packet) answers.Ready → MayBeTaken J packet
unfolding verdicts
ready-may_be_taken J packet g x =
    unrefused-may_be_taken J packet g
    (passes-front IsRefusal (refusals J packet) ready (are-refusals J packet) answers.Ready (λ refusal. refusal.1 refl)
    x).0

-- the owner of a log may take it
pub taken-lawful : (J : Judging) (packet : Packet) (O : Owner) (l : Log) (p : model.Packet) → MayBeTaken J packet
    → IsSeenBy J packet O l p → TakesPacket O l p
taken-lawful J packet O l p t s =
    let h = history_of J.rows in
    let m = message_of packet.header in
    let member = subst (λ r. In J.me (r h)) (sym s.rule) t.member in
    let begun = begun-with h (O.is_rule.named h J.me member).there_is in
    takes-next O l p J.rule J.me h m s.rule s.id s.history s.header (inviter_by J.is_public packet.cards)
    (receivers packet.parts) begun.first begun.older begun.is t.other t.history t.valid s.inviter t.unforked s.parts
    t.parts
