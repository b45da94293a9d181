-- Tests of messages: each says whether its definition holds. They compute, so that an example can be judged.
use Rattle.std.proofs.Common.{◌≡◌, ◌≢◌, ℕ, ◌<◌, Bool, true, false, inl, inr, List, [], ◌∷◌, refl, sym, ◌∙◌, subst, ap, nat_eq, nat_lt, arith}
use Rattle.std.specs.Str.{bytes_eq}
use Rattle.std.specs.Ordering.{nat_cmp, is_lt}
use Rattle.std.specs.Cmp.Lexicographic.{slice_cmp}
use Rattle.std.specs.declared.cmp.Ordering.TheVariants.{Equal, Greater}
use Rattle.std.proofs.lemmas.Bool.Decides.{nat_tests}
use Rattle.group_model.specs.Sets.{Id, In, has, IsBelow, IsAscending}
use Rattle.group_model.specs.Messages.{Kind, Create, Update, Remove, Add, Ack, AddAck, Text, Message, History, Stands, AreHeads}
use Rattle.group_model.specs.Membership.{IsSeeded}
use Rattle.group_model.specs.Validity.{IsOperation, Answers, StepsRatchet}
use Rattle.group_model.proofs.Ascending.{less_is, equal_is, greater_is, order, head-last, not_head}
use Rattle.group_model.proofs.Says.{Says, both, either, opposite, any, each, says-other, says-and, says-or, says-not, says-any, says-each, says-same, says-has, says-yes, says-no}

pub says-equal : (m n : ℕ) → Says (nat_eq m n) (m ≡ n)
says-equal m n = record { holds = λ e. grind (arith, nat_tests); told = λ e. grind (arith, nat_tests) }

pub says-less : (m n : ℕ) → Says (nat_lt m n) (m < n)
says-less m n = record { holds = λ e. grind (arith, nat_tests); told = λ e. grind (arith, nat_tests) }

-- ids in ascending order
abbrev pub below : Id → Id → Bool
below i j = is_lt (slice_cmp nat_cmp i j)

pub says-below : (i j : Id) → Says (below i j) (IsBelow i j)
says-below i j = record {
  holds = λ e. elim (order (slice_cmp nat_cmp i j)) [
    | less_is d ↦ d
    | equal_is d ↦ let n : is_lt Equal ≡ true = subst (λ z. is_lt z ≡ true) d e in cc
    | greater_is d ↦ let n : is_lt Greater ≡ true = subst (λ z. is_lt z ≡ true) d e in cc
  ];
  told = λ d. subst (λ z. is_lt z ≡ true) (sym d) refl;
}

abbrev pub ascending : List Id → Bool
ascending [] = true
ascending (i ∷ []) = true
ascending (i ∷ (j ∷ ids)) = both (below i j) (ascending (j ∷ ids))

pub says-ascending : (ids : List Id) → Says (ascending ids) (IsAscending ids)
says-ascending [] = says-yes tt
says-ascending (i ∷ []) = says-yes tt
says-ascending (i ∷ (j ∷ ids)) = says-and (says-below i j) (says-ascending (j ∷ ids))

-- kinds
abbrev pub is_operation : Kind → Bool
is_operation (Create members) = true
is_operation Update = true
is_operation (Remove y) = true
is_operation (Add y) = true
is_operation (Ack o took) = false
is_operation (AddAck o) = false
is_operation Text = false

pub says-operation : (k : Kind) → Says (is_operation k) (IsOperation k)
says-operation (Create members) = says-yes tt
says-operation Update = says-yes tt
says-operation (Remove y) = says-yes tt
says-operation (Add y) = says-yes tt
says-operation (Ack o took) = says-no (λ p. p)
says-operation (AddAck o) = says-no (λ p. p)
says-operation Text = says-no (λ p. p)

abbrev pub is_seeded : Kind → Bool
is_seeded (Create members) = true
is_seeded Update = true
is_seeded (Remove y) = true
is_seeded (Add y) = false
is_seeded (Ack o took) = false
is_seeded (AddAck o) = false
is_seeded Text = false

pub says-seeded : (k : Kind) → Says (is_seeded k) (IsSeeded k)
says-seeded (Create members) = says-yes tt
says-seeded Update = says-yes tt
says-seeded (Remove y) = says-yes tt
says-seeded (Add y) = says-no (λ p. p)
says-seeded (Ack o took) = says-no (λ p. p)
says-seeded (AddAck o) = says-no (λ p. p)
says-seeded Text = says-no (λ p. p)

abbrev pub steps : Kind → Bool
steps (Create members) = true
steps Update = true
steps (Remove y) = true
steps (Add y) = true
steps (Ack o took) = took
steps (AddAck o) = true
steps Text = false

pub says-steps : (k : Kind) → Says (steps k) (StepsRatchet k)
says-steps (Create members) = says-yes tt
says-steps Update = says-yes tt
says-steps (Remove y) = says-yes tt
says-steps (Add y) = says-yes tt
says-steps (Ack o true) = says-yes tt
says-steps (Ack o false) = says-no (λ p. p)
says-steps (AddAck o) = says-yes tt
says-steps Text = says-no (λ p. p)

abbrev pub answers : Kind → Id → Bool
answers (Create members) i = false
answers Update i = false
answers (Remove y) i = false
answers (Add y) i = false
answers (Ack o took) i = bytes_eq o i
answers (AddAck o) i = bytes_eq o i
answers Text i = false

pub says-answers : (k : Kind) (i : Id) → Says (answers k i) (Answers k i)
says-answers (Create members) i = says-no (λ p. p)
says-answers Update i = says-no (λ p. p)
says-answers (Remove y) i = says-no (λ p. p)
says-answers (Add y) i = says-no (λ p. p)
says-answers (Ack o took) i = says-same o i
says-answers (AddAck o) i = says-same o i
says-answers Text i = says-no (λ p. p)

abbrev pub adds : Kind → Id → Bool
adds (Create members) x = false
adds Update x = false
adds (Remove y) x = false
adds (Add y) x = bytes_eq y x
adds (Ack o took) x = false
adds (AddAck o) x = false
adds Text x = false

pub says-adds : (k : Kind) (x : Id) → Says (adds k x) (k ≡ Add x)
says-adds (Create members) x = says-no (λ p. cc)
says-adds Update x = says-no (λ p. cc)
says-adds (Remove y) x = says-no (λ p. cc)
says-adds (Add y) x = says-other (λ e. ap Add e) (λ e. cc) (says-same y x)
says-adds (Ack o took) x = says-no (λ p. cc)
says-adds (AddAck o) x = says-no (λ p. cc)
says-adds Text x = says-no (λ p. cc)

-- the kind adds somebody else than s
abbrev pub adds_another : Kind → Id → Bool
adds_another (Create members) s = false
adds_another Update s = false
adds_another (Remove y) s = false
adds_another (Add y) s = opposite (bytes_eq y s)
adds_another (Ack o took) s = false
adds_another (AddAck o) s = false
adds_another Text s = false

abbrev AddsAnother : Kind → Id → Type 0
AddsAnother k s = (y : Id) × (k ≡ Add y) × (y ≢ s)

pub says-adds_another : (k : Kind) (s : Id) → Says (adds_another k s) (AddsAnother k s)
says-adds_another (Create members) s = says-no (λ p. let e = p.1 in cc)
says-adds_another Update s = says-no (λ p. let e = p.1 in cc)
says-adds_another (Remove y) s = says-no (λ p. let e = p.1 in cc)
says-adds_another (Add y) s = says-other (λ n. (y, refl, n))
    (λ p e. let d : Add y ≡ Add p.0 = p.1 in let f : y ≡ p.0 = cc in p.2 (sym f ∙ e)) (says-not (says-same y s))
says-adds_another (Ack o took) s = says-no (λ p. let e = p.1 in cc)
says-adds_another (AddAck o) s = says-no (λ p. let e = p.1 in cc)
says-adds_another Text s = says-no (λ p. let e = p.1 in cc)

-- histories
abbrev pub stands : History → Id → Bool
stands h i = any (λ (a : Message). bytes_eq a.id i) h

pub says-stands : (h : History) (i : Id) → Says (stands h i) (Stands h i)
says-stands h i = says-other
    (λ p. record { by = p.0; there_is = p.1; has_id = p.2 })
    (λ s. (s.by, s.there_is, s.has_id)) (says-any (λ (a : Message). says-same a.id i) h)

-- the message may stand after the history
abbrev pub comes_next : History → Message → Bool
comes_next h m = both (each (λ i. stands h i) m.predecessors) (opposite (stands h m.id))

pub says-comes_next : (h : History) (m : Message)
    → Says (comes_next h m) (((i : Id) → In i m.predecessors → Stands h i) × (Stands h m.id → ⊥))
says-comes_next h m = says-and (says-each (λ i. says-stands h i) m.predecessors) (says-not (says-stands h m.id))

-- heads
abbrev pub is_predecessor : History → Id → Bool
is_predecessor h i = any (λ (b : Message). has b.predecessors i) h

abbrev IsPredecessor : History → Id → Type 0
IsPredecessor h i = (b : Message) × In b h × In i b.predecessors

pub says-predecessor : (h : History) (i : Id) → Says (is_predecessor h i) (IsPredecessor h i)
says-predecessor h i = says-any (λ (b : Message). says-has b.predecessors i) h

-- the ids are those of the heads
abbrev pub are_heads : History → List Id → Bool
are_heads h ids = both (ascending ids) (both
    (each (λ (a : Message). either (is_predecessor h a.id) (has ids a.id)) h)
    (each (λ i. any (λ (a : Message). both (bytes_eq a.id i) (opposite (is_predecessor h a.id))) h) ids))

pub heads-where : (h : History) (ids : List Id) → are_heads h ids ≡ true → AreHeads h ids
heads-where h ids e =
    let k = (says-and (says-ascending ids) (says-and
    (says-each (λ (a : Message). says-or (says-predecessor h a.id) (says-has ids a.id)) h)
    (says-each (λ i. says-any (λ (a : Message). says-and (says-same a.id i) (says-not (says-predecessor h a.id))) h) ids))).holds e in
    record {
      ascending = k.0;
      all = λ a d. elim (k.1.0 a d.there_is) [
        | inl p ↦ absurd (not_head h a p.0 p.1 p.2 d)
        | inr i ↦ i
      ];
      only = λ i j. let p = k.1.1 i j in
          (p.0, head-last h p.0 p.1 (λ b n q. p.2.1 (b, n, q)), p.2.0);
    }
