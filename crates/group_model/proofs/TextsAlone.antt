-- A member has a text of texts alone.
use Rattle.std.proofs.Common.{◌≡◌, true, false, inl, inr, [], ◌∷◌, Option, Some, refl, sym, ◌∙◌, ap, subst}
use Rattle.std.specs.Str.{bytes_eq}
use Rattle.std.proofs.lemmas.Slice.Eq.{bytes_eq-Decides}
use Rattle.group_model.specs.Sets.{Bytes, In, here}
use Rattle.group_model.specs.Messages.{Kind, Create, Update, Remove, Add, Ack, AddAck, Text, Message}
use Rattle.group_model.specs.Settings.{Owner}
use Rattle.group_model.specs.Logs.{LogEntry, Joined, Took, Made, header_of, Log, rows_of, hist}
use Rattle.group_model.specs.Knowledge.{text_by, text_opened, chain_known, text_at, text_of}
use Rattle.group_model.specs.LawfulLogs.{MayEnter, IsLawfulLog}
use Rattle.group_model.specs.Agreement.{TextsAlone}
use Rattle.group_model.proofs.ListFacts.{yes_is, no_is, test, In-nothing, In-cases}
use Rattle.group_model.proofs.Pasts.{same-message}
use Rattle.group_model.proofs.LogLaws.{Kept, log_kept}
use Rattle.group_model.proofs.Knowing.{text_of-own, text_of-apart}

has_text : (k : Kind) (o : Option Bytes) (t : Bytes) → text_by k o ≡ Some t → k ≡ Text
has_text (Create members) o t e = cc
has_text Update o t e = cc
has_text (Remove y) o t e = cc
has_text (Add y) o t e = cc
has_text (Ack i true) o t e = cc
has_text (Ack i false) o t e = cc
has_text (AddAck i) o t e = cc
has_text Text o t e = refl

module _ (O : Owner) where
  entry_text : (e : LogEntry) (l : Log) (t : Bytes) → text_at O.primitives O.card O.id e l ≡ Some t → (header_of e).kind ≡ Text
  entry_text (Joined p) l t e = cc
  entry_text (Took p) l t e =
      has_text p.header.kind (text_opened O.primitives (chain_known O.primitives O.card O.id l p.header.sender) p.sealed) t e
  entry_text (Made p r) l t e = has_text p.header.kind (Some r.text) t e

  none_at_start : (m : Message) (t : Bytes) → text_of O.primitives O.card O.id [] m ≡ Some t → ⊥
  unfolding text_of
  none_at_start m t e = cc

  -- an older text is one of the log before
  older_text : (e : LogEntry) (l : Log) (m : Message) (t : Bytes) → MayEnter O l e → In m (rows_of e (hist l))
      → text_of O.primitives O.card O.id l m ≡ Some t → In m (hist l)
  older_text (Joined p) l m t f i d = absurd (none_at_start m t (subst (λ z. text_of O.primitives O.card O.id z m ≡ Some t) f.fresh d))
  older_text (Took p) l m t f i d = i
  older_text (Made p r) l m t f i d = i

  alone : (l : Log) (m : Message) (t : Bytes) → IsLawfulLog O l → In m (hist l) → text_of O.primitives O.card O.id l m ≡ Some t
      → m.kind ≡ Text
  alone [] m t f i d = absurd (In-nothing i)
  alone (e ∷ l) m t f i d =
      let k : Kept O (hist (e ∷ l)) = log_kept O (e ∷ l) f in
      elim (test (bytes_eq (header_of e).id m.id)) [
        | yes_is q ↦ (
            let n : (header_of e).id ≡ m.id = (bytes_eq-Decides (header_of e).id m.id).0 q in
            let same : header_of e ≡ m = same-message (hist (e ∷ l)) k.history here i n in
            subst (λ (z : Message). z.kind ≡ Text) same
            (entry_text e l t (sym (text_of-own O.primitives O.card O.id e l m n) ∙ d)))
        | no_is q ↦ (
            let n : (header_of e).id ≡ m.id → ⊥ = λ g. let h : true ≡ false = sym ((bytes_eq-Decides (header_of e).id m.id).1 g) ∙ q in cc in
            let before : text_of O.primitives O.card O.id l m ≡ Some t = sym (text_of-apart O.primitives O.card O.id e l m n) ∙ d in
            elim (In-cases i) [
              | inl g ↦ absurd (n (ap (λ (z : Message). z.id) (sym g)))
              | inr j ↦ alone l m t f.1 (older_text e l m t f.0 j before) before
            ])
      ]

pub texts_alone : TextsAlone
texts_alone O l m t f i d = alone O l m t f i d
