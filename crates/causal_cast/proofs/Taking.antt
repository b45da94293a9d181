-- What may follow a history is what a lawful log may take.
use Rattle.std.proofs.Common.{◌≡◌, ◌≢◌, List, [], ◌∷◌, Option, Some, None, map, sym, ◌∙◌}
use Rattle.std.proofs.Common.{ap, subst}
use Rattle.std.proofs.lemmas.Slice.Eq.{bytes_eq-Decides}
use Rattle.std.specs.Str.{bytes_eq}
use Rattle.group_model.specs.Sets.{Id, In, there}
use Rattle.group_model.specs.Messages.{Add, Message, History, past, IsHistory}
use Rattle.group_model.specs.Validity.{MayFollow, IsUnforked, SendsParts}
use Rattle.group_model.specs.Pairing.{Part}
use Rattle.group_model.specs.Packets.{Addressed, Packet, part_for}
use Rattle.group_model.specs.Settings.{Owner}
use Rattle.group_model.specs.Logs.{Log, hist}
use Rattle.group_model.specs.LawfulLogs.{TakesPacket}
use Rattle.group_model.proofs.ListFacts.{yes_is, no_is, test, In-head}
use Rattle.causal_cast.proofs.Inviters.{goes_on-moved}

-- who has a part is among those that the parts are for
pub part-due : (parts : List Addressed) (y : Id) (q : Part) → part_for parts y ≡ Some q → In y (map (λ a. a.to) parts)
part-due [] y q e = absurd (let n : None ≡ Some q = e in cc)
part-due (a ∷ parts) y q e = elim (test (bytes_eq a.to y)) [
  | yes_is d ↦ In-head (map (λ b. b.to) parts) (sym ((bytes_eq-Decides a.to y).0 d))
  | no_is d ↦ there (part-due parts y q (rw d at e))
]

module _ (O : Owner) (l : Log) (q : Packet) (rule : History → List Id) (me : Id) (h : History) (m : Message)
    (rule_is : O.rule ≡ rule) (id_is : O.id ≡ me) (history_is : hist l ≡ h) (header_is : q.header ≡ m) where
  moved : (F : (History → List Id) → Id → History → Message → Type 0) → F rule me h m
      → F O.rule O.id (hist l) q.header
  moved F x =
      subst (λ r. F r O.id (hist l) q.header) (sym rule_is)
      (subst (λ i. F rule i (hist l) q.header) (sym id_is)
      (subst (λ g. F rule me g q.header) (sym history_is) (subst (λ n. F rule me h n) (sym header_is) x)))

  -- what goes on from a history may be taken by the log that has it
  pub takes-next : (inviter : Id → Option Id) (ids : List Id) → (first : Message) (older : History)
      → h ≡ first ∷ older → m.sender ≢ me → IsHistory (m ∷ h) → MayFollow rule inviter h m
      → ((y : Id) → m.kind ≡ Add y → O.inviter y ≡ inviter y) → IsUnforked h m → map (λ a. a.to) q.parts ≡ ids
      → SendsParts rule h m ids → TakesPacket O l q
  takes-next inviter ids first older is other history valid agree unforked parts_are suits =
      record {
        other = moved (λ r i g n. n.sender ≢ i) other;
        history = moved (λ r i g n. IsHistory (n ∷ g)) history;
        valid = moved (λ r i g n. MayFollow r O.inviter g n)
            (subst (λ z. MayFollow rule O.inviter z m) (sym is)
            (goes_on-moved rule inviter O.inviter (past (first ∷ older) m.predecessors) m agree
            (subst (λ z. MayFollow rule inviter z m) is valid)));
        invited = λ none.
            absurd (let e : [] ≡ first ∷ older = sym (ap hist none) ∙ history_is ∙ is in cc);
        unforked = moved (λ r i g n. IsUnforked g n) unforked;
        part_due = λ part e. (moved (λ r i g n. SendsParts r g n ids) suits).only O.id
            (subst (λ z. In O.id z) parts_are (part-due q.parts O.id part e));
      }
