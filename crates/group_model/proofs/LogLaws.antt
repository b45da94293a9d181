-- What a lawful log keeps: its history is a valid one in which nothing is forked.
use Rattle.std.proofs.Common.{◌≡◌, ◌≢◌, ◌+◌, inl, inr, [], ◌∷◌, sym, ◌∙◌, subst, ap, arith}
use Rattle.group_model.specs.Sets.{In}
use Rattle.group_model.specs.Messages.{Create, Add, Message, History, past, IsHistory}
use Rattle.group_model.specs.Membership.{Names, Named}
use Rattle.group_model.specs.Validity.{MeetsKind, AllValid, MayFollow, IsUnforked, AreUnforked, count_of}
use Rattle.group_model.specs.Settings.{Owner}
use Rattle.group_model.specs.Packets.{Packet, Given}
use Rattle.group_model.specs.Logs.{LogEntry, Joined, Took, Made, Log, hist}
use Rattle.group_model.specs.LawfulLogs.{MakesPacket, JoinsByPacket, MayEnter, IsLawfulLog}
use Rattle.group_model.proofs.Pasts.{past-within, heads-lead_back, past-all}
use Rattle.group_model.proofs.Valids.{valid-from, each-valid}
use Rattle.group_model.proofs.Unforked.{next-number, number-within}

module _ (O : Owner) where
  pub record Kept (h : History) : Type 0 where
    pub history : IsHistory h
    pub valid : AllValid O.rule O.inviter h
    pub unforked : AreUnforked h

  -- what follows all messages of a history has a number that none of its sender's has
  follows_all : (h : History) (m : Message) → Kept h → MayFollow O.rule O.inviter h m
      → ((a : Message) → In a h → In a (past h m.predecessors)) → IsUnforked h m
  follows_all h m k v all a i s n =
      let e : m.seq ≡ count_of m.sender h + 1 = next-number O.rule O.inviter h m v
      ∙ ap (λ z. count_of m.sender z + 1) (past-all h k.history m.predecessors all) in
      let w = number-within O.rule O.inviter h k.valid i in
      let c : count_of a.sender h ≡ count_of m.sender h = ap (λ z. count_of z h) s in
      absurd (omega (arith, e, w, c, n))

  -- what the owner makes follows all that it has
  pub made_unforked : (l : Log) (p : Packet) (t : Given) → Kept (hist l) → MakesPacket O l p t → IsUnforked (hist l) p.header
  made_unforked l p t k f = follows_all (hist l) p.header k f.valid
      (λ a i. heads-lead_back (hist l) k.history p.header.predecessors f.heads i)

  entry_kept : (l : Log) (e : LogEntry) → Kept (hist l) → MayEnter O l e → Kept (hist (e ∷ l))
  entry_kept l (Joined p) k f = record { history = f.history; valid = (f.valid, f.all_valid); unforked = (f.unforked, f.rows_unforked) }
  entry_kept l (Took p) k f = record { history = f.history; valid = (f.valid, k.valid); unforked = (f.unforked, k.unforked) }
  entry_kept l (Made p t) k f = record {
    history = f.history;
    valid = (f.valid, k.valid);
    unforked = (made_unforked l p t k f, k.unforked);
  }

  pub log_kept : (l : Log) → IsLawfulLog O l → Kept (hist l)
  log_kept [] f = record { history = tt; valid = tt; unforked = tt }
  log_kept (e ∷ l) f = entry_kept l e (log_kept l f.1) f.0

  -- no row of a welcome is of who joins
  pub rows-alone : (l : Log) (p : Packet) → JoinsByPacket O l p → (a : Message) → In a p.rows → a.sender ≢ O.id
  rows-alone l p j a i e =
      let in_rows : Named p.rows O.id = elim (each-valid O.rule O.inviter p.rows j.history.2 j.all_valid i) [
        | inl o ↦ record { by = a; there_is = i; names = subst (λ k. Names k O.id) (sym o.creates) (subst (λ z. In z o.members) e o.among) }
        | inr v ↦ subst (λ z. Named p.rows z) e
            (record { by = v.named.by; names = v.named.names; there_is = past-within p.rows a.predecessors v.named.there_is })
      ] in
      let suits : MeetsKind O.rule O.inviter (past p.rows p.header.predecessors) p.header.sender (Add O.id) =
      elim (valid-from O.rule O.inviter p.rows p.header j.valid) [
        | inl o ↦ (let f : Add O.id ≡ Create o.members = sym j.adds ∙ o.creates in cc)
        | inr v ↦ subst (λ k. MeetsKind O.rule O.inviter (past p.rows p.header.predecessors) p.header.sender k) j.adds v.suits
      ] in
      suits.0 (record {
        by = in_rows.by;
        names = in_rows.names;
        there_is = heads-lead_back p.rows j.history.2 p.header.predecessors j.heads in_rows.there_is;
      })
