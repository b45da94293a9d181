-- What two sides come to is what the theorem on parts speaks of.
use Rattle.std.proofs.Common.{◌≡◌, ℕ, ◌+◌, ◌^◌, ◌<◌, true, ◌&&◌, nat_eq, nat_lt, List, [], ◌∷◌, ◌++◌, length, Option, Some, None, option_map, refl, sym, ◌∙◌, ap, ap₂, subst, arith}
use Rattle.std.specs.Prelude.{slice_index}
use Rattle.std.specs.Option.{option_and_then}
use Rattle.std.proofs.lemmas.Bool.{and_parts}
use Rattle.std.proofs.lemmas.Bool.Decides.{nat_tests}
use Rattle.kem_trait.specs.declared.kem.Kem.{Ghosts}
use Rattle.group_model.specs.Sets.{Bytes}
use Rattle.group_model.specs.Primitives.{Content, Encapsulation, Primitives}
use Rattle.group_model.specs.Pairing.{Part, Draws, PairEvent, Sent, Opened, Target, sealed_part, opened, Sending, Sends, Joint, start as joint_start, a_sends, b_sends, b_takes, a_takes}
use Rattle.group_model.proofs.Pairs.{opens_for_a, opens_for_b}
use Rattle.group_parts.specs.KeyPairs.{pair_of, encapsulation}
use Rattle.group_parts.specs.Contents.{is_content, content_written}
use Rattle.group_parts.specs.Parts.{IsSized, part_bytes, part_in, part_len, part_read}
use Rattle.group_parts.proofs.Tested.{mapped, tested-from}
use Rattle.group_parts.proofs.Written.{let_through}
use Rattle.group_parts.proofs.Spelled.{part_read-part_bytes}
use Rattle.group_keys.specs.Primitives.{primitives_of}
use Rattle.group_keys.proofs.Made.{made-sized}
use Rattle.member_book.specs.PairStates.{PairState, PairStands, at_start, after_send, after_open, next_content, next_part, opens_to}
use Rattle.member_book.proofs.PairStates.{stands-start, stands-send, stands-opened, next_part-is, opens_to-is}
use Rattle.two_party.specs.Received.{received, payload_of, after_opened, after_part}
use Rattle.two_party.specs.Exchanges.{UnderWay, IsSent, Exchange, start, first_sends, second_sends, second_takes, first_takes}

-- a sealed part had a content that was written
was_written : (K : Primitives) (to : Target) (e : Option Encapsulation) (w : Option Bytes) (part : Part) → sealed_part K to e w ≡ Some part
    → (bytes : Bytes) × (w ≡ Some bytes)
was_written K to None w part h = cc
was_written K to (Some e) None part h = cc
was_written K to (Some e) (Some bytes) part h = (bytes, refl)

module _ {K P : Type 0} (kem : Ghosts K P) where
  written-small : (c : Content) (bytes : Bytes) → content_written kem c ≡ Some bytes → c.number < 2 ^ 32
  unfolding content_written
  written-small c bytes h =
      let t = let_through (is_content kem c) _ bytes h in
      let a = and_parts (nat_eq (length c.payload) 32) (kem.is_secret c.secret && ((nat_lt 0 c.number && nat_lt c.number (2 ^ 32)) && kem.is_public c.public)) t.0 in
      let b = and_parts (kem.is_secret c.secret) ((nat_lt 0 c.number && nat_lt c.number (2 ^ 32)) && kem.is_public c.public) a.1 in
      let d = and_parts (nat_lt 0 c.number && nat_lt c.number (2 ^ 32)) (kem.is_public c.public) b.1 in
      let e = and_parts (nat_lt 0 c.number) (nat_lt c.number (2 ^ 32)) d.0 in
      let low : nat_lt c.number (2 ^ 32) ≡ true = e.1 in
      grind (arith, nat_tests)

  -- the bytes under way are those of a part with this content
  record IsLetter (u : UnderWay) (s : Sending) : Type 0 where
    bytes : part_bytes kem s.part ≡ u.bytes
    sized : IsSized kem s.part
    payload : s.content.payload ≡ u.payload
    small : s.content.number < 2 ^ 32

  abbrev Match : List UnderWay → List Sending → Type 0
  Match [] [] = Unit {0}
  Match [] (s ∷ ss) = ⊥
  Match (u ∷ us) [] = ⊥
  Match (u ∷ us) (s ∷ ss) = IsLetter u s × Match us ss

  match-push : (us : List UnderWay) (ss : List Sending) (u : UnderWay) (s : Sending) → Match us ss → IsLetter u s → Match (us ++ u ∷ []) (ss ++ s ∷ [])
  match-push [] [] u s m l = (l, tt)
  match-push [] (t ∷ ss) u s m l = absurd m
  match-push (v ∷ us) [] u s m l = absurd m
  match-push (v ∷ us) (t ∷ ss) u s m l = (m.0, match-push us ss u s m.1 l)

  -- the state of one side stands for events, and its target's number fits
  record Stands (mine theirs : Bytes) (es : List PairEvent) (k : PairState) : Type 0 where
    stands : PairStands (pair_of kem mine) (kem.public_in theirs) es k
    small : k.target.number < 2 ^ 32

  record Linked (a b : Bytes) (ka kb : PairState) (to_second to_first : List UnderWay) : Type 0 where
    ea : List PairEvent
    eb : List PairEvent
    qa : List Sending
    qb : List Sending
    joint : Joint (primitives_of kem) (pair_of kem a) (pair_of kem b) ea eb qa qb
    first : Stands a b ea ka
    second : Stands b a eb kb
    from_first : Match to_second qa
    from_second : Match to_first qb

  -- what one side sends
  record Sending-of (theirs : Bytes) (es : List PairEvent) (k : PairState) (d : Draws) (u : UnderWay) : Type 0 where
    sending : Sending
    sends : Sends (primitives_of kem) (kem.public_in theirs) es d u.payload sending
    letter : IsLetter u sending
    small : k.sends + 1 < 2 ^ 32

  sending-of : (mine theirs : Bytes) (es : List PairEvent) (k : PairState) (d : Draws) (u : UnderWay) → Stands mine theirs es k → IsSent kem k d u
      → Sending-of theirs es k d u
  unfolding primitives_of
  sending-of mine theirs es k d u s h =
      let m = mapped (part_bytes kem) (next_part (primitives_of kem) k d u.payload) u.bytes h.bytes in
      let w = was_written (primitives_of kem) k.target (encapsulation kem k.target.public d.encapsulation) (content_written kem (next_content k d u.payload)) m.0 m.1 in
      let low : k.sends + 1 < 2 ^ 32 = written-small (next_content k d u.payload) w.0 w.1 in record {
        sending = record { part = m.0; content = next_content k d u.payload };
        sends = record {
          own_tested = h.own_tested;
          other_tested = h.other_tested;
          part = sym (next_part-is s.stands (primitives_of kem) d u.payload) ∙ m.1;
          content = ap (λ (n : ℕ). record { payload = u.payload; secret = d.other.secret; number = n + 1; public = d.own.public }) s.stands.sends;
        };
        letter = record {
          bytes = m.2;
          sized = made-sized kem k.target (next_content k d u.payload) d.encapsulation m.0 s.small m.1;
          payload = refl;
          small = low;
        };
        small = low;
      }

  sent : (mine theirs : Bytes) (es : List PairEvent) (k : PairState) (d : Draws) → k.sends + 1 < 2 ^ 32 → Stands mine theirs es k
      → Stands mine theirs (Sent d ∷ es) (after_send k d)
  sent mine theirs es k d low s = record { stands = stands-send s.stands d; small = low }

  -- what a part opens to that matches a sending
  received-letter : (k : PairState) (u : UnderWay) (s : Sending) → IsLetter u s → received kem k u.bytes ≡ opens_to (primitives_of kem) k s.part
  received-letter k u s l =
      ap (received kem k) (sym l.bytes)
      ∙ ap (option_and_then (λ (part : Part). opens_to (primitives_of kem) k part)) (part_read-part_bytes kem s.part l.sized)

  fields-letter : (u : UnderWay) (s : Sending) → IsLetter u s → part_in kem u.bytes ≡ s.part
  unfolding part_read
  fields-letter u s l =
      (let_through (nat_eq (length u.bytes) (part_len kem) && nat_lt (slice_index u.bytes 0) 2) (part_in kem u.bytes) s.part
      (ap (part_read kem) (sym l.bytes) ∙ part_read-part_bytes kem s.part l.sized)).1

  received-is : (mine theirs : Bytes) (es : List PairEvent) (k : PairState) (u : UnderWay) (s : Sending) → Stands mine theirs es k → IsLetter u s
      → opened (primitives_of kem) (pair_of kem mine) es s.part ≡ Some s.content → received kem k u.bytes ≡ Some s.content
  received-is mine theirs es k u s h l e =
      received-letter k u s l ∙ opens_to-is h.stands (primitives_of kem) s.part ∙ e

  taken : (mine theirs : Bytes) (es : List PairEvent) (k : PairState) (u : UnderWay) (s : Sending) → Stands mine theirs es k → IsLetter u s
      → opened (primitives_of kem) (pair_of kem mine) es s.part ≡ Some s.content
      → Stands mine theirs (Opened s.part s.content ∷ es) (after_part kem k u.bytes)
  taken mine theirs es k u s h l e =
      let is : after_part kem k u.bytes ≡ after_open k s.part.made_by_sender s.part.number s.content =
      ap₂ (after_opened k) (fields-letter u s l) (received-is mine theirs es k u s h l e) in
      subst (Stands mine theirs (Opened s.part s.content ∷ es)) (sym is) (record {
        stands = stands-opened h.stands (primitives_of kem) s.part s.content (opens_to-is h.stands (primitives_of kem) s.part ∙ e);
        small = l.small;
      })

  -- the head of the parts under way
  record Head (u : UnderWay) (us : List UnderWay) (ss : List Sending) : Type 0 where
    sending : Sending
    others : List Sending
    is : ss ≡ sending ∷ others
    letter : IsLetter u sending
    rest : Match us others

  head : (u : UnderWay) (us : List UnderWay) (ss : List Sending) → Match (u ∷ us) ss → Head u us ss
  head u us [] m = absurd m
  head u us (s ∷ ss) m = record { sending = s; others = ss; is = refl; letter = m.0; rest = m.1 }

  start-stands : (mine theirs : Bytes) → Stands mine theirs [] (at_start mine (kem.public_in theirs))
  unfolding at_start
  start-stands mine theirs = record { stands = stands-start (pair_of kem mine) (kem.public_in theirs); small = omega arith }

  joint-started : (a b : Bytes) → kem.is_secret a ≡ true → kem.is_secret b ≡ true
      → Joint (primitives_of kem) (pair_of kem a) (pair_of kem b) [] [] [] []
  unfolding primitives_of
  joint-started a b ha hb = joint_start (tested-from kem a ha) (tested-from kem b hb)

  linked : {a b : Bytes} {ka kb : PairState} {to_second to_first : List UnderWay} → Exchange kem a b ka kb to_second to_first
      → Linked a b ka kb to_second to_first
  linked {a} {b} (start ha hb) = record {
    ea = [];
    eb = [];
    qa = [];
    qb = [];
    joint = joint-started a b ha hb;
    first = start-stands a b;
    second = start-stands b a;
    from_first = tt;
    from_second = tt;
  }
  linked {a} {b} (first_sends {ka} {kb} {to_second} {to_first} d part h e) =
      let l = linked e in
      let s = sending-of a b l.ea ka d part l.first h in record {
        ea = Sent d ∷ l.ea;
        eb = l.eb;
        qa = l.qa ++ s.sending ∷ [];
        qb = l.qb;
        joint = a_sends d part.payload s.sending s.sends l.joint;
        first = sent a b l.ea ka d s.small l.first;
        second = l.second;
        from_first = match-push to_second l.qa part s.sending l.from_first s.letter;
        from_second = l.from_second;
      }
  linked {a} {b} (second_sends {ka} {kb} {to_second} {to_first} d part h e) =
      let l = linked e in
      let s = sending-of b a l.eb kb d part l.second h in record {
        ea = l.ea;
        eb = Sent d ∷ l.eb;
        qa = l.qa;
        qb = l.qb ++ s.sending ∷ [];
        joint = b_sends d part.payload s.sending s.sends l.joint;
        first = l.first;
        second = sent b a l.eb kb d s.small l.second;
        from_first = l.from_first;
        from_second = match-push to_first l.qb part s.sending l.from_second s.letter;
      }
  linked {a} {b} (second_takes {ka} {kb} {to_second} {to_first} part e) =
      let l = linked e in
      let h = head part to_second l.qa l.from_first in
      let j : Joint (primitives_of kem) (pair_of kem a) (pair_of kem b) l.ea l.eb (h.sending ∷ h.others) l.qb =
      subst (λ (z : List Sending). Joint (primitives_of kem) (pair_of kem a) (pair_of kem b) l.ea l.eb z l.qb) h.is l.joint in record {
        ea = l.ea;
        eb = Opened h.sending.part h.sending.content ∷ l.eb;
        qa = h.others;
        qb = l.qb;
        joint = b_takes h.sending j;
        first = l.first;
        second = taken b a l.eb kb part h.sending l.second h.letter (opens_for_b (primitives_of kem) h.sending j);
        from_first = h.rest;
        from_second = l.from_second;
      }
  linked {a} {b} (first_takes {ka} {kb} {to_second} {to_first} part e) =
      let l = linked e in
      let h = head part to_first l.qb l.from_second in
      let j : Joint (primitives_of kem) (pair_of kem a) (pair_of kem b) l.ea l.eb l.qa (h.sending ∷ h.others) =
      subst (λ (z : List Sending). Joint (primitives_of kem) (pair_of kem a) (pair_of kem b) l.ea l.eb l.qa z) h.is l.joint in record {
        ea = Opened h.sending.part h.sending.content ∷ l.ea;
        eb = l.eb;
        qa = l.qa;
        qb = h.others;
        joint = a_takes h.sending j;
        first = taken a b l.ea ka part h.sending l.first h.letter (opens_for_a (primitives_of kem) h.sending j);
        second = l.second;
        from_first = l.from_first;
        from_second = h.rest;
      }

  pub second-opens : {a b : Bytes} {ka kb : PairState} {to_second to_first : List UnderWay} (part : UnderWay)
      → Exchange kem a b ka kb (part ∷ to_second) to_first → option_map payload_of (received kem kb part.bytes) ≡ Some part.payload
  second-opens {a} {b} {ka} {kb} {to_second} {to_first} part e =
      let l = linked e in
      let h = head part to_second l.qa l.from_first in
      let j : Joint (primitives_of kem) (pair_of kem a) (pair_of kem b) l.ea l.eb (h.sending ∷ h.others) l.qb =
      subst (λ (z : List Sending). Joint (primitives_of kem) (pair_of kem a) (pair_of kem b) l.ea l.eb z l.qb) h.is l.joint in
      ap (option_map payload_of) (received-is b a l.eb kb part h.sending l.second h.letter (opens_for_b (primitives_of kem) h.sending j))
      ∙ ap Some h.letter.payload

  pub first-opens : {a b : Bytes} {ka kb : PairState} {to_second to_first : List UnderWay} (part : UnderWay)
      → Exchange kem a b ka kb to_second (part ∷ to_first) → option_map payload_of (received kem ka part.bytes) ≡ Some part.payload
  first-opens {a} {b} {ka} {kb} {to_second} {to_first} part e =
      let l = linked e in
      let h = head part to_first l.qb l.from_second in
      let j : Joint (primitives_of kem) (pair_of kem a) (pair_of kem b) l.ea l.eb l.qa (h.sending ∷ h.others) =
      subst (λ (z : List Sending). Joint (primitives_of kem) (pair_of kem a) (pair_of kem b) l.ea l.eb l.qa z) h.is l.joint in
      ap (option_map payload_of) (received-is a b l.ea ka part h.sending l.first h.letter (opens_for_a (primitives_of kem) h.sending j))
      ∙ ap Some h.letter.payload
