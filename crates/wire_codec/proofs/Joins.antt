-- Packets are joined of the bytes of a header, of a body and of a signature.
use Rattle.std.proofs.Common.{◌≡◌, ◌⊎◌, ◌↔◌, ℕ, ◌<◌, ◌≤◌, ◌^◌, IsTrue, ◌==◌, ◌||◌, Bool, true, nat_le, bytes_eq, List, [], ◌++◌, length, refl, ap, sym, subst, ◌∙◌, arith, append_assoc, inl, inr}
use Rattle.std.specs.Prelude.{Option, IsSome}
use Rattle.std.specs.Int.{Width, from_be_bytes, to_be_bytes, w16, w32}
use Rattle.std.proofs.lemmas.Bool.{and_from, and_parts, eq-eqb, le-leb, leb-true}
use Rattle.std.proofs.lemmas.Bool.Decides.{nat_tests}
use Rattle.std.proofs.lemmas.List.{length-append}
use Rattle.std.proofs.lemmas.Slice.Eq.{bytes_eq-Decides}
use Rattle.sha2.specs.Sha256.{sha256}
use Rattle.group_fields.specs.Fields.{is_between, same_bytes}
use Rattle.group_fields.specs.Headers as headers
use Rattle.group_fields.specs.Layouts.{Layout, Spells, known, number, sized, written}
use Rattle.group_fields.specs.declared.header.Kind.{Kind}
use Rattle.group_fields.specs.declared.header.Kind.TheVariants as kinds
use Rattle.group_fields.specs.declared.header.Target.{Target}
use Rattle.group_fields.proofs.HeaderBytes.{spelled_has}
use Rattle.group_fields.proofs.LayoutLaws.{one_spelling, one_value, written_is}
use Rattle.group_fields.proofs.WriteSteps.{known_spelled, u16_spelled, u32_spelled}
use Rattle.wire_codec.specs.Order.{CarriesWhatSuits, IsInOrder, IsJoined, SuitsHeader}
use Rattle.wire_codec.specs.Packets.{AreOf, Body, IsMalformed, IsPacket, Packet, Sealed, WelcomeRows, body, body_of, greatest_size, is_body_of, joined, magic, packet, row}
use Rattle.wire_codec.proofs.InOrder.{body_in_order, suits}
use Rattle.group_fields.proofs.LayoutLaws.{whole_read}
use Rattle.wire_codec.proofs.PacketBytes.{none_refused}

-- ---- a length, and behind it so many bytes

pub record IsSized {A : Type 0} (width : Width) (greatest : ℕ) (allows : List ℕ → Bool) (inside : Layout A) (bytes : List ℕ) (a : A) : Type 0 where
  pub content : List ℕ
  pub whole : bytes ≡ to_be_bytes width (length content) ++ content
  pub short : length content ≤ greatest
  pub allowed : allows content ≡ true
  pub spelled : Spells inside content a

pub sized_apart : {A : Type 0} (width : Width) (greatest : ℕ) (allows : List ℕ → Bool) (inside : Layout A) (bytes : List ℕ) (a : A)
    → Spells (sized (number width 0 greatest) allows inside) bytes a → IsSized width greatest allows inside bytes a
unfolding sized number
sized_apart width greatest allows inside bytes a (pair, (front, back, e, (fills, n_is), (of_size, spelled)), fits, is) =
    let tests = and_parts (is_between 0 greatest (from_be_bytes width front)) (bytes_eq (to_be_bytes width (from_be_bytes width front)) front) fills.allowed in
    let same : to_be_bytes width (from_be_bytes width front) ≡ front = same_bytes (to_be_bytes width (from_be_bytes width front)) front tests.1 in
    let n : length back ≡ from_be_bytes width front = of_size.size ∙ n_is in
    let top = leb-true (from_be_bytes width front) greatest (and_parts (nat_le 0 (from_be_bytes width front)) (nat_le (from_be_bytes width front) greatest) tests.0).1 in
    record {
      content = back;
      whole = e ∙ ap (λ (f : List ℕ). f ++ back) (sym same ∙ ap (to_be_bytes width) (sym n));
      short = omega (arith, n, top);
      allowed = of_size.allowed;
      spelled = subst (λ (v : _). Spells inside back v) (sym is) spelled;
    }

pub sized_together : {A : Type 0} (width : Width) (greatest : ℕ) (allows : List ℕ → Bool) (inside : Layout A) (content : List ℕ) (a : A)
    → Spells (number width 0 greatest) (to_be_bytes width (length content)) (length content) → allows content ≡ true → Spells inside content a
    → Spells (sized (number width 0 greatest) allows inside) (to_be_bytes width (length content) ++ content) a
unfolding sized
sized_together width greatest allows inside content a size allowed spelled =
    let long : length (written inside a) ≡ length content = ap length (sym (written_is inside content a spelled)) in (
      (length content, a),
      (to_be_bytes width (length content), content, refl, size, (record { size = refl; allowed = allowed }, spelled)),
      eq-eqb (length (written inside a)) (length content) long,
      refl,
    )

between_from_zero : (n greatest : ℕ) → n ≤ greatest → is_between 0 greatest n ≡ true
between_from_zero n greatest le = and_from (nat_le 0 n) (nat_le n greatest) (le-leb 0 n (omega arith)) (le-leb n greatest le)

same_test : (a b : List ℕ) → a ≡ b → bytes_eq a b ≡ true
same_test a b e = (bytes_eq-Decides a b).1 e

-- ---- packets

spelled_apart : (p : Packet) (bytes : List ℕ) → Spells packet bytes p → IsJoined p bytes
unfolding packet known row joined
spelled_apart p bytes ((start, (header, (carried, signed))), (f1, b1, e1, (fills, none), (f2, b2, e2, one, (f3, b3, e3, two, three))), fits, is) =
    let first : f1 ≡ magic = same_bytes f1 magic fills.allowed in
    let h = sized_apart w16 0xffff (λ b. true) headers.header f2 header one in
    let b = sized_apart w32 0xffff_ffff (is_body_of header) (body header.set header.kind header.target) f3 carried two in
    let n16 = to_be_bytes w16 (length h.content) in
    let n32 = to_be_bytes w32 (length b.content) in
    let parts : AreOf (record {
      header = header;
      cards = carried.cards;
      parts = carried.parts;
      history = carried.history;
      text = carried.text;
      signature = signed;
    }) h.content b.content b3 = record {
      header = h.spelled;
      body = b.spelled;
      digest = sym (same_bytes (sha256 b.content) header.body.0 b.allowed);
      signature = three;
    } in
    record {
      head = h.content;
      carried = b.content;
      signed = b3;
      are_of = subst (λ (q : Packet). AreOf q h.content b.content b3) (sym is) parts;
      short = omega (arith, h.short);
      is = e1 ∙ ap (λ (f : List ℕ). f ++ b1) first
          ∙ ap (λ (r : List ℕ). magic ++ r)
          (e2 ∙ ap (λ (f : List ℕ). f ++ b2) h.whole ∙ append_assoc n16 h.content b2
          ∙ ap (λ (r : List ℕ). n16 ++ (h.content ++ r)) (e3 ∙ ap (λ (f : List ℕ). f ++ b3) b.whole ∙ append_assoc n32 b.content b3));
    }

pub apart : (p : Packet) (bytes : List ℕ) → IsPacket p bytes → IsJoined p bytes
apart p bytes of = spelled_apart p bytes of.spelled

carried_long : (head carried signed : List ℕ) → length (joined head carried signed) ≤ greatest_size → length carried ≤ 0xffff_ffff
unfolding joined
carried_long head carried signed fits =
    omega (
      arith,
      fits,
      length-append magic (to_be_bytes w16 (length head) ++ (head ++ (to_be_bytes w32 (length carried) ++ (carried ++ signed)))),
      length-append (to_be_bytes w16 (length head)) (head ++ (to_be_bytes w32 (length carried) ++ (carried ++ signed))),
      length-append head (to_be_bytes w32 (length carried) ++ (carried ++ signed)),
      length-append (to_be_bytes w32 (length carried)) (carried ++ signed),
      length-append carried signed,
    )

spelled_together : (p : Packet) (head carried signed : List ℕ) → AreOf p head carried signed → length head < 2 ^ 16 → length carried ≤ 0xffff_ffff
    → Spells packet (joined head carried signed) p
unfolding packet known row joined
spelled_together p head carried signed of short small =
    let n16 = to_be_bytes w16 (length head) in
    let n32 = to_be_bytes w32 (length carried) in
    let size16 = u16_spelled 0 0xffff (length head) short (between_from_zero (length head) 0xffff (omega (arith, short))) in
    let size32 = u32_spelled 0 0xffff_ffff (length carried) (omega (arith, small)) (between_from_zero (length carried) 0xffff_ffff small) in
    let one = sized_together w16 0xffff (λ b. true) headers.header head p.header size16 refl of.header in
    let two = sized_together w32 0xffff_ffff (is_body_of p.header) (body p.header.set p.header.kind p.header.target) carried (body_of p) size32
    (same_test (sha256 carried) p.header.body.0 (sym of.digest)) of.body in (
      (tt, (p.header, (body_of p, p.signature))),
      (
        magic,
        n16 ++ (head ++ (n32 ++ (carried ++ signed))),
        refl,
        known_spelled magic,
        (
          n16 ++ head,
          n32 ++ (carried ++ signed),
          sym (append_assoc n16 head (n32 ++ (carried ++ signed))),
          one,
          (n32 ++ carried, signed, sym (append_assoc n32 carried signed), two, of.signature),
        ),
      ),
      refl,
      refl,
    )

pub together : (p : Packet) (head carried signed : List ℕ) → AreOf p head carried signed → length head < 2 ^ 16
    → length (joined head carried signed) ≤ greatest_size → IsPacket p (joined head carried signed)
together p head carried signed of short fits =
    record { size = fits; spelled = spelled_together p head carried signed of short (carried_long head carried signed fits) }

-- what is appended part by part is joined
pub joined_is : (head carried signed start size16 size32 : List ℕ) → start ≡ [] → size16 ≡ to_be_bytes w16 (length head) → size32 ≡ to_be_bytes w32 (length carried)
    → ((((((start ++ magic) ++ size16) ++ head) ++ size32) ++ carried) ++ signed) ≡ joined head carried signed
unfolding joined
joined_is head carried signed start size16 size32 none is16 is32 =
    ap (λ (l : List ℕ). (((((l ++ magic) ++ size16) ++ head) ++ size32) ++ carried) ++ signed) none
    ∙ append_assoc ((((magic ++ size16) ++ head) ++ size32)) carried signed
    ∙ append_assoc (((magic ++ size16) ++ head)) size32 (carried ++ signed)
    ∙ append_assoc ((magic ++ size16)) head (size32 ++ (carried ++ signed))
    ∙ append_assoc magic size16 (head ++ (size32 ++ (carried ++ signed)))
    ∙ ap (λ (l : List ℕ). magic ++ (l ++ (head ++ (size32 ++ (carried ++ signed))))) is16
    ∙ ap (λ (l : List ℕ). magic ++ (to_be_bytes w16 (length head) ++ (head ++ (l ++ (carried ++ signed))))) is32

-- ---- laws of packets

sets : (set : ℕ) → IsTrue ((set == 1) || (set == 2)) → (set ≡ 1) ⊎ (set ≡ 2)
sets set is = grind (arith, nat_tests)

low : (set : ℕ) → (set ≡ 1) ⊎ (set ≡ 2) → 1 ≤ set
low set (inl e) = omega arith
low set (inr e) = omega arith

high : (set : ℕ) → (set ≡ 1) ⊎ (set ≡ 2) → set ≤ 2
high set (inl e) = omega arith
high set (inr e) = omega arith

pub in_order : (p : Packet) (bytes : List ℕ) → IsPacket p bytes → IsInOrder p
in_order p bytes of =
    let parts = apart p bytes of in
    let has = spelled_has p.header parts.head parts.are_of.header in
    let set = sets p.header.set has.set in
    record {
      header = has;
      body = body_in_order p.header.set p.header.kind p.header.target parts.carried (body_of p) (low p.header.set set) (high p.header.set set) parts.are_of.body;
    }

pub suits_header : (p : Packet) (bytes : List ℕ) → IsPacket p bytes → SuitsHeader p
suits_header p bytes of =
    let parts = apart p bytes of in
    suits p.header.set p.header.kind p.header.target parts.carried (body_of p) parts.are_of.body

pub one_packet : (bytes : List ℕ) (a b : Packet) → IsPacket a bytes → IsPacket b bytes → a ≡ b
one_packet bytes a b of_a of_b = one_value packet bytes a b of_a.spelled of_b.spelled

pub one_packet_spelling : (p : Packet) (a b : List ℕ) → IsPacket p a → IsPacket p b → a ≡ b
one_packet_spelling p a b of_a of_b = one_spelling packet p a b of_a.spelled of_b.spelled

pub never_both : (p : Packet) (bytes : List ℕ) (place : ℕ) → IsPacket p bytes → IsMalformed bytes place → ⊥
never_both p bytes place of refused = none_refused bytes place p of.size (whole_read packet bytes p of.spelled) refused

-- ---- which packets have a history, and which a text

pub has_history : (kind : Kind) (target : Target) (b : Body) → CarriesWhatSuits kind target b → IsSome b.history ↔ (kind ≡ kinds.Add)
has_history kinds.Create target b s = (λ some. absurd (let e = s.1 in cc), λ e. absurd cc)
has_history kinds.Update target b s = (λ some. absurd (let e = s.1 in cc), λ e. absurd cc)
has_history kinds.Remove target b s = (λ some. absurd (let e = s.1 in cc), λ e. absurd cc)
has_history kinds.Add target b s = (λ some. refl, λ e. subst (λ (h : Option WelcomeRows). IsSome h) (sym s.2.1) refl)
has_history kinds.Ack target b s = (λ some. absurd (let e = s.1 in cc), λ e. absurd cc)
has_history kinds.AddAck target b s = (λ some. absurd (let e = s.2 in cc), λ e. absurd cc)
has_history kinds.Text target b s = (λ some. absurd (let e = s.2 in cc), λ e. absurd cc)

pub has_text : (kind : Kind) (target : Target) (b : Body) → CarriesWhatSuits kind target b → IsSome b.text ↔ (kind ≡ kinds.Text)
has_text kinds.Create target b s = (λ some. absurd (let e = s.2 in cc), λ e. absurd cc)
has_text kinds.Update target b s = (λ some. absurd (let e = s.2 in cc), λ e. absurd cc)
has_text kinds.Remove target b s = (λ some. absurd (let e = s.2 in cc), λ e. absurd cc)
has_text kinds.Add target b s = (λ some. absurd (let e = s.3 in cc), λ e. absurd cc)
has_text kinds.Ack target b s = (λ some. absurd (let e = s.2 in cc), λ e. absurd cc)
has_text kinds.AddAck target b s = (λ some. absurd (let e = s.3 in cc), λ e. absurd cc)
has_text kinds.Text target b s = (λ some. refl, λ e. subst (λ (t : Option Sealed). IsSome t) (sym s.3.1) refl)

pub history_of : (p : Packet) (bytes : List ℕ) → IsPacket p bytes → IsSome p.history ↔ (p.header.kind ≡ kinds.Add)
history_of p bytes of = has_history p.header.kind p.header.target (body_of p) (suits_header p bytes of)

pub text_of : (p : Packet) (bytes : List ℕ) → IsPacket p bytes → IsSome p.text ↔ (p.header.kind ≡ kinds.Text)
text_of p bytes of = has_text p.header.kind p.header.target (body_of p) (suits_header p bytes of)
