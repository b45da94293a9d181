-- The parts of a body have the length and the first byte of a part.
use Rattle.std.proofs.Common.{◌≡◌, ℕ, zero, suc, ◌<◌, ◌≤◌, nat_le, bytes_eq, List, [], ◌∷◌, ◌++◌, length, ap, sym, subst, ◌∙◌, arith, length-append, slice_get}
use Rattle.std.specs.Prelude.{Option, Some, None, slice_index}
use Rattle.std.specs.Int.{w8, from_be_bytes, to_be_bytes}
use Rattle.std.proofs.lemmas.Bool.{and_parts, leb-true}
use Rattle.group_fields.specs.Fields.{is_between}
use Rattle.group_fields.specs.Layouts.{Spells, bytes_of, counted, next_id, number}
use Rattle.group_fields.specs.declared.header.Kind.{Kind}
use Rattle.group_fields.specs.declared.header.Kind.TheVariants as kinds
use Rattle.group_fields.specs.declared.header.Target.{Target}
use Rattle.group_fields.specs.declared.ids.Digest.{Digest}
use Rattle.wire_codec.specs.Packets.{AddressedPart, Body, add_body, addressed, body, create_body, part, part_size, parts, parts_above, parts_body, text_body}

-- the length of a part of a set, and an origin of 0 or 1
pub record IsPart (set : ℕ) (bytes : List ℕ) : Type 0 where
  pub long : length bytes ≡ part_size set
  pub origin : slice_index bytes 0 < 2

abbrev pub AreParts : ℕ → List AddressedPart → Type 0
AreParts set [] = Unit {0}
AreParts set (one ∷ others) = IsPart set one.bytes × AreParts set others

pub part_at : (set index : ℕ) (v : List AddressedPart) (one : AddressedPart) → AreParts set v → slice_get v index ≡ Some one → IsPart set one.bytes
part_at set index [] one h e = absurd cc
part_at set zero (first ∷ others) one h e = let same : first ≡ one = cc in subst (λ (a : AddressedPart). IsPart set a.bytes) same h.0
part_at set (suc index) (first ∷ others) one h e = part_at set index others one h.1 e

first_low : (front back : List ℕ) → length front ≡ 1 → from_be_bytes w8 front ≤ 1 → slice_index (front ++ back) 0 < 2
first_low [] back n low = absurd (omega arith)
first_low (x ∷ rest) back n low = omega arith

part_is : (set : ℕ) (bytes v : List ℕ) → Spells (part set) bytes v → IsPart set v
unfolding part number bytes_of
part_is set bytes v (inner, (f1, b1, e1, (s1, v1), (f2, b2, e2, (s2, v2), (f3, b3, e3, (s3, v3), (f4, b4, e4, (s4, v4), (s5, v5))))), is) =
    let n1 = ap length e1 ∙ length-append f1 b1 in
    let n2 = ap length e2 ∙ length-append f2 b2 in
    let n3 = ap length e3 ∙ length-append f3 b3 in
    let n4 = ap length e4 ∙ length-append f4 b4 in
    let between = (and_parts (is_between 0 1 (from_be_bytes w8 f1)) (bytes_eq (to_be_bytes w8 (from_be_bytes w8 f1)) f1) s1.allowed).0 in
    let low = leb-true (from_be_bytes w8 f1) 1 (and_parts (nat_le 0 (from_be_bytes w8 f1)) (nat_le (from_be_bytes w8 f1) 1) between).1 in
    subst (IsPart set) (sym is) (record {
      long = omega (arith, n1, n2, n3, n4, s1.size, s2.size, s3.size, s4.size, s5.size);
      origin = subst (λ (l : List ℕ). slice_index l 0 < 2) (sym e1) (first_low f1 b1 s1.size low);
    })

one_is : (set : ℕ) (last : Option Digest) (bytes : List ℕ) (one : AddressedPart) → Spells (addressed set last) bytes one → IsPart set one.bytes
unfolding addressed next_id
one_is set last bytes one (pair, (front, back, e, id_is, spelled), fits, is) =
    subst (λ (a : AddressedPart). IsPart set a.bytes) (sym is) (part_is set back pair.1 spelled)

each_is : (set count : ℕ) (last : Option Digest) (bytes : List ℕ) (v : List AddressedPart) → Spells (parts_above set count last) bytes v → AreParts set v
unfolding parts_above
each_is set zero last bytes v s = subst (AreParts set) (sym s.1) tt
each_is set (suc count) last bytes v (pair, (front, back, e, one, rest), fits, is) =
    subst (AreParts set) (sym is) (one_is set last front pair.0 one, each_is set count (Some pair.0.to.0) back pair.1 rest)

parts_are : (set greatest : ℕ) (bytes : List ℕ) (v : List AddressedPart) → Spells (parts set greatest) bytes v → AreParts set v
unfolding counted
parts_are set greatest bytes v (pair, (front, back, e, count, rest), fits, is) =
    subst (AreParts set) (sym is) (each_is set pair.0 None back pair.1 rest)

parts_alone : (set greatest : ℕ) (bytes : List ℕ) (b : Body) → Spells (parts_body set greatest) bytes b → AreParts set b.parts
unfolding parts_body
parts_alone set greatest bytes b (v, spelled, fits, is) =
    subst (λ (x : Body). AreParts set x.parts) (sym is) (parts_are set greatest bytes v spelled)

-- whatever the kind
pub body_parts : (set : ℕ) (kind : Kind) (target : Target) (bytes : List ℕ) (b : Body) → Spells (body set kind target) bytes b → AreParts set b.parts
unfolding body create_body add_body text_body
body_parts set kinds.Create target bytes b (pair, (front, back, e, cards, rest), fits, is) =
    subst (λ (x : Body). AreParts set x.parts) (sym is) (parts_are set 31 back pair.1 rest)
body_parts set kinds.Update target bytes b s = parts_alone set 31 bytes b s
body_parts set kinds.Remove target bytes b s = parts_alone set 31 bytes b s
body_parts set kinds.Add target bytes b ((card, (v, rows)), (f1, b1, e1, one, (f2, b2, e2, two, rest)), fits, is) =
    subst (λ (x : Body). AreParts set x.parts) (sym is) (part_is set f2 v two, tt)
body_parts set kinds.Ack target bytes b s = parts_alone set 31 bytes b s
body_parts set kinds.AddAck target bytes b s = parts_alone set 1 bytes b s
body_parts set kinds.Text target bytes b (sealed, spelled, fits, is) = subst (λ (x : Body). AreParts set x.parts) (sym is) tt
