-- A part behind the id of its member, and lists of them.
use Rattle.std.proofs.Common.{◌≡◌, ℕ, zero, suc, ◌+◌, ◌-◌, ◌*◌, ◌<◌, ◌≤◌, List, length, take, drop, refl, ap, sym, subst, ◌∙◌, arith, slice_get}
use Rattle.std.specs.Prelude.{Result, Ok, Err, Option, Some, None}
use Rattle.std.proofs.lemmas.List.{drop_at, drop-drop, drop-take, take_at, take-take}
use Rattle.group_fields.specs.LayoutReads.{Takes}
use Rattle.group_fields.specs.Layouts.{Spells, next_id}
use Rattle.group_fields.specs.Reading.{Reading}
use Rattle.group_fields.specs.declared.fault.FieldFault.{FieldFault}
use Rattle.group_fields.specs.declared.ids.Digest.{Digest}
use Rattle.wire_codec.specs.Packets.{AddressedPart, addressed, part, part_size, parts_above}
use Rattle.wire_codec.specs.Repeated.{SpellsItems, items_in, repeated}
use Rattle.wire_codec.specs.Readings.{Passes}
use Rattle.wire_codec.proofs.ListReads.{count_is, item_at, pass_more, pass_none, pass_stops}
use Rattle.wire_codec.proofs.Sizes.{addressed_long}

-- the fields of the bytes of a part behind an id
abbrev pub fields_of : List ℕ → AddressedPart
fields_of bytes = record { to = record { 0 = record { 0 = take 32 bytes } }; bytes = drop 32 bytes }

pub addressed_in : (set : ℕ) (last : Option Digest) (bytes : List ℕ) (one : AddressedPart) → Spells (addressed set last) bytes one
    → one ≡ fields_of bytes
unfolding addressed next_id part
addressed_in set last bytes one (pair, (front, back, e, (fills, id_is), (inner, spelled, bytes_are)), fits, is) =
    let first : take 32 bytes ≡ front = ap (take 32) e ∙ take_at front back 32 fills.size in
    let rest : drop 32 bytes ≡ back = ap (drop 32) e ∙ drop_at front back 32 fills.size in
    is ∙ same pair.0 pair.1 (id_is ∙ ap (λ (b : List ℕ). let d : Digest = record { 0 = b } in d) (sym first)) (bytes_are ∙ sym rest)
  where
    same : (id : Digest) (rest : List ℕ) → id ≡ record { 0 = take 32 bytes } → rest ≡ drop 32 bytes
        → ◌≡◌ {A = AddressedPart} (record { to = record { 0 = id }; bytes = rest }) (fields_of bytes)
    same id rest e f = rw (e, f) refl

-- whatever the order of the ids
plain : (set : ℕ) (last : Option Digest) (bytes : List ℕ) (one : AddressedPart) → Spells (addressed set last) bytes one
    → Spells (addressed set None) bytes one
unfolding addressed next_id
plain set last bytes one (pair, (front, back, e, (fills, id_is), spelled), fits, is) =
    (pair, (front, back, e, (record { size = fills.size; allowed = refl }, id_is), spelled), fits, is)

pub parts_plain : (set count : ℕ) (last : Option Digest) (bytes : List ℕ) (v : List AddressedPart) → Spells (parts_above set count last) bytes v
    → Spells (repeated count (addressed set None)) bytes v
unfolding parts_above repeated
parts_plain set zero last bytes v s = s
parts_plain set (suc count) last bytes v (pair, (front, back, e, one, rest), fits, is) =
    (pair, (front, back, e, plain set last front pair.0 one, parts_plain set count (Some pair.0.to.0) back pair.1 rest), fits, is)

-- ---- the part at an index

pub record IsPartAt (size index : ℕ) (bytes : List ℕ) (v : List AddressedPart) : Type 0 where
  pub within : index * (32 + size) + 32 + size ≤ length bytes
  pub is : slice_get v index ≡ Some (record {
    to = record { 0 = record { 0 = take 32 (drop (index * (32 + size)) bytes) } };
    bytes = take size (drop (index * (32 + size) + 32) bytes);
  })

pub part_at : (set count index size : ℕ) (bytes : List ℕ) (v : List AddressedPart) → items_in (addressed set None) count bytes ≡ v
    → SpellsItems (addressed set None) count bytes → index < length v → size ≡ part_size set → IsPartAt size index bytes v
part_at set count index size bytes v are spelled lt sized =
    let item = addressed set None in
    let all = subst (λ (l : List AddressedPart). Spells (repeated count item) bytes l) are spelled in
    let one = item_at item (32 + size) (λ b a s. addressed_long set None b a s ∙ ap (λ (n : ℕ). 32 + n) (sym sized)) count index bytes v all
    (omega (arith, count_is item count bytes v all)) in
    let at : (32 + size) * index ≡ index * (32 + size) = swap (32 + size) index in
    let whole = drop ((32 + size) * index) bytes in
    let fields = addressed_in set None (take (32 + size) whole) one.one one.spelled in
    let first : take 32 (take (32 + size) whole) ≡ take 32 (drop (index * (32 + size)) bytes) =
    take-take 32 (32 + size) whole (omega arith) ∙ ap (λ (k : ℕ). take 32 (drop k bytes)) at in
    let behind : drop 32 whole ≡ drop (index * (32 + size) + 32) bytes =
    drop-drop 32 ((32 + size) * index) bytes ∙ ap (λ (k : ℕ). drop (k + 32) bytes) at in
    let rest : drop 32 (take (32 + size) whole) ≡ take size (drop (index * (32 + size) + 32) bytes) =
    drop-take 32 size whole ∙ ap (take size) behind in
    record {
      within = omega (arith, at, one.within);
      is = one.is ∙ ap (λ (a : AddressedPart). Some a) (fields ∙ same _ _ _ _ first rest);
    }
  where
    swap : (n m : ℕ) → n * m ≡ m * n
    swap n m = omega arith

    same : (a b c d : List ℕ) → a ≡ b → c ≡ d
        → ◌≡◌ {A = AddressedPart} (record { to = record { 0 = record { 0 = a } }; bytes = c }) (record { to = record { 0 = record { 0 = b } }; bytes = d })
    same a b c d e f = rw (e, f) refl

-- ---- readers that pass parts

pub parts_none : (set count : ℕ) (last : Option Digest) (reader : Reading) → count ≡ 0 → reader.place ≤ length reader.whole
    → Passes (parts_above set count last) reader reader (Ok tt)
unfolding parts_above
parts_none set count last reader none within =
    subst (λ (n : ℕ). Passes (parts_above set n last) reader reader (Ok tt)) (sym none) (pass_none reader within)

module _ {T : Type 0} (view : T → AddressedPart) (set count : ℕ) (last : Option Digest) (some : 0 < count) where
  more : suc (count - 1) ≡ count
  more = omega arith

  pub parts_stop : {old new : Reading} {fault : FieldFault} → Takes view (addressed set last) old new (Err fault)
      → Passes (parts_above set count last) old new (Err fault)
  unfolding parts_above
  parts_stop {old} {new} {fault} one =
      subst (λ (n : ℕ). Passes (parts_above set n last) old new (Err fault)) more
      (pass_stops view (addressed set last) (λ part. parts_above set (count - 1) (Some part.to.0)) one)

  pub parts_more : {old mid new : Reading} (v : T) (result : Result (Unit {0}) FieldFault) → Takes view (addressed set last) old mid (Ok v)
      → Passes (parts_above set (count - 1) (Some (view v).to.0)) mid new result → Passes (parts_above set count last) old new result
  unfolding parts_above
  parts_more {old} {mid} {new} v result one rest =
      subst (λ (n : ℕ). Passes (parts_above set n last) old new result) more
      (pass_more view (addressed set last) (λ part. parts_above set (count - 1) (Some part.to.0)) v result one rest)
