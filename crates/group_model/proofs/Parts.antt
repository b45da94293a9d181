-- The parts of a packet that a member makes.
use Rattle.std.proofs.Common.{◌≡◌, cond, inl, inr, List, [], ◌∷◌, Option, Some, None, refl, sym, ◌∙◌, subst}
use Rattle.std.specs.Str.{bytes_eq}
use Rattle.std.proofs.lemmas.Slice.Eq.{bytes_eq-Decides}
use Rattle.group_model.specs.Sets.{Bytes, Id, In, here, there}
use Rattle.group_model.specs.Pairing.{Part}
use Rattle.group_model.specs.Settings.{Setting}
use Rattle.group_model.specs.Packets.{Addressed, Packet, Given, part_for}
use Rattle.group_model.specs.Logs.{Log}
use Rattle.group_model.specs.Parts.{parts_of}
use Rattle.group_model.proofs.InSetting.{payload_sent, part_with, part_sent, IsDue, Makes}
use Rattle.group_model.proofs.ListFacts.{yes_is, no_is, test, In-cases}

-- an option is nothing or something
pub data Present {A : Type 0} (o : Option A) : Type 0 where
  gives : (a : A) → o ≡ Some a → Present o
  gives_none : o ≡ None → Present o

pub present : {A : Type 0} (o : Option A) → Present o
present None = gives_none refl
present (Some a) = gives a refl

-- where the parts of more ids can be made, the first part can be, and the others
record Splits (f : Id → Option Part) (y : Id) (ids : List Id) (ps : List Addressed) : Type 0 where
  part : Part
  rest : List Addressed
  first : f y ≡ Some part
  others : parts_of f ids ≡ Some rest
  is : ps ≡ record { to = y; part = part } ∷ rest

splits : (f : Id → Option Part) (y : Id) (ids : List Id) (ps : List Addressed) → parts_of f (y ∷ ids) ≡ Some ps → Splits f y ids ps
splits f y ids ps e = elim (present (f y)) [
  | gives_none d ↦ let n : None ≡ Some ps = rw d at e in cc
  | gives q d ↦ elim (present (parts_of f ids)) [
    | gives_none r ↦ let n : None ≡ Some ps = rw r at (rw d at e) in cc
    | gives rest r ↦ let n : Some (record { to = y; part = q } ∷ rest) ≡ Some ps = rw r at (rw d at e) in
        record { part = q; rest = rest; first = d; others = r; is = cc }
  ]
]

-- a part that was made is that of its id
pub part_for-made : (f : Id → Option Part) (ids : List Id) (ps : List Addressed) → parts_of f ids ≡ Some ps → (y : Id) (part : Part)
    → part_for ps y ≡ Some part → In y ids × (f y ≡ Some part)
part_for-made f [] ps e y part d = let n : [] ≡ ps = (let g : Some [] ≡ Some ps = e in cc) in
    let m : None ≡ Some part = subst (λ z. part_for z y ≡ Some part) (sym n) d in cc
part_for-made f (i ∷ ids) ps e y part d =
    let s : Splits f i ids ps = splits f i ids ps e in
    let k : cond (bytes_eq i y) (Some s.part) (part_for s.rest y) ≡ Some part = subst (λ z. part_for z y ≡ Some part) s.is d in
    elim (test (bytes_eq i y)) [
      | yes_is b ↦ let g : i ≡ y = (bytes_eq-Decides i y).0 b in
          let n : Some s.part ≡ Some part = rw b at k in
          (subst (λ z. In z (i ∷ ids)) g here, subst (λ z. f z ≡ Some part) g (s.first ∙ n))
      | no_is b ↦ let r = part_for-made f ids s.rest s.others y part (rw b at k) in (there r.0, r.1)
    ]

-- each id has its part
pub part_for-each : (f : Id → Option Part) (ids : List Id) (ps : List Addressed) → parts_of f ids ≡ Some ps → (y : Id) → In y ids
    → (part : Part) × (f y ≡ Some part) × (part_for ps y ≡ Some part)
part_for-each f [] ps e y i = elim i [ ]
part_for-each f (j ∷ ids) ps e y i =
    let s : Splits f j ids ps = splits f j ids ps e in
    elim (test (bytes_eq j y)) [
      | yes_is b ↦ (
        s.part,
        subst (λ z. f z ≡ Some s.part) ((bytes_eq-Decides j y).0 b) s.first,
        subst (λ z. part_for z y ≡ Some s.part) (sym s.is) (rw b refl),
      )
      | no_is b ↦ elim (In-cases i) [
        | inl d ↦ let n = (bytes_eq-Decides j y).1 (sym d) in cc
        | inr k ↦ let r = part_for-each f ids s.rest s.others y k in
            (r.0, r.1, subst (λ z. part_for z y ≡ Some r.0) (sym s.is) (rw b r.2))
      ]
    ]

module _ (G : Setting) where
  -- what a packet holds for y
  pub record PartFor (x : Id) (l : Log) (p : Packet) (t : Given) (y : Id) (part : Part) : Type 0 where
    pub value : Bytes
    pub due : IsDue G x l p.header t p.header.kind y value
    pub is : part_with G x l t y value ≡ Some part

  -- each part of a made packet was due
  pub only_due : {x : Id} {l : Log} {p : Packet} {t : Given} → Makes G x l p t → (y : Id) (part : Part)
      → part_for p.parts y ≡ Some part → PartFor x l p t y part
  only_due {x} {l} {p} {t} m y part e =
      let r = part_for-made (part_sent G x l t p.header.kind) m.addressees p.parts m.parts y part e in
      elim (present (payload_sent G x l t p.header.kind)) [
        | gives_none d ↦ let n : None ≡ Some part = rw d at r.1 in cc
        | gives v d ↦ record { value = v; due = (m.to_whom.only y r.0, d); is = rw d at r.1 }
      ]

  -- and each part that was due was made
  pub record PartMade (x : Id) (l : Log) (p : Packet) (t : Given) (y : Id) (v : Bytes) : Type 0 where
    pub part : Part
    pub there_is : part_for p.parts y ≡ Some part
    pub is : part_with G x l t y v ≡ Some part

  pub each_due : {x : Id} {l : Log} {p : Packet} {t : Given} → Makes G x l p t → (y : Id) (v : Bytes)
      → IsDue G x l p.header t p.header.kind y v → PartMade x l p t y v
  each_due {x} {l} {p} {t} m y v due =
      let r = part_for-each (part_sent G x l t p.header.kind) m.addressees p.parts m.parts y (m.to_whom.all y due.0) in
      record { part = r.0; there_is = r.2; is = rw due.1 at r.1 }
