-- The ordered table of what is kept, as a list and as a function.
use Rattle.std.proofs.Common.{◌≡◌, ℕ, ◌<◌, Bool, true, false, ◌&&◌, List, [], ◌∷◌, Option, Some, refl, sym, ◌∙◌, ap, ap₂}
use Rattle.std.proofs.Common.{cond, arith, nat_eq}
use Rattle.std.specs.Prelude.{bytes_eq}
use Rattle.std.specs.declared.cmp.Ordering.{Ordering}
use Rattle.std.specs.declared.cmp.Ordering.TheVariants.{Less, Equal, Greater}
use Rattle.std.specs.Ordering.{MatchOrdering, is_eq, nat_cmp, ordering_then}
use Rattle.std.specs.Cmp.Lexicographic.{slice_cmp}
use Rattle.std.specs.BTreeMap.{BTreeMap, is_at, UpdatesBy}
use Rattle.std.specs.Map.{lookup}
use Rattle.std.proofs.lemmas.Cmp.{ranked}
use Rattle.std.proofs.lemmas.Map.Text.{is_eq-slice_cmp}
use Rattle.group_model.specs.Sets.{Bytes}
use Rattle.group_model.proofs.ListFacts.{yes_is, no_is, test}
use Rattle.group_model.proofs.Verdicts.{says-equal}
use Rattle.secret_book.specs.declared.kept_secrets.Answer.{Answer}
use Rattle.secret_book.specs.HeldBooks.{KeptSecret, keep_in, kept_by}
use Rattle.secret_book.specs.Kept.{kept_rows}

abbrev pub answer_cmp : Answer → Answer → Ordering
answer_cmp x y = ordering_then (slice_cmp nat_cmp x.of.0.0 y.of.0.0) (nat_cmp x.place y.place)

then-equal : (a b : Ordering) → is_eq (ordering_then a b) ≡ (is_eq a && is_eq b)
then-equal Less b = refl
then-equal Equal b = refl
then-equal Greater b = refl

ranks-equal : (x y : ℕ) (r : Ordering) → MatchOrdering r (x < y) (x ≡ y) (y < x) → is_eq r ≡ nat_eq x y
ranks-equal x y Less l = elim (test (nat_eq x y)) [
  | yes_is n ↦ (let e = (says-equal x y).holds n in absurd (omega (arith, l, e)))
  | no_is n ↦ sym n
]
ranks-equal x y Equal e = sym ((says-equal x y).told e)
ranks-equal x y Greater l = elim (test (nat_eq x y)) [
  | yes_is n ↦ (let e = (says-equal x y).holds n in absurd (omega (arith, l, e)))
  | no_is n ↦ sym n
]

answer-equal : (x y : Answer) → is_eq (answer_cmp x y) ≡ (bytes_eq x.of.0.0 y.of.0.0 && nat_eq x.place y.place)
answer-equal x y = then-equal (slice_cmp nat_cmp x.of.0.0 y.of.0.0) (nat_cmp x.place y.place)
    ∙ ap₂ (λ a b. a && b) (is_eq-slice_cmp x.of.0.0 y.of.0.0)
    (ranks-equal x.place y.place (nat_cmp x.place y.place) (ranked x.place y.place (nat_cmp x.place y.place) refl))

-- what the table finds is what is kept
pub finds-kept : (q : Answer) (entries : List (Answer × Bytes))
    → lookup (is_at (answer_cmp q)) entries ≡ kept_by (kept_rows entries) q.of.0.0 q.place
finds-kept q [] = refl
finds-kept q (e ∷ es) = ap₂ (λ t r. cond t (Some e.1) r) (answer-equal q e.0) (finds-kept q es)

both : (a b : Bool) (v w : Option Bytes) → cond (a && b) v w ≡ cond a (cond b v w) w
both true b v w = refl
both false b v w = refl

at-kept : (m n : BTreeMap Answer Bytes) (k : Answer) (w : Option Bytes) → UpdatesBy answer_cmp (answer_cmp k) m n w
    → (q : Answer)
    → kept_by (kept_rows n.entries) q.of.0.0 q.place ≡ keep_in (kept_by (kept_rows m.entries)) k.of.0.0 k.place w q.of.0.0 q.place
at-kept m n k w u q = sym (finds-kept q n.entries) ∙ u.0 q
    ∙ ap₂ (λ t r. cond t w r) (answer-equal k q) (finds-kept q m.entries)
    ∙ both (bytes_eq k.of.0.0 q.of.0.0) (nat_eq k.place q.place) w (kept_by (kept_rows m.entries) q.of.0.0 q.place)

-- a change of the table at one answer, of a value that was old
pub updates-kept : (m n : BTreeMap Answer Bytes) (old : List KeptSecret) (v : kept_rows m.entries ≡ old) (k : Answer)
    (w : Option Bytes) → UpdatesBy answer_cmp (answer_cmp k) m n w
    → kept_by (kept_rows n.entries) ≡ keep_in (kept_by old) k.of.0.0 k.place w
updates-kept m n old v k w u = all ∙ ap (λ z. keep_in (kept_by z) k.of.0.0 k.place w) v
  where
    all : kept_by (kept_rows n.entries) ≡ keep_in (kept_by (kept_rows m.entries)) k.of.0.0 k.place w
    all = λ i j p. at-kept m n k w u (record { of = record { 0 = record { 0 = j } }; place = p }) i
