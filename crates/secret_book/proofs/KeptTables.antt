-- The table of what is kept.
use Rattle.std.proofs.Common.{◌≡◌, ◌<◌, ℕ, Bool, true, false, cond, nat_eq, List, [], length, Option, None, refl, sym, ◌∙◌, ap, ap₂, arith}
use Rattle.std.specs.Prelude.{bytes_eq, Result, Ok, Err, OnOk, OnErr}
use Rattle.std.proofs.lemmas.Bool.Decides.{nat_tests}
use Rattle.group_model.specs.Sets.{Bytes, Id}
use Rattle.secret_book.specs.HeldBooks.{BookTable, PlaceState, KeptSecret, keep_in, kept_by, held, started, with_kept, NothingKept}

-- what is kept alone changes
pub kept-changed : (b : BookTable) (rows : List KeptSecret) → held (record b { kept = rows }) ≡ record (held b) { kept = kept_by rows }
unfolding held
kept-changed b rows = refl

kept-held : (b : BookTable) → (held b).kept ≡ kept_by b.kept
unfolding held
kept-held b = refl

pub after-kept : (b a : BookTable) (v : b ≡ a) (i : Id) (p : ℕ) (s : Option Bytes) (rows : List KeptSecret)
    → kept_by rows ≡ keep_in (kept_by b.kept) i p s
    → held (record b { kept = rows }) ≡ with_kept i p s (held a)
after-kept b a v i p s rows e = kept-changed b rows
    ∙ ap (λ f. record (held b) { kept = f }) (e ∙ ap (λ f. keep_in f i p s) (sym (kept-held b)))
    ∙ ap (λ z. with_kept i p s (held z)) v

pub reads-kept : (b a : BookTable) (v : b ≡ a) (i : Id) (p : ℕ) → kept_by b.kept i p ≡ (held a).kept i p
reads-kept b a v i p = ap (λ f. f i p) (sym (kept-held b)) ∙ ap (λ z. (held z).kept i p) v

nothing : (secret : Bytes) → held (record { secret = secret; places = []; kept = [] }) ≡ started secret
unfolding held
nothing secret = refl

pub starts : (secret : Bytes) (places : List PlaceState) (rows : List KeptSecret) → places ≡ [] → rows ≡ []
    → held (record { secret = secret; places = places; kept = rows }) ≡ started secret
starts secret places rows d e = ap₂ (λ p k. held (record { secret = secret; places = p; kept = k })) d e ∙ nothing secret

alike : (b : Bool) (v : Option Bytes) → cond b v v ≡ v
alike true v = refl
alike false v = refl

-- nothing is kept for other places after something was put at one that was met
pub none-put : (b a : BookTable) (v : b ≡ a) (rows : List KeptSecret) (i : Id) (p : ℕ) (s : Option Bytes)
    → kept_by rows ≡ keep_in (kept_by b.kept) i p s → p < length a.places → NothingKept (length b.places) (kept_by b.kept)
    → NothingKept (length b.places) (kept_by rows)
none-put b a v rows i p s e l h j q low =
    let met : length b.places ≡ length a.places = ap (λ z. length z.places) v in
    let other : nat_eq p q ≡ false = grind (arith, nat_tests) in
    let kept : keep_in (kept_by b.kept) i p s j q ≡ None = rw other (alike (bytes_eq i j) (kept_by b.kept j q) ∙ h j q low) in
    ap (λ f. f j q) e ∙ kept

pub none-kept : {T E : Type 0} (r : Result T E) (b a : BookTable) (v : b ≡ a) (rows : List KeptSecret) (i : Id) (p : ℕ)
    (s : Option Bytes) → OnOk r (kept_by rows ≡ keep_in (kept_by b.kept) i p s) → OnErr r (rows ≡ b.kept)
    → p < length a.places → NothingKept (length b.places) (kept_by b.kept) → NothingKept (length b.places) (kept_by rows)
none-kept (Ok x) b a v rows i p s e u l h = none-put b a v rows i p s e l h
none-kept (Err x) b a v rows i p s e u l h = rw u h
