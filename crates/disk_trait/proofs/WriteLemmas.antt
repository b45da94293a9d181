-- One write behind another.
use Rattle.std.proofs.Common.{◌≡◌, ◌∙◌, ◌+◌, ◌<◌, ◌≤◌, ℕ, zero, suc, min, List, ◌++◌, Option, Some, None, length, take, drop, refl, sym, ap, subst, arith, length-append, length-drop, IsSomeAnd}
use Rattle.std.proofs.Math.Seq.{take-add}
use Rattle.std.proofs.lemmas.List.{length-take, length-take-le, take-take, drop-drop, drop-take}
use Rattle.system_calls.specs.Stored.{WritesSome, KeepsName, overwritten}
use Rattle.system_calls.specs.declared.stored.StoredFile.{StoredFile}
use Rattle.disk_trait.specs.Disk.{Wrote}
use Rattle.disk_trait.specs.Images.{overwritten_wrote}
use Rattle.disk_trait.specs.LockedFile.{WroteFile, bytes_of}

-- how far a write that is whole reaches
reaches : (at : ℕ) (part old new : List ℕ) → Wrote at part old new → 0 < length part → at + length part ≤ length new
reaches at part old new wrote some =
    let e = ap length wrote.there in
    omega (arith, e, some, length-take (length part) (drop at new), length-drop at new)

module _ (at : ℕ) (a b old mid new : List ℕ) (first : Wrote at a old mid) (second : Wrote (at + length a) b mid new) where
  -- the second write leaves the first in place
  first_stays : (n : ℕ) → n ≡ length a → take n (drop at new) ≡ take n (drop at mid)
  first_stays zero e = refl
  first_stays (suc n) e =
      let far = reaches at a old mid first (omega (arith, e)) in
      let kept : take (at + suc n) new ≡ take (at + suc n) mid =
      ap (λ k. take k new) (omega (arith, e, far)) ∙ second.elsewhere.before ∙ ap (λ k. take k mid) (omega (arith, e)) in
      sym (drop-take at (suc n) new) ∙ ap (drop at) kept ∙ drop-take at (suc n) mid

  there_both : take (length (a ++ b)) (drop at new) ≡ a ++ b
  there_both =
      ap (λ n. take n (drop at new)) (length-append a b)
      ∙ take-add (length a) (length b) (drop at new)
      ∙ ap (λ l. l ++ take (length b) (drop (length a) (drop at new))) (first_stays (length a) refl ∙ first.there)
      ∙ ap (λ l. a ++ take (length b) l) (drop-drop (length a) at new)
      ∙ ap (λ l. a ++ l) second.there

  before_both : take (min at (length old)) new ≡ take at old
  before_both =
      let least = min at (length old) in
      let within : min at (length old) ≤ min (at + length a) (length mid) = omega (arith, first.elsewhere.no_shorter) in
      sym (take-take least (min (at + length a) (length mid)) new within)
      ∙ ap (take least) second.elsewhere.before
      ∙ take-take least (at + length a) mid (omega arith)
      ∙ first.elsewhere.before

  behind_both : drop (at + length (a ++ b)) new ≡ drop (at + length (a ++ b)) old
  behind_both =
      let end : at + length (a ++ b) ≡ at + length a + length b = omega (arith, length-append a b) in
      ap (λ k. drop k new) end ∙ second.elsewhere.behind
      ∙ sym (drop-drop (length b) (at + length a) mid) ∙ ap (drop (length b)) first.elsewhere.behind
      ∙ drop-drop (length b) (at + length a) old ∙ sym (ap (λ k. drop k old) end)

  pub wrote_on : Wrote at (a ++ b) old new
  wrote_on = record {
    there = there_both;
    elsewhere = record {
      before = before_both;
      behind = behind_both;
      no_shorter = omega (arith, first.elsewhere.no_shorter, second.elsewhere.no_shorter);
      no_longer = omega (arith, first.elsewhere.no_longer, second.elsewhere.no_longer, length-append a b);
    };
  }

-- one write of the next bytes more
pub wrote_more : (at place done n : ℕ) (bytes rest : List ℕ) (old mid new : Option StoredFile) → place ≡ at + done → done ≤ length bytes
    → rest ≡ drop done bytes → 0 < n → WroteFile at (take done bytes) old mid → WritesSome place n rest mid new
    → WroteFile at (take (done + n) bytes) old new
wrote_more at place done n bytes rest old None new here within left some first second = absurd first
wrote_more at place done n bytes rest old (Some file) new here within left some first second =
    let start : place ≡ at + length (take done bytes) = omega (arith, here, length-take-le done bytes within) in
    let after : List ℕ = overwritten place (take n rest) file.bytes in
    let next : Wrote place (take n rest) file.bytes (overwritten place (take n rest) file.bytes) = overwritten_wrote place (take n rest) file.bytes in
    let both = wrote_on at (take done bytes) (take n rest) (bytes_of old) file.bytes after first (subst (λ k. Wrote k (take n rest) file.bytes after) start next) in
    let all : take done bytes ++ take n rest ≡ take (done + n) bytes =
    ap (λ l. take done bytes ++ take n l) left ∙ sym (take-add done n bytes) in
    subst (λ stored. IsSomeAnd stored (λ f. Wrote at (take (done + n) bytes) (bytes_of old) f.bytes)) (sym (second.there some))
    (subst (λ part. Wrote at part (bytes_of old) after) all both)

-- one write more keeps the name
pub keeps_name : (place n : ℕ) (rest : List ℕ) (old mid new : Option StoredFile) → 0 < n → KeepsName old mid → WritesSome place n rest mid new → KeepsName old new
keeps_name place n rest old None new some kept second = absurd second.there
keeps_name place n rest None (Some file) new some kept second = cc
keeps_name place n rest (Some first) (Some file) new some kept second =
    subst (λ stored. KeepsName (Some first) stored) (sym (second.there some)) kept
