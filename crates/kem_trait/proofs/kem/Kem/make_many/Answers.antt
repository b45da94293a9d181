use Rattle.std.proofs.Common.{◌≡◌, refl, ℕ, suc, ◌+◌, ◌<◌, ◌≤◌, Some, List, [], ◌∷◌, ◌++◌, map, take, drop, set, length, get_or, arith, ap, ap₂, sym, ◌∙◌, add-one, add-zero}
use Rattle.std.proofs.lemmas.List.{take_more, take_more_set, take_all, map-append, drop-set-lt, get_or-drop}
use Rattle.std.proofs.Math.Seq.{drop-cons}
use Rattle.kem_trait.specs.Streams.{behind}
use Rattle.kem_trait.proofs.kem.Kem.make_many.Goals as goal

-- lists that are the same from i on have the same element there
same_at : {B : Type 0} (old now : List B) (i : ℕ) (d : B) → drop i now ≡ drop i old → get_or old i d ≡ get_or now i d
same_at {B} old now i d e =
    let at : (l : List B) → get_or (drop i l) 0 d ≡ get_or l i d = λ l. get_or-drop i l 0 d ∙ ap (λ k. get_or l k d) (add-zero i) in
    sym (at old) ∙ ap (λ l. get_or l 0 d) (sym e) ∙ at now

-- and the same elements behind it
same_behind : {B : Type 0} (old now : List B) (i : ℕ) (d y : B) → i < length old → i < length now → drop i now ≡ drop i old → drop (i + 1) (set now i y) ≡ drop (i + 1) old
same_behind old now i d y lo ln e =
    let a = drop-cons old i d lo in
    let b = drop-cons now i d ln in
    let c : drop (suc i) now ≡ drop (suc i) old = cc in
    drop-set-lt (i + 1) now i y (omega arith) ∙ rw add-one c

-- one more pair, of the source at i
pairs_more : {A B C : Type 0} (f : A → C) (h : B → C) (ps : List A) (p : A) (old now : List B) (d : B) (i : ℕ)
    → i < length old → map f ps ≡ map h (take i old) → drop i now ≡ drop i old → h (get_or now i d) ≡ f p
    → map f (ps ++ p ∷ []) ≡ map h (take (i + 1) old)
pairs_more {A} {B} {C} f h ps p old now d i lo e same fp =
    let more = take_more old i d lo in
    let left = map-append f ps (p ∷ []) in
    let right = map-append h (take i old) (get_or old i d ∷ []) in
    let item_is : h (get_or old i d) ≡ f p = ap h (same_at old now i d same) ∙ fp in
    left ∙ rw (more, right, e, item_is) refl

-- one more source, left as it is behind what was taken
left_more : {B C : Type 0} (f h : B → C) (old now : List B) (d y : B) (i : ℕ) → i < length old → i < length now
    → map f (take i now) ≡ map h (take i old) → drop i now ≡ drop i old → f y ≡ h (get_or now i d)
    → map f (take (i + 1) (set now i y)) ≡ map h (take (i + 1) old)
left_more {B} {C} f h old now d y i lo ln e same is =
    let moved : f y ≡ h (get_or old i d) = is ∙ ap h (sym (same_at old now i d same)) in
    ap (map f) (take_more_set now i y ln) ∙ map-append f (take i now) (y ∷ [])
    ∙ ap₂ (λ (l : List C) (c : C). l ++ c ∷ []) e moved
    ∙ sym (ap (map h) (take_more old i d lo) ∙ map-append h (take i old) (get_or old i d ∷ []))

pub loop-source-preserved : goal.loop-source-preserved
loop-source-preserved g c =
    let lo : c.loop-source.source-index < length c.args.words.now = omega arith in
    let ln : c.loop-source.source-index < length c.loop-source.words = omega arith in record {
      pairs = rw c.in_ok-push.ensures (pairs_more (λ pair. Some (g.Self.Kem.secret_key pair)) (λ w. g.Self.Kem.made (g.W.Words.upcoming w)) _ _ c.args.words.now c.loop-source.words c.source-item.result c.loop-source.source-index lo c.loop-source.invariant.pairs c.loop-source.invariant.rest c.in_ok-pair.ensures.pair);
      left = left_more (λ w. g.W.Words.upcoming w) (λ w. behind (g.Self.Kem.pair_words (g.W.Words.upcoming w)) (g.W.Words.upcoming w)) c.args.words.now c.loop-source.words c.source-item.result c.make.new.words c.loop-source.source-index lo ln c.loop-source.invariant.left c.loop-source.invariant.rest c.in_ok-pair.ensures.left;
      rest = same_behind c.args.words.now c.loop-source.words c.loop-source.source-index c.source-item.result c.make.new.words lo ln c.loop-source.invariant.rest;
    }

pub returns-clause-left : goal.returns-clause-left
returns-clause-left g c =
    let done : length c.loop-source.words ≤ c.loop-source.source-index = omega arith in
    let all : length c.args.words.now ≤ c.loop-source.source-index = omega arith in
    ap (map (λ w. g.W.Words.upcoming w)) (sym (take_all c.loop-source.source-index c.loop-source.words done))
    ∙ c.loop-source.invariant.left
    ∙ ap (map (λ w. behind (g.Self.Kem.pair_words (g.W.Words.upcoming w)) (g.W.Words.upcoming w))) (take_all c.loop-source.source-index c.args.words.now all)
