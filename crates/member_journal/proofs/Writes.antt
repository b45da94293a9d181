-- Writes one behind the other are one write.
use Rattle.std.proofs.Common.{◌≡◌, ℕ, ◌+◌, ◌-◌, ◌≤◌, min, List, ◌++◌, length, take, drop, refl, sym, ◌∙◌, ap, subst, arith, append_assoc, length-append, length-drop, take-append-drop}
use Rattle.std.proofs.lemmas.List.{take-take, take_min, drop-drop, length-take, drop-take}
use Rattle.disk_trait.specs.Disk.{Torn, Wrote, MayTear, LeavesOnly}

-- nothing was written yet
pub torn_none : (at n : ℕ) (old : List ℕ) → Torn at n old old
torn_none at n old =
    record { before = take_min at old; behind = refl; no_shorter = omega arith; no_longer = omega arith }

-- the bytes before a place inside the old length
pub front_kept : (at n k : ℕ) (old new : List ℕ) → Torn at n old new → at ≤ length old → k ≤ at → take k new ≡ take k old
front_kept at n k old new torn inside early =
    let least : min at (length old) ≡ at = omega arith in
    let same : take at new ≡ take at old = ap (λ (m : ℕ). take m new) (sym least) ∙ torn.before in
    sym (take-take k at new early) ∙ ap (take k) same ∙ take-take k at old early

behind_more : (n m : ℕ) (xs ys : List ℕ) → drop n xs ≡ drop n ys → drop (n + m) xs ≡ drop (n + m) ys
behind_more n m xs ys same = sym (drop-drop m n xs) ∙ ap (drop m) same ∙ drop-drop m n ys

pub torn_on : (at n m : ℕ) (old mid new : List ℕ) → at ≤ length old → Torn at n old mid → Torn (at + n) m mid new → Torn at (n + m) old new
torn_on at n m old mid new inside first second =
    let least : min at (length old) ≡ at = omega arith in
    let early : at ≤ min (at + n) (length mid) = omega (arith, first.no_shorter, inside) in
    let low : min (at + n) (length mid) ≤ at + n = omega arith in
    let kept : take at new ≡ take at mid =
    sym (take-take at (min (at + n) (length mid)) new early) ∙ ap (take at) second.before ∙ take-take at (at + n) mid (omega arith) in
    record {
      before = ap (λ (k : ℕ). take k new) least ∙ kept ∙ front_kept at n at old mid first inside (omega arith);
      behind = ap (λ (k : ℕ). drop k new) (omega arith) ∙ second.behind ∙ behind_more (at + n) m mid old first.behind ∙ ap (λ (k : ℕ). drop k old) (omega arith);
      no_shorter = omega (arith, first.no_shorter, second.no_shorter);
      no_longer = omega (arith, first.no_longer, second.no_longer);
    }

pub torn_wider : (at n m : ℕ) (old new : List ℕ) → n ≤ m → Torn at n old new → Torn at m old new
torn_wider at n m old new wider torn =
    let more : at + n + (m - n) ≡ at + m = omega arith in
    record {
      before = torn.before;
      behind = ap (λ (k : ℕ). drop k new) (sym more) ∙ behind_more (at + n) (m - n) new old torn.behind ∙ ap (λ (k : ℕ). drop k old) more;
      no_shorter = torn.no_shorter;
      no_longer = omega (arith, torn.no_longer, wider);
    }

take_split : (n m : ℕ) (xs : List ℕ) → take (n + m) xs ≡ take n xs ++ take m (drop n xs)
take_split n m xs =
    sym (take-append-drop n (take (n + m) xs)) ∙ (λ i. take-take n (n + m) xs (omega arith) i ++ drop-take n m xs i)

pub wrote_on : (at : ℕ) (first second old mid new : List ℕ) → at ≤ length old → Wrote at first old mid → Wrote (at + length first) second mid new → Wrote at (first ++ second) old new
wrote_on at first second old mid new inside early late =
    let reach : at + length first ≤ length mid =
    omega (arith, ap length early.there, length-take (length first) (drop at mid), length-drop at mid, early.elsewhere.no_shorter, inside) in
    let kept : take (at + length first) new ≡ take (at + length first) mid =
    front_kept (at + length first) (length second) (at + length first) mid new late.elsewhere reach (omega arith) in
    let front : take (length first) (drop at new) ≡ first =
    sym (drop-take at (length first) new) ∙ ap (drop at) kept ∙ drop-take at (length first) mid ∙ early.there in
    let back : take (length second) (drop (length first) (drop at new)) ≡ second = ap (take (length second)) (drop-drop (length first) at new) ∙ late.there in
    record {
      there = ap (λ (n : ℕ). take n (drop at new)) (length-append first second)
          ∙ take_split (length first) (length second) (drop at new) ∙ (λ i. front i ++ back i);
      elsewhere = subst (λ (n : ℕ). Torn at n old new) (sym (length-append first second)) (torn_on at (length first) (length second) old mid new inside early.elsewhere late.elsewhere);
    }

-- every image is the content, torn
abbrev pub AllTorn : ℕ → ℕ → List ℕ → (List ℕ → Type 0) → Type 0
AllTorn at n content image = (c : List ℕ) → image c → Torn at n content c

pub all_torn_first : (at n : ℕ) (content : List ℕ) (image image' : List ℕ → Type 0) → LeavesOnly content image → MayTear at n image image' → AllTorn at n content image'
all_torn_first at n content image image' settled tears c now =
    let from = tears c now in subst (λ (old : List ℕ). Torn at n old c) (settled from.0 from.1) from.2

pub all_torn_on : (at n m : ℕ) (content : List ℕ) (image image' : List ℕ → Type 0) → at ≤ length content → AllTorn at n content image → MayTear (at + n) m image image' → AllTorn at (n + m) content image'
all_torn_on at n m content image image' inside torn tears c now =
    let from = tears c now in torn_on at n m content from.0 c inside (torn from.0 from.1) from.2

pub all_torn_wider : (at n m : ℕ) (content : List ℕ) (image : List ℕ → Type 0) → n ≤ m → AllTorn at n content image → AllTorn at m content image
all_torn_wider at n m content image wider torn c now = torn_wider at n m content c wider (torn c now)

-- what stands from the place on
pub wrote_behind : (at : ℕ) (bytes old new : List ℕ) → Wrote at bytes old new → drop at new ≡ bytes ++ drop (at + length bytes) old
wrote_behind at bytes old new wrote =
    let rest : drop (length bytes) (drop at new) ≡ drop (at + length bytes) old = drop-drop (length bytes) at new ∙ wrote.elsewhere.behind in
    sym (take-append-drop (length bytes) (drop at new)) ∙ (λ i. wrote.there i ++ rest i)

-- a write inside the old length says what all the bytes are
pub wrote_is : (at : ℕ) (bytes old new : List ℕ) → at ≤ length old → Wrote at bytes old new
    → new ≡ take at old ++ bytes ++ drop (at + length bytes) old
wrote_is at bytes old new inside wrote =
    let front : take at new ≡ take at old = front_kept at (length bytes) at old new wrote.elsewhere inside (omega arith) in
    let back = wrote_behind at bytes old new wrote in
    sym (take-append-drop at new) ∙ (λ i. front i ++ back i) ∙ sym (append_assoc (take at old) bytes (drop (at + length bytes) old))
