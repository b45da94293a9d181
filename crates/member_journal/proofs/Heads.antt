-- What was read at a gate, and what stands there.
use Rattle.std.proofs.Common.{◌≡◌, ℕ, zero, suc, ◌+◌, ◌-◌, ◌<◌, ◌≤◌, List, [], ◌∷◌, ◌++◌, length, take, drop, get_or, nat_eq, refl, sym, ◌∙◌, ap, arith, length-drop, w32}
use Rattle.std.proofs.lemmas.List.{drop_more, drop_all, append-nil, length-take, take-take}
use Rattle.std.specs.Int.{from_be_bytes}
use Rattle.std.specs.Cmp.Lexicographic.{pointwise}
use Rattle.std.specs.List.{starts_with}
use Rattle.disk_trait.specs.Disk.{ReadsPart}
use Rattle.member_journal.specs.Format.{HoldsRecord, length_of, longest_record, magic}
use Rattle.member_journal.specs.Scan.{ReadsGate}

four_items : (xs : List ℕ) → length xs ≡ 4 → xs ≡ get_or xs 0 0 ∷ get_or xs 1 0 ∷ get_or xs 2 0 ∷ get_or xs 3 0 ∷ []
four_items [] is = absurd (omega (arith, is))
four_items (a ∷ []) is = absurd (omega (arith, is))
four_items (a ∷ b ∷ []) is = absurd (omega (arith, is))
four_items (a ∷ b ∷ c ∷ []) is = absurd (omega (arith, is))
four_items (a ∷ b ∷ c ∷ d ∷ []) is = refl
four_items (a ∷ b ∷ c ∷ d ∷ e ∷ xs) is = absurd (omega (arith, is))

first_of : (x n : ℕ) (rest end : List ℕ) → 1 ≤ n → get_or (take n (x ∷ rest) ++ end) 0 0 ≡ x
first_of x zero rest end some = absurd (omega arith)
first_of x (suc n) rest end some = refl

module _ (content old new : List ℕ) (gate count : ℕ) (reads : ReadsPart content gate count old new) (five : length old ≡ 5) (before_end : gate < length content) where
  rest : List ℕ
  rest = drop (gate + 1) content

  split : drop gate content ≡ get_or content gate 0 ∷ drop (gate + 1) content
  split = drop_more content gate 0 before_end

  new_is : new ≡ take count (get_or content gate 0 ∷ drop (gate + 1) content) ++ drop count old
  new_is = reads.bytes ∙ ap (λ (l : List ℕ). take count l ++ drop count old) split

  pub first : get_or new 0 0 ≡ get_or content gate 0
  first =
      ap (λ (l : List ℕ). get_or l 0 0) new_is
      ∙ first_of (get_or content gate 0) count (drop (gate + 1) content) (drop count old) (omega (arith, reads.count, five, length-drop gate content))

  -- the length field was read whole
  pub length_read : count ≡ 5 → length_of (drop (gate + 1) content) ≡ from_be_bytes w32 (get_or new 1 0 ∷ get_or new 2 0 ∷ get_or new 3 0 ∷ get_or new 4 0 ∷ [])
  length_read whole =
      let all : new ≡ get_or content gate 0 ∷ take 4 (drop (gate + 1) content) =
      new_is ∙ ap (λ (n : ℕ). take n (get_or content gate 0 ∷ drop (gate + 1) content) ++ drop n old) whole
      ∙ ap (λ (l : List ℕ). get_or content gate 0 ∷ (take 4 (drop (gate + 1) content) ++ l)) (drop_all 5 old (omega (arith, five)))
      ∙ ap (λ (l : List ℕ). get_or content gate 0 ∷ l) (append-nil (take 4 (drop (gate + 1) content))) in
      let four : length (take 4 (drop (gate + 1) content)) ≡ 4 =
      omega (arith, length-take 4 (drop (gate + 1) content), reads.count, whole, five, length-drop gate content, length-drop (gate + 1) content) in
      ap (from_be_bytes w32) (four_items (take 4 (drop (gate + 1) content)) four)
      ∙ sym (ap (λ (l : List ℕ). from_be_bytes w32 (get_or l 1 0 ∷ get_or l 2 0 ∷ get_or l 3 0 ∷ get_or l 4 0 ∷ [])) all)

  pub reads_gate : (n : ℕ) → get_or new 0 0 ≡ 1 → count ≡ 5 → n ≡ from_be_bytes w32 (get_or new 1 0 ∷ get_or new 2 0 ∷ get_or new 3 0 ∷ get_or new 4 0 ∷ [])
      → 1 ≤ n → n ≤ longest_record → n + 5 < length content - gate → ReadsGate content gate n
  reads_gate n opened whole is some few fits =
      let same : n ≡ length_of (drop (gate + 1) content) = is ∙ sym (length_read whole) in
      record {
        is_open = sym first ∙ opened;
        holds = record {
          has_length = omega (arith, reads.count, whole, five, length-drop gate content, length-drop (gate + 1) content);
          not_empty = omega (arith, same, some);
          not_long = omega (arith, same, few);
          whole = omega (arith, same, fits, length-drop (gate + 1) content);
        };
        count = same;
      }

  -- what holds a record was read whole, and its length is in range
  pub holds_read : (n : ℕ) → n ≡ from_be_bytes w32 (get_or new 1 0 ∷ get_or new 2 0 ∷ get_or new 3 0 ∷ get_or new 4 0 ∷ []) → HoldsRecord (drop (gate + 1) content)
      → (count ≡ 5) × (1 ≤ n) × (n ≤ longest_record) × (n + 5 < length content - gate)
  holds_read n is holds =
      let whole : count ≡ 5 = omega (arith, reads.count, five, holds.has_length, length-drop gate content, length-drop (gate + 1) content) in
      let same : n ≡ length_of (drop (gate + 1) content) = is ∙ sym (length_read whole) in
      (whole, omega (arith, same, holds.not_empty), omega (arith, same, holds.not_long), omega (arith, same, holds.whole, length-drop (gate + 1) content))

-- what was read in front of the first gate begins as the content does
pub start_read : (content old new : List ℕ) (count : ℕ) → ReadsPart content 0 count old new → length old ≡ 8 → 8 ≤ count
    → starts_with nat_eq new magic ≡ starts_with nat_eq content magic
start_read content old new count reads eight whole =
    let all : count ≡ 8 = omega (arith, reads.count, eight, whole) in
    ap (λ (l : List ℕ). starts_with nat_eq l magic)
    (reads.bytes ∙ ap (λ (n : ℕ). take n content ++ drop n old) all ∙ ap (λ (l : List ℕ). take 8 content ++ l) (drop_all 8 old (omega (arith, eight))) ∙ append-nil (take 8 content))
    ∙ ap (pointwise nat_eq magic) (take-take 8 8 content (omega arith))
