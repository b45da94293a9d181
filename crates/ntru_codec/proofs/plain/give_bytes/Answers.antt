use Rattle.std.proofs.Common.{ℕ, ◌/◌, ◌%◌, List, [], ◌∷◌, ◌++◌, sym, subst, arith}
use Rattle.ntru_codec.proofs.Giving.{Giving, Giving-start, Giving-step, Giving-bytes, Giving-left}
use Rattle.ntru_codec.proofs.plain.give_bytes.Goals as goal

pub loop-left-init : goal.loop-left-init
loop-left-init c = Giving-start c.args.limit c.args.value c.args.modulus c.args.bytes.now.items c.requires.below (omega arith)

pub loop-left-preserved : goal.loop-left-preserved
loop-left-preserved c =
    let old = c.args.bytes.now.items in
    let next = Giving-step c.args.limit c.args.value c.args.modulus old c.loop-left.bytes.items c.loop-left.rest c.loop-left.left (omega arith) (omega arith) c.loop-left.invariant.0 c.loop-left.invariant.1 in
    let P : ℕ → List ℕ → Type 0 = λ left xs. (n : ℕ) × Giving c.args.limit c.args.value c.args.modulus old xs n (c.loop-left.rest / 256) left in
    let bytes = c.loop-left.bytes.items ++ (c.loop-left.rest % 256) ∷ [] in
    let here : P c.div_ceil-left.result bytes = subst (λ left. P left bytes) (sym c.div_ceil-left.ensures) next in
    subst (λ xs. P c.div_ceil-left.result xs) (sym c.in_ok-push.ensures.items) here

pub returns-clause-bytes : goal.returns-clause-bytes
returns-clause-bytes c = Giving-bytes c.args.limit c.args.value c.args.modulus c.args.bytes.now.items c.loop-left.bytes.items c.loop-left.invariant.0 c.loop-left.rest c.loop-left.left (omega arith) c.loop-left.invariant.1

pub returns-clause-left : goal.returns-clause-left
returns-clause-left c = Giving-left c.args.limit c.args.value c.args.modulus c.args.bytes.now.items c.loop-left.bytes.items c.loop-left.invariant.0 c.loop-left.rest c.loop-left.left (omega arith) c.loop-left.invariant.1
