use Rattle.std.proofs.Common.{◌≡◌, ℕ, List, [], ◌+◌, ◌*◌, ◌/◌, ◌^◌, ◌<◌, ◌≤◌, ◌++◌, length, take, get_or, bit_xor, div-le_self, refl, sym, ap, ◌∙◌, arith}
use Rattle.std.proofs.lemmas.List.{take_all}
use Rattle.lms_ots.specs.OneTime.{joined}
use Rattle.lms_ots.proofs.Parts.{front_more}
use Rattle.lms_ots.proofs.Steps.{joined_more, joined_none}
use Rattle.lms_sign.specs.Nodes.{sibling_at}
use Rattle.lms_sign.proofs.writing.write_path.Goals as goal

pub path-init : goal.path-init
path-init c = sym (joined_none (sibling_at c.args.nodes.now c.args.number) (take 2188 c.args.into.now))

pub path-preserved : goal.path-preserved
path-preserved c =
    let nodes : List (List ℕ) = c.args.nodes.now in
    let level : ℕ = c.path.level in
    let sibling : ℕ = bit_xor (c.args.number / 2 ^ level) 1 in
    let part : List ℕ = get_or nodes sibling [] in
    let front : List ℕ = take 2188 c.args.into.now in
    let below : sibling < length nodes = c.requires.pairs (c.args.number / 2 ^ level) (omega (arith, div-le_self c.args.number (2 ^ level), c.requires.count)) in
    let place : 2188 + 32 * (level + 1) ≡ 2188 + 32 * level + 32 = omega arith in
    ap (λ n. take n c.put.new.into) place
    ∙ (front_more (front ++ joined (sibling_at nodes c.args.number) level) part c.path.into c.put.new.into (2188 + 32 * level) (c.told-nodes sibling below)
    (omega (arith, c.requires.room, c.path.auto.into)) c.path.invariant c.put.ensures
    ∙ joined_more (sibling_at nodes c.args.number) front part level refl)

pub returns : goal.returns
returns c =
    let all : c.path.level ≡ c.args.levels = omega arith in
    let whole : length c.path.into ≤ 2188 + 32 * c.path.level = omega (arith, c.requires.room, c.path.auto.into) in
    sym (take_all (2188 + 32 * c.path.level) c.path.into whole)
    ∙ (c.path.invariant ∙ ap (λ n. take 2188 c.args.into.now ++ joined (sibling_at c.args.nodes.now c.args.number) n) all)
