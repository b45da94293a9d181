use Rattle.std.proofs.Common.{◌≡◌, refl, ◌<◌, ℤ, pos, get_or, arith, rules, ap, sym, subst, ◌∙◌, SFits, to_z, of_z, w16}
use Rattle.std.proofs.lemmas.Int.{to_z-of_z}
use Rattle.std.proofs.lemmas.List.Elements.{All-get_or}
use Rattle.ring_poly.specs.Ring.{IsCentred}
use Rattle.ntru_model.specs.Encodings.{digit_of}
use Rattle.ntru_prime.proofs.Loops.{map_step, map_end, all_step, all_end, all_none}
use Rattle.ntru_prime.proofs.encodings.digits_of.Goals as goal

pub digit-requires-clause-centred : goal.digit-requires-clause-centred
digit-requires-clause-centred c =
    let x : ℤ = get_or c.args.a.now c.loop-i.i (pos 0) in
    let fits : SFits w16 (get_or c.args.a.now c.loop-i.i (pos 0)) = search rules in
    subst (IsCentred (pos c.args.q)) (sym (to_z-of_z w16 (get_or c.args.a.now c.loop-i.i (pos 0)) fits))
    (All-get_or (IsCentred (pos c.args.q)) c.args.a.now c.loop-i.i (pos 0) (omega arith) c.requires.centred)

pub loop-i-init : goal.loop-i-init
loop-i-init c = record { digits = refl; below = all_none (λ r. r < c.args.q) c.args.into.now }

pub loop-i-preserved : goal.loop-i-preserved
loop-i-preserved c =
    let fits : SFits w16 (get_or c.args.a.now c.loop-i.i (pos 0)) = search rules in
    let same : to_z w16 (of_z w16 (get_or c.args.a.now c.loop-i.i (pos 0))) ≡ get_or c.args.a.now c.loop-i.i (pos 0) = to_z-of_z w16 _ fits in
    record {
      digits = map_step (digit_of c.args.q) c.args.a.now c.loop-i.into c.loop-i.i (pos 0) _ (omega arith) (omega arith) c.loop-i.invariant.digits (c.digit.ensures.exact ∙ ap (digit_of c.args.q) same);
      below = all_step (λ r. r < c.args.q) c.loop-i.into c.loop-i.i _ (omega arith) c.loop-i.invariant.below c.digit.ensures.below;
    }

pub returns-clause-digits : goal.returns-clause-digits
returns-clause-digits c = map_end (digit_of c.args.q) c.args.a.now c.loop-i.into c.loop-i.i (omega arith) (omega arith) c.loop-i.invariant.digits

pub returns-clause-below : goal.returns-clause-below
returns-clause-below c = all_end (λ r. r < c.args.q) c.loop-i.into c.loop-i.i (omega arith) c.loop-i.invariant.below
