use Rattle.std.proofs.Common.{◌≡◌, ℕ, ◌+◌, ◌*◌, length, take, arith, ◌∙◌, ap, refl, List, ◌++◌}
use Rattle.hkdf_seal.specs.Keys.{block}
use Rattle.hkdf_seal.proofs.Blocks.{block_step, blocks_none, blocks_step, expand_all}
use Rattle.hkdf_seal.proofs.hkdf.expand.Goals as goal

pub fill-init : goal.fill-init
fill-init c = ((λ h. absurd (omega arith)), blocks_none c.args.prk.now c.args.info.now (length c.args.into.now))

pub fill-preserved : goal.fill-preserved
fill-preserved c =
    let prk : List ℕ = c.args.prk.now in
    let info : List ℕ = c.args.info.now in
    let next : c.next_block-last.result ≡ block prk info (c.fill.i + 1) =
    c.next_block-last.ensures ∙ block_step prk info c.previous.result.now c.fill.last c.fill.i _ refl c.previous.ensures.first c.previous.ensures.later c.fill.invariant.0 in (
      (λ h. next),
      blocks_step prk info c.fill.into c.put_block.new.into c.next_block-last.result c.fill.i (length c.args.into.now) (omega arith) c.fill.invariant.1 next
          (c.put_block.ensures ∙ ap (λ n. take n (take (32 * c.fill.i) c.fill.into ++ c.next_block-last.result)) c.fill.auto.into),
    )

pub returns : goal.returns
returns c = expand_all c.args.prk.now c.args.info.now c.fill.into c.fill.i (length c.args.into.now) c.fill.auto.into (omega arith) c.fill.invariant.1
