use Rattle.std.proofs.Common.{◌++◌, ◌∷◌, [], ◌/◌, ◌%◌, ◌<◌, length, sym, ap, ◌∙◌, arith}
use Rattle.std.proofs.lemmas.List.{take_more_set}
use Rattle.std.proofs.Math.Nat.{div-one}
use Rattle.ntru_codec.specs.Rows.{low_bytes}
use Rattle.ntru_codec.proofs.Bytes.{low_bytes_none, low_bytes_more, shifted_more}
use Rattle.ntru_codec.proofs.digit.give_off.Goals as goal

pub loop-byte-init : goal.loop-byte-init
loop-byte-init c = (sym (low_bytes_none c.args.value), sym (div-one c.args.value))

pub loop-byte-preserved : goal.loop-byte-preserved
loop-byte-preserved c =
    let i = c.loop-byte.byte-index in
    let v = c.args.value in
    let within : i < length c.loop-byte.into = omega arith in (
      take_more_set c.loop-byte.into i (c.loop-byte.left % 256) within
          ∙ ap (λ xs. xs ++ (c.loop-byte.left % 256) ∷ []) c.loop-byte.invariant.0
          ∙ ap (λ w. low_bytes i v ++ (w % 256) ∷ []) c.loop-byte.invariant.1
          ∙ sym (low_bytes_more i v),
      ap (λ w. w / 256) c.loop-byte.invariant.1 ∙ shifted_more i v,
    )
