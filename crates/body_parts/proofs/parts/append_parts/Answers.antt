use Rattle.std.proofs.Common.{None, length, sym}
use Rattle.std.proofs.lemmas.Result.{on_ok_weaker}
use Rattle.body_parts.proofs.Written.{ascends_from, parts_appended}
use Rattle.body_parts.proofs.parts.append_parts.Goals as goal

pub returns : goal.returns
returns g c =
    on_ok_weaker c.append_each.result
    (λ (made, above, are). (
      made,
      parts_appended g.K.Kem.SET (length c.args.to.now) made c.args.into.now.items c.append_u8.new.bytes.items c.append_each.new.into.items
          (sym are.count) c.in_ok-append_u8.ensures.appends (above None (ascends_from c.args.to.now c.requires.ascend)),
      are,
    ))
    c.append_each.ensures
