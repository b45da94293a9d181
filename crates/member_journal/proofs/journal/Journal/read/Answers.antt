use Rattle.std.proofs.Common.{◌≡◌, ◌<◌, ◌≤◌, List, ℕ, length, Some, sym, ◌∙◌, ap, arith}
use Rattle.std.proofs.lemmas.List.{take_at, length-map}
use Rattle.member_journal.proofs.Recalls.{record_read}
use Rattle.member_journal.proofs.journal.Journal.read.Goals as goal

pub returns-clause-record : goal.returns-clause-record
returns-clause-record g c told =
    let rooms = c.args.self.now.layout.rooms.items in
    let within : c.args.index < length c.args.self.now.layout.rooms.items = simp length-map at c.requires in
    let size : length c.as_mut_slice.result.now ≡ c.index-room.result.now.length = omega (arith, c.in_ok-bytes.ensures, c.as_mut_slice.ensures.len, c.in_ok-bytes.bytes.ok) in
    let whole : c.index-room.result.now.length ≤ c.in_ok-count.count = omega (arith, c.if-count-len.false, c.len.ensures, size, c.as_mut_slice.ensures.len) in
    let full : length c.read.new.into ≡ c.in_ok-bytes.bytes.len = omega (arith, c.read.auto.into, c.as_mut_slice.ensures.len) in
    record_read (g.D.Disk.content c.args.self.now.disk) c.as_mut_slice.result.now c.read.new.into rooms c.index-room.result.now c.args.index c.in_ok-count.count within c.index-room.ensures
    (c.in_ok-count.ensures.bytes told) size whole
    ∙ ap (λ (bytes : List ℕ). Some bytes) (sym (c.from.ensures ∙ take_at c.read.new.into _ c.in_ok-bytes.bytes.len full))
