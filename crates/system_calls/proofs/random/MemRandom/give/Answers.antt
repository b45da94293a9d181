use Rattle.std.proofs.Common.{◌≡◌, ◌∙◌, ◌++◌, take, drop, sym, ap, take-append-drop}
use Rattle.std.proofs.lemmas.List.{drop-drop}
use Rattle.system_calls.proofs.random.MemRandom.give.Goals as goal

-- the bytes that were to come are those that were given, and the others
pub returns-clause-bytes : goal.returns-clause-bytes
returns-clause-bytes c =
    let n = c.copy_front-count.result in
    let next = c.args.self.now.next in
    let bytes = c.args.self.now.bytes.items in
    let given : take n c.copy_front-count.new.into ≡ take n (drop next bytes) =
    c.copy_front-count.ensures.bytes ∙ ap (λ l. take n (drop next l)) c.deref.ensures.value in
    sym (take-append-drop n (drop next bytes))
    ∙ ap (λ l. l ++ drop n (drop next bytes)) (sym given)
    ∙ ap (λ l. take n c.copy_front-count.new.into ++ l) (drop-drop n next bytes)
