use Rattle.std.proofs.Common.{◌≡◌, ◌∙◌, ◌+◌, ◌/◌, ap, arith, length, take}
use Rattle.std.proofs.lemmas.List.{length-take}
use Rattle.std.proofs.Math.Path.{fun_ext}
use Rattle.ntru_model.proofs.Computed.{bytes_draw_from}
use Rattle.ntru_prime.proofs.draws.draw_bytes.Goals as goal

pub returns-clause-drawn : goal.returns-clause-drawn
returns-clause-drawn g c =
    let n = length c.args.into.now in
    let taken = length-take ((length c.args.into.now + 3) / 4) c.blank_words-drawn.result in
    let room = c.blank_words-drawn.ensures in
    let len : length c.draw_words.new.into ≡ (length c.args.into.now + 3) / 4 = omega (arith, taken, room, c.draw_words.auto.into) in
    c.copy_from_slice.ensures.after
    ∙ ap (take (length c.args.into.now)) c.write_words.ensures
    ∙ bytes_draw_from (length c.args.into.now) (g.V.Words.upcoming c.args.words.now) c.draw_words.new.into len (λ k lt. c.draw_words.ensures.drawn k (omega (arith, taken, room)))

pub returns-clause-left : goal.returns-clause-left
returns-clause-left g c =
    let taken = length-take ((length c.args.into.now + 3) / 4) c.blank_words-drawn.result in
    let room = c.blank_words-drawn.ensures in
    let count : length (take ((length c.args.into.now + 3) / 4) c.blank_words-drawn.result) ≡ (length c.args.into.now + 3) / 4 = omega (arith, taken, room) in
    fun_ext (λ n. c.draw_words.ensures.left n ∙ ap (λ m. g.V.Words.upcoming c.args.words.now (m + n)) count)
