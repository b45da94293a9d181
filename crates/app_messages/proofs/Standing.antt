-- The texts of a place that was met are those of the member there.
use Rattle.std.proofs.Common.{◌≡◌, ◌∙◌, ℕ, List, Option, ap, sym}
use Rattle.kem_trait.specs.declared.kem.Kem.{Ghosts}
use Rattle.group_model.specs.Sets.{Bytes, Id}
use Rattle.group_model.specs.Primitives.{Primitives}
use Rattle.group_model.specs.Knowledge.{text_opened, text_sealed}
use Rattle.group_model.specs.Settings.{Owner}
use Rattle.member_book.specs.Books.{BookState}
use Rattle.secret_book.specs.HeldBooks.{HeldBook}
use Rattle.book_standing.specs.Standing.{CallsStand, HeldStands}
use Rattle.app_messages.specs.Texts.{TextsStand}

pub texts_stand : {K P : Type 0} (kem : Ghosts K P) (O : Owner) (ids : List Id) (p : ℕ) (b : HeldBook) (state : BookState)
    → HeldStands kem O ids b state → CallsStand kem O ids p b state → TextsStand kem O ids p b state
texts_stand kem O ids p b state h calls = record {
  sealed = λ text. ap (λ (k : Primitives). text_sealed k (b.chain p) text) (sym h.primitives)
      ∙ ap (λ (chain : Option Bytes). text_sealed O.primitives chain text) calls.chain;
  opened = λ bytes. ap (λ (k : Primitives). text_opened k (b.chain p) bytes) (sym h.primitives)
      ∙ ap (λ (chain : Option Bytes). text_opened O.primitives chain bytes) calls.chain;
  moves = calls.chains;
}
