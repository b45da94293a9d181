-- What the view of a packet shows of its kind.
use Rattle.std.proofs.Common.{◌≡◌, ◌⊎◌, ◌↔◌, ℕ, List, ap, sym, subst, inl, inr}
use Rattle.std.specs.Prelude.{Option, None, IsSome}
use Rattle.group_fields.specs.declared.header.Kind.TheVariants as kinds
use Rattle.wire_codec.specs.Packets.{IsPacket, Packet, Sealed, WelcomeRows}
use Rattle.wire_codec.specs.Views.{body_seen}
use Rattle.wire_codec.specs.declared.body.BodyView.{BodyView}
use Rattle.wire_codec.specs.declared.body.BodyView.TheVariants as bodies
use Rattle.wire_codec.specs.declared.body.CreateView.{CreateView}
use Rattle.wire_codec.specs.declared.body.WelcomeView.{WelcomeView}
use Rattle.wire_codec.specs.declared.parts.PartsView.{PartsView}
use Rattle.wire_codec.specs.declared.text.TextView.{TextView}
use Rattle.wire_codec.proofs.Joins.{history_of, text_of}

pub is_add : (p now : Packet) (bytes : List ℕ) → p ≡ now → IsPacket p bytes → (shown : Option WelcomeRows) → shown ≡ p.history
    → IsSome shown ↔ (now.header.kind ≡ kinds.Add)
is_add p now bytes same of shown is =
    subst (λ (h : Option WelcomeRows). IsSome h ↔ (now.header.kind ≡ kinds.Add)) (sym is)
    (subst (λ (q : Packet). IsSome p.history ↔ (q.header.kind ≡ kinds.Add)) same (history_of p bytes of))

pub is_text : (p now : Packet) (bytes : List ℕ) → p ≡ now → IsPacket p bytes → (shown : Option Sealed) → shown ≡ p.text
    → IsSome shown ↔ (now.header.kind ≡ kinds.Text)
is_text p now bytes same of shown is =
    subst (λ (t : Option Sealed). IsSome t ↔ (now.header.kind ≡ kinds.Text)) (sym is)
    (subst (λ (q : Packet). IsSome p.text ↔ (q.header.kind ≡ kinds.Text)) same (text_of p bytes of))

pub no_history : (b : BodyView) → ((x : CreateView) × (b ≡ bodies.Create x)) ⊎ (((x : PartsView) × (b ≡ bodies.Parts x)) ⊎ ((x : TextView) × (b ≡ bodies.Text x)))
    → None ≡ (body_seen b).history
no_history b (inl (x, e)) = ap (λ (v : BodyView). (body_seen v).history) (sym e)
no_history b (inr (inl (x, e))) = ap (λ (v : BodyView). (body_seen v).history) (sym e)
no_history b (inr (inr (x, e))) = ap (λ (v : BodyView). (body_seen v).history) (sym e)

pub no_text : (b : BodyView) → ((x : CreateView) × (b ≡ bodies.Create x)) ⊎ (((x : PartsView) × (b ≡ bodies.Parts x)) ⊎ ((x : WelcomeView) × (b ≡ bodies.Add x)))
    → None ≡ (body_seen b).text
no_text b (inl (x, e)) = ap (λ (v : BodyView). (body_seen v).text) (sym e)
no_text b (inr (inl (x, e))) = ap (λ (v : BodyView). (body_seen v).text) (sym e)
no_text b (inr (inr (x, e))) = ap (λ (v : BodyView). (body_seen v).text) (sym e)
