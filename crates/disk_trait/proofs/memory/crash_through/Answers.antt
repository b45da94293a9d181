use Rattle.std.proofs.Common.{◌≡◌, ℕ, List, ◌++◌, length, take, drop, sym, ◌∙◌, ap, subst, arith, take-append-drop}
use Rattle.disk_trait.specs.declared.memory.Change.{Change}
use Rattle.disk_trait.specs.Replay.{overlay, overlay_inverted, AllWrites, Settles, crash_image, fresh, replayed}
use Rattle.disk_trait.proofs.Crash.{keeps_none, keeps_all, inverts_all, overlay_whole, kept_fits, inverted_fits, crash_image_more}
use Rattle.disk_trait.proofs.memory.crash_through.Goals as goal

-- the changes are those up to the last sync and the writes since
record Parts (changes kept pending : List Change) : Type 0 where
  whole : kept ++ pending ≡ changes
  settles : Settles kept
  only : AllWrites pending

parts : (changes kept pending : List Change) (n : ℕ) → kept ≡ take n changes → pending ≡ drop n changes
    → Settles (take n changes) → AllWrites (drop n changes) → Parts changes kept pending
parts changes kept pending n front back settles only = record {
  whole = (λ i. front i ++ back i) ∙ take-append-drop n changes;
  settles = subst Settles (sym front) settles;
  only = subst AllWrites (sym back) only;
}

pub replay-requires : goal.replay-requires
replay-requires c =
    let changes = c.args.changes.now in
    let split = c.split_at.ensures in
    let p = parts changes c.split_at.result.0.now c.split_at.result.1.now c.settled_changes.result split.front split.back c.settled_changes.ensures.settled c.settled_changes.ensures.pending in
    omega (arith, c.requires, kept_fits c.args.first.now.items changes c.split_at.result.0.now c.split_at.result.1.now p.whole p.settles p.only)

pub replay-requires-in-1 : goal.replay-requires-in-1
replay-requires-in-1 c =
    let changes = c.args.changes.now in
    let split = c.split_at.ensures in
    let p = parts changes c.split_at.result.0.now c.split_at.result.1.now c.settled_changes.result split.front split.back c.settled_changes.ensures.settled c.settled_changes.ensures.pending in
    let same = overlay_whole c.args.first.now.items changes c.split_at.result.0.now c.split_at.result.1.now p.whole p.settles p.only in
    omega (arith, c.requires, c.replay.ensures.room, ap length same, ap (λ (bytes : List ℕ). length (overlay bytes c.split_at.result.1.now)) c.replay.ensures.content)

pub replay_inverted-requires : goal.replay_inverted-requires
replay_inverted-requires c =
    let changes = c.args.changes.now in
    let split = c.split_at.ensures in
    let p = parts changes c.split_at.result.0.now c.split_at.result.1.now c.settled_changes.result split.front split.back c.settled_changes.ensures.settled c.settled_changes.ensures.pending in
    let same = inverted_fits c.args.first.now.items changes c.split_at.result.0.now c.split_at.result.1.now p.whole p.settles p.only in
    omega (arith, c.requires, c.replay.ensures.room, same, ap (λ (bytes : List ℕ). length (overlay_inverted bytes c.split_at.result.1.now)) c.replay.ensures.content)

pub returns-in-0-clause-content : goal.returns-in-0-clause-content
returns-in-0-clause-content c =
    let changes = c.args.changes.now in
    let split = c.split_at.ensures in
    let p = parts changes c.split_at.result.0.now c.split_at.result.1.now c.settled_changes.result split.front split.back c.settled_changes.ensures.settled c.settled_changes.ensures.pending in
    c.replay.ensures.content ∙ keeps_none c.args.first.now.items changes c.split_at.result.0.now c.split_at.result.1.now p.whole p.settles p.only
    ∙ ap (λ (image : ℕ). crash_image image (replayed (fresh c.args.first.now.items) changes)) (sym c.in-0.is)

pub returns-in-0-clause-length : goal.returns-in-0-clause-length
returns-in-0-clause-length c =
    let changes = c.args.changes.now in
    let split = c.split_at.ensures in
    let p = parts changes c.split_at.result.0.now c.split_at.result.1.now c.settled_changes.result split.front split.back c.settled_changes.ensures.settled c.settled_changes.ensures.pending in
    omega (arith, kept_fits c.args.first.now.items changes c.split_at.result.0.now c.split_at.result.1.now p.whole p.settles p.only, ap length c.replay.ensures.content)

pub returns-in-1-clause-content : goal.returns-in-1-clause-content
returns-in-1-clause-content c =
    let changes = c.args.changes.now in
    let split = c.split_at.ensures in
    let p = parts changes c.split_at.result.0.now c.split_at.result.1.now c.settled_changes.result split.front split.back c.settled_changes.ensures.settled c.settled_changes.ensures.pending in
    c.replay-in-1.ensures.content ∙ ap (λ (bytes : List ℕ). overlay bytes c.split_at.result.1.now) c.replay.ensures.content
    ∙ keeps_all c.args.first.now.items changes c.split_at.result.0.now c.split_at.result.1.now p.whole p.settles p.only
    ∙ ap (λ (image : ℕ). crash_image image (replayed (fresh c.args.first.now.items) changes)) (sym c.in-1.is)

pub returns-in-1-clause-length : goal.returns-in-1-clause-length
returns-in-1-clause-length c =
    let changes = c.args.changes.now in
    let split = c.split_at.ensures in
    let p = parts changes c.split_at.result.0.now c.split_at.result.1.now c.settled_changes.result split.front split.back c.settled_changes.ensures.settled c.settled_changes.ensures.pending in
    let same = overlay_whole c.args.first.now.items changes c.split_at.result.0.now c.split_at.result.1.now p.whole p.settles p.only in
    omega (arith, ap length same, ap length c.replay-in-1.ensures.content, ap (λ (bytes : List ℕ). length (overlay bytes c.split_at.result.1.now)) c.replay.ensures.content)

pub returns-in_default-clause-content : goal.returns-in_default-clause-content
returns-in_default-clause-content c =
    let changes = c.args.changes.now in
    let split = c.split_at.ensures in
    let p = parts changes c.split_at.result.0.now c.split_at.result.1.now c.settled_changes.result split.front split.back c.settled_changes.ensures.settled c.settled_changes.ensures.pending in
    c.replay_inverted.ensures.content ∙ ap (λ (bytes : List ℕ). overlay_inverted bytes c.split_at.result.1.now) c.replay.ensures.content
    ∙ inverts_all c.args.first.now.items changes c.split_at.result.0.now c.split_at.result.1.now p.whole p.settles p.only
    ∙ sym (crash_image_more c.args.image (replayed (fresh c.args.first.now.items) changes) (omega arith) (omega arith))

pub returns-in_default-clause-length : goal.returns-in_default-clause-length
returns-in_default-clause-length c =
    let changes = c.args.changes.now in
    let split = c.split_at.ensures in
    let p = parts changes c.split_at.result.0.now c.split_at.result.1.now c.settled_changes.result split.front split.back c.settled_changes.ensures.settled c.settled_changes.ensures.pending in
    let same = inverted_fits c.args.first.now.items changes c.split_at.result.0.now c.split_at.result.1.now p.whole p.settles p.only in
    omega (arith, same, ap length c.replay_inverted.ensures.content, ap (λ (bytes : List ℕ). length (overlay_inverted bytes c.split_at.result.1.now)) c.replay.ensures.content)
