use Rattle.std.proofs.Common.{◌≡◌, List, ℕ}
use Rattle.mail_trait.specs.Folder.{IsTemporary}
use Rattle.mail_trait.proofs.folder.make_temporary.Given as goal

-- nothing has changed but temporary paths, and no call has failed
abbrev pub invariant-loop-number : goal.invariant-loop-number
invariant-loop-number g l = record {
  others : g.C.FileCalls.told → (other : List ℕ) → (IsTemporary l.folder other → ⊥) → g.C.FileCalls.file_at l.calls other ≡ g.C.FileCalls.file_at l.initial.calls other;
  calm : g.C.FileCalls.failures l.calls ≡ g.C.FileCalls.failures l.initial.calls;
}
