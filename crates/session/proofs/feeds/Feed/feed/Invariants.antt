use Rattle.std.proofs.Common.{◌≡◌, ℕ, length, drop}
use Rattle.session.proofs.Feeding.{Sofar}
use Rattle.session.proofs.feeds.Feed.feed.Given as goal

abbrev pub invariant-loop-after : goal.invariant-loop-after
invariant-loop-after l = (k : ℕ) × (l.rest ≡ drop k l.input) × Sofar l.initial.self l.self l.input l.initial.buffer l.buffer k l.written

abbrev pub decreases-loop-after : goal.decreases-loop-after
decreases-loop-after l = length l.rest
