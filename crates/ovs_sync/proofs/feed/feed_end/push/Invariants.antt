use Rattle.std.proofs.Common.{◌≡◌}
use Rattle.ovs_sync.specs.Feed.{IsEndOf, sent_by}
use Rattle.ovs_sync.proofs.feed.feed_end.push.Given as goal

abbrev pub invariant-loop : goal.invariant-loop
invariant-loop g l = IsEndOf g.K.FeedName.table l.number (sent_by l.fn.pass) l.pass × (l.item.from ≡ l.number) × (l.item.value ≡ l.fn.value)
