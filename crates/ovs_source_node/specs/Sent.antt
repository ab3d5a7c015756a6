-- What of a desk's links was sent.
use Rattle.std.specs.Prelude.{◌≡◌, ◌++◌, ℕ, List, length}
use Rattle.ovs_links.specs.declared.link.Link.{Link}
use Rattle.ovs_session.specs.Counting.{IsAfter}

-- these links were sent behind those that were sent before, and each was counted
pub record HasSent (old new : List Link) (before after : ℕ) : Type 0 where
  pub links : List Link
  pub sent : new ≡ old ++ links
  pub counted : IsAfter after before (length links)
