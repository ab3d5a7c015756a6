-- What a node says at its end.
use Rattle.std.specs.Prelude.{◌≡◌, ◌↔◌, ℕ, Bool, List, IsTrue}
use Rattle.ovs_node_threads.specs.Reporting.{IsReportOf}
use Rattle.ovs_fold_script.specs.Closing.{chain_lines}
use Rattle.ovs_links.specs.Store.{Stored}
use Rattle.ovs_links.specs.declared.answer.Settled.{Settled}
use Rattle.ovs_links.specs.declared.link.Link.{Link}

-- a node has run to which these lists of links were sent: the text tells of the chain that it is left with, and it is whole where it refused
-- none of them
pub record IsEndOf (text : List ℕ) (is_whole : Bool) : Type 0 where
  pub sent : List (List Link)
  pub store : Stored
  pub settled : Settled
  pub forks : ℕ
  pub short : ℕ
  pub dropped : ℕ
  pub report : IsReportOf sent store settled forks short dropped
  pub lines : text ≡ chain_lines store
  pub whole : IsTrue is_whole ↔ ((forks ≡ 0) × (short ≡ 0))
