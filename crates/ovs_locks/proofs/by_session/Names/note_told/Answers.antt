use Rattle.std.proofs.Common.{false, rules}
use Rattle.std.specs.BTreeMap.{is_at}
use Rattle.std.specs.Cmp.Lexicographic.{slice_cmp}
use Rattle.std.specs.Ordering.{nat_cmp}
use Rattle.std.proofs.lemmas.Map.Made.{map_same_pairs, lookup-map_values}
use Rattle.ovs_locks.proofs.by_session.Names.note_told.Goals as goal

pub returns : goal.returns
returns c = rw (← c.self.view_is) (record {
  at = λ name. rw (map_same_pairs _ (λ _. false) _ (λ k v b w f' t. search rules) _ _ c.retain.ensures.filtered) (lookup-map_values (λ _. false) (is_at (slice_cmp nat_cmp name)) c.self.inside.names.entries);
})
