use Rattle.std.proofs.Common.{refl, subst, sym, rules}
use Rattle.std.proofs.lemmas.Map.Made.{map_same_pairs}
use Rattle.ovs_locks.specs.Lock.{is_idle, after_telling}
use Rattle.ovs_locks.specs.LockTable.{NoneIdle}
use Rattle.ovs_locks.proofs.ByName.{none_idle_map}
use Rattle.ovs_locks.proofs.Idle.{telling_idle}
use Rattle.ovs_locks.proofs.Tables.{lock_at-map, all_told}
use Rattle.ovs_locks.proofs.lock_map.LockMap.note_told.Goals as goal

pub returns-clause-after : goal.returns-clause-after
returns-clause-after c = rw (← c.self.view_is) (λ name. rw (map_same_pairs _ (after_telling c.args.session) _ (λ k v b w f' t. search rules) _ _ c.retain.ensures.filtered) (lock_at-map (after_telling c.args.session) refl name c.self.inside.locks.entries))

pub returns-clause-nothing : goal.returns-clause-nothing
returns-clause-nothing c = rw (map_same_pairs _ (after_telling c.args.session) _ (λ k v b w f' t. search rules) _ _ c.retain.ensures.filtered) (all_told c.args.session c.self.inside.locks.entries)

pub returns-clause-by_name : goal.returns-clause-by_name
returns-clause-by_name c = rw (← c.self.view_is) c.retain.ensures.was_ordered

pub invariant_of-self : goal.invariant_of-self
invariant_of-self c =
    let told = map_same_pairs _ (after_telling c.args.session) _ (λ k v b w f' t. search rules) _ _ c.retain.ensures.filtered in
    (c.retain.ensures.ordered, subst NoneIdle (sym told) (none_idle_map is_idle (after_telling c.args.session) (telling_idle c.args.session) c.self.inside.locks.entries c.self.invariant.1))

pub returns-clause-none_idle : goal.returns-clause-none_idle
returns-clause-none_idle c =
    let told = map_same_pairs _ (after_telling c.args.session) _ (λ k v b w f' t. search rules) _ _ c.retain.ensures.filtered in
    subst NoneIdle (sym told) (none_idle_map is_idle (after_telling c.args.session) (telling_idle c.args.session) c.self.inside.locks.entries c.self.invariant.1)
