use Rattle.std.proofs.Common.{rules}
use Rattle.std.specs.Prelude.{not}
use Rattle.std.proofs.lemmas.Fn.{filter_same}
use Rattle.ovs_lock_desk.specs.PendingSteal.{is_of}
use Rattle.ovs_lock_desk.proofs.pending_steal.drop_late.Goals as goal

pub returns : goal.returns
returns c = record {
  value = filter_same _ (λ e. not (is_of c.args.session e)) _ (λ x b f' t. search rules) _ _ c.retain.ensures.filtered;
}
