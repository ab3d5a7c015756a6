use Rattle.std.proofs.Common.{Bool, cond, Err, ap, sym, ◌∙◌, true≢false}
use Rattle.ovs_upstream.specs.Hearing.{heard}
use Rattle.ovs_upstream.specs.declared.error.UpError.TheVariants.{BadId}
use Rattle.ovs_upstream.specs.declared.up_event.UpEvent.TheVariants.{Nothing}
use Rattle.ovs_upstream.specs.declared.up_session.SyncState.TheVariants.{At}
use Rattle.ovs_upstream.proofs.Copies.{empty_test, some_test}
use Rattle.ovs_upstream.proofs.up_session.unmoved.Goals as goal

pub returns-then-is_empty : goal.returns-then-is_empty
returns-then-is_empty c = record {
  value = sym (ap (λ (b : Bool). cond b (heard (At c.args.id) Nothing) (Err BadId)) (empty_test c.args.difference.now (c.is_empty.ensures.empty.0 c.if-is_empty.true)));
}

pub returns-else-is_empty : goal.returns-else-is_empty
returns-else-is_empty c = record {
  value = sym (ap (λ (b : Bool). cond b (heard (At c.args.id) Nothing) (Err BadId))
      (some_test c.args.difference.now (λ none. true≢false (sym (c.is_empty.ensures.empty.1 none) ∙ c.if-is_empty.false))));
}
