use Rattle.std.proofs.Common.{sym, ap, ◌∙◌}
use Rattle.std.specs.Option.{option_copied}
use Rattle.ovs_data.specs.Datum.{value_at}
use Rattle.ovs_data.proofs.Differences.{pair_value, value_at-at}
use Rattle.ovs_data.proofs.datum.pairs.Pairs.get.Goals as goal

pub returns-in_err-find : goal.returns-in_err-find
returns-in_err-find c =
    let key = c.args.key.now in
    record {
      value = ap option_copied c.from_residual.ensures ∙ sym (ap (λ o. pair_value (option_copied o)) c.in_err-find.was) ∙ ap pair_value c.find.ensures.value
          ∙ sym (value_at-at key c.deref.result.now) ∙ ap (value_at key) (c.deref.ensures.value ∙ c.self.view_is);
    }

pub returns : goal.returns
returns c =
    let key = c.args.key.now in
    record {
      value = sym (ap (λ o. pair_value (option_copied o)) c.in_ok-find.was) ∙ ap pair_value c.find.ensures.value ∙ sym (value_at-at key c.deref.result.now)
          ∙ ap (value_at key) (c.deref.ensures.value ∙ c.self.view_is);
    }
