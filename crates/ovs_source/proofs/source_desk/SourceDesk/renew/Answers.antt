use Rattle.std.proofs.Common.{[], ◌∷◌, ◌++◌, refl, ◌∙◌, ap, subst}
use Rattle.std.specs.Prelude.{Some}
use Rattle.ovs_source.specs.Renewing.{Renews}
use Rattle.ovs_source.specs.SourceDesk.{SourceDeskValue}
use Rattle.ovs_source.proofs.source_desk.SourceDesk.renew.Goals as goal

pub returns-clause-renewed : goal.returns-clause-renewed
returns-clause-renewed c =
    let e : SourceDeskValue = record { source = c.trim.new.self; locks = c.self.inside.locks; fresh = c.self.inside.fresh; next = c.next_after-self-inside.result; unpublished = c.push_back_reserved.new.self.items; renewal = Some c.from.result } in
    subst (λ (d : SourceDeskValue). Renews d c.args.renewal c.args.id e) c.self.view_is (record {
      link = c.in_ok-link.link;
      source = c.in_ok-link.ensures.outcome;
      unpublished = c.push_back_reserved.ensures.items ∙ ap (λ xs. xs ++ c.in_ok-link.link ∷ []) c.reserve.ensures.items;
      next = c.next_after-self-inside.ensures.value;
      renewal = ap Some c.from.ensures.value;
      locks = refl;
      fresh = refl;
    })
