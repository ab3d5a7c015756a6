use Rattle.std.proofs.Common.{sym, ap, subst, ◌∙◌, ◌∷◌, [], ◌++◌, append_assoc, append-nil, All}
use Rattle.std.proofs.lemmas.List.Elements.{All-push}
use Rattle.ovs_worker.proofs.session_table.SessionTable.close.Goals as goal

pub loop-slot-preserved : goal.loop-slot-preserved
loop-slot-preserved g c =
    let at = c.loop-slot in (
      append_assoc at.yielded (_ ∷ []) _ ∙ ap (λ es. at.yielded ++ es) (sym c.in-Some.ensures.steps) ∙ at.invariant.0,
      All-push (λ e. g.V.SessionHost.is_silent c.end.new.host e.1.session.state) at.yielded _ (λ k d below. c.end.ensures.stays _ (at.invariant.1 k d below)) c.end.ensures.silent,
    )

pub returns : goal.returns
returns g c =
    let at = c.loop-slot in
    let all = sym (append-nil at.yielded) ∙ ap (λ es. at.yielded ++ es) (sym c.in-None.ensures.steps.0) ∙ at.invariant.0 in
    record { silent = subst (λ es. All (λ e. g.V.SessionHost.is_silent at.host e.1.session.state) es) all at.invariant.1 }
