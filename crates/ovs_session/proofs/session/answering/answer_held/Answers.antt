use Rattle.std.proofs.Common.{rules, ◌≡◌, ℕ, List, Some, None, sym, ◌∙◌, subst, refl}
use Rattle.ovs_session.proofs.Served.{answered_at, still_at, changed}
use Rattle.ovs_session.proofs.session.answering.answer_held.Goals as goal

pub returns-in-None-clause-worked : goal.returns-in-None-clause-worked
returns-in-None-clause-worked g c limit below =
    let held : c.session.inside.held ≡ None = search rules in
    still_at g.S.Service.answers g.S.Service.tells limit _ _ _ c.session.view_is
    (changed _ _ _ _ _ _ _ _ _ _ _ (c.take.ensures.after ∙ sym held) refl refl)

pub returns-in-Ok-clause-worked : goal.returns-in-Ok-clause-worked
returns-in-Ok-clause-worked g c limit below =
    let said = c.in-Ok.ensures.ok in
    let t = said.0 in
    let m = c.in-Some.message in
    let held : c.session.inside.held ≡ Some m = search rules in
    let answered = subst (λ (x : List ℕ). g.S.Service.answers c.session.inside.state x t c.answer.new.session) c.as_slice.ensures.value said.1 in
    answered_at g.S.Service.answers g.S.Service.tells limit _ _ _ m t c.answer.new.session c.session.view_is held answered
    (changed _ _ _ _ _ _ _ _ _ _ _ c.take.ensures.after refl said.2) below

pub returns-in-Err-clause-worked : goal.returns-in-Err-clause-worked
returns-in-Err-clause-worked g c limit below =
    let held : c.session.inside.held ≡ Some c.in-Some.message = search rules in
    let same = c.in-Err.ensures.err in
    still_at g.S.Service.answers g.S.Service.tells limit _ _ _ c.session.view_is
    (changed _ _ _ _ _ _ _ _ _ _ _ (sym held) same.0 same.1)
