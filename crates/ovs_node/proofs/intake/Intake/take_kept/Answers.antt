use Rattle.std.proofs.Common.{◌≡◌, ◌∷◌, ◌++◌, [], ◌+◌, Some, None, Ok, Err, refl, ap, sym, subst, ◌∙◌, arith}
use Rattle.ovs_node.specs.Ledger.{IsAccountOf, counted, forks_in, shorts_in}
use Rattle.ovs_node.proofs.Takings.{took, forked, crowded, account_moved, handed_back, same_schema, tells_none}
use Rattle.ovs_node.proofs.intake.Intake.take_kept.Goals as goal

pub take-requires-2 : goal.take-requires-2
take-requires-2 g c = record { of_tables = rw c.self.invariant.0 c.into_link.ensures.of_tables }

pub invariant_of-self-in-Ok : goal.invariant_of-self-in-Ok
invariant_of-self-in-Ok g c =
    let i = c.self.inside in
    let link = c.into_link.result in
    let kept : i.kept ≡ Some link = sym c.take.ensures.value ∙ c.in-Some.is ∙ ap Some (sym c.into_link.ensures.value) in (
      ap (λ x. x.schema) c.in-Ok.ensures.after ∙ same_schema i.store link (Ok c.in-Ok.field-0) ∙ c.self.invariant.0,
      took _ link c.self.invariant.1 kept _ c.in-Ok.field-0 c.head.ensures.store c.in-Ok.ensures.answer c.in-Ok.ensures.after refl refl c.take.ensures.after c.reserve.ensures.items refl refl,
    )

pub returns-in-Ok-clause-told : goal.returns-in-Ok-clause-told
returns-in-Ok-clause-told g c = rw (← c.self.view_is) (tells_none _ _ c.self.invariant.1 c.reserve.ensures.items refl refl)

pub invariant_of-self-in-Err-Fork : goal.invariant_of-self-in-Err-Fork
invariant_of-self-in-Err-Fork g c =
    let i = c.self.inside in
    let f = c.in-Err-Fork in
    let link = c.into_link.result in
    let kept : i.kept ≡ Some link = sym c.take.ensures.value ∙ c.in-Some.is ∙ ap Some (sym c.into_link.ensures.value) in
    let n = c.saturating_add-self-inside in
    let untold = c.push_reserved.ensures.items ∙ ap (λ rs. rs ++ c.refused.result ∷ []) c.reserve.ensures.items ∙ ap (λ x. i.refused.items ++ x ∷ []) c.refused.ensures.value in (
      ap (λ x. x.schema) f.ensures.after ∙ c.self.invariant.0,
      forked _ link c.self.invariant.1 kept _ f.link f.field-0-1 f.held_prev f.held_id f.field-0 f.field-0-is f.ensures.answer f.ensures.after refl refl c.take.ensures.after untold (omega (arith, n.ensures)) refl,
    )

pub returns-in-Err-Fork-clause-told : goal.returns-in-Err-Fork-clause-told
returns-in-Err-Fork-clause-told g c =
    let i = c.self.inside in
    let n = c.saturating_add-self-inside in
    let was = c.self.invariant.1.short in
    rw (← c.self.view_is) (record {
      more = c.refused.result ∷ [];
      untold = c.push_reserved.ensures.items ∙ ap (λ rs. rs ++ c.refused.result ∷ []) c.reserve.ensures.items;
      forks = (let told = ap (λ r. forks_in (r ∷ [])) c.refused.ensures.value in omega (arith, n.ensures, told));
      short = (let told = ap (λ r. shorts_in (r ∷ [])) c.refused.ensures.value in omega (arith, was, told));
    })

pub invariant_of-self-in-Err-Full : goal.invariant_of-self-in-Err-Full
invariant_of-self-in-Err-Full g c =
    let i = c.self.inside in
    let f = c.in-Err-Full in
    let link = c.into_link.result in
    let kept : i.kept ≡ Some link = sym c.take.ensures.value ∙ c.in-Some.is ∙ ap Some (sym c.into_link.ensures.value) in
    let n = c.saturating_add-self-inside-in-Err-Full in
    let push = c.push_reserved-in-Err-Full in
    let untold = push.ensures.items ∙ ap (λ rs. rs ++ c.refused-in-Err-Full.result ∷ []) c.reserve.ensures.items ∙ ap (λ x. i.refused.items ++ x ∷ []) c.refused-in-Err-Full.ensures.value in (
      ap (λ x. x.schema) f.ensures.after ∙ c.self.invariant.0,
      crowded _ link c.self.invariant.1 kept _ f.link f.field-0 f.field-0-is f.ensures.answer f.ensures.after refl refl c.take.ensures.after untold refl (omega (arith, n.ensures)),
    )

pub returns-in-Err-Full-clause-told : goal.returns-in-Err-Full-clause-told
returns-in-Err-Full-clause-told g c =
    let i = c.self.inside in
    let n = c.saturating_add-self-inside-in-Err-Full in
    let was = c.self.invariant.1.forks in
    rw (← c.self.view_is) (record {
      more = c.refused-in-Err-Full.result ∷ [];
      untold = c.push_reserved-in-Err-Full.ensures.items ∙ ap (λ rs. rs ++ c.refused-in-Err-Full.result ∷ []) c.reserve.ensures.items;
      forks = (let told = ap (λ r. forks_in (r ∷ [])) c.refused-in-Err-Full.ensures.value in omega (arith, was, told));
      short = (let told = ap (λ r. shorts_in (r ∷ [])) c.refused-in-Err-Full.ensures.value in omega (arith, n.ensures, told));
    })

pub new-requires : goal.new-requires
new-requires g c =
    let f = c.in-Err-NoMemory in
    let same = handed_back c.self.inside.store.links c.into_link.result f.link f.field-0 f.field-0-is f.ensures.answer in
    record { of_tables = rw same c.into_link.ensures.of_tables }
