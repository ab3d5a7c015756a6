use Rattle.std.proofs.Common.{◌≡◌, [], ◌∷◌, ◌++◌, take, ap, sym, ◌∙◌, arith, append-nil}
use Rattle.std.proofs.lemmas.Grind.{common_steps}
use Rattle.std.specs.List.{position}
use Rattle.ovs_script.specs.Lines.{kept}
use Rattle.ovs_script.proofs.Breaks.{is_break, unbroken_where_none, breaks_where_found}
use Rattle.ovs_script.proofs.lines.take_part.Goals as goal

pub returns-in_ok-add-in-None-clause-part : goal.returns-in_ok-add-in-None-clause-part
returns-in_ok-add-in-None-clause-part c =
    let window = c.args.window.now in
    let same = c.bytes-bytes.ensures.value in
    let gone : c.skip.new.self ≡ [] = grind (arith, common_steps) in (
      window,
      unbroken_where_none window (sym c.in-None.is ∙ c.first_break.ensures.value ∙ ap (position is_break) same),
      sym (ap (λ l. window ++ l) gone ∙ append-nil window),
      λ so_far is. c.in_ok-add-in-None.ensures.ok so_far is ∙ ap (λ l. kept (so_far ++ l)) same,
    )

pub returns-in_ok-add-in-Some-clause-part : goal.returns-in_ok-add-in-Some-clause-part
returns-in_ok-add-in-Some-clause-part c =
    let window = c.args.window.now in
    let at = c.in-Some.at in
    let same = c.bytes-bytes.ensures.value in
    let cut = breaks_where_found window at (sym c.in-Some.is ∙ c.first_break.ensures.value ∙ ap (position is_break) same) in (
      take at window,
      cut.0,
      cut.1 ∙ ap (λ l. take at window ++ 10 ∷ l) (sym c.skip-in-Some.ensures.rest),
      λ so_far is. c.in_ok-add-in-Some.ensures.ok so_far is ∙ ap (λ l. kept (so_far ++ take at l)) same,
    )
