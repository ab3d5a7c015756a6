use Rattle.std.proofs.Common.{◌≡◌, ◌<◌, ◌++◌, ℕ, List, length, take, sym, ap, subst, ◌∙◌, arith}
use Rattle.std.specs.List.{AllByRecursion}
use Rattle.std.proofs.lemmas.List.{drop_more}
use Rattle.ovs_query.specs.Updates.{AreTouchedOf}
use Rattle.ovs_wire.specs.declared.message.Message.{Message}
use Rattle.ovs_reader.specs.Telling.{AllTold, told, notices, AreToldReadably}
use Rattle.ovs_reader.proofs.Fitting.{all_drop}
use Rattle.ovs_reader.proofs.Memory.{on_err}
use Rattle.ovs_reader.proofs.Parts.{told_more, none_before, unread_before, read_more, below_more, reached_is}
use Rattle.ovs_reader.proofs.telling.told_some.Goals as goal

pub loop-number-init : goal.loop-number-init
loop-number-init c =
    let n = c.told_to_all-number.result in
    let monitors = c.args.monitors.now in
    let steps = c.args.steps.now in
    let none = none_before monitors n n steps c.told_to_all-number.ensures.least (omega arith) c.told_to_all-number.ensures.within in
    record {
      so_far = c.new-messages.ensures.items ∙ sym none;
      few = λ k less. let before = none_before monitors n k steps c.told_to_all-number.ensures.least (omega (arith, less)) c.told_to_all-number.ensures.within in
          omega (arith, c.requires.some, ap length before);
      readable = unread_before monitors n steps c.told_to_all-number.ensures.least c.told_to_all-number.ensures.within;
      tables = (c.requires.same_tables.0, c.requires.same_tables.1, all_drop (λ s. AreTouchedOf c.requires.same_tables.0 s.applied) n steps c.requires.same_tables.2);
    }

pub loop-number-preserved : goal.loop-number-preserved
loop-number-preserved c =
    let i = c.loop-number.number in
    let monitors = c.args.monitors.now in
    let steps = c.args.steps.now in
    let s = c.index-steps-number.result in
    let so_far = c.loop-number.invariant.so_far in
    let tables = c.loop-number.invariant.tables in
    record {
      so_far = c.in_ok-tell.ensures.value ∙ ap (λ (ms : List Message). ms ++ notices monitors (i, s)) so_far
          ∙ sym (told_more monitors steps i s c.loop-number-test.true c.index-steps-number.is);
      few = below_more (λ k. length (told monitors (take k steps))) c.args.most i c.loop-number.invariant.few
          (omega (arith, c.if-len-most.false, c.len.ensures, ap length so_far));
      readable = read_more monitors steps i s c.loop-number-test.true c.index-steps-number.is c.loop-number.invariant.readable c.in_ok-tell.ensures.readable;
      tables = (
        tables.0,
        tables.1,
        (subst (λ ss. AllByRecursion (λ t. AreTouchedOf tables.0 t.applied) ss) (drop_more steps i s c.loop-number-test.true) tables.2).1,
      );
    }

pub returns-then-len-most-clause-reached : goal.returns-then-len-most-clause-reached
returns-then-len-most-clause-reached c =
    let so_far = c.loop-number.invariant.so_far in
    reached_is c.args.most c.args.monitors.now c.args.steps.now c.loop-number.number (omega (arith, c.loop-number-test.true)) c.loop-number.invariant.few
    (λ less. omega (arith, c.if-len-most.true, c.len.ensures, ap length so_far))

pub returns-then-len-most-clause-value : goal.returns-then-len-most-clause-value
returns-then-len-most-clause-value c =
    c.loop-number.invariant.so_far ∙ ap (λ k. told c.args.monitors.now (take k c.args.steps.now)) (returns-then-len-most-clause-reached c)

pub returns-then-len-most-clause-readable : goal.returns-then-len-most-clause-readable
returns-then-len-most-clause-readable c =
    subst (λ k. AreToldReadably c.args.monitors.now (take k c.args.steps.now)) (returns-then-len-most-clause-reached c) c.loop-number.invariant.readable

pub returns-clause-reached : goal.returns-clause-reached
returns-clause-reached c =
    let n = length c.args.steps.now in
    let end : c.loop-number.number ≡ n = omega (arith, c.loop-number-test.false, c.loop-number.auto.number-end c.told_to_all-number.ensures.within) in
    reached_is c.args.most c.args.monitors.now c.args.steps.now n (omega arith)
    (subst (λ k. (j : ℕ) → j < k → length (told c.args.monitors.now (take j c.args.steps.now)) < c.args.most) end c.loop-number.invariant.few)
    (λ less. absurd (omega (arith, less)))

pub returns-clause-value : goal.returns-clause-value
returns-clause-value c =
    let end : c.loop-number.number ≡ length c.args.steps.now = omega (arith, c.loop-number-test.false, c.loop-number.auto.number-end c.told_to_all-number.ensures.within) in
    c.loop-number.invariant.so_far ∙ ap (λ k. told c.args.monitors.now (take k c.args.steps.now)) (end ∙ returns-clause-reached c)

pub returns-clause-readable : goal.returns-clause-readable
returns-clause-readable c =
    let end : c.loop-number.number ≡ length c.args.steps.now = omega (arith, c.loop-number-test.false, c.loop-number.auto.number-end c.told_to_all-number.ensures.within) in
    subst (λ k. AreToldReadably c.args.monitors.now (take k c.args.steps.now)) (end ∙ returns-clause-reached c) c.loop-number.invariant.readable

pub returns-in_err-tell-clause-memory : goal.returns-in_err-tell-clause-memory
returns-in_err-tell-clause-memory c =
    on_err (¬ (AllTold (length c.args.steps.now) c.args.monitors.now)) c.from_residual.result
    (λ all. omega (arith, c.told_to_all-number.ensures.all all, c.loop-number.auto.number, c.loop-number-test.true))
