use Rattle.std.proofs.Common.{ap, ap₂, ◌∙◌, ◌++◌, append_assoc}
use Rattle.std.proofs.lemmas.Result.{IfOk-weaker}
use Rattle.ovs_fold_script.specs.Closing.{stuck_line, chain_lines, database_line, database_of}
use Rattle.ovs_fold_script.proofs.closing.last_lines.Goals as goal

pub returns : goal.returns
returns c =
    let store = c.args.store.now in
    let stuck_text = stuck_line c.args.settled in
    let chain_text = chain_lines store in
    let database_text = database_line (database_of store) in
    let chain = c.as_str.ensures.value ∙ c.in_ok-chain.ensures.text in
    let with_chain = c.in_ok-push_str.ensures.bytes ∙ ap₂ (λ x y. x ++ y) c.in_ok-text.ensures.text chain in
    let whole = ap₂ (λ x y. x ++ y) with_chain (ap database_line c.database.ensures.value) ∙ append_assoc stuck_text chain_text database_text in
    record { text = IfOk-weaker c.with_database.result _ _ (λ text is. is ∙ whole) c.with_database.ensures.text }
