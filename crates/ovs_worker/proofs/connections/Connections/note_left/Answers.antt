use Rattle.std.proofs.Common.{◌∙◌, ◌++◌, ◌∷◌, [], ap, None, option_to_list}
use Rattle.ovs_worker.specs.Connections.{newest, out_of}
use Rattle.ovs_worker.proofs.Noted.{changed, unchanged}
use Rattle.ovs_worker.proofs.connections.Connections.note_left.Goals as goal

pub returns-clause-gone : goal.returns-clause-gone
returns-clause-gone g c =
    let before = c.of.result.value in
    ap (λ states. out_of (newest states) c.args.key) (c.of-2.ensures ∙ c.push_as.ensures.pushed)
    ∙ ap (λ states. out_of (newest (states ++ (before.changes ++ (c.args.key, None) ∷ [], before.back ++ option_to_list (out_of before c.args.key)) ∷ [])) c.args.key) c.new-states.ensures.none
    ∙ changed before.changes c.args.key None

pub returns-clause-others : goal.returns-clause-others
returns-clause-others g c other differs =
    let before = c.of.result.value in
    ap (λ states. out_of (newest states) other) (c.of-2.ensures ∙ c.push_as.ensures.pushed)
    ∙ ap (λ states. out_of (newest (states ++ (before.changes ++ (c.args.key, None) ∷ [], before.back ++ option_to_list (out_of before c.args.key)) ∷ [])) other) c.new-states.ensures.none
    ∙ unchanged before.changes c.args.key other None differs
    ∙ ap (λ notes. out_of notes other) c.of.ensures

pub returns-clause-back : goal.returns-clause-back
returns-clause-back g c =
    let before = c.of.result.value in
    ap (λ states. (newest states).back) (c.of-2.ensures ∙ c.push_as.ensures.pushed)
    ∙ ap (λ states. (newest (states ++ (before.changes ++ (c.args.key, None) ∷ [], before.back ++ option_to_list (out_of before c.args.key)) ∷ [])).back) c.new-states.ensures.none
    ∙ ap (λ notes. notes.back ++ option_to_list (out_of notes c.args.key)) c.of.ensures
