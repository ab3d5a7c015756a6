use Rattle.std.proofs.Common.{◌∙◌, ◌++◌, ◌∷◌, [], ap, Some}
use Rattle.ovs_worker.specs.Connections.{newest, out_of}
use Rattle.ovs_worker.proofs.Noted.{changed, unchanged}
use Rattle.ovs_worker.proofs.connections.Connections.note_came.Goals as goal

pub returns-clause-came : goal.returns-clause-came
returns-clause-came g c =
    let before = c.of.result.value in
    let reader = c.of-2.result.value in
    let writer = c.of-3.result.value in
    ap (λ states. out_of (newest states) c.args.key) (c.of-4.ensures ∙ c.push_as.ensures.pushed)
    ∙ ap (λ states. out_of (newest (states ++ (before.changes ++ (c.args.key, Some (reader, writer)) ∷ [], before.back) ∷ [])) c.args.key) c.new-states.ensures.none
    ∙ changed before.changes c.args.key (Some (reader, writer))
    ∙ ap (λ r. Some (r, writer)) c.of-2.ensures ∙ ap (λ w. Some (c.args.reader.now, w)) c.of-3.ensures

pub returns-clause-others : goal.returns-clause-others
returns-clause-others g c other differs =
    let before = c.of.result.value in
    let reader = c.of-2.result.value in
    let writer = c.of-3.result.value in
    ap (λ states. out_of (newest states) other) (c.of-4.ensures ∙ c.push_as.ensures.pushed)
    ∙ ap (λ states. out_of (newest (states ++ (before.changes ++ (c.args.key, Some (reader, writer)) ∷ [], before.back) ∷ [])) other) c.new-states.ensures.none
    ∙ unchanged before.changes c.args.key other (Some (reader, writer)) differs
    ∙ ap (λ notes. out_of notes other) c.of.ensures
