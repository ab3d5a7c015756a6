use Rattle.std.proofs.Common.{◌≡◌, ◌∙◌, sym, subst, codes, true, Bool, Some}
use Rattle.serde_json.specs.Data.{Data}
use Rattle.serde_json.specs.View.{view}
use Rattle.ovs_json.specs.Parts.{is_word}
use Rattle.ovs_wire.specs.declared.message.Message.{Message}
use Rattle.ovs_follow.specs.SchemaQuery.{IsSaid, Means, MeansIf}
use Rattle.ovs_follow.proofs.schema_query.hearing.reply_in.Goals as goal

pub returns-in_ok-reply_of-in-Reply : goal.returns-in_ok-reply_of-in-Reply
returns-in_ok-reply_of-in-Reply c =
    let reply = c.in_ok-reply_of-in-Reply.field-0 in
    let answers : true ≡ is_word (codes "schema") c.in-Reply.id =
    sym (subst (λ (id : Data). is_word (codes "schema") id ≡ true) c.as_value.ensures.value (sym c.is_word.ensures.value ∙ c.if-is_word.true)) in
    let means : Means c.in-Reply.result c.in-Reply.error reply =
    subst (λ (result : Data). Means result c.in-Reply.error reply) c.as_value-in-Reply.ensures.value
    (subst (λ (error : Data). Means (view c.as_value-in-Reply.result.now) error reply) c.as_value-in-Reply-2.ensures.value c.in_ok-reply_of-in-Reply.ensures.value) in
    record {
      value = subst (λ (m : Message). IsSaid m (Some reply)) (sym c.in-Reply.is)
          (subst (λ (b : Bool). MeansIf b c.in-Reply.result c.in-Reply.error (Some reply)) answers means);
    }
