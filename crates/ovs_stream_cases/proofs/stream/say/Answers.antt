use Rattle.std.proofs.Common.{◌++◌, ℕ, List, sym, ◌∙◌, ap, subst, ◌∷◌, []}
use Rattle.ovs_stream_cases.specs.Said.{AreSaid}
use Rattle.ovs_stream_cases.proofs.SaidBytes.{said_more}
use Rattle.ovs_stream_cases.proofs.stream.say.Goals as goal

pub returns : goal.returns
returns c = record {
  more = λ said before.
      subst (AreSaid (said ++ c.args.message.now ∷ []))
      (sym (c.in_ok-extend_from_slice.ensures.items ∙ ap (λ (text : List ℕ). c.args.bytes.now.items ++ text) c.as_slice.ensures.value))
      (said_more said c.args.bytes.now.items c.in_ok-text.text.items c.args.message.now before c.in_ok-text.ensures.frame c.in_ok-text.ensures.says);
}
