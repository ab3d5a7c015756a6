use Rattle.std.proofs.Common.{◌≡◌, ◌+◌, ◌≤◌, Some, None}
use Rattle.ovs_session.specs.declared.ended.Ended.{Ended}
use Rattle.ovs_session.specs.Moving.{Moved}
use Rattle.ovs_session.specs.Turning.{AreTurns, HasCountedAtMost, with_devices}
use Rattle.ovs_session.proofs.serving.serve.Given as goal

abbrev pub invariant-loop-turned : goal.invariant-loop-turned
invariant-loop-turned g l = record {
  moved : Moved g.S.Service.answers g.S.Service.tells l.fn.limits.most_unsent (g.R.Read.remaining l.fn.reader.device) (g.R.Read.remaining l.reader.device)
      (g.W.Write.contents l.fn.writer.device) (g.W.Write.contents l.writer.device) l.fn.session l.session;
  over : (e : Ended) → l.fn.session.ended ≡ Some e → (l.session ≡ l.fn.session) × (l.reader ≡ l.fn.reader) × (l.writer ≡ l.fn.writer);
  first : (e : Ended) → l.fn.session.ended ≡ Some e → l._turned ≡ 0;
  goes_on : l.fn.session.ended ≡ None → l.session.ended ≡ None;
  faultless : l.fn.session.ended ≡ None → (l.reader.failures ≡ l.fn.reader.failures) × (l.writer.failures ≡ l.fn.writer.failures);
  turns : l.fn.session.ended ≡ None
      → AreTurns g.S.Service.answers g.S.Service.tells g.S.Service.may_answer g.S.Service.is_answered g.S.Service.may_tell l.fn.limits.most_unsent l._turned
      (with_devices l.fn.session l.fn.reader l.fn.writer) (with_devices l.session l.reader l.writer);
  counted : HasCountedAtMost l._turned (with_devices l.fn.session l.fn.reader l.fn.writer) (with_devices l.session l.reader l.writer);
  spent : l.session.counts.turns ≤ l.fn.session.counts.turns + l._turned;
}
