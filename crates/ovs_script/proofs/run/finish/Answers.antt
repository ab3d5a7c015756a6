use Rattle.std.proofs.Common.{◌≡◌, ℕ, Option, List, [], ◌++◌, refl, inl}
use Rattle.ovs_script.specs.Rules.{Rules, AreLastWordsSoFar}
use Rattle.ovs_script.specs.Sending.{AppendsAllBut}
use Rattle.ovs_script.proofs.Sent.{on_err, unsent}
use Rattle.ovs_script.proofs.run.finish.Goals as goal

-- there are no last words yet, and the same waits
no_words : {S : Type 0} (rules : Rules S) (s : S) (writer : Option (List ℕ)) (waited waiting : List ℕ) → waiting ≡ waited
    → (words : List ℕ) × AreLastWordsSoFar rules s words × (others : List ℕ) × AppendsAllBut writer writer (waited ++ words) (waiting ++ others)
no_words rules s writer waited waiting same =
    let kept = unsent writer waited waiting [] same in
    ([], inl refl, kept.0, kept.1)

pub returns-in_err-closing-clause-begun : goal.returns-in_err-closing-clause-begun
returns-in_err-closing-clause-begun g c =
    on_err _ _ (no_words g.S.Script.rules c.args.script.now (g.W.Write.contents c.args.writer.now.device) c.args.pending.now c.args.pending.now refl)

pub returns-in_err-push-clause-begun : goal.returns-in_err-push-clause-begun
returns-in_err-push-clause-begun g c =
    on_err _ _ (no_words g.S.Script.rules c.args.script.now (g.W.Write.contents c.args.writer.now.device) c.args.pending.now c.push.new.self c.in_err-push.ensures.err)
