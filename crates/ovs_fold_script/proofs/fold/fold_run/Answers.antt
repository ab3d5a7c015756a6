use Rattle.std.proofs.Common.{subst, List, ℕ}
use Rattle.std.specs.Prelude.{IfSome, option_and_then}
use Rattle.ovs_wire.specs.Counted.{Counting}
use Rattle.ovs_script.specs.Sending.{AppendsBeginning}
use Rattle.ovs_script.specs.Texts.{Texts, texts_of, IsOutput, IsOutputSoFar, AreFirstAnswers, HearsAllRead}
use Rattle.ovs_script.specs.Said.{WritesOutput, WritesSaid}
use Rattle.ovs_fold_script.specs.declared.fold.Fold.{Fold}
use Rattle.ovs_fold_script.specs.Folding.{fold_rules}
use Rattle.ovs_fold_script.proofs.Passing.{not_read}
use Rattle.ovs_fold_script.proofs.Written.{whole, status, begun}
use Rattle.ovs_fold_script.proofs.fold.fold_run.Goals as goal

pub returns-clause-whole : goal.returns-clause-whole
returns-clause-whole g c =
    let texts = texts_of (g.R.Read.remaining c.args.reader.now.device) (λ (m : Counting _). g.M.Read.remaining m.device) c.args.merge.now in
    let before = g.W.Write.contents c.args.writer.now.device in
    let now = g.W.Write.contents c.run_script-end.new.writer.device in
    let wrote : Fold → Type 0 = λ f. IfSome texts (λ (t : Texts). WritesOutput c.run_script-end.result (IsOutput fold_rules f t) before now) in
    whole before now texts c.run_script-end.result (subst wrote c.new-fold.ensures.value c.run_script-end.ensures.whole)

pub returns-clause-status : goal.returns-clause-status
returns-clause-status g c =
    let texts = texts_of (g.R.Read.remaining c.args.reader.now.device) (λ (m : Counting _). g.M.Read.remaining m.device) c.args.merge.now in
    let before = g.W.Write.contents c.args.writer.now.device in
    let now = g.W.Write.contents c.run_script-end.new.writer.device in
    let wrote : Fold → Type 0 = λ f. IfSome texts (λ (t : Texts). WritesOutput c.run_script-end.result (IsOutput fold_rules f t) before now) in
    status before now texts c.run_script-end.result (subst wrote c.new-fold.ensures.value c.run_script-end.ensures.whole)

pub returns-clause-begun : goal.returns-clause-begun
returns-clause-begun g c =
    let texts = texts_of (g.R.Read.remaining c.args.reader.now.device) (λ (m : Counting _). g.M.Read.remaining m.device) c.args.merge.now in
    let before = g.W.Write.contents c.args.writer.now.device in
    let now = g.W.Write.contents c.run_script-end.new.writer.device in
    let so_far : Fold → Type 0 = λ f. IfSome texts (λ (t : Texts). (output : List ℕ) × IsOutputSoFar fold_rules f t output × AppendsBeginning before now output) in
    begun before now texts (subst so_far c.new-fold.ensures.value c.run_script-end.ensures.begun)

pub returns-clause-said : goal.returns-clause-said
returns-clause-said g c =
    let texts = texts_of (g.R.Read.remaining c.args.reader.now.device) (λ (m : Counting _). g.M.Read.remaining m.device) c.args.merge.now in
    let last = c.run_script-end.new.script in
    let left = g.R.Read.remaining c.run_script-end.new.reader.device in
    let left_behind = option_and_then (λ (m : Counting _). g.M.Read.remaining m.device) c.run_script-end.new.second in
    let said : Fold → Type 0 = λ f. IfSome texts (λ (t : Texts). WritesSaid c.run_script-end.result (HearsAllRead fold_rules f last t left left_behind) (AreFirstAnswers fold_rules f t)
    (g.W.Write.contents c.args.writer.now.device) (g.W.Write.contents c.run_script-end.new.writer.device)) in
    (last, subst said c.new-fold.ensures.value c.run_script-end.ensures.said)

pub returns-clause-unread : goal.returns-clause-unread
returns-clause-unread g c =
    not_read (g.R.Read.remaining c.args.reader.now.device) _ c.new-fold.result c.new-fold.ensures.value c.run_script-end.ensures.unread.behind
